use Rattle.std.proofs.Common.{◌≡◌, Bool, rules, ap, ◌∙◌}
use Rattle.std.specs.List.{filter}
use Rattle.std.proofs.lemmas.Fn.{filter_same}
use Rattle.store_model.specs.Paths.{Name}
use Rattle.dump_diff.specs.declared.difference.Difference.{Difference}
use Rattle.dump_diff.specs.Scripts.{sides_of}
use Rattle.dump_diff.specs.Gains.{takes, changes_by, has_path}
use Rattle.dump_diff.proofs.Counting.{counts_of, told_sides, changed_marks}
use Rattle.dump_diff.proofs.differences.Differences.leave_losses.Goals as goal

pub returns-clause-attributes : goal.returns-clause-attributes
returns-clause-attributes c =
    let taken : Name → Bool = takes c.args.losses.now in
    let kept : c.retain.new.self.items ≡ filter (counts_of taken) c.args.self.now.attributes.items =
    filter_same _ (counts_of taken) _ (λ x b f' called. search rules)
    c.args.self.now.attributes.items c.retain.new.self.items c.retain.ensures.filtered in
    ap sides_of kept ∙ told_sides taken c.args.self.now.attributes.items

pub returns-clause-paths : goal.returns-clause-paths
returns-clause-paths c sorted =
    let taken : Name → Bool = takes c.args.losses.now in
    let kept : c.retain.new.self.items ≡ filter (counts_of taken) c.args.self.now.attributes.items =
    filter_same _ (counts_of taken) _ (λ x b f' called. search rules)
    c.args.self.now.attributes.items c.retain.new.self.items c.retain.ensures.filtered in
    changed_marks c.args.losses.now.paths taken c.args.self.now.attributes.items c.retain.new.self.items
    c.args.self.now.paths.items c.retain-2.new.self.items kept sorted
    (λ rising. filter_same _
    (λ (d : Difference). changes_by c.args.losses.now.paths d.mark (has_path c.retain.new.self.items d.path)) _
    (λ x b f' called. search rules) c.args.self.now.paths.items c.retain-2.new.self.items c.retain-2.ensures.filtered)
