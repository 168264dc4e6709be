use Rattle.std.proofs.Common.{◌≡◌, rules, List, ◌++◌, ap, ◌∙◌}
use Rattle.std.specs.List.{filter}
use Rattle.std.proofs.lemmas.Fn.{filter_same}
use Rattle.dump_streams.specs.Dumps.{DumpStep}
use Rattle.dump_diff.specs.Scripts.{is_addition}
use Rattle.dump_diff.proofs.keeping.Keeping.settle.Goals as goal

pub returns-clause-settled : goal.returns-clause-settled
returns-clause-settled c rising =
    let kept : c.retain.new.self.items ≡ filter (is_addition c.args.found.now) c.args.self.now.own.items =
    filter_same _ (is_addition c.args.found.now) _ (λ x b f' called. search rules) c.args.self.now.own.items
    c.retain.new.self.items c.retain.ensures.filtered in
    record {
      steps = c.in_ok-append.ensures.items ∙ ap (λ (xs : List DumpStep). c.args.self.now.steps.items ++ xs) kept;
      own = c.in_ok-append.ensures.other_items;
    }
