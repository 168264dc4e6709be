use Rattle.std.proofs.Common.{ap₂, ◌∙◌}
use Rattle.std.specs.Cmp.Lexicographic.{slice_cmp}
use Rattle.std.specs.Ordering.{nat_cmp}
use Rattle.store_model.proofs.PathsLemmas.{place_of_path, order_of_fields}
use Rattle.path_keys.proofs.NameBytes.{field_of_view}
use Rattle.path_keys.proofs.paths.PathOrd.cmp.Goals as goal

pub returns-clause-value : goal.returns-clause-value
returns-clause-value c =
    let ours = field_of_view _ _ _ c.self.invariant c.self.view_is in
    let others = field_of_view _ _ _ c.other.invariant c.other.view_is in
    c.cmp.ensures ∙ ap₂ (slice_cmp nat_cmp) ours.bytes_are others.bytes_are
    ∙ order_of_fields c.args.self.now c.args.other.now (place_of_path c.args.self.now ours.path)
    (place_of_path c.args.other.now others.path)
