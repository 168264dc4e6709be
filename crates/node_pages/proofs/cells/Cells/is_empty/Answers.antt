use Rattle.std.proofs.Common.{length, List, sym, ap, ◌∙◌}
use Rattle.std.proofs.lemmas.Bool.{eqb-true, eq-eqb}
use Rattle.std.proofs.lemmas.List.{nil_from_length}
use Rattle.store_model.specs.Pages.{Cell}
use Rattle.node_pages.proofs.PackedLists.{listed}
use Rattle.node_pages.proofs.cells.Cells.is_empty.Goals as goal

pub returns : goal.returns
returns c =
    let counted = listed c.self.inside.level c.self.inside.count c.self.inside.bytes.items
    c.args.self.now c.self.view_is in (
      λ none. nil_from_length c.args.self.now.cells (counted ∙ eqb-true c.self.inside.count 0 none),
      λ empty. eq-eqb c.self.inside.count 0 (sym counted ∙ ap (λ (cs : List Cell). length cs) empty),
    )
