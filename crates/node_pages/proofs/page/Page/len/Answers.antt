use Rattle.std.proofs.Common.{length, drop, slice_index, sym, ap, ◌∙◌}
use Rattle.store_model.specs.Pages.{Page}
use Rattle.node_pages.proofs.PageBytes.{length-cells_in}
use Rattle.node_pages.proofs.page.Page.len.Goals as goal

pub returns-clause-value : goal.returns-clause-value
returns-clause-value c =
    c.from.ensures ∙ sym (length-cells_in c.self.inside.label.level (slice_index c.self.inside.slot 131)
    (drop 132 c.self.inside.slot)) ∙ ap (λ (p : Page). length p.cells) c.self.view_is
