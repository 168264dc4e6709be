use Rattle.std.proofs.Common.{sym, ap, ◌∙◌, arith}
use Rattle.std.specs.List.{flat_map}
use Rattle.std.specs.Cmp.Lexicographic.{bytes_decides}
use Rattle.std.proofs.lemmas.List.{take_all}
use Rattle.store_model.specs.Images.{cell_bytes}
use Rattle.node_pages.proofs.page.Page.has_bytes.Goals as goal

pub returns : goal.returns
returns c =
    let all = c.bytes_between.ensures ∙ ap (flat_map cell_bytes)
    (take_all c.len.result c.args.self.now.cells (omega (arith, c.len.ensures.value))) in
    let decides = bytes_decides c.bytes_between.result.now c.args.run.now in
    (λ yes. sym all ∙ decides.0 (sym c.eq.ensures ∙ yes), λ same. c.eq.ensures ∙ decides.1 (all ∙ same))
