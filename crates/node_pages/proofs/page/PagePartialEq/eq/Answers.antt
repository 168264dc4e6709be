use Rattle.std.proofs.Common.{sym, ap, subst, ◌∙◌}
use Rattle.std.specs.Cmp.Lexicographic.{bytes_decides}
use Rattle.store_model.specs.Pages.{IsPage}
use Rattle.store_model.specs.Images.{page_bytes}
use Rattle.node_pages.proofs.PageBytes.{page_bytes-same}
use Rattle.node_pages.proofs.page.PagePartialEq.eq.Goals as goal

pub returns-clause-same : goal.returns-clause-same
returns-clause-same c =
    let self_is = subst IsPage c.self.view_is c.self.invariant.page in
    let other_is = subst IsPage c.other.view_is c.other.invariant.page in
    let self_bytes = ap page_bytes (sym c.self.view_is) ∙ c.self.invariant.bytes in
    let other_bytes = ap page_bytes (sym c.other.view_is) ∙ c.other.invariant.bytes in
    let decides = bytes_decides c.self.inside.slot c.other.inside.slot in (
      λ equal. page_bytes-same c.args.self.now c.args.other.now self_is other_is
          (self_bytes ∙ decides.0 (sym c.eq.ensures ∙ equal) ∙ sym other_bytes),
      λ same. c.eq.ensures ∙ decides.1 (sym self_bytes ∙ ap page_bytes same ∙ other_bytes),
    )
