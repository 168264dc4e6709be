use Rattle.std.proofs.Common.{Some, refl, sym, ap, ◌∙◌, arith}
use Rattle.node_pages.proofs.Answered.{answers}
use Rattle.node_pages.proofs.EntryLemmas.{item_there, no_page, stands_within}
use Rattle.node_pages.proofs.map.MapPagesPages.look.Goals as goal

-- the page stands there
pub returns-in-Ok : goal.returns-in-Ok
returns-in-Ok c =
    let stands = rw c.deref.ensures.value at c.in-Ok.ensures in
    let shown = answers _ c.args.label.now _ _ _ (omega arith) (omega arith) c.saturating_add-self.ensures
    (ap Some c.deref-in-Ok.ensures
    ∙ sym (item_there _ c.args.self.now.pages.items c.args.self.now.sorted c.args.self.now.valid c.args.label.now
    c.in-Ok.at c.index.result.now c.index.ensures stands)) in
    ((refl, λ _. tt, (shown, tt)), record { after_borrow = tt })

-- there is none
pub returns-in-Err : goal.returns-in-Err
returns-in-Err c =
    let lacks = rw c.deref.ensures.value at c.in-Err.ensures in
    let shown = answers _ c.args.label.now _ _ _ (omega arith)
    (omega arith) c.saturating_add-self.ensures
    (sym (no_page _ c.args.self.now.sorted c.args.self.now.valid c.args.label.now c.in-Err.field-0 lacks)) in
    ((refl, λ _. tt, (shown, tt)), record { after_borrow = tt })

pub index-requires : goal.index-requires
index-requires c = omega (arith, stands_within _ _ _ _ c.in-Ok.ensures, c.deref.ensures.len)
