use Rattle.std.proofs.Common.{◌≡◌, ℕ, slice_index, sym, ap, ◌∙◌, arith}
use Rattle.std.proofs.lemmas.List.{get_or-replicate}
use Rattle.store_model.specs.Images.{slot_bytes}
use Rattle.node_pages.proofs.PageBytes.{shown}
use Rattle.node_pages.proofs.page.label_in.Goals as goal

pub returns-then-slot-ne1-clause-page : goal.returns-then-slot-ne1-clause-page
unfolding slot_bytes
returns-then-slot-ne1-clause-page c page is spells =
    absurd (c.if-slot-ne1.true (shown page c.args.slot.now is (sym spells)).first)

pub returns-clause-free : goal.returns-clause-free
unfolding slot_bytes
returns-clause-free c free =
    let first : slice_index c.args.slot.now 0 ≡ 0 =
    ap (λ xs. slice_index xs 0) free ∙ get_or-replicate {A = ℕ} 4096 0 0 0 (omega arith) in
    absurd (omega (arith, first, c.if-slot-ne1.false))

pub returns-clause-page : goal.returns-clause-page
unfolding slot_bytes
returns-clause-page c page is spells =
    c.from_bytes.ensures.only page.label is.label ((shown page c.args.slot.now is (sym spells)).label_bytes_are
    ∙ sym c.copy_from_slice.ensures.after)
