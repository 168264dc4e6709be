use Rattle.std.proofs.Common.{◌≡◌, ℕ, List, Some, slice_index, refl, sym, ap, ◌∙◌, arith}
use Rattle.std.proofs.lemmas.List.{get_or-replicate}
use Rattle.std.specs.Ordering.{nat_cmp}
use Rattle.std.specs.Cmp.Lexicographic.{slice_cmp}
use Rattle.store_model.specs.Images.{slot_bytes}
use Rattle.node_pages.proofs.PageBytes.{shown}
use Rattle.ordered_table.proofs.order.order_of.Goals as goal

pub returns-then-slot-ne1 : goal.returns-then-slot-ne1
unfolding slot_bytes
returns-then-slot-ne1 c = record {
  free = λ free. refl;
  page = λ page is spells. absurd (c.if-slot-ne1.true (shown page c.args.slot.now is (sym spells)).first);
}

pub returns : goal.returns
unfolding slot_bytes
returns c = record {
  free = λ free.
      let first : slice_index c.args.slot.now 0 ≡ 0 =
      ap (λ (xs : List ℕ). slice_index xs 0) free ∙ get_or-replicate {A = ℕ} 4096 0 0 0 (omega arith) in
      absurd (omega (arith, first, c.if-slot-ne1.false));
  page = λ page is spells. ap Some (c.byte_order.ensures
      ∙ ap (λ (bytes : List ℕ). slice_cmp nat_cmp bytes c.args.wanted.now)
      (sym (shown page c.args.slot.now is (sym spells)).label_bytes_are));
}
