use Rattle.std.proofs.Common.{◌≡◌, ◌+◌, ◌++◌, ◌∷◌, [], sym, ap, subst, ◌∙◌, arith}
use Rattle.store_model.specs.Lists.{numbers_from, numbers_below}
use Rattle.rising_pages.specs.FreePlaces.{free_of, LeadsOn}
use Rattle.rising_pages.proofs.FreeLemmas.{one_more_number, leads_to_itself, free_at_first}
use Rattle.rising_pages.proofs.free.FreeSlots.new.Goals as goal

pub loop-place-init : goal.loop-place-init
unfolding numbers_from
loop-place-init c = c.in_ok-next.ensures.items

pub loop-place-preserved : goal.loop-place-preserved
loop-place-preserved c =
    c.in_ok-push.ensures.items ∙ ap (λ l. l ++ c.loop-place.place ∷ []) c.loop-place.invariant
    ∙ one_more_number c.loop-place.place

pub invariant_of-result : goal.invariant_of-result
invariant_of-result c =
    let end : c.loop-place.place ≡ c.args.slots + 1 = omega (
      arith,
      c.loop-place-test.false,
      c.loop-place.auto.place-end,
    ) in
    subst LeadsOn (sym (c.loop-place.invariant ∙ ap numbers_below end))
    (leads_to_itself (c.args.slots + 1) (omega arith) (omega (arith, c.requires)))

pub returns : goal.returns
returns c =
    let end : c.loop-place.place ≡ c.args.slots + 1 = omega (
      arith,
      c.loop-place-test.false,
      c.loop-place.auto.place-end,
    ) in
    ap free_of (c.loop-place.invariant ∙ ap numbers_below end) ∙ free_at_first c.args.slots
