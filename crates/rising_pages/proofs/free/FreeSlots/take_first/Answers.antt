use Rattle.std.proofs.Common.{◌≡◌, ℕ, ◌+◌, List, false, take, drop, ◌++◌, ap, sym, subst, ◌∙◌, arith, length, slice_set}
use Rattle.std.proofs.lemmas.List.{take_at}
use Rattle.rising_pages.specs.FreePlaces.{free_of, LeadsOn}
use Rattle.rising_pages.proofs.FreeLemmas.{length-free_of, leads_taken, taken_free}
use Rattle.rising_pages.proofs.free.FreeSlots.take_first.Goals as goal

pub first_round-requires-clause-within : goal.first_round-requires-clause-within
first_round-requires-clause-within c =
    let next = c.self.inside.next.items in
    omega (
      arith,
      c.requires,
      length-free_of next,
      ap length c.self.view_is,
      ap length c.deref_mut.ensures.value,
      c.self.invariant.some,
    )

pub invariant_of-self-2 : goal.invariant_of-self-2
invariant_of-self-2 c =
    let before = c.self.inside.next in
    let new = c.first_round.new.next in
    let whole : take before.len (new ++ drop (length new) before.items) ≡ new =
    take_at new (drop (length new) before.items) before.len
    (omega (arith, c.first_round.auto.next, c.deref_mut.ensures.len, before.ok.0)) in
    subst (λ (l : List ℕ). LeadsOn (slice_set l c.in_ok-at.at (c.in_ok-at.at + 1))) (sym whole)
    (leads_taken new c.in_ok-at.at c.in_ok-at.ensures.leads
    (omega (arith, c.in_ok-at.ensures.within, c.first_round.auto.next)) c.in_ok-at.ensures.free)

pub returns-clause-taken : goal.returns-clause-taken
returns-clause-taken c =
    let before = c.self.inside.next in
    let new = c.first_round.new.next in
    let whole : take before.len (new ++ drop (length new) before.items) ≡ new =
    take_at new (drop (length new) before.items) before.len
    (omega (arith, c.first_round.auto.next, c.deref_mut.ensures.len, before.ok.0)) in
    ap (λ (l : List ℕ). free_of (slice_set l c.in_ok-at.at (c.in_ok-at.at + 1))) whole
    ∙ taken_free new c.in_ok-at.at (omega (arith, c.in_ok-at.ensures.within, c.first_round.auto.next))
    ∙ ap (λ l. slice_set l c.in_ok-at.at false)
    (c.in_ok-at.ensures.same ∙ ap free_of c.deref_mut.ensures.value ∙ c.self.view_is)

pub returns-clause-within : goal.returns-clause-within
returns-clause-within c =
    let next = c.self.inside.next.items in
    omega (
      arith,
      c.in_ok-at.ensures.within,
      length-free_of next,
      ap length c.self.view_is,
      ap length c.deref_mut.ensures.value,
    )
