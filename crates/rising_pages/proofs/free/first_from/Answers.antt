use Rattle.std.proofs.Common.{◌≡◌, slice_index, sym, ◌∙◌, arith, inl, inr, refl}
use Rattle.std.proofs.Common.{length-set}
use Rattle.std.proofs.lemmas.Bool.{cases_lt}
use Rattle.rising_pages.proofs.FreeLemmas.{leads_further, further_free, self_before}
use Rattle.rising_pages.proofs.free.first_from.Goals as goal

pub loop-next-preserved : goal.loop-next-preserved
loop-next-preserved c =
    let next = c.loop-next.next in
    let at = c.loop-next.at in
    let after = slice_index next at in
    let so_far = c.loop-next.invariant in
    let forward = so_far.leads.forward at so_far.within in
    let inside = so_far.leads.within at so_far.within in
    let moves : after ≡ at → ⊥ = λ same. c.loop-next-test.true same in
    record {
      leads = leads_further next at after so_far.leads so_far.within refl moves;
      same = further_free next at after so_far.leads so_far.within refl moves ∙ so_far.same;
      long = length-set next at (slice_index next after) ∙ so_far.long;
      behind = omega (arith, forward, so_far.behind);
      within = omega (arith, inside, length-set next at (slice_index next after));
      passed = λ i from to self. elim (cases_lt i at) [
        | inl before ↦ so_far.passed i from before self
        | inr later ↦
            so_far.leads.skips at i so_far.within later to
            (self_before c.args.next.now next i (sym so_far.same) (omega (arith, so_far.long, inside))
            (omega (arith, inside)) self)
      ];
    }
