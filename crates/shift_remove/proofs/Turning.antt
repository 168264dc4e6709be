-- Slots by their number behind a first one, going round, and ways by such numbers.
use Rattle.std.proofs.Common.{◌≡◌, ℕ, ◌+◌, ◌-◌, ◌%◌, ◌<◌, ◌≤◌, ◌⊎◌, inl, inr, ap, sym, subst, ◌∙◌, arith}
use Rattle.std.proofs.Math.Nat.{mod-eq_of_lt, add-mod_left}
use Rattle.std.proofs.lemmas.Bool.{cases_lt}
use Rattle.store_model.specs.Placement.{probe}
use Rattle.store_model.proofs.PlacementLemmas.{probe_reaches}
use Rattle.shift_remove.specs.Ways.{Passes}

-- slot number u behind the first: either it is u behind, or it is u behind once round
pub record At (slots first u slot : ℕ) : Type 0 where
  pub within : u < slots
  pub in_table : slot < slots
  pub there : (slot ≡ first + u) ⊎ (slot + slots ≡ first + u)

pub at_of : (slots first u : ℕ) → first < slots → u < slots → At slots first u (probe slots first u)
at_of slots first u below within = by_case (cases_lt (first + u) slots)
  where
    by_case : (first + u < slots) ⊎ (slots ≤ first + u) → At slots first u (probe slots first u)
    by_case (inl low) = let e : (first + u) % slots ≡ first + u = mod-eq_of_lt low in record {
      within = within;
      in_table = omega (arith, e, low);
      there = inl e;
    }
    by_case (inr high) =
        let turned : first + u ≡ slots + (first + u - slots) = omega arith in
        let e : (first + u) % slots ≡ first + u - slots =
        ap (λ (n : ℕ). n % slots) turned ∙ add-mod_left slots (first + u - slots) ∙ mod-eq_of_lt (omega arith) in
        record { within = within; in_table = omega (arith, e); there = inr (omega (arith, e, high)) }

pub at_is : (slots first u slot : ℕ) → first < slots → At slots first u slot → slot ≡ probe slots first u
at_is slots first u slot below at = by_case at.there
  where
    by_case : (slot ≡ first + u) ⊎ (slot + slots ≡ first + u) → slot ≡ probe slots first u
    by_case (inl e) = sym (mod-eq_of_lt at.in_table) ∙ ap (λ (n : ℕ). n % slots) e
    by_case (inr e) =
        let turned : slots + slot ≡ first + u = omega (arith, e) in
        sym (mod-eq_of_lt at.in_table) ∙ sym (add-mod_left slots slot) ∙ ap (λ (n : ℕ). n % slots) turned

pub at_slot : (slots first slot : ℕ) → first < slots → slot < slots → (u : ℕ) × At slots first u slot
at_slot slots first slot below within =
    let r = probe_reaches slots first slot below within in
    (r.0, subst (At slots first r.0) r.2 (at_of slots first r.0 below r.1))

-- a way passes a slot unless they lie in one of three orders
passes_unless : (s v u : ℕ) → (u < s → v < s → u ≤ v → ⊥) → (s ≤ u → v < s → ⊥)
    → (s ≤ u → s ≤ v → u ≤ v → ⊥) → Passes s v u
passes_unless s v u before round behind = by_case (cases_lt u s) (cases_lt v s) (cases_lt v u)
  where
    by_case : (u < s) ⊎ (s ≤ u) → (v < s) ⊎ (s ≤ v) → (v < u) ⊎ (u ≤ v) → Passes s v u
    by_case (inl us) (inl vs) (inl vu) = inr (us, inr vu)
    by_case (inl us) (inr sv) r = inr (us, inl sv)
    by_case (inl us) (inl vs) (inr uv) = absurd (before us vs uv)
    by_case (inr su) (inr sv) (inl vu) = inl (sv, vu)
    by_case (inr su) (inl vs) r = absurd (round su vs)
    by_case (inr su) (inr sv) (inr uv) = absurd (behind su sv uv)

-- ways are the same by numbers behind the first slot
pub passes_turned : (slots first start s hole v slot u : ℕ) → first < slots → At slots first s start
    → At slots first v hole → At slots first u slot → Passes start hole slot → Passes s v u
passes_turned slots first start s hole v slot u below a b c p =
    passes_unless s v u
    (λ us vs uv. omega (
      arith,
      below,
      a.within,
      a.in_table,
      a.there,
      b.within,
      b.in_table,
      b.there,
      c.within,
      c.in_table,
      c.there,
      p,
      us,
      vs,
      uv,
    ))
    (λ su vs. omega (
      arith,
      below,
      a.within,
      a.in_table,
      a.there,
      b.within,
      b.in_table,
      b.there,
      c.within,
      c.in_table,
      c.there,
      p,
      su,
      vs,
    ))
    (λ su sv uv. omega (
      arith,
      below,
      a.within,
      a.in_table,
      a.there,
      b.within,
      b.in_table,
      b.there,
      c.within,
      c.in_table,
      c.there,
      p,
      su,
      sv,
      uv,
    ))

pub passes_back : (slots first start s hole v slot u : ℕ) → first < slots → At slots first s start
    → At slots first v hole → At slots first u slot → Passes s v u → Passes start hole slot
passes_back slots first start s hole v slot u below a b c p =
    passes_unless start hole slot
    (λ us vs uv. omega (
      arith,
      below,
      a.within,
      a.in_table,
      a.there,
      b.within,
      b.in_table,
      b.there,
      c.within,
      c.in_table,
      c.there,
      p,
      us,
      vs,
      uv,
    ))
    (λ su vs. omega (
      arith,
      below,
      a.within,
      a.in_table,
      a.there,
      b.within,
      b.in_table,
      b.there,
      c.within,
      c.in_table,
      c.there,
      p,
      su,
      vs,
    ))
    (λ su sv uv. omega (
      arith,
      below,
      a.within,
      a.in_table,
      a.there,
      b.within,
      b.in_table,
      b.there,
      c.within,
      c.in_table,
      c.there,
      p,
      su,
      sv,
      uv,
    ))
