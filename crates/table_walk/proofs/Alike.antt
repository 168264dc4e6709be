-- How many entries of one digest a lookup looks at.
use Rattle.std.proofs.Common.{◌≡◌, ℕ, ◌+◌, ◌<◌, ◌≤◌, inl, inr, List, length, slice_index_or, sym, subst, ◌∙◌, arith}
use Rattle.table_walk.specs.declared.entry.Entry.{Entry}
use Rattle.table_walk.specs.Indexes.{entry_of, AreFewAlike}
use Rattle.table_walk.proofs.Looking.{below_or_from}

-- from one number on, up to another, the entries have the digest
abbrev pub HaveDigest : List Entry → ℕ → ℕ → ℕ → Type 0
HaveDigest entries digest first past = (k : ℕ) (e : Entry) → first ≤ k → k < past
    → (slice_index_or entries k e).digest ≡ digest

-- a lookup looked at each of these entries, and counted a step for each
pub record LookedAt (entries : List Entry) (digest first past before now : ℕ) : Type 0 where
  pub have : HaveDigest entries digest first past
  pub counted : now + first ≡ before + past

-- it looks at the next one
pub looked_at_next : (entries : List Entry) (digest first past before now after : ℕ)
    → LookedAt entries digest first past before now → ((e : Entry) → (slice_index_or entries past e).digest ≡ digest)
    → after ≡ now + 1 → LookedAt entries digest first (past + 1) before after
looked_at_next entries digest first past before now after looked next step = record {
  have = λ k e from below. elim (below_or_from k past) [
    | inl low ↦ looked.have k e from low
    | inr high ↦ let same : past ≡ k = omega (arith, below, high) in
        subst (λ (n : ℕ). (slice_index_or entries n e).digest ≡ digest) same (next e)
  ];
  counted = let counted = looked.counted in omega (arith, counted, step);
}

-- they are no more than have one digest
pub looked_at_few : (entries : List Entry) (digest first past before now most : ℕ)
    → LookedAt entries digest first past before now → past ≤ length entries → AreFewAlike entries most
    → now ≤ before + most
looked_at_few entries digest first past before now most looked within few =
    let counted = looked.counted in elim (below_or_from (first + most) past) [
      | inl more ↦ absurd (few first (entry_of 0 0) (omega (arith, more, within))
          (looked.have first (entry_of 0 0) (omega arith) (omega (arith, more))
          ∙ sym (looked.have (first + most) (entry_of 0 0) (omega arith) more)))
      | inr fits ↦ omega (arith, counted, fits)
    ]
