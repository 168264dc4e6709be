-- Lemmas on the slots in which two tables differ.
use Rattle.std.proofs.Common.{◌≡◌, ◌≢◌, ℕ, zero, suc, ◌+◌, ◌-◌, ◌<◌, ◌≤◌, List, [], ◌∷◌, ◌++◌, length, get_or, Bool}
use Rattle.std.proofs.Common.{true, false, cond, not, refl, sym, ap, ap₂, subst, ◌∙◌, inl, inr, arith, ⊎_elim}
use Rattle.std.proofs.Common.{length-append}
use Rattle.std.specs.List.{sum_by}
use Rattle.std.specs.Cmp.Lexicographic.{bytes_decides}
use Rattle.std.proofs.lemmas.Bool.{cases_Bool, cases_lt}
use Rattle.std.proofs.lemmas.List.{get_or_append_left, get_or_push}
use Rattle.std.proofs.lemmas.List.Sums.{sum_by-cons}
use Rattle.store_model.specs.Lists.{numbers_from, same_bytes}
use Rattle.gate_journal.specs.Changes.{Changes, AreChanges}
use Rattle.gate_journal.proofs.Counting.{sum_split, sum_one, sum_same}
use Rattle.table_memory.specs.SlotCaches.{changes_of}
use Rattle.table_memory.proofs.CacheLemmas.{last_or_below}
use Rattle.table_memory.specs.Differences.{differing, AreDifferences}

-- what a slot counts
abbrev differs : (ℕ → List ℕ) → (ℕ → List ℕ) → ℕ → ℕ
differs old new i = cond (not (same_bytes (old i) (new i))) 1 0

same_counts : (old new : ℕ → List ℕ) (i : ℕ) → old i ≡ new i → differs old new i ≡ 0
same_counts old new i same =
    let test : same_bytes (old i) (new i) ≡ true = (bytes_decides (old i) (new i)).1 same in
    ap (λ (b : Bool). cond (not b) 1 0) test

other_counts : (old new : ℕ → List ℕ) (i : ℕ) → old i ≢ new i → differs old new i ≡ 1
other_counts old new i other =
    let test : same_bytes (old i) (new i) ≡ false =
    ⊎_elim (λ yes. absurd (other ((bytes_decides (old i) (new i)).0 yes))) (λ no. no)
    (cases_Bool (same_bytes (old i) (new i))) in
    ap (λ (b : Bool). cond (not b) 1 0) test

none_count : (f : ℕ → ℕ) (first count : ℕ) → ((i : ℕ) → first ≤ i → i < first + count → f i ≡ 0)
    → sum_by f (numbers_from first count) ≡ 0
unfolding numbers_from
none_count f first zero none = refl
none_count f first (suc count) none =
    sum_by-cons f first (numbers_from (suc first) count)
    ∙ ap (λ (n : ℕ). n + sum_by f (numbers_from (suc first) count)) (none first (omega arith) (omega arith))
    ∙ ap (λ (n : ℕ). 0 + n) (none_count f (suc first) count (λ i low high. none i (omega arith) (omega arith)))

-- before the first slot
differing-none : (old new : ℕ → List ℕ) → differing old new 0 ≡ 0
unfolding numbers_from
differing-none old new = refl

-- past slots with the same bytes
differing-same : (old new : ℕ → List ℕ) (n m : ℕ) → n ≤ m → ((i : ℕ) → n ≤ i → i < m → old i ≡ new i)
    → differing old new m ≡ differing old new n
differing-same old new n m less same =
    let rest : m ≡ n + (m - n) = omega (arith, less) in
    let none : sum_by (differs old new) (numbers_from (0 + n) (m - n)) ≡ 0 =
    none_count (differs old new) (0 + n) (m - n)
    (λ i low high. same_counts old new i (same i (omega arith) (omega (arith, less)))) in
    ap (differing old new) rest ∙ sum_split (differs old new) 0 n (m - n)
    ∙ ap (λ (k : ℕ). differing old new n + k) none ∙ omega arith

-- a table differs from itself in no slot
pub differing-itself : (table : ℕ → List ℕ) (n : ℕ) → differing table table n ≡ 0
differing-itself table n = differing-same table table 0 n (omega arith) (λ i low high. refl)
    ∙ differing-none table table

-- past one with other bytes
differing-other : (old new : ℕ → List ℕ) (n : ℕ) → old n ≢ new n → differing old new (n + 1) ≡ differing old new n + 1
differing-other old new n other =
    let here : 0 + n ≡ n = omega arith in
    sum_split (differs old new) 0 n 1 ∙ ap (λ (k : ℕ). differing old new n + k)
    (sum_one (differs old new) (0 + n) ∙ ap (differs old new) here ∙ other_counts old new n other)

-- tables whose slots have the same bytes
differing-as : (was is old new : ℕ → List ℕ) (n : ℕ) → ((i : ℕ) → i < n → was i ≡ old i)
    → ((i : ℕ) → i < n → is i ≡ new i) → differing was is n ≡ differing old new n
differing-as was is old new n was_is is_is =
    sum_same (differs was is) (differs old new) 0 n
    (λ i low high. let below : i < n = omega arith
    in ap₂ (λ (x y : List ℕ). cond (not (same_bytes x y)) 1 0) (was_is i below) (is_is i below))

pub differences_as : (was is old new : ℕ → List ℕ) (slots : ℕ) (changes : Changes) → AreChanges slots changes
    → ((i : ℕ) → i < slots → was i ≡ old i) → ((i : ℕ) → i < slots → is i ≡ new i) → AreDifferences was is slots changes
    → AreDifferences old new slots changes
differences_as was is old new slots changes are was_is is_is differ = record {
  bytes = λ k low. differ.bytes k low ∙ is_is (changes.slot k) (are.below k low);
  others = λ i below none. sym (was_is i below) ∙ differ.others i below none ∙ is_is i below;
  count_is = differ.count_is ∙ differing-as was is old new slots was_is is_is;
}

-- ---- slots found one after another

-- before the first slot
pub rising_none : AreChanges 0 (changes_of [])
rising_none = record {
  rising = λ j k less low. absurd (omega arith);
  below = λ k low. absurd (omega arith);
  whole = λ k low. absurd (omega arith);
}

pub differences_none : (old new : ℕ → List ℕ) → AreDifferences old new 0 (changes_of [])
differences_none old new = record {
  bytes = λ k low. absurd (omega arith);
  others = λ i low none. absurd (omega arith);
  count_is = sym (differing-none old new);
}

-- past slots with the same bytes
pub rising_later : (n m : ℕ) (changes : Changes) → n ≤ m → AreChanges n changes → AreChanges m changes
rising_later n m changes less are = record {
  rising = are.rising;
  below = λ k low. let below = are.below k low in omega (arith, below, less);
  whole = are.whole;
}

pub differences_later : (old new : ℕ → List ℕ) (n m : ℕ) (changes : Changes) → n ≤ m
    → ((i : ℕ) → n ≤ i → i < m → old i ≡ new i) → AreDifferences old new n changes → AreDifferences old new m changes
differences_later old new n m changes less same differ = record {
  bytes = differ.bytes;
  others = λ i low none. elim (cases_lt i n) [
    | inl before
        ↦ differ.others i before none
    | inr behind ↦ same i behind low
  ];
  count_is = differ.count_is ∙ sym (differing-same old new n m less same);
}

-- one of the slots found
abbrev item : List (ℕ × List ℕ) → ℕ → ℕ × List ℕ
item items k = get_or items k (0, [])

module _ (n : ℕ) (items : List (ℕ × List ℕ)) (slot : List ℕ) where
  abbrev more : List (ℕ × List ℕ)
  more = items ++ (n, slot) ∷ []

  one_longer : length more ≡ length items + 1
  one_longer = length-append items ((n, slot) ∷ [])

  earlier : (k : ℕ) → k < length items → item more k ≡ item items k
  earlier k low = get_or_append_left items ((n, slot) ∷ []) (0, []) k low

  last : (k : ℕ) → k ≡ length items → item more k ≡ (n, slot)
  last k is = get_or_push items (n, slot) (0, []) k (sym is)

  -- what holds of each item, and of one more
  each_more : (P : ℕ × List ℕ → Type 0) → P (n, slot) → ((k : ℕ) → k < length items → P (item items k)) → (k : ℕ)
      → k < length more → P (item more k)
  each_more P here before k low = elim (last_or_below (length items) k (omega (arith, one_longer, low))) [
    | inl less ↦ subst P (sym (earlier k less)) (before k less)
    | inr is ↦ subst P (sym (last k is)) here
  ]

  rising : ((j k : ℕ) → j < k → k < length items → (item items j).0 < (item items k).0)
      → ((k : ℕ) → k < length items → (item items k).0 < n) → (j k : ℕ) → j < k → k < length more
      → (item more j).0 < (item more k).0
  rising rises below j k less low =
      let first : (item more j).0 ≡ (item items j).0 =
      ap (λ (e : ℕ × List ℕ). e.0) (earlier j (omega (arith, one_longer, less, low))) in
      elim (last_or_below (length items) k (omega (arith, one_longer, low))) [
        | inl earlier_too ↦
            let second : (item more k).0 ≡ (item items k).0 = ap (λ (e : ℕ × List ℕ). e.0) (earlier k earlier_too) in
            subst (λ (a : ℕ). a < (item more k).0) (sym first)
            (subst (λ (b : ℕ). (item items j).0 < b) (sym second) (rises j k less earlier_too))
        | inr is ↦
            let second : (item more k).0 ≡ n = ap (λ (e : ℕ × List ℕ). e.0) (last k is) in
            subst (λ (a : ℕ). a < (item more k).0) (sym first)
            (subst (λ (b : ℕ). (item items j).0 < b) (sym second) (below j (omega (arith, less, is))))
      ]

  -- past a slot with other bytes
  pub rising_more : AreChanges n (changes_of items) → length slot ≡ 4096
      → AreChanges (n + 1) (changes_of (items ++ (n, slot) ∷ []))
  rising_more are long = record {
    rising = rising are.rising are.below;
    below = each_more (λ (e : ℕ × List ℕ). e.0 < n + 1) (omega arith)
        (λ k low. let below = are.below k low in omega (arith, below));
    whole = each_more (λ (e : ℕ × List ℕ). length e.1 ≡ 4096) long are.whole;
  }

  pub differences_more : (old new : ℕ → List ℕ) → AreDifferences old new n (changes_of items) → slot ≡ new n
      → old n ≢ new n → AreDifferences old new (n + 1) (changes_of (items ++ (n, slot) ∷ []))
  differences_more old new differ here other = record {
    bytes = each_more (λ (e : ℕ × List ℕ). e.1 ≡ new e.0) here differ.bytes;
    others = λ i low none. elim (last_or_below n i low) [
      | inl less ↦ differ.others i less
          (λ k within same. none k (omega (arith, one_longer, within))
          (ap (λ (e : ℕ × List ℕ). e.0) (earlier k within) ∙ same))
      | inr is ↦ absurd (none (length items) (omega (arith, one_longer))
          (ap (λ (e : ℕ × List ℕ). e.0) (last (length items) refl) ∙ sym is))
    ];
    count_is = one_longer ∙ ap (λ (k : ℕ). k + 1) differ.count_is ∙ sym (differing-other old new n other);
  }
