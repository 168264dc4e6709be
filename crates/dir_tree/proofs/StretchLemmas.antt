-- Lemmas on how many pairs of a list stand in the stretch of a subtree, or from a key on.
use Rattle.std.proofs.Common.{◌≡◌, ℕ, suc, ◌<◌, ◌≤◌, List, [], ◌∷◌, length, Bool, true, false, not, cond, ◌&&◌, IsTrue}
use Rattle.std.proofs.Common.{Some, refl, sym, ap, ◌∙◌, arith, Ordering, Less, Equal, Greater}
use Rattle.std.specs.Prelude.{IsSome}
use Rattle.std.specs.List.{filter}
use Rattle.std.specs.Ordering.{is_le, is_lt, eq_by_cmp}
use Rattle.std.specs.FinMap.{find, put}
use Rattle.std.specs.FinMap.Entries.{by_order}
use Rattle.std.proofs.lemmas.Bool.{both_ways, and_from, and_parts, false_from_ne_true}
use Rattle.store_model.specs.Paths.{Path, is_root, is_path, is_place, is_at_or_inside, key, key_cmp}
use Rattle.store_model.specs.Pairs.{Pair}
use Rattle.store_model.proofs.PathsLemmas.{place_of_path}
use Rattle.ordered_pairs.specs.PairsState.{without}
use Rattle.dir_tree.specs.SubtreeCalls.{end_of}
use Rattle.dir_tree.proofs.OrderLemmas.{same_key_from_test, top_is_lowest, before_end, within_stretch}

-- ---- the pairs whose keys pass a test

abbrev pub count : (List ℕ → Bool) → List Pair → ℕ
count test s = length (filter (λ pair. test pair.0) s)

pub count_le : (test : List ℕ → Bool) (s : List Pair) → count test s ≤ length s
count_le test [] = omega arith
count_le test (e ∷ s) =
    let rest = count_le test s in
    elim (test e.0) as (λ b. length (cond b (e ∷ filter (λ pair. test pair.0) s) (filter (λ pair. test pair.0) s))
    ≤ suc (length s)) [ true ↦ omega arith | false ↦ omega arith ]

-- a test that fails wherever another does passes no more
pub count_fewer : (P Q : List ℕ → Bool) (s : List Pair) → ((k : List ℕ) → Q k ≡ true → P k ≡ true)
    → count Q s ≤ count P s
count_fewer P Q [] h = omega arith
count_fewer P Q (e ∷ s) h =
    let rest = count_fewer P Q s h in
    (elim (Q e.0) as (λ b. Q e.0 ≡ b → length (cond b (e ∷ filter (λ pair. Q pair.0) s) (filter (λ pair. Q pair.0) s))
    ≤ count P (e ∷ s)) [
      | true ↦ λ t. let is = ap (λ b. length (cond b (e ∷ filter (λ pair. P pair.0) s) (filter (λ pair. P pair.0) s)))
          (h e.0 t) in omega arith
      | false ↦ λ t. at_least (P e.0) rest
    ]) refl
  where
    at_least : (b : Bool) → count Q s ≤ count P s
        → count Q s ≤ length (cond b (e ∷ filter (λ pair. P pair.0) s) (filter (λ pair. P pair.0) s))
    at_least true l = omega arith
    at_least false l = l

-- and fewer, where a key that is found passes the one and not the other
pub count_falls : (P Q : List ℕ → Bool) (k : List ℕ) (s : List Pair) → ((q : List ℕ) → Q q ≡ true → P q ≡ true)
    → P k ≡ true → Q k ≡ false → IsSome (find key_cmp k s) → count Q s < count P s
count_falls P Q k [] h p q found = cc
count_falls P Q k (e ∷ s) h p q found =
    (elim (eq_by_cmp key_cmp k e.0) as (λ b. eq_by_cmp key_cmp k e.0 ≡ b → IsSome (cond b (Some e.1) (find key_cmp k s))
    → count Q (e ∷ s) < count P (e ∷ s)) [
      | true ↦ λ same found.
          let is : k ≡ e.0 = same_key_from_test k e.0 same in
          let some = ap (λ b. length (cond b (e ∷ filter (λ pair. P pair.0) s) (filter (λ pair. P pair.0) s)))
          (ap P (sym is) ∙ p) in
          let none = ap (λ b. length (cond b (e ∷ filter (λ pair. Q pair.0) s) (filter (λ pair. Q pair.0) s)))
          (ap Q (sym is) ∙ q) in
          let rest = count_fewer P Q s h in
          omega arith
      | false ↦ λ other found. one_more (count_falls P Q k s h p q found) (Q e.0) (P e.0) refl refl
    ]) refl found
  where
    one_more : count Q s < count P s → (b a : Bool) → Q e.0 ≡ b → P e.0 ≡ a
        → length (cond b (e ∷ filter (λ pair. Q pair.0) s) (filter (λ pair. Q pair.0) s))
        < length (cond a (e ∷ filter (λ pair. P pair.0) s) (filter (λ pair. P pair.0) s))
    one_more l true true f g = omega arith
    one_more l false true f g = omega arith
    one_more l false false f g = l
    one_more l true false f g = let no : P e.0 ≡ true = h e.0 f in cc

-- ---- changes of a list

-- a put under a key that fails the test changes nothing of them
pub count_put : (test : List ℕ → Bool) (k v : List ℕ) (s : List Pair) → test k ≡ false
    → count test (put key_cmp k v s) ≡ count test s
count_put test k v [] h = ap (λ b. length {A = Pair} (cond b ((k, v) ∷ []) [])) h
count_put test k v (e ∷ s) h =
    elim (key_cmp k e.0) as (λ r. count test (by_order r ((k, v) ∷ e ∷ s) ((e.0, v) ∷ s) (e ∷ put key_cmp k v s))
    ≡ count test (e ∷ s)) [
      | Less ↦ ap (λ b. length {A = Pair}
          (cond b ((k, v) ∷ filter (λ pair. test pair.0) (e ∷ s)) (filter (λ pair. test pair.0) (e ∷ s)))) h
      | Equal ↦ same_count (test e.0)
      | Greater ↦ later_count (test e.0) (count_put test k v s h)
    ]
  where
    same_count : (b : Bool) → length {A = Pair}
        (cond b ((e.0, v) ∷ filter (λ pair. test pair.0) s) (filter (λ pair. test pair.0) s))
        ≡ length (cond b (e ∷ filter (λ pair. test pair.0) s) (filter (λ pair. test pair.0) s))
    same_count true = refl
    same_count false = refl

    later_count : (b : Bool) → count test (put key_cmp k v s) ≡ count test s
        → length (cond b (e ∷ filter (λ pair. test pair.0) (put key_cmp k v s))
        (filter (λ pair. test pair.0) (put key_cmp k v s)))
        ≡ length (cond b (e ∷ filter (λ pair. test pair.0) s) (filter (λ pair. test pair.0) s))
    later_count true l = ap suc l
    later_count false l = l

-- taking a pair away adds none
pub count_without_le : (test : List ℕ → Bool) (k : List ℕ) (s : List Pair) → count test (without k s) ≤ count test s
count_without_le test k [] = omega arith
count_without_le test k (e ∷ s) = by_tests (eq_by_cmp key_cmp k e.0) (test e.0) refl (count_without_le test k s)
  where
    by_tests : (a b : Bool) → test e.0 ≡ b → count test (without k s) ≤ count test s
        → count test (cond (not a) (e ∷ without k s) (without k s))
        ≤ length (cond b (e ∷ filter (λ pair. test pair.0) s) (filter (λ pair. test pair.0) s))
    by_tests true true t l = omega arith
    by_tests true false t l = l
    by_tests false b t l = kept b t l
      where
        kept : (b : Bool) → test e.0 ≡ b → count test (without k s) ≤ count test s
            → length (cond (test e.0) (e ∷ filter (λ pair. test pair.0) (without k s))
            (filter (λ pair. test pair.0) (without k s)))
            ≤ length (cond b (e ∷ filter (λ pair. test pair.0) s) (filter (λ pair. test pair.0) s))
        kept true t l = let is =
            ap (λ b. length (cond b (e ∷ filter (λ pair. test pair.0) (without k s))
            (filter (λ pair. test pair.0) (without k s)))) t in omega arith
        kept false t l = let is =
            ap (λ b. length (cond b (e ∷ filter (λ pair. test pair.0) (without k s))
            (filter (λ pair. test pair.0) (without k s)))) t in omega arith

-- one that is found and passes is one less
pub count_without : (test : List ℕ → Bool) (k : List ℕ) (s : List Pair) → test k ≡ true → IsSome (find key_cmp k s)
    → count test (without k s) < count test s
count_without test k [] h found = cc
count_without test k (e ∷ s) h found =
    (elim (eq_by_cmp key_cmp k e.0) as (λ a. eq_by_cmp key_cmp k e.0 ≡ a → IsSome (cond a (Some e.1) (find key_cmp k s))
    → count test (cond (not a) (e ∷ without k s) (without k s)) < count test (e ∷ s)) [
      | true ↦ λ same found.
          let is : k ≡ e.0 = same_key_from_test k e.0 same in
          let some = ap (λ b. length (cond b (e ∷ filter (λ pair. test pair.0) s) (filter (λ pair. test pair.0) s)))
          (ap test (sym is) ∙ h) in
          let rest = count_without_le test k s in
          omega arith
      | false ↦ λ other found. one_more (test e.0) (count_without test k s h found)
    ]) refl found
  where
    one_more : (b : Bool) → count test (without k s) < count test s
        → length (cond b (e ∷ filter (λ pair. test pair.0) (without k s)) (filter (λ pair. test pair.0) (without k s)))
        < length (cond b (e ∷ filter (λ pair. test pair.0) s) (filter (λ pair. test pair.0) s))
    one_more true l = omega arith
    one_more false l = l

-- ---- the stretch of a subtree

-- whether a key stands from the first key of a subtree on, and before its end
abbrev pub in_stretch : Path → List ℕ → Bool
in_stretch top k = is_le (key_cmp (key top 0) k) && is_lt (key_cmp k (end_of top))

pub stretch_within : (top x : Path) (i : ℕ) → is_root top ≡ false → IsTrue (is_path top) → IsTrue (is_place x)
    → i < 4294967296 → is_at_or_inside x top ≡ true → in_stretch top (key x i) ≡ true
stretch_within top x i below path valid l inside =
    and_from _ _ (top_is_lowest top x i (place_of_path top path) valid l inside)
    (ap is_lt (before_end top x i inside below))

less_from_test : (o : Ordering) → is_lt o ≡ true → o ≡ Less
less_from_test Less e = refl
less_from_test Equal e = cc
less_from_test Greater e = cc

pub stretch_outside : (top x : Path) (i : ℕ) → IsTrue (is_path top) → IsTrue (is_place x) → i < 4294967296
    → is_at_or_inside x top ≡ false → in_stretch top (key x i) ≡ false
stretch_outside top x i path valid l outside =
    false_from_ne_true _ (λ within.
    let parts = and_parts (is_le (key_cmp (key top 0) (key x i))) (is_lt (key_cmp (key x i) (end_of top))) within in
    both_ways _ outside (within_stretch top x i path valid l
    parts.0 (λ below. less_from_test (key_cmp (key x i) (end_of top)) parts.1)))
