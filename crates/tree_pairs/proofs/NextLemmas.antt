-- Lemmas on the next pair from a key on: it is found, and none lies between.
use Rattle.std.proofs.Common.{◌≡◌, List, [], ◌∷◌, Bool, true, false, cond, Some, None, ℕ, refl, sym, ap, subst, ◌∙◌}
use Rattle.std.proofs.Common.{Less}
use Rattle.std.specs.Ordering.{is_eq, is_le, eq_by_cmp}
use Rattle.std.specs.Cmp.{tied_itself}
use Rattle.std.specs.Cmp.Lexicographic.{nat_list_cmp_total}
use Rattle.std.specs.List.{AllByRecursion}
use Rattle.std.specs.List.Sorted.{IsStrictlySortedBy}
use Rattle.std.specs.FinMap.{find, slice_cmp-IsAntisymmetric, nat_cmp-IsAntisymmetric}
use Rattle.std.proofs.lemmas.Bool.{both_ways}
use Rattle.store_model.specs.Paths.{key_cmp}
use Rattle.store_model.specs.Pairs.{Pair}
use Rattle.store_model.proofs.TreesLemmasPaths.{tie_from_test}
use Rattle.store_model.proofs.ListsLemmas.{all_weaker, rising_head, rising_tail}
use Rattle.ordered_pairs.specs.PairsState.{next_pair}
use Rattle.tree_pairs.proofs.BlocksLemmas.{find_missing}

-- the pair is the first from the key on
pub record IsNextFrom (k : List ℕ) (s : List Pair) (pair : Pair) : Type 0 where
  pub found : find key_cmp pair.0 s ≡ Some pair.1
  pub not_below : is_le (key_cmp k pair.0) ≡ true
  pub none_between : (q : List ℕ) → is_le (key_cmp k q) ≡ true → key_cmp q pair.0 ≡ Less → find key_cmp q s ≡ None

-- a key below another does not tie with it
less_no_tie : (q k : List ℕ) → key_cmp q k ≡ Less → eq_by_cmp key_cmp q k ≡ false
less_no_tie q k e = ap is_eq e

-- a key on which a test holds that does not hold of another is not that one
passed_no_tie : (k q a : List ℕ) → is_le (key_cmp k q) ≡ true → is_le (key_cmp k a) ≡ false
    → eq_by_cmp key_cmp q a ≡ false
passed_no_tie k q a h g = by_test (eq_by_cmp key_cmp q a) refl
  where
    by_test : (b : Bool) → eq_by_cmp key_cmp q a ≡ b → b ≡ false
    by_test true t =
        absurd (both_ways _ g (ap (λ z. is_le (key_cmp k z))
        (sym (slice_cmp-IsAntisymmetric nat_cmp-IsAntisymmetric q a (tie_from_test (key_cmp q a) t))) ∙ h))
    by_test false t = refl

-- what a search for the next pair finds
pub next_some : (k : List ℕ) (s : List Pair) (pair : Pair) → IsStrictlySortedBy (λ a b. key_cmp a.0 b.0) s
    → next_pair k s ≡ Some pair → IsNextFrom k s pair
next_some k [] pair rise e = cc
next_some k (a ∷ s) pair rise e = by_test (λ f. next_some k s pair (rising_tail (λ a b. key_cmp a.0 b.0) a s rise) f)
    (is_le (key_cmp k a.0)) refl e
  where
    above : AllByRecursion (λ pair. key_cmp a.0 pair.0 ≡ Less) s
    above = rising_head (λ a b. key_cmp a.0 b.0) a s rise

    later : (rest : IsNextFrom k s pair) → is_le (key_cmp k a.0) ≡ false → IsNextFrom k (a ∷ s) pair
    later rest t = record {
      found = ap (λ b. cond b (Some a.1) (find key_cmp pair.0 s)) (passed_no_tie k pair.0 a.0 rest.not_below t)
          ∙ rest.found;
      not_below = rest.not_below;
      none_between = λ q l m. ap (λ b. cond b (Some a.1) (find key_cmp q s)) (passed_no_tie k q a.0 l t)
          ∙ rest.none_between q l m;
    }

    first : is_le (key_cmp k a.0) ≡ true → IsNextFrom k (a ∷ s) a
    first t = record {
      found = ap (λ b. cond b (Some a.1) (find key_cmp a.0 s)) (ap is_eq (tied_itself nat_list_cmp_total a.0));
      not_below = t;
      none_between = λ q l m. find_missing q (a ∷ s) (
        less_no_tie q a.0 m,
        all_weaker _ _
            (λ pair b. less_no_tie q pair.0 (nat_list_cmp_total.trans q a.0 pair.0 m b)) s above,
      );
    }

    by_test : (next_pair k s ≡ Some pair → IsNextFrom k s pair) → (b : Bool) → is_le (key_cmp k a.0) ≡ b
        → cond b (Some a) (next_pair k s) ≡ Some pair → IsNextFrom k (a ∷ s) pair
    by_test rest true t e = let same : a ≡ pair = cc in subst (IsNextFrom k (a ∷ s)) same (first t)
    by_test rest false t e = later (rest e) t

-- where it finds none, no key from there on is in the list
pub next_none : (k : List ℕ) (s : List Pair) → next_pair k s ≡ None → (q : List ℕ) → is_le (key_cmp k q) ≡ true
    → find key_cmp q s ≡ None
next_none k [] e q l = refl
next_none k (a ∷ s) e q l = by_test (λ f. next_none k s f q l) (is_le (key_cmp k a.0)) refl e
  where
    by_test : (next_pair k s ≡ None → find key_cmp q s ≡ None) → (b : Bool) → is_le (key_cmp k a.0) ≡ b
        → cond b (Some a) (next_pair k s) ≡ None → find key_cmp q (a ∷ s) ≡ None
    by_test rest true t e = cc
    by_test rest false t e = ap (λ b. cond b (Some a.1) (find key_cmp q s)) (passed_no_tie k q a.0 l t) ∙ rest e
