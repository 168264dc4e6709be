-- The paths of a removal in their order, and what its changes do.
use Rattle.std.proofs.Common.{◌≡◌, ◌⊎◌, inl, inr, List, [], ◌∷◌, ◌++◌, reverse, Bool, true, false, ◌||◌, cond}
use Rattle.std.proofs.Common.{refl, sym, ap, subst, ◌∙◌, arith, ⊎_elim, None}
use Rattle.std.specs.FinMap.{find}
use Rattle.std.specs.Prelude.{Contains}
use Rattle.std.specs.Cmp as cmp
use Rattle.std.specs.List.{list_any, AllByRecursion}
use Rattle.std.specs.List.Sorted.{IsStrictlySortedBy}
use Rattle.std.proofs.lemmas.Bool.{or_cases, or_left, or_right}
use Rattle.std.proofs.lemmas.List.{reverse-append}
use Rattle.std.proofs.lemmas.List.Elements.{Contains-append_left, Contains-append_right, Contains-append_cases}
use Rattle.std.proofs.lemmas.List.Elements.{Contains-push_cases}
use Rattle.store_model.specs.declared.refusal.Refusal.{Refusal}
use Rattle.store_model.specs.Paths.{Path, path_cmp}
use Rattle.store_model.specs.Trees.{Tree}
use Rattle.store_model.proofs.ListsLemmas.{all_append, rising_head, rising_tail}
use Rattle.tree_changes.specs.Removals.{goes_with, removal_refusal, IsRemoved, IsUnremoved, IsBefore}
use Rattle.tree_changes.specs.Removals.{AreInOrder}
use Rattle.tree_changes.proofs.Standings.{told_alike}
use Rattle.image_changes.specs.Removals.{HaveSame}

-- ---- the order

rising_order : (paths : List Path) → IsStrictlySortedBy path_cmp paths → AreInOrder false paths
unfolding AreInOrder
rising_order [] rises = tt
rising_order (q ∷ paths) rises = (
  rising_head path_cmp q paths rises,
  rising_order paths
      (rising_tail path_cmp q paths rises),
)

-- one more at the end, behind which all others stand
order_more : (paths : List Path) (q : Path) → AreInOrder true paths → AllByRecursion (λ r. IsBefore true r q) paths
    → AreInOrder true (paths ++ q ∷ [])
unfolding AreInOrder
order_more [] q order before = (tt, tt)
order_more (r ∷ paths) q order before =
    (all_append (IsBefore true r) paths (q ∷ []) order.0 (before.0, tt), order_more paths q order.1 before.1)

reverse_cons : (q : Path) (paths : List Path) → reverse (q ∷ paths) ≡ reverse paths ++ q ∷ []
reverse_cons q paths = reverse-append (q ∷ []) paths

all_reverse : (P : Path → Type 0) (paths : List Path) → AllByRecursion P paths → AllByRecursion P (reverse paths)
all_reverse P [] all = tt
all_reverse P (q ∷ paths) all = subst (λ xs. AllByRecursion P xs) (sym (reverse_cons q paths))
    (all_append P (reverse paths) (q ∷ []) (all_reverse P paths all.1) (all.0, tt))

falling_order : (paths : List Path) → AreInOrder false paths → AreInOrder true (reverse paths)
unfolding AreInOrder
falling_order [] order = tt
falling_order (q ∷ paths) order = subst (λ xs. AreInOrder true xs) (sym (reverse_cons q paths))
    (order_more (reverse paths) q (falling_order paths order.1) (all_reverse (λ r. IsBefore true r q) paths order.0))

pub order_of : (recursive : Bool) (paths : List Path) → IsStrictlySortedBy path_cmp paths
    → AreInOrder recursive (cond recursive (reverse paths) paths)
order_of true paths rises = falling_order paths (rising_order paths rises)
order_of false paths rises = rising_order paths rises

-- ---- the same paths

in_reverse : (paths : List Path) (x : Path) → Contains paths x → Contains (reverse paths) x
in_reverse [] x is = is
in_reverse (q ∷ paths) x is = subst (λ xs. Contains xs x) (sym (reverse_cons q paths))
    (by (Contains-append_cases (q ∷ []) paths x is) (λ more. in_reverse paths x more))
  where
    by : Contains (q ∷ []) x ⊎ Contains paths x → (Contains paths x → Contains (reverse paths) x)
        → Contains (reverse paths ++ q ∷ []) x
    by (inl here) again = Contains-append_right (reverse paths) (q ∷ []) x here
    by (inr there) again = Contains-append_left (reverse paths) (q ∷ []) x (again there)

from_reverse : (paths : List Path) (x : Path) → Contains (reverse paths) x → Contains paths x
from_reverse [] x is = is
from_reverse (q ∷ paths) x is =
    by (Contains-append_cases (reverse paths) (q ∷ []) x (subst (λ xs. Contains xs x) (reverse_cons q paths) is))
    (λ more. from_reverse paths x more)
  where
    by : Contains (reverse paths) x ⊎ Contains (q ∷ []) x → (Contains (reverse paths) x → Contains paths x)
        → Contains (q ∷ paths) x
    by (inl there) again = Contains-append_right (q ∷ []) paths x (again there)
    by (inr here) again = Contains-append_left (q ∷ []) paths x here

pub same_reversed : (paths : List Path) → HaveSame paths (reverse paths)
same_reversed paths x = (in_reverse paths x, from_reverse paths x)

pub same_then : (one mid other : List Path) → HaveSame one mid → HaveSame mid other → HaveSame one other
same_then one mid other first then x = (λ h. (then x).0 ((first x).0 h), λ h. (first x).1 ((then x).1 h))

-- a test is passed alike
any_at : (test : Path → Bool) (paths : List Path) → list_any test paths ≡ true
    → (x : Path) × (test x ≡ true) × Contains paths x
any_at test [] any = cc
any_at test (q ∷ paths) any = by (or_cases (test q) (list_any test paths) any) (λ more. any_at test paths more)
  where
    by : (test q ≡ true) ⊎ (list_any test paths ≡ true)
        → (list_any test paths ≡ true → (x : Path) × (test x ≡ true) × Contains paths x)
        → (x : Path) × (test x ≡ true) × Contains (q ∷ paths) x
    by (inl here) again = (q, here, Contains-append_left (q ∷ []) paths q (0, omega arith, refl))
    by (inr there) again = let found = again there in (
      found.0,
      found.1,
      Contains-append_right
          (q ∷ []) paths found.0 found.2,
    )

any_from : (test : Path → Bool) (paths : List Path) (x : Path) → Contains paths x → test x ≡ true
    → list_any test paths ≡ true
any_from test [] x is passes = absurd (omega (arith, is.1))
any_from test (q ∷ paths) x is passes =
    by (Contains-append_cases (q ∷ []) paths x is) (λ more. any_from test paths x more passes)
  where
    by : Contains (q ∷ []) x ⊎ Contains paths x → (Contains paths x → list_any test paths ≡ true)
        → (test q || list_any test paths) ≡ true
    by (inl here) again = or_left (test q) (list_any test paths) (ap test (only q x here) ∙ passes)
      where
        only : (y z : Path) → Contains (y ∷ []) z → y ≡ z
        only y z is = ⊎_elim (λ none. absurd (omega (arith, none.1))) (λ same. same) (Contains-push_cases [] y z is)
    by (inr there) again = or_right (test q) (list_any test paths) (again there)

any_alike : (test : Path → Bool) (one other : List Path) → HaveSame one other → list_any test one ≡ list_any test other
any_alike test one other same = cmp.both_ways _ _
    (λ any. let found = any_at test one any in any_from test other found.0 ((same found.0).0 found.2) found.1)
    (λ any. let found = any_at test other any in any_from test one found.0 ((same found.0).1 found.2) found.1)

-- what holds of each
all_at : (P : Path → Type 0) (paths : List Path) (x : Path) → AllByRecursion P paths → Contains paths x → P x
all_at P [] x all is = absurd (omega (arith, is.1))
all_at P (q ∷ paths) x all is =
    by (Contains-append_cases (q ∷ []) paths x is) (λ more. all_at P paths x all.1 more)
  where
    by : Contains (q ∷ []) x ⊎ Contains paths x → (Contains paths x → P x) → P x
    by (inl here) again = subst P (⊎_elim (λ none. absurd (omega (arith, none.1))) (λ same. same)
        (Contains-push_cases [] q x here)) all.0
    by (inr there) again = again there

all_from : (P : Path → Type 0) (paths : List Path) → ((x : Path) → Contains paths x → P x) → AllByRecursion P paths
all_from P [] each = tt
all_from P (q ∷ paths) each = (
  each q (Contains-append_left (q ∷ []) paths q (0, omega arith, refl)),
  all_from P paths (λ x is. each x (Contains-append_right (q ∷ []) paths x is)),
)

module _ (recursive forced : Bool) (paths sorted : List Path) (same : HaveSame paths sorted) (t : Tree) where
  -- what is removed of the same paths
  pub removed_named : (u : Tree) → IsRemoved recursive forced sorted t u → IsRemoved recursive forced paths t u
  removed_named u is = record {
    allowed = all_from _ paths (λ x named. all_at (λ q. removal_refusal recursive forced t q ≡ None) sorted x is.allowed
        ((same x).0 named));
    standing = told_alike _ _ u (λ x. ap (λ b. cond b None (find path_cmp x t))
        (any_alike (goes_with recursive x) sorted paths (λ y. ((same y).1, (same y).0)))) is.standing;
  }

  pub unremoved_named : (path : Path) (why : Refusal) → IsUnremoved recursive forced sorted t path why
      → IsUnremoved recursive forced paths t path why
  unremoved_named path why is = record { named = (same path).1 is.named; reason = is.reason }
