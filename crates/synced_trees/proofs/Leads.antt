-- Commands one after another, and lists of what is found in order.
use Rattle.std.proofs.Common.{◌≡◌, List, [], ◌∷◌, ◌++◌, Bool, true, false, ◌||◌, cond, Some, refl}
use Rattle.std.proofs.Common.{sym, ap, ◌∙◌, Ordering, Less, Equal, Greater}
use Rattle.std.specs.List.{list_any, AllByRecursion}
use Rattle.std.specs.List.Sorted.{IsStrictlySortedBy}
use Rattle.std.specs.Cmp.{IsTotalOrder, tied_itself}
use Rattle.std.specs.Ordering.{is_eq, ordering_reverse}
use Rattle.std.specs.FinMap.{find}
use Rattle.store_model.specs.Trees.{Tree}
use Rattle.store_model.specs.Commands.{Command}
use Rattle.store_model.specs.Steps.{next_tree}
use Rattle.store_model.proofs.ListsLemmas.{all_with, rising_head, rising_tail}
use Rattle.synced_trees.specs.Leading.{AreAllowed, led_by}

-- ---- commands and more commands

pub allowed_append : (cs ds : List Command) (t : Tree) → AreAllowed t cs → AreAllowed (led_by t cs) ds
    → AreAllowed t (cs ++ ds)
allowed_append [] ds t h g = g
allowed_append (c ∷ cs) ds t h g = (h.0, allowed_append cs ds (next_tree t c) h.1 g)

pub led_append : (cs ds : List Command) (t : Tree) → led_by t (cs ++ ds) ≡ led_by (led_by t cs) ds
led_append [] ds t = refl
led_append (c ∷ cs) ds t = led_append cs ds (next_tree t c)

-- ---- entries in order

-- each entry of a list in order is found in it
pub found_all : {K X : Type 0} (R : K → K → Ordering) → IsTotalOrder R → (es : List (K × X))
    → IsStrictlySortedBy (λ a b. R a.0 b.0) es → AllByRecursion (λ e. find R e.0 es ≡ Some e.1) es
found_all R total [] rising = tt
found_all {K} {X} R total (e ∷ es) rising = (
  ap (λ b. cond b (Some e.1) (find R e.0 es)) (ap is_eq (tied_itself total e.0)),
  all_with (λ f. R e.0 f.0 ≡ Less) (λ f. find R f.0 es ≡ Some f.1) (λ f. find R f.0 (e ∷ es) ≡ Some f.1)
      (λ f less found. ap (λ b. cond b (Some e.1) (find R f.0 es)) (ap is_eq (total.antisymm f.0 e.0
      ∙ ap ordering_reverse less)) ∙ found)
      es (rising_head (λ (a b : K × X). R a.0 b.0) e es rising)
      (found_all R total es (rising_tail (λ (a b : K × X). R a.0 b.0) e es rising)),
)

-- the elements of the second list put before the first, one after another
abbrev pub piled : {X : Type 0} → List X → List X → List X
piled done [] = done
piled done (x ∷ xs) = piled (x ∷ done) xs

pub all_piled : {X : Type 0} (P : X → Type 0) (done xs : List X) → AllByRecursion P done → AllByRecursion P xs
    → AllByRecursion P (piled done xs)
all_piled P done [] h g = h
all_piled P done (x ∷ xs) h g = all_piled P (x ∷ done) xs (g.0, h) g.1

-- one that passes, of which is known what is known of each
pub any_with : {X : Type 0} (P : X → Type 0) (test : X → Bool) (xs : List X) → AllByRecursion P xs
    → list_any test xs ≡ true → (x : X) × P x × (test x ≡ true)
any_with P test [] all some = cc
any_with {X} P test (x ∷ xs) all some = by_test (any_with P test xs all.1) (test x) refl some
  where
    by_test : (list_any test xs ≡ true → (y : X) × P y × (test y ≡ true)) → (b : Bool) → test x ≡ b
        → (b || list_any test xs) ≡ true → (y : X) × P y × (test y ≡ true)
    by_test rest true e s = (x, all.0, e)
    by_test rest false e s = rest s

-- where each that passes would be refuted, none does
pub none_with : {X : Type 0} (P : X → Type 0) (test : X → Bool) (xs : List X) → AllByRecursion P xs
    → ((x : X) → P x → test x ≡ true → ⊥) → list_any test xs ≡ false
none_with {X} P test xs all never = by_test (list_any test xs) refl
  where
    by_test : (b : Bool) → list_any test xs ≡ b → b ≡ false
    by_test true any = let one = any_with P test xs all any in absurd (never one.0 one.1 one.2)
    by_test false any = refl

pub any_weaker : {X : Type 0} (test other : X → Bool) → ((x : X) → test x ≡ true → other x ≡ true) → (xs : List X)
    → list_any test xs ≡ true → list_any other xs ≡ true
any_weaker test other f [] some = some
any_weaker test other f (x ∷ xs) some = by_test (any_weaker test other f xs) (test x) refl (other x) refl some
  where
    by_test : (list_any test xs ≡ true → list_any other xs ≡ true) → (b : Bool) → test x ≡ b → (c : Bool)
        → other x ≡ c → (b || list_any test xs) ≡ true → (c || list_any other xs) ≡ true
    by_test rest b e true g s = refl
    by_test rest true e false g s = let never : true ≡ false = sym (f x e) ∙ g in cc
    by_test rest false e false g s = rest s

any_before : {X : Type 0} (test : X → Bool) (done xs : List X) → list_any test done ≡ true
    → list_any test (piled done xs) ≡ true
any_before test done [] some = some
any_before test done (x ∷ xs) some = any_before test (x ∷ done) xs (by_test (test x))
  where
    by_test : (b : Bool) → (b || list_any test done) ≡ true
    by_test true = refl
    by_test false = some

-- where a key is found, and what is found passes, some entry does
pub find_any : {K X : Type 0} (R : K → K → Ordering) → ((x y : K) → R x y ≡ Equal → x ≡ y)
    → (test : K × X → Bool) (x : K)
    (m : X) (done es : List (K × X)) → find R x es ≡ Some m → test (x, m) ≡ true → list_any test (piled done es) ≡ true
find_any R same test x m done [] found passes = cc
find_any R same test x m done (e ∷ es) found passes =
    by_test (λ is. find_any R same test x m (e ∷ done) es is passes) (R x e.0) refl found
  where
    by_test : (find R x es ≡ Some m → list_any test (piled (e ∷ done) es) ≡ true)
        → (o : Ordering) → R x e.0 ≡ o → cond (is_eq o) (Some e.1) (find R x es) ≡ Some m
        → list_any test (piled (e ∷ done) es) ≡ true
    by_test rest Equal tied is =
        let value : e.1 ≡ m = cc in
        let key : e.0 ≡ x = sym (same x e.0 tied) in
        let here : test e ≡ true = (λ i. test (key i, value i)) ∙ passes in
        any_before test (e ∷ done) es (ap (λ b. b || list_any test done) here)
    by_test rest Less tied is = rest is
    by_test rest Greater tied is = rest is

pub or_true : (b c : Bool) → c ≡ true → (b || c) ≡ true
or_true true c h = refl
or_true false c h = h
