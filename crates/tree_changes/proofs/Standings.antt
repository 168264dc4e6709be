-- Lemmas on trees that are told by what stands at each path.
use Rattle.std.proofs.Common.{◌≡◌, [], ◌∷◌, length, Bool, true, false, cond, Option, Some}
use Rattle.std.proofs.Common.{None, is_some, IsTrue, T, refl, sym, ap, ◌∙◌, arith, nat_lt, lt-ltb}
use Rattle.std.specs.Cmp as cmp
use Rattle.std.specs.FinMap.{find}
use Rattle.std.specs.FinMap.Entries.{same_entries}
use Rattle.std.proofs.lemmas.Bool.{both_ways, false_from_ne_true}
use Rattle.store_model.specs.Paths.{Path, is_root, path_cmp, same_path, parent, is_at_or_inside}
use Rattle.store_model.specs.Trees.{Tree, Entry, IsTree, node_of, node_at, exists, children}
use Rattle.store_model.specs.Steps.{has_child}
use Rattle.store_model.proofs.TreesLemmasPaths.{path_cmp_total, same_from_tie, same_from_test, same_path-itself}
use Rattle.store_model.proofs.TreesLemmas.{exists-find, find-root}
use Rattle.store_model.proofs.TreesLemmasMoves.{nothing_below}
use Rattle.tree_changes.specs.Meant.{Standing, HasJust}

holds : (b : Bool) → IsTrue b → T b
holds true h = tt
holds false h = cc

-- at most one tree has at each path just what is told
pub one_tree : (standing : Standing) (u v : Tree) → HasJust standing u → HasJust standing v → u ≡ v
one_tree standing u v left right =
    same_entries path_cmp path_cmp_total same_from_tie u v (holds _ left.is_tree.sorted) (holds _ right.is_tree.sorted)
    (λ x. left.each x ∙ sym (right.each x))

-- what is told alike at each path is told of the same trees
pub told_alike : (one other : Standing) (u : Tree) → ((x : Path) → one x ≡ other x) → HasJust one u → HasJust other u
told_alike one other u same has = record { is_tree = has.is_tree; each = λ x. has.each x ∙ same x }

-- a tree has what stands there
pub has_itself : (t : Tree) → IsTree t → HasJust (λ x. find path_cmp x t) t
has_itself t h = record { is_tree = h; each = λ x. refl }

-- where two trees have the same at a path, the same stands there
pub same_node : (t u : Tree) (x : Path) → find path_cmp x t ≡ find path_cmp x u → node_at t x ≡ node_at u x
same_node t u [] e = refl
same_node t u (n ∷ x) e = ap node_of e

-- nothing is found where nothing stands, nor below
pub none_found : (t : Tree) (x : Path) → IsTree t → exists t x ≡ false → find path_cmp x t ≡ None
none_found t x h none = by (find path_cmp x t) refl (is_root x) refl
  where
    by : (o : Option Entry) → find path_cmp x t ≡ o → (b : Bool) → is_root x ≡ b → o ≡ None
    by None e b r = refl
    by (Some n) e false r = absurd (both_ways _ none (exists-find t x r ∙ ap is_some e))
    by (Some n) e true r = absurd (both_ways _ none (at_root x r))
      where
        at_root : (y : Path) → is_root y ≡ true → exists t y ≡ true
        at_root [] s = refl
        at_root (m ∷ y) s = cc

pub none_found_below : (t : Tree) (q x : Path) → IsTree t → exists t q ≡ false → is_at_or_inside x q ≡ true
    → find path_cmp x t ≡ None
none_found_below t q x h none below = by (is_root x) refl
  where
    by : (b : Bool) → is_root x ≡ b → find path_cmp x t ≡ None
    by true r = ap (λ y. find path_cmp y t) (root_is x r) ∙ find-root t h
      where
        root_is : (y : Path) → is_root y ≡ true → y ≡ []
        root_is [] s = refl
        root_is (m ∷ y) s = cc
    by false r = none_found t x h (false_from_ne_true _ (λ there. both_ways _ (nothing_below t q h none x there) below))

-- ---- children

-- a child is found at its path
pub child_in : (t : Tree) (q : Path) → has_child t q ≡ true
    → (x : Path) × (same_path (parent x) q ≡ true) × (is_some (find path_cmp x t) ≡ true)
unfolding children
child_in [] q h = cc
child_in (e ∷ t) q h = by (λ more. child_in t q more) (same_path (parent e.0) q) refl
  where
    later : (x : Path) (b : Bool) → is_some (find path_cmp x t) ≡ true
        → is_some (cond b (Some e.1) (find path_cmp x t)) ≡ true
    later x true there = refl
    later x false there = there

    by : (has_child t q ≡ true → (x : Path) × (same_path (parent x) q ≡ true) × (is_some (find path_cmp x t) ≡ true))
        → (b : Bool) → same_path (parent e.0) q ≡ b
        → (x : Path) × (same_path (parent x) q ≡ true) × (is_some (find path_cmp x (e ∷ t)) ≡ true)
    by again true s = (e.0, s, ap (λ b. is_some (cond b (Some e.1) (find path_cmp e.0 t))) (same_path-itself e.0))
    by again false s =
        let rest = again (ap (λ b. nat_lt 0 (length (cond b (e ∷ children t q) (children t q)))) (sym s) ∙ h) in
        (rest.0, rest.1, later rest.0 (same_path rest.0 e.0) rest.2)

pub child_out : (t : Tree) (q x : Path) → same_path (parent x) q ≡ true → is_some (find path_cmp x t) ≡ true
    → has_child t q ≡ true
unfolding children
child_out [] q x s there = cc
child_out (e ∷ t) q x s there = by (λ more. child_out t q x s more) (same_path (parent e.0) q) refl
    (same_path x e.0) refl
  where
    by : (is_some (find path_cmp x t) ≡ true → has_child t q ≡ true) → (b : Bool) → same_path (parent e.0) q ≡ b
        → (c : Bool) → same_path x e.0 ≡ c → has_child (e ∷ t) q ≡ true
    by again true p c k = ap (λ b. nat_lt 0 (length (cond b (e ∷ children t q) (children t q)))) p
        ∙ lt-ltb 0 (length (e ∷ children t q)) (omega arith)
    by again false p true k = absurd (both_ways _ p (ap (λ y. same_path (parent y) q) (sym (same_from_test x e.0 k))
        ∙ s))
    by again false p false k = ap (λ b. nat_lt 0 (length (cond b (e ∷ children t q) (children t q)))) p
        ∙ again (ap (λ b. is_some (cond b (Some e.1) (find path_cmp x t))) (sym k) ∙ there)

-- where two trees have children alike
pub same_children : (t u : Tree) (q : Path)
    → ((x : Path) → same_path (parent x) q ≡ true → is_some (find path_cmp x t) ≡ is_some (find path_cmp x u))
    → has_child t q ≡ has_child u q
same_children t u q alike =
    cmp.both_ways _ _
    (λ h. let c = child_in t q h in child_out u q c.0 c.1 (sym (alike c.0 c.1) ∙ c.2))
    (λ h. let c = child_in u q h in child_out t q c.0 c.1 (alike c.0 c.1 ∙ c.2))
