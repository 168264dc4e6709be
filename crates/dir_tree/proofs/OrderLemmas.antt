-- Lemmas on the order of keys: of any two, of those of a subtree and of the places behind it.
use Rattle.std.proofs.Common.{◌≡◌, ℕ, zero, suc, ◌<◌, arith, List, [], ◌∷◌, ◌++◌, length, drop, Bool, true, false}
use Rattle.std.proofs.Common.{IsTrue, refl, sym, ap, ◌∙◌, Ordering, Less, Equal, Greater, nat_cmp}
use Rattle.std.specs.Ordering.{is_le, eq_by_cmp, ordering_reverse, ordering_then}
use Rattle.std.specs.Cmp.{tied_itself}
use Rattle.std.specs.Cmp.Lexicographic.{nat_list_cmp_total}
use Rattle.std.specs.FinMap.{slice_cmp-IsAntisymmetric, nat_cmp-IsAntisymmetric}
use Rattle.std.proofs.lemmas.Bool.{both_ways, or_left}
use Rattle.store_model.specs.Paths.{Path, is_root, is_path, is_place, path_cmp, same_path, is_inside, is_at_or_inside}
use Rattle.store_model.specs.Paths.{key, key_cmp}
use Rattle.store_model.proofs.ListsLemmas.{nat_cmp-lt}
use Rattle.store_model.proofs.PathsLemmas.{place_of_path, order_of_keys}
use Rattle.store_model.proofs.TreesLemmasPaths.{same_path-itself, at_or_inside-append, at_or_inside-split}
use Rattle.store_model.proofs.TreesLemmasPaths.{same_from_tie, tie_from_test}
use Rattle.path_keys.proofs.PastBytes.{past_bytes, past_written, subtree_before_past, past_before_later, past_not_above}
use Rattle.dir_tree.specs.SubtreeCalls.{end_of, IsBeforeEnd}

-- ---- any two keys

-- keys that tie are the same
pub same_key : (a b : List ℕ) → key_cmp a b ≡ Equal → a ≡ b
same_key a b e = slice_cmp-IsAntisymmetric nat_cmp-IsAntisymmetric a b e

pub same_key_from_test : (a b : List ℕ) → eq_by_cmp key_cmp a b ≡ true → a ≡ b
same_key_from_test a b e = same_key a b (tie_from_test (key_cmp a b) e)

pub key_itself : (a : List ℕ) → key_cmp a a ≡ Equal
key_itself a = tied_itself nat_list_cmp_total a

-- the order, read from the other side
pub reversed : (a b : List ℕ) (o : Ordering) → key_cmp a b ≡ o → key_cmp b a ≡ ordering_reverse o
reversed a b o e = nat_list_cmp_total.antisymm b a ∙ ap ordering_reverse e

-- a key that is not above another, which is below a third
pub le_less : (a b c : List ℕ) → is_le (key_cmp a b) ≡ true → key_cmp b c ≡ Less → key_cmp a c ≡ Less
le_less a b c h l = by_cases (key_cmp a b) refl
  where
    by_cases : (o : Ordering) → key_cmp a b ≡ o → key_cmp a c ≡ Less
    by_cases Less e = nat_list_cmp_total.trans a b c e l
    by_cases Equal e = ap (λ k. key_cmp k c) (same_key a b e) ∙ l
    by_cases Greater e = let no : is_le (key_cmp a b) ≡ false = ap is_le e in cc

pub less_le : (a b c : List ℕ) → key_cmp a b ≡ Less → is_le (key_cmp b c) ≡ true → key_cmp a c ≡ Less
less_le a b c l h = by_cases (key_cmp b c) refl
  where
    by_cases : (o : Ordering) → key_cmp b c ≡ o → key_cmp a c ≡ Less
    by_cases Less e = nat_list_cmp_total.trans a b c l e
    by_cases Equal e = ap (key_cmp a) (sym (same_key b c e)) ∙ l
    by_cases Greater e = let no : is_le (key_cmp b c) ≡ false = ap is_le e in cc

pub le_le : (a b c : List ℕ) → is_le (key_cmp a b) ≡ true → is_le (key_cmp b c) ≡ true → is_le (key_cmp a c) ≡ true
le_le a b c h g = by_cases (key_cmp b c) refl
  where
    by_cases : (o : Ordering) → key_cmp b c ≡ o → is_le (key_cmp a c) ≡ true
    by_cases Less e = ap is_le (le_less a b c h e)
    by_cases Equal e = ap (λ k. is_le (key_cmp a k)) (sym (same_key b c e)) ∙ h
    by_cases Greater e = let no : is_le (key_cmp b c) ≡ false = ap is_le e in cc

pub le_from_less : (a b : List ℕ) → key_cmp a b ≡ Less → is_le (key_cmp a b) ≡ true
le_from_less a b e = ap is_le e

pub le_itself : (a : List ℕ) → is_le (key_cmp a a) ≡ true
le_itself a = ap is_le (key_itself a)

-- of two keys the first is not above the second, or the second is below the first
pub below_from_not_le : (a b : List ℕ) → is_le (key_cmp a b) ≡ false → key_cmp b a ≡ Less
below_from_not_le a b h = by_cases (key_cmp a b) refl
  where
    by_cases : (o : Ordering) → key_cmp a b ≡ o → key_cmp b a ≡ Less
    by_cases Less e = let no : is_le (key_cmp a b) ≡ true = ap is_le e in cc
    by_cases Equal e = let no : is_le (key_cmp a b) ≡ true = ap is_le e in cc
    by_cases Greater e = reversed a b Greater e

pub not_le_from_below : (a b : List ℕ) → key_cmp b a ≡ Less → is_le (key_cmp a b) ≡ false
not_le_from_below a b h = ap is_le (reversed b a Less h)

-- no key is below another that is not above it
pub below_and_le : (a b : List ℕ) → key_cmp a b ≡ Less → is_le (key_cmp b a) ≡ true → ⊥
below_and_le a b h g = both_ways _ (not_le_from_below b a h) g

-- ---- the keys of a subtree

-- each path lies at the root or below it
pub at_or_inside_root : (top x : Path) → is_root top ≡ true → is_at_or_inside x top ≡ true
at_or_inside_root [] x h = at_or_inside-append [] x
at_or_inside_root (n ∷ top) x h = cc

-- a path is at itself
pub at_itself : (x : Path) → is_at_or_inside x x ≡ true
at_itself x = or_left (same_path x x) (is_inside x x) (same_path-itself x)

-- the keys of a subtree stand before those of each path behind it
pub subtree_before : (top x y : Path) (i j : ℕ) → IsTrue (is_path top) → IsTrue (is_path y)
    → is_at_or_inside x top ≡ true → is_at_or_inside y top ≡ false → path_cmp top y ≡ Less
    → key_cmp (key x i) (key y j) ≡ Less
subtree_before top x y i j valid path inside outside behind = by_root (is_root top) refl
  where
    by_root : (b : Bool) → is_root top ≡ b → key_cmp (key x i) (key y j) ≡ Less
    by_root true e = absurd (both_ways _ outside (at_or_inside_root top y e))
    by_root false e = nat_list_cmp_total.trans (key x i) (past_bytes top) (key y j)
        (subtree_before_past top x i e inside) (past_before_later top y j e valid path outside behind)

-- the first key of a subtree is not above its others
front_is_lowest : (top s : Path) → is_le (path_cmp top (top ++ s)) ≡ true
front_is_lowest [] [] = refl
front_is_lowest [] (n ∷ s) = refl
front_is_lowest (n ∷ top) s = ap (λ o. is_le (ordering_then o (path_cmp top (top ++ s)))) (key_itself n)
    ∙ front_is_lowest top s

zero_is_lowest : (n : ℕ) → is_le (nat_cmp 0 n) ≡ true
zero_is_lowest zero = refl
zero_is_lowest (suc n) = ap is_le (nat_cmp-lt 0 (suc n) (omega arith))

pub top_is_lowest : (top x : Path) (i : ℕ) → IsTrue (is_place top) → IsTrue (is_place x) → i < 4294967296
    → is_at_or_inside x top ≡ true → is_le (key_cmp (key top 0) (key x i)) ≡ true
top_is_lowest top x i path valid l inside =
    ap is_le (order_of_keys top x 0 i path valid (omega arith) l)
    ∙ both (path_cmp top x) (nat_cmp 0 i) (ap (λ y. is_le (path_cmp top y)) (at_or_inside-split x top inside)
    ∙ front_is_lowest top (drop (length top) x)) (zero_is_lowest i)
  where
    both : (a b : Ordering) → is_le a ≡ true → is_le b ≡ true → is_le (ordering_then a b) ≡ true
    both Less b h g = refl
    both Equal b h g = g
    both Greater b h g = h

-- the first key is not below itself
pub le_at_first : (top : Path) (k : List ℕ) → k ≡ key top 0 → is_le (key_cmp (key top 0) k) ≡ true
le_at_first top k e = ap (λ q. is_le (key_cmp (key top 0) q)) e ∙ ap is_le (key_itself (key top 0))

-- the keys of a place stand before those of a later one
pub less_keys : (a b : Path) (i j : ℕ) → IsTrue (is_place a) → IsTrue (is_place b) → i < 4294967296 → j < 4294967296
    → path_cmp a b ≡ Less → key_cmp (key a i) (key b j) ≡ Less
less_keys a b i j ha hb hi hj l = order_of_keys a b i j ha hb hi hj ∙ ap (λ o. ordering_then o (nat_cmp i j)) l

-- and keys that tie are those of one place and number
pub same_place : (a b : Path) (i j : ℕ) → IsTrue (is_place a) → IsTrue (is_place b) → i < 4294967296 → j < 4294967296
    → key a i ≡ key b j → (a ≡ b) × (i ≡ j)
same_place a b i j ha hb hi hj e = by_parts (path_cmp a b) (nat_cmp i j) refl refl
    (sym (order_of_keys a b i j ha hb hi hj) ∙ ap (key_cmp (key a i)) (sym e) ∙ key_itself (key a i))
  where
    by_parts : (o r : Ordering) → path_cmp a b ≡ o → nat_cmp i j ≡ r → ordering_then o r ≡ Equal → (a ≡ b) × (i ≡ j)
    by_parts Less r f g h = cc
    by_parts Greater r f g h = cc
    by_parts Equal Less f g h = cc
    by_parts Equal Greater f g h = cc
    by_parts Equal Equal f g h = (same_from_tie a b f, nat_cmp-IsAntisymmetric i j g)

-- ---- the stretch of a subtree

-- the key past a subtree, byte by byte
end_written : (top : Path) → is_root top ≡ false → end_of top ≡ past_bytes top
end_written top below = past_written top below

-- the keys of places at a path or below it stand before its end
pub before_end : (top x : Path) (i : ℕ) → is_at_or_inside x top ≡ true → IsBeforeEnd top (key x i)
before_end top x i inside below = ap (key_cmp (key x i)) (end_written top below)
    ∙ subtree_before_past top x i below inside

-- and those are all keys of places from the path's first key on and before its end
pub within_stretch : (top x : Path) (i : ℕ) → IsTrue (is_path top) → IsTrue (is_place x) → i < 4294967296
    → is_le (key_cmp (key top 0) (key x i)) ≡ true → IsBeforeEnd top (key x i) → is_at_or_inside x top ≡ true
within_stretch top x i path place l low before = by_root (is_root top) refl
  where
    not_outside : is_root top ≡ false → is_at_or_inside x top ≡ false → (o : Ordering) → path_cmp top x ≡ o → ⊥
    not_outside below outside Less e =
        below_and_le (key x i) (end_of top) (before below)
        (ap (λ k. is_le (key_cmp k (key x i))) (end_written top below)
        ∙ past_not_above top x i below path place outside e)
    not_outside below outside Equal e =
        both_ways _ outside (ap (λ z. is_at_or_inside z top) (sym (same_from_tie top x e)) ∙ at_itself top)
    not_outside below outside Greater e =
        both_ways _ (ap is_le (order_of_keys top x 0 i (place_of_path top path) place (omega arith) l
        ∙ ap (λ o. ordering_then o (nat_cmp 0 i)) e)) low

    by_test : is_root top ≡ false → (b : Bool) → is_at_or_inside x top ≡ b → is_at_or_inside x top ≡ true
    by_test below true e = e
    by_test below false e = absurd (not_outside below e (path_cmp top x) refl)

    by_root : (b : Bool) → is_root top ≡ b → is_at_or_inside x top ≡ true
    by_root true r = at_or_inside_root top x r
    by_root false r = by_test r (is_at_or_inside x top) refl

-- a key that does not stand before the end stands behind those that do
pub behind_end : (top : Path) (k q : List ℕ) → (IsBeforeEnd top k → ⊥) → IsBeforeEnd top q → key_cmp q k ≡ Less
behind_end top k q behind before = by_root (is_root top) refl
  where
    by_order : is_root top ≡ false → (o : Ordering) → key_cmp k (end_of top) ≡ o → key_cmp q k ≡ Less
    by_order below Less e = absurd (behind (λ r. e))
    by_order below Equal e = less_le q (end_of top) k (before below) (ap is_le (reversed k (end_of top) Equal e))
    by_order below Greater e = less_le q (end_of top) k (before below) (ap is_le (reversed k (end_of top) Greater e))

    by_root : (b : Bool) → is_root top ≡ b → key_cmp q k ≡ Less
    by_root true r = absurd (behind (λ below. absurd (both_ways _ below r)))
    by_root false r = by_order r (key_cmp k (end_of top)) refl
