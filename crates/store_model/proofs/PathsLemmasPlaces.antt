-- Lemmas on places: where the attributes of paths stand among paths.
use Rattle.std.proofs.Common.{◌≡◌, [], ◌∷◌, ◌++◌, length, refl, sym, ap, ◌∙◌, arith, ◌&&◌, IsTrue, leb-true, nat_le}
use Rattle.std.proofs.Common.{Ordering, Less, Equal, Greater}
use Rattle.std.specs.Ordering.{ordering_then}
use Rattle.std.specs.List.{list_all}
use Rattle.std.specs.Cmp.{IsTotalOrder, tied_itself}
use Rattle.std.specs.Cmp.Lexicographic.{nat_list_cmp_total}
use Rattle.std.specs.FinMap.{slice_cmp-IsAntisymmetric, nat_cmp-IsAntisymmetric}
use Rattle.std.proofs.lemmas.List.{append_cancel_left}
use Rattle.store_model.specs.Paths.{Path, Name, is_name, is_name_byte, attribute_mark, attribute_place, name_cmp}
use Rattle.store_model.specs.Paths.{path_cmp, parent}
use Rattle.store_model.proofs.ListsLemmas.{first_true, second_true, nat_cmp-lt, then-Equal}
use Rattle.store_model.proofs.TreesLemmasPaths.{path_cmp_total, parent-push}

-- the order of names is total
pub name_cmp_total : IsTotalOrder name_cmp
name_cmp_total = nat_list_cmp_total

-- only equal names tie
pub same_name_from_tie : (a b : Name) → name_cmp a b ≡ Equal → a ≡ b
same_name_from_tie = slice_cmp-IsAntisymmetric nat_cmp-IsAntisymmetric

-- a name ties with itself
name_cmp-itself : (n : Name) → name_cmp n n ≡ Equal
name_cmp-itself n = tied_itself nat_list_cmp_total n

-- ---- what stands before what

-- a path stands before what lies below it
pub below_longer : (p : Path) (n : Name) (s : Path) → path_cmp p (p ++ n ∷ s) ≡ Less
below_longer [] n s = refl
below_longer (m ∷ p) n s = ap (λ o. ordering_then o (path_cmp p (p ++ n ∷ s))) (name_cmp-itself m) ∙ below_longer p n s

-- what stands before a path stands before what lies below the path
pub before_longer : (p q : Path) (n : Name) (s : Path) → path_cmp p q ≡ Less → path_cmp p (q ++ n ∷ s) ≡ Less
before_longer p q n s l = path_cmp_total.trans p q (q ++ n ∷ s) l (below_longer q n s)

-- the mark stands before each byte of a name
mark_before_name : (a m : Name) → IsTrue (is_name m) → name_cmp (attribute_mark ∷ a) m ≡ Less
mark_before_name a [] h = cc
mark_before_name a (c ∷ m) h =
    let front : IsTrue (nat_le 1 (length (c ∷ m)) && list_all is_name_byte (c ∷ m)) =
    first_true _ _ (first_true _ _ h) in
    let byte : IsTrue (is_name_byte c) = first_true (is_name_byte c) _ (second_true (nat_le 1 (length (c ∷ m))) _ front)
    in
    let above = leb-true 0x21 c (first_true _ _ (first_true _ _ byte)) in
    ap (λ o. ordering_then o (name_cmp a m)) (nat_cmp-lt 1 c (omega arith))

-- an attribute of a path stands before each path behind that one, also before those below it
pub attribute_before : (p q : Path) (a : Name) → IsTrue (list_all is_name q) → path_cmp p q ≡ Less
    → path_cmp (attribute_place p a) q ≡ Less
attribute_before [] [] a h l = cc
attribute_before [] (m ∷ q) a h l =
    ap (λ o. ordering_then o (path_cmp [] q)) (mark_before_name a m (first_true (is_name m) _ h))
attribute_before (n ∷ p) [] a h l = cc
attribute_before (n ∷ p) (m ∷ q) a h l =
    by_first (name_cmp n m) (λ k. attribute_before p q a (second_true (is_name m) _ h) k) l
  where
    by_first : (o : Ordering) → (path_cmp p q ≡ Less → path_cmp (attribute_place p a) q ≡ Less)
        → ordering_then o (path_cmp p q) ≡ Less → ordering_then o (path_cmp (attribute_place p a) q) ≡ Less
    by_first Less rest l = refl
    by_first Equal rest l = rest l
    by_first Greater rest l = cc

-- and before the attributes of such a path
pub attribute_before_attribute : (p q : Path) (a b : Name) → IsTrue (list_all is_name q) → path_cmp p q ≡ Less
    → path_cmp (attribute_place p a) (attribute_place q b) ≡ Less
attribute_before_attribute p q a b h l =
    before_longer (attribute_place p a) q (attribute_mark ∷ b) [] (attribute_before p q a h l)

-- the attributes of one path have the order of their names
pub order_of_attributes : (p : Path) (a b : Name) → path_cmp (attribute_place p a) (attribute_place p b) ≡ name_cmp a b
order_of_attributes [] a b = then-Equal (name_cmp a b)
order_of_attributes (m ∷ p) a b = ap (λ o. ordering_then o (path_cmp (attribute_place p a) (attribute_place p b)))
    (name_cmp-itself m) ∙ order_of_attributes p a b

-- ---- a place tells what stands there

-- an attribute's place is no path
pub attribute_is_no_path : (p q : Path) (a : Name) → IsTrue (list_all is_name q) → attribute_place p a ≡ q → ⊥
attribute_is_no_path p q a h e = not_marked p (ap (λ (x : Path). list_all is_name x) e ∙ h)
  where
    not_marked : (x : Path) → IsTrue (list_all is_name (attribute_place x a)) → ⊥
    not_marked [] g = let less = mark_before_name a (attribute_mark ∷ a) (first_true (is_name (attribute_mark ∷ a)) _ g)
        in let tied = name_cmp-itself (attribute_mark ∷ a) in cc
    not_marked (n ∷ x) g = not_marked x (second_true (is_name n) _ g)

-- it tells the path and the name
pub same_attribute_place : (p q : Path) (a b : Name) → attribute_place p a ≡ attribute_place q b → (p ≡ q) × (a ≡ b)
same_attribute_place p q a b e =
    let path : p ≡ q = sym (parent-push p (attribute_mark ∷ a)) ∙ ap parent e ∙ parent-push q (attribute_mark ∷ b) in
    (path, tied (append_cancel_left p _ _ (e ∙ ap (λ (x : Path). attribute_place x b) (sym path))))
  where
    tied : (attribute_mark ∷ a) ∷ [] ≡ (attribute_mark ∷ b) ∷ [] → a ≡ b
    tied e = cc
