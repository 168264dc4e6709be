-- Lemmas on paths: which are equal, which lie below another, and where a parent and a moved path lie.
use Rattle.std.proofs.Common.{◌≡◌, suc, ◌-◌, [], ◌∷◌, ◌++◌, length, take, drop, Bool, true, false, ◌&&◌, ◌⊎◌, inl, inr}
use Rattle.std.proofs.Common.{nat_lt, arith, refl, sym, ap, ◌∙◌, Ordering, Less, Equal, Greater, lt-ltb}
use Rattle.std.specs.Ordering.{is_eq}
use Rattle.std.specs.Cmp.{IsTotalOrder, tied_itself}
use Rattle.std.specs.Cmp.Lexicographic.{nat_list_cmp_total, lists_total}
use Rattle.std.specs.FinMap.{slice_cmp-IsAntisymmetric, nat_cmp-IsAntisymmetric}
use Rattle.std.proofs.lemmas.Bool.{and_parts, and_from, or_cases, or_left, or_right, cond-true, cond-false, cond_both}
use Rattle.std.proofs.lemmas.Bool.{false_from_ne_true, both_ways}
use Rattle.std.proofs.lemmas.List.{append-nil, append_assoc, append_cancel_left, length-append, length-drop}
use Rattle.std.proofs.lemmas.List.{take-append-drop, take_at, drop_at, take_all}
use Rattle.store_model.specs.Paths.{Path, Name, is_root, path_cmp, same_path, parent, is_inside, is_at_or_inside}
use Rattle.store_model.specs.Paths.{replanted}
use Rattle.store_model.specs.Trees.{moved_path}

-- ---- paths that compare as equal are equal

-- the order of paths is total
pub path_cmp_total : IsTotalOrder path_cmp
path_cmp_total = lists_total nat_list_cmp_total

-- only equal paths tie
pub same_from_tie : (p q : Path) → path_cmp p q ≡ Equal → p ≡ q
same_from_tie = slice_cmp-IsAntisymmetric (slice_cmp-IsAntisymmetric nat_cmp-IsAntisymmetric)

-- the answer `Equal`, from its test
pub tie_from_test : (o : Ordering) → is_eq o ≡ true → o ≡ Equal
tie_from_test Less e = cc
tie_from_test Equal e = refl
tie_from_test Greater e = cc

-- paths that the test takes for the same are equal
pub same_from_test : (p q : Path) → same_path p q ≡ true → p ≡ q
same_from_test p q e = same_from_tie p q (tie_from_test (path_cmp p q) e)

-- a path is the same as itself
pub same_path-itself : (p : Path) → same_path p p ≡ true
same_path-itself p = ap is_eq (tied_itself path_cmp_total p)

-- equal paths are the same
pub same_path-from_equal : (p q : Path) → p ≡ q → same_path p q ≡ true
same_path-from_equal p q e = ap (same_path p) (sym e) ∙ same_path-itself p

-- ---- a path below another is that path and more names

-- what lies below a path
pub inside-append : (p : Path) (n : Name) (s : Path) → is_inside (p ++ n ∷ s) p ≡ true
unfolding is_inside
inside-append p n s = and_from _ _ (lt-ltb (length p) (length (p ++ n ∷ s)) (omega (arith, length-append p (n ∷ s))))
    (same_path-from_equal _ p (take_at p (n ∷ s) (length p) refl))

-- what lies at a path or below it
pub at_or_inside-append : (p s : Path) → is_at_or_inside (p ++ s) p ≡ true
at_or_inside-append p [] = or_left _ _ (same_path-from_equal (p ++ []) p (append-nil p))
at_or_inside-append p (n ∷ s) = or_right (same_path (p ++ n ∷ s) p) _ (inside-append p n s)

-- the names behind a path that starts so
behind_front : (p x : Path) → take (length p) x ≡ p → x ≡ p ++ drop (length p) x
behind_front p x e = sym (take-append-drop (length p) x) ∙ ap (λ front. front ++ drop (length p) x) e

-- and the other way round
pub at_or_inside-split : (x p : Path) → is_at_or_inside x p ≡ true → x ≡ p ++ drop (length p) x
unfolding is_inside
at_or_inside-split x p h = by_case (or_cases (same_path x p) _ h)
  where
    by_case : (same_path x p ≡ true) ⊎ ((nat_lt (length p) (length x) && same_path (take (length p) x) p) ≡ true)
        → x ≡ p ++ drop (length p) x
    by_case (inl e) = let same : x ≡ p = same_from_test x p e
        in behind_front p x (take_all (length p) x (omega (arith, ap length same)) ∙ same)
    by_case (inr e) = behind_front p x (same_from_test _ p (and_parts (nat_lt (length p) (length x)) _ e).1)

-- ---- the parent of a path

-- behind the parent stands one name
pub last_step : (x : Path) → is_root x ≡ false → (n : Name) × (x ≡ parent x ++ n ∷ [])
unfolding parent
last_step [] h = cc
last_step (m ∷ x) h = one (drop (suc (length x) - 1) (m ∷ x)) (length-drop (suc (length x) - 1) (m ∷ x)) refl
  where
    one : (rest : Path) → length rest ≡ suc (length x) - (suc (length x) - 1) → drop (suc (length x) - 1) (m ∷ x) ≡ rest
        → (n : Name) × (m ∷ x ≡ take (suc (length x) - 1) (m ∷ x) ++ n ∷ [])
    one [] l e = absurd (omega arith)
    one (n ∷ []) l e = (
      n,
      sym (take-append-drop (suc (length x) - 1) (m ∷ x))
          ∙ ap (λ back. take (suc (length x) - 1) (m ∷ x) ++ back) e,
    )
    one (n ∷ k ∷ rest) l e = absurd (omega arith)

-- the root is its own parent
pub parent-root : parent [] ≡ []
unfolding parent
parent-root = refl

-- the parent of a path and one more name
pub parent-push : (p : Path) (n : Name) → parent (p ++ n ∷ []) ≡ p
unfolding parent
parent-push p n = take_at p (n ∷ []) _ (omega (arith, length-append p (n ∷ [])))

-- the root has no name in front of others
pub not_root-append : (p s : Path) → is_root p ≡ false → is_root (p ++ s) ≡ false
not_root-append [] s h = cc
not_root-append (n ∷ p) s h = refl

-- a path and one more name is not the root
pub not_root-push : (p : Path) (n : Name) → is_root (p ++ n ∷ []) ≡ false
not_root-push [] n = refl
not_root-push (m ∷ p) n = refl

-- what lies below a path's child lies below the path
pub at_or_inside-push : (x p : Path) (n : Name) → is_at_or_inside x p ≡ true → is_at_or_inside (x ++ n ∷ []) p ≡ true
at_or_inside-push x p n h =
    let s = drop (length p) x in
    let e : x ++ n ∷ [] ≡ p ++ (s ++ n ∷ []) = ap (λ y. y ++ n ∷ []) (at_or_inside-split x p h)
    ∙ append_assoc p s (n ∷ []) in
    ap (λ y. is_at_or_inside y p) e ∙ at_or_inside-append p (s ++ n ∷ [])

-- where the parent lies at a path or below it, so does the path
pub at_or_inside_from_parent : (x p : Path) → is_at_or_inside (parent x) p ≡ true → is_at_or_inside x p ≡ true
at_or_inside_from_parent [] p h = ap (λ y. is_at_or_inside y p) (sym parent-root) ∙ h
at_or_inside_from_parent (m ∷ x) p h =
    let step = last_step (m ∷ x) refl in
    ap (λ y. is_at_or_inside y p) step.1 ∙ at_or_inside-push (parent (m ∷ x)) p step.0 h

-- where the parent lies at a path or below it, the path lies below it
pub inside_from_parent : (x p : Path) → is_root x ≡ false → is_at_or_inside (parent x) p ≡ true → is_inside x p ≡ true
inside_from_parent x p below h =
    let step = last_step x below in
    let s = drop (length p) (parent x) in
    below_push s step.0 (step.1 ∙ ap (λ y. y ++ step.0 ∷ []) (at_or_inside-split (parent x) p h)
    ∙ append_assoc p s (step.0 ∷ []))
  where
    below_push : (s : Path) (n : Name) → x ≡ p ++ (s ++ n ∷ []) → is_inside x p ≡ true
    below_push [] n e = ap (λ y. is_inside y p) e ∙ inside-append p n []
    below_push (m ∷ s) n e = ap (λ y. is_inside y p) e ∙ inside-append p m (s ++ n ∷ [])

-- ---- moved paths

-- what lies at the path that is moved, or below it
pub moved_path-below : (from to s : Path) → moved_path from to (from ++ s) ≡ to ++ s
unfolding replanted
moved_path-below from to s = cond-true _ _ (from ++ s) (at_or_inside-append from s)
    ∙ ap (λ back. to ++ back) (drop_at from s (length from) refl)

-- the same, for a path that the test finds there
pub moved_path_there : (from to x : Path) → is_at_or_inside x from ≡ true
    → moved_path from to x ≡ to ++ drop (length from) x
unfolding replanted
moved_path_there from to x h = cond-true _ _ x h

-- what lies elsewhere
pub moved_path_elsewhere : (from to x : Path) → is_at_or_inside x from ≡ false → moved_path from to x ≡ x
moved_path_elsewhere from to x h = cond-false _ (replanted from to x) x h

-- the path itself
pub moved_path-itself : (from to : Path) → moved_path from to from ≡ to
moved_path-itself from to = ap (moved_path from to) (sym (append-nil from))
    ∙ moved_path-below from to [] ∙ append-nil to

-- the root lies below no other path
pub root_elsewhere : (p : Path) → is_root p ≡ false → is_at_or_inside [] p ≡ false
root_elsewhere [] h = cc
root_elsewhere (n ∷ p) h = false_from_ne_true _ (λ e. let no = at_or_inside-split [] (n ∷ p) e in cc)

-- a moved path is not the root where neither the path nor the target is
pub moved_not_root : (from to x : Path) → is_root to ≡ false → is_root x ≡ false
    → is_root (moved_path from to x) ≡ false
unfolding replanted
moved_not_root from to x h g = cond_both (is_at_or_inside x from) _ x (λ y. is_root y ≡ false)
    (λ e. not_root-append to (drop (length from) x) h) (λ e. g)

-- the parent of what lies strictly below the path that is moved moves along
parent_below : (from to s : Path) → is_root s ≡ false
    → parent (moved_path from to (from ++ s)) ≡ moved_path from to (parent (from ++ s))
parent_below from to s below =
    let step = last_step s below in
    let at = λ (p : Path). ap (λ y. p ++ y) step.1 ∙ sym (append_assoc p (parent s) (step.0 ∷ [])) in
    ap parent (moved_path-below from to s ∙ at to) ∙ parent-push (to ++ parent s) step.0
    ∙ sym (ap (moved_path from to) (ap parent (at from) ∙ parent-push (from ++ parent s) step.0)
    ∙ moved_path-below from to (parent s))

-- the parent of a moved path is the moved parent, but at the path itself
pub parent-moved_path : (from to x : Path) → is_root x ≡ false → (x ≡ from → ⊥)
    → parent (moved_path from to x) ≡ moved_path from to (parent x)
parent-moved_path from to x below other = by_place (is_at_or_inside x from) refl
  where
    not_itself : (s : Path) → x ≡ from ++ s → is_root s ≡ false
    not_itself [] e = absurd (other (e ∙ append-nil from))
    not_itself (n ∷ s) e = refl

    by_place : (b : Bool) → is_at_or_inside x from ≡ b → parent (moved_path from to x) ≡ moved_path from to (parent x)
    by_place true h =
        let e = at_or_inside-split x from h in
        ap (λ y. parent (moved_path from to y)) e ∙ parent_below from to (drop (length from) x) (not_itself _ e)
        ∙ ap (λ y. moved_path from to (parent y)) (sym e)
    by_place false h =
        ap parent (moved_path_elsewhere from to x h)
        ∙ sym (moved_path_elsewhere from to (parent x)
        (false_from_ne_true _ (λ e. both_ways _ h (at_or_inside_from_parent x from e))))

-- paths away from the target move to different paths
pub moved_path_once : (from to x y : Path) → is_at_or_inside x to ≡ false → is_at_or_inside y to ≡ false
    → moved_path from to x ≡ moved_path from to y → x ≡ y
moved_path_once from to x y hx hy e = by_places (is_at_or_inside x from) (is_at_or_inside y from) refl refl
  where
    by_places : (a b : Bool) → is_at_or_inside x from ≡ a → is_at_or_inside y from ≡ b → x ≡ y
    by_places true true p q =
        let same = append_cancel_left to _ _ (sym (moved_path_there from to x p) ∙ e ∙ moved_path_there from to y q) in
        at_or_inside-split x from p ∙ ap (λ s. from ++ s) same ∙ sym (at_or_inside-split y from q)
    by_places true false p q =
        let is : y ≡ to ++ drop (length from) x = sym (moved_path_elsewhere from to y q) ∙ sym e
        ∙ moved_path_there from to x p in
        absurd (both_ways _ hy (ap (λ z. is_at_or_inside z to) is ∙ at_or_inside-append to _))
    by_places false true p q =
        let is : x ≡ to ++ drop (length from) y = sym (moved_path_elsewhere from to x p) ∙ e
        ∙ moved_path_there from to y q in
        absurd (both_ways _ hx (ap (λ z. is_at_or_inside z to) is ∙ at_or_inside-append to _))
    by_places false false p q = sym (moved_path_elsewhere from to x p) ∙ e ∙ moved_path_elsewhere from to y q
