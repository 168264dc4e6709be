-- The last of the marks.
use Rattle.std.proofs.Common.{◌≡◌, suc, ◌-◌, List, [], ◌∷◌, ◌++◌, length, true, false, cond, IsTrue, Option, Some, None}
use Rattle.std.proofs.Common.{refl, sym, ap, subst, ◌∙◌, arith, Ordering, Less, Equal, Greater}
use Rattle.std.specs.Ordering.{is_eq, is_le, ordering_reverse}
use Rattle.std.specs.FinMap.{find, is_sorted}
use Rattle.std.specs.List.{AllByRecursion, slice_get}
use Rattle.std.specs.List.Sorted.{IsStrictlySortedBy}
use Rattle.std.proofs.lemmas.Bool.{false≢true}
use Rattle.std.proofs.lemmas.List.{map-append}
use Rattle.store_model.specs.Paths.{Path, path_cmp}
use Rattle.store_model.proofs.ListsLemmas.{all_back, rising_from_is_sorted, rising_head, rising_tail}
use Rattle.store_model.proofs.TreesLemmasPaths.{path_cmp_total, same_from_tie}
use Rattle.dump_diff.specs.declared.difference.Mark.{Mark}
use Rattle.dump_diff.specs.declared.difference.Difference.{Difference}
use Rattle.dump_diff.specs.Differences.{marks_of}
use Rattle.dump_diff.specs.Shown.{AreUpTo, MarksPath}
use Rattle.dump_diff.proofs.MarkLists.{found_here}

-- a list with a last element
last_split : (items : List Difference) (d : Difference) → slice_get items (length items - 1) ≡ Some d
    → (front : List Difference) × (items ≡ front ++ d ∷ [])
last_split [] d e = let never : false ≡ true = cc in absurd (false≢true never)
last_split (x ∷ []) d e = let same : x ≡ d = cc in ([], ap (λ (y : Difference). y ∷ []) same)
last_split (x ∷ y ∷ xs) d e =
    let at : length (x ∷ y ∷ xs) - 1 ≡ suc (length (y ∷ xs) - 1) = omega arith in
    let rest = last_split (y ∷ xs) d (sym (ap (slice_get (x ∷ y ∷ xs)) at) ∙ e) in
    (x ∷ rest.0, ap (λ (more : List Difference). x ∷ more) rest.1)

-- and one without
no_last : (items : List Difference) → slice_get items (length items - 1) ≡ None → items ≡ []
no_last [] e = refl
no_last (x ∷ []) e = cc
no_last (x ∷ y ∷ xs) e =
    let at : length (x ∷ y ∷ xs) - 1 ≡ suc (length (y ∷ xs) - 1) = omega arith in
    let none = no_last (y ∷ xs) (sym (ap (slice_get (x ∷ y ∷ xs)) at) ∙ e) in
    cc

-- a path behind all marks has none
none_of_less : (marks : List (Path × Mark)) (p : Path) → AllByRecursion (λ m. path_cmp m.0 p ≡ Less) marks
    → find path_cmp p marks ≡ None
none_of_less [] p less = refl
none_of_less (m ∷ marks) p less =
    ap (λ b. cond b (Some m.1) (find path_cmp p marks))
    (ap is_eq (path_cmp_total.antisymm p m.0 ∙ ap ordering_reverse less.0)) ∙ none_of_less marks p less.1

-- paths that rise to another one than p, which is up to p, are all before p
all_before : (front : List (Path × Mark)) (q p : Path) (mark : Mark)
    → IsStrictlySortedBy (λ (a b : Path × Mark). path_cmp a.0 b.0) (front ++ (q, mark) ∷ []) → path_cmp q p ≡ Less
    → AllByRecursion (λ m. path_cmp m.0 p ≡ Less) (front ++ (q, mark) ∷ [])
all_before [] q p mark rising l = (l, tt)
all_before (m ∷ front) q p mark rising l =
    let Cmp : (Path × Mark) → (Path × Mark) → Ordering = λ a b. path_cmp a.0 b.0 in
    let head = (all_back (λ n. path_cmp m.0 n.0 ≡ Less) front ((q, mark) ∷ [])
    (rising_head Cmp m (front ++ (q, mark) ∷ []) rising)).0 in (
      path_cmp_total.trans m.0 q p head l,
      all_before front q p mark
          (rising_tail Cmp m (front ++ (q, mark) ∷ []) rising) l,
    )

less_of_other : (q p : Path) → is_le (path_cmp q p) ≡ true → (q ≡ p → ⊥) → path_cmp q p ≡ Less
less_of_other q p le other = by_order (path_cmp q p) refl le
  where
    by_order : (o : Ordering) → path_cmp q p ≡ o → is_le o ≡ true → path_cmp q p ≡ Less
    by_order Less e le = e
    by_order Equal e le = absurd (other (same_from_tie q p e))
    by_order Greater e le = absurd (false≢true le)

marks_split : (items front : List Difference) (d : Difference) → items ≡ front ++ d ∷ []
    → marks_of items ≡ marks_of front ++ (d.path, d.mark) ∷ []
marks_split items front d e = ap marks_of e ∙ map-append (λ (x : Difference). (x.path, x.mark)) front (d ∷ [])

-- those before the last one of paths that rise
front_less : (front : List (Path × Mark)) (p : Path) (mark : Mark)
    → IsStrictlySortedBy (λ (a b : Path × Mark). path_cmp a.0 b.0) (front ++ (p, mark) ∷ [])
    → AllByRecursion (λ m. path_cmp m.0 p ≡ Less) front
front_less [] p mark rising = tt
front_less (m ∷ front) p mark rising =
    let Cmp : (Path × Mark) → (Path × Mark) → Ordering = λ a b. path_cmp a.0 b.0 in (
      (all_back (λ n. path_cmp m.0 n.0 ≡ Less) front ((p, mark) ∷ [])
          (rising_head Cmp m (front ++ (p, mark) ∷ []) rising)).0,
      front_less front p mark
          (rising_tail Cmp m (front ++ (p, mark) ∷ []) rising),
    )

-- a path whose mark is the last
pub marked_last : (items : List Difference) (d : Difference) (p : Path) → IsTrue (is_sorted path_cmp (marks_of items))
    → slice_get items (length items - 1) ≡ Some d → d.path ≡ p → find path_cmp p (marks_of items) ≡ Some d.mark
marked_last items d p rising last same =
    let split = last_split items d last in
    let marks : marks_of items ≡ marks_of split.0 ++ (p, d.mark) ∷ [] =
    marks_split items split.0 d split.1 ∙ ap (λ (q : Path). marks_of split.0 ++ (q, d.mark) ∷ []) same in
    let rises = subst (IsStrictlySortedBy (λ (a b : Path × Mark). path_cmp a.0 b.0)) marks
    (rising_from_is_sorted path_cmp (marks_of items) rising) in
    ap (find path_cmp p) marks ∙ found_here (marks_of split.0) p
    d.mark (none_of_less (marks_of split.0) p (front_less (marks_of split.0) p d.mark rises))

-- one that has none
pub unmarked : (items : List Difference) (p : Path) → IsTrue (is_sorted path_cmp (marks_of items))
    → AreUpTo (marks_of items) p
    → ((d : Difference) → slice_get items (length items - 1) ≡ Some d → d.path ≡ p → ⊥)
    → find path_cmp p (marks_of items) ≡ None
unmarked items p rising upto other = by_last (slice_get items (length items - 1)) refl
  where
    by_last : (last : Option Difference) → slice_get items (length items - 1) ≡ last
        → find path_cmp p (marks_of items) ≡ None
    by_last None e = ap (λ (xs : List Difference). find path_cmp p (marks_of xs)) (no_last items e)
    by_last (Some d) e =
        let split = last_split items d e in
        let marks : marks_of items ≡ marks_of split.0 ++ (d.path, d.mark) ∷ [] = marks_split items split.0 d split.1 in
        let le = (all_back (λ m. is_le (path_cmp m.0 p) ≡ true) (marks_of split.0) ((d.path, d.mark) ∷ [])
        (subst (λ (ms : List (Path × Mark)). AreUpTo ms p) marks upto)).0 in
        let rises = subst (IsStrictlySortedBy (λ (a b : Path × Mark). path_cmp a.0 b.0)) marks
        (rising_from_is_sorted path_cmp (marks_of items) rising) in
        ap (find path_cmp p) marks ∙ none_of_less (marks_of split.0 ++ (d.path, d.mark) ∷ []) p
        (all_before (marks_of split.0) d.path p d.mark rises (less_of_other d.path p le (other d e)))

-- one that has none is marked behind all others
pub marked_more : (items : List Difference) (p : Path) (mark : Mark) → find path_cmp p (marks_of items) ≡ None
    → MarksPath (marks_of items) (marks_of (items ++ record { path = p; mark = mark } ∷ [])) p mark mark
marked_more items p mark none =
    let more : marks_of (items ++ record { path = p; mark = mark } ∷ []) ≡ marks_of items ++ (p, mark) ∷ [] =
    map-append (λ (x : Difference). (x.path, x.mark)) items (record { path = p; mark = mark } ∷ []) in
    record {
      marked = record { there = λ m e. let never : None ≡ Some m = sym none ∙ e in cc; added = λ e. more };
      known_is = ap (find path_cmp p) more ∙ found_here (marks_of items) p mark none;
    }
