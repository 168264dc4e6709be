-- What is left of differences without the losses that don't count.
use Rattle.std.proofs.Common.{◌≡◌, ℕ, zero, suc, ◌+◌, ◌<◌, List, [], ◌∷◌, map, length, Bool, true, false, ◌&&◌, ◌||◌}
use Rattle.std.proofs.Common.{cond}
use Rattle.std.proofs.Common.{IsTrue, Result, Ok, Err, is_ok, get_or, refl, sym, ap, ap₂, subst, ◌∙◌, arith, Ordering}
use Rattle.std.proofs.Common.{Less}
use Rattle.std.proofs.Common.{Equal, Greater}
use Rattle.std.specs.Ordering.{is_lt, is_eq, ordering_then, ordering_reverse}
use Rattle.std.specs.FinMap.{is_sorted}
use Rattle.std.specs.List.{filter, AllWithin}
use Rattle.std.specs.List.Sorted.{IsStrictlySortedBy, IsSortedBy, IsSearchInRange, IsBinarySearchResult}
use Rattle.std.proofs.lemmas.List.Kept.{IsStrictlySortedBy-filter}
use Rattle.std.proofs.lemmas.List.Sorted.{searchable_from_sorted}
use Rattle.store_model.specs.Paths.{Path, Name, path_cmp, name_cmp, same_path}
use Rattle.store_model.proofs.ListsLemmas.{rising_head, rising_tail, rising_from_is_sorted, is_sorted_from_rising}
use Rattle.store_model.proofs.TreesLemmasPaths.{path_cmp_total}
use Rattle.dump_diff.specs.declared.difference.Side.{Side}
use Rattle.dump_diff.specs.declared.difference.Difference.{Difference}
use Rattle.dump_diff.specs.declared.difference.AttributeDifference.{AttributeDifference}
use Rattle.dump_diff.specs.Differences.{marks_of}
use Rattle.dump_diff.specs.Scripts.{AttributePlace, attribute_cmp, sides_of}
use Rattle.dump_diff.specs.Gains.{counts_by, counts, counts_at, changes_by, changes_path, has_path}

-- ---- lists

-- what a map gives of the elements that a test of it keeps
map_filter : {X Y : Type 0} (f : X → Y) (test : Y → Bool) (xs : List X)
    → map f (filter (λ x. test (f x)) xs) ≡ filter test (map f xs)
map_filter f test [] = refl
map_filter {X} f test (x ∷ xs) = by_test (map_filter f test xs) (test (f x))
  where
    by_test : map f (filter (λ (y : X). test (f y)) xs) ≡ filter test (map f xs) → (b : Bool)
        → map f (cond b (x ∷ filter (λ (y : X). test (f y)) xs) (filter (λ (y : X). test (f y)) xs))
        ≡ cond b (f x ∷ filter test (map f xs)) (filter test (map f xs))
    by_test rest true = ap (λ ys. f x ∷ ys) rest
    by_test rest false = rest

filter_alike : {X : Type 0} (f g : X → Bool) → ((x : X) → f x ≡ g x) → (xs : List X) → filter f xs ≡ filter g xs
filter_alike f g same [] = refl
filter_alike f g same (x ∷ xs) = ap₂ (λ b ys. cond b (x ∷ ys) ys) (same x) (filter_alike f g same xs)

-- ---- attributes of a path

entry : AttributeDifference → AttributePlace × Side
entry a = ((a.path, a.name), a.side)

turned : (x y : Path) (r : Ordering) → path_cmp x y ≡ r → path_cmp y x ≡ ordering_reverse r
turned x y r e = path_cmp_total.antisymm y x ∙ ap ordering_reverse e

-- what rises by path and name does not fall by path
not_falling : (x y : AttributeDifference) → attribute_cmp (x.path, x.name) (y.path, y.name) ≡ Less
    → is_lt (path_cmp y.path x.path) ≡ false
not_falling x y less = by_order (path_cmp x.path y.path) refl less
  where
    by_order : (o : Ordering) → path_cmp x.path y.path ≡ o → ordering_then o (name_cmp x.name y.name) ≡ Less
        → is_lt (path_cmp y.path x.path) ≡ false
    by_order Less e l = ap is_lt (turned x.path y.path Less e)
    by_order Equal e l = ap is_lt (turned x.path y.path Equal e)
    by_order Greater e l = cc

abbrev Rising : List AttributeDifference → Type 0
Rising xs = IsStrictlySortedBy (λ (a b : AttributePlace × Side). attribute_cmp a.0 b.0) (sides_of xs)

paths_rise : (xs : List AttributeDifference) → Rising xs
    → IsSortedBy (λ (a b : AttributeDifference). is_lt (path_cmp a.path b.path)) xs
paths_rise [] h k d low high = absurd (omega arith)
paths_rise (x ∷ []) h k d low high = absurd (omega arith)
paths_rise (x ∷ y ∷ xs) h zero d low high = not_falling x y
    (rising_head (λ (a b : AttributePlace × Side). attribute_cmp a.0 b.0) ((x.path, x.name), x.side)
    (sides_of (y ∷ xs)) h).0
paths_rise (x ∷ y ∷ xs) h (suc k) d low high =
    let next : suc k + 1 ≡ suc (k + 1) = omega arith in
    subst (λ n. is_lt (path_cmp (get_or (x ∷ y ∷ xs) n d).path (get_or (y ∷ xs) k d).path) ≡ false) (sym next)
    (paths_rise (y ∷ xs) (rising_tail (λ (a b : AttributePlace × Side). attribute_cmp a.0 b.0)
    ((x.path, x.name), x.side) (sides_of (y ∷ xs)) h) k d (omega arith) (omega arith))

some_at : (xs : List AttributeDifference) (q : Path) (i : ℕ) → i < length xs
    → ((d : AttributeDifference) → path_cmp (get_or xs i d).path q ≡ Equal) → has_path xs q ≡ true
some_at [] q i below tied = absurd (omega arith)
some_at (x ∷ xs) q zero below tied =
    ap (λ b. b || has_path xs q) (ap is_eq (turned x.path q Equal (tied x)))
some_at (x ∷ xs) q (suc i) below tied = by_test (same_path q x.path) (some_at xs q i (omega arith) tied)
  where
    by_test : (b : Bool) → has_path xs q ≡ true → (b || has_path xs q) ≡ true
    by_test true rest = refl
    by_test false rest = rest

none_at : (xs : List AttributeDifference) (q : Path) (i : ℕ) → AllWithin (λ x. path_cmp x.path q ≡ Less) xs 0 i
    → AllWithin (λ x. path_cmp x.path q ≡ Greater) xs i (length xs) → has_path xs q ≡ false
none_at [] q i below above = refl
none_at (x ∷ xs) q zero below above =
    ap (λ b. b || has_path xs q) (ap is_eq (turned x.path q Greater (above 0 x (omega arith) (omega arith))))
    ∙ none_at xs q zero (λ k d low high. absurd (omega arith))
    (λ k d low high. above (suc k) d (omega arith) (omega arith))
none_at (x ∷ xs) q (suc i) below above =
    ap (λ b. b || has_path xs q) (ap is_eq (turned x.path q Less (below 0 x (omega arith) (omega arith))))
    ∙ none_at xs q i (λ k d low high. below (suc k) d (omega arith) (omega arith))
    (λ k d low high. above (suc k) d (omega arith) (omega arith))

pub path_searched : (xs : List AttributeDifference) (q : Path) (result : Result ℕ ℕ)
    → IsSearchInRange result (length xs)
    → IsBinarySearchResult (λ (x : AttributeDifference). path_cmp x.path q) xs result
    → IsTrue (is_sorted attribute_cmp (sides_of xs)) → is_ok result ≡ has_path xs q
path_searched xs q (Ok i) range tied sorted = sym (some_at xs q i range tied)
path_searched xs q (Err i) range parted sorted =
    let parts = parted (searchable_from_sorted path_cmp_total (λ (x : AttributeDifference). x.path) xs q
    (paths_rise xs (rising_from_is_sorted attribute_cmp (sides_of xs) sorted))) in
    sym (none_at xs q i parts.0 parts.1)

-- ---- what is left

abbrev pub counts_of : (Name → Bool) → AttributeDifference → Bool
counts_of taken a = counts_by (taken a.name) a.side

pub told_sides : (taken : Name → Bool) (xs : List AttributeDifference)
    → sides_of (filter (counts_of taken) xs) ≡ filter (counts taken) (sides_of xs)
told_sides taken xs = map_filter (λ (a : AttributeDifference). ((a.path, a.name), a.side)) (counts taken) xs

pub told_rise : (taken : Name → Bool) (xs : List AttributeDifference) → IsTrue (is_sorted attribute_cmp (sides_of xs))
    → IsTrue (is_sorted attribute_cmp (sides_of (filter (counts_of taken) xs)))
told_rise taken xs sorted =
    subst (λ (es : List (AttributePlace × Side)). IsTrue (is_sorted attribute_cmp es)) (sym (told_sides taken xs))
    (is_sorted_from_rising attribute_cmp (filter (counts taken) (sides_of xs))
    (IsStrictlySortedBy-filter (λ (a b : AttributePlace × Side). attribute_cmp a.0 b.0) (counts taken) (sides_of xs)
    (rising_from_is_sorted attribute_cmp (sides_of xs) sorted)))

told_paths : (taken : Name → Bool) (xs : List AttributeDifference) (p : Path)
    → has_path (filter (counts_of taken) xs) p ≡ counts_at taken (sides_of xs) p
told_paths taken [] p = refl
told_paths taken (x ∷ xs) p = by_test (told_paths taken xs p) (counts_of taken x)
  where
    by_test : has_path (filter (counts_of taken) xs) p ≡ counts_at taken (sides_of xs) p → (b : Bool)
        → has_path (cond b (x ∷ filter (counts_of taken) xs) (filter (counts_of taken) xs)) p
        ≡ ((b && same_path p x.path) || counts_at taken (sides_of xs) p)
    by_test rest true = ap (λ b. same_path p x.path || b) rest
    by_test rest false = rest

pub changed_marks : (gone : Bool) (taken : Name → Bool) (attributes left : List AttributeDifference)
    (paths kept : List Difference) → left ≡ filter (counts_of taken) attributes
    → IsTrue (is_sorted attribute_cmp (sides_of attributes))
    → (IsTrue (is_sorted attribute_cmp (sides_of left))
    → kept ≡ filter (λ (d : Difference). changes_by gone d.mark (has_path left d.path)) paths)
    → marks_of kept ≡ filter (changes_path gone taken (sides_of attributes)) (marks_of paths)
changed_marks gone taken attributes left paths kept is sorted retained =
    ap marks_of (retained (subst (λ (xs : List AttributeDifference). IsTrue (is_sorted attribute_cmp (sides_of xs)))
    (sym is) (told_rise taken attributes sorted))
    ∙ filter_alike (λ (d : Difference). changes_by gone d.mark (has_path left d.path))
    (λ (d : Difference). changes_path gone taken (sides_of attributes) (d.path, d.mark))
    (λ d. ap (changes_by gone d.mark) (ap (λ (xs : List AttributeDifference). has_path xs d.path) is
    ∙ told_paths taken attributes d.path)) paths)
    ∙ map_filter (λ (d : Difference). (d.path, d.mark)) (changes_path gone taken (sides_of attributes)) paths
