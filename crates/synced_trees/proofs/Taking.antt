-- What is found among the differences that count.
use Rattle.std.proofs.Common.{◌≡◌, List, [], ◌∷◌, Bool, true, false, cond, IsTrue, Option, Some, None, refl, sym, ap}
use Rattle.std.proofs.Common.{◌∙◌}
use Rattle.std.proofs.Common.{Ordering, Less, Equal, Greater}
use Rattle.std.specs.List.{filter, AllByRecursion}
use Rattle.std.specs.List.Sorted.{IsStrictlySortedBy}
use Rattle.std.specs.Cmp.{IsTotalOrder}
use Rattle.std.specs.Ordering.{is_eq}
use Rattle.std.specs.FinMap.{find, is_sorted}
use Rattle.std.proofs.lemmas.List.Kept.{IsStrictlySortedBy-filter}
use Rattle.store_model.specs.Paths.{Path, Name, path_cmp}
use Rattle.store_model.proofs.ListsLemmas.{all_weaker, rising_head, rising_tail, rising_from_is_sorted}
use Rattle.store_model.proofs.ListsLemmas.{is_sorted_from_rising}
use Rattle.store_model.proofs.TreesLemmasPaths.{path_cmp_total, same_from_tie}
use Rattle.dump_diff.specs.declared.difference.Mark.{Mark}
use Rattle.dump_diff.specs.declared.difference.Mark.TheVariants.{Removed, Added, Kind, Bytes, Attributes}
use Rattle.dump_diff.specs.declared.difference.Side.{Side}
use Rattle.dump_diff.specs.declared.difference.Side.TheVariants.{First, Second, Both}
use Rattle.dump_diff.specs.Scripts.{AttributePlace, attribute_cmp}
use Rattle.dump_diff.proofs.Searching.{attribute_total}
use Rattle.dump_diff.specs.Gains.{counts, counts_at, changes_path}
use Rattle.synced_trees.specs.Taken.{taken_marks, taken_sides}
use Rattle.synced_trees.proofs.Unsetting.{same_place}

-- what passes a test, if there is anything
abbrev pub passed : {X : Type 0} → (X → Bool) → Option X → Option X
passed test None = None
passed test (Some x) = cond (test x) (Some x) None

-- nothing is found of what stands behind
found_behind : {K X : Type 0} (R : K → K → Ordering) (q : K) (es : List (K × X))
    → AllByRecursion (λ e. R q e.0 ≡ Less) es → (test : K × X → Bool) → find R q (filter test es) ≡ None
found_behind R q [] h test = refl
found_behind R q (e ∷ es) h test = by_test (found_behind R q es h.1 test) (test e)
  where
    by_test : find R q (filter test es) ≡ None → (b : Bool)
        → find R q (cond b (e ∷ filter test es) (filter test es)) ≡ None
    by_test rest true = ap (λ o. cond (is_eq o) (Some e.1) (find R q (filter test es))) h.0 ∙ rest
    by_test rest false = rest

-- what is found among entries that are kept by a test
pub find_filter : {K X : Type 0} (R : K → K → Ordering) → IsTotalOrder R → ((x y : K) → R x y ≡ Equal → x ≡ y)
    → (test : K × X → Bool) (q : K) (es : List (K × X)) → IsStrictlySortedBy (λ a b. R a.0 b.0) es
    → find R q (filter test es) ≡ passed (λ x. test (q, x)) (find R q es)
find_filter R total same test q [] rising = refl
find_filter {K} {X} R total same test q (e ∷ es) rising =
    by_order (find_filter R total same test q es (rising_tail (λ (a b : K × X). R a.0 b.0) e es rising)) (R q e.0) refl
  where
    apart : (o : Ordering) → R q e.0 ≡ o → is_eq o ≡ false
        → find R q (filter test es) ≡ passed (λ x. test (q, x)) (find R q es) → (b : Bool)
        → find R q (cond b (e ∷ filter test es) (filter test es)) ≡ passed (λ x. test (q, x)) (find R q es)
    apart o is other rest true =
        ap (λ c. cond c (Some e.1) (find R q (filter test es))) (ap is_eq is ∙ other) ∙ rest
    apart o is other rest false = rest

    here : q ≡ e.0 → R q e.0 ≡ Equal → (b : Bool) → test e ≡ b
        → find R q (cond b (e ∷ filter test es) (filter test es)) ≡ cond b (Some e.1) None
    here key is true passes = ap (λ o. cond (is_eq o) (Some e.1) (find R q (filter test es))) is
    here key is false passes = found_behind R q es (all_weaker (λ f. R e.0 f.0 ≡ Less) (λ f. R q f.0 ≡ Less)
        (λ f less. ap (λ (k : K). R k f.0) key ∙ less) es (rising_head (λ (a b : K × X). R a.0 b.0) e es rising)) test

    by_order : find R q (filter test es) ≡ passed (λ x. test (q, x)) (find R q es) → (o : Ordering) → R q e.0 ≡ o
        → find R q (cond (test e) (e ∷ filter test es) (filter test es))
        ≡ passed (λ x. test (q, x)) (cond (is_eq o) (Some e.1) (find R q es))
    by_order rest Equal is = let key : q ≡ e.0 = same q e.0 is in
        here key is (test e) refl ∙ ap (λ (k : K). cond (test (k, e.1)) (Some e.1) None) (sym key)
    by_order rest Less is = apart Less is refl rest (test e)
    by_order rest Greater is = apart Greater is refl rest (test e)

-- ---- the marks and sides that count

-- a mark that counts
abbrev pub taken_mark : Bool → Bool → Option Mark → Option Mark
taken_mark deletes some None = None
taken_mark deletes some (Some Removed) = cond deletes (Some Removed) None
taken_mark deletes some (Some Added) = Some Added
taken_mark deletes some (Some Kind) = Some Kind
taken_mark deletes some (Some Bytes) = Some Bytes
taken_mark deletes some (Some Attributes) = cond some (Some Attributes) None

abbrev pub taken_side : Bool → Option Side → Option Side
taken_side taken None = None
taken_side taken (Some First) = cond taken (Some First) None
taken_side taken (Some Second) = Some Second
taken_side taken (Some Both) = Some Both

pub find_mark : (deletes : Bool) (takes : Name → Bool) (marks : List (Path × Mark))
    (sides : List (AttributePlace × Side))
    (x : Path) → IsTrue (is_sorted path_cmp marks)
    → find path_cmp x (taken_marks deletes takes marks sides)
    ≡ taken_mark deletes (counts_at takes sides x) (find path_cmp x marks)
find_mark deletes takes marks sides x sorted =
    find_filter path_cmp path_cmp_total same_from_tie (changes_path deletes takes sides) x marks
    (rising_from_is_sorted path_cmp marks sorted)
    ∙ by_mark (find path_cmp x marks)
  where
    by_mark : (o : Option Mark)
        → passed (λ m. changes_path deletes takes sides (x, m)) o ≡ taken_mark deletes (counts_at takes sides x) o
    by_mark None = refl
    by_mark (Some Removed) = refl
    by_mark (Some Added) = refl
    by_mark (Some Kind) = refl
    by_mark (Some Bytes) = refl
    by_mark (Some Attributes) = refl

pub find_side : (takes : Name → Bool) (sides : List (AttributePlace × Side)) (x : Path) (n : Name)
    → IsTrue (is_sorted attribute_cmp sides)
    → find attribute_cmp (x, n) (taken_sides takes sides) ≡ taken_side (takes n) (find attribute_cmp (x, n) sides)
find_side takes sides x n sorted =
    find_filter attribute_cmp attribute_total same_place (counts takes) (x, n) sides
    (rising_from_is_sorted attribute_cmp sides sorted)
    ∙ by_side (find attribute_cmp (x, n) sides)
  where
    by_side : (o : Option Side) → passed (λ s. counts takes ((x, n), s)) o ≡ taken_side (takes n) o
    by_side None = refl
    by_side (Some First) = refl
    by_side (Some Second) = refl
    by_side (Some Both) = refl

pub marks_rise : (deletes : Bool) (takes : Name → Bool) (marks : List (Path × Mark))
    (sides : List (AttributePlace × Side))
    → IsTrue (is_sorted path_cmp marks) → IsTrue (is_sorted path_cmp (taken_marks deletes takes marks sides))
marks_rise deletes takes marks sides sorted =
    is_sorted_from_rising path_cmp (filter (changes_path deletes takes sides) marks)
    (IsStrictlySortedBy-filter (λ (a b : Path × Mark). path_cmp a.0 b.0) (changes_path deletes takes sides) marks
    (rising_from_is_sorted path_cmp marks sorted))

pub sides_rise : (takes : Name → Bool) (sides : List (AttributePlace × Side))
    → IsTrue (is_sorted attribute_cmp sides) → IsTrue (is_sorted attribute_cmp (taken_sides takes sides))
sides_rise takes sides sorted = is_sorted_from_rising attribute_cmp (filter (counts takes) sides)
    (IsStrictlySortedBy-filter (λ (a b : AttributePlace × Side). attribute_cmp a.0 b.0) (counts takes) sides
    (rising_from_is_sorted attribute_cmp sides sorted))
