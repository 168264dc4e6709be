-- No mark says that what the host can have of two trees is equal.
use Rattle.std.proofs.Common.{◌≡◌, ◌↔◌, List, [], ◌∷◌, cond, true, false, not, Bool, T, Option, Some, None, refl, sym}
use Rattle.std.proofs.Common.{IsTrue, ap, subst, ◌∙◌}
use Rattle.std.specs.Ordering.{is_eq}
use Rattle.std.specs.Cmp.{tied_itself}
use Rattle.std.specs.FinMap.{find, is_sorted}
use Rattle.std.specs.FinMap.Entries.{same_entries}
use Rattle.std.proofs.lemmas.Bool.{false≢true}
use Rattle.std.proofs.lemmas.List.Kept.{IsStrictlySortedBy-filter}
use Rattle.store_model.specs.Paths.{Path, path_cmp}
use Rattle.store_model.specs.Trees.{Tree, Entry, is_directory_node}
use Rattle.store_model.specs.Trees.Node.{File}
use Rattle.store_model.proofs.ListsLemmas.{rising_from_is_sorted, is_sorted_from_rising, rising_to_map}
use Rattle.store_model.proofs.TreesLemmasPaths.{path_cmp_total, same_from_tie}
use Rattle.dump_diff.specs.declared.difference.Mark.{Mark}
use Rattle.dump_diff.specs.declared.difference.Mark.TheVariants.{Removed, Added, Kind, Bytes, Attributes}
use Rattle.dump_diff.specs.declared.differences.Differences.{Differences}
use Rattle.dump_diff.specs.Differences.{AreDifferences, DifferSo, Tells, marks_of}
use Rattle.dump_diff.specs.Scripts.{sides_of}
use Rattle.dump_diff.specs.Sides.{AreAttributeDifferences}
use Rattle.host_builder.specs.declared.attribute.Wanted.{Wanted}
use Rattle.host_builder.specs.Views.{host_entry, host_view, is_made, made_part}
use Rattle.image_differences.specs.Compared.{TellTrees}

abbrev AreInOrder : Tree → Type 0
AreInOrder t = IsTrue (is_sorted path_cmp t)

-- what the host can have of a tree is in order
pub view_rises : (wanted : Wanted) (t : Tree) → AreInOrder t → AreInOrder (host_view wanted t)
view_rises wanted t sorted = is_sorted_from_rising path_cmp (host_view wanted t)
    (rising_to_map (λ (a b : Path × Entry). path_cmp a.0 b.0) (λ (e : Path × Entry). (e.0, host_entry wanted e.1))
    (made_part wanted t) (IsStrictlySortedBy-filter (λ (a b : Path × Entry). path_cmp a.0 b.0) (is_made wanted) t
    (rising_from_is_sorted path_cmp t sorted)))

-- nothing differs from itself
never_itself : (mark : Mark) (e : Option Entry) → DifferSo mark e e → ⊥
never_itself Removed None h = let never : false ≡ true = h.0 in false≢true never
never_itself Removed (Some e) h = let never : true ≡ false = h.1 in false≢true (sym never)
never_itself Added None h = let never : false ≡ true = h.1 in false≢true never
never_itself Added (Some e) h = let never : true ≡ false = h.0 in false≢true (sym never)
never_itself Kind None h = h
never_itself Kind (Some e) h = by_kind (is_directory_node (Some e.node)) h
  where
    by_kind : (b : Bool) → b ≡ not b → ⊥
    by_kind true e = false≢true (sym e)
    by_kind false e = false≢true e
never_itself Bytes None h = h
never_itself Bytes (Some e) h = let same : File h.bytes ≡ File h.others = sym h.first ∙ h.second in h.other cc
never_itself Attributes None h = h
never_itself Attributes (Some e) h = h.other refl

find_first : (p : Path) (mark : Mark) (marks : List (Path × Mark)) → find path_cmp p ((p, mark) ∷ marks) ≡ Some mark
find_first p mark marks = ap (λ b. cond b (Some mark) (find path_cmp p marks)) (ap is_eq (tied_itself path_cmp_total p))

no_mark_in_order : (t u : Tree) (marks : List (Path × Mark)) → AreInOrder t → AreInOrder u → AreDifferences t u marks
    → (marks ≡ []) ↔ (t ≡ u)
no_mark_in_order t u marks is is' are = (equal, unmarked marks are)
  where
    equal : marks ≡ [] → t ≡ u
    equal none = same_entries path_cmp path_cmp_total same_from_tie t u (subst T (sym is) tt) (subst T (sym is') tt)
        (λ p. subst (λ (ms : List (Path × Mark)). Tells (find path_cmp p ms) (find path_cmp p t) (find path_cmp p u))
        none (are.each p))

    unmarked : (ms : List (Path × Mark)) → AreDifferences t u ms → t ≡ u → ms ≡ []
    unmarked [] are same = refl
    unmarked (m ∷ ms) are same =
        let told : DifferSo m.1 (find path_cmp m.0 t) (find path_cmp m.0 u) =
        subst (λ (found : Option Mark). Tells found (find path_cmp m.0 t) (find path_cmp m.0 u))
        (find_first m.0 m.1 ms) (are.each m.0) in
        absurd (never_itself m.1 (find path_cmp m.0 t)
        (subst (λ (v : Tree). DifferSo m.1 (find path_cmp m.0 t) (find path_cmp m.0 v)) (sym same) told))

-- what was found of two trees
pub tell_in_order : (found : Differences) (one other t u : Tree) → one ≡ t → other ≡ u → AreInOrder t → AreInOrder u
    → AreDifferences one other (marks_of found.paths.items)
    → AreAttributeDifferences one other (marks_of found.paths.items) (sides_of found.attributes.items)
    → TellTrees t u found
tell_in_order found one other t u is is' sorted sorted' marks attributes =
    subst (λ (t : Tree). TellTrees t u found) is (subst (λ (u : Tree). TellTrees one u found) is' (record {
      marks = marks;
      attributes = attributes;
      equal = no_mark_in_order one other (marks_of found.paths.items) (subst AreInOrder (sym is) sorted)
          (subst AreInOrder (sym is') sorted') marks;
    }))
