-- What is kept of the second dump while two are compared.
use Rattle.std.proofs.Common.{◌≡◌, List, [], ◌∷◌, ◌++◌, Bool, true, false, ◌||◌, cond, ◌⊎◌, inl, inr, Option, Some}
use Rattle.std.proofs.Common.{None, refl, sym, ap, ap₂, subst, ◌∙◌, append_assoc, Ordering, Less, Equal, Greater}
use Rattle.std.specs.Ordering.{eq_by_cmp, is_eq, ordering_then}
use Rattle.std.specs.FinMap.{find}
use Rattle.std.specs.List.{filter, AllByRecursion}
use Rattle.std.proofs.lemmas.Bool.{false≢true}
use Rattle.std.proofs.lemmas.List.Elements.{filter-append}
use Rattle.store_model.specs.Paths.{Path, Name, path_cmp, name_cmp}
use Rattle.store_model.proofs.ListsLemmas.{all_weaker, all_append, all_back}
use Rattle.store_model.proofs.TreesLemmasPaths.{path_cmp_total, same_from_test, same_from_tie, same_path-from_equal}
use Rattle.dump_streams.specs.Dumps.{DumpStep, step_path}
use Rattle.dump_streams.specs.Dumps.DumpStep.{Make, Write, Set}
use Rattle.dump_diff.specs.declared.difference.Mark.{Mark}
use Rattle.dump_diff.specs.declared.difference.Side.{Side}
use Rattle.dump_diff.specs.declared.difference.AttributeDifference.{AttributeDifference}
use Rattle.dump_diff.specs.declared.differences.Differences.{Differences}
use Rattle.dump_diff.specs.declared.keeping.Keeping.{Keeping}
use Rattle.dump_diff.specs.Differences.{marks_of}
use Rattle.dump_diff.specs.Places.{place_cmp, part_cmp}
use Rattle.dump_diff.specs.Shown.{AreBefore}
use Rattle.dump_diff.specs.Sides.{NotesAttribute, with_noted}
use Rattle.dump_diff.specs.Scripts.{attribute_cmp, sides_of, is_addition, is_made, is_written, is_set}
use Rattle.dump_diff.specs.Keeping.{is_of_last, KeepsNone, KeepsStep, StandsLast, KeepsAdditions}
use Rattle.dump_diff.proofs.MarkLists.{MarksOne}
use Rattle.dump_diff.proofs.SideSteps.{noted_elsewhere}

-- ---- a step of another path is an addition as before

-- lists on whose elements two tests agree
filter_alike : (f g : DumpStep → Bool) (cs : List DumpStep) → AllByRecursion (λ c. f c ≡ g c) cs
    → filter f cs ≡ filter g cs
filter_alike f g [] h = refl
filter_alike f g (c ∷ cs) h = ap (λ b. cond b (c ∷ filter f cs) (filter f cs)) h.0
    ∙ ap (λ (rest : List DumpStep). cond (g c) (c ∷ rest) rest) (filter_alike f g cs h.1)

-- a path before another is not that one
less_differs : (p q : Path) → path_cmp p q ≡ Less → eq_by_cmp path_cmp p q ≡ false
less_differs p q less = ap is_eq less

place_differs : (p q : Path) (a b : Name) → path_cmp p q ≡ Less → eq_by_cmp attribute_cmp (p, a) (q, b) ≡ false
place_differs p q a b less = ap (λ o. is_eq (ordering_then o (name_cmp a b))) less

-- no attribute of a path before a step is noted with it
side_elsewhere : (held kept : List AttributeDifference) (mark : Mark) (side : Side) (c : DumpStep) (p : Path) (a : Name)
    → kept ≡ with_noted held mark side c → path_cmp p (step_path c) ≡ Less
    → find attribute_cmp (p, a) (sides_of kept) ≡ find attribute_cmp (p, a) (sides_of held)
side_elsewhere held kept mark side (Make q) p a is less =
    ap (λ (xs : List AttributeDifference). find attribute_cmp (p, a) (sides_of xs)) is
side_elsewhere held kept mark side (Write q at bytes) p a is less =
    ap (λ (xs : List AttributeDifference). find attribute_cmp (p, a) (sides_of xs)) is
side_elsewhere held kept mark side (Set q b bytes) p a is less =
    noted_elsewhere held kept mark side q b is p a (place_differs p q a b less)

module _ (old new : Differences) (mark : Mark) (side : Side) (c : DumpStep)
    (one : MarksOne (marks_of old.paths.items) (marks_of new.paths.items) (step_path c) mark)
    (noted : NotesAttribute side c (marks_of new.paths.items) old.attributes.items new.attributes.items) where
  addition_stays : (d : DumpStep) → path_cmp (step_path d) (step_path c) ≡ Less → is_addition old d ≡ is_addition new d
  addition_stays (Make p) less = ap is_made (sym (one.elsewhere p (less_differs p (step_path c) less)))
  addition_stays (Write p at bytes) less = ap is_written (sym (one.elsewhere p (less_differs p (step_path c) less)))
  addition_stays (Set p a bytes) less = ap₂ (λ (x y : Bool). x || y)
      (ap is_made (sym (one.elsewhere p (less_differs p (step_path c) less))))
      (ap is_set (sym (side_elsewhere old.attributes.items new.attributes.items noted.known side c p a noted.noted_is
      less)))

  pub additions_stay : (ds : List DumpStep) → AllByRecursion (λ d. path_cmp (step_path d) (step_path c) ≡ Less) ds
      → filter (is_addition old) ds ≡ filter (is_addition new) ds
  additions_stay ds before = filter_alike (is_addition old) (is_addition new) ds
      (all_weaker (λ d. path_cmp (step_path d) (step_path c) ≡ Less) (λ d. is_addition old d ≡ is_addition new d)
      addition_stays ds before)

-- ---- what stands before the last path stands before what comes

-- a step that stands before another has a path before it, or the same
path_before : (d c : DumpStep) → place_cmp d c ≡ Less
    → (path_cmp (step_path d) (step_path c) ≡ Less) ⊎ (step_path d ≡ step_path c)
path_before d c less = by_order (path_cmp (step_path d) (step_path c)) refl less
  where
    by_order : (o : Ordering) → path_cmp (step_path d) (step_path c) ≡ o
        → ordering_then o (part_cmp d c) ≡ Less → (path_cmp (step_path d) (step_path c) ≡ Less) ⊎
        (step_path d ≡ step_path c)
    by_order Less is l = inl is
    by_order Equal is l = inr (same_from_tie (step_path d) (step_path c) is)
    by_order Greater is l = cc

-- so does what has a path before one of those
through : (d : DumpStep) (p : Path) (c : DumpStep) → path_cmp (step_path d) p ≡ Less
    → (path_cmp p (step_path c) ≡ Less) ⊎ (p ≡ step_path c) → path_cmp (step_path d) (step_path c) ≡ Less
through d p c less (inl more) = path_cmp_total.trans (step_path d) p (step_path c) less more
through d p c less (inr same) = ap (path_cmp (step_path d)) (sym same) ∙ less

-- the last path is before a step behind all that came, or its own
last_path : (p : Path) (own : List DumpStep) (c : DumpStep) → (own ≡ [] → ⊥)
    → AllByRecursion (λ s. step_path s ≡ p) own → AreBefore own c
    → (path_cmp p (step_path c) ≡ Less) ⊎ (p ≡ step_path c)
last_path p [] c some on before = absurd (some refl)
last_path p (d ∷ own) c some on before = by_case (path_before d c before.0)
  where
    by_case : (path_cmp (step_path d) (step_path c) ≡ Less) ⊎ (step_path d ≡ step_path c)
        → (path_cmp p (step_path c) ≡ Less) ⊎ (p ≡ step_path c)
    by_case (inl less) = inl (ap (λ (q : Path). path_cmp q (step_path c)) (sym on.0) ∙ less)
    by_case (inr same) = inr (sym on.0 ∙ same)

front_before : (last : Option Path) (front own : List DumpStep) (c : DumpStep) → StandsLast last front own
    → AreBefore (front ++ own) c → AllByRecursion (λ d. path_cmp (step_path d) (step_path c) ≡ Less) front
front_before None front own c stands before =
    subst (AllByRecursion (λ d. path_cmp (step_path d) (step_path c) ≡ Less)) (sym stands.0) tt
front_before (Some p) front own c stands before =
    all_weaker (λ s. path_cmp (step_path s) p ≡ Less) (λ d. path_cmp (step_path d) (step_path c) ≡ Less)
    (λ d less. through d p c less (last_path p own c stands.2 stands.1
    (all_back (λ d. place_cmp d c ≡ Less) front own before))) front stands.0

-- where a step is on another path, all that came is before its path
all_before : (last : Option Path) (front own : List DumpStep) (c : DumpStep) → StandsLast last front own
    → AreBefore (front ++ own) c → is_of_last last c ≡ false
    → AllByRecursion (λ d. path_cmp (step_path d) (step_path c) ≡ Less) (front ++ own)
all_before None front own c stands before other =
    subst (AllByRecursion (λ d. path_cmp (step_path d) (step_path c) ≡ Less))
    (sym (ap₂ (λ (a b : List DumpStep). a ++ b) stands.0 stands.1)) tt
all_before (Some p) front own c stands before other =
    all_append (λ d. path_cmp (step_path d) (step_path c) ≡ Less) front own
    (front_before (Some p) front own c stands before)
    (all_weaker (λ s. step_path s ≡ p) (λ d. path_cmp (step_path d) (step_path c) ≡ Less)
    (λ d on. ap (λ (q : Path). path_cmp q (step_path c)) on ∙ less) own stands.1)
  where
    by_case : (path_cmp p (step_path c) ≡ Less) ⊎ (p ≡ step_path c) → path_cmp p (step_path c) ≡ Less
    by_case (inl l) = l
    by_case (inr same) = absurd (false≢true (sym other ∙ same_path-from_equal p (step_path c) same))

    less : path_cmp p (step_path c) ≡ Less
    less = by_case (last_path p own c stands.2 stands.1 (all_back (λ d. place_cmp d c ≡ Less) front own before))

-- ---- what is kept

-- nothing of nothing
pub keeps_none : (found : Differences) (keeping : Keeping) (is_on : Bool) → KeepsNone keeping is_on
    → KeepsAdditions found keeping []
keeps_none found keeping is_on none = record {
  front = [];
  split = sym none.own;
  stands = subst (λ (o : Option Path). StandsLast o [] keeping.own.items) (sym none.last) (refl, none.own);
  kept_is = none.steps;
}

-- once a step is noted
pub keeps_noted : (old new : Differences) (mark : Mark) (side : Side) (c : DumpStep) (keeping : Keeping)
    (ds : List DumpStep)
    → MarksOne (marks_of old.paths.items) (marks_of new.paths.items) (step_path c) mark
    → NotesAttribute side c (marks_of new.paths.items) old.attributes.items new.attributes.items
    → AreBefore ds c → KeepsAdditions old keeping ds → KeepsAdditions new keeping ds
keeps_noted old new mark side c keeping ds one noted before keeps = record {
  front = keeps.front;
  split = keeps.split;
  stands = keeps.stands;
  kept_is = keeps.kept_is ∙ additions_stay old new mark side c one noted keeps.front
      (front_before keeping.last keeps.front keeping.own.items c keeps.stands
      (subst (λ (xs : List DumpStep). AreBefore xs c) keeps.split before));
}

-- and once it is kept
pub keeps_more : (found : Differences) (s : DumpStep) (old new : Keeping) (ds : List DumpStep)
    → KeepsStep found s old new
    → AreBefore ds s → KeepsAdditions found old ds → KeepsAdditions found new (ds ++ s ∷ [])
keeps_more found s old new ds more before keeps = by_test (is_of_last old.last s) refl
  where
    by_last : (o : Option Path) → old.last ≡ o → is_of_last o s ≡ true
        → StandsLast o keeps.front old.own.items → StandsLast o keeps.front (old.own.items ++ s ∷ [])
    by_last None is same stands = cc
    by_last (Some p) is same stands = (
      stands.0,
      all_append (λ d. step_path d ≡ p) old.own.items (s ∷ []) stands.1 (sym (same_from_test p (step_path s) same), tt),
      none_more old.own.items,
    )
      where
        none_more : (own : List DumpStep) → own ++ s ∷ [] ≡ [] → ⊥
        none_more [] e = let never : true ≡ false = cc in false≢true (sym never)
        none_more (d ∷ own) e = let never : true ≡ false = cc in false≢true (sym never)

    by_test : (b : Bool) → is_of_last old.last s ≡ b → KeepsAdditions found new (ds ++ s ∷ [])
    by_test true is =
        let own : new.own.items ≡ old.own.items ++ s ∷ [] = more.own
        ∙ ap (λ b. cond b old.own.items [] ++ s ∷ []) is in
        let last : new.last ≡ old.last = more.last ∙ ap (λ b. cond b old.last (Some (step_path s))) is in
        record {
          front = keeps.front;
          split = ap (λ (xs : List DumpStep). xs ++ s ∷ []) keeps.split
              ∙ append_assoc keeps.front old.own.items (s ∷ [])
              ∙ ap (λ (xs : List DumpStep). keeps.front ++ xs) (sym own);
          stands = subst (λ (o : Option Path). StandsLast o keeps.front new.own.items) (sym last)
              (subst (StandsLast old.last keeps.front) (sym own) (by_last old.last refl is keeps.stands));
          kept_is = more.steps ∙ ap (λ b. cond b old.steps.items
              (old.steps.items ++ filter (is_addition found) old.own.items)) is ∙ keeps.kept_is;
        }
    by_test false is =
        let own : new.own.items ≡ s ∷ [] = more.own ∙ ap (λ b. cond b old.own.items [] ++ s ∷ []) is in
        let last : new.last ≡ Some (step_path s) = more.last
        ∙ ap (λ b. cond b old.last (Some (step_path s))) is in
        record {
          front = ds;
          split = ap (λ (xs : List DumpStep). ds ++ xs) (sym own);
          stands = subst (λ (o : Option Path). StandsLast o ds new.own.items) (sym last)
              (subst (StandsLast (Some (step_path s)) ds) (sym own) (
                subst (AllByRecursion (λ d. path_cmp (step_path d) (step_path s) ≡ Less)) (sym keeps.split)
                    (all_before old.last keeps.front old.own.items s keeps.stands
                    (subst (λ (xs : List DumpStep). AreBefore xs s) keeps.split before) is),
                (refl, tt),
                λ e. let never : true ≡ false = cc in false≢true (sym never),
              ));
          kept_is = more.steps ∙ ap (λ b. cond b old.steps.items
              (old.steps.items ++ filter (is_addition found) old.own.items)) is
              ∙ ap (λ (xs : List DumpStep). xs ++ filter (is_addition found) old.own.items) keeps.kept_is
              ∙ sym (filter-append (is_addition found) keeps.front old.own.items)
              ∙ ap (filter (is_addition found)) (sym keeps.split);
        }

-- at the end all is settled
pub keeps_all : (found : Differences) (keeping : Keeping) (ds : List DumpStep) → KeepsAdditions found keeping ds
    → keeping.steps.items ++ filter (is_addition found) keeping.own.items ≡ filter (is_addition found) ds
keeps_all found keeping ds keeps =
    ap (λ (xs : List DumpStep). xs ++ filter (is_addition found) keeping.own.items) keeps.kept_is
    ∙ sym (filter-append (is_addition found) keeps.front keeping.own.items)
    ∙ ap (filter (is_addition found)) (sym keeps.split)
