-- What taking a step of a stream, or one of each, leaves of two streams that are compared.
use Rattle.std.proofs.Common.{◌≡◌, ℕ, List, [], ◌∷◌, ◌++◌, Bool, true, false, not, Option, Some, None, Result, Ok, Err}
use Rattle.std.proofs.Common.{refl, sym, ap, ap₂, subst, ◌∙◌, inl, inr, Less, Equal}
use Rattle.std.specs.Cmp.{tied_back}
use Rattle.std.specs.FinMap.{find}
use Rattle.std.specs.List.{Contains}
use Rattle.std.specs.Result.{OnOk, is_ok}
use Rattle.std.proofs.lemmas.Bool.{false≢true}
use Rattle.dump_streams.specs.Dumps.{DumpStep, step_path}
use Rattle.store_model.specs.Paths.{Path, Name, path_cmp, name_cmp}
use Rattle.dump_streams.specs.Dumps.{after_step}
use Rattle.std.proofs.lemmas.Option.{same_Some}
use Rattle.store_model.specs.Trees.{Tree, Entry, Node, Attributes as Held, IsTree, is_directory_node, attributes_of}
use Rattle.store_model.specs.Trees.{attribute_at}
use Rattle.store_model.specs.Trees.Node.{Directory, File}
use Rattle.std.specs.List.Sorted.{IsStrictlySortedBy}
use Rattle.store_model.proofs.ListsLemmas.{rising_from_is_sorted, rising_nil}
use Rattle.dump_diff.specs.declared.difference.AttributeDifference.{AttributeDifference}
use Rattle.dump_streams.specs.Dumps.{dump, node_steps, attribute_steps, entry_steps}
use Rattle.dump_diff.specs.declared.heads.Head.{Head}
use Rattle.dump_diff.specs.declared.comparing.Merge.{Merge}
use Rattle.dump_diff.specs.declared.differences.Differences.{Differences}
use Rattle.dump_diff.specs.declared.difference.Mark.{Mark}
use Rattle.dump_diff.specs.declared.difference.Mark.TheVariants.{Removed, Added, Kind, Bytes, Attributes}
use Rattle.dump_diff.specs.declared.difference.Side.TheVariants.{First, Second, Both}
use Rattle.dump_diff.specs.declared.difference.Side.{Side}
use Rattle.dump_diff.specs.Ahead.{AreMerged, IsAhead, IsAfter, HasMerged, IsMerged, IsBetween, AreFound}
use Rattle.dump_diff.specs.Differences.{marks_of, AreBoth, AreOfOtherKinds, HaveOtherBytes, HaveOtherAttributes, Tells}
use Rattle.dump_diff.specs.Places.{place_cmp, writes, sets}
use Rattle.dump_diff.specs.Shown.{AreShown, AreBefore, AreUpTo, Notes, AreApart, begins, ShowKinds, ShowBytes}
use Rattle.dump_diff.specs.Shown.{ShowAttributes, Shows, own, places_of}
use Rattle.dump_diff.specs.Scripts.{AttributePlace, attribute_cmp, sides_of, AreRising}
use Rattle.dump_diff.specs.declared.keeping.Keeping.{Keeping}
use Rattle.dump_diff.specs.Keeping.{KeepsNone, KeepsStep, KeepsAdditions}
use Rattle.dump_diff.proofs.KeepingSteps.{keeps_none, keeps_noted, keeps_more}
use Rattle.dump_diff.specs.Sides.{FitsMark, SidesShown, NotesAttribute, IsJudged, set_in}
use Rattle.dump_diff.proofs.PlaceOrder.{place_total, tied_paths}
use Rattle.dump_diff.proofs.DumpPlaces.{steps_at, own_dump, entry_some, begins_entry, node_part_entry, write_there}
use Rattle.dump_diff.proofs.Telling.{entries_told, node_of_steps, attributes_told}
use Rattle.dump_diff.proofs.MarkLists.{marks_one}
use Rattle.dump_diff.proofs.Advancing.{IsNextOf, next_of, first_shows, second_shows, both_show, both_differ}
use Rattle.dump_diff.proofs.Advancing.{behind_next, behind_other, behind_both, behind_swapped, last_before}
use Rattle.dump_diff.proofs.Advancing.{places_later, places_rise_more, attributes_rise, stands, AddsAttribute}
use Rattle.dump_diff.proofs.Advancing.{adds_noted, adds_tied}
use Rattle.dump_diff.proofs.Advancing.AddsAttribute.{Same}
use Rattle.dump_diff.proofs.SideSteps.{HasNoted, first_sides, second_sides, same_sides, both_sides, sides_marked}

-- a result of the same variant
pub on_ok_like : {T E D : Type 0} (P : Type 0) (r : Result T E) (s : Result T D)
    → is_ok s ≡ is_ok r → OnOk r P → OnOk s P
on_ok_like P (Ok x) (Ok y) same h = h
on_ok_like P (Ok x) (Err e) same h = tt
on_ok_like P (Err d) (Ok y) same h = absurd (false≢true (sym same))
on_ok_like P (Err d) (Err e) same h = tt

-- the marks that there are
abbrev pub found_marks : Merge → List (Path × Mark)
found_marks merge = marks_of merge.found.paths.items

-- the next step of a stream behind its tree
abbrev ahead_step : {came whole : Tree → Type 0} (head : Head) (t : Tree) → IsAhead came whole head t
    → head.is_there ≡ true → IsNextOf (dump t) head.step
ahead_step head t ahead there = next_of t head.step (ahead.there there).extends

-- and the one behind it
ahead_before : {came whole came' whole' : Tree → Type 0} (head next : Head) (t : Tree) → IsAhead came whole head t
    → head.is_there ≡ true → IsAhead came' whole' next (after_step t head.step) → next.is_there ≡ true
    → AreBefore (dump t ++ head.step ∷ []) next.step
ahead_before head next t ahead there later more =
    subst (λ (steps : List DumpStep). AreBefore steps next.step) (ahead.there there).extends.dump_is
    (ahead_step next (after_step t head.step) later more).before

-- ---- the steps at hand stand behind what came

after_swapped : (cs ds : List DumpStep) (found : Differences) (s : DumpStep) → IsAfter cs ds found s
    → IsAfter ds cs found s
after_swapped cs ds found s is = record {
  behind = behind_swapped cs ds (marks_of found.paths.items) s is.behind;
  after = is.after;
}

module _ (cs ds : List DumpStep) (old new : Differences) (c : DumpStep) (is : IsAfter cs ds old c)
    (upto : AreUpTo (marks_of new.paths.items) (step_path c))
    (adds : AddsAttribute old.attributes.items new.attributes.items c) where
  -- the next step of the stream of which one came
  after_next : (s : DumpStep) → AreBefore (cs ++ c ∷ []) s → IsAfter (cs ++ c ∷ []) ds new s
  after_next s before = record {
    behind = behind_next cs ds (marks_of old.paths.items) (marks_of new.paths.items) c s is.behind upto before;
    after = places_later old.attributes.items new.attributes.items c s adds is.after (last_before cs c s before);
  }

  -- the step of the other stream
  after_other : (s : DumpStep) → IsAfter cs ds old s → place_cmp c s ≡ Less → IsAfter (cs ++ c ∷ []) ds new s
  after_other s other lower = record {
    behind = behind_other cs ds (marks_of old.paths.items) (marks_of new.paths.items) c s other.behind upto lower;
    after = places_later old.attributes.items new.attributes.items c s adds is.after lower;
  }

  -- the next step where one of each came
  after_both : (d s : DumpStep) → place_cmp c d ≡ Equal → AreBefore (cs ++ c ∷ []) s
      → IsAfter (cs ++ c ∷ []) (ds ++ d ∷ []) new s
  after_both d s tied before = record {
    behind = behind_both cs ds (marks_of old.paths.items) (marks_of new.paths.items) c d s tied is.behind upto before;
    after = places_later old.attributes.items new.attributes.items c s adds is.after (last_before cs c s before);
  }

-- what is known of a step that is noted
noted_after : (cs ds : List DumpStep) (old new : Differences) (side : Side) (c : DumpStep) → IsAfter cs ds old c
    → NotesAttribute side c (marks_of new.paths.items) old.attributes.items new.attributes.items
    → HasNoted cs ds (marks_of new.paths.items) old.attributes.items new.attributes.items side c
noted_after cs ds old new side c is noted = record {
  first_behind = stands cs c is.behind.first_before;
  second_behind = stands ds c is.behind.second_before;
  before = is.after;
  known = noted.known;
  known_is = noted.known_is;
  noted_is = noted.noted_is;
}

-- ---- a step of the first

pub first_taken : {came whole came' whole' : Tree → Type 0} (merge : Merge) (head : Head)
    (found : Differences) (t u : Tree)
    → IsAhead came whole merge.first t → merge.first.is_there ≡ true
    → (merge.second.is_there ≡ true → place_cmp merge.first.step merge.second.step ≡ Less)
    → IsMerged merge t u
    → Notes First merge.first.step merge.second.step (found_marks merge) (marks_of found.paths.items)
    → NotesAttribute First merge.first.step (marks_of found.paths.items) merge.found.attributes.items
    found.attributes.items → IsAhead came' whole' head (after_step t merge.first.step)
    → IsMerged (record { first = head; second = merge.second; found = found; kept = merge.kept })
    (after_step t merge.first.step) u
first_taken merge head found t u ahead there lower merged notes noted later =
    let c : DumpStep = merge.first.step in
    let new : List (Path × Mark) = marks_of found.paths.items in
    let at = merged.first there in
    let next = ahead_step merge.first t ahead there in
    let adds = adds_noted merge.found.attributes.items found.attributes.items noted.known First c noted.noted_is in
    let one = marks_one (found_marks merge) new (step_path c)
    notes.mark (merged.shown).rising at.behind.marked notes.marked in
    subst (λ (cs : List DumpStep). HasMerged (record {
      first = head;
      second = merge.second;
      found = found;
      kept =
          merge.kept;
    }) cs
    (dump u)) (sym (ahead.there there).extends.dump_is) (record {
      shown = first_shows (dump t) (dump u) (found_marks merge) new c notes.mark merged.shown at.behind next
          notes.fits notes.marked;
      sides = first_sides (dump t) (dump u) new merge.found.attributes.items found.attributes.items c
          (sides_marked (dump t) (dump u) (found_marks merge) new (sides_of merge.found.attributes.items)
          (step_path c) notes.mark merged.shown one merged.sides)
          (noted_after (dump t) (dump u) merge.found found First c at noted);
      places_rise = places_rise_more merge.found.attributes.items found.attributes.items c adds at.after
          merged.places_rise;
      first = λ more. after_next (dump t) (dump u) merge.found found c at one.upto adds head.step
          (ahead_before merge.first head t ahead there later more);
      second = λ more. after_other (dump t) (dump u) merge.found found c at one.upto adds merge.second.step
          (merged.second more) (lower more);
      kept = λ on. keeps_noted merge.found found notes.mark First c merge.kept (dump u) one noted
          at.behind.second_before (merged.kept on);
    })

-- ---- a step of the second

pub second_taken : {came whole came' whole' : Tree → Type 0} (merge : Merge) (head : Head)
    (found : Differences) (keeping : Keeping) (t u : Tree)
    → IsAhead came whole merge.second u → merge.second.is_there ≡ true
    → (merge.first.is_there ≡ true → place_cmp merge.second.step merge.first.step ≡ Less)
    → IsMerged merge t u
    → Notes Second merge.first.step merge.second.step (found_marks merge) (marks_of found.paths.items)
    → NotesAttribute Second merge.second.step (marks_of found.paths.items) merge.found.attributes.items
    found.attributes.items → keeping.is_on ≡ merge.kept.is_on
    → (AreRising found → merge.kept.is_on ≡ true → KeepsStep found merge.second.step merge.kept keeping)
    → IsAhead came' whole' head (after_step u merge.second.step)
    → IsMerged (record { first = merge.first; second = head; found = found; kept = keeping }) t
    (after_step u merge.second.step)
second_taken merge head found keeping t u ahead there lower merged notes noted same keeps later =
    let d : DumpStep = merge.second.step in
    let new : List (Path × Mark) = marks_of found.paths.items in
    let at = merged.second there in
    let back = after_swapped (dump t) (dump u) merge.found d at in
    let next = ahead_step merge.second u ahead there in
    let adds = adds_noted merge.found.attributes.items found.attributes.items noted.known Second d noted.noted_is in
    let one = marks_one (found_marks merge) new (step_path d)
    notes.mark (merged.shown).rising at.behind.marked notes.marked in
    let rise = places_rise_more merge.found.attributes.items found.attributes.items d adds at.after merged.places_rise
    in
    subst (HasMerged (record { first = merge.first; second = head; found = found; kept = keeping }) (dump t))
    (sym (ahead.there there).extends.dump_is) (record {
      shown = second_shows (dump t) (dump u) (found_marks merge) new d notes.mark merged.shown at.behind next
          notes.fits notes.marked;
      sides = second_sides (dump t) (dump u) new merge.found.attributes.items found.attributes.items d
          (sides_marked (dump t) (dump u) (found_marks merge) new (sides_of merge.found.attributes.items)
          (step_path d) notes.mark merged.shown one merged.sides)
          (noted_after (dump t) (dump u) merge.found found Second d at noted);
      places_rise = rise;
      first = λ more. after_swapped (dump u ++ d ∷ []) (dump t) found merge.first.step
          (after_other (dump u) (dump t) merge.found found d back one.upto adds merge.first.step
          (after_swapped (dump t) (dump u) merge.found merge.first.step (merged.first more)) (lower more));
      second = λ more. after_swapped (dump u ++ d ∷ []) (dump t) found head.step
          (after_next (dump u) (dump t) merge.found found d back one.upto adds head.step
          (ahead_before merge.second head u ahead there later more));
      kept = λ on. keeps_more found d merge.kept keeping (dump u)
          (keeps (record { paths = one.rising; attributes = attributes_rise found.attributes.items rise })
          (sym same ∙ on)) at.behind.second_before
          (keeps_noted merge.found found notes.mark Second d merge.kept (dump u) one noted at.behind.second_before
          (merged.kept (sym same ∙ on)));
    })

-- ---- one of each

-- what is known then
record BothShown (cs ds : List DumpStep) (old new : Differences) (c d : DumpStep) : Type 0 where
  shown : AreShown (cs ++ c ∷ []) (ds ++ d ∷ []) (marks_of new.paths.items)
  upto : AreUpTo (marks_of new.paths.items) (step_path c)
  sides : SidesShown (cs ++ c ∷ []) (ds ++ d ∷ []) (marks_of new.paths.items) (sides_of new.attributes.items)
  adds : AddsAttribute old.attributes.items new.attributes.items c
  keeps : (k : Keeping) → KeepsAdditions old k ds → KeepsAdditions new k ds

both_shown : (merge : Merge) (found : Differences) (t u : Tree) → IsMerged merge t u
    → IsJudged merge.first.step merge.second.step merge.found found
    → merge.first.is_there ≡ true → merge.second.is_there ≡ true
    → place_cmp merge.first.step merge.second.step ≡ Equal
    → IsNextOf (dump t) merge.first.step → IsNextOf (dump u) merge.second.step
    → BothShown (dump t) (dump u) merge.found found merge.first.step merge.second.step
both_shown merge found t u merged (inl (same, is)) there also tied next next' =
    let c : DumpStep = merge.first.step in
    let d : DumpStep = merge.second.step in
    let at = merged.first there in
    subst (λ (f : Differences). BothShown (dump t) (dump u) merge.found f c d) (sym is) (record {
      shown = both_show (dump t) (dump u) (found_marks merge) c d merged.shown at.behind
          (merged.second also).behind next next' tied same;
      upto = at.behind.marked;
      sides = subst (λ (e : DumpStep). SidesShown (dump t ++ c ∷ []) (dump u ++ e ∷ []) (found_marks merge)
          (sides_of merge.found.attributes.items)) same
          (same_sides (dump t) (dump u) (found_marks merge) merge.found.attributes.items c
          merged.sides (stands (dump t) c at.behind.first_before) (stands (dump u) c at.behind.second_before) at.after);
      adds = Same refl;
      keeps = λ k is. is;
    })
both_shown merge found t u merged (inr (other, notes, noted)) there also tied next next' =
    let c : DumpStep = merge.first.step in
    let d : DumpStep = merge.second.step in
    let at = merged.first there in
    let at' = merged.second also in
    let new : List (Path × Mark) = marks_of found.paths.items in
    let one = marks_one (found_marks merge) new (step_path c)
    notes.mark (merged.shown).rising at.behind.marked notes.marked in
    record {
      shown = both_differ (dump t) (dump u) (found_marks merge) new c d notes.mark merged.shown at.behind at'.behind
          next next' tied other notes.fits notes.marked;
      upto = one.upto;
      sides = both_sides (dump t) (dump u) new merge.found.attributes.items found.attributes.items c d
          (sides_marked (dump t) (dump u) (found_marks merge) new (sides_of merge.found.attributes.items)
          (step_path c) notes.mark merged.shown one merged.sides)
          (noted_after (dump t) (dump u) merge.found found Both c at noted)
          (stands (dump u) d at'.behind.second_before) tied other;
      adds = adds_noted merge.found.attributes.items found.attributes.items noted.known Both c noted.noted_is;
      keeps = λ k is. keeps_noted merge.found found notes.mark Both c k (dump u) one noted
          at.behind.second_before is;
    }

pub both_taken : {came whole came' whole' after done after' done' : Tree → Type 0} (merge : Merge) (head head' : Head)
    (found : Differences) (keeping : Keeping) (t u : Tree) → IsBetween came whole came' whole' merge t u
    → keeping.is_on ≡ merge.kept.is_on
    → (AreRising found → merge.kept.is_on ≡ true → KeepsStep found merge.second.step merge.kept keeping)
    → IsJudged merge.first.step merge.second.step merge.found found
    → merge.first.is_there ≡ true → merge.second.is_there ≡ true
    → place_cmp merge.first.step merge.second.step ≡ Equal
    → IsAhead after done head (after_step t merge.first.step)
    → IsAhead after' done' head' (after_step u merge.second.step)
    → IsBetween after done after' done' (record { first = head; second = head'; found = found; kept = keeping })
    (after_step t merge.first.step) (after_step u merge.second.step)
both_taken merge head head' found keeping t u between same keeps judged there also tied later later' =
    let c : DumpStep = merge.first.step in
    let d : DumpStep = merge.second.step in
    let merge' : Merge = record { first = head; second = head'; found = found; kept = keeping } in
    let merged = between.merged in
    let ahead = between.first in
    let ahead' = between.second in
    let shown = both_shown merge found t u merged judged there also tied
    (ahead_step merge.first t ahead there) (ahead_step merge.second u ahead' also) in
    let at = merged.first there in
    let back = after_swapped (dump t) (dump u) merge.found d (merged.second also) in
    let rise = places_rise_more merge.found.attributes.items found.attributes.items c shown.adds at.after
    merged.places_rise in
    record {
      first = later;
      second = later';
      merged = subst (λ (cs : List DumpStep). HasMerged merge' cs (dump (after_step u d)))
          (sym (ahead.there there).extends.dump_is)
          (subst (HasMerged merge' (dump t ++ c ∷ [])) (sym (ahead'.there also).extends.dump_is) (record {
            shown = shown.shown;
            sides = shown.sides;
            places_rise = rise;
            first = λ more. after_both (dump t) (dump u) merge.found found c at shown.upto shown.adds d head.step tied
                (ahead_before merge.first head t ahead there later more);
            second = λ more. after_swapped (dump u ++ d ∷ []) (dump t ++ c ∷ []) found head'.step
                (after_both (dump u) (dump t) merge.found found d back
                (subst (AreUpTo (marks_of found.paths.items)) (tied_paths c d tied) shown.upto)
                (adds_tied merge.found.attributes.items found.attributes.items c d tied shown.adds) c head'.step
                (tied_back place_total c d tied) (ahead_before merge.second head' u ahead' also later' more));
            kept = λ on. keeps_more found d merge.kept keeping (dump u)
                (keeps (record {
                  paths = (shown.shown).rising;
                  attributes = attributes_rise found.attributes.items rise;
                }) (sym same ∙ on)) (merged.second also).behind.second_before
                (shown.keeps merge.kept (merged.kept (sym same ∙ on)));
          }));
    }

-- ---- the whole dumps

-- what the steps of two entries begin with tells their kinds
kinds_told : (p : Path) (e : Entry) (b : Bool) → begins (entry_steps p e) ≡ Some b
    → is_directory_node (Some e.node) ≡ b
kinds_told p e b h = same_Some _ _ (sym (begins_entry p e) ∙ h)

file_told : (node : Node) → is_directory_node (Some node) ≡ false → (bytes : List ℕ) × (node ≡ File bytes)
file_told Directory e = absurd (false≢true (sym e))
file_told (File bytes) e = (bytes, refl)

-- a write that one of two entries has alone is of other bytes
writes_told : (p : Path) (e f : Entry) → e.node ≡ f.node → AreApart writes (entry_steps p e) (entry_steps p f) → ⊥
writes_told p e f same (inl one) = one.not_there (write_there p e f one.step same one.is_such one.here)
writes_told p e f same (inr one) = one.not_there (write_there p f e one.step (sym same) one.is_such one.here)

-- an attribute that one of two entries of one node has alone is another
sets_told : (p : Path) (e f : Entry) → e.node ≡ f.node → e.attributes ≡ f.attributes
    → AreApart sets (entry_steps p e) (entry_steps p f) → ⊥
sets_told p e f node attributes apart = by_side apart
  where
    same : entry_steps p e ≡ entry_steps p f
    same = ap₂ (λ (n : Node) (a : Held). node_steps p n ++ attribute_steps p a) node attributes

    by_side : AreApart sets (entry_steps p e) (entry_steps p f) → ⊥
    by_side (inl one) = one.not_there (subst (λ (cs : List DumpStep). Contains cs one.step) same one.here)
    by_side (inr one) = one.not_there (subst (λ (cs : List DumpStep). Contains cs one.step) (sym same) one.here)

kind_told : (p : Path) (e f : Entry) → ShowKinds (entry_steps p e) (entry_steps p f) → AreOfOtherKinds e f
kind_told p e f (inl h) = kinds_told p e true h.0 ∙ sym (ap not (kinds_told p f false h.1))
kind_told p e f (inr h) = kinds_told p e false h.0 ∙ sym (ap not (kinds_told p f true h.1))

bytes_told : (p : Path) (e f : Entry) → ShowBytes (entry_steps p e) (entry_steps p f) → HaveOtherBytes e f
bytes_told p e f h =
    let one = file_told e.node (kinds_told p e false h.first) in
    let other = file_told f.node (kinds_told p f false h.second) in
    record {
      bytes = one.0;
      others = other.0;
      first = one.1;
      second = other.1;
      other = λ same. writes_told p e f (one.1 ∙ ap File same ∙ sym other.1) h.apart;
    }

other_attributes : (p : Path) (e f : Entry) → ShowAttributes (entry_steps p e) (entry_steps p f)
    → HaveOtherAttributes e f
other_attributes p e f h =
    let node : e.node ≡ f.node =
    node_of_steps p e.node f.node (sym (node_part_entry p e) ∙ h.node ∙ node_part_entry p f) in
    record { node = node; other = λ same. sets_told p e f node same h.apart }

no_begin : (b : Bool) → begins [] ≡ Some b → ⊥
no_begin b e = let never : None ≡ Some b = e in cc

both_told : {related : Entry → Entry → Type 0} (shows : List DumpStep → List DumpStep → Type 0)
    (p : Path) (e f : Option Entry)
    → ((ds : List DumpStep) → shows [] ds → ⊥) → ((cs : List DumpStep) → shows cs [] → ⊥)
    → ((g h : Entry) → shows (entry_steps p g) (entry_steps p h) → related g h)
    → shows (steps_at p e) (steps_at p f) → AreBoth related e f
unfolding steps_at
both_told shows p None f none none' some h = absurd (none (steps_at p f) h)
both_told shows p (Some e) None none none' some h = absurd (none' (entry_steps p e) h)
both_told shows p (Some e) (Some f) none none' some h = some e f h

-- what the steps of a path show tells how the trees differ there
told : (m : Option Mark) (p : Path) (e f : Option Entry) → Shows m (steps_at p e) (steps_at p f) → Tells m e f
unfolding steps_at
told None p None None h = refl
told None p None (Some f) h = absurd (entry_some p f (sym h))
told None p (Some e) None h = absurd (entry_some p e h)
told None p (Some e) (Some f) h = ap Some (entries_told p e f h)
told (Some Removed) p None f h = absurd (h.0 refl)
told (Some Removed) p (Some e) None h = (refl, refl)
told (Some Removed) p (Some e) (Some f) h = absurd (entry_some p f h.1)
told (Some Added) p None None h = absurd (h.1 refl)
told (Some Added) p None (Some f) h = (refl, refl)
told (Some Added) p (Some e) f h = absurd (entry_some p e h.0)
told (Some Kind) p e f h = both_told ShowKinds p e f no_kind no_kind' (kind_told p) h
  where
    no_kind : (ds : List DumpStep) → ShowKinds [] ds → ⊥
    no_kind ds (inl h) = no_begin true h.0
    no_kind ds (inr h) = no_begin false h.0

    no_kind' : (cs : List DumpStep) → ShowKinds cs [] → ⊥
    no_kind' cs (inl h) = no_begin false h.1
    no_kind' cs (inr h) = no_begin true h.1
told (Some Bytes) p e f h = both_told ShowBytes p e f (λ ds h. no_begin false h.first)
    (λ cs h. no_begin false h.second) (bytes_told p) h
told (Some Attributes) p e f h = both_told ShowAttributes p e f (λ ds h. h.first refl)
    (λ cs h. h.second refl) (other_attributes p) h

-- what steps of a path set are the attributes of its entry
held_told : (t : Tree) → IsTree t → (p : Path) (a : Name) → set_in a (own p (dump t)) ≡ attribute_at t p a
unfolding steps_at
held_told t is p a = ap (set_in a) (own_dump p t (rising_from_is_sorted path_cmp t is.sorted))
    ∙ by_entry (find path_cmp p t)
  where
    by_entry : (e : Option Entry) → set_in a (steps_at p e) ≡ find name_cmp a (attributes_of e)
    by_entry None = refl
    by_entry (Some entry) = ap (find name_cmp a) (attributes_told p entry)

fits_entries : (marks : List (Path × Mark)) (sides : List (AttributePlace × Side)) (t u : Tree) → IsTree t → IsTree u
    → (p : Path) (a : Name)
    → FitsMark (find path_cmp p marks) (find attribute_cmp (p, a) sides) (set_in a (own p (dump t)))
    (set_in a (own p (dump u))) → FitsMark (find path_cmp p marks) (find attribute_cmp (p, a) sides)
    (attribute_at t p a) (attribute_at u p a)
fits_entries marks sides t u is is' p a h =
    subst (λ (x : Option (List ℕ)). FitsMark (find path_cmp p marks) (find attribute_cmp (p, a) sides) x
    (attribute_at u p a)) (held_told t is p a)
    (subst (λ (y : Option (List ℕ)). FitsMark (find path_cmp p marks) (find attribute_cmp (p, a) sides)
    (set_in a (own p (dump t))) y) (held_told u is' p a) h)

pub all_found : {came whole came' whole' : Tree → Type 0} (merge : Merge) (t u : Tree)
    → IsBetween came whole came' whole' merge t u → merge.first.is_there ≡ false → merge.second.is_there ≡ false
    → AreFound whole whole' merge.found
all_found merge t u between none none' = record {
  one = t;
  other = u;
  first = (between.first).ended none;
  second = (between.second).ended none';
  differences = record {
    rising = ((between.merged).shown).rising;
    each = λ p. told (find path_cmp p (found_marks merge)) p (find path_cmp p t) (find path_cmp p u)
        (subst (λ (cs : List DumpStep). Shows (find path_cmp p (found_marks merge)) cs
        (steps_at p (find path_cmp p u)))
        (own_dump p t (rising_from_is_sorted path_cmp t ((between.first).is_tree).sorted))
        (subst (λ (ds : List DumpStep). Shows (find path_cmp p (found_marks merge)) (own p (dump t)) ds)
        (own_dump p u (rising_from_is_sorted path_cmp u ((between.second).is_tree).sorted))
        (((between.merged).shown).each p)));
  };
  attributes = record {
    rising = attributes_rise merge.found.attributes.items (between.merged).places_rise;
    each = λ p a. fits_entries (found_marks merge) (sides_of merge.found.attributes.items) t u
        (between.first).is_tree (between.second).is_tree p a ((between.merged).sides p a);
  };
}

pub all_merged : {came whole came' whole' : Tree → Type 0} (merge : Merge) (t u : Tree)
    → IsBetween came whole came' whole' merge t u → merge.first.is_there ≡ false → merge.second.is_there ≡ false
    → AreMerged whole whole' merge
unfolding all_found
all_merged merge t u between none none' = record {
  trees = all_found merge t u between none none';
  one_is = (between.first).is_tree;
  other_is = (between.second).is_tree;
  kept = (between.merged).kept;
}

-- ---- nothing came yet

pub nothing_merged : (merge : Merge) (is_on : Bool) → found_marks merge ≡ [] → merge.found.attributes.items ≡ []
    → KeepsNone merge.kept is_on → IsMerged merge [] []
unfolding dump
nothing_merged merge is_on none no_attribute no_step =
    let after : (s : DumpStep) → IsAfter [] [] merge.found s = λ s. record {
      behind = record {
        first_before = tt;
        second_before = tt;
        marked = subst (λ (ms : List (Path × Mark)). AreUpTo ms (step_path s)) (sym none) tt;
      };
      after = subst (λ (xs : List AttributeDifference). AreBefore (places_of xs) s) (sym no_attribute) tt;
    } in
    record {
      shown = subst (AreShown [] []) (sym none) (record { rising = refl; each = λ p. refl });
      sides = λ p a.
          subst (λ (ms : List (Path × Mark)). FitsMark (find path_cmp p ms)
          (find attribute_cmp (p, a) (sides_of merge.found.attributes.items)) None None) (sym none)
          (subst (λ (xs : List AttributeDifference). FitsMark None (find attribute_cmp (p, a) (sides_of xs)) None None)
          (sym no_attribute) refl);
      places_rise = subst (λ (xs : List AttributeDifference). IsStrictlySortedBy place_cmp (places_of xs))
          (sym no_attribute) (rising_nil place_cmp);
      first = λ there. after merge.first.step;
      second = λ there. after merge.second.step;
      kept = λ on. keeps_none merge.found merge.kept is_on no_step;
    }
