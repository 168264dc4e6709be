-- A step of one of two dumps more, or one of each.
use Rattle.std.proofs.Common.{◌≡◌, ℕ, nat_cmp, List, [], ◌∷◌, ◌++◌, Bool, true, false, cond, IsTrue, Option, Some, None}
use Rattle.std.proofs.Common.{refl, sym, ap, ap₂, subst, ◌∙◌, Less, Equal}
use Rattle.std.specs.Ordering.{eq_by_cmp, is_eq, ordering_then}
use Rattle.std.specs.Cmp.Lexicographic.{slice_cmp}
use Rattle.std.specs.Cmp.{tied_itself}
use Rattle.std.specs.FinMap.{find, is_sorted}
use Rattle.std.specs.List.{AllByRecursion}
use Rattle.std.specs.List.Sorted.{IsStrictlySortedBy}
use Rattle.std.proofs.lemmas.Bool.{false≢true}
use Rattle.std.proofs.lemmas.List.{append-nil, map-append}
use Rattle.std.proofs.lemmas.List.Elements.{filter-append}
use Rattle.dump_streams.specs.Dumps.{DumpStep, step_path}
use Rattle.dump_streams.specs.Dumps.DumpStep.{Make, Write, Set}
use Rattle.store_model.specs.Paths.{Path, path_cmp}
use Rattle.dump_streams.specs.Dumps.{after_step}
use Rattle.store_model.specs.Trees.{Tree, Entry}
use Rattle.store_model.proofs.ListsLemmas.{all_weaker, all_append, all_back, all_filter, is_sorted_from_rising}
use Rattle.store_model.proofs.ListsLemmas.{rising_from_is_sorted, rising_head, rising_tail, rising_append, rising_one}
use Rattle.store_model.proofs.ListsLemmas.{rising_to_map, rising_from_map}
use Rattle.store_model.proofs.TreesLemmasPaths.{path_cmp_total, same_from_test}
use Rattle.dump_streams.specs.Dumps.{dump}
use Rattle.dump_streams.specs.Streams.{Extends}
use Rattle.dump_diff.specs.declared.difference.Mark.{Mark}
use Rattle.dump_diff.specs.declared.difference.Mark.TheVariants.{Removed, Added, Kind, Bytes, Attributes}
use Rattle.dump_diff.specs.declared.difference.Side.{Side}
use Rattle.dump_diff.specs.declared.difference.AttributeDifference.{AttributeDifference}
use Rattle.dump_diff.specs.Scripts.{AttributePlace, attribute_cmp, sides_of}
use Rattle.dump_diff.specs.Places.{part, place_cmp, is_first, writes}
use Rattle.dump_diff.specs.Shown.{own, begins, change_of, change_of_two, Shows, ShowsMark, AreShown, AreBefore, AreUpTo}
use Rattle.dump_diff.specs.Shown.{IsBehind, IsMarked, places_of}
use Rattle.dump_diff.specs.Sides.{with_attribute, with_noted}
use Rattle.dump_diff.proofs.PlaceOrder.{place_total, path_le, tied_paths, tied_parts}
use Rattle.dump_diff.proofs.DumpPlaces.{steps_at, own_dump, rising_dump, first_alone, no_write_behind}
use Rattle.dump_diff.proofs.Marking.{ComesNext, StandsBehind, some_more, kept_by_first, kept_by_second, kept_by_both}
use Rattle.dump_diff.proofs.Marking.{marked_by_first, marked_by_second, marked_by_both}
use Rattle.dump_diff.proofs.MarkLists.{MarksOne, marks_one, shown_more, further}

-- ---- what is known of the next step of a dump

pub record IsNextOf (steps : List DumpStep) (c : DumpStep) : Type 0 where
  pub before : AreBefore steps c
  pub first : own (step_path c) steps ≡ [] → is_first c ≡ true
  pub no_write : begins (own (step_path c) steps) ≡ Some true → writes c ≡ false

-- what rises stands before its last element
all_below : (cs : List DumpStep) (c : DumpStep) → IsStrictlySortedBy place_cmp (cs ++ c ∷ []) → AreBefore cs c
all_below [] c rising = tt
all_below (d ∷ cs) c rising = (
  (all_back (λ e. place_cmp d e ≡ Less) cs (c ∷ []) (rising_head place_cmp d (cs ++ c ∷ []) rising)).0,
  all_below cs
      c (rising_tail place_cmp d (cs ++ c ∷ []) rising),
)

own_one : (c : DumpStep) → own (step_path c) (c ∷ []) ≡ c ∷ []
own_one c = ap (λ b. cond b (c ∷ []) []) (ap is_eq (tied_itself path_cmp_total (step_path c)))

pub next_of : (t : Tree) (c : DumpStep) → Extends t c → IsNextOf (dump t) c
unfolding steps_at
next_of t c extends =
    let rising : IsStrictlySortedBy place_cmp (dump t ++ c ∷ []) =
    subst (IsStrictlySortedBy place_cmp) extends.dump_is (rising_dump (after_step t c) extends.is_tree) in
    let is : steps_at (step_path c) (find path_cmp (step_path c) (after_step t c))
    ≡ own (step_path c) (dump t) ++ c ∷ [] =
    sym (own_dump (step_path c) (after_step t c)
    (rising_from_is_sorted path_cmp (after_step t c) (extends.is_tree).sorted))
    ∙ ap (own (step_path c)) extends.dump_is
    ∙ filter-append (λ d. eq_by_cmp path_cmp (step_path c) (step_path d)) (dump t) (c ∷ [])
    ∙ ap (λ (more : List DumpStep). own (step_path c) (dump t) ++ more) (own_one c) in
    record {
      before = all_below (dump t) c rising;
      first = λ none. by_entry (find path_cmp (step_path c) (after_step t c))
          (is ∙ ap (λ (own_ones : List DumpStep). own_ones ++ c ∷ []) none);
      no_write = λ begin. by_begin (find path_cmp (step_path c) (after_step t c)) is begin;
    }
  where
    by_entry : (found : Option Entry) → steps_at (step_path c) found ≡ c ∷ [] → is_first c ≡ true
    by_entry None e = let never : false ≡ true = cc in absurd (false≢true never)
    by_entry (Some entry) e = first_alone (step_path c) entry c e

    by_begin : (found : Option Entry) → steps_at (step_path c) found ≡ own (step_path c) (dump t) ++ c ∷ []
        → begins (own (step_path c) (dump t)) ≡ Some true → writes c ≡ false
    by_begin None e begin = absurd (some_more (own (step_path c) (dump t)) c (sym e))
    by_begin (Some entry) e begin = no_write_behind (step_path c) entry (own (step_path c) (dump t)) c e begin

-- ---- the steps of its path

own_on : (p : Path) (cs : List DumpStep) → AllByRecursion (λ d. step_path d ≡ p) (own p cs)
own_on p [] = tt
own_on p (c ∷ cs) = by_test (eq_by_cmp path_cmp p (step_path c)) refl (own_on p cs)
  where
    by_test : (b : Bool) → eq_by_cmp path_cmp p (step_path c) ≡ b
        → AllByRecursion (λ d. step_path d ≡ p) (own p cs)
        → AllByRecursion (λ d. step_path d ≡ p) (cond b (c ∷ own p cs) (own p cs))
    by_test true e rest = (sym (same_from_test p (step_path c) e), rest)
    by_test false e rest = rest

own_before : (p : Path) (cs : List DumpStep) (c : DumpStep) → AreBefore cs c → AreBefore (own p cs) c
own_before p cs c before = all_filter (λ d. place_cmp d c ≡ Less) (λ d. eq_by_cmp path_cmp p (step_path d)) cs before

-- the next step of a dump on its path
comes : (steps : List DumpStep) (c : DumpStep) → IsNextOf steps c → ComesNext (own (step_path c) steps) c
comes steps c next = record {
  behind = record {
    on = own_on (step_path c) steps;
    before = own_before (step_path c) steps c next.before;
  };
  first = next.first;
  no_write = next.no_write;
}

-- and behind what the other dump has on it
pub stands : (steps : List DumpStep) (c : DumpStep) → AreBefore steps c
    → StandsBehind (own (step_path c) steps) c
stands steps c before = record {
  on = own_on (step_path c) steps;
  before = own_before (step_path c) steps c before;
}

-- ---- the first dump has a step more

pub first_shows : (first second : List DumpStep) (old new : List (Path × Mark)) (c : DumpStep) (mark : Mark)
    → AreShown first second old → IsBehind first second old c → IsNextOf first c
    → (is_first c ≡ true → mark ≡ Removed) × (is_first c ≡ false → mark ≡ change_of c)
    → IsMarked old new (step_path c) mark → AreShown (first ++ c ∷ []) second new
first_shows first second old new c mark shown behind next fits marked =
    let p : Path = step_path c in
    let one = marks_one old new p mark shown.rising behind.marked marked in
    subst (λ (ds : List DumpStep). AreShown (first ++ c ∷ []) ds new) (append-nil second)
    (shown_more first second (c ∷ []) [] old new p shown (refl, tt) tt one.rising one.elsewhere
    (subst (λ (ds : List DumpStep). Shows (find path_cmp p new) (own p first ++ c ∷ []) ds)
    (sym (append-nil (own p second))) (by_mark one (find path_cmp p old) refl)))
  where
    by_mark : MarksOne old new (step_path c) mark → (found : Option Mark)
        → find path_cmp (step_path c) old ≡ found
        → Shows (find path_cmp (step_path c) new) (own (step_path c) first ++ c ∷ [])
        (own (step_path c) second)
    by_mark one (Some m) e =
        let p : Path = step_path c in
        subst (λ (found : Option Mark). Shows found (own p first ++ c ∷ []) (own p second)) (sym (one.there m e))
        (kept_by_first m (own p first) (own p second) c (comes first c next) (stands second c behind.second_before)
        (subst (λ (found : Option Mark). Shows found (own p first) (own p second)) e (shown.each p)))
    by_mark one None e =
        let p : Path = step_path c in
        subst (λ (found : Option Mark). Shows found (own p first ++ c ∷ []) (own p second)) (sym (one.added e))
        (marked_by_first mark (own p first) (own p second) c (comes first c next)
        (stands second c behind.second_before) fits.0 fits.1
        (subst (λ (found : Option Mark). Shows found (own p first) (own p second)) e (shown.each p)))

-- ---- the second has one more

pub second_shows : (first second : List DumpStep) (old new : List (Path × Mark)) (d : DumpStep) (mark : Mark)
    → AreShown first second old → IsBehind first second old d → IsNextOf second d
    → (is_first d ≡ true → mark ≡ Added) × (is_first d ≡ false → mark ≡ change_of d)
    → IsMarked old new (step_path d) mark → AreShown first (second ++ d ∷ []) new
second_shows first second old new d mark shown behind next fits marked =
    let p : Path = step_path d in
    let one = marks_one old new p mark shown.rising behind.marked marked in
    subst (λ (cs : List DumpStep). AreShown cs (second ++ d ∷ []) new) (append-nil first)
    (shown_more first second [] (d ∷ []) old new p shown tt (refl, tt) one.rising one.elsewhere
    (subst (λ (cs : List DumpStep). Shows (find path_cmp p new) cs (own p second ++ d ∷ []))
    (sym (append-nil (own p first))) (by_mark one (find path_cmp p old) refl)))
  where
    by_mark : MarksOne old new (step_path d) mark → (found : Option Mark)
        → find path_cmp (step_path d) old ≡ found
        → Shows (find path_cmp (step_path d) new) (own (step_path d) first)
        (own (step_path d) second ++ d ∷ [])
    by_mark one (Some m) e =
        let p : Path = step_path d in
        subst (λ (found : Option Mark). Shows found (own p first) (own p second ++ d ∷ [])) (sym (one.there m e))
        (kept_by_second m (own p first) (own p second) d (comes second d next) (stands first d behind.first_before)
        (subst (λ (found : Option Mark). Shows found (own p first) (own p second)) e (shown.each p)))
    by_mark one None e =
        let p : Path = step_path d in
        subst (λ (found : Option Mark). Shows found (own p first) (own p second ++ d ∷ [])) (sym (one.added e))
        (marked_by_second mark (own p first) (own p second) d (comes second d next)
        (stands first d behind.first_before) fits.0 fits.1
        (subst (λ (found : Option Mark). Shows found (own p first) (own p second)) e (shown.each p)))

-- ---- each has one more, at one place

moved_next : (p : Path) (steps : List DumpStep) (d : DumpStep) → step_path d ≡ p
    → ComesNext (own (step_path d) steps) d → ComesNext (own p steps) d
moved_next p steps d same next = subst (λ (q : Path). ComesNext (own q steps) d) same next

moved_behind : (p : Path) (steps : List DumpStep) (d : DumpStep) → step_path d ≡ p
    → StandsBehind (own (step_path d) steps) d → StandsBehind (own p steps) d
moved_behind p steps d same behind = subst (λ (q : Path). StandsBehind (own q steps) d) same behind

-- a mark that is there stays
kept : (first second : List DumpStep) (old : List (Path × Mark)) (c d : DumpStep) (m : Mark) → AreShown first second old
    → IsBehind first second old c → IsBehind first second old d → IsNextOf first c → IsNextOf second d
    → step_path c ≡ step_path d → find path_cmp (step_path c) old ≡ Some m
    → ShowsMark m (own (step_path c) first ++ c ∷ []) (own (step_path c) second ++ d ∷ [])
kept first second old c d m shown behind behind_d next next_d same e =
    let p : Path = step_path c in
    kept_by_both m (own p first) (own p second) c d (comes first c next)
    (moved_next p second d (sym same) (comes second d next_d))
    (stands second c behind.second_before) (moved_behind p first d (sym same) (stands first d behind_d.first_before))
    (subst (λ (found : Option Mark). Shows found (own p first) (own p second)) e (shown.each p))

-- two steps that are the same
pub both_show : (first second : List DumpStep) (old : List (Path × Mark)) (c d : DumpStep) → AreShown first second old
    → IsBehind first second old c → IsBehind first second old d → IsNextOf first c → IsNextOf second d
    → place_cmp c d ≡ Equal → c ≡ d → AreShown (first ++ c ∷ []) (second ++ d ∷ []) old
both_show first second old c d shown behind behind_d next next_d tied is =
    let p : Path = step_path c in
    shown_more first second (c ∷ []) (d ∷ []) old old p shown (refl, tt)
    (sym (tied_paths c d tied), tt) shown.rising (λ q other. refl) (by_mark (find path_cmp p old) refl)
  where
    by_mark : (found : Option Mark) → find path_cmp (step_path c) old ≡ found
        → Shows (find path_cmp (step_path c) old) (own (step_path c) first ++ c ∷ [])
        (own (step_path c) second ++ d ∷ [])
    by_mark (Some m) e =
        let p : Path = step_path c in
        subst (λ (found : Option Mark). Shows found (own p first ++ c ∷ []) (own p second ++ d ∷ [])) (sym e)
        (kept first second old c d m shown behind behind_d next next_d (tied_paths c d tied) e)
    by_mark None e =
        let p : Path = step_path c in
        let same : own p first ≡ own p second =
        subst (λ (found : Option Mark). Shows found (own p first) (own p second)) e (shown.each p) in
        subst (λ (found : Option Mark). Shows found (own p first ++ c ∷ []) (own p second ++ d ∷ [])) (sym e)
        (ap₂ (λ (cs : List DumpStep) (b : DumpStep). cs ++ b ∷ []) same is)

-- two that are not
pub both_differ : (first second : List DumpStep) (old new : List (Path × Mark)) (c d : DumpStep) (mark : Mark)
    → AreShown first second old → IsBehind first second old c → IsBehind first second old d
    → IsNextOf first c → IsNextOf second d
    → place_cmp c d ≡ Equal → (c ≡ d → ⊥) → mark ≡ change_of_two c d → IsMarked old new (step_path c) mark
    → AreShown (first ++ c ∷ []) (second ++ d ∷ []) new
both_differ first second old new c d mark shown behind behind_d next next_d tied other changed marked =
    let p : Path = step_path c in
    let one = marks_one old new p mark shown.rising behind.marked marked in
    shown_more first second (c ∷ []) (d ∷ []) old new p shown (refl, tt)
    (sym (tied_paths c d tied), tt) one.rising one.elsewhere (by_mark one (find path_cmp p old) refl)
  where
    by_mark : MarksOne old new (step_path c) mark → (found : Option Mark)
        → find path_cmp (step_path c) old ≡ found
        → Shows (find path_cmp (step_path c) new) (own (step_path c) first ++ c ∷ [])
        (own (step_path c) second ++ d ∷ [])
    by_mark one (Some m) e =
        let p : Path = step_path c in
        subst (λ (found : Option Mark). Shows found (own p first ++ c ∷ []) (own p second ++ d ∷ []))
        (sym (one.there m e)) (kept first second old c d m shown behind behind_d next next_d
        (tied_paths c d tied) e)
    by_mark one None e =
        let p : Path = step_path c in
        subst (λ (found : Option Mark). Shows found (own p first ++ c ∷ []) (own p second ++ d ∷ []))
        (sym (one.added e))
        (marked_by_both mark (own p first) (own p second) c d (comes first c next)
        (moved_next p second d (sym (tied_paths c d tied)) (comes second d next_d))
        (stands second c behind.second_before)
        (moved_behind p first d (sym (tied_paths c d tied)) (stands first d behind_d.first_before)) tied other
        changed
        (subst (λ (found : Option Mark). Shows found (own p first) (own p second)) e (shown.each p)))

-- ---- the steps at hand stand behind what came

-- before one step is before a later one
before_later : (cs : List DumpStep) (c d : DumpStep) → place_cmp c d ≡ Less → AreBefore cs c → AreBefore cs d
before_later cs c d l before = all_weaker (λ b. place_cmp b c ≡ Less) (λ b. place_cmp b d ≡ Less)
    (λ b h. place_total.trans b c d h l) cs before

-- the last of steps is before what they all are before
pub last_before : (cs : List DumpStep) (c d : DumpStep) → AreBefore (cs ++ c ∷ []) d → place_cmp c d ≡ Less
last_before cs c d before = (all_back (λ b. place_cmp b d ≡ Less) cs (c ∷ []) before).0

pub behind_swapped : (first second : List DumpStep) (marks : List (Path × Mark)) (c : DumpStep)
    → IsBehind first second marks c → IsBehind second first marks c
behind_swapped first second marks c behind = record {
  first_before = behind.second_before;
  second_before = behind.first_before;
  marked = behind.marked;
}

-- the next step of the stream of which one came
pub behind_next : (first second : List DumpStep) (old new : List (Path × Mark)) (c d : DumpStep)
    → IsBehind first second old c → AreUpTo new (step_path c) → AreBefore (first ++ c ∷ []) d
    → IsBehind (first ++ c ∷ []) second new d
behind_next first second old new c d behind upto before =
    let l = last_before first c d before in
    record {
      first_before = before;
      second_before = before_later second c d l behind.second_before;
      marked = further new (step_path c) (step_path d) (path_le c d l) upto;
    }

-- the step of the other stream
pub behind_other : (first second : List DumpStep) (old new : List (Path × Mark)) (c d : DumpStep)
    → IsBehind first second old d → AreUpTo new (step_path c) → place_cmp c d ≡ Less
    → IsBehind (first ++ c ∷ []) second new d
behind_other first second old new c d behind upto l = record {
  first_before = all_append (λ b. place_cmp b d ≡ Less) first (c ∷ []) behind.first_before (l, tt);
  second_before = behind.second_before;
  marked = further new (step_path c) (step_path d) (path_le c d l) upto;
}

-- the next step of a stream where one of each came
pub behind_both : (first second : List DumpStep) (old new : List (Path × Mark)) (c d e : DumpStep)
    → place_cmp c d ≡ Equal
    → IsBehind first second old c → AreUpTo new (step_path c) → AreBefore (first ++ c ∷ []) e
    → IsBehind (first ++ c ∷ []) (second ++ d ∷ []) new e
behind_both first second old new c d e tied behind upto before =
    let l = last_before first c e before in
    record {
      first_before = before;
      second_before = all_append (λ b. place_cmp b e ≡ Less) second (d ∷ [])
          (before_later second c e l behind.second_before) (sym (place_total.congr c d e tied) ∙ l, tt);
      marked = further new (step_path c) (step_path e) (path_le c e l) upto;
    }

-- ---- the attributes that differ

-- no attribute more, or that of a step behind the others
pub data AddsAttribute (old new : List AttributeDifference) (c : DumpStep) : Type 0 where
  Same : new ≡ old → AddsAttribute old new c
  More : (a : AttributeDifference) → new ≡ old ++ a ∷ [] → step_path c ≡ a.path → part c ≡ 1 ∷ a.name
      → AddsAttribute old new c

-- the place of an attribute that is added is that of the step
same_place : (c : DumpStep) (a : AttributeDifference) → step_path c ≡ a.path → part c ≡ 1 ∷ a.name → (d : DumpStep)
    → place_cmp (Set a.path a.name []) d ≡ place_cmp c d
same_place c a path name d =
    ap₂ (λ (p : Path) (n : List ℕ). ordering_then (path_cmp p (step_path d)) (slice_cmp nat_cmp n (part d)))
    (sym path) (sym name)

same_behind : (c : DumpStep) (a : AttributeDifference) → step_path c ≡ a.path → part c ≡ 1 ∷ a.name → (d : DumpStep)
    → place_cmp d (Set a.path a.name []) ≡ place_cmp d c
same_behind c a path name d =
    ap₂ (λ (p : Path) (n : List ℕ). ordering_then (path_cmp (step_path d) p) (slice_cmp nat_cmp (part d) n))
    (sym path) (sym name)

places_more : (old new : List AttributeDifference) (a : AttributeDifference) → new ≡ old ++ a ∷ []
    → places_of new ≡ places_of old ++ Set a.path a.name [] ∷ []
places_more old new a e = ap places_of e
    ∙ map-append (λ (x : AttributeDifference). Set x.path x.name []) old (a ∷ [])

pub places_later : (old new : List AttributeDifference) (c d : DumpStep) → AddsAttribute old new c
    → AreBefore (places_of old) c → place_cmp c d ≡ Less → AreBefore (places_of new) d
places_later old new c d (Same e) before l =
    subst (λ (xs : List AttributeDifference). AreBefore (places_of xs) d) (sym e)
    (before_later (places_of old) c d l before)
places_later old new c d (More a e path name) before l =
    subst (λ (cs : List DumpStep). AreBefore cs d) (sym (places_more old new a e))
    (all_append (λ b. place_cmp b d ≡ Less) (places_of old) (Set a.path a.name [] ∷ [])
    (before_later (places_of old) c d l before) (same_place c a path name d ∙ l, tt))

pub places_rise_more : (old new : List AttributeDifference) (c : DumpStep) → AddsAttribute old new c
    → AreBefore (places_of old) c → IsStrictlySortedBy place_cmp (places_of old)
    → IsStrictlySortedBy place_cmp (places_of new)
places_rise_more old new c (Same e) before rising =
    subst (λ (xs : List AttributeDifference). IsStrictlySortedBy place_cmp (places_of xs)) (sym e) rising
places_rise_more old new c (More a e path name) before rising =
    subst (IsStrictlySortedBy place_cmp) (sym (places_more old new a e))
    (rising_append place_cmp (places_of old) (Set a.path a.name [] ∷ []) rising
    (rising_one place_cmp (Set a.path a.name []))
    (all_weaker (λ b. place_cmp b c ≡ Less)
    (λ b. AllByRecursion (λ d. place_cmp b d ≡ Less) (Set a.path a.name [] ∷ []))
    (λ b l. (same_behind c a path name b ∙ l, tt)) (places_of old) before))

-- they rise by path and name
pub attributes_rise : (attributes : List AttributeDifference) → IsStrictlySortedBy place_cmp (places_of attributes)
    → IsTrue (is_sorted attribute_cmp (sides_of attributes))
attributes_rise attributes rising =
    is_sorted_from_rising attribute_cmp (sides_of attributes)
    (rising_to_map (λ (x y : AttributePlace × Side). attribute_cmp x.0 y.0)
    (λ (a : AttributeDifference). ((a.path, a.name), a.side)) attributes
    (rising_from_map place_cmp (λ (a : AttributeDifference). Set a.path a.name []) attributes rising))

-- so it is with a step at the same place
pub adds_tied : (old new : List AttributeDifference) (c d : DumpStep) → place_cmp c d ≡ Equal → AddsAttribute old new c
    → AddsAttribute old new d
adds_tied old new c d tied (Same e) = Same e
adds_tied old new c d tied (More a e path name) =
    More a e (sym (tied_paths c d tied) ∙ path) (sym (tied_parts c d tied) ∙ name)

-- what is noted of a step is its attribute, or nothing
pub adds_noted : (old new : List AttributeDifference) (mark : Mark) (side : Side) (c : DumpStep)
    → new ≡ with_noted old mark side c → AddsAttribute old new c
adds_noted old new mark side (Set p a bytes) e = by_mark mark e
  where
    by_mark : (m : Mark) → new ≡ with_attribute old m side p a → AddsAttribute old new (Set p a bytes)
    by_mark Bytes e = More (record { path = p; name = a; side = side }) e refl refl
    by_mark Attributes e = More (record { path = p; name = a; side = side }) e refl refl
    by_mark Removed e = Same e
    by_mark Added e = Same e
    by_mark Kind e = Same e
adds_noted old new mark side (Make p) e = Same e
adds_noted old new mark side (Write p at bytes) e = Same e
