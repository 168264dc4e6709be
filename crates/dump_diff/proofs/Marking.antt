-- What the steps on a path show, while they come.
use Rattle.std.proofs.Common.{◌≡◌, List, [], ◌∷◌, ◌++◌, Bool, true, false, not, cond, Some, ◌⊎◌, inl, inr, refl, sym}
use Rattle.std.proofs.Common.{ap, subst, ◌∙◌, Less, Equal}
use Rattle.std.specs.List.{AllByRecursion, Contains}
use Rattle.std.proofs.lemmas.Bool.{false≢true}
use Rattle.std.proofs.lemmas.List.{append-nil}
use Rattle.std.proofs.lemmas.List.Elements.{All-contains, All-from_recursion, Contains-append_left, Contains-push}
use Rattle.std.proofs.lemmas.List.Elements.{Contains-push_cases, filter-append}
use Rattle.dump_streams.specs.Dumps.{DumpStep, step_path}
use Rattle.dump_streams.specs.Dumps.DumpStep.{Make, Write, Set}
use Rattle.dump_diff.specs.declared.difference.Mark.{Mark}
use Rattle.dump_diff.specs.declared.difference.Mark.TheVariants.{Removed, Added, Kind, Bytes, Attributes}
use Rattle.dump_diff.specs.Places.{place_cmp, is_first, makes, writes, sets}
use Rattle.dump_diff.specs.Shown.{begins, node_part, HasAlone, AreApart, ShowKinds, ShowBytes, ShowAttributes}
use Rattle.dump_diff.specs.Shown.{ShowsMark, AreBefore, change_of, change_of_two}
use Rattle.dump_diff.proofs.PlaceOrder.{never_below_itself, none_before_first, set_after, set_tied}
use Rattle.dump_diff.proofs.PlaceOrder.{tied_paths}
use Rattle.dump_diff.proofs.DumpPlaces.{begins_more}

-- what stands behind a list is not in it
not_among : (cs : List DumpStep) (c : DumpStep) → AreBefore cs c → Contains cs c → ⊥
not_among cs c before has = never_below_itself c c
    (All-contains (λ d. place_cmp d c ≡ Less) cs c (All-from_recursion (λ d. place_cmp d c ≡ Less) cs before) has) refl

-- a list with a step behind it has one
pub some_more : (cs : List DumpStep) (c : DumpStep) → cs ++ c ∷ [] ≡ [] → ⊥
some_more [] c e = let never : false ≡ true = cc in false≢true never
some_more (d ∷ cs) c e = let never : false ≡ true = cc in false≢true never

-- ---- steps of one path

-- steps are on the path of another one
abbrev pub AreOn : List DumpStep → DumpStep → Type 0
AreOn cs c = AllByRecursion (λ d. step_path d ≡ step_path c) cs

-- a step stands behind others of its path
pub record StandsBehind (cs : List DumpStep) (c : DumpStep) : Type 0 where
  pub on : AreOn cs c
  pub before : AreBefore cs c

-- it is the next one of its path in the dump that had these
pub record ComesNext (cs : List DumpStep) (c : DumpStep) : Type 0 where
  pub behind : StandsBehind cs c
  pub first : cs ≡ [] → is_first c ≡ true
  pub no_write : begins cs ≡ Some true → writes c ≡ false

-- the first step of an entry comes where there is none of its path
no_first : (cs : List DumpStep) (c : DumpStep) → is_first c ≡ true → StandsBehind cs c → cs ≡ []
no_first [] c first behind = refl
no_first (d ∷ cs) c first behind = absurd (none_before_first d c first behind.on.0 behind.before.0)

-- ---- lists that are apart

apart_swapped : {test : DumpStep → Bool} (cs ds : List DumpStep) → AreApart test cs ds → AreApart test ds cs
apart_swapped cs ds (inl one) = inr one
apart_swapped cs ds (inr one) = inl one

-- what a list has alone, it has alone when either list goes on
alone_more : {test : DumpStep → Bool} (cs ds : List DumpStep) (c : DumpStep) → HasAlone test cs ds
    → HasAlone test (cs ++ c ∷ []) ds
alone_more cs ds c one = record {
  step = one.step;
  is_such = one.is_such;
  here = Contains-append_left cs (c ∷ []) one.step one.here;
  not_there = one.not_there;
}

alone_still : {test : DumpStep → Bool} (cs ds : List DumpStep) (d : DumpStep) → AreBefore cs d → HasAlone test cs ds
    → HasAlone test cs (ds ++ d ∷ [])
alone_still cs ds d before one = record {
  step = one.step;
  is_such = one.is_such;
  here = one.here;
  not_there = λ has. by_place (Contains-push_cases ds d one.step has);
}
  where
    by_place : Contains ds one.step ⊎ (d ≡ one.step) → ⊥
    by_place (inl has) = one.not_there has
    by_place (inr is) = not_among cs d before (subst (Contains cs) (sym is) one.here)

apart_more : {test : DumpStep → Bool} (cs ds : List DumpStep) (c : DumpStep) → AreBefore ds c → AreApart test cs ds
    → AreApart test (cs ++ c ∷ []) ds
apart_more cs ds c before (inl one) = inl (alone_more cs ds c one)
apart_more cs ds c before (inr one) = inr (alone_still ds cs c before one)

apart_both : {test : DumpStep → Bool} (cs ds : List DumpStep) (c d : DumpStep) → AreBefore ds c → AreBefore cs d
    → AreApart test cs ds → AreApart test (cs ++ c ∷ []) (ds ++ d ∷ [])
apart_both cs ds c d behind before (inl one) = inl (alone_more cs (ds ++ d ∷ []) c (alone_still cs ds d before one))
apart_both cs ds c d behind before (inr one) = inr (alone_more ds (cs ++ c ∷ []) d (alone_still ds cs c behind one))

-- ---- what marks show, from either side

bytes_swapped : (cs ds : List DumpStep) → ShowBytes cs ds → ShowBytes ds cs
bytes_swapped cs ds h = record { first = h.second; second = h.first; apart = apart_swapped cs ds h.apart }

attributes_swapped : (cs ds : List DumpStep) → ShowAttributes cs ds → ShowAttributes ds cs
attributes_swapped cs ds h = record {
  first = h.second;
  second = h.first;
  node = sym h.node;
  apart = apart_swapped cs ds h.apart;
}

kinds_swapped : (cs ds : List DumpStep) → ShowKinds cs ds → ShowKinds ds cs
kinds_swapped cs ds (inl h) = inr (h.1, h.0)
kinds_swapped cs ds (inr h) = inl (h.1, h.0)

-- ---- attributes that come

node_more : (cs : List DumpStep) (c : DumpStep) → sets c ≡ true → node_part (cs ++ c ∷ []) ≡ node_part cs
node_more cs c set = filter-append (λ d. not (sets d)) cs (c ∷ [])
    ∙ ap (λ (b : Bool). node_part cs ++ cond (not b) (c ∷ []) []) set ∙ append-nil (node_part cs)

-- where attributes differ only attributes come
set_next : (cs ds : List DumpStep) (c : DumpStep) → StandsBehind cs c → StandsBehind ds c
    → AreApart sets cs ds → sets c ≡ true
set_next cs ds c behind over apart = by_side apart
  where
    behind_one : (es : List DumpStep) (one : DumpStep) → StandsBehind es c → sets one ≡ true
        → Contains es one → sets c ≡ true
    behind_one es one stands such here =
        set_after one c such (All-contains (λ d. step_path d ≡ step_path c) es one
        (All-from_recursion (λ d. step_path d ≡ step_path c) es stands.on) here)
        (All-contains (λ d. place_cmp d c ≡ Less) es one
        (All-from_recursion (λ d. place_cmp d c ≡ Less) es stands.before) here)

    by_side : AreApart sets cs ds → sets c ≡ true
    by_side (inl one) = behind_one cs one.step behind one.is_such one.here
    by_side (inr one) = behind_one ds one.step over one.is_such one.here

-- ---- a mark stays

kinds_more : (cs ds : List DumpStep) (c : DumpStep) → ShowKinds cs ds → ShowKinds (cs ++ c ∷ []) ds
kinds_more cs ds c (inl h) = inl (begins_more cs (c ∷ []) true h.0, h.1)
kinds_more cs ds c (inr h) = inr (begins_more cs (c ∷ []) false h.0, h.1)

bytes_more : (cs ds : List DumpStep) (c : DumpStep) → StandsBehind ds c → ShowBytes cs ds → ShowBytes (cs ++ c ∷ []) ds
bytes_more cs ds c over h = record {
  first = begins_more cs (c ∷ []) false h.first;
  second = h.second;
  apart = apart_more cs ds c over.before h.apart;
}

attributes_more : (cs ds : List DumpStep) (c : DumpStep) → StandsBehind cs c → StandsBehind ds c → ShowAttributes cs ds
    → ShowAttributes (cs ++ c ∷ []) ds
attributes_more cs ds c behind over h = record {
  first = some_more cs c;
  second = h.second;
  node = node_more cs c (set_next cs ds c behind over h.apart) ∙ h.node;
  apart = apart_more cs ds c over.before h.apart;
}

-- when a step of the first list comes
pub kept_by_first : (m : Mark) (cs ds : List DumpStep) (c : DumpStep) → ComesNext cs c → StandsBehind ds c
    → ShowsMark m cs ds → ShowsMark m (cs ++ c ∷ []) ds
kept_by_first Removed cs ds c next over h = (some_more cs c, h.1)
kept_by_first Added cs ds c next over h = absurd (h.1 (no_first ds c (next.first h.0) over))
kept_by_first Kind cs ds c next over h = kinds_more cs ds c h
kept_by_first Bytes cs ds c next over h = bytes_more cs ds c over h
kept_by_first Attributes cs ds c next over h = attributes_more cs ds c next.behind over h

-- and of the second
pub kept_by_second : (m : Mark) (cs ds : List DumpStep) (d : DumpStep) → ComesNext ds d → StandsBehind cs d
    → ShowsMark m cs ds → ShowsMark m cs (ds ++ d ∷ [])
kept_by_second Removed cs ds d next over h = absurd (h.0 (no_first cs d (next.first h.1) over))
kept_by_second Added cs ds d next over h = (h.0, some_more ds d)
kept_by_second Kind cs ds d next over h = kinds_swapped (ds ++ d ∷ []) cs (kinds_more ds cs d (kinds_swapped cs ds h))
kept_by_second Bytes cs ds d next over h =
    bytes_swapped (ds ++ d ∷ []) cs (bytes_more ds cs d over (bytes_swapped cs ds h))
kept_by_second Attributes cs ds d next over h =
    attributes_swapped (ds ++ d ∷ []) cs (attributes_more ds cs d next.behind over (attributes_swapped cs ds h))

-- and of both
pub kept_by_both : (m : Mark) (cs ds : List DumpStep) (c d : DumpStep) → ComesNext cs c → ComesNext ds d
    → StandsBehind ds c → StandsBehind cs d → ShowsMark m cs ds → ShowsMark m (cs ++ c ∷ []) (ds ++ d ∷ [])
kept_by_both Removed cs ds c d next next' over over' h = absurd (h.0 (no_first cs d (next'.first h.1) over'))
kept_by_both Added cs ds c d next next' over over' h = absurd (h.1 (no_first ds c (next.first h.0) over))
kept_by_both Kind cs ds c d next next' over over' h =
    let more = kinds_swapped (cs ++ c ∷ []) ds (kinds_more cs ds c h) in
    kinds_swapped (ds ++ d ∷ []) (cs ++ c ∷ []) (kinds_more ds (cs ++ c ∷ []) d more)
kept_by_both Bytes cs ds c d next next' over over' h = record {
  first = begins_more cs (c ∷ []) false h.first;
  second = begins_more ds (d ∷ []) false h.second;
  apart = apart_both cs ds c d over.before over'.before h.apart;
}
kept_by_both Attributes cs ds c d next next' over over' h = record {
  first = some_more cs c;
  second = some_more ds d;
  node = node_more cs c (set_next cs ds c next.behind over h.apart) ∙ h.node
      ∙ sym (node_more ds d (set_next cs ds d over' next'.behind h.apart));
  apart = apart_both cs ds c d over.before over'.before h.apart;
}

-- ---- where the lists were equal

-- a list that goes on with a write begins with a file
begins_write : (cs : List DumpStep) (c : DumpStep) → makes c ≡ false → writes c ≡ true
    → (begins cs ≡ Some true → writes c ≡ false) → begins (cs ++ c ∷ []) ≡ Some false
begins_write [] c makes_none is never = ap Some makes_none
begins_write (d ∷ cs) c makes_none is never = by_test (makes d) refl
  where
    by_test : (b : Bool) → makes d ≡ b → Some (makes d) ≡ Some false
    by_test true e = absurd (false≢true (sym (never (ap Some e)) ∙ is))
    by_test false e = ap Some e

-- as one does that went on so and had a step
begins_back : (cs : List DumpStep) (c : DumpStep) (b : Bool) → (cs ≡ [] → ⊥)
    → begins (cs ++ c ∷ []) ≡ Some b → begins cs ≡ Some b
begins_back [] c b some e = absurd (some refl)
begins_back (d ∷ cs) c b some e = e

-- a step that comes behind all others of a list is alone
alone_behind : {test : DumpStep → Bool} (cs ds : List DumpStep) (c : DumpStep) → test c ≡ true → AreBefore ds c
    → HasAlone test (cs ++ c ∷ []) ds
alone_behind cs ds c such before = record {
  step = c;
  is_such = such;
  here = Contains-push cs c;
  not_there = not_among ds c before;
}

-- a list has a step more, which is not the first: a write, or an attribute
data ChangesOne (m : Mark) (cs ds : List DumpStep) : Type 0 where
  OtherBytes : m ≡ Bytes → ShowBytes cs ds → ChangesOne m cs ds
  OtherAttributes : m ≡ Attributes → ShowAttributes cs ds → ChangesOne m cs ds

changed_by_one : (m : Mark) (cs ds : List DumpStep) (c : DumpStep) → ComesNext cs c → StandsBehind ds c
    → is_first c ≡ false → m ≡ change_of c → cs ≡ ds → ChangesOne m (cs ++ c ∷ []) ds
changed_by_one m cs ds (Make p) next over later fits same = absurd (false≢true (sym later))
changed_by_one m cs ds (Write p at bytes) next over later fits same =
    let c = Write p at bytes in
    let begin : begins (cs ++ c ∷ []) ≡ Some false = begins_write cs c refl refl next.no_write in
    OtherBytes fits (record {
      first = begin;
      second = ap begins (sym same) ∙ begins_back cs c false (λ none. false≢true (sym later ∙ next.first none)) begin;
      apart = inl (alone_behind cs ds c refl over.before);
    })
changed_by_one m cs ds (Set p a bytes) next over later fits same =
    let c = Set p a bytes in
    OtherAttributes fits (record {
      first = some_more cs c;
      second = λ none. false≢true (sym later ∙ next.first (same ∙ none));
      node = node_more cs c refl ∙ ap node_part same;
      apart = inl (alone_behind cs ds c refl over.before);
    })

as_mark : (m n : Mark) (cs ds : List DumpStep) → m ≡ n → ShowsMark n cs ds → ShowsMark m cs ds
as_mark m n cs ds is h = subst (λ (k : Mark). ShowsMark k cs ds) (sym is) h

-- the first has a step more
pub marked_by_first : (m : Mark) (cs ds : List DumpStep) (c : DumpStep) → ComesNext cs c → StandsBehind ds c
    → (is_first c ≡ true → m ≡ Removed) → (is_first c ≡ false → m ≡ change_of c) → cs ≡ ds
    → ShowsMark m (cs ++ c ∷ []) ds
marked_by_first m cs ds c next over removed changed same = by_test (is_first c) refl
  where
    by_change : ChangesOne m (cs ++ c ∷ []) ds → ShowsMark m (cs ++ c ∷ []) ds
    by_change (OtherBytes is h) = as_mark m Bytes (cs ++ c ∷ []) ds is h
    by_change (OtherAttributes is h) = as_mark m Attributes (cs ++ c ∷ []) ds is h

    by_test : (b : Bool) → is_first c ≡ b → ShowsMark m (cs ++ c ∷ []) ds
    by_test true is = as_mark m Removed (cs ++ c ∷ []) ds (removed is) (some_more cs c, no_first ds c is over)
    by_test false is = by_change (changed_by_one m cs ds c next over is (changed is) same)

-- the second has one more
pub marked_by_second : (m : Mark) (cs ds : List DumpStep) (d : DumpStep) → ComesNext ds d → StandsBehind cs d
    → (is_first d ≡ true → m ≡ Added) → (is_first d ≡ false → m ≡ change_of d) → cs ≡ ds → ShowsMark m cs (ds ++ d ∷ [])
marked_by_second m cs ds d next over added changed same = by_test (is_first d) refl
  where
    by_change : ChangesOne m (ds ++ d ∷ []) cs → ShowsMark m cs (ds ++ d ∷ [])
    by_change (OtherBytes is h) = as_mark m Bytes cs (ds ++ d ∷ []) is (bytes_swapped (ds ++ d ∷ []) cs h)
    by_change (OtherAttributes is h) =
        as_mark m Attributes cs (ds ++ d ∷ []) is (attributes_swapped (ds ++ d ∷ []) cs h)

    by_test : (b : Bool) → is_first d ≡ b → ShowsMark m cs (ds ++ d ∷ [])
    by_test true is = as_mark m Added cs (ds ++ d ∷ []) (added is) (no_first cs d is over, some_more ds d)
    by_test false is = by_change (changed_by_one m ds cs d next over is (changed is) (sym same))

-- each has another one: two steps at one place
alone_of_two : {test : DumpStep → Bool} (cs ds : List DumpStep) (c d : DumpStep) → test c ≡ true → StandsBehind ds c
    → (c ≡ d → ⊥) → HasAlone test (cs ++ c ∷ []) (ds ++ d ∷ [])
alone_of_two cs ds c d such over other = record {
  step = c;
  is_such = such;
  here = Contains-push cs c;
  not_there = λ has. by_place (Contains-push_cases ds d c has);
}
  where
    by_place : Contains ds c ⊎ (d ≡ c) → ⊥
    by_place (inl has) = not_among ds c over.before has
    by_place (inr is) = other (sym is)

begins_alone : (cs : List DumpStep) (c : DumpStep) (b : Bool) → cs ≡ [] → makes c ≡ b → begins (cs ++ c ∷ []) ≡ Some b
begins_alone cs c b none is = ap (λ (xs : List DumpStep). begins (xs ++ c ∷ [])) none ∙ ap Some is

pub marked_by_both : (m : Mark) (cs ds : List DumpStep) (c d : DumpStep) → ComesNext cs c → ComesNext ds d
    → StandsBehind ds c → StandsBehind cs d
    → place_cmp c d ≡ Equal → (c ≡ d → ⊥) → m ≡ change_of_two c d → cs ≡ ds → ShowsMark m (cs ++ c ∷ []) (ds ++ d ∷ [])
marked_by_both m cs ds (Make p) (Make q) next next' over over' tied other fits same =
    absurd (other (ap Make (tied_paths (Make p) (Make q) tied)))
marked_by_both m cs ds (Make p) (Write q at bytes) next next' over over' tied other fits same =
    let c = Make p in
    let d = Write q at bytes in
    as_mark m Kind (cs ++ c ∷ []) (ds ++ d ∷ []) fits
    (inl (
      begins_alone cs c true (no_first cs c refl next.behind) refl,
      begins_alone ds d false (no_first ds c refl over) refl,
    ))
marked_by_both m cs ds (Write p at bytes) (Make q) next next' over over' tied other fits same =
    let c = Write p at bytes in
    let d = Make q in
    as_mark m Kind (cs ++ c ∷ []) (ds ++ d ∷ []) fits
    (inr (
      begins_alone cs c false (no_first cs d refl over') refl,
      begins_alone ds d true (no_first ds d refl next'.behind) refl,
    ))
marked_by_both m cs ds (Write p at bytes) (Write q offset others) next next' over over' tied other fits same =
    let c = Write p at bytes in
    let d = Write q offset others in
    as_mark m Bytes (cs ++ c ∷ []) (ds ++ d ∷ []) fits (record {
      first = begins_write cs c refl refl next.no_write;
      second = begins_write ds d refl refl next'.no_write;
      apart = inl (alone_of_two cs ds c d refl over other);
    })
marked_by_both m cs ds (Make p) (Set q a bytes) next next' over over' tied other fits same =
    absurd (false≢true (set_tied (Make p) (Set q a bytes) tied))
marked_by_both m cs ds (Write p at bytes) (Set q a others) next next' over over' tied other fits same =
    absurd (false≢true (set_tied (Write p at bytes) (Set q a others) tied))
marked_by_both m cs ds (Set p a bytes) d next next' over over' tied other fits same =
    let c = Set p a bytes in
    as_mark m Attributes (cs ++ c ∷ []) (ds ++ d ∷ []) fits (record {
      first = some_more cs c;
      second = some_more ds d;
      node = node_more cs c refl ∙ ap node_part same ∙ sym (node_more ds d (sym (set_tied c d tied)));
      apart = inl (alone_of_two cs ds c d refl over other);
    })
