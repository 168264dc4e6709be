-- The attributes that differ, while steps come.
use Rattle.std.proofs.Common.{◌≡◌, ℕ, List, [], ◌∷◌, ◌++◌, Bool, true, false, cond, Option, Some, None}
use Rattle.std.proofs.Common.{refl, sym, ap, ap₂, subst, ◌∙◌, Ordering, Less, Equal, Greater}
use Rattle.std.specs.Ordering.{eq_by_cmp, is_eq, ordering_then, ordering_reverse}
use Rattle.std.specs.Cmp.{IsTotalOrder, tied_itself}
use Rattle.std.specs.Option.{IsSome, IsNone}
use Rattle.std.specs.FinMap.{find}
use Rattle.std.specs.List.{flat_map}
use Rattle.std.proofs.lemmas.Bool.{false≢true}
use Rattle.std.proofs.lemmas.Option.{same_Some}
use Rattle.std.proofs.lemmas.List.{append-nil, map-append}
use Rattle.std.proofs.lemmas.List.Concat.{flat_map-append}
use Rattle.std.proofs.lemmas.List.Elements.{filter-append}
use Rattle.store_model.specs.Paths.{Path, Name, path_cmp, name_cmp}
use Rattle.dump_streams.specs.Dumps.{DumpStep, step_path}
use Rattle.dump_streams.specs.Dumps.DumpStep.{Make, Write, Set}
use Rattle.store_model.specs.Trees.{Attributes as Held}
use Rattle.store_model.proofs.PathsLemmasPlaces.{name_cmp_total, same_name_from_tie}
use Rattle.store_model.proofs.TreesLemmasPaths.{path_cmp_total, same_from_test, tie_from_test}
use Rattle.dump_diff.specs.declared.difference.Mark.{Mark}
use Rattle.dump_diff.specs.declared.difference.Mark.TheVariants.{Removed, Added, Kind, Bytes, Attributes}
use Rattle.dump_diff.specs.declared.difference.Side.{Side}
use Rattle.dump_diff.specs.declared.difference.Side.TheVariants.{First, Second, Both}
use Rattle.dump_diff.specs.declared.difference.AttributeDifference.{AttributeDifference}
use Rattle.dump_diff.specs.Scripts.{AttributePlace, attribute_cmp, sides_of}
use Rattle.dump_diff.specs.Places.{place_cmp}
use Rattle.dump_diff.specs.Shown.{own, places_of, Shows, AreShown, AreBefore}
use Rattle.dump_diff.specs.Sides.{TellsSide, FitsMark, SidesShown, attributes_in, set_in, with_attribute, with_noted}
use Rattle.dump_diff.proofs.PlaceOrder.{tied_paths, tied_parts, set_tied}
use Rattle.dump_diff.proofs.Searching.{attribute_total}
use Rattle.dump_diff.proofs.DumpPlaces.{own_none, own_all}
use Rattle.dump_diff.proofs.MarkLists.{MarksOne}
use Rattle.dump_diff.proofs.Marking.{StandsBehind}

-- ---- what is found in lists with one element more

module _ {K V : Type 0} {R : K → K → Ordering} (o : IsTotalOrder R) where
  find_other : (xs : List (K × V)) (q k : K) (v : V) → eq_by_cmp R q k ≡ false
      → find R q (xs ++ (k, v) ∷ []) ≡ find R q xs
  find_other [] q k v other = ap (λ b. cond b (Some v) None) other
  find_other (x ∷ xs) q k v other = ap (λ (rest : Option V). cond (eq_by_cmp R q x.0) (Some x.1) rest)
      (find_other xs q k v other)

  find_here : (xs : List (K × V)) (k : K) (v : V) → find R k xs ≡ None → find R k (xs ++ (k, v) ∷ []) ≡ Some v
  find_here [] k v none = ap (λ b. cond b (Some v) None) (ap is_eq (tied_itself o k))
  find_here (x ∷ xs) k v none = by_test (eq_by_cmp R k x.0) none (find_here xs k v)
    where
      by_test : (b : Bool) → cond b (Some x.1) (find R k xs) ≡ None
          → (find R k xs ≡ None → find R k (xs ++ (k, v) ∷ []) ≡ Some v)
          → cond b (Some x.1) (find R k (xs ++ (k, v) ∷ [])) ≡ Some v
      by_test true e rest = let never : Some x.1 ≡ None = e in cc
      by_test false e rest = rest e

  find_none_more : (x : K × V) (xs : List (K × V)) (q : K) → R x.0 q ≡ Less → find R q xs ≡ None
      → find R q (x ∷ xs) ≡ None
  find_none_more x xs q l none = ap (λ b. cond b (Some x.1) (find R q xs))
      (ap is_eq (o.antisymm q x.0 ∙ ap ordering_reverse l)) ∙ none

-- an attribute whose place is behind all others is not among them
side_none : (held : List AttributeDifference) (p : Path) (a : Name) (bytes : List ℕ)
    → AreBefore (places_of held) (Set p a bytes) → find attribute_cmp (p, a) (sides_of held) ≡ None
side_none [] p a bytes before = refl
side_none (h ∷ held) p a bytes before =
    find_none_more attribute_total ((h.path, h.name), h.side) (sides_of held)
    (p, a) before.0 (side_none held p a bytes before.1)

name_below : (p q : Path) (a b : Name) (x y : List ℕ) → p ≡ q
    → place_cmp (Set p a x) (Set q b y) ≡ Less → name_cmp a b ≡ Less
name_below p q a b x y same l =
    sym (ap (λ o. ordering_then o (name_cmp a b)) (ap (λ (r : Path). path_cmp r q) same ∙ tied_itself path_cmp_total q))
    ∙ l

-- an attribute whose step is behind all others of its path is not given by them
set_none : (cs : List DumpStep) (p : Path) (a : Name) (bytes : List ℕ)
    → StandsBehind cs (Set p a bytes) → set_in a cs ≡ None
set_none [] p a bytes behind = refl
set_none (Make q ∷ cs) p a bytes behind =
    set_none cs p a bytes (record { on = behind.on.1; before = behind.before.1 })
set_none (Write q at others ∷ cs) p a bytes behind =
    set_none cs p a bytes (record { on = behind.on.1; before = behind.before.1 })
set_none (Set q b others ∷ cs) p a bytes behind =
    find_none_more name_cmp_total (b, others) (flat_map attributes_in cs) a
    (name_below q p b a others bytes behind.on.0 behind.before.0)
    (set_none cs p a bytes (record { on = behind.on.1; before = behind.before.1 }))

set_more : (a : Name) (cs : List DumpStep) (c : DumpStep)
    → set_in a (cs ++ c ∷ []) ≡ find name_cmp a (flat_map attributes_in cs ++ attributes_in c)
set_more a cs c = ap (find name_cmp a) (flat_map-append attributes_in cs (c ∷ [])
    ∙ ap (λ (x : Held). flat_map attributes_in cs ++ x) (append-nil (attributes_in c)))

set_same : (a : Name) (cs : List DumpStep) (c : DumpStep) → attributes_in c ≡ [] → set_in a (cs ++ c ∷ []) ≡ set_in a cs
set_same a cs c none = set_more a cs c ∙ ap (λ (x : Held). find name_cmp a (flat_map attributes_in cs ++ x)) none
    ∙ ap (find name_cmp a) (append-nil (flat_map attributes_in cs))

set_other : (a b : Name) (cs : List DumpStep) (p : Path) (bytes : List ℕ) → eq_by_cmp name_cmp a b ≡ false
    → set_in a (cs ++ Set p b bytes ∷ []) ≡ set_in a cs
set_other a b cs p bytes other = set_more a cs (Set p b bytes)
    ∙ find_other name_cmp_total (flat_map attributes_in cs) a b bytes other

set_here : (a : Name) (cs : List DumpStep) (p : Path) (bytes : List ℕ) → StandsBehind cs (Set p a bytes)
    → set_in a (cs ++ Set p a bytes ∷ []) ≡ Some bytes
set_here a cs p bytes behind = set_more a cs (Set p a bytes)
    ∙ find_here name_cmp_total (flat_map attributes_in cs) a bytes (set_none cs p a bytes behind)

-- ---- a path is marked

some_none : (z : Option (List ℕ)) → IsSome z → IsNone z → ⊥
some_none None s n = false≢true s
some_none (Some v) s n = false≢true (sym n)

-- where two trees have the same so far, no side is told
none_told : (side : Option Side) (x y : Option (List ℕ)) → x ≡ y → TellsSide side x y → side ≡ None
none_told None x y same h = refl
none_told (Some First) x y same h =
    absurd (some_none x h.0 (subst (λ (z : Option (List ℕ)). IsNone z) (sym same) h.1))
none_told (Some Second) x y same h =
    absurd (some_none x (subst (λ (z : Option (List ℕ)). IsSome z) (sym same) h.1) h.0)
none_told (Some Both) x y same h = absurd (h.2 same)

fits_marked : (m : Mark) (side : Option Side) (x y : Option (List ℕ)) → x ≡ y → TellsSide side x y
    → FitsMark (Some m) side x y
fits_marked Bytes side x y same h = h
fits_marked Attributes side x y same h = h
fits_marked Removed side x y same h = none_told side x y same h
fits_marked Added side x y same h = none_told side x y same h
fits_marked Kind side x y same h = none_told side x y same h

pub sides_marked : (first second : List DumpStep) (old new : List (Path × Mark)) (sides : List (AttributePlace × Side))
    (p : Path) (mark : Mark) → AreShown first second old → MarksOne old new p mark
    → SidesShown first second old sides → SidesShown first second new sides
sides_marked first second old new sides p mark shown one are q a = by_test (eq_by_cmp path_cmp q p) refl
  where
    Fits : Path → Option Mark → Type 0
    Fits r found = FitsMark found (find attribute_cmp (r, a) sides) (set_in a (own r first)) (set_in a (own r second))

    by_mark : (found : Option Mark) → find path_cmp p old ≡ found → Fits p (find path_cmp p new)
    by_mark (Some m) e = subst (Fits p) (e ∙ sym (one.there m e)) (are p a)
    by_mark None e =
        let same : own p first ≡ own p second =
        subst (λ (found : Option Mark). Shows found (own p first) (own p second)) e (shown.each p) in
        subst (Fits p) (sym (one.added e))
        (fits_marked mark (find attribute_cmp (p, a) sides) (set_in a (own p first)) (set_in a (own p second))
        (ap (set_in a) same) (subst (Fits p) e (are p a)))

    by_test : (b : Bool) → eq_by_cmp path_cmp q p ≡ b → Fits q (find path_cmp q new)
    by_test true e =
        let same : q ≡ p = same_from_test q p e in
        subst (λ (r : Path). Fits r (find path_cmp r new)) (sym same) (by_mark (find path_cmp p old) refl)
    by_test false e = subst (Fits q) (sym (one.elsewhere q e)) (are q a)

-- ---- steps come

-- at one path
pub sides_more : (first second first' second' : List DumpStep) (marks : List (Path × Mark))
    (sides sides' : List (AttributePlace × Side)) (p : Path) → SidesShown first second marks sides
    → ((q : Path) → eq_by_cmp path_cmp q p ≡ false → own q first' ≡ own q first)
    → ((q : Path) → eq_by_cmp path_cmp q p ≡ false → own q second' ≡ own q second)
    → ((q : Path) (a : Name) → eq_by_cmp path_cmp q p ≡ false
    → find attribute_cmp (q, a) sides' ≡ find attribute_cmp (q, a) sides)
    → ((a : Name) → FitsMark (find path_cmp p marks) (find attribute_cmp (p, a) sides') (set_in a (own p first'))
    (set_in a (own p second')))
    → SidesShown first' second' marks sides'
sides_more first second first' second' marks sides sides' p are left right held here q a =
    by_test (eq_by_cmp path_cmp q p) refl
  where
    by_test : (b : Bool) → eq_by_cmp path_cmp q p ≡ b
        → FitsMark (find path_cmp q marks) (find attribute_cmp (q, a) sides') (set_in a (own q first'))
        (set_in a (own q second'))
    by_test true e =
        let same : q ≡ p = same_from_test q p e in
        subst (λ (r : Path). FitsMark (find path_cmp r marks) (find attribute_cmp (r, a) sides')
        (set_in a (own r first')) (set_in a (own r second'))) (sym same) (here a)
    by_test false e =
        subst (λ (cs : List DumpStep). FitsMark (find path_cmp q marks) (find attribute_cmp (q, a) sides') (set_in a cs)
        (set_in a (own q second'))) (sym (left q e))
        (subst (λ (ds : List DumpStep). FitsMark (find path_cmp q marks) (find attribute_cmp (q, a) sides')
        (set_in a (own q first)) (set_in a ds)) (sym (right q e))
        (subst (λ (side : Option Side). FitsMark (find path_cmp q marks) side (set_in a (own q first))
        (set_in a (own q second))) (sym (held q a e)) (are q a)))

-- a step more is on its own path alone
pub own_elsewhere : (cs : List DumpStep) (c : DumpStep) (p q : Path) → step_path c ≡ p → eq_by_cmp path_cmp q p ≡ false
    → own q (cs ++ c ∷ []) ≡ own q cs
own_elsewhere cs c p q on other =
    filter-append (λ d. eq_by_cmp path_cmp q (step_path d)) cs (c ∷ [])
    ∙ ap (λ (more : List DumpStep). own q cs ++ more) (own_none p q (c ∷ []) other (on, tt)) ∙ append-nil (own q cs)

pub own_here : (cs : List DumpStep) (c : DumpStep) (p : Path) → step_path c ≡ p
    → own p (cs ++ c ∷ []) ≡ own p cs ++ c ∷ []
own_here cs c p on = filter-append (λ d. eq_by_cmp path_cmp p (step_path d)) cs (c ∷ [])
    ∙ ap (λ (more : List DumpStep). own p cs ++ more) (own_all p (c ∷ []) (on, tt))

-- what is noted is of the step's path
pub noted_elsewhere : (held kept : List AttributeDifference) (mark : Mark) (side : Side) (p : Path) (b : Name)
    → kept ≡ with_attribute held mark side p b
    → (q : Path) (a : Name) → eq_by_cmp attribute_cmp (q, a) (p, b) ≡ false
    → find attribute_cmp (q, a) (sides_of kept) ≡ find attribute_cmp (q, a) (sides_of held)
noted_elsewhere held kept mark side p b is q a other = by_mark mark is
  where
    more : kept ≡ held ++ record {
      path = p;
      name = b;
      side = side;
    } ∷ [] → find attribute_cmp (q, a) (sides_of kept)
        ≡ find attribute_cmp (q, a) (sides_of held)
    more e =
        ap (λ (xs : List AttributeDifference). find attribute_cmp (q, a) (sides_of xs)) e
        ∙ ap (find attribute_cmp (q, a))
        (map-append (λ (x : AttributeDifference). ((x.path, x.name), x.side)) held
        (record { path = p; name = b; side = side } ∷ []))
        ∙ find_other attribute_total (sides_of held) (q, a) (p, b) side other

    by_mark : (m : Mark) → kept ≡ with_attribute held m side p b
        → find attribute_cmp (q, a) (sides_of kept) ≡ find attribute_cmp (q, a) (sides_of held)
    by_mark Bytes e = more e
    by_mark Attributes e = more e
    by_mark Removed e = ap (λ (xs : List AttributeDifference). find attribute_cmp (q, a) (sides_of xs)) e
    by_mark Added e = ap (λ (xs : List AttributeDifference). find attribute_cmp (q, a) (sides_of xs)) e
    by_mark Kind e = ap (λ (xs : List AttributeDifference). find attribute_cmp (q, a) (sides_of xs)) e

-- the attribute that a step sets is told, where both trees have the same sort of entry
pub noted_here : (held kept : List AttributeDifference) (mark : Mark) (side : Side) (p : Path) (a : Name)
    (x' y' : Option (List ℕ)) → kept ≡ with_attribute held mark side p a
    → find attribute_cmp (p, a) (sides_of held) ≡ None → TellsSide (Some side) x' y'
    → FitsMark (Some mark) (find attribute_cmp (p, a) (sides_of kept)) x' y'
noted_here held kept mark side p a x' y' is none tells = by_mark mark is
  where
    more : kept ≡ held ++ record {
      path = p;
      name = a;
      side = side;
    } ∷ [] → TellsSide (find attribute_cmp (p, a) (sides_of kept)) x' y'
    more e = subst (λ (s : Option Side). TellsSide s x' y') (sym (
        ap (λ (xs : List AttributeDifference). find attribute_cmp (p, a) (sides_of xs)) e
        ∙ ap (find attribute_cmp (p, a))
        (map-append (λ (z : AttributeDifference). ((z.path, z.name), z.side)) held
        (record { path = p; name = a; side = side } ∷ []))
        ∙ find_here attribute_total (sides_of held) (p, a) side none)) tells

    same : kept ≡ held → find attribute_cmp (p, a) (sides_of kept) ≡ None
    same e = ap (λ (xs : List AttributeDifference). find attribute_cmp (p, a) (sides_of xs)) e ∙ none

    by_mark : (m : Mark) → kept ≡ with_attribute held m side p a
        → FitsMark (Some m) (find attribute_cmp (p, a) (sides_of kept)) x' y'
    by_mark Bytes e = more e
    by_mark Attributes e = more e
    by_mark Removed e = same e
    by_mark Added e = same e
    by_mark Kind e = same e

-- ---- one step more, or one of each

fits_as : (f : Option Mark) (s s' : Option Side) (x x' y y' : Option (List ℕ)) → s' ≡ s → x' ≡ x → y' ≡ y
    → FitsMark f s x y → FitsMark f s' x' y'
fits_as f s s' x x' y y' is_side left right h =
    subst (λ (t : Option Side). FitsMark f t x' y') (sym is_side)
    (subst (λ (z : Option (List ℕ)). FitsMark f s z y') (sym left)
    (subst (λ (z : Option (List ℕ)). FitsMark f s x z) (sym right) h))

fits_same : (f : Option Mark) (s : Option Side) (x y : Option (List ℕ)) → s ≡ None → x ≡ y → FitsMark f s x y
fits_same f s x y none same = subst (λ (t : Option Side). FitsMark f t x y) (sym none) (by_mark f)
  where
    by_mark : (g : Option Mark) → FitsMark g None x y
    by_mark None = same
    by_mark (Some Bytes) = same
    by_mark (Some Attributes) = same
    by_mark (Some Removed) = refl
    by_mark (Some Added) = refl
    by_mark (Some Kind) = refl

apart_by_path : (q p : Path) (a b : Name) → eq_by_cmp path_cmp q p ≡ false
    → eq_by_cmp attribute_cmp (q, a) (p, b) ≡ false
apart_by_path q p a b other = by_order (path_cmp q p) other
  where
    by_order : (o : Ordering) → is_eq o ≡ false → is_eq (ordering_then o (name_cmp a b)) ≡ false
    by_order Less e = refl
    by_order Equal e = absurd (false≢true (sym e))
    by_order Greater e = refl

apart_by_name : (p : Path) (a b : Name) → eq_by_cmp name_cmp a b ≡ false → eq_by_cmp attribute_cmp (p, a) (p, b) ≡ false
apart_by_name p a b other = ap (λ o. is_eq (ordering_then o (name_cmp a b))) (tied_itself path_cmp_total p) ∙ other

same_name : (a b : Name) → eq_by_cmp name_cmp a b ≡ true → a ≡ b
same_name a b e = same_name_from_tie a b (tie_from_test (name_cmp a b) e)

-- steps of one path came, which leave what is known of these names of it
record Comes (list list' : List DumpStep) (p : Path) (others : Name → Type 0) : Type 0 where
  elsewhere : (q : Path) → eq_by_cmp path_cmp q p ≡ false → own q list' ≡ own q list
  stays : (a : Name) → others a → set_in a (own p list') ≡ set_in a (own p list)

-- all names, and all but one
abbrev Each : Name → Type 0
Each a = Unit {0}

abbrev Other : Name → Name → Type 0
Other b a = eq_by_cmp name_cmp a b ≡ false

none_comes : (list : List DumpStep) (p : Path) (others : Name → Type 0) → Comes list list p others
none_comes list p others = record { elsewhere = λ q other. refl; stays = λ a other. refl }

plain_comes : (list : List DumpStep) (c : DumpStep) (p : Path) → step_path c ≡ p → attributes_in c ≡ []
    → Comes list (list ++ c ∷ []) p Each
plain_comes list c p on none = record {
  elsewhere = λ q other. own_elsewhere list c p q on other;
  stays = λ a each. ap (set_in a) (own_here list c p on) ∙ set_same a (own p list) c none;
}

set_comes : (list : List DumpStep) (p : Path) (b : Name) (bytes : List ℕ)
    → Comes list (list ++ Set p b bytes ∷ []) p (Other b)
set_comes list p b bytes = record {
  elsewhere = λ q other. own_elsewhere list (Set p b bytes) p q refl other;
  stays = λ a other. ap (set_in a) (own_here list (Set p b bytes) p refl) ∙ set_other a b (own p list) p bytes other;
}

set_value : (list : List DumpStep) (p : Path) (b : Name) (bytes : List ℕ) → StandsBehind (own p list) (Set p b bytes)
    → set_in b (own p (list ++ Set p b bytes ∷ [])) ≡ Some bytes
set_value list p b bytes behind =
    ap (set_in b) (own_here list (Set p b bytes) p refl) ∙ set_here b (own p list) p bytes behind

-- where steps of one path came, what holds of the other attributes, and of this one
module _ (first second first' second' : List DumpStep) (marks : List (Path × Mark))
    (held kept : List AttributeDifference) (p : Path) (are : SidesShown first second marks (sides_of held)) where
  plain_sides : Comes first first' p Each → Comes second second' p Each → kept ≡ held
      → SidesShown first' second' marks (sides_of kept)
  plain_sides left right same =
      sides_more first second first' second' marks (sides_of held) (sides_of kept) p are left.elsewhere right.elsewhere
      (λ q a other. ap (λ (xs : List AttributeDifference). find attribute_cmp (q, a) (sides_of xs)) same)
      (λ a. fits_as (find path_cmp p marks) (find attribute_cmp (p, a) (sides_of held))
      (find attribute_cmp (p, a) (sides_of kept)) (set_in a (own p first)) (set_in a (own p first'))
      (set_in a (own p second)) (set_in a (own p second'))
      (ap (λ (xs : List AttributeDifference). find attribute_cmp (p, a) (sides_of xs)) same)
      (left.stays a tt) (right.stays a tt) (are p a))

  set_sides : (b : Name) → Comes first first' p (Other b) → Comes second second' p (Other b)
      → ((q : Path) (a : Name) → eq_by_cmp attribute_cmp (q, a) (p, b) ≡ false
      → find attribute_cmp (q, a) (sides_of kept) ≡ find attribute_cmp (q, a) (sides_of held))
      → FitsMark (find path_cmp p marks) (find attribute_cmp (p, b) (sides_of kept)) (set_in b (own p first'))
      (set_in b (own p second')) → SidesShown first' second' marks (sides_of kept)
  set_sides b left right others here =
      sides_more first second first' second' marks (sides_of held) (sides_of kept) p are left.elsewhere right.elsewhere
      (λ q a other. others q a (apart_by_path q p a b other))
      (λ a. by_test a (eq_by_cmp name_cmp a b) refl)
    where
      by_test : (a : Name) (t : Bool) → eq_by_cmp name_cmp a b ≡ t
          → FitsMark (find path_cmp p marks) (find attribute_cmp (p, a) (sides_of kept)) (set_in a (own p first'))
          (set_in a (own p second'))
      by_test a true e =
          subst (λ (n : Name). FitsMark (find path_cmp p marks) (find attribute_cmp (p, n) (sides_of kept))
          (set_in n (own p first')) (set_in n (own p second'))) (sym (same_name a b e)) here
      by_test a false e =
          fits_as (find path_cmp p marks) (find attribute_cmp (p, a) (sides_of held))
          (find attribute_cmp (p, a) (sides_of kept)) (set_in a (own p first)) (set_in a (own p first'))
          (set_in a (own p second)) (set_in a (own p second'))
          (others p a (apart_by_name p a b e)) (left.stays a e) (right.stays a e) (are p a)

is_some_of : (x : Option (List ℕ)) (v : List ℕ) → x ≡ Some v → IsSome x
is_some_of x v e = subst (λ (z : Option (List ℕ)). IsSome z) (sym e) refl

is_none_of : (x : Option (List ℕ)) → x ≡ None → IsNone x
is_none_of x e = subst (λ (z : Option (List ℕ)). IsNone z) (sym e) refl

-- what is known where a step came that was noted
pub record HasNoted (first second : List DumpStep) (marks : List (Path × Mark)) (held kept : List AttributeDifference)
    (side : Side) (c : DumpStep) : Type 0 where
  pub first_behind : StandsBehind (own (step_path c) first) c
  pub second_behind : StandsBehind (own (step_path c) second) c
  pub before : AreBefore (places_of held) c
  pub known : Mark
  pub known_is : find path_cmp (step_path c) marks ≡ Some known
  pub noted_is : kept ≡ with_noted held known side c

-- its attribute is told
noted_sides : (first second first' second' : List DumpStep) (marks : List (Path × Mark))
    (held kept : List AttributeDifference) (side : Side) (p : Path) (b : Name) (bytes : List ℕ)
    → SidesShown first second marks (sides_of held) → HasNoted first second marks held kept side (Set p b bytes)
    → Comes first first' p (Other b) → Comes second second' p (Other b)
    → TellsSide (Some side) (set_in b (own p first')) (set_in b (own p second'))
    → SidesShown first' second' marks (sides_of kept)
noted_sides first second first' second' marks held kept side p b bytes are has left right tells =
    set_sides first second first' second' marks held kept p are b left right
    (noted_elsewhere held kept has.known side p b has.noted_is)
    (subst (λ (f : Option Mark). FitsMark f (find attribute_cmp (p, b) (sides_of kept))
    (set_in b (own p first')) (set_in b (own p second'))) (sym has.known_is)
    (noted_here held kept has.known side p b (set_in b (own p first')) (set_in b (own p second')) has.noted_is
    (side_none held p b bytes has.before) tells))

-- a step of the first came
pub first_sides : (first second : List DumpStep) (marks : List (Path × Mark)) (held kept : List AttributeDifference)
    (c : DumpStep) → SidesShown first second marks (sides_of held) → HasNoted first second marks held kept First c
    → SidesShown (first ++ c ∷ []) second marks (sides_of kept)
first_sides first second marks held kept (Make p) are has =
    plain_sides first second (first ++ Make p ∷ []) second marks held kept p are
    (plain_comes first (Make p) p refl refl) (none_comes second p Each) has.noted_is
first_sides first second marks held kept (Write p at bytes) are has =
    plain_sides first second (first ++ Write p at bytes ∷ []) second marks held kept p are
    (plain_comes first (Write p at bytes) p refl refl) (none_comes second p Each) has.noted_is
first_sides first second marks held kept (Set p b bytes) are has =
    noted_sides first second (first ++ Set p b bytes ∷ []) second marks held kept First p b bytes are has
    (set_comes first p b bytes) (none_comes second p (Other b)) (
      is_some_of (set_in b (own p (first ++ Set p b bytes ∷ []))) bytes (set_value first p b bytes has.first_behind),
      is_none_of (set_in b (own p second)) (set_none (own p second) p b bytes has.second_behind),
    )

-- one of the second came
pub second_sides : (first second : List DumpStep) (marks : List (Path × Mark)) (held kept : List AttributeDifference)
    (c : DumpStep) → SidesShown first second marks (sides_of held) → HasNoted first second marks held kept Second c
    → SidesShown first (second ++ c ∷ []) marks (sides_of kept)
second_sides first second marks held kept (Make p) are has =
    plain_sides first second first (second ++ Make p ∷ []) marks held kept p are
    (none_comes first p Each) (plain_comes second (Make p) p refl refl) has.noted_is
second_sides first second marks held kept (Write p at bytes) are has =
    plain_sides first second first (second ++ Write p at bytes ∷ []) marks held kept p are
    (none_comes first p Each) (plain_comes second (Write p at bytes) p refl refl) has.noted_is
second_sides first second marks held kept (Set p b bytes) are has =
    noted_sides first second first (second ++ Set p b bytes ∷ []) marks held kept Second p b bytes are has
    (none_comes first p (Other b)) (set_comes second p b bytes) (
      is_none_of (set_in b (own p first)) (set_none (own p first) p b bytes has.first_behind),
      is_some_of (set_in b (own p (second ++ Set p b bytes ∷ []))) bytes (set_value second p b bytes has.second_behind),
    )

-- one of each came, at one path, and neither gives an attribute
plain_both : (first second : List DumpStep) (marks : List (Path × Mark)) (held kept : List AttributeDifference)
    (c d : DumpStep) → SidesShown first second marks (sides_of held) → kept ≡ held → step_path d ≡ step_path c
    → attributes_in c ≡ [] → attributes_in d ≡ []
    → SidesShown (first ++ c ∷ []) (second ++ d ∷ []) marks (sides_of kept)
plain_both first second marks held kept c d are same on none none' =
    plain_sides first second (first ++ c ∷ []) (second ++ d ∷ []) marks held kept (step_path c) are
    (plain_comes first c (step_path c) refl none) (plain_comes second d (step_path c) on none') same

-- one step came of both
pub same_sides : (first second : List DumpStep) (marks : List (Path × Mark)) (held : List AttributeDifference)
    (c : DumpStep) → SidesShown first second marks (sides_of held)
    → StandsBehind (own (step_path c) first) c → StandsBehind (own (step_path c) second) c
    → AreBefore (places_of held) c → SidesShown (first ++ c ∷ []) (second ++ c ∷ []) marks (sides_of held)
same_sides first second marks held (Make p) are behind over before =
    plain_both first second marks held held (Make p) (Make p) are refl refl refl refl
same_sides first second marks held (Write p at bytes) are behind over before =
    plain_both first second marks held held (Write p at bytes) (Write p at bytes) are refl refl refl refl
same_sides first second marks held (Set p b bytes) are behind over before =
    let d : DumpStep = Set p b bytes in
    set_sides first second (first ++ d ∷ []) (second ++ d ∷ []) marks held held p are b
    (set_comes first p b bytes) (set_comes second p b bytes) (λ q a other. refl)
    (fits_same (find path_cmp p marks) (find attribute_cmp (p, b) (sides_of held))
    (set_in b (own p (first ++ d ∷ []))) (set_in b (own p (second ++ d ∷ [])))
    (side_none held p b bytes before) (set_value first p b bytes behind ∙ sym (set_value second p b bytes over)))

-- two at one place that are not the same
pub both_sides : (first second : List DumpStep) (marks : List (Path × Mark)) (held kept : List AttributeDifference)
    (c d : DumpStep) → SidesShown first second marks (sides_of held) → HasNoted first second marks held kept Both c
    → StandsBehind (own (step_path d) second) d → place_cmp c d ≡ Equal → (c ≡ d → ⊥)
    → SidesShown (first ++ c ∷ []) (second ++ d ∷ []) marks (sides_of kept)
both_sides first second marks held kept (Make p) (Make q) are has over tied other =
    plain_both first second marks held kept (Make p) (Make q) are has.noted_is
    (sym (tied_paths (Make p) (Make q) tied)) refl refl
both_sides first second marks held kept (Make p) (Write q at bytes) are has over tied other =
    plain_both first second marks held kept (Make p) (Write q at bytes) are has.noted_is
    (sym (tied_paths (Make p) (Write q at bytes) tied)) refl refl
both_sides first second marks held kept (Write p at bytes) (Make q) are has over tied other =
    plain_both first second marks held kept (Write p at bytes) (Make q) are has.noted_is
    (sym (tied_paths (Write p at bytes) (Make q) tied)) refl refl
both_sides first second marks held kept (Write p at bytes) (Write q offset others) are has over tied other =
    plain_both first second marks held kept (Write p at bytes) (Write q offset others) are has.noted_is
    (sym (tied_paths (Write p at bytes) (Write q offset others) tied)) refl refl
both_sides first second marks held kept (Make p) (Set q a others) are has over tied other =
    absurd (false≢true (set_tied (Make p) (Set q a others) tied))
both_sides first second marks held kept (Write p at bytes) (Set q a others) are has over tied other =
    absurd (false≢true (set_tied (Write p at bytes) (Set q a others) tied))
both_sides first second marks held kept (Set p b bytes) (Make q) are has over tied other =
    absurd (false≢true (sym (set_tied (Set p b bytes) (Make q) tied)))
both_sides first second marks held kept (Set p b bytes) (Write q at others) are has over tied other =
    absurd (false≢true (sym (set_tied (Set p b bytes) (Write q at others) tied)))
both_sides first second marks held kept (Set p b bytes) (Set q a others) are has over tied other =
    let parts : ◌≡◌ {A = List ℕ} (1 ∷ b) (1 ∷ a) = tied_parts (Set p b bytes) (Set q a others) tied in
    let name : b ≡ a = cc in
    let two : Set q a others ≡ Set p b others =
    ap₂ (λ (r : Path) (n : Name). Set r n others) (sym (tied_paths (Set p b bytes) (Set q a others) tied)) (sym name) in
    subst (λ (d : DumpStep). SidesShown (first ++ Set p b bytes ∷ []) (second ++ d ∷ []) marks (sides_of kept))
    (sym two) (by_set (subst (λ (d : DumpStep). StandsBehind (own (step_path d) second) d) two over)
    (λ is. other (ap (Set p b) is ∙ sym two)))
  where
    by_set : StandsBehind (own p second) (Set p b others) → (bytes ≡ others → ⊥)
        → SidesShown (first ++ Set p b bytes ∷ []) (second ++ Set p b others ∷ []) marks (sides_of kept)
    by_set over apart =
        let x = set_value first p b bytes has.first_behind in
        let y = set_value second p b others over in
        noted_sides first second (first ++ Set p b bytes ∷ []) (second ++ Set p b others ∷ []) marks held kept Both p b
        bytes are has (set_comes first p b bytes) (set_comes second p b others) (
          is_some_of (set_in b (own p (first ++ Set p b bytes ∷ []))) bytes x,
          is_some_of (set_in b (own p (second ++ Set p b others ∷ []))) others y,
          λ same. apart (same_Some bytes others (sym x ∙ same ∙ y)),
        )
