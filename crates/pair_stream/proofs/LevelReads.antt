-- How far each level is read, at the start and behind one pair more.
use Rattle.std.proofs.Common.{◌≡◌, ◌⊎◌, inl, inr, ℕ, zero, suc, ◌+◌, ◌-◌, ◌<◌, ◌≤◌, min, List, [], ◌∷◌, ◌++◌, length}
use Rattle.std.proofs.Common.{drop, replicate, get_or, set, refl, sym, ap, subst, ◌∙◌, arith}
use Rattle.std.specs.List.{slice_get}
use Rattle.std.specs.Option.{IfSome}
use Rattle.std.proofs.lemmas.Bool.{cases_order}
use Rattle.std.proofs.lemmas.List.{length-append, length-drop, length-replicate, get_or-replicate, get_or-set_same}
use Rattle.std.proofs.lemmas.List.{get_or-set_other, get_or_append_left, get_or-append_right, get_or-drop}
use Rattle.std.proofs.lemmas.Option.{slice_get-get_or, slice_get_cases}
use Rattle.store_base.specs.declared.label.Lead.TheVariants as leads
use Rattle.store_base.specs.Leads.{model_lead}
use Rattle.store_model.specs.Lists.{cut_before}
use Rattle.store_model.specs.Draws.{Draw}
use Rattle.store_model.specs.Labels.Lead.{Leader}
use Rattle.store_model.specs.Pairs.{Pair}
use Rattle.store_model.specs.Pages.{level_list, groups}
use Rattle.store_model.specs.PageMaps.{PageMap}
use Rattle.layout_scratch.specs.Counting.{last_length}
use Rattle.skip_levels.specs.Descent.{HoldsPairs}
use Rattle.skip_levels.specs.SearchPath.{last_lead}
use Rattle.pair_stream.specs.GroupReads.{IsHeld}
use Rattle.pair_stream.specs.Streams.{IsReadTo, AreReadTo, StandsBehind, PassesPair}
use Rattle.pair_stream.specs.declared.places.LevelPlace.{LevelPlace}
use Rattle.pair_stream.specs.declared.places.PairStream.{PairStream}
use Rattle.pair_stream.proofs.NextPairs.{read_below, read_own, read_above}
use Rattle.pair_stream.proofs.Passed.{few_read}

-- ---- the start

abbrev pub start_place : LevelPlace
start_place = record { lead = leads.Start; count = 0 }

read_start : (d : Draw) (level : ℕ) → IsReadTo d [] level start_place
unfolding last_lead groups level_list cut_before last_length
read_start d level = record { lead = refl; count = refl }

each_same : {X : Type 0} (P : X → Type 0) (x : X) (n i : ℕ) → P x → IfSome (slice_get (replicate n x) i) P
each_same P x zero i holds = tt
each_same P x (suc n) zero holds = holds
each_same P x (suc n) (suc i) holds = each_same P x n i holds

pub stands_first : (d : Draw) (s : List Pair) (m : PageMap) (stream : PairStream) → HoldsPairs d s m
    → stream.height ≡ d.height → stream.places ≡ replicate 8 start_place → StandsBehind d s m [] stream
stands_first d s m stream holds height places = record {
  holds = holds;
  height = height;
  left = s;
  parts = refl;
  places = λ level below. subst (λ ps. IfSome (slice_get ps level) (IsReadTo d [] level)) (sym places)
      (each_same (IsReadTo d [] level) start_place 8 level (read_start d level));
  page = subst (λ ps. IfSome (slice_get ps 0) (λ place. IsHeld m place stream.page)) (sym places)
      (λ within. absurd (within refl));
}

-- ---- one pair more

-- an element of a list has what its value has
pub if_some_at : {X : Type 0} (P : X → Type 0) (xs : List X) (i : ℕ) → ((x : X) → P (get_or xs i x))
    → IfSome (slice_get xs i) P
if_some_at {X} P xs i has = elim (slice_get_cases xs i).1 as (λ c. IfSome (slice_get xs i) P) [
  | inl at ↦ subst (λ o. IfSome o P) (sym at.2) (subst P at.3 (has at.0))
  | inr past ↦ subst (λ o. IfSome o P) (sym past.1) tt
]

module _ (d : Draw) (passed : List Pair) (e : Pair) (old front : List LevelPlace) (at : ℕ) (led own : LevelPlace)
    (front_is : front ≡ replicate at led) (within : at < length old) (high : d.height ≤ length old)
    (own_level : at ≡ d.level e.0) (read : AreReadTo d passed old) where
  abbrev whole : List LevelPlace
  whole = front ++ drop at old

  front_long : length front ≡ at
  front_long = ap length front_is ∙ length-replicate at led

  read_at : (level : ℕ) → level < d.height → (x : LevelPlace) → IsReadTo d passed level (get_or old level x)
  read_at level low x = subst (λ o. IfSome o (IsReadTo d passed level))
      (slice_get-get_or old level x (omega (arith, high))) (read level low)

  rest_at : (level : ℕ) → at ≤ level → (x : LevelPlace) → get_or whole level x ≡ get_or old level x
  rest_at level from x =
      get_or-append_right front (drop at old) at level x front_long from
      ∙ get_or-drop at old (level - at) x
      ∙ ap (λ i. get_or old i x) (let back : at + (level - at) ≡ level = omega arith in back)

  long_enough : at < length whole
  long_enough = omega (arith, length-append front (drop at old), length-drop at old, front_long)

  all_read : (x y : LevelPlace) → model_lead led.lead ≡ Leader e.0 → led.count ≡ 1
      → own.lead ≡ (get_or whole at y).lead → own.count ≡ (get_or whole at x).count + 1
      → AreReadTo d (passed ++ e ∷ []) (set whole at own)
  all_read x y led_lead led_count lead count = λ level low.
      if_some_at (IsReadTo d (passed ++ e ∷ []) level) (set whole at own) level (λ z.
      by_order level low z (cases_order level at))
    where
      here : (z : LevelPlace) → get_or whole at z ≡ get_or old at z
      here z = rest_at at (omega arith) z

      by_order : (level : ℕ) → level < d.height → (z : LevelPlace) → (level ≡ at) ⊎ ((level < at) ⊎ (at < level))
          → IsReadTo d (passed ++ e ∷ []) level (get_or (set whole at own) level z)
      by_order level low z (inl same) =
          let own_read = read_own d passed e at (get_or old at y) (get_or old at x) own own_level
          (read_at at (omega (arith, same)) y) (read_at at (omega (arith, same)) x)
          (lead ∙ ap (λ (p : LevelPlace). p.lead) (here y))
          (count ∙ ap (λ (p : LevelPlace). p.count + 1) (here x)) in
          subst (λ l. IsReadTo d (passed ++ e ∷ []) l (get_or (set whole at own) l z)) (sym same)
          (subst (IsReadTo d (passed ++ e ∷ []) at) (sym (get_or-set_same whole at own z long_enough)) own_read)
      by_order level low z (inr (inl below)) =
          let is : get_or (set whole at own) level z ≡ led =
          get_or-set_other whole at level own z (λ same. omega arith)
          ∙ get_or_append_left front (drop at old) z level (omega (arith, front_long))
          ∙ ap (λ xs. get_or xs level z) front_is ∙ get_or-replicate at level led z below in
          subst (IsReadTo d (passed ++ e ∷ []) level) (sym is)
          (read_below d passed e level led (omega (arith, own_level)) led_lead led_count)
      by_order level low z (inr (inr high)) =
          let is : get_or (set whole at own) level z ≡ get_or old level z =
          get_or-set_other whole at level own z (λ same. omega arith) ∙ rest_at level (omega arith) z in
          subst (IsReadTo d (passed ++ e ∷ []) level) (sym is)
          (read_above d passed e level (get_or old level z) (omega (arith, own_level)) (read_at level low z))

-- what a pass makes of a stream
pub passes : (old new : PairStream) (level : ℕ) (key : List ℕ) (at : ℕ) (front : List LevelPlace) (x y : LevelPlace)
    (count : ℕ) → at ≡ level → at < length old.places → old.height ≤ length old.places
    → front ≡ replicate at (record { lead = leads.Key key; count = 1 })
    → count ≡ min ((get_or (front ++ drop at old.places) at x).count + 1) 4294967295
    → new.height ≡ old.height → new.page ≡ old.page
    → new.places ≡ set (front ++ drop at old.places) at
    (record { lead = (get_or (front ++ drop at old.places) at y).lead; count = count })
    → PassesPair level key old new
passes old new level key at front x y count at_is within high front_is count_is height page places = record {
  height = height;
  page = page;
  places = λ d passed pair height_is below read few key_is level_is.
      let led : LevelPlace = record { lead = leads.Key key; count = 1 } in
      let own : LevelPlace = record { lead = (get_or (front ++ drop at old.places) at y).lead; count = count } in
      let own_level = at_is ∙ level_is in
      let high_enough : d.height ≤ length old.places = omega (arith, height_is, high) in
      let here = rest_at d passed pair old.places front at led own front_is within high_enough own_level read at
      (omega arith) x in
      let read_here = read_at d passed pair old.places front at led own front_is within high_enough own_level read at
      (omega (arith, at_is, below)) x in
      subst (AreReadTo d (passed ++ pair ∷ [])) (sym places)
      (all_read d passed pair old.places front at led own front_is within high_enough own_level read x y
      (ap Leader key_is) refl refl
      (omega (arith, count_is, ap (λ (p : LevelPlace). p.count) here, read_here.count, few_read d at passed, few)));
}
