-- The search for what leads the next group of level 0, level after level.
use Rattle.std.proofs.Common.{◌≡◌, ℕ, ◌+◌, ◌-◌, ◌<◌, ◌≤◌, List, Option, Some, None, Ok, refl, ap}
use Rattle.std.proofs.Common.{subst}
use Rattle.std.proofs.Common.{◌∙◌, arith, get_or, length}
use Rattle.std.proofs.lemmas.Option.{slice_get-get_or}
use Rattle.std.specs.List.{slice_get}
use Rattle.std.specs.Option.{option_map}
use Rattle.store_model.specs.Draws.{Draw}
use Rattle.store_model.specs.Pairs.{Pair}
use Rattle.store_model.specs.Pages.{Cell}
use Rattle.node_pages.specs.PagesState.{PagesState, IsObservable}
use Rattle.skip_groups.specs.Searches.{IsPagesRead}
use Rattle.skip_levels.proofs.ValueLemmas.{read_told, read_behind}
use Rattle.pair_stream.specs.GroupReads.{ReadsKey, IsKeyRead}
use Rattle.pair_stream.specs.Streams.{StandsBehind, LeadsBelow, IsLeaderSearch}
use Rattle.pair_stream.specs.declared.places.LevelPlace.{LevelPlace}
use Rattle.pair_stream.specs.declared.places.PairStream.{PairStream}
use Rattle.pair_stream.proofs.Passed.{ahead}
use Rattle.pair_stream.proofs.NextPairs.{leads_further, next_key_is, all_passed, group_held, next_cell}
use Rattle.skip_levels.proofs.PlaceGroups.{group_of_place}

-- the place of a level
pub place_read : (places : List LevelPlace) (i level : ℕ) (x : LevelPlace) → 8 ≡ length places → i ≡ level → level < 8
    → slice_get places level ≡ Some (get_or places i x)
place_read places i level x long same below = subst (λ j. slice_get places j ≡ Some (get_or places i x)) same
    (slice_get-get_or places i x (omega (arith, same, long)))

-- the groups of the levels below one have ended
pub record PassesLevels (old now : PagesState) (stream : PairStream) (level : ℕ) : Type 0 where
  pub observable : IsObservable now
  pub unchanged : now.pages ≡ old.pages
  pub lookups : now.lookups ≤ old.lookups + (level - 1)
  pub leads : (d : Draw) (s passed : List Pair) → StandsBehind d s old.pages passed stream → LeadsBelow d s passed 1
      → LeadsBelow d s passed level

abbrev pub ArePassed : (old now : PagesState) (stream : PairStream) (level : ℕ) → Type 0
ArePassed old now stream level = IsPagesRead {T = Unit {0}} old now (PassesLevels old now stream level) (Ok tt)

pub none_passed : {old : PagesState} {stream : PairStream} → ArePassed old old stream 1
none_passed = record {
  faults = refl;
  lookups_kept = omega arith;
  hidden = λ o. o;
  observed = λ o. record {
    observable = o;
    unchanged = refl;
    lookups = omega arith;
    leads = λ d s passed h leads. leads;
  };
}

module _ {old now next : PagesState} {stream : PairStream} {level : ℕ} (place : LevelPlace)
    (w : ArePassed old now stream level) (at : slice_get stream.places level ≡ Some place)
    (some : 1 ≤ level) (within : level < stream.height) where
  -- what the key that was read tells of the next cell
  ahead_is : {result : Option (List ℕ)} → PassesLevels old now stream level
      → ReadsKey now next level place (Ok result) → (d : Draw) (s passed : List Pair)
      → (h : StandsBehind d s old.pages passed stream)
      → result ≡ option_map (λ (cell : Cell). cell.key) (slice_get (ahead d level h.left) 0)
  ahead_is p k d s passed h =
      let below : level < d.height = omega (arith, h.height) in
      k.found (group_of_place d level passed h.left) (group_held h level place at below now p.unchanged)
      ∙ ap (option_map (λ (cell : Cell). cell.key)) (next_cell h level place at below)

  pub search_finds : {key : List ℕ} → IsKeyRead now next level place (Ok (Some key))
      → IsLeaderSearch old next stream (Ok (Some (level, key)))
  search_finds {key} read = read_told (Some (level, key)) (read_behind
      (λ (p : PassesLevels old now stream level). p.observable)
      (λ p k. record {
        observable = k.observable;
        unchanged = k.unchanged ∙ p.unchanged;
        found = λ d s passed h leads. next_key_is d s passed h.left level key h.parts (p.leads d s passed h leads)
            (ahead_is p k d s passed h);
        lookups = omega (arith, k.lookups, p.lookups);
      }) w read)

  pub level_passed : IsKeyRead now next level place (Ok None) → ArePassed old next stream (level + 1)
  level_passed read = read_told tt (read_behind (λ (p : PassesLevels old now stream level). p.observable)
      (λ p k. record {
        observable = k.observable;
        unchanged = k.unchanged ∙ p.unchanged;
        lookups = omega (arith, k.lookups, p.lookups);
        leads = λ d s passed h leads. leads_further d s passed h.left h.parts level (p.leads d s passed h leads)
            (no_cell (slice_get (ahead d level h.left) 0) (ahead_is p k d s passed h));
      }) w read)
    where
      no_cell : (o : Option Cell) → None ≡ option_map (λ (cell : Cell). cell.key) o → o ≡ None
      no_cell None e = refl
      no_cell (Some cell) e = absurd (cc)

-- no level goes on
pub search_ends : {old now : PagesState} {stream : PairStream} {level : ℕ} → ArePassed old now stream level
    → stream.height ≤ level → level - 1 ≤ stream.height - 1 → IsLeaderSearch old now stream (Ok None)
search_ends {old} {now} {stream} {level} w high low = record {
  faults = w.faults;
  lookups_kept = w.lookups_kept;
  hidden = w.hidden;
  observed = λ o. let p = w.observed o in record {
    observable = p.observable;
    unchanged = p.unchanged;
    found = λ d s passed h leads. all_passed d s passed h.left level h.parts h.holds.lawful (omega (arith, h.height))
        (p.leads d s passed h leads);
    lookups = omega (arith, p.lookups);
  };
}
