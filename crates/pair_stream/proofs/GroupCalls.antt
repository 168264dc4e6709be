-- What the reads in a group do, from the one page that each asks for at most.
use Rattle.std.proofs.Common.{◌≡◌, ℕ, ◌/◌, ◌%◌, ◌<◌, ◌≤◌, List, length, Option, Some, None, Ok, refl, sym, ap}
use Rattle.std.proofs.Common.{subst}
use Rattle.std.proofs.Common.{◌∙◌, arith}
use Rattle.std.specs.List.{slice_get}
use Rattle.std.specs.Option.{option_map, IfSome}
use Rattle.std.proofs.lemmas.Option.{slice_get_past}
use Rattle.store_base.specs.Leads.{model_lead}
use Rattle.store_model.specs.Pairs.{Pair}
use Rattle.store_model.specs.Pages.{Cell, Page, page_room}
use Rattle.store_model.specs.PageMaps.{page_at}
use Rattle.node_pages.specs.PagesState.{PagesState, IsPageGet}
use Rattle.skip_groups.specs.Floors.{pair_in}
use Rattle.skip_groups.specs.Groups.{label_of}
use Rattle.skip_groups.proofs.Walks.{some_at}
use Rattle.pair_stream.specs.GroupReads.{cell_in, IsKeyRead, IsPageTurn, IsPairRead}
use Rattle.pair_stream.specs.declared.places.LevelPlace.{LevelPlace}
use Rattle.pair_stream.proofs.GroupCells.{cell_at}

-- ---- the key of the next cell

module _ {old new : PagesState} {level : ℕ} {place : LevelPlace} (room : ℕ) (is : room ≡ page_room level)
    (below : place.count / room < 4294967296) where
  -- the page that was asked for tells it
  key_told : (page : Option Page) (key : Option (List ℕ))
      → IsPageGet old new (label_of level (model_lead place.lead) (place.count / room)) (Ok page)
      → key ≡ option_map (λ (cell : Cell). cell.key) (cell_in page (place.count % room))
      → IsKeyRead old new level place (Ok key)
  key_told page key get told = record {
    faults = get.faults;
    lookups_kept = get.lookups_kept;
    hidden = get.hidden;
    observed = λ o. let g = get.observed o in record {
      observable = g.observable;
      unchanged = g.unchanged;
      found = λ cells holds. told ∙ ap (option_map (λ (cell : Cell). cell.key))
          (ap (λ p. cell_in p (place.count % room)) g.found
          ∙ ap (λ n. cell_in (page_at old.pages (label_of level (model_lead place.lead) (place.count / n)))
          (place.count % n)) is
          ∙ cell_at place.count holds (subst (λ n. place.count / n < 4294967296) is below));
      lookups = get.lookups_most;
    };
  }

  pub no_key_page : IsPageGet old new (label_of level (model_lead place.lead) (place.count / room)) (Ok None)
      → IsKeyRead old new level place (Ok None)
  no_key_page get = key_told None None get refl

  pub key_of_page : {page : Page} {key : List ℕ}
      → IsPageGet old new (label_of level (model_lead place.lead) (place.count / room)) (Ok (Some page))
      → place.count % room < length page.cells
      → IfSome (slice_get page.cells (place.count % room)) (λ cell. cell.key ≡ key)
      → IsKeyRead old new level place (Ok (Some key))
  key_of_page {page = page} {key = key} get within has =
      let at = place.count % room in
      let cell = some_at page.cells at within in
      key_told (Some page) (Some key) get
      (subst (λ o. IfSome o (λ cell. cell.key ≡ key) → Some key ≡ option_map (λ (cell : Cell). cell.key) o)
      (sym cell.1) (λ same. ap Some (sym same)) has)

  pub past_page : {page : Page}
      → IsPageGet old new (label_of level (model_lead place.lead) (place.count / room)) (Ok (Some page))
      → length page.cells ≤ place.count % room → IsKeyRead old new level place (Ok None)
  past_page {page = page} get past = key_told (Some page) None get
      (sym (ap (option_map (λ (cell : Cell). cell.key)) (slice_get_past page.cells (place.count % room) past)))

-- ---- the next pair

pub pair_told : {T : Type 0} {old new : PagesState} {place : LevelPlace} {before after : Option Page} {done : T}
    {pair : Option Pair} (room : ℕ) → room ≡ page_room 0 → IsPageTurn old new place before after (Ok done)
    → place.count < 4294967296 → pair ≡ pair_in (cell_in after (place.count % room))
    → IsPairRead old new place before after (Ok pair)
pair_told {place = place} {after = after} {pair = pair} room is turn below told = record {
  faults = turn.faults;
  lookups_kept = turn.lookups_kept;
  hidden = turn.hidden;
  observed = λ o. let t = turn.observed o in record {
    turns = record { observable = t.observable; unchanged = t.unchanged; held = t.held; lookups = t.lookups };
    found = λ is_held cells holds. told ∙ ap (λ n. pair_in (cell_in after (place.count % n))) is ∙ ap pair_in
        (ap (λ p. cell_in p (place.count % page_room 0)) (t.held is_held)
        ∙ cell_at place.count holds (omega arith));
  };
}
