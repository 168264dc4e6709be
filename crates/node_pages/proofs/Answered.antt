-- What an answer for a page in memory says.
use Rattle.std.proofs.Common.{◌≡◌, ℕ, ◌+◌, ◌≤◌, Option, Ok, refl}
use Rattle.store_base.specs.Counts.{raised}
use Rattle.store_model.specs.Labels.{Label}
use Rattle.store_model.specs.Pages.{Page}
use Rattle.store_model.specs.PageMaps.{PageMap, page_at}
use Rattle.node_pages.specs.PagesState.{PagesState, IsPageGet}

-- pages in memory of this map, of which so many were asked for
abbrev pub in_memory : PageMap → ℕ → PagesState
in_memory pages lookups = record {
  is_observable = Unit {0};
  pages = pages;
  faults = 0;
  lookups = lookups;
  at_hand = λ _. Unit {0};
}

-- what is answered is the page, or that there is none
pub answers : (pages : PageMap) (label : Label) (before after : ℕ) (found : Option Page) → before ≤ after
    → after ≤ before + 1 → after ≡ raised before → found ≡ page_at pages label
    → IsPageGet (in_memory pages before) (in_memory pages after) label (Ok found)
answers pages label before after found kept most counted is = record {
  faults = refl;
  memory = λ held lacks. cc;
  held = tt;
  counted = counted;
  lookups_kept = kept;
  lookups_most = most;
  hidden = λ o. tt;
  observed = λ o. record { observable = tt; found = is; unchanged = refl };
}
