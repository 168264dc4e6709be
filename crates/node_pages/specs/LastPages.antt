-- The last pages of a group.
use Rattle.std.specs.Prelude.{ℕ, List, map}
use Rattle.std.specs.List.{enumerate_from}
use Rattle.store_model.specs.Lists.{runs}
use Rattle.store_model.specs.Labels.{Lead}
use Rattle.store_model.specs.Pages.{Cell, Page, page_room}

-- the page of a run
abbrev pub page_of_run : ℕ → Lead → ℕ → List Cell → Page
page_of_run level lead index run = record { label = record { level = level; lead = lead; index = index }; cells = run }

-- the pages of the last cells of a group, numbered from an index on
unfoldable pub pages_from : ℕ → Lead → ℕ → List Cell → List Page
pages_from level lead index cells =
    map (λ run. page_of_run level lead run.0 run.1) (enumerate_from index (runs (page_room level) cells))
