-- The level that a list of pages begins on.
use Rattle.std.specs.Prelude.{ℕ, List, [], ◌∷◌}
use Rattle.store_model.specs.Pages.{Page}

-- the level of the first page, 0 where there is none
unfoldable pub level_of_pages : List Page → ℕ
level_of_pages [] = 0
level_of_pages (page ∷ pages) = page.label.level
