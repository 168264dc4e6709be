-- What changing the pages of one group does to a map of pages.
use Rattle.std.specs.Prelude.{◌≡◌, ℕ, ◌+◌, ◌<◌, ◌≤◌, List, ◌++◌, take, drop, length, slice_get, Some, Result, OnOk}
use Rattle.std.specs.List.{AllByRecursion}
use Rattle.std.specs.FinMap as maps
use Rattle.store_base.specs.declared.store_fault.Fault.{Fault}
use Rattle.store_base.specs.Faults.{disk_faults_after}
use Rattle.store_model.specs.Labels.{Lead, IsLead}
use Rattle.store_model.specs.Pages.{Cell, Page, IsPage}
use Rattle.store_model.specs.PageMaps.{map_of_pages}
use Rattle.node_pages.specs.LastPages.{pages_from}
use Rattle.node_pages.specs.PagesState.{PagesState, IsObservable}
use Rattle.skip_groups.specs.Groups.{IsNumbered}

-- each page is of another group than that of the lead on the level
pub record AreApart (level : ℕ) (lead : Lead) (pages : List Page) : Type 0 where
  pub valid : AllByRecursion IsPage pages
  pub others : AllByRecursion (λ page. page.label.level ≡ level → page.label.lead ≡ lead → ⊥) pages

-- old and new pages of one group, between pages of others
pub record IsChange (level : ℕ) (lead : Lead) (front back olds news : List Page) : Type 0 where
  pub low : level < 256
  pub led : IsLead lead
  pub front_apart : AreApart level lead front
  pub back_apart : AreApart level lead back
  pub old_pages : IsNumbered level lead olds
  pub new_pages : IsNumbered level lead news

-- the pages of a group of which the first so many are the new ones
abbrev pub changed_pages : ℕ → List Page → List Page → List Page
changed_pages count olds news = take count news ++ drop count olds

-- pages of a group of which so many, from the first one on, become those of a list of cells
pub record IsCellRun (level : ℕ) (lead : Lead) (first count : ℕ) (cells : List Cell)
    (olds news : List Page) : Type 0 where
  pub start : changed_pages first olds news ≡ olds
  pub put : (i : ℕ) (page : Page) → slice_get (pages_from level lead first cells) i ≡ Some page
      → slice_get news (first + i) ≡ Some page
  pub dropped : (i : ℕ) → length (pages_from level lead first cells) ≤ i → i < count → length news ≤ first + i
  pub within : first + count ≤ length olds

-- what changing the first so many of them makes of observable pages
pub record ChangesRun {T : Type 0} (old new : PagesState) (level : ℕ) (lead : Lead) (first count : ℕ)
    (cells : List Cell) (past : ℕ) (result : Result T Fault) : Type 0 where
  pub observable : IsObservable new
  pub room : maps.len new.pages ≤ maps.len old.pages + past
  pub changed : (olds news front back : List Page) → IsCellRun level lead first count cells olds news
      → IsChange level lead front back olds news → old.pages ≡ map_of_pages (front ++ (olds ++ back))
      → OnOk result (new.pages ≡ map_of_pages (front ++ (changed_pages (first + past) olds news ++ back)))

-- a change of the first so many of them, which asks for none
pub record IsRunChange {T : Type 0} (old new : PagesState) (level : ℕ) (lead : Lead) (first count : ℕ)
    (cells : List Cell) (past : ℕ) (result : Result T Fault) : Type 0 where
  pub faults : new.faults ≡ disk_faults_after old.faults result
  pub lookups : new.lookups ≡ old.lookups
  pub hidden : IsObservable new → IsObservable old
  pub observed : IsObservable old → ChangesRun old new level lead first count cells past result
