-- What a first pass over a folder counts.
use Rattle.std.specs.Prelude.{◌≡◌, ℕ, ◌-◌, ◌^◌, ◌<◌, min, List, ◌++◌, length, Result, Ok, Err}
use Rattle.std.specs.List.{sum}
use Rattle.layout_scratch.specs.Counting.{HasCounted}
use Rattle.layout_scratch.specs.Sorting.{sorted_limit}
use Rattle.store_model.specs.Draws.{draw_of}
use Rattle.store_model.specs.Pages.{page_count}
use Rattle.store_model.specs.Pairs.{pairs}
use Rattle.store_model.specs.Parameters.{Parameters}
use Rattle.store_model.specs.Paths.{Path}
use Rattle.store_model.specs.Trees.{Tree, IsTree}
use Rattle.host_folders.specs.FoundEntries.{file_paths, folder_paths, link_paths}
use Rattle.host_folders.specs.Packed.{HasFiles}
use Rattle.host_folders.specs.declared.found.Found.{Found}
use Rattle.image_create.specs.FoundKeys.{HaveLengths, told_lengths}
use Rattle.image_create.specs.declared.counting.Counted.{Counted}
use Rattle.image_create.specs.declared.kinds.Kinds.{Kinds}
use Rattle.image_create.specs.declared.keys.KeyCounter.{KeyCounter}
use Rattle.image_create.specs.declared.keys.TooMany.{TooMany}

-- The tree has just the entries that were found, and its files the lengths that were found.
pub record IsOfFound (found : List Found) (t : Tree) : Type 0 where
  pub is_tree : IsTree t
  pub files : List (Path × List ℕ)
  pub links : List (Path × List ℕ)
  pub entries : HasFiles found files links t
  pub lengths : HaveLengths found files

-- so many pages has each tree that a folder may be as it was found, whatever its files hold and where its links lead
abbrev pub CountsPages : List Found → Parameters → ℕ → Type 0
CountsPages found p pages = (t : Tree) → IsOfFound found t → pages ≡ page_count t p

-- and each has more pairs than are counted
abbrev pub HasTooMany : List Found → Parameters → Type 0
HasTooMany found p = (t : Tree) → IsOfFound found t → sorted_limit < length (pairs t p)

-- how many folders, files and links were found, and how many bytes the files had, each up to the last value of its type
pub record AreCounts (found : List Found) (folders files links bytes : ℕ) : Type 0 where
  pub folders_are : folders ≡ min (length (folder_paths found)) (2 ^ 32 - 1)
  pub files_are : files ≡ min (length (file_paths found)) (2 ^ 32 - 1)
  pub links_are : links ≡ min (length (link_paths found)) (2 ^ 32 - 1)
  pub bytes_are : bytes ≡ min (sum (told_lengths found)) (2 ^ 64 - 1)

abbrev pub CountsKinds : List Found → Kinds → Type 0
CountsKinds found kinds = AreCounts found kinds.folders kinds.files kinds.links kinds.bytes

abbrev pub CountsFound : List Found → Counted → Type 0
CountsFound found counted = AreCounts found counted.folders counted.files counted.links counted.bytes

-- keys are counted behind those that were
pub record AddsKeys (old new : KeyCounter) (added : List (List ℕ)) : Type 0 where
  pub levels : new.levels ≡ old.levels
  pub counted : (keys : List (List ℕ)) → HasCounted (draw_of old.levels) keys old.counter
      → HasCounted (draw_of old.levels) (keys ++ added) new.counter

-- with these there are more keys than are counted
abbrev pub Exceeds : KeyCounter → List (List ℕ) → Type 0
Exceeds old added = (keys : List (List ℕ)) → HasCounted (draw_of old.levels) keys old.counter
    → sorted_limit < length (keys ++ added)

-- keys are counted, or are too many
abbrev pub CountsKeys : KeyCounter → KeyCounter → List (List ℕ) → Result (Unit {0}) TooMany → Type 0
CountsKeys old new added (Ok u) = AddsKeys old new added
CountsKeys old new added (Err e) = Exceeds old added
