use Rattle.std.proofs.Common.{◌≡◌, ◌≤◌, length, take}
use Rattle.host_folders.specs.FolderState.{IsObservable}
use Rattle.host_folders.specs.FoundEntries.{folder_paths}
use Rattle.host_folders.specs.Walks.{Walks}
use Rattle.host_folders.proofs.walk.list_found.Given as goal

-- the folders among the first entries were listed
abbrev pub invariant-loop-at : goal.invariant-loop-at
invariant-loop-at g l =
    let state_of = g.F.Folder.state in
    record {
      observable : (state_of l.folder).is_observable ≡ (state_of l.fn.folder).is_observable;
      faults : (state_of l.folder).faults ≡ (state_of l.fn.folder).faults;
      walked : IsObservable (state_of l.fn.folder)
          → Walks (state_of l.fn.folder) (state_of l.folder)
          (folder_paths (take l.at l.found.items)) l.fn.found.items l.found.items;
      passed : IsObservable (state_of l.fn.folder) → l.at ≤ length l.found.items;
    }
