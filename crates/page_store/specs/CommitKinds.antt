-- The kinds of commit: the image that each leads to, its version, and the writes and syncs of each.
use Rattle.std.specs.Prelude.{◌≡◌, ℕ, List, Result, Ok, Err, OnOk}
use Rattle.store_model.specs.declared.version.Version.{Version}
use Rattle.store_model.specs.declared.version.Version.TheVariants.{Two}
use Rattle.store_model.specs.Parameters.{Parameters, with_version}
use Rattle.store_model.specs.PageMaps.{PageMap}
use Rattle.disk_model.specs.DiskState.{DiskState}
use Rattle.gate_journal.specs.Changes.{Changes, with_slots, upgraded}
use Rattle.gate_journal.specs.Costs.{commit_writes, commit_syncs, upgrade_writes, MadeAtMost, CountsCommit}
use Rattle.gate_journal.specs.Places.{Made}
use Rattle.page_store.specs.declared.commit_kind.CommitKind.{CommitKind}
use Rattle.page_store.specs.declared.commit_kind.CommitKind.TheVariants.{Plain, Upgrade}

-- the image that a commit of the changes leads to
abbrev pub committed : CommitKind → ℕ → Changes → List ℕ → List ℕ
committed Plain slots changes image = with_slots slots changes image
committed Upgrade slots changes image = upgraded slots changes image

-- the version of an image after a commit, where it had this one
abbrev pub version_by : CommitKind → Version → Version
version_by Plain version = version
version_by Upgrade version = Two

-- and what it is made with
abbrev pub params_by : CommitKind → Parameters → Parameters
params_by kind p = with_version p (version_by kind p.version)

-- what it is made with after calls that end with a commit: a fault leaves that
abbrev pub params_after : {T E : Type 0} → CommitKind → Parameters → Result T E → Parameters
params_after Plain p result = p
params_after Upgrade p (Ok value) = with_version p Two
params_after Upgrade p (Err fault) = p

-- a commit leaves the image: it is plain, and the pages are those of the table
abbrev pub LeavesPages : CommitKind → PageMap → PageMap → Type 0
LeavesPages Plain table map = map ≡ table
LeavesPages Upgrade table map = ⊥

-- the writes of a commit of so many slots
abbrev pub writes_by : CommitKind → ℕ → ℕ
writes_by Plain slots = commit_writes slots
writes_by Upgrade slots = upgrade_writes slots

-- and its syncs
abbrev pub syncs_by : CommitKind → ℕ → ℕ
syncs_by Plain slots = commit_syncs slots
syncs_by Upgrade slots = 5

-- a commit of so many slots, and of version 2 with them, makes just its writes and syncs, and with a fault no more
pub record CountsUpgrade {T E : Type 0} (slots : ℕ) (old new : DiskState) (result : Result T E) : Type 0 where
  pub made : OnOk result (Made (upgrade_writes slots) 5 old new)
  pub limit : MadeAtMost (upgrade_writes slots) 5 old new

-- a commit of this kind does so
abbrev pub CountsBy : {T E : Type 0} → CommitKind → ℕ → DiskState → DiskState → Result T E → Type 0
CountsBy Plain slots old new result = CountsCommit slots old new result
CountsBy Upgrade slots old new result = CountsUpgrade slots old new result
