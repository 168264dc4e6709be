-- Verdicts on slots and on images.
use Rattle.std.specs.Prelude.{◌≡◌, ℕ, List}
use Rattle.store_model.specs.Parameters.{Parameters}
use Rattle.store_model.specs.Trees.{Tree}
use Rattle.store_model.specs.Pages.{page_count}
use Rattle.store_model.specs.Images.{Represents}
use Rattle.disk_model.specs.DiskState.{DiskState, IsObservable}
use Rattle.gate_journal.specs.Headers.{IsImageWith, HasParameters}
use Rattle.layout_conditions.specs.Conditions.{MeetConditions}
use Rattle.tree_pairs.specs.Counts.{count_dirs, count_files, count_bytes}
use Rattle.image_check.specs.declared.verdict.Verdict.{Verdict}
use Rattle.image_check.specs.declared.verdict.Verdict.TheVariants as verdicts

-- the verdict on what holds the tree: its pages, directories without the root, files and bytes
abbrev pub clean_of : Tree → Parameters → Verdict
clean_of t p = verdicts.Clean (page_count t p) (count_dirs t) (count_files t) (count_bytes t)

-- slots that meet the conditions by which the layout of a tree is known, with the verdict on that tree
pub record AreCleanSlots (slots : List (List ℕ)) (p : Parameters) (verdict : Verdict) : Type 0 where
  pub meets : MeetConditions slots p
  pub verdict_is : verdict ≡ clean_of meets.tree p

-- the verdict on slots: clean with the tree whose layout they are, and damaged where they don't meet the conditions.
-- It is never that they are no image
abbrev pub IsSlotsVerdict : List (List ℕ) → Parameters → Verdict → Type 0
IsSlotsVerdict slots p (verdicts.Clean pages dirs files bytes) =
    AreCleanSlots slots p (verdicts.Clean pages dirs files bytes)
IsSlotsVerdict slots p verdicts.NotImage = ⊥
IsSlotsVerdict slots p verdicts.Damaged = MeetConditions slots p → ⊥

-- an observable disk is no image
abbrev pub IsNoImage : DiskState → Type 0
IsNoImage disk = IsObservable disk → (p : Parameters) → IsImageWith disk.bytes p → ⊥

-- a disk of an image's length; an observable one is an image, but represents no tree
pub record IsDamaged (disk : DiskState) : Type 0 where
  pub params : Parameters
  pub has_parameters : HasParameters disk params
  pub no_tree : IsObservable disk → (t : Tree) (p : Parameters) → Represents disk.bytes t p → ⊥

-- the image represents a tree under these parameters, and the verdict is that on it
pub record IsCleanImage (image : List ℕ) (p : Parameters) (verdict : Verdict) : Type 0 where
  pub tree : Tree
  pub represents : Represents image tree p
  pub verdict_is : verdict ≡ clean_of tree p

-- a disk of an image's length; an observable one represents a tree, and the verdict is that on it
pub record IsClean (disk : DiskState) (verdict : Verdict) : Type 0 where
  pub params : Parameters
  pub has_parameters : HasParameters disk params
  pub image : IsObservable disk → IsCleanImage disk.bytes params verdict

-- the verdict on a disk
abbrev pub IsVerdict : DiskState → Verdict → Type 0
IsVerdict disk (verdicts.Clean pages dirs files bytes) = IsClean disk (verdicts.Clean pages dirs files bytes)
IsVerdict disk verdicts.NotImage = IsNoImage disk
IsVerdict disk verdicts.Damaged = IsDamaged disk
