-- Images that are upgraded.
use Rattle.std.specs.Prelude.{◌≡◌, ℕ, List, ◌∷◌, codes, map}
use Rattle.std.specs.List.{flat_map, AllByRecursion}
use Rattle.store_model.specs.declared.refusal.Refusal.TheVariants as refusals
use Rattle.store_model.specs.declared.version.Version.TheVariants.{Two}
use Rattle.store_model.specs.Parameters.{Parameters, with_version}
use Rattle.store_model.specs.Trees.{empty_tree}
use Rattle.store_model.specs.Commands.{Reply}
use Rattle.store_model.specs.Commands.Reply.{Refused}
use Rattle.store_model.specs.Scripts.{lines, replies}
use Rattle.store_base.specs.Counts.{raised}
use Rattle.script_lines.specs.Memory.{SourceMemory}
use Rattle.image_subcommands.specs.declared.status.Status.TheVariants as statuses
use Rattle.image_subcommands.specs.Statuses.{Subcommand as words, IsStopOf}
use Rattle.store_claims.specs.Machines.{Disk, Ended, HasImage, bytes_of, meaning}
use Rattle.store_claims.specs.Makings.{made_tree}

-- the words of `format` and those of `format2` with the same arguments
pub record HaveSameArguments (format format2 : List (List ℕ)) : Type 0 where
  pub arguments : List (List ℕ)
  pub format_is : format ≡ codes "format" ∷ arguments
  pub format2_is : format2 ≡ codes "format2" ∷ arguments

-- the scripts have the same bytes, one after another
abbrev pub AreSameScripts : List SourceMemory → List SourceMemory → Type 0
AreSameScripts scripts others = map (λ script. script.left) others ≡ map (λ script. script.left) scripts

-- a reply other than `full`
abbrev pub IsNotFull : Reply → Type 0
IsNotFull reply = (need slots : ℕ) → reply ≡ Refused (refusals.Full need slots) → ⊥

-- no line of the scripts is answered `full`, where they are run on the empty tree, one after another
abbrev pub AreNeverFull : List SourceMemory → Parameters → Type 0
AreNeverFull scripts p = AllByRecursion IsNotFull
    (replies empty_tree (flat_map (λ script. lines script.left) scripts) p)

-- a reply other than `version`
abbrev pub IsServed : Reply → Type 0
IsServed reply = reply ≡ Refused refusals.Version → ⊥

-- no line of the scripts asks for attributes where the version has none
abbrev pub AreServed : List SourceMemory → Parameters → Type 0
AreServed scripts p = AllByRecursion IsServed (replies empty_tree (flat_map (λ script. lines script.left) scripts) p)

-- Two disks have images of version 2: one of the tree that the scripts leave under version 1, and one of the tree that
-- they leave under version 2. Where version 1 served each line, and none was answered `full` under either, they read
-- the same bytes.
pub record IsUpgradedAsMade (scripts : List SourceMemory) (p : Parameters) (upgraded made : Disk) : Type 0 where
  pub upgraded_image : HasImage upgraded (made_tree scripts p) (with_version p Two)
  pub made_image : HasImage made (made_tree scripts (with_version p Two)) (with_version p Two)
  pub same : AreServed scripts p → AreNeverFull scripts p → AreNeverFull scripts (with_version p Two)
      → bytes_of upgraded ≡ bytes_of made

-- The image of a tree was not upgraded: a call of its disk failed, or memory ran out.
pub record StopsUpgrade (disk : Disk) (ended : Ended) : Type 0 where
  -- it ended with 5 or 9
  pub ends : IsStopOf words.Upgrade ended.status
  pub disk_fault : ended.status ≡ statuses.DiskFault → (meaning ended.disk).faults ≡ raised (meaning disk).faults

-- The image of the tree of the scripts was made, and was not upgraded.
pub record StopsUpgrading (scripts : List SourceMemory) (p : Parameters) (ended : Ended) : Type 0 where
  pub disk : Disk
  pub image : HasImage disk (made_tree scripts p) p
  pub stops : StopsUpgrade disk ended
