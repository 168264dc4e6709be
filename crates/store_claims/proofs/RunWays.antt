-- How a call over the image of a tree may end, and what its disk has then.
use Rattle.std.proofs.Common.{◌≡◌, List, ℕ, ◌+◌, true, refl, ◌∙◌, ⊎_elim, arith}
use Rattle.std.specs.Prelude.{not}
use Rattle.std.proofs.lemmas.Bool.{and_from}
use Rattle.store_model.specs.Parameters.{Parameters}
use Rattle.store_model.specs.Trees.{Tree}
use Rattle.store_model.specs.Images.{layout, Represents}
use Rattle.store_model.specs.Scripts.{tree_after}
use Rattle.store_model.proofs.ImagesLemmas.{Represents-layout}
use Rattle.store_model.proofs.TreesLemmasSteps.{IsTree-tree_after}
use Rattle.store_model.proofs.TreesLemmasFits.{Fits-tree_after}
use Rattle.disk_model.specs.DiskState.{MayLeaveOnly}
use Rattle.disk_model.specs.MemoryLaws.{memory_is_sound}
use Rattle.image_check.specs.Standing.{Stands}
use Rattle.image_check.specs.Verdicts.{IsNoImage, IsDamaged}
use Rattle.script_lines.specs.Memory.{SourceMemory, SinkMemory, source_state, sink_state}
use Rattle.image_subcommands.specs.declared.status.Status.{Status}
use Rattle.image_subcommands.specs.declared.status.Status.TheVariants as statuses
use Rattle.image_subcommands.specs.Outside.{outside_of}
use Rattle.image_subcommands.specs.Statuses.{Subcommand, Subcommand as words, row, is_among, IsStatusOf, IsEndOf}
use Rattle.image_subcommands.specs.Statuses.{IsStopOf, MayComeFirst, ComesExactly}
use Rattle.image_subcommands.proofs.EachStatus.{implied}
use Rattle.image_subcommands.proofs.StatusLemmas.{disk_fault_or_not}
use Rattle.script_runs.specs.Promises.{PromisesCrashes}
use Rattle.script_runs.specs.ScriptCall.{AnswersScript}
use Rattle.store_claims.specs.Machines.{Disk, Ended, HasImage, MightHaveLeft, RepresentsSomeTree, bytes_of, meaning}

-- ---- statuses

-- a call with this subcommand may end only as a run may
abbrev pub EndsAsRun : Subcommand → Type 0
EndsAsRun word = (status : Status) → IsStatusOf word status → IsStatusOf words.Run status

-- as sessions do
pub ends_as_run : EndsAsRun words.Session
ends_as_run = implied (λ s. is_among words.Session (row s).words) (λ s. is_among words.Run (row s).words) refl

-- a call whose image is neither none nor damaged ends as one that found it
accepted : (status : Status) → (status ≡ statuses.NotImage → ⊥) → (status ≡ statuses.Damaged → ⊥)
    → not (row status).refuses_image ≡ true
accepted status image whole = grind arith

-- and a run or an upgrade that does not end with 0 stops
pub run_stop : (status : Status) → IsEndOf words.Run status → (status ≡ statuses.Done → ⊥) → IsStopOf words.Run status
run_stop status ends other = grind arith

pub upgrade_stop : (status : Status) → IsEndOf words.Upgrade status → (status ≡ statuses.Done → ⊥)
    → IsStopOf words.Upgrade status
upgrade_stop status ends other = grind arith

-- over the image of a tree a call ends as one that found its image
pub found : (word : Subcommand) (t : Tree) (p : Parameters) (disk : Disk) (status : Status) → IsStatusOf word status
    → ComesExactly statuses.NotImage (IsNoImage (meaning disk)) MayComeFirst status
    → ComesExactly statuses.Damaged (IsDamaged (meaning disk)) MayComeFirst status
    → Represents (bytes_of disk) t p → IsEndOf word status
found word t p disk status ends none broken is = and_from _ _ ends (accepted status
    (λ e. none.only e refl p (record { names = is.names; length_is = is.length_is }))
    (λ e. (broken.only e).no_tree refl t p is))

-- so one that answers a script ends as a run
pub way : {word : Subcommand} {texts : Tree → List ℕ → Parameters → List (List ℕ)} {trees : Tree → List ℕ → Parameters
    → ℕ → Tree} → EndsAsRun word
    → (t : Tree) (p : Parameters) (disk : Disk) (source : SourceMemory) (sink : SinkMemory) (after : Ended)
    → AnswersScript word texts trees meaning source_state sink_state (outside_of disk source sink) after
    → Represents (bytes_of disk) t p → IsEndOf words.Run after.status
way as_run t p disk source sink after answers is =
    let on_disk = answers.observed refl in
    found words.Run t p disk after.status (as_run after.status answers.ends) on_disk.not_image on_disk.damaged is

-- ---- trees of lines

-- the layout of the tree after lines represents it
pub layout_after : (t : Tree) (p : Parameters) (image : List ℕ) (texts : List (List ℕ)) → Represents image t p
    → Represents (layout (tree_after t texts p) p) (tree_after t texts p) p
layout_after t p image texts is =
    Represents-layout (tree_after t texts p) p is.names.in_range (IsTree-tree_after t texts p is.tree)
    (Fits-tree_after t texts p is.tree is.fits)

-- ---- images

-- a disk that stands at a tree has its image
pub image_of : (disk : Disk) (t : Tree) (p : Parameters) → Stands (meaning disk) t p → HasImage disk t p
image_of disk t p stands = record {
  bytes = stands.layout_is;
  durable = λ image leaves. stands.durable image leaves ∙ stands.layout_is;
}

-- what a crash may leave of a disk in memory, all that it may leave, and so what it reads
pub read_is : (disk : Disk) (P : List ℕ → Type 0) → MayLeaveOnly (meaning disk) P → P (bytes_of disk)
read_is disk P only = only (bytes_of disk) (memory_is_sound disk.disk).read_image

-- an image that a crash at some moment of a call leaves is of the tree after some pieces of work
pub on_the_way : (status : Status) (done : ℕ) (trees : ℕ → Tree) (p : Parameters) (disk now : Disk)
    → PromisesCrashes status done trees (meaning disk) (meaning now) p → (image : List ℕ)
    → MightHaveLeft (meaning disk).clock now image → RepresentsSomeTree (done + 1) trees p image
on_the_way status done trees p disk now crashes image leaves =
    ⊎_elim
    (λ fault. let one = (crashes.during_fault fault).each image leaves in record {
      count = one.0;
      in_limit = one.1;
      represents = one.2;
    })
    (λ other. let one = (crashes.during other).each image leaves in let few = one.1 in record {
      count = one.0;
      in_limit = omega arith;
      represents = one.2;
    })
    (disk_fault_or_not status)
