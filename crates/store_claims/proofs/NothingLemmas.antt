-- Nothing is done on bytes that are the image of no tree: from what a call promises that opens an image.
use Rattle.std.proofs.Common.{◌⊎◌, ◌&&◌, Bool, true, false, IsTrue, not, inl, inr, refl, sym, subst}
use Rattle.store_model.specs.Parameters.{Parameters}
use Rattle.store_model.specs.Trees.{Tree}
use Rattle.gate_journal.specs.Headers.{IsImageWith}
use Rattle.image_check.specs.Verdicts.{IsDamaged}
use Rattle.script_lines.specs.Memory.{SourceMemory, SinkMemory}
use Rattle.image_subcommands.specs.Outside.{Outside, outside_of}
use Rattle.image_subcommands.specs.Statuses.{Subcommand, row, IsPastHeader}
use Rattle.image_work.specs.Works.{Works}
use Rattle.store_claims.specs.Machines.{Disk, Ended, bytes_of, meaning}
use Rattle.store_claims.specs.Nothing.{HasNoTree, DoesNothing}

-- a call that ends with no store ends by its image, or before that is judged
refused : (refuses first : Bool) → (IsTrue (not first && not refuses) → ⊥) → IsTrue refuses ⊎ IsTrue first
refused refuses true never = inr refl
refused true false never = inl refl
refused false false never = absurd (never refl)

-- an image that represents no tree is damaged
pub damaged_with : (disk : Disk) (p : Parameters) → HasNoTree (bytes_of disk) → IsImageWith (bytes_of disk) p
    → IsDamaged (meaning disk)
damaged_with disk p none is = record {
  params = p;
  has_parameters = record { in_range = is.names.in_range; size_is = is.length_is; named = λ observable. is };
  no_tree = λ observable. none;
}

-- of any call that opens an image
pub works_on_nothing : {word : Subcommand} {Keeps : Outside Disk SourceMemory SinkMemory → Ended → Type 0} {Does : Tree
    → Parameters → Outside Disk SourceMemory SinkMemory → Ended → Type 0}
    → (disk : Disk) (source : SourceMemory) (sink : SinkMemory) (after : Ended)
    → Works meaning word Keeps Does (outside_of disk source sink) after → HasNoTree (bytes_of disk)
    → DoesNothing disk source sink after
works_on_nothing disk source sink after works no_tree =
    let on_disk = works.observed refl in
    let nothing = on_disk.nothing no_tree in
    record {
      none_done = nothing.0.done;
      nothing_taken = nothing.0.source;
      nothing_put = nothing.0.sink;
      nothing_written = nothing.1.synced;
      crash = nothing.1.crash.each;
      no_image = λ other. on_disk.not_image.always (λ observable. other);
      damaged = λ p is. on_disk.damaged.always (damaged_with disk p no_tree is);
      ends = refused (row after.status).refuses_image (row after.status).may_come_first
          (λ behind. let some = on_disk.represented behind in no_tree some.tree some.params some.represents);
      seven = λ e. on_disk.not_image.only e refl;
      eight = λ e. let has = works.named (subst IsPastHeader (sym e) refl) in (has.0, (has.1).named refl);
    }
