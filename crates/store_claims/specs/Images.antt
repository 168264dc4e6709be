-- What scrubbing, wiping and making an image leaves, also where it is cut short.
use Rattle.std.specs.Prelude.{◌≡◌, ◌≢◌, ◌⊎◌, ℕ, List}
use Rattle.store_model.specs.Parameters.{Parameters, image_len}
use Rattle.store_model.specs.Trees.{Tree, empty_tree}
use Rattle.store_model.specs.Images.{Represents}
use Rattle.store_base.specs.Counts.{Rose}
use Rattle.disk_model.specs.DiskState.{DiskState, IsDurable}
use Rattle.gate_journal.specs.Formats.{NamesNoParameters}
use Rattle.scrub_free.specs.ScrubCalls.{ScrubsTo}
use Rattle.image_check.specs.Standing.{Stands}
use Rattle.script_lines.specs.SinkState.{SinkState}
use Rattle.image_subcommands.specs.declared.status.Status.{Status}
use Rattle.image_subcommands.specs.declared.status.Status.TheVariants.{Done, NoMemory, WrongLength}
use Rattle.image_subcommands.specs.FormatCall.{FormatsDisk}
use Rattle.image_subcommands.specs.Reports.{IsUnreported}
use Rattle.image_subcommands.specs.Statuses.{IsJudged, MayComeFirst, ComesExactly}
use Rattle.store_claims.specs.Checks.{MightLeave, JudgesExactly}

-- An image is scrubbed. What scrubbing leaves of bytes is one tree's image, or none.
pub record ScrubsExactly (status : Status) (old new : DiskState) (sink sink_new : SinkState) : Type 0 where
  pub judges : JudgesExactly (ScrubsTo old.bytes) old.bytes status sink sink_new
  -- after a fault too scrubbing leaves that image
  pub still : (t : Tree) (p : Parameters) → ScrubsTo old.bytes t p → ScrubsTo new.bytes t p
  -- an image keeps the tree that it represents
  pub tree : IsJudged status → (t : Tree) (p : Parameters) → Represents old.bytes t p → Stands new t p

-- An image was scrubbed again, after a crash. The call ends clean, unless a call fails or memory runs out, and leaves
-- these bytes, durably, whether or not its line was printed.
pub record ScrubsAgain (bytes : List ℕ) (status : Status) (new : DiskState) : Type 0 where
  pub ends : (status ≡ Done) ⊎ IsUnreported status
  pub same : IsJudged status → new.bytes ≡ bytes
  pub durable : IsJudged status → IsDurable new

-- the bytes are no image any more, or all are as they were
abbrev pub IsGoneOrWhole : List ℕ → List ℕ → Type 0
IsGoneOrWhole old image = NamesNoParameters image ⊎ (image ≡ old)

-- An image is wiped. What the disk reads at the end, whatever failed, is no image any more, or is as it was. Where
-- nothing was pending, the same holds of each image that a crash might have left.
pub record WipesAllOrNone (old new : DiskState) : Type 0 where
  pub reads : IsGoneOrWhole old.bytes new.bytes
  pub crash : IsDurable old → (image : List ℕ) → MightLeave old new image → IsGoneOrWhole old.bytes image

-- An image is made on a disk that was wiped before.
pub record MakesBehindWipe (p : Parameters) (wipe format : Status) (old new : DiskState) : Type 0 where
  -- it is fresh, and not refused for what was there: it is done, a call fails, or memory runs out
  pub fresh : format ≡ Done → Stands new empty_tree p
  pub not_refused : wipe ≡ Done → old.size ≡ image_len p.slots → (format ≡ Done) ⊎ MayComeFirst format
  pub wrong_length : ComesExactly WrongLength (old.size ≢ image_len p.slots) (λ status. status ≡ NoMemory) format
  -- where memory ran out before the wipe, it is made as on the disk that was not wiped
  pub unwiped : wipe ≡ NoMemory → FormatsDisk format p old new
  -- it is made where no call failed and memory was there
  pub made : old.size ≡ image_len p.slots → (Rose old.faults new.faults → ⊥)
      → ((format ≡ Done) ⊎ (format ≡ NoMemory)) ⊎ (wipe ≡ NoMemory)
