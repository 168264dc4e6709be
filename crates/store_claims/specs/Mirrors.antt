-- What mirroring one image onto another leaves, also where it is cut short, and what it costs.
use Rattle.std.specs.Prelude.{◌≡◌, ◌⊎◌, ◌+◌, ◌*◌, ◌<◌, ◌++◌, ℕ, List, length}
use Rattle.store_model.specs.Parameters.{Parameters}
use Rattle.store_model.specs.Trees.{Tree}
use Rattle.store_model.specs.Images.{recovered, Represents}
use Rattle.disk_model.specs.DiskState.{DiskState, MayLeaveOnly}
use Rattle.gate_journal.specs.Phases.{HasEmptyJournal}
use Rattle.gate_journal.specs.Places.{ReadsOnly}
use Rattle.image_check.specs.Standing.{Stands}
use Rattle.mirror_copy.specs.Differing.{slots_differing}
use Rattle.script_lines.specs.SinkState.{SinkState, AppendsPrefix}
use Rattle.image_subcommands.specs.declared.status.Status.{Status}
use Rattle.image_subcommands.specs.declared.status.Status.TheVariants.{Done, SinkFault}
use Rattle.image_subcommands.specs.MirrorCall.{mirror_text}
use Rattle.image_subcommands.specs.Statuses.{IsMirrored}
use Rattle.store_claims.specs.Checks.{MightLeave, IsSome}
use Rattle.store_claims.specs.Costs.{Costs}

-- The image of a tree was mirrored, its line printed or not: the second is the image of that tree, durably, as recovery
-- leaves the first, whatever it held. The line says in how many slots the two differed.
pub record MirrorsEqual (t : Tree) (p : Parameters) (first : List ℕ) (status : Status) (old new : DiskState)
    (sink sink_new : SinkState) : Type 0 where
  pub bytes : new.bytes ≡ recovered p.slots first
  pub stands : Stands new t p
  pub line : status ≡ Done
      → sink_new.written ≡ sink.written ++ mirror_text (slots_differing p.slots old.bytes first)
  pub in_part : status ≡ SinkFault
      → AppendsPrefix sink.written sink_new.written (mirror_text (slots_differing p.slots old.bytes first))

-- Where the count of failed calls of the first rose the second was only read, and where that of the second rose the
-- first holds a tree.
pub record FailsApart (from from_new to to_new : DiskState) : Type 0 where
  pub first_failed : from.faults < from_new.faults → ReadsOnly to to_new
  pub second_failed : to.faults < to_new.faults → IsSome (Represents from.bytes)

-- the image is as long as the second and recovers to what that does
pub record RecoversAlike (p : Parameters) (second image : List ℕ) : Type 0 where
  pub same_length : length image ≡ length second
  pub recovers : recovered p.slots image ≡ recovered p.slots second

-- so it is, or the image is one of the first's tree
abbrev pub IsOldOrFirst : Tree → Parameters → List ℕ → List ℕ → Type 0
IsOldOrFirst t p second image = RecoversAlike p second image ⊎ Represents image t p

-- The image of a tree is mirrored onto one of the same parameters. What the second disk reads at the end, whatever
-- failed, recovers to what it did, or is an image of the tree. The same holds of each image that a crash might have
-- left, unless a crash before might have left it.
pub record MirrorsAllOrNone (t : Tree) (p : Parameters) (old new : DiskState) : Type 0 where
  pub reads : IsOldOrFirst t p old.bytes new.bytes
  pub crash : (image : List ℕ) → MightLeave old new image → old.crash_images image ⊎ IsOldOrFirst t p old.bytes image

-- and where the second was an image of a tree, each of them is an image of that tree or of the first's
pub record MirrorsEither (t u : Tree) (p : Parameters) (old new : DiskState) : Type 0 where
  pub reads : Represents new.bytes u p ⊎ Represents new.bytes t p
  pub crash : MayLeaveOnly old (λ image. Represents image u p) → (image : List ℕ) → MightLeave old new image
      → Represents image u p ⊎ Represents image t p

-- On a second image with an empty journal a mirror makes 5d + 2 writes and 6 syncs where d slots differ, and where none
-- does no write and one sync.
pub record CostsOfMirror (p : Parameters) (first : List ℕ) (status : Status) (old new : DiskState) : Type 0 where
  pub some : HasEmptyJournal p.slots old.bytes → 0 < slots_differing p.slots old.bytes first
      → Costs (5 * slots_differing p.slots old.bytes first + 2) 6 (IsMirrored status) old new
  pub none : HasEmptyJournal p.slots old.bytes → slots_differing p.slots old.bytes first ≡ 0
      → Costs 0 1 (IsMirrored status) old new
