-- Where a call ends as told that makes an image, prints what it would be, or lists a folder, it came to no trouble.
use Rattle.std.proofs.Common.{◌≡◌, ◌==◌, ◌⊎◌, inl, inr, ℕ, Bool, true, false, if◌then◌else◌, List, Result, Ok, Err}
use Rattle.std.proofs.Common.{OnOk}
use Rattle.std.proofs.Common.{IfErr, subst}
use Rattle.disk_model.specs.DiskState.{DiskState}
use Rattle.store_model.specs.Parameters.{Parameters}
use Rattle.script_lines.specs.SinkState.{SinkState}
use Rattle.script_lines.specs.declared.fault.SinkFault.{SinkFault}
use Rattle.dump_streams.specs.declared.draining.DrainFault.{DrainFault}
use Rattle.dump_streams.specs.declared.draining.DrainFault.TheVariants as drains
use Rattle.dump_streams.specs.declared.fault.StreamFault.TheVariants as streams
use Rattle.dump_streams.specs.declared.taker.TakerFault.TheVariants as takers
use Rattle.host_folders.specs.FolderState.{FolderState}
use Rattle.host_folders.specs.declared.found.Found.{Found}
use Rattle.tree_writer.specs.Faults.{WasNone}
use Rattle.image_create.specs.declared.fault.CreateFault.{CreateFault}
use Rattle.image_create.specs.declared.fault.CreateFault.TheVariants as creates
use Rattle.image_create.specs.Creates.{IsUnmade}
use Rattle.box_words.specs.declared.status.Status.{Status}
use Rattle.box_words.specs.declared.status.Status.TheVariants as statuses
use Rattle.box_calls.specs.declared.trouble.Trouble.{Trouble}
use Rattle.box_calls.specs.declared.trouble.Trouble.TheVariants as troubles
use Rattle.box_calls.specs.Checks.{printed}
use Rattle.box_calls.specs.Creations.{LeavesNone, create_trouble}
use Rattle.box_calls.specs.Endings.{Ends, IsTold, status_of}
use Rattle.box_calls.specs.Makings.{EndsMade}
use Rattle.box_calls.specs.Packings.{packed_trouble}

-- no call ends as told that ends with this trouble
abbrev pub IsBad : Trouble → Type 0
IsBad trouble = IsTold (status_of trouble) → ⊥

bad : (trouble : Trouble) → (status_of trouble ≡ statuses.Done → ⊥) → (status_of trouble ≡ statuses.Differs → ⊥)
    → IsBad trouble
bad trouble done differs (inl e) = done e
bad trouble done differs (inr e) = differs e

bad_output : IsBad troubles.Output
bad_output = bad troubles.Output (λ e. absurd cc) (λ e. absurd cc)

bad_memory : IsBad troubles.NoMemory
bad_memory = bad troubles.NoMemory (λ e. absurd cc) (λ e. absurd cc)

bad_host : IsBad troubles.Host
bad_host = bad troubles.Host (λ e. absurd cc) (λ e. absurd cc)

bad_moving : IsBad troubles.Moving
bad_moving = bad troubles.Moving (λ e. absurd cc) (λ e. absurd cc)

bad_much : IsBad troubles.TooMuch
bad_much = bad troubles.TooMuch (λ e. absurd cc) (λ e. absurd cc)

bad_full : IsBad troubles.Full
bad_full = bad troubles.Full (λ e. absurd cc) (λ e. absurd cc)

bad_disk : IsBad troubles.Unwritten
bad_disk = bad troubles.Unwritten (λ e. absurd cc) (λ e. absurd cc)

pub bad_obstacles : IsBad troubles.Obstacles
bad_obstacles = bad troubles.Obstacles (λ e. absurd cc) (λ e. absurd cc)

module _ {A : Type 0} where
  -- a call that ends as told came to no such trouble
  pub ended_bad : (trouble : Trouble) (status : Status) (old new : SinkState) → IsBad trouble
      → Ends (Err trouble) status old new → IsTold status → A
  ended_bad trouble status old new is ends told = absurd (is (subst IsTold ends.status_is told))

  -- so the last bytes were put of one that prints what an image would be
  pub plan_flushed : (put flushed : Result (Unit {0}) SinkFault) (left_out : ℕ) (status : Status) (old new : SinkState)
      → EndsMade false (printed (Ok tt) put flushed) left_out status old new → IsTold status → OnOk flushed A → A
  plan_flushed (Err fault) flushed left_out status old new ends told a =
      ended_bad troubles.Output status old new bad_output ends told
  plan_flushed (Ok done) (Err fault) left_out status old new ends told a =
      ended_bad troubles.Output status old new bad_output ends told
  plan_flushed (Ok done) (Ok end) left_out status old new ends told a = a

  -- and of one that lists a folder
  pub list_flushed : (written : Result (Unit {0}) DrainFault) (put flushed : Result (Unit {0}) SinkFault)
      (left_out : ℕ) (status : Status) (old new : SinkState)
      → EndsMade false (printed (packed_trouble written) put flushed) left_out status old new → IsTold status
      → OnOk flushed A → A
  list_flushed written (Err fault) flushed left_out status old new ends told a =
      ended_bad troubles.Output status old new bad_output ends told
  list_flushed written (Ok done) (Err fault) left_out status old new ends told a =
      ended_bad troubles.Output status old new bad_output ends told
  list_flushed written (Ok done) (Ok end) left_out status old new ends told a = a

-- ---- of one that makes an image

told_by : (is_whole : Bool) (status : Status) → status ≡ (if is_whole then statuses.Done else statuses.Differs)
    → IsTold status
told_by true status e = inl e
told_by false status e = inr e

module _ {A : Type 0} where
  -- where it ends as told the image was made
  pub create_told : (done : Result (Unit {0}) CreateFault) (sums_up : Bool) (left_out : ℕ) (status : Status)
      (old new : SinkState) → EndsMade sums_up (create_trouble done) left_out status old new → IsTold status
      → OnOk done A → A
  create_told (Ok done) sums_up left_out status old new ends told a = a
  create_told (Err creates.Disk) sums_up left_out status old new ends told a =
      ended_bad troubles.Unwritten status old new bad_disk ends told
  create_told (Err creates.NoMemory) sums_up left_out status old new ends told a =
      ended_bad troubles.NoMemory status old new bad_memory ends told
  create_told (Err (creates.Full need slots)) sums_up left_out status old new ends told a =
      ended_bad troubles.Full status old new bad_full ends told
  create_told (Err creates.Unreadable) sums_up left_out status old new ends told a =
      ended_bad troubles.Host status old new bad_host ends told
  create_told (Err (creates.Moving path)) sums_up left_out status old new ends told a =
      ended_bad troubles.Moving status old new bad_moving ends told
  create_told (Err creates.OtherSlots) sums_up left_out status old new ends told a =
      ended_bad troubles.Moving status old new bad_moving ends told
  create_told (Err creates.TooMany) sums_up left_out status old new ends told a =
      ended_bad troubles.TooMuch status old new bad_much ends told

-- and where it ends otherwise no image was
module _ (p : Parameters) (is_laddered : Bool) (found : List Found) (folder folder_new : FolderState)
    (disk disk_new : DiskState) (sums_up : Bool) (left_out : ℕ) (status : Status) (old new : SinkState)
    (untold : IsTold status → ⊥) (none : WasNone disk) where
  pub create_untold : (done : Result (Unit {0}) CreateFault)
      → EndsMade sums_up (create_trouble done) left_out status old new
      → IfErr done (IsUnmade p is_laddered found folder folder_new disk disk_new)
      → LeavesNone p found folder folder_new disk disk_new
  create_untold (Ok done) ends unmade = absurd (untold (told_by (left_out == 0) status ends.0))
  create_untold (Err creates.Disk) ends unmade = unmade.none none
  create_untold (Err creates.NoMemory) ends unmade = inl (unmade.none none)
  create_untold (Err (creates.Full need slots)) ends unmade = inl (unmade.none none)
  create_untold (Err creates.Unreadable) ends unmade = inl (unmade.none none)
  create_untold (Err (creates.Moving path)) ends unmade = inl (unmade.none none)
  create_untold (Err creates.OtherSlots) ends unmade = inl (unmade.none none)
  create_untold (Err creates.TooMany) ends unmade = inl (unmade.none none)
