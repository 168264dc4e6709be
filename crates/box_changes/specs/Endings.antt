-- How calls end that change an image, and what they say.
use Rattle.std.specs.Prelude.{◌≡◌, ℕ, Bool, Result, Ok, Err}
use Rattle.store_model.specs.declared.refusal.Refusal.{Refusal}
use Rattle.store_model.specs.declared.refusal.Refusal.TheVariants as refusals
use Rattle.script_lines.specs.SinkState.{SinkState}
use Rattle.image_check.specs.declared.fault.AttachFault.{AttachFault}
use Rattle.image_check.specs.declared.fault.ApplyFault.{ApplyFault}
use Rattle.image_check.specs.declared.fault.ApplyFault.TheVariants as apply
use Rattle.image_reads.specs.Faults.{unopened_fault}
use Rattle.image_changes.specs.declared.outcome.Outcome.{Outcome}
use Rattle.image_changes.specs.declared.outcome.Outcome.TheVariants as outcomes
use Rattle.box_words.specs.declared.status.Status.{Status}
use Rattle.box_calls.specs.declared.trouble.Trouble.{Trouble}
use Rattle.box_calls.specs.declared.trouble.Trouble.TheVariants as troubles
use Rattle.box_calls.specs.declared.reason.Reason.{Reason}
use Rattle.box_calls.specs.declared.reason.Reason.TheVariants as reasons
use Rattle.box_calls.specs.Endings.{SaysIf, Ends}
use Rattle.box_calls.specs.Makings.{left_out_status}
use Rattle.box_calls.specs.Readings.{read_trouble}

-- ---- the troubles

-- the trouble where an image was not opened
abbrev pub open_trouble : AttachFault → Trouble
open_trouble fault = read_trouble (unopened_fault fault)

-- the trouble where the store of an image did not carry out a change
abbrev pub apply_trouble : ApplyFault → Trouble
apply_trouble apply.Disk = troubles.Failed
apply_trouble apply.NoMemory = troubles.NoMemory
apply_trouble apply.Stopped = troubles.Failed

-- The trouble that it is that a change is refused at a path: where something stands already it is of this reason. Of
-- lines, offsets and numbers nothing is refused there.
abbrev pub refusal_trouble : Reason → Refusal → Trouble
refusal_trouble there refusals.Long = troubles.Refused reasons.Long
refusal_trouble there refusals.Syntax = troubles.Refused reasons.Long
refusal_trouble there refusals.Path = troubles.Refused reasons.Long
refusal_trouble there refusals.Root = troubles.Refused reasons.Root
refusal_trouble there refusals.Parent = troubles.Refused reasons.NoParent
refusal_trouble there refusals.Exists = troubles.Refused there
refusal_trouble there refusals.Missing = troubles.Nothing
refusal_trouble there refusals.Inside = troubles.Refused reasons.Inside
refusal_trouble there refusals.Kind = troubles.Refused reasons.FolderThere
refusal_trouble there refusals.Gap = troubles.Refused reasons.Long
refusal_trouble there refusals.Big = troubles.Refused reasons.Long
refusal_trouble there refusals.NotEmpty = troubles.Refused reasons.NotEmpty
refusal_trouble there refusals.Version = troubles.Refused reasons.OldVersion
refusal_trouble there refusals.NoAttr = troubles.Refused reasons.NoAttribute
refusal_trouble there (refusals.Full need slots) = troubles.Refused reasons.Long

-- what a change came to that ended so
abbrev pub change_done : Reason → Result Outcome ApplyFault → Result (Unit {0}) Trouble
change_done there (Ok outcomes.Done) = Ok tt
change_done there (Ok (outcomes.Refused path reason)) = Err (refusal_trouble there reason)
change_done there (Ok (outcomes.Full need slots)) = Err troubles.Crowded
change_done there (Err fault) = Err (apply_trouble fault)

-- ---- how they end

-- A trouble is said, and before it that a recovery was finished, if one was.
pub record EndsBehind (recovered : Bool) (trouble : Trouble) (status : Status) (old new : SinkState) : Type 0 where
  pub between : SinkState
  pub recovery : SaysIf recovered old between
  pub ends : Ends (Err trouble) status between new

-- A call ends so that came to this and left so much out. Where it changed the image and sums up, it is said how full
-- that is.
abbrev pub EndsChange : Bool → Bool → Result (Unit {0}) Trouble → ℕ → Status → SinkState → SinkState → Type 0
EndsChange sums_up recovered (Ok done) left_out status old new =
    (status ≡ left_out_status left_out) × SaysIf sums_up old new
EndsChange sums_up recovered (Err trouble) left_out status old new = EndsBehind recovered trouble status old new
