-- How a change of an image ends by what it came to.
use Rattle.std.proofs.Common.{◌≡◌, Bool, refl, Result, Ok, Err, inl, inr}
use Rattle.store_model.specs.declared.refusal.Refusal.{Refusal}
use Rattle.store_model.specs.declared.refusal.Refusal.TheVariants as refusals
use Rattle.script_lines.specs.SinkState.{SinkState}
use Rattle.image_check.specs.declared.fault.AttachFault.{AttachFault}
use Rattle.image_check.specs.declared.fault.AttachFault.TheVariants as attach
use Rattle.box_words.specs.declared.status.Status.{Status}
use Rattle.box_words.specs.declared.status.Status.TheVariants as statuses
use Rattle.box_calls.specs.declared.trouble.Trouble.{Trouble}
use Rattle.box_calls.specs.declared.reason.Reason.{Reason}
use Rattle.box_calls.specs.Endings.{IsTold, status_of, ended_status}
use Rattle.box_changes.specs.Endings.{open_trouble, refusal_trouble, EndsChange}

-- a change that is refused ends with the status of paths
pub refused_status : (there : Reason) (why : Refusal) → status_of (refusal_trouble there why) ≡ statuses.Path
refused_status there refusals.Long = refl
refused_status there refusals.Syntax = refl
refused_status there refusals.Path = refl
refused_status there refusals.Root = refl
refused_status there refusals.Parent = refl
refused_status there refusals.Exists = refl
refused_status there refusals.Missing = refl
refused_status there refusals.Inside = refl
refused_status there refusals.Kind = refl
refused_status there refusals.Gap = refl
refused_status there refusals.Big = refl
refused_status there refusals.NotEmpty = refl
refused_status there refusals.Version = refl
refused_status there refusals.NoAttr = refl
refused_status there (refusals.Full need slots) = refl

-- what a call came to tells its status
pub change_status : (sums_up recovered : Bool) (done : Result (Unit {0}) Trouble) (status : Status)
    (old new : SinkState) → EndsChange sums_up recovered done 0 status old new → status ≡ ended_status done
change_status sums_up recovered (Ok done) status old new ends = ends.0
change_status sums_up recovered (Err trouble) status old new ends = ends.ends.status_is

-- an image that was not opened does not end a call well, nor as one at a path or one without room
pub open_told : (fault : AttachFault) → IsTold (status_of (open_trouble fault)) → ⊥
open_told attach.Disk (inl e) = absurd cc
open_told attach.Disk (inr e) = absurd cc
open_told attach.NoMemory (inl e) = absurd cc
open_told attach.NoMemory (inr e) = absurd cc
open_told attach.NotImage (inl e) = absurd cc
open_told attach.NotImage (inr e) = absurd cc
open_told attach.Damaged (inl e) = absurd cc
open_told attach.Damaged (inr e) = absurd cc

pub open_path : (fault : AttachFault) → status_of (open_trouble fault) ≡ statuses.Path → ⊥
open_path attach.Disk e = cc
open_path attach.NoMemory e = cc
open_path attach.NotImage e = cc
open_path attach.Damaged e = cc

pub open_full : (fault : AttachFault) → status_of (open_trouble fault) ≡ statuses.Full → ⊥
open_full attach.Disk e = cc
open_full attach.NoMemory e = cc
open_full attach.NotImage e = cc
open_full attach.Damaged e = cc

pub open_no_image : (fault : AttachFault) → status_of (open_trouble fault) ≡ statuses.NotImage → fault ≡ attach.NotImage
open_no_image attach.Disk e = absurd cc
open_no_image attach.NoMemory e = absurd cc
open_no_image attach.NotImage e = refl
open_no_image attach.Damaged e = absurd cc

pub open_damaged : (fault : AttachFault) → status_of (open_trouble fault) ≡ statuses.Damaged → fault ≡ attach.Damaged
open_damaged attach.Disk e = absurd cc
open_damaged attach.NoMemory e = absurd cc
open_damaged attach.NotImage e = absurd cc
open_damaged attach.Damaged e = refl
