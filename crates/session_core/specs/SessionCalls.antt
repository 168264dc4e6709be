-- What the calls of sessions do.
use Rattle.std.specs.Prelude.{◌≡◌, ◌↔◌, length, Bool, true, false, Option, Some, None, IfSome, Result, Ok, Err, OnErr}
use Rattle.store_model.specs.Trees.{Tree}
use Rattle.disk_model.specs.DiskState.{DiskState, IsObservable}
use Rattle.gate_journal.specs.Disks.{KeepsDisk}
use Rattle.image_check.specs.declared.fault.ApplyFault.{ApplyFault}
use Rattle.image_check.specs.declared.fault.ApplyFault.TheVariants as apply
use Rattle.image_check.specs.Faults.{apply_faults_after}
use Rattle.script_lines.specs.Sessions.{SessionCall, SessionAnswer}
use Rattle.script_lines.specs.Sessions.SessionAnswer.{Done, Conflicting, RefusedAt, NoSession, Crowded, Many}
use Rattle.script_lines.specs.Replies.{reply_of}
use Rattle.staged_tree.specs.ImageChanges.{ChangesImage}
use Rattle.session_core.specs.declared.fault.SessionFault.{SessionFault}
use Rattle.session_core.specs.declared.fault.SessionFault.TheVariants as causes
use Rattle.session_core.specs.declared.committed.Committed.{Committed}
use Rattle.session_core.specs.declared.committed.Committed.TheVariants as committed
use Rattle.session_core.specs.Machine.{happens, turned_away, places_after, live_limit}
use Rattle.session_core.specs.Machine.Event.{Acts, Fails, Breaks}
use Rattle.session_core.specs.SessionState.{SessionsState, world_of}

-- what a commit answers
abbrev pub committed_answer : Committed → SessionAnswer
committed_answer committed.Ok = Done
committed_answer (committed.Conflict k was now) = Conflicting k (reply_of was) (reply_of now)
committed_answer (committed.Refused k refusal) = RefusedAt k refusal

-- what a call answered, as the machine answers it; none where it ended by a fault of the store
abbrev pub answer_in : {A : Type 0} → (A → SessionAnswer) → Result A SessionFault → Option SessionAnswer
answer_in answer_of (Ok value) = Some (answer_of value)
answer_in answer_of (Err causes.Stopped) = None
answer_in answer_of (Err causes.Crowded) = Some Crowded
answer_in answer_of (Err causes.Unknown) = Some NoSession
answer_in answer_of (Err causes.Many) = Some Many
answer_in answer_of (Err causes.Disk) = None
answer_in answer_of (Err causes.NoMemory) = None

-- how it ended, as calls of the store end: what was turned away was answered
abbrev pub ended_in : {A : Type 0} → Result A SessionFault → Result (Unit {0}) ApplyFault
ended_in (Ok value) = Ok tt
ended_in (Err causes.Stopped) = Err apply.Stopped
ended_in (Err causes.Crowded) = Ok tt
ended_in (Err causes.Unknown) = Ok tt
ended_in (Err causes.Many) = Ok tt
ended_in (Err causes.Disk) = Err apply.Disk
ended_in (Err causes.NoMemory) = Err apply.NoMemory

-- the fault of a call on sessions in which one of the store came
abbrev pub session_fault_of : ApplyFault → SessionFault
session_fault_of apply.Disk = causes.Disk
session_fault_of apply.NoMemory = causes.NoMemory
session_fault_of apply.Stopped = causes.Stopped

-- the answer that turned a call away, if one did
abbrev pub turned_by : Option SessionAnswer → Option SessionAnswer
turned_by (Some Crowded) = Some Crowded
turned_by (Some NoSession) = Some NoSession
turned_by (Some Many) = Some Many
turned_by answer = None

-- the tree that is left where the call breaks, and what it had to commit landed or did not
abbrev pub tree_left : {D : Type 0} → SessionsState D → SessionCall → Bool → Tree
tree_left s call landed = (happens s.store.params (world_of s) (Breaks call landed)).1.machine.tree

-- A call on sessions answers as the machine does and leaves what it leaves, or a fault ends it.
pub record CallsSessions {D A : Type 0} (state : D → DiskState) (call : SessionCall) (answer_of : A → SessionAnswer)
    (old new : SessionsState D) (result : Result A SessionFault) : Type 0 where
  pub params : new.store.params ≡ old.store.params
  pub kept : KeepsDisk (state old.store.disk) (state new.store.disk)
  pub faults : (state new.store.disk).faults ≡ apply_faults_after (state old.store.disk).faults (ended_in result)
  -- a stopped store answers so, before all else, and does nothing; no other answers so
  pub stopped : (result ≡ Err causes.Stopped) ↔ (old.store.is_stopped ≡ true)
  pub still : old.store.is_stopped ≡ true → new ≡ old
  -- there is a place for each session that may be live
  pub sized : length old.places ≡ live_limit
  -- a call is turned away exactly where the sessions say so, over any disk, and before a fault can come
  pub refused : old.store.is_stopped ≡ false → turned_by (answer_in answer_of result) ≡ turned_away old.places call
  -- over any disk the sessions are those of the answer, and a fault changes nothing of them
  pub places : IfSome (answer_in answer_of result) (λ answer. new.places ≡ places_after old.places call answer)
  pub unchanged : OnErr result (new.places ≡ old.places)
  -- over an observable disk the machine answers so, and what stands then is what it leaves
  pub answers : IsObservable (state old.store.disk) → old.store.is_stopped ≡ false
      → IfSome (answer_in answer_of result) (λ answer. happens old.store.params (world_of old) (Acts call)
      ≡ (Some answer, world_of new))
  -- a fault that stops nothing is the event that leaves all as it was; one that stops the store is that of a call
  -- that broke, of which the value keeps the old tree, and what the disk holds is told below
  pub fails : answer_in answer_of result ≡ None → new.store.is_stopped ≡ old.store.is_stopped
      → happens old.store.params (world_of old) (Fails call) ≡ (None, world_of new)
  pub breaks : old.store.is_stopped ≡ false → new.store.is_stopped ≡ true
      → happens old.store.params (world_of old) (Breaks call false) ≡ (None, world_of new)
  -- only a fault of the disk stops it
  pub runs : old.store.is_stopped ≡ false → (result ≡ Err causes.Disk → ⊥) → new.store.is_stopped ≡ false
  -- of an observable disk: what it reads then, what a crash leaves at any moment of the call, and what is written and
  -- synced, by the trees of a call that breaks and does not land, or lands
  pub observed : IsObservable (state old.store.disk) → old.store.is_stopped ≡ false
      → ChangesImage (tree_left old call false) (tree_left old call true) old.store.params (state old.store.disk)
      (state new.store.disk) new.store.is_stopped (ended_in result)

-- The sessions alone answer, over any disk: the store is not called.
pub record IsOfSessions {D A : Type 0} (call : SessionCall) (answer_of : A → SessionAnswer) (old new : SessionsState D)
    (result : Result A SessionFault) : Type 0 where
  pub store : new.store ≡ old.store
  pub no_disk : result ≡ Err causes.Disk → ⊥
  pub answers : old.store.is_stopped ≡ false
      → IfSome (answer_in answer_of result) (λ answer. happens old.store.params (world_of old) (Acts call)
      ≡ (Some answer, world_of new))
