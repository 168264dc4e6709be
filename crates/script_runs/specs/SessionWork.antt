-- How the program answers a line of a session, on the sessions that are live on a store.
use Rattle.std.specs.Prelude.{◌≡◌, List, ℕ, Result, Ok, Err}
use Rattle.std.specs.Result.{result_map_both}
use Rattle.store_model.specs.declared.refusal.Refusal.{Refusal}
use Rattle.disk_model.specs.DiskState.{DiskState}
use Rattle.script_lines.specs.declared.session.SessionLine.{SessionLine}
use Rattle.script_lines.specs.declared.session_reply.SessionReply.{SessionReply}
use Rattle.script_lines.specs.Sessions.{SessionCall, SessionAnswer, session_reading_of, session_answer_of}
use Rattle.script_lines.specs.Sessions.SessionAnswer.{NoSession, Crowded, Many, NotRead}
use Rattle.image_check.specs.declared.fault.ApplyFault.{ApplyFault}
use Rattle.image_check.specs.declared.fault.ApplyFault.TheVariants as apply
use Rattle.session_core.specs.declared.fault.SessionFault.{SessionFault}
use Rattle.session_core.specs.declared.fault.SessionFault.TheVariants as causes
use Rattle.session_core.specs.SessionCalls.{CallsSessions}
use Rattle.session_core.specs.SessionState.{SessionsState}
use Rattle.script_runs.specs.Runs.{IsRefusedLine}
use Rattle.script_runs.specs.SessionRuns.{session_reading}

-- what the program read of a line is what it asks for
abbrev pub IsCallIn : Result SessionLine Refusal → List ℕ → Type 0
IsCallIn asked text = session_reading_of asked ≡ session_reading text

-- what is told of a call that ended by a fault: the answer where it was turned away, or the fault of the store
abbrev pub told_of_fault : SessionFault → Result SessionAnswer ApplyFault
told_of_fault causes.Stopped = Err apply.Stopped
told_of_fault causes.Crowded = Ok Crowded
told_of_fault causes.Unknown = Ok NoSession
told_of_fault causes.Many = Ok Many
told_of_fault causes.Disk = Err apply.Disk
told_of_fault causes.NoMemory = Err apply.NoMemory

-- and of any call
abbrev pub told_of : Result SessionReply SessionFault → Result SessionAnswer ApplyFault
told_of (Ok reply) = Ok (session_answer_of reply)
told_of (Err fault) = told_of_fault fault

-- what stands in the place of a reply, as the definitions have it, or the fault
abbrev pub told_in : Result SessionReply ApplyFault → Result SessionAnswer ApplyFault
told_in result = result_map_both session_answer_of (λ fault. fault) result

module _ {D : Type 0} (state : D → DiskState) where
  -- A call on sessions is made, and what it answers is told; a call that is turned away is answered too.
  pub record AnswersCall (call : SessionCall) (old new : SessionsState D)
      (result : Result SessionReply ApplyFault) : Type 0 where
    pub ended : Result SessionReply SessionFault
    pub calls : CallsSessions state call session_answer_of old new ended
    pub told : told_in result ≡ told_of ended

  -- What a line asks for is answered: a call is made, and a refusal is the reply.
  abbrev pub AnswersReadCall : Result SessionCall Refusal → SessionsState D → SessionsState D
      → Result SessionReply ApplyFault → Type 0
  AnswersReadCall (Ok call) old new result = AnswersCall call old new result
  AnswersReadCall (Err refusal) old new result =
      IsRefusedLine (λ reply. session_answer_of reply ≡ NotRead refusal) old new result

  -- so it is where a line was read
  abbrev pub AnswersSessionLine : Result SessionLine Refusal → SessionsState D → SessionsState D
      → Result SessionReply ApplyFault → Type 0
  AnswersSessionLine asked old new result = AnswersReadCall (session_reading_of asked) old new result
