-- How a command is answered under one version of the format.
use Rattle.std.proofs.Common.{◌≡◌, Result, Ok, Err, IfOk, OnOk}
use Rattle.store_model.specs.declared.refusal.Refusal.{Refusal}
use Rattle.store_model.specs.declared.version.Version.{Version}
use Rattle.store_model.specs.Parameters.{Parameters}
use Rattle.store_model.specs.Trees.{Tree}
use Rattle.store_model.specs.Commands.{Command}
use Rattle.store_model.specs.Commands.Reply.{Acknowledged}
use Rattle.store_base.specs.declared.store_fault.Fault.{Fault}
use Rattle.store_base.specs.Faults.{disk_faults_after}
use Rattle.script_lines.specs.declared.reply.Reply.{Reply}
use Rattle.ordered_pairs.specs.PairsState.{PairsState, IsObservable}
use Rattle.tree_pairs.specs.TreeCalls.{HoldsTree, uncounted_step, CarriesOutUnder}
use Rattle.tree_commands.specs.Answers.{IsReplyOf, AnswersBy, change_reply}

-- a command is carried out on a list of pairs of one version, `version` and `full` apart
pub record AnswersUnder (version : Version) (command : Command) (old new : PairsState)
    (result : Result Reply Fault) : Type 0 where
  pub faults : new.faults ≡ disk_faults_after old.faults result
  pub observable : IsObservable old → OnOk result (IsObservable new)
  pub answered : IsObservable old → (t : Tree) (p : Parameters) → p.version ≡ version → HoldsTree old t p
      → IfOk result (IsReplyOf (uncounted_step t command p) p new)

-- one that is carried out under each version is so under one
pub answers_under : (version : Version) (c : Command) (old new : PairsState) (r : Result Reply Fault)
    → AnswersBy c old new r → AnswersUnder version c old new r
answers_under version c old new r is = record {
  faults = is.faults;
  observable = is.observable;
  answered = λ seen t p under holds. is.answered seen t p holds;
}

-- a change that a call carries out is answered so
pub carried_reply : {T : Type 0} (version : Version) (c : Command) (old new : PairsState)
    (r : Result (Result T Refusal) Fault) → CarriesOutUnder version (λ _. Acknowledged) c old new r
    → AnswersUnder version c old new (change_reply r)
carried_reply version c old new (Ok (Ok value)) is = record {
  faults = is.faults;
  observable = is.observable;
  answered = λ seen t p under holds. let step = is.carried seen t p under holds in record {
    reply_is = step.reply;
    pairs_are = step.pairs_are;
  };
}
carried_reply version c old new (Ok (Err refusal)) is = record {
  faults = is.faults;
  observable = is.observable;
  answered = λ seen t p under holds. let step = is.carried seen t p under holds in record {
    reply_is = step.reply;
    pairs_are = step.pairs_are;
  };
}
carried_reply version c old new (Err fault) is = record {
  faults = is.faults;
  observable = is.observable;
  answered = λ seen t p under holds. tt;
}
