-- What answers a command from the pairs of a tree.
use Rattle.std.specs.Prelude.{◌≡◌, Bool, true, false, Result, Ok, Err, IfOk, OnOk}
use Rattle.store_model.specs.declared.refusal.Refusal.{Refusal}
use Rattle.store_model.specs.Parameters.{Parameters}
use Rattle.store_model.specs.Trees.{Tree}
use Rattle.store_model.specs.Pairs.{pairs}
use Rattle.store_model.specs.Commands.{Command}
use Rattle.store_model.specs.Commands.Command.{Make, Write, Cut, Rename, Remove, Prune, ListChildren, Read, Space}
use Rattle.store_model.specs.Commands.Command.{Digest, SetAttribute, UnsetAttribute, GetAttribute, ListAttributes}
use Rattle.store_model.specs.Steps.{Step}
use Rattle.store_base.specs.declared.store_fault.Fault.{Fault}
use Rattle.store_base.specs.Faults.{disk_faults_after}
use Rattle.script_lines.specs.declared.reply.Reply.{Reply}
use Rattle.script_lines.specs.declared.reply.Reply.TheVariants as replies
use Rattle.script_lines.specs.Replies.{reply_of}
use Rattle.ordered_pairs.specs.PairsState.{PairsState, IsObservable}
use Rattle.tree_pairs.specs.TreeCalls.{HoldsTree, uncounted_step}

-- whether a command only looks at the pairs of the tree
abbrev pub is_look : Command → Bool
is_look (Make p) = false
is_look (Write p at bytes) = false
is_look (Cut p len) = false
is_look (Rename p q) = false
is_look (Remove p) = false
is_look (Prune p) = false
is_look (ListChildren p) = true
is_look (Read p at len) = true
is_look Space = false
is_look Digest = false
is_look (SetAttribute p a bytes) = false
is_look (UnsetAttribute p a) = false
is_look (GetAttribute p a) = true
is_look (ListAttributes p) = true

-- how a change that ended so is answered
abbrev pub change_reply : {T F : Type 0} → Result (Result T Refusal) F → Result Reply F
change_reply (Ok (Ok value)) = Ok replies.Ok
change_reply (Ok (Err refusal)) = Ok (replies.No refusal)
change_reply (Err fault) = Err fault

-- the reply is the step's, and the pairs are those of its tree
pub record IsReplyOf (to : Step) (p : Parameters) (new : PairsState) (reply : Reply) : Type 0 where
  pub reply_is : reply_of reply ≡ to.reply
  pub pairs_are : new.pairs ≡ pairs to.tree p

-- A command is carried out on a list of pairs, `version` and `full` apart. After a fault nothing is promised of the
-- pairs.
pub record AnswersBy (command : Command) (old new : PairsState) (result : Result Reply Fault) : Type 0 where
  pub faults : new.faults ≡ disk_faults_after old.faults result
  pub observable : IsObservable old → OnOk result (IsObservable new)
  pub answered : IsObservable old → (t : Tree) (p : Parameters) → HoldsTree old t p
      → IfOk result (IsReplyOf (uncounted_step t command p) p new)
