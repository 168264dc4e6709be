-- What answers a command from the staged pages of a tree.
use Rattle.std.proofs.Common.{◌≡◌, Result, IfOk}
use Rattle.store_model.specs.Parameters.{Parameters}
use Rattle.store_model.specs.Trees.{Tree}
use Rattle.store_model.specs.Draws.{draw_of}
use Rattle.store_model.specs.Pairs.{pairs}
use Rattle.store_model.specs.Commands.{Command}
use Rattle.store_model.specs.Steps.{Step}
use Rattle.store_base.specs.declared.store_fault.Fault.{Fault}
use Rattle.store_base.specs.Faults.{disk_faults_after}
use Rattle.disk_model.specs.DiskState.{DiskState, IsObservable}
use Rattle.seeded_draw.specs.declared.any.AnyDraw.{AnyDraw}
use Rattle.script_lines.specs.declared.reply.Reply.{Reply}
use Rattle.script_lines.specs.Replies.{reply_of}
use Rattle.skip_levels.specs.Descent.{HoldsPairs}
use Rattle.tree_pairs.specs.TreeCalls.{uncounted_step}
use Rattle.page_store.specs.StagedState.{StagedState, Follows}

-- the reply is the step's, and the staged pages are those of its tree
pub record IsReplyAt {D : Type 0} (to : Step) (p : Parameters) (new : StagedState D AnyDraw)
    (reply : Reply) : Type 0 where
  pub reply_is : reply_of reply ≡ to.reply
  pub holds : HoldsPairs (draw_of p) (pairs to.tree p) new.map

-- A command is carried out on staged pages that are those of a tree, `version` and `full` apart: what it changes is
-- staged. After a fault nothing is promised of what is staged.
pub record AnswersAt {D : Type 0} (state : D → DiskState) (command : Command) (t : Tree) (p : Parameters)
    (old new : StagedState D AnyDraw) (result : Result Reply Fault) : Type 0 where
  pub follows : Follows state old new
  pub faults : (state new.disk).faults ≡ disk_faults_after (state old.disk).faults result
  pub answered : IsObservable (state old.disk) → IfOk result (IsReplyAt (uncounted_step t command p) p new)
