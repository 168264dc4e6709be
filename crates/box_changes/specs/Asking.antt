-- What an image is asked that is only read.
use Rattle.std.specs.Prelude.{◌≡◌, Result, IfOk, OnOk}
use Rattle.store_model.specs.Parameters.{Parameters}
use Rattle.store_model.specs.Trees.{Tree}
use Rattle.store_model.specs.Images.{Represents}
use Rattle.store_model.specs.Commands as model
use Rattle.store_model.specs.Steps.{step}
use Rattle.disk_model.specs.DiskState.{DiskState, IsObservable}
use Rattle.script_lines.specs.declared.reply.Reply.{Reply}
use Rattle.script_lines.specs.declared.session.Question.{Question}
use Rattle.script_lines.specs.Replies.{reply_of}
use Rattle.script_lines.specs.Sessions.{question_of}
use Rattle.store_core.specs.StoreState.{StoreState}
use Rattle.image_reads.specs.declared.fault.ReadFault.{ReadFault}
use Rattle.image_reads.specs.StoreReads.{LeavesDisk}

-- What a question has for an answer on the tree of a disk's image.
pub record IsAnswer (disk : DiskState) (question : Question) (reply : model.Reply) : Type 0 where
  pub tree : Tree
  pub params : Parameters
  pub represents : Represents disk.bytes tree params
  pub reply_is : reply ≡ (step tree (question_of question) params).reply

-- A store that only reads is asked.
pub record AsksStore {R : Type 0} (state : R → DiskState) (question : Question) (old new : StoreState R)
    (result : Result Reply ReadFault) : Type 0 where
  pub leaves : LeavesDisk (state old.disk) (state new.disk) result
  pub runs : OnOk result (new.is_stopped ≡ old.is_stopped)
  pub tree : IsObservable (state old.disk) → new.tree ≡ old.tree
  pub answers : IsObservable (state old.disk)
      → IfOk result (λ reply. reply_of reply ≡ (step old.tree (question_of question) old.params).reply)
