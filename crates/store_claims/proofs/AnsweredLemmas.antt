-- A script is answered: from what a call that answers it promises.
use Rattle.std.proofs.Common.{◌≡◌, inl, inr, ℕ, List, ◌++◌, length, refl, sym, ap, ◌∙◌, subst, ⊎_elim}
use Rattle.std.specs.List.{concat}
use Rattle.std.proofs.Math.Seq.{take-length}
use Rattle.store_model.specs.Parameters.{Parameters}
use Rattle.store_model.specs.Trees.{Tree}
use Rattle.store_model.specs.Images.{Represents}
use Rattle.store_model.specs.Scripts.{lines, replies, tree_after}
use Rattle.script_lines.specs.Memory.{SourceMemory, SinkMemory, source_state, sink_state}
use Rattle.image_subcommands.specs.declared.status.Status.TheVariants as statuses
use Rattle.image_subcommands.specs.Outside.{outside_of}
use Rattle.image_subcommands.specs.Statuses.{Subcommand, IsBetweenLines}
use Rattle.script_runs.specs.ScriptCall.{IsRun}
use Rattle.script_runs.specs.Runs.{run_texts}
use Rattle.script_runs.specs.ScriptCall.{AnswersScript as Answers}
use Rattle.script_runs.proofs.AnswerLemmas.{length-run_texts, texts_joined}
use Rattle.store_claims.specs.Answered.{AnswersWhole, AnswersScript}
use Rattle.store_claims.specs.Machines.{Disk, Ended, HasImage, bytes_of, meaning}
use Rattle.store_claims.proofs.RunWays.{image_of}

-- of any call that has a text for each line
pub script_answered : {word : Subcommand} {texts : Tree → List ℕ → Parameters → List (List ℕ)} {trees : Tree
    → List ℕ → Parameters → ℕ → Tree}
    → (t : Tree) (p : Parameters) (disk : Disk) (source : SourceMemory) (sink : SinkMemory) (after : Ended)
    → length (texts t source.left p) ≡ length (lines source.left)
    → Answers word texts trees meaning source_state sink_state (outside_of disk source sink) after
    → Represents (bytes_of disk) t p
    → AnswersWhole (concat (texts t source.left p)) (trees t source.left p (length (lines source.left))) p
    disk source sink after
script_answered {word} {texts} {trees} t p disk source sink after one_each answers represents =
    let from = (answers.observed refl).does t p represents refl in
    let count = λ (e : after.status ≡ statuses.Done). (from.replies.counted.all e).1 ∙ one_each in
    record {
      image = λ e. subst (λ (n : ℕ). HasImage after.disk (trees t source.left p n) p) (count e)
          (image_of after.disk (trees t source.left p after.done) p
          (from.carried.image.between (subst IsBetweenLines (sym e) refl)));
      replied = λ e. let wrote = from.replies.written refl
          in wrote.written_is ∙ ap (λ (text : List ℕ). sink.written ++ text) (wrote.promised.all e);
      count = count;
      read = λ e. (answers.keeps refl).whole e;
      complete = λ fits none. ⊎_elim (λ done. inl done.0) (λ memory. inr memory)
          (from.complete fits none.disk_spared none.source_spared none.sink_spared);
    }

-- of a run
pub answers_script : (t : Tree) (p : Parameters) (disk : Disk) (source : SourceMemory)
    (sink : SinkMemory) (after : Ended)
    → IsRun meaning source_state sink_state (outside_of disk source sink) after → Represents (bytes_of disk) t p
    → AnswersScript t p disk source sink after
answers_script t p disk source sink after run represents =
    let all = lines source.left in
    subst (λ (text : List ℕ). AnswersWhole text (tree_after t all p) p disk source sink after)
    (texts_joined (replies t all p))
    (subst (λ (texts : List (List ℕ)).
    AnswersWhole (concat (run_texts t source.left p)) (tree_after t texts p) p disk source sink after)
    (take-length all)
    (script_answered t p disk source sink after (length-run_texts t source.left p) run represents))
