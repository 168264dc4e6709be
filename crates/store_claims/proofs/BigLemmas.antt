-- `big` is a run of its commands: from what `big` promises, and from a run that answered its script.
use Rattle.std.proofs.Common.{◌≡◌, ℕ, zero, suc, ◌≤◌, nat_lt, List, [], ◌∷◌, ◌++◌, length, take, Ok, refl, sym, ap, ◌∙◌}
use Rattle.std.proofs.Common.{subst, arith, length-append}
use Rattle.std.proofs.lemmas.Bool.{le-ltb, cond-false}
use Rattle.std.proofs.Math.Seq.{take-length}
use Rattle.sha2.specs.Sha256.{sha256}
use Rattle.store_model.specs.Parameters.{Parameters}
use Rattle.store_model.specs.Trees.{Tree}
use Rattle.store_model.specs.Pages.{page_count}
use Rattle.store_model.specs.Images.{layout, Represents}
use Rattle.store_model.specs.Commands.{Command, Reply}
use Rattle.store_model.specs.Commands.Command.{Space, Digest}
use Rattle.store_model.specs.Commands.Reply.{PagesUsed, ImageDigest}
use Rattle.store_model.specs.Steps.{Step, step, conditions, first_refusal, may_fill, is_on_attributes, reply_of}
use Rattle.store_model.specs.Grammar.{parse}
use Rattle.store_model.specs.Scripts.{lines, line_limit, answer, answer_by, answers_by, state_by, replies_by, tree_by}
use Rattle.store_model.specs.Scripts.{replies, tree_after}
use Rattle.script_lines.specs.Generated.{generated}
use Rattle.script_lines.specs.Memory.{SourceMemory, SinkMemory, sink_state}
use Rattle.image_subcommands.specs.declared.status.Status.TheVariants as statuses
use Rattle.image_subcommands.specs.Outside.{outside_of}
use Rattle.image_subcommands.specs.Statuses.{IsBetweenLines, IsSummed}
use Rattle.script_runs.specs.ScriptCall.{IsBig}
use Rattle.staged_tree.specs.Groups.{step_under}
use Rattle.script_runs.specs.Generations.{first_commands, generated_trees, summary_text}
use Rattle.store_claims.specs.declared.big.TwoRuns.{TwoRuns}
use Rattle.store_claims.specs.Answered.{AnswersScript}
use Rattle.store_claims.specs.BigRuns.{AskFor, summary_of, IsRunOfCommands}
use Rattle.store_claims.specs.Machines.{Disk, bytes_of, meaning}

-- ---- a script that asks for commands

pub answer_of_parsed : (t : Tree) (text : List ℕ) (c : Command) (p : Parameters) → length text ≤ line_limit
    → parse text ≡ Ok c → answer t text p ≡ step t c p
unfolding answer
answer_of_parsed t text c p fits e =
    cond-false (nat_lt line_limit (length text)) _ _ (le-ltb line_limit (length text) fits)
    ∙ ap (λ asked. answer_by t asked p) e

-- leaves their tree
same_tree : (t : Tree) (p : Parameters) (texts : List (List ℕ)) (commands : List Command) → AskFor texts commands
    → tree_after t texts p ≡ tree_by (step_under p) t commands
unfolding tree_after tree_by state_by
same_tree t p [] [] ask = refl
same_tree t p [] (c ∷ commands) ask = absurd ask
same_tree t p (text ∷ texts) [] ask = absurd ask
same_tree t p (text ∷ texts) (c ∷ commands) ask =
    same_tree (answer t text p).tree p texts commands ask.2
    ∙ ap (λ (s : Step). tree_by (step_under p) s.tree commands) (answer_of_parsed t text c p ask.0 ask.1)

-- and is answered as they are
same_replies : (t : Tree) (p : Parameters) (texts : List (List ℕ)) (commands : List Command) → AskFor texts commands
    → replies t texts p ≡ replies_by (step_under p) t commands
unfolding replies replies_by answers_by
same_replies t p [] [] ask = refl
same_replies t p [] (c ∷ commands) ask = absurd ask
same_replies t p (text ∷ texts) [] ask = absurd ask
same_replies t p (text ∷ texts) (c ∷ commands) ask =
    ap (λ (rs : List Reply). (answer t text p).reply ∷ rs) (same_replies (answer t text p).tree p texts commands ask.2)
    ∙ ap (λ (s : Step). s.reply ∷ replies_by (step_under p) s.tree commands) (answer_of_parsed t text c p ask.0 ask.1)

same_length : (texts : List (List ℕ)) (commands : List Command) → AskFor texts commands → length texts ≡ length commands
same_length [] [] ask = refl
same_length [] (c ∷ commands) ask = absurd ask
same_length (text ∷ texts) [] ask = absurd ask
same_length (text ∷ texts) (c ∷ commands) ask = ap suc (same_length texts commands ask.2)

-- ---- the summary

length-first_commands : (number count : ℕ) → length (first_commands number count) ≡ count
unfolding first_commands
length-first_commands number zero = refl
length-first_commands number (suc count) =
    omega (
      arith,
      length-first_commands number count,
      length-append (first_commands number count)
          (generated number count ∷ []),
    )

space_reply : (t : Tree) (p : Parameters) → (step t Space p).reply ≡ PagesUsed (page_count t p) p.slots
unfolding step conditions first_refusal may_fill reply_of is_on_attributes
space_reply t p = refl

digest_reply : (t : Tree) (p : Parameters) → (step t Digest p).reply ≡ ImageDigest (sha256 (layout t p))
unfolding step conditions first_refusal may_fill reply_of is_on_attributes
digest_reply t p = refl

pub summary_is : (all : List Reply) (t : Tree) (p : Parameters) → summary_text all t p ≡ summary_of all t p (layout t p)
summary_is all t p = rw (space_reply t p, digest_reply t p) refl

-- ---- both

pub run_of_commands : (number count : ℕ) (t : Tree) (p : Parameters) (disk other_disk : Disk)
    (source script : SourceMemory) (sink other_sink : SinkMemory) (both : TwoRuns)
    → IsBig meaning sink_state number count (outside_of disk source sink) both.big
    → Represents (bytes_of disk) t p
    → AskFor (lines script.left) (first_commands number count)
    → AnswersScript t p other_disk script other_sink both.run
    → IsRunOfCommands t p script sink both
run_of_commands number count t p disk other_disk source script sink other_sink both is_big is ask answers =
    let commands = first_commands number count in
    let from = (is_big.observed refl).does t p is in
    let size = length-first_commands number count in
    let whole : take count commands ≡ commands = ap (λ (n : ℕ). take n commands) (sym size) ∙ take-length commands in
    let tree : generated_trees t number count p count ≡ tree_after t (lines script.left) p =
    ap (tree_by (step_under p) t) whole ∙ sym (same_tree t p (lines script.left) commands ask) in
    let image = λ (e : both.big.status ≡ statuses.Done).
    (from.carried.image.between (subst IsBetweenLines (sym e) refl)).layout_is
    ∙ ap (λ (n : ℕ). layout (generated_trees t number count p n) p)
    (is_big.keeps.all_done (subst IsSummed (sym e) refl))
    ∙ ap (λ (u : Tree). layout u p) tree in
    record {
      image = λ e d. image e ∙ sym (answers.image d).bytes;
      count = λ e d. is_big.keeps.all_done (subst IsSummed (sym e) refl) ∙ sym size
          ∙ sym (same_length (lines script.left) commands ask) ∙ sym (answers.count d);
      summary = λ e d.
          (from.summary (subst IsSummed (sym e) refl) refl).whole e
          ∙ ap (λ (text : List ℕ). sink.written ++ text)
          (ap (λ (all : List Reply). summary_text all (generated_trees t number count p count) p)
          (sym (same_replies t p (lines script.left) commands ask))
          ∙ ap (λ (u : Tree). summary_text (replies t (lines script.left) p) u p) tree
          ∙ summary_is (replies t (lines script.left) p) (tree_after t (lines script.left) p) p
          ∙ ap (summary_of (replies t (lines script.left) p) (tree_after t (lines script.left) p) p)
          (sym (answers.image d).bytes));
    }
