-- Commands that are answered from the pairs in staged pages.
use Rattle.std.proofs.Common.{◌≡◌, ◌≤◌, false, List, Result, Ok, Err, IfOk, OnOk, refl, sym, ap, subst, ◌∙◌}
use Rattle.store_base.specs.declared.store_fault.Fault.{Fault}
use Rattle.store_model.specs.Parameters.{Parameters}
use Rattle.store_model.specs.Trees.{Tree, IsTree}
use Rattle.store_model.specs.Pages.{page_count, Fits}
use Rattle.store_model.specs.Draws.{Draw, draw_of}
use Rattle.store_model.specs.Pairs.{Pair, pairs}
use Rattle.store_model.specs.Commands.{Command, IsCommand}
use Rattle.store_model.specs.Commands.Reply.{Acknowledged}
use Rattle.store_model.specs.Steps.{Step, lacks_version, step}
use Rattle.disk_model.specs.DiskState.{DiskState, IsObservable}
use Rattle.seeded_draw.specs.declared.any.AnyDraw.{AnyDraw}
use Rattle.seeded_draw.specs.AnyDrawn.{any_draw}
use Rattle.script_lines.specs.declared.reply.Reply.{Reply}
use Rattle.script_lines.specs.declared.reply.Reply.TheVariants as replies
use Rattle.script_lines.specs.Replies.{reply_of}
use Rattle.skip_levels.specs.Descent.{HoldsPairs}
use Rattle.ordered_pairs.specs.PairsState.{PairsState}
use Rattle.tree_pairs.specs.TreeCalls.{uncounted_step}
use Rattle.page_store.specs.StagedState.{StagedState, IsTold, Follows, without_changes}
use Rattle.image_check.specs.declared.fault.ApplyFault.{ApplyFault}
use Rattle.tree_commands.specs.Answers.{IsReplyOf}
use Rattle.tree_commands.specs.Counted.{counted_step}
use Rattle.tree_commands.proofs.StepLemmas.{acked_step, acked_fits, answered_step, uncounted_tree}
use Rattle.staged_tree.proofs.StagedAnswers.{IsReplyAt, AnswersAt}
use Rattle.image_check.specs.Faults.{apply_fault_of}
use Rattle.image_check.specs.Standing.{IsFitting}
use Rattle.staged_tree.specs.StagedTree.{AreAt, IsStagedFor}
use Rattle.staged_tree.specs.Steps.{IsReplyTo, EndsCommand}
use Rattle.staged_tree.proofs.StagedSteps.{read_step, taken_back, failed_step, behind_reads, told_as}
use Rattle.staged_tree.proofs.TreePages.{tree_holds}
use Rattle.staged_tree.proofs.Unchanged.{stands_reading}

-- an answer by the pairs is one at the pages that hold them
pub reply_at : {D Seen : Type 0} (to : Step) (p : Parameters) (d : Draw) (seen : PairsState)
    (after : StagedState D AnyDraw) (r : Result Reply Fault) → d ≡ draw_of p
    → (Seen → HoldsPairs d seen.pairs after.map) → OnOk r Seen → IfOk r (IsReplyOf to p seen)
    → IfOk r (IsReplyAt to p after)
reply_at to p d seen after (Ok reply) drawn holds observable is = record {
  reply_is = is.reply_is;
  holds = subst (λ (e : Draw). HoldsPairs e (pairs to.tree p) after.map) drawn
      (subst (λ (s : List Pair). HoldsPairs d s after.map) is.pairs_are (holds observable));
}
reply_at to p d seen after (Err fault) drawn holds observable is = tt

-- the list over the pages of a tree
pub list_at : {D : Type 0} (state : D → DiskState) (p : Parameters) (staged : StagedState D AnyDraw) (d : Draw)
    → d ≡ draw_of p → ((t : Tree) × (IsFitting t p × AreAt state t p staged)) → IsTold state staged
    → (s : List Pair) × HoldsPairs d s staged.map
list_at state p staged d drawn some told =
    let holds = tree_holds some.0 p staged.map some.1.0 (some.1.1.held told.disk told.runs).map_is in
    (pairs some.0 p, subst (λ (e : Draw). HoldsPairs e (pairs some.0 p) staged.map) (sym drawn) holds)

-- the pages of a tree are staged over their own table
pub staged_at : {D : Type 0} (state : D → DiskState) (t : Tree) (p : Parameters) (s : StagedState D AnyDraw)
    → IsFitting t p → AreAt state t p s → s.is_spent ≡ false → IsStagedFor state t t p s
staged_at state t p s fit at runs = record {
  fitting = fit;
  tree = fit.tree;
  params = at.params;
  draw = at.draw;
  size_is = at.size_is;
  stands = λ observable. (at.held observable runs).stands;
  table_is = λ observable. (at.held observable runs).table_is;
  fits = λ observable room. fit.fits;
  holds = λ observable. tree_holds t p s.map fit (at.held observable runs).map_is;
}

-- behind calls that stage changes the pages are those of a next tree that they hold
pub staged_then : {D : Type 0} (state : D → DiskState) (t now next : Tree) (p : Parameters)
    (old mid : StagedState D AnyDraw) → IsStagedFor state t now p old → Follows state old mid → IsTree next
    → (IsObservable (state old.disk) → page_count next p ≤ p.slots → Fits next p)
    → (IsObservable (state old.disk) → HoldsPairs (draw_of p) (pairs next p) mid.map) → IsStagedFor state t next p mid
staged_then state t now next p old mid staged follows tree fits holds =
    let before = λ (observable : IsObservable (state mid.disk)). sym follows.disk.observable ∙ observable in
    record {
      fitting = staged.fitting;
      tree = tree;
      params = follows.disk.params ∙ staged.params;
      draw = ap any_draw follows.draw ∙ staged.draw;
      size_is = follows.disk.size ∙ staged.size_is;
      stands = λ observable. stands_reading (state old.disk) (state mid.disk) t p
          (follows.disk.reads (before observable)) (staged.stands (before observable));
      table_is = λ observable. follows.table (before observable) ∙ staged.table_is (before observable);
      fits = λ observable. fits (before observable);
      holds = λ observable. holds (before observable);
    }

module _ {D : Type 0} (state : D → DiskState) (t : Tree) (c : Command) (p : Parameters)
    (old mid : StagedState D AnyDraw) (fit : IsFitting t p) (at : AreAt state t p old) (runs : old.is_spent ≡ false)
    (command : IsCommand c) (has : lacks_version c p ≡ false) where
  -- it is acknowledged, and the pages of the next tree are staged
  pub acked_staged : AnswersAt state c t p old mid (Ok replies.Ok)
      → IsStagedFor state t (uncounted_step t c p).tree p mid
  acked_staged answers =
      staged_then state t t (uncounted_step t c p).tree p old mid
      (staged_at state t p old fit at runs) answers.follows (uncounted_tree t c p fit.tree command)
      (λ observable. acked_fits t c p fit.tree fit.fits has (sym (answers.answered observable).reply_is))
      (λ observable. (answers.answered observable).holds)

  -- and they are settled
  pub acked : (new : StagedState D AnyDraw) (result : Result Reply ApplyFault)
      → AnswersAt state c t p old mid (Ok replies.Ok)
      → ((u next : Tree) (q : Parameters) → IsStagedFor state u next q mid
      → EndsCommand state u (counted_step u next q) q mid new result)
      → EndsCommand state t (step t c p) p old new result
  acked new result answers settles =
      let next = (uncounted_step t c p).tree in
      let to = counted_step t next p in
      let same = λ (observable : IsObservable (state old.disk)).
      sym (acked_step t c p fit.tree fit.fits has (sym (answers.answered observable).reply_is)) in
      told_as state t to.tree (step t c p).tree (IsReplyTo to) (IsReplyTo (step t c p)) p old new result
      (λ observable. ap (λ (s : Step). s.tree) (same observable))
      (λ observable reply is. is ∙ ap (λ (s : Step). s.reply) (same observable))
      (behind_reads state t to.tree (IsReplyTo to) p old mid new result fit at runs
      answers.follows answers.faults (settles t next p (acked_staged answers)))

  -- it is answered otherwise
  answered : (reply : Reply) → (reply_of reply ≡ (uncounted_step t c p).reply → reply_of reply ≡ Acknowledged → ⊥)
      → AnswersAt state c t p old mid (Ok reply)
      → EndsCommand state t (step t c p) p old (without_changes mid) (Ok reply)
  answered reply other answers =
      let is = λ (observable : IsObservable (state old.disk)).
      answered_step t c p (reply_of reply) has
      (answers.answered observable).reply_is (other (answers.answered observable).reply_is) in
      record {
        step = read_step state t (step t c p).tree (IsReplyTo (step t c p)) p old (without_changes mid)
            (Ok reply) fit at runs (taken_back state old mid answers.follows) answers.faults (λ e. cc)
            (λ observable. ap (λ (s : Step). s.tree) (is observable))
            (λ observable. sym (ap (λ (s : Step). s.reply) (is observable)));
        none_staged = λ observable still. refl;
      }

  -- it fails
  failed : (fault : Fault) → AnswersAt state c t p old mid (Err fault)
      → EndsCommand state t (step t c p) p old (without_changes mid) (Err (apply_fault_of fault))
  failed fault answers = failed_step state t (step t c p).tree (IsReplyTo (step t c p)) p old mid fit at runs
      answers.follows fault answers.faults

  -- what the answer is, and what stands once it is taken back
  pub answered_at : (reply : Reply) (new : StagedState D AnyDraw) (result : Result Reply Fault) → result ≡ Ok reply
      → new ≡ without_changes mid → (reply_of reply ≡ (uncounted_step t c p).reply → reply_of reply ≡ Acknowledged → ⊥)
      → AnswersAt state c t p old mid result
      → EndsCommand state t (step t c p) p old new (Ok reply)
  answered_at reply new result is back other answers =
      subst (λ (s : StagedState D AnyDraw). EndsCommand state t (step t c p) p old s (Ok reply)) (sym back)
      (answered reply other (subst (λ (r : Result Reply Fault). AnswersAt state c t p old mid r) is answers))

  pub failed_at : (fault : Fault) (end : ApplyFault) (new : StagedState D AnyDraw) (result : Result Reply Fault)
      → result ≡ Err fault → new ≡ without_changes mid → end ≡ apply_fault_of fault
      → AnswersAt state c t p old mid result
      → EndsCommand state t (step t c p) p old new (Err end)
  failed_at fault end new result is back so answers =
      subst (λ (f : ApplyFault). EndsCommand state t (step t c p) p old new (Err f)) (sym so)
      (subst (λ (s : StagedState D AnyDraw). EndsCommand state t (step t c p) p old s (Err (apply_fault_of fault)))
      (sym back)
      (failed fault (subst (λ (r : Result Reply Fault). AnswersAt state c t p old mid r) is answers)))
