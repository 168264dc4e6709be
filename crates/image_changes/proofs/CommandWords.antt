-- A word that is one command.
use Rattle.std.proofs.Common.{◌≡◌, ◌⊎◌, inl, inr, ◌<◌, Bool, true, false, ◌&&◌, cond, Option, Some, None}
use Rattle.std.proofs.Common.{Ok, Err, nat_lt, refl, sym, ap, subst, ◌∙◌, ltb-true}
use Rattle.store_model.specs.declared.refusal.Refusal.{Refusal}
use Rattle.store_model.specs.declared.refusal.Refusal.TheVariants as refusals
use Rattle.store_model.specs.Parameters.{Parameters}
use Rattle.store_model.specs.Paths.{Path}
use Rattle.store_model.specs.Trees.{Tree}
use Rattle.store_model.specs.Pages.{page_count}
use Rattle.store_model.specs.Commands.{Command}
use Rattle.store_model.specs.Commands.Reply.{Acknowledged, Refused}
use Rattle.store_model.specs.Steps.{Step, conditions, refusal_of, next_tree, reply_of, may_fill, lacks_version, step}
use Rattle.store_model.specs.Steps.{step_by}
use Rattle.disk_model.specs.DiskState.{DiskState}
use Rattle.image_check.specs.declared.fault.ApplyFault.{ApplyFault}
use Rattle.script_lines.specs.declared.reply.Reply.{Reply}
use Rattle.script_lines.specs.declared.reply.Reply.TheVariants as replies
use Rattle.script_lines.specs.Replies as declared
use Rattle.store_core.specs.StoreState.{StoreState}
use Rattle.store_core.specs.StoreCalls.{Applies}
use Rattle.session_core.proofs.StoreLemmas.{steps_ok, steps_error}
use Rattle.tree_changes.specs.Conditional.{refusal_under}
use Rattle.image_changes.specs.declared.outcome.Outcome.{Outcome}
use Rattle.image_changes.specs.declared.outcome.Outcome.TheVariants as outcomes
use Rattle.image_changes.specs.Outcomes.{refused_at, outcome_of_reply}
use Rattle.image_changes.specs.Words.{IsOutcome, Changes}
use Rattle.image_changes.proofs.StreamAnswers.{IsOther, first_other, all_other, no-version}
use Rattle.image_changes.proofs.WordSteps.{other_outcome}

-- how a command's step ends
pub data Ends (p : Parameters) (t : Tree) (c : Command) (s : Step) : Type 0 where
  Stays : (why : Refusal) → refusal_under p t c ≡ Some why → IsOther why
      → s ≡ record { reply = Refused why; tree = t } → Ends p t c s
  Fills : refusal_under p t c ≡ None → p.slots < page_count (next_tree t c) p
      → s ≡ record { reply = Refused (refusals.Full (page_count (next_tree t c) p) p.slots); tree = t } → Ends p t c s
  Goes : refusal_under p t c ≡ None → s ≡ record { reply = reply_of t c p; tree = next_tree t c } → Ends p t c s

module _ (p : Parameters) (t : Tree) (c : Command) where
  ends_by : (o : Option Refusal) → refusal_of t c ≡ o → lacks_version c p ≡ false → Ends p t c (step_by t c p o)
  ends_by (Some why) is has = Stays why (ap (λ b. cond b (Some refusals.Version) (refusal_of t c)) has ∙ is)
      (first_other (conditions t c) (all_other t c) why is) refl
  ends_by None is has = by (may_fill c && nat_lt p.slots (page_count (next_tree t c) p)) refl
    where
      none : refusal_under p t c ≡ None
      none = ap (λ b. cond b (Some refusals.Version) (refusal_of t c)) has ∙ is

      more : (a b : Bool) → (a && b) ≡ true → b ≡ true
      more true b e = e
      more false b e = cc

      by : (b : Bool) → (may_fill c && nat_lt p.slots (page_count (next_tree t c) p)) ≡ b
          → Ends p t c (cond b (record {
            reply = Refused (refusals.Full (page_count (next_tree t c) p) p.slots);
            tree = t;
          }) (record { reply = reply_of t c p; tree = next_tree t c }))
      by true e = Fills none (ltb-true p.slots (page_count (next_tree t c) p) (more (may_fill c) _ e)) refl
      by false e = Goes none refl

  pub ends : Ends p t c (step t c p)
  unfolding step
  ends = by (lacks_version c p) refl
    where
      by : (b : Bool) → lacks_version c p ≡ b
          → Ends p t c (cond b (record { reply = Refused refusals.Version; tree = t }) (step_by t c p (refusal_of t c)))
      by true lacks = Stays refusals.Version (ap (λ b. cond b (Some refusals.Version) (refusal_of t c)) lacks)
          no-version refl
      by false has = ends_by (refusal_of t c) refl has

-- ---- a reply

reply_no : (path : Path) (reply : Reply) (why : Refusal) → declared.reply_of reply ≡ Refused why
    → outcome_of_reply path reply ≡ refused_at path why
reply_no path (replies.No reason) why e = let same : reason ≡ why = cc in ap (refused_at path) same
reply_no path replies.Ok why e = cc
reply_no path (replies.Bytes bytes) why e = cc
reply_no path (replies.Listing entries) why e = cc
reply_no path (replies.Attrs attributes) why e = cc
reply_no path (replies.Space used slots) why e = cc
reply_no path (replies.Digest digest) why e = cc

reply_ok : (path : Path) (reply : Reply) → declared.reply_of reply ≡ Acknowledged
    → outcome_of_reply path reply ≡ outcomes.Done
reply_ok path (replies.No reason) e = cc
reply_ok path replies.Ok e = refl
reply_ok path (replies.Bytes bytes) e = refl
reply_ok path (replies.Listing entries) e = refl
reply_ok path (replies.Attrs attributes) e = refl
reply_ok path (replies.Space used slots) e = refl
reply_ok path (replies.Digest digest) e = refl

-- ---- the word

module _ (p : Parameters) (t : Tree) (c : Command) (means : Tree → Tree → Type 0)
    (refuses : Tree → Path → Refusal → Type 0) (mean : refusal_under p t c ≡ None → means t (next_tree t c)) where
  step_reached : (s : Step) → Ends p t c s → means t s.tree ⊎ (s.tree ≡ t)
  step_reached s (Stays why refused other same) = inr (ap (λ (x : Step). x.tree) same)
  step_reached s (Fills none more same) = inr (ap (λ (x : Step). x.tree) same)
  step_reached s (Goes none same) = inl (subst (λ (u : Tree). means t u) (sym (ap (λ (x : Step). x.tree) same))
      (mean none))

  step_outcome : (path : Path) → ((why : Refusal) → refusal_under p t c ≡ Some why → refuses t path why)
      → reply_of t c p ≡ Acknowledged → (s : Step) → Ends p t c s → (reply : Reply) → declared.reply_of reply ≡ s.reply
      → IsOutcome means refuses p t s.tree (outcome_of_reply path reply)
  step_outcome path refuse acked s (Stays why refused other same) reply is =
      subst (λ (o : Outcome). IsOutcome means refuses p t s.tree o)
      (sym (reply_no path reply why (is ∙ ap (λ (x : Step). x.reply) same)))
      (other_outcome means refuses p t s.tree path why other (ap (λ (x : Step). x.tree) same, refuse why refused))
  step_outcome path refuse acked s (Fills none more same) reply is =
      subst (λ (o : Outcome). IsOutcome means refuses p t s.tree o)
      (sym (reply_no path reply (refusals.Full (page_count (next_tree t c) p) p.slots)
      (is ∙ ap (λ (x : Step). x.reply) same))) (
        ap (λ (x : Step). x.tree) same,
        record {
          tree = next_tree t c;
          meant = mean none;
          need_is = refl;
          slots_is = refl;
          more = more;
        },
      )
  step_outcome path refuse acked s (Goes none same) reply is =
      subst (λ (o : Outcome). IsOutcome means refuses p t s.tree o)
      (sym (reply_ok path reply (is ∙ ap (λ (x : Step). x.reply) same ∙ acked)))
      (subst (λ (u : Tree). means t u) (sym (ap (λ (x : Step). x.tree) same)) (mean none))

module _ {D : Type 0} (state : D → DiskState) (old new : StoreState D) (c : Command) (means : Tree → Tree → Type 0)
    (refuses : Tree → Path → Refusal → Type 0)
    (mean : refusal_under old.params old.tree c ≡ None → means old.tree (next_tree old.tree c)) where
  pub command_fails : (fault : ApplyFault) → Applies state c old new (Err fault)
      → Changes state means refuses old new (Err fault)
  command_fails fault applies = record {
    next = (step old.tree c old.params).tree;
    reached = λ o. step_reached old.params old.tree c means refuses mean (step old.tree c old.params)
        (ends old.params old.tree c);
    store = steps_error state _ _ _ old new fault applies;
  }

  pub command_answered : (path : Path) → ((why : Refusal) → refusal_under old.params old.tree c ≡ Some why
      → refuses old.tree path why) → reply_of old.tree c old.params ≡ Acknowledged → (reply : Reply)
      → Applies state c old new (Ok reply) → Changes state means refuses old new (Ok (outcome_of_reply path reply))
  command_answered path refuse acked reply applies = record {
    next = (step old.tree c old.params).tree;
    reached = λ o. step_reached old.params old.tree c means refuses mean (step old.tree c old.params)
        (ends old.params old.tree c);
    store = steps_ok state _ _ _ old new reply (outcome_of_reply path reply)
        (λ o is. step_outcome old.params old.tree c means refuses mean path refuse acked
        (step old.tree c old.params) (ends old.params old.tree c) reply is) applies;
  }
