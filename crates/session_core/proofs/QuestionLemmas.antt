-- A question leaves each tree as it is.
use Rattle.std.proofs.Common.{◌≡◌, Bool, true, false, Option, Some, None, ◌&&◌, nat_lt, if◌then◌else◌, refl}
use Rattle.store_model.specs.declared.refusal.Refusal.{Refusal}
use Rattle.store_model.specs.declared.refusal.Refusal.TheVariants as refusals
use Rattle.store_model.specs.Parameters.{Parameters}
use Rattle.store_model.specs.Trees.{Tree}
use Rattle.store_model.specs.Pages.{page_count}
use Rattle.store_model.specs.Commands.{Command}
use Rattle.store_model.specs.Commands.Reply.{Refused}
use Rattle.store_model.specs.Steps.{Step, step, step_by, lacks_version, refusal_of, next_tree, reply_of, may_fill}
use Rattle.script_lines.specs.declared.session.Question.{Question}
use Rattle.script_lines.specs.declared.session.Question.TheVariants as questions
use Rattle.script_lines.specs.Sessions.{question_of}

module _ (t : Tree) (c : Command) (p : Parameters) (same : next_tree t c ≡ t) where
  filled : (b : Bool) → (let reached : Step =
      if b then (record { reply = Refused (refusals.Full (page_count (next_tree t c) p) p.slots); tree = t }) else
      (record { reply = reply_of t c p; tree = next_tree t c }) in reached.tree) ≡ t
  filled true = refl
  filled false = same

  refused : (o : Option Refusal) → (step_by t c p o).tree ≡ t
  refused (Some refusal) = refl
  refused None = filled (may_fill c && nat_lt p.slots (page_count (next_tree t c) p))

  versioned : (b : Bool) → (let reached : Step =
      if b then (record { reply = Refused refusals.Version; tree = t }) else step_by t c p (refusal_of t c)
      in reached.tree) ≡ t
  versioned true = refl
  versioned false = refused (refusal_of t c)

  step_keeps : (step t c p).tree ≡ t
  unfolding step
  step_keeps = versioned (lacks_version c p)

pub question_keeps : (t : Tree) (question : Question) (p : Parameters) → (step t (question_of question) p).tree ≡ t
unfolding next_tree
question_keeps t (questions.List path) p = step_keeps t (question_of (questions.List path)) p refl
question_keeps t (questions.Read path at len) p = step_keeps t (question_of (questions.Read path at len)) p refl
question_keeps t questions.Space p = step_keeps t (question_of questions.Space) p refl
question_keeps t questions.Digest p = step_keeps t (question_of questions.Digest) p refl
question_keeps t (questions.Get path name) p = step_keeps t (question_of (questions.Get path name)) p refl
question_keeps t (questions.Attrs path) p = step_keeps t (question_of (questions.Attrs path)) p refl
