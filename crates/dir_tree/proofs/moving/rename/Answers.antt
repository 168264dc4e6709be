use Rattle.std.proofs.Common.{refl}
use Rattle.store_model.specs.Commands.Command.{Rename}
use Rattle.store_model.specs.Commands.Reply.{Acknowledged}
use Rattle.store_model.specs.Steps.{reply_of}
use Rattle.dir_tree.proofs.RefusalLemmas.{carried, none_found}
use Rattle.dir_tree.proofs.moving.rename.Goals as goal

pub returns-clause-call : goal.returns-clause-call
unfolding reply_of
returns-clause-call g c =
    let move = c.in_ok-move_subtree.ensures.call in
    carried (λ x. Acknowledged) (Rename c.args.from.now c.args.to.now) tt
    c.in_ok-refusal.field-0 (g.P.OrderedPairs.state c.args.pairs.now)
    (g.P.OrderedPairs.state c.refusal_to_rename.new.pairs) (g.P.OrderedPairs.state c.move_subtree.new.pairs)
    c.in_ok-refusal.ensures.call (none_found c.in_ok-refusal.field-0 c.in_default.not-Some)
    move.faults move.observable (λ t p. refl)
    (λ seen t p holds none. move.moved seen c.in_ok-refusal.ensures.valid t p holds none)

pub returns-in_err-refusal-clause-follows : goal.returns-in_err-refusal-clause-follows
returns-in_err-refusal-clause-follows g c = c.refusal_to_rename.ensures.follows

pub returns-in-Some-clause-follows : goal.returns-in-Some-clause-follows
returns-in-Some-clause-follows g c = c.refusal_to_rename.ensures.follows

pub returns-in_err-move_subtree-clause-follows : goal.returns-in_err-move_subtree-clause-follows
returns-in_err-move_subtree-clause-follows g c =
    g.met.P.OrderedPairs.follows_trans _ _ _ c.refusal_to_rename.ensures.follows c.move_subtree.ensures.follows

pub returns-clause-follows : goal.returns-clause-follows
returns-clause-follows g c = g.met.P.OrderedPairs.follows_trans _ _ _
    c.refusal_to_rename.ensures.follows c.move_subtree.ensures.follows
