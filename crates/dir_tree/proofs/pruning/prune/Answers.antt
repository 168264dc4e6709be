use Rattle.std.proofs.Common.{refl}
use Rattle.store_model.specs.Commands.Command.{Prune}
use Rattle.store_model.specs.Commands.Reply.{Acknowledged}
use Rattle.store_model.specs.Steps.{reply_of}
use Rattle.tree_pairs.proofs.TreeBlocks.{tree_blocks}
use Rattle.dir_tree.proofs.RefusalLemmas.{carried, none_found}
use Rattle.dir_tree.proofs.TreeLemmas.{pruned, held_blocks}
use Rattle.dir_tree.proofs.pruning.prune.Goals as goal

pub returns-clause-call : goal.returns-clause-call
unfolding reply_of
returns-clause-call g c =
    let between = g.P.OrderedPairs.state c.refusal_to_prune.new.pairs in
    let new = g.P.OrderedPairs.state c.take_subtree.new.pairs in
    let take = c.in_ok-take_subtree.ensures.call in
    carried (λ x. Acknowledged) (Prune c.args.path.now) tt
    c.in_ok-refusal.field-0 (g.P.OrderedPairs.state c.args.pairs.now) between new
    c.in_ok-refusal.ensures.call (none_found c.in_ok-refusal.field-0 c.in_default.not-Some)
    take.faults take.observable (λ t p. refl)
    (λ seen t p holds none. pruned t p c.args.path.now new.pairs holds.tree take.valid none
    (take.taken seen (tree_blocks t p) (held_blocks between t p holds)))

pub returns-in_err-refusal-clause-follows : goal.returns-in_err-refusal-clause-follows
returns-in_err-refusal-clause-follows g c = c.refusal_to_prune.ensures.follows

pub returns-in-Some-clause-follows : goal.returns-in-Some-clause-follows
returns-in-Some-clause-follows g c = c.refusal_to_prune.ensures.follows

pub returns-in_err-take_subtree-clause-follows : goal.returns-in_err-take_subtree-clause-follows
returns-in_err-take_subtree-clause-follows g c =
    g.met.P.OrderedPairs.follows_trans _ _ _ c.refusal_to_prune.ensures.follows c.take_subtree.ensures.follows

pub returns-clause-follows : goal.returns-clause-follows
returns-clause-follows g c = g.met.P.OrderedPairs.follows_trans _ _ _
    c.refusal_to_prune.ensures.follows c.take_subtree.ensures.follows
