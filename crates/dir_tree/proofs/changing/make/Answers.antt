use Rattle.std.proofs.Common.{refl, ap₂, ◌∙◌}
use Rattle.std.specs.FinMap.{put}
use Rattle.store_model.specs.Paths.{key_cmp}
use Rattle.store_model.specs.Commands.Command.{Make}
use Rattle.store_model.specs.Commands.Reply.{Acknowledged}
use Rattle.store_model.specs.Steps.{reply_of}
use Rattle.dir_tree.proofs.RefusalLemmas.{carried, none_found}
use Rattle.dir_tree.proofs.TreeLemmas.{made}
use Rattle.dir_tree.proofs.changing.make.Goals as goal

pub returns-clause-call : goal.returns-clause-call
unfolding reply_of
returns-clause-call g c =
    let between = g.P.OrderedPairs.state c.refusal_to_make.new.pairs in
    let put_call = c.in_ok-put.ensures.call in
    carried (λ x. Acknowledged) (Make c.args.path.now) tt
    c.in_ok-refusal.field-0 (g.P.OrderedPairs.state c.args.pairs.now) between
    (g.P.OrderedPairs.state c.put.new.self)
    c.in_ok-refusal.ensures.call (none_found c.in_ok-refusal.field-0 c.in_default.not-Some)
    put_call.faults (λ seen. (put_call.observed seen).observable) (λ t p. refl)
    (λ seen t p holds none. (put_call.observed seen).changed
    ∙ ap₂ (λ k v. put key_cmp k v between.pairs) c.key.ensures.value c.directory_value.ensures
    ∙ made t p c.args.path.now between.pairs holds.tree c.key.ensures.path none holds.pairs_are)

pub returns-in_err-refusal-clause-follows : goal.returns-in_err-refusal-clause-follows
returns-in_err-refusal-clause-follows g c = c.refusal_to_make.ensures.follows

pub returns-in-Some-clause-follows : goal.returns-in-Some-clause-follows
returns-in-Some-clause-follows g c = c.refusal_to_make.ensures.follows

pub returns-in_err-put-clause-follows : goal.returns-in_err-put-clause-follows
returns-in_err-put-clause-follows g c =
    g.met.P.OrderedPairs.follows_trans _ _ _ c.refusal_to_make.ensures.follows c.put.ensures.follows

pub returns-clause-follows : goal.returns-clause-follows
returns-clause-follows g c = g.met.P.OrderedPairs.follows_trans _ _ _
    c.refusal_to_make.ensures.follows c.put.ensures.follows
