use Rattle.std.proofs.Common.{refl, sym, ◌∙◌}
use Rattle.store_model.specs.Trees.{node_at}
use Rattle.dir_tree.proofs.RefusalLemmas.{nothing_stands, something_stands, prune_of_root, prune_of_none, prune_of_one}
use Rattle.dir_tree.proofs.RefusalLemmas.{kept_itself, told_by_kind}
use Rattle.dir_tree.proofs.pruning.refusal_to_prune.Goals as goal

pub returns-then-is_root : goal.returns-then-is_root
returns-then-is_root g c = record {
  call = record {
    faults = refl;
    keeps = kept_itself (g.P.OrderedPairs.state c.args.pairs.now);
    told = λ seen t p holds. prune_of_root t c.args.path.now (sym c.is_root.ensures.value ∙ c.if-is_root.true);
  };
  follows = g.met.P.OrderedPairs.follows_refl _;
}

pub returns-in-None : goal.returns-in-None
returns-in-None g c = record {
  call =
      told_by_kind _ c.args.path.now c.in_ok-kind_of.field-0 _ _ _ c.in_ok-kind_of.ensures.call
      (λ t told. prune_of_none t c.args.path.now (sym c.is_root.ensures.value ∙ c.if-is_root.false)
      (nothing_stands (node_at t c.args.path.now) c.in_ok-kind_of.field-0 told c.in-None.is));
  follows = c.kind_of.ensures.follows;
}

pub returns-in-Some : goal.returns-in-Some
returns-in-Some g c = record {
  call = told_by_kind _ c.args.path.now c.in_ok-kind_of.field-0 _ _ _ c.in_ok-kind_of.ensures.call (λ t told.
      let stands = something_stands (node_at t c.args.path.now) c.in_ok-kind_of.field-0 told
      (λ none. let is = c.in-Some.is in cc) in
      prune_of_one t c.args.path.now (sym c.is_root.ensures.value ∙ c.if-is_root.false) stands.0 stands.1);
  follows = c.in_ok-kind_of.ensures.follows;
}

pub returns-in_err-kind_of-clause-follows : goal.returns-in_err-kind_of-clause-follows
returns-in_err-kind_of-clause-follows g c = c.kind_of.ensures.follows
