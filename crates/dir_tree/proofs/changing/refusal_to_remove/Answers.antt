use Rattle.std.proofs.Common.{Some, refl, sym, ap, ◌∙◌}
use Rattle.store_model.specs.Trees.{node_at}
use Rattle.dir_tree.proofs.RefusalLemmas.{dir_stands, no_dir_stands, nothing_stands, something_stands, remove_of_root}
use Rattle.dir_tree.proofs.RefusalLemmas.{remove_of_none, remove_of_file, remove_of_directory, kept_itself, kept_on}
use Rattle.dir_tree.proofs.RefusalLemmas.{still_holds, told_by_kind}
use Rattle.dir_tree.proofs.changing.refusal_to_remove.Goals as goal

pub returns-then-is_root : goal.returns-then-is_root
returns-then-is_root g c = record {
  call = record {
    faults = refl;
    keeps = kept_itself (g.P.OrderedPairs.state c.args.pairs.now);
    told = λ seen t p holds. remove_of_root t c.args.path.now (sym c.is_root.ensures.value ∙ c.if-is_root.true);
  };
  follows = g.met.P.OrderedPairs.follows_refl _;
}

pub returns-in_default : goal.returns-in_default
returns-in_default g c = record {
  call =
      told_by_kind _ c.args.path.now c.in_ok-kind.field-0 _ _ _ c.in_ok-kind.ensures.call
      (λ t told. remove_of_none t c.args.path.now (sym c.is_root.ensures.value ∙ c.if-is_root.false)
      (nothing_stands (node_at t c.args.path.now) c.in_ok-kind.field-0 told c.in_default.is));
  follows = c.kind_of.ensures.follows;
}

pub returns-in-File : goal.returns-in-File
returns-in-File g c = record {
  call =
      let is = c.in-Some.is ∙ ap Some c.in-File.is in
      told_by_kind _ c.args.path.now c.in_ok-kind.field-0 _ _ _ c.in_ok-kind.ensures.call (λ t told.
      let stands = something_stands (node_at t c.args.path.now) c.in_ok-kind.field-0 told (λ none. cc) in
      remove_of_file t c.args.path.now (sym c.is_root.ensures.value ∙ c.if-is_root.false)
      stands.0 stands.1 (no_dir_stands (node_at t c.args.path.now) c.in_ok-kind.field-0 told (λ dir. cc)));
  follows = c.kind_of.ensures.follows;
}

pub returns-in_ok-has_child-in-Directory-clause-call : goal.returns-in_ok-has_child-in-Directory-clause-call
returns-in_ok-has_child-in-Directory-clause-call g c =
    let old = g.P.OrderedPairs.state c.args.pairs.now in
    let between = g.P.OrderedPairs.state c.kind_of.new.pairs in
    let at = c.in_ok-kind.ensures.call in
    let child = c.in_ok-has_child-in-Directory.ensures.call in
    record {
      faults = child.faults ∙ at.faults;
      keeps = kept_on old between (g.P.OrderedPairs.state c.has_child.new.pairs) at.keeps child.keeps;
      told = λ seen t p holds.
          let dir = dir_stands (node_at t c.args.path.now) c.in_ok-kind.field-0 (at.told seen t p holds)
          (c.in-Some.is ∙ ap Some c.in-Directory.is) in
          c.then_some.ensures ∙ remove_of_directory t c.args.path.now (sym c.is_root.ensures.value ∙ c.if-is_root.false)
          dir c.in_ok-has_child-in-Directory.field-0
          (child.told (at.keeps.observable seen) t p (still_holds old between t p at.keeps seen holds) dir);
    }

pub returns-in_err-kind-clause-follows : goal.returns-in_err-kind-clause-follows
returns-in_err-kind-clause-follows g c = c.kind_of.ensures.follows

pub returns-in_err-has_child-in-Directory-clause-follows : goal.returns-in_err-has_child-in-Directory-clause-follows
returns-in_err-has_child-in-Directory-clause-follows g c =
    g.met.P.OrderedPairs.follows_trans _ _ _ c.kind_of.ensures.follows c.has_child.ensures.follows

pub returns-in_ok-has_child-in-Directory-clause-follows : goal.returns-in_ok-has_child-in-Directory-clause-follows
returns-in_ok-has_child-in-Directory-clause-follows g c =
    g.met.P.OrderedPairs.follows_trans _ _ _ c.kind_of.ensures.follows c.has_child.ensures.follows
