use Rattle.std.proofs.Common.{Some, ap, ◌∙◌}
use Rattle.store_model.specs.declared.refusal.Refusal.TheVariants as refusals
use Rattle.store_model.specs.Trees.{node_at}
use Rattle.store_model.specs.Commands.Command.{ListChildren}
use Rattle.store_model.specs.Commands.Reply.{Listing}
use Rattle.store_model.specs.Steps.{reply_of, next_tree}
use Rattle.tree_pairs.proofs.CallLemmas.{step_done, step_refused}
use Rattle.dir_tree.proofs.RefusalLemmas.{dir_stands, no_dir_stands, nothing_stands, something_stands, list_of_none}
use Rattle.dir_tree.proofs.RefusalLemmas.{list_of_file, list_of_directory, kept_on, still_holds}
use Rattle.dir_tree.proofs.listing.list.Goals as goal

pub returns-in_default-clause-call : goal.returns-in_default-clause-call
returns-in_default-clause-call g c =
    let at = c.in_ok-kind.ensures.call in
    record {
      faults = at.faults;
      observable = at.keeps.observable;
      carried = λ seen t p holds. step_refused (λ x. Listing x) refusals.Missing t (ListChildren c.args.path.now) p
          (g.P.OrderedPairs.state c.kind_of.new.pairs)
          (list_of_none t c.args.path.now (nothing_stands (node_at t c.args.path.now)
          c.in_ok-kind.field-0 (at.told seen t p holds) c.in_default.is))
          (at.keeps.unchanged seen ∙ holds.pairs_are);
    }

pub returns-in-File-clause-call : goal.returns-in-File-clause-call
returns-in-File-clause-call g c =
    let at = c.in_ok-kind.ensures.call in
    let is = c.in-Some.is ∙ ap Some c.in-File.is in
    record {
      faults = at.faults;
      observable = at.keeps.observable;
      carried = λ seen t p holds.
          let stands = something_stands (node_at t c.args.path.now)
          c.in_ok-kind.field-0 (at.told seen t p holds) (λ none. cc) in
          step_refused (λ x. Listing x) refusals.Kind t (ListChildren c.args.path.now) p
          (g.P.OrderedPairs.state c.kind_of.new.pairs)
          (list_of_file t c.args.path.now stands.0 stands.1
          (no_dir_stands (node_at t c.args.path.now) c.in_ok-kind.field-0 (at.told seen t p holds) (λ dir. cc)))
          (at.keeps.unchanged seen ∙ holds.pairs_are);
    }

pub returns-in_ok-children-in-Directory-clause-call : goal.returns-in_ok-children-in-Directory-clause-call
unfolding reply_of next_tree
returns-in_ok-children-in-Directory-clause-call g c =
    let old = g.P.OrderedPairs.state c.args.pairs.now in
    let between = g.P.OrderedPairs.state c.kind_of.new.pairs in
    let new = g.P.OrderedPairs.state c.children.new.pairs in
    let at = c.in_ok-kind.ensures.call in
    let rest = c.in_ok-children-in-Directory.ensures.call in
    let keeps = kept_on old between new at.keeps rest.keeps in
    record {
      faults = rest.faults ∙ at.faults;
      observable = keeps.observable;
      carried = λ seen t p holds.
          let directory = dir_stands (node_at t c.args.path.now) c.in_ok-kind.field-0 (at.told seen t p holds)
          (c.in-Some.is ∙ ap Some c.in-Directory.is) in
          step_done (λ x. Listing x) c.in_ok-children-in-Directory.field-0 t (ListChildren c.args.path.now) p new
          (list_of_directory t c.args.path.now directory)
          (ap Listing (rest.listed (at.keeps.observable seen) t p
          (still_holds old between t p at.keeps seen holds) directory)) (keeps.unchanged seen ∙ holds.pairs_are);
    }

pub returns-in_err-kind-clause-follows : goal.returns-in_err-kind-clause-follows
returns-in_err-kind-clause-follows g c = c.kind_of.ensures.follows

pub returns-in_default-clause-follows : goal.returns-in_default-clause-follows
returns-in_default-clause-follows g c = c.kind_of.ensures.follows

pub returns-in-File-clause-follows : goal.returns-in-File-clause-follows
returns-in-File-clause-follows g c = c.kind_of.ensures.follows

pub returns-in_err-children-in-Directory-clause-follows : goal.returns-in_err-children-in-Directory-clause-follows
returns-in_err-children-in-Directory-clause-follows g c =
    g.met.P.OrderedPairs.follows_trans _ _ _ c.kind_of.ensures.follows c.children.ensures.follows

pub returns-in_ok-children-in-Directory-clause-follows : goal.returns-in_ok-children-in-Directory-clause-follows
returns-in_ok-children-in-Directory-clause-follows g c =
    g.met.P.OrderedPairs.follows_trans _ _ _ c.kind_of.ensures.follows c.children.ensures.follows
