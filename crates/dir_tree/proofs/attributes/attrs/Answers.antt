use Rattle.std.proofs.Common.{sym, ap, ◌∙◌}
use Rattle.store_model.specs.Commands.Command.{ListAttributes}
use Rattle.store_model.specs.Commands.Reply.{AttributeListing}
use Rattle.store_model.specs.Steps.{reply_of, next_tree}
use Rattle.tree_pairs.proofs.CallLemmas.{step_done}
use Rattle.dir_tree.proofs.RefusalLemmas.{kept_on, still_holds}
use Rattle.dir_tree.proofs.attributes.attrs.Goals as goal

pub returns-in_ok-attributes-in-None-clause-call : goal.returns-in_ok-attributes-in-None-clause-call
unfolding reply_of next_tree
returns-in_ok-attributes-in-None-clause-call g c =
    let old = g.P.OrderedPairs.state c.args.pairs.now in
    let between = g.P.OrderedPairs.state c.refusal_to_find.new.pairs in
    let new = g.P.OrderedPairs.state c.attributes.new.pairs in
    let tells = c.in_ok-refusal.ensures.call in
    let lists = c.in_ok-attributes-in-None.ensures.call in
    let keeps = kept_on old between new tells.keeps lists.keeps in
    record {
      faults = lists.faults ∙ tells.faults;
      observable = keeps.observable;
      carried = λ seen t p holds. step_done (λ x. AttributeListing x) c.in_ok-attributes-in-None.field-0 t
          (ListAttributes c.args.path.now) p new (sym (tells.told seen t p holds) ∙ c.in-None.is)
          (ap AttributeListing (lists.listed (tells.keeps.observable seen) t p
          (still_holds old between t p tells.keeps seen holds))) (keeps.unchanged seen ∙ holds.pairs_are);
    }
