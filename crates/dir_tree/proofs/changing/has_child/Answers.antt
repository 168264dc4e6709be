use Rattle.std.proofs.Common.{◌∙◌}
use Rattle.dir_tree.proofs.TreeLemmas.{child_answer, held_blocks}
use Rattle.dir_tree.proofs.changing.has_child.Goals as goal

pub returns-clause-call : goal.returns-clause-call
returns-clause-call g c =
    let search = c.in_ok-next_within.ensures.call in
    let old = g.P.OrderedPairs.state c.args.pairs.now in
    let from = c.below.ensures in
    record {
      faults = search.faults;
      keeps = search.keeps;
      told = λ seen t p holds directory. c.is_some.ensures
          ∙ child_answer t p c.args.path.now c.below.result old.pairs c.in_ok-next_within.field-0 holds.tree
          (held_blocks old t p holds) from.path directory
          (record {
            own = record { blocks = from.blocks; attributes = from.attributes };
            below = from.below;
          })
          (search.found seen);
    }

pub returns-in_err-next_within-clause-follows : goal.returns-in_err-next_within-clause-follows
returns-in_err-next_within-clause-follows g c = c.next_within.ensures.follows

pub returns-clause-follows : goal.returns-clause-follows
returns-clause-follows g c = c.next_within.ensures.follows
