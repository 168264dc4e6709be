-- Each clause is a lemma.
use Rattle.layout_conditions.proofs.LawLemmas.{layout_meets, conditions_tell, table_is_of_tree, one_layout}
use Rattle.layout_conditions.proofs.law.local_conditions_are_the_layout.Goals as goal

pub returns-clause-layout : goal.returns-clause-layout
returns-clause-layout c = layout_meets

pub returns-clause-conditions : goal.returns-clause-conditions
returns-clause-conditions c = conditions_tell

pub returns-clause-table : goal.returns-clause-table
returns-clause-table c = table_is_of_tree

pub returns-clause-one_tree : goal.returns-clause-one_tree
returns-clause-one_tree c = one_layout
