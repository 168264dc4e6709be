use Rattle.std.proofs.Common.{sym, ltb-true}
use Rattle.staged_tree.proofs.ListedLemmas.{gives_next}
use Rattle.staged_tree.proofs.listed_changes.ListedChangesChangeStream.next.Goals as goal

pub returns-clause-next : goal.returns-clause-next
returns-clause-next c =
    let found = c.in-Some.ensures.lookup in
    gives_next c.self.inside.changes.now c.self.inside.given c.in-Some.field-0.now
    (ltb-true _ _ (sym found.0)) found.1 _ c.args.self.now c.self.view_is c.copy.result c.copy.ensures
