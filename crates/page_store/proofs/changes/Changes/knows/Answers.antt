use Rattle.std.proofs.Common.{sym, ◌∙◌}
use Rattle.page_store.proofs.KnownLemmas.{known_by_memo, known_as_staged}
use Rattle.page_store.proofs.changes.Changes.knows.Goals as goal

pub returns-then-is_some : goal.returns-then-is_some
returns-then-is_some c = (
  λ yes. known_by_memo c.args.self.now.pages.entries c.args.memo.now c.args.label.now c.recall.result
      c.recall.ensures.found (sym c.is_some.ensures ∙ c.if-is_some.true),
  λ known. c.if-is_some.true,
)

pub returns-else-is_some : goal.returns-else-is_some
returns-else-is_some c =
    known_as_staged c.args.self.now.pages.entries c.args.memo.now c.args.label.now c.recall.result c.recall.ensures.all
    (sym c.is_some.ensures ∙ c.if-is_some.false) c.contains_key.result c.contains_key.ensures
