use Rattle.skip_groups.proofs.CellLists.{no_last, not_both}
use Rattle.skip_groups.proofs.KeyRanges.{last_key_at}
use Rattle.skip_groups.proofs.cells.last_key.Goals as goal

pub returns-then-is_empty : goal.returns-then-is_empty
returns-then-is_empty c = no_last c.args.cells.now.cells (c.is_empty.ensures.0 c.if-is_empty.true)

pub returns : goal.returns
returns c = last_key_at c.args.cells.now.cells c.key.result
    (λ e. not_both c.is_empty.result (c.is_empty.ensures.1 e) c.if-is_empty.false)
    (rw c.len.ensures.value at c.key.ensures.value)
