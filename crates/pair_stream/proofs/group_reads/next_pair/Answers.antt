use Rattle.std.proofs.Common.{◌∙◌, arith}
use Rattle.pair_stream.proofs.GroupCalls.{pair_told}
use Rattle.pair_stream.proofs.group_reads.next_pair.Goals as goal

pub returns-clause-call : goal.returns-clause-call
returns-clause-call g c =
    pair_told c.from.result (c.from.ensures ∙ c.room.ensures) c.in_ok-turn_page.ensures.call (omega arith)
    c.pair_at.ensures
