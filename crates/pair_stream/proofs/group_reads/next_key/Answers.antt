use Rattle.std.proofs.Common.{◌∙◌, arith}
use Rattle.skip_groups.proofs.Looks.{looked_none, looked_some}
use Rattle.pair_stream.proofs.GroupCalls.{no_key_page, key_of_page, past_page}
use Rattle.pair_stream.proofs.group_reads.next_key.Goals as goal

pub returns-in_default-clause-call : goal.returns-in_default-clause-call
returns-in_default-clause-call g c =
    no_key_page c.from-room.result (c.from-room.ensures ∙ c.room.ensures) (omega arith)
    (looked_none c.label_in_group.ensures c.look.follows.holds-at-none.0 c.in_ok-found.was c.in_default.is)

pub returns-then-at-len-clause-call : goal.returns-then-at-len-clause-call
returns-then-at-len-clause-call g c =
    key_of_page c.from-room.result (c.from-room.ensures ∙ c.room.ensures) (omega arith)
    (looked_some c.label_in_group.ensures c.look.follows.holds-at-none.0 c.in_ok-found.was c.in-Some.is)
    (omega (arith, c.if-at-len.true, c.len.ensures.value)) c.key.ensures.value

pub returns-else-at-len-clause-call : goal.returns-else-at-len-clause-call
returns-else-at-len-clause-call g c =
    past_page c.from-room.result (c.from-room.ensures ∙ c.room.ensures) (omega arith)
    (looked_some c.label_in_group.ensures c.look.follows.holds-at-none.0 c.in_ok-found.was c.in-Some.is)
    (omega (arith, c.if-at-len.false, c.len.ensures.value))
