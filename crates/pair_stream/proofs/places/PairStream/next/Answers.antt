use Rattle.std.proofs.Common.{refl, arith}
use Rattle.pair_stream.proofs.LeaderCalls.{place_read}
use Rattle.pair_stream.proofs.StreamCalls.{gives_in_group, gives_none, leader_missing, gives_leader}
use Rattle.pair_stream.proofs.places.PairStream.next.Goals as goal

pub returns-in-Some-clause-call : goal.returns-in-Some-clause-call
returns-in-Some-clause-call g c =
    gives_in_group
    (place_read c.args.self.now.places 0 0 c.index-self-0.result (omega arith) refl (omega arith))
    (rw c.in-Some.is at c.in_ok-pair.ensures.call) c.pass.ensures (record { height = refl; places = refl; page = refl })

pub returns-in_default-2-clause-call : goal.returns-in_default-2-clause-call
returns-in_default-2-clause-call g c =
    gives_none
    (place_read c.args.self.now.places 0 0 c.index-self-0.result (omega arith) refl (omega arith))
    (rw c.in_default.is at c.in_ok-pair.ensures.call) (rw c.in_default-2.is at c.in_ok-next.ensures.call)
    (record { height = refl; places = refl; page = refl }) (record { height = refl; places = refl; page = refl })

pub returns-in_default-3-clause-call : goal.returns-in_default-3-clause-call
returns-in_default-3-clause-call g c =
    leader_missing
    (place_read c.args.self.now.places 0 0 c.index-self-0.result (omega arith) refl (omega arith))
    (rw c.in_default.is at c.in_ok-pair.ensures.call) (rw c.in-Some-2.is at c.in_ok-next.ensures.call)
    (record { height = refl; places = refl; page = refl }) (rw c.in_default-3.is at c.in_ok-pair-2.ensures.call)

pub returns-clause-call : goal.returns-clause-call
returns-clause-call g c =
    gives_leader
    (place_read c.args.self.now.places 0 0 c.index-self-0.result (omega arith) refl (omega arith))
    (rw c.in_default.is at c.in_ok-pair.ensures.call) (rw c.in-Some-2.is at c.in_ok-next.ensures.call)
    (record { height = refl; places = refl; page = refl })
    (rw c.in-Some-3.is at c.in_ok-pair-2.ensures.call) c.pass-2.ensures
    (record { height = refl; places = refl; page = refl })
