use Rattle.std.proofs.Common.{Option, Ok, subst}
use Rattle.store_model.specs.Pairs.{Pair}
use Rattle.store_stream.specs.Pulling.{Pulled}
use Rattle.store_stream.proofs.StreamLemmas.{none_pulled, whole_so, not_whole, more_came, refused_ends}
use Rattle.store_stream.proofs.stream.StoreStream.turn.Goals as goal

pub returns-then-is_whole-clause-turned : goal.returns-then-is_whole-clause-turned
returns-then-is_whole-clause-turned g c t count came =
    whole_so g.D.Disk.state c.pull.new.self t
    (none_pulled g.D.Disk.state c.pull.new.self t count c.in_ok-pair.field-0 c.in_default.not-Some
    (c.in_ok-pair.ensures.pulled t count came)) c.is_whole.ensures.tree

pub returns-in_default-clause-turned : goal.returns-in_default-clause-turned
returns-in_default-clause-turned g c t count came =
    not_whole g.D.Disk.state c.pull.new.self t
    (none_pulled g.D.Disk.state c.pull.new.self t count c.in_ok-pair.field-0 c.in_default.not-Some
    (c.in_ok-pair.ensures.pulled t count came)) (rw c.if-is_whole.false at c.is_whole.ensures.told)

pub returns-in-More-clause-turned : goal.returns-in-More-clause-turned
returns-in-More-clause-turned g c t count came =
    more_came g.D.Disk.state c.pull.new.self t count c.in-Some.pair
    (subst (λ (answer : Option Pair). Pulled g.D.Disk.state c.pull.new.self t count (Ok answer)) c.in-Some.is
    (c.in_ok-pair.ensures.pulled t count came)) c.take.new.self c.take.new.into c.in-More.ensures

pub returns-in-Refused-clause-turned : goal.returns-in-Refused-clause-turned
returns-in-Refused-clause-turned g c t count came =
    refused_ends g.D.Disk.state c.pull.new.self t count c.in-Some.pair
    (subst (λ (answer : Option Pair). Pulled g.D.Disk.state c.pull.new.self t count (Ok answer)) c.in-Some.is
    (c.in_ok-pair.ensures.pulled t count came)) c.take.new.self c.take.new.into c.in-Refused.ensures
