use Rattle.std.proofs.Common.{◌∷◌, [], false, refl}
use Rattle.dump_streams.specs.Dumps.DumpStep.{Write}
use Rattle.host_builder.specs.declared.plan.Standing.{Standing}
use Rattle.host_builder.proofs.TakerSteps.{ends_broken, made_broken, made_puts, wrote_puts, wrote_broken}
use Rattle.host_builder.proofs.taker.BuildTaker.put.Goals as goal

pub returns-in_err-end_last-clause-broken : goal.returns-in_err-end_last-clause-broken
returns-in_err-end_last-clause-broken g c =
    let st = g.B.Builder.state in
    ends_broken (st c.args.self.now.builder) (st c.end_last.new.self.builder) c.args.self.now.plan
    c.end_last.new.self.plan c.from_residual.result c.in_err-end_last.field-0.0 c.from_residual.ensures.1
    c.in_err-end_last.ensures.builds c.in_err-end_last.ensures.plan

pub returns-in-Err-clause-broken : goal.returns-in-Err-clause-broken
returns-in-Err-clause-broken g c =
    let st = g.B.Builder.state in
    let ended = c.end_last.new.self.plan in
    let one : Standing = record { path = c.args.path.now; is_folder = false } in
    made_broken (st c.args.self.now.builder) (st c.end_last.new.self.builder) (st c.write-2.new.self)
    c.args.self.now.plan ended c.note.new.self c.forget.new.self one c.in_ok-end_last.ensures.builds
    c.in_ok-end_last.ensures.plan c.in_ok-note.ensures.noted c.in_ok-note.ensures.wanted c.in_ok-note.ensures.obstacle
    (Write c.args.path.now c.args.at c.args.bytes.now ∷ []) c.in-Err.fault c.in-Err.ensures
    (c.forget.ensures.stands ended.stands.items one c.in_ok-note.ensures.noted) c.forget.ensures.wanted
    c.forget.ensures.obstacle

pub returns-clause-put : goal.returns-clause-put
returns-clause-put g c =
    let st = g.B.Builder.state in
    let ended = c.end_last.new.self.plan in
    let one : Standing = record { path = c.args.path.now; is_folder = false } in
    made_puts (st c.args.self.now.builder) (st c.end_last.new.self.builder) (st c.write-2.new.self)
    c.args.self.now.plan ended c.note.new.self c.note.new.self one c.in_ok-end_last.ensures.builds
    c.in_ok-end_last.ensures.plan c.in_ok-note.ensures.noted c.in_ok-note.ensures.wanted c.in_ok-note.ensures.obstacle
    (Write c.args.path.now c.args.at c.args.bytes.now) c.in_default.ensures refl c.in_ok-note.ensures.later refl refl
    refl refl

pub returns-then-is_last-clause-put : goal.returns-then-is_last-clause-put
returns-then-is_last-clause-put g c =
    let st = g.B.Builder.state in
    wrote_puts (st c.args.self.now.builder) (st c.write.new.self) c.args.self.now.plan
    (Write c.args.path.now c.args.at c.args.bytes.now) (c.is_last.ensures c.if-is_last.true) c.write.result
    c.write.ensures

pub returns-then-is_last-clause-broken : goal.returns-then-is_last-clause-broken
returns-then-is_last-clause-broken g c =
    let st = g.B.Builder.state in
    wrote_broken (st c.args.self.now.builder) (st c.write.new.self) c.args.self.now.plan
    (Write c.args.path.now c.args.at c.args.bytes.now) (c.is_last.ensures c.if-is_last.true) c.write.result
    c.write.ensures
