use Rattle.std.proofs.Common.{◌∷◌, [], true, refl}
use Rattle.dump_streams.specs.Dumps.DumpStep.{Make}
use Rattle.host_builder.specs.declared.plan.Standing.{Standing}
use Rattle.host_builder.proofs.TakerSteps.{ends_broken, made_broken, made_took}
use Rattle.host_builder.proofs.taker.BuildTaker.make.Goals as goal

pub returns-in_err-end_last-clause-broken : goal.returns-in_err-end_last-clause-broken
returns-in_err-end_last-clause-broken g c =
    let st = g.B.Builder.state in
    ends_broken (st c.args.self.now.builder) (st c.end_last.new.self.builder) c.args.self.now.plan
    c.end_last.new.self.plan c.from_residual.result c.in_err-end_last.field-0.0 c.from_residual.ensures.1
    c.in_err-end_last.ensures.builds c.in_err-end_last.ensures.plan

pub returns-in-Err-clause-broken : goal.returns-in-Err-clause-broken
returns-in-Err-clause-broken g c =
    let st = g.B.Builder.state in
    let ended = c.end_last.new.self.plan in
    let one : Standing = record { path = c.args.path.now; is_folder = true } in
    made_broken (st c.args.self.now.builder) (st c.end_last.new.self.builder) (st c.make_folder.new.self)
    c.args.self.now.plan ended c.note.new.self c.forget.new.self one c.in_ok-end_last.ensures.builds
    c.in_ok-end_last.ensures.plan c.in_ok-note.ensures.noted c.in_ok-note.ensures.wanted c.in_ok-note.ensures.obstacle
    (Make c.args.path.now ∷ []) c.in-Err.fault c.in-Err.ensures
    (c.forget.ensures.stands ended.stands.items one c.in_ok-note.ensures.noted) c.forget.ensures.wanted
    c.forget.ensures.obstacle

pub returns-clause-took : goal.returns-clause-took
returns-clause-took g c =
    let st = g.B.Builder.state in
    let ended = c.end_last.new.self.plan in
    let one : Standing = record { path = c.args.path.now; is_folder = true } in
    made_took (st c.args.self.now.builder) (st c.end_last.new.self.builder) (st c.make_folder.new.self)
    c.args.self.now.plan ended c.note.new.self _ one c.in_ok-end_last.ensures.builds
    c.in_ok-end_last.ensures.plan c.in_ok-note.ensures.noted c.in_ok-note.ensures.wanted c.in_ok-note.ensures.obstacle
    (Make c.args.path.now) c.in_default.ensures refl c.in_ok-note.ensures.later refl refl refl refl refl refl
