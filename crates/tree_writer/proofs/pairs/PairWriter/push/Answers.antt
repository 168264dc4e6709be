use Rattle.std.proofs.Common.{refl, arith}
use Rattle.tree_writer.proofs.PairSteps.{pair_next, pair_written, writes_too_many, writes_fault}
use Rattle.tree_writer.proofs.pairs.PairWriter.push.Goals as goal

pub push-requires : goal.push-requires
push-requires g c =
    let (p, start, s, come) = c.requires in (
      p,
      start,
      s,
      pair_next p s c.args.key c.args.value (g.D.Disk.state start) (g.D.Disk.state c.args.disk.now) c.args.self.now come
          c.level-level.result c.level-level.ensures.value (omega (arith, c.if-self-ge-MAX_PAIRS.false)),
    )

pub returns-then-self-ge-MAX_PAIRS : goal.returns-then-self-ge-MAX_PAIRS
returns-then-self-ge-MAX_PAIRS g c =
    writes_too_many g.D.Disk.state (c.args.key, c.args.value) c.args.disk.now c.args.self.now
    (omega (arith, c.if-self-ge-MAX_PAIRS.true))

pub returns-in_err-push : goal.returns-in_err-push
returns-in_err-push g c =
    writes_fault g.D.Disk.state (c.args.key, c.args.value) c.args.disk.now c.push.new.disk c.args.self.now _
    c.in_err-push.field-0.0 c.from_residual.result c.from_residual.ensures.1 c.in_err-push.ensures.calls
    c.in_err-push.ensures.faults
    (λ p start s come was. c.in_err-push.ensures.none p start s
    (pair_next p s c.args.key c.args.value (g.D.Disk.state start) (g.D.Disk.state c.args.disk.now) c.args.self.now come
    c.level-level.result c.level-level.ensures.value (omega (arith, c.if-self-ge-MAX_PAIRS.false)))
    was.0 was.1)

pub returns : goal.returns
returns g c =
    record {
      calls = c.in_ok-push.ensures.calls;
      writes = λ p start s come. pair_written p s c.args.key c.args.value (g.D.Disk.state start)
          (g.D.Disk.state c.args.disk.now) c.args.self.now come _ (g.D.Disk.state c.push.new.disk)
          (c.in_ok-push.ensures.writes p start s
          (pair_next p s c.args.key c.args.value (g.D.Disk.state start) (g.D.Disk.state c.args.disk.now)
          c.args.self.now come c.level-level.result c.level-level.ensures.value
          (omega (arith, c.if-self-ge-MAX_PAIRS.false)))) refl c.level-level.ensures.same refl;
      none = λ p start s come was. c.in_ok-push.ensures.none p start s
          (pair_next p s c.args.key c.args.value (g.D.Disk.state start) (g.D.Disk.state c.args.disk.now)
          c.args.self.now come c.level-level.result c.level-level.ensures.value
          (omega (arith, c.if-self-ge-MAX_PAIRS.false))) was.0 was.1;
      faults = λ p start s come. tt;
    }
