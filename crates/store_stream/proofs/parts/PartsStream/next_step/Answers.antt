use Rattle.std.proofs.Common.{◌≤◌, Ok, subst, arith}
use Rattle.std.proofs.lemmas.Result.{err_from_is_err_and}
use Rattle.store_stream.specs.declared.stream.Turn.{Turn}
use Rattle.store_stream.specs.PartsStreams.{PartsTurned}
use Rattle.store_stream.proofs.PartsLemmas.{not_so_many}
use Rattle.tree_pairs.specs.TreeCalls.{pairs_limit}
use Rattle.store_stream.proofs.parts.PartsStream.next_step.Goals as goal

pub loop-init : goal.loop-init
loop-init g c = (λ start kept. kept, λ t came. came)

pub loop-preserved : goal.loop-preserved
loop-preserved g c = (
  λ start kept. c.in_ok-turn.ensures.keeps start (c.loop.invariant.0 start kept),
  λ t came. subst (λ (turn : Turn). PartsTurned g.D.Disk.state c.turn.new.self t c.loop.counter
      c.turn.new.into (Ok turn))
      c.in-More.is (c.in_ok-turn.ensures.turned t c.loop.counter (c.loop.invariant.1 t came)),
)

pub returns-in_err-turn-clause-next : goal.returns-in_err-turn-clause-next
returns-in_err-turn-clause-next g c =
    let fault = err_from_is_err_and c.from_residual.result c.from_residual.ensures.1 in
    rw (fault.1, fault.2) (record {
      came = λ t came. tt;
      extends = λ t came. tt;
      whole = λ t came. tt;
      failed = λ t came. c.in_err-turn.ensures.turned t c.loop.counter (c.loop.invariant.1 t came);
    })

pub returns-in_err-turn-clause-keeps : goal.returns-in_err-turn-clause-keeps
returns-in_err-turn-clause-keeps g c start kept =
    c.in_err-turn.ensures.keeps start (c.loop.invariant.0 start kept)

pub returns-in-Step-clause-next : goal.returns-in-Step-clause-next
returns-in-Step-clause-next g c = record {
  came = λ t came. (subst (λ (turn : Turn). PartsTurned g.D.Disk.state c.turn.new.self t c.loop.counter
      c.turn.new.into (Ok turn)) c.in-Step.is
      (c.in_ok-turn.ensures.turned t c.loop.counter (c.loop.invariant.1 t came))).came;
  extends = λ t came. (subst (λ (turn : Turn). PartsTurned g.D.Disk.state c.turn.new.self t c.loop.counter
      c.turn.new.into (Ok turn)) c.in-Step.is
      (c.in_ok-turn.ensures.turned t c.loop.counter (c.loop.invariant.1 t came))).extends;
  whole = λ t came. tt;
  failed = λ t came. tt;
}

pub returns-in-End-clause-next : goal.returns-in-End-clause-next
returns-in-End-clause-next g c = record {
  came = λ t came. tt;
  extends = λ t came. tt;
  whole = λ t came. subst (λ (turn : Turn). PartsTurned g.D.Disk.state c.turn.new.self t c.loop.counter
      c.turn.new.into (Ok turn)) c.in-End.is (c.in_ok-turn.ensures.turned t c.loop.counter (c.loop.invariant.1 t came));
  failed = λ t came. tt;
}

pub returns-clause-next : goal.returns-clause-next
returns-clause-next g c = record {
  came = λ t came. tt;
  extends = λ t came. tt;
  whole = λ t came. tt;
  failed = λ t came.
      let test = c.loop-test.false in
      let many : pairs_limit ≤ c.loop.counter = omega (arith, test) in
      not_so_many g.D.Disk.state c.loop.self t c.loop.counter (c.loop.invariant.1 t came) many;
}
