use Rattle.std.proofs.Common.{refl, sym, ◌∙◌}
use Rattle.std.proofs.lemmas.Result.{err_from_is_err_and}
use Rattle.store_stream.proofs.RootedSteps.{skip_so, give_so, fail_so, long_so}
use Rattle.store_stream.proofs.rooted.RootedStream.next_step.Goals as goal

pub returns-in_err-next-clause-next : goal.returns-in_err-next-clause-next
returns-in_err-next-clause-next g c =
    let fault = err_from_is_err_and c.from_residual.result c.from_residual.ensures.1 in
    rw (fault.1, fault.2) (record {
      came = λ t came. tt;
      extends = λ t came. tt;
      whole = λ t came. tt;
      failed = λ t came. fail_so g.S.DumpStream.came c.loop.self
          (record { stream = c.next.new.self; path = c.loop.self.path; step = c.next.new.into }) refl t
          (c.loop.invariant.1 t came) g.S.DumpStream.fails _ c.in_err-next.ensures.next.failed;
    })

pub returns-then-put_rooted-clause-next : goal.returns-then-put_rooted-clause-next
returns-then-put_rooted-clause-next g c =
    let next = rw c.if-not-branch.false at c.in_ok-next.ensures.next in
    let into_is = rw c.if-put_rooted.true at c.put_rooted.ensures.into_is in
    let inside = sym c.put_rooted.ensures.inside ∙ c.if-put_rooted.true in
    record {
      came = λ t came. (give_so g.S.DumpStream.came c.loop.self
          (record { stream = c.next.new.self; path = c.loop.self.path; step = c.next.new.into }) refl t
          (c.loop.invariant.1 t came) next.came next.extends c.put_rooted.new.into inside into_is).0;
      extends = λ t came. (give_so g.S.DumpStream.came c.loop.self
          (record { stream = c.next.new.self; path = c.loop.self.path; step = c.next.new.into }) refl t
          (c.loop.invariant.1 t came) next.came next.extends c.put_rooted.new.into inside into_is).1;
      whole = λ t came. tt;
      failed = λ t came. tt;
    }

pub loop-preserved : goal.loop-preserved
loop-preserved g c =
    let next = rw c.if-not-branch.false at c.in_ok-next.ensures.next in (
      λ start kept. record {
        path = (c.loop.invariant.0 start kept).path;
        stream = c.in_ok-next.ensures.keeps start.stream (c.loop.invariant.0 start kept).stream;
      },
      λ t came. skip_so g.S.DumpStream.came c.loop.self
          (record { stream = c.next.new.self; path = c.loop.self.path; step = c.next.new.into }) refl t
          (c.loop.invariant.1 t came) next.came next.extends (sym c.put_rooted.ensures.inside ∙ c.if-put_rooted.false),
    )

pub returns-clause-next : goal.returns-clause-next
returns-clause-next g c = record {
  came = λ t came. tt;
  extends = λ t came. tt;
  whole = λ t came. tt;
  failed = λ t came. long_so g.S.DumpStream.came g.S.DumpStream.fails c.loop.self t (c.loop.invariant.1 t came);
}
