use Rattle.std.proofs.Common.{true, Ok, refl, sym, subst, ◌∙◌}
use Rattle.std.proofs.lemmas.Result.{err_from_is_err_and}
use Rattle.host_builder.specs.declared.viewed.Spot.TheVariants as spots
use Rattle.host_builder.specs.Viewed.{TurnsView, pass}
use Rattle.host_builder.proofs.ViewedStream.{failed, ended, settles_held, comes}
use Rattle.host_builder.proofs.viewed.HostViewStream.judge_next.Goals as goal

pub returns-in_err-next-clause-turned : goal.returns-in_err-next-clause-turned
returns-in_err-next-clause-turned g c t count is =
    let fault = err_from_is_err_and c.from_residual.result c.from_residual.ensures.1 in
    let old = c.args.self.now in
    let new = record old { stream = c.next.new.self; step = c.next.new.into } in
    rw (fault.1, fault.2) (failed g.S.DumpStream.came g.S.DumpStream.whole g.S.DumpStream.fails old new t count is
    c.requires.none refl _ c.in_err-next.ensures.next.failed)

pub returns-then-not-branch-clause-turned : goal.returns-then-not-branch-clause-turned
returns-then-not-branch-clause-turned g c t count is =
    let came = g.S.DumpStream.came in
    let whole = g.S.DumpStream.whole in
    let fails = g.S.DumpStream.fails in
    let next = rw c.if-not-branch.true at c.in_ok-next.ensures.next in
    let old = c.args.self.now in
    let new = record old {
      stream = c.next.new.self;
      step = c.next.new.into;
      spot = spots.Nothing;
      is_ended = true;
    } in
    subst (λ s. TurnsView came whole fails s t count c.give_held.new.into (Ok c.give_held.result))
    (sym c.give_held.ensures.same)
    (ended came whole fails old new t count is c.requires.none refl next.whole refl c.give_held.new.into
    c.give_held.result c.give_held.ensures.gives)

pub returns-then-settles-clause-turned : goal.returns-then-settles-clause-turned
returns-then-settles-clause-turned g c t count is =
    let came = g.S.DumpStream.came in
    let whole = g.S.DumpStream.whole in
    let fails = g.S.DumpStream.fails in
    let next = rw c.if-not-branch.false at c.in_ok-next.ensures.next in
    let old = c.args.self.now in
    let new = record old {
      stream = c.next.new.self;
      step = c.next.new.into;
      spot = spots.File true;
      is_at_hand = true;
    } in
    let given = c.give_held-then-settles in
    subst (λ s. TurnsView came whole fails s t count given.new.into (Ok given.result)) (sym given.ensures.same)
    (settles_held came whole fails old new t count is c.requires.none refl next.came next.extends c.requires.going
    (sym c.settles.ensures ∙ c.if-settles.true) refl refl given.new.into given.result given.ensures.gives)

pub returns-clause-turned : goal.returns-clause-turned
returns-clause-turned g c t count is =
    let came = g.S.DumpStream.came in
    let whole = g.S.DumpStream.whole in
    let fails = g.S.DumpStream.fails in
    let next = rw c.if-not-branch.false at c.in_ok-next.ensures.next in
    let old = c.args.self.now in
    let new = record old { stream = c.next.new.self; step = c.next.new.into } in
    let after = record new { spot = (pass old.wanted old.spot c.next.new.into).0 } in
    subst (λ s. TurnsView came whole fails s t count c.pass.new.into (Ok c.pass.result)) (sym c.pass.ensures.same)
    (comes came whole fails old new t count is c.requires.none refl next.came next.extends c.requires.going
    (sym c.settles.ensures ∙ c.if-settles.false) after refl refl c.requires.none c.requires.going refl
    c.pass.new.into c.pass.result c.pass.ensures.passes)
