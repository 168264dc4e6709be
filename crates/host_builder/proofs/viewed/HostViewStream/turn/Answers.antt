use Rattle.std.proofs.Common.{false, Ok, refl, sym, subst}
use Rattle.host_builder.specs.Viewed.{TurnsView, pass}
use Rattle.host_builder.proofs.ViewedStream.{judged}
use Rattle.host_builder.proofs.viewed.HostViewStream.turn.Goals as goal

pub returns-then-self-2-clause-turned : goal.returns-then-self-2-clause-turned
returns-then-self-2-clause-turned g c t count by =
    let came = g.S.DumpStream.came in
    let whole = g.S.DumpStream.whole in
    let fails = g.S.DumpStream.fails in
    let old = c.args.self.now in
    let new = record old { is_at_hand = false; spot = (pass old.wanted old.spot old.step).0 } in
    let view = by.going c.if-self.false in
    let hand = (view.going).hand c.if-self-2.true in
    subst (λ s. TurnsView came whole fails s t count c.pass.new.into (Ok c.pass.result)) (sym c.pass.ensures.same)
    (judged came whole fails old new t count view.tree view.is_tree view.front view.view_is_tree view.came_is view.many
    hand.all_is hand.spot_is hand.given_is refl refl c.if-self.false refl c.pass.new.into c.pass.result
    c.pass.ensures.passes)
