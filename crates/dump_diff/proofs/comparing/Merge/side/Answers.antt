use Rattle.std.proofs.Common.{◌≡◌, sym, ap, ◌∙◌, Greater}
use Rattle.std.specs.Ordering.{ordering_reverse}
use Rattle.dump_diff.specs.Places.{place_cmp}
use Rattle.dump_diff.proofs.PlaceOrder.{place_total}
use Rattle.dump_diff.proofs.comparing.Merge.side.Goals as goal

pub returns-in-Greater : goal.returns-in-Greater
returns-in-Greater c =
    let one = c.args.self.now.first.step in
    let other = c.args.self.now.second.step in
    let above : place_cmp one other ≡ Greater = sym c.order.ensures ∙ c.in-Greater.is in
    (c.if-not-self.false, λ there. place_total.antisymm other one ∙ ap ordering_reverse above)
