use Rattle.std.proofs.Common.{sym, ◌∙◌}
use Rattle.image_changes.proofs.WayLemmas.{ends_here, goes_on_to}
use Rattle.image_changes.proofs.way.Way.pass.Goals as goal

pub returns-then-not-is_inside-clause-leads : goal.returns-then-not-is_inside-clause-leads
returns-then-not-is_inside-clause-leads c rest e =
    ends_here c.args.self.now.front c.args.self.now.path rest
    (sym c.is_inside.ensures.value ∙ c.if-not-is_inside.true) e

pub returns-clause-leads : goal.returns-clause-leads
returns-clause-leads c rest e =
    goes_on_to c.args.self.now.front c.args.self.now.path c.next_below-next.result rest
    (sym c.is_inside.ensures.value ∙ c.if-not-is_inside.false) c.next_below-next.ensures e
