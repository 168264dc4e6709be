use Rattle.skip_levels.proofs.NextLemmas.{first_none, first_some}
use Rattle.skip_groups.proofs.Looks.{looked_none, looked_some}
use Rattle.skip_levels.proofs.next.first_pair.Goals as goal

pub returns-in_default-clause-call : goal.returns-in_default-clause-call
returns-in_default-clause-call g c =
    first_none (g.P.Pages.state c.args.pages.now) (g.P.Pages.state c.look.follows.lender-at-none)
    c.args.leader (looked_none c.label_in_group.ensures c.look.follows.holds-at-none.0
    c.in_ok-found.was c.in_default.is)

pub returns-clause-call : goal.returns-clause-call
returns-clause-call g c =
    first_some (g.P.Pages.state c.args.pages.now) (g.P.Pages.state c.look.follows.lender-at-none)
    c.args.leader c.in-Some.page.now c.cell.result c.pair_of.result
    (looked_some c.label_in_group.ensures c.look.follows.holds-at-none.0 c.in_ok-found.was c.in-Some.is)
    c.cell.ensures.value c.pair_of.ensures
