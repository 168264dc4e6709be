use Rattle.std.proofs.Common.{refl}
use Rattle.store_claims.proofs.CommandLemmas.{keeps_commands}
use Rattle.store_claims.proofs.NothingLemmas.{works_on_nothing}
use Rattle.store_claims.proofs.big.commands_of_big_stay.Goals as goal

pub returns-clause-stay : goal.returns-clause-stay
returns-clause-stay c number count t p asked =
    keeps_commands number count t p c.args.machine.disk c.args.machine.source c.args.machine.sink c.top.result
    (c.top.ensures.performs _ asked)

pub returns-clause-costs : goal.returns-clause-costs
returns-clause-costs c number count t p asked is =
    (((c.top.ensures.performs _ asked).observed refl).does t p is).carried.counts

pub returns-clause-nothing : goal.returns-clause-nothing
returns-clause-nothing c number count asked =
    works_on_nothing c.args.machine.disk c.args.machine.source c.args.machine.sink c.top.result
    (c.top.ensures.performs _ asked)
