use Rattle.std.proofs.Common.{inl, inr}
use Rattle.store_claims.proofs.RequestedParameters.{requested_fits}
use Rattle.store_claims.proofs.MakingLemmas.{equal_contents}
use Rattle.store_claims.proofs.StoppingLemmas.{handed_on}
use Rattle.store_claims.proofs.equal.equal_contents_have_equal_bytes.Goals as goal

pub returns-clause-equal : goal.returns-clause-equal
returns-clause-equal c p asked =
    equal_contents p c.args.first.scripts.items c.args.second.scripts.items c.in_ok-first.first c.in_ok-second.second
    (requested_fits c.args.format.now p asked) (c.in_ok-first.ensures.image p asked)
    (c.in_ok-second.ensures.image p asked)

pub returns-in_err-first-clause-stops : goal.returns-in_err-first-clause-stops
returns-in_err-first-clause-stops c p asked =
    handed_on _ c.in_err-first.field-0.0 c.from_residual.result c.from_residual.ensures.1
    (inl (c.in_err-first.ensures.stops p asked))

pub returns-in_err-second-clause-stops : goal.returns-in_err-second-clause-stops
returns-in_err-second-clause-stops c p asked =
    handed_on _ c.in_err-second.field-0.0 c.from_residual-in_err-second.result c.from_residual-in_err-second.ensures.1
    (inr (c.in_err-second.ensures.stops p asked))
