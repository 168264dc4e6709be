use Rattle.std.proofs.Common.{refl}
use Rattle.store_claims.proofs.NothingLemmas.{works_on_nothing}
use Rattle.store_claims.proofs.OneWord.{asks_load}
use Rattle.store_claims.proofs.loaded.a_listing_is_loaded.Goals as goal

pub returns-clause-loads : goal.returns-clause-loads
returns-clause-loads c u p is =
    ((c.top.ensures.performs _ (c.in_ok-words.ensures _ asks_load)).observed refl).does u p is refl

pub returns-clause-keeps : goal.returns-clause-keeps
returns-clause-keeps c = (c.top.ensures.performs _ (c.in_ok-words.ensures _ asks_load)).keeps

pub returns-clause-nothing : goal.returns-clause-nothing
returns-clause-nothing c = works_on_nothing c.args.disk c.args.source c.args.sink c.top.result
    (c.top.ensures.performs _ (c.in_ok-words.ensures _ asks_load))
