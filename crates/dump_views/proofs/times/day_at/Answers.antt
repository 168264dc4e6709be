use Rattle.std.proofs.Common.{◌≡◌, ◌<◌, ◌/◌, pos, sym, arith}
use Rattle.std.proofs.lemmas.Bool.{le-leb, lt-leb}
use Rattle.jiff_core.proofs.SignedLemmas.{signed_arith, signed_casts}
use Rattle.jiff_core.specs.Date.{epoch_day}
use Rattle.dump_views.proofs.TimeLemmas.{date_is, late_year}
use Rattle.dump_views.proofs.times.day_at.Goals as goal

pub returns-in-Ok-clause-day : goal.returns-in-Ok-clause-day
returns-in-Ok-clause-day c =
    let is : epoch_day c.in-Ok.date ≡ pos (c.args.seconds / 86400) =
    omega (arith, signed_arith, signed_casts, c.in-Ok.ensures.value) in
    (date_is c.in-Ok.date (c.args.seconds / 86400) is).0

pub returns-in-Ok-clause-told : goal.returns-in-Ok-clause-told
returns-in-Ok-clause-told c =
    let is : epoch_day c.in-Ok.date ≡ pos (c.args.seconds / 86400) =
    omega (arith, signed_arith, signed_casts, c.in-Ok.ensures.value) in
    sym (le-leb _ _ (date_is c.in-Ok.date (c.args.seconds / 86400) is).1)

pub returns-in-Err-clause-told : goal.returns-in-Err-clause-told
returns-in-Err-clause-told c =
    let late : 2_932_896 < c.args.seconds / 86400 =
    grind (arith, signed_arith, signed_casts, c.in-Err.ensures.succeeds) in
    sym (lt-leb _ _ (late_year (c.args.seconds / 86400) late))
