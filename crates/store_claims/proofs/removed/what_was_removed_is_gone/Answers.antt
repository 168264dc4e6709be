use Rattle.std.proofs.Common.{sym, ap, ◌∙◌}
use Rattle.disk_model.specs.Memory.{Memory}
use Rattle.store_claims.proofs.RemovalLemmas.{gone, goes_on}
use Rattle.store_claims.proofs.removed.what_was_removed_is_gone.Goals as goal

pub returns-clause-gone : goal.returns-clause-gone
returns-clause-gone c at t p is removes e d =
    gone at t p c.args.disk c.calm.result c.args.first c.args.second c.args.sink c.in_ok-before.before.sink
    c.in_ok-before.before c.in_ok-second.second is removes (c.in_ok-before.ensures.answered t p is)
    (c.calm.ensures.below ∙ c.into_disk-memory.ensures)
    (λ u here. c.in_ok-second.ensures.answered u p here) e d
    ∙ sym (c.in_ok-image.ensures.items ∙ c.bytes.ensures
    ∙ ap (λ (memory : Memory). memory.bytes) c.into_disk-memory.ensures)

pub returns-clause-first : goal.returns-clause-first
returns-clause-first c t p is e = c.in_ok-image.ensures.items ∙ c.bytes.ensures
    ∙ ap (λ (memory : Memory). memory.bytes) c.into_disk-memory.ensures
    ∙ ((c.in_ok-before.ensures.answered t p is).image e).bytes

pub returns-clause-second : goal.returns-clause-second
returns-clause-second c t p is e d =
    (goes_on t p c.args.disk c.calm.result c.args.first c.args.second c.args.sink c.in_ok-before.before.sink
    c.in_ok-before.before c.in_ok-second.second is (c.in_ok-before.ensures.answered t p is)
    (c.calm.ensures.below ∙ c.into_disk-memory.ensures)
    (λ u here. c.in_ok-second.ensures.answered u p here) e).count d
