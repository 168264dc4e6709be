use Rattle.std.proofs.Common.{sym, subst}
use Rattle.store_core.specs.Known.{IsKnownTree, TellsTree, one_known}
use Rattle.store_core.proofs.known.KnownTree.new.Goals as goal

pub returns : goal.returns
returns g c t known =
    let state = g.D.Disk.state in
    let p = c.args.params in
    let settled = c.of.result.value in
    let given : TellsTree (state settled) p = c.result-1.given.0 in
    let there : IsKnownTree (state settled) p t =
    subst (λ (disk : g.row.D.Denot). IsKnownTree (state disk) p t) (sym c.of.ensures) known in
    λ i. record { params = p; tree = one_known (state settled) p given.0 t given.1 there i; settled = c.of.ensures i }
