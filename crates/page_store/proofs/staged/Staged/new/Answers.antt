use Rattle.std.proofs.Common.{false, subst, sym}
use Rattle.store_model.specs.Parameters.{Parameters}
use Rattle.page_store.specs.StagedState.{IsStaged}
use Rattle.page_store.proofs.StagedLemmas.{begun}
use Rattle.page_store.proofs.staged.Staged.new.Goals as goal

pub invariant_of-result-2 : goal.invariant_of-result-2
invariant_of-result-2 g c =
    let d = g.W.Draw.drawn c.args.draw in
    let state = g.D.Disk.state in
    let touched = c.new.result.touched.entries in
    let none = c.new-4.result.pages.entries in
    rw c.new-2.ensures.draw
    (subst (λ (p : Parameters). IsStaged d p (state c.new.result.disk) touched none c.args.pages c.args.pages false)
    (sym c.new.ensures.params)
    (subst (λ (disk : g.row.D.Denot). IsStaged d c.args.params.now (state disk) touched none
    c.args.pages c.args.pages false) (sym c.new.ensures.disk)
    (begun d c.args.params.now (state c.args.disk) touched none
    c.args.pages c.requires.drawn c.requires.stands c.requires.count c.new.ensures.untouched c.new-4.ensures)))
