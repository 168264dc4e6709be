use Rattle.std.proofs.Common.{◌≡◌, sym, ap, subst, ◌∙◌, ⊎_elim}
use Rattle.std.proofs.lemmas.Bool.{cases_Bool, false≢true, eqb-true, eq-eqb}
use Rattle.store_model.specs.Pages.{page_count}
use Rattle.disk_model.specs.DiskState.{IsObservable}
use Rattle.image_check.specs.Standing.{IsFitting}
use Rattle.store_core.specs.StoreState.{StoreState}
use Rattle.staged_tree.proofs.UsedLemmas.{none_used, empty_count}
use Rattle.store_core.proofs.store.Store.is_empty.Goals as goal

pub returns-clause-told : goal.returns-clause-told
returns-clause-told g c observable =
    let now = c.args.self.now in
    let fitting = subst (λ (x : StoreState g.row.D.Denot). IsFitting x.tree x.params)
    c.self.view_is c.reveal.ensures.fitting in
    let used : c.used.result ≡ page_count now.tree now.params = c.used.ensures observable c.requires in (
      λ is_zero. none_used now.tree now.params fitting (sym used ∙ eqb-true c.used.result 0 is_zero),
      λ is. eq-eqb c.used.result 0 (used ∙ ap (λ t. page_count t now.params) is ∙ empty_count now.params),
    )

pub returns-clause-empty : goal.returns-clause-empty
returns-clause-empty g c is_zero =
    let state = g.D.Disk.state in
    let now = c.args.self.now in
    let known = c.self.inside.known in
    let fitting = subst (λ (x : StoreState g.row.D.Denot). IsFitting x.tree x.params)
    c.self.view_is c.reveal.ensures.fitting in
    ⊎_elim
    (λ seen. none_used now.tree now.params fitting
    (sym (c.used.ensures seen c.requires) ∙ eqb-true c.used.result 0 is_zero))
    (λ hidden.
    let same = ap (λ (x : StoreState g.row.D.Denot). (state x.disk).is_observable) c.self.view_is in
    let unseen = λ (seen : IsObservable (state known.settled)).
    false≢true (sym hidden ∙ sym same ∙ c.self.invariant.observable ∙ seen) in
    ap (λ (x : StoreState g.row.D.Denot). x.tree) (sym c.self.view_is) ∙ c.reveal.ensures.unseen unseen)
    (cases_Bool (state now.disk).is_observable)
