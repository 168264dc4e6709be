use Rattle.std.proofs.Common.{List, sym, subst}
use Rattle.store_model.specs.Pairs.{Pair}
use Rattle.node_pages.specs.PagesState.{IsObservable}
use Rattle.skip_levels.specs.Descent.{HoldsPairs}
use Rattle.skip_levels.specs.ListState.{ListState}
use Rattle.skip_levels.proofs.PagePairsLemmas.{holds_its_pairs}
use Rattle.skip_levels.proofs.skip_list.SkipList.take_up.Goals as goal

pub invariant_of-self : goal.invariant_of-self
invariant_of-self g c =
    let drawn = g.W.Draw.drawn in
    let state = g.P.Pages.state in
    let s = c.self.inside in
    let requires = subst (λ (v : ListState g.row.P.Denot g.row.W.Denot). IsObservable (state v.pages)
    → (s : List Pair) × HoldsPairs (drawn v.draw) s (state v.pages).pages) (sym c.self.view_is) c.requires in
    record {
      whole = λ w o. let held = requires o in holds_its_pairs (drawn s.draw) held.0 (state s.pages).pages held.1;
      place = λ w o. tt;
    }
