use Rattle.std.proofs.Common.{sym, subst}
use Rattle.skip_levels.specs.Descent.{IsKnownGroup}
use Rattle.skip_levels.specs.PagePairs.{pairs_of_map}
use Rattle.skip_levels.proofs.PagePairsLemmas.{holds_its_pairs}
use Rattle.skip_levels.proofs.skip_list.SkipList.new.Goals as goal

pub invariant_of-result : goal.invariant_of-result
invariant_of-result g c = record {
  whole = λ w o. let held = c.requires o
      in holds_its_pairs (g.W.Draw.drawn c.args.draw) held.0 (g.P.Pages.state c.args.pages).pages held.1;
  place = λ w o. subst (IsKnownGroup (g.W.Draw.drawn c.args.draw) (pairs_of_map (g.P.Pages.state c.args.pages).pages))
      (sym c.new.ensures) tt;
}
