use Rattle.std.proofs.Common.{◌∙◌}
use Rattle.dump_diff.specs.Scripts.{AreRising}
use Rattle.dump_diff.proofs.KeepingSteps.{keeps_all}
use Rattle.dump_diff.proofs.comparing.compare_keeping.Goals as goal

pub returns-clause-found : goal.returns-clause-found
returns-clause-found g c came came' =
    let merged = c.in_ok-merge.ensures.merged came came' in
    let trees = merged.trees in
    let rising : AreRising c.in_ok-merge.merge.found = record {
      paths = (trees.differences).rising;
      attributes =
          (trees.attributes).rising;
    } in
    record {
      trees = trees;
      one_is = merged.one_is;
      other_is = merged.other_is;
      kept = c.in_ok-additions.ensures rising
          ∙ keeps_all c.in_ok-merge.merge.found c.in_ok-merge.merge.kept _ (merged.kept c.in_ok-merge.ensures.on);
    }
