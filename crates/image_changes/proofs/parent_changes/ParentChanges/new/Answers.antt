use Rattle.std.proofs.Common.{[], ◌++◌, map, sym, ap, ◌∙◌}
use Rattle.store_model.specs.Paths.{Path}
use Rattle.tree_changes.specs.Folders.{way_to}
use Rattle.image_changes.specs.Ways.{passing}
use Rattle.image_changes.proofs.ParentSteps.{none_ends}
use Rattle.image_changes.proofs.WayLemmas.{no_way}
use Rattle.image_changes.proofs.parent_changes.ParentChanges.new.Goals as goal

pub returns-clause-begins : goal.returns-clause-begins
returns-clause-begins c = record {
  passed = record {
    done = [];
    rest = [];
    way_is = c.to.ensures.path ∙ c.root.ensures ∙ sym (ap (λ (y : Path). y ++ []) c.to.ensures.front);
    split = sym (ap way_to (c.to.ensures.path ∙ c.root.ensures) ∙ no_way);
    changes_are = sym (ap (λ (y : Path). map passing (way_to y)) c.to.ensures.front ∙ ap (map passing) no_way);
  };
  ends = none_ends _;
}
