-- Which differences of two trees are taken away of the first, and the commands that lead to what is told.
use Rattle.std.specs.Prelude.{List, ◌++◌, map, Bool}
use Rattle.std.specs.FinMap.{find}
use Rattle.std.specs.List.{filter, flat_map}
use Rattle.store_model.specs.Paths.{Path, Name, path_cmp, parent}
use Rattle.store_model.specs.Trees.{Tree}
use Rattle.store_model.specs.Commands.{Command}
use Rattle.dump_streams.specs.Dumps.{DumpStep, command_of_step}
use Rattle.dump_diff.specs.declared.difference.Mark.{Mark}
use Rattle.dump_diff.specs.declared.difference.Side.{Side}
use Rattle.dump_diff.specs.declared.differences.Differences.{Differences}
use Rattle.dump_diff.specs.Differences.{marks_of}
use Rattle.dump_diff.specs.Scripts.{AttributePlace, is_addition, is_pruned, cut_of, unset_of, sides_of}
use Rattle.dump_diff.specs.Gains.{counts, changes_path}
use Rattle.synced_trees.specs.Leading.{AreAllowed, led_by}
use Rattle.synced_trees.specs.Syncing.{IsSynced}

-- the differences that count: those of what the second tree has, and where the first alone has something, the paths
-- where what is not told goes, and the attributes that are taken
abbrev pub taken_marks : Bool → (Name → Bool) → List (Path × Mark) → List (AttributePlace × Side) → List (Path × Mark)
taken_marks deletes takes paths attributes = filter (changes_path deletes takes attributes) paths

abbrev pub taken_sides : (Name → Bool) → List (AttributePlace × Side) → List (AttributePlace × Side)
taken_sides takes attributes = filter (counts takes) attributes

-- what is pruned and cut by these marks, and which attributes are taken away
abbrev pub cuts_of : List (Path × Mark) → List Command
cuts_of paths = flat_map (λ e. cut_of (is_pruned (find path_cmp (parent e.0) paths)) e.1 e.0) paths

abbrev pub unsets_of : List (AttributePlace × Side) → List Command
unsets_of attributes = flat_map (λ e. unset_of e.1 (e.0).0 (e.0).1) attributes

-- The commands that lead from the first tree to what is told, where these are its differences from the second one, and
-- these the steps of the second.
abbrev pub sync_commands : Bool → (Name → Bool) → Differences → List DumpStep → List Command
sync_commands deletes takes found steps =
    cuts_of (taken_marks deletes takes (marks_of found.paths.items) (sides_of found.attributes.items))
    ++ unsets_of (taken_sides takes (sides_of found.attributes.items))
    ++ map command_of_step (filter (is_addition found) steps)

-- None of the commands is refused for what the first tree holds by then, and they lead to what is told.
pub record LeadsTo (deletes : Bool) (takes : Name → Bool) (old told : Tree) (commands : List Command) : Type 0 where
  pub allowed : AreAllowed old commands
  pub synced : IsSynced deletes takes old told (led_by old commands)
