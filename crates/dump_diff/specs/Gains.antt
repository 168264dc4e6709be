-- Which differences of two trees count, where the first has something that the second lacks.
use Rattle.std.specs.Prelude.{List, Bool, true, ◌&&◌, codes, if◌then◌else◌}
use Rattle.std.specs.List.{list_any}
use Rattle.store_model.specs.Lists.{same_bytes}
use Rattle.store_model.specs.Paths.{Path, Name, same_path}
use Rattle.dump_diff.specs.declared.difference.Mark.{Mark}
use Rattle.dump_diff.specs.declared.difference.Mark.TheVariants as marks
use Rattle.dump_diff.specs.declared.difference.Side.{Side}
use Rattle.dump_diff.specs.declared.difference.Side.TheVariants as sides
use Rattle.dump_diff.specs.declared.difference.AttributeDifference.{AttributeDifference}
use Rattle.dump_diff.specs.declared.losses.Losses.{Losses}
use Rattle.dump_diff.specs.Scripts.{AttributePlace}

-- whether an attribute of this name counts that the first tree alone has
abbrev pub takes : Losses → Name → Bool
takes losses a = if same_bytes a (codes "mode") then losses.mode
    else if same_bytes a (codes "mtime") then losses.mtime
    else if same_bytes a (codes "link") then losses.link
    else losses.others

-- whether an attribute counts that differs, by whether it does where the first tree alone has it
abbrev pub counts_by : Bool → Side → Bool
counts_by taken sides.First = taken
counts_by taken sides.Second = true
counts_by taken sides.Both = true

abbrev pub counts : (Name → Bool) → AttributePlace × Side → Bool
counts taken e = counts_by (taken (e.0).1) e.1

-- whether one at this path counts
abbrev pub counts_at : (Name → Bool) → List (AttributePlace × Side) → Path → Bool
counts_at taken attributes p = list_any (λ e. counts taken e && same_path p (e.0).0) attributes

-- whether a path counts that is marked so, by whether it does where the first tree alone has it, and whether an
-- attribute of it counts
abbrev pub changes_by : Bool → Mark → Bool → Bool
changes_by gone marks.Removed some = gone
changes_by gone marks.Added some = true
changes_by gone marks.Kind some = true
changes_by gone marks.Bytes some = true
changes_by gone marks.Attributes some = some

abbrev pub changes_path : Bool → (Name → Bool) → List (AttributePlace × Side) → Path × Mark → Bool
changes_path gone taken attributes e = changes_by gone e.1 (counts_at taken attributes e.0)

-- whether one of these attributes is of the path
abbrev pub has_path : List AttributeDifference → Path → Bool
has_path attributes p = list_any (λ a. same_path p a.path) attributes
