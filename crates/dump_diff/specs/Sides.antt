-- The attributes that differ, of paths at which two trees have a directory or a file each.
use Rattle.std.specs.Prelude.{◌≡◌, ℕ, List, [], ◌∷◌, ◌++◌, Option, Some, None, IsSome, IsNone, IsTrue, Result, OnOk}
use Rattle.std.specs.Prelude.{◌⊎◌}
use Rattle.std.specs.FinMap.{find, is_sorted}
use Rattle.std.specs.List.{flat_map}
use Rattle.store_model.specs.Paths.{Path, Name, path_cmp, name_cmp}
use Rattle.dump_streams.specs.Dumps.{DumpStep, step_path}
use Rattle.dump_streams.specs.Dumps.DumpStep.{Make, Write, Set}
use Rattle.store_model.specs.Trees.{Tree, Attributes as Held, attribute_at}
use Rattle.dump_diff.specs.declared.difference.Mark.{Mark}
use Rattle.dump_diff.specs.declared.difference.Mark.TheVariants.{Removed, Added, Kind, Bytes, Attributes}
use Rattle.dump_diff.specs.declared.difference.Side.{Side}
use Rattle.dump_diff.specs.declared.difference.Side.TheVariants.{First, Second, Both}
use Rattle.dump_diff.specs.declared.difference.AttributeDifference.{AttributeDifference}
use Rattle.dump_diff.specs.Scripts.{AttributePlace, attribute_cmp}
use Rattle.dump_diff.specs.declared.differences.Differences.{Differences}
use Rattle.dump_diff.specs.Differences.{marks_of}
use Rattle.dump_diff.specs.Shown.{own, AreUpTo, Notes}

-- two trees have the same bytes of an attribute, or neither has it, where no side is told; and else it differs so
abbrev pub TellsSide : Option Side → Option (List ℕ) → Option (List ℕ) → Type 0
TellsSide None x y = x ≡ y
TellsSide (Some First) x y = IsSome x × IsNone y
TellsSide (Some Second) x y = IsNone x × IsSome y
TellsSide (Some Both) x y = IsSome x × IsSome y × (x ≡ y → ⊥)

-- the side is told where both trees have a directory, or both a file; nothing is told where one has no entry, or
-- another kind
abbrev pub FitsMark : Option Mark → Option Side → Option (List ℕ) → Option (List ℕ) → Type 0
FitsMark None side x y = TellsSide side x y
FitsMark (Some Bytes) side x y = TellsSide side x y
FitsMark (Some Attributes) side x y = TellsSide side x y
FitsMark (Some Removed) side x y = side ≡ None
FitsMark (Some Added) side x y = side ≡ None
FitsMark (Some Kind) side x y = side ≡ None

-- The sides are a map from the attributes that differ, of such paths, to the trees that have them, in the order of
-- paths and names.
pub record AreAttributeDifferences (t u : Tree) (marks : List (Path × Mark))
    (sides : List (AttributePlace × Side)) : Type 0 where
  pub rising : IsTrue (is_sorted attribute_cmp sides)
  pub each : (p : Path) (a : Name) → FitsMark (find path_cmp p marks) (find attribute_cmp (p, a) sides)
      (attribute_at t p a) (attribute_at u p a)

-- ---- what steps show of them

-- the attribute that a step gives
abbrev pub attributes_in : DumpStep → Held
attributes_in (Make p) = []
attributes_in (Write p at bytes) = []
attributes_in (Set p a bytes) = (a, bytes) ∷ []

-- the bytes that steps give an attribute, if they do
abbrev pub set_in : Name → List DumpStep → Option (List ℕ)
set_in a steps = find name_cmp a (flat_map attributes_in steps)

-- the sides are what the first steps of two dumps show
abbrev pub SidesShown : List DumpStep → List DumpStep → List (Path × Mark) → List (AttributePlace × Side) → Type 0
SidesShown first second marks sides =
    (p : Path) (a : Name) → FitsMark (find path_cmp p marks) (find attribute_cmp (p, a) sides) (set_in a (own p first))
    (set_in a (own p second))

-- an attribute is noted behind others, at a path that is marked so
abbrev pub with_attribute : List AttributeDifference → Mark → Side → Path → Name → List AttributeDifference
with_attribute held Bytes side p a = held ++ record { path = p; name = a; side = side } ∷ []
with_attribute held Attributes side p a = held ++ record { path = p; name = a; side = side } ∷ []
with_attribute held Removed side p a = held
with_attribute held Added side p a = held
with_attribute held Kind side p a = held

abbrev pub with_noted : List AttributeDifference → Mark → Side → DumpStep → List AttributeDifference
with_noted held mark side (Make p) = held
with_noted held mark side (Write p at bytes) = held
with_noted held mark side (Set p a bytes) = with_attribute held mark side p a

-- the attribute of a step is noted, at a path that has a mark by now
pub record NotesAttribute (side : Side) (c : DumpStep) (marks : List (Path × Mark))
    (old new : List AttributeDifference) : Type 0 where
  pub known : Mark
  pub known_is : find path_cmp (step_path c) marks ≡ Some known
  pub noted_is : new ≡ with_noted old known side c

abbrev pub IsAttributeNoted : {X E : Type 0} → Side → DumpStep → List (Path × Mark) → List (Path × Mark)
    → List AttributeDifference → List AttributeDifference → Result X E → Type 0
IsAttributeNoted side c marks later old new result = IsTrue (is_sorted path_cmp marks) → AreUpTo marks (step_path c)
    → OnOk result (NotesAttribute side c later old new)

-- two steps at one place are the same, and nothing is noted, or they are not, and it is noted
abbrev pub IsJudged : DumpStep → DumpStep → Differences → Differences → Type 0
IsJudged c d old new = ((c ≡ d) × (new ≡ old))
    ⊎ ((c ≡ d → ⊥) × Notes Both c d (marks_of old.paths.items) (marks_of new.paths.items)
    × NotesAttribute Both c (marks_of new.paths.items) old.attributes.items new.attributes.items)

abbrev pub Judges : {X E : Type 0} → DumpStep → DumpStep → Differences → Differences → Result X E → Type 0
Judges c d old new result = IsTrue (is_sorted path_cmp (marks_of old.paths.items))
    → AreUpTo (marks_of old.paths.items) (step_path c) → OnOk result (IsJudged c d old new)
