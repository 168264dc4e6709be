-- What the first steps of two dumps show of the differences.
use Rattle.std.specs.Prelude.{◌≡◌, List, [], ◌∷◌, ◌++◌, map, Bool, true, false, not, Option, Some, None, IsTrue, ◌⊎◌}
use Rattle.std.specs.Prelude.{Result, OnOk, IfOk, MatchOption}
use Rattle.std.specs.Ordering.{eq_by_cmp, is_le}
use Rattle.std.specs.FinMap.{find, is_sorted}
use Rattle.std.specs.List.{filter, AllByRecursion, Contains}
use Rattle.std.specs.declared.cmp.Ordering.TheVariants.{Less}
use Rattle.store_model.specs.Paths.{Path, path_cmp}
use Rattle.dump_streams.specs.Dumps.{DumpStep, step_path}
use Rattle.dump_streams.specs.Dumps.DumpStep.{Make, Write, Set}
use Rattle.dump_diff.specs.declared.difference.Mark.{Mark}
use Rattle.dump_diff.specs.declared.difference.Mark.TheVariants.{Removed, Added, Kind, Bytes, Attributes}
use Rattle.dump_diff.specs.declared.difference.Side.{Side}
use Rattle.dump_diff.specs.declared.difference.AttributeDifference.{AttributeDifference}
use Rattle.dump_diff.specs.declared.difference.Side.TheVariants.{First, Second, Both}
use Rattle.dump_diff.specs.Places.{place_cmp, makes, writes, sets, is_first}

-- the steps on a path
abbrev pub own : Path → List DumpStep → List DumpStep
own p steps = filter (λ c. eq_by_cmp path_cmp p (step_path c)) steps

-- whether the first of steps makes a directory, if there is one
abbrev pub begins : List DumpStep → Option Bool
begins [] = None
begins (c ∷ cs) = Some (makes c)

-- those that set no attribute
abbrev pub node_part : List DumpStep → List DumpStep
node_part steps = filter (λ c. not (sets c)) steps

-- some step of this sort stands in the first list alone
pub record HasAlone (test : DumpStep → Bool) (cs ds : List DumpStep) : Type 0 where
  pub step : DumpStep
  pub is_such : test step ≡ true
  pub here : Contains cs step
  pub not_there : Contains ds step → ⊥

-- one of the lists has a step of this sort alone
abbrev pub AreApart : (DumpStep → Bool) → List DumpStep → List DumpStep → Type 0
AreApart test cs ds = HasAlone test cs ds ⊎ HasAlone test ds cs

-- one list begins with a directory, and the other with a file
abbrev pub ShowKinds : List DumpStep → List DumpStep → Type 0
ShowKinds cs ds = ((begins cs ≡ Some true) × (begins ds ≡ Some false))
    ⊎ ((begins cs ≡ Some false) × (begins ds ≡ Some true))

-- both begin with a file, and a write stands in one of them alone
pub record ShowBytes (cs ds : List DumpStep) : Type 0 where
  pub first : begins cs ≡ Some false
  pub second : begins ds ≡ Some false
  pub apart : AreApart writes cs ds

-- both have the same before their attributes, and one of these stands in one of them alone
pub record ShowAttributes (cs ds : List DumpStep) : Type 0 where
  pub first : cs ≡ [] → ⊥
  pub second : ds ≡ [] → ⊥
  pub node : node_part cs ≡ node_part ds
  pub apart : AreApart sets cs ds

-- what the steps on a path show
abbrev pub ShowsMark : Mark → List DumpStep → List DumpStep → Type 0
ShowsMark Removed cs ds = (cs ≡ [] → ⊥) × (ds ≡ [])
ShowsMark Added cs ds = (cs ≡ []) × (ds ≡ [] → ⊥)
ShowsMark Kind cs ds = ShowKinds cs ds
ShowsMark Bytes cs ds = ShowBytes cs ds
ShowsMark Attributes cs ds = ShowAttributes cs ds

abbrev pub Shows : Option Mark → List DumpStep → List DumpStep → Type 0
Shows None cs ds = cs ≡ ds
Shows (Some mark) cs ds = ShowsMark mark cs ds

-- the marks are what the first steps of two dumps show
pub record AreShown (first second : List DumpStep) (marks : List (Path × Mark)) : Type 0 where
  pub rising : IsTrue (is_sorted path_cmp marks)
  pub each : (p : Path) → Shows (find path_cmp p marks) (own p first) (own p second)

-- all steps stand before this one
abbrev pub AreBefore : List DumpStep → DumpStep → Type 0
AreBefore steps c = AllByRecursion (λ d. place_cmp d c ≡ Less) steps

-- no mark is behind a path
abbrev pub AreUpTo : List (Path × Mark) → Path → Type 0
AreUpTo marks p = AllByRecursion (λ m. is_le (path_cmp m.0 p) ≡ true) marks

-- what came of two dumps stands before this step, and the marks are not behind it
pub record IsBehind (first second : List DumpStep) (marks : List (Path × Mark)) (c : DumpStep) : Type 0 where
  pub first_before : AreBefore first c
  pub second_before : AreBefore second c
  pub marked : AreUpTo marks (step_path c)

-- the step that is noted: the one that stands alone, or the first of two
abbrev pub noted : Side → DumpStep → DumpStep → DumpStep
noted First c d = c
noted Second c d = d
noted Both c d = c

-- how entries differ of which one has a step alone that is not the first
abbrev pub change_of : DumpStep → Mark
change_of (Make p) = Kind
change_of (Write p at bytes) = Bytes
change_of (Set p a bytes) = Attributes

-- how entries differ that have other steps at one place
abbrev pub change_of_two : DumpStep → DumpStep → Mark
change_of_two (Write p at bytes) (Write q offset others) = Bytes
change_of_two (Set p a bytes) d = Attributes
change_of_two _ _ = Kind

-- the mark of the path of a step that stands alone, or of two other steps at one place
abbrev pub FitsSide : Side → DumpStep → DumpStep → Mark → Type 0
FitsSide First c d m = (is_first c ≡ true → m ≡ Removed) × (is_first c ≡ false → m ≡ change_of c)
FitsSide Second c d m = (is_first d ≡ true → m ≡ Added) × (is_first d ≡ false → m ≡ change_of d)
FitsSide Both c d m = m ≡ change_of_two c d

-- a path is marked, if it is not, behind all others
pub record IsMarked (old new : List (Path × Mark)) (p : Path) (mark : Mark) : Type 0 where
  pub there : (m : Mark) → find path_cmp p old ≡ Some m → new ≡ old
  pub added : find path_cmp p old ≡ None → new ≡ old ++ (p, mark) ∷ []

-- and then its mark is this one
pub record MarksPath (old new : List (Path × Mark)) (p : Path) (mark known : Mark) : Type 0 where
  pub marked : IsMarked old new p mark
  pub known_is : find path_cmp p new ≡ Some known

-- marking a path that is not before the others
abbrev pub Marks : {E : Type 0} → List (Path × Mark) → List (Path × Mark) → Path → Mark → Result Mark E → Type 0
Marks old new p mark result = IsTrue (is_sorted path_cmp old) → AreUpTo old p → IfOk result (MarksPath old new p mark)

-- noting what stands alone, or two other steps
pub record Notes (side : Side) (c d : DumpStep) (old new : List (Path × Mark)) : Type 0 where
  pub mark : Mark
  pub fits : FitsSide side c d mark
  pub marked : IsMarked old new (step_path (noted side c d)) mark

abbrev pub IsNoted : {X E : Type 0} → Side → DumpStep → DumpStep → List (Path × Mark)
    → List (Path × Mark) → Result X E → Type 0
IsNoted side c d old new result = IsTrue (is_sorted path_cmp old) → AreUpTo old (step_path (noted side c d))
    → OnOk result (Notes side c d old new)

-- whether a path that is not before the others has a mark: it is the last then
abbrev pub IsLastMark : List (Path × Mark) → Path → Option Mark → Type 0
IsLastMark marks p result = IsTrue (is_sorted path_cmp marks)
    → MatchOption result (AreUpTo marks p → find path_cmp p marks ≡ None) (λ m. find path_cmp p marks ≡ Some m)

-- ---- attributes that differ

-- the places of attributes that differ, as steps that set them
abbrev pub places_of : List AttributeDifference → List DumpStep
places_of attributes = map (λ a. Set a.path a.name []) attributes
