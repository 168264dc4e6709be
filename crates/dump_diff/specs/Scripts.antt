-- The script that leads from the first tree to the second.
use Rattle.std.specs.Prelude.{◌≡◌, ℕ, ◌<◌, List, [], ◌∷◌, ◌++◌, codes, Bool, true, false, ◌||◌, map, length}
use Rattle.std.specs.Prelude.{slice_index_or, Option, Some, None, IsTrue, Result, Ok, MatchResult}
use Rattle.std.specs.FinMap.{find, is_sorted}
use Rattle.std.specs.List.{filter, flat_map}
use Rattle.std.specs.declared.cmp.Ordering.{Ordering}
use Rattle.std.specs.Ordering.{ordering_then}
use Rattle.store_model.specs.Paths.{Path, Name, path_cmp, name_cmp, parent, path_text}
use Rattle.store_model.specs.Commands.{Command, command_text, line}
use Rattle.store_model.specs.Commands.Command.{Cut, Prune, UnsetAttribute}
use Rattle.dump_streams.specs.Dumps.{DumpStep, steps_text}
use Rattle.dump_streams.specs.Dumps.DumpStep.{Make, Write, Set}
use Rattle.dump_diff.specs.declared.removal.Removal.{Removal}
use Rattle.dump_diff.specs.declared.removal.Removal.TheVariants as removals
use Rattle.script_lines.specs.SinkState.{SinkState, IsObservable, Puts}
use Rattle.script_lines.specs.declared.fault.SinkFault.{SinkFault}
use Rattle.dump_diff.specs.declared.difference.Mark.{Mark}
use Rattle.dump_diff.specs.declared.difference.Mark.TheVariants as marks
use Rattle.dump_diff.specs.declared.difference.Side.{Side}
use Rattle.dump_diff.specs.declared.difference.Side.TheVariants as sides
use Rattle.dump_diff.specs.declared.difference.AttributeDifference.{AttributeDifference}
use Rattle.dump_diff.specs.declared.difference.Difference.{Difference}
use Rattle.dump_diff.specs.declared.differences.Differences.{Differences}
use Rattle.dump_diff.specs.declared.script.AdditionTaker.{AdditionTaker}
use Rattle.dump_streams.specs.Takers.{IsTaken}
use Rattle.dump_diff.specs.Differences.{marks_of}

-- where an attribute of a path stands among others
abbrev pub AttributePlace : Type 0
AttributePlace = Path × Name

abbrev pub attribute_cmp : AttributePlace → AttributePlace → Ordering
attribute_cmp x y = ordering_then (path_cmp x.0 y.0) (name_cmp x.1 y.1)

-- the attributes that differ, each with the trees that have it
abbrev pub sides_of : List AttributeDifference → List (AttributePlace × Side)
sides_of attributes = map (λ a. ((a.path, a.name), a.side)) attributes

-- whether what stands at a path is made anew
abbrev pub is_made : Option Mark → Bool
is_made (Some marks.Added) = true
is_made (Some marks.Kind) = true
is_made (Some marks.Removed) = false
is_made (Some marks.Bytes) = false
is_made (Some marks.Attributes) = false
is_made None = false

-- whether a file is written anew
abbrev pub is_written : Option Mark → Bool
is_written (Some marks.Added) = true
is_written (Some marks.Kind) = true
is_written (Some marks.Bytes) = true
is_written (Some marks.Removed) = false
is_written (Some marks.Attributes) = false
is_written None = false

-- whether an attribute is set
abbrev pub is_set : Option Side → Bool
is_set (Some sides.First) = false
is_set (Some sides.Second) = true
is_set (Some sides.Both) = true
is_set None = false

-- whether a step of the second dump makes or writes what the first tree has not, or has otherwise
abbrev pub is_addition : Differences → DumpStep → Bool
is_addition found (Make p) = is_made (find path_cmp p (marks_of found.paths.items))
is_addition found (Write p at bytes) = is_written (find path_cmp p (marks_of found.paths.items))
is_addition found (Set p a bytes) = is_made (find path_cmp p (marks_of found.paths.items))
    || is_set (find attribute_cmp (p, a) (sides_of found.attributes.items))

-- the differences rise by path, and their attributes by path and name
pub record AreRising (found : Differences) : Type 0 where
  pub paths : IsTrue (is_sorted path_cmp (marks_of found.paths.items))
  pub attributes : IsTrue (is_sorted attribute_cmp (sides_of found.attributes.items))

-- From one moment to a later one the lines of those of these steps were written that are additions, and nothing else.
pub record TookAdditions {W : Type 0} (sink_of : W → SinkState) (first now : AdditionTaker W)
    (steps : List DumpStep) : Type 0 where
  pub found_is : now.found ≡ first.found
  pub observable : (sink_of now.sink).is_observable ≡ (sink_of first.sink).is_observable
  pub faults : (sink_of now.sink).faults ≡ (sink_of first.sink).faults
  pub written : IsObservable (sink_of first.sink) → AreRising first.found
      → (sink_of now.sink).written ≡ (sink_of first.sink).written
      ++ steps_text (filter (is_addition first.found) steps)

-- one more step was taken
abbrev pub TakesAddition : {W E : Type 0} → (W → SinkState) → AdditionTaker W → AdditionTaker W → DumpStep
    → Result (Unit {0}) E → Type 0
TakesAddition {W} sink_of old new s result = (first : AdditionTaker W)
    → IsTaken (TookAdditions sink_of first old) (TookAdditions sink_of first new) s result

-- a search among items that rise by key finds the value of the item with the key, or that there is none
abbrev pub IsFound : {K V X : Type 0} → (K → K → Ordering) → (X → K) → (X → V) → List X → K → Result ℕ ℕ → Type 0
IsFound {K} {V} {X} R key value xs q result =
    IsTrue (is_sorted R (map (λ (x : X). (key x, value x)) xs))
    → MatchResult result (λ i. (i < length xs)
    × ((d : X) → find R q (map (λ (x : X). (key x, value x)) xs) ≡ Some (value (slice_index_or xs i d))))
    (λ i. find R q (map (λ (x : X). (key x, value x)) xs) ≡ None)

abbrev pub IsPathPlace : List Difference → Path → Result ℕ ℕ → Type 0
IsPathPlace paths q result = IsFound path_cmp (λ (d : Difference). d.path) (λ (d : Difference). d.mark) paths q result

abbrev pub IsAttributePlace : List AttributeDifference → AttributePlace → Result ℕ ℕ → Type 0
IsAttributePlace attributes q result =
    IsFound attribute_cmp (λ (a : AttributeDifference). (a.path, a.name))
    (λ (a : AttributeDifference). a.side) attributes q result

-- the whole text was put out
abbrev pub WroteText : SinkState → SinkState → List ℕ → Type 0
WroteText old new text = Puts {T = Unit {0}} {E = SinkFault} old new text (Ok tt)

-- ---- what is taken away

-- the lines of commands
abbrev pub commands_text : List Command → List ℕ
commands_text commands = flat_map (λ c. line (command_text c)) commands

-- whether what a mark is of is pruned: it is gone, or made anew
abbrev pub is_pruned : Option Mark → Bool
is_pruned (Some marks.Removed) = true
is_pruned (Some marks.Kind) = true
is_pruned (Some marks.Added) = false
is_pruned (Some marks.Bytes) = false
is_pruned (Some marks.Attributes) = false
is_pruned None = false

-- a path that is gone or made anew is pruned, unless its parent is; a file of other bytes is cut to none
abbrev pub cut_of : Bool → Mark → Path → List Command
cut_of true marks.Removed p = []
cut_of false marks.Removed p = Prune p ∷ []
cut_of true marks.Kind p = []
cut_of false marks.Kind p = Prune p ∷ []
cut_of above marks.Bytes p = Cut p 0 ∷ []
cut_of above marks.Added p = []
cut_of above marks.Attributes p = []

abbrev pub cut_commands : List (Path × Mark) → Difference → List Command
cut_commands all d = cut_of (is_pruned (find path_cmp (parent d.path) all)) d.mark d.path

-- an attribute that is gone or has other bytes is taken away
abbrev pub unset_of : Side → Path → Name → List Command
unset_of sides.First p a = UnsetAttribute p a ∷ []
unset_of sides.Both p a = UnsetAttribute p a ∷ []
unset_of sides.Second p a = []

abbrev pub unset_commands : AttributeDifference → List Command
unset_commands a = unset_of a.side a.path a.name

-- the commands that take away and cut
abbrev pub removal_commands : Differences → List Command
removal_commands found = flat_map (cut_commands (marks_of found.paths.items)) found.paths.items
    ++ flat_map unset_commands found.attributes.items

-- what a removal does
abbrev pub removal_command : Removal → Command
removal_command (removals.Prune p) = Prune p
removal_command (removals.Cut p) = Cut p 0
removal_command (removals.Unset p a) = UnsetAttribute p a

-- the command of the removal that there is, if there is one
abbrev pub commands_in : Option Removal → List Command
commands_in None = []
commands_in (Some r) = removal_command r ∷ []

-- ---- what is printed

abbrev pub letter : Mark → List ℕ
letter marks.Removed = codes "D "
letter marks.Added = codes "A "
letter marks.Kind = codes "M "
letter marks.Bytes = codes "M "
letter marks.Attributes = codes "M "

-- `D PATH`, `A PATH` or `M PATH`
unfoldable pub difference_line : Difference → List ℕ
difference_line d = line (letter d.mark ++ path_text d.path)
