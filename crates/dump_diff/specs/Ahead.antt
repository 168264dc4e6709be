-- Streams whose next step is at hand.
use Rattle.std.specs.Prelude.{◌≡◌, ℕ, ◌+◌, ◌≤◌, true, false, List, length, Option, Some, None}
use Rattle.std.specs.declared.cmp.Ordering.TheVariants.{Less, Equal}
use Rattle.store_model.specs.Trees.{Tree, IsTree}
use Rattle.dump_streams.specs.Dumps.{DumpStep}
use Rattle.dump_streams.specs.Dumps.{after_step}
use Rattle.dump_streams.specs.Dumps.{dump}
use Rattle.dump_streams.specs.Streams.{Extends}
use Rattle.dump_diff.specs.declared.heads.Head.{Head}
use Rattle.dump_diff.specs.declared.comparing.Merge.{Merge}
use Rattle.dump_diff.specs.declared.differences.Differences.{Differences}
use Rattle.std.specs.List.Sorted.{IsStrictlySortedBy}
use Rattle.std.specs.List.{filter}
use Rattle.dump_diff.specs.Scripts.{is_addition, sides_of}
use Rattle.dump_diff.specs.Keeping.{KeepsAdditions}
use Rattle.dump_diff.specs.declared.difference.Side.{Side}
use Rattle.dump_diff.specs.declared.difference.Side.TheVariants.{First, Second, Both}
use Rattle.dump_diff.specs.Differences.{AreDifferences, marks_of}
use Rattle.dump_diff.specs.Places.{place_cmp}
use Rattle.dump_diff.specs.Shown.{AreShown, AreBefore, IsBehind, places_of}
use Rattle.dump_diff.specs.Sides.{AreAttributeDifferences, SidesShown}

-- the step at hand came behind the dump of a tree
pub record IsAt (came : Tree → Type 0) (t : Tree) (c : DumpStep) : Type 0 where
  pub came_now : came (after_step t c)
  pub extends : Extends t c

-- what a stream gave before the step at hand is the dump of a tree; where there is no step, the dump is whole
pub record IsAhead (came whole : Tree → Type 0) (head : Head) (t : Tree) : Type 0 where
  pub is_tree : IsTree t
  pub there : head.is_there ≡ true → IsAt came t head.step
  pub ended : head.is_there ≡ false → whole t

-- the step stands behind what came of two dumps, and behind what is noted
pub record IsAfter (cs ds : List DumpStep) (found : Differences) (s : DumpStep) : Type 0 where
  pub behind : IsBehind cs ds (marks_of found.paths.items) s
  pub after : AreBefore (places_of found.attributes.items) s

-- what is noted is what the first steps of two dumps show, and the steps at hand stand behind them
pub record HasMerged (merge : Merge) (cs ds : List DumpStep) : Type 0 where
  pub shown : AreShown cs ds (marks_of merge.found.paths.items)
  pub sides : SidesShown cs ds (marks_of merge.found.paths.items) (sides_of merge.found.attributes.items)
  pub places_rise : IsStrictlySortedBy place_cmp (places_of merge.found.attributes.items)
  pub first : merge.first.is_there ≡ true → IsAfter cs ds merge.found merge.first.step
  pub second : merge.second.is_there ≡ true → IsAfter cs ds merge.found merge.second.step
  pub kept : merge.kept.is_on ≡ true → KeepsAdditions merge.found merge.kept ds

-- these are the dumps of two trees
abbrev pub IsMerged : Merge → Tree → Tree → Type 0
IsMerged merge t u = HasMerged merge (dump t) (dump u)

-- the steps that came of two streams before those at hand are the dumps of two trees, and the marks are what these
-- show
pub record IsBetween (came whole came' whole' : Tree → Type 0) (merge : Merge) (t u : Tree) : Type 0 where
  pub first : IsAhead came whole merge.first t
  pub second : IsAhead came' whole' merge.second u
  pub merged : IsMerged merge t u

-- some trees have dumps that came of the two streams before the steps at hand: so many steps at least
pub record IsBetweenSome (came whole came' whole' : Tree → Type 0) (merge : Merge) (count : ℕ) : Type 0 where
  pub one : Tree
  pub other : Tree
  pub between : IsBetween came whole came' whole' merge one other
  pub many : count ≤ length (dump one) + length (dump other)

-- what two whole dumps differ in
pub record AreFound (whole whole' : Tree → Type 0) (found : Differences) : Type 0 where
  pub one : Tree
  pub other : Tree
  pub first : whole one
  pub second : whole' other
  pub differences : AreDifferences one other (marks_of found.paths.items)
  pub attributes : AreAttributeDifferences one other (marks_of found.paths.items) (sides_of found.attributes.items)

-- and what is kept then, where anything is
pub record AreMerged (whole whole' : Tree → Type 0) (merge : Merge) : Type 0 where
  pub trees : AreFound whole whole' merge.found
  pub one_is : IsTree trees.one
  pub other_is : IsTree trees.other
  pub kept : merge.kept.is_on ≡ true → KeepsAdditions merge.found merge.kept (dump trees.other)

-- what two whole dumps differ in, and the steps of the second that are additions
pub record AreFoundWith (whole whole' : Tree → Type 0) (found : Differences) (additions : List DumpStep) : Type 0 where
  pub trees : AreFound whole whole' found
  pub one_is : IsTree trees.one
  pub other_is : IsTree trees.other
  pub kept : additions ≡ filter (is_addition found) (dump trees.other)

-- the step whose place is the lower one: that of one stream, or those of both
abbrev pub IsSideOf : Merge → Option Side → Type 0
IsSideOf merge None = (merge.first.is_there ≡ false) × (merge.second.is_there ≡ false)
IsSideOf merge (Some First) = (merge.first.is_there ≡ true)
    × (merge.second.is_there ≡ true → place_cmp merge.first.step merge.second.step
    ≡ Less)
IsSideOf merge (Some Second) = (merge.second.is_there ≡ true)
    × (merge.first.is_there ≡ true → place_cmp merge.second.step merge.first.step
    ≡ Less)
IsSideOf merge (Some Both) = (merge.first.is_there ≡ true) × (merge.second.is_there ≡ true)
    × (place_cmp merge.first.step merge.second.step ≡ Equal)
