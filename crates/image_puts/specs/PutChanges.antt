-- The changes of a put, as a stream over that of the source.
use Rattle.std.specs.Prelude.{◌≡◌, ◌⊎◌, List, [], ◌∷◌, ◌++◌, map, Bool, true, false, Option, Some, None, MatchOption}
use Rattle.store_model.specs.Paths.{Path, is_root, fits_field}
use Rattle.store_model.specs.Trees.{Tree, Entry, IsTree, empty_tree, is_directory, is_directory_node}
use Rattle.store_model.specs.Commands.{Command as commands}
use Rattle.staged_tree.specs.declared.guards.When.{When}
use Rattle.staged_tree.specs.declared.guards.When.TheVariants as whens
use Rattle.staged_tree.specs.Guards.{Guarded, is_due_at, path_of}
use Rattle.dump_streams.specs.Dumps.{DumpStep, after_step, step_path}
use Rattle.dump_streams.specs.Dumps.DumpStep.{Make, Write, Set}
use Rattle.dump_streams.specs.Streams.{Extends}
use Rattle.dump_streams.specs.declared.fault.StreamFault.{StreamFault}
use Rattle.dump_streams.specs.declared.fault.StreamFault.TheVariants as streams
use Rattle.tree_changes.specs.Conditional.{Conditional, always_done, done_at_no_directory}
use Rattle.tree_changes.specs.Folders.{way_from}
use Rattle.tree_changes.specs.Puts.{put_step, put_changes, HasRoomBelow}
use Rattle.image_changes.specs.PathChanges.{EndsAt}
use Rattle.image_puts.specs.declared.fault.PutFault.{PutFault}
use Rattle.image_puts.specs.declared.fault.PutFault.TheVariants as faults
use Rattle.image_puts.specs.declared.put_changes.PutChanges.{PutChanges}

-- a change under a guard, as the definitions of the words have it
abbrev pub conditional_of : Guarded → Conditional
conditional_of g = record { due = is_due_at g.when; change = g.change }

-- the change that is still to be given of a step, at this place if any: the write behind what makes room for it
abbrev pub write_of : Path → DumpStep → List Conditional
write_of place (Make y) = []
write_of place (Write y at bytes) = always_done (commands.Write place at bytes) ∷ []
write_of place (Set y name bytes) = []

abbrev pub pending_of : Option Path → DumpStep → List Conditional
pending_of None s = []
pending_of (Some place) s = write_of place s

-- whether the last path of a tree is a directory
abbrev pub EndsIn : Tree → Bool → Type 0
EndsIn u is = (before : Tree) (path : Path) (entry : Entry) → u ≡ before ++ (path, entry) ∷ []
    → is ≡ is_directory_node (Some entry.node)

module _ {S : Type 0} where
  -- what is still to be given of what came of the source: the rest of the way to the place, or a write
  abbrev pub left_of : PutChanges S → Path → List Conditional
  left_of stream rest = map (λ q. done_at_no_directory (commands.Make q)) (way_from stream.way.front rest)
      ++ pending_of stream.pending stream.step

  -- The dump of a tree came of the source, and its changes are these and what is still to be given.
  pub record HasPut (came : S → Tree → Type 0) (stream : PutChanges S) (changes : List Guarded) : Type 0 where
    pub tree : Tree
    pub is_tree : IsTree tree
    pub came_is : came stream.source tree
    pub room : HasRoomBelow stream.to tree
    pub ends_in : EndsIn tree stream.is_directory
    pub rest : Path
    pub way_is : stream.way.path ≡ stream.way.front ++ rest
    pub to_is : stream.way.path ≡ stream.to
    -- while the way goes on nothing came
    pub early : is_root rest ≡ false → (tree ≡ empty_tree) × (stream.pending ≡ None)
    pub changes_are : map conditional_of changes ++ left_of stream rest
        ≡ put_changes stream.replaces stream.to stream.fresh.items tree

  -- the same, and the way to the place is at its end
  pub record HasPutSteps (came : S → Tree → Type 0) (stream : PutChanges S) (changes : List Guarded) : Type 0 where
    pub put : HasPut came stream changes
    pub ended : put.rest ≡ []

  -- the same as the first, and the last change is on this path
  pub record HasPutAt (came : S → Tree → Type 0) (stream : PutChanges S) (changes : List Guarded) : Type 0 where
    pub put : HasPut came stream changes
    pub ends : EndsAt changes stream.last

  -- the source told that its dump is whole, and all its changes came
  pub record HasPutAll (whole : S → Tree → Type 0) (stream : PutChanges S) (changes : List Guarded) : Type 0 where
    pub tree : Tree
    pub is_tree : IsTree tree
    pub whole_is : whole stream.source tree
    pub room : HasRoomBelow stream.to tree
    pub changes_are : map conditional_of changes ≡ put_changes stream.replaces stream.to stream.fresh.items tree

  -- a path of the source has no room at its place
  pub record IsTooLong (came : S → Tree → Type 0) (source : S) (to path : Path) : Type 0 where
    pub tree : Tree
    pub step : DumpStep
    pub came_is : came source (after_step tree step)
    pub extends : Extends tree step
    pub path_is : path ≡ step_path step
    pub long : fits_field (to ++ path) ≡ false

  -- why a source is not put to its end: it told a fault, or gave more steps without a change than are passed over, or a
  -- path is too long
  abbrev pub FailsPut : (S → Tree → Type 0) → (S → Tree → StreamFault → Type 0) → S → Path → PutFault → Type 0
  FailsPut came fails source to (faults.Source fault) =
      (tree : Tree) × (fails source tree fault ⊎ (came source tree × (fault ≡ streams.TooLong)))
  FailsPut came fails source to (faults.TooLong path) = IsTooLong came source to path

  abbrev pub EndsPut : (S → Tree → Type 0) → (S → Tree → StreamFault → Type 0) → PutChanges S → PutFault → Type 0
  EndsPut came fails stream fault = FailsPut came fails stream.source stream.to fault

  -- The second moment came of the first: what the first one's source came of, the second one's did.
  pub record KeepsPut (keeps : S → S → Type 0) (start stream : PutChanges S) : Type 0 where
    pub source : (first : S) → keeps first start.source → keeps first stream.source
    pub to : stream.to ≡ start.to
    pub replaces : stream.replaces ≡ start.replaces
    pub fresh : stream.fresh ≡ start.fresh

-- ---- one step

-- the change that a file begins with
abbrev pub room_change : Bool → Path → commands
room_change true place = commands.Remove place
room_change false place = commands.Make place

-- the change that was given, if one was
abbrev pub given_of : Option When → commands → List Conditional
given_of None c = []
given_of (Some when) c = conditional_of (record { when = when; change = c }) ∷ []

-- whether the last path is a directory behind a step
abbrev pub kind_after : DumpStep → Bool → Bool
kind_after (Make y) was = true
kind_after (Write y at bytes) was = false
kind_after (Set y name bytes) was = was

-- of a step that sets an attribute it is known whether its path is a directory
abbrev pub KnowsKind : Tree → DumpStep → Bool → Type 0
KnowsKind u (Make y) is = Unit {0}
KnowsKind u (Write y at bytes) is = Unit {0}
KnowsKind u (Set y name bytes) is = is_directory u y ≡ is

-- The first change of a step is given at its place, or the step has none.
pub record BeginsStep {S : Type 0} (old new : PutChanges S) (place : Path) (change : commands)
    (result : Option When) : Type 0 where
  pub source : new.source ≡ old.source
  pub to : new.to ≡ old.to
  pub replaces : new.replaces ≡ old.replaces
  pub fresh : new.fresh ≡ old.fresh
  pub way : new.way ≡ old.way
  pub step : new.step ≡ old.step
  pub kind : new.is_directory ≡ kind_after old.step old.is_directory
  pub last : MatchOption result (new.pending ≡ None) (λ when. (new.last ≡ place) × (path_of change ≡ place))
  pub changes : (u : Tree) → place ≡ old.to ++ step_path old.step → KnowsKind u old.step old.is_directory
      → given_of result change ++ pending_of new.pending old.step
      ≡ put_step old.replaces old.to old.fresh.items u old.step

-- the write of a step is given at its place, or it has none
abbrev pub GivesWrite : Path → DumpStep → commands → Bool → Type 0
GivesWrite place s change true = (conditional_of (record { when = whens.Always; change = change }) ∷ []
    ≡ write_of place s)
    × (path_of change ≡ place)
GivesWrite place s change false = write_of place s ≡ []
