-- What a stream of what the host can have gives of each step of a dump, and what is said of such a stream.
use Rattle.std.specs.Prelude.{◌≡◌, ◌⊎◌, ℕ, ◌+◌, ◌≤◌, Bool, true, false, ◌&&◌, ◌==◌, List, [], ◌∷◌, ◌++◌, length, Option}
use Rattle.std.specs.Prelude.{Result, Ok, Err}
use Rattle.std.specs.Prelude.{if◌then◌else◌}
use Rattle.store_model.specs.Paths.{Path}
use Rattle.store_model.specs.Trees.{Tree, IsTree}
use Rattle.dump_streams.specs.Dumps.{DumpStep, after_step, dump}
use Rattle.dump_streams.specs.Dumps.DumpStep.{Make, Write, Set}
use Rattle.dump_streams.specs.declared.fault.StreamFault.{StreamFault}
use Rattle.dump_streams.specs.Draining.{IsTooLong}
use Rattle.dump_streams.specs.Streams.{Extends}
use Rattle.host_builder.specs.declared.attribute.Wanted.{Wanted}
use Rattle.host_builder.specs.declared.attribute.HostAttribute.{HostAttribute}
use Rattle.host_builder.specs.declared.viewed.Spot.{Spot}
use Rattle.host_builder.specs.declared.viewed.Spot.TheVariants as spots
use Rattle.host_builder.specs.declared.viewed.Turn.{Turn}
use Rattle.host_builder.specs.declared.viewed.Turn.TheVariants as turns
use Rattle.host_builder.specs.declared.viewed.HostViewStream.{HostViewStream}
use Rattle.host_builder.specs.HostAttributes.{attribute_of}
use Rattle.host_builder.specs.Passing.{is_passed}
use Rattle.host_builder.specs.Views.{folder_has, file_has, link_has, leaves_links, host_view}

-- ---- one step

-- what is held back: an empty file that may be a link
abbrev pub held_step : Spot → List DumpStep
held_step spots.Nothing = []
held_step spots.Folder = []
held_step (spots.File is_empty) = []
held_step (spots.Held path) = Write path 0 [] ∷ []

-- whether a step tells that what is held back is no link: another entry, or an attribute that no link has
abbrev pub tells_file : Wanted → DumpStep → Bool
tells_file wanted (Make path) = true
tells_file wanted (Write path at bytes) = true
tells_file wanted (Set path name bytes) = file_has wanted (attribute_of name bytes)

abbrev pub settles : Wanted → Spot → DumpStep → Bool
settles wanted spots.Nothing s = false
settles wanted spots.Folder s = false
settles wanted (spots.File is_empty) s = false
settles wanted (spots.Held path) s = tells_file wanted s

-- then it is given before the step
abbrev pub flushed : Wanted → Spot → DumpStep → List DumpStep
flushed wanted spot s = if settles wanted spot s then held_step spot else []

abbrev pub settled : Wanted → Spot → DumpStep → Spot
settled wanted spot s = if settles wanted spot s then spots.File true else spot

-- where the stream is behind a write, and whether that is given at once
abbrev pub write_at : Wanted → Path → Bool → Spot × Bool
write_at wanted path is_empty = if is_empty && leaves_links wanted.links then (spots.Held path, false)
    else (spots.File is_empty, true)

-- the same of an attribute: of a link nothing is given but where it leads
abbrev pub set_at : Wanted → Spot → Option HostAttribute → Spot × Bool
set_at wanted spots.Nothing told = (spots.Nothing, false)
set_at wanted spots.Folder told = (spots.Folder, folder_has wanted told)
set_at wanted (spots.File is_empty) told = if is_empty && link_has wanted told then (spots.Nothing, true)
    else (spots.File is_empty, file_has wanted told)
set_at wanted (spots.Held path) told = if link_has wanted told then (spots.Nothing, false) else (spots.Held path, false)

abbrev pub pass : Wanted → Spot → DumpStep → Spot × Bool
pass wanted spot (Make path) = if is_passed wanted path then (spots.Folder, true) else (spots.Nothing, false)
pass wanted spot (Write path at bytes) = if is_passed wanted path then write_at wanted path
    (at == 0 && length bytes == 0)
    else (spots.Nothing, false)
pass wanted spot (Set path name bytes) = set_at wanted spot (attribute_of name bytes)

-- ---- steps

abbrev pub given_of : Wanted → Spot → DumpStep → List DumpStep
given_of wanted spot s = flushed wanted spot s ++ (if (pass wanted (settled wanted spot s) s).1 then s ∷ [] else [])

abbrev pub spot_after : Wanted → Spot → DumpStep → Spot
spot_after wanted spot s = (pass wanted (settled wanted spot s) s).0

abbrev pub given : Wanted → Spot → List DumpStep → List DumpStep
given wanted spot [] = []
given wanted spot (s ∷ steps) = given_of wanted spot s ++ given wanted (spot_after wanted spot s) steps

abbrev pub spot_by : Wanted → Spot → List DumpStep → Spot
spot_by wanted spot [] = spot
spot_by wanted spot (s ∷ steps) = spot_by wanted (spot_after wanted spot s) steps

-- ---- the stream

-- a step is at hand behind these, and what it settles was given
pub record IsAtHand {S : Type 0} (stream : HostViewStream S) (all front : List DumpStep) (t : Tree) : Type 0 where
  pub all_is : all ≡ front ++ stream.step ∷ []
  pub spot_is : stream.spot ≡ settled stream.wanted (spot_by stream.wanted spots.Nothing front) stream.step
  pub given_is : dump t ≡ given stream.wanted spots.Nothing front
      ++ flushed stream.wanted (spot_by stream.wanted spots.Nothing front) stream.step

-- no step is at hand
pub record IsBehind {S : Type 0} (stream : HostViewStream S) (all front : List DumpStep) (t : Tree) : Type 0 where
  pub all_is : all ≡ front
  pub spot_is : stream.spot ≡ spot_by stream.wanted spots.Nothing front
  pub given_is : dump t ≡ given stream.wanted spots.Nothing front

-- Of the steps that came of the inner stream the first were judged, and what is given of them is the dump of the tree.
pub record IsGoing {S : Type 0} (stream : HostViewStream S) (all front : List DumpStep) (t : Tree) : Type 0 where
  pub hand : stream.is_at_hand ≡ true → IsAtHand stream all front t
  pub none : stream.is_at_hand ≡ false → IsBehind stream all front t

module _ {S : Type 0} where
  -- The inner stream gave the dump of a tree, and of that dump these steps were given. So many were judged at least.
  pub record IsViewing (came : S → Tree → Type 0) (stream : HostViewStream S) (t : Tree) (count : ℕ) : Type 0 where
    pub tree : Tree
    pub is_tree : IsTree tree
    pub view_is_tree : IsTree t
    pub came_is : came stream.stream tree
    pub front : List DumpStep
    pub many : count ≤ length front
    pub going : IsGoing stream (dump tree) front t

  -- the inner stream told that its dump is whole, and this is what the host can have of its tree
  pub record IsWholeView (whole : S → Tree → Type 0) (stream : HostViewStream S) (t : Tree) : Type 0 where
    pub tree : Tree
    pub is_tree : IsTree tree
    pub whole_is : whole stream.stream tree
    pub view_is : t ≡ host_view stream.wanted tree

  -- the steps that came are the dump of this tree, and so many were judged in a row
  pub record ViewBy (came whole : S → Tree → Type 0) (stream : HostViewStream S) (t : Tree) (count : ℕ) : Type 0 where
    pub going : stream.is_ended ≡ false → IsViewing came stream t count
    pub ended : stream.is_ended ≡ true → IsWholeView whole stream t × (count ≡ 0)

  abbrev pub CameOfView : (S → Tree → Type 0) → (S → Tree → Type 0) → HostViewStream S → Tree → Type 0
  CameOfView came whole stream t = ViewBy came whole stream t 0

  -- the inner stream told this fault after the dump of a tree, or gave too many steps; what was given is the front of
  -- what the host can have of that tree
  pub record EndsView (came : S → Tree → Type 0) (fails : S → Tree → StreamFault → Type 0) (stream : HostViewStream S)
      (t : Tree) (fault : StreamFault) : Type 0 where
    pub tree : Tree
    pub is_tree : IsTree tree
    pub rest : List DumpStep
    pub front : dump (host_view stream.wanted tree) ≡ dump t ++ rest
    pub why : fails stream.stream tree fault ⊎ IsTooLong came stream.stream tree fault

  -- what is wanted stayed
  pub record KeepsView (keeps : S → S → Type 0) (start now : HostViewStream S) : Type 0 where
    pub wanted : now.wanted ≡ start.wanted
    pub stream : keeps start.stream now.stream

  -- ---- on the way

  -- a step was given that goes on with the dump of the tree
  pub record ViewsOn (came whole : S → Tree → Type 0) (stream : HostViewStream S) (t : Tree) (s : DumpStep)
      : Type 0 where
    pub came_is : CameOfView came whole stream (after_step t s)
    pub extends : Extends t s

  -- what one more step gave
  abbrev pub TurnsView : (S → Tree → Type 0) → (S → Tree → Type 0) → (S → Tree → StreamFault → Type 0)
      → HostViewStream S → Tree → ℕ → DumpStep → Result Turn StreamFault → Type 0
  TurnsView came whole fails stream t count s (Ok turns.Step) = ViewsOn came whole stream t s
  TurnsView came whole fails stream t count s (Ok turns.More) = ViewBy came whole stream t (count + 1)
  TurnsView came whole fails stream t count s (Ok turns.End) = IsWholeView whole stream t
  TurnsView came whole fails stream t count s (Err fault) = EndsView came fails stream t fault

-- what is held back is given, and else this is answered
abbrev pub GivesHeld : Spot → DumpStep → Turn → Turn → Type 0
GivesHeld spots.Nothing s otherwise result = result ≡ otherwise
GivesHeld spots.Folder s otherwise result = result ≡ otherwise
GivesHeld (spots.File is_empty) s otherwise result = result ≡ otherwise
GivesHeld (spots.Held path) s otherwise result = (s ≡ Write path 0 []) × (result ≡ turns.Step)

-- a step is passed on, or is not
abbrev pub PassesOn : DumpStep → DumpStep → Bool → Turn → Type 0
PassesOn s into true result = (into ≡ s) × (result ≡ turns.Step)
PassesOn s into false result = result ≡ turns.More
