-- The dump of a tree: the steps that make it, in one order and one form. And listings: scripts that say a dump.
use Rattle.std.specs.Prelude.{◌≡◌, ℕ, ◌*◌, List, [], ◌∷◌, ◌++◌, map, Result, Ok}
use Rattle.std.specs.List.{flat_map, enumerate_from}
use Rattle.store_model.specs.declared.refusal.Refusal.{Refusal}
use Rattle.store_model.specs.Lists.{runs}
use Rattle.store_model.specs.Parameters.{Parameters}
use Rattle.store_model.specs.Paths.{Path, Name}
use Rattle.store_model.specs.Trees.{Tree, Node, Entry, Attributes}
use Rattle.store_model.specs.Trees.Node.{Directory, File}
use Rattle.store_model.specs.Pages.{IsTreeUnder}
use Rattle.store_model.specs.Commands.{Command, command_text, line}
use Rattle.store_model.specs.Steps.{next_tree}
use Rattle.store_model.specs.Scripts.{lines, reading}

-- A step of a dump: it makes a directory, writes bytes into a file from an offset on, or gives a path an attribute.
pub data DumpStep : Type 0 where
  Make : Path → DumpStep
  Write : Path → ℕ → List ℕ → DumpStep
  Set : Path → Name → List ℕ → DumpStep

-- the command that carries a step out
abbrev pub command_of_step : DumpStep → Command
command_of_step (Make path) = Command.Make path
command_of_step (Write path at bytes) = Command.Write path at bytes
command_of_step (Set path name bytes) = Command.SetAttribute path name bytes

-- the path that it is on
abbrev pub step_path : DumpStep → Path
step_path (Make path) = path
step_path (Write path at bytes) = path
step_path (Set path name bytes) = path

-- the tree behind a step
abbrev pub after_step : Tree → DumpStep → Tree
after_step t s = next_tree t (command_of_step s)

-- the most bytes that one line of a dump writes
abbrev pub dump_piece : ℕ
dump_piece = 2048

-- the steps that write a file: one for each piece of its bytes, the last one shorter, and one that writes nothing for
-- an empty file
unfoldable pub file_steps : Path → List ℕ → List DumpStep
file_steps path [] = Write path 0 [] ∷ []
file_steps path (b ∷ bytes) = map (λ piece. Write path (dump_piece * piece.0) piece.1)
    (enumerate_from 0 (runs dump_piece (b ∷ bytes)))

abbrev pub node_steps : Path → Node → List DumpStep
node_steps path Directory = Make path ∷ []
node_steps path (File bytes) = file_steps path bytes

-- the steps that give a path its attributes, in the order of names
unfoldable pub attribute_steps : Path → Attributes → List DumpStep
attribute_steps path attributes = map (λ a. Set path a.0 a.1) attributes

-- the steps of an entry: those that make what stands at the path, and behind them those of its attributes
abbrev pub entry_steps : Path → Entry → List DumpStep
entry_steps path entry = node_steps path entry.node ++ attribute_steps path entry.attributes

-- the steps of a tree, path after path in their order
unfoldable pub dump : Tree → List DumpStep
dump t = flat_map (λ e. entry_steps e.0 e.1) t

-- the text of a step, and its line
abbrev pub step_text : DumpStep → List ℕ
step_text s = command_text (command_of_step s)

abbrev pub step_line : DumpStep → List ℕ
step_line s = line (step_text s)

-- the lines of steps
unfoldable pub steps_text : List DumpStep → List ℕ
steps_text steps = flat_map step_line steps

-- the dump of a tree as bytes
abbrev pub dump_text : Tree → List ℕ
dump_text t = steps_text (dump t)

-- what lines ask for that ask for these steps
abbrev pub readings : List DumpStep → List (Result Command Refusal)
readings steps = map (λ s. Ok (command_of_step s)) steps

-- The lines of a script are a listing of the tree: what they ask for are the steps of its dump, one after another. So
-- digits may be of either case, empty lines may stand between, and the last LF may be missing.
abbrev pub IsListing : Tree → List ℕ → Type 0
IsListing t script = map reading (lines script) ≡ readings (dump t)

-- a script is a listing of some tree that an image with these parameters may hold
pub record ListsSome (p : Parameters) (script : List ℕ) : Type 0 where
  pub tree : Tree
  pub under : IsTreeUnder tree p
  pub listing : IsListing tree script
