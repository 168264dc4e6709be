-- What a tree has below a path, with that path for the root.
use Rattle.std.specs.Prelude.{◌≡◌, ◌⊎◌, Bool, List, length, drop, map}
use Rattle.std.specs.Bool.{OnTrue}
use Rattle.std.specs.List.{filter}
use Rattle.store_model.specs.Paths.{Path, is_inside}
use Rattle.store_model.specs.Trees.{Tree, IsTree}
use Rattle.dump_streams.specs.Dumps.{DumpStep, step_path}
use Rattle.dump_streams.specs.Dumps.DumpStep.{Make, Write, Set}
use Rattle.dump_streams.specs.declared.fault.StreamFault.{StreamFault}
use Rattle.dump_streams.specs.declared.fault.StreamFault.TheVariants as streams
use Rattle.store_stream.specs.declared.rooted.RootedStream.{RootedStream}

-- The tree that has for its root what another has at a path: all that lies strictly below the path, without the path's
-- names. What stands at the path itself is left out with its attributes, as a root has neither bytes nor attributes.
unfoldable pub tree_below : Tree → Path → Tree
tree_below t path = map (λ e. (drop (length path) e.0, e.1)) (filter (λ e. is_inside e.0 path) t)

-- a step without the first names of its path
abbrev pub rooted_step : Path → DumpStep → DumpStep
rooted_step path (Make q) = Make (drop (length path) q)
rooted_step path (Write q at bytes) = Write (drop (length path) q) at bytes
rooted_step path (Set q name bytes) = Set (drop (length path) q) name bytes

-- the steps on what lies below a path, without its names
abbrev pub rooted_steps : Path → List DumpStep → List DumpStep
rooted_steps path steps = map (rooted_step path) (filter (λ s. is_inside (step_path s) path) steps)

-- a step lies below the path, and this is it without the path's names; or it does not
pub record RootsStep (path : Path) (step into : DumpStep) (result : Bool) : Type 0 where
  pub inside : result ≡ is_inside (step_path step) path
  pub into_is : OnTrue result (into ≡ rooted_step path step)

module _ {S : Type 0} where
  -- the inner stream says this of a tree of which this is what lies below the path
  pub record IsBelow (says : S → Tree → Type 0) (stream : RootedStream S) (t : Tree) : Type 0 where
    pub tree : Tree
    pub is_tree : IsTree tree
    pub says_is : says stream.stream tree
    pub below_is : t ≡ tree_below tree stream.path

  -- the inner stream told this fault, or gave more steps that do not lie below the path than are passed over
  pub record EndsBelow (came : S → Tree → Type 0) (fails : S → Tree → StreamFault → Type 0) (stream : RootedStream S)
      (t : Tree) (fault : StreamFault) : Type 0 where
    pub tree : Tree
    pub below_is : t ≡ tree_below tree stream.path
    pub why : fails stream.stream tree fault ⊎ (came stream.stream tree × (fault ≡ streams.TooLong))

  -- the path stayed
  pub record KeepsBelow (keeps : S → S → Type 0) (start now : RootedStream S) : Type 0 where
    pub path : now.path ≡ start.path
    pub stream : keeps start.stream now.stream
