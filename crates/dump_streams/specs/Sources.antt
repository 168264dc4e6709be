-- A source that has the lines of a stream.
use Rattle.std.specs.Prelude.{◌≡◌, ℕ, true, false, List, [], ◌++◌}
use Rattle.store_model.specs.Trees.{Tree}
use Rattle.dump_streams.specs.Dumps.{dump_text}
use Rattle.script_lines.specs.SourceState.{SourceState}
use Rattle.dump_streams.specs.declared.source.ListingSource.{ListingSource}

-- the source tells how many takes failed, and no bytes
abbrev pub source_state : {S : Type 0} → ListingSource S → SourceState
source_state source = record { is_observable = false; left = []; faults = source.faults }

module _ {S : Type 0} (came whole : S → Tree → Type 0) where
  -- The bytes that were given, and those that are left of the last line, are the dump of the tree that came. At the
  -- end of the stream that is the whole dump, and nothing is left.
  pub record Gave (source : ListingSource S) (bytes : List ℕ) : Type 0 where
    pub tree : Tree
    pub text : dump_text tree ≡ bytes ++ source.line.rest
    pub going : source.is_ended ≡ false → came source.stream tree
    pub ended : source.is_ended ≡ true → whole source.stream tree × (source.line.rest ≡ [])

  -- the same bytes were given, and some are left, or the stream is at its end
  pub record IsReady (source : ListingSource S) (bytes : List ℕ) : Type 0 where
    pub gave : Gave source bytes
    pub some : source.is_ended ≡ false → source.line.rest ≡ [] → ⊥
