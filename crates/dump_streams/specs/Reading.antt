-- What a reader of a listing knows, and what taking a step does.
use Rattle.std.specs.Prelude.{◌≡◌, ◌↔◌, ℕ, ◌+◌, ◌%◌, ◌<◌, ◌≤◌, length, List, [], ◌∷◌, ◌++◌, Bool, IsTrue, None, false}
use Rattle.std.specs.Bool.{OnTrue, OnFalse}
use Rattle.store_model.specs.Parameters.{Parameters}
use Rattle.store_model.specs.Paths.{Path, Name, is_root, fits_attribute}
use Rattle.store_model.specs.Trees.{Tree, attributes_at, file_limit, attribute_limit}
use Rattle.store_model.specs.Pages.{IsTreeUnder}
use Rattle.tree_pairs.specs.declared.kind.Kind.{Kind}
use Rattle.tree_pairs.specs.declared.kind.Kind.TheVariants as kinds
use Rattle.dump_streams.specs.Dumps.{DumpStep, after_step, dump, dump_piece}
use Rattle.tree_pairs.specs.Seen.{IsLast, IsLastName, MayFollow, MayBeNext}
use Rattle.dump_streams.specs.declared.reader.ListingReader.{ListingReader}

-- The reader has taken the dump of the tree and no other step: it knows the last entry, and the name of its last
-- attribute. A caller needs no more of this than that a new reader has taken that of the empty tree, and one that
-- took a step the dump with it.
pub record HasRead (reader : ListingReader) (t : Tree) (p : Parameters) : Type 0 where
  pub version_is : p.version ≡ reader.version
  pub under : IsTreeUnder t p
  pub last : IsLast reader.last.path reader.last.kind t
  pub last_name : IsLastName reader.attribute (attributes_at t reader.last.path)

-- the dump of the tree and one step more are the dump of the tree that the step leads to
pub record GoesOn (t : Tree) (s : DumpStep) (p : Parameters) : Type 0 where
  pub under : IsTreeUnder (after_step t s) p
  pub dump_is : dump (after_step t s) ≡ dump t ++ s ∷ []

-- no dump begins with that of the tree and the step
abbrev pub BreaksOff : Tree → DumpStep → Parameters → Type 0
BreaksOff t s p = (u : Tree) (rest : List DumpStep) → IsTreeUnder u p → dump u ≡ dump t ++ s ∷ rest → ⊥

-- A step behind those that a reader has taken. It is taken where some tree's dump begins so, and just there.
pub record AddsStep (old new : ListingReader) (s : DumpStep) (result : Bool) : Type 0 where
  pub read : (t : Tree) (p : Parameters) → HasRead old t p → OnTrue result (HasRead new (after_step t s) p)
  pub goes_on : (t : Tree) (p : Parameters) → HasRead old t p → OnTrue result (GoesOn t s p)
  pub refused : (t : Tree) (p : Parameters) → HasRead old t p → OnFalse result (BreaksOff t s p)
  pub unchanged : OnFalse result (new ≡ old)
  pub version : new.version ≡ old.version

-- an entry may stand at the path behind the last one
abbrev pub IsNextPath : ListingReader → Path → Type 0
IsNextPath reader path = (is_root path ≡ false) × MayFollow reader.last.path reader.last.kind path

-- what a reader does at the first step of an entry: it takes the entry where it may stand next, and just there
pub record AddsEntry (old new : ListingReader) (path : Path) (kind : Kind) (result : Bool) : Type 0 where
  pub next : IsTrue result ↔ IsNextPath old path
  pub taken : OnTrue result (new ≡ record {
    version = old.version;
    last = record { path = path; kind = kind };
    attribute = None;
  })
  pub unchanged : OnFalse result (new ≡ old)

-- a write adds a piece to the last file: it begins where the file ends, which is full of whole pieces and has no
-- attribute yet
pub record IsNextPiece (reader : ListingReader) (path : Path) (at : ℕ) (bytes : List ℕ) : Type 0 where
  pub path_is : path ≡ reader.last.path
  pub kind_is : reader.last.kind ≡ kinds.File at
  pub no_name : reader.attribute ≡ None
  pub whole : at % dump_piece ≡ 0
  pub some : 0 < length bytes
  pub short : length bytes ≤ dump_piece
  pub fits : at + length bytes ≤ file_limit

-- an attribute may stand behind those that the last entry has
pub record IsNextName (reader : ListingReader) (path : Path) (name : Name) (bytes : List ℕ) : Type 0 where
  pub may : MayBeNext reader.version reader.last.path reader.attribute path name
  pub below_root : is_root path ≡ false
  pub fits : IsTrue (fits_attribute path name)
  pub short : length bytes ≤ attribute_limit
