-- The first pair of a place: which place it is of, and the step that it gives.
use Rattle.std.proofs.Common.{◌≡◌, ℕ, ◌<◌, ◌≤◌, Bool, true, false, List, [], ◌∷◌, length, Option, Some, None, refl, sym}
use Rattle.std.proofs.Common.{ap, ap₂, subst, ◌∙◌, ◌+◌, ◌/◌, ◌++◌, arith, IsTrue, Ordering, Less, Equal, Greater}
use Rattle.std.specs.Ordering.{ordering_then}
use Rattle.std.specs.Cmp.{tied_itself}
use Rattle.std.specs.Cmp.Lexicographic.{nat_list_cmp_total}
use Rattle.std.specs.List.{list_all}
use Rattle.store_model.specs.declared.version.Version.{Version}
use Rattle.store_model.specs.Parameters.{Parameters}
use Rattle.store_model.specs.Paths.{Path, Name, is_name, is_path, is_place, is_attribute_name, fits_field}
use Rattle.store_model.specs.Paths.{fits_attribute, attribute_place, attribute_key, key, key_cmp, path_cmp}
use Rattle.store_model.specs.Trees.{Node, IsNode, attribute_limit, file_limit, contents_of}
use Rattle.store_model.specs.Trees.Node.{Directory, File}
use Rattle.store_model.specs.Pairs.{Pair, is_inline, inline_value, attribute_value}
use Rattle.store_model.proofs.ListsLemmas.{first_true}
use Rattle.store_model.proofs.PathsLemmas.{place_of_path, place_of_attribute, order_of_keys}
use Rattle.store_model.proofs.PathsLemmasPlaces.{attribute_is_no_path, same_attribute_place}
use Rattle.store_model.proofs.TreesLemmasPaths.{same_from_tie}
use Rattle.path_keys.specs.Reading.{HasNoAttribute}
use Rattle.tree_pairs.specs.declared.kind.Kind.TheVariants as kinds
use Rattle.tree_pairs.specs.Kinds.{kind_of, file_first, first_value, LacksBytes}
use Rattle.dump_streams.specs.Dumps.{DumpStep, node_steps, file_steps}
use Rattle.dump_streams.specs.Dumps.DumpStep.{Make, Write, Set}
use Rattle.dump_streams.specs.Listed.{blocks_from}
use Rattle.dump_streams.proofs.ListedBlocks.{block_none}
use Rattle.dump_streams.proofs.PieceLemmas.{one_piece}
use Rattle.dump_streams.specs.declared.maker.OpenFile.{OpenFile}
use Rattle.dump_streams.specs.declared.maker.StepMaker.{StepMaker}
use Rattle.dump_streams.specs.declared.taken.Taken.{Taken}
use Rattle.dump_streams.specs.declared.taken.Taken.TheVariants as takens
use Rattle.dump_streams.specs.Making.{pieces_from, IsOpen, open_pairs, open_steps, IsLeft, GivesStep}
use Rattle.dump_streams.specs.Making.{Makes}
use Rattle.dump_streams.specs.Spots.{Spot, IsSpot, MayStand, first_pair, later_pairs, spot_steps, node_value}
use Rattle.dump_streams.specs.Spots.{file_blocks}
use Rattle.dump_streams.specs.Spots.Spot.{Stands, Has}
use Rattle.dump_streams.proofs.StepPieceLemmas.{steps_of_file}
use Rattle.dump_streams.proofs.FileLemmas.{none_left}

-- ---- which place it is of

then_equal : (a b : Ordering) → ordering_then a b ≡ Equal → a ≡ Equal
then_equal Less b e = absurd (cc)
then_equal Equal b e = refl
then_equal Greater b e = absurd (cc)

-- keys that are the same are of the same place
same_place : (x y : Path) → IsTrue (is_place x) → IsTrue (is_place y) → key x 0 ≡ key y 0 → x ≡ y
same_place x y hx hy e =
    same_from_tie x y (then_equal (path_cmp x y) _
    (sym (order_of_keys x y 0 0 hx hy (omega arith) (omega arith)) ∙ ap (λ k. key_cmp k (key y 0)) e
    ∙ tied_itself nat_list_cmp_total (key y 0)))

-- The place of an attribute's key has that attribute.
pub record IsFound (path : Path) (name : Name) (value : List ℕ) (spot : Spot) : Type 0 where
  pub bytes : List ℕ
  pub spot_is : Has path name bytes ≡ spot
  pub short : length bytes ≤ attribute_limit
  pub value_is : value ≡ attribute_value bytes

-- The place of any other key has what stands at a path.
pub record IsFoundNode (p : Parameters) (k value : List ℕ) (spot : Spot) : Type 0 where
  pub path : Path
  pub node : Node
  pub spot_is : Stands path node ≡ spot
  pub may : MayStand path node
  pub key_is : k ≡ key path 0
  pub value_is : value ≡ node_value p.version node

module _ (p : Parameters) (k value : List ℕ) where
  pub attribute_spot : (spot : Spot) (path : Path) (name : Name) → IsSpot spot → (k, value) ≡ first_pair p spot
      → attribute_key path name ≡ k → IsTrue (is_path path) → IsTrue (is_attribute_name name)
      → IsTrue (fits_attribute path name) → IsFound path name value spot
  attribute_spot (Stands q node) path name is pair key_is valid named fits =
      let first : k ≡ key q 0 = ap (λ (x : Pair). x.0) pair in
      absurd (attribute_is_no_path path q name (first_true (list_all is_name q) (fits_field q) is.path_valid)
      (same_place (attribute_place path name) q (place_of_attribute path name valid named fits)
      (place_of_path q is.path_valid) (key_is ∙ first)))
  attribute_spot (Has q other bytes) path name is pair key_is valid named fits =
      let first : k ≡ key (attribute_place q other) 0 = ap (λ (x : Pair). x.0) pair in
      let same = same_attribute_place path q name other
      (same_place (attribute_place path name) (attribute_place q other)
      (place_of_attribute path name valid named fits)
      (place_of_attribute q other is.path_valid is.valid.name is.valid.fits) (key_is ∙ first)) in
      let path_is = same.0 in
      let name_is = same.1 in
      record { bytes = bytes; spot_is = cc; short = is.valid.short; value_is = ap (λ (x : Pair). x.1) pair }

  pub node_spot : (spot : Spot) → IsSpot spot → (k, value) ≡ first_pair p spot → HasNoAttribute k
      → IsFoundNode p k value spot
  node_spot (Stands q node) is pair none = record {
    path = q;
    node = node;
    spot_is = refl;
    may = is;
    key_is = ap (λ (x : Pair). x.0) pair;
    value_is = ap (λ (x : Pair). x.1) pair;
  }
  node_spot (Has q name bytes) is pair none =
      absurd (none q name is.path_valid is.below_root is.valid.name is.valid.fits (ap (λ (x : Pair). x.0) pair))

-- ---- the step that it gives

-- one step, and no file is open
gives_one : (maker : StepMaker) (some : List Pair) (steps : List DumpStep) (s t : DumpStep) → maker.file ≡ None
    → some ≡ [] → steps ≡ s ∷ [] → t ≡ s → GivesStep some steps maker t
gives_one maker some steps s t none no_pairs steps_are is = record {
  rest = [];
  steps_are = steps_are ∙ ap (λ (x : DumpStep). x ∷ []) (sym is);
  left = subst (λ (xs : List Pair). IsLeft maker xs []) (sym no_pairs) (none_left maker none);
}

-- an attribute's
pub attribute_made : (p : Parameters) (spot : Spot) (path : Path) (name : Name) (value : List ℕ) (maker : StepMaker)
    (s : DumpStep) (result : Taken) → (found : IsFound path name value spot) → maker.file ≡ None
    → (result ≡ takens.Step) × (s ≡ Set path name found.bytes)
    → Makes (later_pairs p spot) (spot_steps spot) maker s result
attribute_made p spot path name value maker s result found none made =
    subst (λ (at : Spot). Makes (later_pairs p at) (spot_steps at) maker s result) found.spot_is
    (subst (λ (r : Taken). Makes [] (Set path name found.bytes ∷ []) maker s r) (sym made.0)
    (gives_one maker [] (Set path name found.bytes ∷ []) (Set path name found.bytes) s none refl refl made.1))

-- what the first pair of what stands at a path says
pub first_told : (version : Version) (node : Node) → Some (node_value version node) ≡ first_value (Some node) version
first_told version Directory = refl
first_told version (File bytes) = refl

pub short_node : (node : Node) → IsNode node → length (contents_of (Some node)) ≤ file_limit
short_node Directory h = omega arith
short_node (File bytes) h = h.0

module _ (p : Parameters) (path : Path) (maker : StepMaker) (s : DumpStep) where
  -- a file in one pair
  pub inline_made : (node : Node) (bytes : List ℕ) → node_value p.version node ≡ inline_value bytes
      → length bytes < 256 → maker.file ≡ None → s ≡ Write path 0 bytes
      → GivesStep (later_pairs p (Stands path node)) (node_steps path node) maker s
  inline_made Directory bytes e few none is = absurd (cc)
  inline_made (File own) bytes e few none is = by_form (is_inline p.version (length own)) e
    where
      by_form : (b : Bool) → file_first b own ≡ inline_value bytes
          → GivesStep (file_blocks b path own) (file_steps path own) maker s
      by_form true e =
          let same : own ≡ bytes = cc in
          gives_one maker [] (file_steps path own) (Write path 0 own) s none refl
          (one_piece path own (omega (arith, ap length same, few)))
          (is ∙ ap (Write path 0) (sym same))
      by_form false e = absurd (cc)

  -- a directory
  pub directory_made : (node : Node) → Some (kind_of node) ≡ Some kinds.Directory → maker.file ≡ None
      → s ≡ Make path → GivesStep (later_pairs p (Stands path node)) (node_steps path node) maker s
  directory_made Directory e none is = gives_one maker [] (Make path ∷ []) (Make path) s none refl refl is
  directory_made (File bytes) e none is = absurd (cc)

  -- a file without bytes
  pub empty_made : (node : Node) → Some (kind_of node) ≡ Some (kinds.File 0) → maker.file ≡ None
      → s ≡ Write path 0 [] → GivesStep (later_pairs p (Stands path node)) (node_steps path node) maker s
  empty_made Directory e none is = absurd (cc)
  empty_made (File []) e none is =
      gives_one maker (file_blocks (is_inline p.version 0) path []) (file_steps path []) (Write path 0 []) s none
      (by_form (is_inline p.version 0)) (one_piece path [] (omega arith)) is
    where
      by_form : (b : Bool) → file_blocks b path [] ≡ []
      by_form true = refl
      by_form false = block_none path 1
  empty_made (File (b ∷ bytes)) e none is = absurd (cc)

  -- a file in blocks
  pub file_made : (node : Node) (len : ℕ) (file : OpenFile) → IsNode node
      → Some (kind_of node) ≡ Some (kinds.File len) → 0 < len
      → LacksBytes (Some (node_value p.version node))
      → maker.file ≡ Some file → maker.piece.items ≡ [] → file.path ≡ path → file.at ≡ 0 → file.left ≡ len
      → IsLeft maker (later_pairs p (Stands path node)) (node_steps path node)
  file_made Directory len file valid e some lacks file_is piece_is path_is at_is left_is = absurd (cc)
  file_made (File bytes) len file valid e some lacks file_is piece_is path_is at_is left_is =
      by_form (is_inline p.version (length bytes)) lacks
    where
      by_form : (b : Bool) → LacksBytes (Some (file_first b bytes))
          → IsLeft maker (file_blocks b path bytes) (file_steps path bytes)
      by_form true lacks = absurd (lacks bytes refl)
      by_form false lacks =
          let count : length bytes ≡ len = cc in
          let short = valid.0 in
          let none : length maker.piece.items ≡ 0 = ap length piece_is in
          let number : 1 ≡ (file.at + length maker.piece.items) / 256 + 1 = omega (arith, none, at_is) in
          let first : 0 ≡ file.at / 2048 = omega (arith, at_is) in
          record {
            content = bytes;
            is_open = subst (λ (o : Option OpenFile). IsOpen o maker.piece.items bytes) (sym file_is) (record {
              pieces = 0;
              at_is = at_is;
              blocks = 0;
              piece_is = none;
              room = omega (arith, none);
              left_is = left_is ∙ sym count;
              some = omega (arith, left_is, some);
              short = omega (arith, none, at_is, left_is, count, short);
            });
            pairs_are = ap₂ (λ (q : Path) (n : ℕ). blocks_from q n bytes) (sym path_is) number
                ∙ ap (λ (o : Option OpenFile). open_pairs o maker.piece.items bytes) (sym file_is);
            steps_are = steps_of_file path bytes (omega (arith, count, some))
                ∙ ap₂ (λ (q : Path) (n : ℕ). pieces_from q n bytes) (sym path_is) first
                ∙ ap (λ (xs : List ℕ). open_steps (Some file) (xs ++ bytes)) (sym piece_is)
                ∙ ap (λ (o : Option OpenFile). open_steps o (maker.piece.items ++ bytes)) (sym file_is);
          }

pub no_node : (node : Node) → Some (kind_of node) ≡ None → ⊥
no_node node e = cc
