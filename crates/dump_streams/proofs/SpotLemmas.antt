-- The pairs of a tree and its dump are those of its places, one place after another.
use Rattle.std.proofs.Common.{◌≡◌, ℕ, length, Bool, true, false, List, [], ◌∷◌, ◌++◌, map, refl, sym, ap, ap₂, ◌∙◌}
use Rattle.std.specs.List.{AllByRecursion, flat_map}
use Rattle.std.proofs.lemmas.List.Concat.{flat_map-append}
use Rattle.store_model.specs.Parameters.{Parameters}
use Rattle.store_model.specs.Paths.{Path, key}
use Rattle.store_model.specs.Trees.{Tree, Node, Attributes, IsAttribute, IsEntry, IsTree}
use Rattle.store_model.specs.Trees.Node.{Directory, File}
use Rattle.store_model.specs.Pairs.{Pair, is_inline, file_pairs, node_pairs, attribute_pairs, pairs}
use Rattle.store_model.proofs.ListsLemmas.{all_map, all_flat_map}
use Rattle.tree_pairs.specs.Kinds.{file_first}
use Rattle.dump_streams.specs.Dumps.{DumpStep, attribute_steps, dump}
use Rattle.dump_streams.specs.Spots.{entry_spots, spots, file_blocks, spot_pairs, spot_steps, IsSpot}
use Rattle.dump_streams.specs.Spots.Spot.{Stands, Has}

file_spot_pairs : (inline : Bool) (path : Path) (bytes : List ℕ)
    → file_pairs inline path bytes ≡ (key path 0, file_first inline bytes) ∷ file_blocks inline path bytes
file_spot_pairs true path bytes = refl
file_spot_pairs false path bytes = refl

node_spot_pairs : (p : Parameters) (path : Path) (node : Node)
    → node_pairs path node p ≡ spot_pairs p (Stands path node)
unfolding node_pairs
node_spot_pairs p path Directory = refl
node_spot_pairs p path (File bytes) = file_spot_pairs (is_inline p.version (length bytes)) path bytes

attribute_spots_pairs : (p : Parameters) (path : Path) (attributes : Attributes)
    → attribute_pairs path attributes ≡ flat_map (spot_pairs p) (map (λ a. Has path a.0 a.1) attributes)
unfolding attribute_pairs
attribute_spots_pairs p path [] = refl
attribute_spots_pairs p path (a ∷ attributes) =
    ap (λ xs. spot_pairs p (Has path a.0 a.1) ++ xs) (attribute_spots_pairs p path attributes)

pub pairs_of_spots : (t : Tree) (p : Parameters) → pairs t p ≡ flat_map (spot_pairs p) (spots t)
unfolding pairs spots
pairs_of_spots [] p = refl
pairs_of_spots (e ∷ t) p =
    ap₂ (λ (xs ys : List Pair). xs ++ ys)
    (ap₂ (λ (xs ys : List Pair). xs ++ ys) (node_spot_pairs p e.0 e.1.node)
    (attribute_spots_pairs p e.0 e.1.attributes)) (pairs_of_spots t p)
    ∙ sym (flat_map-append (spot_pairs p) (entry_spots e.0 e.1) (flat_map (λ f. entry_spots f.0 f.1) t))

attribute_spots_steps : (path : Path) (attributes : Attributes)
    → attribute_steps path attributes ≡ flat_map spot_steps (map (λ a. Has path a.0 a.1) attributes)
unfolding attribute_steps
attribute_spots_steps path [] = refl
attribute_spots_steps path (a ∷ attributes) =
    ap (λ xs. spot_steps (Has path a.0 a.1) ++ xs) (attribute_spots_steps path attributes)

pub dump_of_spots : (t : Tree) → dump t ≡ flat_map spot_steps (spots t)
unfolding dump spots
dump_of_spots [] = refl
dump_of_spots (e ∷ t) =
    ap₂ (λ (xs ys : List DumpStep). xs ++ ys)
    (ap (λ xs. spot_steps (Stands e.0 e.1.node) ++ xs) (attribute_spots_steps e.0 e.1.attributes))
    (dump_of_spots t)
    ∙ sym (flat_map-append spot_steps (entry_spots e.0 e.1) (flat_map (λ f. entry_spots f.0 f.1) t))

-- before the first step
pub dump_none : dump [] ≡ []
unfolding dump
dump_none = refl

pub valid_spots : (t : Tree) → IsTree t → AllByRecursion IsSpot (spots t)
unfolding spots
valid_spots t h =
    all_flat_map (IsEntry t) IsSpot (λ e. entry_spots e.0 e.1)
    (λ e is. (
      record { path_valid = is.path; below_root = is.below_root; valid = is.node },
      all_map (IsAttribute e.0) IsSpot (λ a. Has e.0 a.0 a.1) (λ a had. record {
        path_valid = is.path;
        below_root = is.below_root;
        valid = had;
      }) e.1.attributes is.attributes.each,
    ))
    t h.entries
