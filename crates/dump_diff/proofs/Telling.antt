-- The steps of an entry tell it.
use Rattle.std.proofs.Common.{◌≡◌, ℕ, ◌+◌, List, [], ◌∷◌, ◌++◌, map, Bool, true, false, ◌||◌, cond, refl, sym, ap, ap₂}
use Rattle.std.proofs.Common.{◌∙◌, arith}
use Rattle.std.specs.List.{flat_map, enumerate_from, list_any}
use Rattle.std.proofs.lemmas.List.{append-nil}
use Rattle.std.proofs.lemmas.List.Concat.{flat_map-append}
use Rattle.store_model.specs.Lists.{runs}
use Rattle.store_model.specs.Paths.{Path}
use Rattle.dump_streams.specs.Dumps.{DumpStep}
use Rattle.dump_streams.specs.Dumps.DumpStep.{Make, Write, Set}
use Rattle.store_model.specs.Trees.{Node, Entry, Attributes}
use Rattle.store_model.specs.Trees.Node.{Directory, File}
use Rattle.store_model.proofs.ListsLemmasCuts.{flat_map-runs}
use Rattle.dump_streams.specs.Dumps.{dump_piece, file_steps, node_steps, attribute_steps, entry_steps}
use Rattle.dump_diff.specs.Places.{makes}
use Rattle.dump_diff.specs.Sides.{attributes_in}
use Rattle.dump_diff.proofs.DumpPlaces.{piece_step, name_step}

-- the bytes that a step writes
abbrev pub bytes_in : DumpStep → List ℕ
bytes_in (Make p) = []
bytes_in (Write p at bytes) = bytes
bytes_in (Set p a bytes) = []

-- what stands at the path of an entry's steps
abbrev pub node_in : List DumpStep → Node
node_in cs = cond (list_any makes cs) Directory (File (flat_map bytes_in cs))

-- ---- attributes

names_told : (path : Path) (attributes : Attributes)
    → flat_map attributes_in (map (name_step path) attributes) ≡ attributes
names_told path [] = refl
names_told path (a ∷ attributes) = ap (λ (more : Attributes). a ∷ more) (names_told path attributes)

no_names : (path : Path) (pieces : List (ℕ × List ℕ)) → flat_map attributes_in (map (piece_step path) pieces) ≡ []
no_names path [] = refl
no_names path (piece ∷ pieces) = no_names path pieces

node_without_names : (path : Path) (node : Node) → flat_map attributes_in (node_steps path node) ≡ []
unfolding file_steps
node_without_names path Directory = refl
node_without_names path (File []) = refl
node_without_names path (File (b ∷ bytes)) = no_names path (enumerate_from 0 (runs dump_piece (b ∷ bytes)))

pub attributes_told : (path : Path) (entry : Entry)
    → flat_map attributes_in (entry_steps path entry) ≡ entry.attributes
unfolding attribute_steps
attributes_told path entry =
    flat_map-append attributes_in (node_steps path entry.node) (attribute_steps path entry.attributes)
    ∙ ap₂ (λ (a b : Attributes). a ++ b) (node_without_names path entry.node) (names_told path entry.attributes)

-- ---- bytes

pieces_told : (path : Path) (n : ℕ) (rs : List (List ℕ))
    → flat_map bytes_in (map (piece_step path) (enumerate_from n rs)) ≡ flat_map (λ run. run) rs
pieces_told path n [] = refl
pieces_told path n (r ∷ rs) = ap (λ (more : List ℕ). r ++ more) (pieces_told path (n + 1) rs)

no_bytes : (path : Path) (attributes : Attributes) → flat_map bytes_in (map (name_step path) attributes) ≡ []
no_bytes path [] = refl
no_bytes path (a ∷ attributes) = no_bytes path attributes

file_told : (path : Path) (bytes : List ℕ) → flat_map bytes_in (file_steps path bytes) ≡ bytes
unfolding file_steps
file_told path [] = refl
file_told path (b ∷ bytes) = pieces_told path 0 (runs dump_piece (b ∷ bytes))
    ∙ flat_map-runs dump_piece (b ∷ bytes) (omega arith)

none_made_of_pieces : (path : Path) (pieces : List (ℕ × List ℕ))
    → list_any makes (map (piece_step path) pieces) ≡ false
none_made_of_pieces path [] = refl
none_made_of_pieces path (piece ∷ pieces) = none_made_of_pieces path pieces

none_made_of_names : (path : Path) (attributes : Attributes)
    → list_any makes (map (name_step path) attributes) ≡ false
none_made_of_names path [] = refl
none_made_of_names path (a ∷ attributes) = none_made_of_names path attributes

none_made_of_file : (path : Path) (bytes : List ℕ) → list_any makes (file_steps path bytes) ≡ false
unfolding file_steps
none_made_of_file path [] = refl
none_made_of_file path (b ∷ bytes) = none_made_of_pieces path (enumerate_from 0 (runs dump_piece (b ∷ bytes)))

any_append : (test : DumpStep → Bool) (xs ys : List DumpStep)
    → list_any test (xs ++ ys) ≡ (list_any test xs || list_any test ys)
any_append test [] ys = refl
any_append test (x ∷ xs) ys = by_test (test x) (any_append test xs ys)
  where
    by_test : (b : Bool) → list_any test (xs ++ ys) ≡ (list_any test xs || list_any test ys)
        → (b || list_any test (xs ++ ys)) ≡ ((b || list_any test xs) || list_any test ys)
    by_test true e = refl
    by_test false e = e

pub node_told : (path : Path) (node : Node) (attributes : Attributes)
    → node_in (node_steps path node ++ attribute_steps path attributes) ≡ node
unfolding attribute_steps
node_told path Directory attributes = refl
node_told path (File bytes) attributes =
    ap₂ (λ (b : Bool) (content : List ℕ). cond b Directory (File content))
    (any_append makes (file_steps path bytes) (attribute_steps path attributes)
    ∙ ap₂ (λ (a b : Bool). a || b) (none_made_of_file path bytes) (none_made_of_names path attributes))
    (flat_map-append bytes_in (file_steps path bytes) (attribute_steps path attributes)
    ∙ ap₂ (λ (a b : List ℕ). a ++ b) (file_told path bytes) (no_bytes path attributes) ∙ append-nil bytes)

-- what stands at a path of the same steps is one
pub node_of_steps : (path : Path) (node other : Node)
    → node_steps path node ≡ node_steps path other → node ≡ other
unfolding attribute_steps
node_of_steps path node other same =
    sym (node_told path node []) ∙ ap (λ (cs : List DumpStep). node_in (cs ++ [])) same ∙ node_told path other []

-- two entries of the same steps are one
pub entries_told : (path : Path) (e f : Entry) → entry_steps path e ≡ entry_steps path f → e ≡ f
entries_told path e f same =
    let node : e.node ≡ f.node = sym (node_told path e.node e.attributes) ∙ ap node_in same
    ∙ node_told path f.node f.attributes in
    let attributes : e.attributes ≡ f.attributes = sym (attributes_told path e) ∙ ap (flat_map attributes_in) same
    ∙ attributes_told path f in
    λ i. record { node = node i; attributes = attributes i }
