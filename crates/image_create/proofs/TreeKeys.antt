-- The keys of the pairs of a tree are those that what was found asks for.
use Rattle.std.proofs.Common.{◌≡◌, ℕ, suc, ◌+◌, List, [], ◌∷◌, ◌++◌, map, length, Bool, true, false}
use Rattle.std.proofs.Common.{if◌then◌else◌, refl, ap, ap₂, subst, ◌∙◌, arith}
use Rattle.std.specs.List.{AllByRecursion, enumerate_from}
use Rattle.std.proofs.lemmas.List.{length-map, map-append}
use Rattle.store_model.specs.Lists.{numbers_from, run_at, run_count, runs}
use Rattle.store_model.specs.Pairs.{Pair, attribute_pairs, entry_pairs, file_block, file_pairs, is_inline, node_pairs}
use Rattle.store_model.specs.Pairs.{pairs}
use Rattle.store_model.specs.Parameters.{Parameters}
use Rattle.store_model.specs.Paths.{Path, key, attribute_key}
use Rattle.store_model.specs.Trees.{Attributes, IsAttribute, IsEntry, Tree}
use Rattle.store_model.proofs.ListsLemmas.{length-numbers_from}
use Rattle.host_folders.specs.FoundEntries.{attributes_by, entries_of, found_entry, found_node, is_file, is_link}
use Rattle.host_folders.specs.FoundEntries.{said_here}
use Rattle.host_folders.specs.FoundEntries.{said_behind}
use Rattle.host_folders.specs.declared.found.Found.{Found}
use Rattle.host_folders.specs.declared.found.FoundKind.{FoundKind}
use Rattle.host_folders.specs.declared.found.FoundKind.TheVariants as kinds
use Rattle.image_create.specs.Counts.{IsOfFound}
use Rattle.image_create.specs.FoundKeys.{HasKeys, HaveFields, block_keys, blocks_of, found_keys, keys_found, name_keys}
use Rattle.image_create.specs.FoundKeys.{names_by, told_length, told_lengths}

-- the keys of pairs
abbrev pub keys_of : List Pair → List (List ℕ)
keys_of s = map (λ pair. pair.0) s

-- ---- one entry

numbered_keys : (path : Path) (first : ℕ) (blocks : List (List ℕ))
    → keys_of (map (λ b. (key path b.0, b.1)) (enumerate_from first blocks))
    ≡ map (key path) (numbers_from first (length blocks))
unfolding numbers_from
numbered_keys path first [] = refl
numbered_keys path first (block ∷ blocks) =
    let next : first + 1 ≡ suc first = omega arith in
    ap (λ ks. key path first ∷ ks) (numbered_keys path (first + 1) blocks
    ∙ ap (λ n. map (key path) (numbers_from n (length blocks))) next)

length-runs : (bytes : List ℕ) → length (runs file_block bytes) ≡ run_count file_block (length bytes)
unfolding runs
length-runs bytes = length-map (numbers_from 0 (run_count file_block (length bytes))) (run_at file_block bytes)
    ∙ length-numbers_from 0 (run_count file_block (length bytes))

-- a file has its first pair and its blocks
file_keys : (inline : Bool) (path : Path) (bytes : List ℕ) → keys_of (file_pairs inline path bytes)
    ≡ key path 0 ∷ block_keys path (if inline then 0 else run_count file_block (length bytes))
unfolding numbers_from
file_keys true path bytes = refl
file_keys false path bytes = ap (λ ks. key path 0 ∷ ks) (numbered_keys path 1 (runs file_block bytes)
    ∙ ap (block_keys path) (length-runs bytes))

-- a file has the length that it had when it was found
abbrev HasLength : FoundKind → List ℕ → Type 0
HasLength kinds.Folder bytes = Unit {0}
HasLength (kinds.File len) bytes = length bytes ≡ len
HasLength kinds.Link bytes = Unit {0}

-- no bytes have no block
no_blocks : (inline : Bool) → (if inline then 0 else run_count file_block 0) ≡ 0
no_blocks true = refl
no_blocks false = refl

node_keys : (kind : FoundKind) (path : Path) (bytes : List ℕ) (p : Parameters) → HasLength kind bytes
    → keys_of (node_pairs path (found_node kind bytes) p) ≡ key path 0 ∷ block_keys path (blocks_of p.version kind)
unfolding node_pairs numbers_from
node_keys kinds.Folder path bytes p is = refl
node_keys (kinds.File len) path bytes p is = file_keys (is_inline p.version (length bytes)) path bytes
    ∙ ap (λ n. key path 0 ∷ block_keys path (if is_inline p.version n then 0 else run_count file_block n)) is
node_keys kinds.Link path bytes p is = file_keys (is_inline p.version 0) path []
    ∙ ap (λ n. key path 0 ∷ block_keys path n) (no_blocks (is_inline p.version 0))

attribute_keys : (path : Path) (attributes : Attributes)
    → keys_of (attribute_pairs path attributes) ≡ name_keys path (map (λ a. a.0) attributes)
unfolding attribute_pairs
attribute_keys path [] = refl
attribute_keys path (a ∷ attributes) = ap (λ ks. attribute_key path a.0 ∷ ks) (attribute_keys path attributes)

names_are : (kind : FoundKind) (found : Found) (target : List ℕ)
    → map (λ a. a.0) (attributes_by kind found target) ≡ names_by kind found
names_are kinds.Folder found target = refl
names_are (kinds.File len) found target = refl
names_are kinds.Link found target = refl

entry_keys : (found : Found) (bytes target : List ℕ) (p : Parameters) → HasLength found.kind bytes
    → keys_of (entry_pairs found.path (found_entry found bytes target).1 p) ≡ found_keys p.version found
unfolding found_keys
entry_keys found bytes target p is =
    let own = node_pairs found.path (found_node found.kind bytes) p in
    let names = attributes_by found.kind found target in
    map-append (λ (pair : Pair). pair.0) own (attribute_pairs found.path names)
    ∙ ap₂ (λ (ks ls : List (List ℕ)). ks ++ ls) (node_keys found.kind found.path bytes p is)
    (attribute_keys found.path names ∙ ap (name_keys found.path) (names_are found.kind found target))

-- ---- all entries

-- the first of the contents are those of an entry, and the others those of the entries behind it
record AreSaid (kind : FoundKind) (contents : List (List ℕ)) (more : List ℕ) : Type 0 where
  here : HasLength kind (said_here (is_file kind) contents)
  others : map length (said_behind (is_file kind) contents) ≡ more

said : (kind : FoundKind) (contents : List (List ℕ)) (more : List ℕ) → map length contents ≡ told_length kind ++ more
    → AreSaid kind contents more
said kinds.Folder contents more are = record { here = tt; others = are }
said (kinds.File len) [] more are = absurd (cc are)
said (kinds.File len) (bytes ∷ contents) more are = record { here = cc are; others = cc are }
said kinds.Link contents more are = record { here = tt; others = are }

tree_keys : (found : List Found) (contents targets : List (List ℕ)) (p : Parameters)
    → map length contents ≡ told_lengths found
    → keys_of (pairs (entries_of found contents targets) p) ≡ keys_found p.version found
unfolding entries_of pairs keys_found told_lengths
tree_keys [] contents targets p are = refl
tree_keys (f ∷ found) contents targets p are =
    let said_are = said f.kind contents (told_lengths found) are in
    let bytes = said_here (is_file f.kind) contents in
    let target = said_here (is_link f.kind) targets in
    let others = entries_of found (said_behind (is_file f.kind) contents) (said_behind (is_link f.kind) targets) in
    map-append (λ (pair : Pair). pair.0) (entry_pairs f.path (found_entry f bytes target).1 p) (pairs others p)
    ∙ ap₂ (λ (ks ls : List (List ℕ)). ks ++ ls) (entry_keys f bytes target p said_are.here)
    (tree_keys found (said_behind (is_file f.kind) contents) (said_behind (is_link f.kind) targets) p said_are.others)

lengths_again : (files : List (Path × List ℕ))
    → map length (map (λ file. file.1) files) ≡ map (λ file. length file.1) files
lengths_again [] = refl
lengths_again (file ∷ files) = ap (λ ns. length file.1 ∷ ns) (lengths_again files)

-- the keys of a tree that has just what was found
pub keys_are : (found : List Found) (t : Tree) (p : Parameters) → IsOfFound found t
    → keys_of (pairs t p) ≡ keys_found p.version found
keys_are found t p is =
    ap (λ (u : Tree). keys_of (pairs u p)) is.entries.tree
    ∙ tree_keys found (map (λ file. file.1) is.files) (map (λ link. link.1) is.links) p
    (lengths_again is.files ∙ is.lengths)

-- ---- each attribute has a key

fields_of : (path : Path) (attributes : Attributes) → AllByRecursion (IsAttribute path) attributes
    → HaveFields path (map (λ a. a.0) attributes)
fields_of path [] each = tt
fields_of path (a ∷ attributes) each = (each.0.fits, fields_of path attributes each.1)

keys_by : (found : List Found) (contents targets : List (List ℕ)) (t : Tree)
    → AllByRecursion (IsEntry t) (entries_of found contents targets) → AllByRecursion HasKeys found
unfolding entries_of
keys_by [] contents targets t entries = tt
keys_by (f ∷ found) contents targets t entries =
    let target = said_here (is_link f.kind) targets in (
      record {
        below_root = entries.0.below_root;
        names = subst (HaveFields f.path) (names_are f.kind f target)
            (fields_of f.path (attributes_by f.kind f target) entries.0.attributes.each);
      },
      keys_by found (said_behind (is_file f.kind) contents) (said_behind (is_link f.kind) targets) t entries.1,
    )

pub all_have_keys : (found : List Found) (t : Tree) → IsOfFound found t → AllByRecursion HasKeys found
all_have_keys found t is =
    let contents = map (λ file. file.1) is.files in
    let targets = map (λ link. link.1) is.links in
    keys_by found contents targets t
    (subst (λ (u : Tree). AllByRecursion (IsEntry t) u) is.entries.tree is.is_tree.entries)
