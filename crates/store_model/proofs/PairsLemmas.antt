-- Lemmas on the pairs of a tree, those of attributes among them: their keys rise, and have 124 bytes.
use Rattle.std.proofs.Common.{◌≡◌, ℕ, ◌+◌, ◌<◌, ◌≤◌, ◌⊎◌, inl, inr, Bool, true, false, List, [], ◌∷◌, map, length, take}
use Rattle.std.proofs.Common.{refl, ap, ap₂, ◌∙◌, arith, IsTrue, Ordering, Less, nat_cmp}
use Rattle.std.specs.Ordering.{ordering_then}
use Rattle.std.specs.List.{AllByRecursion, list_all, enumerate_from}
use Rattle.std.specs.List.Sorted.{IsStrictlySortedBy}
use Rattle.std.specs.FinMap.{is_sorted}
use Rattle.std.specs.Cmp.{tied_itself}
use Rattle.std.proofs.lemmas.Bool.{false≢true, leb-true, le-leb}
use Rattle.std.proofs.lemmas.List.{length-take}
use Rattle.store_model.specs.declared.version.Version.{Version}
use Rattle.store_model.specs.declared.version.Version.TheVariants.{One, Two}
use Rattle.store_model.specs.Lists.{IsBytes, runs}
use Rattle.store_model.specs.Parameters.{Parameters}
use Rattle.store_model.specs.Paths.{Path, Name, is_name, is_path, is_place, attribute_mark, attribute_place}
use Rattle.store_model.specs.Paths.{attribute_key, fits_field, key, name_cmp, path_cmp, key_cmp}
use Rattle.store_model.specs.Pairs.{Pair, file_block, directory_value, file_value, inline_value, is_inline, file_pairs}
use Rattle.store_model.specs.Pairs.{node_pairs, attribute_value, attribute_pairs, entry_pairs, pairs, IsValue, IsPair}
use Rattle.store_model.specs.Pairs.{IsPairs}
use Rattle.store_model.specs.Trees.{Tree, Node, Entry, Attributes, IsNode, IsAttribute, AreAttributes, IsEntry, IsTree}
use Rattle.store_model.specs.Trees.Node.{Directory, File}
use Rattle.store_model.proofs.ListsLemmas.{all_none, all_weaker, all_with, first_true, all_append, all_map}
use Rattle.store_model.proofs.ListsLemmas.{all_flat_map, IsBelow, rising_cons, rising_one, rising_append, rising_map}
use Rattle.store_model.proofs.ListsLemmas.{rising_flat_map, rising_from_is_sorted, is_sorted_from_rising}
use Rattle.store_model.proofs.ListsLemmas.{numbers_in_range, numbers_rise, less_from_nat_cmp, nat_cmp-lt, length-runs}
use Rattle.store_model.proofs.ListsLemmas.{bytes_from_all, all_from_bytes, be_bytes_are_bytes}
use Rattle.store_model.proofs.ListsLemmasCuts.{lengths_of_runs, all_runs, all_enumerate_from}
use Rattle.store_model.proofs.PathsLemmas.{place_of_path, place_of_attribute, order_of_keys, length-key, bytes_of_key}
use Rattle.store_model.proofs.PathsLemmasPlaces.{below_longer, before_longer, attribute_before}
use Rattle.store_model.proofs.PathsLemmasPlaces.{attribute_before_attribute, order_of_attributes}
use Rattle.store_model.proofs.TreesLemmasPaths.{path_cmp_total}

-- pairs are compared by their keys, and entries by their paths
abbrev pub pair_cmp : Pair → Pair → Ordering
pair_cmp a b = key_cmp a.0 b.0

-- entries are compared by their paths
abbrev pub entry_cmp : (Path × Entry) → (Path × Entry) → Ordering
entry_cmp a b = path_cmp a.0 b.0

-- a file that a version has in its first pair is short
pub inline_is_short : (version : Version) (n : ℕ) → is_inline version n ≡ true → n ≤ 200
inline_is_short One n e = absurd (false≢true e)
inline_is_short Two n e = leb-true n 200 e

-- and a file that is cut short stands in its first pair where it did
pub inline_when_cut : (version : Version) (len : ℕ) (bytes : List ℕ) → is_inline version (length bytes) ≡ true
    → is_inline version (length (take len bytes)) ≡ true
inline_when_cut One len bytes e = e
inline_when_cut Two len bytes e = le-leb (length (take len bytes)) 200
    (omega (arith, length-take len bytes, leb-true (length bytes) 200 e))

-- ---- what a pair is of

-- a block of what stands at the path
abbrev pub IsOfNode : Path → Pair → Type 0
IsOfNode path pair = (block : ℕ) × (block < 4294967296) × (pair.0 ≡ key path block)

-- an attribute of the path
abbrev pub IsOfAttribute : Path → Pair → Type 0
IsOfAttribute path pair = (a : Name) × IsTrue (is_place (attribute_place path a)) × (pair.0 ≡ attribute_key path a)

-- the path: what stands there, or an attribute of it
abbrev pub IsOfPath : Path → Pair → Type 0
IsOfPath path pair = IsOfNode path pair ⊎ IsOfAttribute path pair

-- keys of places rise with the places
pub rising_places : (q r : Path) (i j : ℕ) → IsTrue (is_place q) → IsTrue (is_place r) → i < 4294967296 → j < 4294967296
    → path_cmp q r ≡ Less → key_cmp (key q i) (key r j) ≡ Less
rising_places q r i j hq hr hi hj l = order_of_keys q r i j hq hr hi hj ∙ ap (λ o. ordering_then o (nat_cmp i j)) l

-- keys of one path rise with the block number
rising_blocks : (path : Path) (i j : ℕ) → IsTrue (is_path path) → i < 4294967296 → j < 4294967296 → i < j
    → key_cmp (key path i) (key path j) ≡ Less
rising_blocks path i j h hi hj l =
    order_of_keys path path i j (place_of_path path h) (place_of_path path h) hi hj
    ∙ ap (λ o. ordering_then o (nat_cmp i j)) (tied_itself path_cmp_total path) ∙ nat_cmp-lt i j l

-- the pairs of the blocks behind a file's first pair
abbrev block_pair : Path → ℕ × List ℕ → Pair
block_pair path b = (key path b.0, b.1)

-- a file has fewer blocks than a block number can count
block_count : (bytes : List ℕ) → IsNode (File bytes) → length (runs file_block bytes) < 4294967295
block_count bytes h = let e = length-runs file_block bytes in let l = h.0 in omega arith

-- the pairs of a file are all of it
file_of_node : (inline : Bool) (path : Path) (bytes : List ℕ) → IsNode (File bytes)
    → AllByRecursion (IsOfNode path) (file_pairs inline path bytes)
file_of_node true path bytes h = ((0, omega arith, refl), tt)
file_of_node false path bytes h =
    let few = block_count bytes h in (
      (0, omega arith, refl),
      all_map (λ b. (1 ≤ b.0) × (b.0 < 1 + length (runs file_block bytes))) (IsOfNode path)
          (block_pair path) (λ b r. (b.0, omega arith, refl)) (enumerate_from 1 (runs file_block bytes))
          (numbers_in_range 1 (runs file_block bytes)),
    )

-- so are those of what stands at a path
pub node_pairs_of_node : (path : Path) (node : Node) (p : Parameters) → IsNode node
    → AllByRecursion (IsOfNode path) (node_pairs path node p)
unfolding node_pairs
node_pairs_of_node path Directory p h = ((0, omega arith, refl), tt)
node_pairs_of_node path (File bytes) p h = file_of_node (is_inline p.version (length bytes)) path bytes h

-- the pair of an attribute
abbrev attribute_pair : Path → Name × List ℕ → Pair
attribute_pair path a = (attribute_key path a.0, attribute_value a.1)

-- the place of an attribute
attribute_is_place : (path : Path) (a : Name × List ℕ) → IsTrue (is_path path) → IsAttribute path a
    → IsTrue (is_place (attribute_place path a.0))
attribute_is_place path a h is = place_of_attribute path a.0 h is.name is.fits

-- the pairs of attributes are of them
pub attribute_pairs_of_attributes : (path : Path) (attributes : Attributes) → IsTrue (is_path path)
    → AllByRecursion (IsAttribute path) attributes
    → AllByRecursion (IsOfAttribute path) (attribute_pairs path attributes)
unfolding attribute_pairs
attribute_pairs_of_attributes path attributes h each =
    all_map (IsAttribute path) (IsOfAttribute path) (attribute_pair path)
    (λ a is. (a.0, attribute_is_place path a h is, refl)) attributes each

-- the pairs of an entry are of its path
pub entry_pairs_of_path : (path : Path) (entry : Entry) (p : Parameters) → IsTrue (is_path path) → IsNode entry.node
    → AreAttributes path entry.attributes → AllByRecursion (IsOfPath path) (entry_pairs path entry p)
entry_pairs_of_path path entry p h is are =
    all_append (IsOfPath path) (node_pairs path entry.node p) (attribute_pairs path entry.attributes)
    (all_weaker (IsOfNode path) (IsOfPath path) (λ pair of_node. inl of_node) (node_pairs path entry.node p)
    (node_pairs_of_node path entry.node p is))
    (all_weaker (IsOfAttribute path) (IsOfPath path) (λ pair of_attribute. inr of_attribute)
    (attribute_pairs path entry.attributes) (attribute_pairs_of_attributes path entry.attributes h are.each))

-- ---- the pairs rise

-- the pairs of a file rise by key
rising_file_pairs : (inline : Bool) (path : Path) (bytes : List ℕ) → IsTrue (is_path path) → IsNode (File bytes)
    → IsStrictlySortedBy pair_cmp (file_pairs inline path bytes)
rising_file_pairs true path bytes h g = rising_one pair_cmp (key path 0, inline_value bytes)
rising_file_pairs false path bytes h g =
    let few = block_count bytes g in
    let IsNumber : ℕ × List ℕ → Type 0 = λ b. (1 ≤ b.0) × (b.0 < 1 + length (runs file_block bytes)) in
    let numbered : AllByRecursion IsNumber (enumerate_from 1 (runs file_block bytes)) =
    numbers_in_range 1 (runs file_block bytes) in
    rising_cons pair_cmp (key path 0, file_value (length bytes))
    (map (block_pair path) (enumerate_from 1 (runs file_block bytes)))
    (all_map IsNumber (λ pair. key_cmp (key path 0) pair.0 ≡ Less) (block_pair path)
    (λ b r. rising_blocks path 0 b.0 h (omega arith) (omega arith) (omega arith))
    (enumerate_from 1 (runs file_block bytes)) numbered)
    (rising_map (λ a b. nat_cmp a.0 b.0) pair_cmp (block_pair path) IsNumber
    (λ a b q r l. rising_blocks path a.0 b.0 h (omega arith) (omega arith) (less_from_nat_cmp a.0 b.0 l))
    (enumerate_from 1 (runs file_block bytes)) numbered (numbers_rise 1 (runs file_block bytes)))

-- so do those of what stands at a path
rising_node_pairs : (path : Path) (node : Node) (p : Parameters) → IsTrue (is_path path) → IsNode node
    → IsStrictlySortedBy pair_cmp (node_pairs path node p)
unfolding node_pairs
rising_node_pairs path Directory p h g = rising_one pair_cmp (key path 0, directory_value)
rising_node_pairs path (File bytes) p h g = rising_file_pairs (is_inline p.version (length bytes)) path bytes h g

-- so do those of attributes
rising_attribute_pairs : (path : Path) (attributes : Attributes) → IsTrue (is_path path) → AreAttributes path attributes
    → IsStrictlySortedBy pair_cmp (attribute_pairs path attributes)
unfolding attribute_pairs
rising_attribute_pairs path attributes h are =
    rising_map (λ a b. name_cmp a.0 b.0) pair_cmp (attribute_pair path) (IsAttribute path)
    (λ a b u v l.
    rising_places (attribute_place path a.0) (attribute_place path b.0) 0 0 (attribute_is_place path a h u)
    (attribute_is_place path b h v) (omega arith) (omega arith) (order_of_attributes path a.0 b.0 ∙ l))
    attributes are.each (rising_from_is_sorted name_cmp attributes are.sorted)

-- pairs of what stands at a path stand below those of its attributes
node_below_attributes : (path : Path) (xs ys : List Pair) → IsTrue (is_path path) → AllByRecursion (IsOfNode path) xs
    → AllByRecursion (IsOfAttribute path) ys → IsBelow pair_cmp xs ys
node_below_attributes path xs ys h f g =
    all_weaker (IsOfNode path) (λ x. AllByRecursion (λ y. pair_cmp x y ≡ Less) ys) (λ x u.
    all_weaker (IsOfAttribute path) (λ y. pair_cmp x y ≡ Less) (λ y v.
    ap₂ key_cmp u.2 v.2 ∙ rising_places path (attribute_place path v.0) u.0 0
    (place_of_path path h) v.1 u.1 (omega arith) (below_longer path (attribute_mark ∷ v.0) [])) ys g) xs f

-- so the pairs of an entry rise
rising_entry_pairs : (path : Path) (entry : Entry) (p : Parameters) → IsTrue (is_path path) → IsNode entry.node
    → AreAttributes path entry.attributes → IsStrictlySortedBy pair_cmp (entry_pairs path entry p)
rising_entry_pairs path entry p h is are =
    rising_append pair_cmp (node_pairs path entry.node p) (attribute_pairs path entry.attributes)
    (rising_node_pairs path entry.node p h is) (rising_attribute_pairs path entry.attributes h are)
    (node_below_attributes path (node_pairs path entry.node p) (attribute_pairs path entry.attributes) h
    (node_pairs_of_node path entry.node p is) (attribute_pairs_of_attributes path entry.attributes h are.each))

-- a pair of a path stands below one of a path behind it
pub below_path : (q r : Path) (x y : Pair) → IsTrue (is_path q) → IsTrue (is_path r) → path_cmp q r ≡ Less
    → IsOfPath q x → IsOfPath r y → pair_cmp x y ≡ Less
below_path q r x y hq hr l (inl u) (inl v) = ap₂ key_cmp u.2 v.2
    ∙ rising_places q r u.0 v.0 (place_of_path q hq) (place_of_path r hr) u.1 v.1 l
below_path q r x y hq hr l (inl u) (inr v) =
    ap₂ key_cmp u.2 v.2 ∙ rising_places q (attribute_place r v.0) u.0 0 (place_of_path q hq) v.1 u.1 (omega arith)
    (before_longer q r (attribute_mark ∷ v.0) [] l)
below_path q r x y hq hr l (inr u) (inl v) =
    ap₂ key_cmp u.2 v.2 ∙ rising_places (attribute_place q u.0) r 0 v.0 u.1 (place_of_path r hr)
    (omega arith) v.1 (attribute_before q r u.0 (first_true (list_all is_name r) (fits_field r) hr) l)
below_path q r x y hq hr l (inr u) (inr v) =
    ap₂ key_cmp u.2 v.2
    ∙ rising_places (attribute_place q u.0) (attribute_place r v.0) 0 0 u.1 v.1 (omega arith) (omega arith)
    (attribute_before_attribute q r u.0 v.0 (first_true (list_all is_name r) (fits_field r) hr) l)

-- pairs of a path stand below those of a path behind it
below_paths : (q r : Path) (xs ys : List Pair) → IsTrue (is_path q) → IsTrue (is_path r) → path_cmp q r ≡ Less
    → AllByRecursion (IsOfPath q) xs → AllByRecursion (IsOfPath r) ys
    → IsBelow pair_cmp xs ys
below_paths q r xs ys hq hr l h g =
    all_weaker (IsOfPath q) (λ x. AllByRecursion (λ y. pair_cmp x y ≡ Less) ys)
    (λ x u. all_weaker (IsOfPath r) (λ y. pair_cmp x y ≡ Less) (λ y v. below_path q r x y hq hr l u v) ys g) xs h

-- the pairs of a tree's entry are of its path
pub pairs_of_entry : (t : Tree) (e : Path × Entry) (p : Parameters) → IsEntry t e
    → AllByRecursion (IsOfPath e.0) (entry_pairs e.0 e.1 p)
pairs_of_entry t e p g = entry_pairs_of_path e.0 e.1 p g.path g.node g.attributes

-- the pairs of a tree rise by key
pub rising_pairs : (t : Tree) (p : Parameters) → IsTree t → IsStrictlySortedBy pair_cmp (pairs t p)
unfolding pairs
rising_pairs t p h =
    rising_flat_map entry_cmp pair_cmp (λ e. entry_pairs e.0 e.1 p) (IsEntry t)
    (λ e g. rising_entry_pairs e.0 e.1 p g.path g.node g.attributes)
    (λ e f g k l. below_paths e.0 f.0 (entry_pairs e.0 e.1 p) (entry_pairs f.0 f.1 p) g.path k.path l
    (pairs_of_entry t e p g) (pairs_of_entry t f p k))
    t h.entries (rising_from_is_sorted path_cmp t h.sorted)

-- so they are a finite map
pub is_sorted-pairs : (t : Tree) (p : Parameters) → IsTree t → IsTrue (is_sorted key_cmp (pairs t p))
is_sorted-pairs t p h = is_sorted_from_rising key_cmp (pairs t p) (rising_pairs t p h)

-- and the keys alone rise
pub rising_keys : (t : Tree) (p : Parameters) → IsTree t → IsStrictlySortedBy key_cmp (map (λ pair. pair.0) (pairs t p))
rising_keys t p h = rising_map pair_cmp key_cmp (λ pair. pair.0) (λ pair. Unit {0}) (λ a b u v l. l) (pairs t p)
    (all_none _ (λ pair. tt) (pairs t p)) (rising_pairs t p h)

-- ---- each pair has a key of 124 bytes and a value of 1 to 256

-- a pair of a key of a place and a value
place_pair : (place : Path) (block : ℕ) (value : List ℕ) → IsTrue (is_place place) → IsValue value
    → IsPair (key place block, value)
place_pair place block value h v = record {
  key_length = length-key place block h;
  key_bytes = bytes_of_key place block h;
  value = v;
}

-- a pair of a key of a path and a value
key_pair : (path : Path) (block : ℕ) (value : List ℕ) → IsTrue (is_path path) → IsValue value
    → IsPair (key path block, value)
key_pair path block value h v = place_pair path block value (place_of_path path h) v

-- a directory's value is a value
directory_value_is_value : IsValue directory_value
directory_value_is_value = (omega arith, omega arith, bytes_from_all directory_value (omega arith, tt))

-- a file's first value is a value
file_value_is_value : (n : ℕ) → IsValue (file_value n)
file_value_is_value n = (omega arith, omega arith, bytes_from_all (file_value n) (omega arith, be_bytes_are_bytes n))

-- so is one that has the bytes of a short file
inline_value_is_value : (bytes : List ℕ) → length bytes ≤ 200 → IsBytes bytes → IsValue (inline_value bytes)
inline_value_is_value bytes short h =
    (omega arith, omega arith, bytes_from_all (inline_value bytes) (omega arith, all_from_bytes bytes h))

-- so is one that has the bytes of an attribute
attribute_value_is_value : (bytes : List ℕ) → length bytes ≤ 255 → IsBytes bytes → IsValue (attribute_value bytes)
attribute_value_is_value bytes short h =
    (omega arith, omega arith, bytes_from_all (attribute_value bytes) (omega arith, all_from_bytes bytes h))

-- the blocks of a file are values
blocks_are_values : (bytes : List ℕ) → IsBytes bytes → AllByRecursion IsValue (runs file_block bytes)
blocks_are_values bytes h =
    all_with _ _ _ (λ run l b. (l.0, l.1, bytes_from_all run b)) (runs file_block bytes)
    (lengths_of_runs file_block bytes (omega arith))
    (all_runs (λ c. c < 256) file_block bytes (omega arith) (all_from_bytes bytes h))

-- the pairs of a file
file_pairs_are_pairs : (inline : Bool) (path : Path) (bytes : List ℕ) → (inline ≡ true → length bytes ≤ 200)
    → IsTrue (is_path path) → IsNode (File bytes) → AllByRecursion IsPair (file_pairs inline path bytes)
file_pairs_are_pairs true path bytes short h g =
    (key_pair path 0 (inline_value bytes) h (inline_value_is_value bytes (short refl) g.1), tt)
file_pairs_are_pairs false path bytes short h g = (
  key_pair path 0 (file_value (length bytes)) h (file_value_is_value (length bytes)),
  all_map (λ b. IsValue b.1) IsPair (block_pair path) (λ b v. key_pair path b.0 b.1 h v)
      (enumerate_from 1 (runs file_block bytes))
      (all_enumerate_from IsValue 1 (runs file_block bytes) (blocks_are_values bytes g.1)),
)

-- the pairs of what stands at a path
node_pairs_are_pairs : (path : Path) (node : Node) (p : Parameters) → IsTrue (is_path path) → IsNode node
    → AllByRecursion IsPair (node_pairs path node p)
unfolding node_pairs
node_pairs_are_pairs path Directory p h g = (key_pair path 0 directory_value h directory_value_is_value, tt)
node_pairs_are_pairs path (File bytes) p h g =
    file_pairs_are_pairs (is_inline p.version (length bytes)) path bytes (inline_is_short p.version (length bytes)) h g

-- the pairs of attributes
attribute_pairs_are_pairs : (path : Path) (attributes : Attributes) → IsTrue (is_path path)
    → AllByRecursion (IsAttribute path) attributes → AllByRecursion IsPair (attribute_pairs path attributes)
unfolding attribute_pairs
attribute_pairs_are_pairs path attributes h each =
    all_map (IsAttribute path) IsPair (attribute_pair path)
    (λ a is. place_pair (attribute_place path a.0) 0 (attribute_value a.1) (attribute_is_place path a h is)
    (attribute_value_is_value a.1 is.short is.bytes)) attributes each

-- the pairs of an entry
entry_pairs_are_pairs : (path : Path) (entry : Entry) (p : Parameters) → IsTrue (is_path path) → IsNode entry.node
    → AreAttributes path entry.attributes → AllByRecursion IsPair (entry_pairs path entry p)
entry_pairs_are_pairs path entry p h is are =
    all_append IsPair (node_pairs path entry.node p) (attribute_pairs path entry.attributes)
    (node_pairs_are_pairs path entry.node p h is) (attribute_pairs_are_pairs path entry.attributes h are.each)

-- the pairs of a tree
pub pairs_are_pairs : (t : Tree) (p : Parameters) → IsTree t → IsPairs (pairs t p)
unfolding pairs
pairs_are_pairs t p h = record {
  sorted = is_sorted-pairs t p h;
  pairs = all_flat_map (IsEntry t) IsPair (λ e. entry_pairs e.0 e.1 p)
      (λ e g. entry_pairs_are_pairs e.0 e.1 p g.path g.node g.attributes) t h.entries;
}
