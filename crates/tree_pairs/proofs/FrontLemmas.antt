-- The pairs of a tree at the front of others: its entries are the first ones of any tree whose pairs begin so.
use Rattle.std.proofs.Common.{◌≡◌, ℕ, List, [], ◌∷◌, ◌++◌, length, Bool, true, false, ◌⊎◌, inl, inr, IsTrue, refl, sym}
use Rattle.std.proofs.Common.{ap, subst, ◌∙◌, arith}
use Rattle.std.specs.List.{AllByRecursion, enumerate_from}
use Rattle.std.proofs.lemmas.Grind.{flat_map-append}
use Rattle.std.proofs.lemmas.List.{append-nil, append_assoc, length-map, map-append}
use Rattle.std.proofs.lemmas.List.FromFn.{length-enumerate_from}
use Rattle.store_model.specs.Lists.{run_count, runs}
use Rattle.store_model.specs.Parameters.{Parameters}
use Rattle.store_model.specs.declared.version.Version.{Version}
use Rattle.store_model.specs.Paths.{Path, Name, is_path, key, attribute_key}
use Rattle.store_model.specs.Pairs.{Pair, file_block, directory_value, is_inline, file_pairs, node_pairs}
use Rattle.store_model.specs.Pairs.{attribute_value, attribute_pairs, entry_pairs, pairs}
use Rattle.store_model.specs.Trees.{Tree, Node, Entry, Attributes, IsNode, IsAttribute, IsEntry, IsTree}
use Rattle.store_model.specs.Trees.Node.{Directory, File}
use Rattle.store_model.proofs.ListsLemmas.{all_weaker, length-runs}
use Rattle.store_model.proofs.TreesLemmasBytes.{heads_same, tails_same}
use Rattle.store_model.proofs.TreesLemmasLayouts.{keys_tell_attributes, pair_parts, nodes_same, some_pair}
use Rattle.tree_pairs.specs.declared.kind.Kind.{Kind}
use Rattle.tree_pairs.specs.declared.kind.Kind.TheVariants as kinds
use Rattle.tree_pairs.specs.Kinds.{kind_of, IsKind, IsFileValue, IsValueOf, file_first}
use Rattle.tree_pairs.proofs.KindLemmas.{value_of_node}
use Rattle.tree_pairs.specs.Fronts.{block_pairs}
use Rattle.tree_pairs.specs.Seen.{bare_entry}

-- ---- the pairs of what stands at a path

-- the pairs behind a file's first pair
abbrev behind_first : Bool → Path → List ℕ → List Pair
behind_first true path bytes = []
behind_first false path bytes = block_pairs path bytes

first_of_file : (inline : Bool) (path : Path) (bytes : List ℕ)
    → file_pairs inline path bytes ≡ (key path 0, file_first inline bytes) ∷ behind_first inline path bytes
first_of_file true path bytes = refl
first_of_file false path bytes = refl

-- the first pair of what stands at a path, and those behind it
pub record HasFirst (path : Path) (node : Node) (p : Parameters) : Type 0 where
  pub value : List ℕ
  pub value_is : IsValueOf p.version (kind_of node) value
  pub behind : List Pair
  pub pairs_are : node_pairs path node p ≡ (key path 0, value) ∷ behind
  pub kind_is : IsKind (kind_of node)

pub first_of_node : (path : Path) (node : Node) (p : Parameters) → IsNode node → HasFirst path node p
unfolding node_pairs
first_of_node path Directory p is = record {
  value = directory_value;
  value_is = refl;
  behind = [];
  pairs_are = refl;
  kind_is = tt;
}
first_of_node path (File bytes) p is =
    let inline = is_inline p.version (length bytes) in
    record {
      value = file_first inline bytes;
      value_is = value_of_node (File bytes) p.version (file_first inline bytes) refl;
      behind = behind_first inline path bytes;
      pairs_are = first_of_file inline path bytes;
      kind_is = is.0;
    }

-- how many blocks there are
pub length-block_pairs : (x : Path) (bytes : List ℕ)
    → length (block_pairs x bytes) ≡ run_count file_block (length bytes)
length-block_pairs x bytes = length-map (enumerate_from 1 (runs file_block bytes)) _
    ∙ length-enumerate_from 1 (runs file_block bytes) ∙ length-runs file_block bytes

-- ---- attributes behind what stands at a path

-- the value of a first pair is no attribute's
no_attribute_of_file : (inline : Bool) (len : ℕ) (value bytes : List ℕ) → IsFileValue inline len value
    → value ≡ attribute_value bytes → ⊥
no_attribute_of_file true len value bytes says e = let first : ◌≡◌ {A = ℕ} 3 4 =
    heads_same (sym says.2 ∙ e) in omega arith
no_attribute_of_file false len value bytes says e = let first : ◌≡◌ {A = ℕ} 2 4 =
    heads_same (sym says ∙ e) in omega arith

pub first_is_no_attribute : (version : Version) (kind : Kind) (value bytes : List ℕ) → IsValueOf version kind value
    → value ≡ attribute_value bytes → ⊥
first_is_no_attribute version kinds.Directory value bytes says e = let first : ◌≡◌ {A = ℕ} 1 4 =
    heads_same (sym says ∙ e) in omega arith
first_is_no_attribute version (kinds.File len) value bytes says e =
    no_attribute_of_file (is_inline version len) len value bytes says e

-- an entry as far as its own pairs go
record IsOwnEntry (e : Path × Entry) : Type 0 where
  path : IsTrue (is_path e.0)
  node : IsNode e.1.node
  attributes : AllByRecursion (IsAttribute e.0) e.1.attributes

own_entries : (t u : Tree) → AllByRecursion (IsEntry u) t → AllByRecursion IsOwnEntry t
own_entries t u entries = all_weaker (IsEntry u) IsOwnEntry (λ e is. record {
  path = is.path;
  node = is.node;
  attributes = (is.attributes).each;
}) t entries

-- an entry's pairs in front of others
entry_in_front : (x : Path) (entry : Entry) (p : Parameters) (rest : List Pair)
    → entry_pairs x entry p ++ rest ≡ node_pairs x entry.node p ++ (attribute_pairs x entry.attributes ++ rest)
entry_in_front x entry p rest = append_assoc (node_pairs x entry.node p) (attribute_pairs x entry.attributes) rest

-- what stands at a path in front of others does not begin with an attribute
node_begins : (x : Path) (node : Node) (p : Parameters) (others : List Pair) (k bytes : List ℕ) (rest : List Pair)
    → IsNode node → node_pairs x node p ++ others ≡ (k, attribute_value bytes) ∷ rest → ⊥
node_begins x node p others k bytes rest is e =
    let first = first_of_node x node p is in
    let whole : (key x 0, first.value) ∷ (first.behind ++ others) ≡ (k, attribute_value bytes) ∷ rest =
    sym (ap (λ (front : List Pair). front ++ others) first.pairs_are) ∙ e in
    first_is_no_attribute p.version (kind_of node) first.value bytes first.value_is (pair_parts (heads_same whole)).1

-- nor do the pairs of entries, in front of others that do not
entries_begin : (t : Tree) (p : Parameters) (others : List Pair) (k bytes : List ℕ) (rest : List Pair)
    → AllByRecursion IsOwnEntry t → (others ≡ (k, attribute_value bytes) ∷ rest → ⊥)
    → pairs t p ++ others ≡ (k, attribute_value bytes) ∷ rest → ⊥
unfolding pairs
entries_begin [] p others k bytes rest own none e = none e
entries_begin (f ∷ t) p others k bytes rest own none e =
    node_begins f.0 f.1.node p (attribute_pairs f.0 f.1.attributes ++ (pairs t p ++ others)) k bytes rest (own.0).node
    (sym (entry_in_front f.0 f.1 p (pairs t p ++ others))
    ∙ sym (append_assoc (entry_pairs f.0 f.1 p) (pairs t p) others) ∙ e)

-- so entries of a tree do not begin with an attribute
pub tree_begins : (t u : Tree) (p : Parameters) (k bytes : List ℕ) (rest : List Pair) → AllByRecursion (IsEntry u) t
    → pairs t p ≡ (k, attribute_value bytes) ∷ rest → ⊥
tree_begins t u p k bytes rest entries e =
    entries_begin t p [] k bytes rest (own_entries t u entries) (λ none. cc) (append-nil (pairs t p) ∙ e)

-- the attributes of a path are the first ones of longer ones, and the pair behind them is that of the next one
pub record HasMoreNames (x : Path) (longer attributes : Attributes) (pair : Pair) : Type 0 where
  pub attribute : Name × List ℕ
  pub more : Attributes
  pub attributes_are : longer ≡ attributes ++ attribute ∷ more
  pub pair_is : pair ≡ (attribute_key x attribute.0, attribute_value attribute.1)

attributes_first : (x : Path) (ms ns : Attributes) (u : Tree) (p : Parameters) (pair : Pair) (rest : List Pair)
    → IsTrue (is_path x) → AllByRecursion (IsAttribute x) ms → AllByRecursion (IsAttribute x) ns
    → AllByRecursion IsOwnEntry u
    → attribute_pairs x ms ++ pairs u p ≡ attribute_pairs x ns ++ pair ∷ rest → ((ms ≡ ns) × (pairs u p ≡ pair ∷ rest))
    ⊎ HasMoreNames x ms ns pair
unfolding attribute_pairs
attributes_first x [] [] u p pair rest h g k own e = inl (refl, e)
attributes_first x (m ∷ ms) [] u p pair rest h g k own e =
    inr (record { attribute = m; more = ms; attributes_are = refl; pair_is = sym (heads_same e) })
attributes_first x [] (n ∷ ns) u p pair rest h g k own e =
    absurd (entries_begin u p [] (attribute_key x n.0) n.1 (attribute_pairs x ns ++ pair ∷ rest) own (λ none. cc)
    (append-nil (pairs u p) ∙ e))
attributes_first x (m ∷ ms) (n ∷ ns) u p pair rest h g k own e =
    let first = pair_parts (heads_same e) in
    let name = keys_tell_attributes x m n h g.0 k.0 first.0 in
    let value = tails_same first.1 in
    by_rest name value (attributes_first x ms ns u p pair rest h g.1 k.1 own (tails_same e))
  where
    by_rest : m.0 ≡ n.0 → m.1 ≡ n.1 → ((ms ≡ ns) × (pairs u p ≡ pair ∷ rest)) ⊎ HasMoreNames x ms ns pair
        → ((m ∷ ms ≡ n ∷ ns) × (pairs u p ≡ pair ∷ rest)) ⊎ HasMoreNames x (m ∷ ms) (n ∷ ns) pair
    by_rest name value (inl same) = let behind = same.0 in inl ((λ i. (name i, value i) ∷ behind i), same.1)
    by_rest name value (inr longer) = let behind = longer.attributes_are
        in inr (record {
          attribute = longer.attribute;
          more = longer.more;
          attributes_are = λ i. (name i, value i) ∷ behind i;
          pair_is = longer.pair_is;
        })

-- ---- the pairs of entries, one behind the others

-- the pairs of an entry more are behind the others
pub pairs_more : (t : Tree) (x : Path) (entry : Entry) (p : Parameters)
    → pairs (t ++ (x, entry) ∷ []) p ≡ pairs t p ++ entry_pairs x entry p
unfolding pairs
pairs_more t x entry p = flat_map-append (λ (e : Path × Entry). entry_pairs e.0 e.1 p) t ((x, entry) ∷ [])
    ∙ ap (λ rest. pairs t p ++ rest) (append-nil (entry_pairs x entry p))

-- without attributes it has those of what stands there
pub bare_pairs_more : (t : Tree) (x : Path) (node : Node) (p : Parameters)
    → pairs (t ++ (x, bare_entry node) ∷ []) p ≡ pairs t p ++ node_pairs x node p
unfolding attribute_pairs
bare_pairs_more t x node p = pairs_more t x (bare_entry node) p
    ∙ ap (λ own. pairs t p ++ own) (append-nil (node_pairs x node p))

-- and with an attribute more the pair of that
pub attribute_pairs_more : (t : Tree) (x : Path) (node : Node) (attributes : Attributes) (name : Name)
    (bytes : List ℕ) (p : Parameters)
    → pairs (t ++ (x, record { node = node; attributes = attributes ++ (name, bytes) ∷ [] }) ∷ []) p
    ≡ pairs (t ++ (x, record { node = node; attributes = attributes }) ∷ []) p
    ++ (attribute_key x name, attribute_value bytes) ∷ []
unfolding attribute_pairs
attribute_pairs_more t x node attributes name bytes p =
    let pair : Pair = (attribute_key x name, attribute_value bytes) in
    pairs_more t x (record { node = node; attributes = attributes ++ (name, bytes) ∷ [] }) p
    ∙ ap (λ own. pairs t p ++ (node_pairs x node p ++ own))
    (map-append (λ (a : Name × List ℕ). (attribute_key x a.0, attribute_value a.1)) attributes ((name, bytes) ∷ []))
    ∙ ap (λ own. pairs t p ++ own) (sym (append_assoc (node_pairs x node p) (attribute_pairs x attributes) (pair ∷ [])))
    ∙ sym (append_assoc (pairs t p) (node_pairs x node p ++ attribute_pairs x attributes) (pair ∷ []))
    ∙ ap (λ front. front ++ pair ∷ []) (sym (pairs_more t x (record { node = node; attributes = attributes }) p))

-- the entries whose pairs come first, and the others
pub record HasFront (u t : Tree) (rest : List Pair) (p : Parameters) : Type 0 where
  pub others : Tree
  pub entries_are : u ≡ t ++ others
  pub pairs_are : pairs others p ≡ rest

-- or the pair behind the first ones is that of an attribute of their last entry, which has it behind its others
pub record HasLonger (u t : Tree) (pair : Pair) : Type 0 where
  pub before : Tree
  pub path : Path
  pub node : Node
  pub attributes : Attributes
  pub first_are : t ≡ before ++ (path, record { node = node; attributes = attributes }) ∷ []
  pub longer : Attributes
  pub others : Tree
  pub entries_are : u ≡ before ++ (path, record { node = node; attributes = longer }) ∷ others
  pub more : HasMoreNames path longer attributes pair

-- the pairs of no entry
no_entry : (f : Path × Entry) (p : Parameters) (others rest : List Pair)
    → [] ≡ (entry_pairs f.0 f.1 p ++ others) ++ rest → ⊥
no_entry f p others rest e =
    some_pair f.0 f.1.node p (attribute_pairs f.0 f.1.attributes ++ (others ++ rest))
    (e ∙ append_assoc (entry_pairs f.0 f.1 p) others rest ∙ entry_in_front f.0 f.1 p (others ++ rest))

entries_first : (u t : Tree) (pair : Pair) (rest : List Pair) (p : Parameters) → AllByRecursion IsOwnEntry u
    → AllByRecursion IsOwnEntry t → pairs u p ≡ pairs t p ++ pair ∷ rest
    → HasFront u t (pair ∷ rest) p ⊎ HasLonger u t pair
unfolding pairs
entries_first u [] pair rest p hu ht e = inl (record { others = u; entries_are = refl; pairs_are = e })
entries_first [] (f ∷ t) pair rest p hu ht e = absurd (no_entry f p (pairs t p) (pair ∷ rest) e)
entries_first (g ∷ u) (f ∷ t) pair rest p hu ht e =
    let same = nodes_same g.0 f.0 g.1.node f.1.node p (attribute_pairs g.0 g.1.attributes ++ pairs u p)
    (attribute_pairs f.0 f.1.attributes ++ (pairs t p ++ pair ∷ rest))
    (hu.0).path (ht.0).path (hu.0).node (ht.0).node
    (sym (entry_in_front g.0 g.1 p (pairs u p)) ∙ e ∙ append_assoc (entry_pairs f.0 f.1 p) (pairs t p) (pair ∷ rest)
    ∙ entry_in_front f.0 f.1 p (pairs t p ++ pair ∷ rest)) in
    let behind : attribute_pairs f.0 g.1.attributes ++ pairs u p ≡ attribute_pairs f.0 f.1.attributes
    ++ (pairs t p ++ pair ∷ rest) = ap (λ (x : Path). attribute_pairs x g.1.attributes ++ pairs u p) (sym same.0)
    ∙ same.2 in
    let own : AllByRecursion (IsAttribute f.0) g.1.attributes =
    subst (λ (x : Path). AllByRecursion (IsAttribute x) g.1.attributes) same.0 (hu.0).attributes in
    by_others t same.0 same.1 own ht.1 behind (λ later. entries_first u t pair rest p hu.1 ht.1 later)
  where
    -- behind equal entries the same holds as of the others
    one_more : (t : Tree) → g.0 ≡ f.0 → g.1.node ≡ f.1.node → g.1.attributes ≡ f.1.attributes
        → HasFront u t (pair ∷ rest) p ⊎ HasLonger u t pair → HasFront (g ∷ u) (f ∷ t) (pair ∷ rest) p
        ⊎ HasLonger (g ∷ u) (f ∷ t) pair
    one_more t path node attributes (inl front) =
        let entries = front.entries_are in
        inl (record {
          others = front.others;
          entries_are = λ i. (path i, record { node = node i; attributes = attributes i }) ∷ entries i;
          pairs_are = front.pairs_are;
        })
    one_more t path node attributes (inr longer) =
        let first = longer.first_are in
        let entries = longer.entries_are in
        inr (record {
          before = f ∷ longer.before;
          path = longer.path;
          node = longer.node;
          attributes = longer.attributes;
          first_are = λ i. f ∷ first i;
          longer = longer.longer;
          others = longer.others;
          entries_are = λ i. (path i, record { node = node i; attributes = attributes i }) ∷ entries i;
          more = longer.more;
        })

    by_others : (t : Tree) → g.0 ≡ f.0 → g.1.node ≡ f.1.node → AllByRecursion (IsAttribute f.0) g.1.attributes
        → AllByRecursion IsOwnEntry t → attribute_pairs f.0 g.1.attributes ++ pairs u p
        ≡ attribute_pairs f.0 f.1.attributes ++ (pairs t p ++ pair ∷ rest)
        → (pairs u p ≡ pairs t p ++ pair ∷ rest → HasFront u t (pair ∷ rest) p ⊎ HasLonger u t pair)
        → HasFront (g ∷ u) (f ∷ t) (pair ∷ rest) p ⊎ HasLonger (g ∷ u) (f ∷ t) pair
    by_others [] path node own are behind later =
        by_front (attributes_first f.0 g.1.attributes f.1.attributes u p pair rest (ht.0).path own
        (ht.0).attributes hu.1 behind)
      where
        by_front : ((g.1.attributes ≡ f.1.attributes) × (pairs u p ≡ pair ∷ rest))
            ⊎ HasMoreNames f.0 g.1.attributes f.1.attributes pair → HasFront (g ∷ u) (f ∷ []) (pair ∷ rest) p
            ⊎ HasLonger (g ∷ u) (f ∷ []) pair
        by_front (inl same) = one_more [] path node same.0 (later same.1)
        by_front (inr more) = inr (record {
          before = [];
          path = f.0;
          node = f.1.node;
          attributes = f.1.attributes;
          first_are = refl;
          longer = g.1.attributes;
          others = u;
          entries_are = λ i. (path i, record { node = node i; attributes = g.1.attributes }) ∷ u;
          more = more;
        })
    by_others (k ∷ t) path node own are behind later =
        let first = first_of_node k.0 k.1.node p (are.0).node in
        let others : List Pair = attribute_pairs k.0 k.1.attributes ++ (pairs t p ++ pair ∷ rest) in
        let begins : pairs (k ∷ t) p ++ pair ∷ rest ≡ (key k.0 0, first.value) ∷ (first.behind ++ others) =
        append_assoc (entry_pairs k.0 k.1 p) (pairs t p) (pair ∷ rest)
        ∙ entry_in_front k.0 k.1 p (pairs t p ++ pair ∷ rest)
        ∙ ap (λ (own : List Pair). own ++ others) first.pairs_are in
        by_front first.value first.value_is (first.behind ++ others) begins
        (attributes_first f.0 g.1.attributes f.1.attributes u p (key k.0 0, first.value) (first.behind ++ others)
        (ht.0).path own (ht.0).attributes hu.1 (behind
        ∙ ap (λ (xs : List Pair). attribute_pairs f.0 f.1.attributes ++ xs) begins))
      where
        by_front : (value : List ℕ) → IsValueOf p.version (kind_of k.1.node) value → (later_pairs : List Pair)
            → pairs (k ∷ t) p ++ pair ∷ rest ≡ (key k.0 0, value) ∷ later_pairs
            → ((g.1.attributes ≡ f.1.attributes) × (pairs u p ≡ (key k.0 0, value) ∷ later_pairs))
            ⊎ HasMoreNames f.0 g.1.attributes f.1.attributes (key k.0 0, value)
            → HasFront (g ∷ u) (f ∷ k ∷ t) (pair ∷ rest) p ⊎ HasLonger (g ∷ u) (f ∷ k ∷ t) pair
        by_front value says later_pairs begins (inl same) =
            one_more (k ∷ t) path node same.0 (later (same.1 ∙ sym begins))
        by_front value says later_pairs begins (inr more) =
            absurd (first_is_no_attribute p.version (kind_of k.1.node) value more.attribute.1 says
            (pair_parts more.pair_is).1)

-- a tree whose pairs begin with those of another one begins with its entries, the last one's attributes apart
pub tree_first : (u t : Tree) (pair : Pair) (rest : List Pair) (p : Parameters) → IsTree u → IsTree t
    → pairs u p ≡ pairs t p ++ pair ∷ rest → HasFront u t (pair ∷ rest) p ⊎ HasLonger u t pair
tree_first u t pair rest p hu ht e =
    entries_first u t pair rest p (own_entries u u hu.entries) (own_entries t t ht.entries) e

-- it begins with its entries where the next pair is no attribute's
pub tree_first_whole : (u t : Tree) (pair : Pair) (rest : List Pair) (p : Parameters) → IsTree u → IsTree t
    → pairs u p ≡ pairs t p ++ pair ∷ rest → ((bytes : List ℕ) → pair.1 ≡ attribute_value bytes → ⊥)
    → HasFront u t (pair ∷ rest) p
tree_first_whole u t pair rest p hu ht e none = by_front (tree_first u t pair rest p hu ht e)
  where
    by_front : HasFront u t (pair ∷ rest) p ⊎ HasLonger u t pair → HasFront u t (pair ∷ rest) p
    by_front (inl front) = front
    by_front (inr longer) = absurd (none (longer.more).attribute.1 (pair_parts (longer.more).pair_is).1)

-- the first entry of those whose pairs begin with a pair
pub record HasNext (t others : Tree) (pair : Pair) (rest : List Pair) (p : Parameters) : Type 0 where
  pub path : Path
  pub entry : Entry
  pub later : Tree
  pub entries_are : others ≡ (path, entry) ∷ later
  pub is_entry : IsEntry t (path, entry)
  pub behind : List Pair
  pub node_pairs_are : node_pairs path entry.node p ≡ (key path 0, pair.1) ∷ behind
  pub kind_is : IsKind (kind_of entry.node)
  pub key_is : pair.0 ≡ key path 0
  pub value_is : IsValueOf p.version (kind_of entry.node) pair.1
  pub rest_is : behind ++ (attribute_pairs path entry.attributes ++ pairs later p) ≡ rest

pub next_of_pair : (t others : Tree) (pair : Pair) (rest : List Pair) (p : Parameters)
    → AllByRecursion (IsEntry t) others → pairs others p ≡ pair ∷ rest → HasNext t others pair rest p
unfolding pairs
next_of_pair t [] pair rest p entries e = cc
next_of_pair t (f ∷ later) pair rest p entries e =
    let first = first_of_node f.0 f.1.node p (entries.0).node in
    let others : List Pair = attribute_pairs f.0 f.1.attributes ++ pairs later p in
    let whole : (key f.0 0, first.value) ∷ (first.behind ++ others) ≡ pair ∷ rest =
    sym (ap (λ (front : List Pair). front ++ others) first.pairs_are)
    ∙ sym (entry_in_front f.0 f.1 p (pairs later p)) ∙ e in
    let parts = pair_parts (sym (heads_same whole)) in
    record {
      path = f.0;
      entry = f.1;
      later = later;
      entries_are = refl;
      is_entry = entries.0;
      behind = first.behind;
      node_pairs_are = first.pairs_are ∙ ap (λ (v : List ℕ). (key f.0 0, v) ∷ first.behind) (sym parts.1);
      kind_is = first.kind_is;
      key_is = parts.0;
      value_is = subst (IsValueOf p.version (kind_of f.1.node)) (sym parts.1) first.value_is;
      rest_is = tails_same whole;
    }
