-- The counts of a tree with an entry more, and how large they are.
use Rattle.std.proofs.Common.{◌≡◌, ℕ, ◌+◌, ◌*◌, ◌≤◌, [], ◌∷◌, ◌++◌, length, cond, Some, refl, sym, ap, ◌∙◌, arith}
use Rattle.std.specs.List.{AllByRecursion, sum_by}
use Rattle.std.proofs.lemmas.List.{length-append}
use Rattle.std.proofs.lemmas.List.Sums.{sum_by-append}
use Rattle.store_model.specs.Parameters.{Parameters}
use Rattle.store_model.specs.Paths.{Path}
use Rattle.store_model.specs.Pairs.{node_pairs, attribute_pairs, entry_pairs, pairs}
use Rattle.store_model.specs.Trees.{Tree, Node, Entry, Attributes, file_limit, IsNode, IsEntry, IsTree}
use Rattle.store_model.specs.Trees.{is_directory_node, is_file_node, contents_of}
use Rattle.store_model.specs.Trees.Node.{Directory, File}
use Rattle.tree_pairs.specs.Kinds.{kind_of}
use Rattle.tree_pairs.specs.declared.counts.Counts.{Counts}
use Rattle.tree_pairs.specs.Counts.{count_dirs, count_files, count_bytes, AreCounts, CountsMore}
use Rattle.tree_pairs.proofs.FrontLemmas.{first_of_node}

-- an entry more is counted
pub counts_more : (t : Tree) (x : Path) (node : Node) (attributes : Attributes) (old new : Counts) → AreCounts t old
    → CountsMore old (kind_of node) new → AreCounts (t ++ (x, record { node = node; attributes = attributes }) ∷ []) new
counts_more t x Directory attributes old new are more =
    let dirs = sum_by-append (λ (e : Path × Entry). cond (is_directory_node (Some e.1.node)) 1 0) t
    ((x, record { node = Directory; attributes = attributes }) ∷ []) in
    let files = sum_by-append (λ (e : Path × Entry). cond (is_file_node (Some e.1.node)) 1 0) t
    ((x, record { node = Directory; attributes = attributes }) ∷ []) in
    let bytes = sum_by-append (λ (e : Path × Entry). length (contents_of (Some e.1.node))) t
    ((x, record { node = Directory; attributes = attributes }) ∷ []) in
    record {
      dirs_are = omega (arith, dirs, more.0, are.dirs_are);
      files_are = omega (arith, files, more.1, are.files_are);
      bytes_are = omega (arith, bytes, more.2, are.bytes_are);
    }
counts_more t x (File content) attributes old new are more =
    let dirs = sum_by-append (λ (e : Path × Entry). cond (is_directory_node (Some e.1.node)) 1 0) t
    ((x, record { node = File content; attributes = attributes }) ∷ []) in
    let files = sum_by-append (λ (e : Path × Entry). cond (is_file_node (Some e.1.node)) 1 0) t
    ((x, record { node = File content; attributes = attributes }) ∷ []) in
    let bytes = sum_by-append (λ (e : Path × Entry). length (contents_of (Some e.1.node))) t
    ((x, record { node = File content; attributes = attributes }) ∷ []) in
    record {
      dirs_are = omega (arith, dirs, more.0, are.dirs_are);
      files_are = omega (arith, files, more.1, are.files_are);
      bytes_are = omega (arith, bytes, more.2, are.bytes_are);
    }

-- attributes are not counted
pub counts_keep : (t : Tree) (x : Path) (node : Node) (before after : Attributes) (counts : Counts)
    → AreCounts (t ++ (x, record { node = node; attributes = before }) ∷ []) counts
    → AreCounts (t ++ (x, record { node = node; attributes = after }) ∷ []) counts
counts_keep t x node before after counts are =
    let old : Tree = (x, record { node = node; attributes = before }) ∷ [] in
    let new : Tree = (x, record { node = node; attributes = after }) ∷ [] in
    record {
      dirs_are = are.dirs_are ∙ same (λ (e : Path × Entry). cond (is_directory_node (Some e.1.node)) 1 0) old new refl;
      files_are = are.files_are ∙ same (λ (e : Path × Entry). cond (is_file_node (Some e.1.node)) 1 0) old new refl;
      bytes_are = are.bytes_are ∙ same (λ (e : Path × Entry). length (contents_of (Some e.1.node))) old new refl;
    }
  where
    same : (f : Path × Entry → ℕ) (old new : Tree) → sum_by f old ≡ sum_by f new
        → sum_by f (t ++ old) ≡ sum_by f (t ++ new)
    same f old new e = sum_by-append f t old ∙ ap (λ n. sum_by f t + n) e ∙ sym (sum_by-append f t new)

-- there are no more entries than pairs, and no file is longer than one may be
pub record AreInRange (t : Tree) (p : Parameters) : Type 0 where
  pub few : count_dirs t + count_files t ≤ length (pairs t p)
  pub short : count_bytes t ≤ file_limit * count_files t

-- with one entry in front
in_range_more : (x : Path) (node : Node) (attributes : Attributes) (t : Tree) (p : Parameters) → IsNode node
    → AreInRange t p → AreInRange ((x, record { node = node; attributes = attributes }) ∷ t) p
unfolding pairs
in_range_more x Directory attributes t p is rest =
    let entry : Entry = record { node = Directory; attributes = attributes } in
    let dirs = sum_by-append (λ (e : Path × Entry). cond (is_directory_node (Some e.1.node)) 1 0) ((x, entry) ∷ []) t in
    let files = sum_by-append (λ (e : Path × Entry). cond (is_file_node (Some e.1.node)) 1 0) ((x, entry) ∷ []) t in
    let bytes = sum_by-append (λ (e : Path × Entry). length (contents_of (Some e.1.node))) ((x, entry) ∷ []) t in
    let first = ap length (first_of_node x Directory p is).pairs_are in
    let own = length-append (node_pairs x Directory p) (attribute_pairs x attributes) in
    record {
      few = omega (arith, dirs, files, first, own, rest.few, length-append (entry_pairs x entry p) (pairs t p));
      short = omega (arith, files, bytes, rest.short);
    }
in_range_more x (File content) attributes t p is rest =
    let entry : Entry = record { node = File content; attributes = attributes } in
    let dirs = sum_by-append (λ (e : Path × Entry). cond (is_directory_node (Some e.1.node)) 1 0) ((x, entry) ∷ []) t in
    let files = sum_by-append (λ (e : Path × Entry). cond (is_file_node (Some e.1.node)) 1 0) ((x, entry) ∷ []) t in
    let bytes = sum_by-append (λ (e : Path × Entry). length (contents_of (Some e.1.node))) ((x, entry) ∷ []) t in
    let first = ap length (first_of_node x (File content) p is).pairs_are in
    let own = length-append (node_pairs x (File content) p) (attribute_pairs x attributes) in
    record {
      few = omega (arith, dirs, files, first, own, rest.few, length-append (entry_pairs x entry p) (pairs t p));
      short = omega (arith, files, bytes, rest.short, is.0);
    }

entries_in_range : (t u : Tree) (p : Parameters) → AllByRecursion (IsEntry u) t → AreInRange t p
unfolding pairs
entries_in_range [] u p are = record { few = omega arith; short = omega arith }
entries_in_range (e ∷ t) u p are = in_range_more e.0 e.1.node e.1.attributes t p
    (are.0).node (entries_in_range t u p are.1)

pub in_range : (t : Tree) (p : Parameters) → IsTree t → AreInRange t p
in_range t p tree = entries_in_range t t p tree.entries
