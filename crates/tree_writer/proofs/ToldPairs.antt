-- The pairs of a tree whose last file was told to have so many bytes.
use Rattle.std.proofs.Common.{◌≡◌, inl, inr, ℕ, ◌<◌, List, [], ◌∷◌, ◌++◌, length, false, refl, sym, ap}
use Rattle.std.proofs.Common.{subst, ◌∙◌, arith, Some}
use Rattle.std.proofs.lemmas.Bool.{lt-leb}
use Rattle.std.proofs.lemmas.List.{append-nil, length-append, length-map}
use Rattle.std.proofs.lemmas.List.Concat.{flat_map-append}
use Rattle.store_model.specs.declared.version.Version.{Version}
use Rattle.store_model.specs.declared.version.Version.TheVariants.{One, Two}
use Rattle.store_model.specs.Parameters.{Parameters}
use Rattle.store_model.specs.Paths.{Path, key}
use Rattle.store_model.specs.Pairs.{Pair, IsPairs, file_value, is_inline, inline_limit, file_pairs, node_pairs}
use Rattle.store_model.specs.Pairs.{attribute_pairs, entry_pairs, pairs}
use Rattle.store_model.specs.Trees.{Tree, Node, Entry, IsTree, contents_of}
use Rattle.store_model.specs.Trees.Node.{File}
use Rattle.store_model.proofs.TreesLemmasBytes.{fronts_same, heads_same}
use Rattle.store_model.proofs.PairsLemmas.{pairs_are_pairs}
use Rattle.tree_pairs.specs.Seen.{bare_entry}
use Rattle.dump_streams.specs.Listed.{keys_of, blocks_from}
use Rattle.tree_writer.specs.Told.{told_pairs, IsInFile, AreTold, LastDiffers}
use Rattle.tree_writer.proofs.PairLists.{other_value, file_value_is_value, keys_again}

-- ---- the last path of a tree

-- the paths before the last one, and the last, are told by all
pub lasts_same : (t front : Tree) (x y : Path × Entry) → t ++ x ∷ [] ≡ front ++ y ∷ [] → (t ≡ front) × (x ≡ y)
lasts_same t front x y e =
    let left = length-append t (x ∷ []) in
    let right = length-append front (y ∷ []) in
    let same : length (t ++ x ∷ []) ≡ length (front ++ y ∷ []) = ap length e in
    let parts = fronts_same t front (x ∷ []) (y ∷ []) (omega (arith, left, right, same)) e in
    (parts.0, heads_same parts.1)

-- a file that is last: its path and its bytes
pub files_same : (t front : Tree) (x y : Path) (xs ys : List ℕ)
    → t ++ (x, bare_entry (File xs)) ∷ [] ≡ front ++ (y, bare_entry (File ys)) ∷ [] → (t ≡ front) × (x ≡ y) × (xs ≡ ys)
files_same t front x y xs ys e =
    let parts = lasts_same t front (x, bare_entry (File xs)) (y, bare_entry (File ys)) e in (
      parts.0,
      ap (λ (e : Path × Entry). e.0) parts.1,
      ap (λ (e : Path × Entry). contents_of (Some e.1.node)) parts.1,
    )

pub pairs_push : (t : Tree) (x : Path) (entry : Entry) (p : Parameters)
    → pairs (t ++ (x, entry) ∷ []) p ≡ pairs t p ++ entry_pairs x entry p
unfolding pairs
pairs_push t x entry p = flat_map-append (λ (e : Path × Entry). entry_pairs e.0 e.1 p) t ((x, entry) ∷ [])
    ∙ ap (λ (own : List Pair). pairs t p ++ own) (append-nil (entry_pairs x entry p))

-- those of a path without attributes
pub bare_pairs : (t : Tree) (x : Path) (node : Node) (p : Parameters)
    → pairs (t ++ (x, bare_entry node) ∷ []) p ≡ pairs t p ++ node_pairs x node p
unfolding attribute_pairs
bare_pairs t x node p = pairs_push t x (bare_entry node) p
    ∙ ap (λ (own : List Pair). pairs t p ++ own) (append-nil (node_pairs x node p))

-- those of a file in blocks
pub blocked_pairs : (t : Tree) (x : Path) (bytes : List ℕ) (p : Parameters) → is_inline p.version (length bytes) ≡ false
    → pairs (t ++ (x, bare_entry (File bytes)) ∷ []) p ≡ pairs t p ++ told_pairs x (length bytes) bytes
unfolding node_pairs
blocked_pairs t x bytes p form = bare_pairs t x (File bytes) p ∙ ap (λ b. pairs t p ++ file_pairs b x bytes) form

-- a long file stands in blocks
pub long_form : (version : Version) (n : ℕ) → inline_limit < n → is_inline version n ≡ false
long_form One n long = refl
long_form Two n long = lt-leb n inline_limit long

-- ---- what told pairs are

-- the pairs of the tree, with the told length in a file's first pair
pub pairs_in_file : (t : Tree) (p : Parameters) (got told : ℕ) (s : List Pair) (in_file : IsInFile t p got told s)
    → pairs t p ≡ pairs in_file.front p ++ told_pairs in_file.path (length in_file.bytes) in_file.bytes
pairs_in_file t p got told s in_file =
    ap (λ (u : Tree). pairs u p) in_file.ends
    ∙ blocked_pairs in_file.front in_file.path in_file.bytes p in_file.in_blocks

-- where all bytes came that were told, they are those of the tree
pub told_whole : (t : Tree) (p : Parameters) (got told : ℕ) (s : List Pair) → AreTold t p got told s → got ≡ told
    → s ≡ pairs t p
told_whole t p got told s (inl past) all = past.pairs_are
told_whole t p got told s (inr in_file) all =
    in_file.pairs_are
    ∙ ap (λ n. pairs in_file.front p ++ told_pairs in_file.path n in_file.bytes) (sym all ∙ in_file.got_is)
    ∙ sym (pairs_in_file t p got told s in_file)

-- the keys are those of the tree's pairs
pub told_keys : (t : Tree) (p : Parameters) (got told : ℕ) (s : List Pair) → AreTold t p got told s
    → keys_of (pairs t p) ≡ keys_of s
told_keys t p got told s (inl past) = ap keys_of (sym past.pairs_are)
told_keys t p got told s (inr in_file) =
    ap keys_of (pairs_in_file t p got told s in_file)
    ∙ keys_again (pairs in_file.front p) (key in_file.path 0) (file_value (length in_file.bytes)) (file_value told)
    (blocks_from in_file.path 1 in_file.bytes)
    ∙ ap keys_of (sym in_file.pairs_are)

-- and there are as many
pub told_length : (t : Tree) (p : Parameters) (got told : ℕ) (s : List Pair) → AreTold t p got told s
    → length (pairs t p) ≡ length s
told_length t p got told s are =
    sym (length-map (pairs t p) (λ (pair : Pair). pair.0))
    ∙ ap length (told_keys t p got told s are)
    ∙ length-map s (λ (pair : Pair). pair.0)

-- they are pairs of an image
pub told_is_pairs : (t : Tree) (p : Parameters) (got told : ℕ) (s : List Pair) → IsTree t → AreTold t p got told s
    → IsPairs s
told_is_pairs t p got told s tree (inl past) = subst IsPairs (sym past.pairs_are) (pairs_are_pairs t p tree)
told_is_pairs t p got told s tree (inr in_file) =
    subst IsPairs (sym in_file.pairs_are)
    (other_value (pairs in_file.front p) (key in_file.path 0) (file_value (length in_file.bytes)) (file_value told)
    (blocks_from in_file.path 1 in_file.bytes)
    (subst IsPairs (pairs_in_file t p got told s in_file) (pairs_are_pairs t p tree)) (file_value_is_value told))

-- where not as many bytes came as were told, the last file differs
pub told_differs : (t : Tree) (p : Parameters) (got told : ℕ) (s : List Pair) → AreTold t p got told s
    → (got ≡ told → ⊥) → LastDiffers t told
told_differs t p got told s (inl past) other = absurd (other past.got_is)
told_differs t p got told s (inr in_file) other = record {
  front = in_file.front;
  path = in_file.path;
  bytes = in_file.bytes;
  ends = in_file.ends;
  differs = λ e. other (in_file.got_is ∙ e);
}

-- and the other way round
pub differs_told : (t : Tree) (p : Parameters) (got told : ℕ) (s : List Pair) → AreTold t p got told s
    → LastDiffers t told → got ≡ told → ⊥
differs_told t p got told s (inl past) differs all =
    differs.differs (past.last differs.front differs.path differs.bytes differs.ends).1
differs_told t p got told s (inr in_file) differs all =
    let same = files_same in_file.front differs.front in_file.path differs.path in_file.bytes differs.bytes
    (sym in_file.ends ∙ differs.ends) in
    differs.differs (sym (ap length same.2) ∙ sym in_file.got_is ∙ all)
