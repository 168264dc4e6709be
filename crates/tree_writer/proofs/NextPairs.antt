-- The pairs that a step of a dump has more.
use Rattle.std.proofs.Common.{◌≡◌, ◌⊎◌, inl, inr, ℕ, suc, zero, ◌+◌, ◌*◌, ◌/◌, ◌≤◌, List, [], ◌∷◌, ◌++◌, length}
use Rattle.std.proofs.Common.{Bool, true, false, min, refl, sym, ap, ap₂, subst, ◌∙◌, arith, Some}
use Rattle.std.proofs.lemmas.Bool.{false≢true, cases_lt}
use Rattle.std.proofs.lemmas.List.{append_assoc, length-append, map-append}
use Rattle.store_model.specs.declared.version.Version.{Version}
use Rattle.store_model.specs.Parameters.{Parameters}
use Rattle.store_model.specs.Paths.{Path, Name, is_root, fits_attribute, key, attribute_key}
use Rattle.store_model.specs.Pairs.{Pair, file_block, file_value, directory_value, attribute_value, is_inline}
use Rattle.store_model.specs.Pairs.{file_pairs, node_pairs, attribute_pairs, pairs}
use Rattle.store_model.specs.Pages.{IsTreeUnder}
use Rattle.store_model.specs.Trees.{Tree, Node, Entry, Attributes, IsAttribute, is_file_node, file_limit}
use Rattle.store_model.specs.Trees.Node.{Directory, File}
use Rattle.store_model.proofs.ListsLemmas.{all_back}
use Rattle.store_model.proofs.PairsLemmas.{inline_is_short}
use Rattle.tree_pairs.specs.Seen.{bare_entry}
use Rattle.dump_streams.specs.Dumps.{after_step, dump_piece}
use Rattle.dump_streams.specs.Dumps.DumpStep.{Make, Write, Set}
use Rattle.dump_streams.specs.Listed.{blocks_from}
use Rattle.dump_streams.specs.Reading.{GoesOn}
use Rattle.dump_streams.proofs.DumpFronts.{next_of_goes_on}
use Rattle.dump_streams.proofs.NextTrees.{IsFirstWrite, IsLaterWrite, IsLaterName, named_entry, tree_of_make}
use Rattle.dump_streams.proofs.NextTrees.{tree_of_first, last_stands, later_leads, name_leads}
use Rattle.dump_streams.proofs.ListedBlocks.{blocks_behind}
use Rattle.tree_writer.specs.Told.{EndsInFile, told_pairs, AreTold, FirstDiffers, told_after}
use Rattle.tree_writer.specs.Pairs.{begun_pairs}
use Rattle.tree_writer.proofs.ToldPairs.{lasts_same, files_same, pairs_push, bare_pairs, long_form}
use Rattle.tree_writer.proofs.ToldPairs.{told_whole}

-- the same of a tree that is named otherwise
told_of_same : (t u : Tree) (p : Parameters) (got told : ℕ) (s : List Pair) → u ≡ t → AreTold t p got told s
    → AreTold u p got told s
told_of_same t u p got told s same are = subst (λ (w : Tree). AreTold w p got told s) (sym same) are

-- no path
pub told_nothing : (p : Parameters) → AreTold [] p 0 0 []
unfolding pairs
told_nothing p = inl (record {
  got_is = refl;
  last = λ front path bytes e. absurd (no_end front (path, bare_entry (File bytes)) e);
  pairs_are = refl;
})
  where
    no_end : (front : Tree) (last : Path × Entry) → [] ≡ front ++ last ∷ [] → ⊥
    no_end front last e =
        let long = length-append front (last ∷ []) in
        let same : length (front ++ last ∷ []) ≡ 0 = sym (ap length e) in
        omega (arith, long, same)

-- ---- a directory

-- a directory is no file
no_file_at_end : (t front : Tree) (x y : Path) (bytes : List ℕ)
    → EndsInFile (t ++ (x, bare_entry Directory) ∷ []) front y bytes → ⊥
no_file_at_end t front x y bytes e =
    false≢true (ap (λ (e : Path × Entry). is_file_node (Some e.1.node))
    (lasts_same t front (x, bare_entry Directory) (y, bare_entry (File bytes)) e).1)

directory_told : (t : Tree) (p : Parameters) (path : Path) (got told : ℕ) (s : List Pair)
    → AreTold t p got told s → got ≡ told → IsTreeUnder t p → GoesOn t (Make path) p
    → AreTold (after_step t (Make path)) p got told (s ++ (key path 0, directory_value) ∷ [])
unfolding node_pairs
directory_told t p path got told s are all under goes =
    told_of_same (t ++ (path, bare_entry Directory) ∷ []) (after_step t (Make path)) p got told
    (s ++ (key path 0, directory_value) ∷ []) (tree_of_make t path (next_of_goes_on t (Make path) p under goes))
    (inl (record {
      got_is = all;
      last = λ front other bytes e. absurd (no_file_at_end t front path other bytes e);
      pairs_are = ap (λ (xs : List Pair). xs ++ (key path 0, directory_value) ∷ [])
          (told_whole t p got told s are all)
          ∙ sym (bare_pairs t path Directory p);
    }))

-- the pair as it is made
pub told_directory : (t : Tree) (p : Parameters) (path : Path) (k v : List ℕ) (got told : ℕ) (s : List Pair)
    → k ≡ key path 0 → v ≡ directory_value → AreTold t p got told s → got ≡ told → IsTreeUnder t p
    → GoesOn t (Make path) p → AreTold (after_step t (Make path)) p got told (s ++ (k, v) ∷ [])
told_directory t p path k v got told s k_is v_is are all under goes =
    subst (λ (pair : Pair). AreTold (after_step t (Make path)) p got told (s ++ pair ∷ []))
    (sym (ap₂ (λ (x y : List ℕ). (x, y)) k_is v_is)) (directory_told t p path got told s are all under goes)

-- ---- an attribute

-- a path with attributes is not told of
no_bare_end : (before front : Tree) (x y : Path) (node : Node) (attributes : Attributes) (a : Name × List ℕ)
    (bytes : List ℕ) → EndsInFile (before ++ (x, named_entry node (attributes ++ a ∷ [])) ∷ []) front y bytes → ⊥
no_bare_end before front x y node attributes a bytes e =
    let long = length-append attributes (a ∷ []) in
    let none : length (attributes ++ a ∷ []) ≡ 0 =
    ap (λ (e : Path × Entry). length e.1.attributes)
    (lasts_same before front (x, named_entry node (attributes ++ a ∷ [])) (y, bare_entry (File bytes)) e).1 in
    omega (arith, long, none)

-- the pairs of a path with an attribute more
name_pairs : (before : Tree) (x : Path) (node : Node) (attributes : Attributes) (name : Name) (bytes : List ℕ)
    (p : Parameters) → pairs (before ++ (x, named_entry node (attributes ++ (name, bytes) ∷ [])) ∷ []) p
    ≡ pairs (before ++ (x, named_entry node attributes) ∷ []) p ++ (attribute_key x name, attribute_value bytes) ∷ []
unfolding attribute_pairs
name_pairs before x node attributes name bytes p =
    let added : List Pair = (attribute_key x name, attribute_value bytes) ∷ [] in
    let own : List Pair = node_pairs x node p in
    let names : attribute_pairs x (attributes ++ (name, bytes) ∷ []) ≡ attribute_pairs x attributes ++ added =
    map-append (λ (a : Name × List ℕ). (attribute_key x a.0, attribute_value a.1)) attributes ((name, bytes) ∷ [])
    in
    pairs_push before x (named_entry node (attributes ++ (name, bytes) ∷ [])) p
    ∙ ap (λ (s : List Pair). pairs before p ++ s)
    (ap (λ (s : List Pair). own ++ s) names ∙ sym (append_assoc own (attribute_pairs x attributes) added))
    ∙ sym (append_assoc (pairs before p) (own ++ attribute_pairs x attributes) added)
    ∙ ap (λ (s : List Pair). s ++ added) (sym (pairs_push before x (named_entry node attributes) p))

-- the path is below the root, and has room for the attribute
pub name_fits : (t : Tree) (p : Parameters) (path : Path) (name : Name) (bytes : List ℕ) → IsTreeUnder t p
    → GoesOn t (Set path name bytes) p → (is_root path ≡ false) × IsAttribute path (name, bytes)
name_fits t p path name bytes under goes =
    let later : IsLaterName t p path name bytes = next_of_goes_on t (Set path name bytes) p under goes in
    let next = last_stands t later.before path (named_entry later.node later.attributes) under.is_tree later.entries_are
    in
    (next.below_root, (all_back (IsAttribute path) later.attributes ((name, bytes) ∷ []) (later.are).each).0)

-- so it has a key
pub name_has_key : (t : Tree) (p : Parameters) (path : Path) (name : Name) (bytes : List ℕ) → IsTreeUnder t p
    → GoesOn t (Set path name bytes) p → (is_root path ≡ true) ⊎ (fits_attribute path name ≡ false) → ⊥
name_has_key t p path name bytes under goes (inl root) =
    let fits = name_fits t p path name bytes under goes in
    false≢true (sym fits.0 ∙ root)
name_has_key t p path name bytes under goes (inr full) =
    let fits = name_fits t p path name bytes under goes in
    false≢true (sym full ∙ (fits.1).fits)

name_told : (t : Tree) (p : Parameters) (path : Path) (name : Name) (bytes : List ℕ) (got told : ℕ)
    (s : List Pair) → AreTold t p got told s → got ≡ told → IsTreeUnder t p → GoesOn t (Set path name bytes) p
    → AreTold (after_step t (Set path name bytes)) p got told
    (s ++ (attribute_key path name, attribute_value bytes) ∷ [])
name_told t p path name bytes got told s are all under goes =
    let added : List Pair = (attribute_key path name, attribute_value bytes) ∷ [] in
    let later : IsLaterName t p path name bytes = next_of_goes_on t (Set path name bytes) p under goes in
    told_of_same (later.before ++ (path, named_entry later.node (later.attributes ++ (name, bytes) ∷ [])) ∷ [])
    (after_step t (Set path name bytes)) p got told (s ++ added) (name_leads t p path name bytes later under.is_tree)
    (inl (record {
      got_is = all;
      last = λ front other others e.
          absurd (no_bare_end later.before front path other later.node later.attributes (name, bytes) others e);
      pairs_are = ap (λ (xs : List Pair). xs ++ added)
          (told_whole t p got told s are all ∙ ap (λ (u : Tree). pairs u p) later.entries_are)
          ∙ sym (name_pairs later.before path later.node later.attributes name bytes p);
    }))

-- the pair as it is made
pub told_name : (t : Tree) (p : Parameters) (path : Path) (name : Name) (bytes k v : List ℕ) (got told : ℕ)
    (s : List Pair) → k ≡ attribute_key path name → v ≡ attribute_value bytes → AreTold t p got told s → got ≡ told
    → IsTreeUnder t p → GoesOn t (Set path name bytes) p
    → AreTold (after_step t (Set path name bytes)) p got told (s ++ (k, v) ∷ [])
told_name t p path name bytes k v got told s k_is v_is are all under goes =
    subst (λ (pair : Pair). AreTold (after_step t (Set path name bytes)) p got told (s ++ pair ∷ []))
    (sym (ap₂ (λ (x y : List ℕ). (x, y)) k_is v_is)) (name_told t p path name bytes got told s are all under goes)

-- ---- the first bytes of a file

-- a write at offset 0 is no later one
pub first_of_goes_on : (t : Tree) (p : Parameters) (path : Path) (bytes : List ℕ) → IsTreeUnder t p
    → GoesOn t (Write path 0 bytes) p → IsFirstWrite t path 0 bytes
first_of_goes_on t p path bytes under goes = by_kind (next_of_goes_on t (Write path 0 bytes) p under goes)
  where
    by_kind : IsFirstWrite t path 0 bytes ⊎ IsLaterWrite t path 0 bytes → IsFirstWrite t path 0 bytes
    by_kind (inl first) = first
    by_kind (inr later) =
        let at = later.at_is in
        let full = later.full in
        absurd (omega (arith, at, full))

-- by the form of the file
told_begun : (t : Tree) (p : Parameters) (path : Path) (bytes : List ℕ) (told : ℕ) (inline : Bool)
    → inline ≡ is_inline p.version (length bytes) → (inline ≡ true → told ≡ length bytes)
    → AreTold (t ++ (path, bare_entry (File bytes)) ∷ []) p (length bytes) told
    (pairs t p ++ begun_pairs inline path told bytes)
unfolding node_pairs
told_begun t p path bytes told true form short = inl (record {
  got_is = sym (short refl);
  last = λ front other others e.
      let same = files_same t front path other bytes others e in (
        ap (λ (xs : List ℕ). is_inline p.version (length xs)) (sym same.2) ∙ sym form,
        ap length (sym same.2) ∙ sym (short refl),
      );
  pairs_are = sym (bare_pairs t path (File bytes) p ∙ ap (λ b. pairs t p ++ file_pairs b path bytes) (sym form));
})
told_begun t p path bytes told false form short = inr (record {
  front = t;
  path = path;
  bytes = bytes;
  ends = refl;
  in_blocks = sym form;
  got_is = refl;
  pairs_are = refl;
})

-- with the parameters and the length as they are known
pub told_first : (t : Tree) (p q : Parameters) (path : Path) (bytes : List ℕ) (old_got old_told got told : ℕ)
    (s : List Pair) → q ≡ p → got ≡ length bytes → AreTold t p old_got old_told s → old_got ≡ old_told
    → IsTreeUnder t p → GoesOn t (Write path 0 bytes) p → (is_inline q.version got ≡ true → told ≡ got)
    → AreTold (after_step t (Write path 0 bytes)) p got told
    (s ++ begun_pairs (is_inline q.version (length bytes)) path told bytes)
told_first t p q path bytes old_got old_told got told s same got_is are all under goes short =
    let inline : Bool = is_inline q.version (length bytes) in
    let u : Tree = t ++ (path, bare_entry (File bytes)) ∷ [] in
    told_of_same u (after_step t (Write path 0 bytes)) p got told (s ++ begun_pairs inline path told bytes)
    (tree_of_first t path bytes (first_of_goes_on t p path bytes under goes).next)
    (subst (λ n. AreTold u p n told (s ++ begun_pairs inline path told bytes)) (sym got_is)
    (subst (λ (xs : List Pair). AreTold u p (length bytes) told (xs ++ begun_pairs inline path told bytes))
    (sym (told_whole t p old_got old_told s are all))
    (told_begun t p path bytes told inline (ap (λ (r : Parameters). is_inline r.version (length bytes)) same)
    (λ e. short (ap (is_inline q.version) got_is ∙ e) ∙ got_is))))

-- a file that begins otherwise than it was told
pub first_differs : (path : Path) (version : Version) (shown bytes : List ℕ) (told : ℕ) → shown ≡ bytes
    → (length shown ≡ told → ⊥) → is_inline version (min (length shown) told) ≡ true
    → FirstDiffers (Write path 0 bytes) told
first_differs path version shown bytes told same other inline = record {
  path = path;
  bytes = bytes;
  step_is = refl;
  differs = λ e. other (ap length same ∙ e);
  last = elim (cases_lt told (length bytes)) [
    | inl more ↦ inl more
    | inr fits ↦
        let long : length shown ≡ length bytes = ap length same in
        let short = inline_is_short version (min (length shown) told) inline in
        inr (omega (arith, long, short, fits))
  ];
}

-- ---- more bytes of a file

-- a write further on is a later one
pub later_of_goes_on : (t : Tree) (p : Parameters) (path : Path) (at : ℕ) (bytes : List ℕ) → (at ≡ 0 → ⊥)
    → IsTreeUnder t p → GoesOn t (Write path at bytes) p → IsLaterWrite t path at bytes
later_of_goes_on t p path at bytes further under goes = by_kind (next_of_goes_on t (Write path at bytes) p under goes)
  where
    by_kind : IsFirstWrite t path at bytes ⊎ IsLaterWrite t path at bytes → IsLaterWrite t path at bytes
    by_kind (inl first) = absurd (further first.at_is)
    by_kind (inr later) = later

-- the pairs so far of the file that more bytes come to
told_before : (t : Tree) (p : Parameters) (got told : ℕ) (s : List Pair) (before : Tree) (path : Path)
    (content : List ℕ) (pieces : ℕ) → AreTold t p got told s → EndsInFile t before path content
    → length content ≡ dump_piece * suc pieces → s ≡ pairs before p ++ told_pairs path told content
told_before t p got told s before path content pieces (inl past) ends full =
    absurd (false≢true (sym (long_form p.version (length content) (omega (arith, full)))
    ∙ (past.last before path content ends).0))
told_before t p got told s before path content pieces (inr in_file) ends full =
    let same = files_same in_file.front before in_file.path path in_file.bytes content (sym in_file.ends ∙ ends) in
    in_file.pairs_are
    ∙ ap (λ (u : Tree). pairs u p ++ told_pairs in_file.path told in_file.bytes) same.0
    ∙ ap (λ (x : Path). pairs before p ++ told_pairs x told in_file.bytes) same.1
    ∙ ap (λ (xs : List ℕ). pairs before p ++ told_pairs path told xs) same.2

later_told : (t : Tree) (p : Parameters) (path : Path) (at : ℕ) (bytes : List ℕ) (got told : ℕ) (s : List Pair)
    → AreTold t p got told s → (at ≡ 0 → ⊥) → IsTreeUnder t p → GoesOn t (Write path at bytes) p
    → AreTold (after_step t (Write path at bytes)) p (at + length bytes) told
    (s ++ blocks_from path (at / file_block + 1) bytes)
later_told t p path at bytes got told s are further under goes =
    let later = later_of_goes_on t p path at bytes further under goes in
    let before = later.before in
    let content = later.content in
    let full = later.full in
    let at_is = later.at_is in
    let both = length-append content bytes in
    let added : List Pair = blocks_from path (at / file_block + 1) bytes in
    let whole : length content ≡ file_block * (8 * later.pieces + 8) = omega (arith, full) in
    let number : 1 + (8 * later.pieces + 8) ≡ at / file_block + 1 = omega (arith, full, at_is) in
    told_of_same (before ++ (path, bare_entry (File (content ++ bytes))) ∷ []) (after_step t (Write path at bytes)) p
    (at + length bytes) told (s ++ added) (later_leads t path at bytes later under.is_tree)
    (inr (record {
      front = before;
      path = path;
      bytes = content ++ bytes;
      ends = refl;
      in_blocks = long_form p.version (length (content ++ bytes)) (omega (arith, full, both));
      got_is = (let e : at + length bytes ≡ length (content ++ bytes) = omega (arith, at_is, both) in e);
      pairs_are = ap (λ (xs : List Pair). xs ++ added)
          (told_before t p got told s before path content later.pieces are later.entries_are full)
          ∙ append_assoc (pairs before p) (told_pairs path told content) added
          ∙ ap (λ (xs : List Pair). pairs before p ++ (key path 0, file_value told) ∷ xs)
          (sym (blocks_behind path 1 (8 * later.pieces + 8) content bytes whole
          ∙ ap (λ n. blocks_from path 1 content ++ blocks_from path n bytes) number));
    }))

-- with the bytes as they are known
pub told_later : (t : Tree) (p : Parameters) (path : Path) (at : ℕ) (shown bytes : List ℕ) (got told : ℕ)
    (s : List Pair) → shown ≡ bytes → AreTold t p got told s → (at ≡ 0 → ⊥) → IsTreeUnder t p
    → GoesOn t (Write path at bytes) p → AreTold (after_step t (Write path at bytes)) p (at + length shown) told
    (s ++ blocks_from path (at / file_block + 1) shown)
told_later t p path at shown bytes got told s same are further under goes =
    subst (λ (xs : List ℕ). AreTold (after_step t (Write path at bytes)) p (at + length xs) told
    (s ++ blocks_from path (at / file_block + 1) xs)) (sym same)
    (later_told t p path at bytes got told s are further under goes)

-- how far a write reaches
pub later_fits : (t : Tree) (p : Parameters) (path : Path) (at : ℕ) (bytes : List ℕ) → (at ≡ 0 → ⊥)
    → IsTreeUnder t p → GoesOn t (Write path at bytes) p → at + length bytes ≤ file_limit
later_fits t p path at bytes further under goes =
    let later = later_of_goes_on t p path at bytes further under goes in
    let at_is = later.at_is in
    let fits = later.fits in
    omega (arith, at_is, fits)

-- what was told stays
pub told_stays : (path : Path) (at told before : ℕ) (bytes : List ℕ) → (at ≡ 0 → ⊥)
    → told_after (Write path at bytes) told before ≡ before
told_stays path zero told before bytes further = absurd (further refl)
told_stays path (suc at) told before bytes further = refl
