-- What a reader has seen, from pair to pair.
use Rattle.std.proofs.Common.{◌≡◌, ℕ, zero, suc, ◌+◌, ◌-◌, ◌*◌, ◌/◌, ◌<◌, ◌≤◌, min, List, [], ◌∷◌, ◌++◌, length, Bool}
use Rattle.std.proofs.Common.{true, false, cond, ◌⊎◌, inl, inr, IsTrue, Option, Some, None, nat_lt, ltb-true, ltb-false}
use Rattle.std.proofs.Common.{refl, sym, ap, ap₂, subst, ◌∙◌, arith}
use Rattle.std.specs.List.{AllByRecursion}
use Rattle.std.proofs.lemmas.Bool.{false≢true}
use Rattle.std.proofs.lemmas.Option.{same_Some}
use Rattle.std.proofs.lemmas.List.{append-nil, append_assoc, length-append, length-replicate}
use Rattle.store_model.specs.declared.version.Version.{Version}
use Rattle.store_model.specs.Lists.{IsBytes, zeros, run_count}
use Rattle.store_model.specs.Parameters.{Parameters}
use Rattle.store_model.specs.Paths.{Path, Name, is_root, fits_attribute, key, attribute_key}
use Rattle.store_model.specs.Pairs.{Pair, file_block, file_value, inline_value, is_inline, file_pairs, node_pairs}
use Rattle.store_model.specs.Pairs.{has_attributes, attribute_value, attribute_pairs, pairs}
use Rattle.store_model.specs.Pages.{IsBare}
use Rattle.store_model.specs.Trees.{Tree, Node, Entry, Attributes, file_limit, attribute_limit, IsNode, IsAttribute}
use Rattle.store_model.specs.Trees.{AreAttributes, IsEntry, IsTree, attributes_of, node_at, attributes_at}
use Rattle.store_model.specs.Trees.Node.{Directory, File}
use Rattle.store_model.proofs.ListsLemmas.{all_append, all_back, all_replicate, all_from_bytes, bytes_from_all}
use Rattle.store_model.proofs.TreesLemmasBytes.{heads_same, tails_same, four_bytes_same}
use Rattle.store_model.proofs.TreesLemmasFits.{IsTree-empty}
use Rattle.store_model.proofs.TreesLemmasLayouts.{keys_tell_paths, pair_parts, pairs_tell_trees}
use Rattle.tree_pairs.specs.declared.kind.Kind.{Kind}
use Rattle.tree_pairs.specs.declared.kind.Kind.TheVariants as kinds
use Rattle.tree_pairs.specs.Kinds.{kind_of, kind_of_node, IsFileValue, IsValueOf}
use Rattle.tree_pairs.specs.TreeCalls.{pairs_limit}
use Rattle.tree_pairs.specs.declared.counts.Counts.{Counts}
use Rattle.tree_pairs.specs.declared.reader.TreeReader.{TreeReader}
use Rattle.tree_pairs.specs.Counts.{AreCounts, CountsMore}
use Rattle.tree_pairs.specs.Fronts.{AreOfTree, BeginTree, IsFirst, MayHaveAttribute, block_pairs}
use Rattle.tree_pairs.specs.Seen.{IsLast, MayStandNext, MayFollow, IsLastName, MayBeNext, bare_entry, IsNextBlock}
use Rattle.tree_pairs.specs.Seen.{size_of, size_in_first, IsBetweenEntries, IsInFile, HasSeen}
use Rattle.tree_pairs.proofs.BlockLemmas.{pairs_behind, blocks-append, blocks_more, no_blocks, block_is}
use Rattle.tree_pairs.proofs.ReaderAttributeLemmas.{last_is, last_entry, attributes_more, above_last}
use Rattle.tree_pairs.proofs.CountLemmas.{counts_more, counts_keep, in_range}
use Rattle.tree_pairs.proofs.FrontLemmas.{HasFront, HasLonger, length-block_pairs, bare_pairs_more}
use Rattle.tree_pairs.proofs.FrontLemmas.{attribute_pairs_more, tree_first, tree_first_whole, next_of_pair}
use Rattle.tree_pairs.proofs.ReaderNextLemmas.{find_at_last, bare_tree_more, last_more, tree_again, stands_next}
use Rattle.tree_pairs.proofs.ReaderNextLemmas.{next_stands}
use Rattle.tree_pairs.proofs.ReaderNextLemmas.{next_from_last, last_from_next}

-- a tree without attributes stays so with an entry more that has none
bare_more : (t : Tree) (path : Path) (node : Node) → IsBare t → IsBare (t ++ (path, bare_entry node) ∷ [])
bare_more t path node bare = all_append (λ (e : Path × Entry). e.1.attributes ≡ []) t
    ((path, bare_entry node) ∷ []) bare (refl, tt)

-- ---- where a reader stands

-- nothing was seen
pub seen_none : (path : Path) (version : Version) (p : Parameters) → path ≡ [] → p.version ≡ version
    → HasSeen (record {
      version = version;
      last = record { path = path; kind = kinds.Directory };
      read = 0;
      attribute = None;
      counts = record { dirs = 0; files = 0; bytes = 0 };
    }) [] p
unfolding pairs HasSeen
seen_none path version p root version_is = inl (record {
  version_is = version_is;
  tree = [];
  is_tree = IsTree-empty;
  bare = λ lacks. tt;
  pairs_are = refl;
  last_name = refl;
  last = record { none_behind = tt; stands = ap (λ (x : Path). kind_of_node (node_at [] x)) root };
  whole = omega arith;
  counts_are = record { dirs_are = refl; files_are = refl; bytes_are = refl };
})

-- what was read of the last entry tells where it stands
pub between : (reader : TreeReader) (s : List Pair) (p : Parameters) → HasSeen reader s p
    → size_of reader.last.kind ≤ reader.read → IsBetweenEntries reader s p
unfolding HasSeen
between reader s p (inl is) whole = is
between reader s p (inr is) whole = absurd (omega (arith, ap size_of is.kind_is, is.more, whole))

pub in_file : (reader : TreeReader) (s : List Pair) (p : Parameters) (len : ℕ) → HasSeen reader s p
    → reader.last.kind ≡ kinds.File len → reader.read < len → (is : IsInFile reader s p) × (is.len ≡ len)
unfolding HasSeen
in_file reader s p len (inl is) kind_is more = absurd (omega (arith, ap size_of kind_is, is.whole, more))
in_file reader s p len (inr is) kind_is more = (is, ap size_of (sym is.kind_is ∙ kind_is))

-- the pairs of a file of so many bytes that stand in blocks
pairs_in_blocks : (path : Path) (content : List ℕ) (len : ℕ) (p : Parameters) → length content ≡ len
    → is_inline p.version len ≡ false → node_pairs path (File content) p ≡ (key path 0, file_value len)
    ∷ block_pairs path content
unfolding node_pairs
pairs_in_blocks path content len p long in_blocks =
    ap (λ inline. file_pairs inline path content) (ap (is_inline p.version) long ∙ in_blocks)
    ∙ ap (λ n. (key path 0, file_value n) ∷ block_pairs path content) long

-- some tree's pairs begin with those that were seen: a file that is not whole may go on with zeros
pub seen_begins : (reader : TreeReader) (s : List Pair) (p : Parameters) → HasSeen reader s p → BeginTree s p
unfolding HasSeen
seen_begins reader s p (inl is) = record {
  tree = is.tree;
  is_tree = is.is_tree;
  bare = is.bare;
  rest = [];
  pairs_are = sym is.pairs_are ∙ sym (append-nil s);
}
seen_begins reader s p (inr is) =
    let unread : List ℕ = zeros (is.len - reader.read) in
    let content : List ℕ = is.bytes ++ unread in
    let first : Pair = (key reader.last.path 0, file_value is.len) in
    let behind = pairs_behind reader.last.path is.blocks is.bytes unread in
    let long : length content ≡ is.len =
    omega (
      arith,
      length-append is.bytes unread,
      length-replicate {A = ℕ}
          (is.len - reader.read) 0,
      is.read_is,
      is.more,
    ) in
    let valid = bytes_from_all content
    (all_append (λ c. c < 256) is.bytes unread (all_from_bytes is.bytes is.valid)
    (all_replicate (λ c. c < 256) (is.len - reader.read) 0 (omega arith))) in
    record {
      tree = is.before ++ (reader.last.path, bare_entry (File content)) ∷ [];
      is_tree = bare_tree_more is.before reader.last.path (File content)
          is.is_tree is.next (omega (arith, long, is.short), valid);
      bare = λ lacks. bare_more is.before reader.last.path (File content) (is.bare lacks);
      rest = behind;
      pairs_are = bare_pairs_more is.before reader.last.path (File content) p
          ∙ ap (λ (own : List Pair). pairs is.before p ++ own)
          (pairs_in_blocks reader.last.path content is.len p long is.in_blocks
          ∙ ap (λ (blocks : List Pair). first ∷ blocks)
          (blocks-append reader.last.path is.blocks is.bytes unread (is.read_is ∙ is.full)))
          ∙ sym (append_assoc (pairs is.before p) (first ∷ block_pairs reader.last.path is.bytes) behind)
          ∙ ap (λ (front : List Pair). front ++ behind) (sym is.pairs_are);
    }

-- ---- a first pair

-- a reader that has come to the first pair of a path
abbrev at_first : TreeReader → Path → Kind → ℕ → Counts → TreeReader
at_first old path kind read counts = record old {
  last = record { path = path; kind = kind };
  read = read;
  attribute = None;
  counts = counts;
}

-- an entry more has no attributes so far
no_name : (t : Tree) (path : Path) (node : Node) → MayStandNext t path
    → attributes_at (t ++ (path, bare_entry node) ∷ []) path ≡ []
no_name t path node next = ap attributes_of (find_at_last path (bare_entry node) t next.behind)

-- the first pair of a directory is seen
directory_taken : (old : TreeReader) (s : List Pair) (p : Parameters) (path : Path) (key_bytes value : List ℕ)
    (counts : Counts) → IsBetweenEntries old s p → IsFirst old.version path kinds.Directory key_bytes value
    → MayFollow old.last.path old.last.kind path → CountsMore old.counts kinds.Directory counts
    → HasSeen (at_first old path kinds.Directory 0 counts) (s ++ (key_bytes, value) ∷ []) p
unfolding node_pairs HasSeen
directory_taken old s p path key_bytes value counts is first follows more =
    let next = next_from_last is.tree old.last.path old.last.kind path
    is.is_tree is.last first.path_is first.below_root follows in
    inl (record {
      version_is = is.version_is;
      tree = is.tree ++ (path, bare_entry Directory) ∷ [];
      bare = λ lacks. bare_more is.tree path Directory (is.bare lacks);
      last_name = no_name is.tree path Directory next;
      is_tree = bare_tree_more is.tree path Directory is.is_tree next tt;
      pairs_are = ap₂ (λ (front : List Pair) (pair : Pair). front ++ pair ∷ [])
          is.pairs_are (λ i. (first.key_is i, first.value_is i)) ∙ sym (bare_pairs_more is.tree path Directory p);
      last = last_more is.tree path (bare_entry Directory) next;
      whole = omega arith;
      counts_are = counts_more is.tree path Directory [] old.counts counts is.counts_are more;
    })

-- an attribute's bytes in its value
attribute_bytes : (bytes value : List ℕ) → value ≡ attribute_value bytes → IsBytes value → IsBytes bytes
attribute_bytes bytes value value_is valid =
    bytes_from_all bytes (all_from_bytes (attribute_value bytes) (subst IsBytes value_is valid)).1

-- the bytes of a file in its first pair
pub inline_bytes : (bytes value : List ℕ) → value ≡ inline_value bytes → IsBytes value → IsBytes bytes
inline_bytes bytes value value_is valid =
    bytes_from_all bytes (all_from_bytes (inline_value bytes) (subst IsBytes value_is valid)).1

-- the one pair of a file that stands in it is seen, with all its bytes
inline_taken : (old : TreeReader) (s : List Pair) (p : Parameters) (path : Path) (len : ℕ) (key_bytes value : List ℕ)
    (counts : Counts) → IsBetweenEntries old s p → IsFirst old.version path (kinds.File len) key_bytes value
    → is_inline p.version len ≡ true → IsFileValue true len value → IsBytes value
    → MayFollow old.last.path old.last.kind path → CountsMore old.counts (kinds.File len) counts
    → HasSeen (at_first old path (kinds.File len) len counts) (s ++ (key_bytes, value) ∷ []) p
unfolding node_pairs HasSeen
inline_taken old s p path len key_bytes value counts is first inline says valid follows more =
    let content = says.0 in
    let long = says.1 in
    let next = next_from_last is.tree old.last.path old.last.kind path
    is.is_tree is.last first.path_is first.below_root follows in
    let own : node_pairs path (File content) p ≡ (key path 0, inline_value content) ∷ [] =
    ap (λ form. file_pairs form path content) (ap (is_inline p.version) long ∙ inline) in
    let short : len ≤ file_limit = first.kind_is in
    inl (record {
      version_is = is.version_is;
      tree = is.tree ++ (path, bare_entry (File content)) ∷ [];
      bare = λ lacks. bare_more is.tree path (File content) (is.bare lacks);
      last_name = no_name is.tree path (File content) next;
      is_tree = bare_tree_more is.tree path (File content) is.is_tree next
          (omega (arith, long, short), inline_bytes content value says.2 valid);
      pairs_are = ap₂ (λ (front : List Pair) (pair : Pair). front ++ pair ∷ [])
          is.pairs_are (λ i. (first.key_is i, says.2 i))
          ∙ ap (λ (pairs_at : List Pair). pairs is.tree p ++ pairs_at) (sym own)
          ∙ sym (bare_pairs_more is.tree path (File content) p);
      last = subst (λ n. IsLast path (kinds.File n) (is.tree ++ (path, bare_entry (File content)) ∷ [])) long
          (last_more is.tree path (bare_entry (File content)) next);
      whole = omega arith;
      counts_are = counts_more is.tree path (File content) [] old.counts counts
          is.counts_are (subst (λ n. CountsMore old.counts (kinds.File n) counts) (sym long) more);
    })

-- the first pair of a file is seen whose bytes are still to come
blocks_begun : (old : TreeReader) (s : List Pair) (p : Parameters) (path : Path) (len : ℕ) (key_bytes value : List ℕ)
    (counts : Counts) → IsBetweenEntries old s p → IsFirst old.version path (kinds.File len) key_bytes value
    → is_inline p.version len ≡ false → IsFileValue false len value
    → MayFollow old.last.path old.last.kind path → CountsMore old.counts (kinds.File len) counts
    → HasSeen (at_first old path (kinds.File len) 0 counts) (s ++ (key_bytes, value) ∷ []) p
unfolding HasSeen
blocks_begun old s p path zero key_bytes value counts is first in_blocks says follows more =
    let next = next_from_last is.tree old.last.path old.last.kind path
    is.is_tree is.last first.path_is first.below_root follows in
    inl (record {
      version_is = is.version_is;
      tree = is.tree ++ (path, bare_entry (File [])) ∷ [];
      bare = λ lacks. bare_more is.tree path (File []) (is.bare lacks);
      last_name = no_name is.tree path (File []) next;
      is_tree = bare_tree_more is.tree path (File []) is.is_tree next (omega arith, bytes_from_all [] tt);
      pairs_are = ap₂ (λ (front : List Pair) (pair : Pair). front ++ pair ∷ [])
          is.pairs_are (λ i. (first.key_is i, says i))
          ∙ ap (λ (blocks : List Pair). pairs is.tree p ++ (key path 0, file_value 0) ∷ blocks) (sym (no_blocks path))
          ∙ ap (λ (own : List Pair). pairs is.tree p ++ own) (sym (pairs_in_blocks path [] 0 p refl in_blocks))
          ∙ sym (bare_pairs_more is.tree path (File []) p);
      last = last_more is.tree path (bare_entry (File [])) next;
      whole = omega arith;
      counts_are = counts_more is.tree path (File []) [] old.counts counts is.counts_are more;
    })
blocks_begun old s p path (suc n) key_bytes value counts is first in_blocks says follows more =
    inr (record {
      version_is = is.version_is;
      before = is.tree;
      is_tree = is.is_tree;
      bare = is.bare;
      no_name = refl;
      next = next_from_last is.tree old.last.path old.last.kind path
          is.is_tree is.last first.path_is first.below_root follows;
      len = suc n;
      kind_is = refl;
      in_blocks = in_blocks;
      short = first.kind_is;
      bytes = [];
      valid = bytes_from_all [] tt;
      read_is = refl;
      more = omega arith;
      blocks = 0;
      full = omega arith;
      pairs_are = ap₂ (λ (front : List Pair) (pair : Pair). front ++ pair ∷ [])
          is.pairs_are (λ i. (first.key_is i, says i))
          ∙ ap (λ (blocks : List Pair). pairs is.tree p ++ (key path 0, file_value (suc n)) ∷ blocks)
          (sym (no_blocks path));
      counts_are = λ content long. counts_more is.tree path
          (File content) [] old.counts counts is.counts_are
          (subst (λ m. CountsMore old.counts (kinds.File m) counts) (sym long) more);
    })

-- a first pair that may stand next is seen
pub first_taken : (old : TreeReader) (s : List Pair) (p : Parameters) (path : Path) (kind : Kind)
    (key_bytes value : List ℕ) (counts : Counts) → IsBetweenEntries old s p
    → IsFirst old.version path kind key_bytes value → IsBytes value → MayFollow old.last.path old.last.kind path
    → CountsMore old.counts kind counts
    → HasSeen (at_first old path kind (size_in_first old.version kind) counts) (s ++ (key_bytes, value) ∷ []) p
first_taken old s p path kinds.Directory key_bytes value counts is first valid follows more =
    directory_taken old s p path key_bytes value counts is first follows more
first_taken old s p path (kinds.File len) key_bytes value counts is first valid follows more =
    by_form (is_inline old.version len) (ap (λ version. is_inline version len) is.version_is) first.value_is
  where
    by_form : (inline : Bool) → is_inline p.version len ≡ inline → IsFileValue inline len value
        → HasSeen (at_first old path (kinds.File len) (cond inline len 0) counts) (s ++ (key_bytes, value) ∷ []) p
    by_form true inline says = inline_taken old s p path len key_bytes value counts is first inline
        says valid follows more
    by_form false in_blocks says =
        blocks_begun old s p path len key_bytes value counts is first in_blocks says follows more

-- ---- an attribute

-- an attribute that may stand next is seen
pub attribute_taken : (old : TreeReader) (s : List Pair) (p : Parameters) (path : Path) (name : Name)
    (value bytes : List ℕ) → IsBetweenEntries old s p → MayHaveAttribute path name
    → MayBeNext old.version old.last.path old.attribute path name
    → value ≡ attribute_value bytes → length bytes ≤ attribute_limit → IsBytes value
    → HasSeen (record old { attribute = Some name }) (s ++ (attribute_key path name, value) ∷ []) p
unfolding HasSeen
attribute_taken old s p path name value bytes is may_have may value_is short valid =
    let x : Path = old.last.path in
    let last = last_entry is.tree x old.last.kind is.is_tree is.last (ap is_root (sym may.1) ∙ may_have.below_root) in
    let whole : Tree = last.before ++ (x, last.entry) ∷ [] in
    let tree = subst IsTree last.entries_are is.is_tree in
    let next = stands_next last.before [] x last.entry tree in
    let entry = (all_back (IsEntry whole) last.before ((x, last.entry) ∷ []) tree.entries).0 in
    let names : IsLastName old.attribute last.entry.attributes =
    subst (IsLastName old.attribute) (ap (λ (t : Tree). attributes_at t x) last.entries_are
    ∙ ap attributes_of (find_at_last x last.entry last.before next.behind)) is.last_name in
    let one : IsAttribute x (name, bytes) = record {
      name = may_have.name_is;
      fits = subst (λ (y : Path). IsTrue (fits_attribute y name)) may.1 may_have.fits;
      short = short;
      bytes = attribute_bytes bytes value value_is valid;
    } in
    let attributes : Attributes = last.entry.attributes ++ (name, bytes) ∷ [] in
    let kind_is : kind_of last.entry.node ≡ old.last.kind =
    same_Some (kind_of last.entry.node) old.last.kind (sym (last_more last.before x last.entry next).stands
    ∙ ap (λ (t : Tree). kind_of_node (node_at t x)) (sym last.entries_are) ∙ is.last.stands) in
    let key_same : attribute_key path name ≡ attribute_key x name = ap (λ (y : Path). attribute_key y name) may.1 in
    inl (record {
      version_is = is.version_is;
      tree = last.before ++ (x, record { node = last.entry.node; attributes = attributes }) ∷ [];
      is_tree = tree_again last.before x last.entry.node last.entry.attributes attributes tree
          next.behind (attributes_more x old.attribute last.entry.attributes (name, bytes)
          entry.attributes names may.2 one);
      bare = λ lacks. absurd (false≢true (sym lacks ∙ ap has_attributes is.version_is ∙ may.0));
      pairs_are = ap₂ (λ (front : List Pair) (pair : Pair). front ++ pair ∷ [])
          (is.pairs_are ∙ ap (λ (t : Tree). pairs t p) last.entries_are) (λ i. (key_same i, value_is i))
          ∙ sym (attribute_pairs_more last.before x last.entry.node last.entry.attributes name bytes p);
      last = subst (λ (kind : Kind). IsLast x kind
          (last.before ++ (x, record { node = last.entry.node; attributes = attributes }) ∷ [])) kind_is
          (last_more last.before x (record { node = last.entry.node; attributes = attributes }) next);
      last_name = (
        last.entry.attributes,
        bytes,
        ap attributes_of
            (find_at_last x (record { node = last.entry.node; attributes = attributes }) last.before next.behind),
      );
      whole = is.whole;
      counts_are = counts_keep last.before x last.entry.node last.entry.attributes attributes
          old.counts (subst (λ (t : Tree). AreCounts t old.counts) last.entries_are is.counts_are);
    })

-- ---- what the next pair is

-- the first pair of an entry more
pub record IsNextFirst (old : TreeReader) (key_bytes value : List ℕ) : Type 0 where
  pub path : Path
  pub kind : Kind
  pub first : IsFirst old.version path kind key_bytes value
  pub follows : MayFollow old.last.path old.last.kind path

-- or an attribute more of the last entry
pub record IsNextAttribute (old : TreeReader) (key_bytes value : List ℕ) : Type 0 where
  pub path : Path
  pub name : Name
  pub may_have : MayHaveAttribute path name
  pub key_is : key_bytes ≡ attribute_key path name
  pub may : MayBeNext old.version old.last.path old.attribute path name
  pub bytes : List ℕ
  pub short : length bytes ≤ attribute_limit
  pub value_is : value ≡ attribute_value bytes

-- a tree with an attribute is of a version that has them
has_version : (u before others : Tree) (path : Path) (node : Node) (longer attributes more : Attributes)
    (a : Name × List ℕ) (version : Version) → (has_attributes version ≡ false → IsBare u)
    → u ≡ before ++ (path, record { node = node; attributes = longer }) ∷ others
    → longer ≡ attributes ++ a ∷ more → IsTrue (has_attributes version)
has_version u before others path node longer attributes more a version bare entries longer_is =
    by_test (has_attributes version) refl
  where
    by_test : (b : Bool) → has_attributes version ≡ b → IsTrue b
    by_test true e = refl
    by_test false e =
        let none =
        (all_back (λ (f : Path × Entry). f.1.attributes ≡ []) before
        ((path, record { node = node; attributes = longer }) ∷ others) (subst IsBare entries (bare e))).0 in
        absurd (omega (arith, length-append attributes (a ∷ more), ap length (sym none ∙ longer_is)))

-- a first pair is told
first_told : (old : TreeReader) (s : List Pair) (p : Parameters) (key_bytes value : List ℕ) (rest : List Pair)
    (u : Tree) (is : IsBetweenEntries old s p) → IsTree u → HasFront u is.tree ((key_bytes, value) ∷ rest) p
    → IsNextFirst old key_bytes value
first_told old s p key_bytes value rest u is tree front =
    let entries = all_back (IsEntry u) is.tree front.others
    (subst (AllByRecursion (IsEntry u)) front.entries_are tree.entries) in
    let next = next_of_pair u front.others (key_bytes, value) rest p entries front.pairs_are in
    let may = next_stands u is.tree front.others next.later next.path next.entry tree front.entries_are next.entries_are
    in
    record {
      path = next.path;
      kind = kind_of next.entry.node;
      first = record {
        path_is = next.is_entry.path;
        below_root = next.is_entry.below_root;
        kind_is = next.kind_is;
        key_is = next.key_is;
        value_is = subst (λ version. IsValueOf version (kind_of next.entry.node) value) is.version_is next.value_is;
      };
      follows = last_from_next is.tree old.last.path old.last.kind next.path is.last may;
    }

-- an attribute is told
attribute_told : (old : TreeReader) (s : List Pair) (p : Parameters) (key_bytes value : List ℕ) (u : Tree)
    (is : IsBetweenEntries old s p) → IsTree u → (has_attributes p.version ≡ false → IsBare u)
    → HasLonger u is.tree (key_bytes, value) → IsNextAttribute old key_bytes value
attribute_told old s p key_bytes value u is tree bare more =
    let old_entry : Entry = record { node = more.node; attributes = more.attributes } in
    let new_entry : Entry = record { node = more.node; attributes = more.longer } in
    let attribute : Name × List ℕ = (more.more).attribute in
    let entry = (all_back (IsEntry u) more.before ((more.path, new_entry) ∷ more.others)
    (subst (AllByRecursion (IsEntry u)) more.entries_are tree.entries)).0 in
    let are : AreAttributes more.path (more.attributes ++ attribute ∷ (more.more).more) =
    subst (AreAttributes more.path) (more.more).attributes_are entry.attributes in
    let one = (all_back (IsAttribute more.path) more.attributes (attribute ∷ (more.more).more) are.each).0 in
    let same : more.path ≡ old.last.path =
    last_is is.tree more.before more.path old_entry old.last.path old.last.kind is.is_tree more.first_are is.last in
    let next = stands_next more.before [] more.path old_entry (subst IsTree more.first_are is.is_tree) in
    let names : IsLastName old.attribute more.attributes =
    subst (IsLastName old.attribute) (ap (attributes_at is.tree) (sym same)
    ∙ ap (λ (t : Tree). attributes_at t more.path) more.first_are
    ∙ ap attributes_of (find_at_last more.path old_entry more.before next.behind)) is.last_name in
    let parts = pair_parts (more.more).pair_is in
    record {
      path = more.path;
      name = attribute.0;
      may_have = record { path_is = entry.path; below_root = entry.below_root; name_is = one.name; fits = one.fits };
      key_is = parts.0;
      may = (
        subst (λ (version : Version). IsTrue (has_attributes version))
            is.version_is (has_version u more.before more.others more.path more.node more.longer more.attributes
            (more.more).more attribute p.version bare more.entries_are (more.more).attributes_are),
        same,
        above_last old.attribute more.attributes attribute (more.more).more are.sorted names,
      );
      bytes = attribute.1;
      short = one.short;
      value_is = parts.1;
    }

-- behind whole entries each tree goes on with a first pair or an attribute that may stand next
pub next_told : (old : TreeReader) (s : List Pair) (p : Parameters) (key_bytes value : List ℕ)
    → IsBetweenEntries old s p → BeginTree (s ++ (key_bytes, value) ∷ []) p
    → IsNextFirst old key_bytes value ⊎ IsNextAttribute old key_bytes value
next_told old s p key_bytes value is begins =
    by_front (tree_first begins.tree is.tree (key_bytes, value) begins.rest p begins.is_tree is.is_tree joined)
  where
    joined : pairs begins.tree p ≡ pairs is.tree p ++ (key_bytes, value) ∷ begins.rest
    joined = begins.pairs_are ∙ append_assoc s ((key_bytes, value) ∷ []) begins.rest
        ∙ ap (λ (xs : List Pair). xs ++ (key_bytes, value) ∷ begins.rest) is.pairs_are

    by_front : HasFront begins.tree is.tree ((key_bytes, value) ∷ begins.rest) p
        ⊎ HasLonger begins.tree is.tree (key_bytes, value)
        → IsNextFirst old key_bytes value ⊎ IsNextAttribute old key_bytes value
    by_front (inl front) = inl (first_told old s p key_bytes value begins.rest begins.tree is begins.is_tree front)
    by_front (inr longer) =
        inr (attribute_told old s p key_bytes value begins.tree is begins.is_tree begins.bare longer)

-- counts of so few pairs have room for one entry more
pub counts_fit : (reader : TreeReader) (s : List Pair) (p : Parameters) → IsBetweenEntries reader s p
    → length s < pairs_limit
    → (reader.counts.dirs + reader.counts.files < 4294967295)
    × (reader.counts.bytes + file_limit ≤ 18446744073709551615)
counts_fit reader s p is few =
    let range = in_range is.tree p is.is_tree in
    let counts = is.counts_are in
    let size = ap length is.pairs_are in (
      omega (arith, range.few, counts.dirs_are, counts.files_are, size, few),
      omega (arith, range.few, range.short, counts.files_are, counts.bytes_are, size, few),
    )

-- ---- a block

-- the pairs of a file with one block more
one_block_more : (old : TreeReader) (s : List Pair) (p : Parameters) (key_bytes value : List ℕ) (is : IsInFile old s p)
    → IsNextBlock old.last.path old.read is.len key_bytes value
    → s ++ (key_bytes, value) ∷ [] ≡ pairs is.before p ++ (key old.last.path 0, file_value is.len)
    ∷ block_pairs old.last.path (is.bytes ++ value)
one_block_more old s p key_bytes value is next =
    let first : Pair = (key old.last.path 0, file_value is.len) in
    let before = is.more in
    let number : old.read / file_block + 1 ≡ is.blocks + 1 = omega (arith, is.full) in
    let numbered = next.0 ∙ ap (key old.last.path) number in
    ap (λ (front : List Pair). front ++ (key_bytes, value) ∷ []) is.pairs_are
    ∙ append_assoc (pairs is.before p) (first ∷ block_pairs old.last.path is.bytes) ((key_bytes, value) ∷ [])
    ∙ ap (λ (blocks : List Pair). pairs is.before p ++ first ∷ blocks)
    (ap (λ (k : List ℕ). block_pairs old.last.path is.bytes ++ (k, value) ∷ []) numbered
    ∙ sym (blocks_more old.last.path is.blocks is.bytes value (is.read_is ∙ is.full) (omega (arith, next.1, before))
    (omega (arith, next.1))))

-- the bytes that were read, with those of a block
more_bytes : (bytes value : List ℕ) → IsBytes bytes → IsBytes value → IsBytes (bytes ++ value)
more_bytes bytes value valid more =
    bytes_from_all (bytes ++ value)
    (all_append (λ c. c < 256) bytes value (all_from_bytes bytes valid) (all_from_bytes value more))

-- a block of a file is seen, and others are still to come
block_inside : (old : TreeReader) (s : List Pair) (p : Parameters) (key_bytes value : List ℕ) (is : IsInFile old s p)
    → IsNextBlock old.last.path old.read is.len key_bytes value → IsBytes value → old.read + length value < is.len
    → HasSeen (record old { read = old.read + length value }) (s ++ (key_bytes, value) ∷ []) p
unfolding HasSeen
block_inside old s p key_bytes value is next valid more =
    inr (record {
      version_is = is.version_is;
      before = is.before;
      is_tree = is.is_tree;
      bare = is.bare;
      no_name = is.no_name;
      next = is.next;
      len = is.len;
      kind_is = is.kind_is;
      in_blocks = is.in_blocks;
      short = is.short;
      bytes = is.bytes ++ value;
      valid = more_bytes is.bytes value is.valid valid;
      read_is = omega (arith, length-append is.bytes value, is.read_is);
      more = more;
      blocks = is.blocks + 1;
      full = omega (arith, is.full, next.1, more);
      pairs_are = one_block_more old s p key_bytes value is next;
      counts_are = is.counts_are;
    })

-- the last block of a file is seen
block_last : (old : TreeReader) (s : List Pair) (p : Parameters) (key_bytes value : List ℕ) (is : IsInFile old s p)
    → IsNextBlock old.last.path old.read is.len key_bytes value → IsBytes value → is.len ≤ old.read + length value
    → HasSeen (record old { read = old.read + length value }) (s ++ (key_bytes, value) ∷ []) p
unfolding HasSeen
block_last old s p key_bytes value is next valid whole =
    let content : List ℕ = is.bytes ++ value in
    let before = is.more in
    let long : length content ≡ is.len = omega (arith, length-append is.bytes value, is.read_is, next.1, whole, before)
    in
    let kind_is : kind_of (File content) ≡ old.last.kind = ap kinds.File long ∙ sym is.kind_is in
    inl (record {
      version_is = is.version_is;
      tree = is.before ++ (old.last.path, bare_entry (File content)) ∷ [];
      bare = λ lacks. bare_more is.before old.last.path (File content) (is.bare lacks);
      last_name =
          subst (λ (name : Option Name). IsLastName name
          (attributes_at (is.before ++ (old.last.path, bare_entry (File content)) ∷ []) old.last.path)) (sym is.no_name)
          (no_name is.before old.last.path (File content) is.next);
      is_tree = bare_tree_more is.before old.last.path (File content)
          is.is_tree is.next (omega (arith, long, is.short), more_bytes is.bytes value is.valid valid);
      pairs_are = one_block_more old s p key_bytes value is next
          ∙ ap (λ (own : List Pair). pairs is.before p ++ own)
          (sym (pairs_in_blocks old.last.path content is.len p long is.in_blocks))
          ∙ sym (bare_pairs_more is.before old.last.path (File content) p);
      last = subst (λ (kind : Kind). IsLast old.last.path kind
          (is.before ++ (old.last.path, bare_entry (File content)) ∷ [])) kind_is
          (last_more is.before old.last.path (bare_entry (File content)) is.next);
      whole = omega (arith, ap size_of is.kind_is, whole);
      counts_are = is.counts_are content long;
    })

-- a block of a file is seen
pub block_taken : (old : TreeReader) (s : List Pair) (p : Parameters) (len : ℕ) (key_bytes value : List ℕ)
    (is : IsInFile old s p) → is.len ≡ len → IsNextBlock old.last.path old.read len key_bytes value → IsBytes value
    → HasSeen (record old { read = old.read + length value }) (s ++ (key_bytes, value) ∷ []) p
block_taken old s p len key_bytes value is same next valid =
    by_test (subst (λ n. IsNextBlock old.last.path old.read n key_bytes value) (sym same) next)
    (nat_lt (old.read + length value) is.len) refl
  where
    by_test : IsNextBlock old.last.path old.read is.len key_bytes value → (b : Bool)
        → nat_lt (old.read + length value) is.len ≡ b
        → HasSeen (record old { read = old.read + length value }) (s ++ (key_bytes, value) ∷ []) p
    by_test block true t = block_inside old s p key_bytes value is block valid
        (ltb-true (old.read + length value) is.len t)
    by_test block false t = block_last old s p key_bytes value is block valid
        (ltb-false (old.read + length value) is.len t)

-- the file that is read, in a tree whose pairs begin with those that were seen
pub record HasContent (reader : TreeReader) (len : ℕ) (bytes : List ℕ) (rest : List Pair) : Type 0 where
  pub content : List ℕ
  pub long : length content ≡ len
  pub later : List Pair
  pub blocks_are : block_pairs reader.last.path content ++ later ≡ block_pairs reader.last.path bytes ++ rest

-- what stands at a path whose first value is that of a file in blocks
content_from_value : (path : Path) (node : Node) (len : ℕ) (p : Parameters) (behind : List Pair) → IsNode node
    → len ≤ file_limit → node_pairs path node p ≡ (key path 0, file_value len) ∷ behind
    → (content : List ℕ) × (length content ≡ len) × (block_pairs path content ≡ behind)
unfolding node_pairs
content_from_value path Directory len p behind is short pairs_are = let first : ◌≡◌ {A = ℕ} 1 2 =
    heads_same (pair_parts (heads_same pairs_are)).1 in absurd (omega arith)
content_from_value path (File content) len p behind is short pairs_are =
    by_form (is_inline p.version (length content)) pairs_are
  where
    by_form : (inline : Bool) → file_pairs inline path content ≡ (key path 0, file_value len) ∷ behind
        → (content : List ℕ) × (length content ≡ len) × (block_pairs path content ≡ behind)
    by_form true pairs_are = let first : ◌≡◌ {A = ℕ} 3 2 = heads_same (pair_parts (heads_same pairs_are)).1
        in absurd (omega arith)
    by_form false pairs_are =
        let size : length content ≤ file_limit = is.0 in (
          content,
          four_bytes_same (length content) len (omega arith) (omega arith)
              (tails_same (pair_parts (heads_same pairs_are)).1),
          tails_same pairs_are,
        )

-- the blocks of a file at an equal path, in front of other pairs
blocks_of_same : (x y : Path) (content : List ℕ) (behind later rest : List Pair) → x ≡ y
    → block_pairs y content ≡ behind → behind ++ later ≡ rest → block_pairs x content ++ later ≡ rest
blocks_of_same x y content behind later rest same own joined =
    ap (λ (path : Path). block_pairs path content ++ later) same
    ∙ ap (λ (pairs : List Pair). pairs ++ later) own ∙ joined

-- the value of a file in blocks is no attribute's
file_is_no_attribute : (len : ℕ) (bytes : List ℕ) → file_value len ≡ attribute_value bytes → ⊥
file_is_no_attribute len bytes e = let first : ◌≡◌ {A = ℕ} 2 4 = heads_same e in omega arith

pub content_told : (reader : TreeReader) (s : List Pair) (p : Parameters) (is : IsInFile reader s p) (u : Tree)
    (rest : List Pair) → IsTree u → pairs u p ≡ s ++ rest → HasContent reader is.len is.bytes rest
content_told reader s p is u rest tree e =
    let first : Pair = (key reader.last.path 0, file_value is.len) in
    let blocks = block_pairs reader.last.path is.bytes in
    let front = tree_first_whole u is.before first
    (blocks ++ rest) p tree is.is_tree (e ∙ ap (λ (xs : List Pair). xs ++ rest) is.pairs_are
    ∙ append_assoc (pairs is.before p) (first ∷ blocks) rest) (file_is_no_attribute is.len) in
    let entries = all_back (IsEntry u) is.before front.others
    (subst (AllByRecursion (IsEntry u)) front.entries_are tree.entries) in
    let next = next_of_pair u front.others first (blocks ++ rest) p entries front.pairs_are in
    let same : reader.last.path ≡ next.path =
    keys_tell_paths reader.last.path next.path is.next.valid next.is_entry.path next.key_is in
    let found = content_from_value next.path next.entry.node is.len p
    next.behind next.is_entry.node is.short next.node_pairs_are in
    record {
      content = found.0;
      long = found.1;
      later = attribute_pairs next.path next.entry.attributes ++ pairs next.later p;
      blocks_are = blocks_of_same reader.last.path next.path found.0 next.behind
          (attribute_pairs next.path next.entry.attributes ++ pairs next.later p)
          (blocks ++ rest) same found.2 next.rest_is;
    }

-- how many blocks were seen
seen_blocks : (reader : TreeReader) (s : List Pair) (p : Parameters) (is : IsInFile reader s p)
    → length (block_pairs reader.last.path is.bytes) ≡ is.blocks
seen_blocks reader s p is =
    let full : length is.bytes ≡ file_block * is.blocks = is.read_is ∙ is.full in
    length-block_pairs reader.last.path is.bytes
    ∙ (let e : run_count file_block (length is.bytes) ≡ is.blocks = omega (arith, full) in e)

-- in a file each tree goes on with its next block
pub block_told : (old : TreeReader) (s : List Pair) (p : Parameters) (len : ℕ) (key_bytes value : List ℕ)
    (is : IsInFile old s p) → is.len ≡ len → BeginTree (s ++ (key_bytes, value) ∷ []) p
    → IsNextBlock old.last.path old.read len key_bytes value
block_told old s p len key_bytes value is same begins =
    let pair : Pair = (key_bytes, value) in
    let told = content_told old s p is begins.tree (pair ∷ begins.rest)
    begins.is_tree (begins.pairs_are ∙ append_assoc s (pair ∷ []) begins.rest) in
    let before = is.more in
    let block = block_is old.last.path told.content is.blocks (block_pairs old.last.path is.bytes) pair
    told.later begins.rest (omega (arith, told.long, is.full, before)) (seen_blocks old s p is) told.blocks_are in (
      block.0 ∙ ap (key old.last.path) (let e : is.blocks + 1 ≡ old.read / file_block + 1 =
          omega (arith, is.full) in e),
      block.1 ∙ (let e : min (length told.content - file_block * is.blocks) file_block
          ≡ min (len - old.read) file_block = omega (arith, told.long, is.full, same) in e),
    )

-- ---- the end

-- a list that ends in a file is no tree's
not_whole : (reader : TreeReader) (s : List Pair) (p : Parameters) → IsInFile reader s p → (t : Tree)
    → IsTree t → s ≡ pairs t p → ⊥
not_whole reader s p is t tree e =
    let told = content_told reader s p is t [] tree (sym e ∙ sym (append-nil s)) in
    let before = is.more in
    let size = length-block_pairs reader.last.path told.content in
    let both = length-append (block_pairs reader.last.path told.content) told.later in
    let seen = length-append (block_pairs reader.last.path is.bytes) [] in
    absurd (omega (
      arith,
      size,
      both,
      seen,
      ap length told.blocks_are,
      seen_blocks reader s p is,
      told.long,
      is.full,
      before,
    ))

-- whole entries are a tree's
pub whole_from_seen : (reader : TreeReader) (s : List Pair) (p : Parameters) → HasSeen reader s p
    → size_of reader.last.kind ≤ reader.read → AreOfTree s p
whole_from_seen reader s p seen whole = let is = between reader s p seen whole in record {
  tree = is.tree;
  is_tree = is.is_tree;
  bare = is.bare;
  pairs_are = is.pairs_are;
}

pub seen_from_whole : (reader : TreeReader) (s : List Pair) (p : Parameters) → HasSeen reader s p → AreOfTree s p
    → size_of reader.last.kind ≤ reader.read
unfolding HasSeen
seen_from_whole reader s p (inl is) of = is.whole
seen_from_whole reader s p (inr is) of = absurd (not_whole reader s p is of.tree of.is_tree of.pairs_are)

-- and the counts are that tree's
pub counts_told : (reader : TreeReader) (s : List Pair) (p : Parameters) → HasSeen reader s p → (t : Tree) → IsTree t
    → s ≡ pairs t p → AreCounts t reader.counts
unfolding HasSeen
counts_told reader s p (inl is) t tree e =
    subst (λ (u : Tree). AreCounts u reader.counts)
    (pairs_tell_trees is.tree t p is.is_tree tree (sym is.pairs_are ∙ e)) is.counts_are
counts_told reader s p (inr is) t tree e = absurd (not_whole reader s p is t tree e)
