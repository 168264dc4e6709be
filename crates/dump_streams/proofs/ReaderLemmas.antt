-- What a reader knows tells which step may stand next.
use Rattle.std.proofs.Common.{◌≡◌, ℕ, ◌+◌, ◌-◌, ◌/◌, ◌<◌, ◌≤◌, List, [], ◌∷◌, ◌++◌, length, Bool, true, false, IsTrue}
use Rattle.std.proofs.Common.{inl, inr, Option, Some, None, refl, sym, ap, subst, ◌∙◌, arith}
use Rattle.std.proofs.lemmas.Bool.{false≢true}
use Rattle.std.proofs.lemmas.List.{length-append}
use Rattle.std.proofs.lemmas.Option.{same_Some}
use Rattle.store_model.specs.declared.version.Version.{Version}
use Rattle.store_model.specs.Lists.{IsBytes}
use Rattle.store_model.specs.Parameters.{Parameters}
use Rattle.store_model.specs.Paths.{Path, Name, is_path, is_root, is_attribute_name}
use Rattle.store_model.specs.Pairs.{has_attributes}
use Rattle.store_model.specs.Pages.{IsTreeUnder}
use Rattle.store_model.specs.Trees.{Tree, Node, Entry, Attributes, IsAttribute, AreAttributes, IsEntry, IsTree, node_at}
use Rattle.store_model.specs.Trees.{attributes_of, attributes_at}
use Rattle.store_model.specs.Trees.Node.{Directory, File}
use Rattle.store_model.proofs.ListsLemmas.{all_back}
use Rattle.tree_pairs.specs.declared.kind.Kind.{Kind}
use Rattle.tree_pairs.specs.declared.kind.Kind.TheVariants as kinds
use Rattle.tree_pairs.specs.Kinds.{kind_of, kind_of_node}
use Rattle.tree_pairs.specs.Seen.{IsLast, IsLastName, MayStandNext, bare_entry, size_of}
use Rattle.tree_pairs.proofs.ReaderAttributeLemmas.{last_is, last_entry, attributes_more, above_last}
use Rattle.tree_pairs.proofs.ReaderNextLemmas.{find_at_last, last_more, next_from_last, last_from_next}
use Rattle.dump_streams.specs.declared.reader.ListingReader.{ListingReader}
use Rattle.dump_streams.specs.Dumps.{DumpStep, after_step, dump_piece}
use Rattle.dump_streams.specs.Dumps.DumpStep.{Make, Write, Set}
use Rattle.dump_streams.specs.Reading.{HasRead, AddsStep, AddsEntry, IsNextPath, IsNextPiece, IsNextName}
use Rattle.dump_streams.proofs.Chains.{next_of_dump}
use Rattle.dump_streams.proofs.NextTrees.{IsFirstWrite, IsLaterWrite, IsLaterName, IsNext, named_entry, tree_of_make}
use Rattle.dump_streams.proofs.NextTrees.{tree_of_first, last_stands, later_leads, name_leads, goes_on}

-- ---- what a call of a reader does

-- a step is taken
taken : (old new : ListingReader) (c : DumpStep) → new.version ≡ old.version
    → ((t : Tree) (p : Parameters) → HasRead old t p
    → IsNext t p c × (IsTreeUnder (after_step t c) p → HasRead new (after_step t c) p)) → AddsStep old new c true
taken old new c version is = record {
  read = λ t p has. let next = is t p has in next.1 (goes_on t c p has.under next.0).under;
  goes_on = λ t p has. goes_on t c p has.under (is t p has).0;
  refused = λ t p has. tt;
  unchanged = tt;
  version = version;
}

-- and one is refused
pub refused : (old : ListingReader) (c : DumpStep) → ((t : Tree) (p : Parameters) → HasRead old t p → IsNext t p c → ⊥)
    → AddsStep old old c false
refused old c never = record {
  read = λ t p has. tt;
  goes_on = λ t p has. tt;
  refused = λ t p has u rest under e. never t p has (next_of_dump t u c rest p has.under under e);
  unchanged = refl;
  version = refl;
}

-- ---- the last entry

-- a reader knows the last entry of a tree
reads_last : (version : Version) (attribute : Option Name) (before : Tree) (x : Path) (entry : Entry) (u : Tree)
    (p : Parameters) → p.version ≡ version → IsTreeUnder u p → u ≡ before ++ (x, entry) ∷ [] → MayStandNext before x
    → IsLastName attribute entry.attributes
    → HasRead (record {
      version = version;
      last = record { path = x; kind = kind_of entry.node };
      attribute = attribute;
    }) u p
reads_last version attribute before x entry u p version_is under leads next names = record {
  version_is = version_is;
  under = under;
  last = subst (IsLast x (kind_of entry.node)) (sym leads) (last_more before x entry next);
  last_name = subst (IsLastName attribute)
      (sym (ap (λ (t : Tree). attributes_at t x) leads ∙ ap attributes_of (find_at_last x entry before next.behind)))
      names;
}

-- what it knows of that entry
pub record KnowsLast (reader : ListingReader) (before : Tree) (path : Path) (entry : Entry) : Type 0 where
  pub path_is : path ≡ reader.last.path
  pub kind_is : reader.last.kind ≡ kind_of entry.node
  pub names : IsLastName reader.attribute entry.attributes
  pub next : MayStandNext before path
  pub are : AreAttributes path entry.attributes
  pub below_root : is_root path ≡ false

knows_last : (reader : ListingReader) (t before : Tree) (p : Parameters) (path : Path) (entry : Entry)
    → HasRead reader t p → t ≡ before ++ (path, entry) ∷ [] → KnowsLast reader before path entry
knows_last reader t before p path entry has split =
    let whole : Tree = before ++ (path, entry) ∷ [] in
    let tree = subst IsTree split (has.under).is_tree in
    let same : path ≡ reader.last.path =
    last_is t before path entry reader.last.path reader.last.kind (has.under).is_tree split has.last in
    let next = last_stands t before path entry (has.under).is_tree split in
    let is : IsEntry whole (path, entry) = (all_back (IsEntry whole) before ((path, entry) ∷ []) tree.entries).0 in
    record {
      path_is = same;
      kind_is = same_Some reader.last.kind (kind_of entry.node)
          (sym (has.last).stands ∙ ap (λ (x : Path). kind_of_node (node_at t x)) (sym same)
          ∙ ap (λ (u : Tree). kind_of_node (node_at u path)) split ∙ (last_more before path entry next).stands);
      names = subst (IsLastName reader.attribute)
          (ap (attributes_at t) (sym same) ∙ ap (λ (u : Tree). attributes_at u path) split
          ∙ ap attributes_of (find_at_last path entry before next.behind)) has.last_name;
      next = next;
      are = is.attributes;
      below_root = is.below_root;
    }

-- ---- the first step of an entry

entry_may : (reader : ListingReader) (t : Tree) (p : Parameters) (path : Path) → HasRead reader t p
    → IsTrue (is_path path) → IsNextPath reader path → MayStandNext t path
entry_may reader t p path has valid next =
    next_from_last t reader.last.path reader.last.kind path (has.under).is_tree has.last valid next.0 next.1

entry_told : (reader : ListingReader) (t : Tree) (p : Parameters) (path : Path) → HasRead reader t p
    → MayStandNext t path → IsNextPath reader path
entry_told reader t p path has next =
    (next.below_root, last_from_next t reader.last.path reader.last.kind path has.last next)

-- such a step makes the entry of a node
record Begins (path : Path) (node : Node) (c : DumpStep) : Type 0 where
  may : (t : Tree) (p : Parameters) → MayStandNext t path → IsNext t p c
  leads : (t : Tree) → MayStandNext t path → after_step t c ≡ t ++ (path, bare_entry node) ∷ []
  told : (t : Tree) (p : Parameters) → IsNext t p c → MayStandNext t path

entry_adds : (old new : ListingReader) (path : Path) (node : Node) (c : DumpStep) (result : Bool) → Begins path node c
    → IsTrue (is_path path) → AddsEntry old new path (kind_of node) result → AddsStep old new c result
entry_adds old new path node c true begins valid adds =
    subst (λ (reader : ListingReader). AddsStep old reader c true) (sym adds.taken)
    (taken old _ c refl (λ t p has.
    let next = entry_may old t p path has valid (adds.next.0 refl) in (
      begins.may t p next,
      λ under. reads_last old.version None t path (bare_entry node)
          (after_step t c) p has.version_is under (begins.leads t next) next refl,
    )))
entry_adds old new path node c false begins valid adds =
    subst (λ (reader : ListingReader). AddsStep old reader c false) (sym adds.unchanged)
    (refused old c (λ t p has is. false≢true (adds.next.1 (entry_told old t p path has (begins.told t p is)))))

pub directory_adds : (old new : ListingReader) (path : Path) (result : Bool) → IsTrue (is_path path)
    → AddsEntry old new path kinds.Directory result → AddsStep old new (Make path) result
directory_adds old new path result valid adds =
    entry_adds old new path Directory (Make path) result (record {
      may = λ t p next. next;
      leads = λ t next. tree_of_make t path next;
      told = λ t p is. is;
    }) valid adds

-- no later write begins at 0
first_told : (t : Tree) (p : Parameters) (path : Path) (bytes : List ℕ) → IsNext t p (Write path 0 bytes)
    → IsFirstWrite t path 0 bytes
first_told t p path bytes (inl first) = first
first_told t p path bytes (inr later) = absurd (omega (arith, later.at_is, later.full))

pub file_adds : (old new : ListingReader) (path : Path) (bytes : List ℕ) (len : ℕ) (result : Bool)
    → IsTrue (is_path path) → IsBytes bytes → length bytes ≡ len → len ≤ dump_piece
    → AddsEntry old new path (kinds.File len) result → AddsStep old new (Write path 0 bytes) result
file_adds old new path bytes len result valid are long short adds =
    entry_adds old new path (File bytes) (Write path 0 bytes) result (record {
      may = λ t p next. inl (record { next = next; at_is = refl; short = omega (arith, long, short); valid = are });
      leads = λ t next. tree_of_first t path bytes next;
      told = λ t p is. (first_told t p path bytes is).next;
    }) valid (subst (λ n. AddsEntry old new path (kinds.File n) result) (sym long) adds)

pub long_refused : (old : ListingReader) (path : Path) (bytes : List ℕ) → dump_piece < length bytes
    → AddsStep old old (Write path 0 bytes) false
long_refused old path bytes long =
    refused old (Write path 0 bytes) (λ t p has is. let short = (first_told t p path bytes is).short
    in omega (arith, long, short))

-- ---- a further write

no_name : (attribute : Option Name) → IsLastName attribute [] → attribute ≡ None
no_name None is = refl
no_name (Some name) is = absurd (omega (arith, length-append is.0 ((name, is.1) ∷ []), ap length is.2))

no_names : (attribute : Option Name) (attributes : Attributes) → IsLastName attribute attributes
    → attribute ≡ None → attributes ≡ []
no_names attribute attributes is none = subst (λ (name : Option Name). IsLastName name attributes) none is

-- the root is no file
file_below_root : (t : Tree) (path : Path) (len : ℕ) → IsLast path (kinds.File len) t → is_root path ≡ false
file_below_root t [] len is = let stands = is.stands in cc
file_below_root t (n ∷ path) len is = refl

-- the bytes of a file
file_of : (node : Node) (len : ℕ) → kinds.File len ≡ kind_of node
    → (content : List ℕ) × (node ≡ File content) × (length content ≡ len)
file_of Directory len e = cc
file_of (File content) len e = (content, refl, sym (ap size_of e))

piece_told : (reader : ListingReader) (t : Tree) (p : Parameters) (path : Path) (at : ℕ) (bytes : List ℕ)
    → HasRead reader t p → IsLaterWrite t path at bytes → IsNextPiece reader path at bytes
piece_told reader t p path at bytes has later =
    let knows = knows_last reader t later.before p path (bare_entry (File later.content)) has later.entries_are in
    let some = later.some in
    record {
      path_is = knows.path_is;
      kind_is = knows.kind_is ∙ ap kinds.File (sym later.at_is);
      no_name = no_name reader.attribute knows.names;
      whole = omega (arith, later.at_is, later.full);
      some = omega (arith, some);
      short = later.short;
      fits = omega (arith, later.at_is, later.fits);
    }

piece_may : (reader : ListingReader) (t : Tree) (p : Parameters) (path : Path) (at : ℕ) (bytes : List ℕ) → 0 < at
    → IsBytes bytes → HasRead reader t p → IsNextPiece reader path at bytes → IsLaterWrite t path at bytes
piece_may reader t p path at bytes further valid has piece =
    let x : Path = reader.last.path in
    let below = file_below_root t x at (subst (λ (kind : Kind). IsLast x kind t) piece.kind_is has.last) in
    let last = last_entry t x reader.last.kind (has.under).is_tree has.last below in
    let knows = knows_last reader t last.before p x last.entry has last.entries_are in
    let file = file_of last.entry.node at (sym piece.kind_is ∙ knows.kind_is) in
    let bare : last.entry ≡ bare_entry (File file.0) = λ i. record {
      node = file.1 i;
      attributes = no_names reader.attribute last.entry.attributes knows.names piece.no_name i;
    } in
    let some = piece.some in
    let later : IsLaterWrite t x at bytes = record {
      before = last.before;
      content = file.0;
      entries_are = last.entries_are ∙ ap (λ (entry : Entry). last.before ++ (x, entry) ∷ []) bare;
      pieces = at / dump_piece - 1;
      full = omega (arith, file.2, piece.whole, further);
      at_is = sym file.2;
      some = omega (arith, some);
      short = piece.short;
      fits = omega (arith, file.2, piece.fits);
      valid = valid;
    } in
    subst (λ (q : Path). IsLaterWrite t q at bytes) (sym piece.path_is) later

pub piece_adds : (old : ListingReader) (path : Path) (at : ℕ) (bytes : List ℕ) (len : ℕ) → 0 < at → IsBytes bytes
    → length bytes ≡ len → IsNextPiece old path at bytes
    → AddsStep old (record {
      version = old.version;
      last = record { path = old.last.path; kind = kinds.File (at + len) };
      attribute = old.attribute;
    })
    (Write path at bytes) true
piece_adds old path at bytes len further valid long piece =
    taken old _ (Write path at bytes) refl
    (λ t p has.
    let later = piece_may old t p path at bytes further valid has piece in
    let content : List ℕ = later.content ++ bytes in
    let knows = knows_last old t later.before p path (bare_entry (File later.content)) has later.entries_are in
    let whole : length content ≡ at + len = omega (arith, length-append later.content bytes, later.at_is, long) in (
      inr later,
      λ under.
          subst (λ (last : Path × ℕ). HasRead (record {
            version = old.version;
            last = record { path = last.0; kind = kinds.File last.1 };
            attribute = old.attribute;
          })
          (after_step t (Write path at bytes)) p) (λ i. (piece.path_is i, whole i))
          (reads_last old.version old.attribute later.before path (bare_entry (File content))
          (after_step t (Write path at bytes)) p has.version_is under
          (later_leads t path at bytes later (has.under).is_tree) knows.next knows.names),
    ))

pub piece_refused : (old : ListingReader) (path : Path) (at : ℕ) (bytes : List ℕ) → 0 < at
    → (IsNextPiece old path at bytes → ⊥) → AddsStep old old (Write path at bytes) false
piece_refused old path at bytes further never = refused old (Write path at bytes) by_write
  where
    by_write : (t : Tree) (p : Parameters) → HasRead old t p → IsNext t p (Write path at bytes) → ⊥
    by_write t p has (inl first) = absurd (omega (arith, first.at_is, further))
    by_write t p has (inr later) = never (piece_told old t p path at bytes has later)

-- ---- an attribute

name_told : (reader : ListingReader) (t : Tree) (p : Parameters) (path : Path) (name : Name) (bytes : List ℕ)
    → HasRead reader t p → IsLaterName t p path name bytes → IsNextName reader path name bytes
name_told reader t p path name bytes has later =
    let knows = knows_last reader t later.before p path (named_entry later.node later.attributes) has later.entries_are
    in
    let one = (all_back (IsAttribute path) later.attributes ((name, bytes) ∷ []) (later.are).each).0 in
    record {
      may = (
        subst (λ (version : Version). IsTrue (has_attributes version)) has.version_is later.version,
        knows.path_is,
        above_last reader.attribute later.attributes (name, bytes) [] (later.are).sorted knows.names,
      );
      below_root = knows.below_root;
      fits = one.fits;
      short = one.short;
    }

name_may : (reader : ListingReader) (t : Tree) (p : Parameters) (path : Path) (name : Name) (bytes : List ℕ)
    → IsTrue (is_attribute_name name) → IsBytes bytes → HasRead reader t p → IsNextName reader path name bytes
    → IsLaterName t p path name bytes
name_may reader t p path name bytes named valid has next =
    let same = next.may.1 in
    let x : Path = reader.last.path in
    let last = last_entry t x reader.last.kind (has.under).is_tree has.last (ap is_root (sym same) ∙ next.below_root) in
    let split : t ≡ last.before ++ (path, last.entry) ∷ [] =
    last.entries_are ∙ ap (λ (y : Path). last.before ++ (y, last.entry) ∷ []) (sym same) in
    let knows = knows_last reader t last.before p path last.entry has split in
    record {
      version = subst (λ (version : Version). IsTrue (has_attributes version)) (sym has.version_is) next.may.0;
      before = last.before;
      node = last.entry.node;
      attributes = last.entry.attributes;
      entries_are = split;
      are = attributes_more path reader.attribute last.entry.attributes (name, bytes)
          knows.are knows.names next.may.2 (record {
            name = named;
            fits = next.fits;
            short = next.short;
            bytes = valid;
          });
    }

pub name_adds : (old : ListingReader) (path : Path) (name : Name) (bytes : List ℕ) → IsTrue (is_attribute_name name)
    → IsBytes bytes → IsNextName old path name bytes
    → AddsStep old (record { version = old.version; last = old.last; attribute = Some name })
    (Set path name bytes) true
name_adds old path name bytes named valid next =
    taken old _ (Set path name bytes) refl
    (λ t p has.
    let later = name_may old t p path name bytes named valid has next in
    let more : Attributes = later.attributes ++ (name, bytes) ∷ [] in
    let knows = knows_last old t later.before p path (named_entry later.node later.attributes) has later.entries_are
    in (
      later,
      λ under.
          subst (λ (last : Path × Kind). HasRead (record {
            version = old.version;
            last = record { path = last.0; kind = last.1 };
            attribute = Some name;
          })
          (after_step t (Set path name bytes)) p) (λ i. (knows.path_is i, sym knows.kind_is i))
          (reads_last old.version (Some name) later.before path (named_entry later.node more)
          (after_step t (Set path name bytes)) p has.version_is under
          (name_leads t p path name bytes later (has.under).is_tree) knows.next (later.attributes, bytes, refl)),
    ))

pub name_refused : (old : ListingReader) (path : Path) (name : Name) (bytes : List ℕ)
    → (IsNextName old path name bytes → ⊥) → AddsStep old old (Set path name bytes) false
name_refused old path name bytes never =
    refused old (Set path name bytes) (λ t p has is. never (name_told old t p path name bytes has is))
