-- Lemmas on the walk: the paths up to a place have version 2's blocks, and those behind it have the ones that they had.
use Rattle.std.proofs.Common.{◌≡◌, ℕ, zero, suc, ◌+◌, ◌<◌, ◌≤◌, List, [], ◌∷◌, length, Bool, true, false, cond, IsTrue}
use Rattle.std.proofs.Common.{Option, Some, None, Ok, is_some, refl, sym, ap, ap₂, subst, ◌∙◌, arith, Ordering, Less}
use Rattle.std.proofs.Common.{Equal, Greater, ◌⊎◌, inl, inr}
use Rattle.std.specs.Prelude.{IsSome, IfSome, MatchOption}
use Rattle.std.specs.List.{filter}
use Rattle.std.specs.Option.{option_map, option_or}
use Rattle.std.specs.Ordering.{is_eq, is_lt, ordering_reverse}
use Rattle.std.specs.FinMap.{find}
use Rattle.std.specs.Cmp.{tied_itself}
use Rattle.std.proofs.lemmas.Bool.{false≢true, both_ways}
use Rattle.std.proofs.lemmas.List.{length-append}
use Rattle.store_model.specs.declared.version.Version.{Version}
use Rattle.store_model.specs.declared.version.Version.TheVariants.{Two}
use Rattle.store_model.specs.Lists.{run_at}
use Rattle.store_model.specs.Parameters.{Parameters, with_version}
use Rattle.store_model.specs.Paths.{Path, Name, is_path, attribute_mark, attribute_place, name_cmp, path_cmp, same_path}
use Rattle.store_model.specs.Paths.{parent, last_name, key, key_cmp}
use Rattle.store_model.specs.Pairs.{Pair, IsPairs, file_block, is_inline, file_pairs, node_pairs, attribute_value}
use Rattle.store_model.specs.Pairs.{attribute_pairs, entry_pairs, pairs}
use Rattle.store_model.specs.Trees.{Tree, Node, Entry as TreeEntry, Attributes, IsTree, IsEntry, IsNode, node_of}
use Rattle.store_model.specs.Trees.{attributes_of, attributes_at, file_limit}
use Rattle.store_model.specs.Trees.Node.{Directory, File}
use Rattle.store_model.proofs.ListsLemmasCuts.{length-filter-le}
use Rattle.store_model.proofs.TreesLemmas.{find_from_all, find-root}
use Rattle.store_model.proofs.TreesLemmasPaths.{path_cmp_total, same_from_tie, same_from_test}
use Rattle.ordered_pairs.specs.PairsState.{PairsState, IsObservable}
use Rattle.tree_pairs.specs.Blocks.{BlockMap, with_blocks, HasBlocks}
use Rattle.tree_pairs.specs.TreeCalls.{HoldsTree}
use Rattle.tree_pairs.proofs.TreeBlocks.{file_block_value, block_value, attribute_block, version_blocks, tree_blocks}
use Rattle.tree_pairs.proofs.PlaceLemmas.{IsAttributePlace, IsPlain, form_of, plain_blocks, path_blocks}
use Rattle.tree_pairs.proofs.PlaceLemmas.{attribute_blocks, first_of_attribute}
use Rattle.tree_pairs.proofs.AttributeLemmas.{attribute_found}
use Rattle.tree_pairs.proofs.BlocksLemmas.{run_value-none, length-run_at, pairs_have_blocks, pairs_from_blocks}
use Rattle.tree_pairs.proofs.BlocksLemmas.{blocks_alike}
use Rattle.tree_pairs.proofs.KindLemmas.{first_of_some}
use Rattle.file_blocks.specs.declared.inlining.Entry.{Entry}
use Rattle.file_blocks.specs.UpgradeCalls.{IsAttributeOf, AreOfEntries, LacksBehind, IsFirstBehind, FindsEntry}
use Rattle.file_blocks.specs.UpgradeCalls.{InlinesFile, IsInlined}
use Rattle.file_blocks.proofs.UpgradeFileLemmas.{node_kept, node_inlined, fewer_after}

-- ---- the blocks on the way

-- whether a path stands behind a place
abbrev is_behind : Path → Path → Bool
is_behind last x = is_lt (path_cmp last x)

-- the version that a path has on the way, if all have one
abbrev version_at : Path → Version → Path → Version
version_at last version x = cond (is_behind last x) version Two

-- the blocks of a tree whose paths up to a place have version 2's; its attributes have the same under both
abbrev pub blocks_to : Path → Tree → Parameters → BlockMap
blocks_to last t p x i = version_blocks t (version_at last p.version x) x i

-- ---- the order of paths

less_from_test : (o : Ordering) → is_lt o ≡ true → o ≡ Less
less_from_test Less e = refl
less_from_test Equal e = cc
less_from_test Greater e = cc

-- a path that is not behind another, nor that one, is before it
before_from_tests : (y x : Path) → is_behind y x ≡ false → same_path x y ≡ false → path_cmp x y ≡ Less
before_from_tests y x behind other = by_order (path_cmp y x) refl
  where
    by_order : (o : Ordering) → path_cmp y x ≡ o → path_cmp x y ≡ Less
    by_order Less e = let is : is_behind y x ≡ true = ap is_lt e in cc
    by_order Equal e =
        let same : same_path x y ≡ true = ap (λ z. same_path x z) (same_from_tie y x e)
        ∙ ap is_eq (tied_itself path_cmp_total x) in
        cc
    by_order Greater e = path_cmp_total.antisymm x y ∙ ap ordering_reverse e

not_behind_itself : (y : Path) → is_behind y y ≡ false
not_behind_itself y = ap is_lt (tied_itself path_cmp_total y)

not_behind_before : (y x : Path) → path_cmp x y ≡ Less → is_behind y x ≡ false
not_behind_before y x l = ap is_lt (path_cmp_total.antisymm y x ∙ ap ordering_reverse l)

-- ---- entries that are found

entry_of : (t : Tree) (x : Path) (e : TreeEntry) → IsTree t → find path_cmp x t ≡ Some e → IsEntry t (x, e)
entry_of t x e h found = find_from_all (IsEntry t) x e t h.entries found

-- what has a first block is an entry's path
path_of_found : (t : Tree) (x : Path) (version : Version) (o : Option TreeEntry) → IsTree t → find path_cmp x t ≡ o
    → IsSome (block_value (node_of o) version 0) → IsTrue (is_path x)
path_of_found t x version None h found there = cc
path_of_found t x version (Some e) h found there = (entry_of t x e h found).path

-- a path that has a first block stands in the tree
found_from_first : (o : Option TreeEntry) (version : Version) (first : List ℕ)
    → block_value (node_of o) version 0 ≡ Some first → (e : TreeEntry) × (o ≡ Some e)
found_from_first None version first e = cc
found_from_first (Some entry) version first e = (entry, refl)

-- ---- the blocks are those of entries and of their attributes

no_far_block : (node : Node) (version : Version) (j : ℕ) → IsNode node → file_limit < j
    → block_value (Some node) version j ≡ None
no_far_block node version zero fits far = absurd (omega arith)
no_far_block Directory version (suc j) fits far = refl
no_far_block (File bytes) version (suc j) fits far = by_form (is_inline version (length bytes))
  where
    by_form : (b : Bool) → file_block_value b bytes (suc j) ≡ None
    by_form true = refl
    by_form false = run_value-none (run_at file_block bytes j)
        (let long = length-run_at file_block bytes j in let few = fits.0 in omega arith)

-- whatever has a block has the first one
node_first : (o : Option Node) (version : Version) (i : ℕ) → IsSome (block_value o version i)
    → IsSome (block_value o version 0)
node_first None version i h = h
node_first (Some node) version i h = by_first (block_value (Some node) version 0) refl
  where
    by_first : (o : Option (List ℕ)) → block_value (Some node) version 0 ≡ o
        → IsSome (block_value (Some node) version 0)
    by_first None e = absurd (first_of_some (Some node) version refl e)
    by_first (Some v) e = ap is_some e

attribute_first : (attributes : Attributes) (n : Name) (i : ℕ) → IsSome (attribute_block attributes n i)
    → IsSome (attribute_block attributes n 0)
attribute_first attributes n zero h = h
attribute_first attributes n (suc i) h = let none = first_of_attribute attributes n i
    in let some : is_some (attribute_block attributes n (suc i)) ≡ true = h
    in absurd (both_ways _ (ap is_some none) some)

-- the attribute of a block that is there
attribute_of_block : (attributes : Attributes) (a : Name) → IsSome (attribute_block attributes (attribute_mark ∷ a) 0)
    → (bytes : List ℕ) × (find name_cmp a attributes ≡ Some bytes)
attribute_of_block attributes a h = by_found (find name_cmp a attributes) refl h
  where
    by_found : (o : Option (List ℕ)) → find name_cmp a attributes ≡ o → IsSome (option_map attribute_value o)
        → (bytes : List ℕ) × (find name_cmp a attributes ≡ Some bytes)
    by_found None e h = cc
    by_found (Some bytes) e h = (bytes, e)

-- the entry of a path that has an attribute
entry_of_attribute : (o : Option TreeEntry) (a : Name) (bytes : List ℕ) → find name_cmp a (attributes_of o) ≡ Some bytes
    → (e : TreeEntry) × (o ≡ Some e)
entry_of_attribute None a bytes h = cc
entry_of_attribute (Some e) a bytes h = (e, refl)

module _ (last : Path) (t : Tree) (p : Parameters) (h : IsTree t) where
  -- what stands at a path
  at_path : (x : Path) (i : ℕ) → IsTrue (is_path x)
      → blocks_to last t p x i ≡ block_value (node_of (find path_cmp x t)) (version_at last p.version x) i
  at_path x i path = path_blocks t (version_at last p.version x) x i path

  at_plain : (x : Path) (i : ℕ) → IsPlain x
      → blocks_to last t p x i ≡ block_value (node_of (find path_cmp x t)) (version_at last p.version x) i
  at_plain x i plain = plain_blocks t (version_at last p.version x) x i plain

  at_attribute : (q : Path) (a : Name) (i : ℕ)
      → blocks_to last t p (attribute_place q a) i ≡ attribute_block (attributes_at t q) (attribute_mark ∷ a) i
  at_attribute q a i = attribute_blocks t (version_at last p.version (attribute_place q a)) q a i h

  -- an entry's path has its first block
  entry_there : (x : Path) (e : TreeEntry) → find path_cmp x t ≡ Some e → IsSome (blocks_to last t p x 0)
  entry_there x e found = by_first (blocks_to last t p x 0) refl
    where
      is : blocks_to last t p x 0 ≡ block_value (Some e.node) (version_at last p.version x) 0
      is = at_path x 0 (entry_of t x e h found).path
          ∙ ap (λ o. block_value (node_of o) (version_at last p.version x) 0) found

      by_first : (o : Option (List ℕ)) → blocks_to last t p x 0 ≡ o → IsSome (blocks_to last t p x 0)
      by_first None f = absurd (first_of_some (Some e.node) (version_at last p.version x) refl (sym is ∙ f))
      by_first (Some v) f = ap is_some f

  first_there : (x : Path) (i : ℕ) → IsSome (blocks_to last t p x i) → IsSome (blocks_to last t p x 0)
  first_there x i there = by_form (form_of x)
    where
      by_form : IsAttributePlace x ⊎ IsPlain x → IsSome (blocks_to last t p x 0)
      by_form (inl at) =
          let is = λ (j : ℕ). ap (λ y. blocks_to last t p y j) at.place_is ∙ at_attribute at.path at.name j in
          subst (λ (o : Option (List ℕ)). IsSome o) (sym (is 0))
          (attribute_first (attributes_at t at.path) (attribute_mark ∷ at.name) i
          (subst (λ (o : Option (List ℕ)). IsSome o) (is i) there))
      by_form (inr plain) =
          subst (λ (o : Option (List ℕ)). IsSome o) (sym (at_plain x 0 plain))
          (node_first (node_of (find path_cmp x t)) (version_at last p.version x) i
          (subst (λ (o : Option (List ℕ)). IsSome o) (at_plain x i plain) there))

  no_last : (x : Path) → blocks_to last t p x 4294967295 ≡ None
  no_last x = by_form (form_of x)
    where
      by_found : (o : Option TreeEntry) → find path_cmp x t ≡ o
          → block_value (node_of o) (version_at last p.version x) 4294967295 ≡ None
      by_found None e = refl
      by_found (Some entry) e = no_far_block entry.node (version_at last p.version x) 4294967295
          (entry_of t x entry h e).node (omega arith)

      by_form : IsAttributePlace x ⊎ IsPlain x → blocks_to last t p x 4294967295 ≡ None
      by_form (inl at) = ap (λ y. blocks_to last t p y 4294967295) at.place_is ∙ at_attribute at.path at.name 4294967295
          ∙ first_of_attribute (attributes_at t at.path) (attribute_mark ∷ at.name) 4294967294
      by_form (inr plain) = at_plain x 4294967295 plain ∙ by_found (find path_cmp x t) refl

  owned_place : (x : Path) → IsSome (blocks_to last t p x 0) → IsTrue (is_path x) ⊎ IsAttributeOf (blocks_to last t p) x
  owned_place x there = by_form (form_of x)
    where
      by_form : IsAttributePlace x ⊎ IsPlain x → IsTrue (is_path x) ⊎ IsAttributeOf (blocks_to last t p) x
      by_form (inl at) =
          let found = attribute_of_block (attributes_at t at.path)
          at.name (subst (λ (o : Option (List ℕ)). IsSome o)
          (ap (λ y. blocks_to last t p y 0) at.place_is ∙ at_attribute at.path at.name 0) there) in
          let owner = entry_of_attribute (find path_cmp at.path t) at.name found.0 found.1 in
          let is = attribute_found t at.path at.name found.0 h found.1 in
          inr (record {
            path = at.path;
            name = at.name;
            valid = (entry_of t at.path owner.0 h owner.1).path;
            named = is.name;
            fits = is.fits;
            place_is = at.place_is;
            there = entry_there at.path owner.0 owner.1;
          })
      by_form (inr plain) =
          inl (path_of_found t x (version_at last p.version x) (find path_cmp x t) h refl
          (subst (λ (o : Option (List ℕ)). IsSome o) (at_plain x 0 plain) there))

pub are_of_entries : (last : Path) (t : Tree) (p : Parameters) → IsTree t → AreOfEntries (blocks_to last t p)
are_of_entries last t p h = record {
  first = first_there last t p h;
  few = no_last last t p h;
  owned = owned_place last t p h;
}

-- ---- the way begins

first_blocks : (t : Tree) (p : Parameters) (x : Path) (i : ℕ) → IsTree t → tree_blocks t p x i ≡ blocks_to [] t p x i
first_blocks t p [] i h = at_root p.version ∙ sym (at_root Two)
  where
    at_root : (version : Version) → version_blocks t version [] i
        ≡ attribute_block (attributes_at t (parent [])) (last_name []) i
    at_root version =
        ap (λ o. option_or (block_value (node_of o) version i)
        (attribute_block (attributes_at t (parent [])) (last_name []) i)) (find-root t h)
first_blocks t p (n ∷ x) i h = refl

-- ---- it goes on

-- the blocks of one more path are version 2's
next_blocks : (last y : Path) (entry : TreeEntry) (t : Tree) (p : Parameters) → IsTree t → path_cmp last y ≡ Less
    → ((z : Path) → IsTrue (is_path z) → path_cmp last z ≡ Less → path_cmp z y ≡ Less → blocks_to last t p z 0 ≡ None)
    → find path_cmp y t ≡ Some entry
    → (x : Path) (i : ℕ) → with_blocks y (λ j. block_value (Some entry.node) Two j) (blocks_to last t p) x i
    ≡ blocks_to y t p x i
next_blocks last y entry t p h behind between found x i = by_same (same_path x y) refl
  where
    stays : (o : Option TreeEntry) → find path_cmp x t ≡ o → same_path x y ≡ false → (b : Bool) → is_behind y x ≡ b
        → (c : Bool) → is_behind last x ≡ c
        → block_value (node_of o) (cond c p.version Two) i ≡ block_value (node_of o) (cond b p.version Two) i
    stays None e other b f c g = refl
    stays (Some n) e other true f true g = refl
    stays (Some n) e other false f false g = refl
    stays (Some n) e other true f false g =
        let after : is_behind last x ≡ true =
        ap is_lt (path_cmp_total.trans last y x behind (less_from_test (path_cmp y x) f)) in
        cc
    stays (Some n) e other false f true g =
        let path = (entry_of t x n h e).path in
        let none = between x path (less_from_test (path_cmp last x) g) (before_from_tests y x f other) in
        absurd (first_of_some (Some n.node) (version_at last p.version x) refl
        (sym (at_path last t p h x 0 path ∙ ap (λ o. block_value (node_of o) (version_at last p.version x) 0) e)
        ∙ none))

    by_form : IsAttributePlace x ⊎ IsPlain x → same_path x y ≡ false → blocks_to last t p x i ≡ blocks_to y t p x i
    by_form (inl at) other =
        ap (λ z. blocks_to last t p z i) at.place_is ∙ at_attribute last t p h at.path at.name i
        ∙ sym (at_attribute y t p h at.path at.name i) ∙ ap (λ z. blocks_to y t p z i) (sym at.place_is)
    by_form (inr plain) other =
        at_plain last t p h x i plain ∙ stays (find path_cmp x t) refl other (is_behind y x) refl
        (is_behind last x) refl ∙ sym (at_plain y t p h x i plain)

    by_same : (b : Bool) → same_path x y ≡ b
        → cond b (block_value (Some entry.node) Two i) (blocks_to last t p x i) ≡ blocks_to y t p x i
    by_same true e =
        let is : x ≡ y = same_from_test x y e in
        sym (ap (λ z. blocks_to y t p z i) is ∙ at_path y t p h y i (entry_of t y entry h found).path
        ∙ ap₂ (λ o b. block_value (node_of o) (cond b p.version Two) i) found (not_behind_itself y))
    by_same false e = by_form (form_of x) e

-- the blocks on the way, said with those of the path that is next apart
split_blocks : (last y : Path) (entry : TreeEntry) (t : Tree) (p : Parameters) → IsTree t → path_cmp last y ≡ Less
    → find path_cmp y t ≡ Some entry
    → (x : Path) (i : ℕ) → blocks_to last t p x i
    ≡ with_blocks y (λ j. block_value (Some entry.node) p.version j) (blocks_to last t p) x i
split_blocks last y entry t p h behind found x i = by_same (same_path x y) refl
  where
    by_same : (b : Bool) → same_path x y ≡ b
        → blocks_to last t p x i ≡ cond b (block_value (Some entry.node) p.version i) (blocks_to last t p x i)
    by_same true e =
        let is : x ≡ y = same_from_test x y e in
        ap (λ z. blocks_to last t p z i) is ∙ at_path last t p h y i (entry_of t y entry h found).path
        ∙ ap₂ (λ o b. block_value (node_of o) (cond b p.version Two) i) found (ap is_lt behind)
    by_same false e = refl

-- ---- it ends

last_blocks : (last : Path) (t : Tree) (p : Parameters) → IsTree t → LacksBehind last (blocks_to last t p)
    → (x : Path) (i : ℕ) → blocks_to last t p x i ≡ tree_blocks t (with_version p Two) x i
last_blocks last t p h lacks x i = by_form (form_of x)
  where
    by_found : (o : Option TreeEntry) → find path_cmp x t ≡ o → (b : Bool) → is_behind last x ≡ b
        → block_value (node_of o) (cond b p.version Two) i ≡ block_value (node_of o) Two i
    by_found o e false f = refl
    by_found None e true f = refl
    by_found (Some n) e true f =
        let path = (entry_of t x n h e).path in
        let none = lacks x path (less_from_test (path_cmp last x) f) in
        absurd (first_of_some (Some n.node) (version_at last p.version x) refl
        (sym (at_path last t p h x 0 path ∙ ap (λ o. block_value (node_of o) (version_at last p.version x) 0) e)
        ∙ none))

    by_form : IsAttributePlace x ⊎ IsPlain x → blocks_to last t p x i ≡ tree_blocks t (with_version p Two) x i
    by_form (inl at) =
        ap (λ z. blocks_to last t p z i) at.place_is ∙ at_attribute last t p h at.path at.name i
        ∙ sym (attribute_blocks t Two at.path at.name i h) ∙ ap (λ z. version_blocks t Two z i) (sym at.place_is)
    by_form (inr plain) = at_plain last t p h x i plain ∙ by_found (find path_cmp x t) refl (is_behind last x) refl
        ∙ sym (plain_blocks t Two x i plain)

-- ---- how many turns there are

-- the entries that are still to come
abbrev to_come : Path → Tree → ℕ
to_come last t = length (filter (λ e. is_behind last e.0) t)

-- what is behind a place is behind those before it
behind_on : (last y x : Path) → path_cmp last y ≡ Less → is_behind y x ≡ true → is_behind last x ≡ true
behind_on last y x l e = ap is_lt (path_cmp_total.trans last y x l (less_from_test (path_cmp y x) e))

-- one entry more, which both pass, or only the second one
one_more_le : (e : Path × TreeEntry) (xs ys : List (Path × TreeEntry)) (a b : Bool) → (a ≡ true → b ≡ true)
    → length xs ≤ length ys → length (cond a (e ∷ xs) xs) ≤ length (cond b (e ∷ ys) ys)
one_more_le e xs ys true true h l = omega arith
one_more_le e xs ys false true h l = omega arith
one_more_le e xs ys false false h l = l
one_more_le e xs ys true false h l = absurd (false≢true (h refl))

fewer_behind : (last y : Path) (t : Tree) → path_cmp last y ≡ Less → to_come y t ≤ to_come last t
fewer_behind last y [] l = omega arith
fewer_behind last y (e ∷ t) l = one_more_le e _ _ (is_behind y e.0) (is_behind last e.0) (behind_on last y e.0 l)
    (fewer_behind last y t l)

one_fewer_behind : (last y : Path) (entry : TreeEntry) (t : Tree) → path_cmp last y ≡ Less
    → find path_cmp y t ≡ Some entry → to_come y t < to_come last t
one_fewer_behind last y entry [] l found = cc
one_fewer_behind last y entry (e ∷ t) l found =
    (elim (same_path y e.0) as (λ b. same_path y e.0 ≡ b → cond b (Some e.1) (find path_cmp y t) ≡ Some entry
    → to_come y (e ∷ t) < to_come last (e ∷ t)) [
      | true ↦ λ same found.
          let is : y ≡ e.0 = same_from_test y e.0 same in
          let none = ap (λ b. length (cond b (e ∷ filter (λ e. is_behind y e.0) t) (filter (λ e. is_behind y e.0) t)))
          (ap (is_behind y) (sym is) ∙ not_behind_itself y) in
          let some =
          ap (λ b. length (cond b (e ∷ filter (λ e. is_behind last e.0) t) (filter (λ e. is_behind last e.0) t)))
          (ap (is_behind last) (sym is) ∙ ap is_lt l) in
          let rest = fewer_behind last y t l in
          omega arith
      | false ↦ λ other found. one_more_less e _ _ (is_behind y e.0) (is_behind last e.0) (behind_on last y e.0 l)
          (one_fewer_behind last y entry t l found)
    ]) refl found
  where
    one_more_less : (e : Path × TreeEntry) (xs ys : List (Path × TreeEntry)) (a b : Bool) → (a ≡ true → b ≡ true)
        → length xs < length ys → length (cond a (e ∷ xs) xs) < length (cond b (e ∷ ys) ys)
    one_more_less e xs ys true true h l = omega arith
    one_more_less e xs ys false true h l = omega arith
    one_more_less e xs ys false false h l = l
    one_more_less e xs ys true false h l = absurd (false≢true (h refl))

-- ---- how far the walk has come

-- after so many turns: the blocks of the list, and the entries that are still to come
pub record IsPartUpgraded (t : Tree) (p : Parameters) (last : Path) (turns : ℕ) (s : List Pair) : Type 0 where
  pub has : HasBlocks (blocks_to last t p) s
  pub counted : turns + to_come last t ≤ length t

pub none_upgraded : (state : PairsState) (t : Tree) (p : Parameters) (last : Path) → HoldsTree state t p → last ≡ []
    → IsPartUpgraded t p last 0 state.pairs
none_upgraded state t p last holds is = record {
  has = subst (λ (z : Path). HasBlocks (blocks_to z t p) state.pairs) (sym is)
      (subst (HasBlocks (blocks_to [] t p)) (sym holds.pairs_are)
      (blocks_alike (tree_blocks t p) (blocks_to [] t p) (pairs t p) (λ x i. first_blocks t p x i holds.tree)
      (pairs_have_blocks t p holds.tree)));
  counted = let fewer = length-filter-le (λ e. is_behind last e.0) t in omega arith;
}

-- one entry more: its file is inline, or its pairs are as they were
one_more_upgraded : (t : Tree) (p : Parameters) (last : Path) (entry : Entry) (turns : ℕ) (s after : List Pair)
    → IsTree t → IsPartUpgraded t p last turns s → IsTrue (is_path entry.path)
    → IsFirstBehind last (blocks_to last t p) entry
    → IsInlined entry s after → IsPartUpgraded t p entry.path (turns + 1) after
one_more_upgraded t p last entry turns s after h part path next change =
    let y : Path = entry.path in
    let first = sym (at_path last t p h y 0 path) ∙ next.there in
    let stands = found_from_first (find path_cmp y t) (version_at last p.version y) entry.first first in
    let node = stands.0.node in
    let fits = (entry_of t y stands.0 h stands.1).node in
    let there : block_value (Some node) p.version 0 ≡ Some entry.first =
    ap₂ (λ o b. block_value (node_of o) (cond b p.version Two) 0) (sym stands.1) (sym (ap is_lt next.behind))
    ∙ first in
    let split = blocks_alike (blocks_to last t p)
    (with_blocks y (λ j. block_value (Some node) p.version j) (blocks_to last t p)) s
    (split_blocks last y stands.0 t p h next.behind stands.1) part.has in
    let less = one_fewer_behind last y stands.0 t next.behind stands.1 in
    let counted = part.counted in
    record {
      has = blocks_alike (with_blocks y (λ j. block_value (Some node) Two j) (blocks_to last t p))
          (blocks_to y t p) after (next_blocks last y stands.0 t p h next.behind next.next stands.1)
          (changed node fits there split change);
      counted = omega arith;
    }
  where
    changed : (node : Node) → IsNode node → block_value (Some node) p.version 0 ≡ Some entry.first
        → HasBlocks (with_blocks entry.path (λ j. block_value (Some node) p.version j) (blocks_to last t p)) s
        → IsInlined entry s after
        → HasBlocks (with_blocks entry.path (λ j. block_value (Some node) Two j) (blocks_to last t p)) after
    changed node fits there split (inl short) =
        subst (HasBlocks (with_blocks entry.path (λ j. block_value (Some node) Two j) (blocks_to last t p)))
        (sym short.1) (node_inlined entry.path node p.version entry.first (blocks_to last t p) s path
        fits there short.0 split)
    changed node fits there split (inr other) =
        subst (HasBlocks (with_blocks entry.path (λ j. block_value (Some node) Two j) (blocks_to last t p)))
        (sym other.1)
        (blocks_alike _ _ s (λ x i. ap (λ v. cond (same_path x entry.path) v (blocks_to last t p x i))
        (node_kept node p.version entry.first there other.0 i)) split)

-- no entry is left
all_upgraded : (t : Tree) (p : Parameters) (last : Path) (turns : ℕ) (s : List Pair) → IsTree t
    → IsPartUpgraded t p last turns s → LacksBehind last (blocks_to last t p) → s ≡ pairs t (with_version p Two)
all_upgraded t p last turns s h part lacks =
    pairs_from_blocks t (with_version p Two) s h
    (blocks_alike (blocks_to last t p) (tree_blocks t (with_version p Two)) s
    (last_blocks last t p h lacks) part.has)

-- ---- no more turns than pairs

some_pair : (x : Path) (node : Node) (p : Parameters) → 1 ≤ length (node_pairs x node p)
unfolding node_pairs
some_pair x Directory p = omega arith
some_pair x (File bytes) p = by_form (is_inline p.version (length bytes))
  where
    by_form : (b : Bool) → 1 ≤ length (file_pairs b x bytes)
    by_form true = omega arith
    by_form false = omega arith

length-pairs_ge : (t : Tree) (p : Parameters) → length t ≤ length (pairs t p)
unfolding pairs
length-pairs_ge [] p = omega arith
length-pairs_ge (e ∷ t) p =
    let rest = length-pairs_ge t p in
    let some = some_pair e.0 e.1.node p in
    omega (
      arith,
      length-append (entry_pairs e.0 e.1 p) (pairs t p),
      length-append (node_pairs e.0 e.1.node p)
          (attribute_pairs e.0 e.1.attributes),
    )

pub few_turns : (state : PairsState) (t : Tree) (p : Parameters) (last : Path) (turns : ℕ) (s : List Pair)
    → HoldsTree state t p → IsPartUpgraded t p last turns s → turns ≤ length state.pairs
few_turns state t p last turns s holds part =
    let all = length-pairs_ge t p in
    let counted = part.counted in
    omega (arith, ap length holds.pairs_are)

-- ---- the same, by what the calls of a turn answered

-- a walk that keeps what is known of each list: whether it is observable, and that no pair is added
pub record HasWalked (old new : PairsState) : Type 0 where
  pub faults : new.faults ≡ old.faults
  pub hidden : IsObservable new → IsObservable old
  pub observable : IsObservable old → IsObservable new
  pub fewer : IsObservable old → length new.pairs ≤ length old.pairs

-- the entry that a search found
abbrev Answered : Path → BlockMap → Option Entry → Type 0
Answered last blocks found = MatchOption found (LacksBehind last blocks) (IsFirstBehind last blocks)

pub next_upgraded : (t : Tree) (p : Parameters) (last : Path) (turns : ℕ) (found : Option Entry) (entry : Entry)
    (s between after : List Pair) → IsTree t → IsPartUpgraded t p last turns s
    → found ≡ Some entry → Answered last (blocks_to last t p) found
    → IfSome found (λ entry. IsTrue (is_path entry.path)) → between ≡ s → IsInlined entry between after
    → IsPartUpgraded t p entry.path (turns + 1) after
next_upgraded t p last turns None entry s between after h part is answer valid kept change = cc
next_upgraded t p last turns (Some e) entry s between after h part is answer valid kept change =
    let same : e ≡ entry = cc in
    one_more_upgraded t p last entry turns s after h part (subst (λ (z : Entry). IsTrue (is_path z.path)) same valid)
    (subst (IsFirstBehind last (blocks_to last t p)) same answer)
    (subst (λ (before : List Pair). IsInlined entry before after) kept change)

pub none_left : (t : Tree) (p : Parameters) (last : Path) (turns : ℕ) (found : Option Entry) (s between : List Pair)
    → IsTree t → IsPartUpgraded t p last turns s
    → ((entry : Entry) → found ≡ Some entry → ⊥) → Answered last (blocks_to last t p) found → between ≡ s
    → between ≡ pairs t (with_version p Two)
none_left t p last turns None s between h part none lacks kept = kept ∙ all_upgraded t p last turns s h part lacks
none_left t p last turns (Some e) s between h part none answer kept = absurd (none e refl)

-- the entry that was found is valid, and its first pair is in the list
found_facts : (entry : Entry) (found : Option Entry) (s : List Pair) → found ≡ Some entry
    → IfSome found (λ entry. IsTrue (is_path entry.path))
    → IfSome found (λ entry. find key_cmp (key entry.path 0) s ≡ Some entry.first)
    → IsTrue (is_path entry.path) × (find key_cmp (key entry.path 0) s ≡ Some entry.first)
found_facts entry None s is valid there = cc
found_facts entry (Some e) s is valid there = let same : e ≡ entry = cc
    in subst (λ (z : Entry). IsTrue (is_path z.path) × (find key_cmp (key z.path 0) s ≡ Some z.first)) same
    (valid, there)

-- a search of the walk, and a turn of it
pub walks_on : (old here between : PairsState) (last : Path) (found : Option Entry) → HasWalked old here
    → FindsEntry last here between (Ok found) → HasWalked old between
walks_on old here between last found walked search = record {
  faults = search.faults ∙ walked.faults;
  hidden = λ seen. walked.hidden (search.hidden seen);
  observable = λ seen. search.keeps.observable (walked.observable seen);
  fewer = λ seen. let fewer = walked.fewer seen
      in omega (arith, ap length (search.keeps.unchanged (walked.observable seen)));
}

pub turns_on : (old here between after : PairsState) (last : Path) (entry : Entry) (found : Option Entry)
    → HasWalked old here → FindsEntry last here between (Ok found) → found ≡ Some entry
    → InlinesFile {T = Unit {0}} entry between after (Ok (tt {0}))
    → (IsObservable here → IsPairs here.pairs) → HasWalked old after
turns_on old here between after last entry found walked search is change valid = record {
  faults = change.faults ∙ search.faults ∙ walked.faults;
  hidden = λ seen. walked.hidden (search.hidden (change.hidden seen));
  observable = λ seen. change.observable (search.keeps.observable (walked.observable seen));
  fewer = λ seen.
      let at = walked.observable seen in
      let facts = found_facts entry found here.pairs is search.valid (search.there at) in
      let changed = subst (λ (before : List Pair). IsInlined entry before after.pairs) (search.keeps.unchanged at)
      (change.changed (search.keeps.observable at)) in
      let fewer = fewer_after entry here.pairs after.pairs facts.0 (valid at) facts.1 changed in
      let walked_fewer = walked.fewer seen in
      omega arith;
}
