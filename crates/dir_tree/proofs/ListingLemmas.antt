-- Lemmas on a listing: what is found past one child and all below it is the next child.
use Rattle.std.proofs.Common.{◌≡◌, ℕ, ◌+◌, ◌<◌, ◌≤◌, List, [], ◌∷◌, ◌++◌, map, length, Bool, true, false, ◌&&◌, IsTrue}
use Rattle.std.proofs.Common.{Option, Some, None, refl, sym, ap, ap₂, subst, ◌∙◌, arith, Ordering, Less, Equal, Greater}
use Rattle.std.specs.Prelude.{MatchOption}
use Rattle.std.specs.List.{filter, list_all}
use Rattle.std.specs.Ordering.{is_le, ordering_reverse}
use Rattle.std.specs.Cmp.Lexicographic.{nat_list_cmp_total}
use Rattle.std.specs.Cmp.{tied_itself}
use Rattle.std.specs.FinMap.{find}
use Rattle.std.proofs.lemmas.Bool.{leb-true, both_ways, and_from, and_parts, and_right, or_from, or_right}
use Rattle.std.proofs.lemmas.Bool.{false_from_ne_true}
use Rattle.std.proofs.lemmas.List.{append_assoc, append-nil, length-append, length-map}
use Rattle.store_model.specs.Parameters.{Parameters}
use Rattle.store_model.specs.Paths.{Path, is_root, is_path, is_place, path_cmp, same_path, is_inside, is_at_or_inside}
use Rattle.store_model.specs.Paths.{parent, last_name, name_bytes, field_len, fits_field, is_name, key, key_cmp}
use Rattle.store_model.specs.Trees.{Tree, Node, Entry, Attributes, IsTree, IsEntry, exists, is_directory, node_at}
use Rattle.store_model.specs.Trees.{children}
use Rattle.store_model.specs.Trees.Node.{Directory, File}
use Rattle.store_model.specs.Pairs.{Pair, is_inline, file_pairs, node_pairs, attribute_pairs, entry_pairs, pairs}
use Rattle.store_model.specs.Commands.{Child}
use Rattle.store_model.specs.Steps.{child_of}
use Rattle.store_model.proofs.ListsLemmas.{second_true, all_with, all_weaker, rising_from_is_sorted}
use Rattle.store_model.proofs.PathsLemmas.{place_of_path}
use Rattle.store_model.proofs.TreesLemmasPaths.{path_cmp_total, same_from_test, same_from_tie, same_path-from_equal}
use Rattle.store_model.proofs.TreesLemmasPaths.{last_step}
use Rattle.store_model.proofs.TreesLemmas.{entry_at, all_exist}
use Rattle.path_keys.proofs.InsideBytes.{inside_split}
use Rattle.path_keys.proofs.PathBytes.{bytes_split}
use Rattle.ordered_pairs.specs.PairsState.{PairsState, most_pairs}
use Rattle.tree_pairs.specs.TreeCalls.{HoldsTree}
use Rattle.tree_pairs.proofs.TreeBlocks.{tree_blocks}
use Rattle.dir_tree.specs.ListCalls.{size_at, IsBetween, IsChildFrom, LacksChild, IsFirstChild}
use Rattle.dir_tree.specs.SubtreeCalls.{HasPathBlocks, LacksFrom, IsFirstFrom}
use Rattle.dir_tree.proofs.FilterLemmas.{filter_alike, filter_none, filter_first, length-filter_le}
use Rattle.dir_tree.proofs.OrderLemmas.{same_key, less_keys, at_itself, le_less, less_le, below_from_not_le}
use Rattle.dir_tree.proofs.OrderLemmas.{not_le_from_below, below_and_le, subtree_before, top_is_lowest}
use Rattle.dir_tree.proofs.NextLemmas.{lacks_block, none_before}
use Rattle.dir_tree.proofs.TreeLemmas.{IsOfChild, of_child, IsBelow, first_block_there, child_inside}

-- ---- children

-- whether an entry is a child that stands from a key on
abbrev pub to_come : Path → List ℕ → Path × Entry → Bool
to_come x from e = same_path (parent e.0) x && is_le (key_cmp from (key e.0 0))

-- no child lies below another
same_length : (a b x : Path) → is_root a ≡ false → is_root b ≡ false → parent a ≡ x → parent b ≡ x → length a ≡ length b
same_length a b x ra rb ea eb =
    let sa = last_step a ra in
    let sb = last_step b rb in
    omega (
      arith,
      ap length (sa.1 ∙ ap (λ z. z ++ sa.0 ∷ []) ea),
      ap length
          (sb.1 ∙ ap (λ z. z ++ sb.0 ∷ []) eb),
      length-append x (sa.0 ∷ []),
      length-append x (sb.0 ∷ []),
    )

siblings_apart : (a b x : Path) → is_root a ≡ false → is_root b ≡ false → parent a ≡ x → parent b ≡ x → (a ≡ b → ⊥)
    → is_at_or_inside a b ≡ false
siblings_apart a b x ra rb ea eb apart =
    or_from (same_path a b) (is_inside a b)
    (false_from_ne_true _ (λ e. apart (same_from_test a b e)))
    (false_from_ne_true _ (λ e. let longer = (inside_split a b e).1 in let same = same_length a b x ra rb ea eb
    in absurd (omega arith)))

-- ---- how far a listing has come

pub between_first : (x : Path) (from : List ℕ) → IsBelow x from → IsBetween x from
between_first x from at = record {
  own = at.own;
  whole = λ c y j valid below up l path_y m inside.
      absurd (below_and_le (key c 0) from l (at.below c 0 valid (child_inside c x below up) (omega arith)));
}

-- the key past a child and all below it
pub record IsPast (y : Path) (past : List ℕ) : Type 0 where
  pub above : (q : Path) (block : ℕ) → IsTrue (is_place q) → IsTrue (is_at_or_inside q y)
      → key_cmp (key q block) past ≡ Less
  pub below : (q : Path) (block : ℕ) → IsTrue (is_path q) → is_at_or_inside q y ≡ false → path_cmp y q ≡ Less
      → is_le (key_cmp past (key q block)) ≡ true

pub between_past : (x y : Path) (from past : List ℕ) → IsTrue (is_path y) → is_root y ≡ false → parent y ≡ x
    → IsBetween x from → is_le (key_cmp from (key y 0)) ≡ true → IsPast y past → IsBetween x past
between_past x y from past path root up between behind at = record {
  own = record {
    blocks = λ j l. goes_on (key x j) (between.own.blocks j l);
    attributes = λ a j name fits l. goes_on _ (between.own.attributes a j name fits l);
  };
  whole = λ c z j valid below is l place_z m inside.
      by_order c z j valid below is l place_z m inside (path_cmp c y) refl;
}
  where
    first_before : key_cmp (key y 0) past ≡ Less
    first_before = at.above y 0 (place_of_path y path) (at_itself y)

    goes_on : (q : List ℕ) → key_cmp q from ≡ Less → key_cmp q past ≡ Less
    goes_on q l = nat_list_cmp_total.trans q (key y 0) past (less_le q from (key y 0) l behind) first_before

    by_order : (c z : Path) (j : ℕ) → IsTrue (is_path c) → is_root c ≡ false → parent c ≡ x
        → key_cmp (key c 0) past ≡ Less → IsTrue (is_place z) → j < 4294967296 → is_at_or_inside z c ≡ true
        → (o : Ordering) → path_cmp c y ≡ o → key_cmp (key z j) past ≡ Less
    by_order c z j valid below is l place_z m inside Less e =
        let apart = siblings_apart y c x root below up is
        (λ same. let tie : path_cmp c y ≡ Equal = ap (λ w. path_cmp c w) same ∙ tied_itself path_cmp_total c in cc)
        in
        nat_list_cmp_total.trans (key z j) (key y 0) past
        (subtree_before c z y j 0 valid path inside apart e) first_before
    by_order c z j valid below is l place_z m inside Equal e =
        at.above z j place_z (ap (is_at_or_inside z) (sym (same_from_tie c y e)) ∙ inside)
    by_order c z j valid below is l place_z m inside Greater e =
        let later : path_cmp y c ≡ Less = path_cmp_total.antisymm y c ∙ ap ordering_reverse e in
        let apart = siblings_apart c y x below root is up
        (λ same. let tie : path_cmp c y ≡ Equal = ap (λ w. path_cmp w y) same ∙ tied_itself path_cmp_total y in cc)
        in
        absurd (below_and_le (key c 0) past l (at.below c 0 valid apart later))

-- ---- what a search between children finds

-- a child's path is one
child_path : (t : Tree) (x c : Path) (from : List ℕ) → IsTree t → IsChildFrom from x t c → IsTrue (is_path c)
child_path t x c from h child = ((entry_at t c h child.below_root child.stands).2).path

-- nothing: there is no child
no_child : (t : Tree) (p : Parameters) (x : Path) (from : List ℕ) (s : List Pair) → IsTree t
    → HasPathBlocks (tree_blocks t p) s → LacksFrom from x s → LacksChild from x t
no_child t p x from s h has lacks c child =
    first_block_there t p c h child.below_root child.stands
    (lacks_block from x (tree_blocks t p) s c 0 has.has lacks (place_of_path c (child_path t x c from h child))
    (omega arith) (or_right (same_path c x) (is_inside c x) (child_inside c x child.below_root child.parent_is))
    child.behind)

-- a key: it is the first of a child
first_child : (t : Tree) (p : Parameters) (x : Path) (from k : List ℕ) (s : List Pair) → IsTree t
    → HasPathBlocks (tree_blocks t p) s → IsTrue (is_path x) → is_directory t x ≡ true → IsBetween x from
    → IsFirstFrom from x s k → (c : Path) × IsFirstChild from x t c × (k ≡ key c 0)
first_child t p x from k s h has path directory between first =
    let of = of_child t p x from k s h has path directory between.own first in
    let entry = entry_at t of.child h of.below_root of.stands in
    let is : k ≡ key of.child 0 = at_child of (entry.2).path (key_cmp (key of.child 0) k) refl in
    let child : IsChildFrom from x t of.child = record {
      below_root = of.below_root;
      parent_is = of.parent_is;
      stands = of.stands;
      behind = ap (λ q. is_le (key_cmp from q)) (sym is) ∙ first.behind;
    } in (
      of.child,
      record {
        is_child = child;
        first = λ other another. by_test of.child other is another
            (is_le (key_cmp (key of.child 0) (key other 0))) refl;
      },
      is,
    )
  where
    -- no child's first key stands from the key on and before the one that is found
    none_earlier : (c : Path) → IsChildFrom from x t c → key_cmp (key c 0) k ≡ Less → ⊥
    none_earlier c child less =
        first_block_there t p c h child.below_root child.stands
        (none_before from x (tree_blocks t p) s k c 0 has.has first (place_of_path c (child_path t x c from h child))
        (omega arith) child.behind less)

    -- the key is not in the midst of the child's subtree
    from_child : (of : IsOfChild t p x k) → IsTrue (is_path of.child) → (b : Bool)
        → is_le (key_cmp from (key of.child 0)) ≡ b → is_le (key_cmp from (key of.child 0)) ≡ true
    from_child of valid true e = e
    from_child of valid false e =
        let at = of.at in
        absurd (below_and_le (key at.place at.block) from
        (between.whole of.child at.place at.block valid
        of.below_root of.parent_is (below_from_not_le from (key of.child 0) e) at.valid at.in_range of.within)
        (ap (λ q. is_le (key_cmp from q)) (sym at.key_is) ∙ first.behind))

    at_child : (of : IsOfChild t p x k) → IsTrue (is_path of.child) → (o : Ordering)
        → key_cmp (key of.child 0) k ≡ o → k ≡ key of.child 0
    at_child of valid Less e =
        absurd (none_earlier of.child (record {
          below_root = of.below_root;
          parent_is = of.parent_is;
          stands = of.stands;
          behind = from_child of valid (is_le (key_cmp from (key of.child 0))) refl;
        }) e)
    at_child of valid Equal e = sym (same_key (key of.child 0) k e)
    at_child of valid Greater e =
        let at = of.at in
        absurd (both_ways _ (ap is_le (ap (key_cmp (key of.child 0)) (sym at.key_is) ∙ e))
        (top_is_lowest of.child at.place at.block (place_of_path of.child valid) at.valid at.in_range of.within))

    by_test : (c other : Path) → k ≡ key c 0 → IsChildFrom from x t other → (b : Bool)
        → is_le (key_cmp (key c 0) (key other 0)) ≡ b → is_le (key_cmp (key c 0) (key other 0)) ≡ true
    by_test c other is another true e = e
    by_test c other is another false e =
        absurd (none_earlier other another (ap (key_cmp (key other 0)) is
        ∙ below_from_not_le (key c 0) (key other 0) e))

-- what is read from the key that a search answered
abbrev pub IsRead : List ℕ → Option Path → Type 0
IsRead k child = (c : Path) → IsTrue (is_path c) → is_root c ≡ false → k ≡ key c 0 → child ≡ Some c

pub read_some : (o : Option (Path × ℕ)) (found : Path × ℕ) (c : Path) → o ≡ Some found → o ≡ Some (c, 0)
    → Some found.0 ≡ Some c
read_some o found c is e = let same : found ≡ (c, 0) = cc in ap (λ (q : Path × ℕ). Some q.0) same

pub read_none : (o : Option (Path × ℕ)) (c : Path) → o ≡ None → o ≡ Some (c, 0) → None ≡ Some c
read_none o c is e = cc

pub child_read : (t : Tree) (p : Parameters) (x : Path) (from : List ℕ) (s : List Pair) (found : Option (List ℕ))
    (k : List ℕ) (child : Option Path) → IsTree t → HasPathBlocks (tree_blocks t p) s → IsTrue (is_path x)
    → is_directory t x ≡ true → IsBetween x from
    → MatchOption found (LacksFrom from x s) (IsFirstFrom from x s) → found ≡ Some k → IsRead k child
    → MatchOption child (LacksChild from x t) (IsFirstChild from x t)
child_read t p x from s None k child h has path directory between lacks is read = cc
child_read t p x from s (Some q) k child h has path directory between first is read =
    let same : q ≡ k = cc in
    let of = first_child t p x from k s h has path directory between (subst (IsFirstFrom from x s) same first) in
    subst (λ (o : Option Path). MatchOption o (LacksChild from x t) (IsFirstChild from x t))
    (sym (read of.0 (child_path t x of.0 from h (of.1).is_child) ((of.1).is_child).below_root of.2)) of.1

pub none_read : (t : Tree) (p : Parameters) (x : Path) (from : List ℕ) (s : List Pair) (found : Option (List ℕ))
    → IsTree t → HasPathBlocks (tree_blocks t p) s
    → MatchOption found (LacksFrom from x s) (IsFirstFrom from x s) → found ≡ None → LacksChild from x t
none_read t p x from s None h has lacks is = no_child t p x from s h has lacks
none_read t p x from s (Some q) h has first is = cc

-- ---- the children that are still to come

rest_first : (t : Tree) (x : Path) (from : List ℕ) → IsTree t → IsBelow x from
    → filter (to_come x from) t ≡ children t x
unfolding children
rest_first t x from h at =
    filter_alike (to_come x from) (λ e. same_path (parent e.0) x) t
    (all_weaker (IsEntry t) _ (λ e of. by_test e of (same_path (parent e.0) x) refl) t h.entries)
  where
    by_test : (e : Path × Entry) → IsEntry t e → (b : Bool) → same_path (parent e.0) x ≡ b
        → (b && is_le (key_cmp from (key e.0 0))) ≡ b
    by_test e of true same =
        at.below e.0 0 of.path (child_inside e.0 x of.below_root (same_from_test (parent e.0) x same)) (omega arith)
    by_test e of false same = refl

-- an entry that is still to come is a child from there on
child_to_come : (t : Tree) (x : Path) (from : List ℕ) (e : Path × Entry) → IsEntry t e → exists t e.0 ≡ true
    → to_come x from e ≡ true → IsChildFrom from x t e.0
child_to_come t x from e of is comes =
    let parts = and_parts (same_path (parent e.0) x) (is_le (key_cmp from (key e.0 0))) comes in
    record {
      below_root = of.below_root;
      parent_is = same_from_test (parent e.0) x parts.0;
      stands = is;
      behind = parts.1;
    }

rest_past : (t : Tree) (x y : Path) (n : Entry) (from past : List ℕ) → IsTree t → IsTrue (is_path y)
    → find path_cmp y t ≡ Some n → IsFirstChild from x t y → IsPast y past
    → filter (to_come x from) t ≡ (y, n) ∷ filter (to_come x past) t
rest_past t x y n from past h path found first at =
    filter_first path_cmp same_from_tie (to_come x from) (to_come x past) y n t
    (rising_from_is_sorted path_cmp t h.sorted) found
    (and_from _ _ (same_path-from_equal (parent y) x first.is_child.parent_is) first.is_child.behind)
    (and_right _ _ (not_le_from_below past (key y 0) first_before))
    (all_with (IsEntry t) (λ e. exists t e.0 ≡ true) _ before t h.entries (all_exist t))
    (all_weaker (IsEntry t) _ (λ e of l. behind e of l (same_path (parent e.0) x) refl) t h.entries)
  where
    first_before : key_cmp (key y 0) past ≡ Less
    first_before = at.above y 0 (place_of_path y path) (at_itself y)

    before : (e : Path × Entry) → IsEntry t e → exists t e.0 ≡ true → path_cmp e.0 y ≡ Less
        → (to_come x from e ≡ false) × (to_come x past e ≡ false)
    before e of is l =
        let less = less_keys e.0 y 0 0 (place_of_path e.0 of.path) (place_of_path y path) (omega arith) (omega arith) l
        in (
          false_from_ne_true _ (λ comes. below_and_le (key e.0 0) (key y 0) less
              (first.first e.0 (child_to_come t x from e of is comes))),
          and_right _ _ (not_le_from_below past (key e.0 0)
              (nat_list_cmp_total.trans (key e.0 0) (key y 0) past less first_before)),
        )

    behind : (e : Path × Entry) → IsEntry t e → path_cmp y e.0 ≡ Less → (b : Bool) → same_path (parent e.0) x ≡ b
        → (b && is_le (key_cmp from (key e.0 0))) ≡ (b && is_le (key_cmp past (key e.0 0)))
    behind e of l true same =
        let apart = siblings_apart e.0 y x of.below_root first.is_child.below_root (same_from_test (parent e.0) x same)
        first.is_child.parent_is (λ is. let tie : path_cmp y e.0 ≡ Equal =
        ap (path_cmp y) is ∙ tied_itself path_cmp_total y in cc) in
        ap is_le (le_less from (key y 0) (key e.0 0)
        first.is_child.behind (less_keys y e.0 0 0 (place_of_path y path) (place_of_path e.0 of.path) (omega arith)
        (omega arith) l)) ∙ sym (at.below e.0 0 of.path apart l)
    behind e of l false same = refl

-- nothing is left
rest_none : (t : Tree) (x : Path) (from : List ℕ) → IsTree t → LacksChild from x t → filter (to_come x from) t ≡ []
rest_none t x from h lacks =
    filter_none (to_come x from) t (all_with (IsEntry t) (λ e. exists t e.0 ≡ true) (λ e. to_come x from e ≡ false)
    (λ e of is. false_from_ne_true _ (λ comes. lacks e.0 (child_to_come t x from e of is comes))) t
    h.entries (all_exist t))

-- ---- the entries that are listed

-- after so many turns: what is listed, and the children that are still to come
pub record IsPartListed (t : Tree) (x : Path) (from : List ℕ) (turns : ℕ) (entries : List Child) : Type 0 where
  pub between : IsBetween x from
  pub listed : entries ++ map child_of (filter (to_come x from) t) ≡ map child_of (children t x)
  pub counted : turns ≡ length entries

pub none_listed : (t : Tree) (x : Path) (from : List ℕ) → IsTree t → IsBelow x from → IsPartListed t x from 0 []
none_listed t x from h at = record {
  between = between_first x from at;
  listed = ap (map child_of) (rest_first t x from h at);
  counted = refl;
}

child_is : (y : Path) (n : Node) (attributes : Attributes) (o : Option Node) → o ≡ Some n
    → child_of (y, record { node = n; attributes = attributes }) ≡ (last_name y, size_at o)
unfolding child_of
child_is y Directory attributes o e = ap (λ z. (last_name y, size_at z)) (sym e)
child_is y (File bytes) attributes o e = ap (λ z. (last_name y, size_at z)) (sym e)

one_more_listed : (t : Tree) (x y : Path) (turns : ℕ) (from past : List ℕ) (entries after : List Child) (name : List ℕ)
    (size : Option ℕ) → IsTree t → IsPartListed t x from turns entries
    → IsFirstChild from x t y → IsPast y past → name ≡ last_name y → size ≡ size_at (node_at t y)
    → after ≡ entries ++ (name, size) ∷ [] → IsPartListed t x past (turns + 1) after
one_more_listed t x y turns from past entries after name size h part first at name_is size_is added =
    let below = first.is_child.below_root in
    let entry = entry_at t y h below first.is_child.stands in
    let path = (entry.2).path in
    let rest = rest_past t x y entry.0 from past h path entry.3 first at in
    let is : child_of (y, entry.0) ≡ (name, size) = child_is y entry.0.node entry.0.attributes (node_at t y) entry.1
    ∙ ap₂ (λ (a : List ℕ) (b : Option ℕ). (a, b)) (sym name_is) (sym size_is) in
    let count = part.counted in
    record {
      between = between_past x y from past path below first.is_child.parent_is part.between first.is_child.behind at;
      listed =
          ap (λ l. l ++ map child_of (filter (to_come x past) t)) added
          ∙ append_assoc entries ((name, size) ∷ []) (map child_of (filter (to_come x past) t))
          ∙ ap (λ z. entries ++ (z ∷ map child_of (filter (to_come x past) t))) (sym is)
          ∙ ap (λ l. entries ++ map child_of l) (sym rest) ∙ part.listed;
      counted = omega (arith, ap length added, length-append entries ((name, size) ∷ []));
    }

all_listed : (t : Tree) (x : Path) (from : List ℕ) (turns : ℕ) (entries : List Child) → IsTree t
    → IsPartListed t x from turns entries → LacksChild from x t → entries ≡ map child_of (children t x)
all_listed t x from turns entries h part lacks =
    sym (append-nil entries) ∙ ap (λ l. entries ++ map child_of l) (sym (rest_none t x from h lacks)) ∙ part.listed

-- there are no more turns than pairs
length-file_pairs_ge : (inline : Bool) (x : Path) (bytes : List ℕ) → 1 ≤ length (file_pairs inline x bytes)
length-file_pairs_ge true x bytes = omega arith
length-file_pairs_ge false x bytes = omega arith

length-node_pairs_ge : (x : Path) (n : Node) (p : Parameters) → 1 ≤ length (node_pairs x n p)
unfolding node_pairs
length-node_pairs_ge x Directory p = omega arith
length-node_pairs_ge x (File bytes) p = length-file_pairs_ge (is_inline p.version (length bytes)) x bytes

length-pairs_ge : (t : Tree) (p : Parameters) → length t ≤ length (pairs t p)
unfolding pairs
length-pairs_ge [] p = omega arith
length-pairs_ge (e ∷ t) p =
    let rest = length-pairs_ge t p in
    let some = length-node_pairs_ge e.0 e.1.node p in
    omega (
      arith,
      length-append (entry_pairs e.0 e.1 p) (pairs t p),
      length-append (node_pairs e.0 e.1.node p)
          (attribute_pairs e.0 e.1.attributes),
    )

pub few_listed : (state : PairsState) (t : Tree) (p : Parameters) (x : Path) (from : List ℕ) (turns : ℕ)
    (entries : List Child) → HoldsTree state t p → length state.pairs ≤ most_pairs
    → IsPartListed t x from turns entries → turns ≤ most_pairs
unfolding children
few_listed state t p x from turns entries holds few part =
    let all = length-pairs_ge t p in
    let some = length-filter_le (λ e. same_path (parent e.0) x) t in
    omega (
      arith,
      part.counted,
      ap length part.listed,
      ap length holds.pairs_are,
      length-append entries
          (map child_of (filter (to_come x from) t)),
      length-map (children t x) child_of,
    )

-- ---- the same, by what a search answered

pub next_listed : (t : Tree) (x : Path) (turns : ℕ) (from past : List ℕ) (entries after : List Child) (name : List ℕ)
    (size : Option ℕ) (found : Option Path) (y : Path) → IsTree t → IsPartListed t x from turns entries
    → found ≡ Some y → MatchOption found (LacksChild from x t) (IsFirstChild from x t) → IsPast y past
    → name ≡ last_name y → size ≡ size_at (node_at t y) → after ≡ entries ++ (name, size) ∷ []
    → IsPartListed t x past (turns + 1) after
next_listed t x turns from past entries after name size None y h part is first at name_is size_is added = cc
next_listed t x turns from past entries after name size (Some z) y h part is first at name_is size_is added =
    let same : z ≡ y = cc in
    one_more_listed t x y turns from past entries after name size h part
    (subst (IsFirstChild from x t) same first) at name_is size_is added

pub none_listed_more : (t : Tree) (x : Path) (turns : ℕ) (from : List ℕ) (entries : List Child) (found : Option Path)
    → IsTree t → IsPartListed t x from turns entries
    → ((y : Path) → found ≡ Some y → ⊥) → MatchOption found (LacksChild from x t) (IsFirstChild from x t)
    → entries ≡ map child_of (children t x)
none_listed_more t x turns from entries None h part none lacks = all_listed t x from turns entries h part lacks
none_listed_more t x turns from entries (Some y) h part none first = absurd (none y refl)

-- a name has fewer bytes than its path's field
pub short_name : (x : Path) → IsTrue (is_path x) → is_root x ≡ false → length (last_name x) ≤ 120
short_name x path below =
    let fits : field_len x ≤ 120 = leb-true (field_len x) 120 (second_true (list_all is_name x) (fits_field x) path) in
    omega (
      arith,
      ap length (bytes_split x below),
      length-append (name_bytes (parent x))
          (last_name x ++ 0 ∷ []),
      length-append (last_name x) (0 ∷ []),
    )
