-- Lemmas on attributes: what a set and an unset make of a list of pairs, and what is found of a path's attributes.
use Rattle.std.proofs.Common.{◌≡◌, ℕ, zero, suc, ◌+◌, ◌<◌, ◌≤◌, List, [], ◌∷◌, ◌++◌, map, length, Bool, true, false}
use Rattle.std.proofs.Common.{not, cond, IsTrue, Option, Some, None, is_some, Result, Ok, Err, refl, sym, ap, ap₂}
use Rattle.std.proofs.Common.{subst, ◌∙◌, ◌⊎◌, inl, inr, arith, nat_cmp, leb-true, nat_le, Ordering, Less, Equal}
use Rattle.std.proofs.Common.{Greater}
use Rattle.std.specs.Prelude.{IsSome, IsNone, IfSome, MatchOption, ◌↔◌}
use Rattle.std.specs.Option.{option_map}
use Rattle.std.specs.List.{AllByRecursion, filter, list_all}
use Rattle.std.specs.Ordering.{is_le, eq_by_cmp, ordering_then, ordering_reverse}
use Rattle.std.specs.Cmp.{tied_itself}
use Rattle.std.specs.Cmp.Lexicographic.{nat_list_cmp_total}
use Rattle.std.specs.FinMap.{find, put, is_sorted}
use Rattle.std.proofs.lemmas.Bool.{both_ways, not-false, false_from_ne_true}
use Rattle.std.proofs.lemmas.List.{append_assoc, append-nil, length-append, length-map}
use Rattle.store_model.specs.declared.refusal.Refusal.{Refusal}
use Rattle.store_model.specs.declared.refusal.Refusal.TheVariants as refusals
use Rattle.store_model.specs.Lists.{IsBytes}
use Rattle.store_model.specs.Parameters.{Parameters}
use Rattle.store_model.specs.Paths.{Path, Name, is_root, is_name, is_path, is_place, is_attribute_name, fits_field}
use Rattle.store_model.specs.Paths.{fits_attribute, attribute_mark, attribute_place, attribute_key, name_cmp, path_cmp}
use Rattle.store_model.specs.Paths.{same_path, key, key_cmp}
use Rattle.store_model.specs.Pairs.{Pair, attribute_value, attribute_pairs, node_pairs, entry_pairs, pairs}
use Rattle.store_model.specs.Trees.{Tree, Entry, IsTree, IsEntry, IsAttribute, AreAttributes, exists, attributes_of}
use Rattle.store_model.specs.Trees.{attributes_at, attribute_at}
use Rattle.store_model.specs.Commands.{AttributeSize, Command, Reply}
use Rattle.store_model.specs.Commands.Command.{SetAttribute, UnsetAttribute, GetAttribute, ListAttributes}
use Rattle.store_model.specs.Steps.{Condition, first_refusal, conditions, refusal_of, next_tree, size_of_attribute}
use Rattle.store_model.proofs.ListsLemmas.{first_true, second_true, all_with, all_weaker, nat_cmp-lt, nat_cmp-gt}
use Rattle.store_model.proofs.ListsLemmas.{rising_from_is_sorted}
use Rattle.store_model.proofs.PairsLemmas.{is_sorted-pairs}
use Rattle.store_model.proofs.PathsLemmas.{place_of_path, place_of_attribute, order_of_keys}
use Rattle.store_model.proofs.PathsLemmasPlaces.{name_cmp_total, same_name_from_tie, below_longer, attribute_before}
use Rattle.store_model.proofs.PathsLemmasPlaces.{attribute_before_attribute, order_of_attributes, same_attribute_place}
use Rattle.store_model.proofs.TreesLemmasPaths.{path_cmp_total, same_from_tie}
use Rattle.store_model.proofs.TreesLemmas.{find_from_all, AreAttributes-attributes_at}
use Rattle.store_model.proofs.TreesLemmasSteps.{all_fail, IsTree-next_tree}
use Rattle.ordered_pairs.specs.PairsState.{PairsState, IsObservable, without, next_pair, most_pairs}
use Rattle.tree_pairs.specs.Blocks.{HasBlocks}
use Rattle.tree_pairs.specs.TreeCalls.{HoldsTree, CarriesOut}
use Rattle.tree_pairs.proofs.TreeBlocks.{tree_blocks}
use Rattle.tree_pairs.proofs.BlocksLemmas.{pairs_have_blocks}
use Rattle.tree_pairs.proofs.CallLemmas.{step_refused}
use Rattle.tree_pairs.proofs.NextLemmas.{IsNextFrom, next_some, next_none}
use Rattle.tree_pairs.proofs.AttributeLemmas.{find_attribute, unfit_attribute, attribute_found, pairs-with_attribute}
use Rattle.tree_pairs.proofs.AttributeLemmas.{pairs-without_attribute}
use Rattle.dir_tree.specs.declared.attributes.Found.{Found}
use Rattle.dir_tree.specs.AttributeCalls.{set_conditions, IsSetPairOf, IsSetPair, IsReadOf, IsReadAttribute}
use Rattle.dir_tree.specs.AttributeCalls.{LacksAttribute, IsFirstAttribute}
use Rattle.dir_tree.specs.RefusalCalls.{TellsRefusal}
use Rattle.dir_tree.proofs.FilterLemmas.{filter_all, filter_none, filter_first, found_itself}
use Rattle.dir_tree.proofs.OrderLemmas.{same_key, same_place, less_keys, le_less, le_le, le_from_less, le_itself}
use Rattle.dir_tree.proofs.OrderLemmas.{below_from_not_le, not_le_from_below, below_and_le, reversed}
use Rattle.dir_tree.proofs.NextLemmas.{IsBlockAt, block_at, some_is}
use Rattle.dir_tree.proofs.RefusalLemmas.{none_found}
use Rattle.dir_tree.proofs.OwnerLemmas.{IsAttributeAt, IsOwned, no_block, owner_of, lower_number}

-- ---- refusals

-- two conditions that do not hold leave what stands behind them
front_passes : (a b : Bool) (r s : Refusal) (cs : List Condition) → first_refusal ((a, r) ∷ (b, s) ∷ []) ≡ None
    → first_refusal ((a, r) ∷ (b, s) ∷ cs) ≡ first_refusal cs
unfolding first_refusal
front_passes true b r s cs e = cc
front_passes false true r s cs e = cc
front_passes false false r s cs e = refl

-- and of two that do the first decides
front_refuses : (a b : Bool) (r s : Refusal) (cs : List Condition) (refusal : Refusal)
    → first_refusal ((a, r) ∷ (b, s) ∷ []) ≡ Some refusal → first_refusal ((a, r) ∷ (b, s) ∷ cs) ≡ Some refusal
unfolding first_refusal
front_refuses true b r s cs refusal e = e
front_refuses false true r s cs refusal e = e
front_refuses false false r s cs refusal e = cc

-- whether the path has the attribute is the last condition
last_condition : (b : Bool) → first_refusal ((b, refusals.NoAttr) ∷ []) ≡ cond b (Some refusals.NoAttr) None
unfolding first_refusal
last_condition true = refl
last_condition false = refl

module _ (t : Tree) (x : Path) where
  pub set_refused : (a : Name) (bytes : List ℕ) (refusal : Refusal) → refusal_of t (ListAttributes x) ≡ Some refusal
      → refusal_of t (SetAttribute x a bytes) ≡ Some refusal
  unfolding conditions
  set_refused a bytes refusal e = front_refuses (is_root x)
      (not (exists t x)) refusals.Root refusals.Missing (set_conditions x a bytes) refusal e

  pub set_decided : (a : Name) (bytes : List ℕ) → refusal_of t (ListAttributes x) ≡ None
      → refusal_of t (SetAttribute x a bytes) ≡ first_refusal (set_conditions x a bytes)
  unfolding conditions
  set_decided a bytes e = front_passes (is_root x)
      (not (exists t x)) refusals.Root refusals.Missing (set_conditions x a bytes) e

  pub unset_refused : (a : Name) (refusal : Refusal) → refusal_of t (ListAttributes x) ≡ Some refusal
      → refusal_of t (UnsetAttribute x a) ≡ Some refusal
  unfolding conditions
  unset_refused a refusal e = front_refuses (is_root x)
      (not (exists t x)) refusals.Root refusals.Missing ((not (is_some (attribute_at t x a)), refusals.NoAttr) ∷ [])
      refusal e

  unset_decided : (a : Name) → refusal_of t (ListAttributes x) ≡ None
      → refusal_of t (UnsetAttribute x a) ≡ cond (not (is_some (attribute_at t x a))) (Some refusals.NoAttr) None
  unfolding conditions
  unset_decided a e = front_passes (is_root x) (not (exists t x))
      refusals.Root refusals.Missing ((not (is_some (attribute_at t x a)), refusals.NoAttr) ∷ []) e
      ∙ last_condition (not (is_some (attribute_at t x a)))

  pub unset_of_none : (a : Name) → refusal_of t (ListAttributes x) ≡ None → attribute_at t x a ≡ None
      → refusal_of t (UnsetAttribute x a) ≡ Some refusals.NoAttr
  unset_of_none a e none = unset_decided a e ∙ ap (λ o. cond (not (is_some o)) (Some refusals.NoAttr) None) none

  pub unset_of_one : (a : Name) (bytes : List ℕ) → refusal_of t (ListAttributes x) ≡ None
      → attribute_at t x a ≡ Some bytes → refusal_of t (UnsetAttribute x a) ≡ None
  unset_of_one a bytes e some = unset_decided a e ∙ ap (λ o. cond (not (is_some o)) (Some refusals.NoAttr) None) some

  -- a question for an attribute is refused as an unset
  pub get_is_unset : (a : Name) → refusal_of t (GetAttribute x a) ≡ refusal_of t (UnsetAttribute x a)
  unfolding conditions
  get_is_unset a = refl

  -- where attributes are looked for, something stands there, and it is not the root
  pub found_path : refusal_of t (ListAttributes x) ≡ None → (is_root x ≡ false) × (exists t x ≡ true)
  unfolding conditions
  found_path none = let fails = all_fail (conditions t (ListAttributes x)) none
      in (fails.0, not-false (exists t x) fails.1.0)

-- ---- what a set and an unset make of the pairs

pub set_done : (t : Tree) (p : Parameters) (x : Path) (a : Name) (bytes : List ℕ) (s : List Pair) → IsTree t
    → IsTrue (is_path x) → IsTrue (is_attribute_name a) → IsTrue (fits_attribute x a) → IsBytes bytes
    → refusal_of t (ListAttributes x) ≡ None → refusal_of t (SetAttribute x a bytes) ≡ None
    → s ≡ pairs t p → put key_cmp (attribute_key x a) (attribute_value bytes) s
    ≡ pairs (next_tree t (SetAttribute x a bytes)) p
unfolding next_tree
set_done t p x a bytes s h path named fits are front none is =
    let stands = found_path t x front in
    ap (put key_cmp (attribute_key x a) (attribute_value bytes)) is
    ∙ pairs-with_attribute t p x a bytes h stands.0 stands.1 named fits
    (IsTree-next_tree t (SetAttribute x a bytes) h (path, named, are) none)

pub unset_done : (t : Tree) (p : Parameters) (x : Path) (a : Name) (s : List Pair) → IsTree t → IsTrue (is_path x)
    → IsTrue (is_attribute_name a) → IsTrue (fits_attribute x a) → refusal_of t (ListAttributes x) ≡ None
    → refusal_of t (UnsetAttribute x a) ≡ None
    → s ≡ pairs t p → without (attribute_key x a) s ≡ pairs (next_tree t (UnsetAttribute x a)) p
unfolding next_tree
unset_done t p x a s h path named fits front none is =
    let stands = found_path t x front in
    ap (without (attribute_key x a)) is ∙ pairs-without_attribute t p x a h stands.0 stands.1 named fits
    (IsTree-next_tree t (UnsetAttribute x a) h (path, named) none)

-- a key that a list lacks is taken from it without a change
pub without_none : (k : List ℕ) (s : List Pair) → find key_cmp k s ≡ None → without k s ≡ s
without_none k [] e = refl
without_none k (f ∷ s) e =
    (elim (eq_by_cmp key_cmp k f.0) as (λ b. cond b (Some f.1) (find key_cmp k s) ≡ None
    → cond (not b) (f ∷ without k s) (without k s) ≡ f ∷ s) [
      | true ↦ λ e. cc
      | false ↦ λ e. ap (λ rest. f ∷ rest) (without_none k s e)
    ]) e

-- ---- what is found under an attribute's key

-- a value is an attribute's
value_is : (o : Option (List ℕ)) (v : List ℕ) → Some v ≡ option_map attribute_value o
    → (bytes : List ℕ) × (o ≡ Some bytes) × (v ≡ attribute_value bytes)
value_is None v e = cc
value_is (Some bytes) v e = (bytes, refl, cc)

none_mapped : (o : Option (List ℕ)) → None ≡ option_map attribute_value o → o ≡ None
none_mapped None e = refl
none_mapped (Some bytes) e = cc

module _ (t : Tree) (p : Parameters) (x : Path) (a : Name) (s : List Pair) (h : IsTree t) (path : IsTrue (is_path x))
    (named : IsTrue (is_attribute_name a)) (is : s ≡ pairs t p) where
  pub attribute_value_is : (v : List ℕ) → IsTrue (fits_attribute x a) → find key_cmp (attribute_key x a) s ≡ Some v
      → (bytes : List ℕ) × (attribute_at t x a ≡ Some bytes) × (v ≡ attribute_value bytes)
  attribute_value_is v fits found =
      value_is (attribute_at t x a) v (sym found ∙ ap (find key_cmp (attribute_key x a)) is
      ∙ find_attribute t p x a h path named fits)

  pub attribute_missing : IsTrue (fits_attribute x a) → find key_cmp (attribute_key x a) s ≡ None
      → attribute_at t x a ≡ None
  attribute_missing fits found = none_mapped (attribute_at t x a)
      (sym found ∙ ap (find key_cmp (attribute_key x a)) is ∙ find_attribute t p x a h path named fits)

  -- an attribute that is there has its pair
  pub attribute_there : IsSome (attribute_at t x a) → find key_cmp (attribute_key x a) s ≡ None → ⊥
  attribute_there there none = by_fit (fits_attribute x a) refl
    where
      by_fit : (b : Bool) → fits_attribute x a ≡ b → ⊥
      by_fit true e = no_block (attribute_at t x a) there (attribute_missing e none)
      by_fit false e = no_block (attribute_at t x a) there (unfit_attribute t x a h e)

-- ---- the first attribute from a key on

-- an attribute of a tree
there_is : (o : Option (List ℕ)) → IsSome o → (bytes : List ℕ) × (o ≡ Some bytes)
there_is None h = cc
there_is (Some bytes) h = (bytes, refl)

is_attribute : (t : Tree) (x : Path) (a : Name) → IsTree t → IsSome (attribute_at t x a)
    → (bytes : List ℕ) × IsAttribute x (a, bytes)
is_attribute t x a h there = let some = there_is (attribute_at t x a) there
    in (some.0, attribute_found t x a some.0 h some.1)

-- the entry of a path that has one
entry_of : (t : Tree) (x : Path) (a : Name) → IsTree t → IsSome (attribute_at t x a) → is_root x ≡ false
entry_of t x a h there = by_found (find path_cmp x t) refl
  where
    by_found : (o : Option Entry) → find path_cmp x t ≡ o → is_root x ≡ false
    by_found None e = absurd (no_block (attribute_at t x a) there (ap (λ o. find name_cmp a (attributes_of o)) e))
    by_found (Some entry) e = (find_from_all (IsEntry t) x entry t h.entries e).below_root

names_of : (x : Path) → IsTrue (is_path x) → IsTrue (list_all is_name x)
names_of x h = first_true (list_all is_name x) (fits_field x) h

-- nothing stands before itself
not_both : (y z : Path) → path_cmp y z ≡ Less → path_cmp z y ≡ Less → ⊥
not_both y z l g = let less : path_cmp y y ≡ Less = path_cmp_total.trans y z y l g
    in let tied = tied_itself path_cmp_total y in cc

-- what stands behind a path's own blocks and before one of its attributes is another attribute of it
module _ (t : Tree) (p : Parameters) (x : Path) (a : Name) (y : Path) (i : ℕ) (h : IsTree t) (path : IsTrue (is_path x))
    (named : IsTrue (is_attribute_name a)) (fits : IsTrue (fits_attribute x a)) (valid : IsTrue (is_place y))
    (l : i < 4294967296) (there : IsSome (tree_blocks t p y i)) where
  behind_path : is_le (key_cmp (key x 4294967295) (key y i)) ≡ true → (o : Ordering)
      → path_cmp x y ≡ o → path_cmp x y ≡ Less
  behind_path low Less e = e
  behind_path low Equal e =
      let lower = lower_number t p y i h l there in
      absurd (both_ways _
      (ap is_le (order_of_keys x y 4294967295 i (place_of_path x path) valid (omega arith) l
      ∙ ap (λ o. ordering_then o (nat_cmp 4294967295 i)) e ∙ nat_cmp-gt 4294967295 i lower)) low)
  behind_path low Greater e =
      absurd (both_ways _
      (ap is_le (order_of_keys x y 4294967295 i (place_of_path x path) valid (omega arith) l
      ∙ ap (λ o. ordering_then o (nat_cmp 4294967295 i)) e)) low)

  before_attribute : key_cmp (key y i) (attribute_key x a) ≡ Less → path_cmp y (attribute_place x a) ≡ Less
  before_attribute less = by_parts (path_cmp y (attribute_place x a)) (nat_cmp i 0) refl refl
      (sym (order_of_keys y (attribute_place x a) i 0 valid (place_of_attribute x a path named fits) l (omega arith))
      ∙ less)
    where
      not_below_zero : (j : ℕ) → nat_cmp j 0 ≡ Less → ⊥
      not_below_zero zero e = cc
      not_below_zero (suc j) e = let more : nat_cmp (suc j) 0 ≡ Greater = nat_cmp-gt (suc j) 0 (omega arith) in cc

      by_parts : (o r : Ordering) → path_cmp y (attribute_place x a) ≡ o → nat_cmp i 0 ≡ r → ordering_then o r ≡ Less
          → path_cmp y (attribute_place x a) ≡ Less
      by_parts Less r f g e = f
      by_parts Equal r f g e = absurd (not_below_zero i (g ∙ e))
      by_parts Greater r f g e = cc

  between_attributes : is_le (key_cmp (key x 4294967295) (key y i)) ≡ true
      → key_cmp (key y i) (attribute_key x a) ≡ Less
      → (b : Name) × IsTrue (is_attribute_name b) × IsTrue (fits_attribute x b) × (key y i ≡ attribute_key x b)
  between_attributes low less = by_form own.of
    where
      own : IsOwned t y i
      own = owner_of t p y i h there

      behind : path_cmp x y ≡ Less
      behind = behind_path low (path_cmp x y) refl

      before : path_cmp y (attribute_place x a) ≡ Less
      before = before_attribute less

      by_order : (at : IsAttributeAt t own.owner y i) (o : Ordering) → path_cmp x own.owner ≡ o
          → (b : Name) × IsTrue (is_attribute_name b) × IsTrue (fits_attribute x b) × (key y i ≡ attribute_key x b)
      by_order at Less e =
          absurd (not_both y (attribute_place x a) before
          (ap (path_cmp (attribute_place x a)) at.place_is
          ∙ attribute_before_attribute x own.owner a at.name (names_of own.owner own.is.path) e))
      by_order at Equal e =
          let same : x ≡ own.owner = same_from_tie x own.owner e in (
            at.name,
            at.named,
            subst (λ (z : Path). IsTrue (fits_attribute z at.name)) (sym same) at.fits,
            ap₂ key
                (at.place_is ∙ ap (λ z. attribute_place z at.name) (sym same)) at.first,
          )
      by_order at Greater e =
          absurd (not_both x y behind (ap (λ z. path_cmp z x) at.place_is
          ∙ attribute_before own.owner x at.name (names_of x path)
          (path_cmp_total.antisymm own.owner x ∙ ap ordering_reverse e)))

      by_form : (y ≡ own.owner) ⊎ IsAttributeAt t own.owner y i
          → (b : Name) × IsTrue (is_attribute_name b) × IsTrue (fits_attribute x b) × (key y i ≡ attribute_key x b)
      by_form (inl e) =
          absurd (not_both y (attribute_place x a) before
          (attribute_before x y a (ap (λ z. list_all is_name z) e ∙ names_of own.owner own.is.path) behind))
      by_form (inr at) = by_order at (path_cmp x own.owner) refl

module _ (t : Tree) (p : Parameters) (x : Path) (from : List ℕ) (s : List Pair) (h : IsTree t) (is : s ≡ pairs t p)
    (path : IsTrue (is_path x)) (low : is_le (key_cmp (key x 4294967295) from) ≡ true) where
  attribute_in_list : (a : Name) → IsSome (attribute_at t x a) → find key_cmp (attribute_key x a) s ≡ None → ⊥
  attribute_in_list a there none = attribute_there t p x a s h path ((is_attribute t x a h there).1).name is there none

  -- no key is found
  pub no_key_found : (found : Option Pair) → found ≡ next_pair from s → found ≡ None → LacksAttribute from x t
  no_key_found found next none a there behind =
      attribute_in_list a there (next_none from s (sym next ∙ none) (attribute_key x a) behind)

  module _ (found : Option Pair) (e : Pair) (next : found ≡ next_pair from s) (some : found ≡ Some e) where
    is_next : IsNextFrom from s e
    is_next = next_some from s e
        (rising_from_is_sorted key_cmp s
        (subst (λ (r : List Pair). IsTrue (is_sorted key_cmp r)) (sym is) (is_sorted-pairs t p h))) (sym next ∙ some)

    -- the key of another pair is found
    other_found : IsReadAttribute x e None → LacksAttribute from x t
    other_found read a there behind = by_order (key_cmp e.0 (attribute_key x a)) refl
      where
        at_key : IsBlockAt (tree_blocks t p) e.0
        at_key = block_at (tree_blocks t p) s
            e.0 (subst (HasBlocks (tree_blocks t p)) (sym is) (pairs_have_blocks t p h))
            (some_is (find key_cmp e.0 s) e.1 is_next.found)

        below : is_root x ≡ false
        below = entry_of t x a h there

        by_order : (o : Ordering) → key_cmp e.0 (attribute_key x a) ≡ o → ⊥
        by_order Less less =
            let attribute = (is_attribute t x a h there).1 in
            let other = between_attributes t p x a at_key.place at_key.block h path
            attribute.name attribute.fits at_key.valid at_key.in_range at_key.there
            (ap (λ q. is_le (key_cmp (key x 4294967295) q)) (sym at_key.key_is)
            ∙ le_le (key x 4294967295) from e.0 low is_next.not_below)
            (ap (λ q. key_cmp q (attribute_key x a)) (sym at_key.key_is) ∙ less) in
            read other.0 path below other.1 other.2 (at_key.key_is ∙ other.3)
        by_order Equal same = let attribute = (is_attribute t x a h there).1
            in read a path below attribute.name attribute.fits (same_key e.0 (attribute_key x a) same)
        by_order Greater later = attribute_in_list a there
            (is_next.none_between (attribute_key x a) behind (reversed e.0 (attribute_key x a) Greater later))

    -- the key of an attribute of the path is found
    attribute_is_first : (found : Found) → IsReadOf x e found → IsFirstAttribute from x t found
    attribute_is_first found read =
        let there = attribute_value_is t p x found.name s h path read.named is
        e.1 read.fits (ap (λ q. find key_cmp q s) (sym read.place_is) ∙ is_next.found) in
        record {
          bytes = there.0;
          there = there.1;
          size = read.size there.0 (attribute_found t x found.name there.0 h there.1).short there.2;
          key_is = read.key_is ∙ read.place_is;
          behind = ap (λ q. is_le (key_cmp from q)) (sym read.place_is) ∙ is_next.not_below;
          first = λ a some behind. by_test a some behind
              (is_le (key_cmp (attribute_key x found.name) (attribute_key x a))) refl;
        }
      where
        by_test : (a : Name) → IsSome (attribute_at t x a) → is_le (key_cmp from (attribute_key x a)) ≡ true
            → (b : Bool) → is_le (key_cmp (attribute_key x found.name) (attribute_key x a)) ≡ b
            → is_le (key_cmp (attribute_key x found.name) (attribute_key x a)) ≡ true
        by_test a some behind true f = f
        by_test a some behind false f =
            absurd (attribute_in_list a some
            (is_next.none_between (attribute_key x a) behind
            (ap (key_cmp (attribute_key x a)) read.place_is
            ∙ below_from_not_le (attribute_key x found.name) (attribute_key x a) f)))

    -- by what is read of the pair
    pub some_found : (o : Option Found) → IsReadAttribute x e o
        → MatchOption o (LacksAttribute from x t) (IsFirstAttribute from x t)
    some_found None read = other_found read
    some_found (Some found) read = attribute_is_first found read

-- ---- the attributes that are listed

-- the last key of the place at which a key stands
abbrev pub IsLastAt : List ℕ → List ℕ → Type 0
IsLastAt k last = (place : Path) (block : ℕ) → IsTrue (is_place place) → block < 4294967296 → k ≡ key place block
    → last ≡ key place 4294967295

-- whether an attribute stands from a key on
abbrev pub to_come : Path → List ℕ → Name × List ℕ → Bool
to_come x from a = is_le (key_cmp from (attribute_key x a.0))

-- after so many turns: what is listed, and the attributes that are still to come
pub record IsPartListed (t : Tree) (x : Path) (from : List ℕ) (turns : ℕ) (entries : List AttributeSize) : Type 0 where
  pub low : is_le (key_cmp (key x 4294967295) from) ≡ true
  pub listed : entries ++ map size_of_attribute (filter (to_come x from) (attributes_at t x))
      ≡ map size_of_attribute (attributes_at t x)
  pub counted : turns ≡ length entries

-- an attribute of the path, by its entry
place_of : (x : Path) (a : Name × List ℕ) → IsTrue (is_path x) → IsAttribute x a
    → IsTrue (is_place (attribute_place x a.0))
place_of x a path is = place_of_attribute x a.0 path is.name is.fits

pub none_listed : (t : Tree) (x : Path) (from : List ℕ) → IsTree t → IsTrue (is_path x) → from ≡ key x 4294967295
    → IsPartListed t x from 0 []
none_listed t x from h path from_is = record {
  low = ap (λ q. is_le (key_cmp (key x 4294967295) q)) from_is ∙ le_itself (key x 4294967295);
  listed = ap (map size_of_attribute)
      (filter_all (to_come x from) (attributes_at t x) (all_weaker (IsAttribute x) (λ a. to_come x from a ≡ true)
      (λ a is. ap (λ q. is_le (key_cmp q (attribute_key x a.0))) from_is
      ∙ le_from_less (key x 4294967295) (attribute_key x a.0)
      (less_keys x (attribute_place x a.0) 4294967295 0 (place_of_path x path) (place_of x a path is) (omega arith)
      (omega arith) (below_longer x (attribute_mark ∷ a.0) []))) (attributes_at t x)
      (AreAttributes-attributes_at t x h).each));
  counted = refl;
}

-- the order of attributes' keys is that of their names
less_names : (x : Path) (a b : Name × List ℕ) → IsTrue (is_path x) → IsAttribute x a → IsAttribute x b
    → name_cmp a.0 b.0 ≡ Less → (j : ℕ) → j < 4294967296
    → key_cmp (key (attribute_place x a.0) j) (attribute_key x b.0) ≡ Less
less_names x a b path ia ib l j m = less_keys (attribute_place x a.0) (attribute_place x b.0) j 0 (place_of x a path ia)
    (place_of x b path ib) m (omega arith) (order_of_attributes x a.0 b.0 ∙ l)

-- each of them is found by its name
each_found : (t : Tree) (x : Path) → IsTree t
    → AllByRecursion (λ a. attribute_at t x a.0 ≡ Some a.1) (attributes_at t x)
each_found t x h = found_itself name_cmp name_cmp_total (attributes_at t x)
    (rising_from_is_sorted name_cmp (attributes_at t x) (AreAttributes-attributes_at t x h).sorted)

rest_past : (t : Tree) (x : Path) (found : Found) (from past : List ℕ) → IsTree t → IsTrue (is_path x)
    → (first : IsFirstAttribute from x t found) → past ≡ key (attribute_place x found.name) 4294967295
    → filter (to_come x from) (attributes_at t x) ≡ (found.name, first.bytes)
    ∷ filter (to_come x past) (attributes_at t x)
rest_past t x found from past h path first past_is =
    filter_first name_cmp same_name_from_tie (to_come x from)
    (to_come x past) found.name first.bytes (attributes_at t x)
    (rising_from_is_sorted name_cmp (attributes_at t x) are.sorted) first.there
    first.behind (not_le_from_below past (attribute_key x found.name) first_before)
    (all_with (IsAttribute x) (λ a. attribute_at t x a.0 ≡ Some a.1)
    (λ a. name_cmp a.0 found.name ≡ Less → (to_come x from a ≡ false) × (to_come x past a ≡ false)) before
    (attributes_at t x) are.each (each_found t x h))
    (all_weaker (IsAttribute x) (λ a. name_cmp found.name a.0 ≡ Less → to_come x from a ≡ to_come x past a) behind
    (attributes_at t x) are.each)
  where
    are : AreAttributes x (attributes_at t x)
    are = AreAttributes-attributes_at t x h

    this : IsAttribute x (found.name, first.bytes)
    this = attribute_found t x found.name first.bytes h first.there

    first_before : key_cmp (attribute_key x found.name) past ≡ Less
    first_before =
        let place = place_of x (found.name, first.bytes) path this in
        ap (key_cmp (attribute_key x found.name)) past_is
        ∙ order_of_keys (attribute_place x found.name) (attribute_place x found.name) 0 4294967295 place place
        (omega arith) (omega arith)
        ∙ ap (λ o. ordering_then o (nat_cmp 0 4294967295)) (tied_itself path_cmp_total (attribute_place x found.name))
        ∙ nat_cmp-lt 0 4294967295 (omega arith)

    before : (a : Name × List ℕ) → IsAttribute x a → attribute_at t x a.0 ≡ Some a.1 → name_cmp a.0 found.name ≡ Less
        → (to_come x from a ≡ false) × (to_come x past a ≡ false)
    before a is there l =
        let less = less_names x a (found.name, first.bytes) path is this l 0 (omega arith) in (
          false_from_ne_true _ (λ comes. below_and_le (attribute_key x a.0) (attribute_key x found.name) less
              (first.first a.0 (some_is (attribute_at t x a.0) a.1 there) comes)),
          not_le_from_below past (attribute_key x a.0)
              (nat_list_cmp_total.trans (attribute_key x a.0) (attribute_key x found.name) past less first_before),
        )

    behind : (a : Name × List ℕ) → IsAttribute x a → name_cmp found.name a.0 ≡ Less
        → to_come x from a ≡ to_come x past a
    behind a is l =
        le_from_less from (attribute_key x a.0)
        (le_less from (attribute_key x found.name)
        (attribute_key x a.0) first.behind (less_names x
        (found.name, first.bytes) a path this is l 0 (omega arith)))
        ∙ sym (ap (λ q. is_le (key_cmp q (attribute_key x a.0))) past_is
        ∙ le_from_less (key (attribute_place x found.name) 4294967295) (attribute_key x a.0)
        (less_names x (found.name, first.bytes) a path this is l 4294967295 (omega arith)))

one_more_listed : (t : Tree) (x : Path) (found : Found) (turns : ℕ) (from past : List ℕ)
    (entries after : List AttributeSize) → IsTree t → IsTrue (is_path x) → IsPartListed t x from turns entries
    → IsFirstAttribute from x t found → past ≡ key (attribute_place x found.name) 4294967295
    → after ≡ entries ++ (found.name, found.size) ∷ [] → IsPartListed t x past (turns + 1) after
one_more_listed t x found turns from past entries after h path part first past_is added =
    let rest = rest_past t x found from past h path first past_is in
    let is : size_of_attribute (found.name, first.bytes) ≡ (found.name, found.size) =
    ap (λ n. (found.name, n)) (sym first.size) in
    let this = attribute_found t x found.name first.bytes h first.there in
    let count = part.counted in
    record {
      low = ap (λ q. is_le (key_cmp (key x 4294967295) q)) past_is
          ∙ le_from_less (key x 4294967295) (key (attribute_place x found.name) 4294967295)
          (less_keys x (attribute_place x found.name) 4294967295 4294967295 (place_of_path x path)
          (place_of x (found.name, first.bytes) path this) (omega arith) (omega arith)
          (below_longer x (attribute_mark ∷ found.name) []));
      listed =
          ap (λ l. l ++ map size_of_attribute (filter (to_come x past) (attributes_at t x))) added
          ∙ append_assoc entries ((found.name, found.size) ∷ [])
          (map size_of_attribute (filter (to_come x past) (attributes_at t x)))
          ∙ ap (λ z. entries ++ (z ∷ map size_of_attribute (filter (to_come x past) (attributes_at t x)))) (sym is)
          ∙ ap (λ l. entries ++ map size_of_attribute l) (sym rest) ∙ part.listed;
      counted = omega (arith, ap length added, length-append entries ((found.name, found.size) ∷ []));
    }

all_listed : (t : Tree) (x : Path) (from : List ℕ) (turns : ℕ) (entries : List AttributeSize) → IsTree t
    → IsPartListed t x from turns entries → LacksAttribute from x t
    → entries ≡ map size_of_attribute (attributes_at t x)
all_listed t x from turns entries h part lacks =
    let none = filter_none (to_come x from) (attributes_at t x)
    (all_weaker (λ a. attribute_at t x a.0 ≡ Some a.1) (λ a. to_come x from a ≡ false)
    (λ a there. false_from_ne_true _ (λ comes. lacks a.0 (some_is (attribute_at t x a.0) a.1 there) comes))
    (attributes_at t x) (each_found t x h)) in
    sym (append-nil entries) ∙ ap (λ l. entries ++ map size_of_attribute l) (sym none) ∙ part.listed

-- there are no more attributes than pairs
length-attributes_le : (t : Tree) (p : Parameters) (x : Path) → length (attributes_at t x) ≤ length (pairs t p)
unfolding pairs attribute_pairs
length-attributes_le [] p x = omega arith
length-attributes_le (e ∷ t) p x =
    let rest = length-attributes_le t p x in
    let all = length-append (entry_pairs e.0 e.1 p) (pairs t p) in
    let here = length-append (node_pairs e.0 e.1.node p) (attribute_pairs e.0 e.1.attributes) in
    let some : length (attribute_pairs e.0 e.1.attributes) ≡ length e.1.attributes =
    length-map e.1.attributes (λ (a : Name × List ℕ). (attribute_key e.0 a.0, attribute_value a.1)) in
    let owner : length e.1.attributes ≤ length (pairs (e ∷ t) p) = omega arith in
    let other : length (attributes_at t x) ≤ length (pairs (e ∷ t) p) = omega arith in
    by_test (same_path x e.0) owner other
  where
    by_test : (b : Bool) → length e.1.attributes ≤ length (pairs (e ∷ t) p)
        → length (attributes_at t x) ≤ length (pairs (e ∷ t) p)
        → length (attributes_of (cond b (Some e.1) (find path_cmp x t))) ≤ length (pairs (e ∷ t) p)
    by_test true owner other = owner
    by_test false owner other = other

pub few_listed : (state : PairsState) (t : Tree) (p : Parameters) (x : Path) (from : List ℕ) (turns : ℕ)
    (entries : List AttributeSize) → HoldsTree state t p → length state.pairs ≤ most_pairs
    → IsPartListed t x from turns entries → turns ≤ most_pairs
few_listed state t p x from turns entries holds few part =
    let all = length-attributes_le t p x in
    omega (
      arith,
      part.counted,
      ap length part.listed,
      ap length holds.pairs_are,
      length-append entries
          (map size_of_attribute (filter (to_come x from) (attributes_at t x))),
      length-map (attributes_at t x) size_of_attribute,
    )

-- ---- the same, by what a search answered

pub next_listed : (t : Tree) (x : Path) (turns : ℕ) (from past : List ℕ) (entries after : List AttributeSize)
    (found : Option Found) (a : Found) → IsTree t → IsTrue (is_path x) → IsPartListed t x from turns entries
    → found ≡ Some a → MatchOption found (LacksAttribute from x t) (IsFirstAttribute from x t) → IsLastAt a.key past
    → after ≡ entries ++ (a.name, a.size) ∷ [] → IsPartListed t x past (turns + 1) after
next_listed t x turns from past entries after None a h path part is first last added = cc
next_listed t x turns from past entries after (Some b) a h path part is first last added =
    let same : b ≡ a = cc in
    let here = subst (IsFirstAttribute from x t) same first in
    let this = attribute_found t x a.name here.bytes h here.there in
    one_more_listed t x a turns from past entries after h path part here
    (last (attribute_place x a.name) 0 (place_of x (a.name, here.bytes) path this) (omega arith) here.key_is) added

pub none_listed_more : (t : Tree) (x : Path) (turns : ℕ) (from : List ℕ) (entries : List AttributeSize)
    (found : Option Found) → IsTree t → IsPartListed t x from turns entries
    → ((a : Found) → found ≡ Some a → ⊥) → MatchOption found (LacksAttribute from x t) (IsFirstAttribute from x t)
    → entries ≡ map size_of_attribute (attributes_at t x)
none_listed_more t x turns from entries None h part none lacks = all_listed t x from turns entries h part lacks
none_listed_more t x turns from entries (Some a) h part none first = absurd (none a refl)

-- a name of an attribute has at most 32 bytes
pub short_name : (a : Name) → IsTrue (is_attribute_name a) → length a ≤ 32
short_name a named = leb-true (length a) 32 (second_true (is_name a) (nat_le (length a) 32) named)

-- ---- what is read of a pair

-- keys of attributes tell their paths
pub same_owner : (q x : Path) (a b : Name) → IsTrue (is_path q) → IsTrue (is_path x) → IsTrue (is_attribute_name a)
    → IsTrue (is_attribute_name b) → IsTrue (fits_attribute q a) → IsTrue (fits_attribute x b)
    → attribute_key q a ≡ attribute_key x b → q ≡ x
same_owner q x a b hq hx na nb fa fb e =
    (same_attribute_place q x a b
    (same_place (attribute_place q a) (attribute_place x b) 0 0 (place_of_attribute q a hq na fa)
    (place_of_attribute x b hx nb fb) (omega arith) (omega arith) e).0).0

-- the name of what is read
pub read_named : (x : Path) (e : Pair) (o : Option Found) → IsReadAttribute x e o
    → IfSome o (λ a. IsTrue (is_attribute_name a.name))
read_named x e None read = tt
read_named x e (Some found) read = read.named

-- ---- what the calls owe

-- a key that there is not, and one that there is
pub no_room : (x : Path) (a : Name) (o : Option (List ℕ)) → ((k : List ℕ) → o ≡ Some k → ⊥)
    → (IsNone o ↔ ((is_root x ≡ true) ⊎ (fits_attribute x a ≡ false))) → is_root x ≡ false → fits_attribute x a ≡ false
no_room x a (Some k) none iff below = absurd (none k refl)
no_room x a None none iff below = by_cause (iff.0 refl)
  where
    by_cause : (is_root x ≡ true) ⊎ (fits_attribute x a ≡ false) → fits_attribute x a ≡ false
    by_cause (inl root) = absurd (both_ways _ below root)
    by_cause (inr long) = long

pub has_room : (x : Path) (a : Name) (o : Option (List ℕ)) (k : List ℕ) → o ≡ Some k
    → (IsNone o ↔ ((is_root x ≡ true) ⊎ (fits_attribute x a ≡ false))) → IsTrue (fits_attribute x a)
has_room x a o k is iff = by_test (fits_attribute x a) refl
  where
    by_test : (b : Bool) → fits_attribute x a ≡ b → IsTrue (fits_attribute x a)
    by_test true e = e
    by_test false e = let none = subst IsNone is (iff.1 (inr e)) in cc

-- the refusal of what stands at the path is the command's
pub refused_before : {T : Type 0} (see : T → Reply) (command : Command) (x : Path) (refusal : Refusal)
    (found : Option Refusal) (old new : PairsState)
    → TellsRefusal (ListAttributes x) old new (Ok found) → found ≡ Some refusal
    → ((t : Tree) → refusal_of t (ListAttributes x) ≡ Some refusal → refusal_of t command ≡ Some refusal)
    → CarriesOut see command old new (Ok (Err refusal))
refused_before see command x refusal found old new tells is so = record {
  faults = tells.faults;
  observable = tells.keeps.observable;
  carried = λ seen t p holds. step_refused see refusal t command p new (so t (sym (tells.told seen t p holds) ∙ is))
      (tells.keeps.unchanged seen ∙ holds.pairs_are);
}

-- where attributes are looked for
pub passed : (x : Path) (found : Option Refusal) (old new : PairsState)
    → TellsRefusal (ListAttributes x) old new (Ok found) → ((refusal : Refusal) → found ≡ Some refusal → ⊥)
    → IsObservable old → (t : Tree) (p : Parameters) → HoldsTree old t p → refusal_of t (ListAttributes x) ≡ None
passed x found old new tells none seen t p holds = sym (tells.told seen t p holds) ∙ none_found found none

-- what the pair that is to be set says
pub set_pair_ok : (x : Path) (a : Name) (bytes : List ℕ) (o : Result Pair Refusal) (pair : Pair) → o ≡ Ok pair
    → IsSetPair x a bytes o → IsSetPairOf x a bytes pair
set_pair_ok x a bytes (Ok q) pair is h = let same : q ≡ pair = cc in subst (IsSetPairOf x a bytes) same h
set_pair_ok x a bytes (Err r) pair is h = cc

pub set_pair_err : (x : Path) (a : Name) (bytes : List ℕ) (o : Result Pair Refusal) (refusal : Refusal)
    → o ≡ Err refusal → IsSetPair x a bytes o → first_refusal (set_conditions x a bytes) ≡ Some refusal
set_pair_err x a bytes (Ok q) refusal is h = cc
set_pair_err x a bytes (Err r) refusal is h = let same : r ≡ refusal = cc in h ∙ ap Some same
