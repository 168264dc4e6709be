-- Lemmas on the next entry: past the keys of a path and of its attributes stands the first pair of the entry behind it.
use Rattle.std.proofs.Common.{◌≡◌, ℕ, zero, suc, ◌<◌, List, [], ◌∷◌, Bool, true, false, cond, IsTrue, Option, Some}
use Rattle.std.proofs.Common.{None, refl, sym, ap, subst, ◌∙◌, arith, nat_cmp, nat_lt, ltb-true, ltb-false, Ordering}
use Rattle.std.proofs.Common.{Less, Equal, Greater, ◌⊎◌, inl, inr}
use Rattle.std.specs.Prelude.{IsSome, IfSome, MatchOption}
use Rattle.std.specs.List.{AllByRecursion, list_all}
use Rattle.std.specs.Ordering.{is_le, ordering_then, ordering_reverse}
use Rattle.std.specs.Cmp.{tied_itself}
use Rattle.std.specs.Cmp.Lexicographic.{nat_list_cmp_total}
use Rattle.std.specs.FinMap.{find, slice_cmp-IsAntisymmetric, nat_cmp-IsAntisymmetric}
use Rattle.std.proofs.lemmas.Bool.{or_cases}
use Rattle.store_model.specs.Paths.{Path, Name, is_root, is_name, is_path, is_place, is_attribute_name, fits_attribute}
use Rattle.store_model.specs.Paths.{attribute_mark, attribute_place, fits_field, path_cmp, same_path, is_inside}
use Rattle.store_model.specs.Paths.{is_at_or_inside, key, key_cmp}
use Rattle.store_model.specs.Pairs.{Pair, IsPairs}
use Rattle.store_model.proofs.ListsLemmas.{first_true, nat_cmp-lt, rising_from_is_sorted}
use Rattle.store_model.proofs.PairsLemmas.{rising_places}
use Rattle.store_model.proofs.PathsLemmas.{place_of_path, order_of_keys}
use Rattle.store_model.proofs.PathsLemmasPlaces.{below_longer, attribute_before}
use Rattle.store_model.proofs.TreesLemmasPaths.{path_cmp_total, same_from_tie, same_from_test}
use Rattle.ordered_pairs.specs.PairsState.{next_pair}
use Rattle.tree_pairs.specs.Blocks.{BlockMap, IsBlockPair, HasBlocks}
use Rattle.tree_pairs.proofs.NextLemmas.{IsNextFrom, next_some, next_none}
use Rattle.file_blocks.specs.declared.inlining.Entry.{Entry}
use Rattle.file_blocks.specs.UpgradeCalls.{IsAttributeOf, AreOfEntries, LacksBehind, IsFirstBehind, IsNoFirst}
use Rattle.file_blocks.specs.UpgradeCalls.{IsFirstOf, IsEntryOf}

-- ---- the order of places

-- the root stands behind no path
below_root_from_behind : (last y : Path) → path_cmp last y ≡ Less → is_root y ≡ false
below_root_from_behind [] [] e = cc
below_root_from_behind (n ∷ last) [] e = cc
below_root_from_behind last (n ∷ y) e = refl

-- ---- the order of keys

-- what stands before a key that is not above another stands before that one
less_then_le : (a b c : List ℕ) → key_cmp a b ≡ Less → is_le (key_cmp b c) ≡ true → key_cmp a c ≡ Less
less_then_le a b c l m = by_order (key_cmp b c) refl m
  where
    by_order : (o : Ordering) → key_cmp b c ≡ o → is_le o ≡ true → key_cmp a c ≡ Less
    by_order Less e m = nat_list_cmp_total.trans a b c l e
    by_order Equal e m = ap (key_cmp a) (sym (slice_cmp-IsAntisymmetric nat_cmp-IsAntisymmetric b c e)) ∙ l
    by_order Greater e m = cc

-- a key is above one that stands before it
not_le_from_less : (a b : List ℕ) → key_cmp a b ≡ Less → is_le (key_cmp b a) ≡ false
not_le_from_less a b l = ap is_le (nat_list_cmp_total.antisymm b a ∙ ap ordering_reverse l)

-- a key between those of a path and its attributes and those of the paths behind it
pub record IsPast (last : Path) (k : List ℕ) : Type 0 where
  pub blocks : (block : ℕ) → block < 4294967295 → key_cmp (key last block) k ≡ Less
  pub attributes : (a : Name) (block : ℕ) → IsTrue (is_attribute_name a) → IsTrue (fits_attribute last a)
      → block < 4294967296 → key_cmp (key (attribute_place last a) block) k ≡ Less
  pub below : (q : Path) (block : ℕ) → IsTrue (is_path q) → IsTrue (is_inside q last) → block < 4294967296
      → is_le (key_cmp k (key q block)) ≡ true
  pub behind : (q : Path) (block : ℕ) → IsTrue (is_path q) → is_at_or_inside q last ≡ false → path_cmp last q ≡ Less
      → is_le (key_cmp k (key q block)) ≡ true

-- ---- what is known of the next pair

-- it is one of the list
next_of : (P : Pair → Type 0) (k : List ℕ) (s : List Pair) (e : Pair) → next_pair k s ≡ Some e
    → AllByRecursion P s → P e
next_of P k [] e is h = cc
next_of P k (f ∷ s) e is h =
    (elim (is_le (key_cmp k f.0)) as (λ b. cond b (Some f) (next_pair k s) ≡ Some e → P e) [
      | true ↦ λ is. let same : f ≡ e = cc in subst P same h.0
      | false ↦ λ is. next_of P k s e is h.1
    ]) is

-- a value that is there
some_is : (o : Option (List ℕ)) (v : List ℕ) → o ≡ Some v → IsSome o
some_is None v e = cc
some_is (Some w) v e = refl

not_some : (o : Option (List ℕ)) → IsSome o → o ≡ None → ⊥
not_some None h e = cc
not_some (Some v) h e = cc

module _ (last : Path) (k : List ℕ) (path : IsTrue (is_path last)) (past : IsPast last k) where
  -- the keys of the paths behind a path are not below it
  le_from_behind : (y : Path) (i : ℕ) → IsTrue (is_path y) → i < 4294967296 → path_cmp last y ≡ Less
      → is_le (key_cmp k (key y i)) ≡ true
  le_from_behind y i valid l behind = by_place (is_at_or_inside y last) refl
    where
      by_case : (same_path y last ≡ true) ⊎ (is_inside y last ≡ true) → is_le (key_cmp k (key y i)) ≡ true
      by_case (inl same) = let tied : path_cmp last y ≡ Equal =
          ap (path_cmp last) (same_from_test y last same) ∙ tied_itself path_cmp_total last in cc
      by_case (inr inside) = past.below y i valid inside l

      by_place : (b : Bool) → is_at_or_inside y last ≡ b → is_le (key_cmp k (key y i)) ≡ true
      by_place true e = by_case (or_cases (same_path y last) (is_inside y last) e)
      by_place false e = past.behind y i valid e behind

  -- and a place whose key is not below it stands behind the path
  behind_from_le : (z : Path) (i : ℕ) → IsTrue (is_place z) → i < 4294967295 → is_le (key_cmp k (key z i)) ≡ true
      → path_cmp last z ≡ Less
  behind_from_le z i place l h =
      by_order (path_cmp last z) refl
      (sym (order_of_keys last z 0 i (place_of_path last path) place (omega arith) (omega arith))
      ∙ less_then_le (key last 0) k (key z i) (past.blocks 0 (omega arith)) h)
    where
      by_order : (o : Ordering) → path_cmp last z ≡ o → ordering_then o (nat_cmp 0 i) ≡ Less → path_cmp last z ≡ Less
      by_order Less e m = e
      by_order Equal e m = let above : is_le (key_cmp k (key z i)) ≡ false =
          ap (λ y. is_le (key_cmp k (key y i))) (sym (same_from_tie last z e))
          ∙ not_le_from_less (key last i) k (past.blocks i l) in cc
      by_order Greater e m = cc

  module _ (blocks : BlockMap) (s : List Pair) (h : HasBlocks blocks s) where
    -- where there is none, there is no entry behind
    none_behind : next_pair k s ≡ None → LacksBehind last blocks
    none_behind none y valid behind = sym (h.each y 0 (place_of_path y valid) (omega arith))
        ∙ next_none k s none (key y 0) (le_from_behind y 0 valid (omega arith) behind)

    module _ (e : Pair) (next : IsNextFrom k s e) where
      -- the first pair of a path is that of the next entry
      first_behind : (entry : Entry) → IsFirstOf e entry → IsFirstBehind last blocks entry
      first_behind entry of =
          let place = place_of_path entry.path of.valid in
          record {
            there = sym (h.each entry.path 0 place (omega arith)) ∙ ap (λ q. find key_cmp q s) (sym of.key_is)
                ∙ next.found ∙ ap Some (sym of.value_is);
            behind = behind_from_le entry.path 0 place (omega arith)
                (ap (λ q. is_le (key_cmp k q)) (sym of.key_is) ∙ next.not_below);
            next = λ z valid after before.
                sym (h.each z 0 (place_of_path z valid) (omega arith))
                ∙ next.none_between (key z 0) (le_from_behind z 0 valid (omega arith) after)
                (ap (key_cmp (key z 0)) of.key_is ∙ rising_places z entry.path 0 0 (place_of_path z valid) place
                (omega arith) (omega arith) before);
          }

      -- no first block of a path behind stands before it
      none_before : (y : Path) → IsTrue (is_path y) → path_cmp last y ≡ Less → key_cmp (key y 0) e.0 ≡ Less
          → IsSome (blocks y 0) → ⊥
      none_before y valid behind before there =
          not_some (blocks y 0) there (sym (h.each y 0 (place_of_path y valid) (omega arith))
          ∙ next.none_between (key y 0) (le_from_behind y 0 valid (omega arith) behind) before)

      module _ (entries : AreOfEntries blocks) (of : IsBlockPair e) where
        there : IsSome (blocks of.path of.block)
        there = some_is (blocks of.path of.block) e.1 (sym (h.each of.path of.block of.valid of.in_range)
            ∙ ap (λ q. find key_cmp q s) (sym of.key_is) ∙ next.found)

        not_below : is_le (key_cmp k (key of.path of.block)) ≡ true
        not_below = ap (λ q. is_le (key_cmp k q)) (sym of.key_is) ∙ next.not_below

        low_block : (b : Bool) → nat_lt of.block 4294967295 ≡ b → of.block < 4294967295
        low_block true t = ltb-true of.block 4294967295 t
        low_block false t =
            let more = ltb-false of.block 4294967295 t in
            let range = of.in_range in
            let is : of.block ≡ 4294967295 = omega arith in
            absurd (not_some (blocks of.path of.block) there (ap (blocks of.path) is ∙ entries.few of.path))

        behind : path_cmp last of.path ≡ Less
        behind = behind_from_le of.path of.block of.valid (low_block (nat_lt of.block 4294967295) refl) not_below

        -- it is of no attribute: those of the path stand before the key, and those of a path behind it stand behind its
        -- first pair
        no_attribute : IsAttributeOf blocks of.path → ⊥
        no_attribute at = by_order (path_cmp last at.path) refl
          where
            by_order : (o : Ordering) → path_cmp last at.path ≡ o → ⊥
            by_order Less l =
                none_before at.path at.valid l
                (ap (key_cmp (key at.path 0)) of.key_is
                ∙ rising_places at.path of.path 0 of.block (place_of_path at.path at.valid) of.valid (omega arith)
                of.in_range (ap (path_cmp at.path) at.place_is
                ∙ below_longer at.path (attribute_mark ∷ at.name) [])) at.there
            by_order Equal l =
                let same : last ≡ at.path = same_from_tie last at.path l in
                let place : attribute_place last at.name ≡ of.path =
                ap (λ (y : Path). attribute_place y at.name) same ∙ sym at.place_is in
                let before = past.attributes at.name of.block at.named (ap (λ (y : Path). fits_attribute y at.name) same
                ∙ at.fits) of.in_range in
                let above : is_le (key_cmp k (key of.path of.block)) ≡ false =
                ap (λ (y : Path). is_le (key_cmp k (key y of.block))) (sym place)
                ∙ not_le_from_less (key (attribute_place last at.name) of.block) k before in
                let at_or_above = not_below in
                cc
            by_order Greater l =
                let before = attribute_before at.path last
                at.name (first_true (list_all is_name last) (fits_field last) path)
                (path_cmp_total.antisymm at.path last ∙ ap ordering_reverse l) in
                let after : path_cmp last of.path ≡ Greater =
                ap (path_cmp last) at.place_is ∙ path_cmp_total.antisymm last (attribute_place at.path at.name)
                ∙ ap ordering_reverse before in
                let less = behind in
                cc

        -- and it is a first pair
        no_other : IsNoFirst e.0 → ⊥
        no_other other = by_owner (entries.owned of.path (entries.first of.path of.block there))
          where
            before : (i : ℕ) → of.block ≡ suc i → key_cmp (key of.path 0) e.0 ≡ Less
            before i is =
                let range = of.in_range in
                ap (key_cmp (key of.path 0)) of.key_is
                ∙ order_of_keys of.path of.path 0 of.block of.valid of.valid (omega arith) of.in_range
                ∙ ap (λ o. ordering_then o (nat_cmp 0 of.block)) (tied_itself path_cmp_total of.path)
                ∙ nat_cmp-lt 0 of.block (omega arith)

            by_number : IsTrue (is_path of.path) → (i : ℕ) → of.block ≡ i → ⊥
            by_number valid zero is = other of.path valid (below_root_from_behind last of.path behind)
                (of.key_is ∙ ap (key of.path) is)
            by_number valid (suc i) is = none_before of.path valid behind (before i is)
                (entries.first of.path of.block there)

            by_owner : IsTrue (is_path of.path) ⊎ IsAttributeOf blocks of.path → ⊥
            by_owner (inl valid) = by_number valid of.block refl
            by_owner (inr at) = no_attribute at

-- ---- the same, by what a search answered

pub found_entry : (last : Path) (k : List ℕ) (blocks : BlockMap) (s : List Pair) (found : Option Pair) (e : Pair)
    (answer : Option Entry) → IsTrue (is_path last) → IsPast last k → HasBlocks blocks s → AreOfEntries blocks
    → found ≡ next_pair k s → found ≡ Some e → IsEntryOf e answer
    → MatchOption answer (LacksBehind last blocks) (IsFirstBehind last blocks)
found_entry last k blocks s found e None path past h entries is some none =
    let at : next_pair k s ≡ Some e = sym is ∙ some in
    absurd (no_other last k path past blocks s h e (next_some k s e (rising_from_is_sorted key_cmp s h.sorted) at)
    entries (next_of IsBlockPair k s e at h.only) none)
found_entry last k blocks s found e (Some entry) path past h entries is some of =
    first_behind last k path past blocks s h e
    (next_some k s e (rising_from_is_sorted key_cmp s h.sorted) (sym is ∙ some)) entry of

pub found_no_entry : (last : Path) (k : List ℕ) (blocks : BlockMap) (s : List Pair) (found : Option Pair)
    → IsTrue (is_path last) → IsPast last k → HasBlocks blocks s → found ≡ next_pair k s → found ≡ None
    → LacksBehind last blocks
found_no_entry last k blocks s found path past h is none = none_behind last k path past blocks s h (sym is ∙ none)

-- its path is one, and its first pair is one of the list
pub valid_entry : (e : Pair) (answer : Option Entry) → IsEntryOf e answer
    → IfSome answer (λ entry. IsTrue (is_path entry.path))
valid_entry e None none = tt
valid_entry e (Some entry) of = of.valid

pub found_first : (k : List ℕ) (s : List Pair) (found : Option Pair) (e : Pair) (answer : Option Entry) → IsPairs s
    → found ≡ next_pair k s → found ≡ Some e → IsEntryOf e answer
    → IfSome answer (λ entry. find key_cmp (key entry.path 0) s ≡ Some entry.first)
found_first k s found e None h is some none = tt
found_first k s found e (Some entry) h is some of =
    ap (λ q. find key_cmp q s) (sym of.key_is)
    ∙ (next_some k s e (rising_from_is_sorted key_cmp s h.sorted) (sym is ∙ some)).found ∙ ap Some (sym of.value_is)
