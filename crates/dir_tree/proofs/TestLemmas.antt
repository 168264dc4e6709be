-- Lemmas on the test that a moved path is not too long: the walk jumps from place to place, past the blocks of each.
use Rattle.std.proofs.Common.{Ok, ◌≡◌, ℕ, ◌+◌, ◌<◌, ◌≤◌, List, [], ◌∷◌, length, Bool, true, false, not, ◌&&◌, ◌||◌, ◌⊎◌}
use Rattle.std.proofs.Common.{inl, inr, IsTrue, Option, Some, None, refl, sym, ap, ap₂, subst, ◌∙◌, arith, nat_cmp}
use Rattle.std.proofs.Common.{Ordering, Less, Equal, Greater}
use Rattle.std.specs.Prelude.{IsSome}
use Rattle.std.specs.Option.{option_map}
use Rattle.std.specs.List.{AllByRecursion, list_any}
use Rattle.std.specs.Ordering.{is_le, ordering_then, ordering_reverse}
use Rattle.std.specs.Cmp.{tied_itself}
use Rattle.std.specs.FinMap.{find}
use Rattle.std.proofs.lemmas.Bool.{both_ways, not-false, or_parts}
use Rattle.store_model.specs.Parameters.{Parameters}
use Rattle.store_model.specs.Paths.{Path, Name, is_path, is_place, fits_attribute, attribute_mark, attribute_place}
use Rattle.store_model.specs.Paths.{name_cmp, path_cmp, is_at_or_inside, fits_field, replanted, key, key_cmp}
use Rattle.store_model.specs.Pairs.{Pair, attribute_value, pairs}
use Rattle.store_model.specs.Trees.{Tree, Entry, IsTree, IsEntry, IsAttribute, attributes_of}
use Rattle.store_model.specs.Steps.{outgrows, is_too_long}
use Rattle.store_model.proofs.ListsLemmas.{nat_cmp-lt, all_with, rising_from_is_sorted}
use Rattle.store_model.proofs.PathsLemmas.{place_of_path, place_of_attribute, order_of_keys}
use Rattle.store_model.proofs.PathsLemmasPlaces.{name_cmp_total, same_name_from_tie}
use Rattle.store_model.proofs.TreesLemmasPaths.{path_cmp_total, same_from_tie}
use Rattle.store_model.proofs.TreesLemmas.{find_from_all}
use Rattle.ordered_pairs.specs.PairsState.{PairsState, IsObservable, most_pairs}
use Rattle.tree_pairs.proofs.TreeBlocks.{attribute_block, tree_blocks}
use Rattle.tree_pairs.proofs.PlaceLemmas.{attribute_blocks, attribute_inside}
use Rattle.tree_pairs.specs.TreeCalls.{HoldsTree, KeepsPairs}
use Rattle.dir_tree.specs.SubtreeCalls.{LacksFrom, IsFirstFrom, FindsKey}
use Rattle.dir_tree.proofs.FilterLemmas.{key_from_all, found_itself}
use Rattle.dir_tree.proofs.OrderLemmas.{less_keys, le_less, less_le, le_le, le_from_less, below_from_not_le}
use Rattle.dir_tree.proofs.OrderLemmas.{not_le_from_below, below_and_le, top_is_lowest, le_at_first}
use Rattle.dir_tree.proofs.NextLemmas.{IsBlockAt, IsBlockWithin, first_within, lacks_block, none_before, Searched}
use Rattle.dir_tree.proofs.NextLemmas.{found_first}
use Rattle.dir_tree.proofs.OwnerLemmas.{IsAttributeAt, IsOwned, no_block, owner_of, owner_inside, lower_number}
use Rattle.dir_tree.proofs.RefusalLemmas.{kept_on, still_holds}
use Rattle.dir_tree.proofs.TreeLemmas.{first_block_there, found_stands, tree_has_blocks}
use Rattle.dir_tree.specs.MoveCalls.{TellsGrowth}
use Rattle.dir_tree.proofs.MovedLemmas.{replanted_attribute}
use Rattle.dir_tree.proofs.StretchLemmas.{count, count_le, count_falls}

-- ---- the last key of a place

-- what is not missing is there
there_from : (o : Option (List ℕ)) → (o ≡ None → ⊥) → IsSome o
there_from None h = absurd (h refl)
there_from (Some v) h = refl

-- the last key of a place stands behind its others
below_last : (y : Path) (i : ℕ) → IsTrue (is_place y) → i < 4294967295 → key_cmp (key y i) (key y 4294967295) ≡ Less
below_last y i place l = order_of_keys y y i 4294967295 place place (omega arith) (omega arith)
    ∙ ap (λ o. ordering_then o (nat_cmp i 4294967295)) (tied_itself path_cmp_total y) ∙ nat_cmp-lt i 4294967295 l

-- ---- how far the test has come

abbrev pub from_on : List ℕ → List ℕ → Bool
from_on next k = is_le (key_cmp next k)

-- after so many turns: each place of the subtree that has a block before the key is short enough
pub record IsPartTested (t : Tree) (p : Parameters) (from to : Path) (next : List ℕ) (turns : ℕ) : Type 0 where
  pub low : is_le (key_cmp (key from 0) next) ≡ true
  pub fits : (y : Path) (i : ℕ) → IsTrue (is_place y) → i < 4294967296 → IsSome (tree_blocks t p y i)
      → is_at_or_inside y from ≡ true → key_cmp (key y i) next ≡ Less → fits_field (replanted from to y) ≡ true
  pub counted : turns + count (from_on next) (pairs t p) ≤ length (pairs t p)

pub none_tested : (t : Tree) (p : Parameters) (from to : Path) (next : List ℕ) → IsTrue (is_path from)
    → next ≡ key from 0 → IsPartTested t p from to next 0
none_tested t p from to next path is = record {
  low = le_at_first from next is;
  fits = λ y i valid m there inside l.
      absurd (below_and_le (key y i) next l (ap (λ q. is_le (key_cmp q (key y i))) is
      ∙ top_is_lowest from y i (place_of_path from path) valid m inside));
  counted = let l = count_le (from_on next) (pairs t p) in omega arith;
}

one_more_tested : (t : Tree) (p : Parameters) (from to : Path) (k : List ℕ) (turns : ℕ) (next after : List ℕ) → IsTree t
    → IsPartTested t p from to next turns → IsFirstFrom next from (pairs t p) k
    → (within : IsBlockWithin from (tree_blocks t p) k)
    → fits_field (replanted from to within.at.place) ≡ true → after ≡ key within.at.place 4294967295
    → IsPartTested t p from to after (turns + 1)
one_more_tested t p from to k turns next after h part first within short is =
    let at = within.at in
    let y = at.place in
    let i = at.block in
    let lower = lower_number t p y i h at.in_range at.there in
    let less : key_cmp k after ≡ Less = ap₂ key_cmp at.key_is is ∙ below_last y i at.valid lower in
    let count_less = count_falls (from_on next) (from_on after) k (pairs t p)
    (λ q l. le_from_less next q (less_le next after q (le_less next k after first.behind less) l))
    first.behind (not_le_from_below after k less) first.there in
    let counted = part.counted in
    record {
      low = le_from_less (key from 0) after
          (le_less (key from 0) k after (le_le (key from 0) next k part.low first.behind) less);
      fits = λ z j valid m there inside l. by_order z j valid m there inside
          (ap (key_cmp (key z j)) (sym is) ∙ l) (path_cmp z y) refl;
      counted = omega arith;
    }
  where
    at : IsBlockAt (tree_blocks t p) k
    at = within.at

    by_place : (z : Path) (j : ℕ) → IsTrue (is_place z) → j < 4294967296 → IsSome (tree_blocks t p z j)
        → is_at_or_inside z from ≡ true → key_cmp (key z j) k ≡ Less → (b : Bool) → is_le (key_cmp next (key z j)) ≡ b
        → fits_field (replanted from to z) ≡ true
    by_place z j valid m there inside l true e =
        absurd (no_block (tree_blocks t p z j) there
        (none_before next from (tree_blocks t p) (pairs t p) k z j (tree_has_blocks t p h).has first valid m e l))
    by_place z j valid m there inside l false e =
        part.fits z j valid m there inside (below_from_not_le next (key z j) e)

    by_order : (z : Path) (j : ℕ) → IsTrue (is_place z) → j < 4294967296 → IsSome (tree_blocks t p z j)
        → is_at_or_inside z from ≡ true → key_cmp (key z j) (key at.place 4294967295) ≡ Less → (o : Ordering)
        → path_cmp z at.place ≡ o → fits_field (replanted from to z) ≡ true
    by_order z j valid m there inside l Less e =
        by_place z j valid m there inside (ap (key_cmp (key z j)) at.key_is
        ∙ less_keys z at.place j at.block valid at.valid m at.in_range e) (is_le (key_cmp next (key z j))) refl
    by_order z j valid m there inside l Equal e =
        ap (λ w. fits_field (replanted from to w)) (same_from_tie z at.place e) ∙ short
    by_order z j valid m there inside l Greater e =
        absurd (below_and_le (key z j) (key at.place 4294967295) l
        (le_from_less (key at.place 4294967295) (key z j)
        (less_keys at.place z 4294967295 j at.valid valid (omega arith) m
        (path_cmp_total.antisymm at.place z ∙ ap ordering_reverse e))))

-- ---- what the test says

none_passes : {X : Type 0} (test : X → Bool) (xs : List X) → AllByRecursion (λ x. test x ≡ false) xs
    → list_any test xs ≡ false
none_passes test [] h = refl
none_passes test (x ∷ xs) h = ap₂ (λ a b. a || b) h.0 (none_passes test xs h.1)

pub all_fails : {X : Type 0} (test : X → Bool) (xs : List X) → list_any test xs ≡ false
    → AllByRecursion (λ x. test x ≡ false) xs
all_fails test [] e = tt
all_fails test (x ∷ xs) e = let parts = or_parts (test x) (list_any test xs) e in (parts.0, all_fails test xs parts.1)

abbrev pub is_long : Path → Path → Path × Entry → Bool
is_long from to e = is_at_or_inside e.0 from && is_too_long (replanted from to e.0) e.1.attributes

-- where nothing outgrows the field, each place that has a block fits
pub place_fits : (t : Tree) (p : Parameters) (from to y : Path) (i : ℕ) → IsTree t → IsTrue (is_path from)
    → outgrows t from to ≡ false → IsSome (tree_blocks t p y i) → is_at_or_inside y from ≡ true
    → fits_field (replanted from to y) ≡ true
unfolding outgrows
place_fits t p from to y i h path short there within = by_form own.of
  where
    own : IsOwned t y i
    own = owner_of t p y i h there

    new : Path
    new = replanted from to own.owner

    inside : is_at_or_inside own.owner from ≡ true
    inside = sym (owner_inside t y i own from path) ∙ within

    parts : (not (fits_field new) ≡ false) × (list_any (λ a. not (fits_attribute new a.0)) own.entry.attributes ≡ false)
    parts = or_parts (not (fits_field new)) (list_any (λ a. not (fits_attribute new a.0)) own.entry.attributes)
        (ap (λ b. b && is_too_long new own.entry.attributes) (sym inside)
        ∙ find_from_all (λ e. is_long from to e ≡ false) own.owner own.entry t
        (all_fails (is_long from to) t short) own.found)

    by_bytes : (name : Name) (o : Option (List ℕ)) → find name_cmp name own.entry.attributes ≡ o → IsSome o
        → fits_attribute new name ≡ true
    by_bytes name None e some = cc
    by_bytes name (Some bytes) e some =
        not-false (fits_attribute new name)
        (key_from_all name_cmp same_name_from_tie (λ a. not (fits_attribute new a) ≡ false) name bytes
        own.entry.attributes (all_fails (λ a. not (fits_attribute new a.0)) own.entry.attributes parts.1) e)

    by_form : (y ≡ own.owner) ⊎ IsAttributeAt t own.owner y i → fits_field (replanted from to y) ≡ true
    by_form (inl e) = ap (λ z. fits_field (replanted from to z)) e ∙ not-false (fits_field new) parts.0
    by_form (inr at) =
        ap fits_field (ap (replanted from to) at.place_is ∙ replanted_attribute from to own.owner at.name inside)
        ∙ by_bytes at.name (find name_cmp at.name own.entry.attributes) refl
        (subst (λ (o : Option Entry). IsSome (find name_cmp at.name (attributes_of o))) own.found at.found)

all_tested : (t : Tree) (p : Parameters) (from to : Path) (next : List ℕ) (turns : ℕ) → IsTree t → IsTrue (is_path from)
    → IsPartTested t p from to next turns → LacksFrom next from (pairs t p) → false ≡ outgrows t from to
unfolding outgrows
all_tested t p from to next turns h path part lacks =
    sym (none_passes (is_long from to) t
    (all_with (IsEntry t) (λ e. find path_cmp e.0 t ≡ Some e.1) _ short t
    h.entries (found_itself path_cmp path_cmp_total t (rising_from_is_sorted path_cmp t h.sorted))))
  where
    fits : (y : Path) (i : ℕ) → IsTrue (is_place y) → i < 4294967296 → IsSome (tree_blocks t p y i)
        → is_at_or_inside y from ≡ true → (b : Bool) → is_le (key_cmp next (key y i)) ≡ b
        → fits_field (replanted from to y) ≡ true
    fits y i valid m there inside true l =
        absurd (no_block (tree_blocks t p y i) there
        (lacks_block next from (tree_blocks t p) (pairs t p) y i (tree_has_blocks t p h).has lacks valid m inside l))
    fits y i valid m there inside false l = part.fits y i valid m there inside (below_from_not_le next (key y i) l)

    attribute_fits : (e : Path × Entry) → IsEntry t e → find path_cmp e.0 t ≡ Some e.1 → is_at_or_inside e.0 from ≡ true
        → (a : Name × List ℕ) → IsAttribute e.0 a → find name_cmp a.0 e.1.attributes ≡ Some a.1
        → not (fits_attribute (replanted from to e.0) a.0) ≡ false
    attribute_fits e of found inside a is there =
        let place = place_of_attribute e.0 a.0 of.path is.name is.fits in
        let block : tree_blocks t p (attribute_place e.0 a.0) 0 ≡ Some (attribute_value a.1) =
        attribute_blocks t p.version e.0 a.0 0 h
        ∙ ap (λ o. attribute_block (attributes_of o) (attribute_mark ∷ a.0) 0) found
        ∙ ap (option_map attribute_value) there in
        ap not (ap fits_field (sym (replanted_attribute from to e.0 a.0 inside))
        ∙ fits (attribute_place e.0 a.0) 0 place (omega arith) (subst IsSome (sym block) refl)
        (attribute_inside e.0 a.0 from path ∙ inside) (is_le (key_cmp next (key (attribute_place e.0 a.0) 0))) refl)

    short : (e : Path × Entry) → IsEntry t e → find path_cmp e.0 t ≡ Some e.1 → is_long from to e ≡ false
    short e of found = by_test (is_at_or_inside e.0 from) refl
      where
        by_test : (a : Bool) → is_at_or_inside e.0 from ≡ a
            → (a && is_too_long (replanted from to e.0) e.1.attributes) ≡ false
        by_test false i = refl
        by_test true i =
            ap₂ (λ a b. a || b)
            (ap not (fits e.0 0 (place_of_path e.0 of.path) (omega arith)
            (there_from (tree_blocks t p e.0 0)
            (first_block_there t p e.0 h of.below_root (found_stands t e.0 e.1 found))) i
            (is_le (key_cmp next (key e.0 0))) refl))
            (none_passes (λ a. not (fits_attribute (replanted from to e.0) a.0)) e.1.attributes
            (all_with (IsAttribute e.0) (λ a. find name_cmp a.0 e.1.attributes ≡ Some a.1)
            (λ a. not (fits_attribute (replanted from to e.0) a.0) ≡ false)
            (attribute_fits e of found i) e.1.attributes of.attributes.each
            (found_itself name_cmp name_cmp_total
            e.1.attributes (rising_from_is_sorted name_cmp e.1.attributes of.attributes.sorted))))

-- a place of the subtree that does not fit
one_grows : (t : Tree) (p : Parameters) (from to : Path) (k : List ℕ) → IsTree t → IsTrue (is_path from)
    → (within : IsBlockWithin from (tree_blocks t p) k) → fits_field (replanted from to within.at.place) ≡ false
    → true ≡ outgrows t from to
one_grows t p from to k h path within long = by_test (outgrows t from to) refl
  where
    by_test : (b : Bool) → outgrows t from to ≡ b → true ≡ outgrows t from to
    by_test true e = sym e
    by_test false e =
        absurd (both_ways _ long
        (place_fits t p from to within.at.place within.at.block h path e within.at.there within.within))

-- ---- the same, by what a search answered

abbrev pub Answered : Tree → Parameters → List ℕ → Path → Option (List ℕ) → Type 0
Answered t p next from found = Searched next from (pairs t p) found

-- what a key says of the place at which it stands
abbrev pub OfPlace : (Path → Type 0) → Path → List ℕ → Type 0
OfPlace P from k = (y : Path) (i : ℕ) → IsTrue (is_place y) → IsTrue (is_at_or_inside y from)
    → i < 4294967296 → k ≡ key y i → P y

pub next_tested : (t : Tree) (p : Parameters) (from to : Path) (turns : ℕ) (next after : List ℕ)
    (found : Option (List ℕ)) (k : List ℕ) → IsTree t → IsTrue (is_path from) → IsPartTested t p from to next turns
    → found ≡ Some k → Answered t p next from found
    → OfPlace (λ y. fits_field (replanted from to y) ≡ true) from k → OfPlace (λ y. after ≡ key y 4294967295) from k
    → IsPartTested t p from to after (turns + 1)
next_tested t p from to turns next after found k h path part is answer short at_last =
    let first = found_first next from (pairs t p) found k is answer in
    let within = first_within next from (tree_blocks t p) (pairs t p) k (tree_has_blocks t p h) path part.low first in
    let at = within.at in
    one_more_tested t p from to k turns next after h part first within
    (short at.place at.block at.valid within.within at.in_range at.key_is)
    (at_last at.place at.block at.valid within.within at.in_range at.key_is)

pub next_grows : (t : Tree) (p : Parameters) (from to : Path) (turns : ℕ) (next : List ℕ) (found : Option (List ℕ))
    (k : List ℕ) → IsTree t → IsTrue (is_path from) → IsPartTested t p from to next turns → found ≡ Some k
    → Answered t p next from found
    → OfPlace (λ y. fits_field (replanted from to y) ≡ false) from k → true ≡ outgrows t from to
next_grows t p from to turns next found k h path part is answer long =
    let within = first_within next from (tree_blocks t p) (pairs t p) k
    (tree_has_blocks t p h) path part.low (found_first next from (pairs t p) found k is answer) in
    let at = within.at in
    one_grows t p from to k h path within (long at.place at.block at.valid within.within at.in_range at.key_is)

pub none_grows : (t : Tree) (p : Parameters) (from to : Path) (turns : ℕ) (next : List ℕ) (found : Option (List ℕ))
    → IsTree t → IsTrue (is_path from) → IsPartTested t p from to next turns → ((k : List ℕ) → found ≡ Some k → ⊥)
    → Answered t p next from found → false ≡ outgrows t from to
none_grows t p from to turns next None h path part none lacks = all_tested t p from to next turns h path part lacks
none_grows t p from to turns next (Some k) h path part none first = absurd (none k refl)

pub few_tested : (state : PairsState) (t : Tree) (p : Parameters) (from to : Path) (next : List ℕ) (turns : ℕ)
    → HoldsTree state t p → length state.pairs ≤ most_pairs → IsPartTested t p from to next turns → turns ≤ most_pairs
few_tested state t p from to next turns holds few part = let counted = part.counted
    in omega (arith, ap length holds.pairs_are)

-- ---- the walk over the list

-- a walk that has come so far: no call of it failed, and the pairs are as they were
pub record HasWalked (old here : PairsState) : Type 0 where
  pub faults : here.faults ≡ old.faults
  pub keeps : KeepsPairs old here

-- and one search more
module _ (from : Path) (next : List ℕ) (old here new : PairsState) (found : Option (List ℕ))
    (walked : HasWalked old here) (search : FindsKey next from here new (Ok found)) where
  pub walks_on : HasWalked old new
  walks_on = record { faults = search.faults ∙ walked.faults; keeps = kept_on old here new walked.keeps search.keeps }

  -- what it answers of a tree that the list held at first
  pub answered : IsObservable old → (t : Tree) (p : Parameters) → HoldsTree old t p → Answered t p next from found
  answered seen t p holds = subst (λ (s : List Pair). Searched next from s found)
      (still_holds old here t p walked.keeps seen holds).pairs_are (search.found (walked.keeps.observable seen))

  -- what is told where it is the last
  pub told_growth : (to : Path) (grows : Bool)
      → (IsObservable old → (t : Tree) (p : Parameters) → HoldsTree old t p → grows ≡ outgrows t from to)
      → TellsGrowth from to old new (Ok grows)
  told_growth to grows told = record { faults = walks_on.faults; keeps = walks_on.keeps; told = told }

-- what a test of the field says
pub fits_from_some : (fits none : Bool) → none ≡ false → (fits ≡ false → none ≡ true) → fits ≡ true
fits_from_some true none e h = refl
fits_from_some false none e h = let is = h refl in cc
