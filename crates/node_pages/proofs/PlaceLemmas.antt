-- Lemmas on the search for a key among entries that rise by key, and on the entries after a change at its place.
use Rattle.std.proofs.Common.{◌≡◌, ℕ, zero, suc, ◌+◌, ◌<◌, ◌≤◌, List, [], ◌∷◌, map, length, get_or, Bool, true, false}
use Rattle.std.proofs.Common.{not, cond, IsTrue, Some, Result, Ok, Err, Ordering, Less, Equal, Greater, refl, sym, ap}
use Rattle.std.proofs.Common.{◌∙◌, subst, arith}
use Rattle.std.specs.Ordering.{is_eq, is_le, is_lt, ordering_reverse}
use Rattle.std.specs.List.{AllByRecursion, AllWithin, HoldsAt}
use Rattle.std.specs.List.Sorted.{IsStrictlySortedBy, IsSortedBy, IsSearchInRange, IsBinarySearchResult}
use Rattle.std.specs.FinMap.{find, put, is_sorted, slice_cmp-IsAntisymmetric, nat_cmp-IsAntisymmetric}
use Rattle.std.specs.FinMap.Entries.{by_order}
use Rattle.std.specs.Cmp.Lexicographic.{nat_list_cmp_total}
use Rattle.std.proofs.lemmas.List.{length-map}
use Rattle.std.proofs.lemmas.List.Sorted.{searchable_from_sorted}
use Rattle.std.proofs.lemmas.Simd.{map-map}
use Rattle.store_model.specs.Paths.{key_cmp}
use Rattle.store_model.proofs.ListsLemmas.{rising_from_is_sorted, rising_head, rising_tail}
use Rattle.store_model.proofs.TreesLemmasFewer.{find_below_all}
use Rattle.node_pages.specs.EntryPlaces.{without_key, next_entry, StandsAt, LacksAt, IsPlaceOf}

-- an entry: a key, and what stands under it
abbrev Entry : Type 0 → Type 0
Entry X = List ℕ × X

-- keys that tie are the same
pub same_key : (a b : List ℕ) → key_cmp a b ≡ Equal → a ≡ b
same_key a b e = slice_cmp-IsAntisymmetric nat_cmp-IsAntisymmetric a b e

-- the other way round
pub reversed : (a b : List ℕ) (o : Ordering) → key_cmp a b ≡ o → key_cmp b a ≡ ordering_reverse o
reversed a b o e = nat_list_cmp_total.antisymm b a ∙ ap ordering_reverse e

-- entries above the key stay where it is taken out
kept_above : {X : Type 0} (key : List ℕ) (s : List (Entry X)) → AllByRecursion (λ e. key_cmp key e.0 ≡ Less) s
    → without_key key s ≡ s
kept_above key [] h = refl
kept_above key (e ∷ s) h = ap (λ o. cond (not (is_eq o)) (e ∷ without_key key s) (without_key key s)) h.0
    ∙ ap (λ rest. e ∷ rest) (kept_above key s h.1)

-- the first entry is below the key: what each call makes of the list goes on behind it
module _ {X : Type 0} (e : Entry X) (s : List (Entry X)) (key : List ℕ) (greater : key_cmp key e.0 ≡ Greater) where
  find_behind : find key_cmp key (e ∷ s) ≡ find key_cmp key s
  find_behind = ap (λ o. cond (is_eq o) (Some e.1) (find key_cmp key s)) greater

  put_behind : (value : X) → put key_cmp key value (e ∷ s) ≡ e ∷ put key_cmp key value s
  put_behind value = ap (λ o. by_order o ((key, value) ∷ e ∷ s) ((e.0, value) ∷ s) (e ∷ put key_cmp key value s))
      greater

  take_behind : without_key key (e ∷ s) ≡ e ∷ without_key key s
  take_behind = ap (λ o. cond (not (is_eq o)) (e ∷ without_key key s) (without_key key s)) greater

  next_behind : next_entry key (e ∷ s) ≡ next_entry key s
  next_behind = ap (λ o. cond (is_le o) (Some e) (next_entry key s)) greater

  stands_behind : (at : ℕ) → StandsAt s key at → StandsAt (e ∷ s) key (suc at)
  stands_behind at h = record {
    within = let w = h.within in omega arith;
    found = λ d. find_behind ∙ h.found d;
    put = λ value. put_behind value ∙ ap (λ rest. e ∷ rest) (h.put value);
    taken = take_behind ∙ ap (λ rest. e ∷ rest) h.taken;
    next = next_behind ∙ h.next;
  }

  lacks_behind : (at : ℕ) → LacksAt s key at → LacksAt (e ∷ s) key (suc at)
  lacks_behind at h = record {
    within = let w = h.within in omega arith;
    found = find_behind ∙ h.found;
    put = λ value. put_behind value ∙ ap (λ rest. e ∷ rest) (h.put value);
    taken = take_behind ∙ ap (λ rest. e ∷ rest) h.taken;
    next = next_behind ∙ h.next;
  }

-- the first entry is the key's, and it is below all others
stands_first : {X : Type 0} (e : Entry X) (s : List (Entry X)) (key : List ℕ) → key_cmp key e.0 ≡ Equal
    → AllByRecursion (λ f. key_cmp key f.0 ≡ Less) s → StandsAt (e ∷ s) key 0
stands_first e s key equal above = record {
  within = omega arith;
  found = λ d. ap (λ o. cond (is_eq o) (Some e.1) (find key_cmp key s)) equal;
  put = λ value. ap (λ o. by_order o ((key, value) ∷ e ∷ s) ((e.0, value) ∷ s) (e ∷ put key_cmp key value s)) equal
      ∙ ap (λ (k : List ℕ). (k, value) ∷ s) (sym (same_key key e.0 equal));
  taken = ap (λ o. cond (not (is_eq o)) (e ∷ without_key key s) (without_key key s)) equal ∙ kept_above key s above;
  next = ap (λ o. cond (is_le o) (Some e) (next_entry key s)) equal;
}

-- the key is below the first entry and all others
lacks_first : {X : Type 0} (e : Entry X) (s : List (Entry X)) (key : List ℕ)
    → AllByRecursion (λ f. key_cmp key f.0 ≡ Less) (e ∷ s) → LacksAt (e ∷ s) key 0
lacks_first e s key above = record {
  within = omega arith;
  found = find_below_all key_cmp key (e ∷ s) above;
  put = λ value. ap (λ o. by_order o ((key, value) ∷ e ∷ s) ((e.0, value) ∷ s) (e ∷ put key_cmp key value s)) above.0;
  taken = kept_above key (e ∷ s) above;
  next = ap (λ o. cond (is_le o) (Some e) (next_entry key s)) above.0;
}

-- what holds of each element holds of the one at a place
at_place : {X : Type 0} (P : X → Type 0) (s : List X) (i : ℕ) (d : X) → AllByRecursion P s
    → i < length s → P (get_or s i d)
at_place P [] i d h below = absurd (omega arith)
at_place P (e ∷ s) zero d h below = h.0
at_place P (e ∷ s) (suc i) d h below = at_place P s i d h.1 (omega arith)

-- a entry whose key ties with the given one stands there
pub stands : {X : Type 0} (s : List (Entry X)) (key : List ℕ) (at : ℕ) → IsStrictlySortedBy (λ a b. key_cmp a.0 b.0) s
    → at < length s → HoldsAt (λ e. key_cmp e.0 key ≡ Equal) s at → StandsAt s key at
stands [] key at rising below h = absurd (omega arith)
stands (e ∷ s) key zero rising below h =
    let same : e.0 ≡ key = same_key e.0 key (h e) in
    stands_first e s key (reversed e.0 key Equal (h e))
    (subst (λ (k : List ℕ). AllByRecursion (λ f. key_cmp k f.0 ≡ Less) s) same
    (rising_head (λ a b. key_cmp a.0 b.0) e s rising))
stands (e ∷ s) key (suc at) rising below h =
    let below_rest : at < length s = omega arith in
    let same : (get_or s at e).0 ≡ key = same_key _ key (h e) in
    let less : key_cmp e.0 key ≡ Less =
    subst (λ (k : List ℕ). key_cmp e.0 k ≡ Less) same
    (at_place (λ f. key_cmp e.0 f.0 ≡ Less) s at e (rising_head (λ a b. key_cmp a.0 b.0) e s rising) below_rest) in
    stands_behind e s key (reversed e.0 key Less less) at
    (stands s key at (rising_tail (λ a b. key_cmp a.0 b.0) e s rising) below_rest h)

-- a key below the first entry of a sorted list is below all
above_from_first : {X : Type 0} (e : Entry X) (s : List (Entry X)) (key : List ℕ)
    → IsStrictlySortedBy (λ a b. key_cmp a.0 b.0) (e ∷ s) → key_cmp key e.0 ≡ Less
    → AllByRecursion (λ f. key_cmp key f.0 ≡ Less) (e ∷ s)
above_from_first {X = X} e s key rising less = (less, below_all s (rising_head (λ a b. key_cmp a.0 b.0) e s rising))
  where
    below_all : (fs : List (Entry X)) → AllByRecursion (λ f. key_cmp e.0 f.0 ≡ Less) fs
        → AllByRecursion (λ f. key_cmp key f.0 ≡ Less) fs
    below_all [] h = tt
    below_all (f ∷ fs) h = (nat_list_cmp_total.trans key e.0 f.0 less h.0, below_all fs h.1)

-- a key between the entries before a place and those from it on has its place there
pub lacks : {X : Type 0} (s : List (Entry X)) (key : List ℕ) (at : ℕ)
    → IsStrictlySortedBy (λ a b. key_cmp a.0 b.0) s → at ≤ length s
    → AllWithin (λ e. key_cmp e.0 key ≡ Less) s 0 at
    → AllWithin (λ e. key_cmp e.0 key ≡ Greater) s at (length s) → LacksAt s key at
lacks [] key zero rising within below above = record {
  within = omega arith;
  found = refl;
  put = λ value. refl;
  taken = refl;
  next = refl;
}
lacks [] key (suc at) rising within below above = absurd (omega arith)
lacks (e ∷ s) key zero rising within below above =
    lacks_first e s key (above_from_first e s key rising
    (reversed e.0 key Greater (above 0 e (omega arith) (omega arith))))
lacks (e ∷ s) key (suc at) rising within below above =
    lacks_behind e s key (reversed e.0 key Less (below 0 e (omega arith) (omega arith))) at
    (lacks s key at (rising_tail (λ a b. key_cmp a.0 b.0) e s rising) (omega arith)
    (λ k d low high. below (suc k) d (omega arith) (omega arith))
    (λ k d low high. above (suc k) d (omega arith) (omega arith)))

-- ---- entries as a function gives them of other items

module _ {X Y : Type 0} (f : Y → X) where
  -- the item that stands at a place, and what the function gives of it
  item_at : (ys : List Y) (k : ℕ) → k < length ys
      → (y : Y) × ((d : Y) → get_or ys k d ≡ y) × ((d : X) → get_or (map f ys) k d ≡ f y)
  item_at [] k below = absurd (omega arith)
  item_at (y ∷ ys) zero below = (y, λ d. refl, λ d. refl)
  item_at (y ∷ ys) (suc k) below = item_at ys k (omega arith)

  AllWithin-map : (P : X → Type 0) (ys : List Y) (i j : ℕ) → j ≤ length ys → AllWithin (λ y. P (f y)) ys i j
      → AllWithin P (map f ys) i j
  AllWithin-map P ys i j within h k d low high =
      let item = item_at ys k (omega arith) in
      subst P (sym (item.2 d)) (subst (λ y. P (f y)) (item.1 item.0) (h k item.0 low high))

  HoldsAt-map : (P : X → Type 0) (ys : List Y) (i : ℕ) → i < length ys → HoldsAt (λ y. P (f y)) ys i
      → HoldsAt P (map f ys) i
  HoldsAt-map P ys i below h d =
      let item = item_at ys i below in
      subst P (sym (item.2 d)) (subst (λ y. P (f y)) (item.1 item.0) (h item.0))

-- no key is below the one before it
pub neighbours : {X Y : Type 0} (f : Y → Entry X) (ys : List Y) → IsStrictlySortedBy (λ a b. key_cmp a.0 b.0) (map f ys)
    → IsSortedBy (λ (a b : Y). is_lt (key_cmp (f a).0 (f b).0)) ys
neighbours f [] h k d low high = absurd (omega arith)
neighbours f (p ∷ []) h k d low high = absurd (omega arith)
neighbours f (p ∷ q ∷ s) h zero d low high =
    ap is_lt (reversed (f p).0 (f q).0 Less (rising_head (λ a b. key_cmp a.0 b.0) (f p) (map f (q ∷ s)) h).0)
neighbours f (p ∷ q ∷ s) h (suc k) d low high =
    let next : suc k + 1 ≡ suc (k + 1) = omega arith in
    subst (λ n. is_lt (key_cmp (f (get_or (p ∷ q ∷ s) n d)).0 (f (get_or (q ∷ s) k d)).0) ≡ false) (sym next)
    (neighbours f (q ∷ s) (rising_tail (λ a b. key_cmp a.0 b.0) (f p) (map f (q ∷ s)) h) k d
    (omega arith) (omega arith))

-- what a binary search among items answers for the entries that they stand for
pub searched_by : {X Y : Type 0} (f : Y → Entry X) (ys : List Y) (key : List ℕ) (result : Result ℕ ℕ)
    → IsTrue (is_sorted key_cmp (map f ys))
    → IsSearchInRange result (length ys) → IsBinarySearchResult (λ y. key_cmp (f y).0 key) ys result
    → IsPlaceOf (map f ys) key result
searched_by f ys key (Ok at) sorted range at_key =
    let within : at < length (map f ys) = omega (arith, length-map ys f) in
    stands (map f ys) key at (rising_from_is_sorted key_cmp (map f ys) sorted) within
    (HoldsAt-map f (λ e. key_cmp e.0 key ≡ Equal) ys at range at_key)
searched_by f ys key (Err at) sorted range parted =
    let rising = rising_from_is_sorted key_cmp (map f ys) sorted in
    let parts = parted (searchable_from_sorted nat_list_cmp_total (λ y. (f y).0) ys key (neighbours f ys rising)) in
    let long = length-map ys f in
    lacks (map f ys) key at rising (omega arith) (AllWithin-map f (λ e. key_cmp e.0 key ≡ Less) ys 0 at range parts.0)
    (subst (λ n. AllWithin (λ e. key_cmp e.0 key ≡ Greater) (map f ys) at n) (sym long)
    (AllWithin-map f (λ e. key_cmp e.0 key ≡ Greater) ys at (length ys) (omega arith) parts.1))

-- the same where the items stand for entries in two steps
pub searched_through : {X Y Z : Type 0} (g : Z → Entry X) (f : Y → Z) (ys : List Y) (key : List ℕ) (result : Result ℕ ℕ)
    → IsTrue (is_sorted key_cmp (map g (map f ys)))
    → IsSearchInRange result (length ys) → IsBinarySearchResult (λ y. key_cmp (g (f y)).0 key) ys result
    → IsPlaceOf (map g (map f ys)) key result
searched_through g f ys key result sorted range found =
    subst (λ es. IsPlaceOf es key result) (sym (map-map g f ys))
    (searched_by (λ y. g (f y)) ys key result
    (subst (λ es. IsTrue (is_sorted key_cmp es)) (map-map g f ys) sorted) range found)

same_items : {X : Type 0} (xs : List X) → map (λ x. x) xs ≡ xs
same_items [] = refl
same_items (x ∷ xs) = ap (λ rest. x ∷ rest) (same_items xs)

-- what a binary search among entries answers
pub searched : {X : Type 0} (es : List (Entry X)) (key : List ℕ) (result : Result ℕ ℕ) → IsTrue (is_sorted key_cmp es)
    → IsSearchInRange result (length es) → IsBinarySearchResult (λ e. key_cmp e.0 key) es result
    → IsPlaceOf es key result
searched es key result sorted range found =
    subst (λ xs. IsPlaceOf xs key result) (same_items es)
    (searched_by (λ e. e) es key result
    (subst (λ xs. IsTrue (is_sorted key_cmp xs)) (sym (same_items es)) sorted) range found)

-- ---- cases

-- what holds of either of two lists holds of the one that a test picks
pub either : {X : Type 0} (P : X → Type 0) (b : Bool) (x y : X) → P x → P y → P (cond b x y)
either P true x y h g = h
either P false x y h g = g
