-- Lemmas on lists with some elements left out: fewer keys need no more pages.
use Rattle.std.proofs.Common.{◌≡◌, ℕ, suc, ◌+◌, ◌≤◌, List, [], ◌∷◌, ◌++◌, map, length, Bool, true, false, ◌⊎◌, inl, inr}
use Rattle.std.proofs.Common.{cond, nat_le, nat_lt, ◌==◌, IsTrue, Option, Some, None, is_some, Ordering, Less, Equal}
use Rattle.std.proofs.Common.{Greater, refl, sym, ap, ap₂, subst, ◌∙◌, arith, add-one}
use Rattle.std.specs.Ordering.{is_eq, eq_by_cmp, ordering_reverse}
use Rattle.std.specs.Cmp.{IsTotalOrder, tied_itself}
use Rattle.std.specs.Cmp.Lexicographic.{nat_list_cmp_total}
use Rattle.std.specs.List.{AllByRecursion, filter, flat_map, enumerate_from}
use Rattle.std.specs.List.Sorted.{IsStrictlySortedBy}
use Rattle.std.specs.FinMap.{find, is_sorted, slice_cmp-IsAntisymmetric, nat_cmp-IsAntisymmetric}
use Rattle.std.proofs.lemmas.List.{length-append, length-map}
use Rattle.std.proofs.lemmas.List.FromFn.{length-enumerate_from}
use Rattle.std.proofs.lemmas.Bool.{both_ways, false_from_ne_true}
use Rattle.store_model.specs.Lists.{run_count, runs, onto_part, cut_before, numbers_below}
use Rattle.store_model.specs.Paths.{key_cmp}
use Rattle.store_model.specs.Labels.{Lead}
use Rattle.store_model.specs.Draws.{Draw}
use Rattle.store_model.specs.Pairs.{Pair}
use Rattle.store_model.specs.Pages.{Cell, page_room, cell_on, level_list, leads_group, groups, lead_of, group_pages}
use Rattle.store_model.specs.Pages.{level_pages, pages_of_pairs}
use Rattle.store_model.proofs.ListsLemmas.{all_weaker, length-runs, rising_head, rising_tail, rising_from_is_sorted}
use Rattle.store_model.proofs.PagesLemmasOrder.{cell_on-key}
use Rattle.store_model.proofs.TreesLemmasPaths.{tie_from_test}

-- ---- a list with some elements left out

-- ys is xs with some elements left out
abbrev pub IsThinned : {X : Type 0} → List X → List X → Type 0
IsThinned ys [] = ys ≡ []
IsThinned {X} ys (x ∷ xs) = IsThinned ys xs ⊎ ((zs : List X) × (ys ≡ x ∷ zs) × IsThinned zs xs)

-- none is left out
pub thinned_self : {X : Type 0} (xs : List X) → IsThinned xs xs
thinned_self [] = refl
thinned_self (x ∷ xs) = inr (xs, refl, thinned_self xs)

-- each is left out
pub thinned_nil : {X : Type 0} (xs : List X) → IsThinned [] xs
thinned_nil [] = refl
thinned_nil (x ∷ xs) = inl (thinned_nil xs)

-- from each of two lists in a row
pub thinned_append : {X : Type 0} (ys vs xs us : List X) → IsThinned ys xs → IsThinned vs us
    → IsThinned (ys ++ vs) (xs ++ us)
thinned_append ys vs [] us h g = subst (λ zs. IsThinned (zs ++ vs) us) (sym h) g
thinned_append ys vs (x ∷ xs) us (inl h) g = inl (thinned_append ys vs xs us h g)
thinned_append ys vs (x ∷ xs) us (inr h) g = inr (h.0 ++ vs, ap (λ zs. zs ++ vs) h.1, thinned_append h.0 vs xs us h.2 g)

-- those that a test does not keep
pub thinned_filter : {X : Type 0} (test : X → Bool) (xs : List X) → IsThinned (filter test xs) xs
thinned_filter test [] = refl
thinned_filter test (x ∷ xs) =
    let rest = thinned_filter test xs in
    elim (test x) as (λ b. IsThinned (cond b (x ∷ filter test xs) (filter test xs)) (x ∷ xs))
    [ true ↦ inr (filter test xs, refl, rest) | false ↦ inl rest ]

-- and then a filter of both
pub thinned_filters : {X : Type 0} (test : X → Bool) (ys xs : List X) → IsThinned ys xs
    → IsThinned (filter test ys) (filter test xs)
thinned_filters test ys [] h = ap (filter test) h
thinned_filters test ys (x ∷ xs) (inl h) =
    let rest = thinned_filters test ys xs h in
    elim (test x) as (λ b. IsThinned (filter test ys) (cond b (x ∷ filter test xs) (filter test xs)))
    [ true ↦ inl rest | false ↦ rest ]
thinned_filters test ys (x ∷ xs) (inr h) =
    let rest = thinned_filters test h.0 xs h.2 in
    subst (λ zs. IsThinned (filter test zs) (filter test (x ∷ xs))) (sym h.1)
    (elim (test x) as (λ b. IsThinned (cond b (x ∷ filter test h.0) (filter test h.0))
    (cond b (x ∷ filter test xs) (filter test xs))) [ true ↦ inr (filter test h.0, refl, rest) | false ↦ rest ])

-- ---- what the groups of a list cost

-- a cost of groups by their lengths, which no split lowers
pub record IsCost (cost : ℕ → ℕ) : Type 0 where
  pub none : cost 0 ≡ 0
  pub more : (m n : ℕ) → m ≤ n → cost m ≤ cost n
  pub together : (m n : ℕ) → cost (m + n) ≤ cost m + cost n

-- what the groups cost that a list is cut into, where n elements stand in front of it
cost_from : {X : Type 0} → (ℕ → ℕ) → (X → Bool) → ℕ → List X → ℕ
cost_from cost cuts n [] = cost n
cost_from cost cuts n (x ∷ xs) = cond (cuts x) (cost n + cost_from cost cuts 1 xs) (cost_from cost cuts (suc n) xs)

module _ {X : Type 0} (cost : ℕ → ℕ) (cuts : X → Bool) (law : IsCost cost) where
  -- more elements in front cost no less
  cost_more : (m n : ℕ) (xs : List X) → m ≤ n → cost_from cost cuts m xs ≤ cost_from cost cuts n xs
  unfolding cost_from
  cost_more m n [] l = law.more m n l
  cost_more m n (x ∷ xs) l =
      let own = law.more m n l in
      let later = cost_more (suc m) (suc n) xs (omega arith) in
      elim (cuts x) as (λ b. cond b (cost m + cost_from cost cuts 1 xs) (cost_from cost cuts (suc m) xs)
      ≤ cond b (cost n + cost_from cost cuts 1 xs) (cost_from cost cuts (suc n) xs))
      [ true ↦ omega arith | false ↦ later ]

  -- elements in front cost no more in a group of their own
  cost_together : (m n : ℕ) (xs : List X) → cost_from cost cuts (m + n) xs ≤ cost m + cost_from cost cuts n xs
  unfolding cost_from
  cost_together m n [] = law.together m n
  cost_together m n (x ∷ xs) =
      let own = law.together m n in
      let next : m + suc n ≡ suc (m + n) = omega arith in
      let later = subst (λ k. cost_from cost cuts k xs ≤ cost m + cost_from cost cuts (suc n) xs) next
      (cost_together m (suc n) xs) in
      elim (cuts x) as (λ b. cond b (cost (m + n) + cost_from cost cuts 1 xs) (cost_from cost cuts (suc (m + n)) xs)
      ≤ cost m + cond b (cost n + cost_from cost cuts 1 xs) (cost_from cost cuts (suc n) xs))
      [ true ↦ omega arith | false ↦ later ]

  -- a list costs no more without its first element
  cost_without : (n : ℕ) (x : X) (xs : List X) → cost_from cost cuts n xs ≤ cost_from cost cuts n (x ∷ xs)
  unfolding cost_from
  cost_without n x xs =
      let one = cost_more n (n + 1) xs (omega arith) in
      let own = cost_together n 1 xs in
      elim (cuts x) as (λ b. cost_from cost cuts n xs
      ≤ cond b (cost n + cost_from cost cuts 1 xs) (cost_from cost cuts (suc n) xs))
      [ true ↦ omega arith | false ↦ cost_more n (suc n) xs (omega arith) ]

  -- nor with some elements left out
  cost_thinned : (n : ℕ) (ys xs : List X) → IsThinned ys xs → cost_from cost cuts n ys ≤ cost_from cost cuts n xs
  unfolding cost_from
  cost_thinned n ys [] h = omega (arith, ap (cost_from cost cuts n) h)
  cost_thinned n ys (x ∷ xs) (inl h) = let rest = cost_thinned n ys xs h in let own = cost_without n x xs in omega arith
  cost_thinned n ys (x ∷ xs) (inr h) =
      let apart = cost_thinned 1 h.0 xs h.2 in
      let later = cost_thinned (suc n) h.0 xs h.2 in
      subst (λ zs. cost_from cost cuts n zs ≤ cost_from cost cuts n (x ∷ xs)) (sym h.1)
      (elim (cuts x) as (λ b. cond b (cost n + cost_from cost cuts 1 h.0) (cost_from cost cuts (suc n) h.0)
      ≤ cond b (cost n + cost_from cost cuts 1 xs) (cost_from cost cuts (suc n) xs))
      [ true ↦ omega arith | false ↦ later ])

-- what parts cost, each by its length
parts_cost : {X : Type 0} → (ℕ → ℕ) → List (List X) → ℕ
parts_cost cost [] = 0
parts_cost cost (part ∷ parts) = cost (length part) + parts_cost cost parts

-- the same, with n elements in front, which join the first part unless that is cut from them
parts_cost_from : {X : Type 0} → (ℕ → ℕ) → (X → Bool) → ℕ → List (List X) → ℕ
parts_cost_from cost cuts n [] = cost n
parts_cost_from cost cuts n ([] ∷ parts) = cost n + parts_cost cost parts
parts_cost_from cost cuts n ((y ∷ part) ∷ parts) =
    cond (cuts y) (cost n + parts_cost cost ((y ∷ part) ∷ parts)) (cost (n + length (y ∷ part)) + parts_cost cost parts)

-- an element put in front of parts
parts_cost-onto_part : {X : Type 0} (cost : ℕ → ℕ) (cuts : X → Bool) (n : ℕ) (x : X) (parts : List (List X))
    → parts_cost_from cost cuts n (onto_part cuts x parts)
    ≡ cond (cuts x) (cost n + parts_cost_from cost cuts 1 parts) (parts_cost_from cost cuts (suc n) parts)
unfolding onto_part parts_cost parts_cost_from
parts_cost-onto_part cost cuts n x [] =
    elim (cuts x) as (λ b. cond b (cost n + (cost 1 + 0)) (cost (n + 1) + 0) ≡ cond b (cost n + cost 1) (cost (suc n)))
    [ true ↦ omega arith | false ↦ omega (arith, ap cost (add-one n)) ]
parts_cost-onto_part cost cuts n x ([] ∷ parts) =
    elim (cuts x) as (λ b. cond b (cost n + (cost 1 + parts_cost cost parts)) (cost (n + 1) + parts_cost cost parts)
    ≡ cond b (cost n + (cost 1 + parts_cost cost parts)) (cost (suc n) + parts_cost cost parts)) [
      | true ↦ refl
      | false ↦ omega (arith, ap cost (add-one n))
    ]
parts_cost-onto_part cost cuts n x ((y ∷ part) ∷ parts) =
    elim (cuts y) as (λ c. parts_cost_from cost cuts n (cond c ((x ∷ []) ∷ (y ∷ part) ∷ parts) ((x ∷ y ∷ part) ∷ parts))
    ≡ cond (cuts x) (cost n + cond c (cost 1 + parts_cost cost ((y ∷ part) ∷ parts))
    (cost (1 + suc (length part)) + parts_cost cost parts))
    (cond c (cost (suc n) + parts_cost cost ((y ∷ part) ∷ parts))
    (cost (suc n + suc (length part)) + parts_cost cost parts))) [
      | true ↦ elim (cuts x) as (λ b. cond b (cost n + (cost 1 + parts_cost cost ((y ∷ part) ∷ parts)))
          (cost (n + 1) + parts_cost cost ((y ∷ part) ∷ parts))
          ≡ cond b (cost n + (cost 1 + parts_cost cost ((y ∷ part) ∷ parts)))
          (cost (suc n) + parts_cost cost ((y ∷ part) ∷ parts))) [
            | true ↦ refl
            | false ↦ ap (λ k. cost k + parts_cost cost ((y ∷ part) ∷ parts)) (add-one n)
          ]
      | false ↦ elim (cuts x) as (λ b. cond b (cost n + (cost (suc (suc (length part))) + parts_cost cost parts))
          (cost (n + suc (suc (length part))) + parts_cost cost parts)
          ≡ cond b (cost n + (cost (1 + suc (length part)) + parts_cost cost parts))
          (cost (suc n + suc (length part)) + parts_cost cost parts)) [
            | true ↦ (let e : suc (suc (length part)) ≡ 1 + suc (length part) = omega arith
                in ap (λ k. cost n + (cost k + parts_cost cost parts)) e)
            | false ↦ (let e : n + suc (suc (length part)) ≡ suc n + suc (length part) = omega arith
                in ap (λ k. cost k + parts_cost cost parts) e)
          ]
    ]

-- the parts that a list is cut into
parts_cost-cut_before : {X : Type 0} (cost : ℕ → ℕ) (cuts : X → Bool) (n : ℕ) (xs : List X)
    → parts_cost_from cost cuts n (cut_before cuts xs) ≡ cost_from cost cuts n xs
unfolding cut_before cost_from parts_cost_from
parts_cost-cut_before cost cuts n [] = refl
parts_cost-cut_before cost cuts n (x ∷ xs) =
    parts_cost-onto_part cost cuts n x (cut_before cuts xs)
    ∙ ap₂ (λ a b. cond (cuts x) (cost n + a) b) (parts_cost-cut_before cost cuts 1 xs)
    (parts_cost-cut_before cost cuts (suc n) xs)

-- with no element in front
parts_cost_from_none : {X : Type 0} (cost : ℕ → ℕ) (cuts : X → Bool) (parts : List (List X)) → cost 0 ≡ 0
    → parts_cost_from cost cuts 0 parts ≡ parts_cost cost parts
unfolding parts_cost parts_cost_from
parts_cost_from_none cost cuts [] e = e
parts_cost_from_none cost cuts ([] ∷ parts) e = refl
parts_cost_from_none cost cuts ((y ∷ part) ∷ parts) e =
    elim (cuts y) as (λ b. cond b (cost 0 + (cost (suc (length part)) + parts_cost cost parts))
    (cost (0 + suc (length part)) + parts_cost cost parts) ≡ cost (suc (length part)) + parts_cost cost parts) [
      | true ↦ omega arith
      | false ↦ (let same : 0 + suc (length part) ≡ suc (length part) = omega arith
          in ap (λ k. cost k + parts_cost cost parts) same)
    ]

-- ---- the pages of a list of pairs, by its keys

-- a run count is a cost
cost_of_runs : (level : ℕ) → IsCost (run_count (page_room level))
cost_of_runs level = elim (level == 0) as (λ b. IsCost (run_count (cond b 10 31))) [
  | true ↦ record { none = refl; more = λ m n l. omega arith; together = λ m n. omega arith }
  | false ↦ record { none = refl; more = λ m n l. omega arith; together = λ m n. omega arith }
]

-- how many pages a group has
length-group_pages : (level : ℕ) (lead : Lead) (cells : List Cell)
    → length (group_pages level lead cells) ≡ run_count (page_room level) (length cells)
unfolding group_pages
length-group_pages level lead cells =
    length-map (enumerate_from 0 (runs (page_room level) cells)) _
    ∙ length-enumerate_from 0 (runs (page_room level) cells) ∙ length-runs (page_room level) cells

-- parts that become as many elements as they cost
length-flat_map_parts : {X Y : Type 0} (cost : ℕ → ℕ) (f : List X → List Y) (parts : List (List X))
    → ((part : List X) → length (f part) ≡ cost (length part)) → length (flat_map f parts) ≡ parts_cost cost parts
unfolding parts_cost
length-flat_map_parts cost f [] e = refl
length-flat_map_parts cost f (part ∷ parts) e =
    length-append (f part) (flat_map f parts) ∙ ap₂ (λ a b. a + b) (e part) (length-flat_map_parts cost f parts e)

-- the keys of a list of pairs
abbrev pub keys_of : List Pair → List (List ℕ)
keys_of s = map (λ pair. pair.0) s

-- whether a list of keys is cut before a key
abbrev leads_level : Draw → ℕ → List ℕ → Bool
leads_level d level k = nat_lt level (d.level k)

-- whether a key stands on a level
abbrev on_level : Draw → ℕ → List ℕ → Bool
on_level d level k = nat_le level (d.level k)

-- cells cost what their keys cost
cost_of_cells : (cost : ℕ → ℕ) (d : Draw) (level n : ℕ) (s : List Pair)
    → cost_from cost (leads_group d level) n (map (cell_on level) (filter (λ pair. on_level d level pair.0) s))
    ≡ cost_from cost (leads_level d level) n (filter (on_level d level) (keys_of s))
unfolding cost_from
cost_of_cells cost d level n [] = refl
cost_of_cells cost d level n (pair ∷ s) =
    let apart = cost_of_cells cost d level 1 s in
    let later = cost_of_cells cost d level (suc n) s in
    let rest = cost_of_cells cost d level n s in
    let cells = filter (λ pair. on_level d level pair.0) s in
    elim (on_level d level pair.0) as
    (λ b. cost_from cost (leads_group d level) n (map (cell_on level) (cond b (pair ∷ cells) cells))
    ≡ cost_from cost (leads_level d level) n
    (cond b (pair.0 ∷ filter (on_level d level) (keys_of s)) (filter (on_level d level) (keys_of s)))) [
      | true ↦ λ i. cond (leads_level d level (cell_on-key level pair i)) (cost n + apart i) (later i)
      | false ↦ rest
    ]

-- how many pages a level has, by the keys
length-level_pages : (d : Draw) (s : List Pair) (level : ℕ)
    → length (level_pages d s level) ≡ cost_from (run_count (page_room level)) (leads_level d level) 0
    (filter (on_level d level) (keys_of s))
unfolding level_pages groups level_list
length-level_pages d s level =
    length-flat_map_parts (run_count (page_room level)) (λ cells. group_pages level (lead_of d level cells) cells)
    (groups d s level) (λ cells. length-group_pages level (lead_of d level cells) cells)
    ∙ sym (parts_cost_from_none (run_count (page_room level)) (leads_group d level) (groups d s level)
    (cost_of_runs level).none)
    ∙ parts_cost-cut_before (run_count (page_room level)) (leads_group d level) 0 (level_list d s level)
    ∙ cost_of_cells (run_count (page_room level)) d level 0 s

-- lists that are no longer, joined
length-flat_map-le : {X Y : Type 0} (f g : X → List Y) (xs : List X) → ((x : X) → length (f x) ≤ length (g x))
    → length (flat_map f xs) ≤ length (flat_map g xs)
length-flat_map-le f g [] l = omega arith
length-flat_map-le f g (x ∷ xs) l =
    let first = l x in
    let rest = length-flat_map-le f g xs l in
    omega (arith, length-append (f x) (flat_map f xs), length-append (g x) (flat_map g xs))

-- a level has no more pages with some keys left out
level_pages_of_thinned : (d : Draw) (r s : List Pair) (level : ℕ) → IsThinned (keys_of r) (keys_of s)
    → length (level_pages d r level) ≤ length (level_pages d s level)
level_pages_of_thinned d r s level h =
    let fewer = cost_thinned (run_count (page_room level)) (leads_level d level) (cost_of_runs level) 0
    (filter (on_level d level) (keys_of r)) (filter (on_level d level) (keys_of s))
    (thinned_filters (on_level d level) (keys_of r) (keys_of s) h) in
    omega (arith, length-level_pages d r level, length-level_pages d s level)

-- nor has a list of pairs
pub pages_of_thinned : (d : Draw) (r s : List Pair) → IsThinned (keys_of r) (keys_of s)
    → length (pages_of_pairs d r) ≤ length (pages_of_pairs d s)
unfolding pages_of_pairs
pages_of_thinned d r s h = length-flat_map-le (level_pages d r) (level_pages d s) (numbers_below d.height)
    (λ level. level_pages_of_thinned d r s level h)

-- a list of pairs whose keys are those of another that pass a test
pub pages_of_kept : (d : Draw) (r s : List Pair) (kept : List ℕ → Bool) → keys_of r ≡ filter kept (keys_of s)
    → length (pages_of_pairs d r) ≤ length (pages_of_pairs d s)
pages_of_kept d r s kept e = pages_of_thinned d r s
    (subst (λ ks. IsThinned ks (keys_of s)) (sym e) (thinned_filter kept (keys_of s)))

-- ---- sorted lists, each of whose keys is one of another's

-- a key below all others is not found
pub find_below_all : {K X : Type 0} (c : K → K → Ordering) (k : K) (es : List (K × X))
    → AllByRecursion (λ e. c k e.0 ≡ Less) es → find c k es ≡ None
find_below_all c k [] h = refl
find_below_all c k (e ∷ es) h = ap (λ o. cond (is_eq o) (Some e.1) (find c k es)) h.0 ∙ find_below_all c k es h.1

-- a key below one that is below all others is below them
below_by_one : {K X : Type 0} {c : K → K → Ordering} (o : IsTotalOrder c) (k m : K) (es : List (K × X)) → c k m ≡ Less
    → AllByRecursion (λ e. c m e.0 ≡ Less) es → AllByRecursion (λ e. c k e.0 ≡ Less) es
below_by_one o k m es l h = all_weaker _ _ (λ e g. o.trans k m e.0 l g) es h

-- a key that is found in a sorted list is not below its first
pub not_below_first : {K X : Type 0} {c : K → K → Ordering} (o : IsTotalOrder c) (k : K) (e : K × X) (es : List (K × X))
    → AllByRecursion (λ f. c e.0 f.0 ≡ Less) es → c k e.0 ≡ Less → is_some (find c k (e ∷ es)) ≡ true → ⊥
not_below_first {c = c} o k e es h l is =
    both_ways _ (ap is_some (find_below_all c k (e ∷ es) (l, below_by_one o k e.0 es l h))) is

-- a test that fails, of what is found behind the first entry
behind_first : {X : Type 0} (b : Bool) (x : X) (o : Option X) → b ≡ false
    → is_some (cond b (Some x) o) ≡ true → is_some o ≡ true
behind_first true x o e h = cc
behind_first false x o e h = h

-- what is found behind the first entry is found
with_first : {X : Type 0} (b : Bool) (x : X) (o : Option X) → is_some o ≡ true → is_some (cond b (Some x) o) ≡ true
with_first true x o h = refl
with_first false x o h = h

module _ {K X : Type 0} (c : K → K → Ordering) (o : IsTotalOrder c) (same : (x y : K) → c x y ≡ Equal → x ≡ y) where
  -- a key that is found in one sorted list is found in the other
  abbrev IsFoundIn : List (K × X) → List (K × X) → Type 0
  IsFoundIn r s = (k : K) → is_some (find c k r) ≡ true → is_some (find c k s) ≡ true

  -- the first entry is found
  first_found : (e : K × X) (es : List (K × X)) → is_some (find c e.0 (e ∷ es)) ≡ true
  first_found e es = ap (λ r. is_some (cond (is_eq r) (Some e.1) (find c e.0 es))) (tied_itself o e.0)

  -- a key that is found in r, which has no entry at the first key of s, is found behind it
  found_behind : (f : K × X) (r s : List (K × X)) → IsFoundIn r (f ∷ s)
      → (is_some (find c f.0 r) ≡ true → ⊥) → IsFoundIn r s
  found_behind f r s h apart k is =
      behind_first (eq_by_cmp c k f.0) f.1 (find c k s)
      (false_from_ne_true _
      (λ t. apart (ap (λ q. is_some (find c q r)) (sym (same k f.0 (tie_from_test (c k f.0) t))) ∙ is))) (h k is)

  -- so its keys are the other's with some left out
  thinned_keys : (r s : List (K × X)) → IsStrictlySortedBy (λ a b. c a.0 b.0) r
      → IsStrictlySortedBy (λ a b. c a.0 b.0) s → IsFoundIn r s → IsThinned (map (λ e. e.0) r) (map (λ e. e.0) s)
  thinned_keys [] s g h sub = thinned_nil (map (λ e. e.0) s)
  thinned_keys (e ∷ r) [] g h sub = absurd (both_ways _ refl (sub e.0 (first_found e r)))
  thinned_keys (e ∷ r) (f ∷ s) g h sub =
      (elim (c e.0 f.0) as (λ w. c e.0 f.0 ≡ w → IsThinned (map (λ e. e.0) (e ∷ r)) (map (λ e. e.0) (f ∷ s))) [
        | Less ↦ λ l. absurd (not_below_first o e.0 f s (rising_head _ f s h) l (sub e.0 (first_found e r)))
        | Equal ↦ λ l.
            let one = same e.0 f.0 l in
            let none : is_some (find c f.0 r) ≡ true → ⊥ =
            both_ways _
            (ap is_some (find_below_all c f.0 r
            (subst (λ k. AllByRecursion (λ x. c k x.0 ≡ Less) r) one (rising_head _ e r g)))) in
            inr (
              map (λ e. e.0) r,
              ap (λ k. k ∷ map (λ e. e.0) r) one,
              thinned_keys r s (rising_tail _ e r g)
                  (rising_tail _ f s h)
                  (found_behind f r s (λ k is. sub k (with_first (eq_by_cmp c k e.0) e.1 (find c k r) is)) none),
            )
        | Greater ↦ λ l. inl (thinned_keys (e ∷ r) s g (rising_tail _ f s h)
            (found_behind f (e ∷ r) s sub
            (not_below_first o f.0 e r (rising_head _ e r g) (o.antisymm f.0 e.0 ∙ ap ordering_reverse l))))
      ]) refl

-- a sorted list of pairs, each of whose keys is one of another's
pub pages_of_subset : (d : Draw) (r s : List Pair) → IsTrue (is_sorted key_cmp r) → IsTrue (is_sorted key_cmp s)
    → ((k : List ℕ) → is_some (find key_cmp k r) ≡ true → is_some (find key_cmp k s) ≡ true)
    → length (pages_of_pairs d r) ≤ length (pages_of_pairs d s)
pages_of_subset d r s g h sub =
    pages_of_thinned d r s (thinned_keys key_cmp nat_list_cmp_total (slice_cmp-IsAntisymmetric nat_cmp-IsAntisymmetric)
    r s (rising_from_is_sorted key_cmp r g) (rising_from_is_sorted key_cmp s h) sub)
