-- The place of a key on level 0 is that of every key between what leads its group and the next leader.
use Rattle.std.proofs.Common.{◌≡◌, ℕ, List, [], ◌∷◌, map, filter, Bool, true, false, not, cond, nat_lt, Option, Some}
use Rattle.std.proofs.Common.{None, Less, Equal, Greater, refl, sym, ap, subst, ◌∙◌}
use Rattle.std.specs.Ordering.{is_le, is_lt}
use Rattle.std.specs.declared.cmp.Ordering.{Ordering}
use Rattle.std.specs.List.{AllByRecursion, slice_get}
use Rattle.std.specs.List.Sorted.{IsStrictlySortedBy}
use Rattle.std.specs.Cmp.{tied_itself, both_ways}
use Rattle.std.specs.Cmp.Lexicographic.{nat_list_cmp_total}
use Rattle.std.specs.BTreeMap.Comparable.{le_lt_trans}
use Rattle.store_base.specs.Leads.{model_lead}
use Rattle.store_model.specs.Paths.{key_cmp}
use Rattle.store_model.specs.Draws.{Draw}
use Rattle.store_model.specs.Labels.{Lead}
use Rattle.store_model.specs.Labels.Lead.{Start, Leader}
use Rattle.store_model.specs.Pairs.{Pair, IsPairs}
use Rattle.store_model.proofs.ListsLemmas.{all_filter, all_weaker, rising_head, rising_tail, rising_from_is_sorted}
use Rattle.node_pages.proofs.PlaceLemmas.{same_key}
use Rattle.skip_levels.specs.declared.walk.PathEnd.{PathEnd}
use Rattle.skip_levels.specs.SearchPath.{last_lead, not_above, above}
use Rattle.skip_levels.specs.Descent.{IsPlace, LiesIn, IsKnownGroup, is_from, is_before}

-- ---- keys in order

le_after_less : (a b c : List ℕ) → key_cmp a b ≡ Less → is_le (key_cmp b c) ≡ true → is_le (key_cmp a c) ≡ true
le_after_less a b c less le =
    elim (key_cmp b c) as (λ o. key_cmp b c ≡ o → is_le o ≡ true → is_le (key_cmp a c) ≡ true) [
      | Less ↦ λ e h. ap is_le (nat_list_cmp_total.trans a b c less e)
      | Equal ↦ λ e h. ap is_le (subst (λ k. key_cmp a k ≡ Less) (same_key b c e) less)
      | Greater ↦ λ e h. absurd (cc)
    ] refl le

le_trans : (a b c : List ℕ) → is_le (key_cmp a b) ≡ true → is_le (key_cmp b c) ≡ true → is_le (key_cmp a c) ≡ true
le_trans a b c first second =
    elim (key_cmp a b) as (λ o. key_cmp a b ≡ o → is_le o ≡ true → is_le (key_cmp a c) ≡ true) [
      | Less ↦ λ e h. le_after_less a b c e second
      | Equal ↦ λ e h. subst (λ k. is_le (key_cmp k c) ≡ true) (sym (same_key a b e)) second
      | Greater ↦ λ e h. absurd (cc)
    ] refl first

le_itself : (a : List ℕ) → is_le (key_cmp a a) ≡ true
le_itself a = ap is_le (tied_itself nat_list_cmp_total a)

-- ---- what is kept of a list

all_unkept : {X : Type 0} (P : X → Type 0) (q : X → Bool) (xs : List X) → AllByRecursion P (filter q xs)
    → AllByRecursion (λ x. q x ≡ true → P x) xs
all_unkept P q [] h = tt
all_unkept P q (x ∷ xs) h = by_test (q x) refl h (λ rest. all_unkept P q xs rest)
  where
    by_test : (b : Bool) → q x ≡ b → AllByRecursion P (cond b (x ∷ filter q xs) (filter q xs))
        → (AllByRecursion P (filter q xs) → AllByRecursion (λ y. q y ≡ true → P y) xs)
        → (q x ≡ true → P x) × AllByRecursion (λ y. q y ≡ true → P y) xs
    by_test true e kept further = (λ passes. kept.0, further kept.1)
    by_test false e kept further = (λ passes. absurd (let wrong : true ≡ false = sym passes ∙ e in cc), further kept)

filter_same : {X : Type 0} (stands q r : X → Bool) (xs : List X) → AllByRecursion (λ x. stands x ≡ true → q x ≡ r x) xs
    → filter stands (filter q xs) ≡ filter stands (filter r xs)
filter_same stands q r [] h = refl
filter_same stands q r (x ∷ xs) h = by_test (stands x) (q x) (r x) refl h.0 (filter_same stands q r xs h.1)
  where
    by_test : (s b c : Bool) → stands x ≡ s → (stands x ≡ true → b ≡ c)
        → filter stands (filter q xs) ≡ filter stands (filter r xs)
        → filter stands (cond b (x ∷ filter q xs) (filter q xs))
        ≡ filter stands (cond c (x ∷ filter r xs) (filter r xs))
    by_test s true true e same rest = ap (λ ys. cond (stands x) (x ∷ ys) ys) rest
    by_test s false false e same rest = rest
    by_test true true false e same rest = absurd (let wrong : true ≡ false = same e in cc)
    by_test true false true e same rest = absurd (let wrong : false ≡ true = same e in cc)
    by_test false true false e same rest =
        ap (λ b. cond b (x ∷ filter stands (filter q xs)) (filter stands (filter q xs))) e ∙ rest
    by_test false false true e same rest =
        rest ∙ sym (ap (λ b. cond b (x ∷ filter stands (filter r xs)) (filter stands (filter r xs))) e)

-- ---- pairs whose keys rise

abbrev Rises : List Pair → Type 0
Rises [] = Unit {0}
Rises (e ∷ s) = AllByRecursion (λ (f : Pair). key_cmp e.0 f.0 ≡ Less) s × Rises s

rises : (s : List Pair) → IsStrictlySortedBy (λ a b. key_cmp a.0 b.0) s → Rises s
rises [] h = tt
rises (e ∷ s) h =
    (rising_head (λ (a b : Pair). key_cmp a.0 b.0) e s h, rises s (rising_tail (λ (a b : Pair). key_cmp a.0 b.0) e s h))

rises_kept : (q : Pair → Bool) (s : List Pair) → Rises s → Rises (filter q s)
rises_kept q [] h = tt
rises_kept q (e ∷ s) h = by_test (q e) (rises_kept q s h.1) (all_filter (λ (f : Pair). key_cmp e.0 f.0 ≡ Less) q s h.0)
  where
    by_test : (b : Bool) → Rises (filter q s) → AllByRecursion (λ (f : Pair). key_cmp e.0 f.0 ≡ Less) (filter q s)
        → Rises (cond b (e ∷ filter q s) (filter q s))
    by_test true rest all = (all, rest)
    by_test false rest all = rest

-- a key is at or below what leads
abbrev IsLedBy : Lead → List ℕ → Type 0
IsLedBy Start key = ⊥
IsLedBy (Leader l) key = is_le (key_cmp key l) ≡ true

abbrev keys : List Pair → List (List ℕ)
keys s = map (λ (pair : Pair). pair.0) s

led_by_last : (s : List Pair) → Rises s → AllByRecursion (λ pair. IsLedBy (last_lead (keys s)) pair.0) s
unfolding last_lead
led_by_last [] h = tt
led_by_last (e ∷ []) h = (le_itself e.0, tt)
led_by_last (e ∷ f ∷ s) h =
    let rest = led_by_last (f ∷ s) h.1 in
    (led_before (last_lead (keys (f ∷ s))) rest.0, rest)
  where
    led_before : (l : Lead) → IsLedBy l f.0 → IsLedBy l e.0
    led_before Start led = led
    led_before (Leader l) led = le_after_less e.0 f.0 l h.0.0 led

-- a key is at or above the next one that leads
abbrev IsAtOrBehind : Option (List ℕ) → List ℕ → Type 0
IsAtOrBehind None key = ⊥
IsAtOrBehind (Some n) key = is_le (key_cmp n key) ≡ true

behind_first : (s : List Pair) → Rises s → AllByRecursion (λ pair. IsAtOrBehind (slice_get (keys s) 0) pair.0) s
behind_first [] h = tt
behind_first (e ∷ s) h = (
  le_itself e.0,
  all_weaker (λ (f : Pair). key_cmp e.0 f.0 ≡ Less) (λ f. is_le (key_cmp e.0 f.0) ≡ true)
      (λ f less. ap is_le less) s h.0,
)

-- ---- the place of every such key

all_with : {X : Type 0} (A B C : X → Type 0) → ((x : X) → A x → B x → C x) → (xs : List X) → AllByRecursion A xs
    → AllByRecursion B xs → AllByRecursion C xs
all_with A B C f [] a b = tt
all_with A B C f (x ∷ xs) a b = (f x a.0 b.0, all_with A B C f xs a.1 b.1)

module _ (d : Draw) (s : List Pair) (known : List ℕ) (end : PathEnd)
    (rising : IsStrictlySortedBy (λ a b. key_cmp a.0 b.0) s) (at : IsPlace d s 0 known end) where
  abbrev stands : Pair → Bool
  stands pair = nat_lt 0 (d.level pair.0)

  abbrev lies : List ℕ → Pair → Bool
  lies key pair = is_le (key_cmp pair.0 key)

  led : AllByRecursion (λ pair. lies known pair ≡ true → stands pair ≡ true → IsLedBy (model_lead end.lead) pair.0) s
  led =
      all_unkept (λ pair. stands pair ≡ true → IsLedBy (model_lead end.lead) pair.0) (lies known) s
      (all_unkept (λ pair. IsLedBy (model_lead end.lead) pair.0) stands (not_above known s)
      (subst (λ l. AllByRecursion (λ pair. IsLedBy l pair.0) (filter stands (not_above known s))) (sym at.lead)
      (led_by_last (filter stands (not_above known s))
      (rises_kept stands (not_above known s) (rises_kept (lies known) s (rises s rising))))))

  behind : AllByRecursion (λ pair. not (lies known pair) ≡ true → stands pair ≡ true → IsAtOrBehind end.next pair.0) s
  behind =
      all_unkept (λ pair. stands pair ≡ true → IsAtOrBehind end.next pair.0) (λ pair. not (lies known pair)) s
      (all_unkept (λ pair. IsAtOrBehind end.next pair.0) stands (above known s)
      (subst (λ o. AllByRecursion (λ pair. IsAtOrBehind o pair.0) (filter stands (above known s))) (sym at.next)
      (behind_first (filter stands (above known s))
      (rises_kept stands (above known s) (rises_kept (λ pair. not (lies known pair)) s (rises s rising))))))

  module _ (key : List ℕ) (here : LiesIn end key) where
    below_key : (pair : Pair) → (l : Lead) → IsLedBy l pair.0 → is_from l key ≡ true → lies key pair ≡ true
    below_key pair Start h from = absurd h
    below_key pair (Leader l) h from = le_trans pair.0 l key h from

    not_behind : (pair : Pair) (o : Option (List ℕ)) → IsAtOrBehind o pair.0 → is_before o key ≡ true
        → lies key pair ≡ true → ⊥
    not_behind pair None h before low = h
    not_behind pair (Some n) h before low =
        let less : key_cmp key n ≡ Less = lt_less (key_cmp key n) before in
        let itself = le_lt_trans nat_list_cmp_total n key n (le_trans n pair.0 key h low) less in
        let tie = tied_itself nat_list_cmp_total n in
        cc
      where
        lt_less : (o : Ordering) → is_lt o ≡ true → o ≡ Less
        lt_less Less h = refl
        lt_less Equal h = absurd (cc)
        lt_less Greater h = absurd (cc)

    same_side : AllByRecursion (λ pair. stands pair ≡ true → lies known pair ≡ lies key pair) s
    same_side =
        all_with (λ pair. lies known pair ≡ true → stands pair ≡ true → IsLedBy (model_lead end.lead) pair.0)
        (λ pair. not (lies known pair) ≡ true → stands pair ≡ true → IsAtOrBehind end.next pair.0)
        (λ pair. stands pair ≡ true → lies known pair ≡ lies key pair)
        (λ pair low high on. both_ways (lies known pair) (lies key pair)
        (λ t. below_key pair (model_lead end.lead) (low t on) here.from)
        (λ t. by_test (lies known pair) refl (λ fails. not_behind pair end.next (high fails on) here.before t))) s
        led behind
      where
        by_test : (b : Bool) → b ≡ b → (not b ≡ true → ⊥) → b ≡ true
        by_test true e h = refl
        by_test false e h = absurd (h refl)

    pub place_of_all : IsPlace d s 0 key end
    place_of_all = record {
      lead = at.lead ∙ ap (λ xs. last_lead (keys xs)) (filter_same stands (lies known) (lies key) s same_side);
      next = at.next
          ∙ ap (λ xs. slice_get (keys xs) 0)
          (filter_same stands (λ pair. not (lies known pair)) (λ pair. not (lies key pair)) s
          (all_weaker (λ pair. stands pair ≡ true → lies known pair ≡ lies key pair)
          (λ pair. stands pair ≡ true → not (lies known pair) ≡ not (lies key pair))
          (λ pair h on. ap not (h on)) s same_side));
    }

-- the place of one key is known from then on
pub known_at : (d : Draw) (s : List Pair) (key : List ℕ) (place : PathEnd) → IsPairs s → IsPlace d s 0 key place
    → IsKnownGroup d s (Some place)
known_at d s key place valid at other here =
    place_of_all d s key place (rising_from_is_sorted key_cmp s valid.sorted) at other here
