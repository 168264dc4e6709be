-- Where keys stand among those of the parts of a tree.
use Rattle.std.proofs.Common.{◌≡◌, ℕ, zero, suc, ◌+◌, ◌<◌, ◌≤◌, List, [], ◌∷◌, ◌++◌, length, take, drop, Bool}
use Rattle.std.proofs.Common.{true, false, ◌&&◌, ◌||◌, nat_le, IsTrue, refl, sym, ap, ◌∙◌, arith}
use Rattle.std.proofs.Common.{Ordering, Less, Equal, Greater, slice_index_or, Option, Some, None, IsNone, subst}
use Rattle.std.specs.List.{AllByRecursion, list_all, list_any}
use Rattle.std.specs.List.Sorted.{IsSorted}
use Rattle.std.specs.Ordering.{is_le, is_lt, is_eq, eq_by_cmp, ordering_reverse}
use Rattle.std.specs.Cmp.{tied_itself}
use Rattle.std.proofs.lemmas.Bool.{false_from_ne_true, and_parts, and_from, or_left, or_right, false≢true, leb-true}
use Rattle.std.proofs.lemmas.Bool.{leb-false}
use Rattle.std.proofs.lemmas.List.{length-append, length-drop, append-nil, take-append-drop, take-take, take_at}
use Rattle.std.proofs.lemmas.List.{take_all, take_more, drop_more}
use Rattle.std.proofs.lemmas.List.{get_or-drop}
use Rattle.std.proofs.lemmas.Option.{none-some}
use Rattle.std.proofs.lemmas.List.Folds.{list_any-append}
use Rattle.store_model.specs.Lists.{numbers_from}
use Rattle.store_model.specs.Paths.{Path, Name, is_root, is_path, parent, path_cmp, is_at_or_inside, key, key_cmp}
use Rattle.store_model.proofs.ListsLemmas.{all_weaker, all_with, all_append, all_front}
use Rattle.store_model.proofs.PathsLemmas.{place_of_path}
use Rattle.store_model.proofs.TreesLemmasPaths.{path_cmp_total, at_or_inside-append, at_or_inside-split}
use Rattle.store_model.proofs.TreesLemmasPaths.{same_from_tie, parent-push}
use Rattle.dir_tree.specs.SubtreeCalls.{end_of, IsBeforeEnd}
use Rattle.dir_tree.proofs.OrderLemmas.{le_less, less_le, below_and_le, below_from_not_le}
use Rattle.dir_tree.proofs.OrderLemmas.{le_from_less, key_itself, same_key_from_test, top_is_lowest, before_end}
use Rattle.dir_tree.proofs.OrderLemmas.{within_stretch, at_itself, less_keys, reversed}
use Rattle.store_stream.specs.declared.place.Place.{Place}
use Rattle.store_stream.specs.declared.place.Place.TheVariants as places
use Rattle.store_stream.specs.PartKeys.{is_in, leads, Misses, MissesOne, IsPast, IsPlace}
use Rattle.store_stream.specs.PartKeys.{IsPlaceAmong}
use Rattle.store_stream.proofs.FirstNames.{is_path-take, all_by_index, all_paths, path_at}

-- ---- tests on lists

any_none : {X : Type 0} (T : X → Bool) (xs : List X) → AllByRecursion (λ x. T x ≡ false) xs → list_any T xs ≡ false
any_none T [] h = refl
any_none T (x ∷ xs) h = ap (λ b. b || list_any T xs) h.0 ∙ any_none T xs h.1

any_number : (T : ℕ → Bool) (count first : ℕ) → list_any T (numbers_from first count) ≡ true
    → (n : ℕ) × (n < first + count) × (T n ≡ true)
unfolding numbers_from
any_number T zero first h = absurd (false≢true h)
any_number T (suc count) first h = by_test (any_number T count (suc first)) (T first) refl
  where
    by_test : (list_any T (numbers_from (suc first) count) ≡ true → (n : ℕ) × (n < suc first + count) × (T n ≡ true))
        → (b : Bool) → T first ≡ b → (n : ℕ) × (n < first + suc count) × (T n ≡ true)
    by_test more true e = (first, omega arith, e)
    by_test more false e =
        let rest = more (sym (ap (λ b. b || list_any T (numbers_from (suc first) count)) e) ∙ h) in
        (rest.0, omega (arith, rest.1), rest.2)

number_any : (T : ℕ → Bool) (count first more : ℕ) → more < count → T (first + more) ≡ true
    → list_any T (numbers_from first count) ≡ true
unfolding numbers_from
number_any T zero first more l h = absurd (omega (arith, l))
number_any T (suc count) first zero l h =
    let here : first + 0 ≡ first = omega arith in
    ap (λ b. b || list_any T (numbers_from (suc first) count)) (ap T (sym here) ∙ h)
number_any T (suc count) first (suc more) l h =
    let there : suc first + more ≡ first + suc more = omega arith in
    or_right (T first) (list_any T (numbers_from (suc first) count))
    (number_any T count (suc first) more (omega (arith, l)) (ap T there ∙ h))

-- ---- the keys of one path

-- a directory leads there that stands at fewer names
pub leads_where : (q : Path) (k : List ℕ) → leads q k ≡ true
    → (n : ℕ) × (n < length q) × (k ≡ key (take n q) 0)
leads_where q k h =
    let there = any_number (λ n. eq_by_cmp key_cmp k (key (take n q) 0)) (length q) 0 h in
    (there.0, omega (arith, there.1), same_key_from_test k (key (take there.0 q) 0) there.2)

same_test : (a b : List ℕ) → a ≡ b → eq_by_cmp key_cmp a b ≡ true
same_test a b e = ap (λ c. eq_by_cmp key_cmp a c) (sym e) ∙ ap (λ o. is_eq o) (key_itself a)

pub leads_from : (q : Path) (n : ℕ) (k : List ℕ) → n < length q → k ≡ key (take n q) 0 → leads q k ≡ true
leads_from q n k l e =
    let here : 0 + n ≡ n = omega arith in
    number_any (λ m. eq_by_cmp key_cmp k (key (take m q) 0)) (length q) 0 n l
    (same_test k (key (take (0 + n) q) 0) (e ∙ ap (λ m. key (take m q) 0) (sym here)))

less_from_test : (o : Ordering) → is_lt o ≡ true → o ≡ Less
less_from_test Less e = refl
less_from_test Equal e = cc
less_from_test Greater e = cc

pub in_root : (q : Path) (k : List ℕ) → is_root q ≡ true → is_in q k ≡ true
in_root q k e = ap (λ b. b || (is_le (key_cmp (key q 0) k) && is_lt (key_cmp k (end_of q)))) e

pub in_from : (q : Path) (k : List ℕ) → is_le (key_cmp (key q 0) k) ≡ true → IsBeforeEnd q k → is_in q k ≡ true
in_from [] k l before = refl
in_from (n ∷ q) k l before = and_from _ _ l (ap is_lt (before refl))

pub in_parts : (q : Path) (k : List ℕ) → is_root q ≡ false → is_in q k ≡ true
    → (is_le (key_cmp (key q 0) k) ≡ true) × IsBeforeEnd q k
in_parts [] k below h = cc
in_parts (n ∷ q) k below h =
    let parts = and_parts (is_le (key_cmp (key (n ∷ q) 0) k)) (is_lt (key_cmp k (end_of (n ∷ q)))) h in
    (parts.0, λ e. less_from_test _ parts.1)

pub not_in_before : (q : Path) (k : List ℕ) → is_root q ≡ false → key_cmp k (key q 0) ≡ Less → is_in q k ≡ false
not_in_before q k below less =
    false_from_ne_true _ (λ h. below_and_le k (key q 0) less (in_parts q k below h).0)

past_below_root : (q : Path) (k : List ℕ) → IsPast k q → is_root q ≡ false
past_below_root [] k past = absurd (past (λ below. cc))
past_below_root (n ∷ q) k past = refl

not_in_past : (q : Path) (k : List ℕ) → IsPast k q → is_in q k ≡ false
not_in_past q k past = false_from_ne_true _ (λ h. past (in_parts q k (past_below_root q k past) h).1)

-- what is past stays past
pub past_on : (q : Path) (k x : List ℕ) → is_le (key_cmp k x) ≡ true → IsPast k q → IsPast x q
past_on q k x l past before = past (λ below. le_less k x (end_of q) l (before below))

-- the keys of directories that lead to a path rise
module _ (q : Path) (path : IsTrue (is_path q)) where
  front_within : (m n : ℕ) → m ≤ n → is_at_or_inside (take n q) (take m q) ≡ true
  front_within m n l =
      let split : take n q ≡ take m q ++ drop m (take n q) =
      sym (take-append-drop m (take n q)) ∙ ap (λ s. s ++ drop m (take n q)) (take-take m n q l) in
      ap (λ y. is_at_or_inside y (take m q)) split ∙ at_or_inside-append (take m q) (drop m (take n q))

  pub fronts_rise : (m n : ℕ) → m ≤ n → is_le (key_cmp (key (take m q) 0) (key (take n q) 0)) ≡ true
  fronts_rise m n l =
      top_is_lowest (take m q) (take n q) 0 (place_of_path (take m q) (is_path-take m q path))
      (place_of_path (take n q) (is_path-take n q path)) (omega arith) (front_within m n l)

  pub front_first : (n : ℕ) → is_le (key_cmp (key (take n q) 0) (key q 0)) ≡ true
  front_first n =
      top_is_lowest (take n q) q 0 (place_of_path (take n q) (is_path-take n q path)) (place_of_path q path)
      (omega arith) (ap (λ y. is_at_or_inside y (take n q)) (sym (take-append-drop n q))
      ∙ at_or_inside-append (take n q) (drop n q))

  pub at_front : (n : ℕ) → is_at_or_inside q (take n q) ≡ true
  at_front n = ap (λ y. is_at_or_inside y (take n q)) (sym (take-append-drop n q))
      ∙ at_or_inside-append (take n q) (drop n q)

  -- none of them stands behind what is at the path
  not_led_past : (k : List ℕ) → IsPast k q → leads q k ≡ false
  not_led_past k past = false_from_ne_true _ (λ h.
      let there = leads_where q k h in
      past (λ below. le_less k (key q 0) (end_of q)
      (ap (λ x. is_le (key_cmp x (key q 0))) there.2 ∙ front_first there.0) (before_end q q 0 (at_itself q) below)))

  module _ (below : is_root q ≡ false) (k : List ℕ) where
    -- the directories at fewer names stand before a key, and the one at so many behind it
    pub misses_between : (m : ℕ) → key_cmp k (key (take m q) 0) ≡ Less
        → ((n : ℕ) → n < m → key_cmp (key (take n q) 0) k ≡ Less)
        → (x : List ℕ) → is_le (key_cmp k x) ≡ true → key_cmp x (key (take m q) 0) ≡ Less → MissesOne q x
    misses_between m less fewer x l before = (
      not_in_before q x below (less_le x (key (take m q) 0) (key q 0) before (front_first m)),
      false_from_ne_true _ (λ h. let there = leads_where q x h in by_number there.0 there.2),
    )
      where
        by_number : (n : ℕ) → x ≡ key (take n q) 0 → ⊥
        by_number n e = by_test (nat_le m n) refl
          where
            by_test : (b : Bool) → nat_le m n ≡ b → ⊥
            by_test true is =
                below_and_le x (key (take m q) 0) before
                (ap (λ y. is_le (key_cmp (key (take m q) 0) y)) e ∙ fronts_rise m n (leb-true m n is))
            by_test false is =
                below_and_le (key (take n q) 0) k (fewer n (omega (arith, leb-false m n is)))
                (ap (λ y. is_le (key_cmp k y)) (sym e) ∙ l)

    -- one that stands at fewer names than one before the key does, too
    pub fewer_before : (m : ℕ) → key_cmp (key (take m q) 0) k ≡ Less → (n : ℕ) → n < suc m
        → key_cmp (key (take n q) 0) k ≡ Less
    fewer_before m less n l = le_less (key (take n q) 0) (key (take m q) 0) k (fronts_rise n m (omega (arith, l))) less

    pub not_in_before_front : (m : ℕ) → key_cmp k (key (take m q) 0) ≡ Less → is_in q k ≡ false
    not_in_before_front m less = not_in_before q k below (less_le k (key (take m q) 0) (key q 0) less (front_first m))

-- ---- the keys of several paths

-- a path that stands behind another, of which the keys before it that lead to it lead to the other
pub record IsLater (q r : Path) : Type 0 where
  pub path : IsTrue (is_path r)
  pub order : is_le (path_cmp q r) ≡ true

module _ (q : Path) (path : IsTrue (is_path q)) where
  first_of_later : (r : Path) → IsLater q r → is_le (key_cmp (key q 0) (key r 0)) ≡ true
  first_of_later r later = by_order (path_cmp q r) refl
    where
      by_order : (o : Ordering) → path_cmp q r ≡ o → is_le (key_cmp (key q 0) (key r 0)) ≡ true
      by_order Less e = ap is_le (less_keys q r 0 0 (place_of_path q path) (place_of_path r later.path) (omega arith)
          (omega arith) e)
      by_order Equal e = ap (λ s. is_le (key_cmp (key q 0) (key s 0))) (sym (same_from_tie q r e))
          ∙ ap is_le (key_itself (key q 0))
      by_order Greater e = absurd (false≢true (sym (ap is_le e) ∙ later.order))

  later_below_root : (r : Path) → IsLater q r → is_root q ≡ false → is_root r ≡ false
  later_below_root [] later below = by_path q below later.order
    where
      by_path : (p : Path) → is_root p ≡ false → is_le (path_cmp p []) ≡ true → true ≡ false
      by_path [] e l = e
      by_path (n ∷ p) e l = absurd (false≢true l)
  later_below_root (n ∷ r) later below = refl

  module _ (below : is_root q ≡ false) (x : List ℕ) (before : key_cmp x (key q 0) ≡ Less) where
    not_in_later : (r : Path) → IsLater q r → is_in r x ≡ false
    not_in_later r later = not_in_before r x (later_below_root r later below)
        (less_le x (key q 0) (key r 0) before (first_of_later r later))

    led_by_other : (r : Path) → IsLater q r → leads r x ≡ true → leads q x ≡ true
    led_by_other r later h =
        let there = leads_where r x h in
        let s = take there.0 r in
        let low = ap (λ y. key_cmp y (key q 0)) (sym there.2) ∙ before in
        let inside = within_stretch s q 0 (is_path-take there.0 r later.path) (place_of_path q path) (omega arith)
        (le_from_less (key s 0) (key q 0) low)
        (λ e. le_less (key q 0) (key r 0) (end_of s) (first_of_later r later)
        (before_end s r 0 (at_front r later.path there.0) e)) in
        let split = at_or_inside-split q s inside in
        by_rest s (drop (length s) q) split low (there.2)
      where
        by_rest : (s rest : Path) → q ≡ s ++ rest → key_cmp (key s 0) (key q 0) ≡ Less → x ≡ key s 0
            → leads q x ≡ true
        by_rest s [] is less e =
            let same : s ≡ q = sym (is ∙ append-nil s) in
            absurd (below_and_le (key s 0) (key q 0) less
            (ap (λ y. is_le (key_cmp (key q 0) (key y 0))) same ∙ ap is_le (key_itself (key q 0))))
        by_rest s (n ∷ rest) is less e =
            leads_from q (length s) x (omega (arith, ap (λ (y : Path). length y) is, length-append s (n ∷ rest)))
            (e ∙ ap (λ y. key y 0) (sym (take_at s (n ∷ rest) (length s) refl) ∙ ap (take (length s)) (sym is)))

    pub misses_later : (r : Path) → IsLater q r → leads q x ≡ false → MissesOne r x
    misses_later r later none = (
      not_in_later r later,
      false_from_ne_true _ (λ h. false≢true (sym none ∙ led_by_other r later h)),
    )

-- a path that is past, and which is one
pub record IsEnded (k : List ℕ) (r : Path) : Type 0 where
  pub path : IsTrue (is_path r)
  pub past : IsPast k r

misses_ended : (k x : List ℕ) → is_le (key_cmp k x) ≡ true → (r : Path) → IsEnded k r → MissesOne r x
misses_ended k x l r ended =
    let past = past_on r k x l ended.past in (not_in_past r x past, not_led_past r ended.path x past)

misses_all : (paths : List Path) (x : List ℕ) → AllByRecursion (λ r. MissesOne r x) paths → Misses paths x
misses_all paths x all = (
  any_none (λ r. is_in r x) paths (all_weaker _ _ (λ r m. m.0) paths all),
  any_none (λ r. leads r x) paths (all_weaker _ _ (λ r m. m.1) paths all),
)

-- what none of the first, not this one and none of the last has
misses_split : (front more : List Path) (q : Path) (x : List ℕ) → AllByRecursion (λ r. MissesOne r x) front
    → MissesOne q x → AllByRecursion (λ r. MissesOne r x) more → Misses (front ++ q ∷ more) x
misses_split front more q x one here two = misses_all (front ++ q ∷ more) x
    (all_append (λ r. MissesOne r x) front (q ∷ more) one (here, two))

any_here : (T : Path → Bool) (front more : List Path) (q : Path) → T q ≡ true
    → list_any T (front ++ q ∷ more) ≡ true
any_here T front more q h =
    list_any-append T front (q ∷ more)
    ∙ or_right (list_any T front) (list_any T (q ∷ more)) (or_left (T q) (list_any T more) h)

-- where the first are past and the last stand behind it, a path says where a key stands
pub place_among : (front more : List Path) (q : Path) (k : List ℕ) (place : Place) → AllByRecursion (IsEnded k) front
    → IsTrue (is_path q) → AllByRecursion (IsLater q) more → IsBeforeEnd q k → IsPlace q k place
    → IsPlaceAmong (front ++ q ∷ more) k place
place_among front more q k places.Inside ended path later before is = any_here (λ r. is_in r k) front more q is
place_among front more q k places.Leads ended path later before is =
    let below = not_root q k is.0 in
    let less = below_from_not_le (key q 0) k (false_from_ne_true _ (λ l.
    false≢true (sym is.0 ∙ in_from q k l before))) in (
      any_none (λ r. is_in r k) (front ++ q ∷ more) (all_append (λ r. is_in r k ≡ false) front (q ∷ more)
          (all_weaker (IsEnded k) _ (λ r e. not_in_past r k e.past) front ended)
          (is.0, all_weaker (IsLater q) _ (λ r l. not_in_later q path below k less r l) more later)),
      any_here (λ r. leads r k) front more q is.1,
    )
  where
    not_root : (p : Path) (y : List ℕ) → is_in p y ≡ false → is_root p ≡ false
    not_root [] y e = e
    not_root (n ∷ p) y e = refl
place_among front more q k (places.Before next) ended path later before is = (
  is.0,
  λ x l low.
      let here = is.1 x l low in
      let below = not_root q x here.0 in
      let less = first_behind x l low below in
      misses_split front more q x (all_weaker (IsEnded k) _ (misses_ended k x l) front ended) here
      (all_weaker (IsLater q) _ (λ r is_later. misses_later q path below x less r is_later here.1) more later),
)
  where
    not_root : (p : Path) (y : List ℕ) → is_in p y ≡ false → is_root p ≡ false
    not_root [] y e = e
    not_root (n ∷ p) y e = refl

    -- the next key is not behind the path's first one
    first_behind : (x : List ℕ) → is_le (key_cmp k x) ≡ true → key_cmp x next ≡ Less → is_root q ≡ false
        → key_cmp x (key q 0) ≡ Less
    first_behind x l low below = below_from_not_le (key q 0) x (false_from_ne_true _ (λ le.
        let inside = in_from q (key q 0) (ap is_le (key_itself (key q 0))) (before_end q q 0 (at_itself q)) in
        by_order le (key_cmp (key q 0) k) refl inside))
      where
        by_order : is_le (key_cmp (key q 0) x) ≡ true → (o : Ordering) → key_cmp (key q 0) k ≡ o
            → is_in q (key q 0) ≡ true → ⊥
        by_order le Less e inside =
            let here = is.1 k (ap is_le (key_itself k)) is.0 in
            false≢true (sym here.0 ∙ in_from q k (ap is_le e) before)
        by_order le Equal e inside =
            let here = is.1 k (ap is_le (key_itself k)) is.0 in
            false≢true (sym here.0 ∙ in_from q k (ap is_le e) before)
        by_order le Greater e inside =
            let up = reversed (key q 0) k Greater e in
            let there = is.1 (key q 0) (ap is_le up) (le_less (key q 0) x next le low) in
            false≢true (sym there.0 ∙ inside)
place_among front more q k places.Behind ended path later before is = absurd is

-- where all are past, none stands behind
pub none_behind : (paths : List Path) (k : List ℕ) → AllByRecursion (IsEnded k) paths
    → IsPlaceAmong paths k places.Behind
none_behind paths k ended x l = misses_all paths x (all_weaker (IsEnded k) _ (misses_ended k x l) paths ended)

-- ---- paths that were sorted

path_le : (p q r : Path) → is_le (path_cmp p q) ≡ true → is_le (path_cmp q r) ≡ true → is_le (path_cmp p r) ≡ true
path_le p q r h g = by_order (path_cmp p q) (path_cmp q r) refl refl
  where
    by_order : (a b : Ordering) → path_cmp p q ≡ a → path_cmp q r ≡ b → is_le (path_cmp p r) ≡ true
    by_order Less Less e f = ap is_le (path_cmp_total.trans p q r e f)
    by_order Less Equal e f = ap (λ s. is_le (path_cmp p s)) (sym (same_from_tie q r f)) ∙ h
    by_order Less Greater e f = absurd (false≢true (sym (ap is_le f) ∙ g))
    by_order Equal b e f = ap (λ s. is_le (path_cmp s r)) (same_from_tie p q e) ∙ g
    by_order Greater b e f = absurd (false≢true (sym (ap is_le e) ∙ h))

le_from_not_less : (p q : Path) → is_lt (path_cmp q p) ≡ false → is_le (path_cmp p q) ≡ true
le_from_not_less p q h = by_order (path_cmp q p) h (path_cmp_total.antisymm p q)
  where
    by_order : (o : Ordering) → is_lt o ≡ false → path_cmp p q ≡ ordering_reverse o → is_le (path_cmp p q) ≡ true
    by_order Less e r = absurd (false≢true (sym e))
    by_order Equal e r = ap is_le r
    by_order Greater e r = ap is_le r

module _ (paths : List Path) (sorted : IsSorted path_cmp paths) where
  later_by : (more i : ℕ) (d : Path) → i + more < length paths
      → is_le (path_cmp (slice_index_or paths i d) (slice_index_or paths (i + more) d)) ≡ true
  later_by zero i d l =
      let here : i + 0 ≡ i = omega arith in
      ap (λ j. is_le (path_cmp (slice_index_or paths i d) (slice_index_or paths j d))) here
      ∙ ap is_le (tied_itself path_cmp_total (slice_index_or paths i d))
  later_by (suc more) i d l =
      let next : i + more + 1 ≡ i + suc more = omega arith in
      path_le (slice_index_or paths i d) (slice_index_or paths (i + more) d) (slice_index_or paths (i + suc more) d)
      (later_by more i d (omega (arith, l)))
      (le_from_not_less (slice_index_or paths (i + more) d) (slice_index_or paths (i + suc more) d)
      (ap (λ j. is_lt (path_cmp (slice_index_or paths j d) (slice_index_or paths (i + more) d))) (sym next)
      ∙ sorted (i + more) d (omega arith) (omega (arith, l))))

  pub all_later : IsTrue (list_all is_path paths) → (i : ℕ) (d : Path) → i < length paths
      → AllByRecursion (IsLater (slice_index_or paths i d)) (drop (i + 1) paths)
  all_later valid i d l = all_by_index (IsLater (slice_index_or paths i d)) (drop (i + 1) paths) d (λ k m.
      let there : i + suc k ≡ i + 1 + k = omega arith in
      let room : i + 1 + k < length paths = omega (arith, m, length-drop (i + 1) paths) in
      let is = get_or-drop (i + 1) paths k d in
      record {
        path = ap is_path is ∙ path_at paths valid (i + 1 + k) d room;
        order = ap (λ y. is_le (path_cmp (slice_index_or paths i d) y)) is
            ∙ ap (λ j. is_le (path_cmp (slice_index_or paths i d) (slice_index_or paths j d))) (sym there)
            ∙ later_by (suc k) i d (omega (arith, room));
      })

-- ---- the search upwards

take_one_more : (k : ℕ) (q : Path) → k < length q → (n : Name) × (take (suc k) q ≡ take k q ++ n ∷ [])
take_one_more k [] l = absurd (omega arith)
take_one_more zero (n ∷ q) l = (n, refl)
take_one_more (suc k) (n ∷ q) l = let more = take_one_more k q (omega arith) in (more.0, ap (λ s. n ∷ s) more.1)

some_is_there : (o : Option Path) (up : Path) → o ≡ Some up → IsNone o → ⊥
some_is_there None up e none = none-some up e
some_is_there (Some x) up e none = absurd (cc)

-- the parent of so many first names has one fewer
pub one_up : (path at up : Path) (m : ℕ) (o : Option Path) → at ≡ take m path → m ≤ length path → o ≡ Some up
    → (IsTrue (is_root at) → IsNone o) → up ≡ parent at → (n : ℕ) × (m ≡ suc n) × (up ≡ take n path)
one_up path at up zero o at_is l e none up_is = absurd (some_is_there o up e (none (ap is_root at_is)))
one_up path at up (suc n) o at_is l e none up_is =
    let more = take_one_more n path (omega (arith, l)) in
    (n, refl, up_is ∙ ap parent at_is ∙ ap parent more.1 ∙ parent-push (take n path) more.0)

-- where there is none, all names were left out
pub at_top : (path at : Path) (m : ℕ) → at ≡ take m path → m ≤ length path → is_root path ≡ false
    → IsTrue (is_root at) → m ≡ 0
at_top path at zero at_is l below top = refl
at_top [] at (suc m) at_is l below top = absurd (omega (arith, l))
at_top (n ∷ path) at (suc m) at_is l below top = absurd (false≢true (sym (ap is_root at_is) ∙ top))

-- ---- paths by their numbers

module _ (paths : List Path) (valid : IsTrue (list_all is_path paths)) (d : ℕ) (k : List ℕ)
    (past : AllByRecursion (IsPast k) (take d paths)) where
  ended_paths : AllByRecursion (IsEnded k) (take d paths)
  ended_paths = all_with (IsPast k) (λ q. IsTrue (is_path q)) (IsEnded k) (λ q p v. record { path = v; past = p })
      (take d paths) past (all_front (λ q. IsTrue (is_path q)) (take d paths) (drop d paths)
      (subst (AllByRecursion (λ q. IsTrue (is_path q))) (sym (take-append-drop d paths)) (all_paths paths valid)))

  pub among_paths : IsSorted path_cmp paths → d < length paths → (q : Path) (r : Path) → q ≡ slice_index_or paths d r
      → (place : Place) → IsBeforeEnd q k → IsPlace q k place → IsPlaceAmong paths k place
  among_paths sorted l q r is place before at =
      let whole : take d paths ++ q ∷ drop (d + 1) paths ≡ paths =
      ap (λ s. take d paths ++ s ∷ drop (d + 1) paths) is
      ∙ ap (λ s. take d paths ++ s) (sym (drop_more paths d r l)) ∙ take-append-drop d paths in
      subst (λ ps. IsPlaceAmong ps k place) whole
      (place_among (take d paths) (drop (d + 1) paths) q k place ended_paths
      (ap is_path is ∙ path_at paths valid d r l)
      (subst (λ s. AllByRecursion (IsLater s) (drop (d + 1) paths)) (sym is) (all_later paths sorted valid d r l))
      before at)

  pub none_of_paths : length paths ≤ d → IsPlaceAmong paths k places.Behind
  none_of_paths l =
      subst (λ ps. IsPlaceAmong ps k places.Behind) (take_all d paths l) (none_behind (take d paths) k ended_paths)

-- one path more is past
pub one_more_past : (paths : List Path) (d : ℕ) (k : List ℕ) (q r : Path) → q ≡ slice_index_or paths d r
    → d < length paths → IsPast k q → AllByRecursion (IsPast k) (take d paths)
    → AllByRecursion (IsPast k) (take (d + 1) paths)
one_more_past paths d k q r is l past all =
    subst (AllByRecursion (IsPast k)) (sym (take_more paths d r l))
    (all_append (IsPast k) (take d paths) (slice_index_or paths d r ∷ []) all (subst (IsPast k) is past, tt))

pub none_is : {X : Type 0} (o : Option X) → ((x : X) → o ≡ Some x → ⊥) → IsNone o
none_is None none = refl
none_is (Some x) none = absurd (none x refl)
