-- What the calls of a stream of parts make of it.
use Rattle.std.proofs.Common.{◌≡◌, ℕ, ◌+◌, ◌<◌, ◌≤◌, Bool, true, false, not, List, [], ◌∷◌, ◌++◌, length, take}
use Rattle.std.proofs.Common.{cond, ◌||◌, IsTrue, Option, Some, None, Ok, Err, refl, sym, ap, ap₂, subst, ◌∙◌, arith}
use Rattle.std.proofs.Common.{Ordering, Less, Equal, Greater, ◌&&◌}
use Rattle.std.specs.List.{AllByRecursion, filter, list_all}
use Rattle.std.specs.List.Sorted.{IsStrictlySortedBy}
use Rattle.std.specs.Ordering.{is_le, is_lt}
use Rattle.std.specs.Cmp.Lexicographic.{nat_list_cmp_total}
use Rattle.std.proofs.lemmas.Bool.{false≢true, both_ways, false_from_ne_true}
use Rattle.std.proofs.lemmas.List.{append-nil, append_assoc, append_cancel_left, length-append}
use Rattle.std.proofs.lemmas.List.Elements.{filter-append}
use Rattle.store_model.specs.Lists.{same_bytes}
use Rattle.store_model.specs.Parameters.{Parameters}
use Rattle.store_model.specs.Paths.{Path, is_path, key_cmp}
use Rattle.store_model.specs.Trees.{Tree, empty_tree}
use Rattle.store_model.specs.Pairs.{Pair, pairs, directory_value}
use Rattle.store_model.specs.Pages.{IsTreeUnder}
use Rattle.store_model.proofs.ListsLemmas.{all_weaker, all_with, all_none, all_back, rising_head, rising_tail}
use Rattle.store_model.proofs.ListsLemmas.{rising_back}
use Rattle.store_model.proofs.ListsLemmas.{all_filter}
use Rattle.store_model.proofs.PairsLemmas.{pair_cmp, rising_pairs}
use Rattle.disk_model.specs.DiskState.{DiskState}
use Rattle.skip_levels.specs.SearchPath.{below}
use Rattle.skip_levels.proofs.PathLemmas.{all_kept}
use Rattle.tree_pairs.specs.TreeCalls.{pairs_limit}
use Rattle.dir_tree.proofs.FilterLemmas.{filter_none, filter_all}
use Rattle.dir_tree.proofs.OrderLemmas.{below_from_not_le, le_itself}
use Rattle.dump_streams.specs.Dumps.{DumpStep, after_step, dump}
use Rattle.dump_streams.specs.declared.steps.PairSteps.{PairSteps}
use Rattle.dump_streams.specs.declared.taken.Taken.TheVariants as takens
use Rattle.dump_streams.specs.Taking.{HasGiven, HasTaken, TakesPair}
use Rattle.dump_streams.specs.declared.fault.StreamFault.{StreamFault}
use Rattle.dump_streams.specs.declared.fault.StreamFault.TheVariants as streams
use Rattle.image_check.specs.Standing.{IsFitting}
use Rattle.staged_tree.proofs.TreePages.{few_pairs}
use Rattle.store_core.specs.StoreState.{StoreState}
use Rattle.store_core.specs.Walks.{StandsAfter}
use Rattle.store_stream.specs.declared.stream.StoreStream.{StoreStream}
use Rattle.store_stream.specs.declared.part_paths.PartPaths.{PartPaths}
use Rattle.store_stream.specs.declared.parts.PartsStream.{PartsStream}
use Rattle.store_stream.specs.PartKeys.{is_part, IsPast, Misses}
use Rattle.store_stream.specs.Parts.{parts_at}
use Rattle.store_stream.specs.PartsStreams.{StandsBefore, Tells, PartsBy, IsWholeParts, PartsEndBy}
use Rattle.store_stream.specs.PartsStreams.{PartsWith, PartsToEnd, PartsOn, parts_of}
use Rattle.store_stream.specs.Reading.{KeepsTree, Pulls, Starts}
use Rattle.store_stream.specs.StoreStreams.{CameOf}
use Rattle.store_stream.proofs.FirstNames.{all_paths}
use Rattle.store_stream.proofs.KeyPlaces.{past_on}
use Rattle.store_stream.proofs.PartPairs.{pairs-parts_at}
use Rattle.store_stream.proofs.PartTrees.{under-parts_at}
use Rattle.store_stream.proofs.PullLemmas.{front_of}
use Rattle.store_stream.proofs.StreamLemmas.{under_fitting, extends_by}

-- ---- lists that rise, cut by tests

-- a test that passes each element before one that passes cuts a list in two
cut_by : {X : Type 0} (c : X → X → Ordering) (T : X → Bool) → ((x y : X) → c x y ≡ Less → T y ≡ true → T x ≡ true)
    → (s : List X) → IsStrictlySortedBy c s → s ≡ filter T s ++ filter (λ x. not (T x)) s
cut_by c T down [] rise = refl
cut_by {X} c T down (e ∷ s) rise = by_test (cut_by c T down s (rising_tail c e s rise)) (T e) refl
  where
    fails : T e ≡ false → AllByRecursion (λ y. T y ≡ false) s
    fails none = all_weaker (λ y. c e y ≡ Less) (λ y. T y ≡ false)
        (λ y less. false_from_ne_true (T y) (λ yes. both_ways _ none (down e y less yes))) s (rising_head c e s rise)

    by_test : s ≡ filter T s ++ filter (λ x. not (T x)) s → (b : Bool) → T e ≡ b
        → e ∷ s ≡ cond b (e ∷ filter T s) (filter T s)
        ++ cond (not b) (e ∷ filter (λ x. not (T x)) s) (filter (λ x. not (T x)) s)
    by_test rest true passes = ap (λ behind. e ∷ behind) rest
    by_test rest false none =
        sym (ap₂ (λ front back. front ++ e ∷ back) (filter_none T s (fails none))
        (filter_all (λ x. not (T x)) s (all_weaker _ _ (λ y f. ap not f) s (fails none))))

-- ---- lists of pairs that rise

-- those before a pair are below it
all_before : (front back : List Pair) (pair : Pair) → IsStrictlySortedBy pair_cmp (front ++ pair ∷ back)
    → AllByRecursion (λ x. key_cmp x.0 pair.0 ≡ Less) front
all_before [] back pair rise = tt
all_before (x ∷ front) back pair rise = (
  (all_back (λ y. pair_cmp x y ≡ Less) front (pair ∷ back) (rising_head pair_cmp x (front ++ pair ∷ back) rise)).0,
  all_before front back pair (rising_tail pair_cmp x (front ++ pair ∷ back) rise),
)

-- and those behind it above it
all_after : (front back : List Pair) (pair : Pair) → IsStrictlySortedBy pair_cmp (front ++ pair ∷ back)
    → AllByRecursion (λ y. key_cmp pair.0 y.0 ≡ Less) back
all_after front back pair rise = rising_head pair_cmp pair back (rising_back pair_cmp front (pair ∷ back) rise)

-- a pair that is missed is not one of the parts
not_part : (paths : List Path) (pair : Pair) → Misses paths pair.0 → is_part paths pair ≡ false
not_part paths pair misses = ap₂ (λ a b. a || b) misses.0 (ap (λ b. b && same_bytes pair.1 directory_value) misses.1)

module _ (paths : List Path) (passed left : List Pair) (pair : Pair) where
  pub part_taken : is_part paths pair ≡ true
      → filter (is_part paths) (passed ++ pair ∷ left) ≡ filter (is_part paths) passed ++ pair ∷ filter
      (is_part paths) left
  part_taken is = filter-append (is_part paths) passed (pair ∷ left)
      ∙ ap (λ b. filter (is_part paths) passed ++ cond b (pair ∷ filter (is_part paths) left)
      (filter (is_part paths) left)) is

  pub part_passed : is_part paths pair ≡ false
      → filter (is_part paths) (passed ++ pair ∷ left) ≡ filter (is_part paths) passed ++ filter (is_part paths) left
  part_passed is = filter-append (is_part paths) passed (pair ∷ left)
      ∙ ap (λ b. filter (is_part paths) passed ++ cond b (pair ∷ filter (is_part paths) left)
      (filter (is_part paths) left)) is

-- ---- a stream from which no step came

module _ {D : Type 0} (disk_of : D → DiskState) where
  pub parts_none : (inner : StoreStream D) (parts : PartPaths) → parts.done ≡ 0
      → (store : StoreState D) → inner.store ≡ store → IsFitting store.tree store.params
      → CameOf disk_of inner empty_tree → StandsAfter store.tree store.params [] inner.walk
      → ((u : Tree) → IsTreeUnder u store.params → HasTaken inner.steps u store.params [] empty_tree)
      → PartsBy disk_of (record { stream = inner; parts = parts }) empty_tree 0
  parts_none inner parts none store is fits came walk taken =
      let u = inner.store.tree in
      let p = inner.store.params in
      let fitting : IsFitting u p = subst (λ (s : StoreState D). IsFitting s.tree s.params) (sym is) fits in
      let under = under_fitting u p fitting in
      record {
        going = came.going;
        few = few_pairs u p fitting;
        given = came.given;
        stands = λ o. record {
          under = under;
          passed = [];
          left = pairs u p;
          pairs_are = refl;
          many = omega arith;
          walk_is = subst (λ (s : StoreState D). StandsAfter s.tree s.params [] inner.walk) (sym is) walk;
          past = all_none _ (λ pair. subst (λ n. AllByRecursion (IsPast pair.0) (take n parts.paths.now)) (sym none) tt)
              (pairs u p);
          made = subst (λ (s : StoreState D). (v : Tree) → IsTreeUnder v s.params
              → HasTaken inner.steps v s.params [] empty_tree) (sym is) taken
              (parts_at u parts.paths.now) (under-parts_at parts.paths.now u p under);
        };
      }

  -- ---- one more pair of the tree

  -- what held of the store's tree and of the steps holds of them still
  carry : (old new : StoreStream D) → KeepsTree disk_of old new → (P : PairSteps → Tree → Parameters → Type 0)
      → P old.steps old.store.tree old.store.params → P new.steps new.store.tree new.store.params
  carry old new keeps P holds =
      subst (λ (s : PairSteps). P s new.store.tree new.store.params) (sym keeps.steps)
      (subst (λ (u : Tree). P old.steps u new.store.params) (sym keeps.tree)
      (subst (λ (p : Parameters). P old.steps old.store.tree p) (sym keeps.params) holds))

  module _ (old : PartsStream D) (inner : StoreStream D) (t : Tree) (count : ℕ) (came : PartsBy disk_of old t count)
    where
      abbrev after : PartsStream D
      after = record { stream = inner; parts = old.parts }

      abbrev paths : List Path
      paths = old.parts.paths.now

      pub one_pulled : (pair : Pair) → Pulls disk_of old.stream inner (Ok (Some pair))
          → PartsWith disk_of after t count pair
      one_pulled pair pulls =
          let keep = carry old.stream inner pulls.keeps in
          record {
            going = pulls.going;
            few = keep (λ s u p. length (pairs u p) < pairs_limit) came.few;
            given = keep (λ s u p. HasGiven s t p) came.given;
            stands = λ o.
                let at = came.stands (pulls.keeps.told o) in
                let next = (pulls.next o at.passed at.walk_is).some in
                let left_is : at.left ≡ pair ∷ next.0 =
                append_cancel_left at.passed at.left (pair ∷ next.0) (sym at.pairs_are ∙ next.1) in
                record {
                  under = keep (λ s u p. IsTreeUnder u p) at.under;
                  passed = at.passed;
                  left = next.0;
                  pairs_are = keep (λ s u p. pairs u p ≡ at.passed ++ pair ∷ next.0) next.1;
                  many = at.many;
                  walk_is = keep (λ s u p. StandsAfter u p (at.passed ++ pair ∷ []) inner.walk)
                      (pulls.stands o at.passed at.walk_is);
                  past = (subst (AllByRecursion (λ x. AllByRecursion (IsPast x.0) (take old.parts.done paths)))
                      left_is at.past).0;
                  made = keep (λ s u p. HasTaken s (parts_at u paths) p (filter (is_part paths) at.passed) t) at.made;
                };
          }

      pub none_pulled : IsTrue (list_all is_path paths) → Pulls disk_of old.stream inner (Ok None)
          → PartsToEnd disk_of after t
      none_pulled valid pulls =
          let keep = carry old.stream inner pulls.keeps in
          record {
            going = pulls.going;
            all = λ o.
                let at = came.stands (pulls.keeps.told o) in
                let u = old.stream.store.tree in
                let p = old.stream.store.params in
                let last : at.passed ≡ pairs u p = (pulls.next o at.passed at.walk_is).none.0 refl in
                keep (λ s v q. HasTaken s (parts_at v paths) q (pairs (parts_at v paths) q) t)
                (subst (λ xs. HasTaken old.stream.steps (parts_at u paths) p xs t)
                (ap (filter (is_part paths)) last ∙ sym (pairs-parts_at paths (all_paths paths valid) u p
                at.under.is_tree))
                at.made);
          }

      -- after a fault of the store
      pub not_pulled : (fault : StreamFault) → Pulls disk_of old.stream inner (Err fault)
          → PartsEndBy disk_of after t fault
      not_pulled fault pulls = record {
        front = λ o.
            let at = came.stands (pulls.keeps.told o) in
            carry old.stream inner pulls.keeps (λ s u p. (rest : List DumpStep) ×
            (dump (parts_at u paths) ≡ dump t ++ rest))
            (front_of old.stream.steps (parts_at old.stream.store.tree paths) old.stream.store.params
            (filter (is_part paths) at.passed) t at.made);
        cause = pulls.cause;
      }

  -- where none came, that is told
  pub pulled_none : (old new : StoreStream D) (answer : Option Pair) → ((pair : Pair) → answer ≡ Some pair → ⊥)
      → Pulls disk_of old new (Ok answer) → Pulls disk_of old new (Ok None)
  pulled_none old new None none pulls = pulls
  pulled_none old new (Some pair) none pulls = absurd (none pair refl)

  -- ---- where the pair stands

  -- more paths are past
  pub paths_past : (stream : PartsStream D) (parts : PartPaths) (t : Tree) (count : ℕ) (pair : Pair)
      → parts.paths.now ≡ stream.parts.paths.now
      → (AllByRecursion (IsPast pair.0) (take stream.parts.done stream.parts.paths.now)
      → AllByRecursion (IsPast pair.0) (take parts.done parts.paths.now))
      → PartsWith disk_of stream t count pair
      → PartsWith disk_of (record { stream = stream.stream; parts = parts }) t count pair
  paths_past stream parts t count pair same past came =
      let s = stream.stream in
      record {
        going = came.going;
        few = came.few;
        given = came.given;
        stands = λ o. let at = came.stands o in record {
          under = at.under;
          passed = at.passed;
          left = at.left;
          pairs_are = at.pairs_are;
          many = at.many;
          walk_is = at.walk_is;
          past = past at.past;
          made = subst (λ (ps : List Path). HasTaken s.steps (parts_at s.store.tree ps) s.store.params
              (filter (is_part ps) at.passed) t) (sym same) at.made;
        };
      }

  module _ (mid : PartsStream D) (t : Tree) (count : ℕ) (pair : Pair) (came : PartsWith disk_of mid t count pair)
      (valid : IsTrue (list_all is_path mid.parts.paths.now)) where
    abbrev of_paths : List Path
    of_paths = mid.parts.paths.now

    abbrev u : Tree
    u = mid.stream.store.tree

    abbrev p : Parameters
    p = mid.stream.store.params

    rise : (at : StandsBefore mid t count pair) → IsStrictlySortedBy pair_cmp (at.passed ++ pair ∷ at.left)
    rise at = subst (IsStrictlySortedBy pair_cmp) at.pairs_are (rising_pairs u p at.under.is_tree)

    -- the paths that are past stay so
    stay_past : (at : StandsBefore mid t count pair) (ys : List Pair)
        → AllByRecursion (λ y. is_le (key_cmp pair.0 y.0) ≡ true) ys
        → AllByRecursion (λ y. AllByRecursion (IsPast y.0) (take mid.parts.done of_paths)) ys
    stay_past at ys = all_weaker (λ y. is_le (key_cmp pair.0 y.0) ≡ true) _
        (λ y l. all_weaker (IsPast pair.0) (IsPast y.0) (λ q past. past_on q pair.0 y.0 l past)
        (take mid.parts.done of_paths) at.past) ys

    behind : (at : StandsBefore mid t count pair) → AllByRecursion (λ y. is_le (key_cmp pair.0 y.0) ≡ true) at.left
    behind at = all_weaker _ _ (λ y l. ap is_le l) at.left (all_after at.passed at.left pair (rise at))

    -- the pairs of the parts
    parts_are : (at : StandsBefore mid t count pair)
        → pairs (parts_at u of_paths) p ≡ filter (is_part of_paths) (at.passed ++ pair ∷ at.left)
    parts_are at = pairs-parts_at of_paths (all_paths of_paths valid) u p at.under.is_tree
        ∙ ap (filter (is_part of_paths)) at.pairs_are

    moved : (at : StandsBefore mid t count pair) → pairs u p ≡ (at.passed ++ pair ∷ []) ++ at.left
    moved at = at.pairs_are ∙ sym (append_assoc at.passed (pair ∷ []) at.left)

    -- one that is none of the parts is passed over
    pub passed_over : (Tells disk_of mid → is_part of_paths pair ≡ false) → PartsBy disk_of mid t (count + 1)
    passed_over out = record {
      going = came.going;
      few = came.few;
      given = came.given;
      stands = λ o. let at = came.stands o in record {
        under = at.under;
        passed = at.passed ++ pair ∷ [];
        left = at.left;
        pairs_are = moved at;
        many = omega (arith, at.many, length-append at.passed (pair ∷ []));
        walk_is = at.walk_is;
        past = stay_past at at.left (behind at);
        made = subst (λ xs. HasTaken mid.stream.steps (parts_at u of_paths) p xs t)
            (sym (part_passed of_paths at.passed [] pair (out o)
            ∙ append-nil (filter (is_part of_paths) at.passed))) at.made;
      };
    }

    -- where none stands behind, the parts came
    pub none_left : (Tells disk_of mid → (x : List ℕ) → is_le (key_cmp pair.0 x) ≡ true → Misses of_paths x)
        → PartsToEnd disk_of mid t
    none_left misses = record {
      going = came.going;
      all = λ o.
          let at = came.stands o in
          subst (λ xs. HasTaken mid.stream.steps (parts_at u of_paths) p xs t)
          (sym (parts_are at
          ∙ part_passed of_paths at.passed at.left pair (not_part of_paths pair (misses o pair.0 (le_itself pair.0)))
          ∙ ap (λ ys. filter (is_part of_paths) at.passed ++ ys) (filter_none (is_part of_paths) at.left
          (all_weaker _ _ (λ y l. not_part of_paths y (misses o y.0 l)) at.left (behind at)))
          ∙ append-nil (filter (is_part of_paths) at.passed))) at.made;
    }

    -- the next one of the parts
    module _ (next : List ℕ) (less : key_cmp pair.0 next ≡ Less)
        (misses : (x : List ℕ) → is_le (key_cmp pair.0 x) ≡ true → key_cmp x next ≡ Less → Misses of_paths x) where
      less_from_test : (o : Ordering) → is_lt o ≡ true → o ≡ Less
      less_from_test Less e = refl
      less_from_test Equal e = cc
      less_from_test Greater e = cc

      from_test : (o : Ordering) → not (is_lt o) ≡ true → is_lt o ≡ false
      from_test Less e = cc
      from_test Equal e = refl
      from_test Greater e = refl

      -- the pairs below the next key: those that were passed, and some that are none of the parts
      below_is : (at : StandsBefore mid t count pair) → below next (pairs u p) ≡ at.passed ++ pair ∷ below next at.left
      below_is at =
          ap (below next) at.pairs_are
          ∙ filter-append (λ x. is_lt (key_cmp x.0 next)) at.passed (pair ∷ at.left)
          ∙ ap₂ (λ front b. front ++ cond b (pair ∷ below next at.left) (below next at.left))
          (filter_all (λ x. is_lt (key_cmp x.0 next)) at.passed
          (all_weaker _ _ (λ x l. ap is_lt (nat_list_cmp_total.trans x.0 pair.0 next l less)) at.passed
          (all_before at.passed at.left pair (rise at)))) (ap is_lt less)

      same_parts : (at : StandsBefore mid t count pair)
          → filter (is_part of_paths) (below next (pairs u p)) ≡ filter (is_part of_paths) at.passed
      same_parts at =
          ap (filter (is_part of_paths)) (below_is at)
          ∙ part_passed of_paths at.passed (below next at.left) pair
          (not_part of_paths pair (misses pair.0 (le_itself pair.0) less))
          ∙ ap (λ ys. filter (is_part of_paths) at.passed ++ ys) (filter_none (is_part of_paths) (below next at.left)
          (all_with (λ y. is_le (key_cmp pair.0 y.0) ≡ true) (λ y. is_lt (key_cmp y.0 next) ≡ true) _
          (λ y l m. not_part of_paths y (misses y.0 l (less_from_test (key_cmp y.0 next) m))) (below next at.left)
          (all_filter (λ y. is_le (key_cmp pair.0 y.0) ≡ true) (λ x. is_lt (key_cmp x.0 next)) at.left (behind at))
          (all_kept (λ x. is_lt (key_cmp x.0 next)) at.left)))
          ∙ append-nil (filter (is_part of_paths) at.passed)

      below_down : (x y : Pair) → pair_cmp x y ≡ Less → is_lt (key_cmp y.0 next) ≡ true
          → is_lt (key_cmp x.0 next) ≡ true
      below_down x y l h =
          ap is_lt (nat_list_cmp_total.trans x.0 y.0 next l (less_from_test (key_cmp y.0 next) h))

      behind_next : (y : Pair) → not (is_lt (key_cmp y.0 next)) ≡ true → is_le (key_cmp pair.0 y.0) ≡ true
      behind_next y h = by_test (is_le (key_cmp pair.0 y.0)) refl
        where
          by_test : (b : Bool) → is_le (key_cmp pair.0 y.0) ≡ b → is_le (key_cmp pair.0 y.0) ≡ true
          by_test true e = e
          by_test false e =
              let low = nat_list_cmp_total.trans y.0 pair.0 next (below_from_not_le pair.0 y.0 e) less in
              absurd (false≢true (sym (from_test (key_cmp y.0 next) h) ∙ ap is_lt low))

    -- the search for it
    abbrev Between : List ℕ → Type 0
    Between next = (key_cmp pair.0 next ≡ Less)
        × ((x : List ℕ) → is_le (key_cmp pair.0 x) ≡ true → key_cmp x next ≡ Less → Misses of_paths x)

    module _ (inner : StoreStream D) (next : List ℕ) (between : Tells disk_of mid → Between next) where
      abbrev jumped : PartsStream D
      jumped = record { stream = inner; parts = mid.parts }

      pub searched : Starts disk_of next mid.stream inner (Ok tt) → PartsBy disk_of jumped t (count + 1)
      searched starts =
          let keep = carry mid.stream inner starts.keeps in
          record {
            going = starts.going;
            few = keep (λ s v q. length (pairs v q) < pairs_limit) came.few;
            given = keep (λ s v q. HasGiven s t q) came.given;
            stands = λ o.
                let at = came.stands (starts.keeps.told o) in
                let is = between (starts.keeps.told o) in
                let left = filter (λ x. not (is_lt (key_cmp x.0 next))) (pairs u p) in
                record {
                  under = keep (λ s v q. IsTreeUnder v q) at.under;
                  passed = below next (pairs u p);
                  left = left;
                  pairs_are = keep (λ s v q. pairs v q ≡ below next (pairs u p) ++ left)
                      (cut_by pair_cmp (λ x. is_lt (key_cmp x.0 next)) (below_down next is.0 is.1) (pairs u p)
                      (rising_pairs u p at.under.is_tree));
                  many = omega (
                    arith,
                    at.many,
                    ap (λ (xs : List Pair). length xs) (below_is next is.0 is.1 at),
                    length-append at.passed (pair ∷ below next at.left),
                  );
                  walk_is = keep (λ s v q. StandsAfter v q (below next (pairs u p)) inner.walk) (starts.stands o);
                  past = stay_past at left
                      (all_weaker _ _ (behind_next next is.0 is.1) left
                      (all_kept (λ x. not (is_lt (key_cmp x.0 next))) (pairs u p)));
                  made = keep (λ s v q. HasTaken s (parts_at v of_paths) q
                      (filter (is_part of_paths) (below next (pairs u p))) t)
                      (subst (λ xs. HasTaken mid.stream.steps (parts_at u of_paths) p xs t)
                      (sym (same_parts next is.0 is.1 at)) at.made);
                };
          }

      pub not_searched : (fault : StreamFault) → Starts disk_of next mid.stream inner (Err fault)
          → PartsEndBy disk_of jumped t fault
      not_searched fault starts = record {
        front = λ o.
            let at = came.stands (starts.keeps.told o) in
            carry mid.stream inner starts.keeps
            (λ s v q. (rest : List DumpStep) × (dump (parts_at v of_paths) ≡ dump t ++ rest))
            (front_of mid.stream.steps (parts_at u of_paths) p (filter (is_part of_paths) at.passed) t at.made);
        cause = starts.cause;
      }

    -- ---- the steps

    module _ (steps : PairSteps) (s : DumpStep) (is : Tells disk_of mid → is_part of_paths pair ≡ true) where
      abbrev inner_with : StoreStream D
      inner_with = record {
        store = mid.stream.store;
        walk = mid.stream.walk;
        steps = steps;
        fault = mid.stream.fault;
      }

      abbrev with_steps : PartsStream D
      with_steps = record { stream = inner_with; parts = mid.parts }

      taken_are : Tells disk_of mid → (at : StandsBefore mid t count pair)
          → pairs (parts_at u of_paths) p ≡ filter (is_part of_paths) at.passed ++ pair ∷ filter (is_part of_paths)
          at.left
      taken_are o at = parts_are at ∙ part_taken of_paths at.passed at.left pair (is o)

      more_taken : Tells disk_of mid → (at : StandsBefore mid t count pair)
          → filter (is_part of_paths) (at.passed ++ pair ∷ []) ≡ filter (is_part of_paths) at.passed ++ pair ∷ []
      more_taken o at = part_taken of_paths at.passed [] pair (is o)

      pub part_step : TakesPair mid.stream.steps steps pair s takens.Step → PartsOn disk_of with_steps t s
      part_step takes = record {
        came = record {
          going = came.going;
          few = came.few;
          given = takes.given t p came.given;
          stands = λ o. let at = came.stands o in record {
            under = at.under;
            passed = at.passed ++ pair ∷ [];
            left = at.left;
            pairs_are = moved at;
            many = omega arith;
            walk_is = at.walk_is;
            past = stay_past at at.left (behind at);
            made = subst (λ xs. HasTaken steps (parts_at u of_paths) p xs (after_step t s)) (sym (more_taken o at))
                (takes.taken (parts_at u of_paths) p (filter (is_part of_paths) at.passed)
                (filter (is_part of_paths) at.left) t at.made (taken_are o at));
          };
        };
        extends = extends_by t p s (takes.goes_on t p came.given refl);
      }

      pub part_more : TakesPair mid.stream.steps steps pair s takens.More → PartsBy disk_of with_steps t (count + 1)
      part_more takes = record {
        going = came.going;
        few = came.few;
        given = takes.given t p came.given;
        stands = λ o. let at = came.stands o in record {
          under = at.under;
          passed = at.passed ++ pair ∷ [];
          left = at.left;
          pairs_are = moved at;
          many = omega (arith, at.many, length-append at.passed (pair ∷ []));
          walk_is = at.walk_is;
          past = stay_past at at.left (behind at);
          made = subst (λ xs. HasTaken steps (parts_at u of_paths) p xs t) (sym (more_taken o at))
              (takes.taken (parts_at u of_paths) p (filter (is_part of_paths) at.passed)
              (filter (is_part of_paths) at.left) t at.made (taken_are o at));
        };
      }

      pub part_refused : TakesPair mid.stream.steps steps pair s takens.Refused
          → PartsEndBy disk_of with_steps t streams.NoDump
      part_refused takes = record {
        front = λ o. absurd (none o);
        cause = (came.going, none);
      }
        where
          none : Tells disk_of mid → ⊥
          none o =
              let at = came.stands o in
              takes.refused (parts_at u of_paths) p (filter (is_part of_paths) at.passed)
              (filter (is_part of_paths) at.left) t at.made (taken_are o at) refl

  -- ---- the end

  -- fewer pairs were passed than a tree has
  pub not_so_many : (stream : PartsStream D) (t : Tree) (count : ℕ) → PartsBy disk_of stream t count
      → pairs_limit ≤ count → PartsEndBy disk_of stream t streams.NoDump
  not_so_many stream t count came many = record {
    front = λ o. absurd (none o);
    cause = (came.going, none);
  }
    where
      none : Tells disk_of stream → ⊥
      none o =
          let at = came.stands o in
          let all = ap (λ (xs : List Pair). length xs) at.pairs_are ∙ length-append at.passed at.left in
          omega (arith, all, at.many, many, came.few)

  module _ (mid : PartsStream D) (t : Tree) where
    pub whole_parts : PartsToEnd disk_of mid t
        → ((u : Tree) (p : Parameters) (t : Tree) → HasTaken mid.stream.steps u p (pairs u p) t → t ≡ u)
        → IsWholeParts disk_of mid t
    whole_parts came tree = record {
      going = came.going;
      tree = λ o. tree (parts_of mid) mid.stream.store.params t (came.all o);
    }

    pub not_whole_parts : PartsToEnd disk_of mid t
        → ((u : Tree) (p : Parameters) (t : Tree) → HasTaken mid.stream.steps u p (pairs u p) t → IsTrue false)
        → PartsEndBy disk_of mid t streams.NoDump
    not_whole_parts came told = record {
      front = λ o. absurd (none o);
      cause = (came.going, none);
    }
      where
        none : Tells disk_of mid → ⊥
        none o = false≢true (told (parts_of mid) mid.stream.store.params t (came.all o))
