-- The calls of a list over pages: what holds of the list behind a change that succeeded.
use Rattle.std.proofs.Common.{◌≡◌, ℕ, ◌+◌, ◌<◌, ◌≤◌, List, [], ◌∷◌, length, not, Bool, true, Option, Ok, Less, Equal}
use Rattle.std.proofs.Common.{Greater, refl, sym, subst, arith}
use Rattle.std.specs.Ordering.{eq_by_cmp}
use Rattle.std.specs.FinMap.{put}
use Rattle.std.specs.FinMap.Entries.{by_order}
use Rattle.store_base.specs.Keys.{IsKey}
use Rattle.store_model.specs.Paths.{key_cmp}
use Rattle.store_model.specs.Draws.{Draw}
use Rattle.store_model.specs.Pairs.{Pair, IsValue}
use Rattle.store_model.proofs.ListsLemmasCuts.{length-filter-le}
use Rattle.node_pages.specs.PagesState.{PagesState, IsObservable}
use Rattle.skip_levels.specs.declared.walk.PathEnd.{PathEnd}
use Rattle.skip_levels.specs.Descent.{HoldsPairs, IsKnownGroup}
use Rattle.skip_levels.specs.PagePairs.{pairs_of_map, list_over, IsHeld}
use Rattle.ordered_pairs.specs.PairsState.{most_pairs, without, IsPairPut, IsPairTake}
use Rattle.skip_levels.specs.PairChanges.{PutsPairIn, TakesPairIn}
use Rattle.skip_levels.proofs.PagePairsLemmas.{holds_own, holds_its_pairs}
use Rattle.ordered_pairs.proofs.ValidLemmas.{IsPairs-put, IsPairs-without}

-- a put adds one pair at most
length-put-le : (key value : List ℕ) (s : List Pair) → length (put key_cmp key value s) ≤ length s + 1
length-put-le key value [] = omega arith
length-put-le key value (e ∷ s) =
    let rest = length-put-le key value s in
    elim (key_cmp key e.0) as
    (λ r. length (by_order r ((key, value) ∷ e ∷ s) ((e.0, value) ∷ s) (e ∷ put key_cmp key value s))
    ≤ length (e ∷ s) + 1) [
      | Less ↦ omega arith
      | Equal ↦ omega arith
      | Greater ↦ omega arith
    ]

module _ (d : Draw) (old new : PagesState) (key : List ℕ) (is_whole : Bool) (whole : is_whole ≡ true)
    (held : IsObservable old → HoldsPairs d (pairs_of_map old.pages) old.pages) where
  abbrev s : List Pair
  s = pairs_of_map old.pages

  module _ {T : Type 0} (unit : T) (value : List ℕ) (known : Option PathEnd) (is_key : IsKey key)
      (is_value : IsValue value) (room : IsHeld d is_whole old → length s < most_pairs)
      (call : PutsPairIn d old new key value known (Ok unit)) where
    put_holds : IsObservable old → HoldsPairs d (put key_cmp key value s) new.pages
    put_holds o =
        let h = held o in
        record {
          lawful = h.lawful;
          height = h.height;
          pairs = IsPairs-put key value s is_key is_value h.pairs;
          few = omega (arith, length-put-le key value s, room (whole, (o, h)));
          map_is = call.put o;
        }

    pub whole_behind_put : IsObservable new → HoldsPairs d (pairs_of_map new.pages) new.pages
    whole_behind_put o = holds_its_pairs d (put key_cmp key value s) new.pages (put_holds (call.call.hidden o))

    pub known_behind_put : IsObservable new → IsKnownGroup d (pairs_of_map new.pages) known
    known_behind_put n = let o = call.call.hidden n
        in subst (λ pairs. IsKnownGroup d pairs known)
        (sym (holds_own d (put key_cmp key value s) new.pages (put_holds o))) (call.known o)

    pub list_put : IsPairPut (list_over d is_whole old) (list_over d true new) key value (Ok unit)
    list_put = record {
      faults = call.call.faults;
      hidden = λ n. let o = call.call.hidden n.1.0 in (whole, (o, held o));
      observed = λ seen.
          let o = seen.1.0 in
          let n = call.call.observable o in
          record {
            observable = (refl, (n, whole_behind_put n));
            changed = holds_own d (put key_cmp key value s) new.pages (put_holds o);
          };
    }

  module _ (value : Option (List ℕ)) (known : Option PathEnd) (call : TakesPairIn d old new key known (Ok value)) where
    take_holds : IsObservable old → HoldsPairs d (without key s) new.pages
    take_holds o =
        let h = held o in
        record {
          lawful = h.lawful;
          height = h.height;
          pairs = IsPairs-without key s h.pairs;
          few = omega (arith, length-filter-le (λ (e : Pair). not (eq_by_cmp key_cmp key e.0)) s, h.few);
          map_is = call.taken o;
        }

    pub whole_behind_take : IsObservable new → HoldsPairs d (pairs_of_map new.pages) new.pages
    whole_behind_take o = holds_its_pairs d (without key s) new.pages (take_holds (call.call.hidden o))

    pub known_behind_take : IsObservable new → IsKnownGroup d (pairs_of_map new.pages) known
    known_behind_take n = let o = call.call.hidden n
        in subst (λ pairs. IsKnownGroup d pairs known)
        (sym (holds_own d (without key s) new.pages (take_holds o))) (call.known o)

    pub list_taken : IsPairTake (list_over d is_whole old) (list_over d true new) key (Ok value)
    list_taken = record {
      faults = call.call.faults;
      hidden = λ n. let o = call.call.hidden n.1.0 in (whole, (o, held o));
      observed = λ seen.
          let o = seen.1.0 in
          let n = call.call.observable o in
          record {
            observable = (refl, (n, whole_behind_take n));
            found = call.found o;
            changed = holds_own d (without key s) new.pages (take_holds o);
          };
    }

-- a search leaves the list as it was, and what is known of it right
module _ (d : Draw) (old new : PagesState) (same : new.pages ≡ old.pages)
    (held : HoldsPairs d (pairs_of_map old.pages) old.pages) where
  pub whole_still : HoldsPairs d (pairs_of_map new.pages) new.pages
  whole_still = subst (λ m. HoldsPairs d (pairs_of_map m) m) (sym same) held

  pub known_still : (known : Option PathEnd) → IsKnownGroup d (pairs_of_map old.pages) known
      → IsKnownGroup d (pairs_of_map new.pages) known
  known_still known right = subst (λ m. IsKnownGroup d (pairs_of_map m) known) (sym same) right
