-- What one more pair makes of a stream.
use Rattle.std.proofs.Common.{◌≡◌, ℕ, ◌+◌, ◌≤◌, false, [], ◌∷◌, ◌++◌, length, Option, Some, None, Ok, refl, ap}
use Rattle.std.proofs.Common.{◌∙◌, arith, IsTrue}
use Rattle.std.proofs.lemmas.Bool.{false≢true}
use Rattle.std.proofs.lemmas.List.{length-append}
use Rattle.store_model.specs.Parameters.{Parameters}
use Rattle.store_model.specs.Trees.{Tree, empty_tree}
use Rattle.store_model.specs.Pairs.{Pair, pairs}
use Rattle.store_model.specs.Pages.{IsTreeUnder}
use Rattle.disk_model.specs.DiskState.{DiskState, IsObservable}
use Rattle.tree_pairs.specs.TreeCalls.{pairs_limit}
use Rattle.dump_streams.specs.Dumps.{DumpStep}
use Rattle.dump_streams.specs.Reading.{GoesOn}
use Rattle.dump_streams.specs.declared.steps.PairSteps.{PairSteps}
use Rattle.dump_streams.specs.declared.taken.Taken.TheVariants as takens
use Rattle.dump_streams.specs.Taking.{HasGiven, HasTaken, TakesPair}
use Rattle.dump_streams.specs.Streams.{Extends}
use Rattle.dump_streams.specs.declared.fault.StreamFault.TheVariants as streams
use Rattle.image_check.specs.Standing.{IsFitting}
use Rattle.staged_tree.proofs.TreePages.{few_pairs}
use Rattle.store_core.specs.Walks.{StandsAfter}
use Rattle.store_stream.specs.declared.stream.StoreStream.{StoreStream}
use Rattle.store_stream.specs.StoreStreams.{CameBy, IsWhole, EndsBy}
use Rattle.store_stream.specs.Pulling.{CameWith, CameToEnd, CameOn, Pulled}

pub extends_by : (t : Tree) (p : Parameters) (s : DumpStep) → GoesOn t s p → Extends t s
extends_by t p s goes = record { is_tree = goes.under.is_tree; dump_is = goes.dump_is }

pub under_fitting : (t : Tree) (p : Parameters) → IsFitting t p → IsTreeUnder t p
under_fitting t p fitting = record { is_tree = fitting.tree; bare = fitting.fits.bare }

module _ {D : Type 0} (disk_of : D → DiskState) where
  -- nothing came yet
  pub came_none : (stream : StoreStream D) → IsFitting stream.store.tree stream.store.params → stream.fault ≡ None
      → StandsAfter stream.store.tree stream.store.params [] stream.walk
      → HasGiven stream.steps empty_tree stream.store.params
      → HasTaken stream.steps stream.store.tree stream.store.params [] empty_tree
      → CameBy disk_of stream empty_tree 0
  came_none stream fitting going walk given taken = record {
    going = going;
    few = few_pairs stream.store.tree stream.store.params fitting;
    given = given;
    stands = λ o. record { passed = []; many = omega arith; walk_is = walk; taken = taken };
  }

  -- fewer came than a store has
  pub not_so_many : (stream : StoreStream D) (t : Tree) (count : ℕ) → CameBy disk_of stream t count
      → pairs_limit ≤ count → EndsBy disk_of stream t streams.NoDump
  not_so_many stream t count came many = record {
    front = λ o. absurd (none o);
    cause = (came.going, none);
  }
    where
      none : IsObservable (disk_of stream.store.disk) → ⊥
      none o =
          let at = came.stands o in
          let after = at.taken.after in
          let all = ap length after.pairs_are ∙ length-append at.passed _ in
          omega (arith, all, at.many, many, came.few)

  -- what a call for a pair leaves that gave none
  pub none_pulled : (stream : StoreStream D) (t : Tree) (count : ℕ) (answer : Option Pair)
      → ((pair : Pair) → answer ≡ Some pair → ⊥) → Pulled disk_of stream t count (Ok answer)
      → CameToEnd disk_of stream t
  none_pulled stream t count None none pulled = pulled
  none_pulled stream t count (Some pair) none pulled = absurd (none pair refl)

  module _ (mid : StoreStream D) (t : Tree) where
    -- the end
    pub whole_so : CameToEnd disk_of mid t
        → ((u : Tree) (p : Parameters) (t : Tree) → HasTaken mid.steps u p (pairs u p) t → t ≡ u)
        → IsWhole disk_of mid t
    whole_so came tree = record {
      going = came.going;
      tree = λ o. tree mid.store.tree mid.store.params t (came.all o);
    }

    pub not_whole : CameToEnd disk_of mid t
        → ((u : Tree) (p : Parameters) (t : Tree) → HasTaken mid.steps u p (pairs u p) t → IsTrue false)
        → EndsBy disk_of mid t streams.NoDump
    not_whole came told = record {
      front = λ o. absurd (none o);
      cause = (came.going, none);
    }
      where
        none : IsObservable (disk_of mid.store.disk) → ⊥
        none o = false≢true (told mid.store.tree mid.store.params t (came.all o))

    module _ (count : ℕ) (pair : Pair) (came : CameWith disk_of mid t count pair) (steps : PairSteps)
        (s : DumpStep) where
      abbrev new : StoreStream D
      new = record { store = mid.store; walk = mid.walk; steps = steps; fault = mid.fault }

      -- a step
      pub step_came : TakesPair mid.steps steps pair s takens.Step → CameOn disk_of new t s
      step_came takes = record {
        came = record {
          going = came.going;
          few = came.few;
          given = takes.given t mid.store.params came.given;
          stands = λ o. let at = came.stands o in record {
            passed = at.passed ++ pair ∷ [];
            many = omega arith;
            walk_is = at.walk_is;
            taken = takes.taken mid.store.tree mid.store.params at.passed at.rest t at.taken at.pairs_are;
          };
        };
        extends = extends_by t mid.store.params s (takes.goes_on t mid.store.params came.given refl);
      }

      -- no step yet
      pub more_came : TakesPair mid.steps steps pair s takens.More → CameBy disk_of new t (count + 1)
      more_came takes = record {
        going = came.going;
        few = came.few;
        given = takes.given t mid.store.params came.given;
        stands = λ o. let at = came.stands o in record {
          passed = at.passed ++ pair ∷ [];
          many = omega (arith, at.many, length-append at.passed (pair ∷ []));
          walk_is = at.walk_is;
          taken = takes.taken mid.store.tree mid.store.params at.passed at.rest t at.taken at.pairs_are;
        };
      }

      -- a pair that is refused
      pub refused_ends : TakesPair mid.steps steps pair s takens.Refused → EndsBy disk_of new t streams.NoDump
      refused_ends takes = record {
        front = λ o. absurd (none o);
        cause = (came.going, none);
      }
        where
          none : IsObservable (disk_of mid.store.disk) → ⊥
          none o =
              let at = came.stands o in
              takes.refused mid.store.tree mid.store.params at.passed at.rest t at.taken at.pairs_are refl
