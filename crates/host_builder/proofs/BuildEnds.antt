-- How making a tree ends.
use Rattle.std.proofs.Common.{◌≡◌, ℕ, false, IsTrue, List, [], Option, Some, None, Result, Ok, Err, refl, sym, ap}
use Rattle.std.proofs.Common.{subst}
use Rattle.std.proofs.Common.{◌∙◌}
use Rattle.store_model.specs.Paths.{Path}
use Rattle.store_model.specs.Trees.{Tree, empty_tree}
use Rattle.dump_streams.specs.Draining.{StopsBy, TakesFront, RefusesStep}
use Rattle.dump_streams.specs.Dumps.{DumpStep, dump}
use Rattle.dump_streams.specs.declared.fault.StreamFault.{StreamFault}
use Rattle.dump_streams.specs.declared.taker.TakerFault.{TakerFault}
use Rattle.dump_streams.specs.declared.draining.DrainFault.{DrainFault}
use Rattle.dump_streams.specs.declared.draining.DrainFault.TheVariants as drains
use Rattle.host_builder.specs.declared.attribute.Wanted.{Wanted}
use Rattle.host_builder.specs.declared.plan.Plan.{Plan}
use Rattle.host_builder.specs.declared.plan.Standing.{Standing}
use Rattle.host_builder.specs.Builders.{BuilderState, IsObservable, faults_after, risen}
use Rattle.host_builder.specs.Faults.{build_fault}
use Rattle.host_builder.specs.Takes.{TookSteps, BreaksStep, WhyBroken, IsFresh, Finishes, TakesAway, StaysAccounted}
use Rattle.host_builder.specs.Takes.{is_noted, is_accounted}
use Rattle.host_builder.specs.Views.{Makes, Unmakes}

-- before anything was made all of it is noted
first_accounted : (first : BuilderState) (plan : Plan) → IsFresh plan → first.holds ≡ []
    → IsTrue (is_accounted plan.stands.items first.holds)
first_accounted first plan fresh none =
    subst (λ (t : Tree). IsTrue (is_accounted plan.stands.items t)) (sym none) refl

-- What was made since a first moment is taken away again.
module _ (old first mid new : BuilderState) (before after : Plan) (failed stays : ℕ) (old_is : first ≡ old)
    (fresh : IsFresh before) (away : TakesAway mid new after.stands.items stays) where
  pub unmakes_all : mid.is_observable ≡ first.is_observable → mid.faults ≡ failed
      → StaysAccounted first mid before.stands.items after.stands.items → Unmakes old new failed stays
  unmakes_all observable faults accounted = record {
    observable = away.observable ∙ observable ∙ ap (λ (b : BuilderState). b.is_observable) old_is;
    faults = away.faults ∙ ap (λ (n : ℕ). risen n stays) faults;
    holds = λ seen none gone.
        let seen_first = ap (λ (b : BuilderState). b.is_observable) old_is ∙ seen in
        away.holds (observable ∙ seen_first)
        (accounted seen_first (first_accounted first before fresh (ap (λ (b : BuilderState). b.holds) old_is ∙ none)))
        gone;
  }

-- ---- steps that were not all taken

module _ {S T : Type 0} (came whole : S → Tree → Type 0) (fails : S → Tree → StreamFault → Type 0)
    (state_of : T → BuilderState) (plan_of : T → Plan) where
  abbrev pub Took : T → T → List DumpStep → Type 0
  Took a b steps = TookSteps (state_of a) (state_of b) (plan_of a) (plan_of b) steps

  abbrev pub Broke : T → T → DumpStep → TakerFault → Type 0
  Broke a b s fault = BreaksStep (state_of a) (state_of b) (plan_of a) (plan_of b) s fault

  module _ (stream : S) (first taker : T) (old new : BuilderState) (wanted : Wanted) (stays : ℕ)
      (old_is : state_of first ≡ old) (fresh : IsFresh (plan_of first)) (wanted_is : (plan_of first).wanted ≡ wanted)
      (links : (state_of taker).has_links ≡ false)
      (away : TakesAway (state_of taker) new (plan_of taker).stands.items stays) where
    pub stops : (fault : DrainFault) → StopsBy came whole fails Took Broke stream first taker fault
        → Makes came whole fails stream old new wanted stays (Err (build_fault fault (plan_of taker).obstacle))
    stops (drains.Stream fault) front =
        let took = front.took_is in
        record {
          tree = front.tree;
          why = front.why;
          unmakes = unmakes_all old (state_of first) (state_of taker) new (plan_of first) (plan_of taker) old.faults
              stays
              old_is fresh away took.observable (took.faults ∙ ap (λ (b : BuilderState). b.faults) old_is)
              took.accounted;
          links = away.links ∙ links;
        }
    stops (drains.Taker fault) refuses =
        by_obstacle (plan_of taker).obstacle (refuses.broke_is.why (refuses.took_is.obstacle ∙ fresh.obstacle))
      where
        unmakes_step : (failed : ℕ) → (state_of taker).faults ≡ failed → Unmakes old new failed stays
        unmakes_step failed is =
            let took = refuses.took_is in
            let broke = refuses.broke_is in
            unmakes_all old (state_of first) (state_of taker) new (plan_of first) (plan_of taker) failed stays
            old_is fresh away (broke.observable ∙ took.observable) is
            (λ seen all. broke.accounted (took.observable ∙ seen) (took.accounted seen all))

        first_faults : (state_of refuses.before).faults ≡ old.faults
        first_faults = refuses.took_is.faults ∙ ap (λ (b : BuilderState). b.faults) old_is

        wanted_there : (plan_of refuses.before).wanted ≡ wanted
        wanted_there = refuses.took_is.wanted ∙ wanted_is

        by_obstacle : (obstacle : Option Path)
            → WhyBroken (state_of refuses.before) (state_of taker) (plan_of refuses.before) refuses.step fault obstacle
            → Makes came whole fails stream old new wanted stays (Err (build_fault (drains.Taker fault) obstacle))
        by_obstacle None faults = unmakes_step (faults_after {T = Unit {0}} old.faults (Err fault))
            (faults ∙ ap (λ (n : ℕ). faults_after {T = Unit {0}} n (Err fault)) first_faults)
        by_obstacle (Some path) met = record {
          tree = refuses.tree;
          step = refuses.step;
          came_is = refuses.came_is;
          extends = refuses.extends;
          path_is = (met.1).path_is;
          text = (met.1).text;
          skips = ap (λ (w : Wanted). w.skips) (sym wanted_there) ∙ (met.1).skips;
          named = refuses.took_is.named
              (ap (λ (w : Wanted). w.skips) (sym refuses.took_is.wanted) ∙ (met.1).skips);
          unmakes = unmakes_step old.faults (met.0 ∙ first_faults);
          links = away.links ∙ links;
        }

-- ---- what waited was not all made

pub finish_stops : (old first mid made new : BuilderState) (before after : Plan) (stays : ℕ) (fault : TakerFault)
    → first ≡ old → IsFresh before → (t : Tree) → TookSteps first mid before after (dump t)
    → Finishes after.wanted.links mid made after.later.items (Err fault)
    → TakesAway made new after.stands.items stays
    → Unmakes old new (faults_after {T = Unit {0}} old.faults (Err fault)) stays
finish_stops old first mid made new before after stays fault old_is fresh t took finishes away =
    unmakes_all old first made new before after (faults_after {T = Unit {0}} old.faults (Err fault)) stays old_is fresh
    away (finishes.observable ∙ took.observable)
    (finishes.faults ∙ ap (λ (n : ℕ). faults_after {T = Unit {0}} n (Err fault))
    (took.faults ∙ ap (λ (b : BuilderState). b.faults) old_is))
    (λ seen all. finishes.brings (took.observable ∙ seen) (is_noted after.stands.items) (took.accounted seen all))
