-- Steps of a source that are taken until one has a change.
use Rattle.std.proofs.Common.{◌≡◌, inl, inr, List, ◌++◌, Bool, true, false, Option, Some, None, Result, Ok, Err}
use Rattle.std.proofs.Common.{IsTrue, refl, sym, ap, subst, ◌∙◌}
use Rattle.store_model.specs.Parameters.{Parameters}
use Rattle.store_model.specs.Paths.{Path, is_path, fits_field}
use Rattle.store_model.specs.Trees.{Tree}
use Rattle.store_model.specs.Commands.{Command as commands}
use Rattle.staged_tree.specs.declared.guards.When.{When}
use Rattle.staged_tree.specs.Guards.{Guarded}
use Rattle.staged_tree.specs.ChangeStreams.{GivesChange}
use Rattle.dump_streams.specs.Dumps.{DumpStep, after_step, step_path}
use Rattle.dump_streams.specs.Streams.{IsNext, Extends}
use Rattle.dump_streams.specs.declared.fault.StreamFault.{StreamFault}
use Rattle.dump_streams.specs.declared.fault.StreamFault.TheVariants as streams
use Rattle.image_puts.specs.declared.fault.PutFault.{PutFault}
use Rattle.image_puts.specs.declared.fault.PutFault.TheVariants as faults
use Rattle.image_puts.specs.declared.put_changes.PutChanges.{PutChanges}
use Rattle.image_puts.specs.PutChanges.{HasPutSteps, HasPutAt, HasPutAll, EndsPut, KeepsPut, BeginsStep}
use Rattle.image_puts.proofs.PutTurns.{step_given, step_passed, all_given}

pub keeps_itself : {S : Type 0} (keeps : S → S → Type 0) (stream : PutChanges S) → KeepsPut keeps stream stream
keeps_itself keeps stream = record { source = λ one h. h; to = refl; replaces = refl; fresh = refl }

-- what was given of the first moment was given of the second, and none is pending
pub record Rounds {S : Type 0} (came : S → Tree → Type 0) (keeps : S → S → Type 0) (start stream : PutChanges S)
    : Type 0 where
  pub none : stream.pending ≡ None
  pub steps : (changes : List Guarded) → HasPutSteps came start changes → HasPutSteps came stream changes
  pub kept : (first : PutChanges S) → KeepsPut keeps first start → KeepsPut keeps first stream

pub first_round : {S : Type 0} (came : S → Tree → Type 0) (keeps : S → S → Type 0) (start : PutChanges S)
    → start.pending ≡ None → Rounds came keeps start start
first_round came keeps start none = record { none = none; steps = λ changes h. h; kept = λ first h. h }

module _ {S : Type 0} (came whole : S → Tree → Type 0) (fails : S → Tree → StreamFault → Type 0) (keeps : S → S
    → Type 0)
    (start stream : PutChanges S) (rounds : Rounds came keeps start stream) (source : S) (s : DumpStep) where
  -- behind a call of the source
  abbrev pub mid : PutChanges S
  mid = record stream { source = source; step = s }

  abbrev pub Gives : PutChanges S → commands → Result (Option When) PutFault → Type 0
  Gives new change result = GivesChange (HasPutSteps came start) (HasPutAt came new) (HasPutAll whole new)
      (λ changes fault. EndsPut came fails new fault) change result

  abbrev NextIs : Result Bool StreamFault → Type 0
  NextIs result = IsNext (came stream.source) (came source) (whole source) (fails source) s result

  pub fails_next : (fault : StreamFault) → NextIs (Err fault) → (change : commands)
      → Gives mid change (Err (faults.Source fault))
  fails_next fault next change = record {
    came = λ changes h. tt;
    whole = λ changes h. tt;
    failed = λ changes h. let steps = rounds.steps changes h in
        ((steps.put).tree, inl (next.failed (steps.put).tree (steps.put).came_is));
  }

  pub ends_next : (is_there : Bool) → is_there ≡ false → NextIs (Ok is_there) → (change : commands)
      → Gives mid change (Ok None)
  ends_next true e next change = cc
  ends_next false e next change = record {
    came = λ changes h. tt;
    whole = λ changes h. let steps = rounds.steps changes h in
        all_given came whole stream changes steps rounds.none source s
        (next.whole (steps.put).tree (steps.put).came_is);
    failed = λ changes h. tt;
  }

  -- the step goes on with what came
  came_more : (is_there : Bool) → is_there ≡ true → NextIs (Ok is_there) → (changes : List Guarded)
      → (steps : HasPutSteps came stream changes) → came source (after_step (steps.put).tree s)
  came_more true e next changes steps = next.came (steps.put).tree (steps.put).came_is
  came_more false e next changes steps = cc

  extends_more : (is_there : Bool) → is_there ≡ true → NextIs (Ok is_there) → (changes : List Guarded)
      → (steps : HasPutSteps came stream changes) → Extends (steps.put).tree s
  extends_more true e next changes steps = next.extends (steps.put).tree (steps.put).came_is
  extends_more false e next changes steps = cc

  -- the same source, place and directories behind it
  pub kept_mid : (first : PutChanges S) → ((one : S) → keeps one stream.source → keeps one source)
      → KeepsPut keeps first start → KeepsPut keeps first mid
  kept_mid first goes h =
      let kept = rounds.kept first h in
      record {
        source = λ one h. goes one (kept.source one h);
        to = kept.to;
        replaces = kept.replaces;
        fresh =
            kept.fresh;
      }

  pub kept_begun : (first new : PutChanges S) (change : commands) (given : Option When) (place : Path)
      → BeginsStep mid new place change given → ((one : S) → keeps one stream.source → keeps one source)
      → KeepsPut keeps first start → KeepsPut keeps first new
  kept_begun first new change given place begins goes h =
      let kept = kept_mid first goes h in record {
        source = λ one h. subst (λ x. keeps one x) (sym begins.source) (kept.source one h);
        to = begins.to ∙ kept.to;
        replaces = begins.replaces ∙ kept.replaces;
        fresh = begins.fresh ∙ kept.fresh;
      }

  module _ (is_there : Bool) (there : is_there ≡ true) (next : NextIs (Ok is_there)) where
    pub too_long : fits_field (stream.to ++ step_path s) ≡ false → (change : commands) → (path : Path)
        → path ≡ step_path s → Gives mid change (Err (faults.TooLong path))
    too_long long change path path_is = record {
      came = λ changes h. tt;
      whole = λ changes h. tt;
      failed = λ changes h. let steps = rounds.steps changes h in record {
        tree = (steps.put).tree;
        step = s;
        came_is = came_more is_there there next changes steps;
        extends = extends_more is_there there next changes steps;
        path_is = path_is;
        long = ap (λ (x : Path). fits_field (stream.to ++ x)) path_is ∙ long;
      };
    }

    module _ (p : Parameters) (place : Path) (place_is : place ≡ stream.to ++ step_path s)
        (valid : IsTrue (is_path place)) (new : PutChanges S) (change : commands) where
      pub gives_next : (when : When) → BeginsStep mid new place change (Some when) → Gives new change (Ok (Some when))
      gives_next when begins = record {
        came = λ changes h. let steps = rounds.steps changes h in
            step_given came p stream changes steps rounds.none source s
            (came_more is_there there next changes steps) (extends_more is_there there next changes steps) place
            place_is
            valid new change when begins;
        whole = λ changes h. tt;
        failed = λ changes h. tt;
      }

      pub passes_next : BeginsStep mid new place change None
          → ((first : S) → keeps first stream.source → keeps first source) → Rounds came keeps start new
      passes_next begins goes = record {
        none = begins.last;
        steps = λ changes h. let steps = rounds.steps changes h in
            step_passed came p stream changes steps rounds.none source s
            (came_more is_there there next changes steps) (extends_more is_there there next changes steps) place
            place_is
            valid new change begins;
        kept = λ first h. kept_begun first new change None place begins goes h;
      }

-- too many steps in a row had no change
pub too_many : {S : Type 0} (came whole : S → Tree → Type 0) (fails : S → Tree → StreamFault → Type 0)
    (keeps : S → S → Type 0) (start stream : PutChanges S) → Rounds came keeps start stream → (change : commands)
    → GivesChange {F = PutFault} (HasPutSteps came start) (HasPutAt came stream) (HasPutAll whole stream)
    (λ changes fault. EndsPut came fails stream fault) change (Err (faults.Source streams.TooLong))
too_many came whole fails keeps start stream rounds change = record {
  came = λ changes h. tt;
  whole = λ changes h. tt;
  failed = λ changes h. let steps = rounds.steps changes h in ((steps.put).tree, inr ((steps.put).came_is, refl));
}
