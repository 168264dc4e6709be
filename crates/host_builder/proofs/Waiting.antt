-- What waited is made, one after another.
use Rattle.std.proofs.Common.{◌≡◌, ℕ, ◌+◌, ◌<◌, length, get_or, take, List, [], ◌∷◌, ◌++◌, Result, Ok, Err, refl, sym}
use Rattle.std.proofs.Common.{ap, subst, ◌∙◌, OnOk, length-append, true}
use Rattle.std.proofs.lemmas.List.{append-nil, take_more}
use Rattle.std.proofs.lemmas.List.Concat.{flat_map-append}
use Rattle.std.specs.Prelude.{IsErrAnd}
use Rattle.store_base.specs.Counts.{raised}
use Rattle.store_model.specs.Paths.{Path, Name}
use Rattle.store_model.specs.Trees.{Tree, without}
use Rattle.dump_streams.specs.Dumps.{DumpStep}
use Rattle.dump_streams.specs.Dumps.DumpStep.{Set}
use Rattle.dump_streams.specs.declared.taker.TakerFault.{TakerFault}
use Rattle.dump_streams.specs.declared.taker.TakerFault.TheVariants as faults
use Rattle.host_builder.specs.Builders.{BuilderState, BringsNone, steps_after, faults_after, CarriesOut, Removes}
use Rattle.host_builder.specs.Builders.{risen, told_of_one}
use Rattle.host_builder.specs.declared.plan.Later.{Later}
use Rattle.host_builder.specs.Takes.{CarriesLater, TakesBack, without_all}
use Rattle.host_builder.specs.Turns.{link_step, link_steps, time_step, time_steps, link_path, link_paths}
use Rattle.host_builder.proofs.Brings.{set_brings_none, without_brings_none}
use Rattle.host_builder.proofs.Counting.{risen_more}
use Rattle.host_builder.proofs.TakerSteps.{told}
use Rattle.host_builder.proofs.Steps.{steps_after-append}

-- before the first step
pub none_made : (old : BuilderState) → CarriesLater old old [] (Ok tt)
none_made old = record {
  observable = refl;
  faults = refl;
  left_out = refl;
  holds = λ seen. refl;
  brings = λ seen test all. all;
}

-- a call that sets something on what stands
pub sets_one : (old new : BuilderState) (path : Path) (name : Name) (bytes : List ℕ)
    (result : Result (Unit {0}) TakerFault) → CarriesOut old new (Set path name bytes ∷ []) result
    → CarriesLater old new (Set path name bytes ∷ []) result
sets_one old new path name bytes (Ok done) call = record {
  observable = call.observable;
  faults = call.faults;
  left_out = call.left_out;
  holds = call.holds;
  brings = λ seen. subst (λ (t : Tree). BringsNone old.holds t) (sym (call.holds seen))
      (set_brings_none old.holds path name bytes);
}
sets_one old new path name bytes (Err fault) call = record {
  observable = call.observable;
  faults = call.faults;
  left_out = call.left_out;
  holds = λ seen. tt;
  brings = call.brings;
}

-- behind steps that were carried out come others
pub made_more : (old now new : BuilderState) (first more : List DumpStep) (result : Result (Unit {0}) TakerFault)
    → CarriesLater old now first (Ok tt) → CarriesLater now new more result
    → CarriesLater old new (first ++ more) result
made_more old now new first more result before after = record {
  observable = after.observable ∙ before.observable;
  faults = by_result result after.faults;
  left_out = after.left_out ∙ before.left_out;
  holds = λ seen. by_holds result (after.holds (before.observable ∙ seen)) (before.holds seen);
  brings = λ seen test all. after.brings (before.observable ∙ seen) test (before.brings seen test all);
}
  where
    by_result : (r : Result (Unit {0}) TakerFault) → new.faults ≡ faults_after now.faults r
        → new.faults ≡ faults_after old.faults r
    by_result r is = is ∙ ap (λ (n : ℕ). faults_after n r) before.faults

    by_holds : (r : Result (Unit {0}) TakerFault) → OnOk r (new.holds ≡ steps_after now.holds more)
        → now.holds ≡ steps_after old.holds first → OnOk r (new.holds ≡ steps_after old.holds (first ++ more))
    by_holds (Ok done) holds was =
        holds ∙ ap (λ (t : Tree). steps_after t more) was ∙ sym (steps_after-append old.holds first more)
    by_holds (Err fault) holds was = tt

-- where one fails
pub later_broken : (old now new : BuilderState) (first more all : List DumpStep) (result : Result (Unit {0}) TakerFault)
    (fault : TakerFault) → IsErrAnd result (λ e. e ≡ fault) → CarriesLater old now first (Ok tt)
    → CarriesLater now new more (Err fault) → CarriesLater old new all result
later_broken old now new first more all result fault is before after =
    let broken = made_more old now new first more (Err fault) before after in
    subst (CarriesLater old new all) (sym (told result fault is)) (record {
      observable = broken.observable;
      faults = broken.faults;
      left_out = broken.left_out;
      holds = λ seen. tt;
      brings = broken.brings;
    })

-- ---- what waited, one after another

-- the steps of some first ones, and of one more
link_steps-more : (later : List Later) (i : ℕ) (one : Later) → take (i + 1) later ≡ take i later ++ one ∷ []
    → link_steps (take (i + 1) later) ≡ link_steps (take i later) ++ link_step one
link_steps-more later i one is =
    ap link_steps is ∙ flat_map-append link_step (take i later) (one ∷ [])
    ∙ ap (λ (rest : List DumpStep). link_steps (take i later) ++ rest) (append-nil (link_step one))

time_steps-more : (later : List Later) (i : ℕ) (one : Later) → take (i + 1) later ≡ take i later ++ one ∷ []
    → time_steps (take (i + 1) later) ≡ time_steps (take i later) ++ time_step one
time_steps-more later i one is =
    ap time_steps is ∙ flat_map-append time_step (take i later) (one ∷ [])
    ∙ ap (λ (rest : List DumpStep). time_steps (take i later) ++ rest) (append-nil (time_step one))

link_paths-more : (later : List Later) (i : ℕ) (one : Later) → take (i + 1) later ≡ take i later ++ one ∷ []
    → link_paths (take (i + 1) later) ≡ link_paths (take i later) ++ link_path one
link_paths-more later i one is =
    ap link_paths is ∙ flat_map-append link_path (take i later) (one ∷ [])
    ∙ ap (λ (rest : List Path). link_paths (take i later) ++ rest) (append-nil (link_path one))

module _ (old now new : BuilderState) (later : List Later) (i : ℕ) (one : Later)
    (within : i < length later) (at : one ≡ get_or later i one) (result : Result (Unit {0}) TakerFault) where
  first_more : take (i + 1) later ≡ take i later ++ one ∷ []
  first_more = take_more later i one within ∙ ap (λ (x : Later). take i later ++ x ∷ []) (sym at)

  pub links_more : CarriesLater old now (link_steps (take i later)) (Ok tt)
      → CarriesLater now new (link_step one) result → CarriesLater old new (link_steps (take (i + 1) later)) result
  links_more before after = subst (λ (steps : List DumpStep). CarriesLater old new steps result)
      (sym (link_steps-more later i one first_more)) (made_more old now new (link_steps (take i later)) (link_step one)
      result before after)

  pub times_more : CarriesLater old now (time_steps (take i later)) (Ok tt)
      → CarriesLater now new (time_step one) result → CarriesLater old new (time_steps (take (i + 1) later)) result
  times_more before after = subst (λ (steps : List DumpStep). CarriesLater old new steps result)
      (sym (time_steps-more later i one first_more)) (made_more old now new (time_steps (take i later)) (time_step one)
      result before after)

-- ---- links that are left out

pub none_taken : (old : BuilderState) → TakesBack old old [] (Ok tt)
none_taken old = record {
  observable = refl;
  faults = refl;
  left_out = refl;
  holds = λ seen. refl;
  brings = λ seen test all. all;
}

without_all-append : (t : Tree) (first more : List Path)
    → without_all t (first ++ more) ≡ without_all (without_all t first) more
without_all-append t [] more = refl
without_all-append t (p ∷ first) more = without_all-append (without t p) first more

pub taken_more : (old now new : BuilderState) (first more : List Path) (result : Result (Unit {0}) TakerFault)
    → TakesBack old now first (Ok tt) → TakesBack now new more result → TakesBack old new (first ++ more) result
taken_more old now new first more result before after = record {
  observable = after.observable ∙ before.observable;
  faults = after.faults ∙ ap (λ (n : ℕ). faults_after n result) before.faults;
  left_out = by_count result after.left_out;
  holds = λ seen. by_holds result (after.holds (before.observable ∙ seen)) (before.holds seen);
  brings = λ seen test all. after.brings (before.observable ∙ seen) test (before.brings seen test all);
}
  where
    by_count : (r : Result (Unit {0}) TakerFault) → OnOk r (new.left_out ≡ risen now.left_out (length more))
        → OnOk r (new.left_out ≡ risen old.left_out (length (first ++ more)))
    by_count (Ok done) is = is ∙ ap (λ (n : ℕ). risen n (length more)) before.left_out
        ∙ risen_more old.left_out (length first) (length more)
        ∙ ap (risen old.left_out) (sym (length-append first more))
    by_count (Err fault) is = tt

    by_holds : (r : Result (Unit {0}) TakerFault) → OnOk r (new.holds ≡ without_all now.holds more)
        → now.holds ≡ without_all old.holds first → OnOk r (new.holds ≡ without_all old.holds (first ++ more))
    by_holds (Ok done) holds was =
        holds ∙ ap (λ (t : Tree). without_all t more) was ∙ sym (without_all-append old.holds first more)
    by_holds (Err fault) holds was = tt

-- where one stays
pub taken_broken : (old now new : BuilderState) (first more all : List Path) (result : Result (Unit {0}) TakerFault)
    (fault : TakerFault) → IsErrAnd result (λ e. e ≡ fault) → TakesBack old now first (Ok tt)
    → TakesBack now new more (Err fault) → TakesBack old new all result
taken_broken old now new first more all result fault is before after =
    let broken = taken_more old now new first more (Err fault) before after in
    subst (TakesBack old new all) (sym (told result fault is)) (record {
      observable = broken.observable;
      faults = broken.faults;
      left_out = tt;
      holds = λ seen. tt;
      brings = broken.brings;
    })

-- a file was taken away, and it was told that it is left out
pub left_one : (old now new : BuilderState) (path : Path) → Removes old now path true → new ≡ told_of_one now
    → TakesBack old new (path ∷ []) (Ok tt)
left_one old now new path removes is = record {
  observable = ap (λ (b : BuilderState). b.is_observable) is ∙ removes.observable;
  faults = ap (λ (b : BuilderState). b.faults) is ∙ removes.faults;
  left_out = ap (λ (b : BuilderState). b.left_out) is ∙ ap raised removes.left_out;
  holds = λ seen. ap (λ (b : BuilderState). b.holds) is ∙ removes.holds seen refl;
  brings = λ seen. subst (λ (t : Tree). BringsNone old.holds t)
      (sym (ap (λ (b : BuilderState). b.holds) is ∙ removes.holds seen refl))
      (without_brings_none old.holds path);
}

module _ (old now new : BuilderState) (later : List Later) (i : ℕ) (one : Later)
    (within : i < length later) (at : one ≡ get_or later i one) (result : Result (Unit {0}) TakerFault) where
  pub paths_more : TakesBack old now (link_paths (take i later)) (Ok tt)
      → TakesBack now new (link_path one) result → TakesBack old new (link_paths (take (i + 1) later)) result
  paths_more before after = subst (λ (paths : List Path). TakesBack old new paths result)
      (sym (link_paths-more later i one (take_more later i one within
      ∙ ap (λ (x : Later). take i later ++ x ∷ []) (sym at))))
      (taken_more old now new (link_paths (take i later)) (link_path one) result before after)
