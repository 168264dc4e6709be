-- What a builder of the host holds, and what each of its calls adds.
use Rattle.std.specs.Prelude.{◌≡◌, ℕ, Bool, true, false, ◌==◌, if◌then◌else◌, IsTrue, List, [], ◌∷◌, Result, Ok, Err}
use Rattle.std.specs.Prelude.{OnOk, IfErr}
use Rattle.std.specs.List.{list_all}
use Rattle.store_base.specs.Counts.{raised, raised_by}
use Rattle.store_model.specs.Paths.{Path}
use Rattle.store_model.specs.Trees.{Tree, without}
use Rattle.dump_streams.specs.Dumps.{DumpStep, after_step}
use Rattle.dump_streams.specs.declared.taker.TakerFault.{TakerFault}
use Rattle.dump_streams.specs.declared.taker.TakerFault.TheVariants as faults

-- A builder at one moment. Only where it is observable does what it holds mean anything.
pub record BuilderState : Type 0 where
  -- whether it tells what it holds
  pub is_observable : Bool
  -- the tree that it holds; each attribute of the host is spelled as an image spells it
  pub holds : Tree
  -- whether it made a link
  pub has_links : Bool
  -- how many calls failed, up to the last value of a u64, at which the count stays
  pub faults : ℕ
  -- of how many entries it was told that they are left out, up to that value
  pub left_out : ℕ

abbrev pub IsObservable : BuilderState → Type 0
IsObservable builder = IsTrue builder.is_observable

-- the tree after steps, one after another
abbrev pub steps_after : Tree → List DumpStep → Tree
steps_after t [] = t
steps_after t (s ∷ steps) = steps_after (after_step t s) steps

-- the count of failed calls after a call: want of memory is no failure of the host
abbrev pub faults_after : {T : Type 0} → ℕ → Result T TakerFault → ℕ
faults_after count (Ok value) = count
faults_after count (Err faults.Failed) = raised count
faults_after count (Err faults.NoMemory) = count

-- a count that rose so often
abbrev pub risen : ℕ → ℕ → ℕ
risen count more = if more == 0 then count else raised_by count more

-- no path stands in the second tree that stands not in the first: what all paths there pass all here do
abbrev pub BringsNone : Tree → Tree → Type 0
BringsNone old new = (test : Path → Bool) → IsTrue (list_all (λ e. test e.0) old)
    → IsTrue (list_all (λ e. test e.0) new)

-- Calls that carry these steps out, one after another; the first that fails is the last. After a fault the builder
-- may hold a part of what it was to make, and no path stands that did not stand before.
pub record CarriesOut {T : Type 0} (old new : BuilderState) (steps : List DumpStep)
    (result : Result T TakerFault) : Type 0 where
  pub observable : new.is_observable ≡ old.is_observable
  pub faults : new.faults ≡ faults_after old.faults result
  pub left_out : new.left_out ≡ old.left_out
  pub holds : IsObservable old → OnOk result (new.holds ≡ steps_after old.holds steps)
  pub brings : IsObservable old → IfErr result (λ fault. BringsNone old.holds new.holds)

-- so do calls that make no link
pub record Builds {T : Type 0} (old new : BuilderState) (steps : List DumpStep)
    (result : Result T TakerFault) : Type 0 where
  pub carries_out : CarriesOut old new steps result
  pub links : new.has_links ≡ old.has_links

-- A call that takes what stands at a path away, and answers whether it is gone. Else it failed.
pub record Removes (old new : BuilderState) (path : Path) (gone : Bool) : Type 0 where
  pub observable : new.is_observable ≡ old.is_observable
  pub faults : new.faults ≡ (if gone then old.faults else raised old.faults)
  pub left_out : new.left_out ≡ old.left_out
  pub links : new.has_links ≡ old.has_links
  pub holds : IsObservable old → gone ≡ true → new.holds ≡ without old.holds path
  pub brings : IsObservable old → gone ≡ false → BringsNone old.holds new.holds

-- so with the folder itself
pub record RemovesRoot (old new : BuilderState) (gone : Bool) : Type 0 where
  pub observable : new.is_observable ≡ old.is_observable
  pub faults : new.faults ≡ (if gone then old.faults else raised old.faults)
  pub links : new.has_links ≡ old.has_links
  pub brings : IsObservable old → BringsNone old.holds new.holds

-- a builder that was told of one more entry that it is left out
abbrev pub told_of_one : BuilderState → BuilderState
told_of_one builder = record {
  is_observable = builder.is_observable;
  holds = builder.holds;
  has_links = builder.has_links;
  faults = builder.faults;
  left_out = raised builder.left_out;
}

-- a builder that tells nothing of what it holds
abbrev pub untold : Bool → ℕ → ℕ → BuilderState
untold has_links faults left_out = record {
  is_observable = false;
  holds = [];
  has_links = has_links;
  faults = faults;
  left_out = left_out;
}
