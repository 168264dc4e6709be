-- A builder that counts for itself what is left out does what the other one does.
use Rattle.std.proofs.Common.{◌≡◌, ℕ, List, Bool, Result, ap, ◌∙◌}
use Rattle.store_base.specs.Counts.{raised}
use Rattle.store_model.specs.Paths.{Path}
use Rattle.dump_streams.specs.Dumps.{DumpStep}
use Rattle.dump_streams.specs.declared.taker.TakerFault.{TakerFault}
use Rattle.host_builder.specs.Builders.{BuilderState, Builds, CarriesOut, Removes, RemovesRoot, told_of_one}
use Rattle.box_calls.specs.Counted.{counted_state}

module _ (old new : BuilderState) (before after : ℕ) (same : after ≡ before) where
  pub counts_carried : {T : Type 0} (steps : List DumpStep) (result : Result T TakerFault)
      → CarriesOut old new steps result
      → CarriesOut (counted_state old before) (counted_state new after) steps result
  counts_carried steps result call = record {
    observable = call.observable;
    faults = call.faults;
    left_out = same;
    holds = call.holds;
    brings = call.brings;
  }

  pub counts_built : {T : Type 0} (steps : List DumpStep) (result : Result T TakerFault) → Builds old new steps result
      → Builds (counted_state old before) (counted_state new after) steps result
  counts_built steps result call = record {
    carries_out = counts_carried steps result call.carries_out;
    links = call.links;
  }

  pub counts_removed : (path : Path) (gone : Bool) → Removes old new path gone
      → Removes (counted_state old before) (counted_state new after) path gone
  counts_removed path gone call = record {
    observable = call.observable;
    faults = call.faults;
    left_out = same;
    links = call.links;
    holds = call.holds;
    brings = call.brings;
  }

  pub counts_root : (gone : Bool) → RemovesRoot old new gone
      → RemovesRoot (counted_state old before) (counted_state new after) gone
  counts_root gone call = record {
    observable = call.observable;
    faults = call.faults;
    links = call.links;
    brings = call.brings;
  }

pub counts_told : (old new : BuilderState) (before after : ℕ) → after ≡ raised before → new ≡ told_of_one old
    → counted_state new after ≡ told_of_one (counted_state old before)
counts_told old new before after more told = ap (counted_state new) more
    ∙ ap (λ b. counted_state b (raised before)) told

pub counts_same : (old new : BuilderState) (count : ℕ) → new ≡ old → counted_state new count ≡ counted_state old count
counts_same old new count same = ap (λ b. counted_state b count) same
