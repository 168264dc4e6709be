-- Calls on slots one after the other.
use Rattle.std.proofs.Common.{◌≡◌, ℕ, refl, ap, ◌∙◌}
use Rattle.std.specs.Prelude.{Result, Ok, Err}
use Rattle.store_base.specs.declared.store_fault.Fault.{Fault}
use Rattle.store_base.specs.declared.store_fault.Fault.TheVariants.{Disk, NoMemory}
use Rattle.store_base.specs.Faults.{disk_faults_after}
use Rattle.store_base.specs.SlotsState.{SlotsState, IsObservable, HasCause, AreSlotCalls}

-- no call at all
pub AreSlotCalls-none : {T : Type 0} (state : SlotsState) (value : T) → AreSlotCalls state state (Ok value)
AreSlotCalls-none state value = record { count = refl; observable = refl; takes_none = refl; faults = refl; cause = tt }

-- what is observable stays so, and what takes no memory
pub IsObservable-later : {T : Type 0} (old new : SlotsState) (result : Result T Fault) → AreSlotCalls old new result
    → IsObservable old → IsObservable new
IsObservable-later old new result calls observable = calls.observable ∙ observable

-- a fault's cause in one call is its cause in all of them
HasCause-earlier : (old mid : SlotsState) (fault : Fault) → mid.takes_none ≡ old.takes_none
    → HasCause mid fault → HasCause old fault
HasCause-earlier old mid Disk same cause = tt
HasCause-earlier old mid NoMemory same cause = λ none. cause (same ∙ none)

-- calls that all answered Ok, and then others
pub AreSlotCalls-then : {T U : Type 0} (old mid new : SlotsState) (value : T) (result : Result U Fault)
    → AreSlotCalls old mid (Ok value) → AreSlotCalls mid new result → AreSlotCalls old new result
AreSlotCalls-then old mid new value (Ok other) first then = record {
  count = then.count ∙ first.count;
  observable = then.observable ∙ first.observable;
  takes_none = then.takes_none ∙ first.takes_none;
  faults = then.faults ∙ first.faults;
  cause = tt;
}
AreSlotCalls-then {U = U} old mid new value (Err fault) first then = record {
  count = then.count ∙ first.count;
  observable = then.observable ∙ first.observable;
  takes_none = then.takes_none ∙ first.takes_none;
  faults = then.faults ∙ ap (λ (count : ℕ). disk_faults_after {T = U} count (Err fault)) first.faults;
  cause = HasCause-earlier old mid fault first.takes_none then.cause;
}

-- the value that comes with Ok doesn't matter, nor does the type of the value that a fault comes in place of
pub AreSlotCalls-value : {T U : Type 0} (old new : SlotsState) (value : T) (other : U) → AreSlotCalls old new (Ok value)
    → AreSlotCalls old new (Ok other)
AreSlotCalls-value old new value other calls = record {
  count = calls.count;
  observable = calls.observable;
  takes_none = calls.takes_none;
  faults = calls.faults;
  cause = tt;
}

pub AreSlotCalls-fault : {T U : Type 0} (old new : SlotsState) (fault : Fault)
    → AreSlotCalls {T = T} old new (Err fault) → AreSlotCalls {T = U} old new (Err fault)
AreSlotCalls-fault {T = T} {U = U} old new fault calls = record {
  count = calls.count;
  observable = calls.observable;
  takes_none = calls.takes_none;
  faults = faults_same fault calls.faults;
  cause = calls.cause;
}
  where
    faults_same : (fault : Fault) → new.faults ≡ disk_faults_after {T = T} old.faults (Err fault)
        → new.faults ≡ disk_faults_after {T = U} old.faults (Err fault)
    faults_same Disk same = same
    faults_same NoMemory same = same
