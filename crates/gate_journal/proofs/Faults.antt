-- Answers that are handed on: faults, and values in place of others.
use Rattle.std.proofs.Common.{ℕ, ◌+◌, ◌*◌, ◌<◌, ◌≤◌, Result, Ok, Err, IfOk, OnOk, IsErr, arith}
use Rattle.std.proofs.lemmas.Bool.{false≢true}
use Rattle.disk_model.specs.DiskState.{DiskState}
use Rattle.disk_model.specs.DiskCalls.{IsCall}
use Rattle.gate_journal.specs.declared.commit.Pass.{Pass}
use Rattle.gate_journal.specs.declared.commit.Pass.TheVariants.{Journal, Table, Erase}
use Rattle.gate_journal.specs.Passes.{slot_writes}
use Rattle.gate_journal.proofs.Calls.{AreCalls-one, AreCalls-answered, IsCall-of, IsCall-failed}

-- an error has no value of which something is said
pub if_ok_fault : {T E : Type 0} (result : Result T E) (P : T → Type 0) → IsErr result → IfOk result P
if_ok_fault (Ok value) P fails = absurd (false≢true fails)
if_ok_fault (Err error) P fails = tt

pub on_ok_fault : {T E : Type 0} (result : Result T E) (P : Type 0) → IsErr result → OnOk result P
on_ok_fault (Ok value) P fails = absurd (false≢true fails)
on_ok_fault (Err error) P fails = tt

-- a fault of which no more is known than that it is an error
pub IsCall-fault : {T E U F : Type 0} (old new : DiskState) (error : F) (result : Result T E) → IsErr result
    → IsCall {T = U} old new (Err error) → IsCall old new result
IsCall-fault old new error (Ok value) fails call = absurd (false≢true fails)
IsCall-fault old new error (Err other) fails call = IsCall-failed old new error other call

-- the writes for one of the changed slots are among those for all
pub writes_within : (pass : Pass) (k n more : ℕ) → k < n
    → slot_writes pass * k + slot_writes pass ≤ slot_writes pass * n + more
writes_within Journal k n more below = omega (arith, below)
writes_within Table k n more below = omega (arith, below)
writes_within Erase k n more below = omega (arith, below)

-- a value in place of another
pub IsCall-answered : {T E U F : Type 0} (old new : DiskState) (value : U) (other : T)
    → IsCall {E = F} old new (Ok value) → IsCall {E = E} old new (Ok other)
IsCall-answered old new value other call =
    IsCall-of old new (Ok other) call.last_fault call.last_write call.last_sync
    (AreCalls-answered old new value other (AreCalls-one old new (Ok value) call))
