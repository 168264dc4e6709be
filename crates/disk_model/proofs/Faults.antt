-- An error has its cause: the count of failed calls rose.
use Rattle.std.proofs.Common.{◌≡◌, ℕ, arith, Result, Ok, Err, OnErr}
use Rattle.disk_model.specs.DiskCalls.{Rose, faults_after}

pub Rose-fault : {T E : Type 0} (old new : ℕ) (result : Result T E) → new ≡ faults_after old result
    → OnErr result (Rose old new)
Rose-fault old new (Ok value) is = tt
Rose-fault old new (Err error) is = omega (arith, is)
