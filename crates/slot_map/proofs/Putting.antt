-- A put, and texts that are put out behind it.
use Rattle.std.proofs.Common.{ℕ, List, ◌++◌, arith, Result, Ok, Err}
use Rattle.script_lines.specs.SinkState.{SinkState, IsPut, Puts}
use Rattle.script_lines.proofs.Putting.{Puts-one, Puts-then}

-- a put, and then a text: behind a put the count of faults has its bound
pub IsPut-from : {T U E F : Type 0} (a b c : SinkState) (text more : List ℕ) (value : U) (result : Result T E)
    → IsPut {E = F} a b text (Ok value) → Puts b c more result → IsPut a c (text ++ more) result
IsPut-from {T = T} {E = E} {F = F} a b c text more value (Ok end) ab bc =
    let both = Puts-then {T = T} {E = E} {F = F} a b c text more value (Ok end) (Puts-one a b text (Ok value) ab) bc in
    record {
      observable = both.observable;
      faults = both.faults;
      last_fault = omega (arith, ab.last_fault, bc.faults);
      observed = both.observed;
    }
IsPut-from {T = T} {E = E} {F = F} a b c text more value (Err fault) ab bc =
    let both = Puts-then {T = T} {E = E} {F = F} a b c text more value (Err fault) (Puts-one a b text (Ok value) ab) bc
    in
    record {
      observable = both.observable;
      faults = both.faults;
      last_fault = omega (arith, both.faults);
      observed = both.observed;
    }

-- the same put, by another answer
pub IsPut-answered : {T U E F : Type 0} (a b : SinkState) (text : List ℕ) (value : T) (other : U)
    → IsPut {E = E} a b text (Ok value) → IsPut {E = F} a b text (Ok other)
IsPut-answered a b text value other put =
    record {
      observable = put.observable;
      faults = put.faults;
      last_fault = put.last_fault;
      observed = λ observable. record { appended = (put.observed observable).appended; cut_off = tt };
    }

-- a fault that is told by another
pub IsPut-failed : {T U E F : Type 0} (a b : SinkState) (text : List ℕ) (fault : E) (told : F)
    → IsPut {T = T} a b text (Err fault) → IsPut {T = U} a b text (Err told)
IsPut-failed a b text fault told put =
    record {
      observable = put.observable;
      faults = put.faults;
      last_fault = put.last_fault;
      observed = λ observable. record { appended = tt; cut_off = (put.observed observable).cut_off };
    }
