-- What a sink means at one moment, and what one put does.
use Rattle.std.specs.Prelude.{◌≡◌, ℕ, ◌^◌, ◌<◌, Bool, IsTrue, List, ◌++◌, Result, OnOk, OnErr}
use Rattle.store_base.specs.Counts.{faults_after}

-- A sink at one moment. Only where it is observable do the bytes written mean anything.
pub record SinkState : Type 0 where
  -- whether it tells its bytes
  pub is_observable : Bool
  -- the bytes that were written
  pub written : List ℕ
  -- how many calls failed: it stays at the last value of a u64
  pub faults : ℕ

-- the sink tells its bytes
abbrev pub IsObservable : SinkState → Type 0
IsObservable sink = IsTrue sink.is_observable

-- new is old with a prefix of the bytes behind it
pub record AppendsPrefix (old new bytes : List ℕ) : Type 0 where
  pub part : List ℕ
  pub rest : List ℕ
  pub is_prefix : bytes ≡ part ++ rest
  pub appended : new ≡ old ++ part

-- what a put of these bytes does to a sink that tells its bytes
pub record PutsBytes {T E : Type 0} (old new : SinkState) (bytes : List ℕ) (result : Result T E) : Type 0 where
  pub appended : OnOk result (new.written ≡ old.written ++ bytes)
  pub cut_off : OnErr result (AppendsPrefix old.written new.written bytes)

-- a put of these bytes, in one call or in several
pub record IsPut {T E : Type 0} (old new : SinkState) (bytes : List ℕ) (result : Result T E) : Type 0 where
  pub observable : new.is_observable ≡ old.is_observable
  -- a fault raises the count of faults by one, and nothing else does
  pub faults : new.faults ≡ faults_after old.faults result
  -- a count stays at the last value of a u64
  pub last_fault : new.faults < 2 ^ 64
  pub observed : IsObservable old → PutsBytes old new bytes result

-- A text is put out in some puts, perhaps in none, of which the first that fails is the last: then a prefix of it was
-- put out, and the sink had one fault.
pub record Puts {T E : Type 0} (old new : SinkState) (text : List ℕ) (result : Result T E) : Type 0 where
  pub observable : new.is_observable ≡ old.is_observable
  pub faults : new.faults ≡ faults_after old.faults result
  pub observed : IsObservable old → PutsBytes old new text result
