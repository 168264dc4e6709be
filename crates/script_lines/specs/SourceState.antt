-- What a source means at one moment, and what one take does.
use Rattle.std.specs.Prelude.{◌≡◌, ◌↔◌, ℕ, ◌^◌, ◌<◌, ◌≤◌, Bool, IsTrue, List, [], ◌++◌, length, take, Result, IfOk}
use Rattle.std.specs.Prelude.{OnErr}
use Rattle.store_base.specs.Counts.{faults_after}

-- A source at one moment. Only where it is observable do the bytes left mean anything.
pub record SourceState : Type 0 where
  -- whether it tells its bytes
  pub is_observable : Bool
  -- the bytes that it still has
  pub left : List ℕ
  -- how many calls failed: it stays at the last value of a u64
  pub faults : ℕ

-- the source tells its bytes
abbrev pub IsObservable : SourceState → Type 0
IsObservable source = IsTrue source.is_observable

-- what a take into a buffer, which then holds these bytes, does to a source that tells its bytes
pub record TakesBytes {E : Type 0} (old new : SourceState) (buffer : List ℕ) (result : Result ℕ E) : Type 0 where
  -- the first of the bytes left are moved into the buffer
  pub moved : IfOk result (λ count. old.left ≡ take count buffer ++ new.left)
  -- for a buffer that is not empty the end, and nothing else, gives no byte
  pub end : IfOk result (λ count. 0 < length buffer → (count ≡ 0) ↔ (old.left ≡ []))
  pub kept : OnErr result (new.left ≡ old.left)

-- a take into a buffer, which then holds these bytes
pub record IsTake {E : Type 0} (old new : SourceState) (buffer : List ℕ) (result : Result ℕ E) : Type 0 where
  pub observable : new.is_observable ≡ old.is_observable
  pub within : IfOk result (λ count. count ≤ length buffer)
  -- a fault raises the count of faults by one, and nothing else does
  pub faults : new.faults ≡ faults_after old.faults result
  -- a count stays at the last value of a u64
  pub last_fault : new.faults < 2 ^ 64
  pub observed : IsObservable old → TakesBytes old new buffer result
