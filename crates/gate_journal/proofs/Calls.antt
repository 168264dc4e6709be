-- What several calls of a disk make together.
use Rattle.std.proofs.Common.{◌≡◌, ℕ, ◌+◌, ◌^◌, ◌<◌, ◌≤◌, List, length, arith, Result, Ok, Err, OnOk, IsErr, refl, sym}
use Rattle.std.proofs.Common.{ap, subst, ◌∙◌}
use Rattle.std.proofs.lemmas.Bool.{false≢true}
use Rattle.disk_model.specs.DiskState.{DiskState, IsObservable, IsDurable, IsSound}
use Rattle.disk_model.specs.DiskCalls.{raised_by, faults_after, overwrite, IsCall, IsWrite, IsSync}
use Rattle.gate_journal.specs.Places.{IsApart, AreCalls, Made, Makes, Keeps, Reaches, ReadsOnly}
use Rattle.gate_journal.proofs.Places.{Keeps-trans, Keeps-sync, Keeps-write}

-- no call
pub AreCalls-none : {T E : Type 0} (disk : DiskState) (value : T) → AreCalls {T = T} {E = E} disk disk (Ok value)
AreCalls-none disk value = record {
  size = refl;
  observable = refl;
  faults = refl;
  rise = omega arith;
  writes = omega arith;
  syncs = omega arith;
}

-- one call
pub AreCalls-one : {T E : Type 0} (old new : DiskState) (result : Result T E) → IsCall old new result
    → AreCalls old new result
AreCalls-one old new result call = record {
  size = call.size;
  observable = call.observable;
  faults = call.faults;
  rise = call.rise;
  writes = call.writes;
  syncs = call.syncs;
}

-- some calls that answered Ok, and then others
pub AreCalls-then : {T E U F : Type 0} (old mid new : DiskState) (value : U) (result : Result T E)
    → AreCalls {E = F} old mid (Ok value) → AreCalls mid new result → AreCalls old new result
AreCalls-then old mid new value result before then = record {
  size = then.size ∙ before.size;
  observable = then.observable ∙ before.observable;
  faults = then.faults ∙ ap (λ (n : ℕ). faults_after n result) before.faults;
  rise = omega (arith, before.rise, then.rise);
  writes = omega (arith, before.writes, then.writes);
  syncs = omega (arith, before.syncs, then.syncs);
}

-- the same calls, where as many of them failed by another answer
pub AreCalls-as : {T E U F : Type 0} (old new : DiskState) (result : Result T E) (other : Result U F)
    → faults_after old.faults result ≡ faults_after old.faults other → AreCalls old new result → AreCalls old new other
AreCalls-as old new result other same calls = record {
  size = calls.size;
  observable = calls.observable;
  faults = calls.faults ∙ same;
  rise = calls.rise;
  writes = calls.writes;
  syncs = calls.syncs;
}

-- a fault that is handed on
pub AreCalls-failed : {T E U F : Type 0} (old new : DiskState) (error : F) (other : E)
    → AreCalls {T = U} old new (Err error) → AreCalls {T = T} old new (Err other)
AreCalls-failed old new error other = AreCalls-as old new (Err error) (Err other) refl

-- a value in place of another
pub AreCalls-answered : {T E U F : Type 0} (old new : DiskState) (value : U) (other : T)
    → AreCalls {E = F} old new (Ok value) → AreCalls {E = E} old new (Ok other)
AreCalls-answered old new value other = AreCalls-as old new (Ok value) (Ok other) refl

-- the same, of which no more is known than that it is an error
pub AreCalls-fault : {T E U F : Type 0} (old new : DiskState) (error : F) (result : Result T E) → IsErr result
    → AreCalls {T = U} old new (Err error) → AreCalls old new result
AreCalls-fault old new error (Ok answer) fails calls = absurd (false≢true fails)
AreCalls-fault old new error (Err other) fails calls = AreCalls-failed old new error other calls

pub observable_after : {T E : Type 0} (old new : DiskState) (result : Result T E) → AreCalls old new result
    → IsObservable old → IsObservable new
observable_after old new result calls observable = calls.observable ∙ observable

-- several calls, behind which no count has passed the last value of a u64
pub IsCall-of : {T E : Type 0} (old new : DiskState) (result : Result T E) → new.faults < 2 ^ 64 → new.writes < 2 ^ 64
    → new.syncs < 2 ^ 64 → AreCalls old new result → IsCall old new result
IsCall-of old new result last_fault last_write last_sync calls = record {
  last_fault = last_fault;
  last_write = last_write;
  last_sync = last_sync;
  size = calls.size;
  observable = calls.observable;
  faults = calls.faults;
  rise = calls.rise;
  writes = calls.writes;
  syncs = calls.syncs;
}

-- some calls that answered Ok, and then one more or several
pub IsCall-then : {T E U F : Type 0} (old mid new : DiskState) (value : U) (result : Result T E)
    → AreCalls {E = F} old mid (Ok value) → IsCall mid new result → IsCall old new result
IsCall-then old mid new value result before then =
    IsCall-of old new result then.last_fault then.last_write then.last_sync
    (AreCalls-then old mid new value result before (AreCalls-one mid new result then))

pub IsCall-failed : {T E U F : Type 0} (old new : DiskState) (error : F) (other : E)
    → IsCall {T = U} old new (Err error) → IsCall {T = T} old new (Err other)
IsCall-failed old new error other call =
    IsCall-of old new (Err other) call.last_fault call.last_write call.last_sync
    (AreCalls-failed old new error other (AreCalls-one old new (Err error) call))

on_ok : {T E : Type 0} (result : Result T E) (P : Type 0) → P → OnOk result P
on_ok (Ok value) P here = here
on_ok (Err error) P here = tt

pub Made-none : (disk : DiskState) → Made 0 0 disk disk
Made-none disk = record { write_count = omega arith; sync_count = omega arith }

pub Made-then : {T E : Type 0} (old mid new : DiskState) (value : T) (w s v t : ℕ) → Made w s old mid
    → Makes {E = E} v t mid new (Ok value) → Made (w + v) (s + t) old new
Made-then old mid new value w s v t before then = record {
  write_count = omega (arith, before.write_count, then.write_count);
  sync_count = omega (arith, before.sync_count, then.sync_count);
}

pub Made-as : (old new : DiskState) (w s v t : ℕ) → w ≡ v → s ≡ t → Made w s old new → Made v t old new
Made-as old new w s v t writes syncs made = record {
  write_count = omega (arith, made.write_count);
  sync_count = omega (arith, made.sync_count);
}

-- calls that are exactly so many writes and syncs, whatever they answer
pub Makes-exactly : {T E : Type 0} (old new : DiskState) (result : Result T E) (w s : ℕ)
    → new.writes ≡ raised_by old.writes w → new.syncs ≡ raised_by old.syncs s → Makes w s old new result
Makes-exactly old new result w s writes syncs = record {
  write_count = on_ok result (new.writes ≡ raised_by old.writes w) writes;
  sync_count = on_ok result (new.syncs ≡ raised_by old.syncs s) syncs;
  write_limit = omega arith;
  sync_limit = omega arith;
}

-- reads alone
pub Made-reads : (old new : DiskState) → ReadsOnly old new → Made 0 0 old new
Made-reads old new reads = record {
  write_count = omega (arith, reads.write_count);
  sync_count = omega (arith, reads.sync_count);
}

pub Makes-reads : {T E U F : Type 0} (old new : DiskState) (call_result : Result U F) (result : Result T E)
    → IsCall old new call_result → ReadsOnly old new → Makes 0 0 old new result
Makes-reads old new call_result result call reads =
    Makes-exactly old new result 0 0 (omega (arith, reads.write_count, call.last_write))
    (omega (arith, reads.sync_count, call.last_sync))

-- so many writes and syncs that were made in calls that answered Ok
pub Makes-made : {T E : Type 0} (old new : DiskState) (result : Result T E) (w s : ℕ) → new.writes < 2 ^ 64
    → new.syncs < 2 ^ 64 → Made w s old new → Makes w s old new result
Makes-made old new result w s fit_writes fit_syncs made =
    Makes-exactly old new result w s (omega (arith, fit_writes, made.write_count))
    (omega (arith, fit_syncs, made.sync_count))

-- as many, in other words
pub Makes-as : {T E : Type 0} (old new : DiskState) (result : Result T E) (w s v t : ℕ) → w ≡ v → s ≡ t
    → Makes w s old new result → Makes v t old new result
Makes-as old new result w s v t writes syncs =
    subst (λ (n : ℕ). Makes w s old new result → Makes n t old new result) writes
    (subst (λ (n : ℕ). Makes w s old new result → Makes w n old new result) syncs (λ makes. makes))

module _ {T E : Type 0} (old new : DiskState) (result : Result T E) (observable : IsObservable old) where
  pub Makes-write : (at : ℕ) (bytes : List ℕ) → IsWrite old new at bytes result → Makes 1 0 old new result
  Makes-write at bytes write =
      let effect = write.observed observable in
      let writes : new.writes ≡ raised_by old.writes 1 = effect.write_count in
      let syncs : new.syncs ≡ raised_by old.syncs 0 = omega (arith, effect.sync_count, write.call.last_sync) in
      record {
        write_count = on_ok result (new.writes ≡ raised_by old.writes 1) writes;
        sync_count = on_ok result (new.syncs ≡ raised_by old.syncs 0) syncs;
        write_limit = omega arith;
        sync_limit = omega arith;
      }

  pub Makes-sync : IsSync old new result → Makes 0 1 old new result
  Makes-sync sync =
      let effect = sync.observed observable in
      let writes : new.writes ≡ raised_by old.writes 0 = omega (arith, effect.write_count, sync.call.last_write) in
      let syncs : new.syncs ≡ raised_by old.syncs 1 = effect.sync_count in
      record {
        write_count = on_ok result (new.writes ≡ raised_by old.writes 0) writes;
        sync_count = on_ok result (new.syncs ≡ raised_by old.syncs 1) syncs;
        write_limit = omega arith;
        sync_limit = omega arith;
      }

-- some calls that answered Ok, and then others
pub Makes-then : {T E : Type 0} (old mid new : DiskState) (result : Result T E) (w s v t : ℕ) → Made w s old mid
    → Makes v t mid new result → Makes (w + v) (s + t) old new result
Makes-then old mid new (Ok value) w s v t before then = record {
  write_count = omega (arith, before.write_count, then.write_count);
  sync_count = omega (arith, before.sync_count, then.sync_count);
  write_limit = omega (arith, before.write_count, then.write_limit);
  sync_limit = omega (arith, before.sync_count, then.sync_limit);
}
Makes-then old mid new (Err error) w s v t before then = record {
  write_count = tt;
  sync_count = tt;
  write_limit = omega (arith, before.write_count, then.write_limit);
  sync_limit = omega (arith, before.sync_count, then.sync_limit);
}

-- calls behind others that only read
pub Makes-behind : {T E : Type 0} (old mid new : DiskState) (result : Result T E) (w s : ℕ) → ReadsOnly old mid
    → Makes w s mid new result → Makes w s old new result
Makes-behind old mid new result w s reads makes =
    Makes-as old new result (0 + w) (0 + s) w s (omega arith) (omega arith)
    (Makes-then old mid new result 0 0 w s (Made-reads old mid reads) makes)

-- a value in place of another
pub Makes-answered : {T E U F : Type 0} (old new : DiskState) (value : U) (other : T) (w s : ℕ)
    → Makes {E = F} w s old new (Ok value) → Makes {E = E} w s old new (Ok other)
Makes-answered old new value other w s makes = record {
  write_count = makes.write_count;
  sync_count = makes.sync_count;
  write_limit = makes.write_limit;
  sync_limit = makes.sync_limit;
}

-- a fault that is handed on, where there may have been more writes and syncs
pub Makes-failed : {T E U F : Type 0} (old new : DiskState) (error : F) (other : E) (w s v t : ℕ) → w ≤ v → s ≤ t
    → Makes {T = U} w s old new (Err error) → Makes {T = T} v t old new (Err other)
Makes-failed old new error other w s v t writes syncs makes = record {
  write_count = tt;
  sync_count = tt;
  write_limit = omega (arith, makes.write_limit);
  sync_limit = omega (arith, makes.sync_limit);
}

-- an error, with no more writes and syncs
pub Makes-short : {T E U F : Type 0} (old new : DiskState) (first : Result U F) (result : Result T E) (w s v t : ℕ)
    → IsErr result → w ≤ v → s ≤ t → Makes w s old new first → Makes v t old new result
Makes-short old new first (Ok value) w s v t fails writes syncs makes = absurd (false≢true fails)
Makes-short old new first (Err error) w s v t fails writes syncs makes = record {
  write_count = tt;
  sync_count = tt;
  write_limit = omega (arith, makes.write_limit);
  sync_limit = omega (arith, makes.sync_limit);
}

-- places that are kept on the way to what the last calls reach
pub Reaches-then : {T E : Type 0} (places : ℕ → Type 0) (Done : List ℕ → Type 0) (old mid new : DiskState)
    (result : Result T E) → IsSound mid → Keeps places old mid → Reaches places Done mid new result
    → Reaches places Done old new result
Reaches-then places Done old mid new result sound keeps reaches = record {
  keeps = Keeps-trans places old mid new sound keeps reaches.keeps;
  done = reaches.done;
}

-- a sync at the end
pub Reaches-sync : {T E U : Type 0} (places : ℕ → Type 0) (Done : List ℕ → Type 0) (old mid new : DiskState) (value : U)
    (result : Result T E) → IsObservable mid → IsSound mid → Reaches {E = E} places Done old mid (Ok value)
    → IsSync mid new result → Reaches places Done old new result
Reaches-sync places Done old mid new value result observable sound reaches sync = record {
  keeps = Keeps-trans places old mid new sound reaches.keeps (Keeps-sync places mid new result observable sync);
  done = on_ok result (Done new.bytes) (subst Done (sym (sync.observed observable).bytes) reaches.done);
}

pub durable-sync : {T E : Type 0} (old new : DiskState) (result : Result T E) → IsObservable old → IsSync old new result
    → OnOk result (IsDurable new)
durable-sync old new result observable sync = (sync.observed observable).durable

-- a fault: only what is kept counts
pub Reaches-fault : {T E : Type 0} (places : ℕ → Type 0) (Done : List ℕ → Type 0) (old new : DiskState)
    (result : Result T E) → IsErr result → Keeps places old new → Reaches places Done old new result
Reaches-fault places Done old new (Ok value) fails keeps = absurd (false≢true fails)
Reaches-fault places Done old new (Err error) fails keeps = record { keeps = keeps; done = tt }

-- one write
pub Reaches-write : {T E : Type 0} (places : ℕ → Type 0) (Done : List ℕ → Type 0) (old new : DiskState)
    (result : Result T E) → IsObservable old → (at : ℕ) (bytes : List ℕ)
    → ((place : ℕ) → places place → IsApart at (length bytes) place) → IsWrite old new at bytes result
    → Done (overwrite old.bytes at bytes) → Reaches places Done old new result
Reaches-write places Done old new (Ok value) observable at bytes apart write done = record {
  keeps = Keeps-write places old new (Ok value) observable at bytes apart write;
  done = subst Done (sym (write.observed observable).written) done;
}
Reaches-write places Done old new (Err error) observable at bytes apart write done = record {
  keeps = Keeps-write places old new (Err error) observable at bytes apart write;
  done = tt;
}
