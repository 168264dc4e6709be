-- Pairs that are written one behind the other.
use Rattle.std.proofs.Common.{◌≡◌, inl, inr, ℕ, ◌+◌, ◌<◌, ◌≤◌, List, [], ◌∷◌, ◌++◌, length, Result, Ok, Err, OnOk}
use Rattle.std.proofs.Common.{IfErr, IsErrAnd, Bool, true, false, min, take, drop, ap₂, sym, ap, subst, ◌∙◌, arith}
use Rattle.std.proofs.lemmas.List.{append-nil, append_assoc, length-append, take_min, drop_min}
use Rattle.store_model.specs.Parameters.{Parameters}
use Rattle.store_model.specs.Draws.{draw_of}
use Rattle.store_model.specs.declared.version.Version.{Version}
use Rattle.store_model.specs.Paths.{Path, key}
use Rattle.store_model.specs.Pairs.{Pair, IsPairs, file_block, file_value, inline_value, is_inline}
use Rattle.disk_model.specs.DiskState.{DiskState}
use Rattle.gate_journal.specs.Places.{AreCalls}
use Rattle.gate_journal.proofs.Calls.{AreCalls-none, AreCalls-then}
use Rattle.layout_scratch.specs.Sorting.{sorted_limit}
use Rattle.dump_streams.specs.Listed.{blocks_from}
use Rattle.dump_streams.proofs.ListedBlocks.{block_first, block_none}
use Rattle.image_writer.specs.declared.fault.WriteFault.{WriteFault}
use Rattle.image_writer.specs.declared.fault.WriteFault.TheVariants as writes
use Rattle.image_writer.specs.Writing.{IsWriting, IsNext, IsNotFull, StaysNone, disk_answer}
use Rattle.image_writer.proofs.Written.{stays_none}
use Rattle.tree_writer.specs.declared.fault.TreeFault.{TreeFault}
use Rattle.tree_writer.specs.declared.fault.TreeFault.TheVariants as faults
use Rattle.tree_writer.specs.declared.pairs.PairWriter.{PairWriter}
use Rattle.tree_writer.specs.Faults.{tree_fault, tree_answer, WasNone}
use Rattle.tree_writer.specs.Pairs.{HasPairs, MayCome, FailsBehind, WritesPairs, begun_pairs}
use Rattle.tree_writer.proofs.PairLists.{front_is_pairs}

-- ---- one behind the other

-- of pairs that may come the first may
pub may_first : (p : Parameters) (s xs ys : List Pair) (start now : DiskState) (writer : PairWriter)
    → MayCome p s (xs ++ ys) start now writer → MayCome p s xs start now writer
may_first p s xs ys start now writer come = record {
  has = come.has;
  pairs = front_is_pairs (s ++ xs) ys (subst IsPairs (sym (append_assoc s xs ys)) come.pairs);
}

-- and when they came, the others
pub may_then : (p : Parameters) (s xs ys : List Pair) (start old new : DiskState) (writer after : PairWriter)
    → MayCome p s (xs ++ ys) start old writer → HasPairs p (s ++ xs) start new after
    → MayCome p (s ++ xs) ys start new after
may_then p s xs ys start old new writer after come has = record {
  has = has;
  pairs = subst IsPairs (sym (append_assoc s xs ys)) come.pairs;
}

-- what was written before is no image
pub had_none : (p : Parameters) (s : List Pair) (start now : DiskState) (writer : PairWriter)
    → HasPairs p s start now writer → WasNone start → StaysNone start now
had_none p s start now writer has was = stays_none p.slots start now was.1 (has.writing.keeps was.0)

-- no pair
pub writes_none : {D : Type 0} (state : D → DiskState) (disk : D) (writer : PairWriter)
    → WritesPairs state [] disk disk writer writer (Ok tt)
writes_none state disk writer = record {
  calls = AreCalls-none (state disk) tt;
  writes = λ p start s come. subst (λ (xs : List Pair). HasPairs p xs (state start) (state disk) writer)
      (sym (append-nil s)) come.has;
  none = λ p start s come was. had_none p s (state start) (state disk) writer come.has was;
  faults = λ p start s come. tt;
}

-- too many with fewer pairs are too many with more
fails_further : (s xs ys : List Pair) (fault : TreeFault) → FailsBehind s xs fault → FailsBehind s (xs ++ ys) fault
fails_further s xs ys faults.Disk fails = tt
fails_further s xs ys faults.NoMemory fails = tt
fails_further s xs ys (faults.Full need slots) fails = absurd fails
fails_further s xs ys faults.Changed fails = absurd fails
fails_further s xs ys faults.TooMany fails =
    let all = length-append s (xs ++ ys) in
    let added = length-append xs ys in
    let first = length-append s xs in
    omega (arith, all, added, first, fails)

-- the first were not written
pub writes_failed : {D : Type 0} (state : D → DiskState) (xs ys : List Pair) (old_disk new_disk : D)
    (old new : PairWriter) (fault : TreeFault) → WritesPairs state xs old_disk new_disk old new (Err fault)
    → WritesPairs state (xs ++ ys) old_disk new_disk old new (Err fault)
writes_failed state xs ys old_disk new_disk old new fault first = record {
  calls = first.calls;
  writes = λ p start s come. tt;
  none = λ p start s come was. first.none p start s
      (may_first p s xs ys (state start) (state old_disk) old come) was;
  faults = λ p start s come. fails_further s xs ys fault
      (first.faults p start s (may_first p s xs ys (state start) (state old_disk) old come));
}

-- another way to say why the others are not written
fails_behind : (s xs ys : List Pair) (fault : TreeFault) → FailsBehind (s ++ xs) ys fault
    → FailsBehind s (xs ++ ys) fault
fails_behind s xs ys faults.Disk fails = tt
fails_behind s xs ys faults.NoMemory fails = tt
fails_behind s xs ys (faults.Full need slots) fails = absurd fails
fails_behind s xs ys faults.Changed fails = absurd fails
fails_behind s xs ys faults.TooMany fails = subst (λ (all : List Pair). sorted_limit < length all)
    (append_assoc s xs ys) fails

-- what the whole of two writes answers
writes_result : {D : Type 0} (state : D → DiskState) (p : Parameters) (start new_disk : D) (s xs ys : List Pair)
    (new : PairWriter) (result : Result (Unit {0}) TreeFault)
    → OnOk result (HasPairs p ((s ++ xs) ++ ys) (state start) (state new_disk) new)
    → OnOk result (HasPairs p (s ++ (xs ++ ys)) (state start) (state new_disk) new)
writes_result state p start new_disk s xs ys new (Ok value) has =
    subst (λ (all : List Pair). HasPairs p all (state start) (state new_disk) new) (append_assoc s xs ys) has
writes_result state p start new_disk s xs ys new (Err fault) has = tt

fails_result : (s xs ys : List Pair) (result : Result (Unit {0}) TreeFault)
    → IfErr result (FailsBehind (s ++ xs) ys) → IfErr result (FailsBehind s (xs ++ ys))
fails_result s xs ys (Ok value) fails = tt
fails_result s xs ys (Err fault) fails = fails_behind s xs ys fault fails

-- the first were written, and then the others
pub writes_then : {D : Type 0} (state : D → DiskState) (xs ys : List Pair) (old_disk mid_disk new_disk : D)
    (old mid new : PairWriter) (result : Result (Unit {0}) TreeFault)
    → WritesPairs state xs old_disk mid_disk old mid (Ok tt)
    → WritesPairs state ys mid_disk new_disk mid new result
    → WritesPairs state (xs ++ ys) old_disk new_disk old new result
writes_then {D} state xs ys old_disk mid_disk new_disk old mid new result first then = record {
  calls = AreCalls-then (state old_disk) (state mid_disk) (state new_disk) tt (tree_answer result)
      first.calls then.calls;
  writes = λ p start s come. writes_result state p start new_disk s xs ys new result
      (then.writes p start (s ++ xs) (further p start s come));
  none = λ p start s come was. then.none p start (s ++ xs) (further p start s come) was;
  faults = λ p start s come. fails_result s xs ys result (then.faults p start (s ++ xs) (further p start s come));
}
  where
    further : (p : Parameters) (start : D) (s : List Pair) → MayCome p s (xs ++ ys) (state start) (state old_disk) old
        → MayCome p (s ++ xs) ys (state start) (state mid_disk) mid
    further p start s come =
        may_then p s xs ys (state start) (state old_disk) (state mid_disk) old mid come
        (first.writes p start s (may_first p s xs ys (state start) (state old_disk) old come))

-- a fault that is handed on
pub writes_handed : {D : Type 0} (state : D → DiskState) (xs ys : List Pair) (old_disk new_disk : D)
    (old new : PairWriter) (fault : TreeFault) (result : Result (Unit {0}) TreeFault)
    → IsErrAnd result (λ e. e ≡ fault) → WritesPairs state xs old_disk new_disk old new (Err fault)
    → WritesPairs state (xs ++ ys) old_disk new_disk old new result
writes_handed state xs ys old_disk new_disk old new fault (Ok value) is first = absurd is
writes_handed state xs ys old_disk new_disk old new fault (Err other) is first =
    subst (λ e. WritesPairs state (xs ++ ys) old_disk new_disk old new (Err e)) (sym is)
    (writes_failed state xs ys old_disk new_disk old new fault first)

-- ---- one pair

module _ (p : Parameters) (s : List Pair) (k value : List ℕ) (start old : DiskState) (writer : PairWriter)
    (come : MayCome p s ((k, value) ∷ []) start old writer) where
  pub pair_next : (level : ℕ) → level ≡ (draw_of writer.levels).level k → writer.count < 268435456
      → IsNext p s level (k, value) start old writer.image
  pair_next level level_is below = record {
    writing = come.has.writing;
    level_is = level_is ∙ ap (λ (q : Parameters). (draw_of q).level k) come.has.levels_are;
    pairs = come.pairs;
    few = omega (arith, come.has.count_is, below);
  }

  pub pair_written : (new : PairWriter) (now : DiskState) → IsWriting p (s ++ (k, value) ∷ []) start now new.image
      → new.params ≡ writer.params → new.levels ≡ writer.levels → new.count ≡ writer.count + 1
      → HasPairs p (s ++ (k, value) ∷ []) start now new
  pair_written new now writing params levels count = record {
    params_are = params ∙ come.has.params_are;
    levels_are = levels ∙ come.has.levels_are;
    count_is = omega (arith, count, come.has.count_is, length-append s ((k, value) ∷ []));
    writing = writing;
  }

-- no more pairs are counted
pub writes_too_many : {D : Type 0} (state : D → DiskState) (pair : Pair) (disk : D) (writer : PairWriter)
    → 268435456 ≤ writer.count → WritesPairs state (pair ∷ []) disk disk writer writer (Err faults.TooMany)
writes_too_many state pair disk writer many = record {
  calls = AreCalls-none (state disk) tt;
  writes = λ p start s come. tt;
  none = λ p start s come was. had_none p s (state start) (state disk) writer come.has was;
  faults = λ p start s come. omega (arith, many, come.has.count_is, length-append s (pair ∷ []));
}

-- the calls of the disk are the same, however a fault is named
answer_of : (old new : DiskState) (fault : WriteFault) → AreCalls old new (disk_answer {T = Unit {0}} (Err fault))
    → AreCalls old new (tree_answer {T = Unit {0}} (Err (tree_fault fault)))
answer_of old new writes.Disk calls = calls
answer_of old new writes.NoMemory calls = calls
answer_of old new (writes.Full need slots) calls = calls

not_full : (s added : List Pair) (fault : WriteFault) → IsNotFull fault → FailsBehind s added (tree_fault fault)
not_full s added writes.Disk not = tt
not_full s added writes.NoMemory not = tt
not_full s added (writes.Full need slots) (inl e) = let no : writes.Full need slots ≡ writes.Disk = e in cc
not_full s added (writes.Full need slots) (inr e) = let no : writes.Full need slots ≡ writes.NoMemory = e in cc

-- a pair was not written
pub writes_fault : {D : Type 0} (state : D → DiskState) (pair : Pair) (old_disk new_disk : D) (old new : PairWriter)
    (fault : WriteFault) (result : Result (Unit {0}) TreeFault) → IsErrAnd result (λ e. e ≡ tree_fault fault)
    → AreCalls (state old_disk) (state new_disk) (disk_answer {T = Unit {0}} (Err fault)) → IsNotFull fault
    → ((p : Parameters) (start : D) (s : List Pair) → MayCome p s (pair ∷ []) (state start) (state old_disk) old
    → WasNone (state start) → StaysNone (state start) (state new_disk))
    → WritesPairs state (pair ∷ []) old_disk new_disk old new result
writes_fault state pair old_disk new_disk old new fault (Ok value) is calls not none = absurd is
writes_fault state pair old_disk new_disk old new fault (Err other) is calls not none = record {
  calls = subst (λ e. AreCalls (state old_disk) (state new_disk) (tree_answer {T = Unit {0}} (Err e))) (sym is)
      (answer_of (state old_disk) (state new_disk) fault calls);
  writes = λ p start s come. tt;
  none = none;
  faults = λ p start s come. subst (FailsBehind s (pair ∷ [])) (sym is) (not_full s (pair ∷ []) fault not);
}

-- the end failed
pub ends_disk : (fault : WriteFault) (result : Result (Unit {0}) TreeFault)
    → IsErrAnd result (λ e. e ≡ tree_fault fault) → fault ≡ writes.Disk → IfErr result (λ e. e ≡ faults.Disk)
ends_disk fault (Ok value) is disk = tt
ends_disk fault (Err other) is disk = is ∙ ap tree_fault disk

-- ---- files

-- a block, and those of the rest
pub block_behind : (path : Path) (number : ℕ) (rest k block behind : List ℕ) (n : ℕ) → 1 ≤ length rest
    → k ≡ key path number → block ≡ take n rest → behind ≡ drop n rest → n ≡ min file_block (length rest)
    → blocks_from path number rest ≡ (k, block) ∷ blocks_from path (number + 1) behind
block_behind path number rest k block behind n some k_is block_is behind_is least =
    let front : block ≡ take file_block rest =
    block_is ∙ ap (λ m. take m rest) least ∙ take_min file_block rest in
    let back : behind ≡ drop file_block rest =
    behind_is ∙ ap (λ m. drop m rest) least ∙ drop_min file_block rest in
    block_first path number rest some
    ∙ sym (ap₂ (λ (x y : List ℕ). (x, y) ∷ blocks_from path (number + 1) behind) k_is front
    ∙ ap (λ (xs : List ℕ). (key path number, take file_block rest) ∷ blocks_from path (number + 1) xs) back)

-- no bytes have none
pub no_blocks : (path : Path) (number : ℕ) (rest : List ℕ) → rest ≡ [] → blocks_from path number rest ≡ []
no_blocks path number rest none = ap (blocks_from path number) none ∙ block_none path number

-- a file that stands in its first pair
pub begun_inline : (version : Version) (path : Path) (told : ℕ) (shown bytes k v : List ℕ) (inline : Bool)
    → shown ≡ bytes → inline ≡ is_inline version (length shown) → inline ≡ true → k ≡ key path 0
    → v ≡ inline_value shown → (k, v) ∷ [] ≡ begun_pairs (is_inline version (length bytes)) path told bytes
begun_inline version path told shown bytes k v inline same form short k_is v_is =
    ap₂ (λ (x y : List ℕ). (x, y) ∷ []) k_is v_is
    ∙ ap (λ b. begun_pairs b path told shown) (sym short ∙ form)
    ∙ ap (λ (xs : List ℕ). begun_pairs (is_inline version (length xs)) path told xs) same

-- a file in blocks
pub begun_blocks : (version : Version) (path : Path) (told : ℕ) (shown bytes k v : List ℕ) (inline : Bool)
    → shown ≡ bytes → inline ≡ is_inline version (length shown) → inline ≡ false → k ≡ key path 0
    → v ≡ file_value told
    → (k, v) ∷ blocks_from path 1 shown ≡ begun_pairs (is_inline version (length bytes)) path told bytes
begun_blocks version path told shown bytes k v inline same form long k_is v_is =
    ap₂ (λ (x y : List ℕ). (x, y) ∷ blocks_from path 1 shown) k_is v_is
    ∙ ap (λ b. begun_pairs b path told shown) (sym long ∙ form)
    ∙ ap (λ (xs : List ℕ). begun_pairs (is_inline version (length xs)) path told xs) same
