use Rattle.std.proofs.Common.{◌≡◌, ℕ, ◌+◌, ◌-◌, ◌*◌, ◌<◌, ◌≤◌, min, ap, ◌∙◌, subst, arith, rules}
use Rattle.disk_model.specs.DiskState.{DiskState, IsSound}
use Rattle.disk_model.proofs.Crashes.{IsObservable-call}
use Rattle.gate_journal.proofs.Faults.{on_ok_fault}
use Rattle.gate_journal.proofs.Calls.{AreCalls-one, AreCalls-then, AreCalls-fault, durable-sync, observable_after}
use Rattle.gate_journal.proofs.Calls.{Reaches-fault, Reaches-sync, Made-none, Made-then, Made-as, Makes-then}
use Rattle.gate_journal.proofs.Calls.{Makes-as, Makes-short, Makes-sync}
use Rattle.gate_journal.specs.Places.{Keeps}
use Rattle.gate_journal.specs.Recovery.{OutsideMarked, AreRedone, OutsideRedone, IsRedone, marked_count}
use Rattle.gate_journal.proofs.Counting.{marked_none, marked_split, marked_same, marked_part}
use Rattle.gate_journal.proofs.Places.{Keeps-refl, Keeps-weaken}
use Rattle.gate_journal.proofs.Redoing.{block_keeps, block_redone, mark_stays, version_keeps, version_redone}
use Rattle.gate_journal.proofs.redo.redo_table.Goals as goal

pub loop-block-init : goal.loop-block-init
loop-block-init g c = record {
  calls = search rules;
  comes = λ observable.
      let old = g.D.Disk.state c.args.disk.now in
      let none : min c.args.slots (4096 * 0) ≡ 0 = omega arith in
      let count = ap (λ (n : ℕ). marked_count 0 n old.bytes) none ∙ marked_none 0 old.bytes in
      record {
        keeps = Keeps-refl (OutsideMarked c.args.slots 0 c.args.slots old.bytes) old
            (g.met.D.Disk.sound c.args.disk.now observable);
        done = λ i low high marks. absurd (omega arith);
        made = Made-as old old 0 0 (marked_count 0 (min c.args.slots (4096 * 0)) old.bytes) 0 (omega (arith, count))
            (omega arith) (Made-none old);
      };
}

-- the marked slots before a block of marks, those of the block, and all up to its end
up_to : (slots first to : ℕ) (old mid new : DiskState) → to ≤ slots → first ≤ to → IsSound mid
    → Keeps (OutsideMarked slots 0 slots old.bytes) old mid
    → marked_count 0 first old.bytes + marked_count first (to - first) mid.bytes ≡ marked_count 0 to old.bytes
up_to slots first to old mid new fits begins sound keeps =
    let whole : first + (to - first) ≡ to = omega arith in
    let start : 0 + first ≡ first = omega arith in
    let same = marked_same first (to - first)
    mid.bytes old.bytes (λ i low high. mark_stays slots old mid keeps i (omega arith)) in
    omega (
      arith,
      same,
      marked_split 0 first (to - first) old.bytes,
      ap (λ (n : ℕ). marked_count 0 n old.bytes) whole,
      ap (λ (n : ℕ). marked_count n (to - first) old.bytes) start,
    )

-- one block of marks more, where the slots before it are redone
module _ (slots block : ℕ) (old mid new : DiskState) (below : block * 4096 < slots) (sound : IsSound mid)
    (so_far : Keeps (OutsideMarked slots 0 slots old.bytes) old mid) where
  more_keeps : Keeps (OutsideMarked slots (block * 4096) (min slots (block * 4096 + 4096)) mid.bytes) mid new
      → Keeps (OutsideMarked slots 0 slots old.bytes) old new
  more_keeps keeps = block_keeps slots (block * 4096) (min slots (block * 4096 + 4096)) old mid new (omega arith)
      (omega arith) sound so_far keeps

  more_redone : AreRedone slots 0 (min slots (4096 * block)) old.bytes mid.bytes
      → Keeps (OutsideMarked slots (block * 4096) (min slots (block * 4096 + 4096)) mid.bytes) mid new
      → AreRedone slots (block * 4096) (min slots (block * 4096 + 4096)) mid.bytes new.bytes
      → AreRedone slots 0 (min slots (4096 * (block + 1))) old.bytes new.bytes
  more_redone redone keeps block_is =
      let here : min slots (4096 * block) ≡ block * 4096 = omega arith in
      let next : min slots (block * 4096 + 4096) ≡ min slots (4096 * (block + 1)) = omega arith in
      subst (λ (n : ℕ). AreRedone slots 0 n old.bytes new.bytes) next
      (block_redone slots (block * 4096) (min slots (block * 4096 + 4096)) old mid new (omega arith)
      (omega arith) sound so_far (subst (λ (n : ℕ). AreRedone slots 0 n old.bytes mid.bytes) here redone) keeps
      block_is)

  more_count : marked_count 0 (min slots (4096 * block)) old.bytes
      + marked_count (block * 4096) (min slots (block * 4096 + 4096) - block * 4096) mid.bytes
      ≡ marked_count 0 (min slots (4096 * (block + 1))) old.bytes
  more_count =
      let here : min slots (4096 * block) ≡ block * 4096 = omega arith in
      let next : min slots (block * 4096 + 4096) ≡ min slots (4096 * (block + 1)) = omega arith in
      let count = up_to slots (block * 4096) (min slots (block * 4096 + 4096)) old mid new (omega arith)
      (omega arith) sound so_far in
      omega (
        arith,
        count,
        ap (λ (n : ℕ). marked_count 0 n old.bytes) here,
        ap (λ (n : ℕ). marked_count 0 n old.bytes) next,
      )

pub loop-block-preserved : goal.loop-block-preserved
loop-block-preserved g c =
    let slots = c.args.slots in
    let block = c.loop-block.block in
    let old = g.D.Disk.state c.args.disk.now in
    let mid = g.D.Disk.state c.loop-block.disk in
    let new = g.D.Disk.state c.redo_block.new.disk in
    let below : block * 4096 < slots = omega (arith, c.loop-block-test.true, c.div_ceil-block-end.ensures) in
    record {
      calls = search rules;
      comes = λ observable.
          let observable_mid = observable_after _ _ _ c.loop-block.invariant.calls observable in
          let sound = g.met.D.Disk.sound c.loop-block.disk observable_mid in
          let comes = c.loop-block.invariant.comes observable in
          let reaches = c.in_ok-redo_block.ensures.reaches observable_mid in
          let so_far = marked_count 0 (min slots (4096 * block)) old.bytes in
          let more = marked_count (block * 4096) (min slots (block * 4096 + 4096) - block * 4096) mid.bytes in
          record {
            keeps = more_keeps slots block old mid new below sound comes.keeps reaches.keeps;
            done = more_redone slots block old mid new below sound comes.keeps comes.done reaches.keeps reaches.done;
            made = Made-as old new (so_far + more) (0 + 0) (marked_count 0 (min slots (4096 * (block + 1))) old.bytes) 0
                (more_count slots block old mid new below sound comes.keeps) (omega arith)
                (Made-then old mid new _ so_far 0 more 0 comes.made (c.in_ok-redo_block.ensures.makes observable_mid));
          };
    }

pub returns-in_err-redo_block-clause-makes : goal.returns-in_err-redo_block-clause-makes
returns-in_err-redo_block-clause-makes g c observable =
    let slots = c.args.slots in
    let block = c.loop-block.block in
    let next = min slots (4096 * (block + 1)) in
    let old = g.D.Disk.state c.args.disk.now in
    let mid = g.D.Disk.state c.loop-block.disk in
    let new = g.D.Disk.state c.redo_block.new.disk in
    let comes = c.loop-block.invariant.comes observable in
    let observable_mid = observable_after _ _ _ c.loop-block.invariant.calls observable in
    let so_far = marked_count 0 (min slots (4096 * block)) old.bytes in
    let more = marked_count (block * 4096) (min slots (block * 4096 + 4096) - block * 4096) mid.bytes in
    let count = more_count slots block old mid new (omega (arith, c.loop-block-test.true, c.div_ceil-block-end.ensures))
    (g.met.D.Disk.sound c.loop-block.disk observable_mid) comes.keeps in
    Makes-short old new c.redo_block.result _ (so_far + more) (0 + 0)
    (marked_count 0 (slots + 1) old.bytes) 1
    c.from_residual.ensures.0 (omega (arith, count, marked_part 0 next (slots + 1) old.bytes (omega arith)))
    (omega arith)
    (Makes-then old mid new c.redo_block.result so_far 0 more 0 comes.made (c.redo_block.ensures.makes observable_mid))

-- all marked slots, and the mark behind them
with_version : (slots : ℕ) (old mid : DiskState) → Keeps (OutsideMarked slots 0 slots old.bytes) old mid
    → marked_count 0 slots old.bytes + marked_count slots 1 mid.bytes ≡ marked_count 0 (slots + 1) old.bytes
with_version slots old mid keeps =
    let start : 0 + slots ≡ slots = omega arith in
    let same = marked_same slots 1 mid.bytes old.bytes (λ i low high. mark_stays slots old mid keeps i (omega arith)) in
    omega (arith, same, marked_split 0 slots 1 old.bytes, ap (λ (n : ℕ). marked_count n 1 old.bytes) start)

pub returns-in_err-redo_version-clause-makes : goal.returns-in_err-redo_version-clause-makes
returns-in_err-redo_version-clause-makes g c observable =
    let slots = c.args.slots in
    let old = g.D.Disk.state c.args.disk.now in
    let mid = g.D.Disk.state c.loop-block.disk in
    let new = g.D.Disk.state c.redo_version.new.disk in
    let observable_mid = observable_after _ _ _ c.loop-block.invariant.calls observable in
    let comes = c.loop-block.invariant.comes observable in
    let all : min slots (4096 * c.loop-block.block) ≡ slots =
    omega (arith, c.loop-block-test.false, c.div_ceil-block-end.ensures) in
    let so_far = marked_count 0 (min slots (4096 * c.loop-block.block)) old.bytes in
    let last = marked_count slots 1 mid.bytes in
    Makes-short old new c.redo_version.result _ (so_far + last) (0 + 0)
    (marked_count 0 (slots + 1) old.bytes) 1 c.from_residual-in_err-redo_version.ensures.0
    (omega (arith, with_version slots old mid comes.keeps, ap (λ (n : ℕ). marked_count 0 n old.bytes) all))
    (omega arith)
    (Makes-then old mid new c.redo_version.result so_far 0 last 0
    comes.made (c.redo_version.ensures.makes observable_mid))

pub returns-clause-makes : goal.returns-clause-makes
returns-clause-makes g c observable =
    let slots = c.args.slots in
    let old = g.D.Disk.state c.args.disk.now in
    let mid = g.D.Disk.state c.loop-block.disk in
    let next = g.D.Disk.state c.redo_version.new.disk in
    let observable_mid = observable_after _ _ _ c.loop-block.invariant.calls observable in
    let observable_next = IsObservable-call _ _ _ c.redo_version.ensures.call observable_mid in
    let comes = c.loop-block.invariant.comes observable in
    let all : min slots (4096 * c.loop-block.block) ≡ slots =
    omega (arith, c.loop-block-test.false, c.div_ceil-block-end.ensures) in
    let so_far = marked_count 0 (min slots (4096 * c.loop-block.block)) old.bytes in
    let last = marked_count slots 1 mid.bytes in
    let made = Made-then old mid next _ so_far 0 last 0 comes.made (c.in_ok-redo_version.ensures.makes observable_mid)
    in
    Makes-as old _ c.sync.result (so_far + last + 0) (0 + 0 + 1) (marked_count 0 (slots + 1) old.bytes) 1
    (omega (arith, with_version slots old mid comes.keeps, ap (λ (n : ℕ). marked_count 0 n old.bytes) all))
    (omega arith)
    (Makes-then old next _ c.sync.result (so_far + last) (0 + 0) 0 1 made
    (Makes-sync next _ c.sync.result observable_next c.sync.ensures))

pub returns-in_err-redo_block-clause-reaches : goal.returns-in_err-redo_block-clause-reaches
returns-in_err-redo_block-clause-reaches g c observable =
    let slots = c.args.slots in
    let below : c.loop-block.block * 4096 < slots =
    omega (arith, c.loop-block-test.true, c.div_ceil-block-end.ensures) in
    let old = g.D.Disk.state c.args.disk.now in
    let observable_mid = observable_after _ _ _ c.loop-block.invariant.calls observable in
    Reaches-fault (OutsideRedone slots old.bytes)
    (IsRedone slots old.bytes) old _ c.from_residual.result c.from_residual.ensures.0
    (Keeps-weaken (OutsideMarked slots 0 slots old.bytes) (OutsideRedone slots old.bytes) old _
    (λ place outside. outside.table)
    (more_keeps slots c.loop-block.block old _ _ below (g.met.D.Disk.sound c.loop-block.disk observable_mid)
    (c.loop-block.invariant.comes observable).keeps (c.redo_block.ensures.reaches observable_mid).keeps))

pub returns-in_err-redo_version-clause-reaches : goal.returns-in_err-redo_version-clause-reaches
returns-in_err-redo_version-clause-reaches g c observable =
    let slots = c.args.slots in
    let old = g.D.Disk.state c.args.disk.now in
    let mid = g.D.Disk.state c.loop-block.disk in
    let new = g.D.Disk.state c.redo_version.new.disk in
    let observable_mid = observable_after _ _ _ c.loop-block.invariant.calls observable in
    Reaches-fault (OutsideRedone slots old.bytes)
    (IsRedone slots old.bytes) old new c.from_residual-in_err-redo_version.result
    c.from_residual-in_err-redo_version.ensures.0
    (version_keeps slots old mid new (g.met.D.Disk.sound c.loop-block.disk observable_mid)
    (c.loop-block.invariant.comes observable).keeps (c.redo_version.ensures.reaches observable_mid).keeps)

pub returns-clause-reaches : goal.returns-clause-reaches
returns-clause-reaches g c observable =
    let slots = c.args.slots in
    let old = g.D.Disk.state c.args.disk.now in
    let mid = g.D.Disk.state c.loop-block.disk in
    let next = g.D.Disk.state c.redo_version.new.disk in
    let comes = c.loop-block.invariant.comes observable in
    let observable_mid = observable_after _ _ _ c.loop-block.invariant.calls observable in
    let observable_next = IsObservable-call _ _ _ c.redo_version.ensures.call observable_mid in
    let sound = g.met.D.Disk.sound c.loop-block.disk observable_mid in
    let all : min slots (4096 * c.loop-block.block) ≡ slots =
    omega (arith, c.loop-block-test.false, c.div_ceil-block-end.ensures) in
    let reaches = c.in_ok-redo_version.ensures.reaches observable_mid in
    Reaches-sync {U = Unit {0}} (OutsideRedone slots old.bytes)
    (IsRedone slots old.bytes) old next _ tt c.sync.result observable_next
    (g.met.D.Disk.sound c.redo_version.new.disk observable_next)
    (record {
      keeps = version_keeps slots old mid next sound comes.keeps reaches.keeps;
      done = version_redone slots old mid next sound
          comes.keeps reaches.keeps (subst (λ (n : ℕ). AreRedone slots 0 n old.bytes mid.bytes) all comes.done)
          reaches.done;
    })
    c.sync.ensures

pub returns-in_err-redo_block-clause-calls : goal.returns-in_err-redo_block-clause-calls
returns-in_err-redo_block-clause-calls g c =
    AreCalls-fault _ _ _ c.from_residual.result c.from_residual.ensures.0
    (AreCalls-then _ _ _ _ _ c.loop-block.invariant.calls c.in_err-redo_block.ensures.calls)

pub returns-in_err-redo_block-clause-durable : goal.returns-in_err-redo_block-clause-durable
returns-in_err-redo_block-clause-durable g c observable =
    on_ok_fault c.from_residual.result _ c.from_residual.ensures.0

pub returns-in_err-redo_version-clause-calls : goal.returns-in_err-redo_version-clause-calls
returns-in_err-redo_version-clause-calls g c =
    AreCalls-fault _ _ _ c.from_residual-in_err-redo_version.result c.from_residual-in_err-redo_version.ensures.0
    (AreCalls-then _ _ _ _ _ c.loop-block.invariant.calls (AreCalls-one _ _ _ c.in_err-redo_version.ensures.call))

pub returns-in_err-redo_version-clause-durable : goal.returns-in_err-redo_version-clause-durable
returns-in_err-redo_version-clause-durable g c observable =
    on_ok_fault c.from_residual-in_err-redo_version.result _ c.from_residual-in_err-redo_version.ensures.0

pub returns-clause-calls : goal.returns-clause-calls
returns-clause-calls g c =
    AreCalls-then _ _ _ _ _
    (AreCalls-then _ _ _ _ _ c.loop-block.invariant.calls (AreCalls-one _ _ _ c.in_ok-redo_version.ensures.call))
    (AreCalls-one _ _ _ c.sync.ensures.call)

pub returns-clause-durable : goal.returns-clause-durable
returns-clause-durable g c observable =
    durable-sync _ _ _ (IsObservable-call _ _ _ c.redo_version.ensures.call
    (observable_after _ _ _ c.loop-block.invariant.calls observable)) c.sync.ensures
