use Rattle.std.proofs.Common.{◌≡◌, ℕ, ◌+◌, ◌-◌, ◌^◌, ◌<◌, ◌≤◌, min, slice_index, true, false, List, length, take}
use Rattle.std.proofs.Common.{drop, ap, ◌∙◌, subst, sym, arith, rules}
use Rattle.store_model.specs.Parameters.{mark_at, table_at}
use Rattle.store_model.specs.Images.{is_marked}
use Rattle.disk_model.specs.DiskState.{DiskState, IsObservable}
use Rattle.gate_journal.proofs.Calls.{Makes-reads, AreCalls-one, AreCalls-then, AreCalls-fault, observable_after}
use Rattle.gate_journal.proofs.Calls.{Reaches-fault, Made-reads, Made-then, Made-as, Makes-then, Makes-short}
use Rattle.gate_journal.proofs.Calls.{Makes-made, Makes-as}
use Rattle.gate_journal.specs.Places.{IsApart, Keeps, Made}
use Rattle.gate_journal.specs.Recovery.{OutsideMarked, AreRedone, marked_count}
use Rattle.gate_journal.proofs.Reading.{byte_read, ReadsOnly-read}
use Rattle.gate_journal.proofs.Counting.{marked_none, marked_more, marked_part}
use Rattle.gate_journal.proofs.Areas.{marks_end, shadow_end, table_end}
use Rattle.gate_journal.proofs.Places.{Keeps-read, Keeps-trans, Keeps-weaken}
use Rattle.gate_journal.proofs.Redoing.{marked, unmarked, redo_step, redo_none}
use Rattle.gate_journal.proofs.redo.redo_block.Given.{Over}
use Rattle.gate_journal.proofs.redo.redo_block.Goals as goal
use Rattle.gate_journal.proofs.redo.redo_block.Goals.{then-marks-slot-ne0+in_ok-redo_slot, else-marks-slot-ne0}

pub read_at-requires : goal.read_at-requires
read_at-requires g c =
    omega (
      arith,
      c.mark_at.ensures,
      c.requires.below,
      c.requires.size,
      table_end c.args.slots,
      shadow_end c.args.slots,
      marks_end c.args.slots,
    )

-- the mark of a slot, in the block of marks that was read
mark_of : (first slot : ℕ) (image marks : List ℕ) (at : ℕ) → at ≡ mark_at first
    → marks ≡ take (length marks) (drop at image) → first ≤ slot → slot - first < length marks
    → slice_index marks (slot - first) ≡ slice_index image (mark_at slot)
mark_of first slot image marks at there read low high =
    let place : at + (slot - first) ≡ mark_at slot = omega arith in
    byte_read image marks at (slot - first) read high ∙ ap (slice_index image) place

pub returns-in_err-redo_slot-clause-reaches : goal.returns-in_err-redo_slot-clause-reaches
returns-in_err-redo_slot-clause-reaches g c observable =
    let old = g.D.Disk.state c.args.disk.now in
    let slot = c.loop-slot.slot in
    let to = min c.args.slots (c.args.first + 4096) in
    let first : c.args.first ≤ slot = c.loop-slot.auto.slot in
    let last : slot < to = omega (arith, c.loop-slot-test.true, c.min-slot-end.ensures) in
    let places = OutsideMarked c.args.slots c.args.first to old.bytes in
    let mark = mark_of c.args.first slot old.bytes c.read_at.new.into c.mark_at.result c.mark_at.ensures
    (c.in_ok-read_at.ensures.observed observable).read first (omega (arith, last, c.read_at.auto.into)) in
    let is : is_marked old.bytes slot ≡ true = marked old.bytes slot (λ zero. c.if-marks-slot-ne0.true (mark ∙ zero)) in
    let observable_mid = observable_after _ _ _ c.loop-slot.invariant.calls observable in
    Reaches-fault places _ _ _ c.from_residual-in_err-redo_slot.result c.from_residual-in_err-redo_slot.ensures.0
    (Keeps-trans places _ _ _ (g.met.D.Disk.sound c.loop-slot.disk observable_mid)
    (c.loop-slot.invariant.keeps observable)
    (Keeps-weaken (IsApart (table_at c.args.slots slot) 4096) places _ _ (λ place outside. outside slot first last is)
    (c.redo_slot.ensures.reaches observable_mid).keeps))

pub returns-in_err-redo_slot-clause-makes : goal.returns-in_err-redo_slot-clause-makes
returns-in_err-redo_slot-clause-makes g c observable =
    let old = g.D.Disk.state c.args.disk.now in
    let mid = g.D.Disk.state c.loop-slot.disk in
    let new = g.D.Disk.state c.redo_slot.new.disk in
    let first = c.args.first in
    let slot = c.loop-slot.slot in
    let to = min c.args.slots (first + 4096) in
    let low : first ≤ slot = c.loop-slot.auto.slot in
    let last : slot < to = omega (arith, c.loop-slot-test.true, c.min-slot-end.ensures) in
    let mark = mark_of first slot old.bytes c.read_at.new.into c.mark_at.result c.mark_at.ensures
    (c.in_ok-read_at.ensures.observed observable).read low (omega (arith, last, c.read_at.auto.into)) in
    let more = marked_more first slot old.bytes true low
    (marked old.bytes slot (λ zero. c.if-marks-slot-ne0.true (mark ∙ zero))) in
    let part = marked_part first (slot + 1 - first) (to - first) old.bytes (omega (arith, last, low)) in
    let so_far = marked_count first (slot - first) old.bytes in
    let observable_mid = observable_after _ _ _ c.loop-slot.invariant.calls observable in
    Makes-short old new c.redo_slot.result _ (so_far + 1) (0 + 0)
    (marked_count first (to - first) old.bytes) 0
    c.from_residual-in_err-redo_slot.ensures.0 (omega (arith, more, part)) (omega arith)
    (Makes-then old mid new c.redo_slot.result so_far 0 1 0 (c.loop-slot.invariant.made observable)
    (c.redo_slot.ensures.makes observable_mid))

pub loop-slot-init : goal.loop-slot-init
loop-slot-init g c = record {
  calls = search rules;
  keeps = λ observable. Keeps-read (OutsideMarked c.args.slots c.args.first (min c.args.slots (c.args.first + 4096))
      (g.D.Disk.state c.args.disk.now).bytes) _ _ _ observable _ _ c.read_at.ensures;
  redone = λ observable i low high marks. absurd (omega arith);
  made = λ observable.
      let old = g.D.Disk.state c.args.disk.now in
      let none : c.args.first - c.args.first ≡ 0 = omega arith in
      let count = ap (λ (n : ℕ). marked_count c.args.first n old.bytes) none ∙ marked_none c.args.first old.bytes in
      Made-as old _ 0 0 (marked_count c.args.first (c.args.first - c.args.first) old.bytes) 0 (omega (arith, count))
      (omega arith) (Made-reads old _ (ReadsOnly-read old _ _ _ _ observable c.read_at.ensures));
  fits = (c.read_at.ensures.call.last_write, c.read_at.ensures.call.last_sync);
}

-- what the loop has come to behind this slot, by what it wrote
abbrev Step : (slots first slot : ℕ) → DiskState → DiskState → Type 0
Step slots first slot old new =
    Keeps (OutsideMarked slots first (min slots (first + 4096)) old.bytes) old new
    × (AreRedone slots first (slot + 1) old.bytes new.bytes
    × Made (marked_count first (slot + 1 - first) old.bytes) 0 old new)

both : (g : Over) (c : goal.Joined-marks-slot-ne0 g) → IsObservable (g.D.Disk.state c.args.disk.now)
    → Step c.args.slots c.args.first c.loop-slot.slot (g.D.Disk.state c.args.disk.now)
    (g.D.Disk.state c.if-marks-slot-ne0.disk)
both g c observable =
    let old = g.D.Disk.state c.args.disk.now in
    let mid = g.D.Disk.state c.loop-slot.disk in
    let slot = c.loop-slot.slot in
    let start = c.args.first in
    let to = min c.args.slots (start + 4096) in
    let first : start ≤ slot = c.loop-slot.auto.slot in
    let last : slot < to = omega (arith, c.loop-slot-test.true, c.min-slot-end.ensures) in
    let observable_mid = observable_after _ _ _ c.loop-slot.invariant.calls observable in
    let mark = mark_of start slot old.bytes c.read_at.new.into c.mark_at.result c.mark_at.ensures
    (c.in_ok-read_at.ensures.observed observable).read first (omega (arith, last, c.read_at.auto.into)) in
    let so_far = marked_count start (slot - start) old.bytes in
    let claim = λ (d : g.row.D.Denot). Step c.args.slots start slot old (g.D.Disk.state d) in
    elim c.if-marks-slot-ne0.branch [
      | then-marks-slot-ne0+in_ok-redo_slot w ↦
          let new = g.D.Disk.state w.redo_slot.new.disk in
          let is = marked old.bytes slot (λ zero. w.if-marks-slot-ne0.true (mark ∙ zero)) in
          let step = redo_step c.args.slots start to old mid (omega arith) slot first last new
          (g.met.D.Disk.sound c.loop-slot.disk observable_mid) is (c.loop-slot.invariant.keeps observable)
          (c.loop-slot.invariant.redone observable) (w.in_ok-redo_slot.ensures.reaches observable_mid) in
          let made = Made-as old new (so_far + 1) (0 + 0) (marked_count start (slot + 1 - start) old.bytes) 0
          (omega (arith, marked_more start slot old.bytes true first is)) (omega arith)
          (Made-then old mid new _ so_far 0 1 0 (c.loop-slot.invariant.made observable)
          (w.in_ok-redo_slot.ensures.makes observable_mid)) in
          subst claim (sym w.disk-is) (step.0, (step.1, made))
      | else-marks-slot-ne0 w ↦
          let none = unmarked old.bytes slot (sym mark ∙ w.if-marks-slot-ne0.false) in
          let made = Made-as old mid so_far 0 (marked_count start (slot + 1 - start) old.bytes) 0
          (omega (arith, marked_more start slot old.bytes false first none)) (omega arith)
          (c.loop-slot.invariant.made observable) in
          subst claim (sym w.disk-is) (
            c.loop-slot.invariant.keeps observable,
            (
              redo_none c.args.slots start to old mid (omega arith) slot first last none
                  (c.loop-slot.invariant.redone observable),
              made,
            ),
          )
    ]

fit : (g : Over) (c : goal.Joined-marks-slot-ne0 g) → ((g.D.Disk.state c.if-marks-slot-ne0.disk).writes < 2 ^ 64)
    × ((g.D.Disk.state c.if-marks-slot-ne0.disk).syncs < 2 ^ 64)
fit g c =
    let claim = λ (d : g.row.D.Denot). ((g.D.Disk.state d).writes < 2 ^ 64) × ((g.D.Disk.state d).syncs < 2 ^ 64) in
    elim c.if-marks-slot-ne0.branch [
      | then-marks-slot-ne0+in_ok-redo_slot w
          ↦ subst claim (sym w.disk-is) (w.redo_slot.ensures.call.last_write, w.redo_slot.ensures.call.last_sync)
      | else-marks-slot-ne0 w ↦ subst claim (sym w.disk-is) c.loop-slot.invariant.fits
    ]

pub loop-slot-preserved : goal.loop-slot-preserved
loop-slot-preserved g c = record {
  calls = search rules;
  keeps = λ observable. (both g c observable).0;
  redone = λ observable. (both g c observable).1.0;
  made = λ observable. (both g c observable).1.1;
  fits = fit g c;
}

pub returns-clause-makes : goal.returns-clause-makes
returns-clause-makes g c observable =
    let old = g.D.Disk.state c.args.disk.now in
    let new = g.D.Disk.state c.loop-slot.disk in
    let first = c.args.first in
    let end : c.loop-slot.slot - first ≡ min c.args.slots (first + 4096) - first =
    omega (arith, c.loop-slot-test.false, c.loop-slot.auto.slot-end, c.min-slot-end.ensures, c.requires.below) in
    Makes-as old new _ (marked_count first (c.loop-slot.slot - first) old.bytes) 0
    (marked_count first (min c.args.slots (first + 4096) - first) old.bytes) 0
    (ap (λ (n : ℕ). marked_count first n old.bytes) end) (omega arith)
    (Makes-made old new _ _ 0 c.loop-slot.invariant.fits.0 c.loop-slot.invariant.fits.1
    (c.loop-slot.invariant.made observable))

pub returns-in_err-read_at-clause-calls : goal.returns-in_err-read_at-clause-calls
returns-in_err-read_at-clause-calls g c =
    AreCalls-fault _ _ _ c.from_residual.result c.from_residual.ensures.0
    (AreCalls-one _ _ _ c.in_err-read_at.ensures.call)

pub returns-in_err-read_at-clause-reaches : goal.returns-in_err-read_at-clause-reaches
returns-in_err-read_at-clause-reaches g c observable =
    Reaches-fault _ _ _ _ c.from_residual.result c.from_residual.ensures.0
    (Keeps-read _ _ _ _ observable _ _ c.read_at.ensures)

pub returns-in_err-redo_slot-clause-calls : goal.returns-in_err-redo_slot-clause-calls
returns-in_err-redo_slot-clause-calls g c =
    AreCalls-fault _ _ _ c.from_residual-in_err-redo_slot.result c.from_residual-in_err-redo_slot.ensures.0
    (AreCalls-then _ _ _ _ _ c.loop-slot.invariant.calls (AreCalls-one _ _ _ c.in_err-redo_slot.ensures.call))

pub returns-clause-calls : goal.returns-clause-calls
returns-clause-calls g c = c.loop-slot.invariant.calls

pub returns-in_err-read_at-clause-makes : goal.returns-in_err-read_at-clause-makes
returns-in_err-read_at-clause-makes g c observable =
    let old = g.D.Disk.state c.args.disk.now in
    let mid = g.D.Disk.state c.read_at.new.self in
    let to = min c.args.slots (c.args.first + 4096) in
    Makes-short old mid c.read_at.result c.from_residual.result 0 0
    (marked_count c.args.first (to - c.args.first) old.bytes) 0 c.from_residual.ensures.0 (omega arith) (omega arith)
    (Makes-reads old mid c.read_at.result c.read_at.result c.read_at.ensures.call
    (ReadsOnly-read _ _ _ _ _ observable c.read_at.ensures))
