use Rattle.std.proofs.Common.{Err, refl, ap₂, subst, arith}
use Rattle.image_writer.specs.Sealing.{Becomes}
use Rattle.tree_writer.specs.declared.fault.TreeFault.TheVariants.{Full}
use Rattle.tree_writer.proofs.Ended.{tree_none, counts_are, fits_still, whole_image, changed_is, changed_alone}
use Rattle.tree_writer.proofs.Ended.{stays_so, stays_by, stays_unless}
use Rattle.tree_writer.proofs.ToldPairs.{differs_told, told_differs}
use Rattle.tree_writer.proofs.writer.TreeWriter.finish.Goals as goal

-- nothing is written where the pages don't fit
pub returns-then-need-slots-clause-becomes : goal.returns-then-need-slots-clause-becomes
returns-then-need-slots-clause-becomes g c = λ p start t before was.
    tree_none p t (g.D.Disk.state start) (g.D.Disk.state c.args.disk.now) c.args.self before was _ refl

pub returns-then-need-slots-clause-full : goal.returns-then-need-slots-clause-full
returns-then-need-slots-clause-full g c = λ p start t before more.
    let counts = counts_are p t (g.D.Disk.state start) (g.D.Disk.state c.args.disk.now) c.args.self
    c.pages-need.result c.slots-slots.result before c.pages-need.ensures c.slots-slots.ensures in
    ap₂ (λ need slots. Err (Full need slots)) counts.0 counts.1

pub returns-then-need-slots-clause-changed : goal.returns-then-need-slots-clause-changed
returns-then-need-slots-clause-changed g c = λ p start t before room differs.
    let counts = counts_are p t (g.D.Disk.state start) (g.D.Disk.state c.args.disk.now) c.args.self
    c.pages-need.result c.slots-slots.result before c.pages-need.ensures c.slots-slots.ensures in
    absurd (omega (arith, counts.0, counts.1, room, c.if-need-slots.true))

pub returns-then-need-slots-clause-fits : goal.returns-then-need-slots-clause-fits
returns-then-need-slots-clause-fits g c = λ p start t before room.
    let counts = counts_are p t (g.D.Disk.state start) (g.D.Disk.state c.args.disk.now) c.args.self
    c.pages-need.result c.slots-slots.result before c.pages-need.ensures c.slots-slots.ensures in
    absurd (omega (arith, counts.0, counts.1, room, c.if-need-slots.true))

-- nor where the last file is not as it was told
pub returns-in_err-end_file-clause-becomes : goal.returns-in_err-end_file-clause-becomes
returns-in_err-end_file-clause-becomes g c = λ p start t before was.
    tree_none p t (g.D.Disk.state start) (g.D.Disk.state c.args.disk.now) c.args.self before was
    c.from_residual.result c.from_residual.ensures.0

pub returns-in_err-end_file-clause-full : goal.returns-in_err-end_file-clause-full
returns-in_err-end_file-clause-full g c = λ p start t before more.
    let counts = counts_are p t (g.D.Disk.state start) (g.D.Disk.state c.args.disk.now) c.args.self
    c.pages-need.result c.slots-slots.result before c.pages-need.ensures c.slots-slots.ensures in
    absurd (omega (arith, counts.0, counts.1, more, c.if-need-slots.false))

pub returns-in_err-end_file-clause-changed : goal.returns-in_err-end_file-clause-changed
returns-in_err-end_file-clause-changed g c = λ p start t before room differs.
    changed_is c.in_err-end_file.field-0.0 c.from_residual.result c.from_residual.ensures.1
    c.in_err-end_file.ensures.err.0

pub returns-in_err-end_file-clause-fits : goal.returns-in_err-end_file-clause-fits
returns-in_err-end_file-clause-fits g c = λ p start t before room.
    changed_alone t c.args.self c.in_err-end_file.field-0.0 c.from_residual.result c.from_residual.ensures.1
    c.in_err-end_file.ensures.err.0 (told_differs t p c.args.self.got c.args.self.told before.holds.came
    before.holds.told_are c.in_err-end_file.ensures.err.1)

pub finish-requires : goal.finish-requires
finish-requires g c =
    let (p, start, t, before) = c.requires in (
      p,
      start,
      before.holds.came,
      before.has,
      fits_still p t (g.D.Disk.state start) (g.D.Disk.state c.args.disk.now) c.args.self c.pages-need.result
          c.slots-slots.result before c.pages-need.ensures c.slots-slots.ensures
          (omega (arith, c.if-need-slots.false)),
    )

pub returns-clause-becomes : goal.returns-clause-becomes
returns-clause-becomes g c = λ p start t before was.
    let first = g.D.Disk.state start in
    let old = g.D.Disk.state c.args.disk.now in
    let new = g.D.Disk.state c.finish.new.disk in
    subst (λ image. Becomes p image first new c.finish.result)
    (whole_image p t first old c.args.self before c.in_ok-end_file.ensures.ok)
    (c.finish.ensures.becomes p start before.holds.came before.has was)

pub returns-clause-full : goal.returns-clause-full
returns-clause-full g c = λ p start t before more.
    let counts = counts_are p t (g.D.Disk.state start) (g.D.Disk.state c.args.disk.now) c.args.self
    c.pages-need.result c.slots-slots.result before c.pages-need.ensures c.slots-slots.ensures in
    absurd (omega (arith, counts.0, counts.1, more, c.if-need-slots.false))

pub returns-clause-changed : goal.returns-clause-changed
returns-clause-changed g c = λ p start t before room differs.
    absurd (differs_told t p c.args.self.got c.args.self.told before.holds.came before.holds.told_are differs
    c.in_ok-end_file.ensures.ok)

-- whatever fails but the disk, it stays no image
pub returns-then-need-slots-clause-none : goal.returns-then-need-slots-clause-none
returns-then-need-slots-clause-none g c = λ p start t before was other.
    stays_so p t (g.D.Disk.state start) (g.D.Disk.state c.args.disk.now) c.args.self before was

pub returns-in_err-end_file-clause-none : goal.returns-in_err-end_file-clause-none
returns-in_err-end_file-clause-none g c = λ p start t before was.
    stays_by (g.D.Disk.state start) (g.D.Disk.state c.args.disk.now) c.from_residual.result
    (stays_so p t (g.D.Disk.state start) (g.D.Disk.state c.args.disk.now) c.args.self before was)

pub returns-clause-none : goal.returns-clause-none
returns-clause-none g c = λ p start t before was.
    stays_unless (g.D.Disk.state start) (g.D.Disk.state c.finish.new.disk) c.finish.result c.finish.ensures.faults
