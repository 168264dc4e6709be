use Rattle.std.proofs.Common.{sym, subst}
use Rattle.tree_writer.specs.Writing.{told_of}
use Rattle.image_create.specs.Leading.{EndsBy}
use Rattle.image_create.proofs.Ends.{ends_whole, ends_failed}
use Rattle.image_create.proofs.Writers.{writes_none}
use Rattle.image_create.proofs.creating.finish.Goals as goal

pub returns-then-not-has_wanted_slots-clause-ends : goal.returns-then-not-has_wanted_slots-clause-ends
returns-then-not-has_wanted_slots-clause-ends g c p start t writes is_last =
    let no = rw c.if-not-has_wanted_slots.true at c.has_wanted_slots.ensures.no in (
      no p t writes.holds,
      writes_none p t (g.D.Disk.state start) (g.D.Disk.state c.args.disk.now) c.args.writer writes,
    )

pub returns-in-Ok-clause-ends : goal.returns-in-Ok-clause-ends
returns-in-Ok-clause-ends g c p start t writes is_last =
    let yes = rw c.if-not-has_wanted_slots.false at c.has_wanted_slots.ensures.yes in
    ends_whole p t c.args.wanted (g.D.Disk.state start) (g.D.Disk.state c.finish.new.disk) c.finish.result c.in-Ok.is
    (yes p t writes.holds) (c.finish.ensures.full p start t writes) (c.finish.ensures.becomes p start t writes)

pub returns-in-Err-clause-ends : goal.returns-in-Err-clause-ends
returns-in-Err-clause-ends g c p start t writes is_last =
    subst (EndsBy p c.args.wanted t (g.D.Disk.state start) (g.D.Disk.state c.finish.new.disk))
    (sym c.tree_fault.ensures)
    (ends_failed p t c.args.wanted (g.D.Disk.state start) (g.D.Disk.state c.finish.new.disk) c.args.last.now
    (told_of c.args.writer) c.in-Err.cause is_last c.finish.result c.in-Err.is
    (c.finish.ensures.full p start t writes) (c.finish.ensures.fits p start t writes)
    (c.finish.ensures.becomes p start t writes) (c.finish.ensures.none p start t writes))
