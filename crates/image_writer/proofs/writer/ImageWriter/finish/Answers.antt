use Rattle.std.proofs.Common.{Err, refl, ap₂, arith}
use Rattle.store_model.specs.Draws.{draw_of}
use Rattle.gate_journal.proofs.Calls.{AreCalls-none, AreCalls-answered}
use Rattle.image_writer.specs.declared.fault.WriteFault.TheVariants.{Full}
use Rattle.image_writer.specs.Sealing.{image_of_pairs}
use Rattle.image_writer.proofs.Sealed.{becomes_none}
use Rattle.image_writer.proofs.Written.{disk_failed, disk_alone, counts_are, becomes_answered, becomes_failed}
use Rattle.image_writer.proofs.writer.ImageWriter.finish.Goals as goal

pub write_left-requires : goal.write_left-requires
unfolding draw_of
write_left-requires g c =
    let (p, start, s, writing) = c.requires in
    let counts = counts_are p s (g.D.Disk.state start) (g.D.Disk.state c.args.disk.now) c.args.self c.pages-need.result
    c.slots-slots.result writing c.pages-need.ensures c.slots-slots.ensures.value in
    (p, start, s, writing, omega (arith, counts.0, counts.1, c.if-need-slots.false))

pub returns-then-need-slots : goal.returns-then-need-slots
unfolding draw_of
returns-then-need-slots g c =
    let old = g.D.Disk.state c.args.disk.now in
    record {
      calls = AreCalls-none old tt;
      becomes = λ p start s writing observable differs.
          becomes_none p (image_of_pairs p s) (g.D.Disk.state start) old differs (writing.keeps observable)
          (Err (Full c.pages-need.result c.slots-slots.result)) refl;
      full = λ p start s writing more.
          let counts = counts_are p s (g.D.Disk.state start) old c.args.self c.pages-need.result c.slots-slots.result
          writing c.pages-need.ensures c.slots-slots.ensures.value in
          ap₂ (λ need slots. Err (Full need slots)) counts.0 counts.1;
      fits = λ p start s writing fits.
          let counts = counts_are p s (g.D.Disk.state start) old c.args.self c.pages-need.result c.slots-slots.result
          writing c.pages-need.ensures c.slots-slots.ensures.value in
          absurd (omega (arith, counts.0, counts.1, fits, c.if-need-slots.true));
    }

pub returns-in_err-write_left : goal.returns-in_err-write_left
unfolding draw_of
returns-in_err-write_left g c =
    let old = g.D.Disk.state c.args.disk.now in
    let new = g.D.Disk.state c.write_left.new.disk in
    record {
      calls = disk_failed old new c.in_err-write_left.field-0.0 c.from_residual.result c.from_residual.ensures.1
          c.in_err-write_left.ensures.calls;
      becomes = λ p start s writing observable differs.
          let counts = counts_are p s (g.D.Disk.state start) old c.args.self c.pages-need.result c.slots-slots.result
          writing c.pages-need.ensures c.slots-slots.ensures.value in
          becomes_failed p (image_of_pairs p s) (g.D.Disk.state start) new c.in_err-write_left.field-0.0
          c.from_residual.result c.from_residual.ensures.0
          (c.in_err-write_left.ensures.becomes p start s writing
          (omega (arith, counts.0, counts.1, c.if-need-slots.false)) observable differs);
      full = λ p start s writing more.
          let counts = counts_are p s (g.D.Disk.state start) old c.args.self c.pages-need.result c.slots-slots.result
          writing c.pages-need.ensures c.slots-slots.ensures.value in
          absurd (omega (arith, counts.0, counts.1, more, c.if-need-slots.false));
      fits = λ p start s writing fits. disk_alone c.from_residual.result c.from_residual.ensures.1;
    }

pub returns : goal.returns
unfolding draw_of
returns g c =
    let old = g.D.Disk.state c.args.disk.now in
    let new = g.D.Disk.state c.write_left.new.disk in
    record {
      calls = AreCalls-answered old new tt tt c.in_ok-write_left.ensures.calls;
      becomes = λ p start s writing observable differs.
          let counts = counts_are p s (g.D.Disk.state start) old c.args.self c.pages-need.result c.slots-slots.result
          writing c.pages-need.ensures c.slots-slots.ensures.value in
          becomes_answered p (image_of_pairs p s) (g.D.Disk.state start) new tt tt
          (c.in_ok-write_left.ensures.becomes p start s writing
          (omega (arith, counts.0, counts.1, c.if-need-slots.false)) observable differs);
      full = λ p start s writing more.
          let counts = counts_are p s (g.D.Disk.state start) old c.args.self c.pages-need.result c.slots-slots.result
          writing c.pages-need.ensures c.slots-slots.ensures.value in
          absurd (omega (arith, counts.0, counts.1, more, c.if-need-slots.false));
      fits = λ p start s writing fits. tt;
    }
