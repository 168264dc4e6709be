use Rattle.std.proofs.Common.{Ok, ◌∙◌, arith}
use Rattle.store_model.specs.Draws.{draw_of}
use Rattle.gate_journal.proofs.Calls.{observable_after}
use Rattle.image_writer.specs.Sealing.{image_of}
use Rattle.image_writer.specs.Placing.{placed}
use Rattle.image_writer.proofs.Fills.{long_image}
use Rattle.image_writer.proofs.Sealed.{keeps_first, becomes_none, becomes_whole}
use Rattle.store_model.proofs.PlacementLemmasDraws.{IsLawful-draw_of}
use Rattle.image_writer.proofs.rest.seal.Goals as goal

pub write_durably-requires-clause-within : goal.write_durably-requires-clause-within
write_durably-requires-clause-within g c =
    omega (arith, c.in_ok-write_rest.ensures.calls.size, c.requires.size, long_image c.args.params.now.slots)

pub returns-in_err-write_rest-clause-becomes : goal.returns-in_err-write_rest-clause-becomes
returns-in_err-write_rest-clause-becomes g c = λ start pages observable differs fits are placed_so.
    let p = c.args.params.now in
    let first = g.D.Disk.state start in
    let old = g.D.Disk.state c.args.disk.now in
    let new = g.D.Disk.state c.write_rest.new.disk in
    let observable_old = observable_after first old (Ok tt) placed_so.calls observable in
    becomes_none p (image_of p (placed (draw_of p) pages)) first new differs
    (keeps_first p pages c.args.free.now first old new c.requires.slots
    (g.met.D.Disk.sound c.args.disk.now observable_old) (placed_so.placed observable)
    (c.write_rest.ensures.reaches observable_old).keeps)
    c.from_residual.result c.from_residual.ensures.0

pub returns-clause-becomes : goal.returns-clause-becomes
returns-clause-becomes g c = λ start pages observable differs fits are placed_so.
    let p = c.args.params.now in
    let first = g.D.Disk.state start in
    let old = g.D.Disk.state c.args.disk.now in
    let mid = g.D.Disk.state c.write_rest.new.disk in
    let new = g.D.Disk.state c.write_durably.new.disk in
    let observable_old = observable_after first old (Ok tt) placed_so.calls observable in
    let observable_mid = observable_after old mid _ c.in_ok-write_rest.ensures.calls observable_old in
    let sound_mid = g.met.D.Disk.sound c.write_rest.new.disk observable_mid in
    let effect = c.write_durably.ensures in
    becomes_whole p c.requires.valid (IsLawful-draw_of p c.requires.valid) pages c.args.free.now first old mid
    (sound_mid.size ∙ c.in_ok-write_rest.ensures.calls.size ∙ c.requires.size)
    (g.met.D.Disk.sound c.args.disk.now observable_old) fits are (placed_so.placed observable)
    (c.in_ok-write_rest.ensures.reaches observable_old) new c.write_durably.result differs
    (c.in_ok-write_rest.ensures.made observable_old) (effect.outside observable_mid) (effect.written observable_mid)
    (effect.crash observable_mid) (effect.durable observable_mid) (effect.write_count observable_mid)
    (effect.sync_count observable_mid)
