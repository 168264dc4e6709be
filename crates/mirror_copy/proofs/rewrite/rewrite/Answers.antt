use Rattle.std.proofs.Common.{◌≡◌, ap, length, ◌∙◌}
use Rattle.store_model.specs.Parameters.{image_len}
use Rattle.store_model.specs.Images.{recovered}
use Rattle.gate_journal.specs.Changes.{with_slots}
use Rattle.gate_journal.proofs.Calls.{observable_after}
use Rattle.mirror_copy.proofs.Rewriting.{counts_commit, unrecovered, rewritten}
use Rattle.mirror_copy.proofs.rewrite.rewrite.Goals as goal

pub returns-in_err-recover-clause-rewrites : goal.returns-in_err-recover-clause-rewrites
returns-in_err-recover-clause-rewrites g c observable =
    let slots = c.args.params.now.slots in
    let old = g.D.Disk.state c.args.disk.now in
    let long : length old.bytes ≡ image_len slots =
    (g.met.D.Disk.sound c.args.disk.now observable).size ∙ c.requires.size in
    let changes = g.S.SlotChanges.changes c.args.changes.now in
    unrecovered slots (with_slots slots changes (recovered slots old.bytes)) changes.count old
    (g.D.Disk.state c.recover.new.disk) c.recover.result c.from_residual.result long
    c.from_residual.ensures.0 (c.recover.ensures.recovers observable)
    (record {
      quiet = c.recover.ensures.quiet observable;
      quiet_syncs = c.recover.ensures.quiet_syncs observable;
      makes = c.recover.ensures.makes observable;
    })

pub returns-clause-rewrites : goal.returns-clause-rewrites
returns-clause-rewrites g c observable =
    let slots = c.args.params.now.slots in
    let changes = g.S.SlotChanges.changes c.args.changes.now in
    let old = g.D.Disk.state c.args.disk.now in
    let mid = g.D.Disk.state c.recover.new.disk in
    let new = g.D.Disk.state c.commit.new.disk in
    let long : length old.bytes ≡ image_len slots =
    (g.met.D.Disk.sound c.args.disk.now observable).size ∙ c.requires.size in
    let observable_mid = observable_after _ _ _ c.recover.ensures.calls observable in
    rewritten slots changes old mid new c.in_ok-recover.field-0 c.commit.result long
    (c.in_ok-recover.ensures.recovers observable)
    (record {
      quiet = c.in_ok-recover.ensures.quiet observable;
      quiet_syncs = c.in_ok-recover.ensures.quiet_syncs observable;
      makes = c.in_ok-recover.ensures.makes observable;
    })
    (c.commit.ensures.commits observable_mid)
    (counts_commit changes.count mid new c.commit.result (λ none. ap g.D.Disk.state (c.commit.ensures.none none))
    (c.commit.ensures.makes observable_mid))
