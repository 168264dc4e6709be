use Rattle.std.proofs.Common.{◌≡◌, ℕ, length, sym, ap, ◌∙◌}
use Rattle.store_model.specs.Parameters.{image_len}
use Rattle.gate_journal.specs.Phases.{table_slot}
use Rattle.gate_journal.proofs.Calls.{observable_after}
use Rattle.scrub_free.specs.FreeSlots.{is_unclean}
use Rattle.scrub_free.proofs.Clean.{recovered_clean}
use Rattle.scrub_free.proofs.Stages.{scrubs_unrecovered, scrubs_recovered, counts_unrecovered, counts_recovered}
use Rattle.scrub_free.proofs.image.scrub_image.Goals as goal

pub scrub_slots-requires-clause-clean : goal.scrub_slots-requires-clause-clean
scrub_slots-requires-clause-clean g c told i low =
    let slots = c.args.params.now.slots in
    let old = g.D.Disk.state c.args.disk.now in
    let new = g.D.Disk.state c.recover.new.disk in
    let observable = sym c.recover.ensures.calls.observable ∙ told in
    let long : length old.bytes ≡ image_len slots =
    (g.met.D.Disk.sound c.args.disk.now observable).size ∙ c.requires.size in
    let clean = recovered_clean slots c.args.clean old.bytes new.bytes long
    c.requires.within (c.in_ok-recover.ensures.recovers observable).done (c.requires.clean observable) in
    ap (λ (n : ℕ). is_unclean (table_slot n new.bytes i)) c.slots.ensures.value ∙ clean i low

pub returns-in_err-recover-clause-scrubs : goal.returns-in_err-recover-clause-scrubs
returns-in_err-recover-clause-scrubs g c observable =
    let slots = c.args.params.now.slots in
    let old = g.D.Disk.state c.args.disk.now in
    let long : length old.bytes ≡ image_len slots =
    (g.met.D.Disk.sound c.args.disk.now observable).size ∙ c.requires.size in
    scrubs_unrecovered slots old (g.D.Disk.state c.recover.new.disk) c.recover.result _ long
    c.from_residual.ensures.0 (c.recover.ensures.recovers observable)

pub returns-in_err-recover-clause-counts : goal.returns-in_err-recover-clause-counts
returns-in_err-recover-clause-counts g c observable =
    let slots = c.args.params.now.slots in
    let old = g.D.Disk.state c.args.disk.now in
    counts_unrecovered slots old (g.D.Disk.state c.recover.new.disk) c.recover.result _ c.from_residual.ensures.0
    (record {
      quiet = c.recover.ensures.quiet observable;
      quiet_syncs = c.recover.ensures.quiet_syncs observable;
      makes = c.recover.ensures.makes observable;
    })

pub returns-clause-scrubs : goal.returns-clause-scrubs
returns-clause-scrubs g c observable =
    let slots = c.args.params.now.slots in
    let long : length (g.D.Disk.state c.args.disk.now).bytes ≡ image_len slots =
    (g.met.D.Disk.sound c.args.disk.now observable).size ∙ c.requires.size in
    let observable_mid = observable_after _ _ _ c.recover.ensures.calls observable in
    let reaches = c.scrub_slots.ensures.reaches observable_mid in
    scrubs_recovered slots _ _ _ c.in_ok-recover.field-0 c.scrub_slots.result long
    (c.in_ok-recover.ensures.recovers observable) (rw c.slots.ensures.value at reaches)
    (c.scrub_slots.ensures.durable observable_mid)

pub returns-clause-counts : goal.returns-clause-counts
returns-clause-counts g c observable =
    let slots = c.args.params.now.slots in
    let long : length (g.D.Disk.state c.args.disk.now).bytes ≡ image_len slots =
    (g.met.D.Disk.sound c.args.disk.now observable).size ∙ c.requires.size in
    let observable_mid = observable_after _ _ _ c.recover.ensures.calls observable in
    let makes = c.scrub_slots.ensures.makes observable_mid in
    counts_recovered slots _ _ _ c.in_ok-recover.field-0 c.scrub_slots.result long
    (c.in_ok-recover.ensures.recovers observable).done
    (record {
      quiet = c.in_ok-recover.ensures.quiet observable;
      quiet_syncs = c.in_ok-recover.ensures.quiet_syncs observable;
      makes = c.in_ok-recover.ensures.makes observable;
    }) (rw c.slots.ensures.value at makes)
