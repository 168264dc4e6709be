use Rattle.std.proofs.Common.{◌≡◌, ℕ, List, IfOk, IfErr, Result, Ok, Err, sym, ap, ◌∙◌, subst, arith}
use Rattle.sha2.specs.Sha256.{sha256}
use Rattle.store_base.specs.Counts.{Rose, raised, raised_by, faults_after}
use Rattle.store_base.specs.declared.fault.DiskFault.{DiskFault}
use Rattle.store_model.specs.Parameters.{image_len}
use Rattle.disk_model.specs.DiskState.{IsObservable}
use Rattle.gate_journal.specs.ViewState.{viewed}
use Rattle.recovered_store.specs.SlotsDisks.{disk_state}
use Rattle.recovered_store.proofs.BelowLemmas.{sound_view, over_reads, untouched}
use Rattle.image_summary.proofs.summary.digest_recovered.Goals as goal

-- a digest failed, and so did a call of the disk below
failed : (old new was now refused : ℕ) (result : Result (List ℕ) DiskFault) → was ≡ raised_by old 0
    → now ≡ raised_by new refused → raised_by 0 refused ≡ 0 → now ≡ faults_after was result
    → IfErr result (λ fault. Rose old new)
failed old new was now refused (Ok digest) before after none calls = tt
failed old new was now refused (Err fault) before after none calls =
    let zero : refused ≡ 0 = omega (arith, none) in
    let last : now ≡ raised_by new 0 = after ∙ ap (λ n. raised_by new n) zero in
    let first : now ≡ raised (raised_by old 0) = calls ∙ ap raised before in
    omega (arith, first, last)

pub returns : goal.returns
returns g c =
    let state = g.D.Disk.state in
    let old = state c.args.disk in
    let first = c.recovered_disk-recovered.result in
    let last = c.digest-digest.new.disk in
    let was = disk_state (viewed first.slots.params.slots (state first.slots.disk)) (state first.slots.disk)
    first.params
    first.refused first.syncs in
    let now = disk_state (viewed last.slots.params.slots (state last.slots.disk)) (state last.slots.disk) last.params
    last.refused last.syncs in
    let new = state c.into_below.result in
    let seen_first = λ (seen : IsObservable old). c.recovered_disk-recovered.ensures.observable ∙ seen in
    let seen_new = λ (seen : IsObservable old). ap (λ d. (state d).is_observable) c.into_below.ensures.disk
    ∙ c.digest-digest.ensures.calls.observable ∙ seen_first seen in
    record {
      size = ap (λ d. (state d).size) c.into_below.ensures.disk ∙ last.slots.sized ∙ ap image_len last.counted
          ∙ c.digest-digest.ensures.calls.size ∙ c.recovered_disk-recovered.ensures.size;
      observable = ap (λ d. (state d).is_observable) c.into_below.ensures.disk
          ∙ c.digest-digest.ensures.calls.observable ∙ c.recovered_disk-recovered.ensures.observable;
      untouched = λ seen. untouched old new now (g.met.D.Disk.sound c.args.disk seen)
          (g.met.D.Disk.sound c.into_below.result (seen_new seen)) (c.into_below.ensures.over (seen_new seen))
          (λ none. none (over_reads old was now (c.recovered_disk-recovered.ensures.over seen)
          c.digest-digest.ensures.calls.size
          (sound_view first.slots.params first.params (state first.slots.disk) first.refused first.syncs
          (g.met.D.Disk.sound first.slots.disk (seen_first seen)) first.slots.sized first.counted first.in_range)
          (c.digest-digest.ensures.reads (seen_first seen))));
      digest = λ seen. subst (λ (b : List ℕ). IfOk c.digest-digest.result (λ d. d ≡ sha256 b))
          (c.recovered_disk-recovered.ensures.bytes seen) (c.digest-digest.ensures.digest (seen_first seen));
      failed = λ seen. failed old.faults new.faults was.faults now.faults last.refused c.digest-digest.result
          c.recovered_disk-recovered.ensures.counts.faults
          (ap (λ d. raised_by (state d).faults last.refused) (sym c.into_below.ensures.disk))
          ((c.digest-digest.ensures.reads (seen_first seen)).write_count
          ∙ c.recovered_disk-recovered.ensures.counts.writes)
          c.digest-digest.ensures.calls.faults;
    }
