use Rattle.std.proofs.Common.{◌≡◌, ◌↔◌, ℕ, List, IfOk, IsTrue, subst, ◌∙◌}
use Rattle.sha2.specs.Sha256.{sha256}
use Rattle.store_model.specs.Images.{recovered}
use Rattle.disk_model.specs.DiskState.{IsObservable}
use Rattle.gate_journal.specs.Phases.{HasEmptyJournal}
use Rattle.gate_journal.proofs.Reading.{ReadsOnly-trans}
use Rattle.image_check.specs.ImageCalls.{HasImage, IsFoundOn}
use Rattle.recovered_store.proofs.BelowLemmas.{untouched_by_reads}
use Rattle.image_summary.proofs.Sums.{pending_is, untouched_then}
use Rattle.image_summary.proofs.summary.sum_up.Goals as goal

pub returns-in-Ok-digest : goal.returns-in-Ok-digest
returns-in-Ok-digest g c =
    let state = g.D.Disk.state in
    let old = state c.args.disk in
    let mid = state c.find_image-disk.result.0 in
    let then = state c.has_empty_journal.new.disk in
    let new = state c.digest_recovered-disk.result.0 in
    let slots = c.in-Ok.contents.params.slots in
    let image : HasImage old c.in-Ok.contents = subst (IsFoundOn old) c.in-Ok.is c.find_image-disk.ensures.found in
    let seen_mid = λ (seen : IsObservable old). c.find_image-disk.ensures.reads.observable ∙ seen in
    let seen_then = λ (seen : IsObservable old). c.has_empty_journal.ensures.calls.observable ∙ seen_mid seen in
    let first = λ (seen : IsObservable old). c.find_image-disk.ensures.reads.reads seen in
    let second = λ (seen : IsObservable old). c.has_empty_journal.ensures.reads (seen_mid seen) in
    record {
      size = c.digest_recovered-disk.ensures.size ∙ c.has_empty_journal.ensures.calls.size
          ∙ c.find_image-disk.ensures.reads.size;
      observable = c.digest_recovered-disk.ensures.observable ∙ c.has_empty_journal.ensures.calls.observable
          ∙ c.find_image-disk.ensures.reads.observable;
      untouched = λ seen. untouched_then old then new
          (untouched_by_reads old then (ReadsOnly-trans old mid then (first seen) (second seen)))
          (c.digest_recovered-disk.ensures.untouched (seen_then seen));
      found = record {
        has_image = image;
        digest = λ seen. subst (λ (b : List ℕ). c.in-Ok-digest.digest ≡ sha256 (recovered slots b))
            ((second seen).bytes ∙ (first seen).bytes)
            (subst (λ r. IfOk r (λ d. d ≡ sha256 (recovered slots then.bytes))) c.in-Ok-digest.is
            (c.digest_recovered-disk.ensures.digest (seen_then seen)));
        pending = λ seen. pending_is slots old.bytes c.in-Ok-has_empty_journal.is_empty
            ((image.has_parameters.named seen).length_is)
            (subst (λ (b : List ℕ). IsTrue c.in-Ok-has_empty_journal.is_empty ↔ HasEmptyJournal slots b)
            (first seen).bytes (c.in-Ok-has_empty_journal.ensures.empty (seen_mid seen)));
      };
      unread = tt;
    }
