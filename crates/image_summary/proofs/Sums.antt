-- Whether a recovery is pending, and disks that are only read.
use Rattle.std.proofs.Common.{◌≡◌, ◌↔◌, ℕ, List, length, Bool, true, false, not, IsTrue, refl, subst, ◌∙◌}
use Rattle.std.proofs.lemmas.Bool.{false≢true}
use Rattle.store_model.specs.Parameters.{image_len}
use Rattle.disk_model.specs.DiskState.{DiskState}
use Rattle.gate_journal.specs.Phases.{HasEmptyJournal}
use Rattle.gate_journal.proofs.Phases.{recovered_empty}
use Rattle.gate_journal.proofs.Recovering.{empty-recovered}
use Rattle.recovered_store.specs.BelowDisks.{IsUntouched}
use Rattle.image_summary.specs.Summaries.{IsPending}

-- a recovery is pending exactly where the journal is not empty
pub pending_is : (slots : ℕ) (image : List ℕ) (b : Bool) → length image ≡ image_len slots
    → (IsTrue b ↔ HasEmptyJournal slots image) → IsTrue (not b) ↔ IsPending slots image
pending_is slots image true long is = (
  λ e. absurd (false≢true e),
  λ pending. absurd (pending (recovered_empty slots image long (is.0 refl))),
)
pending_is slots image false long is = (
  λ e same. false≢true (is.1 (subst (HasEmptyJournal slots) same (empty-recovered slots image long))),
  λ pending. refl,
)

-- one reading after another
pub untouched_then : (old mid new : DiskState) → IsUntouched old mid → IsUntouched mid new → IsUntouched old new
untouched_then old mid new first then = record {
  bytes = then.bytes ∙ first.bytes;
  crash = λ image. (
    λ none. (first.crash image).0 ((then.crash image).0 none),
    λ none. (then.crash image).1 ((first.crash image).1 none),
  );
  write_count = then.write_count ∙ first.write_count;
  sync_count = then.sync_count ∙ first.sync_count;
}
