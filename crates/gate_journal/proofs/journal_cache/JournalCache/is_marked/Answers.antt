use Rattle.std.proofs.Common.{◌≡◌, ℕ, ◌+◌, ◌-◌, ◌%◌, ◌==◌, ◌<◌, ◌≤◌, List, drop, slice_index, not, ap, ◌∙◌, arith}
use Rattle.std.proofs.Common.{get_or-take, get_or-drop}
use Rattle.store_model.specs.Parameters.{mark_at}
use Rattle.store_model.specs.Images.{bytes_at, is_marked}
use Rattle.gate_journal.proofs.Faults.{if_ok_fault}
use Rattle.gate_journal.proofs.Caches.{ReadsJournal-fault}
use Rattle.gate_journal.proofs.Calls.{observable_after}
use Rattle.gate_journal.proofs.journal_cache.JournalCache.is_marked.Goals as goal

-- a mark in the block that was read
mark_in : (image marks : List ℕ) (slot behind : ℕ) → behind ≤ slot → behind < 4096
    → marks ≡ bytes_at image (mark_at (slot - behind)) 4096 → not (slice_index marks behind == 0) ≡ is_marked image slot
unfolding is_marked
mark_in image marks slot behind low few are =
    let first = mark_at (slot - behind) in
    let there : first + behind ≡ mark_at slot = omega arith in
    ap (λ (n : ℕ). not (n == 0))
    (ap (λ (l : List ℕ). slice_index l behind) are ∙ get_or-take 4096 (drop first image) behind 0 few
    ∙ get_or-drop first image behind 0 ∙ ap (slice_index image) there)

pub returns-clause-value : goal.returns-clause-value
returns-clause-value g c observable =
    let slot = c.args.slot in
    let observable_mid = observable_after _ _ _ c.load_marks.ensures.journal.calls observable in
    let low : slot % 4096 ≤ slot = omega arith in
    let few : slot % 4096 < 4096 = omega arith in
    let marks = (c.load_marks.ensures.journal.cache observable_mid).marks_are (slot - slot % 4096)
    c.in_ok-load_marks.ensures.loaded in
    mark_in (g.D.Disk.state c.load_marks.new.disk).bytes c.load_marks.new.self.marks slot (slot % 4096) low few marks
    ∙ ap (λ (l : List ℕ). is_marked l slot) (c.load_marks.ensures.journal.reads observable).bytes

pub returns-in_err-load_marks-clause-journal : goal.returns-in_err-load_marks-clause-journal
returns-in_err-load_marks-clause-journal g c =
    ReadsJournal-fault _ _ _ _ c.from_residual.result c.from_residual.ensures.0 c.in_err-load_marks.ensures.journal

pub returns-in_err-load_marks-clause-value : goal.returns-in_err-load_marks-clause-value
returns-in_err-load_marks-clause-value g c observable =
    if_ok_fault c.from_residual.result _ c.from_residual.ensures.0
