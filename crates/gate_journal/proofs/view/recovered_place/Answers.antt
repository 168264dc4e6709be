use Rattle.std.proofs.Common.{ℕ, Bool, sym, ap, ◌∙◌, if◌then◌else◌}
use Rattle.store_model.specs.Parameters.{shadow_at, table_at}
use Rattle.store_model.specs.Images.{bytes_at, recovered_slot}
use Rattle.gate_journal.proofs.Faults.{if_ok_fault}
use Rattle.gate_journal.proofs.Caches.{ReadsJournal-fault, ReadsJournal-answered}
use Rattle.gate_journal.proofs.view.recovered_place.Goals as goal

pub returns-then-branch-clause-value : goal.returns-then-branch-clause-value
unfolding recovered_slot
returns-then-branch-clause-value g c observable =
    let old = (g.D.Disk.state c.args.disk.now).bytes in
    ap (λ (n : ℕ). bytes_at old n 4096) c.shadow_at.ensures.value
    ∙ ap (λ (b : Bool). bytes_at old
    (if b then shadow_at c.args.slots c.args.slot else table_at c.args.slots c.args.slot) 4096)
    (sym c.if-branch.true ∙ c.in_ok-is_redone.ensures.value observable)

pub returns-else-branch-clause-value : goal.returns-else-branch-clause-value
unfolding recovered_slot
returns-else-branch-clause-value g c observable =
    let old = (g.D.Disk.state c.args.disk.now).bytes in
    ap (λ (n : ℕ). bytes_at old n 4096) c.table_at.ensures.value
    ∙ ap (λ (b : Bool). bytes_at old
    (if b then shadow_at c.args.slots c.args.slot else table_at c.args.slots c.args.slot) 4096)
    (sym c.if-branch.false ∙ c.in_ok-is_redone.ensures.value observable)

pub returns-in_err-is_redone-clause-journal : goal.returns-in_err-is_redone-clause-journal
returns-in_err-is_redone-clause-journal g c =
    ReadsJournal-fault _ _ _ _ c.from_residual.result c.from_residual.ensures.0 c.in_err-is_redone.ensures.journal

pub returns-in_err-is_redone-clause-within : goal.returns-in_err-is_redone-clause-within
returns-in_err-is_redone-clause-within g c =
    if_ok_fault c.from_residual.result _ c.from_residual.ensures.0

pub returns-in_err-is_redone-clause-value : goal.returns-in_err-is_redone-clause-value
returns-in_err-is_redone-clause-value g c observable =
    if_ok_fault c.from_residual.result _ c.from_residual.ensures.0

pub returns-then-branch-clause-journal : goal.returns-then-branch-clause-journal
returns-then-branch-clause-journal g c = ReadsJournal-answered _ _ _ _ _ c.in_ok-is_redone.ensures.journal

pub returns-else-branch-clause-journal : goal.returns-else-branch-clause-journal
returns-else-branch-clause-journal g c = ReadsJournal-answered _ _ _ _ _ c.in_ok-is_redone.ensures.journal
