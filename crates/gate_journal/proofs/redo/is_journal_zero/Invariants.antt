use Rattle.std.proofs.Common.{◌≡◌, ℕ, ◌+◌, ◌*◌, ◌<◌, ◌≤◌, slice_index}
use Rattle.store_model.specs.Parameters.{table_at}
use Rattle.gate_journal.proofs.SoFar.{ReadsSoFar}
use Rattle.gate_journal.proofs.redo.is_journal_zero.Given as goal

abbrev pub invariant-loop-part : goal.invariant-loop-part
invariant-loop-part g l =
    let old = g.D.Disk.state l.fn.disk in
    ReadsSoFar ((place : ℕ) → 4096 ≤ place → place < 4096 + 65536 * l.part → place < table_at l.slots 0
    → slice_index old.bytes place ≡ 0) old (g.D.Disk.state l.disk)
