use Rattle.std.proofs.Common.{◌≡◌, ℕ, ◌-◌, ◌*◌, ◌<◌, ◌≤◌, slice_index, Ok}
use Rattle.store_base.specs.declared.fault.DiskFault.{DiskFault}
use Rattle.store_model.specs.Parameters.{image_len}
use Rattle.store_model.specs.Images.{header}
use Rattle.disk_model.specs.DiskState.{IsObservable}
use Rattle.gate_journal.specs.Places.{IsApart, AreCalls, Made, Keeps, IsZeroAt}
use Rattle.gate_journal.proofs.format.write_rest.Given as goal

abbrev pub invariant-loop-block : goal.invariant-loop-block
invariant-loop-block g l =
    let old = g.D.Disk.state l.fn.disk in
    let new = g.D.Disk.state l.disk in
    record {
      calls : AreCalls {T = Unit {0}} {E = DiskFault} old new (Ok tt);
      keeps : IsObservable old → Keeps (IsApart 1 (image_len l.params.slots - 1)) old new;
      header_is : IsObservable old → (place : ℕ) → 1 ≤ place → place < 4096
          → slice_index new.bytes place ≡ slice_index (header l.params) place;
      zero : IsObservable old → IsZeroAt 4096 (4096 * (l.block - 1)) new.bytes;
      made : IsObservable old → Made l.block 0 old new;
    }
