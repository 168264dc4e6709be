-- Lemmas on the table of statuses.
use Rattle.std.proofs.Common.{◌≡◌, ◌⊎◌, Bool, false, IsTrue, sym, ap, ◌∙◌}
use Rattle.std.proofs.lemmas.Bool.{false≢true}
use Rattle.image_subcommands.specs.declared.status.Status.{Status}
use Rattle.image_subcommands.specs.declared.status.Status.TheVariants as statuses
use Rattle.image_subcommands.specs.Statuses.{Row, row}
use Rattle.image_subcommands.proofs.EachStatus.{is_or_not}

-- a status that a column of the table has is none that it has not
pub other_than : (column : Row → Bool) (status other : Status) → IsTrue (column (row status))
    → column (row other) ≡ false → status ≡ other → ⊥
other_than column status other has lacks same =
    false≢true (sym lacks ∙ ap (λ (s : Status). column (row s)) (sym same) ∙ has)

-- a status is that of a fault of the disk, or is not
pub disk_fault_or_not : (status : Status) → (status ≡ statuses.DiskFault) ⊎ (status ≡ statuses.DiskFault → ⊥)
disk_fault_or_not status = is_or_not status statuses.DiskFault
