-- What is listed of an image.
use Rattle.std.specs.Prelude.{◌≡◌, Result, Ok, Err, OnOk, IfOk, IfErr}
use Rattle.store_model.specs.Paths.{Path}
use Rattle.store_model.specs.Trees.{Tree, IsTree}
use Rattle.disk_model.specs.DiskState.{DiskState, IsObservable}
use Rattle.script_lines.specs.SinkState.{SinkState}
use Rattle.dump_streams.specs.declared.draining.DrainFault.{DrainFault}
use Rattle.dump_views.specs.declared.content.Standing.{Standing}
use Rattle.dump_views.specs.declared.content.Standing.TheVariants as standings
use Rattle.entry_lines.specs.declared.form.ListForm.{ListForm}
use Rattle.entry_lines.specs.Listings.{IsListed}
use Rattle.image_reads.specs.declared.fault.ReadFault.{ReadFault}
use Rattle.image_reads.specs.Faults.{output_faults}
use Rattle.image_reads.specs.Reads.{HasTreeWith, IsUnopened}

-- whether all steps of a list came, and what stands at its path then
abbrev pub done_of : Result Standing DrainFault → Result (Unit {0}) DrainFault
done_of (Ok standing) = Ok tt
done_of (Err fault) = Err fault

abbrev pub standing_in : Result Standing DrainFault → Standing
standing_in (Ok standing) = standing
standing_in (Err fault) = standings.Nothing

-- What a disk's image has at a path was listed into a sink. A call of the sink failed exactly where the sink is blamed,
-- and what was not opened leaves it as it was.
pub record ListsImage (form : ListForm) (path : Path) (disk : DiskState) (old new : SinkState)
    (result : Result Standing ReadFault) : Type 0 where
  pub faults : new.faults ≡ output_faults result old.faults
  pub observable : OnOk result (new.is_observable ≡ old.is_observable)
  pub untouched : IfErr result (λ fault. IsUnopened fault → new ≡ old)
  pub listed : IsObservable disk → IfOk result (λ standing. HasTreeWith disk (IsListed form path old new standing))

-- so was what a store's tree has there
pub record ListsStore (form : ListForm) (path : Path) (disk : DiskState) (t : Tree) (old new : SinkState)
    (result : Result Standing ReadFault) : Type 0 where
  pub faults : new.faults ≡ output_faults result old.faults
  pub observable : OnOk result (new.is_observable ≡ old.is_observable)
  pub listed : IsTree t → IsObservable disk → IfOk result (λ standing. IsListed form path old new standing t)
