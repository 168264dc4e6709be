-- Which disk is to blame that was not read to its end.
use Rattle.std.proofs.Common.{◌≡◌, ℕ, Result, Ok, Err, IfErr, ◌∙◌}
use Rattle.disk_model.specs.DiskState.{DiskState}
use Rattle.store_base.specs.Counts.{raised_by}
use Rattle.image_check.specs.declared.fault.AttachFault.{AttachFault}
use Rattle.image_check.specs.declared.fault.AttachFault.TheVariants as attach
use Rattle.store_core.specs.StoreState.{StoreState}
use Rattle.recovered_store.specs.RecoveredStores.{IsOpened, IsRefused}
use Rattle.image_reads.specs.declared.fault.ReadFault.{ReadFault}
use Rattle.image_reads.specs.declared.fault.ReadFault.TheVariants as reads
use Rattle.image_reads.specs.Faults.{unopened_fault}
use Rattle.image_reads.specs.StoreReads.{IsOnlyRead}
use Rattle.image_reads.proofs.Handed.{unread_refused, unread_opened}
use Rattle.image_differences.specs.declared.images.ImagesFault.{ImagesFault}
use Rattle.image_differences.specs.declared.images.ImagesFault.TheVariants as images
use Rattle.image_differences.specs.Compared.{IsBlamed, IsStoreBlamed}
use Rattle.image_differences.specs.Images.{AreUncompared, AreStoresUncompared}

refused_output : (fault : AttachFault) → unopened_fault fault ≡ reads.Output → ⊥
refused_output attach.Disk e = cc
refused_output attach.NoMemory e = cc
refused_output attach.NotImage e = cc
refused_output attach.Damaged e = cc

-- one that was not opened
pub blame_refused : (old new : DiskState) (fault : AttachFault) → IsRefused old fault new
    → IsBlamed old new (unopened_fault fault)
blame_refused old new fault is = record {
  unread = unread_refused old new fault is;
  not_output = refused_output fault;
}

-- one that was opened
pub blame_opened : {R : Type 0} (state : R → DiskState) (old : DiskState) (store : StoreState R)
    → IsOpened state old store → (after below : DiskState) (refused : ℕ) → after.faults ≡ raised_by below.faults refused
    → after.writes ≡ raised_by 0 refused → IsOnlyRead (state store.disk) after → (fault : ReadFault)
    → IsStoreBlamed (state store.disk) after fault → IsBlamed old below fault
blame_opened state old store opened after below refused faults_are writes_are read fault is = record {
  unread = unread_opened state old store opened after below refused faults_are writes_are read fault is.store;
  not_output = is.not_output;
}

-- two that were opened
pub blame_both : (first first' before after second second' before' after' : DiskState)
    → before.is_observable ≡ first.is_observable → before'.is_observable ≡ second.is_observable
    → ((fault : ReadFault) → IsStoreBlamed before after fault → IsBlamed first first' fault)
    → ((fault : ReadFault) → IsStoreBlamed before' after' fault → IsBlamed second second' fault)
    → {T : Type 0} (result : Result T ImagesFault) → IfErr result (AreStoresUncompared before after before' after')
    → IfErr result (AreUncompared first first' second second')
blame_both first first' before after second second' before' after' seen seen' one other (Ok value) is = tt
blame_both first first' before after second second' before' after' seen seen' one other (Err (images.First fault)) is =
    one fault is
blame_both first first' before after second second' before' after' seen seen' one other (Err (images.Second fault)) is =
    other fault is
blame_both first first' before after second second' before' after' seen seen' one other (Err images.Changed) is =
    λ a b. is (seen ∙ a) (seen' ∙ b)
blame_both first first' before after second second' before' after' seen seen' one other (Err images.NoMemory) is = tt
