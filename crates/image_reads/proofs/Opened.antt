-- What is said of a store that only reads is said of the disk below.
use Rattle.std.proofs.Common.{Result, Ok, Err, OnOk, OnErr, IfOk, IfErr, inl, inr, subst, ◌∙◌}
use Rattle.store_model.specs.Paths.{Path}
use Rattle.store_model.specs.Trees.{Tree, contents}
use Rattle.disk_model.specs.DiskState.{DiskState, IsObservable}
use Rattle.script_lines.specs.SinkState.{SinkState, AppendsPrefix}
use Rattle.store_core.specs.StoreState.{StoreState}
use Rattle.recovered_store.specs.RecoveredStores.{IsOpened}
use Rattle.dump_views.specs.declared.content.Standing.{Standing}
use Rattle.image_reads.specs.declared.fault.ReadFault.{ReadFault}
use Rattle.image_reads.specs.declared.found.FileFound.{FileFound}
use Rattle.image_reads.specs.Reads.{HasTreeWith, IsUnopened, IsFileRead, ReadsFile}
use Rattle.image_reads.specs.StoreReads.{IsStoreFault, LeavesDisk, PutsFile}
use Rattle.entry_lines.specs.declared.form.ListForm.{ListForm}
use Rattle.entry_lines.specs.Listings.{IsListed}
use Rattle.image_reads.specs.Lists.{ListsImage, ListsStore}

pub on_ok : {T E A B : Type 0} (result : Result T E) → (A → B) → OnOk result A → OnOk result B
on_ok (Ok value) f a = f a
on_ok (Err error) f a = tt

pub on_err : {T E A B : Type 0} (result : Result T E) → (A → B) → OnErr result A → OnErr result B
on_err (Ok value) f a = tt
on_err (Err error) f a = f a

pub if_ok : {T E : Type 0} {A B : T → Type 0} (result : Result T E) → ((value : T) → A value → B value) → IfOk result A
    → IfOk result B
if_ok (Ok value) f a = f value a
if_ok (Err error) f a = tt

-- a store that was opened tells no fault of one that was not
pub was_opened : {T : Type 0} (old new : DiskState) (result : Result T ReadFault) (A : Type 0)
    → IfErr result (IsStoreFault old new) → IfErr result (λ fault. IsUnopened fault → A)
was_opened old new (Ok value) A is = tt
was_opened old new (Err fault) A is = none
  where
    none : IsUnopened fault → A
    none (inl e) = absurd (subst (IsStoreFault old new) e is)
    none (inr e) = absurd (subst (IsStoreFault old new) e is)

module _ {R : Type 0} (state : R → DiskState) (old : DiskState) (store : StoreState R)
    (opened : IsOpened state old store) where
  -- the disk's image has the store's tree
  pub has_tree : (IsSo : Tree → Type 0) → IsObservable old → IsSo store.tree → HasTreeWith old IsSo
  has_tree IsSo seen is_so = record {
    tree = store.tree;
    params = store.params;
    represents = opened.represents seen;
    is_so = is_so;
  }

  pub file_read : (new : DiskState) (path : Path) (before after : SinkState) (result : Result FileFound ReadFault)
      → PutsFile path (state store.disk) store.tree before after result
      → LeavesDisk (state store.disk) new result
      → ReadsFile path old before after result
  file_read new path before after result puts leaves = record {
    faults = puts.faults;
    observable = puts.observable;
    untouched = was_opened (state store.disk) new result _ leaves.fault;
    read = λ seen. if_ok result (λ found is. has_tree (IsFileRead path before after found) seen is)
        (puts.read (opened.fitting).tree (opened.observable ∙ seen));
    cut_off = λ seen told. on_err result
        (λ cut. inr (has_tree (λ t. AppendsPrefix before.written after.written (contents t path)) seen cut))
        (puts.cut_off (opened.fitting).tree (opened.observable ∙ seen) told);
  }

  pub listed : (new : DiskState) (form : ListForm) (path : Path) (before after : SinkState)
      (result : Result Standing ReadFault)
      → ListsStore form path (state store.disk) store.tree before after result
      → LeavesDisk (state store.disk) new result
      → ListsImage form path old before after result
  listed new form path before after result lists leaves = record {
    faults = lists.faults;
    observable = lists.observable;
    untouched = was_opened (state store.disk) new result _ leaves.fault;
    listed = λ seen. if_ok result (λ standing is. has_tree (IsListed form path before after standing) seen is)
        (lists.listed (opened.fitting).tree (opened.observable ∙ seen));
  }
