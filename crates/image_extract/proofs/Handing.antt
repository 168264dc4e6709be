-- What is said of a store that was opened and only read is said of the disk below.
use Rattle.std.proofs.Common.{◌≡◌, ℕ, List, true, Result, Ok, Err, OnOk, IfErr, sym, subst, ◌∙◌}
use Rattle.store_base.specs.Counts.{raised_by}
use Rattle.store_model.specs.Paths.{Path}
use Rattle.store_model.specs.Trees.{IsTree, exists}
use Rattle.disk_model.specs.DiskState.{DiskState, IsObservable}
use Rattle.image_check.specs.declared.fault.AttachFault.{AttachFault}
use Rattle.store_core.specs.StoreState.{StoreState}
use Rattle.recovered_store.specs.RecoveredStores.{IsOpened, IsRefused}
use Rattle.host_builder.specs.declared.attribute.Wanted.{Wanted}
use Rattle.host_builder.specs.Builders.{BuilderState}
use Rattle.image_reads.specs.declared.fault.ReadFault.{ReadFault}
use Rattle.image_reads.specs.Faults.{unopened_fault}
use Rattle.image_reads.specs.Reads.{IsUnread}
use Rattle.image_reads.specs.StoreReads.{IsOnlyRead}
use Rattle.image_reads.proofs.Handed.{unread_refused, unread_opened}
use Rattle.image_reads.proofs.Opened.{has_tree}
use Rattle.image_extract.specs.declared.fault.ExtractFault.{ExtractFault}
use Rattle.image_extract.specs.declared.fault.ExtractFault.TheVariants as extracts
use Rattle.image_extract.specs.Extracts.{asked, AllStand, IsMissing, IsMadeOf, MakesStore, Extracts, IsStoreUnmade}
use Rattle.image_extract.specs.Extracts.{IsUnextracted}

-- a disk that was not opened
pub unread_told : (old new : DiskState) (fault : AttachFault) (told : ReadFault) → told ≡ unopened_fault fault
    → IsRefused old fault new → IsUnread old new told
unread_told old new fault told is refused =
    subst (λ (f : ReadFault). IsUnread old new f) (sym is) (unread_refused old new fault refused)

module _ {R : Type 0} (state : R → DiskState) (old : DiskState) (store : StoreState R)
    (opened : IsOpened state old store) where
  -- one of which the tree was made
  pub extracted : (wanted : Wanted) (paths : List Path) (before after : BuilderState) (stays : ℕ)
      (result : Result (Unit {0}) ExtractFault)
      → MakesStore (λ t. asked t paths) wanted (state store.disk) store.tree before after stays result
      → OnOk result (IsTree store.tree → IsObservable (state store.disk) → AllStand store.tree paths)
      → Extracts wanted paths old before after stays result
  extracted wanted paths before after stays (Ok done) makes stand = record {
    built = makes.built;
    made = λ seen. has_tree state old store opened
        (λ t. AllStand t paths × IsMadeOf wanted before after (asked t paths)) seen (
          stand (opened.fitting).tree (opened.observable ∙ seen),
          makes.made (opened.fitting).tree (opened.observable ∙ seen),
        );
  }
  extracted wanted paths before after stays (Err fault) makes stand = makes

  -- and one of which it was not
  module _ (after below : DiskState) (refused : ℕ) (faults_are : after.faults ≡ raised_by below.faults refused)
      (writes_are : after.writes ≡ raised_by 0 refused) (read : IsOnlyRead (state store.disk) after) where
    pub unextracted : (wanted : Wanted) (paths : List Path) (result : Result (Unit {0}) ExtractFault)
        → IfErr result (IsStoreUnmade (λ t. asked t paths) wanted paths store.tree (state store.disk) after)
        → IfErr result (IsUnextracted wanted paths old below)
    unextracted wanted paths (Ok done) is = tt
    unextracted wanted paths (Err (extracts.Missing number)) is = (
      is.0,
      λ seen. has_tree state old store opened (λ t. IsMissing t paths number) seen
          (is.1 (opened.fitting).tree (opened.observable ∙ seen)),
    )
    unextracted wanted paths (Err (extracts.NoName path)) is = (
      is.0,
      λ seen. has_tree state old store opened (λ t. AllStand t paths × (exists (asked t paths) path ≡ true)) seen
          (is.1 (opened.fitting).tree (opened.observable ∙ seen)),
    )
    unextracted wanted paths (Err (extracts.Read fault)) is =
        unread_opened state old store opened after below refused faults_are writes_are read fault is
