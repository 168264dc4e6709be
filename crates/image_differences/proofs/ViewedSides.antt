-- What comparing an image with a folder says of both.
use Rattle.std.proofs.Common.{◌≡◌, ◌⊎◌, ◌^◌, ◌<◌, ◌≤◌, List, length, vec_len, Option, Result, Ok, Err}
use Rattle.std.proofs.Common.{IfOk, IfErr, refl, sym, ap, ap₂, subst, ◌∙◌, arith}
use Rattle.store_base.specs.Counts.{raised}
use Rattle.store_model.specs.Paths.{Path}
use Rattle.store_model.specs.Trees.{Tree, IsTree}
use Rattle.disk_model.specs.DiskState.{DiskState, IsObservable}
use Rattle.gate_journal.specs.ReadingLaws.{ReadsOnly-trans}
use Rattle.dump_streams.specs.Dumps.{dump}
use Rattle.dump_streams.specs.Draining.{IsTooLong}
use Rattle.dump_streams.specs.declared.fault.StreamFault.{StreamFault}
use Rattle.dump_diff.specs.declared.differences.Differences.{Differences}
use Rattle.dump_diff.specs.declared.fault.CompareFault.{CompareFault}
use Rattle.dump_diff.specs.declared.fault.CompareFault.TheVariants as compares
use Rattle.dump_diff.specs.Ahead.{AreFound}
use Rattle.dump_diff.specs.Causes.{IsCause}
use Rattle.host_builder.specs.declared.attribute.Wanted.{Wanted}
use Rattle.host_builder.specs.declared.viewed.HostViewStream.{HostViewStream}
use Rattle.host_builder.specs.Viewed.{CameOfView, IsWholeView, EndsView, KeepsView}
use Rattle.host_builder.specs.Views.{host_view}
use Rattle.host_folders.specs.FolderState.{FolderState}
use Rattle.host_folders.specs.Packed as packed
use Rattle.host_folders.specs.Packed.{IsPacked, IsOfSame}
use Rattle.host_folders.specs.Steps.{path_at}
use Rattle.host_folders.specs.declared.found.Found.{Found}
use Rattle.host_folders.specs.declared.stream.FolderStream.{FolderStream}
use Rattle.image_check.specs.declared.fault.ApplyFault.{ApplyFault}
use Rattle.store_core.specs.StoreState.{StoreState}
use Rattle.store_stream.specs.declared.stream.StoreStream.{StoreStream}
use Rattle.store_stream.specs.StoreStreams.{CameOf, IsWhole, EndsBy, ReadsStore}
use Rattle.image_reads.specs.declared.fault.ReadFault.{ReadFault}
use Rattle.image_reads.specs.declared.fault.ReadFault.TheVariants as reads
use Rattle.image_reads.specs.Faults.{store_fault}
use Rattle.image_reads.specs.StoreReads.{IsOnlyRead, IsStoreFault}
use Rattle.image_differences.specs.declared.folders.FolderCompareFault.{FolderCompareFault}
use Rattle.image_differences.specs.declared.folders.FolderCompareFault.TheVariants as faults
use Rattle.image_differences.specs.declared.timing.Times.{Times}
use Rattle.image_differences.specs.declared.timing.Times.TheVariants as times
use Rattle.image_differences.specs.Compared.{TellTrees, IsBlamed, IsStoreBlamed}
use Rattle.image_differences.specs.Folders.{TellsFolder, IsUncompared, IsStoreUncompared}
use Rattle.image_differences.specs.Folders.{views_fault, views_found}
use Rattle.image_differences.specs.Timing.{GoesOn, wanted_in}
use Rattle.image_differences.proofs.EqualViews.{view_rises, tell_in_order}
use Rattle.image_differences.proofs.FolderSides.{folder_few, reads_tree, ended_tree}
use Rattle.image_differences.proofs.StepCounts.{seen_few}

-- ---- the two streams

-- each came of itself
pub same_image : {D : Type 0} (disk_of : D → DiskState) (start : HostViewStream (StoreStream D)) (inner : StoreStream D)
    → start.stream ≡ inner → ReadsStore disk_of inner inner → KeepsView (ReadsStore disk_of) start start
same_image disk_of start inner is keeps = record {
  wanted = refl;
  stream = subst (λ (s : StoreStream _). ReadsStore disk_of s s) (sym is) keeps;
}

pub same_folder : {F : Type 0} (start : HostViewStream (FolderStream F)) → KeepsView IsOfSame start start
same_folder start = record { wanted = refl; stream = record { first = refl; found = refl } }

module _ {D F : Type 0} (disk_of : D → DiskState) (state_of : F → FolderState) (wanted : Wanted)
    (one : HostViewStream (StoreStream D)) (other : HostViewStream (FolderStream F)) (one_wanted : one.wanted ≡ wanted)
    (other_wanted : other.wanted ≡ wanted) (folder after : F) (first : other.stream.first.value ≡ folder)
    (after_is : after ≡ other.stream.folder) where
  -- what was found
  pub tells_views : (found : List Found) → other.stream.found.items ≡ found → (tree : Tree) → IsTree tree
      → ((t : Tree) → IsWhole disk_of one.stream t → t ≡ tree) → (differences : Differences)
      → AreFound (IsWholeView (IsWhole disk_of) one) (IsWholeView (IsPacked state_of) other) differences
      → TellsFolder wanted times.AsWanted found (state_of folder) (state_of after) differences tree
  tells_views found found_is tree is_tree whole_is differences are =
      let mine = are.first in
      let its = are.second in record {
        told = its.tree;
        reads = reads_tree state_of other.stream folder after first after_is found found_is its.tree its.whole_is;
        trees = tell_in_order differences are.one are.other (host_view wanted tree) (host_view wanted its.tree)
            (mine.view_is ∙ ap₂ host_view one_wanted (whole_is mine.tree mine.whole_is))
            (its.view_is ∙ ap (λ (w : Wanted). host_view w its.tree) other_wanted)
            (view_rises wanted tree is_tree.sorted) (view_rises wanted its.tree its.is_tree.sorted)
            are.differences are.attributes;
      }

  -- why nothing was
  pub unviewed : (store left : StoreState D) (fault : Option ApplyFault)
      → ((t : Tree) (cause : StreamFault)
      → EndsBy disk_of one.stream t cause ⊎ IsTooLong (CameOf disk_of) one.stream t cause
      → IsStoreBlamed (disk_of store.disk) (disk_of left.disk) (store_fault fault))
      → ((t : Tree) → CameOf disk_of one.stream t ⊎ IsWhole disk_of one.stream t → IsObservable (disk_of store.disk)
      → length (dump t) < 2 ^ 32)
      → vec_len other.stream.found ≤ 16777216 → (at : Option Path)
      → at ≡ path_at other.stream.place other.stream.at other.stream.found.items → (cause : CompareFault)
      → IsCause (CameOfView (CameOf disk_of) (IsWhole disk_of) one) (IsWholeView (IsWhole disk_of) one)
      (EndsView (CameOf disk_of) (EndsBy disk_of) one)
      (CameOfView (packed.CameOf state_of) (IsPacked state_of) other) (IsWholeView (IsPacked state_of) other)
      (EndsView (packed.CameOf state_of) (packed.EndsBy state_of) other) cause
      → IsStoreUncompared (disk_of store.disk) (disk_of left.disk) (state_of folder) (state_of after)
      (views_fault cause fault at)
  unviewed store left fault blamed few found_few at at_is (compares.First cause) why =
      let ends = why.told in blamed ends.tree cause ends.why
  unviewed store left fault blamed few found_few at at_is (compares.Second cause) why =
      let ends = why.told in
      ended_tree state_of other.stream folder after first after_is found_few ends.tree ends.is_tree cause at at_is
      ends.why
  unviewed store left fault blamed few found_few at at_is compares.TooLong why = record {
    store = λ seen.
        let a = seen_few (CameOf disk_of) (IsWhole disk_of) one (2 ^ 32) (λ t tree is. few t is seen) why.one
        why.first in
        let b = seen_few (packed.CameOf state_of) (IsPacked state_of) other (2 ^ 50)
        (folder_few state_of other.stream found_few) why.other why.second in
        let many = why.many in
        absurd (omega (arith, a, b, many));
    not_output = λ e. cc;
  }
  unviewed store left fault blamed few found_few at at_is (compares.NoMemory cause) why = tt

-- what is found of them
module _ (compared : Result Differences CompareFault) (fault : Option ApplyFault) (at : Option Path)
    (result : Result Differences FolderCompareFault) (is : result ≡ views_found compared fault at) where
  pub viewed_so : (A : Differences → Type 0) → IfOk compared A → IfOk result A
  viewed_so A told = subst (λ (r : Result Differences FolderCompareFault). IfOk r A) (sym is) (by_case compared told)
    where
      by_case : (c : Result Differences CompareFault) → IfOk c A → IfOk (views_found c fault at) A
      by_case (Ok found) a = a
      by_case (Err cause) a = tt

  pub unviewed_so : (C : CompareFault → Type 0) (A : FolderCompareFault → Type 0)
      → ((cause : CompareFault) → C cause → A (views_fault cause fault at)) → IfErr compared C → IfErr result A
  unviewed_so C A so told =
      subst (λ (r : Result Differences FolderCompareFault). IfErr r A) (sym is) (by_case compared told)
    where
      by_case : (c : Result Differences CompareFault) → IfErr c C → IfErr (views_found c fault at) A
      by_case (Ok found) a = tt
      by_case (Err cause) a = so cause a

-- ---- where times were asked for first

-- a disk that was only read twice
pub read_twice : (old mid new : DiskState) → IsOnlyRead old mid → IsOnlyRead mid new → IsOnlyRead old new
read_twice old mid new one two = record {
  observable = two.observable ∙ one.observable;
  reads = λ seen. ReadsOnly-trans old mid new (one.reads seen) (two.reads (one.observable ∙ seen));
}

blamed_later : (old mid new : DiskState) (fault : ReadFault) → mid.is_observable ≡ old.is_observable
    → mid.faults ≡ old.faults → IsStoreBlamed mid new fault → IsStoreBlamed old new fault
blamed_later old mid new fault seen same is = record {
  store = by_fault fault is.store;
  not_output = is.not_output;
}
  where
    by_fault : (fault : ReadFault) → IsStoreFault mid new fault → IsStoreFault old new fault
    by_fault reads.NotImage f = f
    by_fault reads.Damaged f = f
    by_fault reads.Disk f = f ∙ ap raised same
    by_fault reads.NoMemory f = tt
    by_fault reads.Changed f = λ told. f (seen ∙ told)
    by_fault reads.Output f = tt

module _ {D : Type 0} (disk_of : D → DiskState) (old mid : StoreState D) (on : GoesOn disk_of old mid)
    (folder after : FolderState) where
  pub uncompared_later : {T : Type 0} (new : DiskState) (result : Result T FolderCompareFault)
      → IfErr result (IsStoreUncompared (disk_of mid.disk) new folder after)
      → IfErr result (IsStoreUncompared (disk_of old.disk) new folder after)
  uncompared_later new (Ok value) is = tt
  uncompared_later new (Err (faults.Image fault)) is =
      blamed_later (disk_of old.disk) (disk_of mid.disk) new fault (on.read).observable on.faults is
  uncompared_later new (Err (faults.Folder fault)) is = is
  uncompared_later new (Err faults.NoMemory) is = tt

  pub tells_later : (wanted settled : Wanted) (asked : Times) → settled ≡ wanted_in asked wanted old.tree
      → (found : List Found) (differences : Differences)
      → TellsFolder settled times.AsWanted found folder after differences mid.tree
      → TellsFolder wanted asked found folder after differences old.tree
  tells_later wanted settled asked is found differences tells =
      let here = subst (λ (t : Tree). TellsFolder settled times.AsWanted found folder after differences t) on.tree tells
      in record {
        told = here.told;
        reads = here.reads;
        trees = subst (λ (w : Wanted). TellTrees (host_view w old.tree) (host_view w here.told) differences) is
            here.trees;
      }

-- ---- the disk below

pub uncompared_below : (disk disk' below below' : DiskState) (folder after : FolderState)
    → ((fault : ReadFault) → IsStoreBlamed disk disk' fault → IsBlamed below below' fault) → {T : Type 0}
    (result : Result T FolderCompareFault) → IfErr result (IsStoreUncompared disk disk' folder after)
    → IfErr result (IsUncompared below below' folder after)
uncompared_below disk disk' below below' folder after blame (Ok value) is = tt
uncompared_below disk disk' below below' folder after blame (Err (faults.Image fault)) is = blame fault is
uncompared_below disk disk' below below' folder after blame (Err (faults.Folder fault)) is = is
uncompared_below disk disk' below below' folder after blame (Err faults.NoMemory) is = tt
