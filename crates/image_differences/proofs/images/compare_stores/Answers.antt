use Rattle.std.proofs.Common.{inl}
use Rattle.disk_model.specs.DiskState.{IsObservable}
use Rattle.store_stream.specs.StoreStreams.{CameOf, IsWhole, EndsBy}
use Rattle.dump_diff.specs.Causes.{IsCause}
use Rattle.image_differences.specs.Compared.{TellTrees}
use Rattle.image_differences.specs.Images.{AreStoresUncompared}
use Rattle.image_differences.proofs.StoreSides.{reads_so, whole_is, few_came, blamed}
use Rattle.image_differences.proofs.Comparing.{tell_trees, uncompared, found_so, params_so, fault_so, if_ok}
use Rattle.image_differences.proofs.images.compare_stores.Goals as goal

pub returns-clause-first : goal.returns-clause-first
returns-clause-first g c =
    reads_so g.R.Disk.state c.args.first c.new-one.result c.compare-compared.new.first c.new-one.ensures.store
    c.new-one.ensures.fault (c.compare-compared.ensures.keeps_first c.new-one.result c.new-one.ensures.keeps)
    c.new-one.ensures.fitting c.requires.first_runs c.into_store.result c.into_store.ensures

pub returns-clause-second : goal.returns-clause-second
returns-clause-second g c =
    reads_so g.S.Disk.state c.args.second c.new-other.result c.compare-compared.new.second c.new-other.ensures.store
    c.new-other.ensures.fault (c.compare-compared.ensures.keeps_second c.new-other.result c.new-other.ensures.keeps)
    c.new-other.ensures.fitting c.requires.second_runs c.into_store-2.result c.into_store-2.ensures

pub returns-clause-found : goal.returns-clause-found
returns-clause-found g c =
    let one = c.compare-compared.new.first in
    let other = c.compare-compared.new.second in
    let read = c.compare-compared.ensures.keeps_first c.new-one.result c.new-one.ensures.keeps in
    let read' = c.compare-compared.ensures.keeps_second c.new-other.result c.new-other.ensures.keeps in
    found_so _ _ c.compare-compared.result c.fault-fault.result c.fault-other_fault.result c.found_of-found.result
    c.found_of-found.ensures
    (λ found. IsObservable (g.R.Disk.state c.args.first.disk) → IsObservable (g.S.Disk.state c.args.second.disk)
    → TellTrees c.args.first.tree c.args.second.tree found)
    (if_ok c.compare-compared.result (λ found are seen seen'.
    tell_trees (IsWhole g.R.Disk.state one) (IsWhole g.S.Disk.state other) found c.args.first.tree c.args.second.tree
    (c.new-one.ensures.fitting).tree (c.new-other.ensures.fitting).tree
    (λ t whole. whole_is g.R.Disk.state c.args.first c.new-one.result one c.new-one.ensures.store
    c.new-one.ensures.fault read c.new-one.ensures.fitting c.requires.first_runs t whole seen)
    (λ t whole. whole_is g.S.Disk.state c.args.second c.new-other.result other c.new-other.ensures.store
    c.new-other.ensures.fault read' c.new-other.ensures.fitting c.requires.second_runs t whole seen') are)
    (c.compare-compared.ensures.found c.new-one.ensures.came c.new-other.ensures.came))

pub returns-clause-params : goal.returns-clause-params
returns-clause-params g c =
    params_so _ _ c.compare-compared.result c.fault-fault.result c.fault-other_fault.result c.found_of-found.result
    c.found_of-found.ensures c.args.first.params c.args.second.params c.params.ensures.value c.params-2.ensures.value

pub returns-clause-failed : goal.returns-clause-failed
returns-clause-failed g c =
    let one = c.compare-compared.new.first in
    let other = c.compare-compared.new.second in
    let state = g.R.Disk.state in
    let state' = g.S.Disk.state in
    let read = c.compare-compared.ensures.keeps_first c.new-one.result c.new-one.ensures.keeps in
    let read' = c.compare-compared.ensures.keeps_second c.new-other.result c.new-other.ensures.keeps in
    fault_so _ _ c.compare-compared.result c.fault-fault.result c.fault-other_fault.result c.found_of-found.result
    c.found_of-found.ensures
    (IsCause (CameOf state one) (IsWhole state one) (EndsBy state one) (CameOf state' other) (IsWhole state' other)
    (EndsBy state' other))
    (AreStoresUncompared (state c.args.first.disk) (state c.into_store.result.disk) (state' c.args.second.disk)
    (state' c.into_store-2.result.disk))
    (λ cause why. uncompared (CameOf state one) (IsWhole state one) (CameOf state' other) (IsWhole state' other)
    (EndsBy state one) (EndsBy state' other) (state c.args.first.disk) (state c.into_store.result.disk)
    (state' c.args.second.disk) (state' c.into_store-2.result.disk) c.fault-fault.result c.fault-other_fault.result
    (λ t cause ends. blamed state c.args.first c.new-one.result one c.new-one.ensures.store c.new-one.ensures.fault
    read c.new-one.ensures.fitting c.requires.first_runs t cause (inl ends) c.fault-fault.result c.fault-fault.ensures
    c.into_store.result c.into_store.ensures)
    (λ t cause ends. blamed state' c.args.second c.new-other.result other c.new-other.ensures.store
    c.new-other.ensures.fault read' c.new-other.ensures.fitting c.requires.second_runs t cause (inl ends)
    c.fault-other_fault.result c.fault-other_fault.ensures c.into_store-2.result c.into_store-2.ensures)
    (few_came state c.args.first c.new-one.result one c.new-one.ensures.store c.new-one.ensures.fault read
    c.new-one.ensures.fitting c.requires.first_runs)
    (few_came state' c.args.second c.new-other.result other c.new-other.ensures.store c.new-other.ensures.fault read'
    c.new-other.ensures.fitting c.requires.second_runs)
    cause why)
    (c.compare-compared.ensures.failed c.new-one.ensures.came c.new-other.ensures.came)
