-- How `upgrade` ends: with no store, or behind the upgrade of one.
use Rattle.std.proofs.Common.{◌≡◌, ◌⊎◌, ℕ, ◌+◌, Bool, List, Result, Ok, Err, OnOk, IsErrOf, refl, sym, ap, ◌∙◌, subst}
use Rattle.std.proofs.Common.{arith, inl, inr, ⊎_elim}
use Rattle.std.proofs.lemmas.Bool.{false≢true}
use Rattle.store_model.specs.declared.version.Version.{Version}
use Rattle.store_model.specs.declared.version.Version.TheVariants.{One, Two}
use Rattle.store_model.specs.Parameters.{Parameters, with_version}
use Rattle.store_model.specs.Trees.{Tree}
use Rattle.store_model.specs.Images.{Represents}
use Rattle.store_base.specs.Counts.{Rose}
use Rattle.disk_model.specs.DiskState.{DiskState, IsSound}
use Rattle.disk_model.specs.DiskState as disks
use Rattle.disk_model.specs.DiskCalls.{LeavesOnly}
use Rattle.disk_model.proofs.Crashes.{LeavesOnly-refl, LeavesOnly-trans, LeavesOnly-weaken}
use Rattle.gate_journal.specs.Costs.{opening_writes, opening_syncs, MadeAtMost}
use Rattle.gate_journal.specs.Disks.{IsUnwritten, KeepsDisk}
use Rattle.gate_journal.specs.Places.{Made, ReadsOnly}
use Rattle.script_lines.specs.SourceState.{SourceState}
use Rattle.script_lines.specs.SinkState.{SinkState}
use Rattle.image_check.specs.declared.fault.ApplyFault.{ApplyFault}
use Rattle.image_check.specs.declared.fault.ApplyFault.TheVariants as apply
use Rattle.image_check.specs.declared.fault.AttachFault.{AttachFault}
use Rattle.image_check.specs.Faults.{apply_faults_after}
use Rattle.image_check.specs.Standing.{IsFitting, Stands}
use Rattle.store_core.specs.StoreCalls.{IsRefused, KeepsImage, IsOpened, Upgrades}
use Rattle.staged_tree.specs.ImageChanges.{UpgradesImage}
use Rattle.store_core.specs.StoreState.{StoreState}
use Rattle.staged_tree.specs.TableChanges.{slots_upgraded}
use Rattle.staged_tree.proofs.CostLemmas.{made_none, made_reading, made_then, made_as, at_most_then, at_most}
use Rattle.staged_tree.proofs.Unchanged.{standing_represents, stands_reading}
use Rattle.image_subcommands.specs.declared.status.Status.TheVariants as statuses
use Rattle.image_subcommands.specs.Endings.{attach_status, apply_status, status_of}
use Rattle.image_subcommands.specs.Outside.{KeepsOutside}
use Rattle.image_subcommands.specs.Statuses.{Subcommand as words, IsEndOf, done_of_work}
use Rattle.image_subcommands.proofs.OutsideLemmas.{kept_around}
use Rattle.image_subcommands.proofs.ReportLemmas.{rose}
use Rattle.image_work.specs.Works.{IsReady, IsUnopened, WorksOnStore}
use Rattle.image_work.proofs.OpeningEnds.{never_behind, none_done, memory_left, memory_only, quiet_unopened}
use Rattle.store_top.specs.UpgradeCall.{writes_behind, syncs_behind, RepresentsEither, KeepsVersion, UpgradesTree}
use Rattle.store_top.specs.UpgradeCall.{KeepsUpgrade, UpgradesAt}

-- ---- no store was had

not_done : (fault : AttachFault) → attach_status fault ≡ statuses.Done → ⊥
not_done fault e = never_behind fault statuses.Done refl e

-- the image represents the tree still
tree_unopened : (fault : AttachFault) (old new : DiskState) (t : Tree) (p : Parameters) → disks.IsObservable old
    → IsRefused old fault new → KeepsImage t p old fault new → UpgradesTree t p (attach_status fault) old new
tree_unopened fault old new t p o refused keeps = record {
  upgraded = λ e. absurd (not_done fault e);
  crash = LeavesOnly-weaken old new (λ image. old.crash_images image ⊎ Represents image t p)
      (λ image. old.crash_images image ⊎ RepresentsEither t p image)
      (λ image either. ⊎_elim (λ left. inl left) (λ represents. inr (inl represents)) either) keeps.crash;
  reads = inl keeps.represents;
  no_memory = λ e. record {
    reads = keeps.represents;
    stands = inr (refused.unwritten o (memory_only fault e));
    crash = keeps.crash;
  };
  counts = record {
    done = λ e. absurd (not_done fault e);
    no_memory = λ e. inr (refused.unwritten o (memory_only fault e)).synced;
    limit = record {
      write_limit = omega (arith, keeps.limit.write_limit);
      sync_limit = omega (arith, keeps.limit.sync_limit);
    };
  };
  quiet = λ two empty whole. quiet_unopened fault old new refused o whole;
  complete = λ whole. inr (memory_left fault old new t p refused keeps whole);
}

-- The call had no store.
pub upgrade_unopened : {D R W : Type 0} (disk_of : D → DiskState) (given : R × W) (disk : D) (fault : AttachFault)
    (disk_new : D) → IsRefused (disk_of disk) fault (disk_of disk_new)
    → IsUnopened disk_of words.Upgrade KeepsUpgrade (UpgradesAt disk_of) given disk fault disk_new
upgrade_unopened disk_of given disk fault disk_new refused = record {
  fails = refl;
  refuses = refl;
  keeps = record { done = none_done fault; source = refl; sink = refl };
  does = λ o t p represents keeps. tree_unopened fault (disk_of disk) (disk_of disk_new) t p o refused keeps;
}

-- ---- a store was upgraded

-- how an upgrade ends that answers so
ends_so : (result : Result (Unit {0}) ApplyFault) → IsEndOf words.Upgrade (status_of apply_status result)
ends_so (Ok value) = refl
ends_so (Err apply.NoMemory) = refl
ends_so (Err fault) = refl

when_done : {P : Type 0} (result : Result (Unit {0}) ApplyFault)
    → status_of apply_status result ≡ statuses.Done → OnOk result P → P
when_done (Ok value) e holds = holds
when_done (Err apply.NoMemory) e holds = absurd (cc)
when_done (Err fault) e holds = absurd (cc)

when_no_memory : (result : Result (Unit {0}) ApplyFault) → status_of apply_status result ≡ statuses.NoMemory
    → IsErrOf result apply.NoMemory
when_no_memory (Err apply.NoMemory) e = refl
when_no_memory (Err fault) e = absurd (cc)
when_no_memory (Ok value) e = absurd (cc)

done_or_lacks : (result : Result (Unit {0}) ApplyFault) (old new : ℕ) → (result ≡ Err apply.Stopped → ⊥)
    → new ≡ apply_faults_after old result → (Rose old new → ⊥)
    → (status_of apply_status result ≡ statuses.Done) ⊎ (status_of apply_status result ≡ statuses.NoMemory)
done_or_lacks (Ok value) old new ran count whole = inl refl
done_or_lacks (Err apply.Disk) old new ran count whole = absurd (whole (rose old new count))
done_or_lacks (Err apply.NoMemory) old new ran count whole = inr refl
done_or_lacks (Err apply.Stopped) old new ran count whole = absurd (ran refl)

outside_by : (result : Result (Unit {0}) ApplyFault) (old new : DiskState) (source : SourceState) (sink : SinkState)
    → (result ≡ Err apply.Stopped → ⊥) → KeepsDisk old new → new.faults ≡ apply_faults_after old.faults result
    → KeepsOutside (status_of apply_status result) old new source source sink sink
outside_by (Err apply.Stopped) old new source sink ran kept count = absurd (ran refl)
outside_by (Err fault) old new source sink ran kept count = kept_around old new source sink kept count refl refl
outside_by (Ok value) old new source sink ran kept count = kept_around old new source sink kept count refl refl

-- What an upgrade of a store does, of whichever version its image is.
record UpgradesStanding (t : Tree) (p : Parameters) (mid new : DiskState)
    (result : Result (Unit {0}) ApplyFault) : Type 0 where
  pub stands : OnOk result (Stands new t (with_version p Two))
  pub crash : LeavesOnly mid new (RepresentsEither t p)
  pub reads : RepresentsEither t p new.bytes
  pub no_memory : IsErrOf result apply.NoMemory → ReadsOnly mid new
  pub made : OnOk result (Made (writes_behind p.version (slots_upgraded p t)) (syncs_behind p.version) mid new)
  pub limit : MadeAtMost (writes_behind p.version (slots_upgraded p t)) (syncs_behind p.version) mid new
  pub idle : p.version ≡ Two → IsUnwritten mid new

versions_differ : One ≡ Two → ⊥
versions_differ e = cc

-- an image of version 1
standing_one : (t : Tree) (p : Parameters) (mid new : DiskState) (is_stopped : Bool)
    (result : Result (Unit {0}) ApplyFault) → p.version ≡ One → UpgradesImage t p mid new is_stopped result
    → UpgradesStanding t p mid new result
standing_one t p mid new is_stopped result one image = record {
  stands = image.stands;
  crash = image.crash;
  reads = image.reads;
  no_memory = image.no_memory;
  made = subst (λ (v : Version). OnOk result (Made (writes_behind v (slots_upgraded p t)) (syncs_behind v) mid new))
      (sym one) image.counts.made;
  limit = subst (λ (v : Version). MadeAtMost (writes_behind v (slots_upgraded p t)) (syncs_behind v) mid new)
      (sym one) image.counts.limit;
  idle = λ two. absurd (versions_differ (sym one ∙ two));
}

-- one of version 2, of which nothing is called
standing_two : (t : Tree) (p : Parameters) (disk : DiskState) → IsSound disk → IsFitting t p → Stands disk t p
    → p.version ≡ Two → UpgradesStanding t p disk disk (Ok tt)
standing_two t p disk sound fitting stands two =
    let same : with_version p Two ≡ p = ap (with_version p) (sym two) in
    record {
      stands = subst (Stands disk t) (sym same) stands;
      crash = LeavesOnly-refl disk (RepresentsEither t p) sound
          (λ image left. inl (standing_represents t p image fitting (stands.durable image left ∙ stands.layout_is)));
      reads = inl (standing_represents t p disk.bytes fitting stands.layout_is);
      no_memory = λ e. absurd (cc);
      made = subst (λ (v : Version). Made (writes_behind v (slots_upgraded p t)) (syncs_behind v) disk disk)
          (sym two) (made_none disk);
      limit = subst (λ (v : Version). MadeAtMost (writes_behind v (slots_upgraded p t)) (syncs_behind v) disk disk)
          (sym two) (at_most disk disk 0 0 0 0 (made_none disk) (omega arith) (omega arith));
      idle = λ e. record { bytes = refl; writes = refl };
    }

-- the image that was opened, and for whose upgrade memory ran out
version_kept : (t : Tree) (p : Parameters) (old mid new : DiskState) → IsFitting t p → IsOpened t p old mid
    → ReadsOnly mid new → KeepsVersion t p old new
version_kept t p old mid new fitting opened reads =
    let one = λ (image : List ℕ). old.crash_images image ⊎ Represents image t p in
    let stands = stands_reading mid new t p reads opened.stands in
    record {
      reads = standing_represents t p new.bytes fitting stands.layout_is;
      stands = inl stands;
      crash = LeavesOnly-trans old mid new one opened.crash
          (LeavesOnly-weaken mid new mid.crash_images one
          (λ image left. inr (standing_represents t p image fitting
          (opened.stands.durable image left ∙ opened.stands.layout_is))) reads.leaves);
    }

-- what stands behind the opening of the image and the upgrade
tree_upgraded : (t : Tree) (p : Parameters) (old mid new : DiskState) (result : Result (Unit {0}) ApplyFault)
    → IsFitting t p → IsOpened t p old mid → UpgradesStanding t p mid new result
    → (result ≡ Err apply.Stopped → ⊥) → new.faults ≡ apply_faults_after old.faults result
    → UpgradesTree t p (status_of apply_status result) old new
tree_upgraded t p old mid new result fitting opened upgraded ran count =
    let either = λ (image : List ℕ). old.crash_images image ⊎ RepresentsEither t p image in
    let writes = writes_behind p.version (slots_upgraded p t) in
    let syncs = syncs_behind p.version in
    record {
      upgraded = λ e. when_done result e upgraded.stands;
      crash = LeavesOnly-trans old mid new either
          (LeavesOnly-weaken old mid (λ image. old.crash_images image ⊎ Represents image t p) either
          (λ image one. ⊎_elim (λ left. inl left) (λ represents. inr (inl represents)) one) opened.crash)
          (LeavesOnly-weaken mid new (RepresentsEither t p) either (λ image represents. inr represents) upgraded.crash);
      reads = upgraded.reads;
      no_memory = λ e. version_kept t p old mid new fitting opened (upgraded.no_memory (when_no_memory result e));
      counts = record {
        done = λ e. made_then old mid new (opening_writes p.slots old.bytes)
            (opening_syncs p.slots old.bytes) writes syncs opened.counts (when_done result e upgraded.made);
        no_memory = λ e. inl (made_as old new (opening_writes p.slots old.bytes + 0) (opening_writes p.slots old.bytes)
            (opening_syncs p.slots old.bytes + 0) (opening_syncs p.slots old.bytes) (omega arith) (omega arith)
            (made_then old mid new (opening_writes p.slots old.bytes)
            (opening_syncs p.slots old.bytes) 0 0
            opened.counts (made_reading mid new (upgraded.no_memory (when_no_memory result e)))));
        limit = at_most_then old mid new (opening_writes p.slots old.bytes)
            (opening_syncs p.slots old.bytes) writes syncs opened.counts upgraded.limit;
      };
      quiet = λ two empty whole.
          let opening = opened.unwritten empty in
          let behind = upgraded.idle two in
          record { bytes = behind.bytes ∙ opening.bytes; writes = behind.writes ∙ opening.writes };
      complete = done_or_lacks result old.faults new.faults ran count;
    }

module _ {D : Type 0} (disk_of : D → DiskState) (sound : (disk : D) → disks.IsObservable (disk_of disk)
    → IsSound (disk_of disk)) (store store_new : StoreState D) (result : Result (Unit {0}) ApplyFault)
    (ready : IsReady disk_of store) (upgrades : Upgrades disk_of store store_new result) where
  -- the store was not stopped
  ran : result ≡ Err apply.Stopped → ⊥
  ran e = false≢true (sym ready.runs ∙ upgrades.stopped.0 e)

  standing : disks.IsObservable (disk_of store.disk)
      → UpgradesStanding store.tree store.params (disk_of store.disk) (disk_of store_new.disk) result
  standing o = by store.params.version refl
    where
      by : (version : Version) → store.params.version ≡ version
          → UpgradesStanding store.tree store.params (disk_of store.disk) (disk_of store_new.disk) result
      by One one = standing_one store.tree store.params (disk_of store.disk)
          (disk_of store_new.disk) store_new.is_stopped result one (upgrades.observed o ready.runs one)
      by Two two =
          let idle = upgrades.idle ready.runs two in
          let there = standing_two store.tree store.params (disk_of store.disk)
          (sound store.disk o) ready.fitting (ready.stands o) two in
          subst (λ (r : Result (Unit {0}) ApplyFault). UpgradesStanding store.tree store.params (disk_of store.disk)
          (disk_of store_new.disk) r) (sym idle.0)
          (subst (λ (s : StoreState D). UpgradesStanding store.tree store.params (disk_of store.disk) (disk_of s.disk)
          (Ok tt)) (sym idle.1) there)

  -- A store was upgraded.
  pub upgrade_works : {R W : Type 0} (source_of : R → SourceState) (sink_of : W → SinkState) (given : R × W)
      → WorksOnStore disk_of source_of sink_of words.Upgrade KeepsUpgrade (UpgradesAt disk_of) given store (record {
        status = status_of apply_status result;
        done = done_of_work (status_of apply_status result);
        disk = store_new.disk;
        source = given.0;
        sink = given.1;
      })
  upgrade_works source_of sink_of given = record {
    ends = ends_so result;
    outside = outside_by result (disk_of store.disk) (disk_of store_new.disk) (source_of given.0) (sink_of given.1)
        ran upgrades.kept upgrades.faults;
    keeps = λ disk. record { done = refl; source = refl; sink = refl };
    does = λ disk attached o.
        tree_upgraded store.tree store.params (disk_of disk) (disk_of store.disk) (disk_of store_new.disk) result
        ready.fitting (attached.observed o) (standing (attached.kept.observable ∙ o)) ran
        (upgrades.faults ∙ ap (λ (n : ℕ). apply_faults_after n result) attached.faults);
  }
