-- Steps of an upgrade, over staged pages that are those of a tree.
use Rattle.std.proofs.Common.{◌≡◌, ◌⊎◌, ◌≤◌, ℕ, Bool, false, List, length, Result, Ok, Err, OnOk, OnErr, refl, sym, ap}
use Rattle.std.proofs.Common.{subst, ◌∙◌, inl, inr, ⊎_elim, arith}
use Rattle.std.proofs.lemmas.Bool.{false≢true}
use Rattle.std.specs.FinMap as maps
use Rattle.store_base.specs.Counts.{Rose}
use Rattle.store_base.specs.declared.store_fault.Fault.{Fault}
use Rattle.store_base.specs.declared.store_fault.Fault.TheVariants as faults
use Rattle.store_base.specs.Faults.{disk_faults_after}
use Rattle.store_model.specs.declared.version.Version.TheVariants.{Two}
use Rattle.store_model.specs.Parameters.{Parameters, with_version, image_len}
use Rattle.store_model.specs.Trees.{Tree}
use Rattle.store_model.specs.Draws.{Draw, draw_of}
use Rattle.store_model.specs.Pairs.{pairs}
use Rattle.store_model.specs.Pages.{pages, page_count}
use Rattle.store_model.specs.PageMaps.{PageMap, map_of_pages}
use Rattle.store_model.specs.Images.{Represents}
use Rattle.store_model.proofs.TreesLemmasUpgrade.{draw_of-with_version}
use Rattle.disk_model.specs.DiskState.{DiskState, IsObservable, IsSound}
use Rattle.disk_model.specs.DiskCalls.{LeavesOnly}
use Rattle.disk_model.proofs.Crashes.{LeavesOnly-trans, LeavesOnly-weaken}
use Rattle.gate_journal.specs.Disks.{KeepsDisk}
use Rattle.gate_journal.specs.Places.{ReadsOnly}
use Rattle.gate_journal.proofs.Reading.{ReadsOnly-trans}
use Rattle.seeded_draw.specs.declared.any.AnyDraw.{AnyDraw}
use Rattle.seeded_draw.specs.AnyDrawn.{any_draw}
use Rattle.skip_levels.specs.Descent.{HoldsPairs}
use Rattle.page_store.specs.declared.commit_kind.CommitKind.TheVariants.{Upgrade}
use Rattle.page_store.specs.CommitKinds.{params_after, CountsUpgrade}
use Rattle.page_store.specs.declared.fault.SettleFault.{SettleFault}
use Rattle.page_store.specs.declared.fault.SettleFault.TheVariants as causes
use Rattle.page_store.specs.PageImages as images
use Rattle.page_store.specs.Settling.{SettlesDiskBy, SettlesUpgrade}
use Rattle.page_store.specs.StagedState.{StagedState, Follows, without_changes}
use Rattle.page_store.proofs.TreeLayouts.{represents_tree}
use Rattle.image_check.specs.declared.fault.ApplyFault.{ApplyFault}
use Rattle.image_check.specs.declared.fault.ApplyFault.TheVariants as apply
use Rattle.image_check.specs.Faults.{apply_fault_of, apply_faults_after}
use Rattle.image_check.specs.Standing.{IsFitting, Stands}
use Rattle.staged_tree.specs.TableChanges.{slots_upgraded}
use Rattle.staged_tree.specs.StagedTree.{AreAt, IsUpgradeStaged}
use Rattle.staged_tree.specs.Steps.{UpgradesPages, EndsUpgrade}
use Rattle.staged_tree.specs.ImageChanges.{UpgradesImage}
use Rattle.staged_tree.proofs.CostLemmas.{made_reading}
use Rattle.staged_tree.proofs.DiskLemmas.{keeps_then}
use Rattle.staged_tree.proofs.StagedSteps.{kept_view, ended, ended_faults, ended_never}
use Rattle.staged_tree.proofs.TreePages.{fitting_upgraded, held_map, held_count, stands_tree, slots_as_upgraded}
use Rattle.staged_tree.proofs.Unchanged.{standing_represents}

-- ---- reads

-- the writes and syncs of an upgrade behind reads
counts_behind : {T : Type 0} (slots : ℕ) (old mid new : DiskState) (result : Result T ApplyFault) → ReadsOnly old mid
    → CountsUpgrade slots mid new result → CountsUpgrade slots old new result
counts_behind slots old mid new (Ok value) reads counts = record {
  made = record {
    write_count = omega (arith, counts.made.write_count, reads.write_count);
    sync_count = omega (arith, counts.made.sync_count, reads.sync_count);
  };
  limit = record {
    write_limit = omega (arith, counts.limit.write_limit, reads.write_count);
    sync_limit = omega (arith, counts.limit.sync_limit, reads.sync_count);
  };
}
counts_behind slots old mid new (Err fault) reads counts = record {
  made = tt;
  limit = record {
    write_limit = omega (arith, counts.limit.write_limit, reads.write_count);
    sync_limit = omega (arith, counts.limit.sync_limit, reads.sync_count);
  };
}

module _ (t : Tree) (p : Parameters) (fit : IsFitting t p) where
  -- what a crash leaves of a disk that stands at a tree and is read represents it
  crash_reading : (old new : DiskState) → Stands old t p → ReadsOnly old new
      → LeavesOnly old new (λ image. Represents image t p ⊎ Represents image t (with_version p Two))
  crash_reading old new stands reads =
      LeavesOnly-weaken old new old.crash_images (λ image. Represents image t p
      ⊎ Represents image t (with_version p Two))
      (λ image left. inl (standing_represents t p image fit (stands.durable image left ∙ stands.layout_is)))
      reads.leaves

  -- an upgrade that failed, for which the disk was read at most
  reads_upgrade : {T : Type 0} (old new : DiskState) (fault : ApplyFault) → Stands old t p → ReadsOnly old new
      → UpgradesImage {T = T} t p old new false (Err fault)
  reads_upgrade old new fault stands reads =
      let made = made_reading old new reads in
      record {
        stands = tt;
        crash = crash_reading old new stands reads;
        reads = inl (standing_represents t p new.bytes fit (reads.bytes ∙ stands.layout_is));
        no_memory = λ e. reads;
        counts = record {
          made = tt;
          limit = record {
            write_limit = omega (arith, made.write_count);
            sync_limit = omega (arith, made.sync_count);
          };
        };
        stops = λ e. absurd (false≢true e);
        goes_on = λ e f. reads;
      }

  -- an upgrade before which the disk was read
  upgrade_behind : {T : Type 0} (old mid new : DiskState) (is_stopped : Bool) (result : Result T ApplyFault)
      → Stands old t p → ReadsOnly old mid → UpgradesImage t p mid new is_stopped result
      → UpgradesImage t p old new is_stopped result
  upgrade_behind old mid new is_stopped result stands first then = record {
    stands = then.stands;
    crash = LeavesOnly-trans old mid new (λ image. Represents image t p ⊎ Represents image t (with_version p Two))
        (crash_reading old mid stands first) then.crash;
    reads = then.reads;
    no_memory = λ e. ReadsOnly-trans old mid new first (then.no_memory e);
    counts = counts_behind (slots_upgraded p t) old mid new result first then.counts;
    stops = λ e.
        let stops = then.stops e in (
          stops.0,
          ⊎_elim (λ w. inl (subst (λ (n : ℕ). Rose n new.writes) first.write_count w))
              (λ s. inr (subst (λ (n : ℕ). Rose n new.syncs) first.sync_count s)) stops.1,
        );
    goes_on = λ e f. ReadsOnly-trans old mid new first (then.goes_on e f);
  }

-- an upgrade behind calls that read alone
pub upgrade_then : {D : Type 0} (state : D → DiskState) (t : Tree) (p : Parameters)
    (old mid new : StagedState D AnyDraw) (result : Result (Unit {0}) ApplyFault) → IsFitting t p → AreAt state t p old
    → old.is_spent ≡ false → Follows state old mid
    → (state mid.disk).faults ≡ (state old.disk).faults → EndsUpgrade state t p mid new result
    → EndsUpgrade state t p old new result
upgrade_then state t p old mid new result fit at runs follows faults ends = record {
  params = ends.params ∙ ap (λ (q : Parameters). params_after Upgrade q result) follows.disk.params;
  draw = ends.draw ∙ follows.draw;
  kept = keeps_then (state old.disk) (state mid.disk) (state new.disk) (kept_view state old mid follows) ends.kept;
  faults = ends.faults ∙ ap (λ (n : ℕ). apply_faults_after n result) faults;
  never = ends.never;
  runs = ends.runs;
  observed = λ observable.
      let held = at.held observable runs in
      let step = ends.observed (follows.disk.observable ∙ observable) in
      record {
        image = upgrade_behind t p fit (state old.disk) (state mid.disk)
            (state new.disk) new.is_spent result held.stands (follows.disk.reads observable) step.image;
        goes = step.goes;
        stays = λ still. subst (λ (m : PageMap). OnErr result (new.table ≡ m))
            (follows.table observable) (step.stays still);
      };
  none_staged = ends.none_staged;
}

-- an upgrade whose pages could not be staged, once they are taken back
module _ {D : Type 0} (state : D → DiskState) (t : Tree) (p : Parameters) (old mid : StagedState D AnyDraw)
    (fit : IsFitting t p) (at : AreAt state t p old) (runs : old.is_spent ≡ false)
    (follows : Follows state old mid) where
  failed_by : (fault : ApplyFault) → (state mid.disk).faults
      ≡ apply_faults_after {T = Unit {0}} (state old.disk).faults (Err fault) → (fault ≡ apply.Stopped → ⊥)
      → EndsUpgrade state t p old (without_changes mid) (Err fault)
  failed_by fault faults never = record {
    params = follows.disk.params;
    draw = follows.draw;
    kept = kept_view state old mid follows;
    faults = faults;
    never = λ e. never (same_Err e);
    runs = λ other. follows.runs ∙ runs;
    observed = λ observable. record {
      image = subst (λ (b : Bool). UpgradesImage {T = Unit {0}} t p (state old.disk) (state mid.disk) b (Err fault))
          (sym (follows.runs ∙ runs))
          (reads_upgrade t p fit (state old.disk) (state mid.disk) fault
          (at.held observable runs).stands (follows.disk.reads observable));
      goes = tt;
      stays = λ still. follows.table observable;
    };
    none_staged = λ observable still. refl;
  }
    where
      same_Err : ◌≡◌ {A = Result (Unit {0}) ApplyFault} (Err fault) (Err apply.Stopped) → fault ≡ apply.Stopped
      same_Err e = cc

  pub upgrade_failed : (fault : Fault) → (state mid.disk).faults
      ≡ disk_faults_after {T = Unit {0}} (state old.disk).faults (Err fault)
      → EndsUpgrade state t p old (without_changes mid) (Err (apply_fault_of fault))
  upgrade_failed faults.Disk is = failed_by apply.Disk is (λ e. cc)
  upgrade_failed faults.NoMemory is = failed_by apply.NoMemory is (λ e. cc)

-- ---- a settle

-- pages of a tree under version 2, settled over a disk that stands at it under version 1
module _ {D : Type 0} (state : D → DiskState) (t : Tree) (p : Parameters) (old new : StagedState D AnyDraw)
    (staged : IsUpgradeStaged state t p old) (runs : old.is_spent ≡ false) (observable : IsObservable (state old.disk))
    (sound : IsSound (state new.disk)) where
  to : IsFitting t (with_version p Two)
  to = fitting_upgraded t p staged.fitting

  drawn : draw_of p ≡ draw_of (with_version p Two)
  drawn = sym (draw_of-with_version p Two)

  holds : HoldsPairs (draw_of (with_version p Two)) (pairs t (with_version p Two)) old.map
  holds = subst (λ (d : Draw). HoldsPairs d (pairs t (with_version p Two)) old.map) drawn (staged.holds observable)

  map_is : old.map ≡ map_of_pages (pages t (with_version p Two))
  map_is = held_map t (with_version p Two) old.map holds

  count_is : maps.len old.map ≡ page_count t (with_version p Two)
  count_is = held_count t (with_version p Two) old.map holds

  slots_are : (any_draw old.draw).slots ≡ p.slots
  unfolding draw_of
  slots_are = ap (λ (d : Draw). d.slots) staged.draw

  -- by the tree
  by_tree : (r : Result (Unit {0}) SettleFault)
      → SettlesDiskBy Upgrade (any_draw old.draw) old.params old.table old.map (state old.disk)
      (state new.disk) new.is_spent r
      → SettlesDiskBy Upgrade (draw_of p) p (map_of_pages (pages t p)) (map_of_pages (pages t (with_version p Two)))
      (state old.disk) (state new.disk) new.is_spent r
  by_tree r settles =
      subst (λ (d : Draw). SettlesDiskBy Upgrade d p (map_of_pages (pages t p))
      (map_of_pages (pages t (with_version p Two))) (state old.disk) (state new.disk) new.is_spent r) staged.draw
      (subst (λ (q : Parameters). SettlesDiskBy Upgrade (any_draw old.draw) q (map_of_pages (pages t p))
      (map_of_pages (pages t (with_version p Two))) (state old.disk) (state new.disk) new.is_spent r) staged.params
      (subst (λ (m : PageMap). SettlesDiskBy Upgrade (any_draw old.draw) old.params m
      (map_of_pages (pages t (with_version p Two))) (state old.disk) (state new.disk) new.is_spent r)
      (staged.table_is observable)
      (subst (λ (m : PageMap). SettlesDiskBy Upgrade (any_draw old.draw) old.params old.table m (state old.disk)
      (state new.disk) new.is_spent r) map_is settles)))

  either : (image : List ℕ) → images.RepresentsPages (draw_of p) p (map_of_pages (pages t p)) image
      ⊎ images.RepresentsPages (draw_of p) (with_version p Two) (map_of_pages (pages t (with_version p Two))) image
      → Represents image t p ⊎ Represents image t (with_version p Two)
  either image is =
      ⊎_elim (λ one.
      inl (represents_tree t p staged.fitting.in_range staged.fitting.tree staged.fitting.fits image one))
      (λ two. inr (represents_tree t (with_version p Two) to.in_range to.tree to.fits image
      (subst (λ (d : Draw). images.RepresentsPages d (with_version p Two)
      (map_of_pages (pages t (with_version p Two))) image) drawn two))) is

  -- what the settle does to the disk
  module _ (kept : KeepsDisk (state old.disk) (state new.disk)) (r : Result (Unit {0}) SettleFault)
      (disk : SettlesDiskBy Upgrade (draw_of p) p (map_of_pages (pages t p))
      (map_of_pages (pages t (with_version p Two))) (state old.disk) (state new.disk) new.is_spent r) where
    long : length (state new.disk).bytes ≡ image_len p.slots
    long = sound.size ∙ kept.size ∙ staged.size_is

    counts : CountsUpgrade (slots_upgraded p t) (state old.disk) (state new.disk) r
    counts = subst (λ (n : ℕ). CountsUpgrade n (state old.disk) (state new.disk) r)
        (slots_as_upgraded t p staged.fitting) disk.counts

    image : (result : Result (Unit {0}) ApplyFault)
        → OnOk result (images.SlotStandsAt (draw_of p) (with_version p Two)
        (map_of_pages (pages t (with_version p Two))) (state new.disk))
        → (result ≡ Err apply.Disk → r ≡ Err causes.Disk) → (r ≡ Err causes.Disk → result ≡ Err apply.Disk)
        → (result ≡ Err apply.NoMemory → r ≡ Err causes.NoMemory)
        → CountsUpgrade (slots_upgraded p t) (state old.disk) (state new.disk) result
        → UpgradesImage t p (state old.disk) (state new.disk) new.is_spent result
    image result stands from_disk to_disk from_memory count = record {
      stands = stood result stands;
      crash =
          LeavesOnly-weaken (state old.disk) (state new.disk)
          (λ image. images.RepresentsPages (draw_of p) p (map_of_pages (pages t p)) image
          ⊎ images.RepresentsPages (draw_of p) (with_version p Two)
          (map_of_pages (pages t (with_version p Two))) image)
          (λ image. Represents image t p ⊎ Represents image t (with_version p Two)) either disk.crash;
      reads = either (state new.disk).bytes disk.reads;
      no_memory = λ e. disk.no_memory (from_memory e);
      counts = count;
      stops = λ e. let spends = disk.spends e in (to_disk spends.0, spends.1);
      goes_on = λ e f. disk.goes_on e (from_disk f);
    }
      where
        stood : (s : Result (Unit {0}) ApplyFault)
            → OnOk s (images.SlotStandsAt (draw_of p) (with_version p Two) (map_of_pages (pages t (with_version p Two)))
            (state new.disk)) → OnOk s (Stands (state new.disk) t (with_version p Two))
        stood (Ok value) at =
            stands_tree t (with_version p Two) (state new.disk) to long
            (subst (λ (d : Draw). images.SlotStandsAt d (with_version p Two)
            (map_of_pages (pages t (with_version p Two))) (state new.disk)) drawn at)
        stood (Err fault) at = tt

  -- the upgrade that a settle ends
  stepped : (r : Result (Unit {0}) SettleFault) → SettlesUpgrade state any_draw old new r
      → UpgradesPages state t p old new (ended {A = Unit {0}} tt r)
  stepped (Ok value) settles =
      let seen = by_tree (Ok value) (settles.observed observable) in
      let count = counts settles.kept (Ok value) seen in
      record {
        image = image settles.kept (Ok value) seen (Ok value) seen.stands (λ e. absurd (cc)) (λ e. absurd (cc))
            (λ e. absurd (cc)) (record { made = count.made; limit = count.limit });
        goes = settles.table observable ∙ map_is;
        stays = λ still. tt;
      }
  stepped (Err causes.Disk) settles =
      let seen = by_tree (Err causes.Disk) (settles.observed observable) in
      let count = counts settles.kept (Err causes.Disk) seen in
      record {
        image = image settles.kept (Err causes.Disk) seen (Err apply.Disk) tt (λ e. refl) (λ e. refl) (λ e. absurd (cc))
            (record { made = tt; limit = count.limit });
        goes = tt;
        stays = λ still. settles.table_stays observable still;
      }
  stepped (Err causes.NoMemory) settles =
      let seen = by_tree (Err causes.NoMemory) (settles.observed observable) in
      let count = counts settles.kept (Err causes.NoMemory) seen in
      record {
        image = image settles.kept (Err causes.NoMemory) seen (Err apply.NoMemory) tt (λ e. absurd (cc))
            (λ e. absurd (cc)) (λ e. refl) (record { made = tt; limit = count.limit });
        goes = tt;
        stays = λ still. settles.table_stays observable still;
      }
  stepped (Err (causes.Full need slots)) settles =
      let full = (settles.observed observable).full in
      let fits : page_count t (with_version p Two) ≤ p.slots = to.fits.room in
      absurd (omega (arith, full.more, full.need_is ∙ count_is, full.slots_are ∙ slots_are, fits))

-- what it makes of the parameters
ended_params : (p q : Parameters) (r : Result (Unit {0}) SettleFault) → q ≡ params_after Upgrade p r
    → q ≡ params_after Upgrade p (ended {A = Unit {0}} tt r)
ended_params p q (Ok value) is = is
ended_params p q (Err fault) is = is

-- an upgrade that is settled, behind which all is taken back that is staged
pub upgraded : {D : Type 0} (state : D → DiskState) (t : Tree) (p : Parameters) (old new : StagedState D AnyDraw)
    (r : Result (Unit {0}) SettleFault) → ((x : D) → IsObservable (state x) → IsSound (state x))
    → IsUpgradeStaged state t p old → old.is_spent ≡ false
    → SettlesUpgrade state any_draw old new r
    → EndsUpgrade state t p old (without_changes new) (ended {A = Unit {0}} tt r)
upgraded state t p old new r sound staged runs settles = record {
  params = ended_params old.params new.params r settles.params;
  draw = settles.draw;
  kept = settles.kept;
  faults = ended_faults {A = Unit {0}} tt (state old.disk).faults (state new.disk).faults r settles.faults;
  never = ended_never {A = Unit {0}} tt r;
  runs = λ other. settles.runs (λ e. other (ap (ended {A = Unit {0}} tt) e));
  observed = λ observable.
      let step = stepped state t p old new staged runs observable
      (sound new.disk (settles.kept.observable ∙ observable)) r settles in
      record { image = step.image; goes = step.goes; stays = step.stays };
  none_staged = λ observable still. refl;
}
