-- Commands that leave the disk as it was: it is read at most.
use Rattle.std.proofs.Common.{◌≡◌, ◌⊎◌, ℕ, List, Bool, false, Result, Ok, Err, OnOk, refl, sym, subst, ◌∙◌, inl, inr}
use Rattle.std.proofs.Common.{⊎_elim, arith}
use Rattle.std.proofs.lemmas.Bool.{false≢true}
use Rattle.store_base.specs.Counts.{Rose}
use Rattle.store_model.specs.Parameters.{Parameters}
use Rattle.store_model.specs.Trees.{Tree}
use Rattle.store_model.specs.Images.{layout, Represents}
use Rattle.store_model.proofs.ImagesLemmas.{Represents-layout}
use Rattle.disk_model.specs.DiskState.{DiskState}
use Rattle.disk_model.specs.DiskCalls.{LeavesOnly}
use Rattle.disk_model.proofs.Crashes.{LeavesOnly-trans, LeavesOnly-weaken}
use Rattle.gate_journal.specs.Disks.{KeepsDisk}
use Rattle.gate_journal.specs.Places.{ReadsOnly}
use Rattle.gate_journal.proofs.Reading.{ReadsOnly-trans}
use Rattle.image_check.specs.declared.fault.ApplyFault.{ApplyFault}
use Rattle.staged_tree.specs.TableChanges.{slots_between}
use Rattle.image_check.specs.Standing.{IsFitting, Stands}
use Rattle.staged_tree.specs.ImageChanges.{ChangesImage}
use Rattle.staged_tree.proofs.CostLemmas.{counts_reading, counts_behind, none_between}

-- a layout represents its tree
pub standing_represents : (t : Tree) (p : Parameters) (image : List ℕ) → IsFitting t p
    → image ≡ layout t p → Represents image t p
standing_represents t p image fit is =
    subst (λ (bytes : List ℕ). Represents bytes t p) (sym is) (Represents-layout t p fit.in_range fit.tree fit.fits)

-- what stands at a tree still does after reads
pub stands_reading : (old new : DiskState) (t : Tree) (p : Parameters) → ReadsOnly old new
    → Stands old t p → Stands new t p
stands_reading old new t p reads stands = record {
  layout_is = reads.bytes ∙ stands.layout_is;
  durable = λ image left. stands.durable image ((reads.crash image).0 left) ∙ sym reads.bytes;
}

module _ (t next : Tree) (p : Parameters) (fit : IsFitting t p) where
  -- what a crash leaves of a disk that stands at a tree and is read represents it
  crash_reading : (old new : DiskState) → Stands old t p → ReadsOnly old new
      → LeavesOnly old new (λ image. Represents image t p ⊎ Represents image next p)
  crash_reading old new stands reads =
      LeavesOnly-weaken old new old.crash_images (λ image. Represents image t p ⊎ Represents image next p)
      (λ image left. inl (standing_represents t p image fit (stands.durable image left ∙ stands.layout_is)))
      reads.leaves

  -- a command for which the disk was read at most
  pub reads_change : {T : Type 0} (old new : DiskState) (result : Result T ApplyFault) → Stands old t p
      → ReadsOnly old new → OnOk result (next ≡ t) → ChangesImage t next p old new false result
  reads_change {T} old new result stands reads same = record {
    stands = stood result same;
    crash = crash_reading old new stands reads;
    reads = inl (standing_represents t p new.bytes fit (reads.bytes ∙ stands.layout_is));
    still = λ e. reads;
    no_memory = λ e. reads;
    counts = counts_reading (slots_between p t next) old new result reads (none result same);
    stops = λ e. absurd (false≢true e);
    goes_on = λ e f. reads;
  }
    where
      stood : (r : Result T ApplyFault) → OnOk r (next ≡ t) → OnOk r (Stands new next p)
      stood (Ok value) e = subst (λ (u : Tree). Stands new u p) (sym e) (stands_reading old new t p reads stands)
      stood (Err fault) e = tt

      none : (r : Result T ApplyFault) → OnOk r (next ≡ t) → OnOk r (slots_between p t next ≡ 0)
      none (Ok value) e = none_between p t next e
      none (Err fault) e = tt

  -- a command before which the disk was read
  pub change_behind : {T : Type 0} (old mid new : DiskState) (is_stopped : Bool) (result : Result T ApplyFault)
      → Stands old t p → ReadsOnly old mid → ChangesImage t next p mid new is_stopped result
      → ChangesImage t next p old new is_stopped result
  change_behind old mid new is_stopped result stands first then = record {
    stands = then.stands;
    crash = LeavesOnly-trans old mid new (λ image. Represents image t p ⊎ Represents image next p)
        (crash_reading old mid stands first) then.crash;
    reads = then.reads;
    still = λ e. ReadsOnly-trans old mid new first (then.still e);
    no_memory = λ e. ReadsOnly-trans old mid new first (then.no_memory e);
    counts = counts_behind (slots_between p t next) old mid new result first then.counts;
    stops = λ e.
        let stops = then.stops e in (
          stops.0,
          ⊎_elim (λ w. inl (subst (λ (n : ℕ). Rose n new.writes) first.write_count w))
              (λ s. inr (subst (λ (n : ℕ). Rose n new.syncs) first.sync_count s)) stops.1,
        );
    goes_on = λ e f. ReadsOnly-trans old mid new first (then.goes_on e f);
  }

-- a disk of which nothing is asked
pub keeps_itself : (disk : DiskState) → KeepsDisk disk disk
keeps_itself disk = record {
  size = refl;
  observable = refl;
  faults = omega arith;
  writes = omega arith;
  syncs = omega arith;
}
