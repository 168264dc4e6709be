-- How a call ends that opens an image for a work: with no store, or with what the work did.
use Rattle.std.proofs.Common.{◌≡◌, ℕ, not, refl, sym, ap, ◌∙◌, subst}
use Rattle.std.proofs.lemmas.Bool.{false≢true}
use Rattle.store_model.specs.Parameters.{Parameters}
use Rattle.store_model.specs.Trees.{Tree}
use Rattle.store_model.proofs.ListsLemmas.{first_true, second_true}
use Rattle.store_model.proofs.TreesLemmasLayouts.{images_tell}
use Rattle.store_base.specs.Counts.{Rose}
use Rattle.disk_model.specs.DiskState.{DiskState}
use Rattle.script_lines.specs.SourceState.{SourceState}
use Rattle.script_lines.specs.SinkState.{SinkState}
use Rattle.image_check.specs.declared.fault.AttachFault.{AttachFault}
use Rattle.image_check.specs.declared.fault.AttachFault.TheVariants as faults
use Rattle.image_check.specs.Faults.{attach_faults_by}
use Rattle.store_core.specs.StoreCalls.{IsAttached, IsRefused}
use Rattle.store_core.specs.StoreState.{StoreState}
use Rattle.staged_tree.proofs.DiskLemmas.{keeps_then}
use Rattle.image_subcommands.specs.declared.outcome.Outcome.{Outcome}
use Rattle.image_subcommands.specs.declared.status.Status.{Status}
use Rattle.image_subcommands.specs.declared.status.Status.TheVariants as statuses
use Rattle.image_subcommands.specs.Endings.{attach_status}
use Rattle.image_subcommands.specs.Outside.{Outside, KeepsOutside, IsIdle}
use Rattle.image_subcommands.specs.Statuses.{Subcommand, IsRefusedImage, disk_faults_by, source_faults_by}
use Rattle.image_subcommands.specs.Statuses.{sink_faults_by}
use Rattle.image_subcommands.proofs.ReportLemmas.{rose}
use Rattle.image_work.specs.Works.{around, idle_with, Works, IsUnopened, WorksOnStore}
use Rattle.image_work.proofs.OpeningEnds.{no_image_by, damaged_by, says_no_image, says_damaged, named_by, opens_so}
use Rattle.image_work.proofs.OpeningEnds.{never_behind}

-- ---- no store was had

-- the counts of failed calls
record CountsRefused (fault : AttachFault) : Type 0 where
  pub disk : (count : ℕ) → attach_faults_by fault count ≡ disk_faults_by (attach_status fault) count
  pub source : (count : ℕ) → count ≡ source_faults_by (attach_status fault) count
  pub sink : (count : ℕ) → count ≡ sink_faults_by (attach_status fault) count

counts_refused : (fault : AttachFault) → CountsRefused fault
counts_refused faults.Disk = record { disk = λ n. refl; source = λ n. refl; sink = λ n. refl }
counts_refused faults.NoMemory = record { disk = λ n. refl; source = λ n. refl; sink = λ n. refl }
counts_refused faults.NotImage = record { disk = λ n. refl; source = λ n. refl; sink = λ n. refl }
counts_refused faults.Damaged = record { disk = λ n. refl; source = λ n. refl; sink = λ n. refl }

pub outside_unopened : (fault : AttachFault) (old new : DiskState) (source : SourceState) (sink : SinkState)
    → IsRefused old fault new → KeepsOutside (attach_status fault) old new source source sink sink
outside_unopened fault old new source sink refused =
    let counts = counts_refused fault in
    record {
      disk_kept = refused.kept;
      source_observable = refl;
      sink_observable = refl;
      disk_faults = refused.faults ∙ counts.disk old.faults;
      source_faults = counts.source source.faults;
      sink_faults = counts.sink sink.faults;
    }

module _ {D R W : Type 0} (disk_of : D → DiskState) (word : Subcommand) (Keeps : Outside D R W → Outcome D R W → Type 0)
    (Does : Tree → Parameters → Outside D R W → Outcome D R W → Type 0) (given : R × W) (disk : D) where
  -- Nothing was done.
  pub works_unopened : (fault : AttachFault) (disk_new : D) → IsRefused (disk_of disk) fault (disk_of disk_new)
      → IsUnopened disk_of word Keeps Does given disk fault disk_new
      → Works disk_of word Keeps Does (around disk given) (idle_with (attach_status fault) disk_new given)
  works_unopened fault disk_new refused unopened =
      let old = disk_of disk in
      let new = disk_of disk_new in
      let idle : IsIdle (around disk given) (idle_with (attach_status fault) disk_new given) =
      record { done = refl; source = refl; sink = refl } in
      record {
        ends = opens_so word unopened.fails unopened.refuses fault;
        named = named_by fault old refused.damaged;
        refused = λ h. idle;
        keeps = unopened.keeps;
        observed = λ o. record {
          not_image = record {
            only = λ e. refused.not_image (no_image_by fault e);
            always = says_no_image fault old new refused o fault refl;
          };
          damaged = record {
            only = λ e. refused.damaged (damaged_by fault e);
            always = says_damaged fault old new refused o fault refl;
          };
          represented = λ behind. absurd (never_behind fault (attach_status fault) behind refl);
          nothing = λ none. (idle, refused.unrepresented o none);
          does = λ t p represents. unopened.does o t p represents (refused.represented o t p represents);
        };
      }

  -- ---- a store was had

  module _ (source_of : R → SourceState) (sink_of : W → SinkState) (store : StoreState D) (after : Outcome D R W)
      (attached : IsAttached disk_of (disk_of disk) store)
      (worked : WorksOnStore disk_of source_of sink_of word Keeps Does given store after) where
    -- What the call leaves of the disk, the source and the sink.
    pub outside_worked : KeepsOutside after.status (disk_of disk) (disk_of after.disk) (source_of given.0)
        (source_of after.source) (sink_of given.1) (sink_of after.sink)
    outside_worked = record {
      disk_kept = keeps_then (disk_of disk) (disk_of store.disk)
          (disk_of after.disk) attached.kept worked.outside.disk_kept;
      source_observable = worked.outside.source_observable;
      sink_observable = worked.outside.sink_observable;
      disk_faults = worked.outside.disk_faults ∙ ap (disk_faults_by after.status) attached.faults;
      source_faults = worked.outside.source_faults;
      sink_faults = worked.outside.sink_faults;
    }

    accepted : IsRefusedImage after.status → ⊥
    accepted refused = false≢true (sym (ap not refused) ∙ second_true _ _ worked.ends)

    -- The work was done.
    pub works_opened : Works disk_of word Keeps Does (around disk given) after
    works_opened = record {
      ends = first_true _ _ worked.ends;
      named = λ h. (store.params, attached.has_parameters);
      refused = λ h. absurd (accepted h);
      keeps = worked.keeps disk;
      observed = λ o.
          let represents = (attached.observed o).represents in
          record {
            not_image = record {
              only = λ e. absurd (accepted (subst IsRefusedImage (sym e) refl));
              always = λ none. absurd (none o store.params (attached.has_parameters.named o));
            };
            damaged = record {
              only = λ e. absurd (accepted (subst IsRefusedImage (sym e) refl));
              always = λ damaged. absurd (damaged.no_tree o store.tree store.params represents);
            };
            represented = λ behind. record { tree = store.tree; params = store.params; represents = represents };
            nothing = λ none. absurd (none store.tree store.params represents);
            does = λ t p there.
                let same = images_tell (disk_of disk).bytes store.tree t store.params p represents there in
                subst (λ (q : Parameters). Does t q (around disk given) after) same.1
                (subst (λ (u : Tree). Does u store.params (around disk given) after) same.0
                (worked.does disk attached o));
          };
    }

-- ---- where no call failed

-- a status that tells of a failed call does not come where none failed
module _ (status : Status) (old new : ℕ) (whole : Rose old new → ⊥) where
  pub no_disk_fault : new ≡ disk_faults_by status old → status ≡ statuses.DiskFault → ⊥
  no_disk_fault count e = whole (rose old new (subst (λ (s : Status). new ≡ disk_faults_by s old) e count))

  pub no_source_fault : new ≡ source_faults_by status old → status ≡ statuses.SourceFault → ⊥
  no_source_fault count e = whole (rose old new (subst (λ (s : Status). new ≡ source_faults_by s old) e count))

  pub no_sink_fault : new ≡ sink_faults_by status old → status ≡ statuses.SinkFault → ⊥
  no_sink_fault count e = whole (rose old new (subst (λ (s : Status). new ≡ sink_faults_by s old) e count))
