-- How `load` ends: what it tells by its status, and what stands of the disk, in each case.
use Rattle.std.proofs.Common.{◌≡◌, ◌⊎◌, ℕ, ◌+◌, ◌<◌, ◌≤◌, Bool, false, List, ◌++◌, length, Result, Ok}
use Rattle.std.proofs.Common.{OnOk, refl, sym, subst, ◌∙◌, arith, inl, inr, ⊎_elim}
use Rattle.std.specs.Prelude.{not, ◌&&◌}
use Rattle.std.proofs.lemmas.Bool.{false≢true}
use Rattle.store_model.specs.Parameters.{Parameters}
use Rattle.store_model.specs.Trees.{Tree, empty_tree}
use Rattle.store_model.specs.Pages.{page_count}
use Rattle.store_model.specs.Images.{Represents}
use Rattle.store_model.specs.Scripts.{script_limit}
use Rattle.store_base.specs.Counts.{Rose}
use Rattle.dump_streams.proofs.DumpFronts.{dumps_tell_trees}
use Rattle.dump_streams.proofs.StepLemmas.{one_dump}
use Rattle.disk_model.specs.DiskState.{DiskState}
use Rattle.disk_model.specs.DiskState as disks
use Rattle.disk_model.proofs.Crashes.{LeavesOnly-trans, LeavesOnly-weaken}
use Rattle.gate_journal.specs.Costs.{opening_writes, opening_syncs, commit_writes, commit_syncs, MadeAtMost}
use Rattle.gate_journal.specs.Places.{Made, ReadsOnly}
use Rattle.script_lines.specs.SourceState.{SourceState}
use Rattle.script_lines.specs.SinkState.{SinkState, AppendsPrefix}
use Rattle.script_lines.specs.SinkState as sinks
use Rattle.image_check.specs.declared.fault.ApplyFault.{ApplyFault}
use Rattle.image_check.specs.declared.fault.AttachFault.{AttachFault}
use Rattle.image_check.specs.declared.fault.AttachFault.TheVariants as faults
use Rattle.image_check.specs.Standing.{IsFitting, Stands}
use Rattle.staged_tree.specs.ImageChanges.{ChangesImage}
use Rattle.store_core.specs.StoreCalls.{IsRefused, KeepsImage, IsOpened, LeavesImage}
use Rattle.staged_tree.specs.TableChanges.{slots_between}
use Rattle.staged_tree.proofs.CostLemmas.{made_reading, made_then, at_most_then, at_most}
use Rattle.staged_tree.proofs.Unchanged.{standing_represents, stands_reading}
use Rattle.image_subcommands.specs.declared.outcome.Outcome.{Outcome}
use Rattle.image_subcommands.specs.declared.status.Status.{Status}
use Rattle.image_subcommands.specs.declared.status.Status.TheVariants as statuses
use Rattle.image_subcommands.specs.Endings.{attach_status}
use Rattle.image_subcommands.specs.Outside.{Outside}
use Rattle.image_subcommands.specs.Statuses.{Subcommand as words, Row, row, is_among, MayComeFirst, LoadsNothing}
use Rattle.image_subcommands.specs.Statuses.{IsDone, EndsBeforeListing, ComesExactly}
use Rattle.image_subcommands.proofs.EachStatus.{implied}
use Rattle.image_subcommands.proofs.StatusLemmas.{other_than}
use Rattle.listing_subcommands.specs.LoadCall.{EndsBeforeTree, Lists, CanBeLoaded, TellsLoad, full_text}
use Rattle.listing_subcommands.specs.LoadCall.{ListsNone, ListsTooMany, PrintsFull, LoadsTree, KeepsTree, LoadsFrom}
use Rattle.image_work.proofs.OpeningEnds.{quiet_unopened}

-- ---- a script is the listing of one tree

pub lists_one : (t u : Tree) (p : Parameters) (script : List ℕ) → Lists t p script → Lists u p script → t ≡ u
lists_one t u p script one other =
    dumps_tell_trees t u p one.under other.under (one_dump t u script one.listing other.listing)

-- it is none that is the listing of no tree
pub lists_some : (t : Tree) (p : Parameters) (script : List ℕ) → Lists t p script → ListsNone p script → ⊥
lists_some t p script lists none = none (record { tree = t; under = lists.under; listing = lists.listing })

-- nor of one that has more pages than there are slots, if this one has no more
pub lists_few : (t : Tree) (p : Parameters) (script : List ℕ) → Lists t p script → page_count t p ≤ p.slots
    → ListsTooMany p script → ⊥
lists_few t p script lists room many =
    omega (
      arith,
      room,
      subst (λ (v : Tree). p.slots < page_count v p)
          (lists_one many.tree t p script many.lists lists) many.more,
    )

-- ---- the disk, where nothing is loaded

module _ (u : Tree) (p : Parameters) (status : Status) (old new : DiskState) where
  -- the image was opened, and then read at most
  pub keeps_opened : (mid : DiskState) → IsFitting u p → IsOpened u p old mid → ReadsOnly mid new
      → KeepsTree u p status old new
  keeps_opened mid fitting opened reads =
      let one = λ (image : List ℕ). old.crash_images image ⊎ Represents image u p in
      let writes = opening_writes p.slots old.bytes in
      let syncs = opening_syncs p.slots old.bytes in
      record {
        stands = λ whole memory. stands_reading mid new u p reads opened.stands;
        crash = LeavesOnly-trans old mid new one opened.crash
            (LeavesOnly-weaken mid new mid.crash_images one
            (λ image left. inr (standing_represents u p image fitting
            (opened.stands.durable image left ∙ opened.stands.layout_is))) reads.leaves);
        reads = standing_represents u p new.bytes fitting (reads.bytes ∙ opened.stands.layout_is);
        limit = at_most old new (writes + 0) (syncs + 0) writes syncs
            (made_then old mid new writes syncs 0 0 opened.counts (made_reading mid new reads))
            (omega arith) (omega arith);
        quiet = λ empty whole. let opening = opened.unwritten empty in record {
          bytes = reads.bytes ∙ opening.bytes;
          writes = reads.write_count ∙ opening.writes;
        };
      }

  -- what a load into it does then, which is not done
  pub loads_none : (t : Tree) → (IsDone status → ⊥) → u ≡ empty_tree → KeepsTree u p status old new
      → LoadsTree t p status old new
  loads_none t not_done empty keeps = record {
    loaded = λ e. absurd (not_done e);
    room = λ e. absurd (not_done e);
    crash = LeavesOnly-weaken old new (λ image. old.crash_images image ⊎ Represents image u p)
        (λ image. old.crash_images image ⊎ (Represents image empty_tree p ⊎ Represents image t p))
        (λ image either. ⊎_elim (λ left. inl left)
        (λ represents. inr (inl (subst (λ (v : Tree). Represents image v p) empty represents))) either) keeps.crash;
    reads = inl (subst (λ (v : Tree). Represents new.bytes v p) empty keeps.reads);
    made = λ e. absurd (not_done e);
    limit = record {
      write_limit = omega (arith, keeps.limit.write_limit);
      sync_limit = omega (arith, keeps.limit.sync_limit);
    };
  }

-- no store was had
pub keeps_unopened : (u : Tree) (p : Parameters) (fault : AttachFault) (old new : DiskState) → disks.IsObservable old
    → IsRefused old fault new → KeepsImage u p old fault new → KeepsTree u p (attach_status fault) old new
keeps_unopened u p fault old new o refused keeps = record {
  stands = stood fault keeps;
  crash = keeps.crash;
  reads = keeps.represents;
  limit = keeps.limit;
  quiet = λ empty whole. quiet_unopened fault old new refused o whole;
}
  where
    stood : (f : AttachFault) → KeepsImage u p old f new → (attach_status f ≡ statuses.DiskFault → ⊥)
        → (attach_status f ≡ statuses.NoMemory → ⊥) → Stands new u p
    stood faults.Disk kept whole memory = absurd (whole refl)
    stood faults.NoMemory kept whole memory = absurd (memory refl)
    stood faults.NotImage kept whole memory = absurd (kept.not_image refl)
    stood faults.Damaged kept whole memory = absurd (kept.damaged refl)

-- ---- the disk, where the tree of a listing was to be loaded

-- a store was had of the image of the empty tree, and the load was done, or failed for the disk
pub loads_tree : {T : Type 0} (t : Tree) (p : Parameters) (status : Status) (old mid new : DiskState)
    (is_stopped : Bool) (result : Result T ApplyFault)
    → IsFitting empty_tree p → IsOpened empty_tree p old mid → ChangesImage empty_tree t p mid new is_stopped result
    → (IsDone status → (value : T) × (result ≡ Ok value))
    → (IsDone status → page_count t p ≤ p.slots)
    → slots_between p empty_tree t ≡ page_count t p → LoadsTree t p status old new
loads_tree {T} t p status old mid new is_stopped result fitting opened changes was_ok room count =
    let either = λ (image : List ℕ). old.crash_images image ⊎ (Represents image empty_tree p ⊎ Represents image t p) in
    let writes = opening_writes p.slots old.bytes in
    let syncs = opening_syncs p.slots old.bytes in
    record {
      loaded = λ e. let ok = was_ok e
          in subst (λ (r : Result T ApplyFault). OnOk r (Stands new t p)) ok.1 changes.stands;
      room = room;
      crash = LeavesOnly-trans old mid new either
          (LeavesOnly-weaken old mid (λ image. old.crash_images image ⊎ Represents image empty_tree p) either
          (λ image one. ⊎_elim (λ left. inl left) (λ represents. inr (inl represents)) one) opened.crash)
          (LeavesOnly-weaken mid new (λ image. Represents image empty_tree p ⊎ Represents image t p) either
          (λ image represents. inr represents) changes.crash);
      reads = changes.reads;
      made = λ e.
          let ok = was_ok e in
          let made = subst (λ (r : Result T ApplyFault).
          OnOk r (Made (commit_writes (slots_between p empty_tree t))
          (commit_syncs (slots_between p empty_tree t)) mid new)) ok.1 changes.counts.made in
          subst (λ (n : ℕ). Made (writes + commit_writes n) (syncs + commit_syncs n) old new) count
          (made_then old mid new writes syncs (commit_writes (slots_between p empty_tree t))
          (commit_syncs (slots_between p empty_tree t)) opened.counts made);
      limit = subst (λ (n : ℕ). MadeAtMost (writes + commit_writes n) (syncs + commit_syncs n) old new) count
          (at_most_then old mid new writes syncs (commit_writes (slots_between p empty_tree t))
          (commit_syncs (slots_between p empty_tree t)) opened.counts changes.counts.limit);
    }

-- ---- the status

-- a status does not come that may not come first, where one came that may
first_not : (status expected : Status) (P : Type 0) (Before : Status → Type 0) → MayComeFirst status
    → (row expected).may_come_first ≡ false → Before status → ComesExactly expected P Before status
first_not status expected P Before first later before = record {
  only = λ e. absurd (other_than (λ (r : Row). r.may_come_first) status expected first later e);
  always = λ holds. inr before;
}

-- one that may come first may come before the listing is judged
first_before : (status : Status) → MayComeFirst status → EndsBeforeListing status
first_before = implied (λ s. (row s).may_come_first)
    (λ s. is_among words.Load (row s).words && not (row s).refuses_image && not (row s).is_read_whole) refl

undone_first : (status : Status) → MayComeFirst status → IsDone status → ⊥
undone_first status first done = grind arith

-- nothing is printed of a tree that is too large
none_printed : (p : Parameters) (script : List ℕ) (status : Status) (old new : SinkState)
    → (status ≡ statuses.TooFull → ⊥) → (status ≡ statuses.SinkFault → ⊥) → PrintsFull p script status old new
none_printed p script status old new full fault = record {
  line = λ e. absurd (full e);
  in_part = λ e. absurd (fault e);
}

module _ (u : Tree) (p : Parameters) (script : List ℕ) (disk disk_new : DiskState) (source source_new : SourceState)
    (sink sink_new : SinkState) where
  abbrev TellsHere : Status → Type 0
  TellsHere status = TellsLoad u p script status disk disk_new source source_new sink sink_new

  -- the disk failed, or memory ran out
  pub tells_first : (status : Status) → MayComeFirst status
      → ((Rose disk.faults disk_new.faults → ⊥) → status ≡ statuses.NoMemory) → TellsHere status
  tells_first status first memory =
      let never : (other : Status) → (row other).may_come_first ≡ false → status ≡ other
      → ⊥ = λ other no. other_than (λ (r : Row). r.may_come_first) status other first no in
      record {
        not_empty = first_not status statuses.NotEmpty (u ≡ empty_tree → ⊥) MayComeFirst first refl first;
        bad_listing = first_not status statuses.BadListing (ListsNone p script) EndsBeforeListing first refl
            (first_before status first);
        too_full = first_not status statuses.TooFull (ListsTooMany p script) EndsBeforeTree first refl
            (inr (first_before status first));
        unprinted = λ e. absurd (never statuses.SinkFault refl e);
        done = λ e. absurd (undone_first status first e);
        printed = λ o. none_printed p script status sink sink_new (never statuses.TooFull refl)
            (never statuses.SinkFault refl);
        complete = λ t can within disk_whole source_whole. inr (memory disk_whole);
      }

  -- the image holds a tree
  pub tells_not_empty : (u ≡ empty_tree → ⊥) → TellsHere statuses.NotEmpty
  tells_not_empty holds = record {
    not_empty = record { only = λ e. holds; always = λ h. inl refl };
    bad_listing = record { only = λ e. absurd (cc); always = λ h. inr refl };
    too_full = record { only = λ e. absurd (cc); always = λ h. inr (inr refl) };
    unprinted = λ e. absurd (cc);
    done = λ e. absurd (false≢true e);
    printed = λ o. none_printed p script statuses.NotEmpty sink sink_new (λ e. cc) (λ e. cc);
    complete = λ t can within disk_whole source_whole. absurd (holds can.empty);
  }

  module _ (empty : u ≡ empty_tree) where
    is_empty : (status : Status) → (status ≡ statuses.NotEmpty → ⊥)
        → ComesExactly statuses.NotEmpty (u ≡ empty_tree → ⊥) MayComeFirst status
    is_empty status other = record { only = λ e. absurd (other e); always = λ holds. absurd (holds empty) }

    -- a take failed
    pub tells_source_fault : Rose source.faults source_new.faults → TellsHere statuses.SourceFault
    tells_source_fault rose = record {
      not_empty = is_empty statuses.SourceFault (λ e. cc);
      bad_listing = record { only = λ e. absurd (cc); always = λ h. inr refl };
      too_full = record { only = λ e. absurd (cc); always = λ h. inr (inr refl) };
      unprinted = λ e. absurd (cc);
      done = λ e. absurd (false≢true e);
      printed = λ o. none_printed p script statuses.SourceFault sink sink_new (λ e. cc) (λ e. cc);
      complete = λ t can within disk_whole source_whole. absurd (source_whole rose);
    }

    -- the script is too long
    pub tells_too_long : (length script ≤ script_limit → ⊥) → TellsHere statuses.TooLong
    tells_too_long long = record {
      not_empty = is_empty statuses.TooLong (λ e. cc);
      bad_listing = record { only = λ e. absurd (cc); always = λ h. inr refl };
      too_full = record { only = λ e. absurd (cc); always = λ h. inr (inr refl) };
      unprinted = λ e. absurd (cc);
      done = λ e. absurd (false≢true e);
      printed = λ o. none_printed p script statuses.TooLong sink sink_new (λ e. cc) (λ e. cc);
      complete = λ t can within disk_whole source_whole. absurd (long within);
    }

    -- it is no listing
    pub tells_bad : ListsNone p script → TellsHere statuses.BadListing
    tells_bad none = record {
      not_empty = is_empty statuses.BadListing (λ e. cc);
      bad_listing = record { only = λ e. none; always = λ h. inl refl };
      too_full = record {
        only = λ e. absurd (cc);
        always = λ many. absurd (lists_some many.tree p script many.lists none);
      };
      unprinted = λ e. absurd (cc);
      done = λ e. absurd (false≢true e);
      printed = λ o. none_printed p script statuses.BadListing sink sink_new (λ e. cc) (λ e. cc);
      complete = λ t can within disk_whole source_whole. absurd (lists_some t p script can.lists none);
    }

    -- it is the listing of this tree
    module _ (t : Tree) (lists : Lists t p script) where
      is_listing : (status : Status) → (status ≡ statuses.BadListing → ⊥)
          → ComesExactly statuses.BadListing (ListsNone p script) EndsBeforeListing status
      is_listing status other = record {
        only = λ e. absurd (other e);
        always = λ none. absurd (lists_some t p script lists none);
      }

      -- which has no more pages than there are slots
      pub tells_done : page_count t p ≤ p.slots → TellsHere statuses.Done
      tells_done room = record {
        not_empty = is_empty statuses.Done (λ e. cc);
        bad_listing = is_listing statuses.Done (λ e. cc);
        too_full = record {
          only = λ e. absurd (cc);
          always = λ many. absurd (lists_few t p script lists room many);
        };
        unprinted = λ e. absurd (cc);
        done = λ e. (t, record { empty = empty; lists = lists; room = room });
        printed = λ o. none_printed p script statuses.Done sink sink_new (λ e. cc) (λ e. cc);
        complete = λ t can within disk_whole source_whole. inl refl;
      }

      -- or more
      module _ (more : p.slots < page_count t p) where
        too_many : ListsTooMany p script
        too_many = record { tree = t; lists = lists; more = more }

        no_room : (v : Tree) → Lists v p script → page_count v p ≤ p.slots → ⊥
        no_room v other room =
            omega (
              arith,
              more,
              subst (λ (w : Tree). page_count w p ≤ p.slots)
                  (lists_one v t p script other lists) room,
            )

        pub tells_too_full : (sinks.IsObservable sink → sink_new.written ≡ sink.written ++ full_text t p)
            → TellsHere statuses.TooFull
        tells_too_full written = record {
          not_empty = is_empty statuses.TooFull (λ e. cc);
          bad_listing = is_listing statuses.TooFull (λ e. cc);
          too_full = record { only = λ e. too_many; always = λ h. inl refl };
          unprinted = λ e. absurd (cc);
          done = λ e. absurd (false≢true e);
          printed = λ o. record {
            line = λ e v other. subst (λ (w : Tree). sink_new.written ≡ sink.written ++ full_text w p)
                (lists_one t v p script lists other) (written o);
            in_part = λ e. absurd (cc);
          };
          complete = λ v can within disk_whole source_whole. absurd (no_room v can.lists can.room);
        }

        pub tells_unprinted : (sinks.IsObservable sink → AppendsPrefix sink.written sink_new.written (full_text t p))
            → TellsHere statuses.SinkFault
        tells_unprinted written = record {
          not_empty = is_empty statuses.SinkFault (λ e. cc);
          bad_listing = is_listing statuses.SinkFault (λ e. cc);
          too_full = record { only = λ e. absurd (cc); always = λ h. inr (inl refl) };
          unprinted = λ e. too_many;
          done = λ e. absurd (false≢true e);
          printed = λ o. record {
            line = λ e. absurd (cc);
            in_part = λ e v other. subst (λ (w : Tree). AppendsPrefix sink.written sink_new.written (full_text w p))
                (lists_one t v p script lists other) (written o);
          };
          complete = λ v can within disk_whole source_whole. absurd (no_room v can.lists can.room);
        }

-- ---- both

module _ {D R W : Type 0} (disk_of : D → DiskState) (source_of : R → SourceState) (sink_of : W → SinkState) (u : Tree)
    (p : Parameters) (script : List ℕ) (before : Outside D R W) (after : Outcome D R W)
    (tells : TellsLoad u p script after.status (disk_of before.disk) (disk_of after.disk) (source_of before.source)
    (source_of after.source) (sink_of before.sink) (sink_of after.sink)) where
  abbrev old : DiskState
  old = disk_of before.disk

  abbrev new : DiskState
  new = disk_of after.disk

  -- nothing was loaded
  pub from_kept : (IsDone after.status → ⊥) → KeepsTree u p after.status old new
      → (after.status ≡ statuses.NoMemory → Stands new u p ⊎ LeavesImage old new)
      → LoadsFrom disk_of source_of sink_of u p script before after
  from_kept not_done keeps no_memory = record {
    tells = tells;
    loads = λ empty t lists. loads_none u p after.status old new t not_done empty keeps;
    keeps = λ nothing. keeps;
    keeps_refused = λ refused. keeps;
    no_memory = no_memory;
  }

  -- the tree of the listing was loaded, or the disk failed
  pub from_loaded : (LoadsNothing after.status → ⊥) → (t : Tree) → CanBeLoaded u t p script
      → LoadsTree t p after.status old new → LoadsFrom disk_of source_of sink_of u p script before after
  from_loaded some t can loads = record {
    tells = tells;
    loads = λ empty v lists. subst (λ (w : Tree). LoadsTree w p after.status old new)
        (lists_one t v p script can.lists lists) loads;
    keeps = λ nothing. absurd (some nothing);
    keeps_refused = λ refused. absurd (refused t can);
    no_memory = λ e. absurd (some (subst LoadsNothing (sym e) refl));
  }
