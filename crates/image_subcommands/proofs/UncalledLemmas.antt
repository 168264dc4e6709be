-- A call for which memory ran out before anything was called keeps every promise.
use Rattle.std.proofs.Common.{◌≡◌, ◌⊎◌, ◌/◌, ◌+◌, ℕ, List, refl, sym, subst, inl, inr, arith}
use Rattle.std.proofs.lemmas.Bool.{false≢true}
use Rattle.store_model.specs.Parameters.{Parameters, image_len, block_len}
use Rattle.disk_model.specs.DiskState.{DiskState, IsObservable, IsSound}
use Rattle.disk_model.proofs.Crashes.{LeavesOnly-refl}
use Rattle.gate_journal.specs.Costs.{MadeAtMost, opening_syncs}
use Rattle.gate_journal.specs.Wipes.{IsWiping, block_count}
use Rattle.gate_journal.proofs.Formatting.{leaves_no_image, reads_no_image}
use Rattle.gate_journal.proofs.Reading.{ReadsOnly-refl}
use Rattle.script_lines.specs.SinkState.{SinkState}
use Rattle.scrub_free.specs.Scrubbing.{ScrubsAs, writes_to_scrub}
use Rattle.image_subcommands.specs.declared.outcome.Outcome.{Outcome}
use Rattle.image_subcommands.specs.declared.status.Status.{Status}
use Rattle.image_subcommands.specs.declared.status.Status.TheVariants as statuses
use Rattle.image_subcommands.specs.CheckCall.{IsCheck}
use Rattle.image_subcommands.specs.FormatCall.{FormatsDisk, IsFormat}
use Rattle.image_subcommands.specs.Outside.{Outside}
use Rattle.image_subcommands.specs.Reports.{EndsByVerdict, IsUnreported}
use Rattle.image_subcommands.specs.ScrubCall.{IsScrub, ScrubsDisk}
use Rattle.image_subcommands.specs.Statuses.{ComesExactly}
use Rattle.image_subcommands.specs.WipeCall.{IsWipe, WipesDisk}

-- no call was made
none_made : (disk : DiskState) (writes syncs : ℕ) → MadeAtMost writes syncs disk disk
none_made disk writes syncs = record { write_limit = omega arith; sync_limit = omega arith }

-- another status does not come for want of memory
comes_not : (status : Status) (P : Type 0) → (statuses.NoMemory ≡ status → ⊥)
    → ComesExactly status P IsUnreported statuses.NoMemory
comes_not status P other = record { only = λ e. absurd (other e); always = λ holds. inr (inr refl) }

ends_by_none : (IsWhole IsBroken : Type 0) (disk : DiskState) (sink : SinkState)
    → EndsByVerdict IsWhole IsBroken statuses.NoMemory disk disk sink sink
ends_by_none IsWhole IsBroken disk sink = record {
  clean = comes_not statuses.Done IsWhole (λ e. cc);
  not_image = comes_not statuses.NotImage _ (λ e. cc);
  damaged = comes_not statuses.Damaged IsBroken (λ e. cc);
  complete = λ whole kept shown. inr refl;
}

scrubs_none : (disk : DiskState) (sink : SinkState) → IsSound disk → ScrubsDisk statuses.NoMemory disk disk sink sink
scrubs_none disk sink sound = record {
  ends = ends_by_none _ _ disk sink;
  scrubs = λ t p scrubs. record {
    scrubbed = λ judged. absurd (false≢true judged);
    crash = LeavesOnly-refl disk (λ image. disk.crash_images image ⊎ ScrubsAs p.slots disk.bytes image) sound
        (λ image left. inl left);
    reads = record { same_length = refl; scrubs = refl };
    made = λ judged. absurd (false≢true judged);
    limit = none_made disk (writes_to_scrub p.slots disk.bytes) (opening_syncs p.slots disk.bytes);
  };
  nothing = λ none. ReadsOnly-refl disk sound;
}

-- the image itself is one on the way of a wipe
wipes_itself : (bytes : List ℕ) → IsWiping bytes bytes
wipes_itself bytes = inl (record { same_length = refl; same = λ place apart. refl })

wipes_none : (disk : DiskState) → IsSound disk → WipesDisk statuses.NoMemory disk disk
wipes_none disk sound = record {
  wiped = λ e. absurd (cc);
  reads = wipes_itself disk.bytes;
  crash = λ durable. LeavesOnly-refl disk (IsWiping disk.bytes) sound
      (λ image left. subst (IsWiping disk.bytes) (sym (durable image left)) (wipes_itself disk.bytes));
  counts = λ some. record { done = λ e. absurd (cc); limit = none_made disk (1 + block_count disk.size) 2 };
}

formats_none : (p : Parameters) (disk : DiskState) → IsSound disk → FormatsDisk statuses.NoMemory p disk disk
formats_none p disk sound =
    let reads = ReadsOnly-refl disk sound in
    record {
      already_image = record { only = λ e. absurd (cc); always = λ begins. inr refl };
      formatted = λ e. absurd (cc);
      refused = λ h. absurd (false≢true h);
      keeps = λ first. reads;
      blank = λ blank. record {
        reads = reads_no_image p disk disk blank.other_byte reads;
        crash = λ durable. leaves_no_image p disk disk durable blank.other_byte reads;
        counts = record { done = λ e. absurd (cc); limit = none_made disk (image_len p.slots / block_len + 1) 2 };
        complete = λ kept. inr refl;
      };
    }

-- how such a call ends
abbrev pub without_memory : {D R W : Type 0} → Outside D R W → Outcome D R W
without_memory before = record {
  status = statuses.NoMemory;
  done = 0;
  disk = before.disk;
  source = before.source;
  sink = before.sink;
}

module _ {D R W : Type 0} (disk_of : D → DiskState) (sink_of : W → SinkState)
    (sound : (disk : D) → IsObservable (disk_of disk) → IsSound (disk_of disk)) (before : Outside D R W) where
  pub format_uncalled : (p : Parameters) → IsFormat disk_of p before (without_memory before)
  format_uncalled p = record {
    ends = refl;
    done = refl;
    wrong_length = record { only = λ e. absurd (cc); always = λ other. inr refl };
    right_length = λ e. absurd (cc);
    source = refl;
    sink = refl;
    no_memory = λ e. refl;
    observed = λ observable. formats_none p (disk_of before.disk) (sound before.disk observable);
  }

  pub check_uncalled : IsCheck disk_of sink_of before (without_memory before)
  check_uncalled = record {
    ends = refl;
    done = refl;
    observed = λ observable. record {
      ends = ends_by_none _ _ (disk_of before.disk) (sink_of before.sink);
      reads = ReadsOnly-refl (disk_of before.disk) (sound before.disk observable);
    };
    source = refl;
    no_memory = λ e. refl;
    report = λ judged. absurd (false≢true judged);
    silent = λ unjudged. refl;
  }

  pub scrub_uncalled : IsScrub disk_of sink_of before (without_memory before)
  scrub_uncalled = record {
    ends = refl;
    done = refl;
    observed = λ observable. scrubs_none (disk_of before.disk) (sink_of before.sink) (sound before.disk observable);
    source = refl;
    no_memory = λ e. refl;
    report = λ judged. absurd (false≢true judged);
    silent = λ unjudged. refl;
  }

  pub wipe_uncalled : IsWipe disk_of before (without_memory before)
  wipe_uncalled = record {
    ends = refl;
    done = refl;
    complete = λ kept. inr refl;
    source = refl;
    sink = refl;
    no_memory = λ e. refl;
    empty = λ none. refl;
    wipes = λ observable. wipes_none (disk_of before.disk) (sound before.disk observable);
  }
