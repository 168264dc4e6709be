-- Lemmas on the writes and syncs of a format and of a wipe.
use Rattle.std.proofs.Common.{◌≡◌, ◌+◌, ◌/◌, Result, Ok, Err, arith}
use Rattle.store_model.specs.Parameters.{Parameters, block_len, image_len}
use Rattle.disk_model.specs.DiskState.{DiskState}
use Rattle.gate_journal.specs.Places.{Made, Makes}
use Rattle.gate_journal.specs.Wipes.{block_count}
use Rattle.gate_journal.specs.declared.fault.JournalFault.{JournalFault}
use Rattle.gate_journal.specs.declared.fault.JournalFault.TheVariants as journal
use Rattle.store_base.specs.declared.fault.DiskFault.{DiskFault}
use Rattle.image_subcommands.specs.declared.status.Status.TheVariants as statuses
use Rattle.image_subcommands.specs.Endings.{status_of, journal_status, disk_status}
use Rattle.image_subcommands.specs.FormatCall.{CountsFormat}
use Rattle.image_subcommands.specs.WipeCall.{CountsWipe}

-- ---- formatting

pub counts_format : (p : Parameters) (old new : DiskState) (result : Result (Unit {0}) JournalFault)
    → Makes (image_len p.slots / block_len + 1) 2 old new result
    → CountsFormat (status_of journal_status result) p old new
counts_format p old new result makes = record {
  done = λ e. made result makes e;
  limit = record { write_limit = omega (arith, makes.write_limit); sync_limit = omega (arith, makes.sync_limit) };
}
  where
    made : (result : Result (Unit {0}) JournalFault) → Makes (image_len p.slots / block_len + 1) 2 old new result
        → status_of journal_status result ≡ statuses.Done → Made (image_len p.slots / block_len + 1) 2 old new
    made (Ok value) makes e = record {
      write_count = omega (arith, makes.write_count);
      sync_count = omega (arith, makes.sync_count);
    }
    made (Err journal.Disk) makes e = absurd (cc)
    made (Err fault) makes e = absurd (cc)

-- ---- wiping

pub counts_wipe : (old new : DiskState) (result : Result (Unit {0}) DiskFault)
    → Makes (1 + block_count old.size) 2 old new result → CountsWipe (status_of disk_status result) old new
counts_wipe old new result makes = record {
  done = λ e. made result makes e;
  limit = record { write_limit = omega (arith, makes.write_limit); sync_limit = omega (arith, makes.sync_limit) };
}
  where
    made : (result : Result (Unit {0}) DiskFault) → Makes (1 + block_count old.size) 2 old new result
        → status_of disk_status result ≡ statuses.Done → Made (1 + block_count old.size) 2 old new
    made (Ok value) makes e = record {
      write_count = omega (arith, makes.write_count);
      sync_count = omega (arith, makes.sync_count);
    }
    made (Err fault) makes e = absurd (cc)
