-- Lemmas on formats.
use Rattle.std.proofs.Common.{◌≡◌, ◌≢◌, ◌↔◌, ◌⊎◌, ◌+◌, ◌/◌, Result, Ok, Err, refl, sym, ap, subst, ◌∙◌, inl, inr}
use Rattle.std.proofs.Common.{⊎_elim, slice_index}
use Rattle.std.proofs.lemmas.Bool.{cases_eq, false≢true}
use Rattle.store_model.specs.Parameters.{Parameters, image_len, block_len}
use Rattle.store_model.specs.Trees.{empty_tree}
use Rattle.store_model.specs.Images.{first_byte}
use Rattle.store_base.specs.Counts.{Rose}
use Rattle.disk_model.specs.DiskState.{DiskState, IsObservable, IsSound, IsDurable}
use Rattle.disk_model.specs.DiskCalls.{LeavesOnly}
use Rattle.gate_journal.specs.Formats.{IsEmptyOrNone, Formats}
use Rattle.gate_journal.specs.Places.{Makes, ReadsOnly}
use Rattle.gate_journal.proofs.Reading.{ReadsOnly-refl}
use Rattle.gate_journal.specs.declared.fault.JournalFault.{JournalFault}
use Rattle.gate_journal.specs.declared.fault.JournalFault.TheVariants as causes
use Rattle.image_check.specs.Standing.{Stands}
use Rattle.image_subcommands.specs.declared.status.Status.TheVariants as statuses
use Rattle.image_subcommands.specs.Endings.{status_of, journal_status}
use Rattle.image_subcommands.specs.FormatCall.{IsBlank, IsFormat}
use Rattle.image_subcommands.specs.Outside.{Outside}
use Rattle.image_subcommands.specs.Statuses.{Subcommand as words, IsStatusOf, IsRefusedDisk, MayComeFirst, done_of_work}
use Rattle.image_subcommands.proofs.CostLemmas.{counts_format}

-- the outcome of a format, by its status
ended : (r : Result (Unit {0}) JournalFault) → IsStatusOf words.Format (status_of journal_status r)
ended (Ok value) = refl
ended (Err causes.Disk) = refl
ended (Err fault) = refl

-- the status tells which it is
same : (r other : Result (Unit {0}) JournalFault) → status_of journal_status r ≡ status_of journal_status other
    → r ≡ other
same (Ok value) (Ok done) e = refl
same (Ok value) (Err causes.Disk) e = absurd (cc)
same (Err causes.Disk) (Err causes.Disk) e = refl
same (Err causes.AlreadyImage) (Err causes.AlreadyImage) e = refl
same (Err causes.WrongLength) (Err causes.WrongLength) e = refl
same r other e = absurd (cc)

in_memory : (r : Result (Unit {0}) JournalFault) → status_of journal_status r ≡ statuses.NoMemory → ⊥
in_memory (Ok value) e = cc
in_memory (Err causes.Disk) e = cc
in_memory (Err fault) e = cc

refused_by : (P : Type 0) (r : Result (Unit {0}) JournalFault) → IsRefusedDisk (status_of journal_status r)
    → (r ≡ Err causes.AlreadyImage → P) → (r ≡ Err causes.WrongLength → P) → P
refused_by P (Ok value) refused image length = absurd (false≢true refused)
refused_by P (Err causes.Disk) refused image length = absurd (false≢true refused)
refused_by P (Err causes.AlreadyImage) refused image length = image refl
refused_by P (Err causes.WrongLength) refused image length = length refl

module _ (p : Parameters) (old new : DiskState) (r : Result (Unit {0}) JournalFault)
    (wrong_length : (r ≡ Err causes.WrongLength) ↔ (old.size ≢ image_len p.slots)) where
  -- whatever else it answers, the length is right
  right_length : (answer : Result (Unit {0}) JournalFault) → r ≡ answer → (answer ≡ Err causes.WrongLength → ⊥)
      → old.size ≡ image_len p.slots
  right_length answer is other = elim (cases_eq old.size (image_len p.slots)) [
    | inl same ↦ same
    | inr differ ↦ absurd (other (sym is ∙ wrong_length.1 differ))
  ]

  -- a blank disk is formatted where no call failed
  formats : (r ≡ Err causes.Disk → Rose old.faults new.faults)
      → (r ≡ Err causes.AlreadyImage → slice_index old.bytes 0 ≡ first_byte) → IsBlank old p
      → (Rose old.faults new.faults → ⊥)
      → (answer : Result (Unit {0}) JournalFault) → r ≡ answer → (status_of journal_status answer ≡ statuses.Done)
      ⊎ (status_of journal_status answer ≡ statuses.NoMemory)
  formats failed image blank whole (Ok value) is = inl refl
  formats failed image blank whole (Err causes.Disk) is = absurd (whole (failed is))
  formats failed image blank whole (Err causes.AlreadyImage) is = absurd (blank.other_byte (image is))
  formats failed image blank whole (Err causes.WrongLength) is = absurd (wrong_length.0 is blank.size_is)

  stands : (answer : Result (Unit {0}) JournalFault) → answer ≡ Ok tt → Formats p new answer → Stands new empty_tree p
  stands (Ok value) is formatted = record { layout_is = formatted.done; durable = formatted.durable }
  stands (Err fault) is formatted = absurd (cc)

-- A disk was formatted, or not.
pub format_ends : {D R W : Type 0} (disk_of : D → DiskState)
    (sound : (disk : D) → IsObservable (disk_of disk) → IsSound (disk_of disk)) (p : Parameters)
    (before : Outside D R W) (disk : D) (r : Result (Unit {0}) JournalFault)
    → (r ≡ Err causes.WrongLength) ↔ ((disk_of before.disk).size ≢ image_len p.slots)
    → (r ≡ Err causes.WrongLength → disk ≡ before.disk)
    → (IsObservable (disk_of before.disk) → r ≡ Err causes.AlreadyImage
    → slice_index (disk_of before.disk).bytes 0 ≡ first_byte)
    → (IsObservable (disk_of before.disk) → (disk_of before.disk).size ≡ image_len p.slots
    → slice_index (disk_of before.disk).bytes 0 ≡ first_byte → ReadsOnly (disk_of before.disk) (disk_of disk))
    → (IsObservable (disk_of before.disk) → r ≡ Err causes.AlreadyImage
    → ReadsOnly (disk_of before.disk) (disk_of disk))
    → (IsObservable (disk_of before.disk) → (disk_of before.disk).size ≡ image_len p.slots
    → slice_index (disk_of before.disk).bytes 0 ≡ first_byte
    → (r ≡ Err causes.AlreadyImage) ⊎ (r ≡ Err causes.Disk))
    → (r ≡ Err causes.Disk → Rose (disk_of before.disk).faults (disk_of disk).faults)
    → (IsObservable (disk_of before.disk) → (disk_of before.disk).size ≡ image_len p.slots
    → slice_index (disk_of before.disk).bytes 0 ≢ first_byte
    → Makes (image_len p.slots / block_len + 1) 2 (disk_of before.disk) (disk_of disk) r)
    → (IsObservable (disk_of before.disk) → Formats p (disk_of disk) r)
    → (IsObservable (disk_of before.disk) → (disk_of before.disk).size ≡ image_len p.slots
    → slice_index (disk_of before.disk).bytes 0 ≢ first_byte → IsEmptyOrNone p (disk_of disk).bytes)
    → (IsObservable (disk_of before.disk) → (disk_of before.disk).size ≡ image_len p.slots
    → slice_index (disk_of before.disk).bytes 0 ≢ first_byte → IsDurable (disk_of before.disk)
    → LeavesOnly (disk_of before.disk) (disk_of disk) (IsEmptyOrNone p))
    → IsFormat disk_of p before (record {
      status = status_of journal_status r;
      done = done_of_work (status_of journal_status r);
      disk = disk;
      source = before.source;
      sink = before.sink;
    })
format_ends {D} disk_of sound p before disk r wrong_length untouched image image_kept image_reads found failed makes
    formatted reads crash =
    let old = disk_of before.disk in
    let new = disk_of disk in
    let unchanged : IsObservable old → r ≡ Err causes.WrongLength → ReadsOnly old new =
    λ o e. subst (λ (x : D). ReadsOnly old (disk_of x)) (sym (untouched e)) (ReadsOnly-refl old (sound before.disk o))
    in
    record {
      ends = ended r;
      done = refl;
      wrong_length = record {
        only = λ e. wrong_length.0 (same r (Err causes.WrongLength) e);
        always = λ differ. inl (ap (status_of journal_status) (wrong_length.1 differ));
      };
      right_length = λ e. right_length p old new r wrong_length (Err causes.AlreadyImage)
          (same r (Err causes.AlreadyImage) e) (λ h. cc);
      source = refl;
      sink = refl;
      no_memory = λ e. absurd (in_memory r e);
      observed = λ o. record {
        already_image = record {
          only = λ e. record {
            size_is = right_length p old new r wrong_length (Err causes.AlreadyImage)
                (same r (Err causes.AlreadyImage) e) (λ h. cc);
            first_is = image o (same r (Err causes.AlreadyImage) e);
          };
          always = λ begins. ⊎_elim (λ is. inl (ap (status_of journal_status) is))
              (λ is. inr (subst (λ (x : Result (Unit {0}) JournalFault). MayComeFirst (status_of journal_status x))
              (sym is) refl)) (found o begins.size_is begins.first_is);
        };
        formatted = λ e. stands p old new r wrong_length r (same r (Ok tt) e) (formatted o);
        refused = λ refused. refused_by (ReadsOnly old new) r refused (image_reads o) (unchanged o);
        keeps = λ first. elim (cases_eq old.size (image_len p.slots)) [
          | inl right ↦ image_kept o right first
          | inr differ ↦ unchanged o (wrong_length.1 differ)
        ];
        blank = λ blank. record {
          reads = reads o blank.size_is blank.other_byte;
          crash = crash o blank.size_is blank.other_byte;
          counts = counts_format p old new r (makes o blank.size_is blank.other_byte);
          complete = λ whole. formats p old new r wrong_length failed (image o) blank whole r refl;
        };
      };
    }
