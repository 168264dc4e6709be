-- The statuses of a call, in one table. What other records ask of a status follows from it.
use Rattle.std.specs.Prelude.{◌≡◌, ◌⊎◌, ℕ, List, [], ◌∷◌, Bool, true, false, IsTrue, not, ◌&&◌, if◌then◌else◌}
use Rattle.std.specs.List.{filter}
use Rattle.store_base.specs.Counts.{raised}
use Rattle.image_subcommands.specs.declared.status.Status.{Status}
use Rattle.image_subcommands.specs.declared.status.Status.TheVariants.{Done, Usage, SourceFault, SinkFault, DiskFault}
use Rattle.image_subcommands.specs.declared.status.Status.TheVariants.{TooLong, NotImage, Damaged, NoMemory}
use Rattle.image_subcommands.specs.declared.status.Status.TheVariants.{AlreadyImage, WrongLength, Unequal, NotEmpty}
use Rattle.image_subcommands.specs.declared.status.Status.TheVariants.{BadListing, TooFull}

-- what a call is asked for: a subcommand of `top`, or a mirror
pub data Subcommand : Type 0 where
  Format : Subcommand
  Run : Subcommand
  Session : Subcommand
  Check : Subcommand
  Scrub : Subcommand
  Wipe : Subcommand
  Upgrade : Subcommand
  Big : Subcommand
  Mirror : Subcommand
  Dump : Subcommand
  Load : Subcommand

-- those for which there has to be an image, those that read a source, and those that print
abbrev needs_image : Subcommand → Bool
needs_image Format = false
needs_image Wipe = false
needs_image word = true

abbrev reads_source : Subcommand → Bool
reads_source Run = true
reads_source Session = true
reads_source Load = true
reads_source word = false

abbrev prints : Subcommand → Bool
prints Upgrade = false
prints word = needs_image word

abbrev is_format : Subcommand → Bool
is_format Format = true
is_format word = false

abbrev is_mirror : Subcommand → Bool
is_mirror Mirror = true
is_mirror word = false

abbrev is_load : Subcommand → Bool
is_load Load = true
is_load word = false

-- whether it is one of these
abbrev pub is_among : Subcommand → (Subcommand → Bool) → Bool
is_among word words = words word

-- what failed in a call, if anything did
pub data Failed : Type 0 where
  Nothing : Failed
  TheDisk : Failed
  TheSource : Failed
  TheSink : Failed

abbrev spares_disk : Failed → Bool
spares_disk TheDisk = false
spares_disk failed = true

-- a line of the table
pub record Row : Type 0 where
  -- the number that the program ends with
  pub code : ℕ
  -- the subcommands that may end so
  pub words : Subcommand → Bool
  -- what failed
  pub failed : Failed
  -- the work was carried out
  pub is_done : Bool
  -- a check or a scrub came to its verdict
  pub is_judged : Bool
  -- the disk is no image, or a damaged one
  pub refuses_image : Bool
  -- the disk is not to be formatted
  pub refuses_disk : Bool
  -- a mirror that ends so has only read its second disk
  pub spares_second : Bool
  -- a mirror that ends so has made its second image the first
  pub is_mirrored : Bool
  -- a call that answers lines or commands came past the header of its image
  pub is_past_header : Bool
  -- it ended between two lines or after the last, with its disk whole
  pub is_between_lines : Bool
  -- it ended before its script did, and not because of the sink
  pub is_cut_short : Bool
  -- the call may end so before it has judged its disk
  pub may_come_first : Bool
  -- a load that ends so has read its source to the end
  pub is_read_whole : Bool

-- a line with a code alone
abbrev with_code : ℕ → Row
with_code code = record {
  code = code;
  words = λ word. false;
  failed = Nothing;
  is_done = false;
  is_judged = false;
  refuses_image = false;
  refuses_disk = false;
  spares_second = false;
  is_mirrored = false;
  is_past_header = false;
  is_between_lines = false;
  is_cut_short = false;
  may_come_first = false;
  is_read_whole = false;
}

abbrev pub row : Status → Row
row Done = record (with_code 0) {
  words = λ word. true;
  is_done = true;
  is_judged = true;
  is_past_header = true;
  is_between_lines = true;
  is_mirrored = true;
  is_read_whole = true;
}
row Usage = with_code 2
row SourceFault = record (with_code 3) {
  words = reads_source;
  failed = TheSource;
  is_past_header = true;
  is_between_lines = true;
  is_cut_short = true;
}
row SinkFault = record (with_code 4) {
  words = prints;
  failed = TheSink;
  is_judged = true;
  is_past_header = true;
  is_between_lines = true;
  is_mirrored = true;
  is_read_whole = true;
}
row DiskFault = record (with_code 5) {
  words = λ word. true;
  failed = TheDisk;
  is_cut_short = true;
  may_come_first = true;
}
row TooLong = record (with_code 6) {
  words = reads_source;
  is_past_header = true;
  is_between_lines = true;
  is_cut_short = true;
}
row NotImage = record (with_code 7) {
  words = needs_image;
  is_judged = true;
  refuses_image = true;
  spares_second = true;
}
row Damaged = record (with_code 8) {
  words = needs_image;
  is_judged = true;
  refuses_image = true;
  is_past_header = true;
  spares_second = true;
}
row NoMemory = record (with_code 9) {
  words = λ word. true;
  is_cut_short = true;
  may_come_first = true;
  spares_second = true;
}
row AlreadyImage = record (with_code 10) { words = is_format; refuses_disk = true }
row WrongLength = record (with_code 11) { words = is_format; refuses_disk = true }
row Unequal = record (with_code 13) { words = is_mirror; spares_second = true }
row NotEmpty = record (with_code 14) { words = is_load; is_past_header = true }
row BadListing = record (with_code 15) { words = is_load; is_past_header = true; is_read_whole = true }
row TooFull = record (with_code 16) { words = is_load; is_past_header = true; is_read_whole = true }

-- all statuses, of which each predicate below is a filter
abbrev pub every_status : List Status
every_status = Done ∷ Usage ∷ SourceFault ∷ SinkFault ∷ DiskFault ∷ TooLong ∷ NotImage ∷ Damaged ∷ NoMemory
    ∷ AlreadyImage ∷ WrongLength ∷ Unequal ∷ NotEmpty ∷ BadListing ∷ TooFull ∷ []

-- ---- what follows from it

-- the status is one of these
abbrev pub IsOneOf : Status → List Status → Type 0
IsOneOf status [] = ⊥
IsOneOf status (first ∷ others) = (status ≡ first) ⊎ IsOneOf status others

-- a call with this subcommand may end so
abbrev pub IsStatusOf : Subcommand → Status → Type 0
IsStatusOf word status = IsTrue (is_among word (row status).words)

-- the statuses by which one may end
abbrev pub endings : Subcommand → List Status
endings word = filter (λ status. is_among word (row status).words) every_status

-- the same, spelled out: the most end as a check
abbrev pub spelled : Subcommand → List Status
spelled Format = Done ∷ DiskFault ∷ NoMemory ∷ AlreadyImage ∷ WrongLength ∷ []
spelled Wipe = Done ∷ DiskFault ∷ NoMemory ∷ []
spelled Upgrade = Done ∷ DiskFault ∷ NotImage ∷ Damaged ∷ NoMemory ∷ []
spelled Mirror = Done ∷ SinkFault ∷ DiskFault ∷ NotImage ∷ Damaged ∷ NoMemory ∷ Unequal ∷ []
spelled Run = Done ∷ SourceFault ∷ SinkFault ∷ DiskFault ∷ TooLong ∷ NotImage ∷ Damaged ∷ NoMemory ∷ []
spelled Session = Done ∷ SourceFault ∷ SinkFault ∷ DiskFault ∷ TooLong ∷ NotImage ∷ Damaged ∷ NoMemory ∷ []
spelled Load = Done ∷ SourceFault ∷ SinkFault ∷ DiskFault ∷ TooLong ∷ NotImage ∷ Damaged ∷ NoMemory ∷ NotEmpty
    ∷ BadListing ∷ TooFull ∷ []
spelled word = Done ∷ SinkFault ∷ DiskFault ∷ NotImage ∷ Damaged ∷ NoMemory ∷ []

-- how a call with this subcommand may end, once its image was taken
abbrev pub IsEndOf : Subcommand → Status → Type 0
IsEndOf word status = IsTrue (is_among word (row status).words && not (row status).refuses_image)

-- the work was carried out
abbrev pub IsDone : Status → Type 0
IsDone status = IsTrue (row status).is_done

-- how it may end without being done, its image not refused
abbrev pub IsStopOf : Subcommand → Status → Type 0
IsStopOf word status =
    IsTrue (is_among word (row status).words && not (row status).refuses_image && not (row status).is_done)

-- A load loaded nothing, and no call on its disk failed: the image stays that of the tree that it was.
abbrev pub LoadsNothing : Status → Type 0
LoadsNothing status = IsTrue (is_among Load (row status).words && not (row status).refuses_image
    && not (row status).is_done && spares_disk (row status).failed)

-- it may end so before its listing is judged
abbrev pub EndsBeforeListing : Status → Type 0
EndsBeforeListing status = IsTrue (is_among Load (row status).words && not (row status).refuses_image
    && not (row status).is_read_whole)

abbrev pub IsReadWhole : Status → Type 0
IsReadWhole status = IsTrue (row status).is_read_whole

-- they were all carried out, and summed up
abbrev pub IsSummed : Status → Type 0
IsSummed status = IsTrue (is_among Big (row status).words && (row status).is_between_lines)

abbrev pub IsJudged : Status → Type 0
IsJudged status = IsTrue (row status).is_judged

abbrev pub IsRefusedImage : Status → Type 0
IsRefusedImage status = IsTrue (row status).refuses_image

abbrev pub IsRefusedDisk : Status → Type 0
IsRefusedDisk status = IsTrue (row status).refuses_disk

abbrev pub SparesSecond : Status → Type 0
SparesSecond status = IsTrue (row status).spares_second

abbrev pub IsMirrored : Status → Type 0
IsMirrored status = IsTrue (row status).is_mirrored

abbrev pub IsPastHeader : Status → Type 0
IsPastHeader status = IsTrue (row status).is_past_header

abbrev pub IsBetweenLines : Status → Type 0
IsBetweenLines status = IsTrue (row status).is_between_lines

abbrev pub IsCutShort : Status → Type 0
IsCutShort status = IsTrue (row status).is_cut_short

abbrev pub MayComeFirst : Status → Type 0
MayComeFirst status = IsTrue (row status).may_come_first

-- one where it is so, and else none
abbrev pub one_if : Bool → ℕ
one_if b = if b then 1 else 0

-- the count `done` of `format`, `wipe`, `upgrade`, `dump` and `load`, and that of `check` and `scrub`
abbrev pub done_of_work : Status → ℕ
done_of_work status = one_if (row status).is_done

abbrev pub done_of_verdict : Status → ℕ
done_of_verdict status = one_if (row status).is_judged

-- and that of a mirror
abbrev pub done_of_mirror : Status → ℕ
done_of_mirror status = one_if (row status).is_mirrored

-- a count of failed calls, after a call in which that failed: the disk's, the source's and the sink's
abbrev disk_faults_where : Failed → ℕ → ℕ
disk_faults_where Nothing count = count
disk_faults_where TheDisk count = raised count
disk_faults_where TheSource count = count
disk_faults_where TheSink count = count

abbrev source_faults_where : Failed → ℕ → ℕ
source_faults_where Nothing count = count
source_faults_where TheDisk count = count
source_faults_where TheSource count = raised count
source_faults_where TheSink count = count

abbrev sink_faults_where : Failed → ℕ → ℕ
sink_faults_where Nothing count = count
sink_faults_where TheDisk count = count
sink_faults_where TheSource count = count
sink_faults_where TheSink count = raised count

-- the counts after a call that ended so: that of what failed is one more, and the others are as they were
abbrev pub disk_faults_by : Status → ℕ → ℕ
disk_faults_by status count = disk_faults_where (row status).failed count

abbrev pub source_faults_by : Status → ℕ → ℕ
source_faults_by status count = source_faults_where (row status).failed count

abbrev pub sink_faults_by : Status → ℕ → ℕ
sink_faults_by status count = sink_faults_where (row status).failed count

-- A status comes only where this holds. And where it holds it comes, unless the call ended before, in one of these
-- ways.
pub record ComesExactly (expected : Status) (P : Type 0) (Before : Status → Type 0) (status : Status) : Type 0 where
  pub only : status ≡ expected → P
  pub always : P → (status ≡ expected) ⊎ Before status
