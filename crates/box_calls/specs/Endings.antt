-- How calls end, and what they say.
use Rattle.std.specs.Prelude.{◌≡◌, ◌⊎◌, ℕ, Bool, true, false, not, List, [], ◌∷◌, ◌++◌, Result, Ok, Err, OnOk, IfErr}
use Rattle.script_lines.specs.SinkState.{SinkState, IsPut}
use Rattle.script_lines.specs.declared.fault.SinkFault.{SinkFault}
use Rattle.image_summary.specs.declared.summary.SummaryFault.{SummaryFault}
use Rattle.image_summary.specs.declared.summary.SummaryFault.TheVariants as sums
use Rattle.box_words.specs.declared.status.Status.{Status}
use Rattle.box_words.specs.declared.status.Status.TheVariants as statuses
use Rattle.box_calls.specs.declared.trouble.Trouble.{Trouble}
use Rattle.box_calls.specs.declared.trouble.Trouble.TheVariants as troubles

-- how a call ends that has this trouble
abbrev pub status_of : Trouble → Status
status_of troubles.NotImage = statuses.NotImage
status_of troubles.Damaged = statuses.Damaged
status_of troubles.Disk = statuses.Disk
status_of troubles.Changed = statuses.Disk
status_of troubles.NoMemory = statuses.NoMemory
status_of troubles.Output = statuses.Output
status_of troubles.File = statuses.Host
status_of troubles.Nothing = statuses.Path
status_of troubles.Folder = statuses.Path
status_of troubles.Link = statuses.Path
status_of troubles.Digest = statuses.Differs
status_of troubles.Host = statuses.Host
status_of troubles.Obstacles = statuses.Host
status_of troubles.TooMany = statuses.Host
status_of troubles.Moving = statuses.Host
status_of troubles.Input = statuses.Input
status_of troubles.NoListing = statuses.BadListing
status_of troubles.LongListing = statuses.BadListing
status_of troubles.Unwritten = statuses.Disk
status_of troubles.Full = statuses.Full
status_of troubles.TooMuch = statuses.Full
status_of (troubles.Refused reason) = statuses.Path
status_of troubles.Crowded = statuses.Full
status_of troubles.LongSource = statuses.Host
status_of troubles.Failed = statuses.Disk

-- whether what failed has said so already
abbrev pub is_said : Trouble → Bool
is_said troubles.NotImage = false
is_said troubles.Damaged = false
is_said troubles.Disk = false
is_said troubles.Changed = false
is_said troubles.NoMemory = false
is_said troubles.Output = false
is_said troubles.File = false
is_said troubles.Nothing = false
is_said troubles.Folder = false
is_said troubles.Link = false
is_said troubles.Digest = false
is_said troubles.Host = true
is_said troubles.Obstacles = false
is_said troubles.TooMany = false
is_said troubles.Moving = false
is_said troubles.Input = false
is_said troubles.NoListing = false
is_said troubles.LongListing = false
is_said troubles.Unwritten = false
is_said troubles.Full = false
is_said troubles.TooMuch = false
is_said (troubles.Refused reason) = false
is_said troubles.Crowded = false
is_said troubles.LongSource = false
is_said troubles.Failed = false

-- the trouble that it is that an image has no summary
abbrev pub summary_trouble : SummaryFault → Trouble
summary_trouble sums.NotImage = troubles.NotImage
summary_trouble sums.Damaged = troubles.Damaged
summary_trouble sums.Disk = troubles.Disk

-- the status of a call that came to this
abbrev pub ended_status : Result (Unit {0}) Trouble → Status
ended_status (Ok done) = statuses.Done
ended_status (Err trouble) = status_of trouble

-- a call ended well, or found that something differs
abbrev pub IsTold : Status → Type 0
IsTold status = (status ≡ statuses.Done) ⊎ (status ≡ statuses.Differs)

-- ---- what is said

-- a line feed ends the text
pub record IsLine (text : List ℕ) : Type 0 where
  pub front : List ℕ
  pub text_is : text ≡ front ++ 0x0a ∷ []

-- a line is put, by one call, which may fail
pub record Says (old new : SinkState) : Type 0 where
  pub text : List ℕ
  pub is_line : IsLine text
  pub result : Result (Unit {0}) SinkFault
  pub put : IsPut old new text result

-- a line is said, or nothing is
abbrev pub SaysIf : Bool → SinkState → SinkState → Type 0
SaysIf true old new = Says old new
SaysIf false old new = new ≡ old

-- a trouble is said, unless it was said already
abbrev pub Tells : Trouble → SinkState → SinkState → Type 0
Tells trouble old new = SaysIf (not (is_said trouble)) old new

-- A call that came to this ends so. It says something exactly where it does not end well.
pub record Ends (done : Result (Unit {0}) Trouble) (status : Status) (old new : SinkState) : Type 0 where
  pub status_is : status ≡ ended_status done
  pub silent : OnOk done (new ≡ old)
  pub told : IfErr done (λ trouble. Tells trouble old new)
