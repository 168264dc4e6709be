-- The numbers that calls end with.
use Rattle.std.specs.Prelude.{ℕ}
use Rattle.box_words.specs.declared.status.Status.{Status}
use Rattle.box_words.specs.declared.status.Status.TheVariants as statuses

abbrev pub code_of : Status → ℕ
code_of statuses.Done = 0
code_of statuses.Differs = 1
code_of statuses.Words = 2
code_of statuses.Input = 3
code_of statuses.Output = 4
code_of statuses.Disk = 5
code_of statuses.NotImage = 7
code_of statuses.Damaged = 8
code_of statuses.NoMemory = 9
code_of statuses.NotOpened = 12
code_of statuses.Unequal = 13
code_of statuses.BadListing = 15
code_of statuses.Full = 16
code_of statuses.Path = 17
code_of statuses.Host = 18
code_of statuses.Locked = 19
