-- Counts that stay at the last value of a u64.
use Rattle.std.specs.Prelude.{ℕ, ◌+◌, ◌-◌, ◌^◌, ◌≤◌, min, Result, Ok, Err}

-- so many more, up to the last value of a u64, at which a count stays
abbrev pub raised_by : ℕ → ℕ → ℕ
raised_by count more = min (count + more) (2 ^ 64 - 1)

-- one more
abbrev pub raised : ℕ → ℕ
raised count = raised_by count 1

-- a count rose: it is greater than it was, or stands at the last value of a u64
abbrev pub Rose : ℕ → ℕ → Type 0
Rose old new = raised old ≤ new

-- what a call makes of a count of failed calls: Ok leaves it as it was, and a fault raises it by one
abbrev pub faults_after : {T E : Type 0} → ℕ → Result T E → ℕ
faults_after count (Ok value) = count
faults_after count (Err fault) = raised count
