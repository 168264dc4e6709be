-- What a reader or a writer of std is adapted as.
use Rattle.std.specs.Prelude.{ℕ}

-- the reader or the writer, and how many calls of the source or the sink failed
pub record Adapted (S : Type 0) : Type 0 where
  pub inner : S
  pub faults : ℕ
