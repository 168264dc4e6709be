-- How much of its source a call took that reads the lines of a script.
use Rattle.std.specs.Prelude.{◌≡◌, ℕ, ◌+◌, ◌≤◌, true, List, [], ◌++◌, length}
use Rattle.store_model.specs.Scripts.{script_limit}
use Rattle.script_lines.specs.SourceState.{SourceState}
use Rattle.script_lines.specs.LineState.{LineState}
use Rattle.image_subcommands.specs.declared.status.Status.{Status}
use Rattle.image_subcommands.specs.declared.status.Status.TheVariants as statuses

-- so many bytes were taken from the source
pub record HasTaken (count : ℕ) (old new : SourceState) : Type 0 where
  pub taken : List ℕ
  pub taken_is : old.left ≡ taken ++ new.left
  pub count_is : length taken ≡ count

-- the call says that the script is too long where as many bytes were taken as it may have, and one more; else no more
-- were taken than that, and a script that was read to its end has no more
pub record KeepsLimit (status : Status) (old new : SourceState) : Type 0 where
  pub too_long : status ≡ statuses.TooLong → HasTaken (script_limit + 1) old new
  pub within : (status ≡ statuses.TooLong → ⊥) → (count : ℕ) × (count ≤ script_limit) × HasTaken count old new
  pub whole : status ≡ statuses.Done → new.left ≡ []

-- A reader of which nothing was read yet.
pub record IsUnread {R : Type 0} (reader : LineState R) : Type 0 where
  pub held : reader.held ≡ []
  pub taken : reader.taken ≡ 0
  pub limit : reader.limit ≡ script_limit
  pub live : reader.is_live ≡ true
