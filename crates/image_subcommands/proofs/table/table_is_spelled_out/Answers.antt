use Rattle.std.proofs.Common.{◌≡◌, refl}
use Rattle.image_subcommands.specs.declared.status.Status.{Status}
use Rattle.image_subcommands.specs.Statuses.{Subcommand, Subcommand as words, row, is_among, endings, spelled}
use Rattle.image_subcommands.specs.Statuses.{IsOneOf, IsStatusOf}
use Rattle.image_subcommands.proofs.EachStatus.{ends_in}
use Rattle.image_subcommands.proofs.table.table_is_spelled_out.Goals as goal

as_spelled : (word : Subcommand) → endings word ≡ spelled word
as_spelled words.Format = refl
as_spelled word = refl

pub returns-clause-words : goal.returns-clause-words
returns-clause-words c = as_spelled

in_endings : (word : Subcommand) (status : Status) → IsStatusOf word status → IsOneOf status (endings word)
in_endings words.Format = ends_in (λ s. is_among words.Format (row s).words) (endings words.Format) refl
in_endings word = ends_in (λ s. is_among word (row s).words) (endings word) refl

pub returns-clause-ends : goal.returns-clause-ends
returns-clause-ends c = in_endings
