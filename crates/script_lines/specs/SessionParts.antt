-- What parts of a session's line spell: a command that is to be a question, or a change.
use Rattle.std.specs.Prelude.{◌≡◌, ℕ, Bool, true, List, Option, Some, None, Result, Ok, Err, if◌then◌else◌, codes}
use Rattle.store_model.specs.declared.refusal.Refusal.{Refusal}
use Rattle.store_model.specs.declared.refusal.Refusal.TheVariants as refusals
use Rattle.store_model.specs.Grammar.{number_of, on_word, ◌>>=◌}
use Rattle.store_model.specs.Commands.{Command}
use Rattle.script_lines.specs.Sessions.{SessionCall, command_that, is_question, is_change}
use Rattle.script_lines.specs.Sessions.SessionCall.{Ask, Stage}

-- the call with the command that fields spell, where it is of the wanted kind
abbrev pub call_on : (Command → Bool) → (Command → SessionCall) → List (List ℕ) → Option SessionCall
call_on wanted call fields = command_that wanted fields >>= λ c. Some (call c)

-- the call of a word, the number of a session and the fields of a command
abbrev pub call_on_command : List ℕ → List ℕ → List (List ℕ) → Option SessionCall
call_on_command word number fields =
    on_word word (codes "ask") (number_of number >>= λ n. call_on is_question (Ask n) fields)
    (on_word word (codes "stage") (number_of number >>= λ n. call_on is_change (Stage n) fields) None)

-- the call with a command of the wanted kind, and else the refusal `syntax`
abbrev pub call_that : (Command → Bool) → (Command → SessionCall) → Command → Result SessionCall Refusal
call_that wanted call c = if wanted c then Ok (call c) else Err refusals.Syntax

-- it is the command, which is of the wanted kind
abbrev pub IsCommandThat : (Command → Bool) → Command → Command → Type 0
IsCommandThat wanted found c = (found ≡ c) × (wanted c ≡ true)
