-- The subcommands of the list, one after another.
use Rattle.std.proofs.Common.{◌≡◌, ◌∙◌, ◌+◌, ◌<◌, ℕ, true, false, List, [], ◌∷◌, length, get_or, drop}
use Rattle.std.proofs.Common.{drop-cons, add-one, Option, Some, None, ap, map, sym, subst, ◌≤◌, if◌then◌else◌}
use Rattle.std.proofs.lemmas.List.{drop_all}
use Rattle.clap.specs.Simple.{App, with_subcommand}
use Rattle.clap.specs.Walk.{Text}
use Rattle.clap.specs.declared.builder.value_parser.ValueParser.{ValueParser}
use Rattle.clap.specs.declared.builder.value_parser.ValueParser.TheVariants as parsers
use Rattle.store_model.specs.declared.version.Version.{Version}
use Rattle.store_model.specs.declared.version.Version.TheVariants.{One, Two}
use Rattle.store_model.specs.Lists.{same_bytes}
use Rattle.store_model.specs.Words.{Request}
use Rattle.command_line.specs.Building.{subcommand_told}
use Rattle.command_line.specs.Line.{IsLine, TakesDraws, line_of}
use Rattle.command_line.specs.Requests.{request_seen}
use Rattle.command_line.specs.declared.line.Argument.{Argument}
use Rattle.command_line.specs.declared.line.Subcommand.{Subcommand}
use Rattle.command_line.specs.declared.line.Subcommand.TheVariants.{Taking, Single}

-- those from one on
pub from_next : (rows : List Subcommand) (i : ℕ) (d : Subcommand) → i < length rows
    → drop i rows ≡ get_or rows i d ∷ drop (i + 1) rows
from_next rows i d low = rw add-one (drop-cons rows i d low)

-- a line with these behind its others
abbrev pub with_subcommands : App → List Subcommand → App
with_subcommands line [] = line
with_subcommands line (row ∷ rows) = with_subcommands (with_subcommand line (subcommand_told row).top) rows

-- the next of them goes behind those that are there
pub next_added : (before after whole : App) (rows : List Subcommand) (i : ℕ) (d : Subcommand)
    → with_subcommands before (drop i rows) ≡ whole → i < length rows
    → after ≡ with_subcommand before (subcommand_told (get_or rows i d)).top
    → with_subcommands after (drop (i + 1) rows) ≡ whole
next_added before after whole rows i d rest low added =
    ap (λ line. with_subcommands line (drop (i + 1) rows)) added
    ∙ ap (with_subcommands before) (sym (from_next rows i d low)) ∙ rest

-- the parsers of each DRAW, where the first two of them make images
abbrev draw_among : List Argument → ValueParser
draw_among (slots ∷ height ∷ draw ∷ rest) = draw.parser
draw_among _ = parsers.String

abbrev draw_of : Subcommand → ValueParser
draw_of (Taking name arguments) = draw_among arguments.now
draw_of (Single name asks) = parsers.String

abbrev pub draws_of : List Subcommand → Version → ValueParser
draws_of (one ∷ two ∷ rows) One = draw_of one
draws_of (one ∷ two ∷ rows) Two = draw_of two
draws_of _ version = parsers.String

-- with none left the line is that of the definition
pub is_line : (line whole : App) (rows : List Subcommand) (i : ℕ) → with_subcommands line (drop i rows) ≡ whole
    → length rows ≤ i → whole ≡ line_of (draws_of rows)
    → TakesDraws (draws_of rows One) → TakesDraws (draws_of rows Two) → IsLine line
is_line line whole rows i left all whole_is one two = record {
  draws = draws_of rows;
  takes_draws = λ (version : Version). elim version as (λ version. TakesDraws (draws_of rows version))
      [ One ↦ one | Two ↦ two ];
  line_is = ap (with_subcommands line) (sym (drop_all i rows all)) ∙ left ∙ whole_is;
}

-- what is found for a word among the subcommands, by the word and the find that some of them have
abbrev by_row : {A : Type 0} → Option (Text × A) → Text → A → A
by_row None word rest = rest
by_row (Some named) word rest = if same_bytes word named.0 then named.1 else rest

abbrev pub lookup : {A : Type 0} → (Subcommand → Option (Text × A)) → A → List Subcommand → Text → A
lookup of none [] word = none
lookup of none (row ∷ rows) word = by_row (of row) word (lookup of none rows word)

-- what a word asks for by itself, and the names of the arguments behind one
abbrev pub asked_alone : Subcommand → Option (Text × Option Request)
asked_alone (Taking name arguments) = None
asked_alone (Single name asks) = Some (name.now, Some (request_seen asks))

abbrev pub named_behind : Subcommand → Option (Text × List Text)
named_behind (Taking name arguments) = Some (name.now, map (λ argument. argument.name.now) arguments.now)
named_behind (Single name asks) = None

-- what is found among those that are left
module _ {A : Type 0} (of : Subcommand → Option (Text × A)) (none : A) (rows : List Subcommand) (i : ℕ) (word : Text)
    (found : A) (left : lookup of none (drop i rows) word ≡ found) where
  module _ (d row : Subcommand) (low : i < length rows) (row_is : get_or rows i d ≡ row) where
    begun : by_row (of row) word (lookup of none (drop (i + 1) rows) word) ≡ found
    begun = ap (λ first. lookup of none (first ∷ drop (i + 1) rows) word) (sym row_is)
        ∙ ap (λ all. lookup of none all word) (sym (from_next rows i d low)) ∙ left

    -- where the first of them is of this word, where it is of another, and where it has none
    pub found_here : (named : Text × A) → of row ≡ Some named → same_bytes word named.0 ≡ true → named.1 ≡ found
    found_here named is same =
        subst (λ b. (if b then named.1 else lookup of none (drop (i + 1) rows) word) ≡ found) same
        (subst (λ o. by_row o word (lookup of none (drop (i + 1) rows) word) ≡ found) is begun)

    pub passed_over : (named : Text × A) → of row ≡ Some named → same_bytes word named.0 ≡ false
        → lookup of none (drop (i + 1) rows) word ≡ found
    passed_over named is other =
        subst (λ b. (if b then named.1 else lookup of none (drop (i + 1) rows) word) ≡ found) other
        (subst (λ o. by_row o word (lookup of none (drop (i + 1) rows) word) ≡ found) is begun)

    pub passed_none : of row ≡ None → lookup of none (drop (i + 1) rows) word ≡ found
    passed_none is = subst (λ o. by_row o word (lookup of none (drop (i + 1) rows) word) ≡ found) is begun

  -- none is left
  pub none_left : length rows ≤ i → none ≡ found
  none_left all = ap (λ some. lookup of none some word) (sym (drop_all i rows all)) ∙ left
