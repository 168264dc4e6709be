-- The command line as `clap` sees it: each subcommand with its arguments all required and of one value.
use Rattle.std.specs.Prelude.{◌≡◌, List, [], ◌∷◌, ◌++◌, true, false, map, codes, Option, Some, if◌then◌else◌}
use Rattle.std.specs.Borrow.{Bor}
use Rattle.std.specs.Str.{bytes_eq}
use Rattle.clap.specs.Simple.{App, Shape, new_rule, new_shape}
use Rattle.clap.specs.Walk.{Row, Rule, Text, first_of}
use Rattle.clap.specs.declared.builder.value_parser.ValueParser.{ValueParser}
use Rattle.clap.specs.declared.builder.value_parser.ValueParser.TheVariants as parsers
use Rattle.store_model.specs.declared.version.Version.{Version}
use Rattle.store_model.specs.declared.version.Version.TheVariants.{One, Two}
use Rattle.store_model.specs.Grammar.{number_limit}
use Rattle.store_model.specs.Parameters.{slots_limit, height_limit}
use Rattle.store_model.specs.Words.{Request, commands_limit}
use Rattle.store_model.specs.Words.Request.{Run, Session, Check, Scrub, Wipe, Upgrade, Dump, Load}

-- an argument whose one value passes the parser
abbrev pub argument : Text → ValueParser → Rule
argument name parser = record (new_rule name) { required = true; parser = Some parser }

-- a command with these arguments, which knows no request for help
abbrev pub without_help : Text → List Rule → Shape
without_help name rules = record (new_shape name) { rules = rules; disable_help_flag = true }

-- the word that makes images of a version
abbrev pub format_word : Version → Text
format_word One = codes "format"
format_word Two = codes "format2"

-- the subcommand that makes them, where its DRAW passes this parser
abbrev pub format_subcommand : Version → ValueParser → Shape
format_subcommand version draws = without_help (format_word version)
    (argument (codes "SLOTS") (parsers.Unsigned 1 slots_limit)
    ∷ argument (codes "HEIGHT") (parsers.Unsigned 1 height_limit)
    ∷ argument (codes "DRAW") draws ∷ argument (codes "SEED") parsers.String ∷ [])

abbrev pub big_subcommand : Shape
big_subcommand = without_help (codes "big")
    (argument (codes "NUMBER") (parsers.Unsigned 0 number_limit)
    ∷ argument (codes "COUNT") (parsers.Unsigned 1 commands_limit) ∷ [])

-- the words that ask for something by themselves, and what each asks for
abbrev pub singles : List (Text × Request)
singles = (codes "run", Run) ∷ (codes "session", Session) ∷ (codes "check", Check) ∷ (codes "scrub", Scrub)
    ∷ (codes "wipe", Wipe) ∷ (codes "upgrade", Upgrade) ∷ (codes "dump", Dump) ∷ (codes "load", Load) ∷ []

-- the subcommands, by the parser of each DRAW
abbrev pub subcommands_of : (Version → ValueParser) → List Shape
subcommands_of draws = format_subcommand One (draws One) ∷ format_subcommand Two (draws Two)
    ∷ map (λ single. without_help single.0 []) singles ++ big_subcommand ∷ []

-- the command line with no subcommands: one is required, and the program's name is not among them
abbrev pub without_subcommands : App
without_subcommands = record {
  top = record (without_help (codes "hstore") []) {
    no_binary_name = true;
    disable_help_subcommand = true;
    subcommand_required = true;
  };
  subs = [];
}

-- and the whole
abbrev pub line_of : (Version → ValueParser) → App
line_of draws = record { top = record without_subcommands.top { is_leaf = false }; subs = subcommands_of draws }

-- the parser takes the names of the draws, and nothing else
pub record TakesDraws (draws : ValueParser) : Type 0 where
  pub names : Bor (List (Bor Text))
  pub parser_is : draws ≡ parsers.Names names
  pub names_are : map (λ name. name.now) names.now ≡ codes "ruler" ∷ codes "sha256" ∷ []

-- the command line is as it is defined here
pub record IsLine (app : App) : Type 0 where
  pub draws : Version → ValueParser
  pub takes_draws : (version : Version) → TakesDraws (draws version)
  pub line_is : app ≡ line_of draws

-- the names of the arguments of a subcommand
abbrev pub format_arguments : List Text
format_arguments = codes "SLOTS" ∷ codes "HEIGHT" ∷ codes "DRAW" ∷ codes "SEED" ∷ []

abbrev pub arguments_of : Text → List Text
arguments_of name =
    if bytes_eq name (codes "format") then format_arguments
    else if bytes_eq name (codes "format2") then format_arguments
    else if bytes_eq name (codes "big") then codes "NUMBER" ∷ codes "COUNT" ∷ []
    else []

-- The line is what the matches have: the name of a subcommand, and in its turn the value of each of the arguments of
-- it.
pub record HoldsLine (line : List Text) (found : Option (Text × List Row)) : Type 0 where
  pub subcommand : Text
  pub values : List Text
  pub rows : List Row
  pub line_is : line ≡ subcommand ∷ values
  pub found_is : found ≡ Some (subcommand, rows)
  pub values_are : map (λ name. first_of name rows) (arguments_of subcommand) ≡ map Some values
