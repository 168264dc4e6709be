-- Words that are given to a subcommand, by the names of its arguments and options.
use Rattle.std.specs.Prelude.{◌≡◌, List, [], ℕ, Bool, true, false, Some, None, if◌then◌else◌, codes}
use Rattle.std.specs.Prelude.{option_map, unwrap_or}
use Rattle.clap.specs.Matches.{found_of, matched_of, one_text, raw_values}
use Rattle.clap.specs.declared.parser.matches.ArgMatches.{ArgMatches}
use Rattle.box_words.specs.declared.options.Taken.{Taken}
use Rattle.box_words.specs.declared.options.Times.{Times}
use Rattle.box_words.specs.declared.options.Times.TheVariants.{AsImage, Kept, LeftOut}

-- the words behind a name, one after another
abbrev pub words_said : ArgMatches → List ℕ → List (List ℕ)
words_said given name = unwrap_or (option_map raw_values (matched_of (found_of given) name)) []

-- whether an option that stands alone is given
pub record IsGiven (given : ArgMatches) (option : List ℕ) (is : Bool) : Type 0 where
  pub there : one_text (found_of given) option ≡ Some (codes "true") → is ≡ true
  pub not_there : one_text (found_of given) option ≡ None → is ≡ false

-- whether times travel, where `--mtime` is given, and `--no-mtime`
abbrev pub times_said : Bool → Bool → Times
times_said kept left_out = if kept then Kept else if left_out then LeftOut else AsImage

-- how a folder is read, made or compared
pub record IsTaken (given : ArgMatches) (taken : Taken) : Type 0 where
  pub kept : Bool
  pub left_out : Bool
  pub skip_is : IsGiven given (codes "skip") taken.skip
  pub mode_is : IsGiven given (codes "no-mode") taken.no_mode
  pub links_are : IsGiven given (codes "no-links") taken.no_links
  pub kept_is : IsGiven given (codes "mtime") kept
  pub left_out_is : IsGiven given (codes "no-mtime") left_out
  pub times_are : taken.times ≡ times_said kept left_out
