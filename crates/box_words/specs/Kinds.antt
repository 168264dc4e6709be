-- What the words of a subcommand ask for, by its kind.
use Rattle.std.specs.Prelude.{⊤}
use Rattle.clap.specs.declared.parser.matches.ArgMatches.{ArgMatches}
use Rattle.box_words.specs.Calls.{IsAttr, IsGet, IsMkdir, IsMv, IsRm}
use Rattle.box_words.specs.Said.{IsCreate}
use Rattle.box_words.specs.declared.call.Call.{Call}
use Rattle.box_words.specs.declared.subcommands.Kind.{Kind}
use Rattle.box_words.specs.declared.subcommands.Kind.TheVariants as kinds

-- nothing is said of the others: they change no image
abbrev pub IsCall : Kind → ArgMatches → Call → Type 0
IsCall kinds.Create given call = IsCreate given call
IsCall kinds.Get given call = IsGet given call
IsCall kinds.Rm given call = IsRm given call
IsCall kinds.Mv given call = IsMv given call
IsCall kinds.Mkdir given call = IsMkdir given call
IsCall kinds.Attr given call = IsAttr given call
IsCall kind given call = ⊤
