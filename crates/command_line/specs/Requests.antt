-- What the program calls a request, and the file that one needs.
use Rattle.std.specs.Prelude.{◌≡◌, ◌-◌, get_or, List, [], ◌∷◌, Option, Some, None, codes}
use Rattle.clap.specs.Walk.{Text}
use Rattle.store_model.specs.Parameters.{image_len}
use Rattle.store_model.specs.Words.{Request}
use Rattle.store_model.specs.Words.Request.{Format, Run, Big}
use Rattle.command_line.specs.Line.{singles}
use denote.Enum.Declared.{tag_of}
use Rattle.command_line.specs.contracts.request.Request.{the_type}
use Rattle.command_line.specs.declared.request.Request as own
use Rattle.command_line.specs.declared.request.Request.TheVariants as own_requests
use Rattle.command_line.specs.declared.image_file.Wanted.{Wanted}
use Rattle.command_line.specs.declared.image_file.Wanted.TheVariants.{Usage, Existing, Fresh}

-- what the program calls a request, as the definitions have it: those with no values stand in one order in both
abbrev pub request_seen : own.Request → Request
request_seen (own_requests.Format p) = Format p
request_seen (own_requests.Big number count) = Big number count
request_seen request = (get_or singles (tag_of the_type request - 1) (codes "run", Run)).1

-- the file that a request needs: one that is there, or for a format one of the image's length
abbrev pub wanted_by : Request → Wanted
wanted_by (Format p) = Fresh (image_len p.slots)
wanted_by _ = Existing

abbrev pub wanted_of : Option Request → Wanted
wanted_of None = Usage
wanted_of (Some request) = wanted_by request

-- The words ask for a mirror: `mirror`, and the path of the other image, whatever it is.
pub record AskMirror (words : List Text) : Type 0 where
  pub other : Text
  pub words_are : words ≡ codes "mirror" ∷ other ∷ []
