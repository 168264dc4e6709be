-- Where bytes come from that a call takes.
use Rattle.std.specs.Prelude.{ℕ, List, Option, Some, None, if◌then◌else◌, codes}
use Rattle.store_model.specs.Lists.{same_bytes}
use Rattle.box_words.specs.declared.origin.Origin.{Origin}
use Rattle.box_words.specs.declared.origin.Origin.TheVariants.{Input, Host}

-- the path on the host that a word names: nothing where it is `-`, which is standard input
abbrev pub path_said : List ℕ → Option (List ℕ)
path_said word = if same_bytes word (codes "-") then None else Some word

-- and the one that they come from
abbrev pub origin_path : Origin → Option (List ℕ)
origin_path Input = None
origin_path (Host path) = Some path.now
