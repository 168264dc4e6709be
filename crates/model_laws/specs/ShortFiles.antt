-- Entries that the versions of the format spell alike.
use Rattle.std.specs.Prelude.{◌≡◌, ℕ, ◌<◌, List, length}
use Rattle.store_model.specs.Paths.{Path}
use Rattle.store_model.specs.Trees.{Entry}
use Rattle.store_model.specs.Trees.Node.{File}
use Rattle.store_model.specs.Pairs.{inline_limit}

-- what stands at a path is no file of at most 200 bytes
abbrev pub HasNoShortFile : Path × Entry → Type 0
HasNoShortFile entry = (bytes : List ℕ) → entry.1.node ≡ File bytes → inline_limit < length bytes
