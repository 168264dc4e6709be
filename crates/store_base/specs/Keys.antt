-- Keys.
use Rattle.std.specs.Prelude.{◌≡◌, ℕ, List, length}
use Rattle.store_model.specs.Lists.{IsBytes}

-- a key is 124 bytes
abbrev pub IsKey : List ℕ → Type 0
IsKey k = (length k ≡ 124) × IsBytes k
