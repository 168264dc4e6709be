-- The range of the slots that are said.
use Rattle.std.specs.Prelude.{ℕ, Bool, true, ◌&&◌, Option, Some, None, nat_le}
use Rattle.store_model.specs.Parameters.{slots_limit}

-- slots that an image can have, where some are said
abbrev pub slots_fit : Option ℕ → Bool
slots_fit None = true
slots_fit (Some slots) = nat_le 1 slots && nat_le slots slots_limit
