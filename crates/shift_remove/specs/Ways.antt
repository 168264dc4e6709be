-- Ways round the slots.
use Rattle.std.specs.Prelude.{◌⊎◌, ℕ, ◌<◌, ◌≤◌}

-- the way from a start to a slot, going round, passes a third one: it lies from the start on, and before the slot
abbrev pub Passes : ℕ → ℕ → ℕ → Type 0
Passes start hole place = ((start ≤ hole) × (hole < place)) ⊎ ((place < start) × ((start ≤ hole) ⊎ (hole < place)))
