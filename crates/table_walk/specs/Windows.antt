-- Slots that are read ahead.
use Rattle.std.specs.Prelude.{ℕ, ◌+◌, ◌-◌, ◌*◌, ◌<◌, ◌≤◌, List}
use Rattle.store_model.specs.Parameters.{block_len}
use Rattle.store_model.specs.Images.{bytes_at}
use Rattle.store_base.specs.SlotsState.{SlotsState, IsObservable, HoldsSlots}
use Rattle.table_walk.specs.declared.window.Window.{Window}

-- how many bytes a window has: those of one read
abbrev pub window_len : ℕ
window_len = 65536

-- the window has the bytes that the slots have
pub record IsWindowOf (state : SlotsState) (window : Window) : Type 0 where
  pub room : block_len * window.count ≤ window_len
  pub held : IsObservable state → HoldsSlots state.slots window.first window.bytes window.count

-- the window has this slot
abbrev pub Holds : Window → ℕ → Type 0
Holds window at = (window.first ≤ at) × (at < window.first + window.count)

-- its bytes
abbrev pub held_slot : Window → ℕ → List ℕ
held_slot window at = bytes_at window.bytes (block_len * (at - window.first)) block_len
