-- What an image is made with, and where its areas lie.
use Rattle.std.specs.Prelude.{◌≡◌, ℕ, ◌+◌, ◌-◌, ◌*◌, ◌/◌, ◌≤◌, List, length}
use Rattle.store_model.specs.declared.draw_kind.DrawKind.{DrawKind}
use Rattle.store_model.specs.declared.version.Version.{Version}
use Rattle.store_model.specs.Lists.{IsBytes}

-- the number of table slots, the height of the lists, how starts and levels are drawn, the seed, and the version of the
-- format
pub record Parameters : Type 0 where
  pub slots : ℕ
  pub height : ℕ
  pub kind : DrawKind
  pub seed : List ℕ
  pub version : Version

-- the most slots, the greatest height, and the length of a seed
abbrev pub slots_limit : ℕ
slots_limit = 65536

abbrev pub height_limit : ℕ
height_limit = 8

abbrev pub seed_len : ℕ
seed_len = 32

-- the ranges: at least one slot and one level
pub record IsParameters (p : Parameters) : Type 0 where
  pub some_slot : 1 ≤ p.slots
  pub slots_in_range : p.slots ≤ slots_limit
  pub some_level : 1 ≤ p.height
  pub height_in_range : p.height ≤ height_limit
  pub seed_length : length p.seed ≡ seed_len
  pub seed_bytes : IsBytes p.seed

-- the same parameters under a version of the format
abbrev pub with_version : Parameters → Version → Parameters
with_version p version = record p { version = version }

-- the bytes of a block, and of a slot
abbrev pub block_len : ℕ
block_len = 4096

-- the blocks of the marks area: a byte for each slot and one for the version
unfoldable pub mark_blocks : ℕ → ℕ
mark_blocks slots = (slots + 1 + (block_len - 1)) / block_len

-- the first byte of the gate block
abbrev pub gate_at : ℕ
gate_at = block_len

-- the first byte of the marks area
abbrev pub marks_at : ℕ
marks_at = 2 * block_len

-- the mark of slot i
abbrev pub mark_at : ℕ → ℕ
mark_at i = marks_at + i

-- the shadow block of slot i
unfoldable pub shadow_at : ℕ → ℕ → ℕ
shadow_at slots i = block_len * (2 + mark_blocks slots + i)

-- slot i of the table
unfoldable pub table_at : ℕ → ℕ → ℕ
table_at slots i = block_len * (2 + mark_blocks slots + slots + i)

-- the length of an image
unfoldable pub image_len : ℕ → ℕ
image_len slots = block_len * (2 + mark_blocks slots + 2 * slots)
