-- The header of an image as it is read, said of the image alone.
use Rattle.std.specs.Prelude.{ℕ, List, length, take, Bool, ◌&&◌, nat_le, ◌==◌, if◌then◌else◌}
use Rattle.std.specs.Int.{w32, from_be_bytes}
use Rattle.store_model.specs.Parameters.{slots_limit, block_len, image_len}
use Rattle.store_model.specs.Images.{bytes_at, is_flag_set, is_marked, header_as_two}

-- the number of slots that the header names
abbrev pub named_slots : List ℕ → ℕ
named_slots image = from_be_bytes w32 (bytes_at image 8 4)

-- whether it is in range, and the image has the length of one with so many slots
abbrev pub has_named_length : List ℕ → Bool
has_named_length image = (nat_le 1 (named_slots image) && nat_le (named_slots image) slots_limit)
    && (length image == image_len (named_slots image))

-- the header, with the version 2 where the image is of such a length, the commit flag is set and the mark behind
-- those of the slots is not 0
unfoldable pub header_of : List ℕ → List ℕ
header_of image = if has_named_length image
    && (is_flag_set image && is_marked image (named_slots image)) then header_as_two image else take block_len image
