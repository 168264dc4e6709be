-- The bytes of an image: header, slots, layout, and what recovery makes of an image.
use Rattle.std.specs.Prelude.{◌≡◌, ℕ, ◌+◌, ◌*◌, List, [], ◌∷◌, ◌++◌, map, length, take, drop, Bool, not, ◌&&◌, Option}
use Rattle.std.specs.Prelude.{Some, None, slice_index, slice_set, ◌==◌, if◌then◌else◌, codes}
use Rattle.std.specs.Int.{w16, w32, to_be_bytes}
use Rattle.std.specs.List.{flat_map}
use Rattle.store_model.specs.declared.draw_kind.DrawKind.{DrawKind}
use Rattle.store_model.specs.declared.draw_kind.DrawKind.TheVariants.{Ruler, Sha256}
use Rattle.store_model.specs.declared.version.Version.{Version}
use Rattle.store_model.specs.declared.version.Version.TheVariants.{One, Two}
use Rattle.store_model.specs.Lists.{zeros, zero_filled, numbers_below}
use Rattle.store_model.specs.Parameters.{Parameters, IsParameters, block_len, gate_at, mark_blocks, mark_at, shadow_at}
use Rattle.store_model.specs.Parameters.{table_at, image_len}
use Rattle.store_model.specs.Trees.{Tree, IsTree}
use Rattle.store_model.specs.Pairs.{value_limit}
use Rattle.store_model.specs.Labels.{label_bytes}
use Rattle.store_model.specs.Draws.{draw_of}
use Rattle.store_model.specs.Pages.{Cell, Page, Fits, pages}
use Rattle.store_model.specs.Placement.{Table, place}

-- the first byte of an image, an H: a disk that begins otherwise is no image
abbrev pub first_byte : ℕ
first_byte = 72

abbrev pub kind_byte : DrawKind → ℕ
kind_byte Ruler = 0
kind_byte Sha256 = 1

abbrev pub version_byte : Version → ℕ
version_byte One = 1
version_byte Two = 2

-- where a header has the byte of its version
abbrev pub version_at : ℕ
version_at = 14

-- the header block: the text HSTORE01, slots, height, draw kind, the format's version, a zero, the seed, zeros
unfoldable pub header : Parameters → List ℕ
header p = zero_filled block_len (codes "HSTORE01" ++ to_be_bytes w32 p.slots ++ p.height ∷ kind_byte p.kind
    ∷ version_byte p.version ∷ 0 ∷ p.seed)

abbrev pub value_bytes : Option (List ℕ) → List ℕ
value_bytes None = []
value_bytes (Some v) = to_be_bytes w16 (length v) ++ zero_filled value_limit v

-- the key, and at level 0 the value's length and the value, zero-filled
unfoldable pub cell_bytes : Cell → List ℕ
cell_bytes cell = cell.key ++ value_bytes cell.value

-- a slot that holds a page: 01, the label, the number of cells, the cells, zeros
unfoldable pub page_bytes : Page → List ℕ
page_bytes page = zero_filled block_len
    (1 ∷ label_bytes page.label ++ length page.cells ∷ flat_map cell_bytes page.cells)

-- an empty slot is all zeros
unfoldable pub slot_bytes : Option Page → List ℕ
slot_bytes None = zeros block_len
slot_bytes (Some page) = page_bytes page

-- the slots of a table, each as its bytes
abbrev pub slots_of : Table → List (List ℕ)
slots_of table = map slot_bytes table

-- the table as bytes
unfoldable pub table_bytes : Table → List ℕ
table_bytes table = flat_map slot_bytes table

-- the bytes of the areas between header and table: gate block, marks area and shadow
unfoldable pub journal_len : ℕ → ℕ
journal_len slots = block_len * (1 + mark_blocks slots + slots)

-- the one image of a tree under its parameters
unfoldable pub layout : Tree → Parameters → List ℕ
layout t p = header p ++ zeros (journal_len p.slots) ++ table_bytes (place (draw_of p) (pages t p))

-- n bytes of the image, from a place on
abbrev pub bytes_at : List ℕ → ℕ → ℕ → List ℕ
bytes_at image at n = take n (drop at image)

-- whether the commit flag is set: byte 0 of the gate block is not 0
unfoldable pub is_flag_set : List ℕ → Bool
is_flag_set image = not (slice_index image gate_at == 0)

-- whether slot i is marked
unfoldable pub is_marked : List ℕ → ℕ → Bool
is_marked image i = not (slice_index image (mark_at i) == 0)

-- the header of an image, made one of version 2
abbrev pub header_as_two : List ℕ → List ℕ
header_as_two image = slice_set (take block_len image) version_at (version_byte Two)

-- the header of an image of so many slots, as it is read. Where the commit flag is set and the mark behind the last
-- slot's is not 0, the journal makes the image one of version 2. Then the header is read with that version, whichever
-- it names
unfoldable pub viewed_header : ℕ → List ℕ → List ℕ
viewed_header slots image = if is_flag_set image
    && is_marked image slots then header_as_two image else take block_len image

-- the image's header, as it is read, names these parameters
pub record NamesParameters (image : List ℕ) (p : Parameters) : Type 0 where
  pub in_range : IsParameters p
  pub header_is : viewed_header p.slots image ≡ header p

-- what recovery leaves in slot i: its shadow where the commit flag is set and the slot marked, and else the slot
unfoldable pub recovered_slot : ℕ → List ℕ → ℕ → List ℕ
recovered_slot slots image i =
    bytes_at image (if is_flag_set image && is_marked image i then shadow_at slots i else table_at slots i) block_len

-- what recovery leaves of an image: its header as it is read, zeros, and the slots
unfoldable pub recovered : ℕ → List ℕ → List ℕ
recovered slots image = viewed_header slots image ++ zeros (journal_len slots)
    ++ flat_map (recovered_slot slots image) (numbers_below slots)

-- what scrubbing makes of a slot: zeros where its byte 0 is 0, and else what it was
unfoldable pub scrubbed_block : List ℕ → List ℕ
scrubbed_block bytes = if slice_index bytes 0 == 0 then zeros block_len else bytes

-- what scrubbing leaves in slot i, of what recovery leaves
unfoldable pub scrubbed_slot : ℕ → List ℕ → ℕ → List ℕ
scrubbed_slot slots image i = scrubbed_block (recovered_slot slots image i)

-- what scrubbing leaves of an image: the recovered image, with the slots whose byte 0 is 0 made zero
unfoldable pub scrubbed : ℕ → List ℕ → List ℕ
scrubbed slots image = viewed_header slots image ++ zeros (journal_len slots)
    ++ flat_map (scrubbed_slot slots image) (numbers_below slots)

-- the image represents the tree: its header names the parameters, it has their length, the tree is one and fits, and
-- recovery leaves the tree's layout
pub record Represents (image : List ℕ) (t : Tree) (p : Parameters) : Type 0 where
  pub names : NamesParameters image p
  pub length_is : length image ≡ image_len p.slots
  pub tree : IsTree t
  pub fits : Fits t p
  pub layout_is : recovered p.slots image ≡ layout t p
