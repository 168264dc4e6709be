-- How placed pages become an image.
use Rattle.std.specs.Prelude.{◌≡◌, ◌⊎◌, ℕ, ◌+◌, ◌-◌, ◌/◌, ◌++◌, List, Bool, Result, OnOk}
use Rattle.store_model.specs.Lists.{zeros}
use Rattle.store_model.specs.Parameters.{Parameters, block_len, image_len}
use Rattle.store_model.specs.Draws.{draw_of}
use Rattle.store_model.specs.Pairs.{Pair}
use Rattle.store_model.specs.Pages.{pages_of_pairs}
use Rattle.store_model.specs.Placement.{Table, place}
use Rattle.store_model.specs.Images.{header, table_bytes, journal_len}
use Rattle.disk_model.specs.DiskState.{DiskState, IsDurable}
use Rattle.disk_model.specs.DiskCalls.{LeavesOnly}
use Rattle.gate_journal.specs.Places.{IsApart, Made}
use Rattle.gate_journal.specs.Formats.{NamesNoParameters}
use Rattle.image_writer.specs.Filling.{OutsideFree, AreFilled, IsJournalZero, OutsideJournal, HasHeaderRest}

-- the image with these parameters, an empty journal and this table
unfoldable pub image_of : Parameters → Table → List ℕ
image_of p table = header p ++ zeros (journal_len p.slots) ++ table_bytes table

-- the image of a list of pairs; that of a tree's pairs is the layout of the tree
abbrev pub image_of_pairs : Parameters → List Pair → List ℕ
image_of_pairs p s = image_of p (place (draw_of p) (pages_of_pairs (draw_of p) s))

-- a place of the first byte or of a slot that is not free
pub record OutsideRest (slots : ℕ) (free : List Bool) (place : ℕ) : Type 0 where
  pub beside_free : OutsideFree slots free place
  pub beside_journal : OutsideJournal slots place
  pub beside_header : IsApart 1 (block_len - 1) place

-- all is written but the slots that are not free, and the first byte
pub record HasRest (p : Parameters) (free : List Bool) (image : List ℕ) : Type 0 where
  pub filled : AreFilled p.slots free p.slots image
  pub journal : IsJournalZero p.slots image
  pub header : HasHeaderRest p image

-- no image, or this one
abbrev pub IsOrNone : List ℕ → List ℕ → Type 0
IsOrNone whole image = NamesNoParameters image ⊎ (image ≡ whole)

-- What was made of a disk from the first moment to the second: after Ok it reads this image, durably, and so many
-- writes
-- and syncs were made as write each block of it once, and the first byte by itself. Whatever the answer, the disk reads
-- no image or that one; and where nothing was pending at first, so does each image that a crash at any moment may
-- leave.
pub record Becomes {T E : Type 0} (p : Parameters) (whole : List ℕ) (start now : DiskState) (result : Result T E)
    : Type 0 where
  pub done : OnOk result (now.bytes ≡ whole)
  pub durable : OnOk result (IsDurable now)
  pub made : OnOk result (Made (image_len p.slots / block_len + 1) 2 start now)
  pub reads : IsOrNone whole now.bytes
  pub crash : IsDurable start → LeavesOnly start now (IsOrNone whole)
