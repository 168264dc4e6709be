-- What the bytes of a slot are, and the character that stands for them.
use Rattle.std.specs.Prelude.{◌≡◌, ℕ, ◌+◌, ◌<◌, List, length, slice_index, Some, None}
use Rattle.store_model.specs.Parameters.{block_len, height_limit, table_at}
use Rattle.store_model.specs.Pages.{Page, IsPage}
use Rattle.store_model.specs.Images.{slot_bytes, bytes_at}
use Rattle.slot_map.specs.declared.contents.Content.{Content}
use Rattle.slot_map.specs.declared.contents.Content.TheVariants as contents

-- a page of this level, which is one that a list may have, and its bytes
pub record HoldsPage (slot : List ℕ) (level : ℕ) : Type 0 where
  pub page : Page
  pub is_page : IsPage page
  pub level_is : page.label.level ≡ level
  pub below : level < height_limit
  pub bytes : slot ≡ slot_bytes (Some page)

-- what the bytes of a slot are: zeros, a page of that level, or neither
abbrev pub Holds : List ℕ → Content → Type 0
Holds slot contents.Free = slot ≡ slot_bytes None
Holds slot (contents.Page level) = HoldsPage slot level
Holds slot contents.Other = (slot ≡ slot_bytes None → ⊥) × ((level : ℕ) → HoldsPage slot level → ⊥)

-- the level of a page is one that a list may have
abbrev pub IsContent : Content → Type 0
IsContent contents.Free = Unit {0}
IsContent (contents.Page level) = level < height_limit
IsContent contents.Other = Unit {0}

-- the character for it: `.`, the digit of the level, or `?`
abbrev pub character : Content → ℕ
character contents.Free = 46
character (contents.Page level) = 48 + level
character contents.Other = 63

-- the character stands for what the slot holds
pub record ShowsSlot (slot : List ℕ) (char : ℕ) : Type 0 where
  pub content : Content
  pub holds : Holds slot content
  pub char_is : char ≡ character content

-- the first characters stand for the slots of the table of an image of so many slots, as they stand there
abbrev pub AreShown : ℕ → List ℕ → ℕ → List ℕ → Type 0
AreShown slots image first chars = (i : ℕ) → i < first
    → ShowsSlot (bytes_at image (table_at slots i) block_len) (slice_index chars i)

-- a character for each slot
pub record ShowsTable (slots : ℕ) (image chars : List ℕ) : Type 0 where
  pub length_is : length chars ≡ slots
  pub shown : AreShown slots image slots chars
