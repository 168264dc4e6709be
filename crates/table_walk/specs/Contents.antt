-- What a slot of a table holds.
use Rattle.std.specs.Prelude.{◌≡◌, ℕ, ◌<◌, List, Option, Some, None}
use Rattle.store_model.specs.Labels.{Label}
use Rattle.store_model.specs.Pages.{Page, IsPage}
use Rattle.store_model.specs.Images.{slot_bytes}
use Rattle.table_walk.specs.declared.content.Content.{Content}
use Rattle.table_walk.specs.declared.content.Content.TheVariants.{Free, Held, Other}

-- what a slot of a table may hold, whose lists have this height: nothing, or a page of a level below it
abbrev pub MayStand : ℕ → Option Page → Type 0
MayStand height None = Unit {0}
MayStand height (Some page) = IsPage page × (page.label.level < height)

-- a page of this label whose level is below the height, and its bytes
pub record IsHeld (slot : List ℕ) (height : ℕ) (label : Label) : Type 0 where
  pub page : Page
  pub stands : MayStand height (Some page)
  pub bytes : slot ≡ slot_bytes (Some page)
  pub label_is : label ≡ page.label

-- what is told of the bytes of a slot
abbrev pub TellsContent : List ℕ → ℕ → Content → Type 0
TellsContent slot height Free = slot ≡ slot_bytes None
TellsContent slot height (Held label) = IsHeld slot height label
TellsContent slot height Other = (what : Option Page) → MayStand height what → slot ≡ slot_bytes what → ⊥
