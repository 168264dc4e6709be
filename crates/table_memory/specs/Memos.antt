-- What was found under labels of slots, kept in memory.
use Rattle.std.specs.Prelude.{◌≡◌, ◌≢◌, ◌⊎◌, ℕ, ◌+◌, ◌*◌, ◌%◌, ◌≤◌, List, [], ◌∷◌, length, slice_get, slice_index}
use Rattle.std.specs.Prelude.{Option, Some, None}
use Rattle.std.specs.Int.{w64, from_be_bytes}
use Rattle.std.specs.Simd.{first_chunks}
use Rattle.std.specs.Map.{lookup}
use Rattle.std.specs.BTreeMap.{is_at}
use Rattle.store_model.specs.Labels.{Lead, Label, label_bytes, label_cmp}
use Rattle.store_model.specs.Labels.Lead.{Start, Leader}
use Rattle.store_model.specs.Draws.{Draw}
use Rattle.store_model.specs.Pages.{Page}
use Rattle.store_model.specs.PageMaps.{PageMap, page_at, HoldsPages}
use Rattle.store_base.specs.SlotsState.{SlotsState, IsObservable}
use Rattle.table_memory.specs.Spelled.{label_in}
use Rattle.table_memory.specs.Staging.{StagedPages}

-- a number within 64 bits
abbrev pub wrapped : ℕ → ℕ
wrapped n = n % 18446744073709551616

-- the sum of all sums on the way from a first one over the numbers that words spell, each within 64 bits
abbrev pub checked : List (List ℕ) → ℕ → ℕ → ℕ
checked [] sum sums = sums
checked (word ∷ words) sum sums = checked words (wrapped (sum + from_be_bytes w64 word))
    (wrapped (sums + wrapped (sum + from_be_bytes w64 word)))

-- the first 15 words of eight bytes of a key
abbrev pub checksum_words : List ℕ → List (List ℕ)
checksum_words key = first_chunks 8 15 key

-- the checksum of a label, from a first number: that number, or with it that of the last two bytes and of the words
-- of the key that leads (Fletcher)
unfoldable pub checksum_from : Lead → ℕ → ℕ
checksum_from Start first = first
checksum_from (Leader key) first =
    checked (checksum_words key) (first + 256 * slice_index key 122 + slice_index key 123) 0

abbrev pub checksum_of : Label → ℕ
checksum_of l = checksum_from l.lead (l.level + 256 * l.index)

-- the checksum of the label that these bytes spell
unfoldable pub checksum : List ℕ → ℕ
checksum bytes = checksum_of (label_in bytes)

-- how many places there are
abbrev pub memo_places : ℕ
memo_places = 227

-- the place of a label, by its bytes
unfoldable pub memo_place : List ℕ → ℕ
memo_place bytes = checksum bytes % memo_places

-- what was found, at each place with its label: a page, or that there is none
abbrev pub Remembered : Type 0
Remembered = List (Option (Label × Option Page))

-- no more are remembered than may be
abbrev pub RemembersFew : Remembered → Type 0
RemembersFew memo = length memo ≤ memo_places

-- this is remembered of the label
abbrev pub IsRemembered : Remembered → Label → Option Page → Type 0
IsRemembered memo l page = slice_get memo (memo_place (label_bytes l)) ≡ Some (Some (l, page))

-- what is at a place now was there before
abbrev pub KeepsPlaces : Remembered → Remembered → Type 0
KeepsPlaces old new = (place : ℕ) (entry : Label × Option Page) → slice_get new place ≡ Some (Some entry)
    → slice_get old place ≡ Some (Some entry)

-- where the slots are observable, what is remembered of each label is what the map that they hold has there
pub record IsMemoOf (d : Draw) (slots : SlotsState) (memo : Remembered) : Type 0 where
  pub tells : (m : PageMap) → IsObservable slots → HoldsPages d slots.slots m → (l : Label) (page : Option Page)
      → IsRemembered memo l page → page ≡ page_at m l

-- what is remembered of this label was found now, and of each other label before
abbrev pub Remembers : Remembered → Remembered → Label → Option Page → Type 0
Remembers old new at found = (l : Label) (page : Option Page) → IsRemembered new l page
    → ((label_bytes l ≢ label_bytes at) × IsRemembered old l page) ⊎ ((label_bytes l ≡ label_bytes at) × (page ≡ found))

-- as that, and of this label may stay what was
abbrev pub RemembersMore : Remembered → Remembered → Label → Option Page → Type 0
RemembersMore old new at found = (l : Label) (page : Option Page) → IsRemembered new l page
    → IsRemembered old l page ⊎ ((label_bytes l ≡ label_bytes at) × (page ≡ found))

-- what is staged under a label, if anything is
abbrev pub staged_at : StagedPages → Label → Option (Option Page)
staged_at changes l = lookup (is_at (label_cmp l)) changes

-- this is known of the label: it is staged under it, or nothing is, and it is remembered of it
abbrev pub IsKnownPage : StagedPages → Remembered → Label → Option Page → Type 0
IsKnownPage changes memo l page = (staged_at changes l ≡ Some page)
    ⊎ ((staged_at changes l ≡ None) × IsRemembered memo l page)

-- something is known of the label: to look its page up takes no memory
pub record IsKnown (changes : StagedPages) (memo : Remembered) (l : Label) : Type 0 where
  pub found : Option Page
  pub known : IsKnownPage changes memo l found

-- behind changes that is remembered of a label which was known of it with them
abbrev pub Renews : StagedPages → Remembered → Remembered → Type 0
Renews changes old new = (l : Label) (page : Option Page) → IsRemembered new l page → IsKnownPage changes old l page
