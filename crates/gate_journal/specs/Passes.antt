-- What each pass over the changed slots writes, and of the version in an upgrade.
use Rattle.std.specs.Prelude.{◌≡◌, ℕ, ◌<◌, List, slice_index}
use Rattle.store_model.specs.declared.version.Version.TheVariants.{Two}
use Rattle.store_model.specs.Lists.{zeros}
use Rattle.store_model.specs.Parameters.{block_len, mark_at, table_at}
use Rattle.store_model.specs.Images.{version_byte, version_at}
use Rattle.disk_model.specs.DiskCalls.{overwrite}
use Rattle.gate_journal.specs.declared.commit.Kind.{Kind}
use Rattle.gate_journal.specs.declared.commit.Kind.TheVariants.{Slots, Upgrade}
use Rattle.gate_journal.specs.declared.commit.Pass.{Pass}
use Rattle.gate_journal.specs.declared.commit.Pass.TheVariants.{Journal, Table, Erase}
use Rattle.gate_journal.specs.Places.{IsApart}
use Rattle.gate_journal.specs.Changes.{Changes, OutsideEntry, HasEntry, AreJournaled, AreErased, with_first, with_slots}
use Rattle.gate_journal.specs.Changes.{upgraded}

-- how many writes a pass makes for each changed slot
abbrev pub slot_writes : Pass → ℕ
slot_writes Journal = 2
slot_writes Table = 1
slot_writes Erase = 2

-- and for the version
abbrev pub version_writes : Kind → ℕ
version_writes Slots = 0
version_writes Upgrade = 1

-- a place outside what the pass writes for a slot
abbrev pub OutsideWrite : Pass → ℕ → ℕ → ℕ → Type 0
OutsideWrite Journal slots slot place = OutsideEntry slots slot place
OutsideWrite Table slots slot place = IsApart (table_at slots slot) block_len place
OutsideWrite Erase slots slot place = OutsideEntry slots slot place

-- the image after what the pass writes for a slot with these new bytes
abbrev pub HasWritten : Pass → ℕ → ℕ → List ℕ → List ℕ → List ℕ → Type 0
HasWritten Journal slots slot bytes old image = HasEntry slots slot 1 bytes image
HasWritten Table slots slot bytes old image = image ≡ overwrite old (table_at slots slot) bytes
HasWritten Erase slots slot bytes old image = HasEntry slots slot 0 (zeros block_len) image

-- where the pass writes the byte that it writes for the version: its mark is the one behind the last slot's
abbrev pub version_place : Pass → ℕ → ℕ
version_place Journal slots = mark_at slots
version_place Table slots = version_at
version_place Erase slots = mark_at slots

-- and which byte
abbrev pub version_value : Pass → ℕ
version_value Journal = 1
version_value Table = version_byte Two
version_value Erase = 0

-- a place outside what the pass writes for all changed slots
abbrev pub OutsideSlots : Pass → ℕ → Changes → ℕ → Type 0
OutsideSlots pass slots changes place = (k : ℕ) → k < changes.count → OutsideWrite pass slots (changes.slot k) place

-- a place outside what the pass writes
abbrev pub OutsidePass : Kind → Pass → ℕ → Changes → ℕ → Type 0
OutsidePass kind pass slots changes place = OutsideSlots pass slots changes place
    × IsApart (version_place pass slots) (version_writes kind) place

-- the image after what the pass writes for the first n of the changed slots
abbrev pub HasPassedFirst : Pass → ℕ → Changes → ℕ → List ℕ → List ℕ → Type 0
HasPassedFirst Journal slots changes n old image = AreJournaled slots changes n image
HasPassedFirst Table slots changes n old image = image ≡ with_first slots changes n old
HasPassedFirst Erase slots changes n old image = AreErased slots changes n image

-- the image that the commit leads to
abbrev pub target : Kind → ℕ → Changes → List ℕ → List ℕ
target Slots slots changes image = with_slots slots changes image
target Upgrade slots changes image = upgraded slots changes image

-- the version's mark, in an upgrade
abbrev pub HasVersionMark : Kind → ℕ → ℕ → List ℕ → Type 0
HasVersionMark Slots slots mark image = Unit
HasVersionMark Upgrade slots mark image = slice_index image (mark_at slots) ≡ mark

-- the image after the pass
abbrev pub HasPassed : Kind → Pass → ℕ → Changes → List ℕ → List ℕ → Type 0
HasPassed kind Journal slots changes old image = AreJournaled slots changes changes.count image
    × HasVersionMark kind slots 1 image
HasPassed kind Table slots changes old image = image ≡ target kind slots changes old
HasPassed kind Erase slots changes old image = AreErased slots changes changes.count image
    × HasVersionMark kind slots 0 image
