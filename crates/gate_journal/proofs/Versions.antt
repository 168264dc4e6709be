-- The version of an image on the way of a commit: its mark in the journal, and its byte in the header.
use Rattle.std.proofs.Common.{◌≡◌, ◌⊎◌, ℕ, ◌<◌, ◌≤◌, List, [], ◌∷◌, length, take, slice_index, slice_set, not, ◌==◌}
use Rattle.std.proofs.Common.{refl, sym, ap, ◌∙◌, inl, inr, arith, get_or-take}
use Rattle.std.proofs.lemmas.Bool.{cases_lt, cases_eq}
use Rattle.std.proofs.lemmas.List.{set-set, set-get_or}
use Rattle.store_model.specs.Parameters.{mark_at}
use Rattle.store_model.specs.Images.{is_marked}
use Rattle.disk_model.specs.DiskCalls.{overwrite}
use Rattle.disk_model.proofs.Images.{SameOutside-overwrite}
use Rattle.gate_journal.specs.declared.commit.Kind.{Kind}
use Rattle.gate_journal.specs.declared.commit.Kind.TheVariants.{Slots, Upgrade}
use Rattle.gate_journal.specs.Places.{IsApart, SameAt}
use Rattle.gate_journal.specs.Changes.{Changes, with_slots}
use Rattle.gate_journal.specs.Passes.{version_writes, HasVersionMark, target}
use Rattle.gate_journal.proofs.Entries.{slice_index-overwrite}
use Rattle.gate_journal.proofs.Phases.{redo_header}
use Rattle.gate_journal.proofs.RedoHeaders.{header_marked, header_unmarked, header_apart}
use Rattle.gate_journal.proofs.Places.{SameAt-refl, SameAt-outside, bytes_at-same}

-- the version's mark in a whole journal
abbrev pub version_mark : Kind → ℕ
version_mark Slots = 0
version_mark Upgrade = 1

-- the header that the commit makes of this one
abbrev pub headed : Kind → List ℕ → List ℕ
headed Slots head = head
headed Upgrade head = slice_set head 14 2

-- a pass writes one byte for the version at most
pub version_few : (kind : Kind) → version_writes kind ≤ 1
version_few Slots = omega arith
version_few Upgrade = omega arith

-- a place lies outside a range of no place
none_apart : (at place : ℕ) → IsApart at 0 place
none_apart at place = elim (cases_lt place at) [ inl low ↦ inl low | inr high ↦ inr (omega arith) ]

-- the version's mark says which header the journal leads to
pub redo_headed : (kind : Kind) (slots : ℕ) (image : List ℕ) → slice_index image (mark_at slots) ≡ version_mark kind
    → redo_header slots image ≡ headed kind (take 4096 image)
unfolding is_marked
redo_headed Slots slots image mark = header_unmarked slots image (ap (λ (b : ℕ). not (b == 0)) mark)
redo_headed Upgrade slots image mark = header_marked slots image (ap (λ (b : ℕ). not (b == 0)) mark)

-- made twice, it is the same
pub headed-headed : (kind : Kind) (head : List ℕ) → headed kind (headed kind head) ≡ headed kind head
headed-headed Slots head = refl
headed-headed Upgrade head = set-set head 14 2 2

-- an upgrade makes one header of images that are the same but for the version's byte
pub headed-same : (kind : Kind) (places : ℕ → Type 0) (a b : List ℕ)
    → ((place : ℕ) → place < 4096 → IsApart 14 (version_writes kind) place → places place) → SameAt places a b
    → headed kind (take 4096 b) ≡ headed kind (take 4096 a)
headed-same Slots places a b within same =
    bytes_at-same places 0 4096 a b (λ place low high. within place high (none_apart 14 place)) same
headed-same Upgrade places a b within same = header_apart places a b within same

-- the image that the commit leads to is the one with the slots changed, but for the version's byte
pub target-same : (kind : Kind) (slots : ℕ) (changes : Changes) (image : List ℕ)
    → 15 ≤ length (with_slots slots changes image)
    → SameAt (IsApart 14 (version_writes kind)) (with_slots slots changes image) (target kind slots changes image)
target-same Slots slots changes image some = SameAt-refl (IsApart 14 0) (with_slots slots changes image)
target-same Upgrade slots changes image some =
    let changed = with_slots slots changes image in
    SameAt-outside (IsApart 14 1) 14 1 changed (overwrite changed 14 (2 ∷ [])) (λ place apart. apart)
    (SameOutside-overwrite changed 14 (2 ∷ []) some)

target_headed : (kind : Kind) (slots : ℕ) (changes : Changes) (image : List ℕ)
    → 15 ≤ length (with_slots slots changes image)
    → headed kind (take 4096 (target kind slots changes image)) ≡ take 4096 (target kind slots changes image)
target_headed Slots slots changes image some = refl
target_headed Upgrade slots changes image some =
    let changed = with_slots slots changes image in
    let head = take 4096 (overwrite changed 14 (2 ∷ [])) in
    let there : slice_index head 14 ≡ 2 = get_or-take 4096 (overwrite changed 14 (2 ∷ [])) 14 0 (omega arith)
    ∙ slice_index-overwrite changed 14 2 some in
    ap (slice_set head 14) (sym there) ∙ set-get_or head 14 0

-- and has the header that the commit makes
pub take-target : (kind : Kind) (slots : ℕ) (changes : Changes) (image : List ℕ)
    → 15 ≤ length (with_slots slots changes image)
    → take 4096 (target kind slots changes image) ≡ headed kind (take 4096 (with_slots slots changes image))
take-target kind slots changes image some =
    sym (target_headed kind slots changes image some)
    ∙ headed-same kind (IsApart 14 (version_writes kind)) (with_slots slots changes image)
    (target kind slots changes image) (λ place low apart. apart) (target-same kind slots changes image some)

-- the version's mark of a whole journal, where that of a commit of slots alone is not written
pub version_marked : (kind : Kind) (slots : ℕ) (image : List ℕ)
    → (IsApart (mark_at slots) (version_writes kind) (mark_at slots) → slice_index image (mark_at slots) ≡ 0)
    → HasVersionMark kind slots 1 image → slice_index image (mark_at slots) ≡ version_mark kind
version_marked Slots slots image unwritten mark = unwritten (inr (omega arith))
version_marked Upgrade slots image unwritten mark = mark

-- a place is not the version's mark, or is erased
pub version_erased : (kind : Kind) (slots : ℕ) (image : List ℕ) (place : ℕ) → HasVersionMark kind slots 0 image
    → IsApart (mark_at slots) (version_writes kind) place ⊎ (slice_index image place ≡ 0)
version_erased Slots slots image place mark = inl (none_apart (mark_at slots) place)
version_erased Upgrade slots image place mark = elim (cases_eq place (mark_at slots)) [
  | inl is ↦ inr (ap (slice_index image) is ∙ mark)
  | inr differs ↦ elim (cases_lt place (mark_at slots)) [ inl low ↦ inl (inl low) | inr high ↦ inl (inr (omega arith)) ]
]
