-- The bytes that a record has pending, and how they are copied call by call, the newest first.
use Rattle.std.proofs.Common.{◌≤◌, ◌-◌, take, drop, sym, ◌∙◌, ap, arith, length-take, length-drop, get_or-take}
use Rattle.std.proofs.Common.{get_or-drop, ◌≡◌, ◌⊎◌, ℕ, ◌+◌, ◌<◌, List, [], ◌∷◌, length, slice_index, get_or, inl, inr}
use Rattle.std.proofs.Common.{⊎_elim}
use Rattle.std.proofs.lemmas.Bool.{cases_lt}
use Rattle.std.proofs.lemmas.List.{take_more, reverse-append, ext_get_or}
use mathlib.Core.List.{reverse}
use Rattle.disk_model.specs.DiskCalls.{overwrite}
use Rattle.disk_model.proofs.Images.{SameOutside-overwrite, slice_index-overwrite}
use Rattle.disk_model.specs.declared.record.Call.{Call}
use Rattle.disk_model.specs.declared.record.Call.TheVariants.{Write, Sync}
use Rattle.disk_model.specs.Memory.{IsPending, IsCrashImage}
use Rattle.disk_model.specs.Record.{CopiesPending}

-- what is pending in `all` and not in `rest` is copied
pub record CopiesSoFar (all rest : List Call) (source old now : List ℕ) : Type 0 where
  pub size : length now ≡ length old
  pub part : (place : ℕ) → IsPending rest place → IsPending all place
  pub copied : (place : ℕ) → place < length old → IsPending all place
      → IsPending rest place ⊎ (slice_index now place ≡ slice_index source place)
  pub kept : (place : ℕ) → ¬ IsPending all place → slice_index now place ≡ slice_index old place

-- the newest of the calls that are left
pub reverse-take : (calls : List Call) (left : ℕ) (call d : Call) → 0 < left → left ≤ length calls
    → get_or calls (left - 1) d ≡ call → reverse (take left calls) ≡ call ∷ reverse (take (left - 1) calls)
reverse-take calls left call d some low is =
    let whole : left - 1 + 1 ≡ left = omega arith in
    ap (λ (n : ℕ). reverse (take n calls)) (sym whole) ∙ ap reverse (take_more calls (left - 1) d (omega arith))
    ∙ reverse-append (take (left - 1) calls) (get_or calls (left - 1) d ∷ [])
    ∙ ap (λ (x : Call). x ∷ reverse (take (left - 1) calls)) is

module _ (all earlier : List Call) (at len : ℕ) (source old now : List ℕ) (alike : length source ≡ length old)
    (within : at + len ≤ length old) (so_far : CopiesSoFar all (Write at len ∷ earlier) source old now) where
  abbrev part_of : List ℕ
  part_of = take len (drop at source)

  length-part : length part_of ≡ len
  length-part = omega (arith, length-take len (drop at source), length-drop at source)

  fits : at + length part_of ≤ length now
  fits = omega (arith, length-part, so_far.size)

  inside : (place : ℕ) → at ≤ place → place < at + len
      → slice_index (overwrite now at part_of) place ≡ slice_index source place
  inside place low high =
      let there : at + (place - at) ≡ place = omega arith in
      slice_index-overwrite now at part_of place fits low (omega (arith, length-part))
      ∙ get_or-take len (drop at source) (place - at) 0 (omega arith)
      ∙ get_or-drop at source (place - at) 0 ∙ ap (slice_index source) there

  outside : (place : ℕ) → (place < at) ⊎ (at + len ≤ place)
      → slice_index (overwrite now at part_of) place ≡ slice_index now place
  outside place (inl low) = (SameOutside-overwrite now at part_of fits).below place low
  outside place (inr high) = (SameOutside-overwrite now at part_of fits).above place (omega (arith, length-part))

  pub copying_write : CopiesSoFar all earlier source old (overwrite now at part_of)
  copying_write = record {
    size = (SameOutside-overwrite now at part_of fits).same_length ∙ so_far.size;
    part = λ place here. so_far.part place (inr here);
    copied = λ place low here. elim (cases_lt place at) [
      | inl below ↦ elim (so_far.copied place low here) [
        | inl rest ↦ elim rest [ inl range ↦ absurd (omega arith) | inr left ↦ inl left ]
        | inr same ↦ inr (outside place (inl below) ∙ same)
      ]
      | inr above ↦ elim (cases_lt place (at + len)) [
        | inl within ↦ inr (inside place above within)
        | inr behind ↦ elim (so_far.copied place low here) [
          | inl rest ↦ elim rest [ inl range ↦ absurd (omega arith) | inr left ↦ inl left ]
          | inr same ↦ inr (outside place (inr behind) ∙ same)
        ]
      ]
    ];
    kept = λ place none. elim (cases_lt place at) [
      | inl below ↦ outside place (inl below) ∙ so_far.kept place none
      | inr above ↦ elim (cases_lt place (at + len)) [
        | inl within ↦ absurd (none (so_far.part place (inl (above, within))))
        | inr behind ↦ outside place (inr behind) ∙ so_far.kept place none
      ]
    ];
  }

pending_or_not : (calls : List Call) (place : ℕ) → IsPending calls place ⊎ (¬ IsPending calls place)
pending_or_not [] place = inr (λ none. none)
pending_or_not (Sync ∷ earlier) place = inr (λ none. none)
pending_or_not (Write at len ∷ earlier) place = elim (pending_or_not earlier place) [
  | inl here ↦ inl (inr here)
  | inr none ↦ elim (cases_lt place at) [
    | inl below ↦ inr (λ here. ⊎_elim (λ inside. absurd (omega arith)) none here)
    | inr above ↦ elim (cases_lt place (at + len)) [
      | inl inside ↦ inl (inl (above, inside))
      | inr behind ↦ inr (λ here. ⊎_elim (λ inside. absurd (omega arith)) none here)
    ]
  ]
]

-- what differs in pending bytes alone is made equal
pub copied_all : (calls : List Call) (source old new : List ℕ) → IsCrashImage source calls old
    → CopiesPending calls source old new → new ≡ source
copied_all calls source old new alike copies =
    ext_get_or 0 new source (copies.size ∙ alike.size) λ place low. elim (pending_or_not calls place) [
      | inl here ↦ copies.copied place (omega (arith, copies.size)) here
      | inr none ↦ copies.kept place none ∙ alike.kept place none
    ]
