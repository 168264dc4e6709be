-- The bytes in which a target is held.
use Rattle.std.proofs.Common.{◌≡◌, ℕ, ◌-◌, List, ◌++◌, length, take, drop, refl, sym, ap₂, ◌∙◌, subst, IsTrue}
use Rattle.std.proofs.lemmas.List.{take_at, drop-replicate}
use Rattle.store_model.specs.Lists.{zeros, zero_filled}
use Rattle.host_builder.specs.HostAttributes.{is_target}
use Rattle.host_folders.specs.Targets.{IsTargetField}

target_held : (text copied : List ℕ) → IsTrue (is_target text) → copied ≡ text
    → IsTargetField (copied ++ drop (length text) (zeros 255)) (length text) text
unfolding zero_filled
target_held text copied valid e = record {
  valid = valid;
  bytes_are = ap₂ ◌++◌ e (drop-replicate (length text) 255 0);
  len_is = refl;
}

-- what they show
target_shown : (bytes : List ℕ) (len : ℕ) (target : List ℕ) → IsTargetField bytes len target → take len bytes ≡ target
unfolding zero_filled
target_shown bytes len target h = ap₂ take h.len_is h.bytes_are
    ∙ take_at target (zeros (255 - length target)) (length target) refl

pub held_as_shown : (text copied : List ℕ) → IsTrue (is_target text) → copied ≡ text
    → IsTargetField (copied ++ drop (length text) (zeros 255)) (length text)
    (take (length text) (copied ++ drop (length text) (zeros 255)))
held_as_shown text copied valid e =
    let held = target_held text copied valid e in
    let bytes = copied ++ drop (length text) (zeros 255) in
    subst (IsTargetField bytes (length text)) (sym (target_shown bytes (length text) text held)) held
