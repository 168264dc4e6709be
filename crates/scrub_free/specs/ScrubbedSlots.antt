-- What the scrubbed view of slots means. Its laws stand here since those of a trait are proved by them.
use Rattle.std.specs.Prelude.{◌≡◌, ◌<◌, ℕ, zero, suc, List, [], ◌∷◌, map, length, Some, false, Bool, ◌==◌, slice_get}
use Rattle.std.specs.Prelude.{slice_index, if◌then◌else◌}
use Rattle.std.proofs.Common.{refl, sym, ap, ◌∙◌, inl, inr}
use Rattle.std.proofs.lemmas.Bool.{cases_Bool}
use Rattle.std.proofs.lemmas.List.{length-map, length-replicate}
use Rattle.std.proofs.lemmas.Option.{none-some, same_Some}
use Rattle.store_model.specs.Lists.{zeros}
use Rattle.store_model.specs.Images.{scrubbed_block}
use Rattle.store_base.specs.SlotsState.{SlotsState, IsCounted, AreWhole}
use Rattle.scrub_free.specs.FreeSlots.{is_unclean}

-- each of the first n of these slots is clean
abbrev pub AreClean : List (List ℕ) → ℕ → Type 0
AreClean slots n = (i : ℕ) (slot : List ℕ) → i < n → slice_get slots i ≡ Some slot → is_unclean slot ≡ false

-- the slots as scrubbing would leave them, with all else as it is
abbrev pub scrubbed_slots : SlotsState → SlotsState
scrubbed_slots state = record {
  count = state.count;
  is_observable = state.is_observable;
  slots = map scrubbed_block state.slots;
  faults = state.faults;
  takes_none = state.takes_none;
}

-- there are as many
pub scrubbed_counted : (state : SlotsState) → IsCounted state → IsCounted (scrubbed_slots state)
scrubbed_counted state counted = length-map state.slots scrubbed_block ∙ counted

-- a block that is scrubbed keeps its length
pub scrubbed_long : (bytes : List ℕ) → length bytes ≡ 4096 → length (scrubbed_block bytes) ≡ 4096
unfolding scrubbed_block
scrubbed_long bytes long = elim (cases_Bool (slice_index bytes 0 == 0)) [
  | inl free ↦ ap (λ (b : Bool). length (if b then zeros 4096 else bytes)) free ∙ length-replicate {A = ℕ} 4096 0
  | inr used ↦ ap (λ (b : Bool). length (if b then zeros 4096 else bytes)) used ∙ long
]

-- and each of them has the bytes of a block
pub scrubbed_whole : (slots : List (List ℕ)) → AreWhole slots → AreWhole (map scrubbed_block slots)
scrubbed_whole [] whole i slot is = absurd (none-some slot is)
scrubbed_whole (first ∷ slots) whole zero slot is =
    ap length (sym (same_Some (scrubbed_block first) slot is)) ∙ scrubbed_long first (whole 0 first refl)
scrubbed_whole (first ∷ slots) whole (suc i) slot is =
    scrubbed_whole slots (λ j other there. whole (suc j) other there) i slot is
