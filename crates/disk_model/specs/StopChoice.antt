-- What a crash makes of the bytes that are pending.
use Rattle.std.specs.Prelude.{◌≡◌, ℕ, ◌<◌, List, length, slice_index}
use Rattle.disk_model.specs.declared.record.Call.{Call}
use Rattle.disk_model.specs.declared.record.StopChoice.{StopChoice}
use Rattle.disk_model.specs.declared.record.StopChoice.TheVariants.{Old, New, Fill}
use Rattle.disk_model.specs.Memory.{IsPending}

-- the image that the choice names: the bytes of the last sync, the bytes that reads give, or each pending byte this one
abbrev pub IsChosen : StopChoice → List ℕ → List ℕ → List Call → List ℕ → Type 0
IsChosen Old synced bytes calls image = image ≡ synced
IsChosen New synced bytes calls image = image ≡ bytes
IsChosen (Fill byte) synced bytes calls image = (place : ℕ) → place < length bytes → IsPending calls place
    → slice_index image place ≡ byte
