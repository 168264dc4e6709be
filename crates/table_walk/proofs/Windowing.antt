-- The slots of a window.
use Rattle.std.proofs.Common.{◌≡◌, ℕ, zero, suc, ◌+◌, ◌*◌, ◌<◌, ◌≤◌, List, [], ◌++◌, length, take, drop, Some}
use Rattle.std.proofs.Common.{slice_get, slice_index_or, ap, sym, ◌∙◌, arith}
use Rattle.std.specs.Prelude.{Ok}
use Rattle.std.specs.Simd.{first_chunks}
use Rattle.std.proofs.lemmas.List.{drop-append-le, take-append-le, drop-drop, length-drop}
use Rattle.store_model.specs.Images.{bytes_at}
use Rattle.store_base.specs.SlotsState.{SlotsState, IsObservable, IsGetSome}
use Rattle.table_walk.specs.Windows.{IsWindowOf, window_len}
use Rattle.table_walk.specs.declared.window.Window.{Window}

-- a part of the bytes in front
pub part_kept : (xs ys : List ℕ) (at : ℕ) → at + 4096 ≤ length xs → bytes_at (xs ++ ys) at 4096 ≡ bytes_at xs at 4096
part_kept xs ys at within =
    ap (take 4096) (drop-append-le at xs ys (omega (arith, within)))
    ∙ take-append-le 4096 (drop at xs) ys (omega (arith, within, length-drop at xs))

-- chunk i of so many chunks of n bytes
pub chunk_at : (n count i : ℕ) (xs : List ℕ) → i < count
    → slice_index_or (first_chunks n count xs) i [] ≡ bytes_at xs (n * i) n
chunk_at n zero i xs below = absurd (omega (arith, below))
chunk_at n (suc count) zero xs below = let first : 0 ≡ n * 0 = omega arith
    in ap (λ (m : ℕ). take n (drop m xs)) first
chunk_at n (suc count) (suc i) xs below =
    let next : n + n * i ≡ n * suc i = omega arith in
    chunk_at n count i (drop n xs) (omega (arith, below))
    ∙ ap (take n) (drop-drop (n * i) n xs)
    ∙ ap (λ (m : ℕ). take n (drop m xs)) next

-- slots that were read into the first bytes of a window
pub window_read : (old new : SlotsState) (at count : ℕ) (buffer rest : List ℕ) → length buffer ≤ window_len
    → IsGetSome old new at buffer (Ok count)
    → IsWindowOf new (record { first = at; count = count; bytes = buffer ++ rest })
window_read old new at count buffer rest long get = record {
  room = let room = get.room in omega (arith, room, long);
  held = λ observable i below.
      let room = get.room in
      let effect = get.observed (sym get.calls.observable ∙ observable) in
      ap (λ (ss : List (List ℕ)). slice_get ss (at + i)) effect.slots
      ∙ effect.got i below
      ∙ ap Some (sym (part_kept buffer rest (4096 * i) (omega (arith, room, below))));
}

-- a window serves as long as the slots are only read
pub window_kept : (old new : SlotsState) (window : Window) → new.is_observable ≡ old.is_observable
    → (IsObservable old → new.slots ≡ old.slots) → IsWindowOf old window → IsWindowOf new window
window_kept old new window observable_same same is = record {
  room = is.room;
  held = λ observable i below.
      let observable_old : IsObservable old = sym observable_same ∙ observable in
      ap (λ (ss : List (List ℕ)). slice_get ss (window.first + i)) (same observable_old)
      ∙ is.held observable_old i below;
}
