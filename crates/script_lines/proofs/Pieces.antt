-- A piece moved out of a list of bytes into a buffer.
use Rattle.std.proofs.Common.{◌≡◌, ◌↔◌, ℕ, ◌+◌, ◌<◌, ◌≤◌, min, max, List, [], ◌++◌, length, take, drop, sym, ◌∙◌, ap}
use Rattle.std.proofs.Common.{arith, nat_lt, true, false, cond, slice_index}
use Rattle.std.proofs.lemmas.List.{take_at, take-append-drop, drop-drop, length-take, length-drop, nil_from_length}
use Rattle.script_lines.specs.Memory.{SourceMemory, next_piece, next_count}

-- the buffer begins with the piece, and what follows the piece is left
pub moved_piece : (left buffer : List ℕ) (count : ℕ) → count ≤ length left
    → left ≡ take count (take count left ++ drop count buffer) ++ drop count left
moved_piece left buffer count fits =
    sym (take-append-drop count left)
    ∙ ap (λ (piece : List ℕ). piece ++ drop count left)
    (sym (take_at (take count left) (drop count buffer) count (length-take count left ∙ omega arith)))

-- the same, of a part of the bytes
pub moved_slice : (bytes left piece buffer : List ℕ) (start count : ℕ) → left ≡ drop start bytes
    → piece ≡ take count (drop start bytes) → start + count ≤ length bytes
    → left ≡ take count (piece ++ drop count buffer) ++ drop (start + count) bytes
moved_slice bytes left piece buffer start count left_is piece_is fits =
    left_is ∙ moved_piece (drop start bytes) buffer count (omega (arith, length-drop start bytes))
    ∙ ap (λ (part : List ℕ). take count (part ++ drop count buffer) ++ drop count (drop start bytes)) (sym piece_is)
    ∙ ap (λ (rest : List ℕ). take count (piece ++ drop count buffer) ++ rest) (drop-drop count start bytes)

-- a take into a buffer that is not empty asks for a byte at least
pub next_piece_pos : (source : SourceMemory) (room : ℕ) → 0 < room → 0 < next_piece source room
next_piece_pos source room some = elim (nat_lt source.takes (length source.pieces)) as
    (λ b. 0 < cond b (min room (max 1 (slice_index source.pieces source.takes))) room)
    [ true ↦ omega arith | false ↦ some ]

-- so it gives none only where none is left
pub no_piece : (source : SourceMemory) (room : ℕ) → 0 < room → (next_count source room ≡ 0) ↔ (source.left ≡ [])
no_piece source room some = let pos = next_piece_pos source room some in (
  λ none. nil_from_length source.left (let short : min (next_piece source room) (length source.left)
      ≡ 0 = none in omega arith),
  λ empty. (let short : length source.left ≡ 0 = ap length empty
      in let goal : min (next_piece source room) (length source.left) ≡ 0 = omega arith in goal),
)
