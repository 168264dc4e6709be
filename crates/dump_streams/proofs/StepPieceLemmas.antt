-- The steps that write a file: that of its first piece and those of the rest.
use Rattle.std.proofs.Common.{◌≡◌, ℕ, zero, suc, ◌+◌, ◌*◌, ◌≤◌, List, [], ◌∷◌, ◌++◌, map, length, take, drop, refl, sym}
use Rattle.std.proofs.Common.{ap, ap₂, ◌∙◌, arith}
use Rattle.std.specs.List.{enumerate_from}
use Rattle.std.proofs.lemmas.List.{length-append, length-drop, drop-drop, take_at, drop_at, take_all, drop_all}
use Rattle.store_model.specs.Lists.{numbers_from, run_at, run_count, runs}
use Rattle.store_model.specs.Paths.{Path}
use Rattle.dump_streams.specs.Dumps.{DumpStep, dump_piece, file_steps}
use Rattle.dump_streams.specs.Dumps.DumpStep.{Write}
use Rattle.dump_streams.specs.Making.{pieces_from}

shifted : (first count : ℕ) (xs : List ℕ) → map (run_at dump_piece xs) (numbers_from (suc first) count)
    ≡ map (run_at dump_piece (drop dump_piece xs)) (numbers_from first count)
unfolding numbers_from
shifted first zero xs = refl
shifted first (suc count) xs =
    let sum : dump_piece + dump_piece * first ≡ dump_piece * suc first = omega arith in
    ap₂ (λ r rs. r ∷ rs) (ap (take dump_piece)
    (ap (λ k. drop k xs) (sym sum) ∙ sym (drop-drop (dump_piece * first) dump_piece xs)))
    (shifted (suc first) count xs)

runs_first : (xs : List ℕ) → 1 ≤ length xs
    → runs dump_piece xs ≡ take dump_piece xs ∷ runs dump_piece (drop dump_piece xs)
unfolding runs numbers_from
runs_first xs some =
    let left = length-drop dump_piece xs in
    let count : run_count dump_piece (length xs) ≡ suc (run_count dump_piece (length (drop dump_piece xs))) =
    omega (arith, left, some) in
    ap (λ k. map (run_at dump_piece xs) (numbers_from 0 k)) count
    ∙ ap (λ rs. take dump_piece xs ∷ rs) (shifted 0 (run_count dump_piece (length (drop dump_piece xs))) xs)

piece_first : (path : Path) (first : ℕ) (xs : List ℕ) → 1 ≤ length xs
    → pieces_from path first xs ≡ Write path (dump_piece * first) (take dump_piece xs)
    ∷ pieces_from path (first + 1) (drop dump_piece xs)
piece_first path first xs some =
    ap (λ rs. map (λ (piece : ℕ × List ℕ). Write path (dump_piece * piece.0) piece.1) (enumerate_from first rs))
    (runs_first xs some)

-- no bytes have no pieces
pub piece_none : (path : Path) (first : ℕ) → pieces_from path first [] ≡ []
unfolding runs numbers_from
piece_none path first = refl

-- a whole piece, and the rest behind it
pub piece_whole : (path : Path) (first : ℕ) (xs ys : List ℕ) → length xs ≡ dump_piece
    → pieces_from path first (xs ++ ys) ≡ Write path (dump_piece * first) xs ∷ pieces_from path (first + 1) ys
piece_whole path first xs ys whole =
    piece_first path first (xs ++ ys) (omega (arith, whole, length-append xs ys))
    ∙ ap₂ (λ (run rest : List ℕ). Write path (dump_piece * first) run ∷ pieces_from path (first + 1) rest)
    (take_at xs ys dump_piece whole) (drop_at xs ys dump_piece whole)

-- the last piece
pub piece_last : (path : Path) (first : ℕ) (xs : List ℕ) → 1 ≤ length xs → length xs ≤ dump_piece
    → pieces_from path first xs ≡ Write path (dump_piece * first) xs ∷ []
piece_last path first xs some few =
    piece_first path first xs some
    ∙ ap₂ (λ (run rest : List ℕ). Write path (dump_piece * first) run ∷ pieces_from path (first + 1) rest)
    (take_all dump_piece xs few) (drop_all dump_piece xs few)
    ∙ ap (λ (steps : List DumpStep). Write path (dump_piece * first) xs ∷ steps) (piece_none path (first + 1))

-- the steps of a file are those of all its pieces
pub steps_of_file : (path : Path) (bytes : List ℕ) → 1 ≤ length bytes → file_steps path bytes ≡ pieces_from path 0 bytes
unfolding file_steps
steps_of_file path [] some = absurd (omega (arith, some))
steps_of_file path (b ∷ bytes) some = refl
