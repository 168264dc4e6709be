-- The steps that write a file: one piece more is one step more.
use Rattle.std.proofs.Common.{◌≡◌, ℕ, zero, suc, ◌+◌, ◌*◌, ◌<◌, ◌≤◌, List, [], ◌∷◌, ◌++◌, map, length, take, drop, refl}
use Rattle.std.proofs.Common.{sym, ap, ap₂, ◌∙◌, arith}
use Rattle.std.specs.List.{enumerate_from}
use Rattle.std.proofs.lemmas.List.{length-append, length-drop, map-append, take_all, take-append-le, drop-append-le}
use Rattle.std.proofs.lemmas.List.{drop_at}
use Rattle.store_model.specs.Lists.{numbers_from, run_at, run_count, runs}
use Rattle.store_model.specs.Paths.{Path}
use Rattle.store_model.proofs.ListsLemmas.{length-runs}
use Rattle.dump_streams.specs.Dumps.{DumpStep, dump_piece, file_steps}
use Rattle.dump_streams.specs.Dumps.DumpStep.{Write}

-- ---- pieces of bytes

same_at : {B : Type 0} (f g : ℕ → B) (first count : ℕ) → ((i : ℕ) → i < first + count → f i ≡ g i)
    → map f (numbers_from first count) ≡ map g (numbers_from first count)
unfolding numbers_from
same_at f g first zero alike = refl
same_at f g first (suc count) alike =
    ap₂ (λ x xs. x ∷ xs) (alike first (omega arith)) (same_at f g (suc first) count (λ i l. alike i (omega arith)))

numbers_more : (first count : ℕ) → numbers_from first (suc count) ≡ numbers_from first count ++ (first + count) ∷ []
unfolding numbers_from
numbers_more first zero = ap (λ n. n ∷ []) (let e : first ≡ first + 0 = omega arith in e)
numbers_more first (suc count) = ap (λ ns. first ∷ ns)
    (numbers_more (suc first) count ∙ ap (λ n. numbers_from (suc first) count ++ n ∷ [])
    (let e : suc first + count ≡ first + suc count = omega arith in e))

-- behind full pieces, one more
runs_more : (k : ℕ) (xs run : List ℕ) → length xs ≡ dump_piece * k → 1 ≤ length run → length run ≤ dump_piece
    → runs dump_piece (xs ++ run) ≡ runs dump_piece xs ++ run ∷ []
unfolding runs
runs_more k xs run full some few =
    let long = length-append xs run in
    let all : run_count dump_piece (length (xs ++ run)) ≡ suc k = omega (arith, long, full, some, few) in
    let before : run_count dump_piece (length xs) ≡ k = omega (arith, full) in
    let front : map (run_at dump_piece (xs ++ run)) (numbers_from 0 k) ≡ map (run_at dump_piece xs) (numbers_from 0 k) =
    same_at (run_at dump_piece (xs ++ run)) (run_at dump_piece xs) 0 k (λ i l.
    ap (take dump_piece) (drop-append-le (dump_piece * i) xs run (omega (arith, full, l)))
    ∙ take-append-le dump_piece (drop (dump_piece * i) xs) run (long_enough i l)) in
    let last : run_at dump_piece (xs ++ run) (0 + k) ≡ run =
    ap (λ i. take dump_piece (drop i (xs ++ run))) (let e : dump_piece * (0 + k) ≡ dump_piece * k = omega arith in e)
    ∙ ap (take dump_piece) (drop_at xs run (dump_piece * k) full) ∙ take_all dump_piece run few in
    ap (λ n. map (run_at dump_piece (xs ++ run)) (numbers_from 0 n)) all
    ∙ ap (map (run_at dump_piece (xs ++ run))) (numbers_more 0 k)
    ∙ map-append (run_at dump_piece (xs ++ run)) (numbers_from 0 k) ((0 + k) ∷ [])
    ∙ ap₂ (λ (a : List (List ℕ)) (b : List ℕ). a ++ b ∷ []) front last
    ∙ ap (λ n. map (run_at dump_piece xs) (numbers_from 0 n) ++ run ∷ []) (sym before)
  where
    long_enough : (i : ℕ) → i < 0 + k → dump_piece ≤ length (drop (dump_piece * i) xs)
    long_enough i l = simp (length-drop) (omega (arith, full, l))

-- a piece alone
one_run : (xs : List ℕ) → 1 ≤ length xs → length xs ≤ dump_piece → runs dump_piece xs ≡ xs ∷ []
unfolding runs numbers_from
one_run xs some few =
    let one : run_count dump_piece (length xs) ≡ 1 = omega (arith, some, few) in
    ap (λ n. map (run_at dump_piece xs) (numbers_from 0 n)) one
    ∙ ap (λ (run : List ℕ). run ∷ []) (take_all dump_piece xs few)

-- ---- their steps

-- the step of a piece
abbrev piece_step : Path → ℕ × List ℕ → DumpStep
piece_step path piece = Write path (dump_piece * piece.0) piece.1

steps_of_runs : (path : Path) (bytes : List ℕ) → 1 ≤ length bytes
    → file_steps path bytes ≡ map (piece_step path) (enumerate_from 0 (runs dump_piece bytes))
unfolding file_steps
steps_of_runs path [] some = absurd (omega (arith, some))
steps_of_runs path (b ∷ bytes) some = refl

enumerate_more : {X : Type 0} (n : ℕ) (xs : List X) (x : X)
    → enumerate_from n (xs ++ x ∷ []) ≡ enumerate_from n xs ++ (n + length xs, x) ∷ []
enumerate_more n [] x = ap (λ m. (m, x) ∷ []) (let e : n ≡ n + 0 = omega arith in e)
enumerate_more n (y ∷ xs) x = ap (λ es. (n, y) ∷ es)
    (enumerate_more (n + 1) xs x ∙ ap (λ m. enumerate_from (n + 1) xs ++ (m, x) ∷ [])
    (let e : n + 1 + length xs ≡ n + suc (length xs) = omega arith in e))

-- one piece or less is written by one step
pub one_piece : (path : Path) (bytes : List ℕ) → length bytes ≤ dump_piece
    → file_steps path bytes ≡ Write path 0 bytes ∷ []
unfolding file_steps
one_piece path [] short = refl
one_piece path (b ∷ bytes) short = ap (λ (rs : List (List ℕ)). map (piece_step path) (enumerate_from 0 rs))
    (one_run (b ∷ bytes) (omega arith) short)

-- one piece more is one step more
pub pieces_more : (path : Path) (k : ℕ) (xs run : List ℕ) → length xs ≡ dump_piece * suc k → 1 ≤ length run
    → length run ≤ dump_piece → file_steps path (xs ++ run) ≡ file_steps path xs
    ++ Write path (length xs) run ∷ []
pieces_more path k xs run full some few =
    let long = length-append xs run in
    let count : length (runs dump_piece xs) ≡ suc k =
    length-runs dump_piece xs ∙ (let e : run_count dump_piece (length xs) ≡ suc k = omega (arith, full) in e) in
    let at : dump_piece * (0 + length (runs dump_piece xs)) ≡ length xs = omega (arith, full, count) in
    steps_of_runs path (xs ++ run) (omega (arith, long, some))
    ∙ ap (λ rs. map (piece_step path) (enumerate_from 0 rs)) (runs_more (suc k) xs run full some few)
    ∙ ap (map (piece_step path)) (enumerate_more 0 (runs dump_piece xs) run)
    ∙ map-append (piece_step path) (enumerate_from 0 (runs dump_piece xs))
    ((0 + length (runs dump_piece xs), run) ∷ [])
    ∙ ap₂ (λ (cs : List DumpStep) (i : ℕ). cs ++ Write path i run ∷ [])
    (sym (steps_of_runs path xs (omega (arith, full)))) at
