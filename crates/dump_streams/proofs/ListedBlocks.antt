-- The blocks of a file's bytes: the first one and the rest, and those of more bytes behind full ones.
use Rattle.std.proofs.Common.{◌≡◌, ℕ, zero, suc, ◌+◌, ◌*◌, ◌≤◌, List, [], ◌∷◌, ◌++◌, map, length, take, drop, refl, sym}
use Rattle.std.proofs.Common.{ap, ap₂, ◌∙◌, arith}
use Rattle.std.specs.List.{enumerate_from}
use Rattle.std.proofs.lemmas.List.{length-append, length-drop, drop-drop, take-append-le, drop-append-le}
use Rattle.store_model.specs.Lists.{numbers_from, run_at, run_count, runs}
use Rattle.store_model.specs.Paths.{Path, key}
use Rattle.store_model.specs.Pairs.{Pair, file_block}
use Rattle.dump_streams.specs.Listed.{blocks_from}

-- the runs from the second one on are those of the list without the first
shifted : (first count : ℕ) (xs : List ℕ) → map (run_at file_block xs) (numbers_from (suc first) count)
    ≡ map (run_at file_block (drop file_block xs)) (numbers_from first count)
unfolding numbers_from
shifted first zero xs = refl
shifted first (suc count) xs =
    let sum : file_block + file_block * first ≡ file_block * suc first = omega arith in
    ap₂ (λ r rs. r ∷ rs) (ap (take file_block)
    (ap (λ k. drop k xs) (sym sum) ∙ sym (drop-drop (file_block * first) file_block xs)))
    (shifted (suc first) count xs)

runs_first : (xs : List ℕ) → 1 ≤ length xs
    → runs file_block xs ≡ take file_block xs ∷ runs file_block (drop file_block xs)
unfolding runs numbers_from
runs_first xs some =
    let left = length-drop file_block xs in
    let count : run_count file_block (length xs) ≡ suc (run_count file_block (length (drop file_block xs))) =
    omega (arith, left, some) in
    ap (λ k. map (run_at file_block xs) (numbers_from 0 k)) count
    ∙ ap (λ rs. take file_block xs ∷ rs) (shifted 0 (run_count file_block (length (drop file_block xs))) xs)

-- the first block, and those of the rest
pub block_first : (path : Path) (first : ℕ) (xs : List ℕ) → 1 ≤ length xs
    → blocks_from path first xs ≡ (key path first, take file_block xs)
    ∷ blocks_from path (first + 1) (drop file_block xs)
block_first path first xs some =
    ap (λ rs. map (λ (b : ℕ × List ℕ). (key path b.0, b.1)) (enumerate_from first rs)) (runs_first xs some)

-- no bytes have no blocks
pub block_none : (path : Path) (first : ℕ) → blocks_from path first [] ≡ []
unfolding runs numbers_from
block_none path first = refl

-- bytes behind full blocks
pub blocks_behind : (path : Path) (first k : ℕ) (xs ys : List ℕ) → length xs ≡ file_block * k
    → blocks_from path first (xs ++ ys) ≡ blocks_from path first xs ++ blocks_from path (first + k) ys
blocks_behind path first zero [] ys full =
    ap (λ n. blocks_from path n ys) (let e : first ≡ first + 0 = omega arith in e)
    ∙ ap (λ s. s ++ blocks_from path (first + 0) ys) (sym (block_none path first))
blocks_behind path first zero (x ∷ xs) ys full = absurd (omega (arith, full))
blocks_behind path first (suc k) xs ys full =
    let both = length-append xs ys in
    let left = length-drop file_block xs in
    let whole : file_block ≤ length xs = omega (arith, full) in
    let rest = blocks_behind path (first + 1) k (drop file_block xs) ys (omega (arith, left, full)) in
    block_first path first (xs ++ ys) (omega (arith, both, whole))
    ∙ ap₂ (λ (run : List ℕ) (others : List Pair). (key path first, run) ∷ others)
    (take-append-le file_block xs ys whole)
    (ap (blocks_from path (first + 1)) (drop-append-le file_block xs ys whole) ∙ rest
    ∙ ap (λ n. blocks_from path (first + 1) (drop file_block xs) ++ blocks_from path n ys)
    (let e : first + 1 + k ≡ first + suc k = omega arith in e))
    ∙ ap (λ s. s ++ blocks_from path (first + suc k) ys) (sym (block_first path first xs (omega (arith, whole))))
