-- The blocks of a file, one behind the others.
use Rattle.std.proofs.Common.{◌≡◌, ℕ, zero, suc, ◌+◌, ◌-◌, ◌*◌, ◌<◌, ◌≤◌, min, List, [], ◌∷◌, ◌++◌, map, length, take}
use Rattle.std.proofs.Common.{drop, slice_get, Some, refl, sym, ap, ap₂, ◌∙◌, arith}
use Rattle.std.specs.List.{enumerate_from}
use Rattle.std.proofs.lemmas.List.{length-append, length-drop, map-append, take_all, take-append-le, drop-append-le}
use Rattle.std.proofs.lemmas.List.{drop_at}
use Rattle.std.proofs.lemmas.Option.{same_Some, slice_get_within}
use Rattle.store_model.specs.Lists.{numbers_from, run_at, run_count, runs}
use Rattle.store_model.specs.Paths.{Path, key}
use Rattle.store_model.specs.Pairs.{Pair, file_block}
use Rattle.store_model.proofs.ListsLemmas.{length-runs}
use Rattle.tree_pairs.proofs.BlocksLemmas.{length-run_at}
use Rattle.tree_pairs.specs.Fronts.{block_pairs}

-- ---- runs behind full ones

map_alike : {B : Type 0} (f g : ℕ → B) (first count : ℕ) → ((i : ℕ) → i < first + count → f i ≡ g i)
    → map f (numbers_from first count) ≡ map g (numbers_from first count)
unfolding numbers_from
map_alike f g first zero alike = refl
map_alike f g first (suc count) alike =
    ap₂ (λ x xs. x ∷ xs) (alike first (omega arith)) (map_alike f g (suc first) count (λ i l. alike i (omega arith)))

numbers_from-add : (first count more : ℕ) → numbers_from first (count + more) ≡ numbers_from first count
    ++ numbers_from (first + count) more
unfolding numbers_from
numbers_from-add first zero more =
    ap₂ numbers_from (let e : first ≡ first + 0 = omega arith in e) (let e : 0 + more ≡ more = omega arith in e)
numbers_from-add first (suc count) more =
    ap (numbers_from first) (let e : suc count + more ≡ suc (count + more) = omega arith in e)
    ∙ ap (λ ns. first ∷ ns) (numbers_from-add (suc first) count more
    ∙ ap (λ n. numbers_from (suc first) count ++ numbers_from n more)
    (let e : suc first + count ≡ first + suc count = omega arith in e))

-- the runs of more bytes behind full runs
abbrev runs_behind : ℕ → List ℕ → List ℕ → List (List ℕ)
runs_behind k xs ys = map (run_at file_block (xs ++ ys)) (numbers_from k (run_count file_block (length ys)))

runs-append : (k : ℕ) (xs ys : List ℕ) → length xs ≡ file_block * k
    → runs file_block (xs ++ ys) ≡ runs file_block xs ++ runs_behind k xs ys
unfolding runs
runs-append k xs ys full =
    let long = length-append xs ys in
    let all : run_count file_block (length (xs ++ ys)) ≡ k + run_count file_block (length ys) =
    omega (arith, long, full) in
    let before : run_count file_block (length xs) ≡ k = omega (arith, full) in
    let front : map (run_at file_block (xs ++ ys)) (numbers_from 0 k) ≡ map (run_at file_block xs) (numbers_from 0 k) =
    map_alike (run_at file_block (xs ++ ys)) (run_at file_block xs) 0 k (λ i l.
    ap (take file_block) (drop-append-le (file_block * i) xs ys (omega (arith, full, l)))
    ∙ take-append-le file_block (drop (file_block * i) xs) ys (long_enough i l)) in
    ap (λ n. map (run_at file_block (xs ++ ys)) (numbers_from 0 n)) all
    ∙ ap (map (run_at file_block (xs ++ ys))) (numbers_from-add 0 k (run_count file_block (length ys)))
    ∙ map-append (run_at file_block (xs ++ ys)) (numbers_from 0 k)
    (numbers_from (0 + k) (run_count file_block (length ys)))
    ∙ ap₂ (λ (a : List (List ℕ)) (n : ℕ). a ++ map (run_at file_block (xs ++ ys))
    (numbers_from n (run_count file_block (length ys)))) front (let e : 0 + k ≡ k = omega arith in e)
    ∙ ap (λ n. map (run_at file_block xs) (numbers_from 0 n) ++ runs_behind k xs ys) (sym before)
  where
    long_enough : (i : ℕ) → i < 0 + k → file_block ≤ length (drop (file_block * i) xs)
    long_enough i l = simp (length-drop) (omega (arith, full, l))

-- one run alone
one_behind : (k : ℕ) (xs run : List ℕ) → length xs ≡ file_block * k → 1 ≤ length run → length run ≤ file_block
    → runs_behind k xs run ≡ run ∷ []
unfolding numbers_from
one_behind k xs run full some few =
    let one : run_count file_block (length run) ≡ 1 = omega (arith, some, few) in
    ap (λ n. map (run_at file_block (xs ++ run)) (numbers_from k n)) one
    ∙ ap (λ (front : List ℕ). front ∷ []) (ap (take file_block) (drop_at xs run (file_block * k) full)
    ∙ take_all file_block run few)

-- ---- the pairs of blocks

-- the pair of a run
abbrev run_pair : Path → ℕ × List ℕ → Pair
run_pair path b = (key path b.0, b.1)

enumerate_from-append : {X : Type 0} (n : ℕ) (xs ys : List X)
    → enumerate_from n (xs ++ ys) ≡ enumerate_from n xs ++ enumerate_from (n + length xs) ys
enumerate_from-append n [] ys = ap (λ m. enumerate_from m ys) (let e : n ≡ n + 0 = omega arith in e)
enumerate_from-append n (x ∷ xs) ys =
    ap (λ es. (n, x) ∷ es) (enumerate_from-append (n + 1) xs ys
    ∙ ap (λ m. enumerate_from (n + 1) xs ++ enumerate_from m ys)
    (let e : n + 1 + length xs ≡ n + suc (length xs) = omega arith in e))

-- the pairs of more bytes behind full blocks
abbrev pub pairs_behind : Path → ℕ → List ℕ → List ℕ → List Pair
pairs_behind path k xs ys = map (run_pair path) (enumerate_from (k + 1) (runs_behind k xs ys))

pub blocks-append : (path : Path) (k : ℕ) (xs ys : List ℕ) → length xs ≡ file_block * k
    → block_pairs path (xs ++ ys) ≡ block_pairs path xs ++ pairs_behind path k xs ys
blocks-append path k xs ys full =
    let count : length (runs file_block xs) ≡ k =
    length-runs file_block xs ∙ (let e : run_count file_block (length xs) ≡ k = omega (arith, full) in e) in
    ap (λ rs. map (run_pair path) (enumerate_from 1 rs)) (runs-append k xs ys full)
    ∙ ap (map (run_pair path)) (enumerate_from-append 1 (runs file_block xs) (runs_behind k xs ys))
    ∙ map-append (run_pair path) (enumerate_from 1 (runs file_block xs))
    (enumerate_from (1 + length (runs file_block xs)) (runs_behind k xs ys))
    ∙ ap (λ n. block_pairs path xs ++ map (run_pair path) (enumerate_from n (runs_behind k xs ys)))
    (let e : 1 + length (runs file_block xs) ≡ k + 1 = omega (arith, count) in e)

-- one block more
pub blocks_more : (path : Path) (k : ℕ) (xs run : List ℕ) → length xs ≡ file_block * k → 1 ≤ length run
    → length run ≤ file_block → block_pairs path (xs ++ run) ≡ block_pairs path xs ++ (key path (k + 1), run) ∷ []
blocks_more path k xs run full some few =
    blocks-append path k xs run full ∙ ap (λ rs. block_pairs path xs ++ map (run_pair path) (enumerate_from (k + 1) rs))
    (one_behind k xs run full some few)

-- a file without bytes has no blocks
pub no_blocks : (path : Path) → block_pairs path [] ≡ []
unfolding runs numbers_from
no_blocks path = refl

-- ---- a block of a file

block_at : (path : Path) (bytes : List ℕ) (number first count k : ℕ) → k < count
    → slice_get (map (run_pair path) (enumerate_from number (map (run_at file_block bytes) (numbers_from first count))))
    k ≡ Some (run_pair path (number + k, run_at file_block bytes (first + k)))
unfolding numbers_from
block_at path bytes number first zero k l = absurd (omega arith)
block_at path bytes number first (suc count) zero l =
    ap₂ (λ (n i : ℕ). Some (run_pair path (n, run_at file_block bytes i)))
    (let e : number ≡ number + 0 = omega arith in e) (let e : first ≡ first + 0 = omega arith in e)
block_at path bytes number first (suc count) (suc k) l =
    block_at path bytes (number + 1) (suc first) count k (omega arith)
    ∙ ap₂ (λ (n i : ℕ). Some (run_pair path (n, run_at file_block bytes i)))
    (let e : number + 1 + k ≡ number + suc k = omega arith in e)
    (let e : suc first + k ≡ first + suc k = omega arith in e)

-- elements of lists one behind the other
get_front : {X : Type 0} (xs ys : List X) (k : ℕ) → k < length xs → slice_get (xs ++ ys) k ≡ slice_get xs k
get_front [] ys k l = absurd (omega arith)
get_front (x ∷ xs) ys zero l = refl
get_front (x ∷ xs) ys (suc k) l = get_front xs ys k (omega arith)

get_behind : {X : Type 0} (xs : List X) (y : X) (ys : List X) (k : ℕ) → length xs ≡ k
    → slice_get (xs ++ y ∷ ys) k ≡ Some y
get_behind [] y ys zero e = refl
get_behind [] y ys (suc k) e = absurd (omega arith)
get_behind (x ∷ xs) y ys zero e = absurd (omega arith)
get_behind (x ∷ xs) y ys (suc k) e = get_behind xs y ys k (omega arith)

-- the pair behind k blocks of a file has the next number, and as many bytes as are left, up to a block's
pub block_is : (path : Path) (content : List ℕ) (k : ℕ) (before : List Pair) (pair : Pair) (u v : List Pair)
    → file_block * k < length content → length before ≡ k → block_pairs path content ++ u ≡ before ++ pair ∷ v
    → (pair.0 ≡ key path (k + 1)) × (length pair.1 ≡ min (length content - file_block * k) file_block)
unfolding runs
block_is path content k before pair u v more count e =
    let within : k < run_count file_block (length content) = omega (arith, more) in
    let at = block_at path content 1 0 (run_count file_block (length content)) k within in
    let long : k < length (block_pairs path content) =
    slice_get_within (block_pairs path content) k (run_pair path (1 + k, run_at file_block content (0 + k))) at in
    let same : pair ≡ run_pair path (1 + k, run_at file_block content (0 + k)) =
    same_Some pair (run_pair path (1 + k, run_at file_block content (0 + k)))
    (sym (get_behind before pair v k count) ∙ ap (λ (xs : List Pair). slice_get xs k) (sym e)
    ∙ get_front (block_pairs path content) u k long ∙ at) in
    let run = length-run_at file_block content (0 + k) in (
      ap (λ (x : Pair). x.0) same ∙ ap (key path) (let e : 1 + k ≡ k + 1 = omega arith in e),
      ap (λ (x : Pair). length x.1) same ∙ run
          ∙ (let e : min file_block (length content - file_block * (0 + k))
          ≡ min (length content - file_block * k) file_block = omega arith in e),
    )
