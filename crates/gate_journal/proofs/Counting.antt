-- How many writes a recovery makes, slot by slot and block by block.
use Rattle.std.proofs.Common.{◌≡◌, ℕ, zero, suc, ◌+◌, ◌-◌, ◌*◌, ◌==◌, ◌<◌, ◌≤◌, List, [], ◌∷◌, ◌++◌, length}
use Rattle.std.proofs.Common.{slice_index, Bool, true, false, not, if◌then◌else◌, cond, refl, sym, ap, ◌∙◌, inl, inr}
use Rattle.std.proofs.Common.{arith}
use Rattle.std.specs.List.{list_any, sum_by}
use Rattle.std.proofs.lemmas.Bool.{cases_eq, ne_eqb, or_left, or_from, or_right}
use Rattle.std.proofs.lemmas.List.Sums.{sum_by-append, sum_by-cons}
use Rattle.store_model.specs.Lists.{numbers_from}
use Rattle.store_model.specs.Parameters.{mark_blocks, table_at}
use Rattle.store_model.specs.Images.{bytes_at, is_flag_set, is_marked}
use Rattle.gate_journal.specs.Places.{SameAt, IsZeroAt}
use Rattle.gate_journal.specs.Recovery.{IsBehindFlag, marked_count, clear_writes, clear_block_writes, erase_writes}
use Rattle.gate_journal.specs.Recovery.{redo_writes, redo_syncs}
use Rattle.gate_journal.proofs.Places.{bytes_at-same}

numbers_split : (first n m : ℕ) → numbers_from first (n + m) ≡ numbers_from first n ++ numbers_from (first + n) m
unfolding numbers_from
numbers_split first zero m =
    let none : 0 + m ≡ m = omega arith in
    let there : first ≡ first + 0 = omega arith in
    ap (numbers_from first) none ∙ ap (λ (k : ℕ). numbers_from k m) there
numbers_split first (suc n) m =
    let more : suc n + m ≡ suc (n + m) = omega arith in
    let there : suc first + n ≡ first + suc n = omega arith in
    ap (numbers_from first) more ∙ ap (λ (l : List ℕ). first ∷ l) (numbers_split (suc first) n m)
    ∙ ap (λ (k : ℕ). first ∷ numbers_from (suc first) n ++ numbers_from k m) there

pub sum_split : (f : ℕ → ℕ) (first n m : ℕ)
    → sum_by f (numbers_from first (n + m)) ≡ sum_by f (numbers_from first n) + sum_by f (numbers_from (first + n) m)
sum_split f first n m = ap (sum_by f) (numbers_split first n m)
    ∙ sum_by-append f (numbers_from first n) (numbers_from (first + n) m)

pub sum_one : (f : ℕ → ℕ) (first : ℕ) → sum_by f (numbers_from first 1) ≡ f first
unfolding numbers_from
sum_one f first = let none : 0 + f first ≡ f first = omega arith in none

-- equal summands
pub sum_same : (f g : ℕ → ℕ) (first count : ℕ) → ((i : ℕ) → first ≤ i → i < first + count → f i ≡ g i)
    → sum_by f (numbers_from first count) ≡ sum_by g (numbers_from first count)
unfolding numbers_from
sum_same f g first zero same = refl
sum_same f g first (suc count) same =
    sum_by-cons f first (numbers_from (suc first) count)
    ∙ ap (λ (n : ℕ). n + sum_by f (numbers_from (suc first) count)) (same first (omega arith) (omega arith))
    ∙ ap (λ (n : ℕ). g first + n) (sum_same f g (suc first) count (λ i low high. same i (omega arith) (omega arith)))
    ∙ sym (sum_by-cons g first (numbers_from (suc first) count))

-- marked slots, and more of them
pub marked_none : (first : ℕ) (image : List ℕ) → marked_count first 0 image ≡ 0
unfolding marked_count numbers_from
marked_none first image = refl

pub marked_split : (first n m : ℕ) (image : List ℕ)
    → marked_count first (n + m) image ≡ marked_count first n image + marked_count (first + n) m image
unfolding marked_count
marked_split first n m image = sum_split (λ i. cond (is_marked image i) 1 0) first n m

pub marked_one : (first : ℕ) (image : List ℕ) (b : Bool) → is_marked image first ≡ b
    → marked_count first 1 image ≡ cond b 1 0
unfolding marked_count
marked_one first image b is = sum_one (λ i. cond (is_marked image i) 1 0) first ∙ ap (λ (x : Bool). cond x 1 0) is

pub marked_same : (first count : ℕ) (a b : List ℕ)
    → ((i : ℕ) → first ≤ i → i < first + count → is_marked a i ≡ is_marked b i)
    → marked_count first count a ≡ marked_count first count b
unfolding marked_count
marked_same first count a b same =
    sum_same (λ i. cond (is_marked a i) 1 0) (λ i. cond (is_marked b i) 1 0) first count
    (λ i low high. ap (λ (x : Bool). cond x 1 0) (same i low high))

pub marked_more : (first slot : ℕ) (image : List ℕ) (b : Bool) → first ≤ slot → is_marked image slot ≡ b
    → marked_count first (slot + 1 - first) image ≡ marked_count first (slot - first) image + cond b 1 0
marked_more first slot image b low is =
    let more : slot + 1 - first ≡ slot - first + 1 = omega arith in
    let there : first + (slot - first) ≡ slot = omega arith in
    ap (λ (n : ℕ). marked_count first n image) more ∙ marked_split first (slot - first) 1 image
    ∙ ap (λ (n : ℕ). marked_count first (slot - first) image + n)
    (ap (λ (k : ℕ). marked_count k 1 image) there ∙ marked_one slot image b is)

pub marked_part : (first n m : ℕ) (image : List ℕ) → n ≤ m → marked_count first n image ≤ marked_count first m image
marked_part first n m image fewer =
    let rest : n + (m - n) ≡ m = omega arith in
    omega (arith, marked_split first n (m - n) image, ap (λ (k : ℕ). marked_count first k image) rest)

-- whether a list has a byte that is not zero
all_zero : (xs : List ℕ) → IsZeroAt 0 (length xs) xs → list_any (λ byte. not (byte == 0)) xs ≡ false
all_zero [] none = refl
all_zero (x ∷ xs) none =
    or_from (not (x == 0)) (list_any (λ byte. not (byte == 0)) xs)
    (ap (λ (b : ℕ). not (b == 0)) (none 0 (omega arith) (omega arith)))
    (all_zero xs (λ place low high. none (suc place) (omega arith) (omega arith)))

first_and_rest : (x : ℕ) (xs : List ℕ) → x ≡ 0 → IsZeroAt 0 (length xs) xs → (place : ℕ) → place < length (x ∷ xs)
    → slice_index (x ∷ xs) place ≡ 0
first_and_rest x xs is rest zero high = is
first_and_rest x xs is rest (suc place) high = rest place (omega arith) (omega arith)

not_all_zero : (xs : List ℕ) → (IsZeroAt 0 (length xs) xs → ⊥) → list_any (λ byte. not (byte == 0)) xs ≡ true
not_all_zero [] differs = absurd (differs (λ place low high. absurd (omega arith)))
not_all_zero (x ∷ xs) differs = elim (cases_eq x 0) [
  | inl is ↦
      or_right (not (x == 0)) (list_any (λ byte. not (byte == 0)) xs)
      (not_all_zero xs (λ rest. differs (λ place low high. first_and_rest x xs is rest place (omega arith))))
  | inr some ↦ or_left (not (x == 0)) (list_any (λ byte. not (byte == 0)) xs) (ap not (ne_eqb x 0 some))
]

pub clear_none : (at n : ℕ) (image : List ℕ) → IsZeroAt 0 (length (bytes_at image at n)) (bytes_at image at n)
    → clear_writes at n image ≡ 0
unfolding clear_writes
clear_none at n image none = ap (λ (b : Bool). if b then 1 else 0) (all_zero (bytes_at image at n) none)

pub clear_one : (at n : ℕ) (image : List ℕ) → (IsZeroAt 0 (length (bytes_at image at n)) (bytes_at image at n) → ⊥)
    → clear_writes at n image ≡ 1
unfolding clear_writes
clear_one at n image differs = ap (λ (b : Bool). if b then 1 else 0) (not_all_zero (bytes_at image at n) differs)

pub clear_same : (places : ℕ → Type 0) (at n : ℕ) (a b : List ℕ)
    → ((place : ℕ) → at ≤ place → place < at + n → places place) → SameAt places a b
    → clear_writes at n b ≡ clear_writes at n a
unfolding clear_writes
clear_same places at n a b within same =
    ap (λ (l : List ℕ). if list_any (λ byte. not (byte == 0)) l then 1 else 0)
    (bytes_at-same places at n a b within same)

-- blocks of marks and shadow, and one more
pub clear_blocks_none : (image : List ℕ) → clear_block_writes 0 image ≡ 0
unfolding clear_block_writes numbers_from
clear_blocks_none image = refl

pub clear_blocks_more : (blocks : ℕ) (image : List ℕ)
    → clear_block_writes (blocks + 1) image ≡ clear_block_writes blocks image
    + clear_writes (8192 + 4096 * blocks) 4096 image
unfolding clear_block_writes
clear_blocks_more blocks image =
    let f = λ (i : ℕ). clear_writes (8192 + 4096 * i) 4096 image in
    let there : 0 + blocks ≡ blocks = omega arith in
    sum_split f 0 blocks 1 ∙ ap (λ (n : ℕ). sum_by f (numbers_from 0 blocks) + n) (sum_one f (0 + blocks) ∙ ap f there)

pub clear_blocks_part : (n m : ℕ) (image : List ℕ) → n ≤ m → clear_block_writes n image ≤ clear_block_writes m image
unfolding clear_block_writes
clear_blocks_part n m image fewer =
    let f = λ (i : ℕ). clear_writes (8192 + 4096 * i) 4096 image in
    let rest : n + (m - n) ≡ m = omega arith in
    omega (arith, sum_split f 0 n (m - n), ap (λ (k : ℕ). sum_by f (numbers_from 0 k)) rest)

-- what is redone where the flag is set, and where it is clear
pub redo_when : (slots : ℕ) (image : List ℕ) (set : Bool) → is_flag_set image ≡ set
    → (redo_writes slots image ≡ (if set then marked_count 0 (slots + 1) image + 1 else 0))
    × (redo_syncs image ≡ (if set then 2 else 0))
unfolding redo_writes redo_syncs
redo_when slots image set is = (
  ap (λ (b : Bool). if b then marked_count 0 (slots + 1) image + 1 else 0) is,
  ap (λ (b : Bool). if b then 2 else 0) is,
)

-- images with the same journal behind the flag take as many writes
pub erase_same : (slots : ℕ) (a b : List ℕ) → SameAt (IsBehindFlag slots) a b
    → erase_writes slots b ≡ erase_writes slots a
unfolding clear_block_writes mark_blocks table_at
erase_same slots a b same =
    let n = mark_blocks slots + slots in
    let gate = clear_same (IsBehindFlag slots) 4097 4095 a b (λ place low high. (low, omega arith)) same in
    let rest = sum_same (λ i. clear_writes (8192 + 4096 * i) 4096 b) (λ i. clear_writes (8192 + 4096 * i) 4096 a) 0 n
    (λ i low high. clear_same (IsBehindFlag slots) (8192 + 4096 * i) 4096 a b
    (λ place start end. (omega arith, omega arith)) same) in
    omega (arith, gate, rest)
