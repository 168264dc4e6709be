-- How many writes scrub the first slots.
use Rattle.std.proofs.Common.{◌≡◌, ℕ, zero, suc, ◌+◌, ◌-◌, ◌<◌, ◌≤◌, List, Bool, if◌then◌else◌, refl, ap, ◌∙◌, arith}
use Rattle.std.specs.List.{sum_by}
use Rattle.store_model.specs.Lists.{numbers_from}
use Rattle.gate_journal.proofs.Counting.{sum_split, sum_one, sum_same}
use Rattle.scrub_free.specs.FreeSlots.{StandClean, block_writes, scrub_writes}

pub scrub_writes-none : (slot : ℕ → List ℕ) → scrub_writes slot 0 ≡ 0
unfolding scrub_writes numbers_from
scrub_writes-none slot = refl

-- one slot more
pub scrub_writes-more : (slot : ℕ → List ℕ) (n : ℕ)
    → scrub_writes slot (n + 1) ≡ scrub_writes slot n + block_writes (slot n)
unfolding scrub_writes
scrub_writes-more slot n =
    let writes = λ (i : ℕ). block_writes (slot i) in
    let here : 0 + n ≡ n = omega arith in
    sum_split writes 0 n 1 ∙ ap (λ (k : ℕ). sum_by writes (numbers_from 0 n) + k)
    (sum_one writes (0 + n) ∙ ap writes here)

-- fewer slots take no more
pub scrub_writes-part : (slot : ℕ → List ℕ) (n m : ℕ) → n ≤ m → scrub_writes slot n ≤ scrub_writes slot m
unfolding scrub_writes
scrub_writes-part slot n m fewer =
    let writes = λ (i : ℕ). block_writes (slot i) in
    let whole : n + (m - n) ≡ m = omega arith in
    omega (arith, sum_split writes 0 n (m - n), ap (λ (k : ℕ). sum_by writes (numbers_from 0 k)) whole)

-- equal slots take as many
pub scrub_writes-same : (slot other : ℕ → List ℕ) (n : ℕ) → ((i : ℕ) → i < n → slot i ≡ other i)
    → scrub_writes slot n ≡ scrub_writes other n
unfolding scrub_writes
scrub_writes-same slot other n same =
    sum_same (λ i. block_writes (slot i)) (λ i. block_writes (other i)) 0 n
    (λ i low high. ap (λ (bytes : List ℕ). block_writes bytes) (same i (omega arith)))

-- clean slots take none
pub scrub_writes-clean : (slot : ℕ → List ℕ) (n : ℕ) → StandClean slot n → scrub_writes slot n ≡ 0
scrub_writes-clean slot zero clean = scrub_writes-none slot
scrub_writes-clean slot (suc n) clean =
    let more : suc n ≡ n + 1 = omega arith in
    let here : block_writes (slot n) ≡ 0 = ap (λ (b : Bool). if b then 1 else 0) (clean n (omega arith)) in
    let before : scrub_writes slot n ≡ 0 = scrub_writes-clean slot n (λ i low. clean i (omega arith)) in
    let all : scrub_writes slot (n + 1) ≡ 0 = omega (arith, scrub_writes-more slot n, here, before) in
    ap (scrub_writes slot) more ∙ all
