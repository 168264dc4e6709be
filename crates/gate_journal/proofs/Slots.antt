-- Lists that are made of blocks, one for each slot.
use Rattle.std.proofs.Common.{◌≡◌, ℕ, zero, suc, ◌+◌, ◌*◌, ◌<◌, ◌≤◌, List, ◌++◌, map, length, take, drop, Some}
use Rattle.std.proofs.Common.{slice_get, refl, sym, ap, ◌∙◌, arith, take-append-drop, length-append}
use Rattle.std.specs.List.{flat_map}
use Rattle.std.proofs.lemmas.List.{take_at, drop_at, take-take, drop-take, drop-drop}
use Rattle.store_model.specs.Lists.{numbers_from}
use Rattle.store_model.specs.Images.{bytes_at}

-- slot i of a list of slots
pub get_number : (f : ℕ → List ℕ) (first count i : ℕ) → i < count
    → slice_get (map f (numbers_from first count)) i ≡ Some (f (first + i))
unfolding numbers_from
get_number f first zero i below = absurd (omega arith)
get_number f first (suc count) zero below = let here : first ≡ first + 0 = omega arith
    in ap (λ (n : ℕ). Some (f n)) here
get_number f first (suc count) (suc i) below =
    let there : suc first + i ≡ first + suc i = omega arith in
    get_number f (suc first) count i (omega arith) ∙ ap (λ (n : ℕ). Some (f n)) there

-- block i of blocks of n elements each
pub block-flat_map : (f : ℕ → List ℕ) (n first count i : ℕ) → ((j : ℕ) → j < first + count → length (f j) ≡ n)
    → i < count → take n (drop (n * i) (flat_map f (numbers_from first count))) ≡ f (first + i)
unfolding numbers_from
block-flat_map f n first zero i lengths below = absurd (omega arith)
block-flat_map f n first (suc count) zero lengths below =
    let rest = flat_map f (numbers_from (suc first) count) in
    let none : n * 0 ≡ 0 = omega arith in
    let here : first ≡ first + 0 = omega arith in
    ap (λ (m : ℕ). take n (drop m (f first ++ rest))) none
    ∙ take_at (f first) rest n (lengths first (omega arith)) ∙ ap f here
block-flat_map f n first (suc count) (suc i) lengths below =
    let rest = flat_map f (numbers_from (suc first) count) in
    let more : n * suc i ≡ n + n * i = omega arith in
    let there : suc first + i ≡ first + suc i = omega arith in
    ap (λ (m : ℕ). take n (drop m (f first ++ rest))) more
    ∙ ap (take n) (sym (drop-drop (n * i) n (f first ++ rest)))
    ∙ ap (λ (l : List ℕ). take n (drop (n * i) l)) (drop_at (f first) rest n (lengths first (omega arith)))
    ∙ block-flat_map f n (suc first) count i (λ j low. lengths j (omega arith)) (omega arith) ∙ ap f there

pub take_split : (n m : ℕ) (xs : List ℕ) → take (n + m) xs ≡ take n xs ++ take m (drop n xs)
take_split n m xs =
    let le : n ≤ n + m = omega arith in
    sym (take-append-drop n (take (n + m) xs))
    ∙ ap (λ (l : List ℕ). l ++ drop n (take (n + m) xs)) (take-take n (n + m) xs le)
    ∙ ap (λ (l : List ℕ). take n xs ++ l) (drop-take n m xs)

-- the blocks of a part of a list, joined
pub flat_map-blocks : (xs : List ℕ) (at n first count : ℕ)
    → flat_map (λ i. bytes_at xs (at + n * i) n) (numbers_from first count)
    ≡ take (n * count) (drop (at + n * first) xs)
unfolding numbers_from
flat_map-blocks xs at n first zero =
    let none : 0 ≡ n * 0 = omega arith in
    ap (λ (m : ℕ). take m (drop (at + n * first) xs)) none
flat_map-blocks xs at n first (suc count) =
    let more : n + n * count ≡ n * suc count = omega arith in
    let next : at + n * suc first ≡ at + n * first + n = omega arith in
    ap (λ (l : List ℕ). bytes_at xs (at + n * first) n ++ l) (flat_map-blocks xs at n (suc first) count)
    ∙ ap (λ (m : ℕ). bytes_at xs (at + n * first) n ++ take (n * count) (drop m xs)) next
    ∙ ap (λ (l : List ℕ). bytes_at xs (at + n * first) n ++ take (n * count) l) (sym (drop-drop n (at + n * first) xs))
    ∙ sym (take_split n (n * count) (drop (at + n * first) xs)) ∙ ap (λ (m : ℕ). take m (drop (at + n * first) xs)) more

-- equal blocks
pub flat_map-same : (f g : ℕ → List ℕ) (first count : ℕ) → ((j : ℕ) → j < first + count → f j ≡ g j)
    → flat_map f (numbers_from first count) ≡ flat_map g (numbers_from first count)
unfolding numbers_from
flat_map-same f g first zero same = refl
flat_map-same f g first (suc count) same =
    ap (λ (l : List ℕ). l ++ flat_map f (numbers_from (suc first) count)) (same first (omega arith))
    ∙ ap (λ (l : List ℕ). g first ++ l) (flat_map-same f g (suc first) count (λ j low. same j (omega arith)))

-- blocks of n elements each, joined
pub length-flat_map-blocks : (f : ℕ → List ℕ) (n first count : ℕ) → ((j : ℕ) → j < first + count → length (f j) ≡ n)
    → length (flat_map f (numbers_from first count)) ≡ n * count
unfolding numbers_from
length-flat_map-blocks f n first zero lengths = omega arith
length-flat_map-blocks f n first (suc count) lengths =
    let rest = flat_map f (numbers_from (suc first) count) in
    let more : n * suc count ≡ n + n * count = omega arith in
    omega (
      arith,
      more,
      length-append (f first) rest,
      lengths first (omega arith),
      length-flat_map-blocks f n
          (suc first) count (λ j low. lengths j (omega arith)),
    )
