-- The pages of all levels, level after level.
use Rattle.std.proofs.Common.{◌≡◌, ℕ, zero, suc, ◌+◌, ◌*◌, ◌≤◌, List, ◌++◌, length, refl, sym, ap, ◌∙◌, arith}
use Rattle.std.proofs.Common.{append_assoc, append-nil}
use Rattle.std.specs.List.{flat_map}
use Rattle.std.proofs.lemmas.List.{length-append}
use Rattle.store_model.specs.Lists.{numbers_from, numbers_below}
use Rattle.store_model.specs.Draws.{Draw}
use Rattle.store_model.specs.Pages.{level_pages}
use Rattle.layout_scratch.specs.Sorting.{sorted_limit}
use Rattle.layout_scratch.specs.declared.ranked.Ranked.{Ranked}
use Rattle.layout_scratch.specs.Ranks.{pairs_of, AreRanked}

-- what a function makes of one number more
made_of_numbers : {A : Type 0} (f : ℕ → List A) (first count : ℕ)
    → flat_map f (numbers_from first (suc count)) ≡ flat_map f (numbers_from first count) ++ f (first + count)
unfolding numbers_from
made_of_numbers f first zero = append-nil (f first) ∙ ap f (let e : first ≡ first + 0 = omega arith in e)
made_of_numbers f first (suc count) =
    ap (λ made. f first ++ made) (made_of_numbers f (suc first) count
    ∙ ap (λ n. flat_map f (numbers_from (suc first) count) ++ f n)
    (let e : suc first + count ≡ first + suc count = omega arith in e))
    ∙ sym (append_assoc (f first) (flat_map f (numbers_from (suc first) count)) (f (first + suc count)))

-- and of one level more
pub made_of_levels : {A : Type 0} (f : ℕ → List A) (level : ℕ)
    → flat_map f (numbers_below (level + 1)) ≡ flat_map f (numbers_below level) ++ f level
made_of_levels f level =
    ap (λ n. flat_map f (numbers_below n)) (let e : level + 1 ≡ suc level = omega arith in e)
    ∙ made_of_numbers f 0 level ∙ ap (λ n. flat_map f (numbers_below level) ++ f n)
    (let e : 0 + level ≡ level = omega arith in e)

-- the pages of the levels below one are counted
pub record CountsLevels (ranked : List Ranked) (count level : ℕ) : Type 0 where
  pub few : count ≤ level * sorted_limit
  pub counted : (d : Draw) → AreRanked d ranked
      → count ≡ length (flat_map (level_pages d (pairs_of ranked)) (numbers_below level))

pub levels_none : (ranked : List Ranked) → CountsLevels ranked 0 0
unfolding numbers_from
levels_none ranked = record { few = omega arith; counted = λ d levels. refl }

-- one level on
pub levels_more : (ranked : List Ranked) (count level n : ℕ) → CountsLevels ranked count level → n ≤ sorted_limit
    → ((d : Draw) → AreRanked d ranked → n ≡ length (level_pages d (pairs_of ranked) level))
    → CountsLevels ranked (count + n) (level + 1)
levels_more ranked count level n so_far few n_is = record {
  few = omega (arith, so_far.few);
  counted = λ d levels.
      let f = level_pages d (pairs_of ranked) in
      let more = ap length (made_of_levels f level) in
      omega (
        arith,
        so_far.counted d levels,
        n_is d levels,
        more,
        length-append (flat_map f (numbers_below level)) (f level),
      );
}
