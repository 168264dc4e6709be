-- The pages of a list changed into those of another, level after level from the highest on.
use Rattle.std.proofs.Common.{◌≡◌, ℕ, zero, suc, ◌+◌, ◌-◌, ◌<◌, ◌≤◌, List, [], ◌∷◌, ◌++◌, sym, ap, ◌∙◌, append_assoc}
use Rattle.std.proofs.Common.{arith}
use Rattle.std.specs.List.{flat_map}
use Rattle.std.proofs.lemmas.List.{append-nil}
use Rattle.std.proofs.lemmas.Grind.{flat_map-append}
use Rattle.store_model.specs.Lists.{numbers_from}
use Rattle.store_model.specs.Labels.{Lead}
use Rattle.store_model.specs.Pairs.{Pair}
use Rattle.store_model.specs.Draws.{Draw}
use Rattle.store_model.specs.Pages.{Page, IsPage, level_pages, pages_of_pairs}
use Rattle.store_model.proofs.ListsLemmas.{all_weaker, all_flat_map, all_numbers_from, all_numbers_below}
use Rattle.store_model.proofs.PagesLemmasSizes.{IsPairList, level_pages_are_pages}
use Rattle.skip_groups.specs.GroupChanges.{AreApart}
use Rattle.skip_levels.proofs.PlaceGroups.{other_levels}

module _ (d : Draw) (s t : List Pair) where
  -- the pages of the levels below one, and of those from one on
  abbrev pub lower_pages : ℕ → List Page
  lower_pages level = flat_map (level_pages d s) (numbers_from 0 level)

  abbrev pub higher_pages : ℕ → List Page
  higher_pages level = flat_map (level_pages d t) (numbers_from level (d.height - level))

  -- the pages below a level are those of s still, the others those of t already
  abbrev pub pages_between : ℕ → List Page
  pages_between level = lower_pages level ++ higher_pages level

  -- before the first change, and behind the last
  pub none_changed : pages_between d.height ≡ pages_of_pairs d s
  unfolding pages_of_pairs numbers_from
  none_changed =
      let none : d.height - d.height ≡ 0 = omega arith in
      ap (λ n. lower_pages d.height ++ flat_map (level_pages d t) (numbers_from d.height n)) none
      ∙ append-nil (lower_pages d.height)

  pub all_changed : pages_between 0 ≡ pages_of_pairs d t
  unfolding pages_of_pairs numbers_from
  all_changed = let all : d.height - 0 ≡ d.height = omega arith
      in ap (λ n. flat_map (level_pages d t) (numbers_from 0 n)) all

  -- one number more behind the others
  numbers_push : (first n : ℕ) → numbers_from first (n + 1) ≡ numbers_from first n ++ (first + n) ∷ []
  unfolding numbers_from
  numbers_push first zero = let here : first ≡ first + 0 = omega arith in ap (λ k. k ∷ []) here
  numbers_push first (suc n) =
      let count : suc n + 1 ≡ suc (n + 1) = omega arith in
      let place : suc first + n ≡ first + suc n = omega arith in
      ap (numbers_from first) count ∙ ap (λ ns. first ∷ ns)
      (numbers_push (suc first) n ∙ ap (λ k. numbers_from (suc first) n ++ k ∷ []) place)

  module _ (level : ℕ) (within : level < d.height) where
    -- the pages before the change of a level, and behind it
    pub before_level : pages_between (level + 1) ≡ lower_pages level
        ++ (level_pages d s level ++ higher_pages (level + 1))
    before_level =
        ap (λ ns. flat_map (level_pages d s) ns ++ higher_pages (level + 1)) (numbers_push 0 level)
        ∙ ap (λ ps. ps ++ higher_pages (level + 1))
        (flat_map-append (level_pages d s) (numbers_from 0 level) ((0 + level) ∷ [])
        ∙ ap (λ ps. lower_pages level ++ ps) (one_level level))
        ∙ append_assoc (lower_pages level) (level_pages d s level) (higher_pages (level + 1))
      where
        one_level : (n : ℕ) → flat_map (level_pages d s) ((0 + n) ∷ []) ≡ level_pages d s n
        one_level n = let same : 0 + n ≡ n = omega arith
            in ap (λ k. flat_map (level_pages d s) (k ∷ [])) same ∙ append-nil (level_pages d s n)

    pub behind_level : pages_between level ≡ lower_pages level ++ (level_pages d t level ++ higher_pages (level + 1))
    unfolding numbers_from
    behind_level =
        let count : d.height - level ≡ suc (d.height - (level + 1)) = omega arith in
        let next : suc level ≡ level + 1 = omega arith in
        ap (λ n. lower_pages level ++ flat_map (level_pages d t) (numbers_from level n)) count
        ∙ ap (λ n. lower_pages level
        ++ (level_pages d t level ++ flat_map (level_pages d t) (numbers_from n (d.height - (level + 1))))) next

    -- a level on which both lists have the same pages needs no change
    pub same_level : level_pages d s level ≡ level_pages d t level → pages_between (level + 1) ≡ pages_between level
    same_level same = before_level ∙ ap (λ ps. lower_pages level ++ (ps ++ higher_pages (level + 1))) same
        ∙ sym behind_level

    -- the pages of other levels are apart from each group of this one
    pub lower_apart : (lead : Lead) → d.height ≤ 256 → IsPairList s → AreApart level lead (lower_pages level)
    lower_apart lead low valid = record {
      valid = all_flat_map (λ n. n < 0 + level) IsPage (level_pages d s)
          (λ n below. level_pages_are_pages d s n (omega arith) valid) (numbers_from 0 level)
          (all_numbers_below 0 level);
      others = other_levels d level lead s (numbers_from 0 level)
          (all_weaker _ _ (λ n b same. absurd (omega arith)) (numbers_from 0 level) (all_numbers_below 0 level));
    }

    pub higher_apart : (lead : Lead) → d.height ≤ 256 → IsPairList t → AreApart level lead (higher_pages (level + 1))
    higher_apart lead low valid = record {
      valid = all_flat_map (λ n. n < level + 1 + (d.height - (level + 1))) IsPage (level_pages d t)
          (λ n below. level_pages_are_pages d t n (omega arith) valid)
          (numbers_from (level + 1) (d.height - (level + 1))) (all_numbers_below (level + 1) (d.height - (level + 1)));
      others = other_levels d level lead t (numbers_from (level + 1) (d.height - (level + 1)))
          (all_weaker _ _ (λ n b same. absurd (omega arith)) (numbers_from (level + 1) (d.height - (level + 1)))
          (all_numbers_from (level + 1) (d.height - (level + 1))));
    }
