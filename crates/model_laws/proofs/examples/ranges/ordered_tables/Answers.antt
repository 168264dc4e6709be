use Rattle.std.proofs.Common.{◌≡◌, ℕ, ◌<◌, [], ◌∷◌, codes, Some, None, refl, arith}
use Rattle.std.specs.List.{AllByRecursion}
use Rattle.std.proofs.lemmas.Map.Keys.{IsDistinct-from_sorted}
use Rattle.model_laws.specs.Compute.{everything}
use Rattle.store_model.specs.Lists.{IsBytes, zeros}
use Rattle.store_model.specs.Parameters.{IsParameters}
use Rattle.store_model.specs.Paths.{key_cmp}
use Rattle.store_model.specs.Labels.{label_cmp}
use Rattle.store_model.specs.Draws.{draw_of}
use Rattle.store_model.specs.Pages.{Page, IsPage}
use Rattle.model_laws.specs.Examples.{ruler, start_label, page, directory_cell, key_of}
use Rattle.store_model.proofs.ListsLemmas.{all_replicate, bytes_from_all, rising_one}
use Rattle.store_model.proofs.PlacementLemmasDraws.{IsLawful-draw_of}
use Rattle.store_model.proofs.PlacementLemmasTables.{IsOrderedTable-place}
use Rattle.model_laws.proofs.examples.ranges.ordered_tables.Goals as goal

-- the page of the directory `/a`
abbrev one : Page
one = page (start_label 0 0) (directory_cell (codes "a") ∷ [])

-- zeros are bytes
all_zeros : (n : ℕ) → AllByRecursion (λ x. x < 256) (zeros n)
all_zeros n = all_replicate (λ x. x < 256) n 0 (omega arith)

-- its key is made of bytes
bytes_of_key : IsBytes (key_of (codes "a"))
unfolding everything
bytes_of_key = bytes_from_all (key_of (codes "a")) (omega arith, all_zeros 123)

-- it is a page
is_page : IsPage one
unfolding everything
is_page = record {
  label = record { level = omega arith; lead = tt; index = omega arith };
  some_cell = omega arith;
  room = omega arith;
  cells = (
    record {
      key_length = refl;
      key_bytes = bytes_of_key;
      value = (refl, (omega arith, omega arith, bytes_from_all (1 ∷ []) (omega arith, tt)));
    },
    tt,
  );
  rising = rising_one key_cmp (key_of (codes "a"));
}

-- the parameters are in range
in_range : IsParameters (ruler 2 1)
in_range = record {
  some_slot = omega arith;
  slots_in_range = omega arith;
  some_level = omega arith;
  height_in_range = omega arith;
  seed_length = refl;
  seed_bytes = bytes_from_all (zeros 32) (all_zeros 32);
}

pub returns-clause-at_its_start : goal.returns-clause-at_its_start
unfolding everything
returns-clause-at_its_start c =
    IsOrderedTable-place (draw_of (ruler 2 1)) (one ∷ []) (IsLawful-draw_of (ruler 2 1) in_range) (omega arith)
    (IsDistinct-from_sorted label_cmp (start_label 0 0 ∷ []) (rising_one label_cmp (start_label 0 0))) (is_page, tt)

pub returns-clause-behind_its_start : goal.returns-clause-behind_its_start
unfolding everything
returns-clause-behind_its_start c is =
    let before = is.in_order one 1 (omega arith) refl 0 (omega arith) in
    let held : Some None ≡ Some (Some before.0) = before.1 in
    cc
