-- The image of the empty tree: no pages, which fit.
use Rattle.std.proofs.Common.{◌≡◌, ℕ, ◌≤◌, List, [], ◌∷◌, ◌++◌, length, refl, ap, ◌∙◌, arith}
use Rattle.std.specs.List.{flat_map}
use Rattle.store_model.specs.Lists.{numbers_below, cut_before}
use Rattle.store_model.specs.Parameters.{Parameters}
use Rattle.store_model.specs.Trees.{empty_tree}
use Rattle.store_model.specs.Draws.{Draw}
use Rattle.store_model.specs.Pairs.{pairs}
use Rattle.store_model.specs.Pages.{Page, level_list, groups, level_pages, pages_of_pairs, pages}
use Rattle.store_model.specs.Images.{layout}
use Rattle.image_writer.specs.Sealing.{image_of, image_of_pairs}

no_level : (d : Draw) (level : ℕ) → level_pages d [] level ≡ []
unfolding level_pages groups level_list cut_before
no_level d level = refl

no_levels : (d : Draw) (levels : List ℕ) → length (flat_map (level_pages d []) levels) ≡ 0
no_levels d [] = refl
no_levels d (level ∷ levels) =
    ap (λ (pages : List Page). length (pages ++ flat_map (level_pages d []) levels)) (no_level d level)
    ∙ no_levels d levels

no_pages : (d : Draw) → length (pages_of_pairs d []) ≡ 0
unfolding pages_of_pairs
no_pages d = no_levels d (numbers_below d.height)

pub none_fit : (d : Draw) → length (pages_of_pairs d []) ≤ d.slots
none_fit d = let none = no_pages d in omega (arith, none)

-- the image of no pairs is that of the empty tree
pub none_image : (p : Parameters) → image_of_pairs p [] ≡ layout empty_tree p
unfolding layout pages pairs image_of
none_image p = refl
