-- The cells of a group on the sides of a key, around a place of a list of pairs.
use Rattle.std.proofs.Common.{◌≡◌, ℕ, ◌≤◌, List, [], ◌∷◌, ◌++◌, filter, nat_le, Less, Greater, sym, ap, ap₂, subst, ◌∙◌}
use Rattle.std.proofs.Common.{append_assoc}
use Rattle.std.specs.List.{AllByRecursion}
use Rattle.std.specs.List.Sorted.{IsStrictlySortedBy}
use Rattle.std.specs.Cmp.{tied_itself}
use Rattle.std.specs.Cmp.Lexicographic.{nat_list_cmp_total}
use Rattle.store_model.specs.Paths.{key_cmp}
use Rattle.store_model.specs.Draws.{Draw}
use Rattle.store_model.specs.Labels.{Lead}
use Rattle.store_model.specs.Pairs.{Pair}
use Rattle.store_model.specs.Pages.{Cell, Page, IsCell, IsPage, cell_on, level_list, leads_group, group_pages}
use Rattle.store_model.proofs.ListsLemmas.{all_map, all_filter, all_with, all_front, all_back, all_flat_map}
use Rattle.store_model.proofs.ListsLemmas.{rising_to_map, rising_front, rising_back, rising_from_is_sorted}
use Rattle.store_model.proofs.PagesLemmasOrder.{cell_on-key, cell_cmp, rising_level_list}
use Rattle.store_model.proofs.PagesLemmasSizes.{IsPairList}
use Rattle.store_model.proofs.PagesLemmasSplits.{level_list-there}
use Rattle.node_pages.proofs.Joined.{cells_of_group}
use Rattle.node_pages.proofs.PlaceLemmas.{reversed}
use Rattle.skip_groups.specs.GroupCells.{AreCells}
use Rattle.skip_levels.proofs.Around.{last_part, first_cut}
use Rattle.skip_levels.proofs.PlaceChanges.{part, mid}
use Rattle.skip_levels.proofs.PlaceGroups.{level_list-append, group_labels}
use Rattle.skip_groups.proofs.Sides.{rising_split, AreAround}

-- ---- the cells of a place

-- valid pages have valid cells
pub cells_of_pages : (d : Draw) (level : ℕ) (lead : Lead) (cells : List Cell)
    → AllByRecursion IsPage (group_pages level lead cells) → AllByRecursion (IsCell level) cells
cells_of_pages d level lead cells valid =
    subst (AllByRecursion (IsCell level)) (cells_of_group level lead cells)
    (all_flat_map (λ (p : Page). IsPage p × (p.label.level ≡ level)) (IsCell level) (λ p. p.cells)
    (λ p h. subst (λ n. AllByRecursion (IsCell n) p.cells) h.1 h.0.cells) (group_pages level lead cells)
    (all_with IsPage (λ (p : Page). (p.label.level ≡ level) × (p.label.lead ≡ lead))
    (λ (p : Page). IsPage p × (p.label.level ≡ level)) (λ p a b. (a, b.0)) (group_pages level lead cells) valid
    (group_labels d level lead cells)))

module _ (d : Draw) (level : ℕ) (low high : List Pair) (y : Pair) (more : IsPairList (low ++ y ∷ high)) where
  pub sides : AllByRecursion (λ (p : Pair). key_cmp p.0 y.0 ≡ Less) low
      × AllByRecursion (λ (p : Pair). key_cmp y.0 p.0 ≡ Less) high
  sides = rising_split (λ (a b : Pair). key_cmp a.0 b.0) low y high
      (rising_from_is_sorted key_cmp (low ++ y ∷ high) more.pairs.sorted)

  low_cells : AllByRecursion (λ c. key_cmp c.key y.0 ≡ Less) (level_list d low level)
  unfolding level_list
  low_cells =
      let stays = λ (pair : Pair). nat_le level (d.level pair.0) in
      all_map (λ (p : Pair). key_cmp p.0 y.0 ≡ Less) (λ c. key_cmp c.key y.0 ≡ Less) (cell_on level)
      (λ p less. ap (λ k. key_cmp k y.0) (cell_on-key level p) ∙ less) (filter stays low)
      (all_filter _ stays low sides.0)

  high_cells : AllByRecursion (λ c. key_cmp c.key y.0 ≡ Greater) (level_list d high level)
  unfolding level_list
  high_cells =
      let stays = λ (pair : Pair). nat_le level (d.level pair.0) in
      all_map (λ (p : Pair). key_cmp y.0 p.0 ≡ Less) (λ c. key_cmp c.key y.0 ≡ Greater) (cell_on level)
      (λ p less. ap (λ k. key_cmp k y.0) (cell_on-key level p) ∙ reversed y.0 p.0 Less less) (filter stays high)
      (all_filter _ stays high sides.1)

  -- those of the group, and the pair's own
  pub around_key : AreAround y.0 (part d level low high y) (cell_on level y ∷ []) (mid d level low high y)
  around_key =
      let l = last_part (leads_group d level) (level_list d low level) in
      let h = first_cut (leads_group d level) (level_list d high level) in
      record {
        below = all_back (λ c. key_cmp c.key y.0 ≡ Less)
            l.before l.part (subst (AllByRecursion (λ c. key_cmp c.key y.0 ≡ Less)) l.whole low_cells);
        same = (ap (λ k. key_cmp k y.0) (cell_on-key level y) ∙ tied_itself nat_list_cmp_total y.0, tt);
        above = all_front (λ c. key_cmp c.key y.0 ≡ Greater)
            h.part h.behind (subst (AllByRecursion (λ c. key_cmp c.key y.0 ≡ Greater)) h.whole high_cells);
      }

-- the cells of the group of a place strictly rise
pub rising_place : (d : Draw) (level : ℕ) (low high : List Pair) (y : Pair) → IsPairList (low ++ high)
    → IsStrictlySortedBy cell_cmp (part d level low high y ++ mid d level low high y)
rising_place d level low high y less =
    let l = last_part (leads_group d level) (level_list d low level) in
    let h = first_cut (leads_group d level) (level_list d high level) in
    let cells : level_list d (low ++ high) level ≡ l.before ++ ((l.part ++ h.part) ++ h.behind) =
    level_list-append d level low high ∙ ap₂ (λ xs ys. xs ++ ys) l.whole h.whole
    ∙ append_assoc l.before l.part (h.part ++ h.behind)
    ∙ ap (λ ys. l.before ++ ys) (sym (append_assoc l.part h.part h.behind)) in
    rising_front cell_cmp (l.part ++ h.part)
    h.behind (rising_back cell_cmp l.before ((l.part ++ h.part) ++ h.behind)
    (subst (IsStrictlySortedBy cell_cmp) cells (rising_level_list d (low ++ high) level less.pairs.sorted)))

pub rising_with_one : (d : Draw) (level : ℕ) (low high : List Pair) (y : Pair) → level ≤ d.level y.0
    → IsPairList (low ++ y ∷ high)
    → IsStrictlySortedBy cell_cmp (part d level low high y ++ (cell_on level y ∷ mid d level low high y))
rising_with_one d level low high y on more =
    let l = last_part (leads_group d level) (level_list d low level) in
    let h = first_cut (leads_group d level) (level_list d high level) in
    let own = cell_on level y in
    let cells : level_list d (low ++ y ∷ high) level ≡ l.before ++ ((l.part ++ (own ∷ h.part)) ++ h.behind) =
    level_list-append d level low (y ∷ high)
    ∙ ap₂ (λ xs ys. xs ++ ys) l.whole (level_list-there d y high level on ∙ ap (λ xs. own ∷ xs) h.whole)
    ∙ append_assoc l.before l.part (own ∷ (h.part ++ h.behind))
    ∙ ap (λ ys. l.before ++ ys) (sym (append_assoc l.part (own ∷ h.part) h.behind)) in
    rising_front cell_cmp (l.part ++ (own ∷ h.part))
    h.behind (rising_back cell_cmp l.before ((l.part ++ (own ∷ h.part)) ++ h.behind)
    (subst (IsStrictlySortedBy cell_cmp) cells (rising_level_list d (low ++ y ∷ high) level more.pairs.sorted)))

pub are_cells : (d : Draw) (level : ℕ) (lead : Lead) (cells : List Cell)
    → AllByRecursion IsPage (group_pages level lead cells) → IsStrictlySortedBy cell_cmp cells → AreCells level cells
are_cells d level lead cells valid rising = record {
  each = cells_of_pages d level lead cells valid;
  rising = rising_to_map key_cmp (λ c. c.key) cells rising;
}
