-- What one pair more in a list changes on a level: the pages of one group alone.
use Rattle.std.proofs.Common.{◌≡◌, ℕ, ◌<◌, ◌≤◌, List, [], ◌∷◌, ◌++◌, true, false, nat_lt, refl, sym, ap, ap₂, ◌∙◌}
use Rattle.std.proofs.Common.{append_assoc, arith, lt-ltb}
use Rattle.std.proofs.lemmas.Bool.{le-ltb}
use Rattle.std.proofs.lemmas.List.{append-nil}
use Rattle.store_model.specs.Draws.{Draw}
use Rattle.store_model.specs.Labels.{Lead}
use Rattle.store_model.specs.Labels.Lead.{Leader}
use Rattle.store_model.specs.Pairs.{Pair}
use Rattle.store_model.specs.Pages.{Cell, Page, cell_on, level_list, leads_group, group_pages, level_pages}
use Rattle.store_model.proofs.PagesLemmasOrder.{cell_on-key}
use Rattle.store_model.proofs.PagesLemmasSplits.{level_list-there}
use Rattle.skip_levels.specs.SearchPath.{leader_behind}
use Rattle.skip_levels.proofs.Apart.{list_pages, list_pages_none, pages_of_group, paged_apart, group_alone}
use Rattle.skip_levels.proofs.Around.{HasNoCut, LastPart, FirstCut, last_part, first_cut, pages_around}
use Rattle.skip_levels.proofs.PlaceGroups.{level_is_list, level_list-append, leader_of_parts, key_leads}

-- The pages of a level without a pair and with it: on the pair's own level one group has its cell more; below, the
-- group is cut before it; above, nothing changes.
pub record PartsLevel (d : Draw) (level : ℕ) (low high : List Pair) (y : Pair) : Type 0 where
  pub front : List Page
  pub back : List Page
  pub part : List Cell
  pub mid : List Cell
  pub without : level_pages d (low ++ high) level
      ≡ front ++ (group_pages level (leader_behind d level low) (part ++ mid) ++ back)
  pub on_its_level : d.level y.0 ≡ level → level_pages d (low ++ y ∷ high) level
      ≡ front ++ (group_pages level (leader_behind d level low) (part ++ cell_on level y ∷ mid) ++ back)
  pub below : level < d.level y.0 → level_pages d (low ++ y ∷ high) level
      ≡ front ++ (group_pages level (leader_behind d level low) part
      ++ (group_pages level (Leader y.0) (cell_on level y ∷ mid) ++ back))

module _ (d : Draw) (level : ℕ) (low high : List Pair) (y : Pair) where
  abbrev l : LastPart (leads_group d level) (level_list d low level)
  l = last_part (leads_group d level) (level_list d low level)

  abbrev h : FirstCut (leads_group d level) (level_list d high level)
  h = first_cut (leads_group d level) (level_list d high level)

  -- the pages of cells that the leader of the place leads
  led_pages : (cells : List Cell) → HasNoCut (leads_group d level) cells
      → pages_of_group d level (l.part ++ cells) ≡ group_pages level (leader_behind d level low) (l.part ++ cells)
  led_pages cells none = ap (λ (lead : Lead). group_pages level lead (l.part ++ cells))
      (leader_of_parts d level low cells none)

  pub pages_without : level_pages d (low ++ high) level ≡ list_pages d level l.before
      ++ (group_pages level (leader_behind d level low) (l.part ++ h.part) ++ list_pages d level h.behind)
  pages_without =
      level_is_list d level (low ++ high) ∙ ap (list_pages d level) (level_list-append d level low high)
      ∙ pages_around d level (level_list d low level) (level_list d high level) l h
      ∙ ap (λ ps. list_pages d level l.before ++ (ps ++ list_pages d level h.behind)) (led_pages h.part h.uncut)

  cell_there : level ≤ d.level y.0 → level_list d (low ++ y ∷ high) level ≡ level_list d low level
      ++ (cell_on level y ∷ level_list d high level)
  cell_there on = level_list-append d level low (y ∷ high)
      ∙ ap (λ cells. level_list d low level ++ cells) (level_list-there d y high level on)

  pub pages_on_its_level : d.level y.0 ≡ level
      → level_pages d (low ++ y ∷ high) level ≡ list_pages d level l.before
      ++ (group_pages level (leader_behind d level low) (l.part ++ cell_on level y ∷ h.part)
      ++ list_pages d level h.behind)
  pages_on_its_level e =
      let uncut : leads_group d level (cell_on level y) ≡ false =
      ap (λ k. nat_lt level (d.level k)) (cell_on-key level y) ∙ le-ltb level (d.level y.0) (omega arith) in
      let more : FirstCut (leads_group d level) (cell_on level y ∷ level_list d high level) = record {
        part = cell_on level y ∷ h.part;
        behind = h.behind;
        whole = ap (λ cells. cell_on level y ∷ cells) h.whole;
        uncut = (uncut, h.uncut);
        next = h.next;
      } in
      level_is_list d level (low ++ y ∷ high) ∙ ap (list_pages d level) (cell_there (omega arith))
      ∙ pages_around d level (level_list d low level) (cell_on level y ∷ level_list d high level) l more
      ∙ ap (λ ps. list_pages d level l.before ++ (ps ++ list_pages d level h.behind))
      (led_pages (cell_on level y ∷ h.part) (uncut, h.uncut))

  -- the pages of the lower side alone
  pub pages_of_low : list_pages d level (level_list d low level) ≡ list_pages d level l.before
      ++ group_pages level (leader_behind d level low) l.part
  pages_of_low =
      let none : FirstCut (leads_group d level) [] = record {
        part = [];
        behind = [];
        whole = refl;
        uncut = tt;
        next = tt;
      } in
      let before = list_pages d level l.before in
      ap (list_pages d level) (sym (append-nil (level_list d low level)))
      ∙ pages_around d level (level_list d low level) [] l none
      ∙ ap₂ (λ ps qs. before ++ (ps ++ qs))
      (led_pages [] tt ∙ ap (group_pages level (leader_behind d level low)) (append-nil l.part))
      (list_pages_none d level)
      ∙ ap (λ ps. before ++ ps) (append-nil (group_pages level (leader_behind d level low) l.part))

  pub pages_below : level < d.level y.0 → level_pages d (low ++ y ∷ high) level
      ≡ list_pages d level l.before
      ++ (group_pages level (leader_behind d level low) l.part
      ++ (group_pages level (Leader y.0) (cell_on level y ∷ h.part) ++ list_pages d level h.behind))
  pages_below lower =
      let cut : leads_group d level (cell_on level y) ≡ true =
      ap (λ k. nat_lt level (d.level k)) (cell_on-key level y) ∙ lt-ltb level (d.level y.0) lower in
      let before = list_pages d level l.before in
      let high_pages : list_pages d level (cell_on level y ∷ level_list d high level)
      ≡ group_pages level (Leader y.0) (cell_on level y ∷ h.part) ++ list_pages d level h.behind =
      ap (λ cells. list_pages d level (cell_on level y ∷ cells)) h.whole
      ∙ paged_apart d level (cell_on level y ∷ h.part) h.behind h.next
      ∙ ap (λ ps. ps ++ list_pages d level h.behind) (group_alone d level (cell_on level y) h.part h.uncut
      ∙ ap (λ (lead : Lead). group_pages level lead (cell_on level y ∷ h.part))
      (key_leads d level (cell_on level y) h.part cut ∙ ap Leader (cell_on-key level y))) in
      level_is_list d level (low ++ y ∷ high) ∙ ap (list_pages d level) (cell_there (omega arith))
      ∙ paged_apart d level (level_list d low level) (cell_on level y ∷ level_list d high level) cut
      ∙ ap₂ (λ ps qs. ps ++ qs) pages_of_low high_pages
      ∙ append_assoc before (group_pages level (leader_behind d level low) l.part)
      (group_pages level (Leader y.0) (cell_on level y ∷ h.part) ++ list_pages d level h.behind)

  -- a level is parted by each pair
  pub parts_level : PartsLevel d level low high y
  parts_level = record {
    front = list_pages d level l.before;
    back = list_pages d level h.behind;
    part = l.part;
    mid = h.part;
    without = pages_without;
    on_its_level = pages_on_its_level;
    below = pages_below;
  }
