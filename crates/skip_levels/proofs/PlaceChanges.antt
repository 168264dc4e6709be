-- A pair's own level changed: the pages of one group, between pages that stay.
use Rattle.std.proofs.Common.{◌≡◌, ℕ, ◌+◌, ◌<◌, ◌≤◌, List, [], ◌∷◌, ◌++◌, map, refl, sym, ap, ap₂, subst, ◌∙◌}
use Rattle.std.proofs.Common.{append_assoc, arith}
use Rattle.std.specs.List.{AllByRecursion, enumerate_from}
use Rattle.std.specs.List.Sorted.{IsStrictlySortedBy}
use Rattle.store_model.specs.Lists.{runs}
use Rattle.store_model.specs.Draws.{Draw}
use Rattle.store_model.specs.Labels.{Lead, IsLead}
use Rattle.store_model.specs.Pairs.{Pair}
use Rattle.store_model.specs.Pages.{Cell, Page, IsPage, cell_on, level_list, level_pages, leads_group, page_room}
use Rattle.store_model.specs.Pages.{group_pages}
use Rattle.store_model.proofs.ListsLemmas.{all_append, all_front, all_back}
use Rattle.store_model.proofs.PagesLemmasOrder.{cell_cmp, rising_level_list}
use Rattle.store_model.proofs.PagesLemmasSizes.{IsPairList, level_pages_are_pages}
use Rattle.node_pages.specs.LastPages.{page_of_run}
use Rattle.skip_groups.specs.Groups.{AreNumbered, IsNumbered}
use Rattle.skip_groups.specs.GroupChanges.{AreApart, IsChange}
use Rattle.skip_levels.specs.SearchPath.{leader_behind}
use Rattle.skip_levels.proofs.Apart.{list_pages}
use Rattle.skip_levels.proofs.Around.{last_part, first_cut}
use Rattle.skip_levels.proofs.LevelChanges.{pages_between, lower_pages, higher_pages, before_level, behind_level}
use Rattle.skip_levels.proofs.LevelChanges.{lower_apart, higher_apart}
use Rattle.skip_levels.proofs.Parted.{pages_without, pages_on_its_level}
use Rattle.skip_levels.proofs.PlaceGroups.{level_list-append, leader_of_parts, lead_of_place, around_place}
use Rattle.skip_levels.proofs.PlaceGroups.{others_around}

-- the pages of a group are numbered
numbered_runs : (level : ℕ) (lead : Lead) (n : ℕ) (rs : List (List Cell))
    → AreNumbered level lead n (map (λ run. page_of_run level lead run.0 run.1) (enumerate_from n rs))
numbered_runs level lead n [] = tt
numbered_runs level lead n (run ∷ rs) = (refl, numbered_runs level lead (n + 1) rs)

pub group_is_numbered : (level : ℕ) (lead : Lead) (cells : List Cell)
    → AllByRecursion IsPage (group_pages level lead cells) → IsNumbered level lead (group_pages level lead cells)
unfolding group_pages
group_is_numbered level lead cells valid = record {
  numbered = numbered_runs level lead 0 (runs (page_room level) cells);
  valid = valid;
}

-- pages that are apart, one list behind the other
pub apart_both : (level : ℕ) (lead : Lead) (ps qs : List Page) → AreApart level lead ps → AreApart level lead qs
    → AreApart level lead (ps ++ qs)
apart_both level lead ps qs a b = record {
  valid = all_append IsPage ps qs a.valid b.valid;
  others = all_append _ ps qs a.others b.others;
}

-- a change of one group on a level of a list, into that of another
pub record ChangesLevel (d : Draw) (level : ℕ) (lead : Lead) (s t : List Pair) (olds news : List Page) : Type 0 where
  pub front : List Page
  pub back : List Page
  pub change : IsChange level lead front back olds news
  pub before : pages_between d s t (level + 1) ≡ front ++ (olds ++ back)
  pub behind : pages_between d s t level ≡ front ++ (news ++ back)

module _ (d : Draw) (level : ℕ) (low high : List Pair) (y : Pair) where
  abbrev pub part : List Cell
  part = (last_part (leads_group d level) (level_list d low level)).part

  abbrev pub mid : List Cell
  mid = (first_cut (leads_group d level) (level_list d high level)).part

  abbrev pub here : List Page
  here = list_pages d level (last_part (leads_group d level) (level_list d low level)).before

  abbrev pub there : List Page
  there = list_pages d level (first_cut (leads_group d level) (level_list d high level)).behind

  -- the pages of the group without the pair's cell, and with it
  abbrev pub pages_with_none : List Page
  pages_with_none = group_pages level (leader_behind d level low) (part ++ mid)

  abbrev pub pages_with_one : List Page
  pages_with_one = group_pages level (leader_behind d level low) (part ++ cell_on level y ∷ mid)

  module _ (less : IsPairList (low ++ high)) (narrow : d.height ≤ 256) (within : level < d.height) where
    pub valid_less : AllByRecursion IsPage (here ++ (pages_with_none ++ there))
    valid_less = subst (AllByRecursion IsPage) (pages_without d level low high y)
        (level_pages_are_pages d (low ++ high) level (omega arith) less)

    others : AllByRecursion (λ (page : Page). page.label.level ≡ level → page.label.lead ≡ leader_behind d level low
        → ⊥) here × AllByRecursion (λ (page : Page). page.label.level ≡ level
        → page.label.lead ≡ leader_behind d level low → ⊥) there
    others =
        let cuts = leads_group d level in
        let l = last_part cuts (level_list d low level) in
        let h = first_cut cuts (level_list d high level) in
        let cells : level_list d (low ++ high) level ≡ l.before ++ ((l.part ++ h.part) ++ h.behind) =
        level_list-append d level low high ∙ ap₂ (λ xs ys. xs ++ ys) l.whole h.whole
        ∙ append_assoc l.before l.part (h.part ++ h.behind)
        ∙ ap (λ ys. l.before ++ ys) (sym (append_assoc l.part h.part h.behind)) in
        let apart = others_around d level l.before l.part h.part h.behind l.uncut l.begins h.uncut h.next
        (subst (IsStrictlySortedBy cell_cmp) cells (rising_level_list d (low ++ high) level less.pairs.sorted)) in
        let lead = leader_of_parts d level low h.part h.uncut in (
          subst (λ k. AllByRecursion (λ (page : Page). page.label.level ≡ level → page.label.lead ≡ k → ⊥) here) lead
              apart.0,
          subst (λ k. AllByRecursion (λ (page : Page). page.label.level ≡ level → page.label.lead ≡ k
              → ⊥) there) lead apart.1,
        )

    pub here_apart : AreApart level (leader_behind d level low) here
    here_apart = record { valid = all_front IsPage here (pages_with_none ++ there) valid_less; others = others.0 }

    pub there_apart : AreApart level (leader_behind d level low) there
    there_apart = record {
      valid = all_back IsPage pages_with_none there (all_back IsPage here (pages_with_none ++ there) valid_less);
      others = others.1;
    }

    pub less_numbered : IsNumbered level (leader_behind d level low) pages_with_none
    less_numbered = group_is_numbered level (leader_behind d level low) (part ++ mid)
        (all_front IsPage pages_with_none there (all_back IsPage here (pages_with_none ++ there) valid_less))

    pub led : IsLead (leader_behind d level low)
    led = subst IsLead (lead_of_place d level low high)
        (around_place d (low ++ high) low high level refl less narrow within).lead

  -- the parts of the whole list
  pub around : (lower higher before group behind : List Page)
      → lower ++ ((before ++ (group ++ behind)) ++ higher) ≡ (lower ++ before) ++ (group ++ (behind ++ higher))
  around lower higher before group behind =
      ap (λ ps. lower ++ ps) (append_assoc before (group ++ behind) higher
      ∙ ap (λ ps. before ++ ps) (append_assoc group behind higher))
      ∙ sym (append_assoc lower before (group ++ (behind ++ higher)))

  -- one group of the level changed between pages that stay
  pub group_changed : (s t : List Pair) (olds news : List Page) → IsPairList s → IsPairList t
      → (less : IsPairList (low ++ high)) (narrow : d.height ≤ 256) (within : level < d.height)
      → IsNumbered level (leader_behind d level low) olds → IsNumbered level (leader_behind d level low) news
      → level_pages d s level ≡ here ++ (olds ++ there) → level_pages d t level ≡ here ++ (news ++ there)
      → ChangesLevel d level (leader_behind d level low) s t olds news
  group_changed s t olds news s_list t_list less narrow within old_numbered new_numbered s_pages t_pages =
      let lead = leader_behind d level low in
      let lowers = lower_pages d s t level in
      let highers = higher_pages d s t (level + 1) in
      record {
        front = lowers ++ here;
        back = there ++ highers;
        change = record {
          low = omega arith;
          led = led less narrow within;
          front_apart = apart_both level lead lowers here (lower_apart d s t level within lead narrow s_list)
              (here_apart less narrow within);
          back_apart = apart_both level lead there highers (there_apart less narrow within)
              (higher_apart d s t level within lead narrow t_list);
          old_pages = old_numbered;
          new_pages = new_numbered;
        };
        before = before_level d s t level within ∙ ap (λ ps. lowers ++ (ps ++ highers)) s_pages
            ∙ around lowers highers here olds there;
        behind = behind_level d s t level within ∙ ap (λ ps. lowers ++ (ps ++ highers)) t_pages
            ∙ around lowers highers here news there;
      }

  module _ (less : IsPairList (low ++ high)) (more : IsPairList (low ++ y ∷ high)) (narrow : d.height ≤ 256)
      (within : level < d.height) (own : d.level y.0 ≡ level) where
    valid_more : AllByRecursion IsPage (here ++ (pages_with_one ++ there))
    valid_more = subst (AllByRecursion IsPage) (pages_on_its_level d level low high y own)
        (level_pages_are_pages d (low ++ y ∷ high) level (omega arith) more)

    pub more_numbered : IsNumbered level (leader_behind d level low) pages_with_one
    more_numbered = group_is_numbered level (leader_behind d level low) (part ++ cell_on level y ∷ mid)
        (all_front IsPage pages_with_one there (all_back IsPage here (pages_with_one ++ there) valid_more))

    -- the pair put, and taken out
    pub put_on_its_level : ChangesLevel d level (leader_behind d level low) (low ++ high)
        (low ++ y ∷ high) pages_with_none pages_with_one
    put_on_its_level =
        group_changed (low ++ high) (low ++ y ∷ high) pages_with_none pages_with_one less more less narrow within
        (less_numbered less narrow within) more_numbered (pages_without d level low high y)
        (pages_on_its_level d level low high y own)

    pub taken_on_its_level : ChangesLevel d level (leader_behind d level low) (low ++ y ∷ high)
        (low ++ high) pages_with_one pages_with_none
    taken_on_its_level =
        group_changed (low ++ y ∷ high) (low ++ high) pages_with_one pages_with_none more less less narrow within
        more_numbered (less_numbered less narrow within) (pages_on_its_level d level low high y own)
        (pages_without d level low high y)
