-- A level below a pair's own changed: one group cut in two before the pair, or two joined without it.
use Rattle.std.proofs.Common.{◌≡◌, inl, ℕ, ◌<◌, ◌≤◌, List, [], ◌∷◌, ◌++◌, true, nat_lt, sym, ap, subst, ◌∙◌}
use Rattle.std.proofs.Common.{append_assoc, arith, lt-ltb}
use Rattle.std.specs.List.{AllByRecursion}
use Rattle.std.specs.List.Sorted.{IsStrictlySortedBy}
use Rattle.store_model.specs.Draws.{Draw}
use Rattle.store_model.specs.Labels.{Lead, IsLead}
use Rattle.store_model.specs.Labels.Lead.{Leader}
use Rattle.store_model.specs.Pairs.{Pair, IsPair}
use Rattle.store_model.specs.Pages.{Page, IsPage, cell_on, level_list, leads_group, group_pages}
use Rattle.store_model.proofs.ListsLemmas.{all_append, all_front, all_back}
use Rattle.store_model.proofs.PagesLemmasOrder.{cell_on-key, cell_cmp, rising_level_list}
use Rattle.store_model.proofs.PagesLemmasSizes.{IsPairList, level_pages_are_pages}
use Rattle.store_model.proofs.PagesLemmasSplits.{level_list-there}
use Rattle.skip_groups.specs.Groups.{IsNumbered}
use Rattle.skip_groups.specs.GroupChanges.{AreApart, IsChange}
use Rattle.skip_levels.specs.SearchPath.{leader_behind}
use Rattle.skip_levels.proofs.Apart.{list_pages}
use Rattle.skip_levels.proofs.Around.{first_cut}
use Rattle.skip_groups.proofs.GroupLookups.{IsOther}
use Rattle.skip_levels.proofs.Parted.{pages_of_low, pages_below}
use Rattle.skip_levels.proofs.PlaceChanges.{part, mid, here, there, pages_with_none, apart_both, here_apart}
use Rattle.skip_levels.proofs.PlaceChanges.{there_apart, less_numbered, led, group_is_numbered}
use Rattle.skip_levels.proofs.PlaceGroups.{level_list-append, others_around, key_leads}

pub none_numbered : (level : ℕ) (lead : Lead) → IsNumbered level lead []
none_numbered level lead = record { numbered = tt; valid = tt }

-- the other way round
pub turned : (level : ℕ) (lead : Lead) (front back olds news : List Page) → IsChange level lead front back olds news
    → IsChange level lead front back news olds
turned level lead front back olds news h = record {
  low = h.low;
  led = h.led;
  front_apart = h.front_apart;
  back_apart = h.back_apart;
  old_pages = h.new_pages;
  new_pages = h.old_pages;
}

module _ (d : Draw) (level : ℕ) (low high : List Pair) (y : Pair) where
  -- the pages under the old leader, and under the pair's key
  abbrev pub low_pages : List Page
  low_pages = group_pages level (leader_behind d level low) (part d level low high y)

  abbrev pub high_pages : List Page
  high_pages = group_pages level (Leader y.0) (cell_on level y ∷ mid d level low high y)

  module _ (less : IsPairList (low ++ high)) (more : IsPairList (low ++ y ∷ high)) (narrow : d.height ≤ 256)
      (within : level < d.height) (lower : level < d.level y.0) where
    abbrev front : List Page
    front = here d level low high y

    abbrev back : List Page
    back = there d level low high y

    pub valid_split : AllByRecursion IsPage (front ++ (low_pages ++ (high_pages ++ back)))
    valid_split = subst (AllByRecursion IsPage) (pages_below d level low high y lower)
        (level_pages_are_pages d (low ++ y ∷ high) level (omega arith) more)

    valid_behind : AllByRecursion IsPage (low_pages ++ (high_pages ++ back))
    valid_behind = all_back IsPage front (low_pages ++ (high_pages ++ back)) valid_split

    valid_high : AllByRecursion IsPage (high_pages ++ back)
    valid_high = all_back IsPage low_pages (high_pages ++ back) valid_behind

    pub low_valid : AllByRecursion IsPage low_pages
    low_valid = all_front IsPage low_pages (high_pages ++ back) valid_behind

    pub high_valid : AllByRecursion IsPage high_pages
    high_valid = all_front IsPage high_pages back valid_high

    key_led : IsLead (Leader y.0)
    key_led = let pair = (all_back IsPair low (y ∷ high) more.pairs.pairs).0 in (pair.key_length, pair.key_bytes)

    -- no other group is led by the key
    key_others : AllByRecursion (IsOther level (Leader y.0)) (front ++ low_pages)
        × AllByRecursion (IsOther level (Leader y.0)) back
    key_others =
        let cuts = leads_group d level in
        let own = cell_on level y in
        let h = first_cut cuts (level_list d high level) in
        let cut : cuts own ≡ true = ap (λ k. nat_lt level (d.level k)) (cell_on-key level y)
        ∙ lt-ltb level (d.level y.0) lower in
        let cells : level_list d (low ++ y ∷ high) level ≡ level_list d low level ++ ((own ∷ h.part) ++ h.behind) =
        level_list-append d level low (y ∷ high)
        ∙ ap (λ xs. level_list d low level ++ xs)
        (level_list-there d y high level (omega arith) ∙ ap (λ xs. own ∷ xs) h.whole) in
        let apart = others_around d level (level_list d low level) (own ∷ []) h.part h.behind tt
        (inl cut) h.uncut h.next (subst (IsStrictlySortedBy cell_cmp) cells
        (rising_level_list d (low ++ y ∷ high) level more.pairs.sorted)) in
        let lead = key_leads d level own h.part cut ∙ ap Leader (cell_on-key level y) in (
          subst (λ ps. AllByRecursion (IsOther level (Leader y.0)) ps) (pages_of_low d level low high y)
              (subst (λ k. AllByRecursion (IsOther level k) (list_pages d level (level_list d low level))) lead
              apart.0),
          subst (λ k. AllByRecursion (IsOther level k) back) lead apart.1,
        )

    pub low_numbered : IsNumbered level (leader_behind d level low) low_pages
    low_numbered = group_is_numbered level (leader_behind d level low) (part d level low high y) low_valid

    pub high_numbered : IsNumbered level (Leader y.0) high_pages
    high_numbered = group_is_numbered level (Leader y.0) (cell_on level y ∷ mid d level low high y) high_valid

    module _ (lowers highers : List Page) (lowers_apart : (l : Lead) → AreApart level l lowers)
        (highers_apart : (l : Lead) → AreApart level l highers) where
      -- the group cut down to its lower side
      pub low_change : IsChange level (leader_behind d level low) (lowers ++ front) (back ++ highers)
          (pages_with_none d level low high y) low_pages
      low_change = record {
        low = omega arith;
        led = led d level low high y less narrow within;
        front_apart = apart_both level (leader_behind d level low) lowers front
            (lowers_apart (leader_behind d level low)) (here_apart d level low high y less narrow within);
        back_apart = apart_both level (leader_behind d level low) back highers
            (there_apart d level low high y less narrow within) (highers_apart (leader_behind d level low));
        old_pages = less_numbered d level low high y less narrow within;
        new_pages = low_numbered;
      }

      -- the group of the key, behind it
      pub high_change : IsChange level (Leader y.0) ((lowers ++ front) ++ low_pages) (back ++ highers) [] high_pages
      high_change = record {
        low = omega arith;
        led = key_led;
        front_apart = subst (AreApart level (Leader y.0)) (sym (append_assoc lowers front low_pages))
            (apart_both level (Leader y.0) lowers (front ++ low_pages) (lowers_apart (Leader y.0))
            (record {
              valid = all_append IsPage front low_pages
                  (all_front IsPage front (low_pages ++ (high_pages ++ back)) valid_split) low_valid;
              others = key_others.0;
            }));
        back_apart = apart_both level (Leader y.0) back highers (record {
          valid = all_back IsPage high_pages back valid_high;
          others = key_others.1;
        }) (highers_apart (Leader y.0));
        old_pages = none_numbered level (Leader y.0);
        new_pages = high_numbered;
      }
