-- One level of a list changed: what the map holds before it, what a call is to make of it, and what the map is of
-- behind it.
use Rattle.std.proofs.Common.{◌≡◌, ℕ, suc, ◌+◌, ◌<◌, ◌≤◌, List, [], ◌∷◌, ◌++◌, length, Less, Equal, refl, sym, ap, ap₂}
use Rattle.std.proofs.Common.{subst, ◌∙◌, append_assoc, arith}
use Rattle.std.proofs.lemmas.List.{append-nil}
use Rattle.store_model.specs.Draws.{Draw}
use Rattle.store_model.specs.Labels.{Lead}
use Rattle.store_model.specs.Labels.Lead.{Leader}
use Rattle.store_model.specs.Pairs.{Pair}
use Rattle.store_model.specs.Pages.{Cell, Page, cell_on, leads_group, level_list, group_pages}
use Rattle.store_model.specs.PageMaps.{PageMap, map_of_pages}
use Rattle.store_model.proofs.ListsLemmas.{rising_front, rising_back}
use Rattle.store_model.proofs.PagesLemmasOrder.{cell_cmp}
use Rattle.store_model.proofs.PagesLemmasSizes.{IsPairList}
use Rattle.skip_groups.specs.Floors.{last_of, lead_from}
use Rattle.skip_groups.specs.Groups.{HoldsGroup}
use Rattle.skip_groups.specs.GroupCells.{AreCells, side, merged}
use Rattle.skip_groups.specs.GroupChanges.{IsChange}
use Rattle.skip_levels.specs.CellChanges.{PagesHaveRoom, IsSetting, IsSplitting, IsJoining}
use Rattle.skip_levels.specs.SearchPath.{leader_behind}
use Rattle.skip_levels.proofs.Around.{last_part}
use Rattle.skip_levels.proofs.Descents.{lead_of_last_part}
use Rattle.skip_groups.proofs.GroupLookups.{holds_group}
use Rattle.skip_levels.proofs.LevelChanges.{pages_between, lower_pages, higher_pages, before_level, behind_level}
use Rattle.skip_levels.proofs.LevelChanges.{lower_apart, higher_apart}
use Rattle.skip_levels.proofs.PageCounts.{few_between}
use Rattle.skip_levels.proofs.Parted.{pages_without, pages_below}
use Rattle.skip_levels.proofs.PathLemmas.{few_in_group}
use Rattle.skip_levels.proofs.PlaceChanges.{ChangesLevel, part, mid, here, there, around, put_on_its_level}
use Rattle.skip_levels.proofs.PlaceGroups.{group_of_place}
use Rattle.skip_groups.proofs.Sides.{AreAround, low_side, high_side, merged_are, side_all}
use Rattle.skip_levels.proofs.PlaceMerges.{around_key, rising_place, rising_with_one, are_cells}
use Rattle.skip_levels.proofs.PlaceSplits as splits

-- the map holds a group whose pages stand between others
pub holds_olds : (m : PageMap) (level : ℕ) (lead : Lead) (cells : List Cell) (front back news : List Page)
    → IsChange level lead front back (group_pages level lead cells) news
    → m ≡ map_of_pages (front ++ (group_pages level lead cells ++ back))
    → HoldsGroup m level lead cells
holds_olds m level lead cells front back news h is =
    subst (λ k. HoldsGroup k level lead cells) (sym is)
    (holds_group level lead cells front back h.low h.led (record {
      front_valid = h.front_apart.valid;
      group_valid = h.old_pages.valid;
      back_valid = h.back_apart.valid;
      front_others = h.front_apart.others;
      back_others = h.back_apart.others;
    }))

-- how many cells a list of pairs has at most on a level, and how many pages before and behind a change
pub record AreFew (d : Draw) (s t : List Pair) : Type 0 where
  pub narrow : d.height ≤ 256
  pub old_few : length s ≤ 8388608
  pub new_few : length t ≤ 8388608

-- the key's own level, or a value in the place of another
pub record SetsAt (m : PageMap) (d : Draw) (level : ℕ) (lead : Lead) (s t : List Pair) (key : List ℕ) (own : List Cell)
    (low : List Pair) : Type 0 where
  pub cells : List Cell
  pub front : List Page
  pub back : List Page
  pub setting : IsSetting m level lead cells (merged key cells own cells) front back
  pub after : front ++ (group_pages level lead (merged key cells own cells) ++ back) ≡ pages_between d s t level
  pub next : (lower : ℕ) → level ≡ suc lower
      → leader_behind d lower low ≡ lead_from (last_of (side Less key cells)) lead
  pub room : PagesHaveRoom m level lead

-- a level below it, cut in two
pub record SplitsAt (m : PageMap) (d : Draw) (level : ℕ) (lead : Lead) (s t : List Pair) (key : List ℕ)
    (own : List Cell) (low high : List Pair) : Type 0 where
  pub cells : List Cell
  pub cells_are : cells ≡ group_of_place d level low high
  pub front : List Page
  pub back : List Page
  pub splitting : IsSplitting m level lead key own cells front back
  pub after : front ++ (group_pages level lead (merged key cells [] [])
      ++ (group_pages level (Leader key) (merged key [] own cells) ++ back)) ≡ pages_between d s t level
  pub next : (lower : ℕ) → level ≡ suc lower
      → leader_behind d lower low ≡ lead_from (last_of (side Less key cells)) lead
  pub room : PagesHaveRoom m level lead

-- a level below it, joined
pub record JoinsAt (m : PageMap) (d : Draw) (level : ℕ) (lead : Lead) (s t : List Pair) (key : List ℕ)
    (low high : List Pair) (y : Pair) : Type 0 where
  pub lows : List Cell
  pub highs : List Cell
  pub lows_are : lows ≡ part d level low high y
  pub highs_are : highs ≡ cell_on level y ∷ mid d level low high y
  pub front : List Page
  pub back : List Page
  pub joining : IsJoining m level lead key lows highs front back
  pub after : front ++ (group_pages level lead (merged key lows [] highs) ++ back) ≡ pages_between d s t level
  pub next : (lower : ℕ) → level ≡ suc lower → leader_behind d lower low ≡ lead_from (last_of (side Less key lows)) lead
  pub room : PagesHaveRoom m level lead
  pub own_room : PagesHaveRoom m level (Leader key)

-- what leads the group of the next lower level
pub next_of_part : (d : Draw) (level : ℕ) (low high : List Pair) (y : Pair) (cells : List Cell)
    → cells ≡ part d level low high y → (lower : ℕ) → level ≡ suc lower
    → leader_behind d lower low ≡ lead_from (last_of cells) (leader_behind d level low)
next_of_part d level low high y cells is lower at =
    lead_of_last_part d lower low
    ∙ subst (λ n. lead_from (last_of (last_part (leads_group d (suc lower)) (level_list d low (suc lower))).part)
    (leader_behind d (suc lower) low) ≡ lead_from (last_of (last_part (leads_group d n) (level_list d low n)).part)
    (leader_behind d n low)) (sym at) refl
    ∙ ap (λ xs. lead_from (last_of xs) (leader_behind d level low)) (sym is)

-- one group of a level changed to the cells that are wanted
pub sets_group : (m : PageMap) (d : Draw) (level : ℕ) (lead : Lead) (s t : List Pair) (key : List ℕ)
    (own cells news : List Cell) (low : List Pair)
    → ChangesLevel d level lead s t (group_pages level lead cells) (group_pages level lead news)
    → merged key cells own cells ≡ news → AreCells level cells → AreCells level news → length cells ≤ 8388608
    → AreFew d s t → level < d.height → m ≡ map_of_pages (pages_between d s t (level + 1))
    → ((lower : ℕ) → level ≡ suc lower → leader_behind d lower low ≡ lead_from (last_of (side Less key cells)) lead)
    → SetsAt m d level lead s t key own low
sets_group m d level lead s t key own cells news low c made rising valid few f within is next =
    let pages = is ∙ ap map_of_pages c.before in
    let news_are : group_pages level lead news ≡ group_pages level lead (merged key cells own cells) =
    ap (group_pages level lead) (sym made) in
    let holds = holds_olds m level lead cells c.front c.back (group_pages level lead news) c.change pages in
    record {
      cells = cells;
      front = c.front;
      back = c.back;
      setting = record {
        change = subst (IsChange level lead c.front c.back (group_pages level lead cells)) news_are c.change;
        rising = rising;
        valid = subst (AreCells level) (sym made) valid;
        holds = holds;
        few = omega arith;
        pages_are = pages;
      };
      after = ap (λ ps. c.front ++ (ps ++ c.back)) (sym news_are) ∙ sym c.behind;
      next = next;
      room = record {
        cells = cells;
        holds = holds;
        few = few;
        room = few_between m d s t (level + 1) f.narrow f.old_few f.new_few (omega arith) is;
      };
    }

-- ---- a pair put

module _ (m : PageMap) (d : Draw) (level : ℕ) (low high : List Pair) (y : Pair) (less : IsPairList (low ++ high))
    (more : IsPairList (low ++ y ∷ high)) (within : level < d.height) where
  abbrev pub lead : Lead
  lead = leader_behind d level low

  abbrev pub own : List Cell
  own = cell_on level y ∷ []

  abbrev pub p : List Cell
  p = part d level low high y

  abbrev pub q : List Cell
  q = mid d level low high y

  abbrev pub b : AreAround y.0 p own q
  b = around_key d level low high y more

  pub none_around : AreAround y.0 p [] q
  none_around = record { below = b.below; same = tt; above = b.above }

  -- the groups are short
  few_without : AreFew d (low ++ high) (low ++ y ∷ high) → length (p ++ q) ≤ 8388608
  unfolding group_of_place
  few_without f = let few = few_in_group d level low high in omega (arith, f.old_few, few)

  pub own_side : side Equal y.0 own ≡ own
  own_side = side_all Equal y.0 own b.same

  module _ (f : AreFew d (low ++ high) (low ++ y ∷ high)) (own_level : d.level y.0 ≡ level) where
    -- the pair put on its own level
    pub sets_new : m ≡ map_of_pages (pages_between d (low ++ high) (low ++ y ∷ high) (level + 1))
        → SetsAt m d level lead (low ++ high) (low ++ y ∷ high) y.0 own low
    sets_new is =
        let c = put_on_its_level d level low high y less more f.narrow within own_level in
        let cells = p ++ q in
        let sides = low_side y.0 p [] q none_around in
        let made : merged y.0 cells own cells ≡ p ++ (own ++ q) =
        merged_are y.0 cells own cells p own q sides own_side (high_side y.0 p [] q none_around) in
        sets_group m d level lead (low ++ high) (low ++ y ∷ high) y.0 own cells (p ++ (own ++ q)) low c made
        (are_cells d level lead cells c.change.old_pages.valid (rising_place d level low high y less))
        (are_cells d level lead (p ++ (own ++ q))
        c.change.new_pages.valid (rising_with_one d level low high y (omega arith) more))
        (few_without f) f within is (next_of_part d level low high y (side Less y.0 cells) sides)

  module _ (f : AreFew d (low ++ high) (low ++ y ∷ high)) (lower : level < d.level y.0) where
    -- a lower level cut in two
    pub splits_new : m ≡ map_of_pages (pages_between d (low ++ high) (low ++ y ∷ high) (level + 1))
        → SplitsAt m d level lead (low ++ high) (low ++ y ∷ high) y.0 own low high
    unfolding group_of_place
    splits_new is =
        let s = low ++ high in
        let t = low ++ y ∷ high in
        let cells = p ++ q in
        let lowers = lower_pages d s t level in
        let highers = higher_pages d s t (level + 1) in
        let before = here d level low high y in
        let behind = there d level low high y in
        let lp = splits.low_pages d level low high y in
        let hp = splits.high_pages d level low high y in
        let la = λ (l : Lead). lower_apart d s t level within l f.narrow less in
        let ha = λ (l : Lead). higher_apart d s t level within l f.narrow more in
        let first = splits.low_change d level low high y less more f.narrow within lower lowers highers la ha in
        let second = splits.high_change d level low high y less more f.narrow within lower lowers highers la ha in
        let sides = low_side y.0 p [] q none_around in
        let low_are : merged y.0 cells [] [] ≡ p = merged_are y.0 cells [] [] p [] [] sides refl refl ∙ append-nil p in
        let high_are : merged y.0 [] own cells ≡ own ++ q =
        merged_are y.0 [] own cells [] own q refl own_side (high_side y.0 p [] q none_around) in
        let low_pages_are : group_pages level lead (merged y.0 cells [] []) ≡ lp =
        ap (group_pages level lead) low_are in
        let high_pages_are : group_pages level (Leader y.0) (merged y.0 [] own cells) ≡ hp =
        ap (group_pages level (Leader y.0)) high_are in
        let pages : m ≡ map_of_pages ((lowers ++ before) ++ (group_pages level lead cells ++ (behind ++ highers))) =
        is ∙ ap map_of_pages (before_level d s t level within
        ∙ ap (λ ps. lowers ++ (ps ++ highers)) (pages_without d level low high y)
        ∙ around d level low high y lowers highers before (group_pages level lead cells) behind) in
        let rising = rising_with_one d level low high y (omega arith) more in
        let low_valid = splits.low_valid d level low high y less more f.narrow within lower in
        let high_valid = splits.high_valid d level low high y less more f.narrow within lower in
        let holds = holds_olds m level lead cells (lowers ++ before) (behind ++ highers) lp first pages in
        record {
          cells = cells;
          cells_are = refl;
          front = lowers ++ before;
          back = behind ++ highers;
          splitting = record {
            first = subst (IsChange level lead (lowers ++ before) (behind ++ highers) (group_pages level lead cells))
                (sym low_pages_are) first;
            second = subst (λ ps. IsChange level (Leader y.0) ((lowers ++ before) ++ ps) (behind ++ highers) []
                (group_pages level (Leader y.0) (merged y.0 [] own cells))) (sym low_pages_are)
                (subst (IsChange level (Leader y.0) ((lowers ++ before) ++ lp) (behind ++ highers) [])
                (sym high_pages_are) second);
            sides = sym (ap₂ (λ xs ys. xs ++ ys) sides (high_side y.0 p [] q none_around));
            low_valid = subst (AreCells level) (sym low_are)
                (are_cells d level lead p low_valid (rising_front cell_cmp p (own ++ q) rising));
            high_valid = subst (AreCells level) (sym high_are)
                (are_cells d level (Leader y.0) (own ++ q) high_valid (rising_back cell_cmp p (own ++ q) rising));
            holds = holds;
            few = let few = few_without f in omega arith;
            pages_are = pages;
          };
          after =
              ap₂ (λ ps qs. (lowers ++ before) ++ (ps ++ (qs ++ (behind ++ highers)))) low_pages_are high_pages_are
              ∙ sym (behind_level d s t level within
              ∙ ap (λ ps. lowers ++ (ps ++ highers)) (pages_below d level low high y lower)
              ∙ around d level low high y lowers highers before lp (hp ++ behind)
              ∙ ap (λ ps. (lowers ++ before) ++ (lp ++ ps)) (append_assoc hp behind highers));
          next = next_of_part d level low high y (side Less y.0 cells) sides;
          room = record {
            cells = cells;
            holds = holds;
            few = few_without f;
            room = few_between m d s t (level + 1) f.narrow f.old_few f.new_few (omega arith) is;
          };
        }
