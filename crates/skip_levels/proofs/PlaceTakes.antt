-- A pair taken out of a list, level after level, and a value put in the place of another.
use Rattle.std.proofs.Common.{◌≡◌, ◌⊎◌, inl, inr, ℕ, zero, suc, ◌+◌, ◌<◌, ◌≤◌, List, [], ◌∷◌, ◌++◌, map, filter, length}
use Rattle.std.proofs.Common.{cond, nat_lt, Less, Equal, refl, sym, ap, subst, ◌∙◌, append_assoc, length-append, arith}
use Rattle.std.proofs.Common.{lt-ltb}
use Rattle.std.specs.List.{AllByRecursion}
use Rattle.std.specs.Cmp.{tied_itself}
use Rattle.std.specs.Cmp.Lexicographic.{nat_list_cmp_total}
use Rattle.std.proofs.lemmas.Bool.{le-ltb}
use Rattle.std.proofs.lemmas.List.{append-nil, map-append}
use Rattle.std.proofs.lemmas.List.Elements.{filter-append}
use Rattle.store_model.specs.Paths.{key_cmp}
use Rattle.store_model.specs.Draws.{Draw}
use Rattle.store_model.specs.Labels.{Lead}
use Rattle.store_model.specs.Labels.Lead.{Leader}
use Rattle.store_model.specs.Pairs.{Pair}
use Rattle.store_model.specs.Pages.{Cell, Page, IsPage, cell_on, group_pages}
use Rattle.store_model.specs.PageMaps.{PageMap, map_of_pages}
use Rattle.store_model.proofs.ListsLemmas.{all_append, all_map, all_filter, all_weaker, rising_back}
use Rattle.store_model.proofs.PagesLemmasOrder.{cell_cmp}
use Rattle.store_model.proofs.PagesLemmasSizes.{IsPairList}
use Rattle.skip_groups.specs.Groups.{HoldsGroup}
use Rattle.skip_groups.specs.GroupCells.{AreCells, side, merged}
use Rattle.skip_groups.specs.GroupChanges.{AreApart, IsChange}
use Rattle.skip_levels.specs.SearchPath.{last_lead, leader_behind}
use Rattle.skip_levels.proofs.Around.{last_lead-push}
use Rattle.skip_groups.proofs.GroupLookups.{IsOther, holds_group}
use Rattle.skip_levels.proofs.LevelChanges.{pages_between, lower_pages, higher_pages, before_level, behind_level}
use Rattle.skip_levels.proofs.LevelChanges.{lower_apart, higher_apart}
use Rattle.skip_levels.proofs.PageCounts.{few_between}
use Rattle.skip_levels.proofs.Parted.{pages_without, pages_on_its_level, pages_below}
use Rattle.skip_levels.proofs.PathLemmas.{few_in_group}
use Rattle.skip_levels.proofs.PlaceChanges.{ChangesLevel, part, mid, here, there, around, less_numbered, more_numbered}
use Rattle.skip_levels.proofs.PlaceChanges.{group_changed, taken_on_its_level}
use Rattle.skip_levels.proofs.PlaceGroups.{group_of_place, group_labels}
use Rattle.skip_groups.proofs.Sides.{AreAround, low_side, high_side, merged_are, side_all}
use Rattle.skip_levels.proofs.PlaceMerges.{sides, around_key, rising_place, rising_with_one, are_cells}
use Rattle.skip_levels.proofs.PlaceSplits as splits
use Rattle.skip_levels.proofs.PlaceSteps.{AreFew, SetsAt, JoinsAt, holds_olds, next_of_part, sets_group}

-- the last of some keys has what all have
last_lead_has : (P : List ℕ → Type 0) (keys : List (List ℕ)) (key : List ℕ) → AllByRecursion P keys
    → last_lead keys ≡ Leader key → P key
unfolding last_lead
last_lead_has P [] key h e = absurd (cc)
last_lead_has P (k ∷ []) key h e = let same : k ≡ key = cc in subst P same h.0
last_lead_has P (k ∷ other ∷ keys) key h e = last_lead_has P (other ∷ keys) key h.1 e

module _ (d : Draw) (level : ℕ) (low high : List Pair) (y : Pair) (more : IsPairList (low ++ y ∷ high)) where
  -- the pair's key does not lead what stands before it
  other_leader : leader_behind d level low ≡ Leader y.0 → ⊥
  other_leader e =
      let stands = λ (pair : Pair). nat_lt level (d.level pair.0) in
      let keys = map (λ (pair : Pair). pair.0) (filter stands low) in
      let below = all_map (λ (pair : Pair). key_cmp pair.0 y.0 ≡ Less) (λ k. key_cmp k y.0 ≡ Less) (λ pair. pair.0)
      (λ pair h. h) (filter stands low) (all_filter _ stands low (sides d level low high y more).0) in
      let less = last_lead_has (λ k. key_cmp k y.0 ≡ Less) keys y.0 below e in
      let tie = tied_itself nat_list_cmp_total y.0 in
      cc

  -- nor do pages that it leads belong to what stands before it
  pages_of_key : (cells : List Cell)
      → AllByRecursion (IsOther level (leader_behind d level low)) (group_pages level (Leader y.0) cells)
  pages_of_key cells =
      all_weaker (λ (p : Page). (p.label.level ≡ level) × (p.label.lead ≡ Leader y.0))
      (IsOther level (leader_behind d level low)) (λ p h on led. other_leader (sym led ∙ h.1))
      (group_pages level (Leader y.0) cells) (group_labels d level (Leader y.0) cells)

-- ---- a pair taken out

module _ (m : PageMap) (d : Draw) (level : ℕ) (low high : List Pair) (y : Pair) (less : IsPairList (low ++ high))
    (more : IsPairList (low ++ y ∷ high)) (within : level < d.height)
    (f : AreFew d (low ++ y ∷ high) (low ++ high)) where
  abbrev lead : Lead
  lead = leader_behind d level low

  abbrev own : List Cell
  own = cell_on level y ∷ []

  abbrev p : List Cell
  p = part d level low high y

  abbrev q : List Cell
  q = mid d level low high y

  abbrev b : AreAround y.0 p own q
  b = around_key d level low high y more

  few_with : length (p ++ (own ++ q)) ≤ 8388608
  unfolding group_of_place
  few_with =
      let few = few_in_group d level low high in
      omega (
        arith,
        f.old_few,
        few,
        length-append p (own ++ q),
        length-append p q,
        length-append low
            (y ∷ high),
        length-append low high,
      )

  -- on its own level
  pub sets_taken : d.level y.0 ≡ level → m ≡ map_of_pages (pages_between d (low ++ y ∷ high) (low ++ high) (level + 1))
      → SetsAt m d level lead (low ++ y ∷ high) (low ++ high) y.0 [] low
  sets_taken own_level is =
      let c = taken_on_its_level d level low high y less more f.narrow within own_level in
      let cells = p ++ (own ++ q) in
      let below = low_side y.0 p own q b in
      let made : merged y.0 cells [] cells ≡ p ++ q =
      merged_are y.0 cells [] cells p [] q below refl (high_side y.0 p own q b) in
      sets_group m d level lead (low ++ y ∷ high) (low ++ high) y.0 [] cells (p ++ q) low c made
      (are_cells d level lead cells c.change.old_pages.valid
      (rising_with_one d level low high y (omega arith) more))
      (are_cells d level lead (p ++ q) c.change.new_pages.valid (rising_place d level low high y less))
      few_with f within is (next_of_part d level low high y (side Less y.0 cells) below)

  -- on a lower level two groups are joined
  pub joins_taken : level < d.level y.0 → m ≡ map_of_pages (pages_between d (low ++ y ∷ high) (low ++ high) (level + 1))
      → JoinsAt m d level lead (low ++ y ∷ high) (low ++ high) y.0 low high y
  joins_taken lower is =
      let s = low ++ y ∷ high in
      let t = low ++ high in
      let lowers = lower_pages d s t level in
      let highers = higher_pages d s t (level + 1) in
      let before = here d level low high y in
      let behind = there d level low high y in
      let front = lowers ++ before in
      let back = behind ++ highers in
      let lp = splits.low_pages d level low high y in
      let hp = splits.high_pages d level low high y in
      let la = λ (l : Lead). lower_apart d s t level within l f.narrow more in
      let ha = λ (l : Lead). higher_apart d s t level within l f.narrow less in
      let joined = group_pages level lead (p ++ q) in
      let first = splits.low_change d level low high y less more f.narrow within lower lowers highers la ha in
      let second = splits.high_change d level low high y less more f.narrow within lower lowers highers la ha in
      let below : side Less y.0 p ≡ p = side_all Less y.0 p b.below in
      let made : merged y.0 p [] (own ++ q) ≡ p ++ q =
      merged_are y.0 p [] (own ++ q) p [] q below refl
      (high_side y.0 [] own q (record { below = tt; same = b.same; above = b.above })) in
      let news : joined ≡ group_pages level lead (merged y.0 p [] (own ++ q)) =
      ap (group_pages level lead) (sym made) in
      let pages : m ≡ map_of_pages (front ++ (lp ++ (hp ++ back))) =
      is ∙ ap map_of_pages (before_level d s t level within
      ∙ ap (λ ps. lowers ++ (ps ++ highers)) (pages_below d level low high y lower)
      ∙ around d level low high y lowers highers before lp (hp ++ behind)
      ∙ ap (λ ps. front ++ (lp ++ ps)) (append_assoc hp behind highers)) in
      let low_valid = splits.low_valid d level low high y less more f.narrow within lower in
      let high_valid = splits.high_valid d level low high y less more f.narrow within lower in
      let high_holds = holds_olds m level (Leader y.0) (own ++ q) (front ++ lp) back []
      (splits.turned level (Leader y.0) (front ++ lp) back [] hp second)
      (pages ∙ ap map_of_pages (sym (append_assoc front lp (hp ++ back)))) in
      let low_holds : HoldsGroup m level lead p =
      subst (λ k. HoldsGroup k level lead p) (sym pages)
      (holds_group level lead p front (hp ++ back) first.low first.led (record {
        front_valid = first.front_apart.valid;
        group_valid = low_valid;
        back_valid = all_append IsPage hp back high_valid first.back_apart.valid;
        front_others = first.front_apart.others;
        back_others = all_append (IsOther level lead) hp back
            (pages_of_key d level low high y more (own ++ q)) first.back_apart.others;
      })) in
      let few = few_with in
      let count = length-append p (own ++ q) in
      let room = few_between m d s t (level + 1) f.narrow f.old_few f.new_few (omega arith) is in
      record {
        lows = p;
        highs = own ++ q;
        lows_are = refl;
        highs_are = refl;
        front = front;
        back = back;
        joining = record {
          first = splits.turned level (Leader y.0) (front ++ lp) back [] hp second;
          second = subst (IsChange level lead front back lp) news (splits.turned level lead front back joined lp first);
          below = below;
          valid = subst (AreCells level) (sym made)
              (are_cells d level lead (p ++ q) (less_numbered d level low high y less f.narrow within).valid
              (rising_place d level low high y less));
          low_holds = low_holds;
          high_holds = high_holds;
          low_few = omega arith;
          high_few = omega arith;
          pages_are = pages;
        };
        after = ap (λ ps. front ++ (ps ++ back)) (sym news)
            ∙ sym (behind_level d s t level within
            ∙ ap (λ ps. lowers ++ (ps ++ highers)) (pages_without d level low high y)
            ∙ around d level low high y lowers highers before joined behind);
        next = next_of_part d level low high y (side Less y.0 p) below;
        room = record { cells = p; holds = low_holds; few = omega arith; room = room };
        own_room = record { cells = own ++ q; holds = high_holds; few = omega arith; room = room };
      }

-- ---- a value in the place of another

-- one pair more behind the others: it leads where its key stands on a higher level
leader_push : (d : Draw) (level : ℕ) (low : List Pair) (y : Pair)
    → leader_behind d level (low ++ y ∷ [])
    ≡ last_lead (map (λ (pair : Pair). pair.0) (filter (λ pair. nat_lt level (d.level pair.0)) low)
    ++ map (λ (pair : Pair). pair.0) (filter (λ pair. nat_lt level (d.level pair.0)) (y ∷ [])))
leader_push d level low y =
    let stands = λ (pair : Pair). nat_lt level (d.level pair.0) in
    ap (λ ps. last_lead (map (λ (pair : Pair). pair.0) ps)) (filter-append stands low (y ∷ []))
    ∙ ap last_lead (map-append (λ (pair : Pair). pair.0) (filter stands low) (filter stands (y ∷ [])))

pub leader_past : (d : Draw) (level : ℕ) (low : List Pair) (y : Pair) → d.level y.0 ≤ level
    → leader_behind d level (low ++ y ∷ []) ≡ leader_behind d level low
leader_past d level low y high =
    let keys = map (λ (pair : Pair). pair.0) (filter (λ pair. nat_lt level (d.level pair.0)) low) in
    leader_push d level low y ∙ ap (λ b. last_lead (keys ++ map (λ (pair : Pair). pair.0) (cond b (y ∷ []) [])))
    (le-ltb level (d.level y.0) high) ∙ ap last_lead (append-nil keys)

pub leader_is_key : (d : Draw) (level : ℕ) (low : List Pair) (y : Pair) → level < d.level y.0
    → leader_behind d level (low ++ y ∷ []) ≡ Leader y.0
leader_is_key d level low y lower =
    let keys = map (λ (pair : Pair). pair.0) (filter (λ pair. nat_lt level (d.level pair.0)) low) in
    leader_push d level low y ∙ ap (λ b. last_lead (keys ++ map (λ (pair : Pair). pair.0) (cond b (y ∷ []) [])))
    (lt-ltb level (d.level y.0) lower) ∙ last_lead-push keys y.0

module _ (m : PageMap) (d : Draw) (low high : List Pair) (key old new : List ℕ) (less : IsPairList (low ++ high))
    (more : IsPairList (low ++ (key, old) ∷ high)) (more' : IsPairList (low ++ (key, new) ∷ high))
    (within : 0 < d.height)
    (f : AreFew d (low ++ (key, old) ∷ high) (low ++ (key, new) ∷ high))
    (is : m ≡ map_of_pages (pages_between d (low ++ (key, old) ∷ high) (low ++ (key, new) ∷ high) (0 + 1))) where
  abbrev s : List Pair
  s = low ++ (key, old) ∷ high

  abbrev t : List Pair
  t = low ++ (key, new) ∷ high

  abbrev o : Cell
  o = cell_on 0 (key, old)

  abbrev n : Cell
  n = cell_on 0 (key, new)

  abbrev ls : List Cell
  ls = part d 0 low high (key, old)

  abbrev hs : List Cell
  hs = mid d 0 low high (key, old)

  apart_below : (l : Lead) → AreApart 0 l (lower_pages d s t 0)
  apart_below l = lower_apart d s t 0 within l f.narrow more

  apart_above : (l : Lead) → AreApart 0 l (higher_pages d s t (0 + 1))
  apart_above l = higher_apart d s t 0 within l f.narrow more'

  over_few : length (ls ++ (o ∷ hs)) ≤ 8388608
  unfolding group_of_place
  over_few =
      let few = few_in_group d 0 low high in
      omega (
        arith,
        f.old_few,
        few,
        length-append ls (o ∷ hs),
        length-append ls hs,
        length-append low
            ((key, old) ∷ high),
        length-append low high,
      )

  -- the change of a group in which the value stands behind these cells
  sets_over : (lead : Lead) (fs : List Cell) → AreAround key fs (o ∷ []) hs → AreAround key fs (n ∷ []) hs
      → length (fs ++ (o ∷ hs)) ≤ 8388608 → AreCells 0 (fs ++ (o ∷ hs)) → AreCells 0 (fs ++ (n ∷ hs))
      → ChangesLevel d 0 lead s t (group_pages 0 lead (fs ++ (o ∷ hs))) (group_pages 0 lead (fs ++ (n ∷ hs)))
      → (under : List Pair) → SetsAt m d 0 lead s t key (n ∷ []) under
  sets_over lead fs around_old around_new few rising valid c under =
      let cells = fs ++ (o ∷ hs) in
      let made : merged key cells (n ∷ []) cells ≡ fs ++ (n ∷ hs) =
      merged_are key cells (n ∷ []) cells fs (n ∷ []) hs (low_side key fs (o ∷ []) hs around_old)
      (side_all Equal key (n ∷ []) around_new.same) (high_side key fs (o ∷ []) hs around_old) in
      sets_group m d 0 lead s t key (n ∷ []) cells (fs ++ (n ∷ hs)) under c made rising valid few f within is
      (λ lower at. absurd (omega arith))

  -- the key stands on level 0 alone
  over_own : d.level key ≡ 0 → (under : List Pair) → SetsAt m d 0 (leader_behind d 0 low) s t key (n ∷ []) under
  over_own own under =
      let c = group_changed d 0 low high (key, old) s t (group_pages 0 (leader_behind d 0 low) (ls ++ (o ∷ hs)))
      (group_pages 0 (leader_behind d 0 low) (ls ++ (n ∷ hs))) more more' less f.narrow within
      (more_numbered d 0 low high (key, old) less more f.narrow within own)
      (more_numbered d 0 low high (key, new) less more' f.narrow within own)
      (pages_on_its_level d 0 low high (key, old) own) (pages_on_its_level d 0 low high (key, new) own) in
      sets_over (leader_behind d 0 low) ls (around_key d 0 low high (key, old) more)
      (around_key d 0 low high (key, new) more') over_few
      (are_cells d 0 (leader_behind d 0 low) (ls ++ (o ∷ hs))
      c.change.old_pages.valid (rising_with_one d 0 low high (key, old) (omega arith) more))
      (are_cells d 0 (leader_behind d 0 low) (ls ++ (n ∷ hs))
      c.change.new_pages.valid (rising_with_one d 0 low high (key, new) (omega arith) more')) c under

  -- it leads a group there
  over_led : 0 < d.level key → (under : List Pair) → SetsAt m d 0 (Leader key) s t key (n ∷ []) under
  over_led lower under =
      let lowers = lower_pages d s t 0 in
      let highers = higher_pages d s t (0 + 1) in
      let before = here d 0 low high (key, old) in
      let behind = there d 0 low high (key, old) in
      let lp = splits.low_pages d 0 low high (key, old) in
      let front = (lowers ++ before) ++ lp in
      let back = behind ++ highers in
      let a = splits.high_change d 0 low high (key, old) less more f.narrow within lower lowers highers
      apart_below apart_above in
      let c = splits.high_change d 0 low high (key, new) less more' f.narrow within lower lowers highers
      apart_below apart_above in
      let change : IsChange 0 (Leader key) front back (group_pages 0 (Leader key) (o ∷ hs))
      (group_pages 0 (Leader key) (n ∷ hs)) = record {
        low = a.low;
        led = a.led;
        front_apart = a.front_apart;
        back_apart = a.back_apart;
        old_pages = a.new_pages;
        new_pages = c.new_pages;
      } in
      let first = around_key d 0 low high (key, old) more in
      let second = around_key d 0 low high (key, new) more' in
      let regroup : (ps : List Page) → lowers ++ ((before ++ (lp ++ (ps ++ behind))) ++ highers)
      ≡ front ++ (ps ++ back) = λ ps.
      around d 0 low high (key, old) lowers highers before lp (ps ++ behind)
      ∙ ap (λ qs. (lowers ++ before) ++ (lp ++ qs)) (append_assoc ps behind highers)
      ∙ sym (append_assoc (lowers ++ before) lp (ps ++ (behind ++ highers))) in
      let count = length-append ls (o ∷ hs) in
      let few = over_few in
      sets_over (Leader key) [] (record { below = tt; same = first.same; above = first.above })
      (record { below = tt; same = second.same; above = second.above }) (omega arith)
      (are_cells d 0 (Leader key) (o ∷ hs) change.old_pages.valid
      (rising_back cell_cmp ls (o ∷ hs) (rising_with_one d 0 low high (key, old) (omega arith) more)))
      (are_cells d 0 (Leader key) (n ∷ hs) change.new_pages.valid
      (rising_back cell_cmp ls (n ∷ hs) (rising_with_one d 0 low high (key, new) (omega arith) more')))
      (record {
        front = front;
        back = back;
        change = change;
        before = before_level d s t 0 within
            ∙ ap (λ ps. lowers ++ (ps ++ highers)) (pages_below d 0 low high (key, old) lower)
            ∙ regroup (group_pages 0 (Leader key) (o ∷ hs));
        behind = behind_level d s t 0 within
            ∙ ap (λ ps. lowers ++ (ps ++ highers)) (pages_below d 0 low high (key, new) lower)
            ∙ regroup (group_pages 0 (Leader key) (n ∷ hs));
      })
      under

  -- the group in which the value stands is that on the search path of the key, at or below it
  pub sets_value : (under : List Pair)
      → SetsAt m d 0 (leader_behind d 0 (low ++ (key, old) ∷ [])) s t key (n ∷ []) under
  sets_value under = elim (zero_or_more (d.level key)) [
    | inl own ↦ subst (λ l. SetsAt m d 0 l s t key (n ∷ []) under)
        (sym (leader_past d 0 low (key, old) (omega arith))) (over_own own under)
    | inr lower ↦ subst (λ l. SetsAt m d 0 l s t key (n ∷ []) under)
        (sym (leader_is_key d 0 low (key, old) lower)) (over_led lower under)
  ]
    where
      zero_or_more : (k : ℕ) → (k ≡ 0) ⊎ (0 < k)
      zero_or_more zero = inl refl
      zero_or_more (suc k) = inr (omega arith)
