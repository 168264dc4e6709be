-- The pages that a list of pairs is cut into meet the conditions.
use Rattle.std.proofs.Common.{◌≡◌, ℕ, zero, suc, ◌+◌, ◌<◌, ◌≤◌, List, [], ◌∷◌, length, Bool, true, false, cond, ◌⊎◌}
use Rattle.std.proofs.Common.{inl, inr, Less, nat_le, refl, sym, ap, ap₂, subst, ◌∙◌, arith, le-leb, add-one, mul-zero}
use Rattle.std.proofs.Common.{◌*◌, ◌↔◌}
use Rattle.std.specs.Cmp.{tied_itself}
use Rattle.std.specs.List.{AllByRecursion, Contains, filter, flat_map}
use Rattle.std.specs.List.Sorted.{IsStrictlySortedBy}
use Rattle.std.proofs.lemmas.Bool.{leb-true, false≢true}
use Rattle.std.proofs.lemmas.Option.{same_Some}
use Rattle.store_model.specs.Lists.{numbers_below, run_count, cut_before}
use Rattle.store_model.specs.Paths.{key_cmp}
use Rattle.store_model.specs.Labels.{Lead, Label, label_cmp}
use Rattle.store_model.specs.Labels.Lead.{Start, Leader}
use Rattle.store_model.specs.Draws.{Draw, IsLawful}
use Rattle.store_model.specs.Pairs.{Pair}
use Rattle.store_model.specs.Pages.{Cell, Page, page_room, cell_on, level_list, leads_group, groups, lead_of}
use Rattle.store_model.specs.Pages.{group_pages, level_pages, pages_of_pairs, IsPage}
use Rattle.store_model.proofs.ListsLemmas.{rising_back}
use Rattle.store_model.proofs.ListsLemmasCuts.{IsUncut, BeginsAtCut, AllButFirst, flat_map-cut_before, rising_parts}
use Rattle.store_model.proofs.ListsLemmasCuts.{cut_before_is_uncut, cut_before_begins}
use Rattle.store_model.proofs.ListsLemmasOrder.{held_cases, held_first, held_all}
use Rattle.store_model.proofs.PagesLemmas.{some_room, cells_of_level}
use Rattle.store_model.proofs.PagesLemmasOrder.{cell_cmp, cell_on-key, rising_level_list, rising_pages}
use Rattle.store_model.proofs.PagesLemmasSizes.{IsPairList, keyed, pages_are_pages}
use Rattle.store_model.proofs.PlacementLemmas.{label_cmp_total}
use Rattle.store_model.proofs.PlacementLemmasOrder.{page_cmp_total}
use Rattle.layout_conditions.specs.Pages.{KeysRise, LeadsBefore, AreRunOf, LeadsGroup, HasCell, HasKey, FollowsFull}
use Rattle.layout_conditions.specs.Pages.{IsLed}
use Rattle.layout_conditions.specs.Conditions.{AreRuns, AreGroups, AreMet}
use Rattle.layout_conditions.proofs.HeldLemmas.{all_held, held_none, map_held, held_map, flat_map_held, held_flat_map}
use Rattle.layout_conditions.proofs.HeldLemmas.{filter_held, held_filter, number_held, held_number, rising_across}
use Rattle.layout_conditions.proofs.HeldLemmas.{one_of_rising}
use Rattle.layout_conditions.proofs.GroupLemmas.{AreLayout, key_trans, no_key_below_itself}
use Rattle.layout_conditions.proofs.RunLemmas.{held_run, full_run, rising_runs, page_at_run, group_pages_are_runs}
use Rattle.layout_conditions.proofs.RunLemmas.{run_of_group}

-- ---- where pages and cells come from

module _ (d : Draw) (s : List Pair) where
  -- the page is a run of a group of the level
  record IsRunOn (level : ℕ) (page : Page) : Type 0 where
    group : List Cell
    is_group : Contains (groups d s level) group
    index : ℕ
    counted : index < run_count (page_room level) (length group)
    page_is : page_at_run d level group index ≡ page

  -- the cell is that of a pair whose key stands on the level
  record IsOfPair (level : ℕ) (cell : Cell) : Type 0 where
    pair : Pair
    held : Contains s pair
    stands : level ≤ d.level pair.0
    cell_is : cell_on level pair ≡ cell

  -- the pages of a level are the runs of its groups
  run_of_page : (level : ℕ) (page : Page) → Contains (level_pages d s level) page → IsRunOn level page
  unfolding level_pages
  run_of_page level page held =
      let group = held_flat_map (λ cells. group_pages level (lead_of d level cells) cells) (groups d s level) page held
      in
      let numbers = numbers_below (run_count (page_room level) (length group.0)) in
      let index = held_map (page_at_run d level group.0) numbers page
      (subst (λ (pages : List Page). Contains pages page) (group_pages_are_runs d level group.0) group.2) in
      record {
        group = group.0;
        is_group = group.1;
        index = index.0;
        counted = held_number (run_count (page_room level) (length group.0)) index.0 index.1;
        page_is = index.2;
      }

  page_of_run : (level : ℕ) (group : List Cell) (index : ℕ) → Contains (groups d s level) group
      → index < run_count (page_room level) (length group)
      → Contains (level_pages d s level) (page_at_run d level group index)
  unfolding level_pages
  page_of_run level group index held counted =
      let count = run_count (page_room level) (length group) in
      flat_map_held (λ cells. group_pages level (lead_of d level cells) cells) (groups d s level) group
      (page_at_run d level group index) held
      (subst (λ (pages : List Page). Contains pages (page_at_run d level group index))
      (sym (group_pages_are_runs d level group))
      (map_held (page_at_run d level group) (numbers_below count) index (number_held count index counted)))

  -- the list of a level has the cells of the pairs that stand on it
  pair_of_listed : (level : ℕ) (cell : Cell) → Contains (level_list d s level) cell → IsOfPair level cell
  unfolding level_list
  pair_of_listed level cell held =
      let stays = λ (pair : Pair). nat_le level (d.level pair.0) in
      let made = held_map (cell_on level) (filter stays s) cell held in
      let kept = held_filter stays s made.0 made.1 in
      record { pair = made.0; held = kept.0; stands = leb-true level (d.level made.0.0) kept.1; cell_is = made.2 }

  listed : (level : ℕ) (pair : Pair) → Contains s pair → level ≤ d.level pair.0
      → Contains (level_list d s level) (cell_on level pair)
  unfolding level_list
  listed level pair held stands =
      let stays = λ (p : Pair). nat_le level (d.level p.0) in
      map_held (cell_on level) (filter stays s) pair
      (filter_held stays s pair held (le-leb level (d.level pair.0) stands))

  -- and its groups have these, and no others
  listed_in_group : (level : ℕ) (group : List Cell) (cell : Cell) → Contains (groups d s level) group
      → Contains group cell → Contains (level_list d s level) cell
  unfolding groups
  listed_in_group level group cell is held =
      subst (λ (cells : List Cell). Contains cells cell)
      (flat_map-cut_before (leads_group d level) (level_list d s level))
      (flat_map_held (λ part. part) (cut_before (leads_group d level) (level_list d s level)) group cell is held)

  group_of_listed : (level : ℕ) (cell : Cell) → Contains (level_list d s level) cell
      → (group : List Cell) × Contains (groups d s level) group × Contains group cell
  unfolding groups
  group_of_listed level cell held =
      held_flat_map (λ part. part) (cut_before (leads_group d level) (level_list d s level)) cell
      (subst (λ (cells : List Cell). Contains cells cell)
      (sym (flat_map-cut_before (leads_group d level) (level_list d s level))) held)

  -- a group is cut nowhere within
  uncut : (level : ℕ) (group : List Cell) → Contains (groups d s level) group → IsUncut (leads_group d level) group
  unfolding groups
  uncut level group held = held_all (IsUncut (leads_group d level))
      (cut_before (leads_group d level) (level_list d s level)) group
      (cut_before_is_uncut (leads_group d level) (level_list d s level)) held

  -- each of its keys stands on the level
  stand_low : (level : ℕ) (group : List Cell) → Contains (groups d s level) group
      → AllByRecursion (λ c. level ≤ d.level c.key) group
  stand_low level group is = all_held (λ c. level ≤ d.level c.key) group (λ c held.
      let p = pair_of_listed level c (listed_in_group level group c is held) in
      let low = p.stands in
      omega (arith, ap d.level (sym (cell_on-key level p.pair) ∙ ap (λ (x : Cell). x.key) p.cell_is)))

  -- a cell of a page comes of a pair
  pair_of_cell_on : (level : ℕ) (page : Page) (cell : Cell) → IsRunOn level page
      → Contains page.cells cell → IsOfPair level cell
  pair_of_cell_on level page cell run held =
      pair_of_listed level cell (listed_in_group level run.group cell run.is_group
      (held_run (page_room level) run.group run.index cell
      (subst (λ (p : Page). Contains p.cells cell) (sym run.page_is) held)))

-- ---- what leads the groups

-- the lead of a group that begins with the cell, by the test of the cell
lead_by_test : (d : Draw) (level : ℕ) (x : Cell) (xs : List Cell) (b : Bool) → leads_group d level x ≡ b
    → lead_of d level (x ∷ xs) ≡ cond b (Leader x.key) Start
unfolding lead_of
lead_by_test d level x xs b e = ap (λ t. cond t (Leader x.key) Start) e

-- no lead is before itself
not_before_itself : (lead : Lead) → LeadsBefore lead lead → ⊥
not_before_itself Start h = h
not_before_itself (Leader key) h = no_key_below_itself key h

-- a group that begins at a cut leads before no group with smaller keys
not_behind : (d : Draw) (level : ℕ) (group first : List Cell) → BeginsAtCut (leads_group d level) group
    → IsUncut (leads_group d level) first → KeysRise first group
    → LeadsBefore (lead_of d level group) (lead_of d level first) → ⊥
not_behind d level [] first begins some across before = begins
not_behind d level (x ∷ xs) [] begins some across before = some
not_behind d level (x ∷ xs) (y ∷ ys) begins some across before = by_test (leads_group d level y) refl
  where
    led : lead_of d level (x ∷ xs) ≡ Leader x.key
    led = lead_by_test d level x xs true begins

    by_test : (b : Bool) → leads_group d level y ≡ b → ⊥
    by_test true e =
        let less : key_cmp x.key y.key ≡ Less =
        subst (λ (l : Lead). LeadsBefore l (Leader y.key)) led
        (subst (LeadsBefore (lead_of d level (x ∷ xs))) (lead_by_test d level y ys true e) before) in
        no_key_below_itself x.key (key_trans x.key y.key x.key less (across y x (held_first y ys) (held_first x xs)))
    by_test false e = subst (λ (l : Lead). LeadsBefore l Start) led
        (subst (LeadsBefore (lead_of d level (x ∷ xs))) (lead_by_test d level y ys false e) before)

-- all parts but the first, of parts behind one more
but_first : {X : Type 0} (P : X → Type 0) (xs : List X) → AllByRecursion P xs → AllButFirst P xs
but_first P [] all = tt
but_first P (x ∷ xs) all = all.1

-- of groups whose cells rise, one after another, one that leads before another has the smaller keys
groups_rise : (d : Draw) (level : ℕ) (parts : List (List Cell)) → AllByRecursion (IsUncut (leads_group d level)) parts
    → AllButFirst (BeginsAtCut (leads_group d level)) parts
    → IsStrictlySortedBy cell_cmp (flat_map (λ part. part) parts)
    → (g h : List Cell) → Contains parts g → Contains parts h
    → LeadsBefore (lead_of d level g) (lead_of d level h) → KeysRise g h
groups_rise d level [] some begins up g h held_g held_h before = absurd (held_none g held_g)
groups_rise d level (first ∷ parts) some begins up g h held_g held_h before =
    by_places (held_cases first parts g held_g) (held_cases first parts h held_h)
    (λ later_g later_h. groups_rise d level parts some.1 (but_first (BeginsAtCut (leads_group d level)) parts begins)
    (rising_back cell_cmp first (flat_map (λ part. part) parts) up) g h later_g later_h before)
  where
    across : (k : List Cell) → Contains parts k → KeysRise first k
    across k held = λ a b held_a held_b. rising_across cell_cmp first (flat_map (λ part. part) parts) a b up held_a
        (flat_map_held (λ part. part) parts k b held held_b)

    by_places : (first ≡ g) ⊎ Contains parts g → (first ≡ h) ⊎ Contains parts h
        → (Contains parts g → Contains parts h → KeysRise g h) → KeysRise g h
    by_places (inl e) (inl f) later =
        absurd (not_before_itself (lead_of d level g)
        (subst (λ (k : List Cell). LeadsBefore (lead_of d level g) (lead_of d level k)) (sym f ∙ e) before))
    by_places (inl e) (inr there) later = subst (λ (k : List Cell). KeysRise k h) e (across h there)
    by_places (inr there) (inl f) later =
        absurd (not_behind d level g first (held_all (BeginsAtCut (leads_group d level)) parts g begins there)
        some.0 (across g there)
        (subst (λ (k : List Cell). LeadsBefore (lead_of d level g) (lead_of d level k)) (sym f) before))
    by_places (inr there_g) (inr there_h) later = later there_g there_h

-- a group is led by the key in it that stands on a higher level
lead_of_led : (d : Draw) (level : ℕ) (group : List Cell) (cell : Cell) → IsUncut (leads_group d level) group
    → Contains group cell → level < d.level cell.key → lead_of d level group ≡ Leader cell.key
lead_of_led d level [] cell some held above = absurd some
lead_of_led d level (x ∷ xs) cell some held above = by_place (held_cases x xs cell held)
  where
    leads : leads_group d level cell ≡ true
    leads = le-leb (suc level) (d.level cell.key) (omega arith)

    by_place : (x ≡ cell) ⊎ Contains xs cell → lead_of d level (x ∷ xs) ≡ Leader cell.key
    by_place (inl e) = lead_by_test d level x xs true (ap (leads_group d level) e ∙ leads)
        ∙ ap (λ (c : Cell). Leader c.key) e
    by_place (inr later) =
        absurd (false≢true (sym (held_all (λ c. leads_group d level c ≡ false) xs cell some later) ∙ leads))

-- some elements have a run
some_run : (n count : ℕ) → 1 ≤ n → 1 ≤ count → 0 < run_count n count
some_run n count h g = positive (run_count n count) (let enough : count ≤ n * run_count n count = omega arith in enough)
  where
    positive : (k : ℕ) → count ≤ n * k → 0 < k
    positive zero l = absurd (let none = mul-zero n in omega arith)
    positive (suc k) l = omega arith

-- pairs whose cells on level 0 are one are one
pub one_pair : (a b : Pair) → cell_on 0 a ≡ cell_on 0 b → a ≡ b
one_pair a b e = let make : List ℕ → List ℕ → Pair = λ key value. (key, value)
    in ap₂ make (ap (λ (c : Cell). c.key) e) (same_Some a.1 b.1 (ap (λ (c : Cell). c.value) e))

-- ---- the conditions

module _ (d : Draw) (s : List Pair) (There : Page → Type 0) (law : IsLawful d) (list : IsPairList s)
    (from : (page : Page) → There page → Contains (pages_of_pairs d s) page)
    (to : (page : Page) → Contains (pages_of_pairs d s) page → There page) where
  -- a page is a run of a group of its level
  cut_of : (page : Page) → There page → (level : ℕ) × (level < d.height) × IsRunOn d s level page
  unfolding pages_of_pairs
  cut_of page here =
      let level = held_flat_map (level_pages d s) (numbers_below d.height) page (from page here) in
      (level.0, held_number d.height level.0 level.1, run_of_page d s level.0 page level.2)

  -- of a level below the height
  pub low_level : (page : Page) → There page → page.label.level < d.height
  low_level page here = let c = cut_of page here in subst (λ (p : Page). p.label.level < d.height) c.2.page_is c.1

  -- on the level that its label says
  cut_on : (level : ℕ) (page : Page) → There page → page.label.level ≡ level → IsRunOn d s level page
  cut_on level page here e = let c = cut_of page here
      in subst (λ n. IsRunOn d s n page) (ap (λ (p : Page). p.label.level) c.2.page_is ∙ e) c.2

  -- and each of these is there
  level_there : (level : ℕ) (page : Page) → level < d.height → Contains (level_pages d s level) page → There page
  unfolding pages_of_pairs
  level_there level page low held =
      to page (flat_map_held (level_pages d s) (numbers_below d.height) level page
      (number_held d.height level low) held)

  -- a pair has its cell on each level on which its key stands
  standing : (level : ℕ) (pair : Pair) → Contains s pair → level ≤ d.level pair.0
      → HasCell There level (cell_on level pair)
  standing level pair held stands =
      let below = law.level_in_range pair.0 in
      let cell = cell_on level pair in
      let p = held_flat_map (λ page. page.cells) (level_pages d s level) cell
      (subst (λ (cells : List Cell). Contains cells cell) (sym (cells_of_level d s level))
      (listed d s level pair held stands)) in
      record {
        page = p.0;
        there = level_there level p.0 (omega arith) p.1;
        on_level = sym (ap (λ (page : Page). page.label.level) (run_of_page d s level p.0 p.1).page_is);
        in_page = p.2;
      }

  -- ---- runs

  rising_group : (level : ℕ) (group : List Cell) → Contains (groups d s level) group → IsStrictlySortedBy cell_cmp group
  unfolding groups
  rising_group level group held =
      let parts = cut_before (leads_group d level) (level_list d s level) in
      held_all (IsStrictlySortedBy cell_cmp) parts group
      (rising_parts cell_cmp parts
      (subst (IsStrictlySortedBy cell_cmp) (sym (flat_map-cut_before (leads_group d level) (level_list d s level)))
      (rising_level_list d s level list.pairs.sorted))) held

  follows : (level : ℕ) (group : List Cell) (index : ℕ) → level < d.height → Contains (groups d s level) group
      → index < run_count (page_room level) (length group) → 0 < index
      → FollowsFull There (page_at_run d level group index)
  follows level group zero low held counted some = absurd (omega arith)
  follows level group (suc index) low held counted some = record {
    before = page_at_run d level group index;
    there = level_there level (page_at_run d level group index) low
        (page_of_run d s level group index held (omega arith));
    same_level = refl;
    same_lead = refl;
    index_is = add-one index;
    full = full_run (page_room level) group index (some_room level) counted;
    smaller = rising_runs (page_room level) group index (rising_group level group held);
  }

  cut_runs : AreRuns d There
  cut_runs = record {
    levels = λ page here. let c = cut_of page here in let r = c.2 in
        subst (λ (p : Page). AreRunOf d p.label.level p.label.lead p.label.index p.cells)
        r.page_is (run_of_group d c.0 r.group r.index (uncut d s c.0 r.group r.is_group)
        (stand_low d s c.0 r.group r.is_group));
    numbered = λ page here some. let c = cut_of page here in let r = c.2 in
        subst (λ (p : Page). 0 < p.label.index → FollowsFull There p)
        r.page_is (follows c.0 r.group r.index c.1 r.is_group r.counted) some;
  }

  -- ---- groups

  -- a key of a level leads a group of the level below
  leads_below : (level : ℕ) (key : List ℕ) → HasKey There (level + 1) key → LeadsGroup There level key
  leads_below level key has =
      let p = pair_of_cell_on d s (level + 1)
      has.has.page has.cell (cut_on (level + 1) has.has.page has.has.there has.has.on_level) has.has.in_page in
      let stands = p.stands in
      let below = law.level_in_range p.pair.0 in
      let own : p.pair.0 ≡ key = sym (cell_on-key (level + 1) p.pair)
      ∙ ap (λ (c : Cell). c.key) p.cell_is ∙ has.key_is in
      let cell = cell_on level p.pair in
      let g = group_of_listed d s level cell (listed d s level p.pair p.held (omega arith)) in
      let lead = lead_of_led d level g.0 cell (uncut d s level g.0 g.1)
      g.2 (omega (arith, ap d.level (cell_on-key level p.pair))) ∙ ap Leader (cell_on-key level p.pair ∙ own) in
      let place = g.2.1 in
      record {
        page = page_at_run d level g.0 0;
        there = level_there level (page_at_run d level g.0 0) (omega arith)
            (page_of_run d s level g.0 0 g.1 (some_run (page_room level) (length g.0) (some_room level) (omega arith)));
        label_is = ap (λ (l : Lead). let label : Label = record { level = level; lead = l; index = 0 } in label) lead;
      }

  rise_on : (level : ℕ) (a b : Page) → IsRunOn d s level a → IsRunOn d s level b → LeadsBefore a.label.lead b.label.lead
      → KeysRise a.cells b.cells
  unfolding groups
  rise_on level a b ra rb before =
      let cuts = leads_group d level in
      let cells = level_list d s level in
      let lead_a = ap (λ (p : Page). p.label.lead) ra.page_is in
      let lead_b = ap (λ (p : Page). p.label.lead) rb.page_is in
      let rise = groups_rise d level (cut_before cuts cells) (cut_before_is_uncut cuts cells)
      (cut_before_begins cuts cells)
      (subst (IsStrictlySortedBy cell_cmp) (sym (flat_map-cut_before cuts cells))
      (rising_level_list d s level list.pairs.sorted)) ra.group rb.group ra.is_group rb.is_group
      (subst (λ (l : Lead). LeadsBefore l (lead_of d level rb.group)) (sym lead_a)
      (subst (LeadsBefore a.label.lead) (sym lead_b) before)) in
      λ x y held_x held_y. rise x y
      (held_run (page_room level) ra.group ra.index x
      (subst (λ (p : Page). Contains p.cells x) (sym ra.page_is) held_x))
      (held_run (page_room level) rb.group rb.index y
      (subst (λ (p : Page). Contains p.cells y) (sym rb.page_is) held_y))

  cut_groups : AreGroups There
  cut_groups = record {
    leads = leads_below;
    rise = λ a b here there same before. rise_on a.label.level a b (cut_on a.label.level a here refl)
        (cut_on a.label.level b there (sym same)) before;
  }

  -- ---- what is met, and the pairs

  led_of_group : (level : ℕ) (group : List Cell) → Contains (groups d s level) group
      → IsLed There level (lead_of d level group)
  led_of_group level [] held = absurd (uncut d s level [] held)
  led_of_group level (x ∷ xs) held = by_test (leads_group d level x) refl
    where
      by_test : (b : Bool) → leads_group d level x ≡ b → IsLed There level (lead_of d level (x ∷ xs))
      by_test true e =
          let p = pair_of_listed d s level x (listed_in_group d s level (x ∷ xs) x held (held_first x xs)) in
          let own : p.pair.0 ≡ x.key = sym (cell_on-key level p.pair) ∙ ap (λ (c : Cell). c.key) p.cell_is in
          let above = leb-true (suc level) (d.level x.key) e in
          let key : HasKey There (level + 1) x.key = record {
            cell = cell_on (level + 1) p.pair;
            key_is = cell_on-key (level + 1) p.pair ∙ own;
            has = standing (level + 1) p.pair p.held (omega (arith, ap d.level own));
          } in
          subst (IsLed There level) (sym (lead_by_test d level x xs true e)) key
      by_test false e = subst (IsLed There level) (sym (lead_by_test d level x xs false e)) tt

  cut_met : AreMet There
  cut_met page here =
      let c = cut_of page here in
      subst (λ (p : Page). IsLed There p.label.level p.label.lead) c.2.page_is (led_of_group c.0 c.2.group c.2.is_group)

  cut_cells : (pair : Pair) → HasCell There 0 (cell_on 0 pair) ↔ Contains s pair
  cut_cells pair = (
    λ has. (let p = pair_of_cell_on d s 0 has.page (cell_on 0 pair)
        (cut_on 0 has.page has.there has.on_level) has.in_page
        in subst (Contains s) (one_pair p.pair pair p.cell_is) p.held),
    λ held. standing 0 pair held (omega arith),
  )

  -- no label is that of two pages
  cut_once : (a b : Page) → There a → There b → a.label ≡ b.label → a ≡ b
  cut_once a b here there e = one_of_rising page_cmp_total (pages_of_pairs d s) a b (rising_pages d s (keyed s list))
      (from a here) (from b there) (ap (label_cmp a.label) (sym e) ∙ tied_itself label_cmp_total a.label)

  -- so the conditions hold
  pub cut_pages_meet : d.height ≤ 256 → AreLayout d s There
  cut_pages_meet low = record {
    pages = λ page here. held_all IsPage (pages_of_pairs d s) page (pages_are_pages d s low list) (from page here);
    once = cut_once;
    runs = cut_runs;
    groups = cut_groups;
    met = cut_met;
    cells = cut_cells;
  }
