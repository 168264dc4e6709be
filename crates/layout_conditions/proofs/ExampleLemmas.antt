-- The worked example: two pages, and each of them alone.
use Rattle.std.proofs.Common.{◌≡◌, ℕ, zero, suc, ◌+◌, ◌<◌, List, [], ◌∷◌, length, ◌⊎◌, inl, inr, Some, None, codes}
use Rattle.std.proofs.Common.{refl, sym, ap, subst, ◌∙◌, arith, ◌↔◌}
use Rattle.std.specs.List.{Contains}
use Rattle.std.specs.List.Sorted.{IsStrictlySortedBy}
use Rattle.std.proofs.lemmas.Map.Keys.{IsDistinct-from_sorted}
use Rattle.std.proofs.lemmas.Option.{same_Some}
use Rattle.store_model.specs.Lists.{IsBytes, zeros, zero_filled, numbers_from, insert_in_order, in_order}
use Rattle.store_model.specs.Parameters.{IsParameters}
use Rattle.store_model.specs.Paths.{field, key, key_cmp, name_bytes, path_text, parent}
use Rattle.store_model.specs.Trees.{Tree, IsTree}
use Rattle.store_model.specs.Trees.Node.{Directory}
use Rattle.store_model.specs.Pairs.{Pair, node_pairs, attribute_pairs, pairs}
use Rattle.store_model.specs.Labels.{Label, label_bytes, label_cmp}
use Rattle.store_model.specs.Labels.Lead.{Start, Leader}
use Rattle.store_model.specs.Draws.{ruler_start, ruler_level, draw_of}
use Rattle.store_model.specs.Pages.{Cell, Page, cell_on, IsPage}
use Rattle.store_model.specs.Placement.{Table, place, probes, put_first_free, put_all, IsOrderedTable}
use Rattle.store_model.specs.Images.{slots_of}
use Rattle.store_model.proofs.ListsLemmas.{all_replicate, bytes_from_all, rising_one}
use Rattle.store_model.proofs.ListsLemmasOrder.{held_cases, held_first}
use Rattle.store_model.proofs.ImagesLemmas.{AllByRecursion-slots}
use Rattle.store_model.proofs.PlacementLemmasDraws.{IsLawful-draw_of}
use Rattle.store_model.proofs.PlacementLemmasTables.{IsOrderedTable-place}
use Rattle.store_model.proofs.PageMapsLemmas.{slots_of_same}
use Rattle.layout_conditions.specs.Pages.{KeysRise, LeadsBefore, LeadsGroup, HasCell, HasKey, FollowsFull, IsLed}
use Rattle.layout_conditions.specs.Pages.{AreRunOf}
use Rattle.layout_conditions.specs.Conditions.{StandsIn, IsSound, AreRuns, AreGroups, AreMet, MeetConditions}
use Rattle.layout_conditions.specs.Examples.{two_slots, example_key, upper_page, lower_page, both_pages, lower_alone}
use Rattle.layout_conditions.specs.Examples.{upper_alone}
use Rattle.layout_conditions.proofs.CutLemmas.{one_pair}
use Rattle.layout_conditions.proofs.GroupLemmas.{same_label, no_key_below_itself}
use Rattle.layout_conditions.proofs.HeldLemmas.{held_none}

-- ---- the pages

-- the tree of the example
abbrev example_tree : Tree
example_tree = (codes "Ua" ∷ [], record { node = Directory; attributes = [] }) ∷ []

-- the parameters are in range
in_range : IsParameters two_slots
in_range = record {
  some_slot = omega arith;
  slots_in_range = omega arith;
  some_level = omega arith;
  height_in_range = omega arith;
  seed_length = refl;
  seed_bytes = bytes_from_all (zeros 32) (all_replicate (λ x. x < 256) 32 0 (omega arith));
}

key_length : length example_key ≡ 124
unfolding example_key zero_filled
key_length = refl

key_bytes : IsBytes example_key
unfolding example_key zero_filled
key_bytes = bytes_from_all (zero_filled 124 (codes "Ua"))
    (omega arith, (omega arith, all_replicate (λ x. x < 256) 122 0 (omega arith)))

-- the key stands on level 1
key_level : (draw_of two_slots).level example_key ≡ 1
unfolding draw_of ruler_level example_key zero_filled
key_level = refl

upper_is_page : IsPage upper_page
upper_is_page = record {
  label = record { level = omega arith; lead = tt; index = omega arith };
  some_cell = omega arith;
  room = omega arith;
  cells = (record { key_length = key_length; key_bytes = key_bytes; value = omega arith }, tt);
  rising = rising_one key_cmp example_key;
}

lower_is_page : IsPage lower_page
lower_is_page = record {
  label = record { level = omega arith; lead = (key_length, key_bytes); index = omega arith };
  some_cell = omega arith;
  room = omega arith;
  cells = (
    record {
      key_length = key_length;
      key_bytes = key_bytes;
      value = (refl, (omega arith, omega arith, bytes_from_all (1 ∷ []) (omega arith, tt)));
    },
    tt,
  );
  rising = rising_one key_cmp example_key;
}

-- ---- both pages

-- a slot of two pages holds the one or the other
one_of_two : (page : Page) → StandsIn both_pages page → (upper_page ≡ page) ⊎ (lower_page ≡ page)
one_of_two page (zero, e) = inl (same_Some upper_page page (same_Some (Some upper_page) (Some page) e))
one_of_two page (suc zero, e) = inr (same_Some lower_page page (same_Some (Some lower_page) (Some page) e))
one_of_two page (suc (suc slot), e) = cc

-- so what holds of both holds of each page that stands there
each_of_two : (P : Page → Type 0) → P upper_page → P lower_page → (page : Page) → StandsIn both_pages page → P page
each_of_two P upper lower page stands = by_case (one_of_two page stands)
  where
    by_case : (upper_page ≡ page) ⊎ (lower_page ≡ page) → P page
    by_case (inl e) = subst P e upper
    by_case (inr e) = subst P e lower

-- they are placed there
placed : place (draw_of two_slots) (lower_page ∷ upper_page ∷ []) ≡ both_pages
unfolding draw_of ruler_start label_bytes example_key zero_filled place in_order insert_in_order put_all
    put_first_free probes numbers_from
placed = refl

labels_rise : IsStrictlySortedBy label_cmp (lower_page.label ∷ upper_page.label ∷ [])
unfolding label_bytes IsStrictlySortedBy
labels_rise = ((refl, tt), (tt, tt))

both_sound : IsSound (draw_of two_slots) both_pages
unfolding draw_of
both_sound = record {
  ordered = subst (IsOrderedTable (draw_of two_slots)) placed
      (IsOrderedTable-place (draw_of two_slots) (lower_page ∷ upper_page ∷ []) (IsLawful-draw_of two_slots in_range)
      (omega arith) (IsDistinct-from_sorted label_cmp (lower_page.label ∷ upper_page.label ∷ []) labels_rise)
      (lower_is_page, (upper_is_page, tt)));
  levels = each_of_two (λ page. page.label.level < 2) (omega arith) (omega arith);
}

both_runs : AreRuns (draw_of two_slots) (StandsIn both_pages)
both_runs = record {
  levels = each_of_two (λ page. AreRunOf (draw_of two_slots)
      page.label.level page.label.lead page.label.index page.cells) (key_level, tt)
      (refl, (let above = key_level in omega arith), tt);
  numbered = each_of_two (λ page. 0 < page.label.index → FollowsFull (StandsIn both_pages) page)
      (λ some. absurd (omega arith)) (λ some. absurd (omega arith));
}

-- the key stands on level 1, in the upper page alone
key_above : HasKey (StandsIn both_pages) 1 example_key
key_above = record {
  cell = record { key = example_key; value = None };
  key_is = refl;
  has = record {
    page = upper_page;
    there = (0, refl);
    on_level = refl;
    in_page = held_first (record { key = example_key; value = None }) [];
  };
}

-- the only cell of a page
only_cell : (cell other : Cell) → Contains (cell ∷ []) other → cell ≡ other
only_cell cell other held = by_place (held_cases cell [] other held)
  where
    by_place : (cell ≡ other) ⊎ Contains [] other → cell ≡ other
    by_place (inl e) = e
    by_place (inr none) = absurd (held_none other none)

-- it leads the lower page
leads_lower : (level : ℕ) (key : List ℕ) (cell : Cell) → 1 ≡ level + 1 → Contains upper_page.cells cell → cell.key ≡ key
    → LeadsGroup (StandsIn both_pages) level key
leads_lower level key cell on_level held key_is =
    let same : example_key ≡ key = ap (λ (c : Cell). c.key)
    (only_cell (record { key = example_key; value = None }) cell held) ∙ key_is in
    let lowest : 0 ≡ level = omega arith in
    record {
      page = lower_page;
      there = (1, refl);
      label_is = same_label lower_page.label (record {
        level = level;
        lead = Leader key;
        index = 0;
      }) lowest (ap Leader same) refl;
    }

both_lead : (page : Page) → StandsIn both_pages page → (level : ℕ) (key : List ℕ) (cell : Cell)
    → page.label.level ≡ level + 1 → Contains page.cells cell → cell.key ≡ key
    → LeadsGroup (StandsIn both_pages) level key
both_lead =
    each_of_two (λ page. (level : ℕ) (key : List ℕ) (cell : Cell) → page.label.level ≡ level + 1
    → Contains page.cells cell → cell.key ≡ key → LeadsGroup (StandsIn both_pages) level key)
    leads_lower (λ level key cell on_level held key_is. absurd (omega arith))

-- neither comes behind the other on its level
both_rise : (a : Page) → StandsIn both_pages a → (b : Page) → StandsIn both_pages b → a.label.level ≡ b.label.level
    → LeadsBefore a.label.lead b.label.lead → KeysRise a.cells b.cells
both_rise =
    each_of_two (λ a. (b : Page) → StandsIn both_pages b → a.label.level ≡ b.label.level
    → LeadsBefore a.label.lead b.label.lead → KeysRise a.cells b.cells)
    (each_of_two (λ b. 1 ≡ b.label.level → LeadsBefore Start b.label.lead → KeysRise upper_page.cells b.cells)
    (λ e before. absurd before) (λ e before. absurd (omega arith)))
    (each_of_two (λ b. 0 ≡ b.label.level → LeadsBefore (Leader example_key) b.label.lead
    → KeysRise lower_page.cells b.cells) (λ e before. absurd before)
    (λ e before. absurd (no_key_below_itself example_key before)))

both_groups : AreGroups (StandsIn both_pages)
both_groups = record {
  leads = λ level key has. both_lead has.has.page has.has.there level key
      has.cell has.has.on_level has.has.in_page has.key_is;
  rise = λ a b here there e before. both_rise a here b there e before;
}

both_met : AreMet (StandsIn both_pages)
both_met = each_of_two (λ page. IsLed (StandsIn both_pages) page.label.level page.label.lead) tt key_above

-- ---- the tree

tree_is_tree : IsTree example_tree
unfolding parent name_bytes
tree_is_tree = record {
  sorted = refl;
  entries = (
    record {
      path = refl;
      below_root = refl;
      parent_directory = refl;
      node = tt;
      attributes = record { sorted = refl; each = tt };
    },
    tt,
  );
}

tree_pairs : pairs example_tree two_slots ≡ (example_key, 1 ∷ []) ∷ []
unfolding pairs node_pairs attribute_pairs key field name_bytes path_text example_key zero_filled
tree_pairs = refl

-- the lower page has its pair
lower_cell_is : (page : Page) → StandsIn both_pages page → (pair : Pair) → page.label.level ≡ 0
    → Contains page.cells (cell_on 0 pair) → (example_key, 1 ∷ []) ≡ pair
lower_cell_is =
    each_of_two (λ page. (pair : Pair) → page.label.level ≡ 0 → Contains page.cells (cell_on 0 pair)
    → (example_key, 1 ∷ []) ≡ pair)
    (λ pair on_level held. absurd (omega arith))
    (λ pair on_level held. one_pair (example_key, 1 ∷ []) pair
    (only_cell (cell_on 0 (example_key, 1 ∷ [])) (cell_on 0 pair) held))

both_cells : (pair : Pair) → HasCell (StandsIn both_pages) 0 (cell_on 0 pair)
    ↔ Contains (pairs example_tree two_slots) pair
both_cells pair = (to, from)
  where
    to : HasCell (StandsIn both_pages) 0 (cell_on 0 pair) → Contains (pairs example_tree two_slots) pair
    to has = subst (λ ps. Contains ps pair) (sym tree_pairs)
        (subst (Contains ((example_key, 1 ∷ []) ∷ [])) (lower_cell_is has.page has.there pair has.on_level has.in_page)
        (held_first (example_key, 1 ∷ []) []))

    here : HasCell (StandsIn both_pages) 0 (cell_on 0 (example_key, 1 ∷ []))
    here = record {
      page = lower_page;
      there = (1, refl);
      on_level = refl;
      in_page = held_first (cell_on 0 (example_key, 1 ∷ [])) [];
    }

    by_place : ((example_key, 1 ∷ []) ≡ pair) ⊎ Contains [] pair → HasCell (StandsIn both_pages) 0 (cell_on 0 pair)
    by_place (inl e) = subst (λ (p : Pair). HasCell (StandsIn both_pages) 0 (cell_on 0 p)) e here
    by_place (inr none) = absurd (held_none pair none)

    from : Contains (pairs example_tree two_slots) pair → HasCell (StandsIn both_pages) 0 (cell_on 0 pair)
    from held = by_place (held_cases (example_key, 1 ∷ []) [] pair (subst (λ ps. Contains ps pair) tree_pairs held))

-- both pages meet the conditions
pub both_meet : MeetConditions (slots_of both_pages) two_slots
both_meet = record {
  table = both_pages;
  slots_are = refl;
  sound = both_sound;
  runs = both_runs;
  groups = both_groups;
  met = both_met;
  tree = example_tree;
  pairs_are = record { tree = tree_is_tree; bare = λ lacks. (refl, tt); cells = both_cells };
}

-- ---- one page alone

-- the page of a table that has one, in its second slot
page_alone : (one page : Page) → StandsIn (None ∷ Some one ∷ []) page → one ≡ page
page_alone one page (zero, e) = cc
page_alone one page (suc zero, e) = same_Some one page (same_Some (Some one) (Some page) e)
page_alone one page (suc (suc slot), e) = cc

-- the table of slots that meet the conditions
table_alone : (one : Page) → IsPage one → (c : MeetConditions (slots_of (None ∷ Some one ∷ [])) two_slots)
    → c.table ≡ None ∷ Some one ∷ []
table_alone one is c = slots_of_same c.table (None ∷ Some one ∷ []) (AllByRecursion-slots c.table c.sound.ordered.pages)
    (tt, (is, tt)) (sym c.slots_are)

-- the lower page is not met
pub lower_is_not_met : MeetConditions (slots_of lower_alone) two_slots → ⊥
lower_is_not_met c =
    let met = subst (λ (t : Table). AreMet (StandsIn t)) (table_alone lower_page lower_is_page c) c.met in
    let above : HasKey (StandsIn lower_alone) 1 example_key = met lower_page (1, refl) in
    let on_level = above.has.on_level in
    let lowest = ap (λ (p : Page). p.label.level) (page_alone lower_page above.has.page above.has.there) in
    omega arith

-- the key of the upper page leads nothing
pub upper_leads_nothing : MeetConditions (slots_of upper_alone) two_slots → ⊥
upper_leads_nothing c =
    let groups = subst (λ (t : Table). AreGroups (StandsIn t)) (table_alone upper_page upper_is_page c) c.groups in
    let cell : Cell = record { key = example_key; value = None } in
    let group = groups.leads 0 example_key (record {
      cell = cell;
      key_is = refl;
      has = record { page = upper_page; there = (1, refl); on_level = refl; in_page = held_first cell [] };
    }) in
    let on_level = ap (λ (l : Label). l.level) group.label_is in
    let upper = ap (λ (p : Page). p.label.level) (page_alone upper_page group.page group.there) in
    omega arith
