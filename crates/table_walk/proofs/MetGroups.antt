-- Cells that were met, and the runs of a group.
use Rattle.std.proofs.Common.{◌≡◌, ℕ, ◌+◌, ◌-◌, ◌<◌, ◌⊎◌, inl, inr, List, [], ◌∷◌, ◌++◌, length, refl, sym, ap, subst}
use Rattle.std.proofs.Common.{◌∙◌, arith}
use Rattle.std.proofs.Math.Nat.{eq-or-lt_of_le}
use Rattle.std.specs.Prelude.{None}
use Rattle.std.specs.List.{Contains}
use Rattle.std.specs.declared.cmp.Ordering.TheVariants.{Less}
use Rattle.std.proofs.lemmas.List.Elements.{Contains-append_left, Contains-append_right, Contains-append_cases}
use Rattle.store_model.specs.Labels.{Lead, Label}
use Rattle.store_model.specs.Labels.Lead.{Start, Leader}
use Rattle.store_model.specs.Draws.{Draw}
use Rattle.store_model.specs.Pages.{Cell, Page, page_room}
use Rattle.store_model.proofs.ListsLemmas.{rising_one}
use Rattle.store_model.proofs.ListsLemmasOrder.{held_first}
use Rattle.layout_conditions.specs.Pages.{KeysRise, LeadsBefore, AreLedBy, AreRunOf, LeadsGroup, HasCell, FollowsFull}
use Rattle.layout_conditions.specs.Pages.{IsLed}
use Rattle.skip_groups.specs.Groups.{label_of}
use Rattle.table_walk.specs.Streams.{HasKeyIn, cell_order}
use Rattle.table_walk.specs.Walked.{IsLedBy, Walked, Opened}
use Rattle.table_walk.specs.Walks.{leader_cells}
use Rattle.table_walk.proofs.KeyOrder.{none_in, only_one, not_below_itself, in_of}
use Rattle.table_walk.proofs.MetPages.{follows_more, distinct_both}

-- ---- labels

pub label_is : (l : Label) (level : ℕ) (lead : Lead) (index : ℕ) → l.level ≡ level → l.lead ≡ lead → l.index ≡ index
    → l ≡ label_of level lead index
label_is l level lead index e f g = λ i. record { level = e i; lead = f i; index = g i }

-- no lead comes before itself
pub not_before_itself : (lead : Lead) → LeadsBefore lead lead → ⊥
not_before_itself Start before = before
not_before_itself (Leader key) before = not_below_itself key before

-- two places with one number below a past one, or the last
pub below_or_last : (index past : ℕ) → index < past + 1 → (index ≡ past) ⊎ (index < past)
below_or_last index past below = eq-or-lt_of_le (omega arith)

-- the first cell of a group that a key leads has that key
pub first_cell : (d : Draw) (level : ℕ) (key : List ℕ) (cells : List Cell)
    → AreLedBy d key level cells → HasKeyIn cells key
first_cell d level key [] led = absurd led
first_cell d level key (cell ∷ cells) led = record { cell = cell; is_in = held_first cell cells; key_is = led.0 }

-- a cell of a leader is that of its key
pub in_leader_cells : (lead : Lead) (cell : Cell) → Contains (leader_cells lead) cell → lead ≡ Leader cell.key
in_leader_cells Start cell held = absurd (none_in cell held)
in_leader_cells (Leader key) cell held =
    ap (λ (c : Cell). Leader c.key) (only_one (record { key = key; value = None }) cell held)

-- ---- cells

-- on level 0 a cell is met with nothing below it
pub met_pair : (d : Draw) (There : Page → Type 0) (cell : Cell) → Walked d There 0 (cell ∷ []) [] (cell ∷ [])
met_pair d There cell = record {
  there = λ page held. absurd (none_in page held);
  distinct = tt;
  lower = λ page held. absurd (none_in page held);
  runs = record {
    levels = λ page held. absurd (none_in page held);
    numbered = λ page held above. absurd (none_in page held);
  };
  groups = record {
    leads = λ low key has. absurd (none_in has.has.page has.has.there);
    rise = λ a b held. absurd (none_in a held);
  };
  led = λ page held. absurd (none_in page held);
  leads = λ low other is held. absurd (omega (arith, is));
  whole = λ page next held. absurd (none_in page held);
  lead_keys = λ page held. absurd (none_in page held);
  page_keys = λ page other held. absurd (none_in page held);
  own_keys = λ other held. in_of (cell ∷ []) other held;
  cells_from = λ other held. inr (refl, held);
  cells_of = λ other has. absurd (none_in has.page has.there);
  own_cells = λ other is held. held;
  rising = rising_one cell_order cell;
}

module _ (d : Draw) (There : Page → Type 0) (low : ℕ) (own other : Cell) (ps : List Page) (cs : List Cell)
    (same : own.key ≡ other.key) where
  led_as : (page : Page) → IsLed (Contains ps) page.label.level page.label.lead ⊎ IsLedBy (low + 1) (own ∷ []) page
      → IsLed (Contains ps) page.label.level page.label.lead ⊎ IsLedBy (low + 1) (other ∷ []) page
  led_as page (inl led) = inl led
  led_as page (inr by) = inr (record { next = by.next; key = by.key; lead_is = by.lead_is; has = as_key by.key by.has })
    where
      as_key : (key : List ℕ) → HasKeyIn (own ∷ []) key → HasKeyIn (other ∷ []) key
      as_key key has = record {
        cell = other;
        is_in = held_first other [];
        key_is = sym same ∙ ap (λ (c : Cell). c.key) (only_one own has.cell has.is_in) ∙ has.key_is;
      }

  from_as : (cell : Cell) → HasCell (Contains ps) 0 cell ⊎ ((low + 1 ≡ 0) × Contains (own ∷ []) cell)
      → HasCell (Contains ps) 0 cell ⊎ ((low + 1 ≡ 0) × Contains (other ∷ []) cell)
  from_as cell (inl has) = inl has
  from_as cell (inr held) = absurd (omega (arith, held.0))

  -- above level 0 it is the key that counts
  pub met_as : Walked d There (low + 1) (own ∷ []) ps cs → Walked d There (low + 1) (other ∷ []) ps cs
  met_as w = record {
    there = w.there;
    distinct = w.distinct;
    lower = w.lower;
    runs = w.runs;
    groups = w.groups;
    led = λ page held. led_as page (w.led page held);
    leads = λ n cell is held. subst (LeadsGroup (Contains ps) n)
        (same ∙ ap (λ (c : Cell). c.key) (only_one other cell held)) (w.leads n own is (held_first own []));
    whole = w.whole;
    lead_keys = w.lead_keys;
    page_keys = w.page_keys;
    own_keys = λ cell held. subst (HasKeyIn cs) (same ∙ ap (λ (c : Cell). c.key) (only_one other cell held))
        (w.own_keys own (held_first own []));
    cells_from = λ cell held. from_as cell (w.cells_from cell held);
    cells_of = w.cells_of;
    own_cells = λ cell is held. absurd (omega (arith, is));
    rising = w.rising;
  }

-- what was met below no cell of a level was met below none of the next one
pub met_raised : (d : Draw) (There : Page → Type 0) (level : ℕ) (ps : List Page) (cs : List Cell)
    → Walked d There level [] ps cs → Walked d There (level + 1) [] ps cs
met_raised d There level ps cs w = record {
  there = w.there;
  distinct = w.distinct;
  lower = λ page held. let below = w.lower page held in omega arith;
  runs = w.runs;
  groups = w.groups;
  led = λ page held. led_as page (w.led page held);
  leads = λ low cell is held. absurd (none_in cell held);
  whole = w.whole;
  lead_keys = w.lead_keys;
  page_keys = w.page_keys;
  own_keys = λ cell held. absurd (none_in cell held);
  cells_from = λ cell held. from_as cell (w.cells_from cell held);
  cells_of = w.cells_of;
  own_cells = λ cell is held. absurd (none_in cell held);
  rising = w.rising;
}
  where
    led_as : (page : Page) → IsLed (Contains ps) page.label.level page.label.lead ⊎ IsLedBy level [] page
        → IsLed (Contains ps) page.label.level page.label.lead ⊎ IsLedBy (level + 1) [] page
    led_as page (inl led) = inl led
    led_as page (inr by) = absurd (none_in by.has.cell by.has.is_in)

    from_as : (cell : Cell) → HasCell (Contains ps) 0 cell ⊎ ((level ≡ 0) × Contains [] cell)
        → HasCell (Contains ps) 0 cell ⊎ ((level + 1 ≡ 0) × Contains [] cell)
    from_as cell (inl has) = inl has
    from_as cell (inr held) = absurd (none_in cell held.1)

-- ---- runs

pub opened_none : (d : Draw) (There : Page → Type 0) (level : ℕ) (lead : Lead) → Opened d There level lead 0 [] []
opened_none d There level lead = record {
  there = λ page held. absurd (none_in page held);
  distinct = tt;
  are_runs = record {
    levels = λ page held. absurd (none_in page held);
    numbered = λ page held above. absurd (none_in page held);
  };
  levels = λ page held. absurd (none_in page held);
  leads = λ page held. absurd (none_in page held);
  below = λ page held. absurd (none_in page held);
  found = λ index below. absurd (omega arith);
  cells_of = λ page cell held. absurd (none_in page held);
  cells_from = λ cell held. absurd (none_in cell held);
  last = λ page cell other held. absurd (none_in page held);
}

module _ (d : Draw) (There : Page → Type 0) (level : ℕ) (lead : Lead) (past : ℕ) (runs : List Page)
    (cells : List Cell) (page : Page)
    (o : Opened d There level lead past runs cells) (there : There page) (named : page.label ≡ label_of level lead past)
    (run : AreRunOf d page.label.level page.label.lead page.label.index page.cells)
    (full : (p : Page) → Contains runs p → length p.cells ≡ page_room p.label.level)
    (rise : KeysRise cells page.cells) where
  abbrev now : List Page
  now = runs ++ page ∷ []

  index_is : page.label.index ≡ past
  index_is = ap (λ (l : Label). l.index) named

  level_is : page.label.level ≡ level
  level_is = ap (λ (l : Label). l.level) named

  lead_is : page.label.lead ≡ lead
  lead_is = ap (λ (l : Label). l.lead) named

  old : (p : Page) → Contains runs p → Contains now p
  old = Contains-append_left runs (page ∷ [])

  new : Contains now page
  new = Contains-append_right runs (page ∷ []) page (held_first page [])

  old_or_new : (p : Page) → Contains now p → Contains runs p ⊎ (page ≡ p)
  old_or_new p held = by_place (Contains-append_cases runs (page ∷ []) p held)
    where
      by_place : Contains runs p ⊎ Contains (page ∷ []) p → Contains runs p ⊎ (page ≡ p)
      by_place (inl held) = inl held
      by_place (inr held) = inr (only_one page p held)

  follows : 0 < page.label.index → FollowsFull (Contains now) page
  follows above =
      let (before, held, is) = o.found (past - 1) (omega (arith, index_is)) in
      let before_level : before.label.level ≡ level = ap (λ (l : Label). l.level) is in
      let before_lead : before.label.lead ≡ lead = ap (λ (l : Label). l.lead) is in
      let before_index : before.label.index ≡ past - 1 = ap (λ (l : Label). l.index) is in
      record {
        before = before;
        there = old before held;
        same_level = before_level ∙ sym level_is;
        same_lead = before_lead ∙ sym lead_is;
        index_is = omega (arith, index_is);
        full = subst (λ (n : ℕ). length before.cells ≡ page_room n) (before_level ∙ sym level_is) (full before held);
        smaller = λ a b in_a in_b. rise a b (o.cells_of before a held in_a) in_b;
      }

  levels_by : (p : Page) → Contains runs p ⊎ (page ≡ p) → AreRunOf d p.label.level p.label.lead p.label.index p.cells
  levels_by p (inl held) = o.are_runs.levels p held
  levels_by p (inr same) = subst (λ (q : Page). AreRunOf d q.label.level q.label.lead q.label.index q.cells) same run

  numbered_by : (p : Page) → 0 < p.label.index → Contains runs p ⊎ (page ≡ p) → FollowsFull (Contains now) p
  numbered_by p above (inl held) = follows_more (Contains runs) (Contains now) old p (o.are_runs.numbered p held above)
  numbered_by p above (inr same) =
      subst (λ (q : Page). 0 < q.label.index → FollowsFull (Contains now) q) same follows above

  there_by : (p : Page) → Contains runs p ⊎ (page ≡ p) → There p
  there_by p (inl held) = o.there p held
  there_by p (inr same) = subst There same there

  level_by : (p : Page) → Contains runs p ⊎ (page ≡ p) → p.label.level ≡ level
  level_by p (inl held) = o.levels p held
  level_by p (inr same) = subst (λ (q : Page). q.label.level ≡ level) same level_is

  lead_by : (p : Page) → Contains runs p ⊎ (page ≡ p) → p.label.lead ≡ lead
  lead_by p (inl held) = o.leads p held
  lead_by p (inr same) = subst (λ (q : Page). q.label.lead ≡ lead) same lead_is

  below_by : (p : Page) → Contains runs p ⊎ (page ≡ p) → p.label.index < past + 1
  below_by p (inl held) = let below = o.below p held in omega arith
  below_by p (inr same) = subst (λ (q : Page). q.label.index < past + 1) same (omega (arith, index_is))

  found_by : (index : ℕ) → (index ≡ past) ⊎ (index < past)
      → (p : Page) × Contains now p × (p.label ≡ label_of level lead index)
  found_by index (inl is) = (page, new, named ∙ ap (label_of level lead) (sym is))
  found_by index (inr below) = let (p, held, is) = o.found index below in (p, old p held, is)

  of_by : (p : Page) (cell : Cell) → Contains p.cells cell → Contains runs p ⊎ (page ≡ p)
      → Contains (cells ++ page.cells) cell
  of_by p cell in_page (inl held) = Contains-append_left cells page.cells cell (o.cells_of p cell held in_page)
  of_by p cell in_page (inr same) = Contains-append_right cells page.cells cell
      (subst (λ (q : Page). Contains q.cells cell) (sym same) in_page)

  from_by : (cell : Cell) → Contains cells cell ⊎ Contains page.cells cell
      → (p : Page) × Contains now p × Contains p.cells cell
  from_by cell (inl held) = let (p, in_runs, in_page) = o.cells_from cell held in (p, old p in_runs, in_page)
  from_by cell (inr held) = (page, new, held)

  last_by : (p : Page) (cell other : Cell) → p.label.index + 1 ≡ past + 1 → Contains p.cells other
      → Contains runs p ⊎ (page ≡ p) → Contains cells cell ⊎ Contains page.cells cell
      → Contains p.cells cell ⊎ (cell_order cell other ≡ Less)
  last_by p cell other is in_page (inl held) place = let below = o.below p held in absurd (omega arith)
  last_by p cell other is in_page (inr same) (inl in_cells) =
      inr (rise cell other in_cells (subst (λ (q : Page). Contains q.cells other) (sym same) in_page))
  last_by p cell other is in_page (inr same) (inr in_last) =
      inl (subst (λ (q : Page). Contains q.cells cell) same in_last)

  pub opened_more : Opened d There level lead (past + 1) (runs ++ page ∷ []) (cells ++ page.cells)
  opened_more = record {
    there = λ p held. there_by p (old_or_new p held);
    distinct = distinct_both runs (page ∷ []) o.distinct ((λ q held same. none_in q held), tt)
        (λ p q in_runs in_new same. apart p q in_runs (only_one page q in_new) same);
    are_runs = record {
      levels = λ p held. levels_by p (old_or_new p held);
      numbered = λ p held above. numbered_by p above (old_or_new p held);
    };
    levels = λ p held. level_by p (old_or_new p held);
    leads = λ p held. lead_by p (old_or_new p held);
    below = λ p held. below_by p (old_or_new p held);
    found = λ index below. found_by index (below_or_last index past below);
    cells_of = λ p cell held in_page. of_by p cell in_page (old_or_new p held);
    cells_from = λ cell held. from_by cell (Contains-append_cases cells page.cells cell held);
    last = λ p cell other held is in_cells in_page. last_by p cell other is in_page (old_or_new p held)
        (Contains-append_cases cells page.cells cell in_cells);
  }
    where
      apart : (p q : Page) → Contains runs p → page ≡ q → q.label ≡ p.label → ⊥
      apart p q held is same =
          let below = o.below p held in
          let q_index : q.label.index ≡ past = subst (λ (r : Page). r.label.index ≡ past) is index_is in
          let p_index : q.label.index ≡ p.label.index = ap (λ (l : Label). l.index) same in
          omega arith
