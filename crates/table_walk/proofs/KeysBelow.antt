-- Where pages meet the conditions, what was met below cells of smaller keys has smaller keys.
use Rattle.std.proofs.Common.{◌≡◌, ℕ, zero, suc, ◌+◌, ◌⊎◌, inl, inr, List, refl, sym, ap, subst, ◌∙◌, arith}
use Rattle.std.specs.List.{Contains}
use Rattle.std.specs.declared.cmp.Ordering.TheVariants.{Less}
use Rattle.store_model.specs.Paths.{key_cmp}
use Rattle.store_model.specs.Labels.{Lead, Label}
use Rattle.store_model.specs.Labels.Lead.{Start, Leader}
use Rattle.store_model.specs.Draws.{Draw}
use Rattle.store_model.specs.Pages.{Cell, Page}
use Rattle.layout_conditions.specs.Pages.{LeadsBefore, AreRunOf, LeadsGroup, HasCell, HasKey, IsLed}
use Rattle.table_walk.specs.Streams.{HasKeyIn}
use Rattle.table_walk.specs.Walked.{IsLedBy, MeetWalk, Walked}
use Rattle.table_walk.proofs.MetGroups.{first_cell}

module _ (d : Draw) (There : Page → Type 0) (meets : MeetWalk d There) where
  -- the group that a key leads begins with it
  led_first : (level : ℕ) (key : List ℕ) (leads : LeadsGroup There level key) → HasKeyIn leads.page.cells key
  led_first level key leads = first_cell d level key
      leads.page.cells (subst (λ (l : Label). AreRunOf d l.level l.lead l.index leads.page.cells)
      leads.label_is (meets.runs.levels leads.page leads.there))

  -- a key stands on each level below one that it stands on
  next_lower : (level : ℕ) (key : List ℕ) → HasKey There (level + 1) key → HasKey There level key
  next_lower level key has =
      let leads = meets.groups.leads level key has in
      let first = led_first level key leads in
      record {
        cell = first.cell;
        key_is = first.key_is;
        has = record {
          page = leads.page;
          there = leads.there;
          on_level = ap (λ (l : Label). l.level) leads.label_is;
          in_page = first.is_in;
        };
      }

  pub lower : (n level top : ℕ) (key : List ℕ) → level + n ≡ top → HasKey There top key → HasKey There level key
  lower zero level top key is has = let same : top ≡ level = omega (arith, is)
      in subst (λ (l : ℕ). HasKey There l key) same has
  lower (suc n) level top key is has = next_lower level key (lower n (level + 1) top key (omega (arith, is)) has)

  -- a page of a group that is led before the key, which stands on the next level
  page_below : (page : Page) (key : List ℕ) → There page → HasKey There (page.label.level + 1) key
      → LeadsBefore page.label.lead (Leader key) → (cell : Cell) → Contains page.cells cell
      → key_cmp cell.key key ≡ Less
  page_below page key there has before cell held =
      let leads = meets.groups.leads page.label.level key has in
      let first = led_first page.label.level key leads in
      let level_is : page.label.level ≡ leads.page.label.level = sym (ap (λ (l : Label). l.level) leads.label_is) in
      let lead_is : leads.page.label.lead ≡ Leader key = ap (λ (l : Label). l.lead) leads.label_is in
      let rise = meets.groups.rise page leads.page there leads.there level_is
      (subst (LeadsBefore page.label.lead) (sym lead_is) before) in
      subst (λ (k : List ℕ). key_cmp cell.key k ≡ Less) first.key_is (rise cell first.cell held first.is_in)

  module _ (level : ℕ) (own : List Cell) (pages : List Page) (stream : List Cell)
      (w : Walked d There level own pages stream)
      (key : List ℕ) (has : HasKey There level key)
      (below : (cell : Cell) → Contains own cell → key_cmp cell.key key ≡ Less) where
    led_before : (page : Page) (lead : Lead) → page.label.lead ≡ lead
        → ((k : List ℕ) → page.label.lead ≡ Leader k → key_cmp k key ≡ Less) → LeadsBefore page.label.lead (Leader key)
    led_before page Start is before = subst (λ (f : Lead). LeadsBefore f (Leader key)) (sym is) tt
    led_before page (Leader k) is before = subst (λ (f : Lead). LeadsBefore f (Leader key)) (sym is) (before k is)

    pages_below : (n : ℕ) (page : Page) → Contains pages page → page.label.level + n ≡ level → (cell : Cell)
        → Contains page.cells cell → key_cmp cell.key key ≡ Less
    pages_below zero page held is = let under = w.lower page held in absurd (omega (arith, is))
    pages_below (suc n) page held is =
        page_below page key (w.there page held) (lower n (page.label.level + 1) level key (omega (arith, is)) has)
        (led_before page page.label.lead refl
        (λ k lead_is. leader_below (pages_below n) k lead_is (w.led page held)))
      where
        leader_below : ((p : Page) → Contains pages p → p.label.level + n ≡ level → (cell : Cell)
            → Contains p.cells cell → key_cmp cell.key key ≡ Less)
            → (k : List ℕ) → page.label.lead ≡ Leader k → IsLed (Contains pages) page.label.level page.label.lead
            ⊎ IsLedBy level own page → key_cmp k key ≡ Less
        leader_below rest k lead_is (inl led) =
            let above = subst (IsLed (Contains pages) page.label.level) lead_is led in
            subst (λ (j : List ℕ). key_cmp j key ≡ Less)
            above.key_is (rest above.has.page above.has.there (omega (arith, is, above.has.on_level))
            above.cell above.has.in_page)
        leader_below rest k lead_is (inr by) =
            let same : by.key ≡ k = ap (elim [ Start ↦ k | Leader j ↦ j ]) (sym by.lead_is ∙ lead_is) in
            subst (λ (j : List ℕ). key_cmp j key ≡ Less) (by.has.key_is ∙ same) (below by.has.cell by.has.is_in)

    cells_below : (cell : Cell) → HasCell (Contains pages) 0 cell ⊎ ((level ≡ 0) × Contains own cell)
        → key_cmp cell.key key ≡ Less
    cells_below cell (inl at) = pages_below level at.page at.there (omega (arith, at.on_level)) cell at.in_page
    cells_below cell (inr at) = below cell at.1

    pub stream_below : (k : List ℕ) → HasKeyIn stream k → key_cmp k key ≡ Less
    stream_below k is_in = subst (λ (j : List ℕ). key_cmp j key ≡ Less)
        is_in.key_is (cells_below is_in.cell (w.cells_from is_in.cell is_in.is_in))
