-- A group that was met with all below it: its runs, and what was met below their cells.
use Rattle.std.proofs.Common.{◌≡◌, ℕ, ◌+◌, ◌<◌, ◌⊎◌, inl, inr, List, ◌++◌, length, refl, sym, ap, subst, ◌∙◌, arith}
use Rattle.std.specs.Prelude.{None}
use Rattle.std.specs.List.{Contains}
use Rattle.std.proofs.lemmas.List.Elements.{Contains-append_left, Contains-append_right, Contains-append_cases}
use Rattle.store_model.specs.Labels.{Lead, Label}
use Rattle.store_model.specs.Labels.Lead.{Start, Leader}
use Rattle.store_model.specs.Draws.{Draw}
use Rattle.store_model.specs.Pages.{Cell, Page, page_room}
use Rattle.layout_conditions.specs.Pages.{KeysRise, LeadsBefore, AreRunOf, LeadsGroup, HasCell, HasKey, FollowsFull}
use Rattle.layout_conditions.specs.Pages.{IsLed}
use Rattle.skip_groups.specs.Groups.{label_of}
use Rattle.table_walk.specs.Streams.{HasKeyIn}
use Rattle.table_walk.specs.Walked.{IsLeadIn, IsLedBy, IsNextRun, Walked, Opened}
use Rattle.table_walk.specs.Walks.{leader_cells}
use Rattle.table_walk.proofs.KeyOrder.{in_more, in_one}
use Rattle.table_walk.proofs.MetPages.{follows_more, leads_more, cell_more, led_more, distinct_both}
use Rattle.table_walk.proofs.MetGroups.{label_is, not_before_itself, first_cell, in_leader_cells}

module _ (d : Draw) (There : Page → Type 0) (level : ℕ) (lead : Lead) (past : ℕ) (runs : List Page) (cells : List Cell)
    (ps : List Page) (cs : List Cell)
    (once : (p q : Page) → There p → There q → p.label ≡ q.label → p ≡ q)
    (o : Opened d There level lead past runs cells) (w : Walked d There level cells ps cs)
    (some : (key : List ℕ) → lead ≡ Leader key → 0 < past)
    (ended : (p q : Page) → Contains runs p → There q → IsNextRun p q → length p.cells ≡ page_room p.label.level
    → q.label.index < past) where
  abbrev all : List Page
  all = runs ++ ps

  own : (p : Page) → Contains runs p → Contains all p
  own = Contains-append_left runs ps

  under : (p : Page) → Contains ps p → Contains all p
  under = Contains-append_right runs ps

  side : (p : Page) → Contains all p → Contains runs p ⊎ Contains ps p
  side = Contains-append_cases runs ps

  -- the leader's key is that of the first cell
  leader_in : (key : List ℕ) → lead ≡ Leader key → HasKeyIn cells key
  leader_in key is =
      let (page, held, named) = o.found 0 (some key is) in
      let run = subst (λ (l : Label). AreRunOf d l.level l.lead l.index page.cells) named (o.are_runs.levels page held)
      in
      in_more page.cells cells key (λ cell in_page. o.cells_of page cell held in_page)
      (first_cell d level key page.cells (subst (λ (f : Lead). AreRunOf d level f 0 page.cells) is run))

  leader_in_stream : (key : List ℕ) → lead ≡ Leader key → HasKeyIn cs key
  leader_in_stream key is = let has = leader_in key is in subst (HasKeyIn cs) has.key_is (w.own_keys has.cell has.is_in)

  cell_on_level : (cell : Cell) → Contains cells cell → HasCell (Contains all) level cell
  cell_on_level cell held = let (page, in_runs, in_page) = o.cells_from cell held in record {
    page = page;
    there = own page in_runs;
    on_level = o.levels page in_runs;
    in_page = in_page;
  }

  there_by : (p : Page) → Contains runs p ⊎ Contains ps p → There p
  there_by p (inl held) = o.there p held
  there_by p (inr held) = w.there p held

  lower_by : (p : Page) → Contains runs p ⊎ Contains ps p → p.label.level < level + 1
  lower_by p (inl held) = let is = o.levels p held in omega arith
  lower_by p (inr held) = let below = w.lower p held in omega arith

  levels_by : (p : Page) → Contains runs p ⊎ Contains ps p → AreRunOf d p.label.level p.label.lead p.label.index p.cells
  levels_by p (inl held) = o.are_runs.levels p held
  levels_by p (inr held) = w.runs.levels p held

  numbered_by : (p : Page) → 0 < p.label.index → Contains runs p ⊎ Contains ps p → FollowsFull (Contains all) p
  numbered_by p above (inl held) = follows_more (Contains runs) (Contains all) own p (o.are_runs.numbered p held above)
  numbered_by p above (inr held) = follows_more (Contains ps) (Contains all) under p (w.runs.numbered p held above)

  leads_by : (low : ℕ) (key : List ℕ) (has : HasKey (Contains all) (low + 1) key)
      → Contains runs has.has.page ⊎ Contains ps has.has.page → LeadsGroup (Contains all) low key
  leads_by low key has (inl held) =
      let is : level ≡ low + 1 = sym (o.levels has.has.page held) ∙ has.has.on_level in
      subst (LeadsGroup (Contains all) low) has.key_is
      (leads_more (Contains ps) (Contains all) under low
      has.cell.key (w.leads low has.cell is (o.cells_of has.has.page has.cell held has.has.in_page)))
  leads_by low key has (inr held) =
      leads_more (Contains ps) (Contains all) under low key
      (w.groups.leads low key (record {
        cell = has.cell;
        key_is = has.key_is;
        has = record { page = has.has.page; there = held; on_level = has.has.on_level; in_page = has.has.in_page };
      }))

  rise_by : (p q : Page) → p.label.level ≡ q.label.level → LeadsBefore p.label.lead q.label.lead
      → Contains runs p ⊎ Contains ps p → Contains runs q ⊎ Contains ps q → KeysRise p.cells q.cells
  rise_by p q same before (inl in_p) (inl in_q) =
      absurd (not_before_itself lead
      (subst (λ (f : Lead). LeadsBefore f lead) (o.leads p in_p)
      (subst (LeadsBefore p.label.lead) (o.leads q in_q) before)))
  rise_by p q same before (inl in_p) (inr in_q) = let is = o.levels p in_p in let below = w.lower q in_q
      in absurd (omega arith)
  rise_by p q same before (inr in_p) (inl in_q) = let is = o.levels q in_q in let below = w.lower p in_p
      in absurd (omega arith)
  rise_by p q same before (inr in_p) (inr in_q) = w.groups.rise p q in_p in_q same before

  own_led : (p : Page) → Contains runs p → (f : Lead) → lead ≡ f → IsLed (Contains all) p.label.level p.label.lead
      ⊎ IsLedBy (level + 1) (leader_cells lead) p
  own_led p held Start is = inl (subst (IsLed (Contains all) p.label.level) (sym (o.leads p held ∙ is)) tt)
  own_led p held (Leader key) is = inr (record {
    next = ap (λ (n : ℕ). n + 1) (o.levels p held);
    key = key;
    lead_is = o.leads p held ∙ is;
    has = subst (λ (l : Lead). HasKeyIn (leader_cells l) key) (sym is) (in_one (record { key = key; value = None }));
  })

  under_led : (p : Page) → IsLed (Contains ps) p.label.level p.label.lead ⊎ IsLedBy level cells p
      → IsLed (Contains all) p.label.level p.label.lead ⊎ IsLedBy (level + 1) (leader_cells lead) p
  under_led p (inl led) = inl (led_more (Contains ps) (Contains all) under p.label.level p.label.lead led)
  under_led p (inr by) =
      let has : HasKey (Contains all) (p.label.level + 1) by.key = record {
        cell = by.has.cell;
        key_is = by.has.key_is;
        has = subst (λ (n : ℕ). HasCell (Contains all) n by.has.cell) (sym by.next)
            (cell_on_level by.has.cell by.has.is_in);
      } in
      inl (subst (IsLed (Contains all) p.label.level) (sym by.lead_is) has)

  led_by : (p : Page) → Contains runs p ⊎ Contains ps p → IsLed (Contains all) p.label.level p.label.lead
      ⊎ IsLedBy (level + 1) (leader_cells lead) p
  led_by p (inl held) = own_led p held lead refl
  led_by p (inr held) = under_led p (w.led p held)

  leads_own : (low : ℕ) (cell : Cell) → level + 1 ≡ low + 1 → Contains (leader_cells lead) cell
      → LeadsGroup (Contains all) low cell.key
  leads_own low cell is held =
      let lead_is = in_leader_cells lead cell held in
      let (page, in_runs, named) = o.found 0 (some cell.key lead_is) in
      let level_is : level ≡ low = omega (arith, is) in
      record { page = page; there = own page in_runs; label_is = named ∙ (λ i. label_of (level_is i) (lead_is i) 0) }

  whole_by : (p q : Page) → There q → IsNextRun p q → length p.cells ≡ page_room p.label.level
      → Contains runs p ⊎ Contains ps p → Contains all q
  whole_by p q there next full (inl held) =
      let (r, in_runs, named) = o.found q.label.index (ended p q held there next full) in
      let q_named = label_is q.label level lead q.label.index (next.level_is ∙ o.levels p held)
      (next.lead_is ∙ o.leads p held) refl in
      subst (Contains all) (once r q (o.there r in_runs) there (named ∙ sym q_named)) (own r in_runs)
  whole_by p q there next full (inr held) = under q (w.whole p q held there next full)

  own_lead_keys : (p : Page) → Contains runs p → (f : Lead) → lead ≡ f → IsLeadIn cs p.label.lead
  own_lead_keys p held Start is = subst (IsLeadIn cs) (sym (o.leads p held ∙ is)) tt
  own_lead_keys p held (Leader key) is = subst (IsLeadIn cs) (sym (o.leads p held ∙ is)) (leader_in_stream key is)

  lead_keys_by : (p : Page) → Contains runs p ⊎ Contains ps p → IsLeadIn cs p.label.lead
  lead_keys_by p (inl held) = own_lead_keys p held lead refl
  lead_keys_by p (inr held) = w.lead_keys p held

  page_keys_by : (p : Page) (cell : Cell) → Contains p.cells cell
      → Contains runs p ⊎ Contains ps p → HasKeyIn cs cell.key
  page_keys_by p cell in_page (inl held) = w.own_keys cell (o.cells_of p cell held in_page)
  page_keys_by p cell in_page (inr held) = w.page_keys p cell held in_page

  from_by : (cell : Cell) → HasCell (Contains ps) 0 cell ⊎ ((level ≡ 0) × Contains cells cell)
      → HasCell (Contains all) 0 cell ⊎ ((level + 1 ≡ 0) × Contains (leader_cells lead) cell)
  from_by cell (inl has) = inl (cell_more (Contains ps) (Contains all) under 0 cell has)
  from_by cell (inr held) = inl (subst (λ (n : ℕ). HasCell (Contains all) n cell) held.0 (cell_on_level cell held.1))

  cells_by : (cell : Cell) (has : HasCell (Contains all) 0 cell)
      → Contains runs has.page ⊎ Contains ps has.page → Contains cs cell
  cells_by cell has (inl held) = w.own_cells cell (sym (o.levels has.page held) ∙ has.on_level)
      (o.cells_of has.page cell held has.in_page)
  cells_by cell has (inr held) = w.cells_of cell (record {
    page = has.page;
    there = held;
    on_level = has.on_level;
    in_page = has.in_page;
  })

  pub met_group : Walked d There (level + 1) (leader_cells lead) (runs ++ ps) cs
  met_group = record {
    there = λ p held. there_by p (side p held);
    distinct = distinct_both runs ps o.distinct w.distinct apart;
    lower = λ p held. lower_by p (side p held);
    runs = record {
      levels = λ p held. levels_by p (side p held);
      numbered = λ p held above. numbered_by p above (side p held);
    };
    groups = record {
      leads = λ low key has. leads_by low key has (side has.has.page has.has.there);
      rise = λ p q in_p in_q same before. rise_by p q same before (side p in_p) (side q in_q);
    };
    led = λ p held. led_by p (side p held);
    leads = leads_own;
    whole = λ p q held there next full. whole_by p q there next full (side p held);
    lead_keys = λ p held. lead_keys_by p (side p held);
    page_keys = λ p cell held in_page. page_keys_by p cell in_page (side p held);
    own_keys = λ cell held. leader_in_stream cell.key (in_leader_cells lead cell held);
    cells_from = λ cell held. from_by cell (w.cells_from cell held);
    cells_of = λ cell has. cells_by cell has (side has.page has.there);
    own_cells = λ cell is held. absurd (omega (arith, is));
    rising = w.rising;
  }
    where
      apart : (p q : Page) → Contains runs p → Contains ps q → q.label ≡ p.label → ⊥
      apart p q in_runs in_ps same =
          let is = o.levels p in_runs in
          let below = w.lower q in_ps in
          let level_is : q.label.level ≡ p.label.level = ap (λ (l : Label). l.level) same in
          omega arith
