-- Pages that were met, put behind others.
use Rattle.std.proofs.Common.{◌≡◌, ℕ, ◌+◌, ◌<◌, ◌⊎◌, inl, inr, List, [], ◌∷◌, ◌++◌, length, refl, sym, ap, subst, ◌∙◌}
use Rattle.std.proofs.Common.{arith}
use Rattle.std.specs.List.{Contains}
use Rattle.std.proofs.lemmas.List.Elements.{Contains-append_left, Contains-append_right, Contains-append_cases}
use Rattle.store_model.specs.Labels.{Lead, Label}
use Rattle.store_model.specs.Labels.Lead.{Start, Leader}
use Rattle.store_model.specs.Draws.{Draw}
use Rattle.store_model.specs.Pages.{Cell, Page, page_room}
use Rattle.store_model.proofs.ListsLemmas.{rising_nil}
use Rattle.store_model.proofs.ListsLemmasOrder.{held_first, held_later}
use Rattle.layout_conditions.specs.Pages.{KeysRise, LeadsBefore, AreRunOf, LeadsGroup, HasCell, HasKey, FollowsFull}
use Rattle.layout_conditions.specs.Pages.{IsLed}
use Rattle.table_walk.specs.Streams.{HasKeyIn, cell_order}
use Rattle.table_walk.specs.Walked.{AreDistinct, IsLeadIn, IsLedBy, IsNextRun, Walked}
use Rattle.table_walk.proofs.KeyOrder.{none_in, not_both, not_below_itself, in_more, in_left, in_right, lead_more}
use Rattle.table_walk.proofs.KeyOrder.{keys_below, rising_both}

-- ---- more pages

module _ (There More : Page → Type 0) (more : (page : Page) → There page → More page) where
  pub follows_more : (page : Page) → FollowsFull There page → FollowsFull More page
  follows_more page follows = record {
    before = follows.before;
    there = more follows.before follows.there;
    same_level = follows.same_level;
    same_lead = follows.same_lead;
    index_is = follows.index_is;
    full = follows.full;
    smaller = follows.smaller;
  }

  pub leads_more : (level : ℕ) (key : List ℕ) → LeadsGroup There level key → LeadsGroup More level key
  leads_more level key leads = record {
    page = leads.page;
    there = more leads.page leads.there;
    label_is = leads.label_is;
  }

  pub cell_more : (level : ℕ) (cell : Cell) → HasCell There level cell → HasCell More level cell
  cell_more level cell has = record {
    page = has.page;
    there = more has.page has.there;
    on_level = has.on_level;
    in_page = has.in_page;
  }

  pub key_more : (level : ℕ) (key : List ℕ) → HasKey There level key → HasKey More level key
  key_more level key has = record { cell = has.cell; key_is = has.key_is; has = cell_more level has.cell has.has }

  pub led_more : (level : ℕ) (lead : Lead) → IsLed There level lead → IsLed More level lead
  led_more level Start led = tt
  led_more level (Leader key) led = key_more (level + 1) key led

pub by_more : (level : ℕ) (own more : List Cell) (page : Page) → ((c : Cell) → Contains own c → Contains more c)
    → IsLedBy level own page → IsLedBy level more page
by_more level own more page all by = record {
  next = by.next;
  key = by.key;
  lead_is = by.lead_is;
  has = in_more own more by.key all by.has;
}

-- ---- distinct pages

pub distinct_both : (first second : List Page) → AreDistinct first → AreDistinct second
    → ((p q : Page) → Contains first p → Contains second q → q.label ≡ p.label → ⊥) → AreDistinct (first ++ second)
distinct_both [] second d1 d2 apart = d2
distinct_both (p ∷ ps) second d1 d2 apart = (
  λ q held same. by_place q same (Contains-append_cases ps second q held),
  distinct_both ps second d1.1 d2 (λ a b in1 in2 same. apart a b (held_later p ps a in1) in2 same),
)
  where
    by_place : (q : Page) → q.label ≡ p.label → Contains ps q ⊎ Contains second q → ⊥
    by_place q same (inl held) = d1.0 q held same
    by_place q same (inr held) = apart p q (held_first p ps) held same

-- ---- nothing met

pub met_none : (d : Draw) (There : Page → Type 0) (level : ℕ) → Walked d There level [] [] []
met_none d There level = record {
  there = λ page held. absurd (none_in page held);
  distinct = tt;
  lower = λ page held. absurd (none_in page held);
  runs = record {
    levels = λ page held. absurd (none_in page held);
    numbered = λ page held above. absurd (none_in page held);
  };
  groups = record {
    leads = λ low key has. absurd (none_in has.has.page has.has.there);
    rise = λ a b held. absurd (none_in a held);
  };
  led = λ page held. absurd (none_in page held);
  leads = λ low cell is held. absurd (none_in cell held);
  whole = λ page next held. absurd (none_in page held);
  lead_keys = λ page held. absurd (none_in page held);
  page_keys = λ page cell held. absurd (none_in page held);
  own_keys = λ cell held. absurd (none_in cell held);
  cells_from = λ cell held. absurd (none_in cell held);
  cells_of = λ cell has. absurd (none_in has.page has.there);
  own_cells = λ cell is held. absurd (none_in cell held);
  rising = rising_nil cell_order;
}

-- ---- a stretch behind another

module _ (d : Draw) (There : Page → Type 0) (level : ℕ) (own1 own2 : List Cell)
    (ps1 ps2 : List Page) (cs1 cs2 : List Cell)
    (a : Walked d There level own1 ps1 cs1) (b : Walked d There level own2 ps2 cs2) (rise : KeysRise cs1 cs2)
    (starts : (p q : Page) → Contains ps2 p → p.label.lead ≡ Start → Contains ps1 q
    → q.label.level < p.label.level) where
  left : (p : Page) → Contains ps1 p → Contains (ps1 ++ ps2) p
  left = Contains-append_left ps1 ps2

  right : (p : Page) → Contains ps2 p → Contains (ps1 ++ ps2) p
  right = Contains-append_right ps1 ps2

  side : (p : Page) → Contains (ps1 ++ ps2) p → Contains ps1 p ⊎ Contains ps2 p
  side = Contains-append_cases ps1 ps2

  -- a page of the second pages and one of the first have no label in common
  apart : (p q : Page) → Contains ps1 p → Contains ps2 q → q.label ≡ p.label → ⊥
  apart p q in1 in2 same = by_lead q.label.lead refl
    where
      by_lead : (lead : Lead) → q.label.lead ≡ lead → ⊥
      by_lead Start is = let lower = starts q p in2 is in1 in let level_is : q.label.level ≡ p.label.level =
          ap (λ (l : Label). l.level) same in omega arith
      by_lead (Leader key) is =
          let lead_is : p.label.lead ≡ Leader key = sym (ap (λ (l : Label). l.lead) same) ∙ is in
          not_below_itself key (keys_below cs1 cs2 key key rise (subst (IsLeadIn cs1) lead_is (a.lead_keys p in1))
          (subst (IsLeadIn cs2) is (b.lead_keys q in2)))

  -- keys of the first pages are below those of the second
  across : (p q : Page) → Contains ps1 p → Contains ps2 q → KeysRise p.cells q.cells
  across p q in1 in2 x y in_p in_q = keys_below cs1 cs2 x.key y.key rise (a.page_keys p x in1 in_p)
      (b.page_keys q y in2 in_q)

  -- no group of the second pages comes before one of the first
  not_back : (p q : Page) → Contains ps2 p → Contains ps1 q → p.label.level ≡ q.label.level
      → LeadsBefore p.label.lead q.label.lead → ⊥
  not_back p q in2 in1 same before = by_leads p.label.lead q.label.lead refl refl before
    where
      by_leads : (f g : Lead) → p.label.lead ≡ f → q.label.lead ≡ g → LeadsBefore f g → ⊥
      by_leads Start Start is_f is_g before = before
      by_leads Start (Leader k) is_f is_g before = let lower = starts p q in2 is_f in1 in omega arith
      by_leads (Leader k) Start is_f is_g before = before
      by_leads (Leader k) (Leader l) is_f is_g before =
          not_both k l before (keys_below cs1 cs2 l k rise (subst (IsLeadIn cs1) is_g (a.lead_keys q in1))
          (subst (IsLeadIn cs2) is_f (b.lead_keys p in2)))

  numbered_by : (p : Page) → 0 < p.label.index → Contains ps1 p ⊎ Contains ps2 p → FollowsFull (Contains (ps1 ++ ps2)) p
  numbered_by p above (inl held) = follows_more (Contains ps1) (Contains (ps1 ++ ps2)) left p
      (a.runs.numbered p held above)
  numbered_by p above (inr held) = follows_more (Contains ps2) (Contains (ps1 ++ ps2)) right p
      (b.runs.numbered p held above)

  levels_by : (p : Page) → Contains ps1 p ⊎ Contains ps2 p → AreRunOf d p.label.level p.label.lead p.label.index p.cells
  levels_by p (inl held) = a.runs.levels p held
  levels_by p (inr held) = b.runs.levels p held

  rise_by : (p q : Page) → p.label.level ≡ q.label.level → LeadsBefore p.label.lead q.label.lead
      → Contains ps1 p ⊎ Contains ps2 p → Contains ps1 q ⊎ Contains ps2 q → KeysRise p.cells q.cells
  rise_by p q same before (inl in_p) (inl in_q) = a.groups.rise p q in_p in_q same before
  rise_by p q same before (inl in_p) (inr in_q) = across p q in_p in_q
  rise_by p q same before (inr in_p) (inl in_q) = absurd (not_back p q in_p in_q same before)
  rise_by p q same before (inr in_p) (inr in_q) = b.groups.rise p q in_p in_q same before

  leads_by : (low : ℕ) (key : List ℕ) (has : HasKey (Contains (ps1 ++ ps2)) (low + 1) key)
      → Contains ps1 has.has.page ⊎ Contains ps2 has.has.page → LeadsGroup (Contains (ps1 ++ ps2)) low key
  leads_by low key has (inl held) =
      leads_more (Contains ps1) (Contains (ps1 ++ ps2)) left low key
      (a.groups.leads low key (record {
        cell = has.cell;
        key_is = has.key_is;
        has = record { page = has.has.page; there = held; on_level = has.has.on_level; in_page = has.has.in_page };
      }))
  leads_by low key has (inr held) =
      leads_more (Contains ps2) (Contains (ps1 ++ ps2)) right low key
      (b.groups.leads low key (record {
        cell = has.cell;
        key_is = has.key_is;
        has = record { page = has.has.page; there = held; on_level = has.has.on_level; in_page = has.has.in_page };
      }))

  led_by1 : (p : Page) → IsLed (Contains ps1) p.label.level p.label.lead ⊎ IsLedBy level own1 p
      → IsLed (Contains (ps1 ++ ps2)) p.label.level p.label.lead ⊎ IsLedBy level (own1 ++ own2) p
  led_by1 p (inl led) = inl (led_more (Contains ps1) (Contains (ps1 ++ ps2)) left p.label.level p.label.lead led)
  led_by1 p (inr by) = inr (by_more level own1 (own1 ++ own2) p (Contains-append_left own1 own2) by)

  led_by2 : (p : Page) → IsLed (Contains ps2) p.label.level p.label.lead ⊎ IsLedBy level own2 p
      → IsLed (Contains (ps1 ++ ps2)) p.label.level p.label.lead ⊎ IsLedBy level (own1 ++ own2) p
  led_by2 p (inl led) = inl (led_more (Contains ps2) (Contains (ps1 ++ ps2)) right p.label.level p.label.lead led)
  led_by2 p (inr by) = inr (by_more level own2 (own1 ++ own2) p (Contains-append_right own1 own2) by)

  led_by : (p : Page) → Contains ps1 p ⊎ Contains ps2 p → IsLed (Contains (ps1 ++ ps2)) p.label.level p.label.lead
      ⊎ IsLedBy level (own1 ++ own2) p
  led_by p (inl held) = led_by1 p (a.led p held)
  led_by p (inr held) = led_by2 p (b.led p held)

  lower_by : (p : Page) → Contains ps1 p ⊎ Contains ps2 p → p.label.level < level
  lower_by p (inl held) = a.lower p held
  lower_by p (inr held) = b.lower p held

  there_by : (p : Page) → Contains ps1 p ⊎ Contains ps2 p → There p
  there_by p (inl held) = a.there p held
  there_by p (inr held) = b.there p held

  own_leads_by : (low : ℕ) (cell : Cell) → level ≡ low + 1 → Contains own1 cell ⊎ Contains own2 cell
      → LeadsGroup (Contains (ps1 ++ ps2)) low cell.key
  own_leads_by low cell is (inl held) =
      leads_more (Contains ps1) (Contains (ps1 ++ ps2)) left low cell.key (a.leads low cell is held)
  own_leads_by low cell is (inr held) =
      leads_more (Contains ps2) (Contains (ps1 ++ ps2)) right low cell.key (b.leads low cell is held)

  whole_by : (p q : Page) → There q → IsNextRun p q → length p.cells ≡ page_room p.label.level
      → Contains ps1 p ⊎ Contains ps2 p → Contains (ps1 ++ ps2) q
  whole_by p q there next full (inl held) = left q (a.whole p q held there next full)
  whole_by p q there next full (inr held) = right q (b.whole p q held there next full)

  lead_keys_by : (p : Page) → Contains ps1 p ⊎ Contains ps2 p → IsLeadIn (cs1 ++ cs2) p.label.lead
  lead_keys_by p (inl held) = lead_more cs1 (cs1 ++ cs2) p.label.lead (in_left cs1 cs2) (a.lead_keys p held)
  lead_keys_by p (inr held) = lead_more cs2 (cs1 ++ cs2) p.label.lead (in_right cs1 cs2) (b.lead_keys p held)

  page_keys_by : (p : Page) (cell : Cell) → Contains p.cells cell → Contains ps1 p ⊎ Contains ps2 p
      → HasKeyIn (cs1 ++ cs2) cell.key
  page_keys_by p cell in_page (inl held) = in_left cs1 cs2 cell.key (a.page_keys p cell held in_page)
  page_keys_by p cell in_page (inr held) = in_right cs1 cs2 cell.key (b.page_keys p cell held in_page)

  own_keys_by : (cell : Cell) → Contains own1 cell ⊎ Contains own2 cell → HasKeyIn (cs1 ++ cs2) cell.key
  own_keys_by cell (inl held) = in_left cs1 cs2 cell.key (a.own_keys cell held)
  own_keys_by cell (inr held) = in_right cs1 cs2 cell.key (b.own_keys cell held)

  from1 : (cell : Cell) → HasCell (Contains ps1) 0 cell ⊎ ((level ≡ 0) × Contains own1 cell)
      → HasCell (Contains (ps1 ++ ps2)) 0 cell ⊎ ((level ≡ 0) × Contains (own1 ++ own2) cell)
  from1 cell (inl has) = inl (cell_more (Contains ps1) (Contains (ps1 ++ ps2)) left 0 cell has)
  from1 cell (inr own) = inr (own.0, Contains-append_left own1 own2 cell own.1)

  from2 : (cell : Cell) → HasCell (Contains ps2) 0 cell ⊎ ((level ≡ 0) × Contains own2 cell)
      → HasCell (Contains (ps1 ++ ps2)) 0 cell ⊎ ((level ≡ 0) × Contains (own1 ++ own2) cell)
  from2 cell (inl has) = inl (cell_more (Contains ps2) (Contains (ps1 ++ ps2)) right 0 cell has)
  from2 cell (inr own) = inr (own.0, Contains-append_right own1 own2 cell own.1)

  from_by : (cell : Cell) → Contains cs1 cell ⊎ Contains cs2 cell → HasCell (Contains (ps1 ++ ps2)) 0 cell
      ⊎ ((level ≡ 0) × Contains (own1 ++ own2) cell)
  from_by cell (inl held) = from1 cell (a.cells_from cell held)
  from_by cell (inr held) = from2 cell (b.cells_from cell held)

  cells_by : (cell : Cell) (has : HasCell (Contains (ps1 ++ ps2)) 0 cell)
      → Contains ps1 has.page ⊎ Contains ps2 has.page → Contains (cs1 ++ cs2) cell
  cells_by cell has (inl held) = Contains-append_left cs1 cs2 cell
      (a.cells_of cell (record { page = has.page; there = held; on_level = has.on_level; in_page = has.in_page }))
  cells_by cell has (inr held) = Contains-append_right cs1 cs2 cell
      (b.cells_of cell (record { page = has.page; there = held; on_level = has.on_level; in_page = has.in_page }))

  own_cells_by : (cell : Cell) → level ≡ 0 → Contains own1 cell ⊎ Contains own2 cell → Contains (cs1 ++ cs2) cell
  own_cells_by cell is (inl held) = Contains-append_left cs1 cs2 cell (a.own_cells cell is held)
  own_cells_by cell is (inr held) = Contains-append_right cs1 cs2 cell (b.own_cells cell is held)

  pub met_both : Walked d There level (own1 ++ own2) (ps1 ++ ps2) (cs1 ++ cs2)
  met_both = record {
    there = λ p held. there_by p (side p held);
    distinct = distinct_both ps1 ps2 a.distinct b.distinct apart;
    lower = λ p held. lower_by p (side p held);
    runs = record {
      levels = λ p held. levels_by p (side p held);
      numbered = λ p held above. numbered_by p above (side p held);
    };
    groups = record {
      leads = λ low key has. leads_by low key has (side has.has.page has.has.there);
      rise = λ p q in_p in_q same before. rise_by p q same before (side p in_p) (side q in_q);
    };
    led = λ p held. led_by p (side p held);
    leads = λ low cell is held. own_leads_by low cell is (Contains-append_cases own1 own2 cell held);
    whole = λ p q held there next full. whole_by p q there next full (side p held);
    lead_keys = λ p held. lead_keys_by p (side p held);
    page_keys = λ p cell held in_page. page_keys_by p cell in_page (side p held);
    own_keys = λ cell held. own_keys_by cell (Contains-append_cases own1 own2 cell held);
    cells_from = λ cell held. from_by cell (Contains-append_cases cs1 cs2 cell held);
    cells_of = λ cell has. cells_by cell has (side has.page has.there);
    own_cells = λ cell is held. own_cells_by cell is (Contains-append_cases own1 own2 cell held);
    rising = rising_both cs1 cs2 a.rising b.rising rise;
  }
