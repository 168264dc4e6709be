-- What the conditions say of one set of pages: of the runs of a group, and of what leads it.
use Rattle.std.proofs.Common.{◌≡◌, ℕ, zero, suc, ◌+◌, ◌<◌, List, [], ◌∷◌, length, ◌⊎◌, inl, inr, ◌↔◌, Some, None}
use Rattle.std.proofs.Common.{Option, Less, refl, sym, ap, subst, ◌∙◌, arith}
use Rattle.std.specs.Cmp.Lexicographic.{nat_list_cmp_total}
use Rattle.std.specs.List.{Contains}
use Rattle.std.specs.List.Sorted.{IsStrictlySortedBy}
use Rattle.store_model.specs.Paths.{key_cmp}
use Rattle.store_model.specs.Labels.{Lead, Label}
use Rattle.store_model.specs.Labels.Lead.{Start, Leader}
use Rattle.store_model.specs.Draws.{Draw}
use Rattle.store_model.specs.Pairs.{Pair}
use Rattle.store_model.specs.Pages.{Cell, Page, page_room, cell_on, IsCellValue, IsPage}
use Rattle.store_model.proofs.ListsLemmas.{rising_from_map, rising_head}
use Rattle.store_model.proofs.ListsLemmasOrder.{held_cases, held_first, held_all}
use Rattle.store_model.proofs.PagesLemmasOrder.{cell_cmp}
use Rattle.layout_conditions.specs.Pages.{KeysRise, EndsOn, AreLedBy, AreRunOf, LeadsGroup, HasCell, HasKey}
use Rattle.layout_conditions.specs.Pages.{FollowsFull, IsLed}
use Rattle.layout_conditions.specs.Conditions.{AreRuns, AreGroups, AreMet}
use Rattle.layout_conditions.proofs.HeldLemmas.{some_held, not_below_itself}

-- Pages that meet the conditions on runs and groups, one a label, with these pairs on level 0.
pub record AreLayout (d : Draw) (s : List Pair) (There : Page → Type 0) : Type 0 where
  pub pages : (page : Page) → There page → IsPage page
  pub once : (a b : Page) → There a → There b → a.label ≡ b.label → a ≡ b
  pub runs : AreRuns d There
  pub groups : AreGroups There
  pub met : AreMet There
  pub cells : (pair : Pair) → HasCell There 0 (cell_on 0 pair) ↔ Contains s pair

-- ---- labels, keys and cells

-- labels with the same parts
pub same_label : (a b : Label) → a.level ≡ b.level → a.lead ≡ b.lead → a.index ≡ b.index → a ≡ b
same_label a b level lead index =
    ap (λ (n : ℕ). let l : Label = record { level = n; lead = a.lead; index = a.index } in l) level
    ∙ ap (λ (m : Lead). let l : Label = record { level = b.level; lead = m; index = a.index } in l) lead
    ∙ ap (λ (n : ℕ). let l : Label = record { level = b.level; lead = b.lead; index = n } in l) index

-- keys rise from one to the next and on
pub key_trans : (j k l : List ℕ) → key_cmp j k ≡ Less → key_cmp k l ≡ Less → key_cmp j l ≡ Less
key_trans j k l e f = nat_list_cmp_total.trans j k l e f

pub no_key_below_itself : (k : List ℕ) → key_cmp k k ≡ Less → ⊥
no_key_below_itself k e = not_below_itself nat_list_cmp_total k e

-- the cells of a page rise
pub rising_cells : (page : Page) → IsPage page → IsStrictlySortedBy cell_cmp page.cells
rising_cells page is = rising_from_map key_cmp (λ c. c.key) page.cells is.rising

-- a cell of level 0 is that of a pair
pub pair_of_cell : (cell : Cell) → IsCellValue 0 cell.value → (pair : Pair) × (cell_on 0 pair ≡ cell)
pair_of_cell cell is = by_value cell.value refl is
  where
    by_value : (value : Option (List ℕ)) → cell.value ≡ value → IsCellValue 0 value
        → (pair : Pair) × (cell_on 0 pair ≡ cell)
    by_value (Some v) e held =
        ((cell.key, v), ap (λ (x : Option (List ℕ)). let c : Cell = record { key = cell.key; value = x } in c) (sym e))
    by_value None e held = absurd (omega arith)

-- one of a higher level is its key alone
pub value_above : (level : ℕ) (value : Option (List ℕ)) → IsCellValue (suc level) value → value ≡ None
value_above level (Some v) held = absurd (let e = held.0 in omega arith)
value_above level None held = refl

-- ---- runs by their labels

-- a cell of a run whose key stands on a higher level is the leader's
pub ends_or_leads : (d : Draw) (level : ℕ) (lead : Lead) (index : ℕ) (cells : List Cell) (cell : Cell)
    → AreRunOf d level lead index cells → Contains cells cell → level < d.level cell.key
    → (lead ≡ Leader cell.key) × (index ≡ 0)
ends_or_leads d level Start index cells cell run held above =
    absurd (let ends = held_all (EndsOn d level) cells cell run held in omega arith)
ends_or_leads d level (Leader key) (suc index) cells cell run held above =
    absurd (let ends = held_all (EndsOn d level) cells cell run held in omega arith)
ends_or_leads d level (Leader key) zero [] cell run held above = absurd run
ends_or_leads d level (Leader key) zero (first ∷ cells) cell run held above =
    by_place (held_cases first cells cell held)
  where
    by_place : (first ≡ cell) ⊎ Contains cells cell → (Leader key ≡ Leader cell.key) × (zero ≡ 0)
    by_place (inl e) = (ap Leader (sym run.0 ∙ ap (λ (c : Cell). c.key) e), refl)
    by_place (inr later) = absurd (let ends = held_all (EndsOn d level) cells cell run.2 later in omega arith)

-- the first cell of a group that a key leads
pub record IsFirstCell (d : Draw) (level : ℕ) (key : List ℕ) (cells : List Cell) : Type 0 where
  pub cell : Cell
  pub held : Contains cells cell
  pub key_is : cell.key ≡ key
  pub above : level < d.level key
  pub least : (other : Cell) → Contains cells other → (key ≡ other.key) ⊎ (key_cmp key other.key ≡ Less)

pub first_of_led : (d : Draw) (level : ℕ) (key : List ℕ) (cells : List Cell) → AreLedBy d key level cells
    → IsStrictlySortedBy cell_cmp cells → IsFirstCell d level key cells
first_of_led d level key [] led up = absurd led
first_of_led d level key (first ∷ cells) led up = record {
  cell = first;
  held = held_first first cells;
  key_is = led.0;
  above = led.1;
  least = λ other held. by_place other (held_cases first cells other held);
}
  where
    by_place : (other : Cell) → (first ≡ other) ⊎ Contains cells other
        → (key ≡ other.key) ⊎ (key_cmp key other.key ≡ Less)
    by_place other (inl e) = inl (sym led.0 ∙ ap (λ (c : Cell). c.key) e)
    by_place other (inr later) =
        inr (subst (λ k. key_cmp k other.key ≡ Less)
        led.0 (held_all (λ c. cell_cmp first c ≡ Less) cells other (rising_head cell_cmp first cells up) later))

-- ---- pages among others

-- the page with the label is there
pub record IsThere (There : Page → Type 0) (level : ℕ) (lead : Lead) (index : ℕ) : Type 0 where
  pub page : Page
  pub there : There page
  pub level_is : page.label.level ≡ level
  pub lead_is : page.label.lead ≡ lead
  pub index_is : page.label.index ≡ index

-- the same of a level and a lead that are these
abbrev pub relabelled : {There : Page → Type 0} (level level' : ℕ) (lead lead' : Lead) (index : ℕ) → level ≡ level'
    → lead ≡ lead' → IsThere There level lead index → IsThere There level' lead' index
relabelled level level' lead lead' index same_level same_lead run = record {
  page = run.page;
  there = run.there;
  level_is = run.level_is ∙ same_level;
  lead_is = run.lead_is ∙ same_lead;
  index_is = run.index_is;
}

module _ {d : Draw} {s : List Pair} {There : Page → Type 0} (are : AreLayout d s There) where
  -- one page a label
  pub one_run : (a b : Page) → There a → There b → a.label.level ≡ b.label.level → a.label.lead ≡ b.label.lead
      → a.label.index ≡ b.label.index → a ≡ b
  one_run a b here there level lead index = are.once a b here there (same_label a.label b.label level lead index)

  -- keys rise from a run to each that comes later in its group
  pub runs_rise : (gap : ℕ) (a b : Page) → There a → There b → a.label.level ≡ b.label.level
      → a.label.lead ≡ b.label.lead → a.label.index + suc gap ≡ b.label.index → KeysRise a.cells b.cells
  runs_rise zero a b here there level lead index =
      let f = are.runs.numbered b there (omega arith) in
      let f_index = f.index_is in
      let same = one_run f.before a f.there here (f.same_level ∙ sym level) (f.same_lead ∙ sym lead) (omega arith) in
      subst (λ page. KeysRise page.cells b.cells) same f.smaller
  runs_rise (suc gap) a b here there level lead index =
      let f = are.runs.numbered b there (omega arith) in
      let f_index = f.index_is in
      let earlier = runs_rise gap a f.before here f.there (level ∙ sym f.same_level)
      (lead ∙ sym f.same_lead) (omega arith) in
      let between = some_held f.before.cells (are.pages f.before f.there).some_cell in
      λ x y held_x held_y. key_trans x.key between.0.key y.key (earlier x between.0 held_x between.1)
      (f.smaller between.0 y between.1 held_y)

  -- a run of the group that a page stands in, from the run before that page
  of_same_group : (b : Page) (index : ℕ) (f : FollowsFull There b)
      → (run : IsThere There f.before.label.level f.before.label.lead index)
      × (length run.page.cells ≡ page_room f.before.label.level)
      → (run : IsThere There b.label.level b.label.lead index) × (length run.page.cells ≡ page_room b.label.level)
  of_same_group b index f r = (
    relabelled f.before.label.level b.label.level f.before.label.lead b.label.lead index
        f.same_level f.same_lead r.0,
    r.1 ∙ ap page_room f.same_level,
  )

  -- each run before another is there, and full
  pub run_before : (gap : ℕ) (b : Page) (index : ℕ) → There b → index + suc gap ≡ b.label.index
      → (run : IsThere There b.label.level b.label.lead index) × (length run.page.cells ≡ page_room b.label.level)
  run_before zero b index there e =
      let f = are.runs.numbered b there (omega arith) in
      let f_index = f.index_is in (
        record {
          page = f.before;
          there = f.there;
          level_is = f.same_level;
          lead_is = f.same_lead;
          index_is = omega arith;
        },
        f.full,
      )
  run_before (suc gap) b index there e =
      let f = are.runs.numbered b there (omega arith) in
      let f_index = f.index_is in
      of_same_group b index f (run_before gap f.before index f.there (omega arith))

  -- what the first run of a led group begins with
  pub first_of_group : (level : ℕ) (key : List ℕ) (group : LeadsGroup There level key)
      → IsFirstCell d level key group.page.cells
  first_of_group level key group =
      first_of_led d level key group.page.cells
      (subst (λ (l : Label). AreRunOf d l.level l.lead l.index group.page.cells)
      group.label_is (are.runs.levels group.page group.there))
      (rising_cells group.page (are.pages group.page group.there))

  -- so its leader stands on the level
  pub leader_stands : (level : ℕ) (key : List ℕ) → LeadsGroup There level key → HasKey There level key
  leader_stands level key group =
      let first = first_of_group level key group in
      record {
        cell = first.cell;
        key_is = first.key_is;
        has = record {
          page = group.page;
          there = group.there;
          on_level = ap (λ (l : Label). l.level) group.label_is;
          in_page = first.held;
        };
      }

  -- a page that a key leads has the first page of its group
  pub group_of_page : (page : Page) (key : List ℕ) → There page → page.label.lead ≡ Leader key
      → LeadsGroup There page.label.level key
  group_of_page page key there e = are.groups.leads page.label.level key
      (subst (IsLed There page.label.level) e (are.met page there))

  -- the leader is the least key of its group
  pub leader_is_least : (page : Page) (key : List ℕ) (cell : Cell) → There page → page.label.lead ≡ Leader key
      → Contains page.cells cell → (key ≡ cell.key) ⊎ (key_cmp key cell.key ≡ Less)
  leader_is_least page key cell there e held = by_index page.label.index refl
    where
      group : LeadsGroup There page.label.level key
      group = group_of_page page key there e

      first : IsFirstCell d page.label.level key group.page.cells
      first = first_of_group page.label.level key group

      by_index : (index : ℕ) → page.label.index ≡ index → (key ≡ cell.key) ⊎ (key_cmp key cell.key ≡ Less)
      by_index zero i =
          let same = one_run page group.page there group.there (sym (ap (λ (l : Label). l.level) group.label_is))
          (e ∙ sym (ap (λ (l : Label). l.lead) group.label_is))
          (i ∙ sym (ap (λ (l : Label). l.index) group.label_is)) in
          first.least cell (subst (λ (p : Page). Contains p.cells cell) same held)
      by_index (suc index) i =
          let start = ap (λ (l : Label). l.index) group.label_is in
          let rise = runs_rise index group.page page group.there there (ap (λ (l : Label). l.level) group.label_is)
          (ap (λ (l : Label). l.lead) group.label_is ∙ sym e) (omega arith) in
          inr (subst (λ k. key_cmp k cell.key ≡ Less) first.key_is (rise first.cell cell first.held held))

  -- a key that stands on a level and on a higher one leads a group, in whose first page it stands
  pub key_leads : (page : Page) (cell : Cell) → There page → Contains page.cells cell
      → page.label.level < d.level cell.key → (page.label.lead ≡ Leader cell.key) × (page.label.index ≡ 0)
  key_leads page cell there held above =
      ends_or_leads d page.label.level page.label.lead page.label.index page.cells cell
      (are.runs.levels page there) held above

  -- and it stands on the next level
  pub key_stands_above : (page : Page) (cell : Cell) → There page → Contains page.cells cell
      → page.label.level < d.level cell.key → HasKey There (page.label.level + 1) cell.key
  key_stands_above page cell there held above =
      subst (IsLed There page.label.level) (key_leads page cell there held above).0 (are.met page there)
