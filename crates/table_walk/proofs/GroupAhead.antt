-- Where pages meet the conditions, what comes next in a group is above the last key.
use Rattle.std.proofs.Common.{◌≡◌, ℕ, zero, ◌+◌, ◌-◌, ◌<◌, ◌≤◌, ◌⊎◌, inl, inr, List, [], ◌∷◌, Option, Some, None}
use Rattle.std.proofs.Common.{length, refl, sym, ap, subst, ◌∙◌, arith}
use Rattle.std.specs.List.{Contains}
use Rattle.std.specs.declared.cmp.Ordering.TheVariants.{Less}
use Rattle.std.proofs.Math.Nat.{eq-zero-or-pos}
use Rattle.store_model.specs.Paths.{key_cmp}
use Rattle.store_model.specs.Labels.{Lead, Label}
use Rattle.store_model.specs.Labels.Lead.{Start, Leader}
use Rattle.store_model.specs.Pairs.{Pair}
use Rattle.store_model.specs.Draws.{Draw}
use Rattle.store_model.specs.Pages.{Cell, Page}
use Rattle.store_model.specs.PageMaps.{PageMap, HoldsPages}
use Rattle.store_model.proofs.ListsLemmas.{rising_from_map, rising_head}
use Rattle.store_model.proofs.ListsLemmasOrder.{held_cases, held_first, held_all}
use Rattle.std.specs.List.Sorted.{IsStrictlySortedBy}
use Rattle.layout_conditions.specs.Pages.{AreLedBy, AreRunOf, HasKey}
use Rattle.skip_groups.specs.Groups.{label_of}
use Rattle.table_walk.specs.Streams.{cell_order, IsAbove, Progress}
use Rattle.table_walk.specs.Walked.{InMap, IsAhead, MeetWalk}
use Rattle.table_walk.proofs.KeyOrder.{key_trans}
use Rattle.table_walk.proofs.MetGroups.{label_is}
use Rattle.table_walk.proofs.KeysBelow.{stream_below}
use Rattle.table_walk.proofs.CellSteps.{above_by, valid_in}
use Rattle.table_walk.proofs.GroupSteps.{RunsMet, one_in_map}

-- what is above a key that is above the last is above the last
above_more : (last : Option (List ℕ)) (a b : List ℕ) → IsAbove last a → key_cmp a b ≡ Less → IsAbove last b
above_more None a b above less = tt
above_more (Some last) a b above less = key_trans last a b above less

-- a page has a first cell
first_of : (cells : List Cell) → 1 ≤ length cells → (cell : Cell) × Contains cells cell
first_of [] some = absurd (omega arith)
first_of (cell ∷ cells) some = (cell, held_first cell cells)

-- each cell of a group's first run has the leader's key or a greater one
above_leader : (d : Draw) (level : ℕ) (key : List ℕ) (last : Option (List ℕ)) (cells : List Cell)
    → AreLedBy d key level cells → IsStrictlySortedBy cell_order cells → IsAbove last key → (cell : Cell)
    → Contains cells cell → IsAbove last cell.key
above_leader d level key last [] led up above cell held = absurd led
above_leader d level key last (first ∷ cells) led up above cell held = by_place (held_cases first cells cell held)
  where
    by_place : (first ≡ cell) ⊎ Contains cells cell → IsAbove last cell.key
    by_place (inl same) = subst (IsAbove last) (sym led.0 ∙ ap (λ (c : Cell). c.key) same) above
    by_place (inr later) = above_more last key cell.key above
        (subst (λ (k : List ℕ). key_cmp k cell.key ≡ Less)
        led.0 (held_all (λ c. cell_order first c ≡ Less) cells cell (rising_head cell_order first cells up) later))

module _ (d : Draw) (slots : List (List ℕ)) (m : PageMap) (holds : HoldsPages d slots m) (level : ℕ) (lead : Lead)
    (past : ℕ) (before mid : Progress) (Took TookMid : List Pair → Type 0)
    (met : RunsMet d m level lead past before mid Took TookMid) (meets : MeetWalk d (InMap m))
    (ahead : IsAhead d (InMap m) level before.last lead)
    (page : Page) (there : InMap m page) (named : page.label ≡ label_of level lead past) (cell : Cell)
    (held : Contains page.cells cell) where
  run : AreRunOf d level lead past page.cells
  run = subst (λ (l : Label). AreRunOf d l.level l.lead l.index page.cells) named (meets.runs.levels page there)

  up : IsStrictlySortedBy cell_order page.cells
  up = rising_from_map key_cmp (λ c. c.key) page.cells (valid_in d slots m page holds there).rising

  -- the run before this one, where there is one
  record Behind : Type 0 where
    last_run : Page
    in_runs : Contains met.runs last_run
    is_last : last_run.label.index + 1 ≡ past
    smaller : (other : Cell) → Contains last_run.cells other → key_cmp other.key cell.key ≡ Less
    some : Cell
    in_last : Contains last_run.cells some

  behind : 0 < past → Behind
  behind above =
      let index_is : page.label.index ≡ past = ap (λ (l : Label). l.index) named in
      let follows = meets.runs.numbered page there (omega (arith, index_is)) in
      let (r, in_runs, r_named) = met.opened.found (past - 1) (omega (arith, above)) in
      let before_index : follows.before.label.index ≡ past - 1 = omega (arith, follows.index_is, index_is) in
      let before_named = label_is follows.before.label level lead (past - 1)
      (follows.same_level ∙ ap (λ (l : Label). l.level) named)
      (follows.same_lead ∙ ap (λ (l : Label). l.lead) named) before_index in
      let same = one_in_map m follows.before r follows.there (met.opened.there r in_runs) (before_named ∙ sym r_named)
      in
      let first = first_of r.cells (valid_in d slots m r holds (met.opened.there r in_runs)).some_cell in
      let r_index : r.label.index ≡ past - 1 = ap (λ (l : Label). l.index) r_named in
      record {
        last_run = r;
        in_runs = in_runs;
        is_last = omega (arith, r_index, above);
        smaller = λ other in_r. follows.smaller other cell
            (subst (λ (p : Page). Contains p.cells other) (sym same) in_r) held;
        some = first.0;
        in_last = first.1;
      }

  -- all keys of the runs so far are below
  own_by : (b : Behind) (other : Cell) → Contains b.last_run.cells other ⊎ (cell_order other b.some ≡ Less)
      → key_cmp other.key cell.key ≡ Less
  own_by b other (inl in_last) = b.smaller other in_last
  own_by b other (inr less) = key_trans other.key b.some.key cell.key less (b.smaller b.some b.in_last)

  own_below : (past ≡ zero) ⊎ (zero < past) → (other : Cell) → Contains met.cells other
      → key_cmp other.key cell.key ≡ Less
  own_below (inl none) other in_cells = let (p, in_runs, in_page) = met.opened.cells_from other in_cells
      in let below = met.opened.below p in_runs in absurd (omega (arith, none, below))
  own_below (inr above) other in_cells = let b = behind above
      in own_by b other (met.opened.last b.last_run other b.some b.in_runs b.is_last in_cells b.in_last)

  -- the last key before the group is below
  first_by : (f : Lead) → lead ≡ f → past ≡ zero → IsAbove before.last cell.key
  first_by Start is none = subst (IsAhead d (InMap m) level before.last) is ahead meets page cell there
      (named ∙ (λ i. label_of level (is i) (none i))) held
  first_by (Leader key) is none =
      above_leader d level key before.last page.cells
      (subst (λ (n : ℕ). AreRunOf d level (Leader key) n page.cells) none
      (subst (λ (f : Lead). AreRunOf d level f past page.cells) is run)) up
      (subst (IsAhead d (InMap m) level before.last) is ahead) cell held

  before_below : (past ≡ zero) ⊎ (zero < past) → IsAbove before.last cell.key
  before_below (inl none) = first_by lead refl none
  before_below (inr above) =
      let b = behind above in
      let has = met.walked.own_keys b.some (met.opened.cells_of b.last_run b.some b.in_runs b.in_last) in
      above_more before.last b.some.key cell.key
      (subst (IsAbove before.last) has.key_is (met.goes_on.above has.cell has.is_in)) (b.smaller b.some b.in_last)

  -- so is the last one now
  pub ahead_now : IsAbove mid.last cell.key
  ahead_now =
      let has : HasKey (InMap m) level cell.key = record {
        cell = cell;
        key_is = refl;
        has = record { page = page; there = there; on_level = ap (λ (l : Label). l.level) named; in_page = held };
      } in
      above_by met.stream before.last mid.last cell.key met.goes_on
      (stream_below d (InMap m) meets level met.cells met.pages met.stream met.walked cell.key has
      (own_below (eq-zero-or-pos past))) (before_below (eq-zero-or-pos past))
