-- The walk over the runs of a group, run by run.
use Rattle.std.proofs.Common.{◌≡◌, ℕ, ◌+◌, ◌≤◌, ◌⊎◌, inl, inr, List, [], ◌∷◌, ◌++◌, Option, Ok, length, map, sym, ap}
use Rattle.std.proofs.Common.{subst, ◌∙◌, arith, length-append}
use Rattle.std.specs.List.{Contains}
use Rattle.std.proofs.lemmas.List.Elements.{Contains-append_cases}
use Rattle.std.proofs.lemmas.Option.{same_Some}
use Rattle.store_model.specs.Labels.{Lead, Label}
use Rattle.store_model.specs.Labels.Lead.{Start}
use Rattle.store_model.specs.Pairs.{Pair}
use Rattle.store_model.specs.Draws.{Draw}
use Rattle.store_model.specs.Pages.{Cell, Page, page_room}
use Rattle.store_model.specs.PageMaps.{PageMap, page_at, HoldsPages}
use Rattle.store_base.specs.SlotsState.{SlotsState, IsObservable}
use Rattle.layout_conditions.specs.Pages.{KeysRise}
use Rattle.skip_groups.specs.Groups.{label_of}
use Rattle.table_walk.specs.IndexLookups.{ReadsOnly}
use Rattle.table_walk.specs.Streams.{GoesOn, Progress}
use Rattle.table_walk.specs.Walked.{InMap, LeadsOn, Walked, Opened, AreMetOf, ComesTo}
use Rattle.table_walk.specs.Walks.{HandsOn, pair_of, IsPageWalked}
use Rattle.table_walk.proofs.IndexReading.{reads_none}
use Rattle.table_walk.proofs.KeyOrder.{none_in, only_one, keys_below, goes_nowhere, goes_on_both, rise_behind}
use Rattle.table_walk.proofs.MetPages.{met_none, met_both, distinct_both}
use Rattle.table_walk.proofs.MetGroups.{opened_none, opened_more}
use Rattle.table_walk.proofs.CellSteps.{met_of_both, apart_behind}
use Rattle.table_walk.proofs.Handing.{hands_none, handed_none, handed_both}

-- ---- the runs so far

pub record RunsMet (d : Draw) (m : PageMap) (level : ℕ) (lead : Lead) (past : ℕ) (before after : Progress)
    (Took TookNow : List Pair → Type 0) : Type 0 where
  pub runs : List Page
  pub cells : List Cell
  pub pages : List Page
  pub stream : List Cell
  pub opened : Opened d (InMap m) level lead past runs cells
  pub walked : Walked d (InMap m) level cells pages stream
  pub keyed : (page : Page) → Contains pages page → page.label.lead ≡ Start → ⊥
  pub goes_on : GoesOn before.last stream after.last
  pub left : after.left + (length runs + length pages) ≡ before.left
  pub handed_on : (pairs : List Pair) → Took pairs → TookNow (pairs ++ map pair_of stream)

pub record FullRunsMet (d : Draw) (m : PageMap) (level : ℕ) (lead : Lead) (past : ℕ) (before after : Progress)
    (Took TookNow : List Pair → Type 0) : Type 0 where
  pub met : RunsMet d m level lead past before after Took TookNow
  pub full : (page : Page) → Contains met.runs page → length page.cells ≡ page_room page.label.level

-- the first runs of a group were walked over, so many, and are full
pub record RunsSoFar (d : Draw) (old now : SlotsState) (level : ℕ) (lead : Lead) (past : ℕ) (before after : Progress)
    (Took TookNow : List Pair → Type 0) : Type 0 where
  pub reads : ReadsOnly {T = Unit {0}} old now (Ok tt)
  pub fewer : after.left + past ≤ before.left
  pub handed : HandsOn Took TookNow
  pub walked : (m : PageMap) → IsObservable old → HoldsPages d old.slots m → LeadsOn d level lead
      → FullRunsMet d m level lead past before after Took TookNow

pub runs_begin : (d : Draw) (state : SlotsState) (level : ℕ) (lead : Lead) (met : Progress) (Took : List Pair → Type 0)
    → RunsSoFar d state state level lead 0 met met Took Took
runs_begin d state level lead met Took = record {
  reads = reads_none state tt;
  fewer = omega arith;
  handed = hands_none Took;
  walked = λ m observable holds leads. record {
    met = record {
      runs = [];
      cells = [];
      pages = [];
      stream = [];
      opened = opened_none d (InMap m) level lead;
      walked = met_none d (InMap m) level;
      keyed = λ page held. absurd (none_in page held);
      goes_on = goes_nowhere met.last;
      left = omega arith;
      handed_on = handed_none Took;
    };
    full = λ page held. absurd (none_in page held);
  };
}

-- pages of a map that have one label are one
pub one_in_map : (m : PageMap) (p q : Page) → InMap m p → InMap m q → p.label ≡ q.label → p ≡ q
one_in_map m p q there other same = same_Some p q (sym there ∙ ap (page_at m) same ∙ other)

module _ (d : Draw) (m : PageMap) (level : ℕ) (lead : Lead) (past : ℕ) (before mid : Progress)
    (Took TookMid : List Pair → Type 0) (far : FullRunsMet d m level lead past before mid Took TookMid) where
  module _ (page : Page) (there : InMap m page) (named : page.label ≡ label_of level lead past) where
    level_is : page.label.level ≡ level
    level_is = ap (λ (l : Label). l.level) named

    index_is : page.label.index ≡ past
    index_is = ap (λ (l : Label). l.index) named

    -- one more run was walked over
    pub runs_grown : (taken after : Progress) (TookNow : List Pair → Type 0) → taken.left + 1 ≡ mid.left
        → taken.last ≡ mid.last → IsPageWalked d m page taken after TookMid TookNow
        → (grown : RunsMet d m level lead (past + 1) before after Took TookNow)
        × ((p : Page) → Contains grown.runs p → Contains far.met.runs p ⊎ Contains (page ∷ []) p)
    runs_grown taken after TookNow left last walk =
        let met = far.met in
        let below = walk.cells.below in
        let on : GoesOn mid.last below.stream after.last =
        subst (λ (o : Option (List ℕ)). GoesOn o below.stream after.last) last below.goes_on in
        let rise = rise_behind before.last mid.last after.last met.stream below.stream met.goes_on on in
        let walked : Walked d (InMap m) level page.cells below.pages below.stream =
        subst (λ (n : ℕ). Walked d (InMap m) n page.cells below.pages below.stream) level_is below.walked in
        let cells_rise : KeysRise met.cells page.cells =
        λ a b in_a in_b. keys_below met.stream below.stream a.key b.key rise (met.walked.own_keys a in_a)
        (walked.own_keys b in_b) in (
          record {
            runs = met.runs ++ page ∷ [];
            cells = met.cells ++ page.cells;
            pages = met.pages ++ below.pages;
            stream = met.stream ++ below.stream;
            opened = opened_more d (InMap m) level lead past met.runs met.cells page met.opened there named
                walk.run far.full cells_rise;
            walked = met_both d (InMap m) level met.cells page.cells met.pages below.pages met.stream below.stream
                met.walked walked rise (λ p q in2 start in1. absurd (walk.cells.keyed p in2 start));
            keyed = λ p held start. keyed_by below.pages p start
                walk.cells.keyed (Contains-append_cases met.pages below.pages p held);
            goes_on = goes_on_both before.last mid.last after.last met.stream below.stream met.goes_on on;
            left = let first = met.left in let then = below.left
                in omega (
                  arith,
                  length-append met.runs (page ∷ []),
                  length-append met.pages below.pages,
                  first,
                  then,
                  left,
                );
            handed_on = λ pairs took. handed_both TookNow pairs
                met.stream below.stream (below.handed_on _ (met.handed_on pairs took));
          },
          λ p held. Contains-append_cases met.runs (page ∷ []) p held,
        )
      where
        keyed_by : (pages : List Page) (p : Page) → p.label.lead ≡ Start
            → ((q : Page) → Contains pages q → q.label.lead ≡ Start → ⊥)
            → Contains far.met.pages p ⊎ Contains pages p → ⊥
        keyed_by pages p start keyed (inl held) = far.met.keyed p held start
        keyed_by pages p start keyed (inr held) = keyed p held start

    -- the page is not among those met before
    pub new_page : (pages : List Page) → ComesTo d m level lead before.left before.last pages → (p q : Page)
        → Contains (pages ++ (far.met.runs ++ far.met.pages)) p → Contains (page ∷ []) q → q.label ≡ p.label → ⊥
    new_page pages comes p q held in_new same =
        by_place (Contains-append_cases pages (far.met.runs ++ far.met.pages) p held)
      where
        label : p.label ≡ label_of level lead past
        label = sym same ∙ sym (ap (λ (r : Page). r.label) (only_one page q in_new)) ∙ named

        by_later : Contains far.met.runs p ⊎ Contains far.met.pages p → ⊥
        by_later (inl held) = let below = far.met.opened.below p held in let is : p.label.index ≡ past =
            ap (λ (l : Label). l.index) label in omega arith
        by_later (inr held) = let below = far.met.walked.lower p held in let is : p.label.level ≡ level =
            ap (λ (l : Label). l.level) label in omega arith

        by_place : Contains pages p ⊎ Contains (far.met.runs ++ far.met.pages) p → ⊥
        by_place (inl held) = comes.apart p held (ap (λ (l : Label). l.level) label) (ap (λ (l : Label). l.lead) label)
        by_place (inr held) = by_later (Contains-append_cases far.met.runs far.met.pages p held)

  -- all pages met so far
  pub met_so_far : (pages : List Page) → ComesTo d m level lead before.left before.last pages
      → AreMetOf m mid.left (pages ++ (far.met.runs ++ far.met.pages))
  met_so_far pages comes =
      let met = far.met in
      let count : mid.left + length (met.runs ++ met.pages) ≡ before.left = let left = met.left
      in omega (arith, length-append met.runs met.pages, left) in
      met_of_both m before.left mid.left pages (met.runs ++ met.pages)
      comes.met (λ p held. there_by p (Contains-append_cases met.runs met.pages p held))
      (distinct_both met.runs met.pages met.opened.distinct met.walked.distinct own_apart)
      (λ p q in1 in2 same. apart_by p q in1 same (Contains-append_cases met.runs met.pages q in2)) count
    where
      there_by : (p : Page) → Contains far.met.runs p ⊎ Contains far.met.pages p → InMap m p
      there_by p (inl held) = far.met.opened.there p held
      there_by p (inr held) = far.met.walked.there p held

      own_apart : (p q : Page) → Contains far.met.runs p → Contains far.met.pages q → q.label ≡ p.label → ⊥
      own_apart p q in_runs in_pages same =
          let is = far.met.opened.levels p in_runs in
          let below = far.met.walked.lower q in_pages in
          let level_is : q.label.level ≡ p.label.level = ap (λ (l : Label). l.level) same in
          omega arith

      apart_by : (p q : Page) → Contains pages p → q.label ≡ p.label
          → Contains far.met.runs q ⊎ Contains far.met.pages q → ⊥
      apart_by p q in_first same (inl held) =
          comes.apart p in_first (sym (ap (λ (l : Label). l.level) same) ∙ far.met.opened.levels q held)
          (sym (ap (λ (l : Label). l.lead) same) ∙ far.met.opened.leads q held)
      apart_by p q in_first same (inr held) =
          apart_behind level far.met.stream before.last mid.last pages
          far.met.pages far.met.goes_on (λ r in_pages lower. comes.passed r in_pages (omega (arith, lower)))
          far.met.walked.lower far.met.keyed far.met.walked.lead_keys p q in_first held same
