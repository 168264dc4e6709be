-- How the walk over a group goes on, and how it ends.
use Rattle.std.specs.Prelude.{IsTrue}
use Rattle.std.proofs.Common.{◌≡◌, ◌↔◌, ℕ, zero, ◌+◌, ◌<◌, ◌≤◌, ◌⊎◌, inl, inr, Bool, true, false, List, [], ◌∷◌, ◌++◌}
use Rattle.std.proofs.Common.{Option, Some, None, Result, Ok, Err, length, refl, sym, ap, subst, ◌∙◌, arith}
use Rattle.std.proofs.Common.{length-append}
use Rattle.std.specs.List.{Contains}
use Rattle.std.proofs.Math.Nat.{eq-zero-or-pos, eq-or-lt_of_le}
use Rattle.std.proofs.lemmas.List.Elements.{Contains-append_left, Contains-append_cases}
use Rattle.std.proofs.lemmas.Option.{none-some}
use Rattle.store_model.specs.Labels.{Lead, Label}
use Rattle.store_model.specs.Labels.Lead.{Start, Leader}
use Rattle.store_model.specs.Pairs.{Pair}
use Rattle.store_model.specs.Draws.{Draw}
use Rattle.store_model.specs.Pages.{Page, IsPage, page_room}
use Rattle.store_model.specs.PageMaps.{PageMap, page_at, HoldsPages}
use Rattle.store_base.specs.declared.store_fault.Fault.{Fault}
use Rattle.store_base.specs.SlotsState.{SlotsState, IsObservable}
use Rattle.store_base.proofs.SlotsCalls.{IsObservable-later}
use Rattle.layout_conditions.specs.Pages.{IsLed}
use Rattle.skip_groups.specs.Groups.{label_of}
use Rattle.table_walk.specs.IndexLookups.{ReadsOnly}
use Rattle.table_walk.specs.Lookups.{FindsPage}
use Rattle.table_walk.specs.Streams.{IsAbove, GoesOn, Progress}
use Rattle.table_walk.specs.Walked.{InMap, IsPassed, IsStart, LeadsOn, IsNextRun, MeetWalk, AreMetOf, ComesTo}
use Rattle.table_walk.specs.Walked.{ComesToCells}
use Rattle.table_walk.specs.Walks.{IsGroupWalked, WalksCells, WalksGroup}
use Rattle.table_walk.proofs.IndexReading.{reads_then, reads_value, reads_fault}
use Rattle.table_walk.proofs.KeyOrder.{none_in, only_one}
use Rattle.skip_groups.proofs.NewCellsSteps.{below_or_not}
use Rattle.table_walk.proofs.MetPages.{distinct_both}
use Rattle.table_walk.proofs.MetGroups.{label_is}
use Rattle.table_walk.proofs.MetWhole.{met_group}
use Rattle.table_walk.proofs.Counts.{few_in_map}
use Rattle.table_walk.proofs.CellSteps.{passed_on, passed_in, met_of_both, valid_in, still_holds}
use Rattle.table_walk.proofs.GroupSteps.{RunsMet, FullRunsMet, RunsSoFar, one_in_map, runs_grown, new_page, met_so_far}
use Rattle.table_walk.proofs.GroupAhead.{ahead_now}
use Rattle.table_walk.proofs.Handing.{hands_both}

-- ---- a group that is met

module _ (d : Draw) (m : PageMap) (level : ℕ) (lead : Lead) (past : ℕ) (before after : Progress)
    (Took TookNow : List Pair → Type 0) (met : RunsMet d m level lead past before after Took TookNow)
    (some : (key : List ℕ) → lead ≡ Leader key → 0 < past)
    (none : (page : Page) → InMap m page → page.label ≡ label_of level lead 0 → 0 < past)
    (ended : (p q : Page) → Contains met.runs p → InMap m q → IsNextRun p q → length p.cells ≡ page_room p.label.level
    → q.label.index < past) where
  starts_by : (page : Page) → page.label.lead ≡ Start → Contains met.runs page ⊎ Contains met.pages page
      → (lead ≡ Start) × (page.label.level ≡ level)
  starts_by page start (inl held) = (sym (met.opened.leads page held) ∙ start, met.opened.levels page held)
  starts_by page start (inr held) = absurd (met.keyed page held start)

  pub group_walked : IsGroupWalked d m level lead before after Took TookNow
  group_walked = record {
    below = record {
      pages = met.runs ++ met.pages;
      stream = met.stream;
      walked = met_group d (InMap m) level lead past met.runs met.cells met.pages met.stream (one_in_map m)
          met.opened met.walked some ended;
      goes_on = met.goes_on;
      left = let left = met.left in omega (arith, length-append met.runs met.pages, left);
      handed_on = met.handed_on;
    };
    first = λ page there named.
        let (r, in_runs, r_named) = met.opened.found 0 (none page there named) in
        Contains-append_left met.runs met.pages page
        (subst (Contains met.runs) (one_in_map m r page (met.opened.there r in_runs) there (r_named ∙ sym named))
        in_runs);
    starts = λ page held start. starts_by page start (Contains-append_cases met.runs met.pages page held);
  }

-- ---- a run behind those so far

-- where the walk looked for a run, and what it keeps of how far it has come
pub record Looked (mid taken : Progress) : Type 0 where
  pub left : taken.left ≡ mid.left
  pub last : taken.last ≡ mid.last

-- and how far once the run is met
pub record Taken (mid taken : Progress) : Type 0 where
  pub left : taken.left + 1 ≡ mid.left
  pub last : taken.last ≡ mid.last

module _ (d : Draw) (old now seen : SlotsState) (level : ℕ) (lead : Lead) (past : ℕ) (before mid taken : Progress)
    (Took TookMid : List Pair → Type 0) (far : RunsSoFar d old now level lead past before mid Took TookMid)
    (l : Label) (is : l ≡ label_of level lead past) where
  pub runs_not_looked : (fault : Fault) → Looked mid taken → FindsPage d now seen l (Err fault)
      → WalksGroup d old seen level lead before taken Took TookMid (Err fault)
  runs_not_looked fault looked finds = record {
    reads = reads_then old now seen tt (Err fault) far.reads (reads_fault now seen fault finds.reads);
    fewer = let fewer = far.fewer in let left = looked.left in omega (arith, fewer, left);
    handed = far.handed;
    walked = λ m observable holds leads. tt;
  }

  -- the map has what is found
  found_is : (m : PageMap) (found : Option Page) → IsObservable old → HoldsPages d old.slots m
      → FindsPage d now seen l (Ok found) → found ≡ page_at m (label_of level lead past)
  found_is m found observable holds finds =
      finds.found m (IsObservable-later old now (Ok tt) far.reads.calls observable)
      (still_holds d old now m (Ok tt) far.reads observable holds) ∙ ap (page_at m) is

  same_met : (m : PageMap) → Looked mid taken → FullRunsMet d m level lead past before mid Took TookMid
      → RunsMet d m level lead past before taken Took TookMid
  same_met m looked so_far =
      let met = so_far.met in
      record {
        runs = met.runs;
        cells = met.cells;
        pages = met.pages;
        stream = met.stream;
        opened = met.opened;
        walked = met.walked;
        keyed = met.keyed;
        goes_on = subst (λ (o : Option (List ℕ)). GoesOn before.last met.stream o) (sym looked.last) met.goes_on;
        left = let left = met.left in let same = looked.left in omega (arith, left, same);
        handed_on = met.handed_on;
      }

  -- no run is there: the group ends, unless a key leads it and it has none
  pub runs_ended : Looked mid taken → FindsPage d now seen l (Ok None) → (0 < past) ⊎ IsStart lead
      → WalksGroup d old seen level lead before taken Took TookMid (Ok true)
  runs_ended looked finds some = record {
    reads = reads_then old now seen tt (Ok true) far.reads (reads_value now seen None true finds.reads);
    fewer = let fewer = far.fewer in let left = looked.left in omega (arith, fewer, left);
    handed = far.handed;
    walked = λ m observable holds leads.
        let so_far = far.walked m observable holds leads in
        let absent = found_is m None observable holds finds in
        let met = same_met m looked so_far in
        group_walked d m level lead past before taken Took TookMid met (λ key lead_is. some_by key lead_is some)
        (λ page there named. first_by m page there named absent (eq-zero-or-pos past))
        (λ p q in_runs there next full. ended_by m p q there next (met.opened.levels p in_runs)
        (met.opened.leads p in_runs) (met.opened.below p in_runs) absent
        (eq-or-lt_of_le (let below = met.opened.below p in_runs in omega (arith, below, next.index_is))));
  }
    where
      some_by : (key : List ℕ) → lead ≡ Leader key → (0 < past) ⊎ IsStart lead → 0 < past
      some_by key lead_is (inl above) = above
      some_by key lead_is (inr start) = absurd (subst IsStart lead_is start)

      not_there : (m : PageMap) (page : Page) → InMap m page → page.label ≡ label_of level lead past
          → None ≡ page_at m (label_of level lead past) → ⊥
      not_there m page there named absent = none-some page (absent ∙ sym (ap (page_at m) named) ∙ there)

      first_by : (m : PageMap) (page : Page) → InMap m page → page.label ≡ label_of level lead 0
          → None ≡ page_at m (label_of level lead past) → (past ≡ zero) ⊎ (zero < past) → 0 < past
      first_by m page there named absent (inl none) =
          absurd (not_there m page there (named ∙ ap (label_of level lead) (sym none)) absent)
      first_by m page there named absent (inr above) = above

      ended_by : (m : PageMap) (p q : Page) → InMap m q → IsNextRun p q → p.label.level ≡ level → p.label.lead ≡ lead
          → p.label.index < past → None ≡ page_at m (label_of level lead past)
          → (q.label.index ≡ past) ⊎ (q.label.index < past) → q.label.index < past
      ended_by m p q there next level_is lead_is below absent (inl last) =
          absurd (not_there m q there
          (label_is q.label level lead past (next.level_is ∙ level_is) (next.lead_is ∙ lead_is) last) absent)
      ended_by m p q there next level_is lead_is below absent (inr before) = before

  pub runs_lacking : Looked mid taken → FindsPage d now seen l (Ok None) → (0 < past → ⊥) → (IsStart lead → ⊥)
      → WalksGroup d old seen level lead before taken Took TookMid (Ok false)
  runs_lacking looked finds not_some not_start = record {
    reads = reads_then old now seen tt (Ok false) far.reads (reads_value now seen None false finds.reads);
    fewer = let fewer = far.fewer in let left = looked.left in omega (arith, fewer, left);
    handed = far.handed;
    walked = λ m observable holds leads pages comes meets.
        lacking m (found_is m None observable holds finds) comes.led meets lead refl (eq-zero-or-pos past);
  }
    where
      lacking : (m : PageMap) → None ≡ page_at m (label_of level lead past) → IsLed (InMap m) level lead
          → MeetWalk d (InMap m) → (f : Lead) → lead ≡ f → (past ≡ zero) ⊎ (zero < past) → ⊥
      lacking m absent led meets f lead_is (inr above) = not_some above
      lacking m absent led meets Start lead_is (inl none) = not_start (subst IsStart (sym lead_is) tt)
      lacking m absent led meets (Leader key) lead_is (inl none) =
          let leads = meets.groups.leads level key (subst (IsLed (InMap m) level) lead_is led) in
          let named : leads.page.label ≡ label_of level lead past =
          leads.label_is ∙ (λ i. label_of level (sym lead_is i) (sym none i)) in
          none-some leads.page (absent ∙ sym (ap (page_at m) named) ∙ leads.there)

  pub runs_absent : (may_end : Bool) → Looked mid taken → FindsPage d now seen l (Ok None) → IsTrue may_end
      ↔ ((0 < past) ⊎ IsStart lead) → WalksGroup d old seen level lead before taken Took TookMid (Ok may_end)
  runs_absent true looked finds told = runs_ended looked finds (told.0 refl)
  runs_absent false looked finds told =
      runs_lacking looked finds (λ above. let no = told.1 (inl above) in cc)
      (λ start. let no = told.1 (inr start) in cc)

  module _ (page : Page) (finds : FindsPage d now seen l (Ok (Some page))) where
    named : page.label ≡ label_of level lead past
    named = finds.label ∙ is

    there_in : (m : PageMap) → IsObservable old → HoldsPages d old.slots m → InMap m page
    there_in m observable holds = ap (page_at m) named ∙ sym (found_is m (Some page) observable holds finds)

    -- more pages than there are
    pub runs_overfull : Looked mid taken → mid.left ≡ 0
        → WalksGroup d old seen level lead before taken Took TookMid (Ok false)
    runs_overfull looked none = record {
      reads = reads_then old now seen tt (Ok false) far.reads (reads_value now seen (Some page) false finds.reads);
      fewer = let fewer = far.fewer in let left = looked.left in omega (arith, fewer, left);
      handed = far.handed;
      walked = λ m observable holds leads pages comes meets.
          let so_far = far.walked m observable holds leads in
          let there = there_in m observable holds in
          let met = met_so_far d m level lead past before mid Took TookMid so_far pages comes in
          let all = pages ++ (so_far.met.runs ++ so_far.met.pages) in
          let apart = new_page d m level lead past before mid Took TookMid so_far page there named pages comes in
          let few = few_in_map m (all ++ page ∷ [])
          holds.pages (distinct_both all (page ∷ []) met.distinct ((λ q held same. none_in q held), tt) apart)
          (λ p held. there_by m all met there p (Contains-append_cases all (page ∷ []) p held)) in
          let count = met.count in
          absurd (omega (arith, few, length-append all (page ∷ []), count, none));
    }
      where
        there_by : (m : PageMap) (all : List Page) → AreMetOf m mid.left all → InMap m page → (p : Page)
            → Contains all p ⊎ Contains (page ∷ []) p → InMap m p
        there_by m all met there p (inl held) = met.there p held
        there_by m all met there p (inr held) = subst (InMap m) (only_one page p held) there

    module _ (after : Progress) (new : SlotsState) (TookNow : List Pair → Type 0) (took : Taken mid taken) where
      page_level : page.label.level ≡ level
      page_level = ap (λ (k : Label). k.level) named

      page_leads : LeadsOn d level lead → LeadsOn d page.label.level page.label.lead
      page_leads leads = subst (λ (k : Label). LeadsOn d k.level k.lead) (sym named) leads

      reads_to : {T : Type 0} (result : Result T Fault) → ReadsOnly seen new result → ReadsOnly old new result
      reads_to result reads = reads_then old now new tt result
          far.reads (reads_then now seen new (Some page) result finds.reads reads)

      later : IsObservable old → IsObservable seen
      later observable = IsObservable-later now seen
          (Ok (Some page)) finds.reads.calls (IsObservable-later old now (Ok tt) far.reads.calls observable)

      holds_seen : (m : PageMap) → IsObservable old → HoldsPages d old.slots m → HoldsPages d seen.slots m
      holds_seen m observable holds =
          still_holds d now seen m (Ok (Some page))
          finds.reads (IsObservable-later old now (Ok tt) far.reads.calls observable)
          (still_holds d old now m (Ok tt) far.reads observable holds)

      fewer_by : after.left ≤ taken.left → after.left + (past + 1) ≤ before.left
      fewer_by fewer = let first = far.fewer in let left = took.left in omega (arith, first, left, fewer)

      pub runs_failed : (fault : Fault) → WalksCells d seen new page taken after TookMid TookNow (Err fault)
          → WalksGroup d old new level lead before after Took TookNow (Err fault)
      runs_failed fault walks = record {
        reads = reads_to (Err fault) walks.reads;
        fewer = let fewer = fewer_by walks.fewer in omega (arith, fewer);
        handed = hands_both Took TookMid TookNow far.handed walks.handed;
        walked = λ m observable holds leads. tt;
      }

      -- the run was walked over
      grown : WalksCells d seen new page taken after TookMid TookNow (Ok true)
          → (m : PageMap) (observable : IsObservable old) (holds : HoldsPages d old.slots m)
          (leads : LeadsOn d level lead)
          → (met : RunsMet d m level lead (past + 1) before after Took TookNow)
          × ((p : Page) → Contains met.runs p → Contains (far.walked m observable holds leads).met.runs p
          ⊎ Contains (page ∷ []) p)
      grown walks m observable holds leads =
          let there = there_in m observable holds in
          runs_grown d m level lead past before mid Took TookMid (far.walked m observable holds leads) page there named
          taken after TookNow took.left took.last
          (walks.walked m (later observable) (holds_seen m observable holds) there (page_leads leads))

      -- it is full, and the next one is looked for
      pub runs_next : WalksCells d seen new page taken after TookMid TookNow (Ok true)
          → (length page.cells < page_room level → ⊥)
          → RunsSoFar d old new level lead (past + 1) before after Took TookNow
      runs_next walks full = record {
        reads = reads_to (Ok tt) (reads_value seen new true tt walks.reads);
        fewer = fewer_by walks.fewer;
        handed = hands_both Took TookMid TookNow far.handed walks.handed;
        walked = λ m observable holds leads.
            let so_far = far.walked m observable holds leads in
            let valid = valid_in d old.slots m page holds (there_in m observable holds) in
            let more = grown walks m observable holds leads in
            record { met = more.0; full = λ p held. full_by m so_far valid p (more.1 p held) };
      }
        where
          full_by : (m : PageMap) (so_far : FullRunsMet d m level lead past before mid Took TookMid) → IsPage page
              → (p : Page) → Contains so_far.met.runs p ⊎ Contains (page ∷ []) p
              → length p.cells ≡ page_room p.label.level
          full_by m so_far valid p (inl held) = so_far.full p held
          full_by m so_far valid p (inr held) =
              subst (λ (q : Page). length q.cells ≡ page_room q.label.level) (only_one page p held)
              (by_room (below_or_not (length page.cells) (page_room page.label.level)))
            where
              by_room : (length page.cells < page_room page.label.level)
                  ⊎ (page_room page.label.level ≤ length page.cells) → length page.cells ≡ page_room page.label.level
              by_room (inl less) = absurd (full (subst (λ (n : ℕ). length page.cells < page_room n) page_level less))
              by_room (inr most) = let room = valid.room in omega (arith, room, most)

      -- it has room, so the group ends
      pub runs_done : WalksCells d seen new page taken after TookMid TookNow (Ok true)
          → length page.cells < page_room level → WalksGroup d old new level lead before after Took TookNow (Ok true)
      runs_done walks room = record {
        reads = reads_to (Ok true) walks.reads;
        fewer = let fewer = fewer_by walks.fewer in omega (arith, fewer);
        handed = hands_both Took TookMid TookNow far.handed walks.handed;
        walked = λ m observable holds leads.
            let more = grown walks m observable holds leads in
            group_walked d m level lead (past + 1) before after Took TookNow more.0 (λ key lead_is. omega arith)
            (λ p there first. omega arith)
            (λ p q in_runs there next full. ended_by (far.walked m observable holds leads).met.runs p q next full
            (more.1 p in_runs) (λ held. (far.walked m observable holds leads).met.opened.below p held));
      }
        where
          ended_by : (runs : List Page) (p q : Page) → IsNextRun p q → length p.cells ≡ page_room p.label.level
              → Contains runs p ⊎ Contains (page ∷ []) p → (Contains runs p → p.label.index < past)
              → q.label.index < past + 1
          ended_by runs p q next full (inl held) below = let before = below held in omega (arith, before, next.index_is)
          ended_by runs p q next full (inr held) below =
              let page_full = subst (λ (r : Page). length r.cells ≡ page_room r.label.level)
              (sym (only_one page p held)) full in
              let room_is = ap page_room page_level in
              absurd (omega (arith, page_full, room, room_is))

      -- what is below its cells refutes the conditions
      pub runs_refuted : WalksCells d seen new page taken after TookMid TookNow (Ok false)
          → WalksGroup d old new level lead before after Took TookNow (Ok false)
      runs_refuted walks = record {
        reads = reads_to (Ok false) walks.reads;
        fewer = let fewer = fewer_by walks.fewer in omega (arith, fewer);
        handed = hands_both Took TookMid TookNow far.handed walks.handed;
        walked = λ m observable holds leads pages comes meets.
            let so_far = far.walked m observable holds leads in
            let there = there_in m observable holds in
            walks.walked m (later observable) (holds_seen m observable holds) there (page_leads leads)
            ((pages ++ (so_far.met.runs ++ so_far.met.pages)) ++ page ∷ [])
            (comes_to_cells m observable holds so_far there pages comes) meets;
      }
        where
          comes_to_cells : (m : PageMap) → IsObservable old
              → (holds : HoldsPages d old.slots m) (so_far : FullRunsMet d m level lead past before mid Took TookMid)
              → InMap m page → (pages : List Page) → ComesTo d m level lead before.left before.last pages
              → ComesToCells d m page taken.left taken.last
              ((pages ++ (so_far.met.runs ++ so_far.met.pages)) ++ page ∷ [])
          comes_to_cells m observable holds so_far there pages comes =
              let met = so_far.met in
              let all = pages ++ (met.runs ++ met.pages) in
              record {
                met = met_of_both m mid.left taken.left all (page ∷ [])
                    (met_so_far d m level lead past before mid Took TookMid so_far pages comes)
                    (λ p held. subst (InMap m) (only_one page p held) there) ((λ q held same. none_in q held), tt)
                    (new_page d m level lead past before mid Took TookMid so_far page there named pages comes)
                    (let left = took.left in omega (arith, left));
                there = there;
                passed = λ other held lower. subst (λ (o : Option (List ℕ)). IsPassed o other.label.lead)
                    (sym took.last) (passed_by so_far comes other (omega (arith, lower, page_level))
                    (λ same. omega (arith, lower, ap (λ (p : Page). p.label.level) same))
                    (Contains-append_cases all (page ∷ []) other held));
                ahead = λ meets cell held. subst (λ (o : Option (List ℕ)). IsAbove o cell.key) (sym took.last)
                    (ahead_now d old.slots m holds level lead past before mid Took TookMid met meets comes.ahead page
                    there named cell held);
              }
            where
              by_later : (so_far : FullRunsMet d m level lead past before mid Took TookMid) (other : Page)
                  → other.label.level < level → Contains so_far.met.runs other ⊎ Contains so_far.met.pages other
                  → IsPassed mid.last other.label.lead
              by_later so_far other lower (inl held) = let same = so_far.met.opened.levels other held
                  in absurd (omega (arith, lower, same))
              by_later so_far other lower (inr held) =
                  passed_in so_far.met.stream before.last mid.last other.label.lead so_far.met.goes_on
                  (so_far.met.walked.lead_keys other held)

              by_all : (so_far : FullRunsMet d m level lead past before mid Took TookMid)
                  → ComesTo d m level lead before.left before.last pages → (other : Page) → other.label.level < level
                  → Contains pages other ⊎ Contains (so_far.met.runs ++ so_far.met.pages) other
                  → IsPassed mid.last other.label.lead
              by_all so_far comes other lower (inl held) =
                  passed_on so_far.met.stream before.last mid.last other.label.lead so_far.met.goes_on
                  (comes.passed other held (omega (arith, lower)))
              by_all so_far comes other lower (inr held) =
                  by_later so_far other lower (Contains-append_cases so_far.met.runs so_far.met.pages other held)

              passed_by : (so_far : FullRunsMet d m level lead past before mid Took TookMid)
                  → ComesTo d m level lead before.left before.last pages → (other : Page)
                  → other.label.level < level → (page ≡ other → ⊥)
                  → Contains (pages ++ (so_far.met.runs ++ so_far.met.pages)) other ⊎ Contains (page ∷ []) other
                  → IsPassed mid.last other.label.lead
              passed_by so_far comes other lower not (inl held) =
                  by_all so_far comes other lower
                  (Contains-append_cases pages (so_far.met.runs ++ so_far.met.pages) other held)
              passed_by so_far comes other lower not (inr held) = absurd (not (only_one page other held))
