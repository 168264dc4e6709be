-- The loop that lays pages into slots.
use Rattle.std.proofs.Common.{◌≡◌, ◌<◌, ◌≤◌, ◌+◌, ℕ, Bool, true, false, cond, List, [], ◌∷◌, Option, Some, None}
use Rattle.std.proofs.Common.{is_some, Result, Ok, Err, refl, sym, ap, subst, ◌∙◌, arith}
use Rattle.std.specs.FinMap as maps
use Rattle.std.specs.FinMap.{len-insert}
use Rattle.std.specs.Cmp.Lexicographic.{nat_list_cmp_total}
use Rattle.store_model.specs.Labels.{Label, label_bytes}
use Rattle.store_model.specs.Draws.{Draw}
use Rattle.store_model.specs.Pages.{Page}
use Rattle.store_model.specs.PageMaps.{PageMap, page_at, with_page, HoldsPages}
use Rattle.store_base.specs.declared.store_fault.Fault.{Fault}
use Rattle.store_base.specs.SlotsState.{SlotsState, IsObservable, AreSlotCalls}
use Rattle.store_base.proofs.SlotsCalls.{AreSlotCalls-none, AreSlotCalls-then, AreSlotCalls-fault, IsObservable-later}
use Rattle.ordered_table.specs.Tables.{IsSlotWith, Overwrites, Inserts}
use Rattle.page_store.specs.Lookups.{Locates}
use Rattle.page_store.specs.Carrying.{LaysPage, laid_by, LaysPages}

-- ---- one page

-- its label was searched for, and the slots failed
pub lays_failed : (d : Draw) (old mid : SlotsState) (page : Page) (l : Label) (fault : Fault)
    → Locates d old mid l (Err fault) → LaysPage {T = Unit {0}} d old mid page (Err fault)
lays_failed d old mid page l fault located = record {
  calls = AreSlotCalls-fault old mid fault located.calls;
  laid = λ m observable holds room. tt;
}

-- or it was found, and its page is overwritten
pub lays_over : (d : Draw) (old mid new : SlotsState) (page : Page) (at : ℕ) (result : Result (Unit {0}) Fault)
    → Locates d old mid page.label (Ok (Some at)) → Overwrites d mid new at page result → LaysPage d old new page result
lays_over d old mid new page at result located over = record {
  calls = AreSlotCalls-then old mid new (Some at) result located.calls over.calls;
  laid = λ m observable holds room.
      let same = sym (located.reads observable) in
      over.overwritten m (IsObservable-later old mid (Ok (Some at)) located.calls observable) (record {
        holds = subst (λ (slots : List (List ℕ)). HoldsPages d slots m) same holds;
        there = subst (λ (slots : List (List ℕ)). IsSlotWith slots m page.label at) same
            ((located.found m observable holds).slot);
      });
}

-- or it was not, and the page is inserted
pub lays_in : (d : Draw) (old mid new : SlotsState) (page : Page) (result : Result (Unit {0}) Fault)
    → Locates d old mid page.label (Ok None) → Inserts d mid new page result → LaysPage d old new page result
lays_in d old mid new page result located inserts = record {
  calls = AreSlotCalls-then old mid new None result located.calls inserts.calls;
  laid = λ m observable holds room.
      let none = (located.found m observable holds).absent.0 refl in
      inserts.inserted m (IsObservable-later old mid (Ok None) located.calls observable) (record {
        holds = subst (λ (slots : List (List ℕ)). HoldsPages d slots m) (sym (located.reads observable)) holds;
        free = room none;
        absent = none;
      });
}

-- ---- several

one_more : (b : Bool) (n : ℕ) → n ≤ cond b n (n + 1)
one_more true n = omega arith
one_more false n = omega arith

grown : (m : PageMap) (page : Page) → maps.len m ≤ maps.len (with_page m page)
grown m page = subst (λ (n : ℕ). maps.len m ≤ n) (sym (len-insert nat_list_cmp_total m (label_bytes page.label) page))
    (one_more (maps.contains_key m (label_bytes page.label)) (maps.len m))

-- pages laid in make the map no smaller
laid_grows : (m : PageMap) (pages : List (Option Page)) → maps.len m ≤ maps.len (laid_by m pages)
laid_grows m [] = omega arith
laid_grows m (None ∷ pages) = laid_grows m pages
laid_grows m (Some page ∷ pages) = let rest = laid_grows (with_page m page) pages in let first = grown m page
    in omega (arith, rest, first)

new_grows : (m : PageMap) (page : Page) → page_at m page.label ≡ None → maps.len (with_page m page) ≡ maps.len m + 1
new_grows m page none = len-insert nat_list_cmp_total m (label_bytes page.label) page
    ∙ ap (λ (o : Option Page). cond (is_some o) (maps.len m) (maps.len m + 1)) none

-- slots that hold a map from which the pages that are left lead to where all of them lead from the first one
pub record LeadsIn (d : Draw) (slots : List (List ℕ)) (m : PageMap) (all rest : List (Option Page)) : Type 0 where
  pub now : PageMap
  pub holds : HoldsPages d slots now
  pub leads : laid_by now rest ≡ laid_by m all

-- a loop that lays them in has come so far
pub record LayingPages (d : Draw) (old now : SlotsState) (all rest : List (Option Page)) : Type 0 where
  pub calls : AreSlotCalls {T = Unit {0}} old now (Ok tt)
  pub leads : (m : PageMap) → IsObservable old → HoldsPages d old.slots m → maps.len (laid_by m all) ≤ d.slots
      → LeadsIn d now.slots m all rest

pub laying_begins : (d : Draw) (slots : SlotsState) (all : List (Option Page)) → LayingPages d slots slots all all
laying_begins d slots all = record {
  calls = AreSlotCalls-none slots tt;
  leads = λ m observable holds room. record { now = m; holds = holds; leads = refl };
}

module _ (d : Draw) (old now : SlotsState) (all rest left : List (Option Page)) (change : Option Page)
    (next : rest ≡ change ∷ left) (so_far : LayingPages d old now all rest) where
  -- a label that has no page
  pub laying_passes : change ≡ None → LayingPages d old now all left
  laying_passes is =
      let here = subst (λ (pages : List (Option Page)). LayingPages d old now all pages)
      (next ∙ ap (λ (o : Option Page). o ∷ left) is) so_far in
      record {
        calls = here.calls;
        leads = λ m observable holds room. let at = here.leads m observable holds room in record {
          now = at.now;
          holds = at.holds;
          leads = at.leads;
        };
      }

  -- a label that has one
  pub laying_lays : (new : SlotsState) (page : Page) → change ≡ Some page
      → LaysPage {T = Unit {0}} d now new page (Ok tt) → LayingPages d old new all left
  laying_lays new page is laid =
      let here = subst (λ (pages : List (Option Page)). LayingPages d old now all pages)
      (next ∙ ap (λ (o : Option Page). o ∷ left) is) so_far in
      record {
        calls = AreSlotCalls-then old now new tt (Ok tt) here.calls laid.calls;
        leads = λ m observable holds room.
            let at = here.leads m observable holds room in
            let same : maps.len (laid_by (with_page at.now page) left) ≡ maps.len (laid_by m all) =
            ap (λ (n : PageMap). maps.len n) at.leads in
            let later = laid_grows (with_page at.now page) left in
            let free : page_at at.now page.label ≡ None → maps.len at.now < d.slots = λ none. let more =
            new_grows at.now page none in omega (arith, more, later, same, room) in
            record {
              now = with_page at.now page;
              holds = laid.laid at.now (IsObservable-later old now (Ok tt) here.calls observable) at.holds free;
              leads = at.leads;
            };
      }

-- one that cannot be laid
pub laying_fails : (d : Draw) (old now new : SlotsState) (all rest : List (Option Page)) (page : Page) (fault : Fault)
    → LayingPages d old now all rest → LaysPage {T = Unit {0}} d now new page (Err fault)
    → LaysPages {T = Unit {0}} d old new all (Err fault)
laying_fails d old now new all rest page fault so_far fails = record {
  calls = AreSlotCalls-then old now new tt (Err fault) so_far.calls fails.calls;
  laid = λ m observable holds room. tt;
}

-- all were gone over
pub laying_ends : (d : Draw) (old now : SlotsState) (all rest : List (Option Page)) → rest ≡ []
    → LayingPages d old now all rest → LaysPages {T = Unit {0}} d old now all (Ok tt)
laying_ends d old now all rest none so_far = record {
  calls = so_far.calls;
  laid = λ m observable holds room. let at = so_far.leads m observable holds room
      in subst (HoldsPages d now.slots) (ap (laid_by at.now) (sym none) ∙ at.leads) at.holds;
}
