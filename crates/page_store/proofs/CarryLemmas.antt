-- Lemmas on a page that is taken away from slots.
use Rattle.std.proofs.Common.{◌≡◌, ℕ, Bool, true, false, cond, List, [], ◌∷◌, Option, Some, None, is_some, Result, Ok}
use Rattle.std.proofs.Common.{Err, refl, sym, ap, subst, ◌∙◌}
use Rattle.std.specs.FinMap as maps
use Rattle.std.specs.FinMap.{get-remove, same_map, slice_cmp-IsAntisymmetric, nat_cmp-IsAntisymmetric}
use Rattle.std.specs.Ordering.{nat_cmp, eq_by_cmp}
use Rattle.std.specs.Cmp.Lexicographic.{slice_cmp, nat_list_cmp_total}
use Rattle.store_model.specs.Labels.{Label, label_bytes}
use Rattle.store_model.specs.Draws.{Draw}
use Rattle.store_model.specs.Pages.{Page}
use Rattle.store_model.specs.PageMaps.{PageMap, page_at, without_page, HoldsPages}
use Rattle.store_base.specs.declared.store_fault.Fault.{Fault}
use Rattle.store_base.specs.SlotsState.{SlotsState, IsObservable, AreSlotCalls}
use Rattle.store_base.proofs.SlotsCalls.{AreSlotCalls-none, AreSlotCalls-then, AreSlotCalls-value, AreSlotCalls-fault}
use Rattle.store_base.proofs.SlotsCalls.{IsObservable-later}
use Rattle.ordered_table.specs.Tables.{IsSlotWith, Removes}
use Rattle.page_store.specs.Lookups.{Locates}
use Rattle.table_memory.specs.Staging.{StagedPages}
use Rattle.page_store.specs.Carrying.{TakesPage, taken_by, TakesPages}
use Rattle.table_memory.proofs.ChangeLemmas.{same_when_tied}

-- where there is no page under a label nothing is taken out
without_none : (m : PageMap) (l : Label) → page_at m l ≡ None → without_page m l ≡ m
without_none m l none =
    same_map nat_list_cmp_total (slice_cmp-IsAntisymmetric nat_cmp-IsAntisymmetric) (without_page m l) m
    (λ b. get-remove nat_list_cmp_total m (label_bytes l) b
    ∙ by_case b (eq_by_cmp (slice_cmp nat_cmp) b (label_bytes l)) refl)
  where
    by_case : (b : List ℕ) (tied : Bool) → eq_by_cmp (slice_cmp nat_cmp) b (label_bytes l) ≡ tied
        → cond tied None (maps.get m b) ≡ maps.get m b
    by_case b true is = sym (ap (maps.get m) (same_when_tied b (label_bytes l) is) ∙ none)
    by_case b false is = refl

-- nothing was found under the label
pub none_taken : (d : Draw) (old mid : SlotsState) (l : Label) → Locates d old mid l (Ok None)
    → TakesPage {T = Unit {0}} d old mid l (Ok tt)
none_taken d old mid l located = record {
  calls = AreSlotCalls-value old mid None tt located.calls;
  taken = λ m observable holds.
      subst (HoldsPages d mid.slots) (sym (without_none m l ((located.found m observable holds).absent.0 refl)))
      (subst (λ (slots : List (List ℕ)). HoldsPages d slots m) (sym (located.reads observable)) holds);
}

-- a page was found, and is taken away
pub found_taken : (d : Draw) (old mid new : SlotsState) (l : Label) (at : ℕ) (result : Result (Unit {0}) Fault)
    → Locates d old mid l (Ok (Some at)) → Removes d mid new at result → TakesPage d old new l result
found_taken d old mid new l at result located removes = record {
  calls = AreSlotCalls-then old mid new (Some at) result located.calls removes.calls;
  taken = λ m observable holds.
      let same = sym (located.reads observable) in
      removes.removed m l (IsObservable-later old mid (Ok (Some at)) located.calls observable) (record {
        holds = subst (λ (slots : List (List ℕ)). HoldsPages d slots m) same holds;
        there = subst (λ (slots : List (List ℕ)). IsSlotWith slots m l at) same
            ((located.found m observable holds).slot);
      });
}

-- or the slots failed
pub failed_taken : (d : Draw) (old mid : SlotsState) (l : Label) (fault : Fault) → Locates d old mid l (Err fault)
    → TakesPage {T = Unit {0}} d old mid l (Err fault)
failed_taken d old mid l fault located = record {
  calls = AreSlotCalls-fault old mid fault located.calls;
  taken = λ m observable holds. tt;
}

-- ---- the loop that takes pages away

-- slots that hold a map from which the changes that are left lead to where all of them lead from the first one
pub record LeadsOn (d : Draw) (slots : List (List ℕ)) (m : PageMap) (all rest : StagedPages) : Type 0 where
  pub now : PageMap
  pub holds : HoldsPages d slots now
  pub leads : taken_by now rest ≡ taken_by m all

-- a loop that takes them away has come so far
pub record TakingPages (d : Draw) (old now : SlotsState) (all rest : StagedPages) : Type 0 where
  pub calls : AreSlotCalls {T = Unit {0}} old now (Ok tt)
  pub leads : (m : PageMap) → IsObservable old → HoldsPages d old.slots m → LeadsOn d now.slots m all rest

pub some_of : (o : Option Page) → is_some o ≡ true → (page : Page) × (o ≡ Some page)
some_of None e = absurd (cc)
some_of (Some page) e = (page, refl)

pub none_of : (o : Option Page) → is_some o ≡ false → o ≡ None
none_of None e = refl
none_of (Some page) e = absurd (cc)

pub taking_begins : (d : Draw) (slots : SlotsState) (all : StagedPages) → TakingPages d slots slots all all
taking_begins d slots all = record {
  calls = AreSlotCalls-none slots tt;
  leads = λ m observable holds. record { now = m; holds = holds; leads = refl };
}

module _ (d : Draw) (old now : SlotsState) (all rest left : StagedPages) (l : Label) (change : Option Page)
    (next : rest ≡ (l, change) ∷ left) (so_far : TakingPages d old now all rest) where
  -- a label that has a page
  pub taking_passes : (page : Page) → change ≡ Some page → TakingPages d old now all left
  taking_passes page is =
      let here = subst (λ (es : StagedPages). TakingPages d old now all es)
      (next ∙ ap (λ (o : Option Page). (l, o) ∷ left) is) so_far in
      record {
        calls = here.calls;
        leads = λ m observable holds. let at = here.leads m observable holds in record {
          now = at.now;
          holds = at.holds;
          leads = at.leads;
        };
      }

  -- a label that has none
  pub taking_takes : (new : SlotsState) → change ≡ None → TakesPage {T = Unit {0}} d now new l (Ok tt)
      → TakingPages d old new all left
  taking_takes new is taken =
      let here = subst (λ (es : StagedPages). TakingPages d old now all es)
      (next ∙ ap (λ (o : Option Page). (l, o) ∷ left) is) so_far in
      record {
        calls = AreSlotCalls-then old now new tt (Ok tt) here.calls taken.calls;
        leads = λ m observable holds.
            let at = here.leads m observable holds in
            record {
              now = without_page at.now l;
              holds = taken.taken at.now (IsObservable-later old now (Ok tt) here.calls observable) at.holds;
              leads = at.leads;
            };
      }

-- one that cannot be taken away
pub taking_fails : (d : Draw) (old now new : SlotsState) (all rest : StagedPages) (l : Label) (fault : Fault)
    → TakingPages d old now all rest → TakesPage {T = Unit {0}} d now new l (Err fault)
    → TakesPages {T = Unit {0}} d old new all (Err fault)
taking_fails d old now new all rest l fault so_far fails = record {
  calls = AreSlotCalls-then old now new tt (Err fault) so_far.calls fails.calls;
  taken = λ m observable holds. tt;
}

-- all were gone over
pub taking_ends : (d : Draw) (old now : SlotsState) (all rest : StagedPages) → rest ≡ []
    → TakingPages d old now all rest → TakesPages {T = Unit {0}} d old now all (Ok tt)
taking_ends d old now all rest none so_far = record {
  calls = so_far.calls;
  taken = λ m observable holds. let at = so_far.leads m observable holds
      in subst (HoldsPages d now.slots) (ap (taken_by at.now) (sym none) ∙ at.leads) at.holds;
}
