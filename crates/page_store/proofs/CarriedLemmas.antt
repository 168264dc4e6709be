-- StagedPages that are carried out, the pages first that go and then those that come, lead where the changes lead.
use Rattle.std.proofs.Common.{◌≡◌, ℕ, ◌≤◌, cond, List, [], ◌∷◌, Option, Some, None, Result, Ok, Err, OnOk, refl, sym}
use Rattle.std.proofs.Common.{ap, subst, ◌∙◌}
use Rattle.std.specs.declared.cmp.Ordering.{Ordering}
use Rattle.std.specs.declared.cmp.Ordering.TheVariants.{Less, Equal}
use Rattle.std.specs.List.{AllByRecursion}
use Rattle.std.specs.List.Sorted.{IsStrictlySortedBy}
use Rattle.std.specs.Map.{keys_of, values_of}
use Rattle.std.proofs.lemmas.Map.Keys.{sorted_head, sorted_tail}
use Rattle.std.specs.Ordering.{nat_cmp, is_eq, eq_by_cmp}
use Rattle.std.specs.Cmp.{tied_itself}
use Rattle.std.specs.Cmp.Lexicographic.{slice_cmp, nat_list_cmp_total}
use Rattle.std.specs.FinMap as maps
use Rattle.std.specs.FinMap.{same_map, slice_cmp-IsAntisymmetric, nat_cmp-IsAntisymmetric}
use Rattle.store_model.specs.Labels.{Label, label_bytes, label_cmp}
use Rattle.store_model.specs.Draws.{Draw}
use Rattle.store_model.specs.Pages.{Page}
use Rattle.store_model.specs.PageMaps.{PageMap, with_page, without_page, IsPageMap, HoldsPages}
use Rattle.store_base.specs.declared.store_fault.Fault.{Fault}
use Rattle.store_base.specs.SlotsState.{SlotsState}
use Rattle.store_base.proofs.SlotsCalls.{AreSlotCalls-then, AreSlotCalls-fault, IsObservable-later}
use Rattle.table_memory.specs.Staging.{StagedPages, with_change, with_changes}
use Rattle.page_store.specs.Carrying.{taken_by, laid_by, TakesPages, LaysPages, LaysChanges}
use Rattle.table_memory.proofs.ChangeLemmas.{get-with_change, same_when_tied, exchanged}

-- two changes under different labels may change places
with_change-swap : (m : PageMap) (k l : Label) (v w : Option Page) → (label_bytes k ≡ label_bytes l → ⊥)
    → with_change (with_change m k v) l w ≡ with_change (with_change m l w) k v
with_change-swap m k l v w apart =
    same_map nat_list_cmp_total (slice_cmp-IsAntisymmetric nat_cmp-IsAntisymmetric)
    (with_change (with_change m k v) l w) (with_change (with_change m l w) k v)
    (λ b.
    get-with_change (with_change m k v) l w b
    ∙ ap (cond (eq_by_cmp (slice_cmp nat_cmp) b (label_bytes l)) w) (get-with_change m k v b)
    ∙ exchanged (eq_by_cmp (slice_cmp nat_cmp) b (label_bytes k))
    (eq_by_cmp (slice_cmp nat_cmp) b (label_bytes l)) v w (maps.get m b)
    (λ first second. apart (sym (same_when_tied b (label_bytes k) first) ∙ same_when_tied b (label_bytes l) second))
    ∙ ap (cond (eq_by_cmp (slice_cmp nat_cmp) b (label_bytes k)) v) (sym (get-with_change m l w b))
    ∙ sym (get-with_change (with_change m l w) k v b))

-- a label below another is another
apart_below : (k l : Label) → label_cmp k l ≡ Less → label_bytes k ≡ label_bytes l → ⊥
apart_below k l less same =
    let tied : slice_cmp nat_cmp (label_bytes k) (label_bytes k) ≡ Equal =
    tied_itself nat_list_cmp_total (label_bytes k) in
    let below : slice_cmp nat_cmp (label_bytes k) (label_bytes k) ≡ Less =
    ap (slice_cmp nat_cmp (label_bytes k)) same ∙ less in
    cc

-- a change under a label below all others may come first
with_changes-first : (m : PageMap) (k : Label) (v : Option Page) (es : StagedPages)
    → AllByRecursion (λ l. label_cmp k l ≡ Less) (keys_of es)
    → with_changes (with_change m k v) es ≡ with_change (with_changes m es) k v
with_changes-first m k v [] below = refl
with_changes-first m k v (e ∷ es) below =
    ap (λ (n : PageMap). with_change n e.0 e.1) (with_changes-first m k v es below.1)
    ∙ with_change-swap (with_changes m es) k e.0 v e.1 (apart_below k e.0 below.0)

-- and its page may be put before others are taken away
taken_by-first : (m : PageMap) (k : Label) (page : Page) (es : StagedPages) → label_bytes k ≡ label_bytes page.label
    → AllByRecursion (λ l. label_cmp k l ≡ Less) (keys_of es)
    → taken_by (with_page m page) es ≡ with_page (taken_by m es) page
taken_by-first m k page [] under below = refl
taken_by-first m k page ((l, None) ∷ es) under below =
    ap (λ (n : PageMap). taken_by n es)
    (with_change-swap m page.label l (Some page) None (λ same. apart_below k l below.0 (under ∙ same)))
    ∙ taken_by-first (without_page m l) k page es under below.1
taken_by-first m k page ((l, Some other) ∷ es) under below = taken_by-first m k page es under below.1

-- what is under a label behind a change of it
get-changed : (m : PageMap) (k : Label) (page : Page)
    → maps.get (with_change m k (Some page)) (label_bytes k) ≡ Some page
get-changed m k page =
    get-with_change m k (Some page) (label_bytes k)
    ∙ ap (λ (o : Ordering). cond (is_eq o) (Some page) (maps.get m (label_bytes k)))
    (tied_itself nat_list_cmp_total (label_bytes k))

-- changes with rising labels, whose pages are under their labels
laid-taken : (m : PageMap) (es : StagedPages) → IsStrictlySortedBy label_cmp (keys_of es)
    → IsPageMap (with_changes m es) → laid_by (taken_by m es) (values_of es) ≡ with_changes m es
laid-taken m [] sorted valid = refl
laid-taken m ((k, None) ∷ es) sorted valid =
    let first = with_changes-first m k None es (sorted_head label_cmp k (keys_of es) sorted) in
    laid-taken (without_page m k) es (sorted_tail label_cmp k (keys_of es) sorted) (subst IsPageMap (sym first) valid)
    ∙ first
laid-taken m ((k, Some page) ∷ es) sorted valid =
    let later : AllByRecursion (λ l. label_cmp k l ≡ Less) (keys_of es) = sorted_head label_cmp k (keys_of es) sorted in
    let first = with_changes-first m k (Some page) es later in
    let under : label_bytes k ≡ label_bytes page.label =
    (valid (label_bytes k) page (get-changed (with_changes m es) k page)).under in
    let put : with_page m page ≡ with_change m k (Some page) = ap (λ (b : List ℕ). maps.insert m b page) (sym under) in
    ap (λ (n : PageMap). laid_by n (values_of es))
    (sym (taken_by-first m k page es under later) ∙ ap (λ (n : PageMap). taken_by n es) put)
    ∙ laid-taken (with_change m k (Some page)) es (sorted_tail label_cmp k (keys_of es) sorted)
    (subst IsPageMap (sym first) valid) ∙ first

-- pages were taken away, and then others were laid in
pub carried_out : {T : Type 0} (d : Draw) (old mid new : SlotsState) (changes : StagedPages) (value : Unit {0})
    (result : Result T Fault) → IsStrictlySortedBy label_cmp (keys_of changes) → TakesPages d old mid changes (Ok value)
    → LaysPages d mid new (values_of changes) result
    → LaysChanges d old new changes result
carried_out d old mid new changes value result sorted taken laid = record {
  calls = AreSlotCalls-then old mid new value result taken.calls laid.calls;
  carried = λ m observable holds valid few.
      let same = laid-taken m changes sorted valid in
      subst (λ (n : PageMap). OnOk result (HoldsPages d new.slots n)) same
      (laid.laid (taken_by m changes) (IsObservable-later old mid (Ok value) taken.calls observable)
      (taken.taken m observable holds) (subst (λ (n : PageMap). maps.len n ≤ d.slots) (sym same) few));
}

-- or they could not be taken away
pub carried_failed : (d : Draw) (old mid : SlotsState) (changes : StagedPages) (fault : Fault)
    → TakesPages {T = Unit {0}} d old mid changes (Err fault) → LaysChanges {T = Unit {0}} d old mid changes (Err fault)
carried_failed d old mid changes fault taken = record {
  calls = AreSlotCalls-fault old mid fault taken.calls;
  carried = λ m observable holds valid few. tt;
}
