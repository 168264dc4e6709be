-- Lemmas on what is found of a label.
use Rattle.std.proofs.Common.{◌≡◌, ◌↔◌, ℕ, ◌<◌, Bool, true, false, List, Option, Some, None, IsNone, IfSome, IfOk}
use Rattle.std.proofs.Common.{Result, Ok, Err, is_some, slice_get, refl, sym, ap, subst, ◌∙◌}
use Rattle.std.proofs.lemmas.Option.{same_Some, none-some}
use Rattle.std.specs.Map.{lookup}
use Rattle.std.specs.BTreeMap.{is_at}
use Rattle.store_model.specs.Labels.{Label, label_bytes, label_cmp}
use Rattle.store_model.specs.Draws.{Draw}
use Rattle.store_model.specs.Pages.{Page, IsPage}
use Rattle.store_model.specs.Images.{page_bytes, slot_bytes}
use Rattle.store_model.specs.PageMaps.{PageMap, page_at, HoldsPages}
use Rattle.store_base.specs.declared.store_fault.Fault.{Fault}
use Rattle.store_base.specs.SlotsState.{SlotsState, IsObservable, AreSlotCalls, IsGet}
use Rattle.store_base.proofs.SlotsCalls.{AreSlotCalls-none, AreSlotCalls-then, AreSlotCalls-value, AreSlotCalls-fault}
use Rattle.store_base.proofs.SlotsCalls.{IsObservable-later}
use Rattle.ordered_table.specs.Tables.{IsSlotWith, Looks}
use Rattle.table_memory.specs.Staging.{StagedPages, with_changes}
use Rattle.page_store.specs.Lookups.{Consults, Locates, LocatesAgain, LooksUp}
use Rattle.table_memory.proofs.ChangeLemmas.{page_or, page_at-with_changes}

-- a read of the page of a label
pub record Reads (d : Draw) (old new : SlotsState) (l : Label) (result : Result (Option Page) Fault) : Type 0 where
  pub calls : AreSlotCalls old new result
  pub reads : IsObservable old → new.slots ≡ old.slots
  pub found : (m : PageMap) → IsObservable old → HoldsPages d old.slots m → IfOk result (λ page. page ≡ page_at m l)

-- a read of the page of a label, with changes
pub record ReadsChanged (d : Draw) (old new : SlotsState) (changes : StagedPages) (l : Label)
    (result : Result (Option Page) Fault) : Type 0 where
  pub calls : AreSlotCalls old new result
  pub reads : IsObservable old → new.slots ≡ old.slots
  pub found : (m : PageMap) → IsObservable old → HoldsPages d old.slots m
      → IfOk result (λ page. page ≡ page_at (with_changes m changes) l)

-- the page in the slot that was found
pub page_read : (d : Draw) (old mid new : SlotsState) (l : Label) (at : ℕ) (buffer : List ℕ) (page : Option Page)
    → Locates d old mid l (Ok (Some at)) → IsGet {T = Unit {0}} mid new at buffer (Ok tt)
    → ((p : Page) → IsPage p → page_bytes p ≡ buffer → page ≡ Some p) → Reads d old new l (Ok page)
unfolding slot_bytes
page_read d old mid new l at buffer page located got only = record {
  calls = AreSlotCalls-then old mid new (Some at)
      (Ok page) located.calls (AreSlotCalls-value mid new tt page got.calls);
  reads = λ observable. (got.observed (IsObservable-later old mid (Ok (Some at)) located.calls observable)).slots
      ∙ located.reads observable;
  found = λ m observable holds.
      let there = (located.found m observable holds).slot in
      let shows = (got.observed (IsObservable-later old mid (Ok (Some at)) located.calls observable)).got in
      let bytes : slot_bytes (Some there.page) ≡ buffer =
      same_Some (slot_bytes (Some there.page)) buffer
      (sym there.in_slot ∙ ap (λ (ss : List (List ℕ)). slice_get ss at) (sym (located.reads observable)) ∙ shows) in
      only there.page (holds.pages (label_bytes l) there.page there.in_map).valid bytes ∙ sym there.in_map;
}

-- no slot was found
pub none_read : (d : Draw) (old new : SlotsState) (l : Label) → Locates d old new l (Ok None)
    → Reads d old new l (Ok None)
none_read d old new l located = record {
  calls = AreSlotCalls-value old new None None located.calls;
  reads = located.reads;
  found = λ m observable holds. sym ((located.found m observable holds).absent.0 refl);
}

-- the slot that was found is where it was behind the search
pub still_located : (d : Draw) (old new : SlotsState) (l : Label) (at : ℕ) → Locates d old new l (Ok (Some at))
    → Locates d new new l (Ok (Some at))
still_located d old new l at located = record {
  calls = AreSlotCalls-none new (Some at);
  reads = λ observable. refl;
  within = subst (λ (n : ℕ). at < n) (sym located.calls.count) located.within;
  found = λ m observable holds.
      let before : IsObservable old = sym located.calls.observable ∙ observable in
      let was = located.found m before
      (subst (λ (slots : List (List ℕ)). HoldsPages d slots m) (located.reads before) holds) in
      record {
        absent = was.absent;
        slot = subst (λ (slots : List (List ℕ)). IsSlotWith slots m l at) (sym (located.reads before)) was.slot;
      };
}

-- nothing is told where the slot of a hint lies behind the table
pub again_untold : (d : Draw) (slots : SlotsState) (l : Label) → LocatesAgain d slots slots l (Ok None)
again_untold d slots l = record {
  calls = AreSlotCalls-none slots None;
  reads = λ observable. refl;
  within = tt;
  found = λ m observable holds. tt;
}

-- or does not hold the page
pub again_missed : (d : Draw) (old new : SlotsState) (at : ℕ) (l : Label) (is_there : Bool)
    → Looks d old new at l (Ok is_there) → LocatesAgain d old new l (Ok None)
again_missed d old new at l is_there looked = record {
  calls = AreSlotCalls-value old new is_there None looked.calls;
  reads = looked.reads;
  within = tt;
  found = λ m observable holds. tt;
}

-- or where the slots fail
pub again_failed : (d : Draw) (old new : SlotsState) (at : ℕ) (l : Label) (fault : Fault)
    → Looks d old new at l (Err fault) → LocatesAgain d old new l (Err fault)
again_failed d old new at l fault looked = record {
  calls = AreSlotCalls-fault old new fault looked.calls;
  reads = looked.reads;
  within = tt;
  found = λ m observable holds. tt;
}

-- the page is where it was found last
pub located_again : (d : Draw) (old new : SlotsState) (l : Label) (at : ℕ) → LocatesAgain d old new l (Ok (Some at))
    → Locates d old new l (Ok (Some at))
located_again d old new l at again = record {
  calls = again.calls;
  reads = again.reads;
  within = again.within;
  found = λ m observable holds.
      let there = again.found m observable holds in
      record { absent = some_there (page_at m l) there.page there.in_map; slot = there };
}
  where
    some_there : (o : Option Page) (page : Page) → o ≡ Some page → IsNone (Some at) ↔ (o ≡ None)
    some_there o page is = (λ none. absurd (cc), λ empty. absurd (none-some page (sym empty ∙ is)))

-- a look that failed
pub located_failed : (d : Draw) (old new : SlotsState) (l : Label) (fault : Fault)
    → LocatesAgain d old new l (Err fault) → Locates d old new l (Err fault)
located_failed d old new l fault again = record {
  calls = again.calls;
  reads = again.reads;
  within = tt;
  found = λ m observable holds. record { absent = tt; slot = tt };
}

-- a search behind a look that told nothing
pub located_then : (d : Draw) (old mid new : SlotsState) (l : Label) (result : Result (Option ℕ) Fault)
    → LocatesAgain d old mid l (Ok None) → Locates d mid new l result → Locates d old new l result
located_then d old mid new l (Ok found) again located = record {
  calls = AreSlotCalls-then old mid new None (Ok found) again.calls located.calls;
  reads = λ observable. located.reads (later observable) ∙ again.reads observable;
  within = subst (λ (n : ℕ). IfSome found (λ at. at < n)) again.calls.count located.within;
  found = λ m observable holds.
      let is = located.found m (later observable)
      (subst (λ (slots : List (List ℕ)). HoldsPages d slots m) (sym (again.reads observable)) holds) in
      record {
        absent = is.absent;
        slot = subst (λ (slots : List (List ℕ)). IfSome found (IsSlotWith slots m l))
            (again.reads observable) is.slot;
      };
}
  where
    later : IsObservable old → IsObservable mid
    later = IsObservable-later old mid (Ok None) again.calls
located_then d old mid new l (Err fault) again located = record {
  calls = AreSlotCalls-then old mid new None (Err fault) again.calls located.calls;
  reads = λ observable. located.reads (IsObservable-later old mid (Ok None) again.calls observable)
      ∙ again.reads observable;
  within = tt;
  found = λ m observable holds. record { absent = tt; slot = tt };
}

-- a search behind reads
pub located_behind : (d : Draw) (old mid new : SlotsState) (l : Label) (result : Result (Option ℕ) Fault)
    → Consults {T = Unit {0}} old mid (Ok tt) → Locates d mid new l result → Locates d old new l result
located_behind d old mid new l result consults located = located_then d old mid new l result (record {
  calls = AreSlotCalls-value old mid tt None consults.calls;
  reads = consults.reads;
  within = tt;
  found = λ m observable holds. tt;
}) located

-- or none, where they failed
pub located_never : (d : Draw) (old new : SlotsState) (l : Label) (fault : Fault)
    → Consults {T = Unit {0}} old new (Err fault) → Locates d old new l (Err fault)
located_never d old new l fault consults = record {
  calls = AreSlotCalls-fault old new fault consults.calls;
  reads = consults.reads;
  within = tt;
  found = λ m observable holds. record { absent = tt; slot = tt };
}

-- the read of a slot only reads
pub consults_get : (old new : SlotsState) (at : ℕ) (buffer : List ℕ) (result : Result (Unit {0}) Fault)
    → IsGet old new at buffer result → Consults old new result
consults_get old new at buffer result got = record {
  calls = got.calls;
  reads = λ observable. (got.observed observable).slots;
}

-- a search that found something, or nothing, or failed, only reads
pub consults_found : (d : Draw) (old new : SlotsState) (l : Label) (found : Option ℕ) → Locates d old new l (Ok found)
    → Consults {T = Unit {0}} old new (Ok tt)
consults_found d old new l found located = record {
  calls = AreSlotCalls-value old new found tt located.calls;
  reads = located.reads;
}

pub consults_failed : (d : Draw) (old new : SlotsState) (l : Label) (fault : Fault) → Locates d old new l (Err fault)
    → Consults {T = Unit {0}} old new (Err fault)
consults_failed d old new l fault located = record {
  calls = AreSlotCalls-fault old new fault located.calls;
  reads = located.reads;
}

pub consults_then : (d : Draw) (old mid new : SlotsState) (l : Label) (found : Option ℕ)
    (result : Result (Unit {0}) Fault) → Locates d old mid l (Ok found) → Consults mid new result
    → Consults old new result
consults_then d old mid new l found result located then = record {
  calls = AreSlotCalls-then old mid new found result located.calls then.calls;
  reads = λ observable. then.reads (IsObservable-later old mid (Ok found) located.calls observable)
      ∙ located.reads observable;
}

pub finds_failed : (d : Draw) (old new : SlotsState) (changes : StagedPages) (l : Label) (fault : Fault)
    → Locates d old new l (Err fault) → LooksUp d old new changes l (Err fault)
finds_failed d old new changes l fault located = record {
  calls = AreSlotCalls-fault old new fault located.calls;
  reads = located.reads;
  found = λ m observable holds. tt;
}

-- where something is staged under the label
staged_is : (m : PageMap) (changes : StagedPages) (l : Label) (page : Option Page)
    → Some page ≡ lookup (is_at (label_cmp l)) changes → page ≡ page_at (with_changes m changes) l
staged_is m changes l page staged = ap (λ (o : Option (Option Page)). page_or o (page_at m l)) staged
    ∙ sym (page_at-with_changes m changes l)

pub staged_read : (d : Draw) (slots : SlotsState) (changes : StagedPages) (l : Label) (page : Option Page)
    → Some page ≡ lookup (is_at (label_cmp l)) changes → ReadsChanged d slots slots changes l (Ok page)
staged_read d slots changes l page staged = record {
  calls = AreSlotCalls-none slots page;
  reads = λ observable. refl;
  found = λ m observable holds. staged_is m changes l page staged;
}

-- where nothing is
settled_is : (m : PageMap) (changes : StagedPages) (l : Label) → None ≡ lookup (is_at (label_cmp l)) changes
    → page_at m l ≡ page_at (with_changes m changes) l
settled_is m changes l none = ap (λ (o : Option (Option Page)). page_or o (page_at m l)) none
    ∙ sym (page_at-with_changes m changes l)

pub settled_read : (d : Draw) (old new : SlotsState) (changes : StagedPages) (l : Label)
    (result : Result (Option Page) Fault) → None ≡ lookup (is_at (label_cmp l)) changes → Reads d old new l result
    → ReadsChanged d old new changes l result
settled_read d old new changes l (Ok page) none read = record {
  calls = read.calls;
  reads = read.reads;
  found = λ m observable holds. read.found m observable holds ∙ settled_is m changes l none;
}
settled_read d old new changes l (Err fault) none read = record {
  calls = read.calls;
  reads = read.reads;
  found = λ m observable holds. tt;
}

-- whether there is a page, by the page that was read
pub found_by_read : (d : Draw) (old new : SlotsState) (changes : StagedPages) (l : Label) (page : Option Page)
    (is_there : Bool) → ReadsChanged d old new changes l (Ok page) → is_there ≡ is_some page
    → LooksUp d old new changes l (Ok is_there)
found_by_read d old new changes l page is_there read is = record {
  calls = AreSlotCalls-value old new page is_there read.calls;
  reads = read.reads;
  found = λ m observable holds. is ∙ ap is_some (read.found m observable holds);
}

-- or by the place where it stands
same_found : (at : Option ℕ) (page : Option Page) → (IsNone at ↔ (page ≡ None)) → is_some at ≡ is_some page
same_found None None both = refl
same_found None (Some page) both = absurd (none-some page (sym (both.0 refl)))
same_found (Some at) None both = let none : true ≡ false = both.1 refl in absurd (cc)
same_found (Some at) (Some page) both = refl

pub found_by_place : (d : Draw) (old new : SlotsState) (changes : StagedPages) (l : Label) (at : Option ℕ)
    (is_there : Bool) → None ≡ lookup (is_at (label_cmp l)) changes → Locates d old new l (Ok at)
    → is_there ≡ is_some at → LooksUp d old new changes l (Ok is_there)
found_by_place d old new changes l at is_there none located is = record {
  calls = AreSlotCalls-value old new at is_there located.calls;
  reads = located.reads;
  found = λ m observable holds. is ∙ same_found at (page_at m l) (located.found m observable holds).absent
      ∙ ap is_some (settled_is m changes l none);
}
