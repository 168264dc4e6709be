-- A page in hand on its way to a slot, for whatever insertion it is part of.
use Rattle.std.proofs.Common.{◌≡◌, ℕ, ◌+◌, ◌%◌, ◌<◌, ◌≤◌, List, Option, Some, None, sym, subst, arith}
use Rattle.std.specs.Prelude.{Result, Ok, Err}
use Rattle.std.specs.declared.cmp.Ordering.TheVariants.{Less}
use Rattle.store_model.specs.Labels.{Label, label_cmp}
use Rattle.store_model.specs.Draws.{Draw, IsLawful}
use Rattle.store_model.specs.Pages.{Page, IsPage}
use Rattle.store_model.specs.Images.{slot_bytes}
use Rattle.store_base.specs.declared.store_fault.Fault.{Fault}
use Rattle.store_base.specs.SlotsState.{SlotsState, AreSlotCalls, IsGet, IsSet}
use Rattle.store_base.proofs.SlotsCalls.{AreSlotCalls-none, AreSlotCalls-then, AreSlotCalls-value, AreSlotCalls-fault}
use Rattle.ordered_table.specs.Tables.{Inserts}
use Rattle.ordered_table.specs.InsertionWays.{Inserting, Displaces, CarriesOn}
use Rattle.ordered_table.specs.declared.change.Way.{Way}
use Rattle.ordered_table.proofs.InsertCalls.{inserts_fault, inserts_unwritten, inserts_free, inserting_goes_on}
use Rattle.ordered_table.proofs.InsertCalls.{inserting_displaces, inserts_round}

-- ---- to a slot

-- it has come to a slot over smaller pages alone
pub record OnWay (d : Draw) (old now : SlotsState) (way : Way) (hand : List ℕ) (left at : ℕ) : Type 0 where
  pub within : at < d.slots
  pub calls : AreSlotCalls {T = Unit {0}} old now (Ok tt)
  pub inserting : (before : SlotsState) (page : Page) → Inserting d before old page way.left way.at way.label hand
      → Inserting d before now page left at way.label hand

pub on_way_starts : (d : Draw) (state : SlotsState) (way : Way) (hand : List ℕ) (left : ℕ) → way.at < d.slots
    → left ≡ way.left → OnWay d state state way hand left way.at
on_way_starts d state way hand left within same = record {
  within = within;
  calls = AreSlotCalls-none state tt;
  inserting = λ before page s. subst (λ (n : ℕ). Inserting d before state page n way.at way.label hand) (sym same) s;
}

-- a fault of a read
pub settles_unread : (d : Draw) (old now new : SlotsState) (way : Way) (hand buffer there : List ℕ) (left at : ℕ)
    (fault : Fault) → OnWay d old now way hand left at → IsGet {T = Unit {0}} now new at buffer (Err fault)
    → Displaces d old new way hand there (Err fault)
settles_unread d old now new way hand buffer there left at fault s get = record {
  calls = AreSlotCalls-fault old new fault (AreSlotCalls-then old now new tt (Err fault) s.calls get.calls);
  within = tt;
  fewer = tt;
  inserting = λ before page i. inserts_fault d before new page fault
      (AreSlotCalls-then before now new tt (Err fault) (s.inserting before page i).calls get.calls);
}

-- a fault of a write behind a read
pub settles_unwritten : (d : Draw) (old now mid new : SlotsState) (way : Way) (hand buffer there : List ℕ) (left at : ℕ)
    (fault : Fault) → OnWay d old now way hand left at → IsGet {T = Unit {0}} now mid at buffer (Ok tt)
    → IsSet {T = Unit {0}} mid new at hand (Err fault) → Displaces d old new way hand there (Err fault)
settles_unwritten d old now mid new way hand buffer there left at fault s get set = record {
  calls = AreSlotCalls-fault old new fault
      (AreSlotCalls-then old mid new tt (Err fault)
      (AreSlotCalls-then old now mid tt (Ok tt) s.calls get.calls) set.calls);
  within = tt;
  fewer = tt;
  inserting = λ before page i. inserts_unwritten d before now mid new page left at way.label hand buffer fault
      (s.inserting before page i) get set;
}

-- a free slot is its slot
pub settles_free : (d : Draw) (old now mid new : SlotsState) (way : Way) (hand buffer : List ℕ) (left at : ℕ)
    (order : Option Label) → IsLawful d → OnWay d old now way hand left at
    → IsGet {T = Unit {0}} now mid at buffer (Ok tt)
    → ((page : Page) → IsPage page → buffer ≡ slot_bytes (Some page) → order ≡ Some page.label) → order ≡ None
    → IsSet {T = Unit {0}} mid new at hand (Ok tt) → Displaces d old new way hand buffer (Ok None)
settles_free d old now mid new way hand buffer left at order law s get told none set = record {
  calls = AreSlotCalls-value old new tt None
      (AreSlotCalls-then old mid new tt (Ok tt) (AreSlotCalls-then old now mid tt (Ok tt) s.calls get.calls) set.calls);
  within = tt;
  fewer = tt;
  inserting = λ before page i. inserts_free d before now mid new page left at way.label hand buffer order (Ok tt) law
      (s.inserting before page i) get told none set;
}

-- it takes the slot of a greater page
pub settles_displacing : (d : Draw) (old now mid new : SlotsState) (way onward : Way) (hand buffer : List ℕ)
    (left at : ℕ) (order : Option Label) → IsLawful d → OnWay d old now way hand left at
    → IsGet {T = Unit {0}} now mid at buffer (Ok tt)
    → (buffer ≡ slot_bytes None → order ≡ None)
    → ((page : Page) → IsPage page → buffer ≡ slot_bytes (Some page) → order ≡ Some page.label)
    → order ≡ Some onward.label → label_cmp way.label onward.label ≡ Less
    → IsSet {T = Unit {0}} mid new at hand (Ok tt) → onward.at ≡ (at + 1) % d.slots → onward.at < d.slots
    → left ≡ onward.left + 1 → left ≤ way.left → Displaces d old new way hand buffer (Ok (Some onward))
settles_displacing d old now mid new way onward hand buffer left at order law s get free told some less set is_next
    below one_fewer most = record {
      calls = AreSlotCalls-value old new tt (Some onward)
          (AreSlotCalls-then old mid new tt (Ok tt)
          (AreSlotCalls-then old now mid tt (Ok tt) s.calls get.calls) set.calls);
      within = below;
      fewer = omega (arith, one_fewer, most);
      inserting = λ before page i. inserting_displaces d before now mid new page left onward.left at
          onward.at way.label onward.label hand buffer order law
          (s.inserting before page i) get free told some less set is_next one_fewer;
    }

-- it goes on over a smaller page
pub on_way_goes_on : (d : Draw) (old now new : SlotsState) (way : Way) (hand buffer : List ℕ) (left later at next : ℕ)
    (order : Option Label) (other : Label) → IsLawful d → OnWay d old now way hand left at
    → IsGet {T = Unit {0}} now new at buffer (Ok tt)
    → (buffer ≡ slot_bytes None → order ≡ None)
    → ((page : Page) → IsPage page → buffer ≡ slot_bytes (Some page) → order ≡ Some page.label) → order ≡ Some other
    → (label_cmp way.label other ≡ Less → ⊥)
    → next ≡ (at + 1) % d.slots → next < d.slots → left ≡ later + 1 → OnWay d old new way hand later next
on_way_goes_on d old now new way hand buffer left later at next order other law s get free told some not_less is_next
    below one_fewer = record {
      within = below;
      calls = AreSlotCalls-then old now new tt (Ok tt) s.calls get.calls;
      inserting = λ before page i. inserting_goes_on d before now new page left later at next
          way.label other hand buffer
          order law (s.inserting before page i) get free told some not_less is_next one_fewer;
    }

-- it has looked at all slots
pub settles_round : (d : Draw) (old now : SlotsState) (way : Way) (hand there : List ℕ) (left at : ℕ) → left ≡ 0
    → OnWay d old now way hand left at → Displaces d old now way hand there (Ok None)
settles_round d old now way hand there left at none s = record {
  calls = AreSlotCalls-value old now tt None s.calls;
  within = tt;
  fewer = tt;
  inserting = λ before page i. inserts_round d before now page left at way.label hand none (s.inserting before page i);
}

-- ---- one displaced page after the other

-- so many pages were displaced, and another page is in hand
pub record Displacing (d : Draw) (old now : SlotsState) (first way : Way) (first_hand hand : List ℕ) : Type 0 where
  pub within : way.at < d.slots
  pub calls : AreSlotCalls {T = Unit {0}} old now (Ok tt)
  pub inserting : (before : SlotsState) (page : Page)
      → Inserting d before old page first.left first.at first.label first_hand
      → Inserting d before now page way.left way.at way.label hand

pub displacing_starts : (d : Draw) (state : SlotsState) (way : Way) (hand : List ℕ) → way.at < d.slots
    → Displacing d state state way way hand hand
displacing_starts d state way hand within = record {
  within = within;
  calls = AreSlotCalls-none state tt;
  inserting = λ before page s. s;
}

-- what comes with Ok, told by an equation
told_ok : (d : Draw) (old new : SlotsState) (way : Way) (hand there : List ℕ) (found what : Option Way)
    → Displaces d old new way hand there (Ok found) → found ≡ what → Displaces d old new way hand there (Ok what)
told_ok d old new way hand there found what is same =
    subst (λ (o : Option Way). Displaces d old new way hand there (Ok o)) same is

pub displacing_goes_on : (d : Draw) (old now new : SlotsState) (first way onward : Way) (first_hand hand there : List ℕ)
    (found : Option Way) → Displacing d old now first way first_hand hand
    → Displaces d now new way hand there (Ok found) → found ≡ Some onward
    → Displacing d old new first onward first_hand there
displacing_goes_on d old now new first way onward first_hand hand there found s is same =
    let then = told_ok d now new way hand there found (Some onward) is same in
    record {
      within = then.within;
      calls = AreSlotCalls-then old now new tt (Ok tt) s.calls (AreSlotCalls-value now new (Some onward) tt then.calls);
      inserting = λ before page i. then.inserting before page (s.inserting before page i);
    }

pub displacing_fails : (d : Draw) (old now new : SlotsState) (first way : Way) (first_hand hand there : List ℕ)
    (fault : Fault) → Displacing d old now first way first_hand hand → Displaces d now new way hand there (Err fault)
    → CarriesOn {T = Unit {0}} d old new first first_hand (Err fault)
displacing_fails d old now new first way first_hand hand there fault s then = record {
  calls = AreSlotCalls-then old now new tt (Err fault) s.calls (AreSlotCalls-fault now new fault then.calls);
  inserts = λ before page i. then.inserting before page (s.inserting before page i);
}

pub displacing_ends : (d : Draw) (old now new : SlotsState) (first way : Way) (first_hand hand there : List ℕ)
    (found : Option Way) → Displacing d old now first way first_hand hand
    → Displaces d now new way hand there (Ok found) → found ≡ None
    → CarriesOn {T = Unit {0}} d old new first first_hand (Ok tt)
displacing_ends d old now new first way first_hand hand there found s is same =
    let then = told_ok d now new way hand there found None is same in
    record {
      calls = AreSlotCalls-then old now new tt (Ok tt) s.calls (AreSlotCalls-value now new None tt then.calls);
      inserts = λ before page i. then.inserting before page (s.inserting before page i);
    }

-- ---- a whole insertion

-- nothing is displaced
pub inserts_settled : (d : Draw) (old new : SlotsState) (page : Page) (way : Way) (hand there : List ℕ)
    (found : Option Way) → Inserting d old old page way.left way.at way.label hand
    → Displaces d old new way hand there (Ok found) → found ≡ None
    → Inserts {T = Unit {0}} d old new page (Ok tt)
inserts_settled d old new page way hand there found s is same =
    (told_ok d old new way hand there found None is same).inserting old page s

-- a page is displaced, and carried on
pub inserts_carried : (d : Draw) (old mid new : SlotsState) (page : Page) (way onward : Way) (hand there : List ℕ)
    (found : Option Way) (result : Result (Unit {0}) Fault) → Inserting d old old page way.left way.at way.label hand
    → Displaces d old mid way hand there (Ok found) → found ≡ Some onward → CarriesOn d mid new onward there result
    → Inserts d old new page result
inserts_carried d old mid new page way onward hand there found result s is same then =
    then.inserts old page ((told_ok d old mid way hand there found (Some onward) is same).inserting old page s)
