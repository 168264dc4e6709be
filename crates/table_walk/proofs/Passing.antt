-- A way that is gone back.
use Rattle.std.proofs.Common.{◌≡◌, ℕ, zero, suc, ◌+◌, ◌-◌, ◌<◌, ◌≤◌, ◌⊎◌, inl, inr, List, Bool, true, false, Option}
use Rattle.std.proofs.Common.{Some, None, slice_index, refl, ap, sym, subst, ◌∙◌, arith}
use Rattle.std.specs.Prelude.{Ok, Err}
use Rattle.std.specs.Ordering.{nat_cmp}
use Rattle.std.specs.Cmp.Lexicographic.{slice_cmp}
use Rattle.std.proofs.lemmas.Bool.{cases_lt, false≢true}
use Rattle.store_model.specs.Labels.{label_bytes}
use Rattle.store_model.specs.Pages.{Page}
use Rattle.store_model.specs.Placement.{Table, HoldsPage}
use Rattle.store_model.specs.Images.{slot_bytes}
use Rattle.store_model.proofs.PlacementLemmas.{label_cmp_total}
use Rattle.store_model.proofs.PlacementLemmasTables.{held_page}
use Rattle.store_base.specs.declared.store_fault.Fault.{Fault}
use Rattle.store_base.specs.SlotsState.{SlotsState, IsObservable, IsGet}
use Rattle.store_base.proofs.SlotsCalls.{AreSlotCalls-value}
use Rattle.ordered_table.proofs.Reading.{Seen}
use Rattle.table_walk.specs.declared.round.Round.{Round}
use Rattle.table_walk.specs.declared.way.Standing.{Standing}
use Rattle.table_walk.specs.Rounds.{slot_at, IsTable, HoldsSmaller, HoldsLess, AreSmaller, AreReaches, LeadsBack}
use Rattle.table_walk.specs.Rounds.{JumpsLeft, Passes}
use Rattle.table_walk.proofs.Reading.{AreRead, read_none, read_more, read_bytes, read_fault, read_table}

-- The way was gone back to a place: the labels from there on are smaller than the page's.
pub record Passing (round : Round) (old now : SlotsState) (page : Standing) (reach : List ℕ)
    (before steps from : ℕ) : Type 0 where
  pub read : AreRead old now
  pub within : from ≤ page.place
  pub left : (run most : ℕ) → JumpsLeft reach run page.place before most → run + page.way ≤ page.place
      → JumpsLeft reach run from steps most
  pub passed : (table : Table) → IsObservable old → IsTable round.count old.slots table
      → AreReaches table round reach page.place → AreSmaller table round page.label from page.place

pub passing_starts : (round : Round) (old : SlotsState) (page : Standing) (reach : List ℕ) (before : ℕ)
    → Passing round old old page reach before before page.place
passing_starts round old page reach before = record {
  read = read_none old;
  within = omega arith;
  left = λ run most left fits. left;
  passed = λ table observable is reaches at from below. absurd (omega (arith, from, below));
}

-- ---- one slot back

-- a slot of the way is looked at: the one before those that were passed
pub record LooksBack (round : Round) (old mid new : SlotsState) (page : Standing) (reach : List ℕ)
    (before steps from after : ℕ) (bytes wanted : List ℕ) (holds : Bool) : Type 0 where
  pub passing : Passing round old mid page reach before steps from
  pub behind : page.place - from < page.way
  pub fits : page.way ≤ page.place
  pub below : slot_at round (from - 1) < round.count
  pub get : IsGet {T = Unit {0}} mid new (slot_at round (from - 1)) bytes (Ok tt)
  pub wanted_is : wanted ≡ label_bytes page.label
  pub tells : HoldsLess bytes wanted holds
  pub ticked : after ≡ steps + 1

-- a read of a slot that is called by its place
pub get_at : (mid new : SlotsState) (at slot : ℕ) (bytes : List ℕ) → at ≡ slot
    → IsGet {T = Unit {0}} mid new at bytes (Ok tt) → IsGet {T = Unit {0}} mid new slot bytes (Ok tt)
get_at mid new at slot bytes same get = subst (λ (n : ℕ). IsGet {T = Unit {0}} mid new n bytes (Ok tt)) same get

-- what the table holds there, and whether it is smaller
looked : (round : Round) (old mid new : SlotsState) (page : Standing) (reach : List ℕ) (before steps from after : ℕ)
    (bytes wanted : List ℕ) (holds : Bool)
    → LooksBack round old mid new page reach before steps from after bytes wanted holds
    → (table : Table) → IsObservable old → IsTable round.count old.slots table
    → Seen table (slot_at round (from - 1)) bytes
looked round old mid new page reach before steps from after bytes wanted holds l table observable is =
    read_table round.count old.slots table (slot_at round (from - 1)) bytes is
    l.below (read_bytes old mid new (slot_at round (from - 1)) bytes l.passing.read l.get observable)

smaller_there : (round : Round) (old mid new : SlotsState) (page : Standing) (reach : List ℕ)
    (before steps from after : ℕ) (bytes wanted : List ℕ) (holds : Bool)
    → LooksBack round old mid new page reach before steps from after bytes wanted holds
    → (table : Table) → IsObservable old → IsTable round.count old.slots table → holds ≡ true
    → HoldsSmaller table (slot_at round (from - 1)) page.label
smaller_there round old mid new page reach before steps from after bytes wanted holds l table observable is holding =
    by_case s.what refl
  where
    s : Seen table (slot_at round (from - 1)) bytes
    s = looked round old mid new page reach before steps from after bytes wanted holds l table observable is

    by_case : (what : Option Page) → s.what ≡ what → HoldsSmaller table (slot_at round (from - 1)) page.label
    by_case None same = absurd (l.tells.free (s.bytes_are ∙ ap slot_bytes same) holding)
    by_case (Some other) same =
        let held : HoldsPage table (slot_at round (from - 1)) other = s.there ∙ ap Some same in (
          other,
          held,
          ap (slice_cmp nat_cmp (label_bytes other.label)) (sym l.wanted_is)
              ∙ (l.tells.page other (held_page table _ other is.pages held)
              (s.bytes_are ∙ ap slot_bytes same)).0 holding,
        )

not_smaller_there : (round : Round) (old mid new : SlotsState) (page : Standing) (reach : List ℕ)
    (before steps from after : ℕ) (bytes wanted : List ℕ) (holds : Bool)
    → LooksBack round old mid new page reach before steps from after bytes wanted holds
    → (table : Table) → IsObservable old → IsTable round.count old.slots table → holds ≡ false
    → HoldsSmaller table (slot_at round (from - 1)) page.label → ⊥
not_smaller_there round old mid new page reach before steps from after bytes wanted holds l table
    observable is lacking smaller =
    let s = looked round old mid new page reach before steps from after bytes wanted holds l table observable is in
    let other = smaller.0 in
    let spells : bytes ≡ slot_bytes (Some other) =
    s.bytes_are ∙ ap slot_bytes (same_what s.what (Some other) (sym s.there ∙ smaller.1)) in
    let holding : holds ≡ true =
    (l.tells.page other (held_page table _ other is.pages smaller.1) spells).1
    (ap (slice_cmp nat_cmp (label_bytes other.label)) l.wanted_is ∙ smaller.2) in
    false≢true (sym lacking ∙ holding)
  where
    same_what : (a b : Option Page) → Some a ≡ Some b → a ≡ b
    same_what a b e = cc

-- a jump back is one of those that are left
jumped : (reach : List ℕ) (run from steps most : ℕ) → run < from → JumpsLeft reach run from steps most
    → JumpsLeft reach run (slice_index reach (from - 1)) (steps + 1) most
jumped reach run from steps most behind left = by_jumps left.jumps left.back left.counted
  where
    by_jumps : (jumps : ℕ) → LeadsBack reach run from jumps → steps + jumps ≤ most
        → JumpsLeft reach run (slice_index reach (from - 1)) (steps + 1) most
    by_jumps zero back counted = absurd (omega (arith, back, behind))
    by_jumps (suc jumps) back counted = record { jumps = jumps; back = back.1; counted = omega (arith, counted) }

-- it holds a smaller label, and what that one reaches over is smaller still
pub passing_more : (round : Round) (old mid new : SlotsState) (page : Standing) (reach : List ℕ)
    (before steps from after next : ℕ) (bytes wanted : List ℕ) (holds : Bool)
    → LooksBack round old mid new page reach before steps from after bytes wanted holds
    → holds ≡ true → ((place : ℕ) → place < page.place → slice_index reach place ≤ place)
    → next ≡ slice_index reach (from - 1) → Passing round old new page reach before after next
passing_more round old mid new page reach before steps from after next bytes wanted holds l holding back next_is =
    record {
      read = read_more old mid new (slot_at round (from - 1)) bytes l.passing.read l.get;
      within = let low = back (from - 1) (omega (arith, l.passing.within, l.behind, l.fits))
          in omega (arith, low, next_is, l.passing.within);
      left = λ run most left fits.
          let more = jumped reach run from steps most (omega (arith, l.behind, fits))
          (l.passing.left run most left fits) in
          subst (λ (n : ℕ). JumpsLeft reach run n after most) (sym next_is)
          (subst (λ (n : ℕ). JumpsLeft reach run (slice_index reach (from - 1)) n most) (sym l.ticked) more);
      passed = λ table observable is reaches.
          let there = smaller_there round old mid new page reach before steps from after bytes wanted holds l table
          observable is holding in
          λ at behind below. by_place table (l.passing.passed table observable is reaches) there
          (reaches (from - 1) there.0 (omega (arith, l.passing.within, l.behind, l.fits)) there.1) at behind below
          (cases_lt at from) (cases_lt at (from - 1));
    }
  where
    by_place : (table : Table) → AreSmaller table round page.label from page.place
        → (there : HoldsSmaller table (slot_at round (from - 1)) page.label)
        → AreSmaller table round there.0.label (slice_index reach (from - 1)) (from - 1)
        → (at : ℕ) → next ≤ at → at < page.place → (at < from) ⊎ (from ≤ at) → (at < from - 1) ⊎ (from - 1 ≤ at)
        → HoldsSmaller table (slot_at round at) page.label
    by_place table passed there reached at behind below (inr later) r = passed at later below
    by_place table passed there reached at behind below (inl earlier) (inl before) =
        let over = reached at (omega (arith, next_is, behind)) before in
        (over.0, over.1, label_cmp_total.trans over.0.label there.0.label page.label over.2 there.2)
    by_place table passed there reached at behind below (inl earlier) (inr here) =
        let same : from - 1 ≡ at = omega (arith, earlier, here) in
        subst (λ (n : ℕ). HoldsSmaller table (slot_at round n) page.label) same there

-- ---- what is found

-- a slot that holds no smaller label
pub passes_not : (round : Round) (old mid new : SlotsState) (page : Standing) (reach : List ℕ)
    (before steps from after : ℕ) (bytes wanted : List ℕ) (holds : Bool)
    → LooksBack round old mid new page reach before steps from after bytes wanted holds
    → holds ≡ false → Passes round old new page reach before after (Ok None)
passes_not round old mid new page reach before steps from after bytes wanted holds l lacking =
    let read = read_more old mid new (slot_at round (from - 1)) bytes l.passing.read l.get in
    record {
      calls = AreSlotCalls-value old new tt None read.calls;
      reads = read.same;
      within = tt;
      most = λ run most left fits. looks_most run most left fits;
      left = λ run most left fits. tt;
      way = λ table observable is reaches. record {
        at = from - 1;
        behind = omega (arith, l.passing.within, l.behind, l.fits);
        before = omega (arith, l.passing.within, l.behind, l.fits);
        greater = not_smaller_there round old mid new page reach before steps from after bytes wanted holds l
            table observable is lacking;
      };
    }
  where
    looks_most : (run most : ℕ) → JumpsLeft reach run page.place before most
        → run + page.way ≤ page.place → after ≤ most
    looks_most run most left fits =
        let more = jumped reach run from steps most (omega (arith, l.behind, fits)) (l.passing.left run most left fits)
        in
        let counted = more.counted in
        omega (arith, l.ticked, counted)

-- a fault of the slots
pub passes_fails : (round : Round) (old mid new : SlotsState) (page : Standing) (reach : List ℕ)
    (before steps from after : ℕ) (at : ℕ) (bytes : List ℕ) (fault : Fault)
    → Passing round old mid page reach before steps from
    → page.place - from < page.way → IsGet {T = Unit {0}} mid new at bytes (Err fault) → after ≡ steps + 1
    → Passes round old new page reach before after (Err fault)
passes_fails round old mid new page reach before steps from after at bytes fault p behind get ticked =
    let ends = read_fault {U = Option ℕ} old mid new fault
    p.read get.calls (λ observable. (get.observed observable).slots) in
    record {
      calls = ends.calls;
      reads = ends.same;
      within = tt;
      most = λ run most left fits. let counted =
          (jumped reach run from steps most (omega (arith, behind, fits)) (p.left run most left fits)).counted
          in omega (arith, ticked, counted);
      left = λ run most left fits. tt;
      way = λ table observable is reaches. tt;
    }
