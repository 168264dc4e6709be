-- A search for a slot that no page passes, on its way.
use Rattle.std.proofs.Common.{◌≡◌, ℕ, ◌+◌, ◌<◌, ◌≤◌, ◌⊎◌, inl, inr, List, Option, Some, None, slice_get, ap, sym, subst}
use Rattle.std.proofs.Common.{◌∙◌, arith}
use Rattle.std.specs.Prelude.{Ok}
use Rattle.std.specs.declared.cmp.Ordering.TheVariants.{Less, Equal}
use Rattle.std.proofs.lemmas.Bool.{cases_lt}
use Rattle.std.proofs.lemmas.Cmp.{tied_itself}
use Rattle.std.proofs.lemmas.Option.{slice_get_within}
use Rattle.store_model.specs.Labels.{Label, label_cmp}
use Rattle.store_model.specs.Pages.{Page, IsPage}
use Rattle.store_model.specs.Placement.{Table, HoldsPage}
use Rattle.store_model.specs.Images.{slot_bytes}
use Rattle.store_model.proofs.PlacementLemmas.{label_cmp_total}
use Rattle.store_model.proofs.PlacementLemmasOrder.{one_page}
use Rattle.store_base.specs.SlotsState.{SlotsState, IsObservable, IsGet}
use Rattle.store_base.proofs.SlotsCalls.{AreSlotCalls-value}
use Rattle.table_walk.specs.Rounds.{IsTable, FindsBar}
use Rattle.table_walk.proofs.Reading.{AreRead, read_none, read_more, read_bytes, read_table, seen_label, seen_no_label}

-- the label is the greatest of those in the first slots, and that of the page in this slot
pub record IsGreatest (table : Table) (at bar : ℕ) (greatest : Label) : Type 0 where
  pub all : (slot : ℕ) (page : Page) → slot < at → HoldsPage table slot page → label_cmp greatest page.label ≡ Less → ⊥
  pub own : (page : Page) → 0 < at → HoldsPage table bar page → page.label ≡ greatest

pub record Barring (old now : SlotsState) (at bar : ℕ) (greatest : Label) : Type 0 where
  pub read : AreRead old now
  pub within : bar < old.count
  pub is : (table : Table) → IsObservable old → IsTable old.count old.slots table → IsGreatest table at bar greatest

pub barring_starts : (old : SlotsState) (greatest : Label) → 0 < old.count → Barring old old 0 0 greatest
barring_starts old greatest some = record {
  read = read_none old;
  within = some;
  is = λ table observable is. record {
    all = λ slot page below. absurd (omega arith);
    own = λ page positive. absurd (omega arith);
  };
}

-- ---- one slot more

-- the label of the page in a slot that was read
pub record ReadsLabel (bytes : List ℕ) (read : Option Label) : Type 0 where
  pub free : bytes ≡ slot_bytes None → read ≡ None
  pub page : (page : Page) → IsPage page → bytes ≡ slot_bytes (Some page) → read ≡ Some page.label

-- no label is smaller than itself
not_smaller : (a b : Label) → a ≡ b → label_cmp a b ≡ Less → ⊥
not_smaller a b same less = let tied : label_cmp a b ≡ Equal =
    ap (label_cmp a) (sym same) ∙ tied_itself label_cmp_total a in cc

-- its label is greater, or it is the first
pub barring_moves : (old mid new : SlotsState) (at bar : ℕ) (greatest : Label) (bytes : List ℕ) (read : Option Label)
    (label : Label) → Barring old mid at bar greatest → at < old.count
    → IsGet {T = Unit {0}} mid new at bytes (Ok tt) → ReadsLabel bytes read → read ≡ Some label
    → (0 < at → label_cmp greatest label ≡ Less) → Barring old new (at + 1) at label
barring_moves old mid new at bar greatest bytes read label b below get reads got greater = record {
  read = read_more old mid new at bytes b.read get;
  within = below;
  is = λ table observable is.
      let s = read_table old.count old.slots table at bytes is below
      (read_bytes old mid new at bytes b.read get observable) in
      let there = seen_label old.count old.slots table at bytes read label is s reads.free reads.page got in
      let before = b.is table observable is in
      record {
        all = λ slot page least held less. by_place table slot page there before held less
            (cases_lt slot at) (omega arith);
        own = λ page positive held. ap (λ (p : Page). p.label) (one_page table at page there.0 held there.1) ∙ there.2;
      };
}
  where
    by_place : (table : Table) (slot : ℕ) (page : Page) → (own : (p : Page) × HoldsPage table at p × (p.label ≡ label))
        → IsGreatest table at bar greatest → HoldsPage table slot page → label_cmp label page.label ≡ Less
        → (slot < at) ⊎ (at ≤ slot) → slot ≤ at → ⊥
    by_place table slot page own before held less (inl earlier) least =
        before.all slot page earlier held
        (label_cmp_total.trans greatest label page.label (greater (omega (arith, earlier))) less)
    by_place table slot page own before held less (inr later) least =
        let here : slot ≡ at = omega (arith, later, least) in
        let same = one_page table at page own.0 (subst (λ (n : ℕ). HoldsPage table n page) here held) own.1 in
        not_smaller label page.label (sym own.2 ∙ ap (λ (p : Page). p.label) (sym same)) less

-- its label is no greater
pub barring_stays : (old mid new : SlotsState) (at bar : ℕ) (greatest : Label) (bytes : List ℕ) (read : Option Label)
    (label : Label) → Barring old mid at bar greatest → at < old.count
    → IsGet {T = Unit {0}} mid new at bytes (Ok tt) → ReadsLabel bytes read → read ≡ Some label → 0 < at
    → (label_cmp greatest label ≡ Less → ⊥) → Barring old new (at + 1) bar greatest
barring_stays old mid new at bar greatest bytes read label b below get reads got positive no_greater = record {
  read = read_more old mid new at bytes b.read get;
  within = b.within;
  is = λ table observable is.
      let s = read_table old.count old.slots table at bytes is below
      (read_bytes old mid new at bytes b.read get observable) in
      let there = seen_label old.count old.slots table at bytes read label is s reads.free reads.page got in
      let before = b.is table observable is in
      record {
        all = λ slot page least held less. by_place table slot page there before held less
            (cases_lt slot at) (omega arith);
        own = λ page later held. before.own page positive held;
      };
}
  where
    by_place : (table : Table) (slot : ℕ) (page : Page) → (own : (p : Page) × HoldsPage table at p × (p.label ≡ label))
        → IsGreatest table at bar greatest → HoldsPage table slot page → label_cmp greatest page.label ≡ Less
        → (slot < at) ⊎ (at ≤ slot) → slot ≤ at → ⊥
    by_place table slot page own before held less (inl earlier) least = before.all slot page earlier held less
    by_place table slot page own before held less (inr later) least =
        let here : slot ≡ at = omega (arith, later, least) in
        let same = one_page table at page own.0 (subst (λ (n : ℕ). HoldsPage table n page) here held) own.1 in
        no_greater (subst (λ (l : Label). label_cmp greatest l ≡ Less) (ap (λ (p : Page). p.label) same ∙ own.2) less)

-- ---- what is found

-- a free slot
pub bar_free : (old mid new : SlotsState) (at bar before steps after : ℕ) (greatest : Label) (bytes : List ℕ)
    (read : Option Label) → Barring old mid at bar greatest → at < old.count
    → IsGet {T = Unit {0}} mid new at bytes (Ok tt) → ReadsLabel bytes read → read ≡ None → steps ≡ before + at
    → after ≡ steps + 1 → FindsBar old new before after (Ok at)
bar_free old mid new at bar before steps after greatest bytes read b below get reads none counted ticked =
    let more = read_more old mid new at bytes b.read get in
    record {
      calls = AreSlotCalls-value old new tt at more.calls;
      reads = more.same;
      within = below;
      most = omega arith;
      bar = λ table observable is.
          let s = read_table old.count old.slots table at bytes is below
          (read_bytes old mid new at bytes b.read get observable) in
          let free = seen_no_label old.count old.slots table at bytes read is s reads.page none in
          λ slot page held smaller. holds_none table smaller.0 free smaller.1;
    }
  where
    holds_none : (table : Table) (page : Page) → slice_get table at ≡ Some None → HoldsPage table at page → ⊥
    holds_none table page free held = cc

-- or that of the greatest label
pub bar_greatest : (old now : SlotsState) (at bar before after : ℕ) (greatest : Label) → Barring old now at bar greatest
    → 0 < old.count → at ≡ old.count → after ≡ before + at → FindsBar old now before after (Ok bar)
bar_greatest old now at bar before after greatest b some all counted = record {
  calls = AreSlotCalls-value old now tt bar b.read.calls;
  reads = b.read.same;
  within = b.within;
  most = omega arith;
  bar = λ table observable is slot page held smaller.
      let before = b.is table observable is in
      let long = is.length_is in
      let below : slot < at = omega (arith, slice_get_within table slot (Some page) held, long, all) in
      before.all slot page below held
      (subst (λ (l : Label). label_cmp l page.label ≡ Less)
      (before.own smaller.0 (omega (arith, some, all)) smaller.1) smaller.2);
}
