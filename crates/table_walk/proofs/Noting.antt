-- The entries that a check notes on its way.
use Rattle.std.proofs.Common.{◌≡◌, ◌≢◌, ℕ, ◌+◌, ◌<◌, ◌≤◌, ◌⊎◌, inl, inr, List, Option, Some, None, Result, Ok, Err}
use Rattle.std.proofs.Common.{IfOk, IfSome, length, take, slice_set, slice_index_or, ap, sym, subst, ◌∙◌, arith}
use Rattle.std.proofs.Common.{get_or-set_same, get_or-set_other, get_or-take}
use Rattle.std.proofs.lemmas.Bool.{cases_lt}
use Rattle.std.proofs.lemmas.List.{length-take-le}
use Rattle.std.proofs.lemmas.Option.{same_Some, none-some, slice_get_within}
use Rattle.store_model.specs.Labels.{Label}
use Rattle.store_model.specs.Draws.{Draw}
use Rattle.store_model.specs.Pages.{Page}
use Rattle.store_model.specs.Images.{slot_bytes}
use Rattle.store_model.proofs.PlacementLemmas.{probe_reaches}
use Rattle.store_model.proofs.TreesLemmasBytes.{slots_same}
use Rattle.store_base.specs.declared.store_fault.Fault.{Fault}
use Rattle.store_base.specs.SlotsState.{SlotsState, IsObservable, IsCounted}
use Rattle.table_walk.specs.declared.entry.Entry.{Entry}
use Rattle.table_walk.specs.Indexes.{entry_of, LiesIn, IsIndexOf, AreNoted, IsSortOf}
use Rattle.table_walk.proofs.Noted.{index_same, index_sorted}
use Rattle.table_walk.specs.declared.round.Round.{Round}
use Rattle.table_walk.specs.Contents.{IsHeld}
use Rattle.table_walk.specs.Rounds.{slot_at, FindsBar}
use Rattle.table_walk.proofs.Checking.{Visits, visited_bytes, one_more}

-- one of the first entries, of which so many are used
pub record IsAmong (entries : List Entry) (used : ℕ) (entry : Entry) : Type 0 where
  pub number : ℕ
  pub within : number < used
  pub there : (e : Entry) → slice_index_or entries number e ≡ entry

-- the pages in the slots at the first places of a round were noted
pub record Noting (digests : Label → ℕ) (round : Round) (old : SlotsState) (entries : List Entry)
    (place used : ℕ) : Type 0 where
  pub there : (k : ℕ) (e : Entry) → k < used → (slice_index_or entries k e).slot < round.count
  pub noted : IsObservable old → (at : ℕ) → at < place → (page : Page) → LiesIn old.slots (slot_at round at) page
      → IsAmong entries used (entry_of (digests page.label) (slot_at round at))

pub noting_starts : (digests : Label → ℕ) (round : Round) (old : SlotsState) (entries : List Entry)
    → Noting digests round old entries 0 0
noting_starts digests round old entries = record {
  there = λ k e below. absurd (omega (arith, below));
  noted = λ observable at below. absurd (omega (arith, below));
}

module _ (d : Draw) (height : ℕ) (round : Round) (old mid new : SlotsState) (before steps : ℕ) (reach : List ℕ)
    (place run used at : ℕ) (bytes : List ℕ)
    (v : Visits d height round old mid new before steps reach place run used at bytes)
    (entries : List Entry) (digests : Label → ℕ)
    (noting : Noting digests round old entries place used) where
  -- what lies in the slot that is read is what its bytes spell
  spelled : IsObservable old → (page : Page) → LiesIn old.slots (slot_at round place) page
      → bytes ≡ slot_bytes (Some page)
  spelled observable page lies = same_Some bytes (slot_bytes (Some page))
      (sym (visited_bytes d height round old mid new before steps reach place run used at bytes v observable)
      ∙ lies.in_slot)

  -- a free slot has no page
  pub noting_free : bytes ≡ slot_bytes None → Noting digests round old entries (place + 1) used
  noting_free zeros = record {
    there = noting.there;
    noted = λ observable. one_more (λ at. (page : Page) → LiesIn old.slots (slot_at round at) page
        → IsAmong entries used (entry_of (digests page.label) (slot_at round at))) place (noting.noted observable)
        (λ page lies.
        absurd (none-some page
        (slots_same None (Some page) tt lies.valid (sym zeros ∙ spelled observable page lies))));
  }

  -- a page is noted
  pub noting_page : (label : Label) (entry : Entry) → IsHeld bytes height label → entry ≡ entry_of (digests label) at
      → used < length entries → Noting digests round old (slice_set entries used entry) (place + 1) (used + 1)
  noting_page label entry held is room = record {
    there = λ k e below. by_number k e (cases_lt k used) below;
    noted = λ observable. one_more (λ at. (page : Page) → LiesIn old.slots (slot_at round at) page
        → IsAmong (slice_set entries used entry) (used + 1) (entry_of (digests page.label) (slot_at round at))) place
        (λ at earlier page lies. among (noting.noted observable at earlier page lies))
        (λ page lies. here observable page lies);
  }
    where
      this : (e : Entry) → slice_index_or (slice_set entries used entry) used e ≡ entry
      this e = get_or-set_same entries used entry e room

      other : (k : ℕ) (e : Entry) → k < used → slice_index_or (slice_set entries used entry) k e
          ≡ slice_index_or entries k e
      other k e below = let apart : k ≢ used = omega (arith, below) in get_or-set_other entries used k entry e apart

      by_number : (k : ℕ) (e : Entry) → (k < used) ⊎ (used ≤ k) → k < used + 1
          → (slice_index_or (slice_set entries used entry) k e).slot < round.count
      by_number k e (inl low) below = subst (λ (found : Entry). found.slot < round.count)
          (sym (other k e low)) (noting.there k e low)
      by_number k e (inr high) below =
          let same : used ≡ k = omega (arith, below, high) in
          let slot : entry.slot < round.count = subst (λ (found : Entry). found.slot < round.count) (sym is) v.below in
          subst (λ n. (slice_index_or (slice_set entries used entry) n e).slot < round.count) same
          (subst (λ (found : Entry). found.slot < round.count) (sym (this e)) slot)

      among : {wanted : Entry} → IsAmong entries used wanted → IsAmong (slice_set entries used entry) (used + 1) wanted
      among a = record {
        number = a.number;
        within = let within = a.within in omega (arith, within);
        there = λ e. other a.number e a.within ∙ a.there e;
      }

      here : IsObservable old → (page : Page) → LiesIn old.slots (slot_at round place) page
          → IsAmong (slice_set entries used entry) (used + 1) (entry_of (digests page.label) (slot_at round place))
      here observable page lies =
          let same : held.page ≡ page =
          same_Some held.page page
          (slots_same (Some held.page) (Some page)
          held.stands.0 lies.valid (sym held.bytes ∙ spelled observable page lies)) in
          let label_is = held.label_is ∙ ap (λ (p : Page). p.label) same in
          record {
            number = used;
            within = omega arith;
            there = λ e. this e ∙ is ∙ ap (λ l. entry_of (digests l) at) label_is
                ∙ ap (entry_of (digests page.label)) v.at_is;
          }

-- all were noted
pub noting_ends : (digests : Label → ℕ) (round : Round) (old : SlotsState) (entries : List Entry) (place used : ℕ)
    → round.first < round.count → round.count ≡ old.count → place ≡ round.count → used ≤ length entries
    → (IsObservable old → IsCounted old)
    → Noting digests round old entries place used → AreNoted digests old (take used entries)
noting_ends digests round old entries place used first count all room counts noting = record {
  there = λ k e below.
      let low : k < used = omega (arith, below, length-take-le used entries room) in
      subst (λ (n : ℕ). (slice_index_or (take used entries) k e).slot < n) count
      (subst (λ (found : Entry). found.slot < round.count) (sym (get_or-take used entries k e low))
      (noting.there k e low));
  tells = λ observable at page lies.
      let counted = counts observable in
      let below : at < round.count =
      omega (arith, slice_get_within old.slots at (slot_bytes (Some page)) lies.in_slot, counted, count) in
      let place_of = probe_reaches round.count round.first at first below in
      let noted = noting.noted observable place_of.0 (omega (arith, place_of.1, all)) page
      (subst (λ (n : ℕ). LiesIn old.slots n page) (sym place_of.2) lies) in
      let entry = entry_of (digests page.label) at in
      let within = noted.within in (
        noted.number,
        omega (arith, within, length-take-le used entries room),
        get_or-take used entries
            noted.number entry within ∙ noted.there entry ∙ ap (entry_of (digests page.label)) place_of.2,
      );
}

-- the entries have room for as many as were counted
pub within_room : (found : Result (Option ℕ) Fault) (count room : ℕ)
    → IfOk found (λ found. IfSome found (λ used. used ≤ count)) → count ≤ room
    → IfOk found (λ found. IfSome found (λ used. used ≤ room))
within_room (Err fault) count room within fits = tt
within_room (Ok None) count room within fits = tt
within_room (Ok (Some used)) count room within fits = omega (arith, within, fits)

-- those that were noted are an index once they are sorted
pub order_index : (digests : Label → ℕ) (old mid : SlotsState) (before steps bar : ℕ) (noted entries : List Entry)
    (found : Result (Option ℕ) Fault) → FindsBar old mid before steps (Ok bar)
    → IfOk found (λ found. IfSome found (λ used. AreNoted digests mid (take used noted)))
    → IfOk found (λ found. IfSome found (λ used. IsSortOf (take used noted) (take used entries)))
    → IfOk found (λ found. IfSome found (λ used. IsIndexOf digests old (take used entries)))
order_index digests old mid before steps bar noted entries (Err fault) finds are sorted = tt
order_index digests old mid before steps bar noted entries (Ok None) finds are sorted = tt
order_index digests old mid before steps bar noted entries (Ok (Some used)) finds are sorted =
    index_same digests mid old (take used entries) (sym finds.calls.count) (sym finds.calls.observable)
    (λ observable. sym (finds.reads (sym finds.calls.observable ∙ observable)))
    (index_sorted digests mid (take used noted) (take used entries) are sorted)
