-- How far a lookup of the page of a label has come.
use Rattle.std.proofs.Common.{◌≡◌, ℕ, zero, suc, ◌+◌, ◌<◌, ◌≤◌, ◌⊎◌, inl, inr, List, length, slice_index_or, Option}
use Rattle.std.proofs.Common.{Some, None, Ok, Err, sym, ap, subst, ◌∙◌, arith}
use Rattle.std.proofs.lemmas.Option.{none-some}
use Rattle.std.specs.List.{Contains}
use Rattle.store_model.specs.Labels.{Label}
use Rattle.store_model.specs.Pages.{Page}
use Rattle.store_base.specs.declared.store_fault.Fault.{Fault}
use Rattle.store_base.specs.SlotsState.{SlotsState, IsObservable}
use Rattle.store_base.proofs.SlotsCalls.{IsObservable-later}
use Rattle.table_walk.specs.declared.entry.Entry.{Entry}
use Rattle.table_walk.specs.Indexes.{entry_of, LiesIn, AreRising, Indexes, IsPast}
use Rattle.table_walk.specs.IndexLookups.{ReadsOnly, ReadsPage, TellsPage, LooksUp}
use Rattle.table_walk.proofs.IndexReading.{reads_none, reads_then}

-- none of the entries before this number that have the digest leads to a page of the label
abbrev pub AreVain : List (List ℕ) → List Entry → Label → ℕ → ℕ → Type 0
AreVain slots entries l digest past = (k at : ℕ) (page : Page) → k < past
    → slice_index_or entries k (entry_of digest at) ≡ entry_of digest at → LiesIn slots at page → page.label ≡ l → ⊥

-- a lookup has come to this number
pub record LooksTo (old now : SlotsState) (entries : List Entry) (l : Label) (digest past : ℕ) : Type 0 where
  pub reads : ReadsOnly {T = Option Page} old now (Ok None)
  pub vain : IsObservable old → AreRising entries → AreVain old.slots entries l digest past

-- a number is below another one, or is not
pub below_or_from : (k at : ℕ) → (k < at) ⊎ (at ≤ k)
below_or_from k zero = inr (omega arith)
below_or_from zero (suc at) = inl (omega arith)
below_or_from (suc k) (suc at) =
    elim (below_or_from k at) [ inl low ↦ inl (omega arith) | inr high ↦ inr (omega arith) ]

-- the entries of smaller digests lead nowhere
pub looks_first : (state : SlotsState) (entries : List Entry) (l : Label) (digest first : ℕ)
    → IsPast entries digest first → LooksTo state state entries l digest first
looks_first state entries l digest first past = record {
  reads = reads_none state None;
  vain = λ observable rising k at page below same lies label.
      let low = (past rising).0 k (entry_of digest at) below in
      let is_low = ap (λ (e : Entry). e.digest) same in
      omega (arith, low, is_low);
}

-- nor does the next one
pub looks_next : (old mid new : SlotsState) (entries : List Entry) (l : Label) (digest past : ℕ) (entry : Entry)
    → ((e : Entry) → slice_index_or entries past e ≡ entry) → LooksTo old mid entries l digest past
    → ReadsPage mid new entry.slot l (Ok None)
    → LooksTo old new entries l digest (past + 1)
looks_next old mid new entries l digest past entry there looks read = record {
  reads = reads_then old mid new None (Ok None) looks.reads read.reads;
  vain = λ observable rising k at page below same lies label. elim (below_or_from k past) [
    | inl low ↦ looks.vain observable rising k at page low same lies label
    | inr high ↦ this observable k at page (omega (arith, below, high)) same lies label
  ];
}
  where
    this : IsObservable old → (k at : ℕ) (page : Page) → k ≡ past
        → slice_index_or entries k (entry_of digest at) ≡ entry_of digest at
        → LiesIn old.slots at page → page.label ≡ l → ⊥
    this observable k at page is same lies label =
        let slot_is : at ≡ entry.slot =
        ap (λ (e : Entry). e.slot) (sym same ∙ ap (λ n. slice_index_or entries n (entry_of digest at)) is
        ∙ there (entry_of digest at)) in
        let seen : LiesIn mid.slots entry.slot page =
        subst (λ n. LiesIn mid.slots n page) slot_is
        (subst (λ (slots : List (List ℕ)). LiesIn slots at page) (sym (looks.reads.slots observable)) lies) in
        none-some page (read.found page (IsObservable-later old mid (Ok None) looks.reads.calls observable) seen label)

-- it is found
pub looks_found : (old mid new : SlotsState) (entries : List Entry) (l : Label) (digest past slot : ℕ) (page : Page)
    → LooksTo old mid entries l digest past → ReadsPage mid new slot l (Ok (Some page))
    → LooksUp old new entries l digest (Ok (Some page))
looks_found old mid new entries l digest past slot page looks read = record {
  reads = reads_then old mid new None (Ok (Some page)) looks.reads read.reads;
  label = read.label;
  found = λ digests is observable indexes. (
    slot,
    subst (λ (slots : List (List ℕ)). LiesIn slots slot page) (looks.reads.slots observable)
        (read.lies (IsObservable-later old mid (Ok None) looks.reads.calls observable)),
  );
}

-- a slot fails
pub looks_fails : (old mid new : SlotsState) (entries : List Entry) (l : Label) (digest past slot : ℕ) (fault : Fault)
    → LooksTo old mid entries l digest past → ReadsPage mid new slot l (Err fault)
    → LooksUp old new entries l digest (Err fault)
looks_fails old mid new entries l digest past slot fault looks read = record {
  reads = reads_then old mid new None (Err fault) looks.reads read.reads;
  label = tt;
  found = λ digests is observable indexes. tt;
}

-- no entry leads to a page of the label, so no slot has one
none_there : (digests : Label → ℕ) (slots : List (List ℕ)) (entries : List Entry) (l : Label) (digest : ℕ)
    → digest ≡ digests l → Indexes digests slots entries → AreVain slots entries l digest (length entries)
    → TellsPage slots l None
none_there digests slots entries l digest is indexes vain at page lies label =
    let has = subst (λ (n : ℕ). Contains entries (entry_of n at)) (ap digests label ∙ sym is)
    (indexes.tells at page lies) in
    vain has.0 at page has.1 has.2 lies label

-- all entries were looked at
pub looks_all : (old now : SlotsState) (entries : List Entry) (l : Label) (digest past : ℕ)
    → LooksTo old now entries l digest past → length entries ≤ past → LooksUp old now entries l digest (Ok None)
looks_all old now entries l digest past looks all = record {
  reads = looks.reads;
  label = tt;
  found = λ digests is observable indexes. none_there digests old.slots entries l digest is indexes
      (λ k at page below. looks.vain observable indexes.rising k at page (omega (arith, below, all)));
}

-- those that are left have greater digests
pub looks_beyond : (old now : SlotsState) (entries : List Entry) (l : Label) (digest first past : ℕ) (entry : Entry)
    → IsPast entries digest first → first ≤ past → past < length entries
    → ((e : Entry) → slice_index_or entries past e ≡ entry) → (entry.digest ≡ digest → ⊥)
    → LooksTo old now entries l digest past → LooksUp old now entries l digest (Ok None)
looks_beyond old now entries l digest first past entry bounds from within there other looks = record {
  reads = looks.reads;
  label = tt;
  found = λ digests is observable indexes. none_there digests old.slots entries l digest is indexes
      (λ k at page below same lies label. elim (below_or_from k past) [
        | inl low ↦ looks.vain observable indexes.rising k at page low same lies label
        | inr high ↦ beyond indexes.rising k at below high same
      ]);
}
  where
    beyond : AreRising entries → (k at : ℕ) → k < length entries → past ≤ k
        → slice_index_or entries k (entry_of digest at) ≡ entry_of digest at → ⊥
    beyond rising k at below high same =
        let low = (bounds rising).1 past entry from within in
        let least : digest ≤ entry.digest = subst (λ (e : Entry). digest ≤ e.digest) (there entry) low in
        let up = rising past k (entry_of digest at) high below in
        let here = ap (λ (e : Entry). e.digest) (there (entry_of digest at)) in
        let last = ap (λ (e : Entry). e.digest) same in
        other (omega (arith, least, up, here, last))
