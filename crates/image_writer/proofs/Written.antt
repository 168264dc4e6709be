-- What a writer has written, one pair on and at the end.
use Rattle.std.proofs.Common.{◌≡◌, ℕ, zero, suc, ◌+◌, ◌<◌, ◌≤◌, List, [], ◌∷◌, ◌++◌, length, map, replicate, slice_get}
use Rattle.std.proofs.Common.{slice_index, Bool, true, is_none, Option, Some, None, Result, Ok, Err, OnOk, IsErr}
use Rattle.std.proofs.Common.{refl, sym, ap}
use Rattle.std.proofs.Common.{◌⊎◌, take, drop, get_or, take-append-drop, IsErrAnd, IfErr, subst, ◌∙◌, inl, inr, arith}
use Rattle.std.proofs.Common.{append-nil}
use Rattle.std.proofs.lemmas.Bool.{cases_lt, false≢true}
use Rattle.std.proofs.lemmas.List.{length-append, length-replicate, length-take, take_more}
use Rattle.std.proofs.lemmas.Option.{same_Some}
use Rattle.store_base.specs.declared.fault.DiskFault.{DiskFault}
use Rattle.store_model.specs.Parameters.{Parameters, IsParameters, image_len}
use Rattle.store_model.specs.Draws.{Draw, draw_of}
use Rattle.store_model.specs.Pairs.{Pair, IsPairs}
use Rattle.store_model.specs.Pages.{Page, pages_of_pairs}
use Rattle.store_model.specs.Placement.{page_cmp, put_all, place}
use Rattle.store_model.proofs.ListsLemmas.{all_weaker, in_order_of_rising}
use Rattle.store_model.proofs.PagesLemmasOrder.{rising_pages}
use Rattle.store_model.proofs.PlacementLemmasDraws.{IsLawful-draw_of}
use Rattle.disk_model.specs.DiskState.{DiskState, IsObservable, IsSound}
use Rattle.disk_model.proofs.Crashes.{LeavesOnly-weaken}
use Rattle.gate_journal.specs.Places.{AreCalls, Keeps, SameAt}
use Rattle.gate_journal.specs.Formats.{NamesNoParameters}
use Rattle.gate_journal.proofs.Calls.{AreCalls-none, AreCalls-as, Made-none}
use Rattle.gate_journal.proofs.Places.{Keeps-refl, Keeps-durable}
use Rattle.gate_journal.proofs.Formatting.{no_image}
use Rattle.rising_pages.specs.declared.kept.KeptPairs.{KeptPairs}
use Rattle.rising_pages.specs.FreePlaces.{AreFree}
use Rattle.rising_pages.specs.OpenPages.{closed_pages}
use Rattle.rising_pages.specs.Kept.{FitSlots, IsKept, PairComes, PairCame}
use Rattle.image_writer.specs.declared.fault.WriteFault.{WriteFault}
use Rattle.image_writer.specs.declared.fault.WriteFault.TheVariants.{Disk, NoMemory}
use Rattle.image_writer.specs.declared.writer.ImageWriter.{ImageWriter}
use Rattle.image_writer.specs.Placing.{placed, FirstByte, ArePlaced, Places}
use Rattle.image_writer.specs.Sealing.{image_of, image_of_pairs, IsOrNone, Becomes}
use Rattle.image_writer.specs.Writing.{AreComplete, HasWritten, IsWriting, IsNext, IsNotFull, StaysNone, disk_answer}
use Rattle.image_writer.proofs.LevelsPlaced.{closed_none, first_pairs}
use Rattle.image_writer.proofs.UpperPlaced.{closed_of_level}

-- ---- no pair

none_held : (n i : ℕ) (page : Page) → slice_get (replicate {A = Option Page} n None) i ≡ Some (Some page) → ⊥
none_held zero i page held = cc
none_held (suc n) zero page held = let no : None ≡ Some page = same_Some None (Some page) held in cc
none_held (suc n) (suc i) page held = none_held n i page held

none_taken : (n : ℕ) → replicate n true ≡ map is_none (replicate {A = Option Page} n None)
none_taken zero = refl
none_taken (suc n) = ap (λ free. true ∷ free) (none_taken n)

nothing_placed : (d : Draw) (disk : DiskState) → disk.size ≡ image_len d.slots → (IsObservable disk → IsSound disk)
    → ArePlaced d [] disk disk
unfolding put_all
nothing_placed d disk size sound = record {
  size = size;
  calls = AreCalls-none disk tt;
  placed = λ observable. record {
    keeps = Keeps-refl (FirstByte d.slots) disk (sound observable);
    holds = λ i page held. absurd (none_held d.slots i page held);
    made = Made-none disk;
  };
}

pub begun : (p : Parameters) (disk : DiskState) (writer : ImageWriter) → IsParameters p → disk.size ≡ image_len p.slots
    → (IsObservable disk → IsSound disk) → writer.params ≡ p → IsKept (draw_of p) [] writer.kept
    → writer.free ≡ replicate p.slots true → IsWriting p [] disk disk writer
unfolding draw_of put_all
begun p disk writer valid size sound params_are kept_is free_is =
    let d = draw_of p in
    let none = sym (closed_none d 0) in
    record {
      params_are = params_are;
      valid = valid;
      pairs = record { sorted = refl; pairs = tt };
      few = omega arith;
      slots = ap length free_is ∙ length-replicate p.slots true;
      kept_is = kept_is;
      size = size;
      calls = AreCalls-none disk tt;
      keeps = λ observable. Keeps-refl (FirstByte p.slots) disk (sound observable);
      written = λ fits. record {
        free_are = subst (λ ps. AreFree (placed d ps) writer.free) none (free_is ∙ none_taken p.slots);
        placed_so = subst (λ ps. ArePlaced d ps disk disk) none (nothing_placed d disk size sound);
      };
    }

-- ---- one pair

-- what placing a page ensures, of whatever pages
abbrev pub PlacesMore : {T E : Type 0} → Draw → Page → List Bool → DiskState → DiskState → DiskState → Result T E
    → Type 0
PlacesMore d page free start old new result = (pages : List Page) → length pages < d.slots
    → AreFree (placed d pages) free → ArePlaced d pages start old → Places d (pages ++ page ∷ []) start new result

abbrev pub FreesMore : Draw → Page → List Bool → List Bool → Type 0
FreesMore d page free free_new = (pages : List Page) → AreFree (placed d pages) free
    → AreFree (placed d (pages ++ page ∷ [])) free_new

module _ (p : Parameters) (s : List Pair) (level : ℕ) (y : Pair) (start old : DiskState) (writer : ImageWriter)
    (next : IsNext p s level y start old writer) where
  pub next_comes : PairComes (draw_of p) s level y writer.kept
  unfolding draw_of
  next_comes = record {
    kept_is = next.writing.kept_is;
    low = next.writing.valid.height_in_range;
    law = IsLawful-draw_of p next.writing.valid;
    level_is = next.level_is;
    pairs = next.pairs;
    few = next.few;
  }

  few_more : length (s ++ y ∷ []) ≤ 268435456
  few_more = omega (arith, length-append s (y ∷ []), next.few)

  pub old_size : old.size ≡ image_len p.slots
  old_size = next.writing.calls.size ∙ next.writing.size

  -- no page was closed, or all are only counted
  pub kept_alone : (new : ImageWriter) → PairCame (draw_of p) s y None new.kept → new.params ≡ writer.params
      → new.free ≡ writer.free → IsWriting p (s ++ y ∷ []) start old new
  kept_alone new came params_are free_are =
      let d = draw_of p in
      record {
        params_are = params_are ∙ next.writing.params_are;
        valid = next.writing.valid;
        pairs = next.pairs;
        few = few_more;
        slots = ap length free_are ∙ next.writing.slots;
        kept_is = came.kept_is;
        size = next.writing.size;
        calls = next.writing.calls;
        keeps = next.writing.keeps;
        written = λ fits.
            let before = next.writing.written (omega (arith, came.grows, fits)) in
            let same : closed_pages d s 0 ≡ closed_pages d (s ++ y ∷ []) 0 =
            sym (came.closed_is fits ∙ append-nil (closed_pages d s 0)) in
            record {
              free_are = subst (λ ps. AreFree (placed d ps) new.free) same
                  (subst (AreFree (placed d (closed_pages d s 0))) (sym free_are) before.free_are);
              placed_so = subst (λ ps. ArePlaced d ps start old) same before.placed_so;
            };
      }

  -- a page was closed, and placed
  module _ (page : Page) (kept : KeptPairs) (came : PairCame (draw_of p) s y (Some page) kept) (drawn : Draw)
      (drawn_is : drawn ≡ draw_of p) (new : DiskState) where
    fits_still : FitSlots (draw_of p) (s ++ y ∷ [])
    fits_still = elim (cases_lt (draw_of p).slots (length (pages_of_pairs (draw_of p) (s ++ y ∷ [])))) [
      | inl more ↦ let no : Some page ≡ None = came.none more in cc
      | inr fits ↦ fits
    ]

    before : HasWritten (draw_of p) s start old writer.free
    before = next.writing.written (omega (arith, came.grows, fits_still))

    more_are : closed_pages (draw_of p) s 0 ++ page ∷ [] ≡ closed_pages (draw_of p) (s ++ y ∷ []) 0
    more_are = sym (came.closed_is fits_still)

    room : length (closed_pages (draw_of p) s 0) < (draw_of p).slots
    unfolding draw_of
    room = omega (
      arith,
      ap length more_are,
      length-append (closed_pages (draw_of p) s 0) (page ∷ []),
      closed_of_level (draw_of p) (s ++ y ∷ []) next.writing.valid.some_level,
      fits_still,
    )

    pub placed_page : {T E : Type 0} (result : Result T E) → PlacesMore drawn page writer.free start old new result
        → Places (draw_of p) (closed_pages (draw_of p) (s ++ y ∷ []) 0) start new result
    placed_page result places =
        subst (λ ps. Places (draw_of p) ps start new result) more_are
        (subst (λ d. PlacesMore d page writer.free start old new result) drawn_is places
        (closed_pages (draw_of p) s 0) room before.free_are before.placed_so)

    pub written_more : {T E : Type 0} (value : T) (after : ImageWriter) → after.params ≡ writer.params
        → after.kept ≡ kept
        → length after.free ≡ drawn.slots → FreesMore drawn page writer.free after.free
        → PlacesMore {T = T} {E = E} drawn page writer.free start old new (Ok value)
        → IsWriting p (s ++ y ∷ []) start new after
    unfolding draw_of
    written_more value after params_are kept_are slots frees places =
        let there = placed_page (Ok value) places in
        record {
          params_are = params_are ∙ next.writing.params_are;
          valid = next.writing.valid;
          pairs = next.pairs;
          few = few_more;
          slots = slots ∙ ap (λ d. d.slots) drawn_is;
          kept_is = subst (IsKept (draw_of p) (s ++ y ∷ [])) (sym kept_are) came.kept_is;
          size = next.writing.size;
          calls = there.done.calls;
          keeps = there.keeps;
          written = λ fits. record {
            free_are = subst (λ ps. AreFree (placed (draw_of p) ps) after.free) more_are
                (subst (λ d. FreesMore d page writer.free after.free) drawn_is frees (closed_pages (draw_of p) s 0)
                before.free_are);
            placed_so = there.done;
          };
        }

-- ---- no image

first_place : (slots : ℕ) → FirstByte slots 0
first_place slots = let low : 0 < 1 = omega arith in inl low

pub stays_none : (slots : ℕ) (start now : DiskState) → (slice_index start.bytes 0 ≡ 72 → ⊥)
    → Keeps (FirstByte slots) start now → StaysNone start now
stays_none slots start now differs keeps = record {
  reads = no_image now.bytes (λ first. differs (sym (keeps.reads.same 0 (first_place slots)) ∙ first));
  crash = λ durable.
      LeavesOnly-weaken start now (SameAt (FirstByte slots) start.bytes) NamesNoParameters
      (λ image same. no_image image (λ first. differs (sym (same.same 0 (first_place slots)) ∙ first)))
      (Keeps-durable (FirstByte slots) start now durable keeps);
}

-- ---- faults

pub disk_failed : {T U : Type 0} (old new : DiskState) (error : DiskFault) (result : Result T WriteFault)
    → IsErrAnd result (λ fault. fault ≡ Disk) → AreCalls {T = U} old new (Err error)
    → AreCalls old new (disk_answer result)
disk_failed old new error (Ok value) told calls = absurd told
disk_failed {T} {U} old new error (Err fault) told calls =
    subst (λ f. AreCalls old new (disk_answer {T = T} (Err f))) (sym told)
    (AreCalls-as old new (Err error) (Err tt) refl calls)

pub memory_failed : {T : Type 0} (disk : DiskState) (result : Result T WriteFault)
    → IsErrAnd result (λ fault. fault ≡ NoMemory) → AreCalls disk disk (disk_answer result)
memory_failed disk (Ok value) told = absurd told
memory_failed {T} disk (Err fault) told =
    subst (λ f. AreCalls disk disk (disk_answer {T = T} (Err f))) (sym told) (AreCalls-none disk tt)

pub disk_alone : {T : Type 0} (result : Result T WriteFault) → IsErrAnd result (λ fault. fault ≡ Disk)
    → IfErr result (λ fault. fault ≡ Disk)
disk_alone (Ok value) told = absurd told
disk_alone (Err fault) told = told

pub not_full_disk : {T : Type 0} (result : Result T WriteFault) → IsErrAnd result (λ fault. fault ≡ Disk)
    → IfErr result IsNotFull
not_full_disk (Ok value) told = absurd told
not_full_disk (Err fault) told = inl told

pub not_full_memory : {T : Type 0} (result : Result T WriteFault) → IsErrAnd result (λ fault. fault ≡ NoMemory)
    → IfErr result IsNotFull
not_full_memory (Ok value) told = absurd told
not_full_memory (Err fault) told = inr told

-- a fault that is handed on
pub handed_calls : {T : Type 0} (old new : DiskState) (fault : WriteFault) (result : Result T WriteFault)
    → IsErrAnd result (λ e. e ≡ fault) → AreCalls old new (disk_answer {T = T} (Err fault))
    → AreCalls old new (disk_answer result)
handed_calls old new fault (Ok value) told calls = absurd told
handed_calls {T} old new fault (Err other) told calls =
    subst (λ f. AreCalls old new (disk_answer {T = T} (Err f))) (sym told) calls

pub handed_not_full : {T : Type 0} (fault : WriteFault) (result : Result T WriteFault)
    → IsErrAnd result (λ e. e ≡ fault) → IsNotFull fault → IfErr result IsNotFull
handed_not_full fault (Ok value) told not_full = absurd told
handed_not_full fault (Err other) told not_full = subst IsNotFull (sym told) not_full

pub handed_or_full : {T : Type 0} (full fault : WriteFault) (result : Result T WriteFault)
    → IsErrAnd result (λ e. e ≡ fault) → IsNotFull fault → IsErrAnd result (λ e. IsNotFull e ⊎ (e ≡ full))
handed_or_full full fault (Ok value) told not_full = absurd told
handed_or_full full fault (Err other) told not_full = inl (subst IsNotFull (sym told) not_full)

pub told_not_full : {T : Type 0} (result : Result T WriteFault) → IfErr result (λ fault. fault ≡ Disk)
    → IfErr result IsNotFull
told_not_full (Ok value) told = tt
told_not_full (Err fault) told = inl told

pub told_full : {T : Type 0} (full : WriteFault) (result : Result T WriteFault) → result ≡ Err full
    → IsErrAnd result (λ e. IsNotFull e ⊎ (e ≡ full))
told_full full result is = subst (λ r. IsErrAnd r (λ e. IsNotFull e ⊎ (e ≡ full))) (sym is) (inr refl)

-- so it is where one more fault may come
pub short_of_memory : {T : Type 0} (full : WriteFault) (result : Result T WriteFault)
    → IsErrAnd result (λ fault. fault ≡ NoMemory) → IsErrAnd result (λ fault. IsNotFull fault ⊎ (fault ≡ full))
short_of_memory full (Ok value) told = absurd told
short_of_memory full (Err fault) told = inl (inr told)

-- ---- the end

-- pages that come by rank are placed as placing puts them
pub placed_is_place : (d : Draw) (s : List Pair) → IsPairs s → length s ≤ 268435456
    → placed d (pages_of_pairs d s) ≡ place d (pages_of_pairs d s)
unfolding place
placed_is_place d s pairs few =
    ap (put_all d (replicate d.slots None))
    (sym (in_order_of_rising page_cmp (pages_of_pairs d s)
    (rising_pages d s (record {
      sorted = pairs.sorted;
      lengths = all_weaker _ _ (λ pair is. is.key_length) s pairs.pairs;
      few = omega (arith, few);
    }))))

-- what placing the pages that are left ensures
abbrev pub PlacesLeft : {T E : Type 0} → Draw → List Pair → KeptPairs → List Bool → DiskState → DiskState → DiskState
    → Result T E → Type 0
PlacesLeft d s kept free start old new result = AreComplete d s kept → AreFree (placed d (closed_pages d s 0)) free
    → ArePlaced d (closed_pages d s 0) start old → Places d (pages_of_pairs d s) start new result

abbrev pub FreesLeft : {T E : Type 0} → Draw → List Pair → KeptPairs → List Bool → List Bool → Result T E → Type 0
FreesLeft d s kept free free_new result = AreComplete d s kept → AreFree (placed d (closed_pages d s 0)) free
    → OnOk result (AreFree (placed d (pages_of_pairs d s)) free_new)

-- what sealing ensures
abbrev pub Seals : {T E : Type 0} → Parameters → List Bool → DiskState → DiskState → DiskState → Result T E → Type 0
Seals p free start old new result = (pages : List Page) → length pages ≤ p.slots
    → AreFree (placed (draw_of p) pages) free → ArePlaced (draw_of p) pages start old
    → Becomes p (image_of p (placed (draw_of p) pages)) start new result

module _ (p : Parameters) (s : List Pair) (start old : DiskState) (writer : ImageWriter)
    (writing : IsWriting p s start old writer) (fits : FitSlots (draw_of p) s) where
  pub complete : AreComplete (draw_of p) s writer.kept
  complete = record { kept_is = writing.kept_is; pairs = writing.pairs; few = writing.few; fits = fits }

  pub now_size : old.size ≡ image_len p.slots
  now_size = writing.calls.size ∙ writing.size

  module _ {T E : Type 0} (drawn : Draw) (drawn_is : drawn ≡ draw_of p) (free : List Bool) (mid : DiskState)
      (result : Result T E) where
    pub left_placed : PlacesLeft drawn s writer.kept writer.free start old mid result
        → Places (draw_of p) (pages_of_pairs (draw_of p) s) start mid result
    left_placed places =
        let before = writing.written fits in
        subst (λ d. PlacesLeft d s writer.kept writer.free start old mid result) drawn_is places complete
        before.free_are
        before.placed_so

    pub left_free : FreesLeft drawn s writer.kept writer.free free result
        → OnOk result (AreFree (placed (draw_of p) (pages_of_pairs (draw_of p) s)) free)
    left_free frees =
        subst (λ d. FreesLeft d s writer.kept writer.free free result) drawn_is frees complete
        (writing.written fits).free_are

  pub sealed : {T E : Type 0} (free : List Bool) (mid new : DiskState) (result : Result T E)
      → Seals writer.params free start mid new result
      → AreFree (placed (draw_of p) (pages_of_pairs (draw_of p) s)) free
      → ArePlaced (draw_of p) (pages_of_pairs (draw_of p) s) start mid → Becomes p (image_of_pairs p s) start new result
  unfolding draw_of
  sealed free mid new result seals are there =
      subst (λ table. Becomes p (image_of p table) start new result)
      (placed_is_place (draw_of p) s writing.pairs writing.few)
      (subst (λ q. Seals q free start mid new result) writing.params_are seals (pages_of_pairs (draw_of p) s) fits are
      there)

-- the same, of another answer
pub becomes_answered : {T E U F : Type 0} (p : Parameters) (whole : List ℕ) (start now : DiskState) (value : U)
    (other : T)
    → Becomes {E = F} p whole start now (Ok value) → Becomes {E = E} p whole start now (Ok other)
becomes_answered p whole start now value other becomes = record {
  done = becomes.done;
  durable = becomes.durable;
  made = becomes.made;
  reads = becomes.reads;
  crash = becomes.crash;
}

pub becomes_failed : {T E U F : Type 0} (p : Parameters) (whole : List ℕ) (start now : DiskState) (error : F)
    (result : Result T E) → IsErr result → Becomes {T = U} p whole start now (Err error)
    → Becomes p whole start now result
becomes_failed p whole start now error (Ok value) fails becomes = absurd (false≢true fails)
becomes_failed p whole start now error (Err other) fails becomes = record {
  done = tt;
  durable = tt;
  made = tt;
  reads = becomes.reads;
  crash = becomes.crash;
}

-- a fault before the end
pub becomes_short : {T E : Type 0} (p : Parameters) (whole : List ℕ) (start now : DiskState) (result : Result T E)
    → IsErr result → StaysNone start now → Becomes p whole start now result
becomes_short p whole start now (Ok value) fails none = absurd (false≢true fails)
becomes_short p whole start now (Err error) fails none = record {
  done = tt;
  durable = tt;
  made = tt;
  reads = inl none.reads;
  crash = λ durable.
      LeavesOnly-weaken start now NamesNoParameters (IsOrNone whole) (λ image no. inl no) (none.crash durable);
}

-- how many pages there are, as a writer counts them
pub counts_are : (p : Parameters) (s : List Pair) (start now : DiskState) (writer : ImageWriter) (need slots : ℕ)
    → IsWriting p s start now writer
    → ((d : Draw) (t : List Pair) → IsKept d t writer.kept → need ≡ length (pages_of_pairs d t))
    → slots ≡ writer.params.slots
    → (need ≡ length (pages_of_pairs (draw_of p) s)) × (slots ≡ p.slots)
counts_are p s start now writer need slots writing counts slots_are = (
  counts (draw_of p) s writing.kept_is,
  slots_are ∙ ap (λ q. q.slots) writing.params_are,
)

-- ---- a list of pairs

-- a pair is its key and its value
pair_whole : (pair : Pair) → pair ≡ (pair.0, pair.1)
pair_whole (key, value) = refl

module _ (pairs : List Pair) (k : ℕ) (pair : Pair) (value : List ℕ) (value_is : value ≡ pair.1)
    (below : k < length pairs) (here : pair ≡ get_or pairs k pair) where
  pub pair_taken : take (k + 1) pairs ≡ take k pairs ++ (pair.0, value) ∷ []
  pair_taken =
      take_more pairs k pair below
      ∙ ap (λ y. take k pairs ++ y ∷ []) (sym here ∙ pair_whole pair ∙ ap (λ v. (pair.0, v)) (sym value_is))

  -- the next pair of the list is the next of the writer
  pub pair_next : (p : Parameters) (level : ℕ) (start now : DiskState) (writer : ImageWriter) → IsPairs pairs
      → length pairs ≤ 268435456 → level ≡ (draw_of p).level pair.0 → IsWriting p (take k pairs) start now writer
      → IsNext p (take k pairs) level (pair.0, value) start now writer
  pair_next p level start now writer rising few level_is writing = record {
    writing = writing;
    level_is = level_is;
    pairs = subst IsPairs pair_taken
        (first_pairs (take (k + 1) pairs) (drop (k + 1) pairs)
        (subst IsPairs (sym (take-append-drop (k + 1) pairs)) rising));
    few = omega (arith, length-take k pairs, below, few);
  }
