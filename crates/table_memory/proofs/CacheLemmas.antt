-- Lemmas on slots that are kept in memory.
use Rattle.std.proofs.Common.{◌≡◌, ◌≢◌, ◌⊎◌, ℕ, zero, suc, ◌+◌, ◌-◌, ◌<◌, ◌≤◌, Bool, true, false, cond, List, [], ◌∷◌}
use Rattle.std.proofs.Common.{◌++◌, length, take, drop, slice_index_or, Option, Some, None, Result, Ok, Err, IsOk, OnOk}
use Rattle.std.proofs.Common.{OnErr, nat_eq, refl, sym, ap, subst, ◌∙◌, inl, inr, arith, length-append, length-take}
use Rattle.std.specs.Map.{lookup_entry, remove_entry}
use Rattle.std.specs.Option.{option_map_or}
use Rattle.std.proofs.lemmas.Option.{same_Some, none-some}
use Rattle.store_base.specs.declared.fault.DiskFault.{DiskFault}
use Rattle.store_model.specs.Parameters.{table_at, image_len}
use Rattle.disk_model.specs.DiskState.{DiskState, IsObservable, IsSound}
use Rattle.disk_model.specs.DiskCalls.{IsRead}
use Rattle.gate_journal.specs.Changes as journal
use Rattle.gate_journal.specs.Phases.{table_slot}
use Rattle.gate_journal.specs.Places.{ReadsOnly}
use Rattle.gate_journal.proofs.Calls.{AreCalls-none, AreCalls-one, AreCalls-answered, AreCalls-failed}
use Rattle.gate_journal.proofs.Layouts.{with-slots-changed, with-slots-kept}
use Rattle.gate_journal.proofs.Reading.{ReadsOnly-refl, ReadsOnly-read}
use Rattle.lru.specs.LruCache.{LruCache, promoted, put_entries, lru_cache}
use Rattle.table_memory.specs.SlotCaches.{Kept, kept_at, IsTableSlot, IsSlotCacheOf, KeepsAll, KeepsFew, most_kept}
use Rattle.table_memory.specs.SlotCaches.{KeepsOne, Rewrites, changes_of, RewritesFirst, ReadsSlot, IsOfKept}
use Rattle.table_memory.specs.SlotCaches.{TellsOfSlot}

same_number : (i j : ℕ) → nat_eq i j ≡ true → i ≡ j
same_number i j is = grind (arith, is)

other_number : (i j : ℕ) → nat_eq i j ≡ false → i ≢ j
other_number i j is same = grind (arith, is, same)

-- the entry that is found under a number
found_entry : (at : ℕ) (kept : Kept) (e : ℕ × List ℕ) → lookup_entry (nat_eq at) kept ≡ Some e
    → (at ≡ e.0) × (kept_at kept at ≡ Some e.1)
found_entry at [] e is = absurd (none-some e is)
found_entry at (f ∷ kept) e is =
    (elim (nat_eq at f.0) as (λ b. nat_eq at f.0 ≡ b → cond b (Some f) (lookup_entry (nat_eq at) kept) ≡ Some e
    → (at ≡ e.0) × (cond b (Some f.1) (kept_at kept at) ≡ Some e.1)) [
      | true ↦ λ here at_f. let same = same_Some f e at_f
          in (same_number at f.0 here ∙ ap (λ (x : ℕ × List ℕ). x.0) same, ap (λ (x : ℕ × List ℕ). Some x.1) same)
      | false ↦ λ elsewhere later. found_entry at kept e later
    ]) refl is

-- under another number the same is found where it is taken out
kept_elsewhere : (at i : ℕ) (kept : Kept) → i ≢ at → kept_at (remove_entry (nat_eq at) kept) i ≡ kept_at kept i
kept_elsewhere at i [] other = refl
kept_elsewhere at i (f ∷ kept) other =
    (elim (nat_eq at f.0) as (λ b. nat_eq at f.0 ≡ b
    → kept_at (cond b kept (f ∷ remove_entry (nat_eq at) kept)) i ≡ kept_at (f ∷ kept) i) [
      | true ↦ λ here. sym (ap (λ (b : Bool). cond b (Some f.1) (kept_at kept i)) (apart here))
      | false ↦ λ elsewhere. ap (cond (nat_eq i f.0) (Some f.1)) (kept_elsewhere at i kept other)
    ]) refl
  where
    apart : nat_eq at f.0 ≡ true → nat_eq i f.0 ≡ false
    apart here = let same : at ≡ f.0 = same_number at f.0 here in grind (arith, same, other)

-- the one of these entries first that was found, and the others behind it
found_first : (at : ℕ) (kept : Kept) (v : List ℕ) (e : ℕ × List ℕ) (i : ℕ) → at ≡ e.0
    → kept_at ((e.0, v) ∷ remove_entry (nat_eq at) kept) i ≡ cond (nat_eq i at) (Some v) (kept_at kept i)
found_first at kept v e i here =
    (elim (nat_eq i at) as (λ b. nat_eq i at ≡ b
    → kept_at ((e.0, v) ∷ remove_entry (nat_eq at) kept) i ≡ cond b (Some v) (kept_at kept i)) [
      | true ↦ λ same. ap (λ (b : Bool). cond b (Some v) (kept_at (remove_entry (nat_eq at) kept) i))
          (ap (nat_eq i) (sym here) ∙ same)
      | false ↦ λ apart. ap (λ (b : Bool). cond b (Some v) (kept_at (remove_entry (nat_eq at) kept) i))
          (ap (nat_eq i) (sym here) ∙ apart) ∙ kept_elsewhere at i kept (other_number i at apart)
    ]) refl

-- the entry that was asked for goes to the front
pub kept_promoted : (at : ℕ) (kept : Kept) → KeepsAll kept (promoted (nat_eq at) kept)
kept_promoted at kept i = by_case (lookup_entry (nat_eq at) kept) refl
  where
    same_there : (e : ℕ × List ℕ) → kept_at kept at ≡ Some e.1
        → cond (nat_eq i at) (Some e.1) (kept_at kept i) ≡ kept_at kept i
    same_there e found =
        (elim (nat_eq i at) as (λ b. nat_eq i at ≡ b → cond b (Some e.1) (kept_at kept i) ≡ kept_at kept i) [
          | true ↦ λ same. sym (ap (kept_at kept) (same_number i at same) ∙ found)
          | false ↦ λ apart. refl
        ]) refl

    by_case : (o : Option (ℕ × List ℕ)) → lookup_entry (nat_eq at) kept ≡ o
        → kept_at (option_map_or (λ (e : ℕ × List ℕ). e ∷ remove_entry (nat_eq at) kept) o kept) i ≡ kept_at kept i
    by_case None is = refl
    by_case (Some e) is =
        let found = found_entry at kept e is in
        found_first at kept e.1 e i found.0 ∙ same_there e found.1

-- what is found among the first entries is found among all
pub kept_in_first : (n : ℕ) (kept : Kept) (i : ℕ) (slot : List ℕ) → kept_at (take n kept) i ≡ Some slot
    → kept_at kept i ≡ Some slot
kept_in_first zero kept i slot is = absurd (none-some slot is)
kept_in_first (suc n) [] i slot is = is
kept_in_first (suc n) (e ∷ kept) i slot is =
    (elim (nat_eq i e.0) as (λ b. cond b (Some e.1) (kept_at (take n kept) i) ≡ Some slot
    → cond b (Some e.1) (kept_at kept i) ≡ Some slot) [
      | true ↦ λ found. found
      | false ↦ λ found. kept_in_first n kept i slot found
    ]) is

-- one slot was put among those that are kept
put_one : (at : ℕ) (slot : List ℕ) (below : Kept) (i : ℕ) (other : List ℕ)
    → cond (nat_eq i at) (Some slot) (kept_at below i) ≡ Some other → ((i ≢ at) × (kept_at below i ≡ Some other))
    ⊎ ((i ≡ at) × (other ≡ slot))
put_one at slot below i other is =
    (elim (nat_eq i at) as (λ b. nat_eq i at ≡ b → cond b (Some slot) (kept_at below i) ≡ Some other
    → ((i ≢ at) × (kept_at below i ≡ Some other)) ⊎ ((i ≡ at) × (other ≡ slot))) [
      | true ↦ λ same found. inr (same_number i at same, sym (same_Some slot other found))
      | false ↦ λ apart found. inl (other_number i at apart, found)
    ]) refl is

kept_put : (cache : LruCache ℕ (List ℕ)) (at : ℕ) (slot : List ℕ)
    → Rewrites cache.entries (put_entries nat_eq cache at slot) at slot
kept_put cache at slot i other = by_case (lookup_entry (nat_eq at) cache.entries) refl
  where
    by_case : (o : Option (ℕ × List ℕ)) → lookup_entry (nat_eq at) cache.entries ≡ o
        → kept_at (option_map_or (λ (e : ℕ × List ℕ). (e.0, slot) ∷ remove_entry (nat_eq at) cache.entries) o
        ((at, slot) ∷ take (cache.cap - 1) cache.entries)) i ≡ Some other
        → ((i ≢ at) × (kept_at cache.entries i ≡ Some other)) ⊎ ((i ≡ at) × (other ≡ slot))
    by_case None is found = elim (put_one at slot (take (cache.cap - 1) cache.entries) i other found) [
      | inl was ↦ inl (was.0, kept_in_first (cache.cap - 1) cache.entries i other was.1)
      | inr now ↦ inr now
    ]
    by_case (Some e) is found = put_one at slot cache.entries i other
        (sym (found_first at cache.entries slot e i (found_entry at cache.entries e is).0) ∙ found)

-- a put that finds memory, or none
pub keeps_one : {T E : Type 0} (result : Result T E) (old new : LruCache ℕ (List ℕ)) (at : ℕ) (slot : List ℕ)
    → OnOk result (new ≡ lru_cache (put_entries nat_eq old at slot) old.cap) → OnErr result (new ≡ old)
    → KeepsOne old.entries new.entries at slot
keeps_one (Ok value) old new at slot put left i other is =
    elim (kept_put old at slot i other (ap (λ (cache : LruCache ℕ (List ℕ)). kept_at cache.entries i) (sym put) ∙ is))
    [ inl was ↦ inl was.1 | inr now ↦ inr now ]
keeps_one (Err e) old new at slot put left i other is =
    inl (ap (λ (cache : LruCache ℕ (List ℕ)). kept_at cache.entries i) (sym left) ∙ is)

-- one that finds the slot kept
pub rewrites_kept : {T E : Type 0} (result : Result T E) (old new : LruCache ℕ (List ℕ)) (at : ℕ) (slot : List ℕ)
    → OnOk result (new ≡ lru_cache (put_entries nat_eq old at slot) old.cap) → IsOk result
    → Rewrites old.entries new.entries at slot
rewrites_kept (Ok value) old new at slot put succeeds i other is =
    kept_put old at slot i other (ap (λ (cache : LruCache ℕ (List ℕ)). kept_at cache.entries i) (sym put) ∙ is)
rewrites_kept (Err e) old new at slot put succeeds i other is = absurd (cc)

-- ---- how many are kept

-- an entry that is taken out was one of them
taken_out : (at : ℕ) (kept : Kept) (e : ℕ × List ℕ) → lookup_entry (nat_eq at) kept ≡ Some e
    → suc (length (remove_entry (nat_eq at) kept)) ≡ length kept
taken_out at [] e is = absurd (none-some e is)
taken_out at (f ∷ kept) e is =
    (elim (nat_eq at f.0) as (λ b. cond b (Some f) (lookup_entry (nat_eq at) kept) ≡ Some e
    → suc (length (cond b kept (f ∷ remove_entry (nat_eq at) kept))) ≡ suc (length kept)) [
      | true ↦ λ here. refl
      | false ↦ λ later. ap suc (taken_out at kept e later)
    ]) is

long_promoted : (at : ℕ) (kept : Kept) → length (promoted (nat_eq at) kept) ≡ length kept
long_promoted at kept = by_case (lookup_entry (nat_eq at) kept) refl
  where
    by_case : (o : Option (ℕ × List ℕ)) → lookup_entry (nat_eq at) kept ≡ o
        → length (option_map_or (λ (e : ℕ × List ℕ). e ∷ remove_entry (nat_eq at) kept) o kept) ≡ length kept
    by_case None is = refl
    by_case (Some e) is = taken_out at kept e is

long_put : (cache : LruCache ℕ (List ℕ)) (at : ℕ) (slot : List ℕ) → KeepsFew cache
    → length (put_entries nat_eq cache at slot) ≤ most_kept
long_put cache at slot keeps = by_case (lookup_entry (nat_eq at) cache.entries) refl
  where
    by_case : (o : Option (ℕ × List ℕ)) → lookup_entry (nat_eq at) cache.entries ≡ o
        → length (option_map_or (λ (e : ℕ × List ℕ). (e.0, slot) ∷ remove_entry (nat_eq at) cache.entries) o
        ((at, slot) ∷ take (cache.cap - 1) cache.entries)) ≤ most_kept
    by_case None is = omega (arith, keeps.room, length-take (cache.cap - 1) cache.entries)
    by_case (Some e) is = omega (arith, keeps.few, taken_out at cache.entries e is)

pub few_promoted : (old new : LruCache ℕ (List ℕ)) (at : ℕ) → KeepsFew old
    → new ≡ lru_cache (promoted (nat_eq at) old.entries) old.cap → KeepsFew new
few_promoted old new at keeps is =
    subst KeepsFew (sym is) (record { room = keeps.room; few = omega (arith, keeps.few, long_promoted at old.entries) })

-- behind a put that finds memory, or none
pub few_put : {T E : Type 0} (result : Result T E) (old new : LruCache ℕ (List ℕ)) (at : ℕ) (slot : List ℕ)
    → KeepsFew old → OnOk result (new ≡ lru_cache (put_entries nat_eq old at slot) old.cap)
    → OnErr result (new ≡ old) → KeepsFew new
few_put (Ok value) old new at slot keeps put left =
    subst KeepsFew (sym put) (record { room = keeps.room; few = long_put old at slot keeps })
few_put (Err e) old new at slot keeps put left = subst KeepsFew (sym left) keeps

pub few_first : (old new : LruCache ℕ (List ℕ)) (n : ℕ) → KeepsFew old
    → new ≡ lru_cache (take n old.entries) old.cap → KeepsFew new
few_first old new n keeps is = subst KeepsFew (sym is) (record {
  room = keeps.room;
  few = omega (arith, keeps.few, length-take n old.entries);
})

-- ---- several slots

-- a number below n + 1
pub last_or_below : (n i : ℕ) → i < n + 1 → (i < n) ⊎ (i ≡ n)
last_or_below n i h = grind arith

pub rewrites_nothing : (changes : journal.Changes) (kept : Kept) → RewritesFirst 0 changes kept kept
rewrites_nothing changes kept i other is = inl (λ k low same. absurd (omega arith), is)

pub rewrites_more : (n : ℕ) (changes : journal.Changes) (old mid new : Kept) → RewritesFirst n changes old mid
    → Rewrites mid new (changes.slot n) (changes.bytes n) → RewritesFirst (n + 1) changes old new
rewrites_more n changes old mid new first next i other is = elim (next i other is) [
  | inl was ↦ elim (first i other was.1) [
    | inl before
        ↦ inl (
          λ k low same. elim (last_or_below n k low) [
            | inl less ↦ before.0 k less same
            | inr last
                ↦ was.0 (sym same ∙ ap changes.slot last)
          ],
          before.1,
        )
    | inr done ↦ inr (done.0, omega (arith, done.1), done.2, done.3)
  ]
  | inr now ↦ inr (n, omega arith, sym now.0, now.1)
]

-- the pair at a place, whatever stands in for one that is not there
at_place : (items : List (ℕ × List ℕ)) (n : ℕ) (pair other : ℕ × List ℕ) → n < length items
    → pair ≡ slice_index_or items n pair → slice_index_or items n other ≡ pair
at_place [] n pair other within is = absurd (omega (arith, within))
at_place (first ∷ items) zero pair other within is = sym is
at_place (first ∷ items) (suc n) pair other within is = at_place items n pair other (omega (arith, within)) is

-- the next of the changed slots
pub rewrites_turn : (items yielded : List (ℕ × List ℕ)) (at : ℕ) (slot : List ℕ) (old mid new : Kept)
    → (length yielded < length items) × ((at, slot) ≡ slice_index_or items (length yielded) (at, slot))
    → RewritesFirst (length yielded) (changes_of items) old mid
    → Rewrites mid new at slot → RewritesFirst (length (yielded ++ (at, slot) ∷ [])) (changes_of items) old new
rewrites_turn items yielded at slot old mid new next so_far rewrites =
    let here : slice_index_or items (length yielded) (0, []) ≡ (at, slot) =
    at_place items (length yielded) (at, slot) (0, []) next.0 next.1 in
    let more : length yielded + 1 ≡ length (yielded ++ (at, slot) ∷ []) =
    omega (arith, length-append yielded ((at, slot) ∷ [])) in
    subst (λ (n : ℕ). RewritesFirst n (changes_of items) old new) more
    (rewrites_more (length yielded) (changes_of items) old mid new so_far
    (subst (λ (pair : ℕ × List ℕ). Rewrites mid new pair.0 pair.1) (sym here) rewrites))

-- ---- the slots of a disk

module _ (slots : ℕ) (old new : DiskState) (same : new.is_observable ≡ old.is_observable) (kept : Kept)
    (cached : IsSlotCacheOf slots old kept) where
  before : IsObservable new → IsObservable old
  before observable = sym same ∙ observable

  -- behind reads the slots are the same
  slot_later : (IsObservable old → ReadsOnly old new) → (i : ℕ) (slot : List ℕ) → kept_at kept i ≡ Some slot
      → IsTableSlot slots new i slot
  slot_later reads i slot is =
      let was = cached i slot is in
      record {
        within = was.within;
        long = was.long;
        is = λ observable. was.is (before observable)
            ∙ ap (λ (image : List ℕ). table_slot slots image i) (sym (reads (before observable)).bytes);
      }

  pub cache_read : (IsObservable old → ReadsOnly old new) → (after : Kept) → KeepsAll kept after
      → IsSlotCacheOf slots new after
  cache_read reads after keeps i slot is = slot_later reads i slot (sym (keeps i) ∙ is)

  -- and one more is kept
  pub cache_more : (IsObservable old → ReadsOnly old new) → (mid after : Kept) (at : ℕ) (slot : List ℕ)
      → KeepsAll kept mid → KeepsOne mid after at slot → IsTableSlot slots new at slot → IsSlotCacheOf slots new after
  cache_more reads mid after at slot keeps one now i other is = elim (one i other is) [
    | inl was ↦ slot_later reads i other (sym (keeps i) ∙ was)
    | inr here ↦ subst (λ (n : ℕ). IsTableSlot slots new n other) (sym here.0)
        (subst (IsTableSlot slots new at) (sym here.1) now)
  ]

  -- the slots that were committed are rewritten
  pub cache_committed : (changes : journal.Changes) → journal.AreChanges slots changes
      → (IsObservable old → length old.bytes ≡ image_len slots)
      → (IsObservable old → (i : ℕ) → table_slot slots new.bytes i
      ≡ table_slot slots (journal.with_slots slots changes old.bytes) i)
      → (after : Kept) → RewritesFirst changes.count changes kept after → IsSlotCacheOf slots new after
  cache_committed changes are long table after rewrites i slot is = elim (rewrites i slot is) [
    | inl others ↦
        let was = cached i slot others.1 in
        record {
          within = was.within;
          long = was.long;
          is = λ observable.
              let at = before observable in
              was.is at ∙ sym (with-slots-kept slots changes old.bytes are (long at) i was.within others.0)
              ∙ sym (table at i);
        }
    | inr now ↦
        let k = now.0 in
        record {
          within = subst (λ (n : ℕ). n < slots) now.2 (are.below k now.1);
          long = ap length now.3 ∙ are.whole k now.1;
          is = λ observable.
              let at = before observable in
              now.3 ∙ sym (with-slots-changed slots changes old.bytes are (long at) k now.1)
              ∙ ap (λ (n : ℕ). table_slot slots (journal.with_slots slots changes old.bytes) n) now.2
              ∙ sym (table at i);
        }
  ]

-- nothing is kept
pub cache_empty : (slots : ℕ) (disk : DiskState) (none : Kept) → none ≡ [] → IsSlotCacheOf slots disk none
cache_empty slots disk none empty i slot is =
    absurd (none-some slot (sym (ap (λ (kept : Kept). kept_at kept i) empty) ∙ is))

-- ---- a read of a slot

module _ (slots at : ℕ) (old : DiskState) (kept : Kept) (sound : IsObservable old → IsSound old)
    (cached : IsSlotCacheOf slots old kept) where
  -- it is kept
  pub slot_fetched : (after : Kept) (buffer : List ℕ) → KeepsAll kept after → kept_at kept at ≡ Some buffer
      → ReadsSlot slots at old old after buffer {T = Unit {0}} (Ok tt)
  slot_fetched after buffer keeps found = record {
    calls = AreCalls-none old tt;
    reads = λ observable. ReadsOnly-refl old (sound observable);
    cached = λ i slot is. cached i slot (sym (keeps i) ∙ is);
    slot = λ observable. (cached at buffer found).is observable;
  }

  -- behind a look at what is kept
  pub cache_kept : (after : Kept) → KeepsAll kept after → IsSlotCacheOf slots old after
  cache_kept after keeps i slot is = cached i slot (sym (keeps i) ∙ is)

  -- it is kept, and something is told of it
  pub slot_told : {T : Type 0} (IsOf : List ℕ → T → Type 0) (told : T) (after : Kept) → KeepsAll kept after
      → IsOfKept kept at IsOf told → TellsOfSlot slots at old old after IsOf (Ok told)
  slot_told IsOf told after keeps is = record {
    calls = AreCalls-none old told;
    reads = λ observable. ReadsOnly-refl old (sound observable);
    cached = cache_kept after keeps;
    told = λ observable. subst (λ (slot : List ℕ). IsOf slot told) ((cached at is.slot is.there).is observable) is.is;
  }

  module _ (new : DiskState) (mid : Kept) (buffer : List ℕ) (keeps : KeepsAll kept mid) where
    only_read : {T : Type 0} (result : Result T DiskFault) → IsRead {T = T} old new (table_at slots at) buffer result
        → IsObservable old → ReadsOnly old new
    only_read {T} result read observable = ReadsOnly-read old new result (table_at slots at) buffer observable read

    -- it is not, and the disk fails
    pub slot_failed : (fault : DiskFault) → IsRead {T = Unit {0}} old new (table_at slots at) buffer (Err fault)
        → ReadsSlot slots at old new mid buffer {T = Unit {0}} (Err fault)
    slot_failed fault read = record {
      calls = AreCalls-one old new (Err fault) read.call;
      reads = only_read (Err fault) read;
      cached = cache_read slots old new read.call.observable kept cached (only_read (Err fault) read) mid keeps;
      slot = λ observable. tt;
    }

    -- it is read from the disk
    pub slot_read : (after : Kept) → at < slots → length buffer ≡ 4096
        → IsRead {T = Unit {0}} {E = DiskFault} old new (table_at slots at) buffer (Ok tt)
        → KeepsOne mid after at buffer → ReadsSlot slots at old new after buffer {T = Unit {0}} (Ok tt)
    slot_read after below long read one =
        let shows : IsObservable old → buffer ≡ table_slot slots old.bytes at =
        λ observable. (read.observed observable).read
        ∙ ap (λ (n : ℕ). take n (drop (table_at slots at) old.bytes)) long in
        let now : IsTableSlot slots new at buffer = record {
          within = below;
          long = long;
          is = λ observable.
              let before : IsObservable old = sym read.call.observable ∙ observable in
              shows before ∙ ap (λ (image : List ℕ). table_slot slots image at)
              (sym (only_read (Ok tt) read before).bytes);
        } in
        record {
          calls = AreCalls-one old new (Ok tt) read.call;
          reads = only_read (Ok tt) read;
          cached = cache_more slots old new read.call.observable kept cached
              (only_read (Ok tt) read) mid after at buffer keeps one now;
          slot = shows;
        }

-- something is told of a slot that was read
pub told_by_read : {T : Type 0} (slots at : ℕ) (old new : DiskState) (kept : Kept) (buffer : List ℕ)
    (IsOf : List ℕ → T → Type 0) (told : T) → ReadsSlot slots at old new kept buffer {T = Unit {0}} (Ok tt)
    → IsOf buffer told → TellsOfSlot slots at old new kept IsOf (Ok told)
told_by_read slots at old new kept buffer IsOf told read is = record {
  calls = AreCalls-answered old new tt told read.calls;
  reads = read.reads;
  cached = read.cached;
  told = λ observable. subst (λ (slot : List ℕ). IsOf slot told) (read.slot observable) is;
}

-- and nothing where the read failed
pub told_nothing : {T : Type 0} (slots at : ℕ) (old new : DiskState) (kept : Kept) (buffer : List ℕ)
    (IsOf : List ℕ → T → Type 0) (fault : DiskFault) → ReadsSlot slots at old new kept buffer {T = Unit {0}} (Err fault)
    → TellsOfSlot slots at old new kept IsOf (Err fault)
told_nothing slots at old new kept buffer IsOf fault read = record {
  calls = AreCalls-failed old new fault fault read.calls;
  reads = read.reads;
  cached = read.cached;
  told = λ observable. tt;
}
