-- Lemmas on settles: refused, failed and done.
use Rattle.std.proofs.Common.{◌≡◌, ◌⊎◌, ℕ, ◌<◌, ◌≤◌, Bool, true, false, List, [], length, Result, Ok, Err, OnOk, refl}
use Rattle.std.proofs.Common.{sym, ap, ap₂, subst, ◌∙◌, inl, arith}
use Rattle.std.specs.FinMap as maps
use Rattle.store_base.specs.Counts.{raised, Rose}
use Rattle.store_base.specs.Faults.{disk_faults_after}
use Rattle.store_base.specs.declared.store_fault.Fault.{Fault}
use Rattle.store_base.specs.declared.store_fault.Fault.TheVariants as below
use Rattle.store_model.specs.Parameters.{Parameters, image_len}
use Rattle.store_model.specs.Draws.{Draw, IsLawful}
use Rattle.store_model.specs.PageMaps.{PageMap, page_at, IsPageMap, HoldsPages}
use Rattle.disk_model.specs.DiskState.{DiskState, IsObservable, IsDurable, IsSound}
use Rattle.disk_model.specs.DiskCalls.{LeavesOnly}
use Rattle.disk_model.proofs.Crashes.{LeavesOnly-trans, LeavesOnly-weaken}
use Rattle.gate_journal.specs.Changes as journal
use Rattle.gate_journal.specs.Costs.{MadeAtMost}
use Rattle.gate_journal.specs.Disks.{KeepsDisk}
use Rattle.gate_journal.specs.Phases.{HasEmptyJournal}
use Rattle.gate_journal.specs.Places.{Made, ReadsOnly}
use Rattle.gate_journal.specs.ViewState.{KeepsView}
use Rattle.gate_journal.proofs.Phases.{recovered_empty}
use Rattle.table_memory.specs.declared.changed.ChangedSlots.{ChangedSlots}
use Rattle.page_store.specs.declared.fault.SettleFault.{SettleFault}
use Rattle.page_store.specs.declared.fault.SettleFault.TheVariants as causes
use Rattle.table_memory.specs.Differences.{AreDifferences}
use Rattle.page_store.specs.declared.commit_kind.CommitKind.{CommitKind}
use Rattle.page_store.specs.CommitKinds.{committed, params_by, LeavesPages, writes_by, syncs_by}
use Rattle.page_store.specs.Committing.{CommitsAs, CommitsSlots}
use Rattle.page_store.specs.Faults.{settle_faults_after, settle_fault_of}
use Rattle.table_memory.specs.SlotCaches.{Kept, changes_of}
use Rattle.table_memory.specs.Memos.{Remembered, IsMemoOf, Renews}
use Rattle.table_memory.specs.OverlayState.{overlaid}
use Rattle.page_store.specs.PageImages.{table_slots, pages_in_table, placed_slot, IsLayoutOf, SlotStandsAt}
use Rattle.page_store.specs.PageImages.{RepresentsPages, slots_between}
use Rattle.page_store.specs.Preparing.{FindsSlots}
use Rattle.page_store.specs.Settling.{AnswersFull, SettlesDiskBy, SettlesBy}
use Rattle.page_store.specs.StagedState.{StagedState, staged_state, CountsPages, IsStaged}
use Rattle.table_memory.specs.Staging.{StagedPages, with_changes}
use Rattle.page_store.proofs.CommitLemmas.{becomes, either, made_behind, limit_behind, limit_reading, counts_by}
use Rattle.page_store.proofs.CommitLemmas.{params_stay, params_become, leaves_pages}
use Rattle.table_memory.proofs.DifferLemmas.{differing-itself}
use Rattle.table_memory.proofs.MemoLemmas.{renewed}
use Rattle.page_store.proofs.SlotLemmas.{pages_in_held}
use Rattle.page_store.proofs.StagedLemmas.{IsReadLater, read_later, staged_later, memo_later}

-- a disk that stands at pages represents them
represents_at : (d : Draw) (p : Parameters) (m : PageMap) (image : List ℕ) → length image ≡ image_len p.slots
    → IsLayoutOf d p m image → RepresentsPages d p m image
represents_at d p m image long layout = record {
  length_is = long;
  layout = subst (IsLayoutOf d p m) (sym (recovered_empty p.slots image long layout.empty)) layout;
}

-- a value that is not spent, over a disk that was only read since
pub record IsReadSince {D W : Type 0} (state : D → DiskState) (drawn : W → Draw) (p q : Parameters) (draw : W)
    (disk mid : D) (touched : List (ℕ × List ℕ)) (changes : StagedPages) (was_memo : Remembered)
    (used settled lookups : ℕ) (is_spent : Bool) (was : StagedState D W) : Type 0 where
  pub sound : (x : D) → IsObservable (state x) → IsSound (state x)
  pub sized : (state disk).size ≡ image_len p.slots
  pub staged : IsStaged (drawn draw) p (state disk) touched changes used settled is_spent
  pub view_is : staged_state state p draw disk changes was_memo lookups is_spent ≡ was
  pub unspent : was.is_spent ≡ false
  pub kept : KeepsView p q (state disk) (state mid)

pub read_since : {D W : Type 0} (state : D → DiskState) (drawn : W → Draw) {p q : Parameters} (draw : W)
    (disk mid : D) {touched : List (ℕ × List ℕ)} {changes : StagedPages} {was_memo : Remembered} {used settled lookups :
    ℕ} {is_spent : Bool} {was : StagedState D W}
    → ((x : D) → IsObservable (state x) → IsSound (state x)) → (state disk).size ≡ image_len p.slots
    → IsStaged (drawn draw) p (state disk) touched changes used settled is_spent
    → staged_state state p draw disk changes was_memo lookups is_spent ≡ was → was.is_spent ≡ false
    → KeepsView p q (state disk) (state mid)
    → IsReadSince state drawn p q draw disk mid touched changes was_memo used settled lookups is_spent was
read_since state drawn draw disk mid sound sized staged view_is unspent kept = record {
  sound = sound;
  sized = sized;
  staged = staged;
  view_is = view_is;
  unspent = unspent;
  kept = kept;
}

module _ {D W : Type 0} {state : D → DiskState} {drawn : W
    → Draw} {p q : Parameters} {draw : W} {disk mid : D} {touched : List
    (ℕ × List ℕ)} {changes : StagedPages} {was_memo : Remembered} {used settled lookups : ℕ} {is_spent : Bool} {was :
    StagedState D W} (at : IsReadSince state drawn p q draw disk mid touched changes was_memo used settled
    lookups is_spent was) where
  pub runs : is_spent ≡ false
  runs = ap (λ (x : StagedState D W). x.is_spent) at.view_is ∙ at.unspent

  abbrev table : PageMap
  table = pages_in_table p.slots (state disk).bytes

  abbrev pages : PageMap
  pages = with_changes table changes

  abbrev Either : CommitKind → List ℕ → Type 0
  Either kind image = RepresentsPages (drawn draw) p table image
      ⊎ RepresentsPages (drawn draw) (params_by kind p) pages image

  pub counted : IsObservable (state disk) → CountsPages (drawn draw) p (state disk) touched changes used settled
  counted observable = at.staged.counted observable runs

  represents : IsObservable (state disk) → RepresentsPages (drawn draw) p table (state disk).bytes
  represents observable = represents_at (drawn draw) p table
      (state disk).bytes ((at.sound disk observable).size ∙ at.sized) (counted observable).stands.layout

  crash_read : (kind : CommitKind) → IsObservable (state disk) → LeavesOnly (state disk) (state mid) (Either kind)
  crash_read kind observable =
      LeavesOnly-weaken (state disk) (state mid) (state disk).crash_images (Either kind)
      (λ image left. inl (subst (RepresentsPages (drawn draw) p table)
      (sym ((counted observable).stands.durable image left)) (represents observable)))
      (at.kept.reads observable).leaves

  same_table : IsObservable (state disk) → pages_in_table q.slots (state mid).bytes ≡ table
  same_table observable = ap₂ (λ (r : Parameters) (bytes : List ℕ). pages_in_table r.slots bytes)
      at.kept.params (at.kept.reads observable).bytes

  read_again : (later : List (ℕ × List ℕ)) → later ≡ [] → IsReadLater p q (state disk) (state mid) touched later
  read_again later none =
      read_later p q (state disk) (state mid) touched later at.kept
      (λ observable.
      ap (λ (t : List (ℕ × List ℕ)). (overlaid q.slots t (state mid)).slots) none
      ∙ ap₂ (λ (r : Parameters) (bytes : List ℕ). table_slots r.slots bytes)
      at.kept.params (at.kept.reads observable).bytes ∙ sym (counted observable).untouched)

  -- the changes stay staged
  pub read_staged : (later : List (ℕ × List ℕ)) → later ≡ []
      → IsStaged (drawn draw) q (state mid) later changes used settled is_spent
  read_staged later none = staged_later (drawn draw) p q (state disk)
      (state mid) touched later changes used settled is_spent at.staged (read_again later none)

  -- and what is remembered of the table
  pub read_memo : (later : List (ℕ × List ℕ)) → later ≡ [] → (memo : Remembered)
      → IsMemoOf (drawn draw) (overlaid p.slots touched (state disk)) memo
      → IsMemoOf (drawn draw) (overlaid q.slots later (state mid)) memo
  read_memo later none memo of = memo_later (drawn draw) p q (state disk) (state mid) touched later memo
      (read_again later none) of

  abbrev differing_slots : ℕ
  differing_slots = slots_between (drawn draw) table pages

  read_disk : (kind : CommitKind) (fault : SettleFault) → IsObservable (state disk)
      → AnswersFull {T = Unit {0}} (drawn draw) pages (Err fault)
      → SettlesDiskBy {T = Unit {0}} kind (drawn draw) p table pages (state disk) (state mid) false (Err fault)
  read_disk kind fault observable full =
      let reads = at.kept.reads observable in
      record {
        full = full;
        stands = tt;
        crash = crash_read kind observable;
        reads = inl (subst (RepresentsPages (drawn draw) p table) (sym reads.bytes) (represents observable));
        still = λ e. reads;
        no_memory = λ e. reads;
        too_many = λ need slots e. reads;
        counts = counts_by kind differing_slots (state disk) (state mid) (Err fault) tt
            (limit_reading (writes_by kind differing_slots) (syncs_by kind differing_slots)
            (state disk) (state mid) reads);
        spends = λ e. absurd (cc);
        goes_on = λ e is. reads;
      }

  -- a settle that is refused, or fails before the first write
  pub refused : (kind : CommitKind) (now_memo : Remembered) (fault : SettleFault)
      → (state mid).faults ≡ settle_faults_after {T = Unit {0}} (state disk).faults (Err fault)
      → (IsObservable (state disk) → AnswersFull {T = Unit {0}} (drawn draw) pages (Err fault))
      → SettlesBy {T = Unit {0}} kind state drawn was
      (staged_state state q draw mid changes now_memo lookups is_spent) (Err fault)
  refused kind now_memo fault faults full =
      subst (λ (x : StagedState D W). SettlesBy {T = Unit {0}} kind state drawn x
      (staged_state state q draw mid changes now_memo lookups is_spent) (Err fault)) at.view_is (record {
        params = at.kept.params ∙ sym (params_stay (Unit {0}) kind p fault);
        draw = refl;
        lookups = refl;
        kept = record {
          size = at.kept.size;
          observable = at.kept.observable;
          faults = at.kept.rise;
          writes = at.kept.writes;
          syncs = at.kept.syncs;
        };
        faults = faults;
        runs = λ other. runs;
        map = λ observable still. ap (λ (m : PageMap). with_changes m changes) (same_table observable);
        table = λ observable. tt;
        table_stays = λ observable still. same_table observable;
        observed = λ observable.
            subst (λ (b : Bool). SettlesDiskBy {T = Unit {0}} kind (drawn draw) p table pages (state disk) (state mid) b
            (Err fault)) (sym runs)
            (read_disk kind fault observable (full observable));
      })

  seen : IsObservable (state disk) → IsObservable (state mid)
  seen observable = at.kept.observable ∙ observable

  unseen : IsObservable (state mid) → IsObservable (state disk)
  unseen observable = sym at.kept.observable ∙ observable

  stands_mid : IsObservable (state disk) → SlotStandsAt (drawn draw) p table (state mid)
  stands_mid observable =
      let reads = at.kept.reads observable in
      let stands = (counted observable).stands in
      record {
        layout = subst (IsLayoutOf (drawn draw) p table) (sym reads.bytes) stands.layout;
        durable = λ image left. stands.durable image ((reads.crash image).0 left) ∙ sym reads.bytes;
      }

  -- what a commit asks of the disk
  pub durable_mid : IsObservable (state mid) → IsDurable (state mid)
  durable_mid observable = (stands_mid (unseen observable)).durable

  pub empty_mid : IsObservable (state mid) → HasEmptyJournal p.slots (state mid).bytes
  empty_mid observable = (stands_mid (unseen observable)).layout.empty

  fits : used ≤ p.slots → IsObservable (state disk) → maps.len pages ≤ (drawn draw).slots
  fits fewer observable = omega (arith, fewer, (counted observable).used_is, at.staged.drawn)

  few : used ≤ p.slots → IsObservable (state disk) → (drawn draw).slots < maps.len pages → ⊥
  few fewer observable more = let fewer_pages = fits fewer observable in absurd (omega (arith, fewer_pages, more))

  -- the slots that differ were not found
  pub not_found : (kind : CommitKind) (now_memo : Remembered) (fault : Fault) → used ≤ p.slots
      → (state mid).faults ≡ disk_faults_after {T = ChangedSlots} (state disk).faults (Err fault)
      → SettlesBy {T = Unit {0}} kind state drawn was (staged_state state q draw mid changes now_memo lookups is_spent)
      (Err (settle_fault_of fault))
  not_found kind now_memo below.Disk fewer faults = refused kind now_memo causes.Disk faults (few fewer)
  not_found kind now_memo below.NoMemory fewer faults = refused kind now_memo causes.NoMemory faults (few fewer)

  -- the slots that differ were found, and are committed
  module _ (kind : CommitKind) (fewer : used ≤ p.slots) (law : IsLawful (drawn draw))
      (changed : ChangedSlots) {found : Result ChangedSlots Fault} (is : found ≡ Ok changed)
      (found_by : FindsSlots (drawn draw) p touched changes (state disk) (state mid) found) (after : D) where
    finds : FindsSlots (drawn draw) p touched changes (state disk) (state mid) (Ok changed)
    finds = subst (FindsSlots (drawn draw) p touched changes (state disk) (state mid)) is found_by

    abbrev commit : journal.Changes
    commit = changes_of changed.slots.items

    differ : IsObservable (state disk)
        → AreDifferences (placed_slot (drawn draw) table) (placed_slot (drawn draw) pages) (drawn draw).slots commit
    differ observable =
        let now = counted observable in
        finds.differ table observable now.stands.layout.holds now.untouched now.valid (fits fewer observable)

    becomes_pages : IsObservable (state disk)
        → IsLayoutOf (drawn draw) (params_by kind p) pages (committed kind p.slots commit (state mid).bytes)
    becomes_pages observable =
        becomes (drawn draw) p table pages (state mid) at.staged.drawn (at.sound mid (seen observable))
        (at.kept.size ∙ at.sized) (stands_mid observable) (counted observable).valid (fits fewer observable) commit
        finds.rise (differ observable) kind

    to_either : IsObservable (state disk) → (image : List ℕ)
        → journal.RecoversToEither p.slots (state mid).bytes (committed kind p.slots commit (state mid).bytes) image
        → Either kind image
    to_either observable =
        either (drawn draw) p table pages (state mid) at.staged.drawn (at.sound mid (seen observable))
        (at.kept.size ∙ at.sized) (stands_mid observable) (counted observable).valid (fits fewer observable) commit
        finds.rise (differ observable) kind

    module _ {E : Type 0} {result : Result (Unit {0}) E} {cache : Kept}
        (commits : CommitsSlots kind state p.slots commit mid after cache result) where
      observed : IsObservable (state disk) → CommitsAs kind p.slots commit (state mid) (state after) result
      observed observable = commits.observed (seen observable)

      keeps : KeepsDisk (state disk) (state after)
      keeps =
          let calls = commits.calls in
          record {
            size = calls.size ∙ at.kept.size;
            observable = calls.observable ∙ at.kept.observable;
            faults = omega (arith, at.kept.rise, calls.rise);
            writes = omega (arith, at.kept.writes, calls.writes);
            syncs = omega (arith, at.kept.syncs, calls.syncs);
          }

      crash : IsObservable (state disk) → LeavesOnly (state disk) (state after) (Either kind)
      crash observable =
          LeavesOnly-trans (state disk) (state mid) (state after) (Either kind) (crash_read kind observable)
          (LeavesOnly-weaken (state mid) (state after)
          (journal.RecoversToEither p.slots (state mid).bytes (committed kind p.slots commit (state mid).bytes))
          (Either kind) (to_either observable) (observed observable).commits.crash)

      reads : IsObservable (state disk) → Either kind (state after).bytes
      reads observable = to_either observable (state after).bytes (observed observable).commits.reads

      made : IsObservable (state disk)
          → OnOk result (Made (writes_by kind differing_slots) (syncs_by kind differing_slots)
          (state disk) (state after))
      made observable =
          subst (λ (n : ℕ). OnOk result (Made (writes_by kind n) (syncs_by kind n) (state disk) (state after)))
          (differ observable).count_is
          (made_behind (writes_by kind commit.count) (syncs_by kind commit.count) (state disk) (state mid)
          (state after) result (at.kept.reads observable) (observed observable).made)

      limit : IsObservable (state disk) → MadeAtMost (writes_by kind differing_slots) (syncs_by kind differing_slots)
          (state disk) (state after)
      limit observable =
          subst (λ (n : ℕ). MadeAtMost (writes_by kind n) (syncs_by kind n) (state disk) (state after))
          (differ observable).count_is
          (limit_behind (writes_by kind commit.count) (syncs_by kind commit.count) (state disk) (state mid)
          (state after) (at.kept.reads observable) (observed observable).limit)

      -- where the commit leaves the image no slot differs, and nothing was committed
      still : IsObservable (state disk) → LeavesPages kind table pages → ReadsOnly (state disk) (state after)
      still observable leaves =
          let (plain, same) = leaves_pages kind table pages leaves in
          let count_is : commit.count ≡ 0 = (differ observable).count_is ∙ ap (slots_between (drawn draw) table) same
          ∙ differing-itself (placed_slot (drawn draw) table) (drawn draw).slots in
          subst (λ (x : D). ReadsOnly (state disk) (state x)) (sym (commits.none plain count_is))
          (at.kept.reads observable)

    -- the disk failed
    pub failed : (now_memo : Remembered) {E : Type 0} (fault : E) {cache : Kept}
        → CommitsSlots {T = Unit {0}} kind state p.slots commit mid after cache (Err fault)
        → SettlesBy {T = Unit {0}} kind state drawn was
        (staged_state state q draw after changes now_memo lookups true) (Err causes.Disk)
    failed now_memo fault commits =
        subst (λ (x : StagedState D W). SettlesBy {T = Unit {0}} kind state drawn x
        (staged_state state q draw after changes now_memo lookups true) (Err causes.Disk)) at.view_is (record {
          params = at.kept.params ∙ sym (params_stay (Unit {0}) kind p causes.Disk);
          draw = refl;
          lookups = refl;
          kept = keeps commits;
          faults = commits.calls.faults ∙ ap raised finds.faults;
          runs = λ other. absurd (other refl);
          map = λ observable still. absurd (cc);
          table = λ observable. tt;
          table_stays = λ observable still. absurd (cc);
          observed = λ observable. record {
            full = few fewer observable;
            stands = tt;
            crash = crash commits observable;
            reads = reads commits observable;
            still = still commits observable;
            no_memory = λ e. absurd (cc);
            too_many = λ need slots e. absurd (cc);
            counts = counts_by kind differing_slots (state disk) (state after) (Err causes.Disk) tt
                (limit commits observable);
            spends = λ e. (
              refl,
              inl (subst (λ (n : ℕ). Rose n (state after).writes)
                  (at.kept.reads observable).write_count (observed commits observable).wrote),
            );
            goes_on = λ e f. absurd (cc);
          };
        })

    pub failed_staged : (later : List (ℕ × List ℕ))
        → IsStaged (drawn draw) q (state after) later changes used settled true
    failed_staged later = record {
      drawn = at.staged.drawn ∙ ap (λ (r : Parameters). r.slots) (sym at.kept.params);
      counted = λ observable still. absurd (cc);
    }

    -- all was done
    module _ {E : Type 0} (value : Unit {0}) {cache : Kept}
        (commits : CommitsSlots {E = E} kind state p.slots commit mid after cache (Ok value)) (r : Parameters)
        (r_is : r ≡ params_by kind p) where
      stands_after : IsObservable (state disk) → SlotStandsAt (drawn draw) (params_by kind p) pages (state after)
      stands_after observable =
          let done = (observed commits observable).commits in
          record {
            layout = subst (IsLayoutOf (drawn draw) (params_by kind p) pages) (sym done.done)
                (becomes_pages observable);
            durable = done.durable;
          }

      new_table : IsObservable (state disk) → pages_in_table p.slots (state after).bytes ≡ pages
      new_table observable = pages_in_held (drawn draw) (table_slots p.slots (state after).bytes) pages law
          (stands_after observable).layout.holds

      before : IsObservable (state after) → IsObservable (state disk)
      before observable = sym (commits.calls.observable ∙ at.kept.observable) ∙ observable

      pub done_staged : (later : List (ℕ × List ℕ)) (no_change : StagedPages) → later ≡ [] → no_change ≡ []
          → IsStaged (drawn draw) r (state after) later no_change used used is_spent
      done_staged later no_change untouched empty = record {
        drawn = at.staged.drawn ∙ ap (λ (x : Parameters). x.slots) (sym r_is);
        counted = λ observable still.
            let table_is = new_table (before observable) in
            let used_is = (counted (before observable)).used_is ∙ ap maps.len (sym table_is) in
            subst (λ (es : StagedPages). CountsPages (drawn draw) r (state after) later es used used) (sym empty)
            (subst (λ (t : List (ℕ × List ℕ)). CountsPages (drawn draw) r (state after) t [] used used) (sym untouched)
            (subst (λ (x : Parameters). CountsPages (drawn draw) x (state after) [] [] used used) (sym r_is) (record {
              stands = subst (λ (m : PageMap). SlotStandsAt (drawn draw) (params_by kind p) m (state after))
                  (sym table_is) (stands_after (before observable));
              valid = subst IsPageMap (sym table_is) (counted (before observable)).valid;
              used_is = used_is;
              untouched = refl;
              settled_is = used_is;
            })));
      }

      -- what is remembered then is of the new table
      pub done_memo : (later : List (ℕ × List ℕ)) → later ≡ [] → (memo renewed_memo : Remembered)
          → IsMemoOf (drawn draw) (overlaid p.slots touched (state disk)) memo → Renews changes memo renewed_memo
          → IsMemoOf (drawn draw) (overlaid r.slots later (state after)) renewed_memo
      done_memo later untouched memo renewed_memo of renews = record {
        tells = λ m observable holds l page is.
            let slots_are : (overlaid r.slots later (state after)).slots ≡ table_slots p.slots (state after).bytes =
            ap (λ (t : List (ℕ × List ℕ)). (overlaid r.slots t (state after)).slots) untouched
            ∙ ap (λ (x : Parameters). table_slots x.slots (state after).bytes) r_is in
            let held = subst (λ (slots : List (List ℕ)). HoldsPages (drawn draw) slots m) slots_are holds in
            let map_is : m ≡ pages =
            sym (pages_in_held (drawn draw) (table_slots p.slots (state after).bytes) m law held)
            ∙ new_table (before observable) in
            let now = counted (before observable) in
            let held_before = subst (λ (slots : List (List ℕ)). HoldsPages (drawn draw) slots table)
            (sym now.untouched) now.stands.layout.holds in
            renewed table changes memo renewed_memo l page (of.tells table (before observable) held_before l page)
            renews is ∙ ap (λ (n : PageMap). page_at n l) (sym map_is);
      }

      pub done : (now_memo : Remembered) (no_change : StagedPages) → no_change ≡ []
          → SettlesBy kind state drawn was (staged_state state r draw after no_change now_memo lookups is_spent)
          (Ok value)
      done now_memo no_change empty =
          let table_is = λ (observable : IsObservable (state disk)).
          ap (λ (x : Parameters). pages_in_table x.slots (state after).bytes) r_is ∙ new_table observable in
          subst (λ (x : StagedState D W). SettlesBy kind state drawn x
          (staged_state state r draw after no_change now_memo lookups is_spent) (Ok value)) at.view_is (record {
            params = r_is ∙ sym (params_become SettleFault kind p value);
            draw = refl;
            lookups = refl;
            kept = keeps commits;
            faults = commits.calls.faults ∙ finds.faults;
            runs = λ other. runs;
            map = λ observable still. ap (with_changes (pages_in_table r.slots (state after).bytes)) empty
                ∙ table_is observable;
            table = table_is;
            table_stays = λ observable still. tt;
            observed = λ observable.
                subst (λ (b : Bool). SettlesDiskBy kind (drawn draw) p table pages (state disk) (state after) b
                (Ok value)) (sym runs) (record {
                  full = few fewer observable;
                  stands = stands_after observable;
                  crash = crash commits observable;
                  reads = reads commits observable;
                  still = still commits observable;
                  no_memory = λ e. absurd (cc);
                  too_many = λ need slots e. absurd (cc);
                  counts = counts_by kind differing_slots (state disk) (state after) (Ok value)
                      (made commits observable) (limit commits observable);
                  spends = λ e. absurd (cc);
                  goes_on = λ e f. absurd (cc);
                });
          })
