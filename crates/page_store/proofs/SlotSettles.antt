-- Lemmas on settles of slots that lead to a whole map of pages.
use Rattle.std.proofs.Common.{◌≡◌, ◌⊎◌, ℕ, Bool, true, List, [], length, Result, Ok, Err, OnOk, refl, sym, ap, subst}
use Rattle.std.proofs.Common.{◌∙◌, inl, inr}
use Rattle.std.specs.FinMap as maps
use Rattle.store_model.specs.Parameters.{Parameters, image_len}
use Rattle.store_model.specs.Draws.{Draw, IsLawful}
use Rattle.store_model.specs.PageMaps.{PageMap, IsPageMap}
use Rattle.disk_model.specs.DiskState.{DiskState, IsObservable, IsDurable}
use Rattle.disk_model.proofs.Crashes.{LeavesOnly-weaken}
use Rattle.gate_journal.specs.Changes as journal
use Rattle.gate_journal.specs.Disks.{KeepsDisk}
use Rattle.gate_journal.specs.Phases.{HasEmptyJournal}
use Rattle.gate_journal.specs.Places.{ReadsOnly}
use Rattle.gate_journal.proofs.Committing.{new_header, new_empty}
use Rattle.page_store.specs.declared.commit_kind.CommitKind.TheVariants.{Plain}
use Rattle.page_store.specs.Committing.{CommitsSlots}
use Rattle.table_memory.specs.SlotCaches.{Kept}
use Rattle.table_memory.specs.Memos.{Remembered}
use Rattle.page_store.specs.PageImages.{table_slots, pages_in_table, IsLayoutOf, SlotStandsAt, RepresentsPages}
use Rattle.page_store.specs.Settling.{LeadsTo, SettlesSlotsTo, SettlesSlots}
use Rattle.page_store.specs.StagedState.{StagedState, staged_state, CountsPages, IsStaged}
use Rattle.table_memory.specs.Staging.{StagedPages, with_changes}
use Rattle.page_store.proofs.SettleLemmas.{IsReadSince, runs, counted}
use Rattle.page_store.proofs.SlotLemmas.{pages_in_held}

-- slots that are to be settled over a value of which nothing is staged
pub record AreSettled {D W : Type 0} (state : D → DiskState) (drawn : W → Draw) (p : Parameters) (draw : W) (disk : D)
    (touched : List (ℕ × List ℕ)) (changes : StagedPages) (memo : Remembered) (used settled lookups : ℕ)
    (is_spent : Bool) (was : StagedState D W) (commit : journal.Changes) (count : ℕ) : Type 0 where
  pub at : IsReadSince state drawn p p draw disk disk touched changes memo used settled lookups is_spent was
  pub law : IsLawful (drawn draw)
  pub none_staged : changes ≡ []
  pub are : journal.AreChanges p.slots commit
  pub leads : IsObservable (state disk) → (m : PageMap) × LeadsTo (drawn draw) p commit (state disk).bytes m count

pub are_settled : {D W : Type 0} (state : D → DiskState) (drawn : W → Draw) {p : Parameters} (draw : W)
    (disk : D) {touched : List (ℕ × List ℕ)} {changes : StagedPages} {memo : Remembered} {used settled lookups :
    ℕ} {is_spent : Bool} {was : StagedState D W} (commit : journal.Changes) (count : ℕ)
    → IsReadSince state drawn p p draw disk disk touched changes memo used settled lookups is_spent was
    → IsLawful (drawn draw) → was.staged ≡ [] → journal.AreChanges was.params.slots commit
    → (IsObservable (state was.disk) → (m : PageMap)
    × LeadsTo (drawn was.draw) was.params commit (state was.disk).bytes m count)
    → AreSettled state drawn p draw disk touched changes memo used settled lookups is_spent was commit count
are_settled {D} {W} state drawn {p} draw disk {touched} {changes} {memo} {used} {settled} {lookups} {is_spent} {was}
    commit count at law none are leads =
    let back = sym at.view_is in
    record {
      at = at;
      law = law;
      none_staged = subst (λ (x : StagedState D W). x.staged ≡ []) back none;
      are = subst (λ (x : StagedState D W). journal.AreChanges x.params.slots commit) back are;
      leads = subst (λ (x : StagedState D W). IsObservable (state x.disk)
          → (m : PageMap) × LeadsTo (drawn x.draw) x.params commit (state x.disk).bytes m count) back leads;
    }

module _ {D W : Type 0} {state : D → DiskState} {drawn : W
    → Draw} {p : Parameters} {draw : W} {disk : D} {touched : List
    (ℕ × List ℕ)} {changes : StagedPages} {memo : Remembered} {used settled lookups : ℕ} {is_spent : Bool} {was :
    StagedState D W} {commit : journal.Changes} {count : ℕ}
    (over : AreSettled state drawn p draw disk touched changes memo used settled lookups is_spent was commit count)
  where
    abbrev table : PageMap
    table = pages_in_table p.slots (state disk).bytes

    abbrev old : StagedState D W
    old = staged_state state p draw disk changes memo lookups is_spent

    abbrev Either : PageMap → List ℕ → Type 0
    Either m image = RepresentsPages (drawn draw) p table image ⊎ RepresentsPages (drawn draw) p m image

    stands : IsObservable (state disk) → SlotStandsAt (drawn draw) p table (state disk)
    stands observable = (counted over.at observable).stands

    long : IsObservable (state disk) → length (state disk).bytes ≡ image_len p.slots
    long observable = (over.at.sound disk observable).size ∙ over.at.sized

    -- what a commit asks of the disk
    pub durable_before : IsObservable (state disk) → IsDurable (state disk)
    durable_before observable = (stands observable).durable

    pub empty_before : IsObservable (state disk) → HasEmptyJournal p.slots (state disk).bytes
    empty_before observable = (stands observable).layout.empty

    module _ (observable : IsObservable (state disk)) (m : PageMap)
        (leads : LeadsTo (drawn draw) p commit (state disk).bytes m count) where
      -- the image with the slots is the layout of the pages to which they lead
      becomes_map : IsLayoutOf (drawn draw) p m (journal.with_slots p.slots commit (state disk).bytes)
      becomes_map = record {
        header_is = new_header p.slots commit over.are (state disk).bytes (long observable) (empty_before observable)
            ∙ (stands observable).layout.header_is;
        empty = new_empty p.slots commit over.are (state disk).bytes (long observable) (empty_before observable);
        holds = leads.holds;
      }

      to_either : (image : List ℕ)
          → journal.RecoversToEither p.slots (state disk).bytes (journal.with_slots p.slots commit (state disk).bytes)
          image → Either m image
      to_either image is = elim is.recovers [
        | inl same ↦ inl (record {
          length_is = is.same_length ∙ long observable;
          layout = subst (IsLayoutOf (drawn draw) p table) (sym same) (stands observable).layout;
        })
        | inr same ↦ inr (record {
          length_is = is.same_length ∙ long observable;
          layout = subst (IsLayoutOf (drawn draw) p m) (sym same) becomes_map;
        })
      ]

    module _ (after : D) {E : Type 0} {result : Result (Unit {0}) E} {cache : Kept}
        (commits : CommitsSlots Plain state p.slots commit disk after cache result) where
      keeps : KeepsDisk (state disk) (state after)
      keeps = let calls = commits.calls in record {
        size = calls.size;
        observable = calls.observable;
        faults = calls.rise;
        writes = calls.writes;
        syncs = calls.syncs;
      }

      module _ (observable : IsObservable (state disk)) (m : PageMap)
          (leads : LeadsTo (drawn draw) p commit (state disk).bytes m count) where
        stood : OnOk result (IsDurable (state after))
            → OnOk result ((state after).bytes ≡ journal.with_slots p.slots commit (state disk).bytes)
            → OnOk result (SlotStandsAt (drawn draw) p m (state after))
        stood = stands_by result
          where
            stands_by : (r : Result (Unit {0}) E) → OnOk r (IsDurable (state after))
                → OnOk r ((state after).bytes ≡ journal.with_slots p.slots commit (state disk).bytes)
                → OnOk r (SlotStandsAt (drawn draw) p m (state after))
            stands_by (Ok value) durable done = record {
              layout = subst (IsLayoutOf (drawn draw) p m) (sym done) (becomes_map observable m leads);
              durable = durable;
            }
            stands_by (Err fault) durable done = tt

        settles_to : SettlesSlotsTo (drawn draw) p table m commit.count (state disk) (state after) result
        settles_to =
            let done = commits.observed observable in
            record {
              stands = stood done.commits.durable done.commits.done;
              crash = LeavesOnly-weaken (state disk) (state after)
                  (journal.RecoversToEither p.slots (state disk).bytes
                  (journal.with_slots p.slots commit (state disk).bytes)) (Either m)
                  (to_either observable m leads) done.commits.crash;
              reads = to_either observable m leads (state after).bytes done.commits.reads;
              still = λ none. subst (λ (x : D). ReadsOnly (state disk) (state x)) (sym (commits.none refl none))
                  (over.at.kept.reads observable);
              counts = record { made = done.made; limit = done.limit };
              wrote = done.wrote;
            }

    -- the disk failed
    pub slots_failed : (after : D) {E : Type 0} (fault : E) {cache : Kept} (now_memo : Remembered)
        → CommitsSlots {T = Unit {0}} Plain state p.slots commit disk after cache (Err fault)
        → SettlesSlots {T = Unit {0}} state drawn commit count was
        (staged_state state p draw after changes now_memo lookups true) (Err fault)
    slots_failed after {E} fault now_memo commits =
        subst (λ (x : StagedState D W). SettlesSlots {T = Unit {0}} {E = E} state drawn commit count x
        (staged_state state p draw after changes now_memo lookups true) (Err fault)) over.at.view_is (record {
          params = refl;
          draw = refl;
          lookups = refl;
          kept = keeps after commits;
          faults = commits.calls.faults;
          runs = tt;
          spends = refl;
          table = λ observable m leads. tt;
          none_staged = tt;
          observed = settles_to after commits;
        })

    pub slots_failed_staged : (after : D) (later : List (ℕ × List ℕ))
        → IsStaged (drawn draw) p (state after) later changes used settled true
    slots_failed_staged after later = record { drawn = over.at.staged.drawn; counted = λ observable still. absurd (cc) }

    -- all was done
    module _ (after : D) {E : Type 0} (value : Unit {0}) {cache : Kept}
        (commits : CommitsSlots {E = E} Plain state p.slots commit disk after cache (Ok value)) where
      stands_after : (observable : IsObservable (state disk)) (m : PageMap)
          → LeadsTo (drawn draw) p commit (state disk).bytes m count → SlotStandsAt (drawn draw) p m (state after)
      stands_after observable m leads = (settles_to after commits observable m leads).stands

      new_table : IsObservable (state disk) → (m : PageMap) → LeadsTo (drawn draw) p commit (state disk).bytes m count
          → pages_in_table p.slots (state after).bytes ≡ m
      new_table observable m leads = pages_in_held (drawn draw)
          (table_slots p.slots (state after).bytes) m over.law (stands_after observable m leads).layout.holds

      pub slots_done : (now_memo : Remembered)
          → SettlesSlots {E = E} state drawn commit count was
          (staged_state state p draw after changes now_memo lookups is_spent) (Ok value)
      slots_done now_memo =
          subst (λ (x : StagedState D W). SettlesSlots {E = E} state drawn commit count x
          (staged_state state p draw after changes now_memo lookups is_spent) (Ok value)) over.at.view_is (record {
            params = refl;
            draw = refl;
            lookups = refl;
            kept = keeps after commits;
            faults = commits.calls.faults;
            runs = runs over.at;
            spends = tt;
            table = new_table;
            none_staged = ap (with_changes (pages_in_table p.slots (state after).bytes)) over.none_staged;
            observed = settles_to after commits;
          })

      pub slots_done_staged : (later : List (ℕ × List ℕ)) → later ≡ []
          → IsStaged (drawn draw) p (state after) later changes count count is_spent
      slots_done_staged later untouched = record {
        drawn = over.at.staged.drawn;
        counted = λ observable still.
            let before = sym commits.calls.observable ∙ observable in
            let some = over.leads before in
            let table_is = new_table before some.0 some.1 in
            let at_map = stands_after before some.0 some.1 in
            let count_is = some.1.count ∙ ap maps.len (sym table_is) in
            subst (λ (es : StagedPages). CountsPages (drawn draw) p (state after) later es count count)
            (sym over.none_staged)
            (subst (λ (t : List (ℕ × List ℕ)). CountsPages (drawn draw) p (state after) t [] count count)
            (sym untouched) (record {
              stands = subst (λ (n : PageMap). SlotStandsAt (drawn draw) p n (state after)) (sym table_is) at_map;
              valid = subst IsPageMap (sym table_is) at_map.layout.holds.pages;
              used_is = count_is;
              untouched = refl;
              settled_is = count_is;
            }));
      }
