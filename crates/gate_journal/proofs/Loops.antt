-- The loops over the changed slots, one step on and at the end, and the version's byte behind them.
use Rattle.std.proofs.Common.{◌≡◌, ℕ, ◌+◌, ◌*◌, ◌<◌, List, [], ◌∷◌, length, slice_index, refl, sym, ap, ◌∙◌, subst, inl}
use Rattle.std.proofs.Common.{inr, arith, add-one, Result, Ok, IsErr}
use borrow.Author.Count.{below_more}
use Rattle.store_model.specs.Lists.{zeros}
use Rattle.store_model.specs.Parameters.{mark_at, shadow_at, table_at, image_len}
use Rattle.gate_journal.specs.declared.commit.Kind.TheVariants.{Slots, Upgrade}
use Rattle.gate_journal.specs.declared.commit.Pass.{Pass}
use Rattle.gate_journal.specs.declared.commit.Pass.TheVariants.{Journal, Table, Erase}
use Rattle.disk_model.specs.DiskState.{DiskState, IsObservable, IsSound}
use Rattle.disk_model.specs.DiskCalls.{IsSync, overwrite}
use Rattle.gate_journal.specs.Places.{IsApart, SameAt, Keeps, Reaches, Makes}
use Rattle.gate_journal.proofs.SoFar.{Comes}
use Rattle.gate_journal.specs.Changes.{Changes, AreChanges, OutsideEntry, HasEntry, with_first}
use Rattle.gate_journal.specs.Passes.{slot_writes, OutsideWrite, HasWritten, version_place, version_value, OutsideSlots}
use Rattle.gate_journal.specs.Passes.{OutsidePass, HasPassedFirst, HasPassed}
use Rattle.gate_journal.proofs.Areas.{areas, marks_end, shadow_end, table_end}
use Rattle.gate_journal.proofs.Places.{Keeps-trans, Keeps-weaken, bytes_at-same}
use Rattle.gate_journal.proofs.Calls.{Made-then, Made-as, Reaches-sync, Reaches-fault}
use Rattle.gate_journal.proofs.Entries.{slice_index-overwrite}
use Rattle.gate_journal.proofs.Stages.{on_ok_map}

-- the writes for one more slot
pub writes_more : (pass : Pass) (k : ℕ) → slot_writes pass * k + slot_writes pass ≡ slot_writes pass * (k + 1)
writes_more Journal k = omega arith
writes_more Table k = omega arith
writes_more Erase k = omega arith

-- a write to the journal of another slot leaves this one's
pub HasEntry-kept : (slots slot other mark : ℕ) (shadow a b : List ℕ) → other < slot → slot < slots
    → SameAt (OutsideEntry slots slot) a b → HasEntry slots other mark shadow a → HasEntry slots other mark shadow b
HasEntry-kept slots slot other mark shadow a b rises below same entry =
    let at_slot = areas slots slot below in
    let at_other = areas slots other (omega arith) in
    record {
      mark_is =
          same.same (mark_at other) (record {
            mark = inl (omega arith);
            shadow = inl (omega (arith, at_other.mark_end, at_slot.shadow_is));
          })
          ∙ entry.mark_is;
      shadow_is =
          bytes_at-same (OutsideEntry slots slot) (shadow_at slots other) 4096 a b
          (λ place low high. record {
            mark = inr (omega (arith, at_slot.mark_end, at_other.shadow_is));
            shadow = inl (omega (arith, at_other.shadow_is, at_slot.shadow_is));
          })
          same ∙ entry.shadow_is;
    }

module _ (slots : ℕ) (changes : Changes) (valid : AreChanges slots changes) where
  -- one more slot's journal
  entries_more : (mark : ℕ) (content : ℕ → List ℕ) (a b : List ℕ) (k : ℕ) → k < changes.count
      → SameAt (OutsideEntry slots (changes.slot k)) a b
      → ((j : ℕ) → j < k → HasEntry slots (changes.slot j) mark (content j) a)
      → HasEntry slots (changes.slot k) mark (content k) b
      → (j : ℕ) → j < k + 1 → HasEntry slots (changes.slot j) mark (content j) b
  entries_more mark content a b k below same before here =
      below_more (λ (j : ℕ). HasEntry slots (changes.slot j) mark (content j) b) k
      (λ j earlier. HasEntry-kept slots (changes.slot k) (changes.slot j) mark (content j) a b
      (valid.rising j k earlier below) (valid.below k below) same (before j earlier)) here

  passed_more : (pass : Pass) (start a b : List ℕ) (k : ℕ) → k < changes.count
      → SameAt (OutsideWrite pass slots (changes.slot k)) a b → HasPassedFirst pass slots changes k start a
      → HasWritten pass slots (changes.slot k) (changes.bytes k) a b → HasPassedFirst pass slots changes (k + 1) start b
  passed_more Journal start a b k below same before here = entries_more 1 changes.bytes a b k below same before here
  passed_more Table start a b k below same before here =
      here ∙ ap (λ (l : List ℕ). overwrite l (table_at slots (changes.slot k)) (changes.bytes k)) before
      ∙ ap (λ (n : ℕ). with_first slots changes n start) (sym (add-one k))
  passed_more Erase start a b k below same before here = entries_more 0 (λ _. zeros 4096) a b k below same before here

  -- one more slot
  pub pass_step : {E : Type 0} (pass : Pass) (old mid new : DiskState) (k : ℕ) → k < changes.count → IsSound mid
      → Comes (OutsideSlots pass slots changes) (HasPassedFirst pass slots changes k old.bytes)
      (slot_writes pass * k) old mid
      → Reaches {T = Unit {0}} {E = E} (OutsideWrite pass slots (changes.slot k))
      (HasWritten pass slots (changes.slot k) (changes.bytes k) mid.bytes) mid new (Ok tt)
      → Makes {T = Unit {0}} {E = E} (slot_writes pass) 0 mid new (Ok tt)
      → Comes (OutsideSlots pass slots changes) (HasPassedFirst pass slots changes (k + 1) old.bytes)
      (slot_writes pass * (k + 1)) old new
  pass_step pass old mid new k below sound comes reaches makes =
      record {
        keeps = Keeps-trans (OutsideSlots pass slots changes) old mid new sound
            comes.keeps (Keeps-weaken (OutsideWrite pass slots (changes.slot k)) (OutsideSlots pass slots changes)
            mid new (λ place outside. outside k below) reaches.keeps);
        done = passed_more pass old.bytes mid.bytes new.bytes k below reaches.keeps.reads comes.done reaches.done;
        made = Made-as old new (slot_writes pass * k + slot_writes pass) 0 (slot_writes pass * (k + 1)) 0
            (writes_more pass k) refl
            (Made-then old mid new tt (slot_writes pass * k) 0 (slot_writes pass) 0 comes.made makes);
      }

  -- all slots, in a commit of slots alone
  pub passed_slots : (pass : Pass) (start image : List ℕ) → HasPassedFirst pass slots changes changes.count start image
      → HasPassed Slots pass slots changes start image
  passed_slots Journal start image passed = (passed, tt)
  passed_slots Table start image passed = passed
  passed_slots Erase start image passed = (passed, tt)

  -- the version's mark lies beside the entries of the slots
  entries_beside : (mark : ℕ) (content : ℕ → List ℕ) (a b : List ℕ) → SameAt (IsApart (mark_at slots) 1) a b
      → ((j : ℕ) → j < changes.count → HasEntry slots (changes.slot j) mark (content j) a) → (j : ℕ) → j < changes.count
      → HasEntry slots (changes.slot j) mark (content j) b
  entries_beside mark content a b same entries j low =
      let here = areas slots (changes.slot j) (valid.below j low) in
      let entry = entries j low in
      record {
        mark_is = same.same (mark_at (changes.slot j)) (inl (omega (arith, valid.below j low))) ∙ entry.mark_is;
        shadow_is = bytes_at-same (IsApart (mark_at slots) 1) (shadow_at slots (changes.slot j)) 4096 a b
            (λ place from to. inr (omega (arith, here.shadow_is, marks_end slots))) same ∙ entry.shadow_is;
      }

  -- all slots and the version, in an upgrade
  passed_version : (pass : Pass) (start a b : List ℕ) → length a ≡ image_len slots
      → SameAt (IsApart (version_place pass slots) 1) a b → HasPassedFirst pass slots changes changes.count start a
      → b ≡ overwrite a (version_place pass slots) (version_value pass ∷ [])
      → HasPassed Upgrade pass slots changes start b
  passed_version Journal start a b long same passed is = (
    entries_beside 1 changes.bytes a b same passed,
    ap (λ (l : List ℕ). slice_index l (mark_at slots)) is
        ∙ slice_index-overwrite a (mark_at slots) 1
        (omega (arith, long, marks_end slots, shadow_end slots, table_end slots)),
  )
  passed_version Table start a b long same passed is = is ∙ ap (λ (l : List ℕ). overwrite l 14 (2 ∷ [])) passed
  passed_version Erase start a b long same passed is = (
    entries_beside 0 (λ _. zeros 4096) a b same passed,
    ap (λ (l : List ℕ). slice_index l (mark_at slots)) is
        ∙ slice_index-overwrite a (mark_at slots) 0
        (omega (arith, long, marks_end slots, shadow_end slots, table_end slots)),
  )

  -- the end of a loop, and the version's byte behind it
  pub comes_to_version : {T E : Type 0} (pass : Pass) (writes : ℕ) (old mid new : DiskState) (result : Result T E)
      → IsSound mid → length mid.bytes ≡ image_len slots
      → Comes (OutsideSlots pass slots changes)
      (HasPassedFirst pass slots changes changes.count old.bytes) writes old mid
      → Reaches (IsApart (version_place pass slots) 1)
      (λ image. image ≡ overwrite mid.bytes (version_place pass slots) (version_value pass ∷ [])) mid new result
      → Reaches (OutsidePass Upgrade pass slots changes)
      (HasPassed Upgrade pass slots changes old.bytes) old new result
  comes_to_version pass writes old mid new result sound long comes reaches = record {
    keeps =
        Keeps-trans (OutsidePass Upgrade pass slots changes) old mid new sound
        (Keeps-weaken (OutsideSlots pass slots changes) (OutsidePass Upgrade pass slots changes) old mid
        (λ place here. here.0) comes.keeps)
        (Keeps-weaken (IsApart (version_place pass slots) 1) (OutsidePass Upgrade pass slots changes) mid new
        (λ place here. here.1) reaches.keeps);
    done = on_ok_map result (new.bytes ≡ overwrite mid.bytes (version_place pass slots) (version_value pass ∷ []))
        (HasPassed Upgrade pass slots changes old.bytes new.bytes)
        (passed_version pass old.bytes mid.bytes new.bytes long reaches.keeps.reads comes.done) reaches.done;
  }

-- a fault in the midst of a loop
pub comes_short : {T E : Type 0} (places within spared : ℕ → Type 0) (Far Done : List ℕ → Type 0) (writes : ℕ)
    (old mid new : DiskState) (result : Result T E) → IsErr result → IsSound mid
    → ((place : ℕ) → spared place → places place) → ((place : ℕ) → places place → within place)
    → Comes places Far writes old mid → Keeps within mid new → Reaches spared Done old new result
comes_short places within spared Far Done writes old mid new result fails sound fewer each comes keeps =
    Reaches-fault spared Done old new result fails
    (Keeps-weaken places spared old new fewer
    (Keeps-trans places old mid new sound comes.keeps (Keeps-weaken within places mid new each keeps)))

-- the end of a loop, and the sync behind it
pub comes_to : {T E : Type 0} (places spared : ℕ → Type 0) (Far Done : List ℕ → Type 0) (writes : ℕ)
    (old mid new : DiskState) (result : Result T E) → IsObservable mid → IsSound mid
    → ((place : ℕ) → spared place → places place) → ((image : List ℕ) → Far image → Done image)
    → Comes places Far writes old mid → IsSync mid new result → Reaches spared Done old new result
comes_to places spared Far Done writes old mid new result observable sound within leads comes sync =
    Reaches-sync {U = Unit {0}} spared Done old mid new tt result observable sound
    (record {
      keeps = Keeps-weaken places spared old mid within comes.keeps;
      done = leads mid.bytes comes.done;
    }) sync
