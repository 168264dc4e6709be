-- The commit of the slots in which the placements of two maps of pages differ.
use Rattle.std.proofs.Common.{◌≡◌, ◌⊎◌, ℕ, zero, suc, ◌+◌, ◌*◌, ◌<◌, ◌≤◌, List, [], map, length, Option, Result, Ok}
use Rattle.std.proofs.Common.{Err, OnOk, refl, sym, ap, subst, ◌∙◌, inl, inr, arith}
use Rattle.std.specs.FinMap as maps
use Rattle.std.specs.Option.{option_map_or}
use Rattle.std.proofs.lemmas.Option.{slice_get_within}
use Rattle.store_model.specs.Lists.{numbers_below}
use Rattle.store_model.specs.Parameters.{Parameters, image_len}
use Rattle.store_model.specs.Draws.{Draw}
use Rattle.store_model.specs.Pages.{Page}
use Rattle.store_model.specs.Placement.{place}
use Rattle.store_model.specs.Images.{slot_bytes, slots_of}
use Rattle.store_model.specs.PageMaps.{PageMap, pages_of_map, IsPageMap}
use Rattle.store_model.proofs.PlacementLemmas.{length-place}
use Rattle.disk_model.specs.DiskState.{DiskState, IsSound}
use Rattle.gate_journal.specs.Changes as journal
use Rattle.gate_journal.specs.Costs.{commit_writes, commit_syncs, MadeAtMost}
use Rattle.gate_journal.specs.Phases.{table_slot}
use Rattle.gate_journal.specs.Places.{Made, Makes, ReadsOnly}
use Rattle.gate_journal.proofs.Committing.{find_slot, new_header, new_empty}
use Rattle.gate_journal.proofs.Layouts.{with-slots-changed, with-slots-kept}
use Rattle.table_memory.specs.Differences.{AreDifferences}
use Rattle.page_store.specs.declared.commit_kind.CommitKind.{CommitKind}
use Rattle.page_store.specs.declared.commit_kind.CommitKind.TheVariants.{Plain, Upgrade}
use Rattle.page_store.specs.CommitKinds.{committed, params_by, params_after, LeavesPages, writes_by, syncs_by, CountsBy}
use Rattle.page_store.specs.PageImages.{table_slots, placed_slot, IsLayoutOf, SlotStandsAt, RepresentsPages}
use Rattle.page_store.proofs.FindLemmas.{placed}
use Rattle.page_store.proofs.TreeLayouts.{slots_by_number}
use Rattle.page_store.proofs.UpgradeLemmas.{upgraded_layout}

-- a disk that stands at a map of pages, and the changes that lead to another
module _ (d : Draw) (p : Parameters) (m n : PageMap) (disk : DiskState) (drawn : d.slots ≡ p.slots)
    (sound : IsSound disk) (sized : disk.size ≡ image_len p.slots) (stands : SlotStandsAt d p m disk)
    (valid : IsPageMap n) (fits : maps.len n ≤ d.slots) (changes : journal.Changes)
    (are : journal.AreChanges p.slots changes)
    (differ : AreDifferences (placed_slot d m) (placed_slot d n) d.slots changes) where
  long : length disk.bytes ≡ image_len p.slots
  long = sound.size ∙ sized

  -- where the slots are changed the table is the placement of the other
  new_slot : (i : ℕ) → i < p.slots → table_slot p.slots (journal.with_slots p.slots changes disk.bytes) i
      ≡ placed_slot d n i
  new_slot i below = elim (find_slot p.slots changes are changes.count i) [
    | inl found ↦
        ap (table_slot p.slots (journal.with_slots p.slots changes disk.bytes)) (sym found.2)
        ∙ with-slots-changed p.slots changes disk.bytes are long found.0 found.1 ∙ differ.bytes found.0 found.1
        ∙ ap (placed_slot d n) found.2
    | inr none ↦
        with-slots-kept p.slots changes disk.bytes are long i below none
        ∙ placed d p.slots (table_slot p.slots disk.bytes) m stands.layout.holds i below
        ∙ differ.others i (subst (λ (k : ℕ). i < k) (sym drawn) below) none
  ]

  new_slots : table_slots p.slots (journal.with_slots p.slots changes disk.bytes) ≡ slots_of (place d (pages_of_map n))
  new_slots =
      let as_many : p.slots ≡ length (place d (pages_of_map n)) = sym drawn ∙ sym (length-place d (pages_of_map n)) in
      ap (λ (k : ℕ). map (table_slot p.slots (journal.with_slots p.slots changes disk.bytes)) (numbers_below k)) as_many
      ∙ slots_by_number (table_slot p.slots (journal.with_slots p.slots changes disk.bytes)) 0
      (place d (pages_of_map n))
      (λ i content at.
      let here : 0 + i ≡ i = omega arith in
      let below : i < p.slots = subst (λ (k : ℕ). i < k) (sym as_many)
      (slice_get_within (place d (pages_of_map n)) i content at) in
      ap (table_slot p.slots (journal.with_slots p.slots changes disk.bytes)) here ∙ new_slot i below
      ∙ ap (λ (o : Option (Option Page)). option_map_or slot_bytes o []) at)

  -- and the image is its layout
  plain_layout : IsLayoutOf d p n (journal.with_slots p.slots changes disk.bytes)
  plain_layout = record {
    header_is = new_header p.slots changes are disk.bytes long stands.layout.empty ∙ stands.layout.header_is;
    empty = new_empty p.slots changes are disk.bytes long stands.layout.empty;
    holds = record { pages = valid; fits = fits; slots_are = new_slots };
  }

  -- so is the image that a commit of either kind leads to
  pub becomes : (kind : CommitKind) → IsLayoutOf d (params_by kind p) n (committed kind p.slots changes disk.bytes)
  becomes Plain = plain_layout
  becomes Upgrade = upgraded_layout d p n changes are disk.bytes long plain_layout

  -- each image that may be left by a crash of the commit represents one of the two maps
  pub either : (kind : CommitKind) (image : List ℕ)
      → journal.RecoversToEither p.slots disk.bytes (committed kind p.slots changes disk.bytes) image
      → RepresentsPages d p m image ⊎ RepresentsPages d (params_by kind p) n image
  either kind image is = elim is.recovers [
    | inl same ↦ inl (record {
      length_is = is.same_length ∙ long;
      layout = subst (IsLayoutOf d p m) (sym same) stands.layout;
    })
    | inr same ↦ inr (record {
      length_is = is.same_length ∙ long;
      layout = subst (IsLayoutOf d (params_by kind p) n) (sym same) (becomes kind);
    })
  ]

-- ---- the writes and syncs of a commit

-- so many are made where the answer is Ok, and no more with a fault
pub made_of : {T E : Type 0} (writes syncs : ℕ) (old new : DiskState) (result : Result T E)
    → Makes writes syncs old new result → OnOk result (Made writes syncs old new)
made_of writes syncs old new (Ok value) makes = record {
  write_count = omega (arith, makes.write_count);
  sync_count = omega (arith, makes.sync_count);
}
made_of writes syncs old new (Err fault) makes = tt

pub limit_of : {T E : Type 0} (writes syncs : ℕ) (old new : DiskState) (result : Result T E)
    → Makes writes syncs old new result → MadeAtMost writes syncs old new
limit_of writes syncs old new result makes = record {
  write_limit = omega (arith, makes.write_limit);
  sync_limit = omega (arith, makes.sync_limit);
}

-- the calls of a plain commit
pub made_plain : {T E : Type 0} (slots : ℕ) (old new : DiskState) (result : Result T E) → (slots ≡ 0 → new ≡ old)
    → (0 < slots → Makes (5 * slots + 2) 5 old new result)
    → OnOk result (Made (commit_writes slots) (commit_syncs slots) old new)
made_plain zero old new (Ok value) none makes =
    subst (Made 0 0 old) (sym (none refl)) (record { write_count = omega arith; sync_count = omega arith })
made_plain zero old new (Err fault) none makes = tt
made_plain (suc n) old new result none makes = made_of (5 * suc n + 2) 5 old new result (makes (omega arith))

pub limit_plain : {T E : Type 0} (slots : ℕ) (old new : DiskState) (result : Result T E) → (slots ≡ 0 → new ≡ old)
    → (0 < slots → Makes (5 * slots + 2) 5 old new result)
    → MadeAtMost (commit_writes slots) (commit_syncs slots) old new
limit_plain zero old new result none makes =
    subst (MadeAtMost 0 0 old) (sym (none refl)) (record { write_limit = omega arith; sync_limit = omega arith })
limit_plain (suc n) old new result none makes = limit_of (5 * suc n + 2) 5 old new result (makes (omega arith))

-- behind reads the counts are the same
pub made_behind : {T E : Type 0} (writes syncs : ℕ) (old mid new : DiskState) (result : Result T E) → ReadsOnly old mid
    → OnOk result (Made writes syncs mid new) → OnOk result (Made writes syncs old new)
made_behind writes syncs old mid new (Ok value) reads made = record {
  write_count = omega (arith, made.write_count, reads.write_count);
  sync_count = omega (arith, made.sync_count, reads.sync_count);
}
made_behind writes syncs old mid new (Err fault) reads made = tt

pub limit_behind : (writes syncs : ℕ) (old mid new : DiskState) → ReadsOnly old mid → MadeAtMost writes syncs mid new
    → MadeAtMost writes syncs old new
limit_behind writes syncs old mid new reads limit = record {
  write_limit = omega (arith, limit.write_limit, reads.write_count);
  sync_limit = omega (arith, limit.sync_limit, reads.sync_count);
}

-- and reads alone make none
pub limit_reading : (writes syncs : ℕ) (old new : DiskState) → ReadsOnly old new → MadeAtMost writes syncs old new
limit_reading writes syncs old new reads = record {
  write_limit = omega (arith, reads.write_count);
  sync_limit = omega (arith, reads.sync_count);
}

-- what a commit of this kind counts
pub counts_by : {T E : Type 0} (kind : CommitKind) (slots : ℕ) (old new : DiskState) (result : Result T E)
    → OnOk result (Made (writes_by kind slots) (syncs_by kind slots) old new)
    → MadeAtMost (writes_by kind slots) (syncs_by kind slots) old new
    → CountsBy kind slots old new result
counts_by Plain slots old new result made limit = record { made = made; limit = limit }
counts_by Upgrade slots old new result made limit = record { made = made; limit = limit }

-- ---- the parameters behind a commit

-- a fault leaves them
pub params_stay : (T : Type 0) {E : Type 0} (kind : CommitKind) (p : Parameters) (fault : E)
    → params_after {T = T} kind p (Err fault) ≡ p
params_stay T Plain p fault = refl
params_stay T Upgrade p fault = refl

pub params_become : {T : Type 0} (E : Type 0) (kind : CommitKind) (p : Parameters) (value : T)
    → params_after {E = E} kind p (Ok value) ≡ params_by kind p
params_become E Plain p value = refl
params_become E Upgrade p value = refl

-- a commit that leaves the image is a plain one
pub leaves_pages : (kind : CommitKind) (table map : PageMap) → LeavesPages kind table map
    → (kind ≡ Plain) × (map ≡ table)
leaves_pages Plain table map same = (refl, same)
leaves_pages Upgrade table map none = absurd none
