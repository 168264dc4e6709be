-- How many writes and syncs a call makes.
use Rattle.std.proofs.Common.{◌≡◌, ◌==◌, ◌&&◌, ℕ, true, false, not, List, slice_index, sym, ap, subst, ◌∙◌, inl, inr}
use Rattle.std.proofs.Common.{refl, arith}
use Rattle.std.proofs.lemmas.Bool.{cases_eq, ne_eqb}
use Rattle.std.specs.Cmp.Lexicographic.{bytes_decides}
use Rattle.store_model.specs.Lists.{same_bytes, zeros}
use Rattle.store_model.specs.Parameters.{Parameters, table_at}
use Rattle.store_model.specs.Trees.{Tree}
use Rattle.store_model.specs.Images.{layout, bytes_at, recovered_slot, scrubbed_slot, scrubbed_block}
use Rattle.store_model.proofs.ImagesLemmas.{recovered-layout, length-layout}
use Rattle.store_model.proofs.ImagesLemmasScrubbed.{scrubbed-layout, slot_of_recovered, slot_of_scrubbed}
use Rattle.disk_model.specs.DiskState.{DiskState}
use Rattle.gate_journal.specs.Costs.{opening_writes, opening_syncs}
use Rattle.gate_journal.proofs.Layouts.{layout-has-empty-journal}
use Rattle.gate_journal.proofs.Openings.{opening_of_empty}
use Rattle.scrub_free.specs.FreeSlots.{scrub_writes, is_unclean, StandClean}
use Rattle.scrub_free.specs.Scrubbing.{writes_to_scrub}
use Rattle.scrub_free.specs.ScrubCalls.{ScrubsTo}
use Rattle.scrub_free.proofs.Blocks.{free_block}
use Rattle.scrub_free.proofs.Counting.{scrub_writes-clean}
use Rattle.script_lines.specs.Memory.{sink_state}
use Rattle.image_subcommands.specs.ScrubCall.{IsScrub}
use Rattle.image_subcommands.specs.Statuses.{IsJudged}
use Rattle.store_claims.specs.declared.machines.Machine.{Machine}
use Rattle.store_claims.specs.Machines.{Ended, bytes_of, meaning}
use Rattle.store_claims.specs.ImageMachines.{given}
use Rattle.store_claims.specs.Costs.{Costs}

-- equal counts
pub costs_so : {writes writes_so syncs syncs_so : ℕ} {Holds : Type 0} {old new : DiskState}
    → writes ≡ writes_so → syncs ≡ syncs_so → Costs writes syncs Holds old new → Costs writes_so syncs_so Holds old new
costs_so {writes} {writes_so} {syncs} {syncs_so} {Holds} {old} {new} same_writes same_syncs costs =
    subst (λ (n : ℕ). Costs n syncs_so Holds old new) same_writes
    (subst (λ (n : ℕ). Costs writes n Holds old new) same_syncs costs)

-- ---- scrubbing

-- a slot that scrubbing leaves as it is is clean
clean_slot : (bytes : List ℕ) → scrubbed_block bytes ≡ bytes → is_unclean bytes ≡ false
unfolding is_unclean
clean_slot bytes same = elim (cases_eq (slice_index bytes 0) 0) [
  | inl free ↦
      let zero : bytes ≡ zeros 4096 = sym same ∙ free_block bytes free in
      let is : same_bytes bytes (zeros 4096) ≡ true = (bytes_decides bytes (zeros 4096)).1 zero in
      (λ i. (free i == 0) && not (is i))
  | inr used ↦ let other = ne_eqb (slice_index bytes 0) 0 used in (λ i. other i && not (same_bytes bytes (zeros 4096)))
]

module _ (t : Tree) (p : Parameters) (image : List ℕ) (to : ScrubsTo image t p) (same : image ≡ layout t p) where
  layout_clean : StandClean (recovered_slot p.slots (layout t p)) p.slots
  unfolding scrubbed_slot
  layout_clean i below =
      let valid = to.image_is.names.in_range in
      let long = length-layout t p valid to.tree to.fits in
      let scrubbed_is = sym (slot_of_scrubbed p.slots (layout t p) i long below)
      ∙ ap (λ (l : List ℕ). bytes_at l (table_at p.slots i) 4096) (scrubbed-layout t p valid to.tree to.fits) in
      let recovered_is = sym (slot_of_recovered p.slots (layout t p) i long below)
      ∙ ap (λ (l : List ℕ). bytes_at l (table_at p.slots i) 4096) (recovered-layout t p valid to.tree to.fits) in
      clean_slot (recovered_slot p.slots (layout t p) i) (scrubbed_is ∙ sym recovered_is)

  no_writes : writes_to_scrub p.slots image ≡ 0
  no_writes =
      let empty = layout-has-empty-journal t p to.image_is.names.in_range to.tree to.fits in
      let opening : opening_writes p.slots image ≡ 0 =
      ap (opening_writes p.slots) same ∙ (opening_of_empty p.slots (layout t p) empty).0 in
      let scrub : scrub_writes (recovered_slot p.slots image) p.slots ≡ 0 =
      ap (λ (l : List ℕ). scrub_writes (recovered_slot p.slots l) p.slots) same
      ∙ scrub_writes-clean (recovered_slot p.slots (layout t p)) p.slots layout_clean in
      omega (arith, opening, scrub)

  two_syncs : opening_syncs p.slots image ≡ 2
  two_syncs = ap (opening_syncs p.slots) same
      ∙ (opening_of_empty p.slots (layout t p)
      (layout-has-empty-journal t p to.image_is.names.in_range to.tree to.fits)).1

pub scrub_costs : (machine : Machine) (after : Ended) → IsScrub meaning sink_state (given machine) after
    → (t : Tree) (p : Parameters) → ScrubsTo (bytes_of machine.disk) t p → bytes_of machine.disk ≡ layout t p
    → Costs 0 2 (IsJudged after.status) (meaning machine.disk) (meaning after.disk)
scrub_costs machine after is t p to same =
    let scrubs = (is.observed refl).scrubs t p to in
    costs_so (no_writes t p (bytes_of machine.disk) to same) (two_syncs t p (bytes_of machine.disk) to same)
    (record { just = scrubs.made; limit = scrubs.limit })
