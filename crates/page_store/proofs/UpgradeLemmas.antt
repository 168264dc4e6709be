-- Images whose slots are changed, and that are made images of version 2 with them.
use Rattle.std.proofs.Common.{◌≡◌, ℕ, ◌≤◌, List, map, length, take, slice_set, sym, ap, subst, ◌∙◌, inr, arith}
use Rattle.store_model.specs.declared.version.Version.TheVariants.{Two}
use Rattle.store_model.specs.Lists.{numbers_below}
use Rattle.store_model.specs.Parameters.{Parameters, with_version, table_at, image_len}
use Rattle.store_model.specs.Draws.{Draw}
use Rattle.store_model.specs.PageMaps.{PageMap, HoldsPages}
use Rattle.store_model.proofs.ImagesLemmas.{header-with_version}
use Rattle.gate_journal.specs.declared.commit.Kind.TheVariants as journal
use Rattle.gate_journal.specs.Changes.{Changes, AreChanges, with_slots, upgraded}
use Rattle.gate_journal.specs.Phases.{table_slot}
use Rattle.gate_journal.specs.Places.{IsApart, SameAt}
use Rattle.gate_journal.proofs.Committing.{with_first_same}
use Rattle.gate_journal.proofs.Places.{bytes_at-same}
use Rattle.gate_journal.proofs.Versions.{target-same, take-target}
use Rattle.page_store.specs.declared.commit_kind.CommitKind.{CommitKind}
use Rattle.page_store.specs.declared.commit_kind.CommitKind.TheVariants.{Plain, Upgrade}
use Rattle.page_store.specs.CommitKinds.{committed}
use Rattle.page_store.specs.PageImages.{IsLayoutOf}

module _ (slots : ℕ) (changes : Changes) (are : AreChanges slots changes) (old : List ℕ)
    (long : length old ≡ image_len slots) where
  header_there : 15 ≤ length (with_slots slots changes old)
  unfolding image_len
  header_there =
      omega (arith, (with_first_same slots changes are old long changes.count (omega arith)).same_length, long)

  same_beside : SameAt (IsApart 14 1) (with_slots slots changes old) (upgraded slots changes old)
  same_beside = target-same journal.Upgrade slots changes old header_there

  table_upgraded : (i : ℕ) → table_slot slots (upgraded slots changes old) i
      ≡ table_slot slots (with_slots slots changes old) i
  unfolding table_at
  table_upgraded i = bytes_at-same (IsApart 14 1) (table_at slots i) 4096 (with_slots slots changes old)
      (upgraded slots changes old) (λ place from to. inr (omega arith)) same_beside

  header_upgraded : take 4096 (upgraded slots changes old) ≡ slice_set (take 4096 (with_slots slots changes old)) 14 2
  header_upgraded = take-target journal.Upgrade slots changes old header_there

  -- where a commit of either kind is done, the table is the one with the slots changed
  pub committed_table : (kind : CommitKind) (new : List ℕ) → new ≡ committed kind slots changes old → (i : ℕ)
      → table_slot slots new i ≡ table_slot slots (with_slots slots changes old) i
  committed_table Plain new is i = ap (λ (image : List ℕ). table_slot slots image i) is
  committed_table Upgrade new is i = ap (λ (image : List ℕ). table_slot slots image i) is ∙ table_upgraded i

-- what has the layout of pages with the slots changed, has it under version 2 where it is made an image of that
pub upgraded_layout : (d : Draw) (p : Parameters) (m : PageMap) (changes : Changes) (are : AreChanges p.slots changes)
    (old : List ℕ) (long : length old ≡ image_len p.slots) → IsLayoutOf d p m (with_slots p.slots changes old)
    → IsLayoutOf d (with_version p Two) m (upgraded p.slots changes old)
upgraded_layout d p m changes are old long layout = record {
  header_is = header_upgraded p.slots changes are old long
      ∙ ap (λ (head : List ℕ). slice_set head 14 2) layout.header_is ∙ header-with_version p Two;
  empty = λ place low high. (same_beside p.slots changes are old long).same place (inr (omega arith))
      ∙ layout.empty place low high;
  holds = subst (λ (slots : List (List ℕ)). HoldsPages d slots m)
      (sym (λ k. map (λ (i : ℕ). table_upgraded p.slots changes are old long i k) (numbers_below p.slots)))
      layout.holds;
}
