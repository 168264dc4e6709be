-- How the image of a tree ends.
use Rattle.std.proofs.Common.{◌≡◌, ℕ, ◌≤◌, List, length, Result, Ok, Err, IfErr, IsErr, IsErrAnd, inr}
use Rattle.std.proofs.Common.{ap, ◌∙◌, arith}
use Rattle.store_model.specs.Parameters.{Parameters}
use Rattle.store_model.specs.Draws.{draw_of}
use Rattle.store_model.specs.Pairs.{Pair}
use Rattle.store_model.specs.Pages.{pages, pages_of_pairs, page_count}
use Rattle.store_model.specs.Trees.{Tree}
use Rattle.store_model.specs.Images.{layout}
use Rattle.disk_model.specs.DiskState.{DiskState}
use Rattle.rising_pages.specs.Kept.{FitSlots}
use Rattle.image_writer.specs.Sealing.{image_of, image_of_pairs, Becomes}
use Rattle.image_writer.specs.Writing.{CountsPairs, StaysNone}
use Rattle.image_writer.proofs.Sealed.{becomes_none}
use Rattle.image_writer.proofs.Written.{stays_none}
use Rattle.tree_writer.specs.declared.fault.TreeFault.{TreeFault}
use Rattle.tree_writer.specs.declared.fault.TreeFault.TheVariants as faults
use Rattle.tree_writer.specs.declared.writer.TreeWriter.{TreeWriter}
use Rattle.tree_writer.specs.Faults.{WasNone}
use Rattle.tree_writer.specs.Told.{LastDiffers}
use Rattle.tree_writer.specs.Writing.{WritesTree, FailsLast, told_of}
use Rattle.tree_writer.proofs.ToldPairs.{told_whole}
use Rattle.tree_writer.proofs.TakenSteps.{pages_told}

-- a fault before the end leaves no image
pub tree_none : {T : Type 0} (p : Parameters) (t : Tree) (start now : DiskState) (writer : TreeWriter)
    → WritesTree p t start now writer → WasNone start → (result : Result T TreeFault) → IsErr result
    → Becomes p (layout t p) start now result
tree_none p t start now writer before was result fails =
    becomes_none p (layout t p) start now was.1 (before.has.writing.keeps was.0) result fails

pub stays_so : (p : Parameters) (t : Tree) (start now : DiskState) (writer : TreeWriter)
    → WritesTree p t start now writer → WasNone start → StaysNone start now
stays_so p t start now writer before was = stays_none p.slots start now was.1 (before.has.writing.keeps was.0)

-- whatever failed then
pub stays_by : {T : Type 0} (start now : DiskState) (result : Result T TreeFault) → StaysNone start now
    → IfErr result (λ fault. (fault ≡ faults.Disk → ⊥) → StaysNone start now)
stays_by start now (Ok value) stays = tt
stays_by start now (Err fault) stays = λ other. stays

-- and where only the disk can fail
pub stays_unless : {T : Type 0} (start now : DiskState) (result : Result T TreeFault)
    → IfErr result (λ fault. fault ≡ faults.Disk)
    → IfErr result (λ fault. (fault ≡ faults.Disk → ⊥) → StaysNone start now)
stays_unless start now (Ok value) is = tt
stays_unless start now (Err fault) is = λ other. absurd (other is)

-- the image of the pairs that came is that of the tree
pub whole_image : (p : Parameters) (t : Tree) (start now : DiskState) (writer : TreeWriter)
    → (before : WritesTree p t start now writer) → writer.got ≡ writer.told
    → image_of_pairs p before.holds.came ≡ layout t p
unfolding layout pages image_of
whole_image p t start now writer before all =
    ap (image_of_pairs p) (told_whole t p writer.got writer.told before.holds.came before.holds.told_are all)

-- what is counted are the tree's pages and the slots
pub counts_are : (p : Parameters) (t : Tree) (start now : DiskState) (writer : TreeWriter) (need slots : ℕ)
    → (before : WritesTree p t start now writer)
    → ((q : Parameters) (s : List Pair) → CountsPairs q s writer.pairs.image
    → need ≡ length (pages_of_pairs (draw_of q) s))
    → slots ≡ writer.pairs.params.slots → (need ≡ page_count t p) × (slots ≡ p.slots)
counts_are p t start now writer need slots before counts slots_are = (
  counts p before.holds.came before.holds.counts ∙ pages_told p t writer before.holds,
  slots_are ∙ ap (λ (q : Parameters). q.slots) before.has.params_are,
)

pub fits_still : (p : Parameters) (t : Tree) (start now : DiskState) (writer : TreeWriter) (need slots : ℕ)
    → (before : WritesTree p t start now writer)
    → ((q : Parameters) (s : List Pair) → CountsPairs q s writer.pairs.image
    → need ≡ length (pages_of_pairs (draw_of q) s))
    → slots ≡ writer.pairs.params.slots → need ≤ slots → FitSlots (draw_of p) before.holds.came
unfolding draw_of
fits_still p t start now writer need slots before counts slots_are room =
    let needed = counts p before.holds.came before.holds.counts in
    let there : slots ≡ p.slots = slots_are ∙ ap (λ (q : Parameters). q.slots) before.has.params_are in
    omega (arith, needed, there, room)

-- the last file has other bytes than were told
pub changed_is : (fault : TreeFault) (result : Result (Unit {0}) TreeFault) → IsErrAnd result (λ e. e ≡ fault)
    → fault ≡ faults.Changed → result ≡ Err faults.Changed
changed_is fault (Ok value) is changed = absurd is
changed_is fault (Err other) is changed = ap Err (is ∙ changed)

pub changed_alone : (t : Tree) (writer : TreeWriter) (fault : TreeFault) (result : Result (Unit {0}) TreeFault)
    → IsErrAnd result (λ e. e ≡ fault) → fault ≡ faults.Changed → LastDiffers t (told_of writer)
    → IfErr result (FailsLast t (told_of writer))
changed_alone t writer fault (Ok value) is changed differs = absurd is
changed_alone t writer fault (Err other) is changed differs = inr (is ∙ changed, differs)
