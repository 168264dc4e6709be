-- A step is taken where its pairs are written.
use Rattle.std.proofs.Common.{◌≡◌, ◌⊎◌, ℕ, ◌<◌, List, ◌++◌, length, Result, Ok, Err, OnOk, IfErr}
use Rattle.std.proofs.Common.{IsErrAnd, inl, refl, sym, subst, ◌∙◌}
use Rattle.store_model.specs.Parameters.{Parameters}
use Rattle.store_model.specs.Pairs.{Pair, pairs}
use Rattle.store_model.specs.Pages.{pages, pages_of_pairs, page_count}
use Rattle.store_model.specs.Draws.{draw_of}
use Rattle.store_model.specs.Trees.{Tree}
use Rattle.disk_model.specs.DiskState.{DiskState}
use Rattle.gate_journal.specs.Places.{AreCalls}
use Rattle.gate_journal.proofs.Calls.{AreCalls-none}
use Rattle.layout_scratch.specs.Sorting.{sorted_limit}
use Rattle.dump_streams.specs.Dumps.{DumpStep, after_step}
use Rattle.dump_streams.specs.Reading.{GoesOn}
use Rattle.image_writer.specs.Writing.{StaysNone}
use Rattle.image_writer.proofs.Written.{stays_none}
use Rattle.tree_writer.specs.declared.fault.TreeFault.{TreeFault}
use Rattle.tree_writer.specs.declared.fault.TreeFault.TheVariants as faults
use Rattle.tree_writer.specs.declared.writer.TreeWriter.{TreeWriter}
use Rattle.tree_writer.specs.Faults.{tree_answer, WasNone}
use Rattle.tree_writer.specs.Pairs.{MayCome, FailsBehind, WritesPairs}
use Rattle.tree_writer.specs.Told.{AreTold, LastDiffers, FirstDiffers, told_after}
use Rattle.tree_writer.specs.Writing.{HoldsTree, WritesTree, TakesStep, FailsAt, told_of}
use Rattle.tree_writer.proofs.ToldPairs.{told_is_pairs, told_keys, told_length, told_differs}

-- what holds after Ok may be told by other words
pub on_ok : {E : Type 0} {P Q : Type 0} (result : Result (Unit {0}) E) → (P → Q) → OnOk result P → OnOk result Q
on_ok (Ok u) f held = f held
on_ok (Err e) f held = tt

pub on_ok_always : {E : Type 0} {P : Type 0} (result : Result (Unit {0}) E) → P → OnOk result P
on_ok_always (Ok u) held = held
on_ok_always (Err e) held = tt

-- and what holds of an error
pub if_err : {E : Type 0} (P Q : E → Type 0) (result : Result (Unit {0}) E) → ((e : E) → P e → Q e) → IfErr result P
    → IfErr result Q
if_err P Q (Ok u) f held = tt
if_err P Q (Err e) f held = f e held

-- why pairs are not written is why their step is not taken
fails_at : (p : Parameters) (t : Tree) (s : DumpStep) (told before : ℕ) (came added : List Pair) (fault : TreeFault)
    → length (pairs (after_step t s) p) ≡ length (came ++ added) → FailsBehind came added fault
    → FailsAt p t s told before fault
fails_at p t s told before came added faults.Disk long fails = tt
fails_at p t s told before came added faults.NoMemory long fails = tt
fails_at p t s told before came added (faults.Full need slots) long fails = absurd fails
fails_at p t s told before came added faults.Changed long fails = absurd fails
fails_at p t s told before came added faults.TooMany long fails = subst (λ n. sorted_limit < n) (sym long) fails

-- the pairs of a step that goes on with the dump were written
pub takes_step : {D : Type 0} (state : D → DiskState) (step : DumpStep) (told : ℕ) (old_disk new_disk : D)
    (old new : TreeWriter) (result : Result (Unit {0}) TreeFault) (added : List Pair)
    → WritesPairs state added old_disk new_disk old.pairs new.pairs result
    → ((p : Parameters) (start : D) (t : Tree) → (before : WritesTree p t (state start) (state old_disk) old)
    → GoesOn t step p → AreTold (after_step t step) p new.got new.told (before.holds.came ++ added))
    → new.told ≡ told_after step told old.told → TakesStep state step told old_disk new_disk old new result
takes_step {D} state step told old_disk new_disk old new result added writes next told_is = record {
  calls = writes.calls;
  writes = λ p start t before goes. on_ok result
      (λ has. record {
        under = goes.under;
        holds = record {
          came = before.holds.came ++ added;
          told_are = next p start t before goes;
          counts = has.writing.kept_is;
        };
        has = has;
      })
      (writes.writes p start before.holds.came (come p start t before goes));
  told_is = on_ok_always result told_is;
  none = λ p start t before goes was. writes.none p start before.holds.came (come p start t before goes) was;
  faults = λ p start t before goes.
      let came : List Pair = before.holds.came in
      if_err (FailsBehind came added) (FailsAt p t step told (told_of old)) result
      (λ fault fails. fails_at p t step told (told_of old) came added fault
      (told_length (after_step t step) p new.got new.told (came ++ added) (next p start t before goes)) fails)
      (writes.faults p start before.holds.came (come p start t before goes));
}
  where
    come : (p : Parameters) (start : D) (t : Tree) (before : WritesTree p t (state start) (state old_disk) old)
        → GoesOn t step p → MayCome p before.holds.came added (state start) (state old_disk) old.pairs
    come p start t before goes = record {
      has = before.has;
      pairs = told_is_pairs (after_step t step) p new.got new.told (before.holds.came ++ added) goes.under.is_tree
          (next p start t before goes);
    }

-- what was written before is no image
pub wrote_none : (p : Parameters) (t : Tree) (start now : DiskState) (writer : TreeWriter)
    → WritesTree p t start now writer → WasNone start → StaysNone start now
wrote_none p t start now writer before was = stays_none p.slots start now was.1 (before.has.writing.keeps was.0)

-- the pages that are counted are those of the tree
pub pages_told : (p : Parameters) (t : Tree) (writer : TreeWriter) (holds : HoldsTree p t writer)
    → length (pages_of_pairs (draw_of p) holds.came) ≡ page_count t p
unfolding pages
pages_told p t writer holds =
    (holds.counts.counted).pages_are holds.came refl
    ∙ sym ((holds.counts.counted).pages_are (pairs t p)
    (told_keys t p writer.got writer.told holds.came holds.told_are))

-- a file has other than the bytes that were told, and nothing is written
pub differs_step : {D : Type 0} (state : D → DiskState) (step : DumpStep) (told : ℕ) (disk : D) (old new : TreeWriter)
    (result : Result (Unit {0}) TreeFault) → IsErrAnd result (λ fault. fault ≡ faults.Changed)
    → ((p : Parameters) (start : D) (t : Tree) → WritesTree p t (state start) (state disk) old → GoesOn t step p
    → LastDiffers t (told_of old) ⊎ FirstDiffers step told)
    → TakesStep state step told disk disk old new result
differs_step state step told disk old new (Ok value) is differs = absurd is
differs_step state step told disk old new (Err fault) is differs = record {
  calls = subst (λ f. AreCalls (state disk) (state disk) (tree_answer {T = Unit {0}} (Err f))) (sym is)
      (AreCalls-none (state disk) tt);
  writes = λ p start t before goes. tt;
  told_is = tt;
  none = λ p start t before goes was. wrote_none p t (state start) (state disk) old before was;
  faults = λ p start t before goes.
      subst (FailsAt p t step told (told_of old)) (sym is) (differs p start t before goes);
}

-- the last file ended otherwise than it was told
pub ended_step : {D : Type 0} (state : D → DiskState) (step : DumpStep) (told : ℕ) (disk : D) (old new : TreeWriter)
    (fault : TreeFault) (result : Result (Unit {0}) TreeFault) → IsErrAnd result (λ e. e ≡ fault)
    → (fault ≡ faults.Changed) × (old.got ≡ old.told → ⊥) → TakesStep state step told disk disk old new result
ended_step state step told disk old new fault result is ended =
    differs_step state step told disk old new result (renamed result is)
    (λ p start t before goes. inl (told_differs t p old.got old.told before.holds.came before.holds.told_are ended.1))
  where
    renamed : (r : Result (Unit {0}) TreeFault) → IsErrAnd r (λ e. e ≡ fault)
        → IsErrAnd r (λ e. e ≡ faults.Changed)
    renamed (Ok value) same = absurd same
    renamed (Err other) same = same ∙ ended.0
