-- The steps that are led from a folder's stream into the writer of its tree.
use Rattle.std.proofs.Common.{◌≡◌, ◌⊎◌, ℕ, List, [], ◌∷◌, ◌++◌, length, Result, Ok, Err, inl, inr}
use Rattle.std.proofs.Common.{refl, sym, ap, subst, ◌∙◌}
use Rattle.std.specs.Prelude.{IfErr, IsErrAnd}
use Rattle.store_model.specs.declared.version.Version.TheVariants.{Two}
use Rattle.store_model.specs.Parameters.{Parameters}
use Rattle.store_model.specs.Paths.{Path}
use Rattle.store_model.specs.Trees.{Tree}
use Rattle.store_model.specs.Trees.Node.{File}
use Rattle.store_model.specs.Pages.{IsTreeUnder}
use Rattle.tree_pairs.specs.Seen.{bare_entry}
use Rattle.disk_model.specs.DiskState.{DiskState}
use Rattle.dump_streams.specs.Dumps.{DumpStep, after_step, dump, step_path}
use Rattle.dump_streams.specs.Reading.{GoesOn}
use Rattle.dump_streams.specs.Streams.{Extends}
use Rattle.host_folders.specs.FolderState.{FolderState}
use Rattle.host_folders.specs.Packed.{CameOf, IsOfSame}
use Rattle.host_folders.specs.declared.found.Found.{Found}
use Rattle.host_folders.specs.declared.stream.FolderStream.{FolderStream}
use Rattle.tree_writer.specs.Told.{LastDiffers, FirstDiffers}
use Rattle.tree_writer.specs.Writing.{WritesTree, FailsAt}
use Rattle.tree_writer.specs.declared.fault.TreeFault.{TreeFault}
use Rattle.tree_writer.specs.declared.fault.TreeFault.TheVariants as trees
use Rattle.tree_writer.specs.declared.writer.TreeWriter.{TreeWriter}
use Rattle.image_create.specs.Creates.{IsFoundAt}
use Rattle.image_create.specs.Faults.{tree_fault}
use Rattle.image_create.specs.Leading.{IsLastPath, IsPathOf, IsStopped, IsUntaken, LastDiffersAt, FirstDiffersAt}
use Rattle.image_create.specs.declared.fault.CreateFault.{CreateFault}
use Rattle.image_create.specs.declared.fault.CreateFault.TheVariants as creates
use Rattle.image_create.proofs.Paths.{ends_of, path_came, step_ends}

-- The steps that came so far were written: of the tree of which they are the dump this is the last path, and they are
-- so many.
pub record LeadsTree {F : Type 0} (state_of : F → FolderState) (p : Parameters) (stream : FolderStream F)
    (start now : DiskState) (writer : TreeWriter) (last : Path) (count : ℕ) : Type 0 where
  pub tree : Tree
  pub came : CameOf state_of stream tree
  pub writes : WritesTree p tree start now writer
  pub is_last : IsLastPath tree last
  pub count_is : length (dump tree) ≡ count

-- a step that came of the stream goes on with the dump of the tree that was written
pub goes_on_so : {F : Type 0} (state_of : F → FolderState) (stream : FolderStream F) (t : Tree) (c : DumpStep)
    (p : Parameters) → p.version ≡ Two → CameOf state_of stream (after_step t c) → Extends t c → GoesOn t c p
goes_on_so state_of stream t c p two came extends = record {
  under = (came.read p two).under;
  dump_is = extends.dump_is;
}

-- ---- a step that is not taken

module _ (p : Parameters) (t : Tree) (c : DumpStep) (told before : ℕ) where
  -- where it is about this path
  untaken_about : (path : Path) (cause : TreeFault) → FailsAt p t c told before cause
      → (cause ≡ trees.Changed → LastDiffersAt t before path ⊎ FirstDiffersAt c told path)
      → IsUntaken p t c told before (tree_fault cause path)
  untaken_about path trees.Disk fails is = tt
  untaken_about path trees.NoMemory fails is = tt
  untaken_about path (trees.Full need slots) fails is = absurd fails
  untaken_about path trees.Changed fails is = is refl
  untaken_about path trees.TooMany fails is = fails

  -- the file that begins with the step differs
  pub untaken_first : (cause : TreeFault) → FailsAt p t c told before cause → FirstDiffers c told
      → IsUntaken p t c told before (tree_fault cause (step_path c))
  untaken_first cause fails differs = untaken_about (step_path c) cause fails
      (λ changed. inr (record { differs = differs; path_is = refl }))

  -- the last file of the tree does
  differs_last : (last : Path) → IsLastPath t last → (FirstDiffers c told → ⊥)
      → LastDiffers t before ⊎ FirstDiffers c told → LastDiffersAt t before last ⊎ FirstDiffersAt c told last
  differs_last last is_last other (inl differs) = inl (record {
    front = differs.front;
    bytes = differs.bytes;
    ends = differs.ends ∙ ap (λ (path : Path). differs.front ++ (path, bare_entry (File differs.bytes)) ∷ [])
        (is_last differs.front differs.path (bare_entry (File differs.bytes)) differs.ends);
    differs = differs.differs;
  })
  differs_last last is_last other (inr differs) = absurd (other differs)

  pub untaken_last : (last : Path) (cause : TreeFault) → FailsAt p t c told before cause → IsLastPath t last
      → (FirstDiffers c told → ⊥) → IsUntaken p t c told before (tree_fault cause last)
  untaken_last last cause fails is_last other = untaken_about last cause fails
      (λ changed. differs_last last is_last other (subst (FailsAt p t c told before) changed fails))

-- the path that a fault is about was found
untaken_found : {F : Type 0} (state_of : F → FolderState) (old new : FolderStream F) (p : Parameters) (t : Tree)
    (c : DumpStep) (told before : ℕ) (path : Path) → LastDiffersAt t before path ⊎ FirstDiffersAt c told path
    → IsTreeUnder t p → GoesOn t c p → CameOf state_of old t → CameOf state_of new (after_step t c) → IsOfSame old new
    → IsFoundAt new.found.items path
untaken_found state_of old new p t c told before path (inl differs) under goes was came same =
    let found_is : old.found.items ≡ new.found.items = ap (λ f. f.items) (sym same.found) in
    subst (λ (found : List Found). IsFoundAt found path) found_is
    (path_came state_of old t path was
    (ends_of t path (record {
      front = differs.front;
      entry = bare_entry (File differs.bytes);
      is = differs.ends;
    })))
untaken_found state_of old new p t c told before path (inr differs) under goes was came same =
    path_came state_of new (after_step t c) path came
    (subst (IsPathOf (after_step t c)) (sym differs.path_is)
    (ends_of (after_step t c) (step_path c) (step_ends t p under c goes)))

-- why the stream is not led on, one of whose steps was not taken
module _ {F : Type 0} (state_of : F → FolderState) (old new : FolderStream F) (p : Parameters) (t : Tree)
    (c : DumpStep) (told before : ℕ) (under : IsTreeUnder t p) (goes : GoesOn t c p) (was : CameOf state_of old t)
    (came : CameOf state_of new (after_step t c)) (same : IsOfSame old new) where
  pub untaken_stops : (fault : CreateFault) → IsUntaken p t c told before fault → IsStopped state_of p new fault
  untaken_stops creates.Disk untaken = came.faults
  untaken_stops creates.NoMemory untaken = came.faults
  untaken_stops (creates.Full need slots) untaken = absurd untaken
  untaken_stops creates.Unreadable untaken = absurd untaken
  untaken_stops (creates.Moving path) untaken =
      (came.faults, inr (untaken_found state_of old new p t c told before path untaken under goes was came same))
  untaken_stops creates.OtherSlots untaken = absurd untaken
  untaken_stops creates.TooMany untaken = (
    came.faults,
    record { tree = after_step t c; is_tree = (goes.under).is_tree; many = inl untaken },
  )

-- an error that is handed on says what its cause says
pub err_so : {T : Type 0} (result : Result T CreateFault) (cause : CreateFault) (P : CreateFault → Type 0)
    → IsErrAnd result (λ e. e ≡ cause) → P cause → IfErr result P
err_so (Ok x) cause P told holds = tt
err_so (Err e) cause P told holds = subst P (sym told) holds

-- streams of the same folder
pub same_then : {F : Type 0} (old mid new : FolderStream F) → IsOfSame old mid → IsOfSame mid new → IsOfSame old new
same_then old mid new one other = record { first = other.first ∙ one.first; found = other.found ∙ one.found }
