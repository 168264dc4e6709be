-- What is made of a folder's stream, by what it told and what was written of it.
use Rattle.std.proofs.Common.{◌≡◌, ◌⊎◌, ℕ, List, Bool, true, false, Option, Some, None, inl, inr}
use Rattle.std.proofs.Common.{Result, Ok, Err, refl, sym, ap, subst, ◌∙◌}
use Rattle.std.specs.Prelude.{IfSome, IfErr, OnOk}
use Rattle.store_base.specs.Counts.{raised}
use Rattle.store_model.specs.Parameters.{Parameters, IsParameters}
use Rattle.store_model.specs.Paths.{Path}
use Rattle.store_model.specs.Trees.{Tree}
use Rattle.store_model.specs.Pages.{page_count}
use Rattle.disk_model.specs.DiskState.{DiskState}
use Rattle.image_writer.specs.Writing.{StaysNone}
use Rattle.host_folders.specs.FolderState.{FolderState, IsObservable, whole_files}
use Rattle.host_folders.specs.Packed.{IsPacked, IsOfSame, HasFiles, ReadsFiles}
use Rattle.host_folders.specs.declared.found.Found.{Found}
use Rattle.host_folders.specs.declared.stream.FolderStream.{FolderStream}
use Rattle.tree_writer.specs.Faults.{WasNone}
use Rattle.image_create.specs.Creates.{TellsTree, HasItsSlots, MakesImage, IsUnmade, IsNoEntry, IsFoundAt}
use Rattle.image_create.specs.Ladder.{ladder_of}
use Rattle.image_create.specs.Leading.{IsStopped, IsFinished, Ends, EndsBy, FollowFrom, WantsOthers, wanted_of}
use Rattle.image_create.specs.declared.fault.CreateFault.{CreateFault}
use Rattle.image_create.specs.declared.fault.CreateFault.TheVariants as creates
use Rattle.image_create.proofs.Paths.{path_found}

-- ---- the slots

slots_so : (p : Parameters) (is_laddered : Bool) (slots : ℕ) (t : Tree) → slots ≡ p.slots
    → IfSome (wanted_of is_laddered slots) (FollowFrom p t) → HasItsSlots p is_laddered t
slots_so p true slots t slots_are follow = λ laddered. follow ∙ ap Some slots_are
slots_so p false slots t slots_are follow = λ laddered. absurd (false_no laddered)
  where
    false_no : false ≡ true → ⊥
    false_no e = cc

others_so : (p : Parameters) (is_laddered : Bool) (slots : ℕ) (t : Tree) → slots ≡ p.slots
    → WantsOthers p (wanted_of is_laddered slots) t
    → (is_laddered ≡ true) × (ladder_of (page_count t p) ≡ Some p.slots → ⊥)
others_so p true slots t slots_are wants =
    (refl, λ follow. wants.others (follow ∙ ap Some (sym slots_are) ∙ wants.wanted_is))
others_so p false slots t slots_are wants = absurd (none_no wants.slots wants.wanted_is)
  where
    none_no : (n : ℕ) → None ≡ Some n → ⊥
    none_no n e = cc

-- ---- what was told

module _ {F : Type 0} (state_of : F → FolderState) (old new : FolderStream F) (same : IsOfSame old new) where
  first_is : new.first.value ≡ old.first.value
  first_is = ap (λ first. first.value) same.first

  found_is : new.found.items ≡ old.found.items
  found_is = ap (λ f. f.items) same.found

  pub tells_so : (t : Tree) → IsPacked state_of new t
      → TellsTree (state_of old.first.value) (state_of new.folder) old.found.items t
  tells_so t packed = record {
    is_tree = packed.is_tree;
    files = packed.files;
    links = packed.links;
    entries = subst (λ (fs : List Found). HasFiles fs packed.files packed.links t) found_is packed.entries;
    faults = packed.faults ∙ ap (λ (f : F). (state_of f).faults) first_is;
    told = λ seen. subst (λ (f : F).
        ReadsFiles (state_of f) (state_of new.folder) (whole_files packed.files) packed.links) first_is
        (packed.told (subst (λ (f : F). IsObservable (state_of f)) (sym first_is) seen));
  }

  calm_so : (state_of new.folder).faults ≡ (state_of new.first.value).faults
      → (state_of new.folder).faults ≡ (state_of old.first.value).faults
  calm_so calm = calm ∙ ap (λ (f : F). (state_of f).faults) first_is

  moving_so : (path : Path) → IsNoEntry path ⊎ IsFoundAt new.found.items path
      → IsNoEntry path ⊎ IsFoundAt old.found.items path
  moving_so path (inl is) = inl is
  moving_so path (inr is) = inr (subst (λ (found : List Found). IsFoundAt found path) found_is is)

  module _ (p : Parameters) (is_laddered : Bool) (start now : DiskState) where
    -- ---- not all steps were written

    pub unmade_stop : (fault : CreateFault) → IsStopped state_of p new fault
        → (WasNone start → StaysNone start now)
        → IsUnmade p is_laddered old.found.items (state_of old.first.value) (state_of new.folder) start now fault
    unmade_stop creates.Disk stops none = record { cause = calm_so stops; none = λ was. inl (none was) }
    unmade_stop creates.NoMemory stops none = record { cause = calm_so stops; none = none }
    unmade_stop (creates.Full need slots) stops none = absurd stops
    unmade_stop creates.Unreadable stops none = record {
      cause = stops ∙ ap (λ (f : F). raised (state_of f).faults) first_is;
      none = none;
    }
    unmade_stop (creates.Moving path) stops none = record {
      cause = (calm_so stops.0, moving_so path stops.1);
      none = none;
    }
    unmade_stop creates.OtherSlots stops none = absurd stops
    unmade_stop creates.TooMany stops none = record { cause = (calm_so stops.0, stops.1); none = none }

    -- ---- all were

    module _ (slots : ℕ) (slots_are : slots ≡ p.slots) (t : Tree) (packed : IsPacked state_of new t) where
      pub made_so : IsParameters p → IsFinished p (wanted_of is_laddered slots) t start now
          → MakesImage p is_laddered old.found.items (state_of old.first.value) (state_of new.folder) start now
      made_so valid ends = record {
        valid = valid;
        tree = t;
        told = tells_so t packed;
        fits = ends.fits;
        slots = slots_so p is_laddered slots t slots_are ends.slots;
        becomes = ends.becomes;
      }

      pub unmade_so : (fault : CreateFault) → EndsBy p (wanted_of is_laddered slots) t start now fault
          → IsUnmade p is_laddered old.found.items (state_of old.first.value) (state_of new.folder) start now fault
      unmade_so creates.Disk ends = record {
        cause = calm_so packed.faults;
        none = λ was. inr (record { tree = t; told = tells_so t packed; becomes = ends was });
      }
      unmade_so creates.NoMemory ends = absurd ends
      unmade_so (creates.Full need full) ends = record {
        cause = record {
          tree = t;
          told = tells_so t packed;
          need_is = (ends.0).need_is;
          slots_is = (ends.0).slots_is;
          more = (ends.0).more;
        };
        none = ends.1;
      }
      unmade_so creates.Unreadable ends = absurd ends
      unmade_so (creates.Moving path) ends =
          let told = tells_so t packed in
          record {
            cause = (
              told.faults,
              inr (path_found old.found.items told.files told.links t path told.entries ends.0),
            );
            none = ends.1;
          }
      unmade_so creates.OtherSlots ends =
          let others = others_so p is_laddered slots t slots_are ends.0 in
          record {
            cause = (others.0, record { tree = t; told = tells_so t packed; slots = others.1 });
            none = ends.1;
          }
      unmade_so creates.TooMany ends = absurd ends

      -- what finishing it answers, where these slots are wanted
      module _ (wanted : Option ℕ) (wanted_is : wanted ≡ wanted_of is_laddered slots)
          (result : Result (Unit {0}) CreateFault) (ends : Ends p wanted t start now result) where
        pub made_by : IsParameters p → OnOk result
            (MakesImage p is_laddered old.found.items (state_of old.first.value) (state_of new.folder) start now)
        made_by valid = by_result result (subst (λ (w : Option ℕ). Ends p w t start now result) wanted_is ends)
          where
            by_result : (r : Result (Unit {0}) CreateFault) → Ends p (wanted_of is_laddered slots) t start now r
                → OnOk r
                (MakesImage p is_laddered old.found.items (state_of old.first.value) (state_of new.folder) start now)
            by_result (Ok done) so = made_so valid so
            by_result (Err fault) so = tt

        pub unmade_by : IfErr result
            (IsUnmade p is_laddered old.found.items (state_of old.first.value) (state_of new.folder) start now)
        unmade_by = by_result result (subst (λ (w : Option ℕ). Ends p w t start now result) wanted_is ends)
          where
            by_result : (r : Result (Unit {0}) CreateFault) → Ends p (wanted_of is_laddered slots) t start now r
                → IfErr r
                (IsUnmade p is_laddered old.found.items (state_of old.first.value) (state_of new.folder) start now)
            by_result (Ok done) so = tt
            by_result (Err fault) so = unmade_so fault so
