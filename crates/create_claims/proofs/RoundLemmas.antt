-- The tree of an image that was made of a folder is the one that is made again.
use Rattle.std.proofs.Common.{◌≡◌, ℕ, List, Bool, true, false, Result, Ok, Err, [], sym, ap, subst, ◌∙◌}
use Rattle.std.specs.Bool.{IsTrue}
use Rattle.std.specs.Prelude.{OnOk}
use Rattle.store_model.specs.declared.version.Version.TheVariants.{Two}
use Rattle.store_model.specs.Parameters.{Parameters}
use Rattle.store_model.specs.Pairs.{has_attributes}
use Rattle.store_model.specs.Images.{Represents}
use Rattle.store_model.proofs.ImagesLemmas.{Represents-layout}
use Rattle.store_model.proofs.TreesLemmasLayouts.{images_tell}
use Rattle.disk_model.specs.DiskState.{DiskState}
use Rattle.host_builder.specs.Builders.{BuilderState}
use Rattle.host_builder.specs.declared.attribute.Wanted.{Wanted}
use Rattle.host_folders.specs.FolderState.{FolderState}
use Rattle.host_folders.specs.declared.found.Found.{Found}
use Rattle.image_extract.specs.Extracts.{Extracts, MakesAsked, IsMadeOf}
use Rattle.image_extract.specs.declared.fault.ExtractFault.{ExtractFault}
use Rattle.tree_writer.specs.Faults.{WasNone}
use Rattle.image_create.specs.Creates.{MakesImage}
use Rattle.create_claims.specs.Rounds.{GivesAgain}

true_no : true ≡ false → ⊥
true_no e = cc

module _ (p : Parameters) (is_laddered : Bool) (found : List Found) (folder folder' : FolderState)
    (disk disk' : DiskState) (two : p.version ≡ Two)
    (makes : MakesImage p is_laddered found folder folder' disk disk') (was : WasNone disk) where
  bare_so : {X : Type 0} → has_attributes p.version ≡ false → X
  bare_so lacks = absurd (true_no (sym (ap has_attributes two) ∙ lacks))

  -- the disk has the image of the tree that was told
  has_tree : Represents disk'.bytes makes.tree p
  has_tree = subst (λ (image : List ℕ). Represents image makes.tree p) (sym (makes.becomes was).done)
      (Represents-layout makes.tree p makes.valid (makes.told).is_tree
      (record { room = makes.fits; bare = λ lacks. bare_so lacks }))

  -- and that tree is made again
  pub gives_again : (wanted : Wanted) (builder builder' : BuilderState) (stays : ℕ)
      → disk'.is_observable ≡ disk.is_observable → MakesAsked wanted [] disk' builder builder' stays
      → GivesAgain wanted found folder folder' builder builder'
  gives_again wanted builder builder' stays same asked =
      let has = asked.made (subst IsTrue (sym same) was.0) in
      let trees = images_tell disk'.bytes has.tree makes.tree has.params p has.represents has_tree in
      record {
        tree = makes.tree;
        told = makes.told;
        made = subst (IsMadeOf wanted builder builder') trees.0 (has.is_so).1;
      }

  -- where both end well
  pub again_by : {E : Type 0} (wanted : Wanted) (builder builder' : BuilderState) (stays : ℕ)
      → disk'.is_observable ≡ disk.is_observable → (done : Result (Unit {0}) ExtractFault)
      → Extracts wanted [] disk' builder builder' stays done → (result : Result (Unit {0}) E)
      → OnOk result (done ≡ Ok tt) → OnOk result (GivesAgain wanted found folder folder' builder builder')
  again_by wanted builder builder' stays same done extracts (Ok value) is =
      gives_again wanted builder builder' stays same
      (subst (Extracts wanted [] disk' builder builder' stays) is extracts)
  again_by wanted builder builder' stays same done extracts (Err fault) is = tt
