-- How images differ, and why that was not found out.
use Rattle.std.specs.Prelude.{◌≡◌, ℕ, List, [], Option, Result, Ok, Err, ⊤}
use Rattle.store_model.specs.Parameters.{Parameters}
use Rattle.store_model.specs.Trees.{Tree}
use Rattle.store_model.specs.Images.{Represents, recovered}
use Rattle.disk_model.specs.DiskState.{DiskState, IsObservable}
use Rattle.dump_diff.specs.declared.differences.Differences.{Differences}
use Rattle.dump_diff.specs.declared.fault.CompareFault.{CompareFault}
use Rattle.dump_diff.specs.declared.fault.CompareFault.TheVariants as compares
use Rattle.dump_diff.specs.Differences.{marks_of}
use Rattle.image_check.specs.declared.fault.ApplyFault.{ApplyFault}
use Rattle.image_reads.specs.Faults.{store_fault}
use Rattle.image_differences.specs.declared.images.ImageDifferences.{ImageDifferences}
use Rattle.image_differences.specs.declared.images.ImagesFault.{ImagesFault}
use Rattle.image_differences.specs.declared.images.ImagesFault.TheVariants as images
use Rattle.image_differences.specs.Compared.{TellTrees, IsBlamed, IsStoreBlamed}

-- The images represent two trees, and these are the differences of the trees, and the parameters of both. Where nothing
-- differs, recovery leaves the same bytes of both.
pub record TellImages (first second : List ℕ) (found : ImageDifferences) : Type 0 where
  pub one : Tree
  pub other : Tree
  pub first_is : Represents first one found.first
  pub second_is : Represents second other found.second
  pub trees : TellTrees one other found.trees
  pub same : marks_of found.trees.paths.items ≡ [] → found.first ≡ found.second
      → recovered found.first.slots first ≡ recovered found.second.slots second

-- Two images were not compared, for this reason. Disks that tell their bytes never change while they are read.
abbrev pub AreUncompared : DiskState → DiskState → DiskState → DiskState → ImagesFault → Type 0
AreUncompared first first' second second' (images.First fault) = IsBlamed first first' fault
AreUncompared first first' second second' (images.Second fault) = IsBlamed second second' fault
AreUncompared first first' second second' images.Changed = IsObservable first → IsObservable second → ⊥
AreUncompared first first' second second' images.NoMemory = ⊤

-- ---- of opened stores

-- why two images are not compared whose streams ended so, where their stores told these faults
abbrev pub images_fault : CompareFault → Option ApplyFault → Option ApplyFault → ImagesFault
images_fault (compares.First cause) first second = images.First (store_fault first)
images_fault (compares.Second cause) first second = images.Second (store_fault second)
images_fault compares.TooLong first second = images.Changed
images_fault (compares.NoMemory cause) first second = images.NoMemory

-- and what is found of them
abbrev pub images_found : Parameters → Parameters → Result Differences CompareFault → Option ApplyFault
    → Option ApplyFault → Result ImageDifferences ImagesFault
images_found first second (Ok trees) fault other = Ok (record { trees = trees; first = first; second = second })
images_found first second (Err cause) fault other = Err (images_fault cause fault other)

abbrev pub AreStoresUncompared : DiskState → DiskState → DiskState → DiskState → ImagesFault → Type 0
AreStoresUncompared first first' second second' (images.First fault) = IsStoreBlamed first first' fault
AreStoresUncompared first first' second second' (images.Second fault) = IsStoreBlamed second second' fault
AreStoresUncompared first first' second second' images.Changed = IsObservable first → IsObservable second → ⊥
AreStoresUncompared first first' second second' images.NoMemory = ⊤
