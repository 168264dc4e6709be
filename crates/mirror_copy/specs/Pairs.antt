-- What two disks hold of which the second is to become equal to the first.
use Rattle.std.specs.Prelude.{◌≢◌, ℕ, List}
use Rattle.store_model.specs.Parameters.{Parameters}
use Rattle.store_model.specs.Trees.{Tree}
use Rattle.store_model.specs.Images.{Represents}
use Rattle.disk_model.specs.DiskState.{DiskState, IsObservable}
use Rattle.gate_journal.specs.Headers.{HasParameters}
use Rattle.image_check.specs.Verdicts.{IsNoImage, IsDamaged}
use Rattle.mirror_copy.specs.declared.fault.MirrorFault.{MirrorFault}
use Rattle.mirror_copy.specs.declared.fault.MirrorFault.TheVariants.{FromNotImage, FromDamaged, ToNotImage, Unequal}
use Rattle.mirror_copy.specs.declared.fault.MirrorFault.TheVariants.{FromDisk, ToDisk, NoMemory}

-- the image represents some tree under these parameters
pub record RepresentsUnder (image : List ℕ) (p : Parameters) : Type 0 where
  pub tree : Tree
  pub represents : Represents image tree p

-- a disk of an image's length; an observable one represents a tree under these parameters
pub record HoldsTree (disk : DiskState) (p : Parameters) : Type 0 where
  pub has_parameters : HasParameters disk p
  pub tree : IsObservable disk → RepresentsUnder disk.bytes p

-- so it is under some parameters
pub record HoldsSome (disk : DiskState) : Type 0 where
  pub params : Parameters
  pub holds : HoldsTree disk params

-- the first holds a tree, and the second is an image of the same parameters and version
pub record ArePair (from to : DiskState) (p : Parameters) : Type 0 where
  pub first : HoldsTree from p
  pub second : HasParameters to p

-- so they are under some parameters
pub record ArePairOfSome (from to : DiskState) : Type 0 where
  pub params : Parameters
  pub are : ArePair from to params

-- the first holds a tree, and the second is an image of other parameters or of another version
pub record AreUnequal (from to : DiskState) (p q : Parameters) : Type 0 where
  pub first : HoldsTree from p
  pub second : HasParameters to q
  pub other : p ≢ q

-- so they are under some parameters of each
pub record AreUnequalOfSome (from to : DiskState) : Type 0 where
  pub first_params : Parameters
  pub second_params : Parameters
  pub are : AreUnequal from to first_params second_params

-- the first holds a tree, and the second is no image
pub record LacksSecond (from to : DiskState) : Type 0 where
  pub first : HoldsSome from
  pub second : IsNoImage to

-- What is so of the two disks where this is the answer. A fault of the first says nothing of them. That of the second
-- says that the first holds a tree, since that is found out before the second is looked at; and memory is wanting
-- only for a pair.
abbrev pub IsCause : DiskState → DiskState → MirrorFault → Type 0
IsCause from to FromNotImage = IsNoImage from
IsCause from to FromDamaged = IsDamaged from
IsCause from to ToNotImage = LacksSecond from to
IsCause from to (Unequal p q) = AreUnequal from to p q
IsCause from to FromDisk = Unit {0}
IsCause from to ToDisk = HoldsSome from
IsCause from to NoMemory = ArePairOfSome from to
