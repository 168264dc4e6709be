-- Whether a path of a tree has a time, and so whether times are compared.
use Rattle.std.specs.Prelude.{◌≡◌, ◌⊎◌, Bool, true, false, Option, Some, None, Result, Ok, Err}
use Rattle.std.specs.List.{list_any}
use Rattle.store_model.specs.Trees.{Tree, Attributes}
use Rattle.disk_model.specs.DiskState.{DiskState}
use Rattle.dump_streams.specs.Dumps.{DumpStep}
use Rattle.dump_streams.specs.Dumps.DumpStep.{Make, Write, Set}
use Rattle.dump_streams.specs.Draining.{IsTooLong}
use Rattle.dump_streams.specs.declared.fault.StreamFault.{StreamFault}
use Rattle.host_builder.specs.declared.attribute.Wanted.{Wanted}
use Rattle.host_builder.specs.declared.attribute.HostAttribute.{HostAttribute}
use Rattle.host_builder.specs.declared.attribute.HostAttribute.TheVariants as attributes
use Rattle.host_builder.specs.HostAttributes.{attribute_of}
use Rattle.image_check.specs.declared.fault.ApplyFault.{ApplyFault}
use Rattle.store_core.specs.StoreState.{StoreState}
use Rattle.image_reads.specs.declared.fault.ReadFault.{ReadFault}
use Rattle.image_reads.specs.Faults.{store_fault}
use Rattle.image_reads.specs.StoreReads.{IsOnlyRead}
use Rattle.image_differences.specs.declared.timing.Times.{Times}
use Rattle.image_differences.specs.declared.timing.Times.TheVariants as times

abbrev pub is_time : Option HostAttribute → Bool
is_time None = false
is_time (Some attributes.Executes) = false
is_time (Some (attributes.Time seconds)) = true
is_time (Some attributes.Link) = false

-- whether one of the attributes says a time
abbrev pub says_time : Attributes → Bool
says_time names = list_any (λ a. is_time (attribute_of a.0 a.1)) names

-- whether a path has one that does
abbrev pub has_time : Tree → Bool
has_time t = list_any (λ e. says_time e.1.attributes) t

-- whether a step sets one
abbrev pub sets_time : DumpStep → Bool
sets_time (Make path) = false
sets_time (Write path at bytes) = false
sets_time (Set path name bytes) = is_time (attribute_of name bytes)

-- what is wanted of an image with this tree, and of what it is compared with
abbrev pub wanted_in : Times → Wanted → Tree → Wanted
wanted_in times.AsWanted wanted t = wanted
wanted_in times.AsInImage wanted t = record wanted { mtime = has_time t }

-- ---- of a stream

-- A path has a time in a tree whose dump came, the whole or its first steps; or none has one in the tree of the whole
-- dump.
abbrev pub TellsTimes : (Tree → Type 0) → (Tree → Type 0) → Bool → Type 0
TellsTimes came whole true = (t : Tree) × came t × (has_time t ≡ true)
TellsTimes came whole false = (t : Tree) × whole t × (has_time t ≡ false)

-- the stream told a fault after the dump of a tree, or gave too many steps
pub record EndsTimes {S : Type 0} (came : S → Tree → Type 0) (fails : S → Tree → StreamFault → Type 0) (stream : S)
    (fault : StreamFault) : Type 0 where
  pub tree : Tree
  pub why : fails stream tree fault ⊎ IsTooLong came stream tree fault

-- ---- of a store

-- whether an image has a time whose stream told this, and whose store told this fault
abbrev pub times_told : Result Bool StreamFault → Option ApplyFault → Result Bool ReadFault
times_told (Ok has) fault = Ok has
times_told (Err cause) fault = Err (store_fault fault)

-- and what is wanted then
abbrev pub wanted_told : Wanted → Result Bool ReadFault → Result Wanted ReadFault
wanted_told wanted (Ok has) = Ok (record wanted { mtime = has })
wanted_told wanted (Err fault) = Err fault

-- The store was only read, and goes on: it has the tree that it had, and no call of its disk failed.
pub record GoesOn {D : Type 0} (state_of : D → DiskState) (old new : StoreState D) : Type 0 where
  pub read : IsOnlyRead (state_of old.disk) (state_of new.disk)
  pub tree : new.tree ≡ old.tree
  pub runs : new.is_stopped ≡ false
  pub faults : (state_of new.disk).faults ≡ (state_of old.disk).faults
