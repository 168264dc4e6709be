-- What the checks of slots ensure.
use Rattle.std.specs.Prelude.{◌≡◌, ℕ, List, Option, Some, None, Result, Ok, Err, IfOk, IfSome}
use Rattle.store_model.specs.Parameters.{Parameters}
use Rattle.store_base.specs.declared.store_fault.Fault.{Fault}
use Rattle.store_base.specs.declared.store_fault.Fault.TheVariants as causes
use Rattle.store_base.specs.SlotsState.{SlotsState, IsObservable}
use Rattle.layout_conditions.specs.Conditions.{MeetConditions}
use Rattle.table_walk.specs.IndexLookups.{ReadsOnly}
use Rattle.image_check.specs.declared.contents.Contents.{Contents}
use Rattle.image_check.specs.declared.fault.AttachFault.{AttachFault}
use Rattle.image_check.specs.declared.fault.AttachFault.TheVariants as attach
use Rattle.image_check.specs.declared.verdict.Verdict.{Verdict}
use Rattle.image_check.specs.declared.verdict.Verdict.TheVariants as verdicts
use Rattle.image_check.specs.Contents.{AreContents}
use Rattle.image_check.specs.Faults.{attach_fault_of}
use Rattle.image_check.specs.Verdicts.{clean_of, IsSlotsVerdict}

-- the slots meet the conditions by which the layout of a tree is known, and this is what the tree has
pub record AreFound (slots : List (List ℕ)) (p : Parameters) (contents : Contents) : Type 0 where
  pub meets : MeetConditions slots p
  pub contents_are : AreContents meets.tree p contents

-- what is found in slots: what the tree has whose layout they are, and nothing exactly where they don't meet the
-- conditions
abbrev pub IsFoundIn : List (List ℕ) → Parameters → Option Contents → Type 0
IsFoundIn slots p (Some contents) = AreFound slots p contents
IsFoundIn slots p None = MeetConditions slots p → ⊥

-- a search for the tree that slots hold
pub record FindsContents (p : Parameters) (old new : SlotsState)
    (result : Result (Option Contents) Fault) : Type 0 where
  pub reads : ReadsOnly old new result
  pub params : IfOk result (λ found. IfSome found (λ contents. contents.params ≡ p))
  pub found : IsObservable old → IfOk result (IsFoundIn old.slots p)

-- the verdict on what a layout holds
abbrev pub clean_on : Contents → Verdict
clean_on contents = verdicts.Clean contents.used contents.counts.dirs contents.counts.files contents.counts.bytes

-- the contents of an image by what was found in its slots, or why it has none: it is damaged where they hold no tree
abbrev pub contents_in : Result (Option Contents) Fault → Result Contents AttachFault
contents_in (Ok (Some contents)) = Ok contents
contents_in (Ok None) = Err attach.Damaged
contents_in (Err cause) = Err (attach_fault_of cause)

-- the verdict on an image by its contents, or by why there are none
abbrev pub verdict_in : Result Contents AttachFault → Result Verdict Fault
verdict_in (Ok contents) = Ok (clean_on contents)
verdict_in (Err attach.NotImage) = Ok verdicts.NotImage
verdict_in (Err attach.Damaged) = Ok verdicts.Damaged
verdict_in (Err attach.Disk) = Err causes.Disk
verdict_in (Err attach.NoMemory) = Err causes.NoMemory

-- a check of slots
pub record ChecksSlots (p : Parameters) (old new : SlotsState) (result : Result Verdict Fault) : Type 0 where
  pub reads : ReadsOnly old new result
  -- slots are never no image
  pub never : IfOk result (λ verdict. verdict ≡ verdicts.NotImage → ⊥)
  -- the verdict is that on the slots
  pub verdict : IsObservable old → IfOk result (IsSlotsVerdict old.slots p)
  -- and where they meet the conditions it is that on their tree
  pub clean : IsObservable old → (meets : MeetConditions old.slots p)
      → IfOk result (λ verdict. verdict ≡ clean_of meets.tree p)
