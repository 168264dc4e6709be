-- What image is made of what was found in a folder.
use Rattle.std.specs.Prelude.{◌≡◌, ℕ, ◌+◌, ◌-◌, ◌^◌, min, Bool, true, false, List, Option, Some, None, nat_le}
use Rattle.std.specs.Prelude.{if◌then◌else◌}
use Rattle.store_model.specs.Parameters.{Parameters, slots_limit}
use Rattle.host_folders.specs.declared.found.Found.{Found}
use Rattle.image_create.specs.Counts.{AreCounts, CountsPages, HasTooMany}
use Rattle.image_create.specs.Ladder.{ladder_of}
use Rattle.box_calls.specs.declared.plan.PlanFault.{PlanFault}
use Rattle.box_calls.specs.declared.plan.PlanFault.TheVariants as plans
use Rattle.box_calls.specs.declared.plan.Planned.{Planned}
use Rattle.box_calls.specs.declared.trouble.Trouble.{Trouble}
use Rattle.box_calls.specs.declared.trouble.Trouble.TheVariants as troubles

-- the slots of an image of so many pages: by the ladder, or those that were asked for
abbrev pub slots_of : Bool → ℕ → ℕ → Option ℕ
slots_of true asked pages = ladder_of pages
slots_of false asked pages = if nat_le pages asked then Some asked else None

-- the most slots that it may have
abbrev pub most_of : Bool → ℕ → ℕ
most_of true asked = slots_limit
most_of false asked = asked

-- What was found is counted, as far as the numbers go: links are files, too.
pub record HoldsFound (found : List Found) (planned : Planned) : Type 0 where
  pub files : ℕ
  pub counts : AreCounts found planned.contents.counts.dirs files planned.links planned.contents.counts.bytes
  pub files_are : planned.contents.counts.files ≡ min (files + planned.links) (2 ^ 32 - 1)

-- An image is made of what was found under these parameters, but for its slots, where the ladder chooses them.
pub record Plans (p : Parameters) (is_laddered : Bool) (found : List Found) (planned : Planned) : Type 0 where
  pub params : planned.plan.params ≡ record p { slots = planned.plan.params.slots }
  pub levels : planned.plan.levels ≡ planned.plan.params
  pub choice : planned.plan.is_laddered ≡ is_laddered
  pub contents : planned.contents.params ≡ planned.plan.params
  pub holds : HoldsFound found planned
  pub used : CountsPages found p planned.contents.used
  pub slots : slots_of is_laddered p.slots planned.contents.used ≡ Some planned.plan.params.slots

-- so many pages are too many for the slots that the image may have
pub record IsOver (p : Parameters) (is_laddered : Bool) (found : List Found) (need slots : ℕ) : Type 0 where
  pub count : CountsPages found p need
  pub none : slots_of is_laddered p.slots need ≡ None
  pub most : slots ≡ most_of is_laddered p.slots

-- why no image is made
abbrev pub IsUnplanned : Parameters → Bool → List Found → PlanFault → Type 0
IsUnplanned p is_laddered found plans.TooMany = HasTooMany found p
IsUnplanned p is_laddered found (plans.Full need slots) = IsOver p is_laddered found need slots

-- the trouble that it is
abbrev pub plan_trouble : PlanFault → Trouble
plan_trouble plans.TooMany = troubles.TooMuch
plan_trouble (plans.Full need slots) = troubles.Full
