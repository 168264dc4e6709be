-- Calls on pages one after another, and those that fail behind others.
use Rattle.std.proofs.Common.{ℕ, List, Result, Ok, Err, ap, ◌∙◌, arith}
use Rattle.store_base.specs.declared.store_fault.Fault.{Fault}
use Rattle.store_base.specs.declared.store_fault.Fault.TheVariants.{NoMemory}
use Rattle.store_base.specs.Faults.{disk_faults_after}
use Rattle.store_model.specs.Labels.{Lead}
use Rattle.store_model.specs.Pages.{Cell}
use Rattle.node_pages.specs.PagesState.{PagesState}
use Rattle.skip_groups.specs.GroupChanges.{IsRunChange}
use Rattle.skip_levels.specs.CellChanges.{IsPagesCall}
use Rattle.skip_groups.proofs.GroupSteps.{same_count}
use Rattle.skip_groups.specs.Searches.{IsGroupWalk}

pub memory_lacks : {A C : Type 0} {old mid : PagesState} {a : A} → IsPagesCall {T = A} old mid (Ok a)
    → IsPagesCall {T = C} old mid (Err NoMemory)
memory_lacks h = record {
  faults = h.faults;
  lookups_kept = h.lookups_kept;
  hidden = h.hidden;
  observable = h.observable;
}

-- one behind another
pub goes_behind : {A B : Type 0} {old mid new : PagesState} {a : A} {result : Result B Fault}
    → IsPagesCall {T = A} old mid (Ok a) → IsPagesCall {T = B} mid new result → IsPagesCall {T = B} old new result
goes_behind {B = B} {result = result} h g = record {
  faults = g.faults ∙ ap (λ n. disk_faults_after {T = B} n result) h.faults;
  lookups_kept = omega (arith, h.lookups_kept, g.lookups_kept);
  hidden = λ o. h.hidden (g.hidden o);
  observable = λ o. g.observable (h.observable o);
}

-- and one alone
pub failed_call : {A C : Type 0} {old new : PagesState} {fault : Fault} → IsPagesCall {T = A} old new (Err fault)
    → IsPagesCall {T = C} old new (Err fault)
failed_call {A} {C} {old = old} {fault = fault} h = record {
  faults = h.faults ∙ same_count A C old.faults fault;
  lookups_kept = h.lookups_kept;
  hidden = h.hidden;
  observable = h.observable;
}

pub fails_behind : {A B C : Type 0} {old mid new : PagesState} {a : A} {fault : Fault}
    → IsPagesCall {T = A} old mid (Ok a) → IsPagesCall {T = B} mid new (Err fault)
    → IsPagesCall {T = C} old new (Err fault)
fails_behind h g = failed_call (goes_behind h g)

-- the pages of a group read, or changed
pub walk_call : {T : Type 0} {old new : PagesState} {level : ℕ} {lead : Lead} {IsFound : List Cell → Type 0}
    {result : Result T Fault} → IsGroupWalk old new level lead IsFound result → IsPagesCall old new result
walk_call h = record {
  faults = h.faults;
  lookups_kept = h.lookups_kept;
  hidden = h.hidden;
  observable = λ o. (h.observed o).observable;
}

pub run_call : {T : Type 0} {old new : PagesState} {level : ℕ} {lead : Lead} {first count : ℕ} {cells : List Cell}
    {past : ℕ} {result : Result T Fault} → IsRunChange old new level lead first count cells past result
    → IsPagesCall old new result
run_call h = record {
  faults = h.faults;
  lookups_kept = omega (arith, h.lookups);
  hidden = h.hidden;
  observable = λ o. (h.observed o).observable;
}
