-- Changes that are staged one after another in a list over staged pages, before all of them are settled together.
use Rattle.std.specs.Prelude.{◌≡◌, ℕ, List, Result, Ok, Err, IfOk, OnOk, nat_lt, if◌then◌else◌}
use Rattle.store_base.specs.declared.store_fault.Fault.{Fault}
use Rattle.store_base.specs.Faults.{disk_faults_after}
use Rattle.store_model.specs.declared.refusal.Refusal.{Refusal}
use Rattle.store_model.specs.declared.refusal.Refusal.TheVariants as refusals
use Rattle.store_model.specs.Parameters.{Parameters}
use Rattle.store_model.specs.Trees.{Tree}
use Rattle.store_model.specs.Commands.{Command}
use Rattle.store_model.specs.Commands.Reply.{Acknowledged}
use Rattle.store_model.specs.Steps.{Step, step}
use Rattle.store_model.specs.Scripts.{tree_by}
use Rattle.disk_model.specs.DiskState.{DiskState, IsObservable}
use Rattle.tree_pairs.specs.TreeCalls.{reply_seen}
use Rattle.staged_tree.specs.declared.group.GroupAnswer.{GroupAnswer}
use Rattle.staged_tree.specs.declared.group.GroupAnswer.TheVariants as answers
use Rattle.staged_tree.specs.Groups.{step_under, IsGroupAnswer}
use Rattle.staged_tree.specs.declared.guards.When.{When}
use Rattle.staged_tree.specs.Roomy.{roomy_step, guarded_step}
use Rattle.staged_tree.specs.StagedTree.{TreeList, IsListOver, IsListFor, IsListWithin}

-- how a change is answered that comes to so many pages: `full` where they are more than the slots
abbrev pub counted_answer : ℕ → ℕ → Result (Unit {0}) Refusal
counted_answer need slots = if nat_lt slots need then Err (refusals.Full need slots) else Ok tt

-- A change is staged in a list of a tree. It is answered as this step; where it is carried out, the list is so of the
-- step's tree.
pub record StagesStep {D : Type 0} (state : D → DiskState) (IsListOf : Tree → TreeList D → Type 0) (to : Step)
    (old new : TreeList D) (result : Result (Result (Unit {0}) Refusal) Fault) : Type 0 where
  pub faults : (state new.pages.disk).faults ≡ disk_faults_after (state old.pages.disk).faults result
  pub answer : IsObservable (state old.pages.disk)
      → IfOk result (λ answer. reply_seen (λ _. Acknowledged) answer ≡ to.reply)
  pub goes : IfOk result (λ answer. OnOk answer (IsListOf to.tree new))

-- a change of a tree that fits, by the step that counts its pages
abbrev pub StagesChange : {D : Type 0} → (D → DiskState) → Tree → Tree → Parameters → Command → TreeList D
    → TreeList D → Result (Result (Unit {0}) Refusal) Fault → Type 0
StagesChange state t now p change old new result =
    StagesStep state (λ next list. IsListFor state t next p list) (step now change p) old new result

-- a change by the step for which every tree has room
abbrev pub StagesRoomy : {D : Type 0} → (D → DiskState) → Tree → Tree → Parameters → Command → TreeList D
    → TreeList D → Result (Result (Unit {0}) Refusal) Fault → Type 0
StagesRoomy state t now p change old new result =
    StagesStep state (λ next list. IsListOver state t next p list) (roomy_step p now change) old new result

-- and one behind which no more pages are staged than may be
abbrev pub StagesWithin : {D : Type 0} → (D → DiskState) → Tree → Tree → Parameters → Command → TreeList D
    → TreeList D → Result (Result (Unit {0}) Refusal) Fault → Type 0
StagesWithin state t now p change old new result =
    StagesStep state (λ next list. IsListWithin state t next p list) (roomy_step p now change) old new result

-- and one that is passed over where its guard does not let it be
abbrev pub StagesGuarded : {D : Type 0} → (D → DiskState) → Tree → Tree → Parameters → When → Command → TreeList D
    → TreeList D → Result (Result (Unit {0}) Refusal) Fault → Type 0
StagesGuarded state t now p at change old new result =
    StagesStep state (λ next list. IsListWithin state t next p list)
    (guarded_step p now (record { when = at; change = change })) old new result

-- Changes of a tree are staged one after another. They are answered as a group is; where all are carried out, the list
-- is that of the tree after them.
pub record StagesAll {D : Type 0} (state : D → DiskState) (t : Tree) (p : Parameters) (changes : List Command)
    (old new : TreeList D) (result : Result GroupAnswer Fault) : Type 0 where
  pub faults : (state new.pages.disk).faults ≡ disk_faults_after (state old.pages.disk).faults result
  pub answer : IsObservable (state old.pages.disk) → IfOk result (IsGroupAnswer p t changes)
  pub goes : result ≡ Ok answers.Done → IsListFor state t (tree_by (step_under p) t changes) p new
