-- What a stream of changes gives, and what carrying them out as they come does.
use Rattle.std.specs.Prelude.{◌≡◌, ℕ, suc, List, [], ◌∷◌, ◌++◌, length, Bool, true, false, Result, Ok, Err}
use Rattle.std.specs.Prelude.{Option, IfOk, IfErr, IfSome, IfNone, OnOk, if◌then◌else◌}
use Rattle.store_model.specs.Parameters.{Parameters}
use Rattle.store_model.specs.Trees.{Tree}
use Rattle.store_model.specs.Commands.{Command}
use Rattle.disk_model.specs.DiskState.{DiskState, IsObservable}
use Rattle.image_check.specs.declared.fault.ApplyFault.{ApplyFault}
use Rattle.image_check.specs.Standing.{IsFitting}
use Rattle.staged_tree.specs.declared.group.GroupAnswer.{GroupAnswer}
use Rattle.staged_tree.specs.declared.group.GroupAnswer.TheVariants as answers
use Rattle.staged_tree.specs.declared.guards.When.{When}
use Rattle.staged_tree.specs.Groups.{answered_group}
use Rattle.staged_tree.specs.Guards.{Guarded}
use Rattle.staged_tree.specs.Roomy.{full_behind, streamed_tree, IsStreamAnswer}
use Rattle.staged_tree.specs.StagedTree.{TreeList, IsListAt}
use Rattle.staged_tree.specs.Steps.{EndsStep}

-- one more change came, or they are all, or the stream ends before
pub record GivesChange {F : Type 0} (old new all : List Guarded → Type 0) (failed_by : List Guarded → F → Type 0)
    (change : Command) (result : Result (Option When) F) : Type 0 where
  pub came : (changes : List Guarded) → old changes
      → IfOk result (λ next. IfSome next (λ at. new (changes ++ (record { when = at; change = change }) ∷ [])))
  pub whole : (changes : List Guarded) → old changes → IfOk result (λ next. IfNone next (all changes))
  pub failed : (changes : List Guarded) → old changes → IfErr result (failed_by changes)

module _ {F : Type 0} (came all : List Guarded → Type 0) (failed_by : List Guarded → F → Type 0) where
  -- these came of the stream: all that it has, or the first ones
  abbrev pub HasCome : Bool → List Guarded → Type 0
  HasCome true changes = all changes
  HasCome false changes = came changes

  -- what came, by what is answered: all that the stream has where they were carried out, all or up to one of them where
  -- they are refused, and those before its fault where it failed
  abbrev pub CameFor : Bool → List Guarded → Result (Result GroupAnswer F) ApplyFault → Type 0
  CameFor is_whole changes (Ok (Ok answers.Done)) = (is_whole ≡ true) × all changes
  CameFor is_whole changes (Ok (Ok (answers.Refused index reply))) =
      HasCome is_whole changes × (length changes ≡ (if is_whole then index else suc index))
  CameFor is_whole changes (Ok (Err fault)) = (is_whole ≡ false) × failed_by changes fault
  CameFor is_whole changes (Err fault) = HasCome is_whole changes

  -- The changes of a stream are carried out together on the list of a tree as they come, or none of them.
  pub record CarriesOutStream {D : Type 0} (state : D → DiskState) (p : Parameters) (old new : TreeList D)
      (result : Result (Result GroupAnswer F) ApplyFault) : Type 0 where
    pub changes : List Guarded
    pub is_whole : Bool
    pub came_for : CameFor is_whole changes result
    pub call : (t : Tree) → IsListAt state t p old
        → EndsStep state t (streamed_tree p t is_whole changes) (IsStreamAnswer p t is_whole changes) p
        old.pages new.pages result
    pub fits : (t : Tree) → IsListAt state t p old → IsObservable (state old.pages.disk)
        → OnOk result (IsFitting (streamed_tree p t is_whole changes) p)

-- what the settle of so many changes that are all carried out answers: `full` where their tree does not fit
abbrev pub IsEndAnswer : {F : Type 0} → Parameters → Tree → ℕ → Result GroupAnswer F → Type 0
IsEndAnswer p next count (Ok answer) = answered_group answer ≡ full_behind p next count
IsEndAnswer p next count (Err fault) = ⊥

-- a refusal there comes behind all of them, and no fault is the stream's
abbrev pub IsEndOf : {F : Type 0} → ℕ → Result (Result GroupAnswer F) ApplyFault → Type 0
IsEndOf count (Ok (Ok answers.Done)) = Unit {0}
IsEndOf count (Ok (Ok (answers.Refused index reply))) = index ≡ count
IsEndOf count (Ok (Err fault)) = ⊥
IsEndOf count (Err fault) = Unit {0}
