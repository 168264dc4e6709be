-- What a call does to a list of pairs that holds a tree.
use Rattle.std.specs.Prelude.{◌≡◌, ℕ, ◌<◌, List, length, Option, Some, None, Result, Ok, Err, IfOk, OnOk, true}
use Rattle.store_model.specs.declared.refusal.Refusal.{Refusal}
use Rattle.store_model.specs.declared.version.Version.{Version}
use Rattle.store_model.specs.Parameters.{Parameters}
use Rattle.store_model.specs.Paths.{Path, parent}
use Rattle.store_model.specs.Trees.{Tree, IsTree, node_at, is_directory}
use Rattle.store_model.specs.Pairs.{pairs}
use Rattle.store_model.specs.Commands.{Command, Reply}
use Rattle.store_model.specs.Commands.Reply.{Refused}
use Rattle.store_model.specs.Steps.{Step, refusal_of, next_tree, reply_of}
use Rattle.store_base.specs.declared.store_fault.Fault.{Fault}
use Rattle.store_base.specs.Faults.{disk_faults_after}
use Rattle.ordered_pairs.specs.PairsState.{PairsState, IsObservable}
use Rattle.tree_pairs.specs.declared.kind.Kind.{Kind}
use Rattle.tree_pairs.specs.Kinds.{kind_of_node, first_value}

-- the pairs are those of a tree
pub record HoldsTree (state : PairsState) (t : Tree) (p : Parameters) : Type 0 where
  pub tree : IsTree t
  pub pairs_are : state.pairs ≡ pairs t p

-- how many pairs a tree's list has fewer than, so that a command finds room for what it adds
abbrev pub pairs_limit : ℕ
pairs_limit = 4194304

-- an observable list has room for what a command adds
abbrev pub HasRoom : PairsState → Type 0
HasRoom state = IsObservable state → length state.pairs < pairs_limit

-- in each tree that an observable list holds, the parent of the path is the root or a directory
abbrev pub HasParent : PairsState → Path → Type 0
HasParent state path = IsObservable state → (t : Tree) (p : Parameters) → HoldsTree state t p
    → is_directory t (parent path) ≡ true

-- a command's reply and the tree after it, where neither the pages of that tree nor the image's version count: no
-- command is refused as `full` or `version`
abbrev pub uncounted_by : Tree → Command → Parameters → Option Refusal → Step
uncounted_by t command p (Some refusal) = record { reply = Refused refusal; tree = t }
uncounted_by t command p None = record { reply = reply_of t command p; tree = next_tree t command }

abbrev pub uncounted_step : Tree → Command → Parameters → Step
uncounted_step t command p = uncounted_by t command p (refusal_of t command)

-- an answer as a reply of the definitions, for a way to see its value as one
abbrev pub reply_seen : {T : Type 0} → (T → Reply) → Result T Refusal → Reply
reply_seen see (Ok value) = see value
reply_seen see (Err refusal) = Refused refusal

-- the answer is the step's reply, and the pairs are those of its tree
pub record IsStepOf {T : Type 0} (see : T → Reply) (step : Step) (p : Parameters) (new : PairsState)
    (answer : Result T Refusal) : Type 0 where
  pub reply : reply_seen see answer ≡ step.reply
  pub pairs_are : new.pairs ≡ pairs step.tree p

-- the answer to a command on the tree that the list held, and the pairs after it
abbrev pub IsCarriedOut : {T : Type 0} → (T → Reply) → Command → PairsState → Result (Result T Refusal) Fault
    → Tree → Parameters → Type 0
IsCarriedOut see command new result t p = IfOk result (λ answer. IsStepOf see (uncounted_step t command p) p new answer)

-- A call that carries out a command on the tree that the list holds, `version` and `full` apart; a refusal changes
-- nothing. After a fault nothing is promised of the pairs.
pub record CarriesOut {T : Type 0} (see : T → Reply) (command : Command) (old new : PairsState)
    (result : Result (Result T Refusal) Fault) : Type 0 where
  pub faults : new.faults ≡ disk_faults_after old.faults result
  pub observable : IsObservable old → OnOk result (IsObservable new)
  pub carried : IsObservable old → (t : Tree) (p : Parameters) → HoldsTree old t p
      → IsCarriedOut see command new result t p

-- the same of a call that works under one version of the format
pub record CarriesOutUnder {T : Type 0} (version : Version) (see : T → Reply) (command : Command) (old new : PairsState)
    (result : Result (Result T Refusal) Fault) : Type 0 where
  pub faults : new.faults ≡ disk_faults_after old.faults result
  pub observable : IsObservable old → OnOk result (IsObservable new)
  pub carried : IsObservable old → (t : Tree) (p : Parameters) → p.version ≡ version → HoldsTree old t p
      → IsCarriedOut see command new result t p

-- a call that leaves an observable list as it was, also where it fails
pub record KeepsPairs (old new : PairsState) : Type 0 where
  pub observable : IsObservable old → IsObservable new
  pub unchanged : IsObservable old → new.pairs ≡ old.pairs

-- a call that says what stands at a path
pub record TellsKind (path : Path) (old new : PairsState) (result : Result (Option Kind) Fault) : Type 0 where
  pub faults : new.faults ≡ disk_faults_after old.faults result
  pub keeps : KeepsPairs old new
  pub told : IsObservable old → (t : Tree) (p : Parameters) → HoldsTree old t p
      → IfOk result (λ kind. kind ≡ kind_of_node (node_at t path))

-- a call that gives the value of the first pair of what stands at a path; the root has a directory's
pub record TellsFirst (path : Path) (old new : PairsState) (result : Result (Option (List ℕ)) Fault) : Type 0 where
  pub faults : new.faults ≡ disk_faults_after old.faults result
  pub keeps : KeepsPairs old new
  pub told : IsObservable old → (t : Tree) (p : Parameters) → HoldsTree old t p
      → IfOk result (λ first. first ≡ first_value (node_at t path) p.version)
