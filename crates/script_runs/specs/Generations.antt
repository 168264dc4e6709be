-- Commands that a number gives: the trees and replies that they make one after another, and the four lines that sum
-- them up.
use Rattle.std.specs.Prelude.{◌≡◌, ◌≤◌, ◌<◌, ◌^◌, ◌+◌, ℕ, IsTrue, Result, Ok, zero, suc, Bool, true, false, not, List}
use Rattle.std.specs.Prelude.{[], ◌∷◌, ◌++◌, length, take, codes}
use Rattle.std.specs.List.{filter}
use Rattle.std.specs.Fmt.{decimal}
use Rattle.store_model.specs.Parameters.{Parameters}
use Rattle.store_model.specs.Trees.{Tree}
use Rattle.store_model.specs.Commands.{Command, Reply, line, reply_text}
use Rattle.store_model.specs.Commands.Command.{Space, Digest}
use Rattle.store_model.specs.Commands.Reply.{Acknowledged, Content, Listing, AttributeListing, PagesUsed, ImageDigest}
use Rattle.store_model.specs.Commands.Reply.{Refused}
use Rattle.store_model.specs.Steps.{step}
use Rattle.store_model.specs.Scripts.{replies_by, tree_by}
use Rattle.store_model.specs.declared.refusal.Refusal.{Refusal}
use Rattle.script_lines.specs.declared.command.Command as orders
use Rattle.script_lines.specs.Generated.{generated, state_after}
use Rattle.script_lines.specs.Parsing.{reading_of}
use Rattle.script_lines.specs.SinkState.{SinkState, AppendsPrefix}
use Rattle.script_lines.specs.SinkState as sinks
use Rattle.disk_model.specs.DiskState.{DiskState}
use Rattle.disk_model.specs.DiskState as disks
use Rattle.staged_tree.specs.Groups.{step_under}
use Rattle.store_core.specs.StoreState.{StoreState}
use Rattle.image_subcommands.specs.declared.status.Status.{Status}
use Rattle.image_subcommands.specs.declared.status.Status.TheVariants as statuses
use Rattle.script_runs.specs.declared.generated.Generated.{Generated}
use Rattle.image_subcommands.specs.Statuses.{Subcommand as words, IsEndOf, IsSummed, MayComeFirst, sink_faults_by}
use Rattle.script_runs.specs.Turns.{Start, TurnsEnd}

-- the first commands that a number gives
unfoldable pub first_commands : ℕ → ℕ → List Command
first_commands number zero = []
first_commands number (suc n) = first_commands number n ++ generated number n ∷ []

-- the replies to so many of them
abbrev pub generated_replies : Tree → ℕ → ℕ → Parameters → List Reply
generated_replies t number count p = replies_by (step_under p) t (first_commands number count)

-- the tree after k of them; after the last of them it stays
abbrev pub generated_trees : Tree → ℕ → ℕ → Parameters → ℕ → Tree
generated_trees t number count p k = tree_by (step_under p) t (take k (first_commands number count))

-- ---- the summary

-- whether a reply is a refusal
abbrev pub is_refused : Reply → Bool
is_refused Acknowledged = false
is_refused (Content bytes) = false
is_refused (Listing children) = false
is_refused (AttributeListing attributes) = false
is_refused (PagesUsed used slots) = false
is_refused (ImageDigest digest) = false
is_refused (Refused refusal) = true

-- how many of the replies are refusals, and how many are not
abbrev pub count_refused : List Reply → ℕ
count_refused replies = length (filter is_refused replies)

abbrev pub count_answered : List Reply → ℕ
count_answered replies = length (filter (λ reply. not (is_refused reply)) replies)

-- the lines of two such counts
abbrev pub counts_text : ℕ → ℕ → List ℕ
counts_text answered refused = line (codes "ok " ++ decimal answered) ++ line (codes "no " ++ decimal refused)

-- the four lines: these counts, and what `space` and `digest` answer of the tree that is left
abbrev pub summary_text : List Reply → Tree → Parameters → List ℕ
summary_text replies t p = counts_text (count_answered replies) (count_refused replies)
    ++ reply_text (step t Space p).reply ++ reply_text (step t Digest p).reply

-- The summary was printed, or where the sink failed a front of it.
pub record PrintsSummary (status : Status) (text : List ℕ) (old new : SinkState) : Type 0 where
  pub whole : status ≡ statuses.Done → new.written ≡ old.written ++ text
  pub in_part : status ≡ statuses.SinkFault → AppendsPrefix old.written new.written text

-- ---- commands from a store on

module _ {D W : Type 0} (disk_of : D → DiskState) (sink_of : W → SinkState) (number count : ℕ) where
  -- The commands ended so, and were summed up where all were carried out.
  pub record SumsUp (store : StoreState D) (sink sink_new : W) (done : ℕ) (status : Status) : Type 0 where
    pub ends : IsEndOf words.Big status
    pub all_done : IsSummed status → done ≡ count
    pub done_limit : done ≤ count
    pub sink_observable : (sink_of sink_new).is_observable ≡ (sink_of sink).is_observable
    pub sink_faults : (sink_of sink_new).faults ≡ sink_faults_by status (sink_of sink).faults
    pub silent : (IsSummed status → ⊥) → sink_new ≡ sink
    pub summary : IsSummed status → sinks.IsObservable (sink_of sink) → disks.IsObservable (disk_of store.disk)
        → PrintsSummary status (summary_text (generated_replies store.tree number count store.params)
        (generated_trees store.tree number count store.params count) store.params) (sink_of sink) (sink_of sink_new)

  -- Commands of a number were carried out from a store on, so many of them; the call ended so.
  abbrev pub AnswersGenerated : Status → ℕ → StoreState D → StoreState D → W → W → Type 0
  AnswersGenerated status done store store_new sink sink_new =
      TurnsEnd disk_of (Unit {0}) (generated_trees store.tree number count store.params) (SumsUp store sink sink_new)
      status done store store_new

-- ---- such commands as a work

module _ (start : Start) where
  -- the trees of the commands of a generator that is to give so many more
  abbrev pub generator_trees : Generated → ℕ → Tree
  generator_trees work k = generated_trees start.tree work.generator work.left start.params k

  -- Between two commands: those before were carried out, and of their replies so many were refusals.
  pub record GeneratedKept (first now : Generated) (done : ℕ) : Type 0 where
    pub fits : first.left < 2 ^ 32
    pub left_is : done + now.left ≡ first.left
    pub state_is : now.generator ≡ state_after first.generator done
    pub bounded : now.refused ≤ done
    pub refused_is : IsTrue start.tells → now.refused
        ≡ count_refused (generated_replies start.tree first.generator done start.params)

  -- A command was drawn, and is not answered yet.
  pub record GeneratedDue (first now : Generated) (done : ℕ) (asked : Result orders.Command Refusal) : Type 0 where
    pub before : Generated
    pub kept : GeneratedKept first before done
    pub left_is : now.left + 1 ≡ before.left
    pub state_is : now.generator ≡ state_after first.generator (done + 1)
    pub refused_is : now.refused ≡ before.refused
    pub asked_is : reading_of asked ≡ Ok (generated first.generator done)

  -- The commands ended so, with so many carried out: with the last of them, or by a fault of the store.
  pub record GeneratedEnds (first new : Generated) (done : ℕ) (status : Status) : Type 0 where
    pub done_limit : done ≤ first.left
    pub cut_short : (status ≡ statuses.Done → ⊥) → MayComeFirst status
    pub whole : status ≡ statuses.Done → GeneratedKept first new done × (done ≡ first.left)
