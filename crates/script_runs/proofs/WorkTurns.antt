-- What is known between two turns of the loop, whatever the work, and what each way out of it leaves.
use Rattle.std.proofs.Common.{◌≡◌, ℕ, ◌+◌, ◌≤◌, ◌<◌, Bool, true, false, Option, Some, None, Result, Ok, Err, refl, sym}
use Rattle.std.proofs.Common.{ap, subst, ◌∙◌, arith}
use Rattle.std.proofs.lemmas.Bool.{false≢true}
use Rattle.store_model.specs.declared.refusal.Refusal.{Refusal}
use Rattle.store_model.specs.Parameters.{Parameters}
use Rattle.store_model.specs.Trees.{Tree}
use Rattle.store_model.specs.Commands as model
use Rattle.store_model.specs.Steps.{step}
use Rattle.store_model.specs.Scripts.{answer_by}
use Rattle.disk_model.specs.DiskState.{DiskState, IsSound}
use Rattle.disk_model.specs.DiskState as disks
use Rattle.script_lines.specs.declared.command.Command.{Command}
use Rattle.script_lines.specs.declared.reply.Reply.{Reply}
use Rattle.script_lines.specs.Parsing.{reading_of}
use Rattle.script_lines.specs.Replies.{reply_of}
use Rattle.image_check.specs.declared.fault.ApplyFault.{ApplyFault}
use Rattle.image_check.specs.declared.fault.ApplyFault.TheVariants as apply
use Rattle.store_core.specs.StoreState.{StoreState}
use Rattle.image_subcommands.specs.declared.status.Status.{Status}
use Rattle.image_subcommands.specs.declared.status.Status.TheVariants as statuses
use Rattle.image_subcommands.specs.Endings.{apply_status}
use Rattle.script_runs.specs.Runs.{AnswersReading, IsReady}
use Rattle.script_runs.specs.Turns.{Start, start_of, RepliesTo, Stops, Asks, StoreSoFar, StoreEnds, Begins, AnswersAll}
use Rattle.script_runs.specs.Turns.{AnswersAsked}
use Rattle.script_runs.proofs.StoreTurns.{moves_by_step, store_start, store_still, store_more, store_failed, store_ends}

-- a fault of the store never leaves the call done
pub not_done : (fault : ApplyFault) → apply_status fault ≡ statuses.Done → ⊥
not_done apply.Disk e = cc
not_done apply.NoMemory e = cc
not_done apply.Stopped e = cc

-- what was asked for, and its answer
pub record IsAnswered {Q S A : Type 0} (Answers : Q → S → S → Result A ApplyFault → Type 0) (asked : Option Q)
    (old new : S) (result : Result A ApplyFault) : Type 0 where
  pub turn : Q
  pub turn_is : asked ≡ Some turn
  pub answers : Answers turn old new result

module _ {Q S A : Type 0} (Answers : Q → S → S → Result A ApplyFault → Type 0) (old new : S) (reply : A) where
  -- something was asked for where that is told, and where a fault came
  pub was_asked : (told : Bool) (asked : Option Q) → told ≡ true → AnswersAsked Answers asked old new reply (Ok told)
      → IsAnswered Answers asked old new (Ok reply)
  was_asked told (Some turn) is answered = record { turn = turn; turn_is = refl; answers = answered.1 }
  was_asked told None is answered = let none = answered.0 in absurd (cc)

  pub fault_met : (fault : ApplyFault) (asked : Option Q) → AnswersAsked Answers asked old new reply (Err fault)
      → IsAnswered Answers asked old new (Err fault)
  fault_met fault (Some turn) answered = record { turn = turn; turn_is = refl; answers = answered }
  fault_met fault None answered = let none = answered.0 in absurd (cc)

  -- and nothing where that is told
  pub none_asked : (told : Bool) (asked : Option Q) → told ≡ false → AnswersAsked Answers asked old new reply (Ok told)
      → (asked ≡ None) × (new ≡ old)
  none_asked told (Some turn) is answered = absurd (false≢true (sym is ∙ answered.0))
  none_asked told None is answered = (refl, answered.1)

-- what is asked for is a step of the store, or is refused and leaves it
module _ {D : Type 0} {disk_of : D → DiskState} {Told : Type 0} {trees : ℕ → Tree}
    (sound : (disk : D) → disks.IsObservable (disk_of disk) → IsSound (disk_of disk)) {first now : StoreState D}
    {done : ℕ}
    (so_far : StoreSoFar disk_of Told trees first now done) (next : StoreState D) where
  turn_more : (m : Result model.Command Refusal)
      → (Told → disks.IsObservable (disk_of first.disk) → trees (done + 1) ≡ (answer_by now.tree m now.params).tree)
      → (reply : Reply) → AnswersReading disk_of m now next (Ok reply)
      → StoreSoFar disk_of Told trees first next (done + 1)
  turn_more (Ok c) after reply applies = store_more so_far sound after (moves_by_step so_far.runs applies)
  turn_more (Err refusal) after reply refused =
      subst (λ (s : StoreState D). StoreSoFar disk_of Told trees first s (done + 1)) (sym refused.same)
      (store_still so_far after)

  turn_failed : (m : Result model.Command Refusal)
      → (Told → disks.IsObservable (disk_of first.disk) → trees (done + 1) ≡ (answer_by now.tree m now.params).tree)
      → (fault : ApplyFault) → AnswersReading disk_of m now next (Err fault)
      → StoreEnds disk_of Told trees (apply_status fault) done first next
  turn_failed (Ok c) after fault applies = store_failed so_far sound after fault (moves_by_step so_far.runs applies)
  turn_failed (Err refusal) after fault refused = absurd refused.reply

  -- and the reply is the one that is meant
  reply_meant : (m : Result model.Command Refusal) (reply : Reply) → AnswersReading disk_of m now next (Ok reply)
      → Told → disks.IsObservable (disk_of first.disk)
      → reply_of reply ≡ (answer_by (trees done) m first.params).reply
  reply_meant m reply answers told o =
      answered m reply answers
      ∙ ap (λ (t : Tree). (answer_by t m now.params).reply) (so_far.tree told o)
      ∙ ap (λ (p : Parameters). (answer_by (trees done) m p).reply) so_far.params
    where
      answered : (m : Result model.Command Refusal) (reply : Reply) → AnswersReading disk_of m now next (Ok reply)
          → reply_of reply ≡ (answer_by now.tree m now.params).reply
      answered (Ok c) reply applies = applies.answer (so_far.kept.observable ∙ o)
      answered (Err refusal) reply refused = refused.reply

-- What is known between two turns.
pub record SoFar {D M : Type 0} (disk_of : D → DiskState) (Told : M → Type 0) (trees : M → Start → ℕ → Tree)
    (left : M → ℕ) (Live : M → Type 0) (Kept : Start → M → M → ℕ → Type 0) (first now : M)
    (store_first store_now : StoreState D) (done : ℕ) : Type 0 where
  pub work : Kept (start_of disk_of store_first) first now done
  pub store : StoreSoFar disk_of (Told first) (trees first (start_of disk_of store_first)) store_first store_now done
  pub live : Live now
  pub low : done + left now ≤ left first

module _ {D M : Type 0} {disk_of : D → DiskState} {Told : M → Type 0} {trees : M → Start → ℕ → Tree} {left : M → ℕ}
    {Live : M → Type 0} {Kept : Start → M → M → ℕ → Type 0}
    (sound : (disk : D) → disks.IsObservable (disk_of disk) → IsSound (disk_of disk)) where
  -- before the first turn
  pub so_far_none : {first : M} {store : StoreState D} → IsReady disk_of store
      → Begins disk_of trees left Live Kept store first
      → SoFar disk_of Told trees left Live Kept first first store store 0
  so_far_none ready begins = record {
    work = begins.kept;
    store = store_start sound ready begins.tree;
    live = begins.live;
    low = omega arith;
  }

  module _ {Ends : Start → M → M → ℕ → Status → Type 0} {first now : M} {store store_now : StoreState D} {done : ℕ}
      (before : SoFar disk_of Told trees left Live Kept first now store store_now done) {next : M} where
    -- the work is at its end
    pub at_end : Ends (start_of disk_of store) first next done statuses.Done
        → AnswersAll disk_of Told trees Ends (Ok tt) done store store_now first next
    at_end ends = record {
      turns = record { work = ends; store = store_ends before.store statuses.Done (λ e. cc) };
      whole = λ h. before.store;
      cut_short = λ e. refl;
    }

    -- or ends the turns before
    pub at_stop : {status : Status} → Stops Told trees Ends (start_of disk_of store) first next done status
        → AnswersAll disk_of Told trees Ends (Err status) done store store_now first next
    at_stop {status} stops = record {
      turns = record { work = stops.ends; store = store_ends before.store status stops.disk_spared };
      whole = λ h. absurd (false≢true h);
      cut_short = λ e. absurd (stops.cut_short e);
    }

    -- something was asked for
    module _ {Due : Start → M → M → ℕ → Result Command Refusal → Type 0} {asked : Result Command Refusal}
        (asks : Asks Told trees Ends Due (start_of disk_of store) first next done asked)
        (store_next : StoreState D) where
      tree_after : Told first → disks.IsObservable (disk_of store.disk)
          → trees first (start_of disk_of store) (done + 1)
          ≡ (answer_by store_now.tree (reading_of asked) store_now.params).tree
      tree_after told o =
          asks.after told o ∙ ap (λ (t : Tree). (answer_by t (reading_of asked) store.params).tree)
          (sym (before.store.tree told o))
          ∙ ap (λ (p : Parameters). (answer_by store_now.tree (reading_of asked) p).tree) (sym before.store.params)

      -- a fault came in its answer
      pub at_fault : (fault : ApplyFault) → AnswersReading disk_of (reading_of asked) store_now store_next (Err fault)
          → AnswersAll disk_of Told trees Ends (Err (apply_status fault)) done store store_next first next
      at_fault fault answers = record {
        turns = record {
          work = asks.cut fault;
          store = turn_failed sound before.store store_next (reading_of asked) tree_after fault answers;
        };
        whole = λ h. absurd (false≢true h);
        cut_short = λ e. absurd (not_done fault e);
      }

      -- it was answered
      module _ (reply : Reply) (answers : AnswersReading disk_of (reading_of asked) store_now store_next (Ok reply))
        where
          pub replies : RepliesTo Told trees (start_of disk_of store) first done asked reply
          replies = reply_meant sound before.store store_next (reading_of asked) reply answers

          -- and the reply was taken
          pub so_far_more : {after : M} → left next < left now → left after ≤ left next → Live after
              → Kept (start_of disk_of store) first after (done + 1)
              → SoFar disk_of Told trees left Live Kept first after store store_next (done + 1)
          so_far_more falls stays live kept = record {
            work = kept;
            store = turn_more sound before.store store_next (reading_of asked) tree_after reply answers;
            live = live;
            low = omega (arith, before.low, falls, stays);
          }

          -- or was not
          pub at_reply : {after : M} {status : Status}
              → Stops Told trees Ends (start_of disk_of store) first after (done + 1) status
              → AnswersAll disk_of Told trees Ends (Err status) (done + 1) store store_next first after
          at_reply {after} {status} stops = record {
            turns = record {
              work = stops.ends;
              store = store_ends (turn_more sound before.store store_next (reading_of asked) tree_after reply answers)
                  status
                  stops.disk_spared;
            };
            whole = λ h. absurd (false≢true h);
            cut_short = λ e. absurd (stops.cut_short e);
          }
