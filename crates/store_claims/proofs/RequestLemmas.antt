-- A call with any well-formed words is done where it can be.
use Rattle.std.proofs.Common.{◌≡◌, ◌⊎◌, ℕ, List, inl, inr, refl, sym, subst, ⊎_elim}
use Rattle.store_model.specs.Parameters.{Parameters}
use Rattle.store_model.specs.Trees.{Tree}
use Rattle.store_model.specs.Words.{Request}
use Rattle.store_model.specs.Words.Request.{Format, Run, Session, Check, Scrub, Wipe, Upgrade, Load}
use Rattle.disk_model.specs.DiskState.{DiskState}
use Rattle.script_lines.specs.SourceState.{SourceState}
use Rattle.script_lines.specs.SinkState.{SinkState}
use Rattle.image_subcommands.specs.declared.outcome.Outcome.{Outcome}
use Rattle.image_subcommands.specs.declared.status.Status.{Status}
use Rattle.image_subcommands.specs.declared.status.Status.TheVariants as statuses
use Rattle.image_subcommands.specs.Outside.{Outside}
use Rattle.image_subcommands.specs.Statuses.{Subcommand, IsDone}
use Rattle.script_runs.specs.ScriptCall.{AnswersScript}
use Rattle.store_top.specs.Performing.{Performs}
use Rattle.store_claims.specs.Faults.{NoneFailed, HasScript, HoldsTree, CanBeDone, IsDoneOrLacks}

-- what ends with 0 is done
with_zero : (status : Status) → (status ≡ statuses.Done) ⊎ (status ≡ statuses.NoMemory) → IsDoneOrLacks status
with_zero status = ⊎_elim (λ e. inl (subst IsDone (sym e) refl)) inr

module _ {D R W : Type 0} (disk_of : D → DiskState) (source_of : R → SourceState) (sink_of : W → SinkState)
    (before : Outside D R W) (after : Outcome D R W)
    (none : NoneFailed (disk_of before.disk) (disk_of after.disk) (source_of before.source) (source_of after.source)
    (sink_of before.sink) (sink_of after.sink)) where
  -- by a word that answers a script
  script_done : {word : Subcommand} {texts : Tree → List ℕ → Parameters → List (List ℕ)} {trees : Tree → List ℕ
      → Parameters → ℕ → Tree} → AnswersScript word texts trees disk_of source_of sink_of before after
      → HasScript (source_of before.source) × HoldsTree (disk_of before.disk) → IsDoneOrLacks after.status
  script_done is can =
      with_zero after.status (⊎_elim (λ all. inl all.0) inr
      (((is.observed can.1.0).does can.1.1.0 can.1.1.1 can.1.1.2 can.0.0).complete
      can.0.1 none.disk_well none.source_well none.sink_well))

  pub is_done : (request : Request) → Performs disk_of source_of sink_of request before after
      → CanBeDone request (disk_of before.disk) (source_of before.source) → IsDoneOrLacks after.status
  is_done (Format p) is can =
      with_zero after.status
      (((is.observed can.0).blank (record { size_is = can.1; other_byte = can.2 })).complete none.disk_well)
  is_done Run is can = script_done is can
  is_done Session is can = script_done is can
  is_done Check is can = with_zero after.status ((is.observed can.0).ends.complete
      (record { tree = can.1.0; params = can.1.1; represents = can.1.2 }) none.disk_well none.sink_well)
  is_done Scrub is can = with_zero after.status ((is.observed can.0).ends.complete
      (record { tree = can.1.0; params = can.1.1; scrubs = can.1.2 }) none.disk_well none.sink_well)
  is_done Wipe is can = with_zero after.status (is.complete none.disk_well)
  is_done Upgrade is can = with_zero after.status
      (((is.observed can.0).does can.1.0 can.1.1 can.1.2).complete none.disk_well)
  is_done Load is can =
      let loads = can.2 in
      ((is.observed can.1).does loads.0 loads.2 loads.3 can.0.0).tells.complete loads.1 loads.4 can.0.1
      none.disk_well none.source_well
  is_done request is can = with_zero after.status
      (((is.observed can.0).does can.1.0 can.1.1 can.1.2).complete none.disk_well none.sink_well)
