-- A crash leaves all of a load or nothing: from what the load did, and the run behind it.
use Rattle.std.proofs.Common.{◌⊎◌, List, ℕ, inl, inr, refl, sym, ◌∙◌, subst, ⊎_elim}
use Rattle.store_model.specs.Parameters.{Parameters}
use Rattle.store_model.specs.Trees.{Tree, empty_tree}
use Rattle.store_model.specs.Images.{Represents}
use Rattle.store_model.proofs.ImagesLemmas.{Represents-layout}
use Rattle.disk_model.specs.DiskState.{MayLeaveOnly}
use Rattle.script_lines.specs.Memory.{SourceMemory, SinkMemory, source_state, sink_state}
use Rattle.image_subcommands.specs.Outside.{outside_of}
use Rattle.image_subcommands.specs.Statuses.{IsDone}
use Rattle.listing_subcommands.specs.LoadCall.{Lists, LoadsTree, LoadsFrom}
use Rattle.store_claims.specs.declared.crash.Crash.{Crash}
use Rattle.store_claims.specs.Crashes.{RunsBehind}
use Rattle.store_claims.specs.Machines.{Disk, MayLeave, MightHaveLeft, meaning}
use Rattle.store_claims.proofs.RunWays.{read_is}
use Rattle.store_claims.specs.LoadCrashes.{LeavesAllOrNothing}

pub leaves_all_or_nothing : (t : Tree) (p : Parameters) (failing : Disk) (source : SourceMemory) (sink : SinkMemory)
    (left : List ℕ) (crash : Crash)
    → MayLeaveOnly (meaning failing) (λ image. Represents image empty_tree p) → Lists t p source.left
    → LoadsFrom meaning source_state sink_state empty_tree p source.left (outside_of failing source sink) crash.first
    → ((u : Tree) → Represents left u p → RunsBehind u p crash.next)
    → LeavesAllOrNothing t p failing.disk left crash
leaves_all_or_nothing t p failing source sink left crash only is load behind = record {
  either = λ might done. ⊎_elim (λ none. inl ((behind empty_tree none).image done))
      (λ all. inr ((behind t all).image done)) (left_is might);
  acknowledged = λ loaded may done. (behind t (left_all loaded may)).image done;
  recovers = λ might never. ⊎_elim (λ none. (behind empty_tree none).recovers never)
      (λ all. (behind t all).recovers never) (left_is might);
}
  where
    whole : LoadsTree t p crash.first.status (meaning failing) (meaning crash.first.disk)
    whole = load.loads refl t is

    -- what was left is of one of the two trees
    left_is : MightHaveLeft (meaning failing).clock crash.first.disk left
        → Represents left empty_tree p ⊎ Represents left t p
    left_is might = ⊎_elim (λ before. inl (only left before)) (λ either. either) (whole.crash.each left might)

    -- and behind a load that was done, of that of the lines
    left_all : IsDone crash.first.status → MayLeave crash.first.disk left → Represents left t p
    left_all loaded may =
        let stands = whole.loaded loaded in
        let in_range = (read_is failing (λ (image : List ℕ). Represents image empty_tree p) only).names.in_range in
        subst (λ (bytes : List ℕ). Represents bytes t p) (sym (stands.durable left may ∙ stands.layout_is))
        (Represents-layout t p in_range is.under.is_tree (record {
          room = whole.room loaded;
          bare = is.under.bare;
        }))
