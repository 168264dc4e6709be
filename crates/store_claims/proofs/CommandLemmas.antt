-- What stands of the commands of a number: from what `big` promises.
use Rattle.std.proofs.Common.{◌≡◌, inl, inr, ℕ, List, refl, sym, ap, ◌∙◌, subst, ⊎_elim, arith}
use Rattle.store_model.specs.Parameters.{Parameters}
use Rattle.store_model.specs.Trees.{Tree}
use Rattle.store_model.specs.Images.{layout, Represents}
use Rattle.store_model.specs.Scripts.{replies_by}
use Rattle.disk_model.specs.DiskState.{MayLeaveOnly}
use Rattle.gate_journal.specs.Phases.{HasEmptyJournal}
use Rattle.gate_journal.proofs.Layouts.{layout-has-empty-journal}
use Rattle.script_lines.specs.Memory.{SourceMemory, SinkMemory, sink_state}
use Rattle.script_lines.specs.SinkState.{AppendsPrefix}
use Rattle.image_subcommands.specs.declared.status.Status.{Status}
use Rattle.image_subcommands.specs.Outside.{outside_of}
use Rattle.image_subcommands.specs.Statuses.{Subcommand as words, IsBetweenLines, IsSummed}
use Rattle.script_runs.specs.ScriptCall.{IsBig}
use Rattle.staged_tree.specs.Groups.{step_under}
use Rattle.script_runs.specs.Generations.{first_commands, generated_trees}
use Rattle.store_claims.specs.BigRuns.{summary_of}
use Rattle.store_claims.specs.Commands.{KeepsCommands}
use Rattle.store_claims.specs.Machines.{Disk, Ended, bytes_of, meaning}
use Rattle.store_claims.proofs.BigLemmas.{summary_is}
use Rattle.store_claims.proofs.RunWays.{found, image_of, on_the_way, read_is}

between : (status : Status) → IsSummed status → IsBetweenLines status
between status summed = grind arith

pub keeps_commands : (number count : ℕ) (t : Tree) (p : Parameters) (disk : Disk) (source : SourceMemory)
    (sink : SinkMemory) (after : Ended)
    → IsBig meaning sink_state number count (outside_of disk source sink) after
    → MayLeaveOnly (meaning disk) (λ image. Represents image t p)
    → KeepsCommands number count t p disk source sink after
keeps_commands number count t p disk source sink after big only =
    let on_disk = big.observed refl in
    let is = read_is disk (λ image. Represents image t p) only in
    let from = on_disk.does t p is in
    let carried = from.carried in
    let trees = generated_trees t number count p in
    let stands = λ (s : IsSummed after.status). carried.image.between (between after.status s) in
    record {
      ends = found words.Big t p disk after.status big.ends on_disk.not_image on_disk.damaged is;
      all_done = big.keeps.all_done;
      image = λ s. image_of after.disk (trees after.done) p (stands s);
      done_limit = big.keeps.done_limit;
      disk_fault = carried.image.fault;
      no_memory = λ e.
          ⊎_elim
          (λ there. inl (image_of after.disk (trees after.done) p there))
          (λ none. inr (none.0, subst (λ (image : List ℕ). Represents image t p) (sym (none.1).bytes) is))
          (carried.image.no_memory e);
      any_moment = on_the_way after.status after.done trees p disk after.disk (carried.crashes only);
      nothing_taken = big.keeps.source;
      in_part = λ e.
          let s : IsSummed after.status = subst IsSummed (sym e) refl in
          let here : trees after.done ≡ trees count = ap trees (big.keeps.all_done s) in
          let image : layout (trees count) p ≡ bytes_of after.disk =
          ap (λ (u : Tree). layout u p) (sym here) ∙ sym (stands s).layout_is in
          let all = replies_by (step_under p) t (first_commands number count) in
          subst (AppendsPrefix sink.written after.sink.written)
          (summary_is all (trees count) p ∙ ap (summary_of all (trees count) p) image)
          ((from.summary s refl).in_part e);
      nothing_put = big.keeps.silent;
      complete = λ none. from.complete none.disk_spared none.sink_spared;
      untouched = λ rest same other.
          let empty = subst (HasEmptyJournal p.slots) (sym rest.layout_is)
          (layout-has-empty-journal t p is.names.in_range is.tree is.fits) in
          let unwritten = carried.quiet empty other (λ k few. same k few ∙ sym (same 0 (omega arith))) in
          record { bytes = unwritten.bytes; writes = unwritten.writes };
    }
