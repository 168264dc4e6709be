-- What was acknowledged stays: from what a call promises that has a text for each line of a script.
use Rattle.std.proofs.Common.{◌≡◌, inl, inr, ℕ, List, ◌++◌, length, take, refl, sym, ap, ◌∙◌, subst, ⊎_elim, arith}
use Rattle.std.proofs.Common.{length-append}
use Rattle.store_model.specs.Parameters.{Parameters}
use Rattle.store_model.specs.Trees.{Tree}
use Rattle.store_model.specs.Images.{Represents}
use Rattle.store_model.specs.Scripts.{lines, script_limit}
use Rattle.disk_model.specs.DiskState.{MayLeaveOnly}
use Rattle.script_lines.specs.Lines.{ended_lines}
use Rattle.script_lines.specs.Memory.{SourceMemory, SinkMemory, source_state, sink_state}
use Rattle.image_subcommands.specs.Outside.{outside_of}
use Rattle.image_subcommands.specs.Statuses.{Subcommand}
use Rattle.script_runs.specs.ScriptCall.{AnswersScript}
use Rattle.store_claims.specs.Acknowledged.{KeepsAcknowledged}
use Rattle.store_claims.specs.Machines.{Disk, Ended, meaning}
use Rattle.store_claims.proofs.RunWays.{EndsAsRun, way, image_of, read_is}
use Rattle.store_claims.proofs.CrashLemmas.{wrote_in_part}

pub script_keeps_acknowledged : {word : Subcommand} {texts : Tree → List ℕ → Parameters → List (List ℕ)} {trees : Tree
    → List ℕ → Parameters → ℕ → Tree} → EndsAsRun word
    → (t : Tree) (p : Parameters) (disk : Disk) (source : SourceMemory) (sink : SinkMemory) (after : Ended)
    → length (texts t source.left p) ≡ length (lines source.left)
    → AnswersScript word texts trees meaning source_state sink_state (outside_of disk source sink) after
    → MayLeaveOnly (meaning disk) (λ image. Represents image t p)
    → KeepsAcknowledged (texts t source.left p) (trees t source.left p) t p source sink after
script_keeps_acknowledged {word} {texts} {trees} as_run t p disk source sink after one_each answers only =
    let on_disk = answers.observed refl in
    let represents = read_is disk (λ image. Represents image t p) only in
    let from = on_disk.does t p represents refl in
    let carried = from.carried in
    let told = from.replies in
    let wrote = told.written refl in
    let limit = answers.keeps refl in
    record {
      ends = way as_run t p disk source sink after answers represents;
      image = λ whole.
          let stands = carried.image.between whole in
          record {
            bytes = stands.layout_is;
            durable = λ image leaves. (carried.crashes only).between whole image leaves ∙ stands.layout_is;
          };
      disk_fault = carried.image.fault;
      no_memory = λ e.
          ⊎_elim
          (λ stands. inl (image_of after.disk (trees t source.left p after.done) p stands))
          (λ none. inr (none.0, subst (λ (image : List ℕ). Represents image t p) (sym (none.1).bytes) represents))
          (carried.image.no_memory e);
      all_lines = λ e. (told.counted.all e).1 ∙ one_each;
      all_replied = λ e. wrote.written_is ∙ ap (λ (text : List ℕ). sink.written ++ text) (wrote.promised.all e);
      source_fault = λ e. record { taken = told.taken; taken_is = told.taken_is; done_is = told.counted.ended e };
      too_long = λ e.
          let many = limit.too_long e in (
            omega (arith, many.count_is, ap length many.taken_is, length-append many.taken after.source.left),
            told.counted.ended_in_limit e
                ∙ ap (λ (bytes : List ℕ). length (ended_lines (take script_limit bytes))) (sym told.taken_is),
          );
      in_limit = λ other.
          let few = limit.within other in
          omega (
            arith,
            few.1,
            (few.2).count_is,
            ap length
                (few.2).taken_is,
            length-append (few.2).taken after.source.left,
          );
      some_line = told.counted.some_line;
      counted = omega (arith, told.counted.counted, one_each);
      replied = λ early. wrote.written_is ∙ ap (λ (text : List ℕ). sink.written ++ text)
          (wrote.promised.answered early);
      in_part = wrote_in_part after.status after.done (texts t source.left p)
          sink.written after.sink.written wrote.written wrote.written_is wrote.promised;
    }
