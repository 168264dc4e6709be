use Rattle.std.proofs.Common.{Ok, Err, refl, ap, subst, ◌∙◌, arith}
use Rattle.std.proofs.lemmas.Result.{err_from_is_err_and}
use Rattle.store_model.specs.Parameters.{Parameters}
use Rattle.image_subcommands.specs.declared.status.Status.TheVariants as statuses
use Rattle.image_subcommands.specs.Endings.{apply_status}
use Rattle.script_runs.specs.Generations.{AnswersGenerated}
use Rattle.script_runs.proofs.GenerationTurns.{generated_begins, number_is, loop_fault, digest_fault, summed_up}
use Rattle.script_runs.proofs.big.answer_generated.Goals as goal

pub answer_all-requires : goal.answer_all-requires
answer_all-requires g c = record {
  ready = c.requires.ready;
  begins = generated_begins g.D.Disk.state c.args.store.now _ refl (omega (arith, c.ranges.count.fits));
  none = c.requires.none;
}

pub returns-in_err-answer_all : goal.returns-in_err-answer_all
returns-in_err-answer_all g c =
    let status = err_from_is_err_and c.from_residual.result c.from_residual.ensures.1 in
    rw (status.1, status.2)
    (subst (λ number. AnswersGenerated g.D.Disk.state g.W.Sink.state number
    c.args.count c.in_err-answer_all.field-0.0 c.answer_all.new.done c.args.store.now c.answer_all.new.store
    c.args.sink.now c.args.sink.now)
    (number_is c.args.number c.new.result c.new.ensures)
    (loop_fault c.in_err-answer_all.ensures))

pub returns-in_err-digest : goal.returns-in_err-digest
returns-in_err-digest g c =
    let status = err_from_is_err_and c.from_residual-in_err-digest.result c.from_residual-in_err-digest.ensures.1 in
    rw (status.1, status.2)
    (subst (λ number. AnswersGenerated g.D.Disk.state g.W.Sink.state number
    c.args.count (apply_status c.in_err-digest.field-0.0)
    c.answer_all.new.done c.args.store.now c.apply.new.self c.args.sink.now c.args.sink.now)
    (number_is c.args.number c.new.result c.new.ensures)
    (digest_fault g.met.D.Disk.sound c.in_ok-answer_all.ensures c.in_err-digest.ensures.call))

pub returns-in_err-print_summary : goal.returns-in_err-print_summary
returns-in_err-print_summary g c =
    let status = err_from_is_err_and c.from_residual-in_err-print_summary.result
    c.from_residual-in_err-print_summary.ensures.1 in
    rw (status.1, status.2)
    (subst (λ number. AnswersGenerated g.D.Disk.state g.W.Sink.state number
    c.args.count statuses.SinkFault c.answer_all.new.done c.args.store.now c.apply.new.self c.args.sink.now
    c.print_summary.new.sink)
    (number_is c.args.number c.new.result c.new.ensures)
    (summed_up g.met.D.Disk.sound c.in_ok-answer_all.ensures c.in_ok-digest.ensures.call c.used.ensures
    (c.slots.ensures.value ∙ ap (λ (p : Parameters). p.slots) c.params.ensures.value) c.counts_lines-counts.ensures
    c.print_summary.new.sink (Err c.in_err-print_summary.field-0.0) c.in_err-print_summary.ensures))

pub returns : goal.returns
returns g c =
    subst (λ number. AnswersGenerated g.D.Disk.state g.W.Sink.state number
    c.args.count statuses.Done c.answer_all.new.done c.args.store.now c.apply.new.self c.args.sink.now
    c.print_summary.new.sink)
    (number_is c.args.number c.new.result c.new.ensures)
    (summed_up g.met.D.Disk.sound c.in_ok-answer_all.ensures c.in_ok-digest.ensures.call c.used.ensures
    (c.slots.ensures.value ∙ ap (λ (p : Parameters). p.slots) c.params.ensures.value) c.counts_lines-counts.ensures
    c.print_summary.new.sink (Ok c.in_ok-print_summary.field-0) c.in_ok-print_summary.ensures)
