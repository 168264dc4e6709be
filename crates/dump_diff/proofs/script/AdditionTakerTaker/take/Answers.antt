use Rattle.std.proofs.Common.{refl, sym, ◌∙◌}
use Rattle.std.proofs.lemmas.Bool.{false≢true}
use Rattle.dump_diff.proofs.TakenAdditions.{took_other, took_one, put_done, put_failed}
use Rattle.dump_diff.proofs.script.AdditionTakerTaker.take.Goals as goal

pub returns-then-not-is_addition-clause-taken : goal.returns-then-not-is_addition-clause-taken
returns-then-not-is_addition-clause-taken g c first steps took =
    took_other g.W.Sink.state first c.args.self.now steps _
    c.is_addition.result c.if-not-is_addition.true c.is_addition.ensures took

pub returns-then-not-is_addition-clause-put : goal.returns-then-not-is_addition-clause-put
returns-then-not-is_addition-clause-put g c rising is =
    absurd (false≢true (sym c.if-not-is_addition.true ∙ c.is_addition.ensures rising ∙ is))

pub returns-in-Ok-clause-taken : goal.returns-in-Ok-clause-taken
returns-in-Ok-clause-taken g c first steps took =
    took_one g.W.Sink.state first c.args.self.now (record {
      found = c.args.self.now.found;
      sink = c.write_step.new.sink;
    }) steps _
    c.is_addition.result c.if-not-is_addition.false c.is_addition.ensures refl took c.in-Ok.ensures

pub returns-in-Ok-clause-passed : goal.returns-in-Ok-clause-passed
returns-in-Ok-clause-passed g c rising is =
    absurd (false≢true (sym is ∙ sym (c.is_addition.ensures rising) ∙ c.if-not-is_addition.false))

pub returns-in-Ok-clause-put : goal.returns-in-Ok-clause-put
returns-in-Ok-clause-put g c rising is = (refl, put_done _ _ _ c.in-Ok.ensures)

pub returns-in-Err-clause-passed : goal.returns-in-Err-clause-passed
returns-in-Err-clause-passed g c rising is =
    absurd (false≢true (sym is ∙ sym (c.is_addition.ensures rising) ∙ c.if-not-is_addition.false))

pub returns-in-Err-clause-put : goal.returns-in-Err-clause-put
returns-in-Err-clause-put g c rising is = (refl, put_failed _ _ _ _ _ c.in-Err.ensures)
