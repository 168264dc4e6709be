use Rattle.dump_streams.proofs.TextSteps.{text_refused, text_offered}
use Rattle.dump_streams.proofs.listing.take_text.Goals as goal

pub returns-then-not-read_step : goal.returns-then-not-read_step
returns-then-not-read_step c =
    text_refused c.args.reader.now c.args.reader.now c.read_step.new.step c.args.text.now
    (rw c.if-not-read_step.true at c.read_step.ensures)

pub returns : goal.returns
returns c =
    text_offered c.args.reader.now c.add.new.self c.read_step.new.step c.args.text.now c.add.result
    (rw c.if-not-read_step.false at c.read_step.ensures) c.add.ensures
