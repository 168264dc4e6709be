use Rattle.std.proofs.Common.{ap, subst}
use Rattle.script_lines.specs.LineState.{LineState}
use Rattle.image_check.specs.declared.fault.AttachFault.TheVariants as faults
use Rattle.image_subcommands.specs.Outside.{KeepsOutside, outside_of}
use Rattle.image_work.proofs.OpeningEnds.{nothing_opened}
use Rattle.image_work.proofs.WorkEnds.{works_unopened}
use Rattle.script_runs.specs.ScriptCall.{AnswersScript, word_of, texts_by, trees_by}
use Rattle.script_runs.proofs.RunEnds.{script_unopened}
use Rattle.script_runs.proofs.script.script_image.Goals as goal

pub returns-in-Err-clause-script : goal.returns-in-Err-clause-script
returns-in-Err-clause-script g c =
    let nothing = nothing_opened (g.D.Disk.state c.args.disk) (g.met.D.Disk.sound c.args.disk) in
    rw (c.idle.ensures, c.in-Err.ensures.err)
    (works_unopened g.D.Disk.state _ _ _ (c.args.source, c.args.sink) c.args.disk faults.NoMemory c.args.disk nothing
    (script_unopened g.D.Disk.state g.R.Source.state g.W.Sink.state g.met.D.Disk.sound (c.args.source, c.args.sink)
    c.args.disk faults.NoMemory c.args.disk nothing c.args.answering))

pub returns-clause-script : goal.returns-clause-script
returns-clause-script g c =
    let kind = c.args.answering in
    subst (λ source. AnswersScript (word_of kind) (texts_by kind) (trees_by kind) g.D.Disk.state g.R.Source.state
    g.W.Sink.state (outside_of c.args.disk source c.args.sink) c.open_for.result)
    (ap (λ (r : LineState g.row.R.Denot). r.source) c.in-Ok.ensures.ok) c.open_for.ensures.works

pub returns-clause-outside : goal.returns-clause-outside
returns-clause-outside g c =
    subst (λ source. KeepsOutside c.open_for.result.status (g.D.Disk.state c.args.disk)
    (g.D.Disk.state c.open_for.result.disk) (g.R.Source.state source) (g.R.Source.state c.open_for.result.source)
    (g.W.Sink.state c.args.sink) (g.W.Sink.state c.open_for.result.sink))
    (ap (λ (r : LineState g.row.R.Denot). r.source) c.in-Ok.ensures.ok) c.open_for.ensures.outside
