use Rattle.std.proofs.lemmas.Result.{on_ok_weaker}
use Rattle.dump_streams.specs.Dumps.{after_step}
use Rattle.dump_diff.specs.declared.fault.CompareFault.TheVariants as faults
use Rattle.dump_diff.specs.Causes.{SecondFails}
use Rattle.dump_diff.proofs.Causing.{err_so}
use Rattle.dump_diff.proofs.Merging.{on_ok_like, second_taken}
use Rattle.dump_diff.proofs.comparing.Merge.take_second.Goals as goal

pub returns-clause-merged : goal.returns-clause-merged
returns-clause-merged g c t u ahead merged =
    let at = ahead.there c.requires.there in
    let behind = (merged.second c.requires.there).behind in
    let notes = c.in_ok-note.ensures.marks (merged.shown).rising behind.marked in
    let noted = c.in_ok-note.ensures.attributes (merged.shown).rising behind.marked in
    on_ok_like _ c.fetch.result c.map_err.result c.map_err.ensures.variant
    (on_ok_weaker c.fetch.result (λ later. second_taken c.args.self.now c.fetch.new.self c.note.new.self
    c.keep.new.self t u ahead c.requires.there c.requires.lower merged notes noted c.keep.ensures.on
    (λ rising on. c.in_ok-keep.ensures.kept rising on) later)
    (c.fetch.ensures.ahead (after_step u c.args.self.now.second.step) (at.extends).is_tree at.came_now))

pub returns-in_err-note-clause-failed : goal.returns-in_err-note-clause-failed
returns-in_err-note-clause-failed g c t ahead =
    err_so c.from_residual.result (faults.NoMemory c.in_err-note.field-0.0)
    (SecondFails (g.B.DumpStream.fails c.args.second.now)) c.from_residual.ensures.1 (tt {0})
