use Rattle.std.proofs.Common.{◌++◌, refl, ap, ◌∙◌}
use Rattle.dump_streams.specs.Dumps.{step_line}
use Rattle.dump_streams.specs.Rooms.{Room}
use Rattle.dump_streams.proofs.SourceSteps.{ready_more}
use Rattle.dump_streams.proofs.source.ListingSource.next_line.Goals as goal

pub returns-in-Ok-clause-ready : goal.returns-in-Ok-clause-ready
returns-in-Ok-clause-ready g c bytes gave =
    let next = rw c.if-not-branch.false at c.in_ok-next.ensures.next in
    let came = gave.going c.requires.going in
    ready_more g.S.DumpStream.came g.S.DumpStream.whole c.args.self.now _ bytes
    c.requires.going c.requires.none c.requires.going gave (next.came gave.tree came) (next.extends gave.tree came)
    ((c.in-Ok.ensures.observed refl).appended
    ∙ ap (λ (r : Room). r.rest ++ step_line c.next.new.into) c.clear.ensures)
