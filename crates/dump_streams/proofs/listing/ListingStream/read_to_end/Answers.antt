use Rattle.std.proofs.Common.{ap}
use Rattle.dump_streams.specs.declared.listing.ListingStream.{ListingStream}
use Rattle.dump_streams.proofs.DrainSteps.{err_told}
use Rattle.dump_streams.proofs.ReadingSteps.{reads_on, read_out, stops}
use Rattle.dump_streams.proofs.listing.ListingStream.read_to_end.Goals as goal

pub returns-in_err-next_line-clause-read : goal.returns-in_err-next_line-clause-read
returns-in_err-next_line-clause-read g c reading =
    let call = c.in_err-next_line.ensures in
    err_told c.from_residual.result _ _ _ c.from_residual.ensures.1
    (stops g.R.Source.state c.args.self.now.first.value c.lines.self.lines c.next_line.new.self
    (c.lines.invariant.reading reading) c.in_err-next_line.field-0.0 call.source call.ends call.answer)

pub returns-in-End-clause-read : goal.returns-in-End-clause-read
returns-in-End-clause-read g c reading =
    let call = rw c.in-End.is at c.in_ok-next_line.ensures in
    read_out g.R.Source.state c.args.self.now.first.value c.lines.self.lines c.next_line.new.self
    (c.lines.invariant.reading reading) call.source call.ends call.answer

pub lines-preserved : goal.lines-preserved
lines-preserved g c =
    let call = c.in_ok-next_line.ensures in
    record {
      same = ap (λ (s : ListingStream g.row.R.Denot). record s { lines = c.next_line.new.self }) c.lines.invariant.same;
      reading = λ reading. reads_on g.R.Source.state c.args.self.now.first.value c.lines.self.lines
          c.next_line.new.self (c.lines.invariant.reading reading) c.in_ok-next_line.field-0 call.source call.ends
          call.answer;
    }
