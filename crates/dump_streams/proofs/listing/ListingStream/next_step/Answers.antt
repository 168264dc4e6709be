use Rattle.std.proofs.Common.{refl}
use Rattle.dump_streams.specs.Listings.{CameOf}
use Rattle.dump_streams.proofs.DrainSteps.{next_failed}
use Rattle.dump_streams.proofs.ReadingSteps.{stops}
use Rattle.dump_streams.proofs.ListingSteps.{at_fault, at_end, at_long, at_bad, at_text, at_more}
use Rattle.dump_streams.proofs.listing.ListingStream.next_step.Goals as goal

pub returns-in_err-next_line-clause-next : goal.returns-in_err-next_line-clause-next
returns-in_err-next_line-clause-next g c =
    let state = g.R.Source.state in
    let old = c.args.self.now in
    let new = c.next_line.new.self in
    let call = c.in_err-next_line.ensures in
    next_failed (CameOf state old) _ _ _ _ c.from_residual.result _ c.from_residual.ensures.1
    (λ t before. at_fault state old t before new c.in_err-next_line.field-0.0
    (stops state old.first.value old.lines new before.reading c.in_err-next_line.field-0.0 call.source call.ends
    call.answer))

pub returns-then-take_text-clause-next : goal.returns-then-take_text-clause-next
returns-then-take_text-clause-next g c =
    let call = rw c.in-Text.is at c.in_ok-next_line.ensures in
    let takes = rw (c.text.ensures.value, c.if-take_text.true) at c.take_text.ensures in
    record {
      came = λ t before. at_text g.R.Source.state c.args.self.now t before c.next_line.new.self c.take_text.new.reader
          takes.version c.saturating_add-self.result c.saturating_add-self.ensures call.source call.ends call.answer
          c.take_text.new.step takes;
      extends = λ t before. at_more g.R.Source.state c.args.self.now t before c.next_line.new.self
          c.take_text.new.reader takes.version c.saturating_add-self.result c.saturating_add-self.ensures call.source
          call.ends call.answer c.take_text.new.step takes;
      whole = λ t before. tt;
      failed = λ t before. tt;
    }

pub returns-else-take_text-clause-next : goal.returns-else-take_text-clause-next
returns-else-take_text-clause-next g c =
    let call = rw c.in-Text.is at c.in_ok-next_line.ensures in
    let takes = rw (c.text.ensures.value, c.if-take_text.false) at c.take_text.ensures in
    record {
      came = λ t before. tt;
      extends = λ t before. tt;
      whole = λ t before. tt;
      failed = λ t before. at_bad g.R.Source.state c.args.self.now t before c.next_line.new.self
          c.take_text.new.reader takes.version c.saturating_add-self.result c.saturating_add-self.ensures call.source
          call.ends call.answer c.take_text.new.step takes;
    }

pub returns-in-Long-clause-next : goal.returns-in-Long-clause-next
returns-in-Long-clause-next g c =
    let call = rw c.in-Long.is at c.in_ok-next_line.ensures in
    let old = c.args.self.now in
    record {
      came = λ t before. tt;
      extends = λ t before. tt;
      whole = λ t before. tt;
      failed = λ t before. at_long g.R.Source.state old t before c.next_line.new.self old.reader refl
          c.saturating_add-self-in-Long.result c.saturating_add-self-in-Long.ensures call.source call.ends call.answer;
    }

pub returns-in-End-clause-next : goal.returns-in-End-clause-next
returns-in-End-clause-next g c =
    let call = rw c.in-End.is at c.in_ok-next_line.ensures in
    record {
      came = λ t before. tt;
      extends = λ t before. tt;
      whole = λ t before. at_end g.R.Source.state c.args.self.now t before c.next_line.new.self call.source call.ends
          call.answer;
      failed = λ t before. tt;
    }
