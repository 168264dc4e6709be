use Rattle.std.proofs.Common.{ap, subst, sym, ◌∙◌}
use Rattle.dump_streams.specs.Gathered.{gathered_state}
use Rattle.box_calls.specs.Endings.{Ends, ended_status}
use Rattle.box_calls.proofs.ReadFlushing.{got_flushed}
use Rattle.box_calls.proofs.get.get_file.Goals as goal

pub returns-clause-gets : goal.returns-clause-gets
returns-clause-gets g c =
    let read = c.read_file-disk in
    let say = g.E.Sink.state in
    record {
      found = read.result.found;
      flushed = c.flush-flushed.result;
      between = gathered_state g.W.Sink.state read.result.sink;
      reads = read.ensures.reads;
      unread = read.ensures.unread;
      untouched = read.ensures.untouched;
      put = c.flush-flushed.ensures.put;
      ends = subst (λ done. Ends done c.ended-status.result (say c.args.say) (say c.ended-status.new.sink))
          c.got-done.ensures c.ended-status.ensures;
    }

pub returns-clause-flushed : goal.returns-clause-flushed
returns-clause-flushed g c done =
    got_flushed c.args.target c.read_file-disk.result.found c.flush-flushed.result
    (ap ended_status (sym c.got-done.ensures) ∙ sym c.ended-status.ensures.status_is ∙ done)
    c.flush-flushed.ensures.flushed
