use Rattle.std.proofs.Common.{ap, subst, sym, ◌∙◌}
use Rattle.dump_streams.specs.Gathered.{gathered_state}
use Rattle.box_calls.specs.Endings.{Ends, ended_status}
use Rattle.box_calls.proofs.ReadFlushing.{listed_flushed}
use Rattle.box_calls.proofs.list.list_path.Goals as goal

pub returns-clause-lists : goal.returns-clause-lists
returns-clause-lists g c =
    let read = c.list_image-disk in
    let say = g.E.Sink.state in
    record {
      found = read.result.found;
      flushed = c.flush-flushed.result;
      between = gathered_state g.W.Sink.state read.result.sink;
      reads = read.ensures.lists;
      unread = read.ensures.unread;
      untouched = read.ensures.untouched;
      put = c.flush-flushed.ensures.put;
      ends = subst (λ done. Ends done c.ended-status.result (say c.args.say) (say c.ended-status.new.sink))
          c.listed.ensures c.ended-status.ensures;
    }

pub returns-clause-flushed : goal.returns-clause-flushed
returns-clause-flushed g c done =
    listed_flushed c.list_image-disk.result.found c.flush-flushed.result
    (ap ended_status (sym c.listed.ensures) ∙ sym c.ended-status.ensures.status_is ∙ done)
    c.flush-flushed.ensures.flushed
