use Rattle.std.proofs.Common.{Bool, false, ap, subst, sym, ◌∙◌}
use Rattle.script_lines.specs.SinkState.{IsPut}
use Rattle.dump_streams.specs.Gathered.{gathered_state}
use Rattle.box_calls.specs.Checks.{printed}
use Rattle.box_calls.specs.Makings.{EndsMade}
use Rattle.box_calls.specs.Packings.{Packs}
use Rattle.box_calls.proofs.Storing.{list_flushed}
use Rattle.box_calls.proofs.pack.pack_listing.Goals as goal

pub returns-clause-packs : goal.returns-clause-packs
returns-clause-packs g c =
    let say = g.E.Sink.state in
    let out = gathered_state g.W.Sink.state in
    let packed = c.args.packed in
    let listed = c.pack_folder-stream in
    let put = c.put-put in
    let flushed = c.flush-flushed in
    let ended = c.end_part-status in
    subst (λ (b : Bool). Packs b g.F.Folder.state g.W.Sink.state packed.left_out packed.found.items packed.folder
    listed.result.0 c.args.out flushed.new.self (say c.args.say) (say ended.new.sink) ended.result)
    (sym (sym c.is_refused.ensures ∙ c.if-is_refused.false)) (record {
      written = listed.result.2;
      put = put.result;
      flushed = flushed.result;
      between = listed.result.1;
      packs = listed.ensures.packs;
      stops = listed.ensures.stops;
      last = record {
        between = out put.new.self;
        puts = subst (λ text. IsPut (out listed.result.1) (out put.new.self) text put.result) c.ending_of.ensures
            put.ensures.put;
        flushes = flushed.ensures.put;
      };
      ends = subst (λ done. EndsMade false done packed.left_out ended.result (say c.args.say) (say ended.new.sink))
          (c.printed-done.ensures ∙ ap (λ found. printed found put.result flushed.result) c.packed_trouble.ensures)
          ended.ensures;
    })

pub returns-clause-flushed : goal.returns-clause-flushed
returns-clause-flushed g c told =
    let say = g.E.Sink.state in
    let ended = c.end_part-status in
    list_flushed c.pack_folder-stream.result.2 c.put-put.result c.flush-flushed.result c.args.packed.left_out
    ended.result (say c.args.say) (say ended.new.sink)
    (subst (λ done. EndsMade false done c.args.packed.left_out ended.result (say c.args.say) (say ended.new.sink))
    (c.printed-done.ensures ∙ ap (λ found. printed found c.put-put.result c.flush-flushed.result)
    c.packed_trouble.ensures) ended.ensures) told c.flush-flushed.ensures.flushed
