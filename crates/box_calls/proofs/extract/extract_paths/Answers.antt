use Rattle.std.proofs.Common.{ℕ, Result, IfErr, subst, sym}
use Rattle.host_builder.specs.declared.attribute.Wanted.{Wanted}
use Rattle.image_extract.specs.Extracts.{Extracts, IsUnextracted}
use Rattle.box_calls.specs.declared.counted.MadeCounts.{MadeCounts}
use Rattle.box_calls.specs.declared.trouble.Trouble.{Trouble}
use Rattle.box_calls.specs.Counted.{counted_state}
use Rattle.box_calls.specs.Makings.{EndsMade}
use Rattle.box_calls.proofs.extract.extract_paths.Goals as goal

pub returns : goal.returns
returns g c =
    let st = g.B.Builder.state in
    let say = g.E.Sink.state in
    let paths = c.args.paths.now in
    let disk = g.D.Disk.state c.args.disk in
    let disk_new = g.D.Disk.state c.extract-disk.result.disk in
    let made = c.extract-disk in
    let counted = made.result.builder in
    let left_out : ℕ = counted.counts.left_out in
    let old = st c.args.builder in
    let ended = c.end_made-status in
    let sums_up = c.args.place.now.sums_up in
    record {
      extracts = record {
        done = made.result.done;
        stays = made.result.stays;
        left_out = left_out;
        extracts = subst (λ (w : Wanted). Extracts w paths disk (counted_state old 0)
            (counted_state (st c.into_parts-builder.result.0) left_out) made.result.stays made.result.done)
            c.wanted_of.ensures
            (subst (λ b. Extracts c.wanted_of.result paths disk (counted_state old 0) (counted_state (st b) left_out)
            made.result.stays made.result.done) (sym c.into_parts-builder.ensures.builder)
            (subst (λ (n : ℕ). Extracts c.wanted_of.result paths disk (counted_state old n)
            (counted_state (st counted.builder) left_out) made.result.stays made.result.done) c.new-counted.ensures.none
            (subst (λ b. Extracts c.wanted_of.result paths disk
            (counted_state (st b) c.new-counted.result.counts.left_out) (counted_state (st counted.builder) left_out)
            made.result.stays made.result.done) c.new-counted.ensures.builder made.ensures.extracts)));
        unread = subst (λ (w : Wanted). IfErr made.result.done (IsUnextracted w paths disk disk_new))
            c.wanted_of.ensures made.ensures.unread;
        untouched = made.ensures.untouched;
        ends = subst (λ (r : Result (Unit {0}) Trouble). EndsMade sums_up r left_out ended.result (say c.args.say)
            (say ended.new.sink)) c.extract_trouble-trouble.ensures
            (subst (λ (counts : MadeCounts). EndsMade sums_up c.extract_trouble-trouble.result counts.left_out
            ended.result (say c.args.say) (say ended.new.sink)) c.into_parts-builder.ensures.counts ended.ensures);
      };
    }
