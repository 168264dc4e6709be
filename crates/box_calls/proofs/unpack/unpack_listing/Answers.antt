use Rattle.std.proofs.Common.{ℕ, Result, refl, subst, sym}
use Rattle.dump_streams.specs.Listings.{CameOf, EndsBy, IsListed}
use Rattle.host_builder.specs.declared.attribute.Wanted.{Wanted}
use Rattle.host_builder.specs.Views.{MakesView}
use Rattle.box_calls.specs.declared.counted.MadeCounts.{MadeCounts}
use Rattle.box_calls.specs.declared.trouble.Trouble.{Trouble}
use Rattle.box_calls.specs.Counted.{counted_state}
use Rattle.box_calls.specs.Makings.{EndsMade}
use Rattle.box_calls.proofs.unpack.unpack_listing.Goals as goal

pub returns : goal.returns
returns g c =
    let source = g.R.Source.state in
    let st = g.B.Builder.state in
    let say = g.E.Sink.state in
    let made = c.build-counted in
    let counted = made.result.builder in
    let left_out : ℕ = counted.counts.left_out in
    let old = st c.args.builder in
    let ended = c.end_made-status in
    let sums_up = c.args.place.now.sums_up in
    record {
      unpacks = record {
        done = made.result.done;
        stays = made.result.stays;
        left_out = left_out;
        makes = subst (λ (w : Wanted). MakesView (CameOf source) (IsListed source) (EndsBy source) c.args.listing
            made.new.stream (counted_state old 0) (counted_state (st c.into_parts-builder.result.0) left_out) w
            made.result.stays made.result.done) c.wanted_of.ensures
            (subst (λ b. MakesView (CameOf source) (IsListed source) (EndsBy source) c.args.listing made.new.stream
            (counted_state old 0) (counted_state (st b) left_out) c.wanted_of.result made.result.stays made.result.done)
            (sym c.into_parts-builder.ensures.builder)
            (subst (λ (n : ℕ). MakesView (CameOf source) (IsListed source) (EndsBy source) c.args.listing
            made.new.stream (counted_state old n) (counted_state (st counted.builder) left_out) c.wanted_of.result
            made.result.stays made.result.done) c.new-counted.ensures.none
            (subst (λ b. MakesView (CameOf source) (IsListed source) (EndsBy source) c.args.listing made.new.stream
            (counted_state (st b) c.new-counted.result.counts.left_out) (counted_state (st counted.builder) left_out)
            c.wanted_of.result made.result.stays made.result.done) c.new-counted.ensures.builder made.ensures.makes)));
        same = made.ensures.keeps c.args.listing (record { first = refl; version = refl });
        ends = subst (λ (r : Result (Unit {0}) Trouble). EndsMade sums_up r left_out ended.result (say c.args.say)
            (say ended.new.sink)) c.build_trouble.ensures
            (subst (λ (counts : MadeCounts). EndsMade sums_up c.build_trouble.result counts.left_out ended.result
            (say c.args.say) (say ended.new.sink)) c.into_parts-builder.ensures.counts ended.ensures);
      };
    }
