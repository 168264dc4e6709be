use Rattle.std.proofs.Common.{◌<◌, length, slice_index_or, refl, arith}
use Rattle.store_stream.proofs.KeyPlaces.{among_paths, none_of_paths}
use Rattle.store_stream.proofs.part_paths.PartPaths.place_of.Goals as goal

pub returns-then-self-clause-place : goal.returns-then-self-clause-place
returns-then-self-clause-place c past =
    let self = c.args.self.now in
    let d = c.past_at-self.result in
    let l : d < length self.paths.now = omega (arith, c.if-self.true) in
    let none = c.index-self-self.result in
    among_paths self.paths.now self.valid d c.args.key.now (c.past_at-self.ensures.past past) self.sorted l
    (slice_index_or self.paths.now d none) none refl c.place_of.result (c.past_at-self.ensures.next l none)
    c.place_of.ensures

pub returns-else-self-clause-place : goal.returns-else-self-clause-place
returns-else-self-clause-place c past =
    let self = c.args.self.now in
    none_of_paths self.paths.now self.valid c.past_at-self.result c.args.key.now (c.past_at-self.ensures.past past)
    (omega (arith, c.if-self.false))
