use Rattle.dump_streams.proofs.FirstLemmas.{attribute_spot, attribute_made}
use Rattle.dump_streams.proofs.maker.StepMaker.take_first.Goals as goal

pub returns-in-Some : goal.returns-in-Some
returns-in-Some c p spot valid pair =
    let of = c.in-Some.ensures in
    let found = attribute_spot p c.args.pair.0 c.args.pair.1 spot _ _ valid pair of.some of.path of.name of.fits in
    attribute_made p spot _ _ c.args.pair.1 c.args.self.now c.take_attribute.new.into
    c.take_attribute.result found c.requires (c.take_attribute.ensures found.bytes found.short found.value_is)
