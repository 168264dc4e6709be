use Rattle.std.proofs.Common.{refl}
use Rattle.std.proofs.lemmas.Bool.{false≢true}
use Rattle.dump_streams.proofs.ReaderLemmas.{name_adds, name_refused}
use Rattle.dump_streams.proofs.reader.ListingReader.add_attribute.Goals as goal

pub returns-then-not-is_next_name : goal.returns-then-not-is_next_name
returns-then-not-is_next_name c =
    name_refused c.args.self.now c.args.path.now c.args.name.now c.args.bytes.now
    (λ next. false≢true (c.if-not-is_next_name.ensures.1 next))

pub returns : goal.returns
returns c = name_adds c.args.self.now c.args.path.now c.args.name.now c.args.bytes.now c.requires.1 c.requires.2
    (c.if-not-is_next_name.ensures.0 refl)
