use Rattle.store_stream.proofs.PartsLemmas.{part_step, part_more, part_refused}
use Rattle.store_stream.proofs.parts.PartsStream.take.Goals as goal

pub returns-in-Step-clause-turned : goal.returns-in-Step-clause-turned
returns-in-Step-clause-turned g c t count came is =
    part_step g.D.Disk.state c.args.self.now t count c.args.pair came c.args.self.now.parts.valid c.take.new.self
    c.take.new.into is c.in-Step.ensures

pub returns-in-More-clause-turned : goal.returns-in-More-clause-turned
returns-in-More-clause-turned g c t count came is =
    part_more g.D.Disk.state c.args.self.now t count c.args.pair came c.args.self.now.parts.valid c.take.new.self
    c.take.new.into is c.in-More.ensures

pub returns-in-Refused-clause-turned : goal.returns-in-Refused-clause-turned
returns-in-Refused-clause-turned g c t count came is =
    part_refused g.D.Disk.state c.args.self.now t count c.args.pair came c.args.self.now.parts.valid c.take.new.self
    c.take.new.into is c.in-Refused.ensures
