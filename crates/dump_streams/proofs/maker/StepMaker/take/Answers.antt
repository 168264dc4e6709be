use Rattle.dump_streams.proofs.AfterLemmas.{after_block, after_first}
use Rattle.dump_streams.proofs.maker.StepMaker.take.Goals as goal

pub returns-in-Some : goal.returns-in-Some
returns-in-Some c = record {
  after = λ u p passed rest given was all. (after_block c.args.self.now c.take_block.new.self u p passed rest given
      c.args.pair c.take_block.new.into c.take_block.result was all c.in-Some.file c.in-Some.is
      c.take_block.ensures).after;
  refused = λ u p passed rest given was all. (after_block c.args.self.now c.take_block.new.self u p passed rest given
      c.args.pair c.take_block.new.into c.take_block.result was all c.in-Some.file c.in-Some.is
      c.take_block.ensures).taken;
}

pub returns-in-None : goal.returns-in-None
returns-in-None c = record {
  after = λ u p passed rest given was all. (after_first c.args.self.now c.take_first.new.self u p passed rest given
      c.args.pair c.take_first.new.into c.take_first.result was all c.in-None.is (c.take_first.ensures p)).after;
  refused = λ u p passed rest given was all. (after_first c.args.self.now c.take_first.new.self u p passed rest given
      c.args.pair c.take_first.new.into c.take_first.result was all c.in-None.is (c.take_first.ensures p)).taken;
}
