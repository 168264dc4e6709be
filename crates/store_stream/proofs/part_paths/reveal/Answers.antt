use Rattle.std.proofs.Common.{IsTrue, refl, subst, arith}
use Rattle.std.specs.List.{list_all}
use Rattle.std.proofs.lemmas.List.{take_all}
use Rattle.store_model.specs.Paths.{is_path}
use Rattle.store_stream.proofs.FirstNames.{one_more_path}
use Rattle.store_stream.proofs.part_paths.reveal.Goals as goal

pub loop-at-init : goal.loop-at-init
loop-at-init c = (omega arith, refl)

pub loop-at-preserved : goal.loop-at-preserved
loop-at-preserved c = (
  omega (arith, c.loop-at-test.true),
  one_more_path c.args.paths.now c.loop-at.at c.index-paths-at.result c.index-paths-at.result c.index-paths-at.is
      c.loop-at-test.true c.is_root.ensures.valid c.loop-at.invariant.1,
)

pub returns : goal.returns
returns c =
    subst (λ ps. IsTrue (list_all is_path ps)) (take_all c.loop-at.at c.args.paths.now c.loop-at-test.false)
    c.loop-at.invariant.1
