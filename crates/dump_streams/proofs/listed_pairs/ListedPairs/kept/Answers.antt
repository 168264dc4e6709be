use Rattle.std.proofs.Common.{sym, subst, arith}
use Rattle.dump_streams.specs.Listed.{ArePairsOf}
use Rattle.dump_streams.proofs.ListedLemmas.{told_large, told_pairs}
use Rattle.dump_streams.proofs.listed_pairs.ListedPairs.kept.Goals as goal

pub returns-then-pages-slots : goal.returns-then-pages-slots
returns-then-pages-slots c = λ t p held. told_large c.args.self.now t p held
    (omega (arith, c.pages.ensures.value, c.slots.ensures.value, c.if-pages-slots.true))

pub returns : goal.returns
returns c = λ t p held. subst (ArePairsOf t p) (sym c.new.ensures) (told_pairs c.args.self.now t p held
    (omega (arith, c.pages.ensures.value, c.slots.ensures.value, c.if-pages-slots.false)))
