use Rattle.std.proofs.Common.{◌≡◌, Bool, true, false, not, is_some, refl, sym, ap, ◌∙◌}
use Rattle.dump_streams.specs.Dumps.{dump}
use Rattle.dump_streams.proofs.AfterLemmas.{ended}
use Rattle.dump_streams.proofs.TakeLemmas.{all_given}
use Rattle.dump_streams.proofs.steps.PairSteps.is_whole.Goals as goal

not_told : (b : Bool) → not b ≡ false → b ≡ true
not_told true e = refl
not_told false e = cc

pub returns-clause-told : goal.returns-clause-told
returns-clause-told c u p t has =
    not_told c.is_none.result
    (sym c.is_none.ensures ∙ ap is_some (ended c.args.self.now.maker u p (dump t) has.after).none)

pub returns-clause-tree : goal.returns-clause-tree
returns-clause-tree c u p t has = all_given c.args.self.now u p t has
