use Rattle.drawn_levels.proofs.kept.KeptLevels.keep.Goals as goal

pub returns-then-not-has_run_for : goal.returns-then-not-has_run_for
returns-then-not-has_run_for c = λ d is held. c.has_run_for.ensures.holds d held

pub returns : goal.returns
returns c = λ d is held. c.lengthen.ensures d c.args.key.now
    (c.has_run_for.ensures.next c.if-not-has_run_for.false) is
    (c.has_run_for.ensures.holds d held)
