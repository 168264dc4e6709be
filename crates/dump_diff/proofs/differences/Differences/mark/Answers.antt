use Rattle.std.proofs.Common.{List, sym, subst}
use Rattle.dump_diff.specs.declared.difference.Difference.{Difference}
use Rattle.dump_diff.specs.Differences.{marks_of}
use Rattle.dump_diff.specs.Shown.{MarksPath}
use Rattle.dump_diff.proofs.LastMark.{marked_more}
use Rattle.dump_diff.proofs.differences.Differences.mark.Goals as goal

pub returns-in_ok-push-in-None-clause-marks : goal.returns-in_ok-push-in-None-clause-marks
returns-in_ok-push-in-None-clause-marks c rising upto =
    subst (λ (items : List Difference). MarksPath (marks_of c.args.self.now.paths.items)
    (marks_of items) c.args.path c.args.mark c.args.mark) (sym c.in_ok-push-in-None.ensures.items)
    (marked_more c.args.self.now.paths.items c.args.path c.args.mark (c.in-None.ensures rising upto))
