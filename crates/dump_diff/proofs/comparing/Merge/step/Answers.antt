use Rattle.std.proofs.Common.{sym, subst, arith}
use Rattle.dump_streams.specs.Dumps.{after_step}
use Rattle.dump_diff.specs.declared.heads.Head.{Head}
use Rattle.dump_diff.specs.Ahead.{IsAhead}
use Rattle.dump_diff.specs.Causes.{OneFails}
use Rattle.dump_diff.proofs.Causing.{one_more, blamed, err_so}
use Rattle.dump_diff.proofs.Merging.{all_merged}
use Rattle.dump_diff.proofs.comparing.Merge.step.Goals as goal

pub returns-in-None-clause-whole : goal.returns-in-None-clause-whole
returns-in-None-clause-whole g c count some = let none = c.in-None.ensures
    in all_merged c.args.self.now some.one some.other some.between none.0 none.1

pub returns-in_ok-take_first-in-Some-First-clause-more : goal.returns-in_ok-take_first-in-Some-First-clause-more
returns-in_ok-take_first-in-Some-First-clause-more g c count some =
    let side = rw c.in-Some-First.field-0-is at c.in-Some-First.ensures in
    let taken = c.in_ok-take_first-in-Some-First.ensures in
    let ahead = (some.between).first in
    record {
      one = after_step some.one c.args.self.now.first.step;
      other = some.other;
      between = record {
        first = taken.ahead some.one ahead;
        second = subst (λ (head : Head). IsAhead (g.B.DumpStream.came c.args.second.now)
            (g.B.DumpStream.whole c.args.second.now) head some.other) (sym taken.second) (some.between).second;
        merged = taken.merged some.one some.other ahead (some.between).merged;
      };
      many = let more = one_more some.one c.args.self.now.first.step ((ahead.there side.0).extends).dump_is in omega
          (arith, some.many, more);
    }

pub returns-in_ok-take_second-in-Some-Second-clause-more : goal.returns-in_ok-take_second-in-Some-Second-clause-more
returns-in_ok-take_second-in-Some-Second-clause-more g c count some =
    let side = rw c.in-Some-Second.field-0-is at c.in-Some-Second.ensures in
    let taken = c.in_ok-take_second-in-Some-Second.ensures in
    let ahead = (some.between).second in
    record {
      one = some.one;
      other = after_step some.other c.args.self.now.second.step;
      between = record {
        first = subst (λ (head : Head). IsAhead (g.A.DumpStream.came c.args.first.now)
            (g.A.DumpStream.whole c.args.first.now) head some.one) (sym taken.first) (some.between).first;
        second = taken.ahead some.other ahead;
        merged = taken.merged some.one some.other ahead (some.between).merged;
      };
      many = let more = one_more some.other c.args.self.now.second.step ((ahead.there side.0).extends).dump_is in
          omega (arith, some.many, more);
    }

pub returns-in_err-take_both-in-Some-Both-clause-failed : goal.returns-in_err-take_both-in-Some-Both-clause-failed
returns-in_err-take_both-in-Some-Both-clause-failed g c count some =
    err_so c.from_residual-in_err-take_both-in-Some-Both.result c.in_err-take_both-in-Some-Both.field-0.0
    (OneFails (g.A.DumpStream.fails c.take_both.new.first) (g.B.DumpStream.fails c.take_both.new.second))
    c.from_residual-in_err-take_both-in-Some-Both.ensures.1 (c.in_err-take_both-in-Some-Both.ensures.failed count some)

pub returns-in_err-take_first-in-Some-First-clause-failed : goal.returns-in_err-take_first-in-Some-First-clause-failed
returns-in_err-take_first-in-Some-First-clause-failed g c count some =
    err_so c.from_residual.result c.in_err-take_first-in-Some-First.field-0.0
    (OneFails (g.A.DumpStream.fails c.take_first.new.first) (g.B.DumpStream.fails c.args.second.now))
    c.from_residual.ensures.1 (blamed (λ t cause is. is) (λ t cause no. absurd no)
    c.in_err-take_first-in-Some-First.field-0.0
    (c.in_err-take_first-in-Some-First.ensures.failed some.one (some.between).first))

pub returns-in_err-take_second-in-Some-Second-clause-failed :
    goal.returns-in_err-take_second-in-Some-Second-clause-failed
returns-in_err-take_second-in-Some-Second-clause-failed g c count some =
    err_so c.from_residual-in_err-take_second-in-Some-Second.result c.in_err-take_second-in-Some-Second.field-0.0
    (OneFails (g.A.DumpStream.fails c.args.first.now) (g.B.DumpStream.fails c.take_second.new.second))
    c.from_residual-in_err-take_second-in-Some-Second.ensures.1 (blamed (λ t cause no. absurd no) (λ t cause is. is)
    c.in_err-take_second-in-Some-Second.field-0.0
    (c.in_err-take_second-in-Some-Second.ensures.failed some.other (some.between).second))
