use Rattle.std.proofs.Common.{◌≡◌, arith, ap, ◌∙◌, subst}
use Rattle.dump_diff.specs.declared.heads.Head.{Head}
use Rattle.dump_diff.specs.declared.keeping.Keeping.{Keeping}
use Rattle.std.proofs.lemmas.Result.{IfOk-at_ok, on_ok_weaker}
use Rattle.dump_streams.specs.Dumps.{after_step}
use Rattle.dump_diff.specs.Keeping.{KeepsStep}
use Rattle.dump_diff.specs.Causes.{OneFails}
use Rattle.dump_diff.proofs.Causing.{one_more, blamed, err_so}
use Rattle.dump_diff.proofs.Merging.{on_ok_like, both_taken}
use Rattle.dump_diff.proofs.comparing.Merge.take_both.Goals as goal

pub returns-clause-between : goal.returns-clause-between
returns-clause-between g c count some =
    let one = c.args.self.now.first.step in
    let other = c.args.self.now.second.step in
    let between = some.between in
    let at = (between.first).there c.requires.first_there in
    let at' = (between.second).there c.requires.second_there in
    let behind = ((between.merged).first c.requires.first_there).behind in
    let judged = c.in_ok-judge.ensures.judged ((between.merged).shown).rising behind.marked in
    let kept : c.judge.new.self.kept ≡ c.args.self.now.kept = c.judge.ensures.kept in
    let same = c.keep.ensures.on ∙ ap (λ (k : Keeping). k.is_on) kept in
    let fetched = c.fetch.ensures.ahead (after_step some.one one) (at.extends).is_tree at.came_now in
    let later = IfOk-at_ok _ c.in_ok-map_err.was
    (on_ok_like _ c.fetch.result c.map_err.result c.map_err.ensures.variant fetched) in
    on_ok_like _ c.fetch-2.result c.map_err-2.result c.map_err-2.ensures.variant
    (on_ok_weaker c.fetch-2.result
    (λ later'. record {
      one = after_step some.one one;
      other = after_step some.other other;
      between = both_taken c.args.self.now c.fetch.new.self c.fetch-2.new.self c.judge.new.self.found c.keep.new.self
          some.one
          some.other between same
          (λ rising on. subst (λ (h : Head). KeepsStep c.judge.new.self.found h.step c.args.self.now.kept
          c.keep.new.self) c.judge.ensures.second
          (subst (λ (k : Keeping). KeepsStep c.judge.new.self.found c.judge.new.self.second.step k c.keep.new.self) kept
          (c.in_ok-keep.ensures.kept rising (ap (λ (k : Keeping). k.is_on) kept
          ∙ on)))) judged c.requires.first_there c.requires.second_there c.requires.tied later later';
      many =
          let more = one_more some.one one (at.extends).dump_is in
          let more' = one_more some.other other (at'.extends).dump_is in
          omega (arith, some.many, more, more');
    })
    (c.fetch-2.ensures.ahead (after_step some.other other) (at'.extends).is_tree at'.came_now))

pub returns-in_err-judge-clause-failed : goal.returns-in_err-judge-clause-failed
returns-in_err-judge-clause-failed g c count some =
    err_so c.from_residual.result c.in_err-judge.field-0.0
    (OneFails (g.A.DumpStream.fails c.args.first.now) (g.B.DumpStream.fails c.args.second.now))
    c.from_residual.ensures.1 (blamed (λ t cause no. absurd no) (λ t cause no. absurd no) c.in_err-judge.field-0.0
    c.in_err-judge.ensures.fault)
