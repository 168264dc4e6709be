use Rattle.std.proofs.Common.{◌≡◌, ◌-◌, List, length, Some, sym, subst, ◌∙◌}
use Rattle.std.specs.List.{slice_get}
use Rattle.std.proofs.lemmas.Bool.{false≢true}
use Rattle.std.proofs.lemmas.Option.{same_Some}
use Rattle.dump_diff.specs.declared.difference.Difference.{Difference}
use Rattle.dump_diff.proofs.LastMark.{marked_last, unmarked}
use Rattle.dump_diff.proofs.differences.Differences.last_mark.Goals as goal

pub returns-then-eq : goal.returns-then-eq
returns-then-eq c rising =
    let last : slice_get c.args.self.now.paths.items (length c.args.self.now.paths.items - 1)
    ≡ Some c.in_ok-last.last.now =
    subst (λ (items : List Difference). slice_get items (length items - 1) ≡ Some c.in_ok-last.last.now)
    c.deref.ensures.value (sym c.in_ok-last.ensures.value) in
    marked_last c.args.self.now.paths.items c.in_ok-last.last.now c.args.path.now rising last
    (c.eq.ensures.same.0 c.if-eq.true)

pub returns-else-eq : goal.returns-else-eq
returns-else-eq c rising upto =
    let last : slice_get c.args.self.now.paths.items (length c.args.self.now.paths.items - 1)
    ≡ Some c.in_ok-last.last.now =
    subst (λ (items : List Difference). slice_get items (length items - 1) ≡ Some c.in_ok-last.last.now)
    c.deref.ensures.value (sym c.in_ok-last.ensures.value) in
    unmarked c.args.self.now.paths.items c.args.path.now rising upto
    (λ d e same.
    let one : c.in_ok-last.last.now ≡ d = same_Some _ _ (sym last ∙ e) in
    false≢true (sym c.if-eq.false
    ∙ c.eq.ensures.same.1 (subst (λ (x : Difference). x.path ≡ c.args.path.now) (sym one) same)))
