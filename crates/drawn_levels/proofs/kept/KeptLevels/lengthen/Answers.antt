use Rattle.std.proofs.Common.{◌≡◌, ◌-◌, if◌then◌else◌, ◌++◌, ◌∷◌, [], length, slice_get, slice_set, Some, sym, ap, ◌∙◌}
use Rattle.std.proofs.Common.{refl, arith}
use Rattle.std.specs.Vec.{vec_len}
use Rattle.std.proofs.lemmas.Option.{slice_get_read}
use Rattle.drawn_levels.specs.declared.run.Run.{Run}
use Rattle.drawn_levels.proofs.RunLemmas.{lengthened}
use Rattle.drawn_levels.proofs.kept.KeptLevels.lengthen.Goals as goal

pub returns-in-Some : goal.returns-in-Some
returns-in-Some c = λ d key next is held.
    let runs = c.args.self.now.runs in
    let levels = c.args.self.now.levels.items in
    let run : Run = c.in-Some.run'.now in
    let long : vec_len runs ≡ length runs.items = runs.ok.0 in
    let many : vec_len c.args.self.now.levels ≡ length levels = c.args.self.now.levels.ok.0 in
    let at : vec_len runs - 1 ≡ length runs.items - 1 = ap (λ n. n - 1) long in
    let some = c.in-Some.ensures.variant.0 refl in
    let last : slice_get runs.items (vec_len runs - 1) ≡ Some run =
    slice_get_read runs.items (length runs.items) (vec_len runs - 1) run refl (omega (arith, long, some))
    c.in-Some.ensures.value in
    lengthened d c.args.self.now
    (record { runs = _; levels = c.push.new.self }) key c.args.level c.saturating_add-run.result run
    (c.push.ensures.items ∙ ap (λ b. if b then levels ++ c.args.level ∷ [] else levels) c.if-is_err.ensures.negation)
    (ap (λ n. slice_set runs.items n
    (record { first = run.first; at = run.at; count = c.saturating_add-run.result })) at)
    (ap (slice_get runs.items) (sym at) ∙ last)
    (λ ends. omega (arith, ends, many, c.saturating_add-run.ensures, c.requires)) next is held
