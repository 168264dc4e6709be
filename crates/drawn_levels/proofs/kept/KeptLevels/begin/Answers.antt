use Rattle.std.proofs.Common.{if◌then◌else◌, ◌++◌, ◌∷◌, [], sym, ap, ◌∙◌, refl}
use Rattle.drawn_levels.specs.declared.run.Run.{Run}
use Rattle.drawn_levels.proofs.RunLemmas.{next_of_begun}
use Rattle.drawn_levels.proofs.kept.KeptLevels.begin.Goals as goal

pub returns-clause-next : goal.returns-clause-next
returns-clause-next c = λ pushed.
    let runs = c.args.self.now.runs.items in
    let run : Run = record { first = c.new.result; at = c.len-2.result; count = 0 } in
    next_of_begun c.args.self.now (record { runs = c.push.new.self; levels = c.args.self.now.levels })
    c.args.key.now run (c.push.ensures.items
    ∙ ap (λ b. if b then runs ++ run ∷ [] else runs) (sym c.is_ok.ensures.value ∙ pushed)) c.as_bytes.ensures.valid
    (c.new.ensures.value ∙ c.as_bytes.ensures.value) refl
