use Rattle.std.proofs.Common.{◌∷◌, ◌++◌, [], sym, subst, ◌∙◌}
use Rattle.std.specs.Bool.{MatchBool}
use Rattle.tree_pairs.specs.Seen.{HasSeen}
use Rattle.image_check.specs.TreePairs.{BeginNoTree}
use Rattle.image_check.proofs.Taken.{begin_none, took_more}
use Rattle.image_check.proofs.pairs.TreePairsTakesPairs.take.Goals as goal

pub returns-then-not-self-clause-took : goal.returns-then-not-self-clause-took
returns-then-not-self-clause-took c s took p version =
    let seen = subst (λ b. MatchBool b (BeginNoTree s p) (HasSeen c.args.self.now.reader s p))
    c.if-not-self.true (took p (version ∙ c.add.ensures.version)) in
    took_more c.args.self.now.reader c.add.new.self s
    (c.args.key.now, c.args.value.now) p c.add.result c.add.ensures seen

pub returns-else-not-self-clause-took : goal.returns-else-not-self-clause-took
returns-else-not-self-clause-took c s took p version =
    let more = s ++ (c.args.key.now, c.args.value.now) ∷ [] in
    let none = subst (λ b. MatchBool b (BeginNoTree s p) (HasSeen c.args.self.now.reader s p))
    c.if-not-self.false (took p version) in
    subst (λ b. MatchBool b (BeginNoTree more p) (HasSeen c.args.self.now.reader more p)) (sym c.if-not-self.false)
    (begin_none s (c.args.key.now, c.args.value.now) p none)
