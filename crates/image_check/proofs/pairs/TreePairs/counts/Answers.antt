use Rattle.std.proofs.Common.{sym, subst, ◌∙◌}
use Rattle.std.proofs.lemmas.Bool.{false≢true}
use Rattle.std.specs.Bool.{MatchBool}
use Rattle.tree_pairs.specs.Seen.{HasSeen}
use Rattle.image_check.specs.TreePairs.{BeginNoTree}
use Rattle.image_check.proofs.Taken.{none_of_tree, counted_of}
use Rattle.image_check.proofs.pairs.TreePairs.counts.Goals.{then-self-via-then-self}
use Rattle.image_check.proofs.pairs.TreePairs.counts.Goals.{then-self-via-else-self+then-not-is_whole}
use Rattle.image_check.proofs.pairs.TreePairs.counts.Goals as goal

pub returns-then-self : goal.returns-then-self
returns-then-self c s p version took few are =
    elim c.then-self.branch [
      | then-self-via-then-self w ↦ none_of_tree s p
          (subst (λ b. MatchBool b (BeginNoTree s p) (HasSeen c.args.self.now.reader s p))
          w.if-self.true (took p version)) few are
      | then-self-via-else-self+then-not-is_whole w ↦
          let seen = subst (λ b. MatchBool b (BeginNoTree s p) (HasSeen c.args.self.now.reader s p))
          w.if-self.false (took p version) in
          false≢true (sym w.if-not-is_whole.true ∙ (w.is_whole.ensures s p seen).1 are)
    ]

pub returns : goal.returns
returns c s p version took few =
    let seen = subst (λ b. MatchBool b (BeginNoTree s p) (HasSeen c.args.self.now.reader s p))
    c.if-self.false (took p version) in
    counted_of c.args.self.now.reader s p c.is_whole.result c.counts.result c.is_whole.ensures c.counts.ensures seen
    c.if-not-is_whole.false
