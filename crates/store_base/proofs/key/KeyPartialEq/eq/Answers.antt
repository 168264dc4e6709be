use Rattle.std.proofs.Common.{sym, ap, ◌∙◌}
use Rattle.std.specs.Ordering.{is_eq}
use Rattle.std.specs.Cmp.Lexicographic.{bytes_decides}
use Rattle.std.proofs.lemmas.Map.Text.{is_eq-slice_cmp}
use Rattle.store_base.proofs.key.KeyPartialEq.eq.Goals as goal

pub returns-clause-value : goal.returns-clause-value
returns-clause-value c = c.is_eq.ensures ∙ ap is_eq c.cmp.ensures.value
    ∙ is_eq-slice_cmp c.args.self.now c.args.other.now

pub returns-clause-same : goal.returns-clause-same
returns-clause-same c =
    let value = c.is_eq.ensures ∙ ap is_eq c.cmp.ensures.value ∙ is_eq-slice_cmp c.args.self.now c.args.other.now in (
      (λ same. (bytes_decides c.args.self.now c.args.other.now).0 (sym value ∙ same)),
      (λ same. value ∙ (bytes_decides c.args.self.now c.args.other.now).1 same),
    )
