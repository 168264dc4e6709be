use Rattle.std.proofs.Common.{Some, ap, sym, ◌∙◌}
use Rattle.std.specs.declared.cmp.Ordering.TheVariants.{Equal}
use Rattle.std.specs.Ordering.{is_eq}
use Rattle.std.proofs.lemmas.Option.{same_Some}
use Rattle.ordered_table.proofs.Searching.{looks_into, looks_told, is_equal}
use Rattle.ordered_table.proofs.search.holds.Goals as goal

pub returns-in_default-clause-call : goal.returns-in_default-clause-call
returns-in_default-clause-call g c =
    let s = looks_into (g.W.Draw.drawn c.args._draw.now) _ _ c.args.at c.args.label.now _
    c.in_ok-order.field-0 (g.met.W.Draw.lawful c.args._draw.now)
    c.requires.count c.requires.below c.in_ok-order.ensures.call c.to_bytes.ensures.value in
    looks_told _ _ _ _ _ _ _ s (λ e. cc) (λ e. absurd (c.in_default.not-Some Equal e))

pub returns-clause-call : goal.returns-clause-call
returns-clause-call g c =
    let s = looks_into (g.W.Draw.drawn c.args._draw.now) _ _ c.args.at c.args.label.now _
    c.in_ok-order.field-0 (g.met.W.Draw.lawful c.args._draw.now)
    c.requires.count c.requires.below c.in_ok-order.ensures.call c.to_bytes.ensures.value in
    looks_told _ _ _ _ _ _ _ s (λ e. c.in-Some.is ∙ ap Some (is_equal c.in-Some.order (sym c.is_eq.ensures ∙ e)))
    (λ e. c.is_eq.ensures ∙ ap is_eq (same_Some c.in-Some.order Equal (sym c.in-Some.is ∙ e)))
