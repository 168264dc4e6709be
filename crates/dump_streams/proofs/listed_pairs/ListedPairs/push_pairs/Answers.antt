use Rattle.std.proofs.Common.{sym, ap, subst, ◌∙◌}
use Rattle.dump_streams.specs.Listed.{TakesPairs}
use Rattle.dump_streams.specs.Steps.{step_of}
use Rattle.dump_streams.proofs.TakenPairs.{takes_directory, takes_name}
use Rattle.dump_streams.proofs.listed_pairs.ListedPairs.push_pairs.Goals as goal

pub returns-in-Make-clause-taken : goal.returns-in-Make-clause-taken
returns-in-Make-clause-taken c =
    subst (λ step. TakesPairs c.args.self.now c.push_first.new.self step c.push_first.result)
    (sym (ap step_of c.in-Make.is) ∙ c.parts.ensures.parts)
    (takes_directory _ _ _ _ _ _ c.drawn_by-draw.ensures.draw c.push_first.ensures.params c.push_first.ensures.first
    c.directory_value.ensures c.push_first.ensures.added)

pub returns-in-Set-clause-taken : goal.returns-in-Set-clause-taken
returns-in-Set-clause-taken c =
    subst (λ step. TakesPairs c.args.self.now c.push_attribute.new.self step c.push_attribute.result)
    (sym (ap step_of c.in-Set.is) ∙ c.parts.ensures.parts)
    (takes_name _ _ _ _ _ _ _ c.drawn_by-draw.ensures.draw c.push_attribute.ensures.params
    c.push_attribute.ensures.first c.push_attribute.ensures.added)
