use Rattle.std.proofs.Common.{sym, ap, ◌∙◌}
use Rattle.script_lines.specs.Generated.{next_state, command_of_draw, drawn_number, generated}
use Rattle.script_lines.proofs.Generating.{state_later}
use Rattle.script_lines.proofs.generator.Generator.next.Goals as goal

pub returns-clause-state : goal.returns-clause-state
returns-clause-state c number place here = c.next_state-self-inside.ensures ∙ ap next_state (c.self.view_is ∙ here)
    ∙ sym (state_later number place)

pub returns-clause-command : goal.returns-clause-command
unfolding generated
returns-clause-command c number place here = c.command_of_draw.ensures
    ∙ ap (λ x. command_of_draw (drawn_number x)) (returns-clause-state c number place here)
