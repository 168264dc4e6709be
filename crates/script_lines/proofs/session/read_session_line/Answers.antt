use Rattle.std.proofs.Common.{ℕ, List, ap, ◌∙◌, sym}
use Rattle.script_lines.specs.Sessions.{parse_session, call_of_fields, checked_call}
use Rattle.script_lines.proofs.SessionLemmas.{call_on_parts}
use Rattle.script_lines.proofs.session.read_session_line.Goals as goal

pub returns-in-One : goal.returns-in-One
unfolding parse_session
returns-in-One c = c.read_begin.ensures
    ∙ sym (ap (λ (parts : List (List ℕ)). checked_call (call_of_fields parts)) c.in-One.ensures.value)

pub returns-in-Two : goal.returns-in-Two
unfolding parse_session
returns-in-Two c = c.read_end.ensures
    ∙ sym (ap (λ (parts : List (List ℕ)). checked_call (call_of_fields parts)) c.in-Two.ensures.value)

pub returns-in-More : goal.returns-in-More
unfolding parse_session
returns-in-More c =
    c.read_on_command.ensures
    ∙ sym (ap checked_call (call_on_parts c.in-More.word.now c.in-More.number.now c.in-More.rest.now))
    ∙ sym (ap (λ (parts : List (List ℕ)). checked_call (call_of_fields parts)) c.in-More.ensures.value)
