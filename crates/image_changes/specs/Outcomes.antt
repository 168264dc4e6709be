-- How a word ends, by what the store answers to its changes.
use Rattle.store_model.specs.declared.refusal.Refusal.{Refusal}
use Rattle.store_model.specs.declared.refusal.Refusal.TheVariants as refusals
use Rattle.store_model.specs.Paths.{Path}
use Rattle.script_lines.specs.declared.reply.Reply.{Reply}
use Rattle.script_lines.specs.declared.reply.Reply.TheVariants as replies
use Rattle.staged_tree.specs.declared.group.GroupAnswer.{GroupAnswer}
use Rattle.staged_tree.specs.declared.group.GroupAnswer.TheVariants as answers
use Rattle.image_changes.specs.declared.outcome.Outcome.{Outcome}
use Rattle.image_changes.specs.declared.outcome.Outcome.TheVariants as outcomes

-- a refusal at a path: `full` is none of a path
abbrev pub refused_at : Path → Refusal → Outcome
refused_at path (refusals.Full need slots) = outcomes.Full need slots
refused_at path reason = outcomes.Refused path reason

-- what a group answers, where a change at this path came last
abbrev pub outcome_of : Path → GroupAnswer → Outcome
outcome_of path answers.Done = outcomes.Done
outcome_of path (answers.Refused index reply) = refused_at path reply

-- the reason that an answer tells, and any where it tells none
abbrev pub reason_in : GroupAnswer → Refusal
reason_in answers.Done = refusals.Missing
reason_in (answers.Refused index reply) = reply

-- what a reply to a command at a path says
abbrev pub outcome_of_reply : Path → Reply → Outcome
outcome_of_reply path (replies.No reason) = refused_at path reason
outcome_of_reply path reply = outcomes.Done
