-- Every change is a change, and every question is a question.
use Rattle.std.proofs.Common.{◌≡◌, true, refl}
use Rattle.script_lines.specs.declared.session.Question.{Question}
use Rattle.script_lines.specs.declared.session.Question.TheVariants as questions
use Rattle.script_lines.specs.declared.session.Change.{Change}
use Rattle.script_lines.specs.declared.session.Change.TheVariants as changes
use Rattle.script_lines.specs.Sessions.{is_change, is_question, change_of, question_of}

-- a change, as the command that it is, may change the tree
pub is_change-change_of : (change : Change) → is_change (change_of change) ≡ true
is_change-change_of (changes.Make p) = refl
is_change-change_of (changes.Write p at bytes) = refl
is_change-change_of (changes.Cut p len) = refl
is_change-change_of (changes.Rename p q) = refl
is_change-change_of (changes.Remove p) = refl
is_change-change_of (changes.Prune p) = refl
is_change-change_of (changes.Set p name bytes) = refl
is_change-change_of (changes.Unset p name) = refl

-- a question, as the command that it is, asks
pub is_question-question_of : (question : Question) → is_question (question_of question) ≡ true
is_question-question_of (questions.List p) = refl
is_question-question_of (questions.Read p at len) = refl
is_question-question_of questions.Space = refl
is_question-question_of questions.Digest = refl
is_question-question_of (questions.Get p name) = refl
is_question-question_of (questions.Attrs p) = refl
