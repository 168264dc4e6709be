-- What a session of the program keeps, as the machine has it.
use Rattle.script_lines.specs.Sessions.{question_of}
use Rattle.script_lines.specs.Replies.{reply_of}
use Rattle.session_core.specs.declared.notes.Note as declared
use Rattle.session_core.specs.Machine.{Note}

-- a question with its answer
abbrev pub note_of : declared.Note → Note
note_of note = (question_of note.question, reply_of note.reply)
