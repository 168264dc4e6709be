-- The lines of a session, and what it answers, with the text of that.
use Rattle.std.specs.Prelude.{ℕ, List, [], ◌∷◌, ◌++◌, Bool, true, false, not, ◌&&◌, Option, Some, None, Result, Ok, Err}
use Rattle.std.specs.Prelude.{nat_eq, if◌then◌else◌, codes}
use Rattle.std.specs.Fmt.{decimal}
use Rattle.std.specs.Option.{option_eq}
use Rattle.std.specs.Cmp.Lexicographic.{pointwise}
use Rattle.store_model.specs.declared.refusal.Refusal.{Refusal}
use Rattle.store_model.specs.declared.refusal.Refusal.TheVariants as refusals
use Rattle.store_model.specs.Lists.{same_bytes}
use Rattle.store_model.specs.Grammar.{number_of, command_of_fields, has_short_paths, on_word, ◌>>=◌}
use Rattle.store_model.specs.Commands.{Command, Reply, Child, AttributeSize, line, reply_text, refusal_text}
use Rattle.store_model.specs.Commands.Command.{Make, Write, Cut, Rename, Remove, Prune, ListChildren, Read, Space}
use Rattle.store_model.specs.Commands.Command.{Digest, SetAttribute, UnsetAttribute, GetAttribute, ListAttributes}
use Rattle.store_model.specs.Commands.Reply.{Acknowledged, Content, Listing, AttributeListing, PagesUsed, ImageDigest}
use Rattle.store_model.specs.Commands.Reply.{Refused}
use Rattle.script_lines.specs.Parsing.{parts_of}
use Rattle.script_lines.specs.declared.session.Question.{Question}
use Rattle.script_lines.specs.declared.session.Question.TheVariants as questions
use Rattle.script_lines.specs.declared.session.Change.{Change}
use Rattle.script_lines.specs.declared.session.Change.TheVariants as changes
use Rattle.script_lines.specs.declared.session.SessionLine.{SessionLine}
use Rattle.script_lines.specs.declared.session.SessionLine.TheVariants as session_lines
use Rattle.script_lines.specs.declared.session_reply.SessionReply.{SessionReply}
use Rattle.script_lines.specs.declared.session_reply.SessionReply.TheVariants as session_replies
use Rattle.script_lines.specs.Replies.{reply_of}

-- ---- questions and changes

-- whether a command may change the tree
abbrev pub is_change : Command → Bool
is_change (Make p) = true
is_change (Write p at bytes) = true
is_change (Cut p len) = true
is_change (Rename p q) = true
is_change (Remove p) = true
is_change (Prune p) = true
is_change (ListChildren p) = false
is_change (Read p at len) = false
is_change Space = false
is_change Digest = false
is_change (SetAttribute p a bytes) = true
is_change (UnsetAttribute p a) = true
is_change (GetAttribute p a) = false
is_change (ListAttributes p) = false

-- whether it asks, and leaves every tree as it is
abbrev pub is_question : Command → Bool
is_question c = not (is_change c)

-- the program's questions and changes, as the commands that they are in the definitions
abbrev pub question_of : Question → Command
question_of (questions.List p) = ListChildren p
question_of (questions.Read p at len) = Read p at len
question_of questions.Space = Space
question_of questions.Digest = Digest
question_of (questions.Get p name) = GetAttribute p name
question_of (questions.Attrs p) = ListAttributes p

abbrev pub change_of : Change → Command
change_of (changes.Make p) = Make p
change_of (changes.Write p at bytes) = Write p at bytes
change_of (changes.Cut p len) = Cut p len
change_of (changes.Rename p q) = Rename p q
change_of (changes.Remove p) = Remove p
change_of (changes.Prune p) = Prune p
change_of (changes.Set p name bytes) = SetAttribute p name bytes
change_of (changes.Unset p name) = UnsetAttribute p name

-- ---- lines

-- What a line of a session asks for. A session is named by its number.
pub data SessionCall : Type 0 where
  Begin : SessionCall
  Ask : ℕ → Command → SessionCall
  Stage : ℕ → Command → SessionCall
  Commit : ℕ → SessionCall
  Leave : ℕ → SessionCall

-- the command that fields spell, where it is of the wanted kind
abbrev pub command_that : (Command → Bool) → List (List ℕ) → Option Command
command_that wanted fields = command_of_fields fields >>= λ c. if wanted c then Some c else None

-- the call that the fields of a line spell: a word, and but for `begin` the number of a session and perhaps a command
unfoldable pub call_of_fields : List (List ℕ) → Option SessionCall
call_of_fields (w ∷ []) = on_word w (codes "begin") (Some Begin) None
call_of_fields (w ∷ s ∷ []) =
    on_word w (codes "commit") (number_of s >>= λ n. Some (Commit n))
    (on_word w (codes "drop") (number_of s >>= λ n. Some (Leave n)) None)
call_of_fields (w ∷ s ∷ a ∷ fields) =
    on_word w (codes "ask") (number_of s >>= λ n. command_that is_question (a ∷ fields) >>= λ c. Some (Ask n c))
    (on_word w (codes "stage") (number_of s >>= λ n. command_that is_change (a ∷ fields) >>=
    λ c. Some (Stage n c)) None)
call_of_fields [] = None

-- whether each path in it fits the field of a key
unfoldable pub call_has_short_paths : SessionCall → Bool
call_has_short_paths Begin = true
call_has_short_paths (Ask n c) = has_short_paths c
call_has_short_paths (Stage n c) = has_short_paths c
call_has_short_paths (Commit n) = true
call_has_short_paths (Leave n) = true

-- the call of a line that spells one, with paths that keys can hold; else the refusal `syntax` or `path`
abbrev pub checked_call : Option SessionCall → Result SessionCall Refusal
checked_call None = Err refusals.Syntax
checked_call (Some call) = if call_has_short_paths call then Ok call else Err refusals.Path

unfoldable pub parse_session : List ℕ → Result SessionCall Refusal
parse_session text = checked_call (call_of_fields (parts_of text))

-- the program's line, as the definitions have it
abbrev pub call_of : SessionLine → SessionCall
call_of session_lines.Begin = Begin
call_of (session_lines.Ask n question) = Ask n (question_of question)
call_of (session_lines.Stage n change) = Stage n (change_of change)
call_of (session_lines.Commit n) = Commit n
call_of (session_lines.Leave n) = Leave n

-- what the program read, as the definitions have it
abbrev pub session_reading_of : Result SessionLine Refusal → Result SessionCall Refusal
session_reading_of (Ok read) = Ok (call_of read)
session_reading_of (Err refusal) = Err refusal

-- ---- answers

-- What a session answers.
pub data SessionAnswer : Type 0 where
  -- a session began, under this number
  Began : ℕ → SessionAnswer
  -- the reply to a question
  Replied : Reply → SessionAnswer
  -- a change was staged, a group committed, or a session dropped
  Done : SessionAnswer
  -- the question with this number was answered so, and is answered so now
  Conflicting : ℕ → Reply → Reply → SessionAnswer
  -- the change with this number is refused, and why
  RefusedAt : ℕ → Refusal → SessionAnswer
  -- no session has the number
  NoSession : SessionAnswer
  -- as many sessions are live as may be
  Crowded : SessionAnswer
  -- the session has as many questions, or changes, as it may have
  Many : SessionAnswer
  -- the line asks for nothing, and why
  NotRead : Refusal → SessionAnswer

-- the bytes of an answer, each of its lines ended by LF
unfoldable pub session_text : SessionAnswer → List ℕ
session_text (Began n) = line (codes "ok " ++ decimal n)
session_text (Replied reply) = reply_text reply
session_text Done = line (codes "ok")
session_text (Conflicting k was now) = line (codes "conflict " ++ decimal k) ++ reply_text was ++ reply_text now
session_text (RefusedAt k refusal) = line (codes "refused " ++ decimal k ++ codes " " ++ refusal_text refusal)
session_text NoSession = line (codes "no session")
session_text Crowded = line (codes "no crowded")
session_text Many = line (codes "no many")
session_text (NotRead refusal) = line (codes "no " ++ refusal_text refusal)

-- the program's answer, as the definitions have it
abbrev pub session_answer_of : SessionReply → SessionAnswer
session_answer_of (session_replies.Began n) = Began n
session_answer_of (session_replies.Answer reply) = Replied (reply_of reply)
session_answer_of session_replies.Done = Done
session_answer_of (session_replies.Conflict k was now) = Conflicting k (reply_of was) (reply_of now)
session_answer_of (session_replies.Refused k refusal) = RefusedAt k refusal
session_answer_of session_replies.NoSession = NoSession
session_answer_of session_replies.Crowded = Crowded
session_answer_of session_replies.Many = Many
session_answer_of (session_replies.NotRead refusal) = NotRead refusal

-- ---- whether two replies are one

-- a number for each refusal, and behind that of `full` its two numbers
abbrev pub refusal_code : Refusal → List ℕ
refusal_code refusals.Long = 0 ∷ []
refusal_code refusals.Syntax = 1 ∷ []
refusal_code refusals.Path = 2 ∷ []
refusal_code refusals.Root = 3 ∷ []
refusal_code refusals.Parent = 4 ∷ []
refusal_code refusals.Exists = 5 ∷ []
refusal_code refusals.Missing = 6 ∷ []
refusal_code refusals.Inside = 7 ∷ []
refusal_code refusals.Kind = 8 ∷ []
refusal_code refusals.Gap = 9 ∷ []
refusal_code refusals.Big = 10 ∷ []
refusal_code refusals.NotEmpty = 11 ∷ []
refusal_code refusals.Version = 12 ∷ []
refusal_code refusals.NoAttr = 13 ∷ []
refusal_code (refusals.Full need slots) = 14 ∷ need ∷ slots ∷ []

abbrev pub same_refusal : Refusal → Refusal → Bool
same_refusal one other = same_bytes (refusal_code one) (refusal_code other)

-- the same name, and the same size or none
abbrev pub same_child : Child → Child → Bool
same_child one other = same_bytes one.0 other.0 && option_eq nat_eq one.1 other.1

abbrev pub same_attribute : AttributeSize → AttributeSize → Bool
same_attribute one other = same_bytes one.0 other.0 && nat_eq one.1 other.1

-- whether they are of one kind, with the same in it
unfoldable pub same_reply : Reply → Reply → Bool
same_reply Acknowledged Acknowledged = true
same_reply (Content one) (Content other) = same_bytes one other
same_reply (Listing one) (Listing other) = pointwise same_child one other
same_reply (AttributeListing one) (AttributeListing other) = pointwise same_attribute one other
same_reply (PagesUsed used slots) (PagesUsed other_used other_slots) =
    nat_eq used other_used && nat_eq slots other_slots
same_reply (ImageDigest one) (ImageDigest other) = same_bytes one other
same_reply (Refused one) (Refused other) = same_refusal one other
same_reply one other = false
