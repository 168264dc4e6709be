-- What `attr` prints.
use Rattle.std.specs.Prelude.{◌≡◌, ◌⊎◌, ℕ, Bool, List, [], ◌∷◌, ◌++◌, if◌then◌else◌, Result, Ok, Err, IfOk, IfErr}
use Rattle.std.specs.Global.{Vec}
use Rattle.std.specs.List.{flat_map}
use Rattle.hex.specs.Hex.{encode_lower}
use Rattle.store_model.specs.Commands.{AttributeSize}
use Rattle.store_model.specs.Commands as model
use Rattle.store_model.specs.Commands.Reply.{Acknowledged, Content, Listing, AttributeListing, PagesUsed, ImageDigest}
use Rattle.store_model.specs.Commands.Reply.{Refused}
use Rattle.disk_model.specs.DiskState.{DiskState, IsObservable}
use Rattle.script_lines.specs.SinkState.{SinkState, IsPut}
use Rattle.script_lines.specs.declared.fault.SinkFault.{SinkFault}
use Rattle.script_lines.specs.declared.reply.Reply.{Reply}
use Rattle.script_lines.specs.declared.session.Question.{Question}
use Rattle.script_lines.specs.Replies.{reply_of}
use Rattle.recovered_store.specs.BelowDisks.{IsUntouched}
use Rattle.image_reads.specs.declared.fault.ReadFault.{ReadFault}
use Rattle.image_reads.specs.Reads.{IsUnread}
use Rattle.box_words.specs.declared.status.Status.{Status}
use Rattle.box_calls.specs.declared.trouble.Trouble.{Trouble}
use Rattle.box_calls.specs.declared.trouble.Trouble.TheVariants as troubles
use Rattle.box_calls.specs.declared.reason.Reason.TheVariants as reasons
use Rattle.box_calls.specs.Checks.{printed}
use Rattle.box_calls.specs.Endings.{Ends}
use Rattle.box_calls.specs.Readings.{read_trouble}
use Rattle.box_changes.specs.Asking.{IsAnswer}
use Rattle.box_changes.specs.Endings.{refusal_trouble}

-- the line of a name
abbrev pub name_line : AttributeSize → List ℕ
name_line a = a.0 ++ 10 ∷ []

abbrev pub name_lines : List AttributeSize → List ℕ
name_lines attributes = flat_map name_line attributes

-- bytes as they are printed: as digits, or as they are
abbrev pub value_text : Bool → List ℕ → List ℕ
value_text is_hex bytes = if is_hex then encode_lower bytes else bytes

-- What a reply has to print, or the trouble. A reply of another kind does not come.
abbrev pub text_of_reply : Bool → model.Reply → Result (List ℕ) Trouble
text_of_reply is_hex Acknowledged = Ok []
text_of_reply is_hex (Content bytes) = Ok (value_text is_hex bytes)
text_of_reply is_hex (Listing children) = Ok []
text_of_reply is_hex (AttributeListing attributes) = Ok (name_lines attributes)
text_of_reply is_hex (PagesUsed used slots) = Ok []
text_of_reply is_hex (ImageDigest digest) = Ok []
text_of_reply is_hex (Refused refusal) = Err (refusal_trouble reasons.Made refusal)

-- what an answer has to print, or the trouble
abbrev pub text_in : Bool → Result Reply ReadFault → Result (List ℕ) Trouble
text_in is_hex (Ok reply) = text_of_reply is_hex (reply_of reply)
text_in is_hex (Err fault) = Err (read_trouble fault)

-- this is the trouble that there is, or there was no memory for what is printed
abbrev pub IsTroubleOf : Result (List ℕ) Trouble → Trouble → Type 0
IsTroubleOf meant trouble = (meant ≡ Err trouble) ⊎ (trouble ≡ troubles.NoMemory)

-- this is what is printed, or the trouble
abbrev pub IsText : Result (List ℕ) Trouble → Result (List ℕ) Trouble → Type 0
IsText meant (Ok text) = meant ≡ Ok text
IsText meant (Err trouble) = IsTroubleOf meant trouble

-- what was found to print
abbrev pub told_of : Result (Vec ℕ) Trouble → Result (List ℕ) Trouble
told_of (Ok text) = Ok text.items
told_of (Err trouble) = Err trouble

-- A text goes to the first sink, to its last byte; the second gets what is said.
pub record PutsText (text : List ℕ) (old new say say_new : SinkState) (status : Status) : Type 0 where
  -- how it was put, the first sink then, and how its last bytes were put
  pub put : Result (Unit {0}) SinkFault
  pub between : SinkState
  pub flushed : Result (Unit {0}) SinkFault
  pub puts : IsPut old between text put
  pub flushes : IsPut between new [] flushed
  pub ends : Ends (printed (Ok tt) put flushed) status say say_new

-- and for a trouble nothing goes there
abbrev pub PutsFound : Result (List ℕ) Trouble → SinkState → SinkState → SinkState → SinkState → Status → Type 0
PutsFound (Ok text) old new say say_new status = PutsText text old new say say_new status
PutsFound (Err trouble) old new say say_new status = (new ≡ old) × Ends (Err trouble) status say say_new

-- What a question has for an answer on the tree of a disk's image goes to the first sink, as a text; the
-- second gets what is said. The disk is only read.
pub record TellsImage (is_hex : Bool) (question : Question) (disk disk_new : DiskState)
    (old new say say_new : SinkState) (status : Status) : Type 0 where
  pub found : Result Reply ReadFault
  pub text : Result (List ℕ) Trouble
  pub answers : IsObservable disk → IfOk found (λ reply. IsAnswer disk question (reply_of reply))
  pub unread : IfErr found (IsUnread disk disk_new)
  pub untouched : IsObservable disk → IsUntouched disk disk_new
  pub is_text : IsText (text_in is_hex found) text
  pub puts : PutsFound text old new say say_new status
