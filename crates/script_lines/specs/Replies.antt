-- The program's replies seen as those of the definitions, and what the parts of a listing do to a sink.
use Rattle.std.specs.Prelude.{◌≡◌, ℕ, ◌^◌, ◌<◌, List, [], ◌++◌, length, Result, Ok, Err, codes}
use Rattle.std.specs.Fmt.{decimal}
use Rattle.store_base.specs.Counts.{raised}
use Rattle.store_model.specs.declared.refusal.Refusal.{Refusal}
use Rattle.store_model.specs.declared.refusal.Refusal.TheVariants as refusals
use Rattle.store_model.specs.Commands as model
use Rattle.store_model.specs.Commands.Reply.{Acknowledged, Content, Listing, AttributeListing, PagesUsed, ImageDigest}
use Rattle.store_model.specs.Commands.Reply.{Refused}
use Rattle.script_lines.specs.declared.reply.Reply.{Reply}
use Rattle.script_lines.specs.declared.reply.Reply.TheVariants as declared
use Rattle.script_lines.specs.SinkState.{SinkState, IsObservable, AppendsPrefix}

-- the program's reply, as the definitions have it
abbrev pub reply_of : Reply → model.Reply
reply_of declared.Ok = Acknowledged
reply_of (declared.Bytes bytes) = Content bytes
reply_of (declared.Listing entries) = Listing entries
reply_of (declared.Attrs attributes) = AttributeListing attributes
reply_of (declared.Space used slots) = PagesUsed used slots
reply_of (declared.Digest digest) = ImageDigest digest
reply_of (declared.No refusal) = Refused refusal

-- it is a listing with an entry at least, which takes memory to keep
abbrev pub HasEntries : model.Reply → Type 0
HasEntries Acknowledged = ⊥
HasEntries (Content bytes) = ⊥
HasEntries (Listing children) = 0 < length children
HasEntries (AttributeListing attributes) = 0 < length attributes
HasEntries (PagesUsed used slots) = ⊥
HasEntries (ImageDigest digest) = ⊥
HasEntries (Refused refusal) = ⊥

-- what the text of a refusal has behind its word: of `full` two numbers, each behind a space, and of all others nothing
abbrev pub numbers_of : Refusal → List ℕ
numbers_of (refusals.Full need slots) = codes " " ++ decimal need ++ codes " " ++ decimal slots
numbers_of refusal = []

-- A part of the text was put out, from its front on.
pub record PutsPart (old new : SinkState) (before after : List ℕ) : Type 0 where
  pub part : List ℕ
  pub text : before ≡ part ++ after
  pub observable : new.is_observable ≡ old.is_observable
  pub faults : new.faults ≡ old.faults
  pub written : IsObservable old → new.written ≡ old.written ++ part

-- The text could not be put out, or a prefix of it alone.
pub record FailsPart (old new : SinkState) (text : List ℕ) : Type 0 where
  pub observable : new.is_observable ≡ old.is_observable
  pub faults : new.faults ≡ raised old.faults
  pub last_fault : new.faults < 2 ^ 64
  pub written : IsObservable old → AppendsPrefix old.written new.written text

-- what putting out the front of a text, to make room, does
abbrev pub MakesRoom : {T E : Type 0} → SinkState → SinkState → List ℕ → List ℕ → Result T E → Type 0
MakesRoom old new before after (Ok _) = PutsPart old new before after
MakesRoom old new before after (Err _) = FailsPart old new before
