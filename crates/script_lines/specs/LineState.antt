-- What a reader of lines means at one moment, and what it has answered from one moment to a later one.
use Rattle.std.specs.Prelude.{◌≡◌, ◌↔◌, IsOk, IfOk, ℕ, ◌+◌, ◌-◌, ◌<◌, ◌≤◌, Bool, true, false, IsTrue, List, [], ◌∷◌}
use Rattle.std.specs.Prelude.{◌++◌, length, take, drop, Result, Ok, Err}
use Rattle.store_model.specs.Scripts.{lines, line_limit}
use Rattle.script_lines.specs.Lines.{ended_lines}
use Rattle.store_base.specs.Counts.{raised}
use Rattle.script_lines.specs.SourceState.{SourceState, IsObservable}
use Rattle.script_lines.specs.declared.lines.Line.{Line}
use Rattle.script_lines.specs.declared.lines.Line.TheVariants as answers
use Rattle.script_lines.specs.declared.lines.LineFault.{LineFault}
use Rattle.script_lines.specs.declared.lines.LineFault.TheVariants as causes

-- A reader of lines at one moment.
pub record LineState (R : Type 0) : Type 0 where
  -- where its bytes come from
  pub source : R
  -- the bytes that were taken and are in no line that was answered
  pub held : List ℕ
  -- how many bytes were taken, and how many may be
  pub taken : ℕ
  pub limit : ℕ
  -- whether the source answered its end, after which nothing is taken
  pub is_ended : Bool
  -- whether no fault came
  pub is_live : Bool
  -- the line, where the last answer was a text
  pub text : List ℕ

-- what a call of a reader makes of its source's count of failed takes: a take that failed raises it by one, and every
-- other answer leaves it as it was
abbrev pub source_faults_after : {T : Type 0} → ℕ → Result T LineFault → ℕ
source_faults_after count (Ok value) = count
source_faults_after count (Err causes.Source) = raised count
source_faults_after count (Err causes.TooLong) = count

-- What a call does to any source: of its takes the last alone may fail, and that is what the call answers then.
pub record KeepsSource {T : Type 0} (old new : SourceState) (result : Result T LineFault) : Type 0 where
  pub observable : new.is_observable ≡ old.is_observable
  pub faults : new.faults ≡ source_faults_after old.faults result

-- How many bytes may still come: those that are held, and those that may be taken. It is what a loop over the lines
-- ends by.
abbrev pub unread : {R : Type 0} → LineState R → ℕ
unread reader = length reader.held + (reader.limit - reader.taken)

-- it falls where a line is answered, and does not rise at the end
abbrev pub Falls : {R : Type 0} → LineState R → LineState R → Line → Type 0
Falls old new answers.Text = unread new < unread old
Falls old new answers.Long = unread new < unread old
Falls old new answers.End = unread new ≤ unread old

-- What a call does to any reader: it is live where the call did not fail, ended where the answer is the end, and never
-- takes more than it may.
pub record EndsCall {R : Type 0} (old new : LineState R) (result : Result Line LineFault) : Type 0 where
  pub live : IsTrue new.is_live ↔ IsOk result
  pub limit : new.limit ≡ old.limit
  pub taken : old.taken ≤ new.taken
  pub in_limit : new.taken ≤ new.limit
  pub ended : result ≡ Ok answers.End → new.is_ended ≡ true
  pub too_long : result ≡ Err causes.TooLong → new.taken ≡ new.limit
  pub falls : IfOk result (Falls old new)

-- what the last answer shows
abbrev pub IsShown : Result Line LineFault → List ℕ → Type 0
IsShown (Ok answers.Text) text = (0 < length text) × (length text ≤ line_limit)
IsShown (Ok answers.Long) text = text ≡ []
IsShown (Ok answers.End) text = text ≡ []
IsShown (Err fault) text = text ≡ []

module _ {R : Type 0} (state : R → SourceState) where
  -- the bytes that are left in the source
  abbrev pub left : LineState R → List ℕ
  left reader = (state reader.source).left

  -- the bytes that are still to come: those that are held, and those that are left in the source
  abbrev pub to_come : LineState R → List ℕ
  to_come reader = reader.held ++ left reader

  -- the lines that end within the bytes held and the next so many bytes of the source
  abbrev pub ended_within : LineState R → ℕ → List (List ℕ)
  ended_within reader count = ended_lines (reader.held ++ take count (left reader))

  -- How many bytes were taken from one moment to a later one, of a source that tells its bytes.
  pub record Takes (old new : LineState R) : Type 0 where
    pub limit : new.limit ≡ old.limit
    pub taken : old.taken ≤ new.taken
    pub fits : new.taken - old.taken ≤ length (left old)
    pub left : left new ≡ drop (new.taken - old.taken) (left old)

  -- From one moment to a later one the reader answered these lines.
  pub record Answers (old new : LineState R) (texts : List (List ℕ)) : Type 0 where
    pub takes : Takes old new
    -- the lines that were to come are these and those that are still to come
    pub lines : lines (to_come old) ≡ texts ++ lines (to_come new)
    -- before the end of the source each of them is ended by an LF, however many bytes are looked at
    pub ended : new.is_ended ≡ false → (count : ℕ)
        → ended_within old ((new.taken - old.taken) + count) ≡ texts ++ ended_within new count
    pub goes_on : new.is_ended ≡ false → old.is_ended ≡ false

  -- A take failed, and no line was ended by the bytes taken: each one that was, was answered before.
  pub record FailsBetween (old new : LineState R) : Type 0 where
    pub takes : Takes old new
    pub before_end : old.is_ended ≡ false
    pub none : ended_within old (new.taken - old.taken) ≡ []

  -- One more byte came after as many as may be taken, and no line was ended by those.
  pub record PassesLimit (old new : LineState R) : Type 0 where
    pub limit : new.limit ≡ old.limit
    pub taken : new.taken ≡ old.limit
    pub within : old.taken ≤ old.limit
    pub longer : old.limit < old.taken + length (left old)
    pub left : left new ≡ drop ((old.limit - old.taken) + 1) (left old)
    pub before_end : old.is_ended ≡ false
    pub none : ended_within old (old.limit - old.taken) ≡ []

  -- what an answer means, where the source tells its bytes
  abbrev pub NextLine : LineState R → LineState R → Result Line LineFault → Type 0
  NextLine old new (Ok answers.Text) = Answers old new (new.text ∷ [])
  NextLine old new (Ok answers.Long) = (text : List ℕ) × (line_limit < length text) × Answers old new (text ∷ [])
  NextLine old new (Ok answers.End) = Answers old new [] × (to_come new ≡ [])
  NextLine old new (Err causes.Source) = FailsBetween old new
  NextLine old new (Err causes.TooLong) = PassesLimit old new

  -- So many bytes were taken behind those held, none only at the end.
  pub record Adds (old new : LineState R) (count : ℕ) : Type 0 where
    pub piece : List ℕ
    pub count_is : length piece ≡ count
    pub same : new ≡ record old { source = new.source; held = old.held ++ piece; taken = old.taken + count; text = [] }
    pub in_limit : old.taken + count ≤ old.limit
    pub moved : IsObservable (state old.source) → left old ≡ piece ++ left new
    pub at_end : IsObservable (state old.source) → count ≡ 0 → left old ≡ []

  -- One more byte came where as many were taken as may be.
  pub record Overflows (old new : LineState R) : Type 0 where
    pub full : old.taken ≡ old.limit
    pub same : new ≡ record old { source = new.source; is_live = false; text = [] }
    pub moved : IsObservable (state old.source) → (byte : ℕ) × (left old ≡ byte ∷ left new)

  -- A take failed.
  pub record Breaks (old new : LineState R) : Type 0 where
    pub same : new ≡ record old { source = new.source; is_live = false; text = [] }
    pub kept : IsObservable (state old.source) → left new ≡ left old

  -- what one take of a reader does
  abbrev pub Fills : LineState R → LineState R → Result ℕ LineFault → Type 0
  Fills old new (Ok count) = Adds old new count
  Fills old new (Err causes.Source) = Breaks old new
  Fills old new (Err causes.TooLong) = Overflows old new
