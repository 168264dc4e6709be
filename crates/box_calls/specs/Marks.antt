-- The lines of differences, and how they are put.
use Rattle.std.specs.Prelude.{◌≡◌, ℕ, Bool, List, [], ◌∷◌, ◌++◌, codes, if◌then◌else◌, Result, Ok, Err}
use Rattle.std.specs.List.{flat_map}
use Rattle.script_lines.specs.SinkState.{SinkState, IsObservable, PutsBytes}
use Rattle.dump_streams.specs.declared.taker.TakerFault.{TakerFault}
use Rattle.dump_streams.specs.declared.taker.TakerFault.TheVariants as takers
use Rattle.dump_diff.specs.declared.difference.Difference.{Difference}
use Rattle.dump_diff.specs.declared.difference.Mark.{Mark}
use Rattle.dump_diff.specs.declared.difference.Mark.TheVariants as marks
use Rattle.host_builder.specs.Builders.{faults_after}
use Rattle.box_words.specs.Shown.{shown_text}
use Rattle.box_words.specs.declared.status.Status.{Status}
use Rattle.box_words.specs.declared.status.Status.TheVariants as statuses
use Rattle.entry_lines.specs.Lines.{terminal_bytes}
use Rattle.box_calls.specs.declared.marks.MarkForm.{MarkForm}
use Rattle.box_calls.specs.declared.trouble.Trouble.{Trouble}
use Rattle.box_calls.specs.declared.trouble.Trouble.TheVariants as troubles
use Rattle.box_calls.specs.Endings.{Ends}

-- the letter of a mark, and a space
abbrev pub letter : Mark → List ℕ
letter marks.Removed = codes "D "
letter marks.Added = codes "A "
letter marks.Kind = codes "M "
letter marks.Bytes = codes "M "
letter marks.Attributes = codes "M "

-- bytes as they are shown, on a terminal or not
abbrev pub seen : Bool → List ℕ → List ℕ
seen is_visible bytes = if is_visible then terminal_bytes bytes else bytes

abbrev pub mark_end : MarkForm → List ℕ
mark_end form = if form.is_zero then 0 ∷ [] else 10 ∷ []

-- the line of a difference
unfoldable pub mark_text : MarkForm → Difference → List ℕ
mark_text form d = letter d.mark ++ seen form.is_visible (shown_text form.spelling d.path) ++ mark_end form

-- the lines of differences, one after another
abbrev pub marks_text : MarkForm → List Difference → List ℕ
marks_text form found = flat_map (mark_text form) found

-- Lines are put, one after another. After a fault a front of them was put: the sink failed, and no call before did, or
-- memory ran out.
pub record PutsLines (old new : SinkState) (text : List ℕ) (result : Result (Unit {0}) TakerFault) : Type 0 where
  pub observable : new.is_observable ≡ old.is_observable
  pub faults : new.faults ≡ faults_after old.faults result
  pub observed : IsObservable old → PutsBytes old new text result

-- the trouble where lines were not put
abbrev pub line_trouble : TakerFault → Trouble
line_trouble takers.Failed = troubles.Output
line_trouble takers.NoMemory = troubles.NoMemory

-- how a comparison ends that found these differences, where something was left out, or not
abbrev pub marks_status : Bool → List Difference → Status
marks_status is_part [] = if is_part then statuses.Differs else statuses.Done
marks_status is_part (d ∷ found) = statuses.Differs

-- and whose lines were put so
abbrev pub EndsMarks : Bool → List Difference → Result (Unit {0}) TakerFault → Status → SinkState → SinkState → Type 0
EndsMarks is_part found (Ok done) status old new = (status ≡ marks_status is_part found) × (new ≡ old)
EndsMarks is_part found (Err fault) status old new = Ends (Err (line_trouble fault)) status old new

-- The lines of differences go to the first sink; the second gets what is said. Or a trouble is said, and no line goes.
pub record PrintsMarks (form : MarkForm) (is_part : Bool) (found : List Difference) (old new say say_new : SinkState)
    (status : Status) : Type 0 where
  pub put : Result (Unit {0}) TakerFault
  pub lines : PutsLines old new (marks_text form found) put
  pub ends : EndsMarks is_part found put status say say_new

abbrev pub PrintsFound : MarkForm → Bool → Result (List Difference) Trouble → SinkState → SinkState → SinkState
    → SinkState → Status → Type 0
PrintsFound form is_part (Ok found) old new say say_new status =
    PrintsMarks form is_part found old new say say_new status
PrintsFound form is_part (Err trouble) old new say say_new status = (new ≡ old) × Ends (Err trouble) status say say_new
