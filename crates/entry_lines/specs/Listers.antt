-- What a lister does with the steps of a dump.
use Rattle.std.specs.Prelude.{◌≡◌, List, ℕ, [], ◌++◌, fold, Option, Some, None, Result, Err, OnOk}
use Rattle.std.specs.List.{flat_map}
use Rattle.store_model.specs.Paths.{Path}
use Rattle.script_lines.specs.SinkState.{SinkState, IsObservable}
use Rattle.dump_streams.specs.Dumps.{DumpStep}
use Rattle.dump_streams.specs.declared.taker.TakerFault.{TakerFault}
use Rattle.dump_views.specs.Contents.{standing_by, standing_after}
use Rattle.host_builder.specs.Builders.{faults_after}
use Rattle.entry_lines.specs.declared.form.ListForm.{ListForm}
use Rattle.entry_lines.specs.declared.entry.EntryFacts.{EntryFacts}
use Rattle.entry_lines.specs.declared.lister.EntryLister.{EntryLister}
use Rattle.entry_lines.specs.Entries.{tell, told_from}
use Rattle.entry_lines.specs.Lines.{entry_text}

-- the lines of these entries that are listed
abbrev pub entries_text : ListForm → Path → List EntryFacts → List ℕ
entries_text form top entries = flat_map (entry_text form top) entries

-- the line of the last entry, where there is one that is listed
abbrev pub last_text : ListForm → Path → Option EntryFacts → List ℕ
last_text form top None = []
last_text form top (Some f) = entry_text form top f

-- A text was put into a sink. After a fault a prefix of it was, or nothing; want of memory is no fault of the sink.
pub record PutsText {T : Type 0} (old new : SinkState) (text : List ℕ) (result : Result T TakerFault) : Type 0 where
  pub observable : new.is_observable ≡ old.is_observable
  pub faults : new.faults ≡ faults_after old.faults result
  pub written : IsObservable old → OnOk result (new.written ≡ old.written ++ text)

module _ {W : Type 0} (sink_of : W → SinkState) where
  -- an entry was begun, and the line of the one before it was put
  pub record Begins (old new : EntryLister W) (facts : EntryFacts) (result : Result (Unit {0}) TakerFault)
      : Type 0 where
    pub form : new.form ≡ old.form
    pub top : new.top ≡ old.top
    pub standing : new.standing ≡ old.standing
    pub last : OnOk result (new.last ≡ Some facts)
    pub puts : PutsText (sink_of old.sink) (sink_of new.sink) (last_text old.form old.top old.last) result

  -- a step was taken, and the line of the entry was put that is complete by it
  pub record TakesStep (old new : EntryLister W) (s : DumpStep) (result : Result (Unit {0}) TakerFault)
      : Type 0 where
    pub form : new.form ≡ old.form
    pub top : new.top ≡ old.top
    pub standing : new.standing ≡ standing_by old.top old.standing s
    pub last : OnOk result (new.last ≡ (tell (told_from old.last) s).last)
    pub puts : PutsText (sink_of old.sink) (sink_of new.sink)
        (entries_text old.form old.top (tell (told_from old.last) s).whole) result

  -- From the first moment to the second the lines of the entries were put that are complete by these steps, and
  -- nothing else.
  pub record TookSteps (first now : EntryLister W) (steps : List DumpStep) : Type 0 where
    pub form : now.form ≡ first.form
    pub top : now.top ≡ first.top
    pub standing : now.standing ≡ standing_after first.top first.standing steps
    pub last : now.last ≡ (fold tell (told_from first.last) steps).last
    pub observable : (sink_of now.sink).is_observable ≡ (sink_of first.sink).is_observable
    pub faults : (sink_of now.sink).faults ≡ (sink_of first.sink).faults
    pub written : IsObservable (sink_of first.sink)
        → (sink_of now.sink).written ≡ (sink_of first.sink).written
        ++ entries_text first.form first.top (fold tell (told_from first.last) steps).whole

  -- a step was not taken: the sink failed, or memory ran out
  pub record BreaksStep (old new : EntryLister W) (s : DumpStep) (fault : TakerFault) : Type 0 where
    pub faults : (sink_of new.sink).faults ≡ faults_after {T = Unit {0}} (sink_of old.sink).faults (Err fault)
