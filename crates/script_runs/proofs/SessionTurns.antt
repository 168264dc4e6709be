-- What is known between two lines of a session, and what each way out of the loop over them leaves.
use Rattle.std.proofs.Common.{◌≡◌, ℕ, ◌+◌, ◌≤◌, true, List, [], ◌∷◌, ◌++◌, length, take, drop, Some, None, Result, Ok}
use Rattle.std.proofs.Common.{Err, refl, sym, ap, subst, ◌∙◌, arith}
use Rattle.store_model.specs.declared.refusal.Refusal.{Refusal}
use Rattle.store_model.specs.Parameters.{Parameters}
use Rattle.store_model.specs.Trees.{Tree}
use Rattle.store_model.specs.Scripts.{lines}
use Rattle.disk_model.specs.DiskState.{DiskState, IsSound}
use Rattle.disk_model.specs.DiskState as disks
use Rattle.script_lines.specs.SourceState.{SourceState}
use Rattle.script_lines.specs.SourceState as sources
use Rattle.script_lines.specs.SinkState.{SinkState, IsPut}
use Rattle.script_lines.specs.LineState.{LineState, left, to_come, unread, Answers}
use Rattle.script_lines.specs.Sessions.{SessionCall, SessionAnswer, session_text, session_reading_of, session_answer_of}
use Rattle.script_lines.specs.declared.lines.LineFault.{LineFault}
use Rattle.script_lines.specs.declared.session.SessionLine.{SessionLine}
use Rattle.script_lines.specs.declared.session_reply.SessionReply.{SessionReply}
use Rattle.image_check.specs.declared.fault.ApplyFault.{ApplyFault}
use Rattle.session_core.specs.Machine.{Machine, Places, no_places, turn}
use Rattle.session_core.specs.SessionState.{SessionsState}
use Rattle.image_subcommands.specs.declared.status.Status.{Status}
use Rattle.image_subcommands.specs.declared.status.Status.TheVariants as statuses
use Rattle.image_subcommands.specs.Endings.{line_status, apply_status}
use Rattle.image_subcommands.specs.Statuses.{Subcommand as words}
use Rattle.script_runs.specs.declared.script.Answering.TheVariants as answering
use Rattle.script_runs.specs.Runs.{ReadsLine, IsReady, IsUnread}
use Rattle.script_runs.specs.ScriptLines.{LinesKept, AnswersLines}
use Rattle.script_runs.specs.SessionRuns.{answer_call, answer_session_line, session_reading, session_texts}
use Rattle.script_runs.specs.SessionRuns.{session_machines, session_trees}
use Rattle.script_runs.specs.SessionWork.{IsCallIn, AnswersReadCall, AnswersSessionLine}
use Rattle.script_runs.specs.Turns.{StoreSoFar, StoreEnds}
use Rattle.script_runs.proofs.CallTurns.{machine_of, call_taken, call_failed}
use Rattle.script_runs.proofs.AnswerLemmas.{no_line_read, no_call, length-session_texts, machine_next, answer_text_next}
use Rattle.script_runs.proofs.LineTurns as turns
use Rattle.script_runs.proofs.ScriptTurns.{line_spares}
use Rattle.script_runs.proofs.StoreTurns.{store_start, store_still, store_more, store_failed, store_ends}

-- A line was answered so, as it was read: the store, the answer and the sessions are those of the machine.
record TakesLine {D : Type 0} (disk_of : D → DiskState) (Told : Type 0) (trees : ℕ → Tree)
    (first old new : SessionsState D) (done : ℕ) (asked : Result SessionCall Refusal)
    (answer : SessionAnswer) : Type 0 where
  pub store : StoreSoFar disk_of Told trees first.store new.store (done + 1)
  pub answer_is : disks.IsObservable (disk_of old.store.disk)
      → answer ≡ (answer_call old.store.params (machine_of old) asked).0
  pub places : disks.IsObservable (disk_of old.store.disk)
      → new.places ≡ (answer_call old.store.params (machine_of old) asked).1.places

module _ {D : Type 0} {disk_of : D → DiskState} {Told : Type 0} {trees : ℕ → Tree}
    (sound : (disk : D) → disks.IsObservable (disk_of disk) → IsSound (disk_of disk))
    (first now : SessionsState D) {done : ℕ} (so_far : StoreSoFar disk_of Told trees first.store now.store done)
    (next : SessionsState D) where
  line_taken : (asked : Result SessionCall Refusal)
      → (Told → disks.IsObservable (disk_of first.store.disk)
      → trees (done + 1) ≡ (answer_call now.store.params (machine_of now) asked).1.tree)
      → (reply : SessionReply) → AnswersReadCall disk_of asked now next (Ok reply)
      → TakesLine disk_of Told trees first now next done asked (session_answer_of reply)
  line_taken (Ok call) after reply answers =
      let taken = call_taken disk_of call now next so_far.runs reply answers in
      record {
        store = store_more so_far sound after taken.moves;
        answer_is = taken.answer_is;
        places = taken.places;
      }
  line_taken (Err refusal) after reply refused = record {
    store = subst (λ (s : SessionsState D). StoreSoFar disk_of Told trees first.store s.store (done + 1))
        (sym refused.same) (store_still so_far after);
    answer_is = λ o. refused.reply;
    places = λ o. ap (λ (s : SessionsState D). s.places) refused.same;
  }

  line_failed : (asked : Result SessionCall Refusal)
      → (Told → disks.IsObservable (disk_of first.store.disk)
      → trees (done + 1) ≡ (answer_call now.store.params (machine_of now) asked).1.tree)
      → (fault : ApplyFault) → AnswersReadCall disk_of asked now next (Err fault)
      → StoreEnds disk_of Told trees (apply_status fault) done first.store next.store
  line_failed (Ok call) after fault answers =
      store_failed so_far sound after fault (call_failed disk_of call now next so_far.runs fault answers)
  line_failed (Err refusal) after fault refused = absurd refused.reply

-- What is known between two lines.
pub record SessionsSoFar {D R W : Type 0} (disk_of : D → DiskState) (source_of : R → SourceState)
    (sink_of : W → SinkState) (first now : SessionsState D) (reader reader_now : LineState R) (sink sink_now : W)
    (done : ℕ) : Type 0 where
  pub lines : LinesKept source_of sink_of (session_texts first.store.tree (left source_of reader) first.store.params)
      (disks.IsObservable (disk_of first.store.disk)) reader reader_now sink sink_now done
  pub store : StoreSoFar disk_of (sources.IsObservable (source_of reader.source))
      (session_trees first.store.tree (left source_of reader) first.store.params) first.store now.store done
  pub places : sources.IsObservable (source_of reader.source) → disks.IsObservable (disk_of first.store.disk)
      → now.places ≡ (session_machines first.store.tree (left source_of reader) first.store.params done).places
  pub live : reader_now.is_live ≡ true
  pub low : done + unread reader_now ≤ unread reader

module _ {D R W : Type 0} {disk_of : D → DiskState} {source_of : R → SourceState} {sink_of : W → SinkState}
    (sound : (disk : D) → disks.IsObservable (disk_of disk) → IsSound (disk_of disk))
    {first : SessionsState D} {reader : LineState R} {sink : W} where
  -- before the first line
  pub sessions_start : IsReady disk_of first.store → first.places ≡ no_places → IsUnread reader
      → SessionsSoFar disk_of source_of sink_of first first reader reader sink sink 0
  sessions_start ready begins new = record {
    lines = turns.lines_start new;
    store = store_start sound ready (no_call first.store.tree (left source_of reader) first.store.params);
    places = λ told o. begins ∙ sym (ap (λ (m : Machine). m.places)
        (no_line_read first.store.tree (left source_of reader) first.store.params));
    live = new.live;
    low = omega arith;
  }

  module _ {now : SessionsState D} {reader_now : LineState R} {sink_now : W} {done : ℕ}
      (before : SessionsSoFar disk_of source_of sink_of first now reader reader_now sink sink_now done) where
    -- what the source has to tell, and the disk
    abbrev Told : Type 0
    Told = sources.IsObservable (source_of reader.source)

    abbrev Tells : Type 0
    Tells = disks.IsObservable (disk_of first.store.disk)

    -- the machines of the script with their trees, and the texts of its answers
    abbrev machines : ℕ → Machine
    machines = session_machines first.store.tree (left source_of reader) first.store.params

    abbrev trees : ℕ → Tree
    trees = session_trees first.store.tree (left source_of reader) first.store.params

    abbrev texts : List (List ℕ)
    texts = session_texts first.store.tree (left source_of reader) first.store.params

    each : length texts ≡ length (lines (left source_of reader))
    each = length-session_texts first.store.tree (left source_of reader) first.store.params

    -- The lines ended so.
    abbrev EndSo : Status → ℕ → SessionsState D → LineState R → W → Type 0
    EndSo status done new reader_new sink_new =
        AnswersLines words.Session session_texts session_trees disk_of source_of sink_of status done
        first.store new.store reader reader_new sink sink_new

    module _ {next : LineState R} where
      -- the script is at its end
      pub at_end : ReadsLine source_of IsCallIn reader_now next (Ok None) → EndSo statuses.Done done now next sink_now
      at_end reads = record {
        work = turns.at_end answering.Calls each before.lines reads;
        store = store_ends before.store statuses.Done (λ e. cc);
      }

      -- a take failed, or the script is too long
      pub at_line_fault : (fault : LineFault) → ReadsLine source_of IsCallIn reader_now next (Err fault)
          → EndSo (line_status fault) done now next sink_now
      at_line_fault fault reads = record {
        work = turns.at_line_fault answering.Calls each before.lines fault reads;
        store = store_ends before.store (line_status fault) (line_spares fault);
      }

      -- a line was read, and answered
      module _ {asked : Result SessionLine Refusal}
          (reads : ReadsLine source_of IsCallIn reader_now next (Ok (Some asked))) (after : SessionsState D) where
        abbrev line : Told → (text : List ℕ) × IsCallIn asked text × Answers source_of reader_now next (text ∷ [])
        line told = turns.line answering.Calls each before.lines reads told

        -- the sessions are the machine, which answers the line
        answer_is : (told : Told) → Tells → answer_session_line first.store.params (machines done) (line told).0
            ≡ answer_call now.store.params (machine_of now) (session_reading_of asked)
        answer_is told o =
            ap (λ (p : Parameters). answer_call p (machines done) (session_reading (line told).0))
            (sym before.store.params)
            ∙ ap (λ (m : Machine). answer_call now.store.params m (session_reading (line told).0))
            (sym (ap (λ (t : Tree). record { tree = t; places = now.places }) (before.store.tree told o)
            ∙ ap (λ (ps : Places). record { tree = trees done; places = ps }) (before.places told o)))
            ∙ ap (answer_call now.store.params (machine_of now)) (sym (line told).1)

        split : (told : Told) → lines (left source_of reader) ≡ (before.lines.half told).read ++ (line told).0
            ∷ lines (to_come source_of next)
        split told = turns.split answering.Calls each before.lines reads told

        machine_after : Told → Tells → machines (done + 1)
            ≡ (answer_call now.store.params (machine_of now) (session_reading_of asked)).1
        machine_after told o =
            machine_next first.store.tree (left source_of reader) first.store.params (before.lines.half told).read done
            (before.lines.half told).count (line told).0 (lines (to_come source_of next)) (split told)
            ∙ ap (λ (a : SessionAnswer × Machine). a.1) (answer_is told o)

        tree_after : Told → Tells → trees (done + 1)
            ≡ (answer_call now.store.params (machine_of now) (session_reading_of asked)).1.tree
        tree_after told o = ap (λ (m : Machine). m.tree) (machine_after told o)

        -- a fault came in its answer
        pub at_fault : (fault : ApplyFault) → AnswersSessionLine disk_of asked now after (Err fault)
            → EndSo (apply_status fault) done after next sink_now
        at_fault fault answers = record {
          work = turns.at_fault answering.Calls each before.lines reads fault;
          store = line_failed sound first now before.store after (session_reading_of asked) tree_after fault answers;
        }

        -- it was answered
        module _ (reply : SessionReply) (answers : AnswersSessionLine disk_of asked now after (Ok reply)) where
          taken : TakesLine disk_of Told trees first now after done (session_reading_of asked) (session_answer_of reply)
          taken = line_taken sound first now before.store after (session_reading_of asked) tree_after reply answers

          text_is : Told → Tells → take 1 (drop done texts) ≡ session_text (session_answer_of reply) ∷ []
          text_is told o =
              answer_text_next first.store.tree (left source_of reader)
              first.store.params (before.lines.half told).read done
              (before.lines.half told).count (line told).0 (lines (to_come source_of next)) (split told)
              ∙ ap (λ (a : SessionAnswer × Machine). session_text a.0 ∷ []) (answer_is told o)
              ∙ ap (λ (a : SessionAnswer). session_text a ∷ [])
              (sym (taken.answer_is (before.store.kept.observable ∙ o)))

          -- and its answer was put out
          pub sessions_more : {T E : Type 0} {value : T} {sink_next : W}
              → IsPut {E = E} (sink_of sink_now) (sink_of sink_next) (session_text (session_answer_of reply)) (Ok value)
              → SessionsSoFar disk_of source_of sink_of first after reader next sink sink_next (done + 1)
          sessions_more put = record {
            lines = turns.line_more answering.Calls each before.lines reads text_is put;
            store = taken.store;
            places = λ told o. taken.places (before.store.kept.observable ∙ o)
                ∙ sym (ap (λ (m : Machine). m.places) (machine_after told o));
            live = reads.live.1 refl;
            low = omega (arith, before.low, reads.falls);
          }

          -- or a part of it
          pub at_put : {T E : Type 0} {fault : E} {sink_next : W}
              → IsPut {T = T} (sink_of sink_now) (sink_of sink_next)
              (session_text (session_answer_of reply)) (Err fault)
              → EndSo statuses.SinkFault (done + 1) after next sink_next
          at_put put = record {
            work = turns.line_cut_off answering.Calls each before.lines reads text_is put;
            store = store_ends taken.store statuses.SinkFault (λ e. cc);
          }
