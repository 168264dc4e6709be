-- What is known between two lines of a run, and what each call of its reader and its sink leaves.
use Rattle.std.proofs.Common.{◌≡◌, ℕ, ◌+◌, true, false, List, [], ◌∷◌, ◌++◌, length, take, drop, nat_lt, Option, Some}
use Rattle.std.proofs.Common.{None, Result, Ok, Err, IsTrue, refl, sym, ap, ◌∙◌, arith, if◌then◌else◌}
use Rattle.store_model.specs.declared.refusal.Refusal.{Refusal}
use Rattle.store_model.specs.declared.refusal.Refusal.TheVariants as refusals
use Rattle.store_model.specs.Parameters.{Parameters}
use Rattle.store_model.specs.Trees.{Tree}
use Rattle.store_model.specs.Commands as model
use Rattle.store_model.specs.Commands.{reply_text}
use Rattle.store_model.specs.Commands.Reply.{Refused}
use Rattle.store_model.specs.Steps.{Step}
use Rattle.store_model.specs.Grammar.{parse}
use Rattle.store_model.specs.Scripts.{lines, answer, answer_by, line_limit}
use Rattle.disk_model.specs.DiskState.{DiskState}
use Rattle.script_lines.specs.SourceState.{SourceState}
use Rattle.script_lines.specs.SinkState.{SinkState, IsPut}
use Rattle.script_lines.specs.LineState.{LineState, left, to_come, unread, Answers}
use Rattle.script_lines.specs.declared.lines.LineFault.{LineFault}
use Rattle.script_lines.specs.declared.lines.LineFault.TheVariants as causes
use Rattle.script_lines.specs.declared.command.Command.{Command}
use Rattle.script_lines.specs.declared.reply.Reply.{Reply}
use Rattle.script_lines.specs.Parsing.{reading_of}
use Rattle.script_lines.specs.Replies.{reply_of}
use Rattle.store_core.specs.StoreState.{StoreState}
use Rattle.script_runs.specs.declared.lines.Script.{Script}
use Rattle.script_runs.specs.declared.script.Answering.TheVariants as answering
use Rattle.image_subcommands.specs.declared.status.Status.{Status}
use Rattle.image_subcommands.specs.declared.status.Status.TheVariants as statuses
use Rattle.image_subcommands.specs.Endings.{line_status, ended_status}
use Rattle.image_subcommands.specs.Statuses.{Subcommand as words}
use Rattle.script_runs.specs.Runs.{reading, ReadsLine, IsAskedIn, IsUnread, run_texts, run_trees}
use Rattle.script_runs.specs.ScriptWork.{ScriptTold, ScriptLive, script_trees, script_texts, ScriptKept, ScriptDue}
use Rattle.script_runs.specs.ScriptWork.{ScriptEnds}
use Rattle.script_runs.specs.Turns.{Start, start_of, RepliesTo, Stops, Asks, IsNext, Begins, AnswersAll}
use Rattle.script_runs.proofs.LineTurns as turns
use Rattle.script_runs.proofs.AnswerLemmas.{no_line, length-run_texts, tree_next, text_next}

-- the answer to a line is that to what it asks for
answer_reading : (t : Tree) (text : List ℕ) (p : Parameters) → answer t text p ≡ answer_by t (reading text) p
unfolding answer reading
answer_reading t text p =
    let long : Step = record { reply = Refused refusals.Long; tree = t } in
    elim (nat_lt line_limit (length text)) as
    (λ b. (if b then long else answer_by t (parse text) p)
    ≡ answer_by t (if b then Err refusals.Long else parse text) p) [ true ↦ refl | false ↦ refl ]

-- a fault of the reader leaves lines unanswered, and is none of the disk
pub line_not_done : (fault : LineFault) → line_status fault ≡ statuses.Done → ⊥
line_not_done causes.Source e = cc
line_not_done causes.TooLong e = cc

pub line_spares : (fault : LineFault) → line_status fault ≡ statuses.DiskFault → ⊥
line_spares causes.Source e = cc
line_spares causes.TooLong e = cc

module _ {R W : Type 0} {source_of : R → SourceState} {sink_of : W → SinkState} (start : Start)
    (first : Script R W) {now : LineState R} {sink : W} {done : ℕ}
    (before : ScriptKept source_of sink_of start first (record { reader = now; sink = sink }) done) where
  -- the trees of its run, and a text for each of its lines
  abbrev trees : ℕ → Tree
  trees = script_trees source_of sink_of first start

  abbrev texts : List (List ℕ)
  texts = script_texts source_of sink_of first start

  each : length texts ≡ length (lines (left source_of first.reader))
  each = length-run_texts start.tree (left source_of first.reader) start.params

  module _ {next : LineState R} where
    -- a take failed, or the script is too long
    pub at_line_fault : (fault : LineFault) → ReadsLine source_of IsAskedIn now next (Err fault)
        → Stops (ScriptTold source_of sink_of) (script_trees source_of sink_of)
        (ScriptEnds source_of sink_of) start first (record { reader = next; sink = sink }) done (line_status fault)
    at_line_fault fault reads = record {
      ends = turns.at_line_fault answering.Commands each before fault reads;
      cut_short = line_not_done fault;
      disk_spared = line_spares fault;
    }

    -- a line was read
    module _ {asked : Result Command Refusal} (reads : ReadsLine source_of IsAskedIn now next (Ok (Some asked))) where
      -- its answer, as the definitions have it, and the tree after it
      module _ (o : ScriptTold source_of sink_of first) where
        abbrev line : (text : List ℕ) × (reading_of asked ≡ reading text) × Answers source_of now next (text ∷ [])
        line = turns.line answering.Commands each before reads o

        split : lines (left source_of first.reader) ≡ (before.half o).read ++ line.0 ∷ lines (to_come source_of next)
        split = turns.split answering.Commands each before reads o

        step_is : answer (trees done) line.0 start.params ≡ answer_by (trees done) (reading_of asked) start.params
        step_is = answer_reading (trees done) line.0 start.params
            ∙ ap (λ (m : Result model.Command Refusal). answer_by (trees done) m start.params) (sym line.1)

        tree_behind : trees (done + 1) ≡ (answer_by (trees done) (reading_of asked) start.params).tree
        tree_behind =
            tree_next start.tree (left source_of first.reader) start.params (before.half o).read done
            (before.half o).count line.0 (lines (to_come source_of next)) split
            ∙ ap (λ (s : Step). s.tree) step_is

        text_behind : take 1 (drop done texts)
            ≡ reply_text (answer_by (trees done) (reading_of asked) start.params).reply ∷ []
        text_behind =
            text_next start.tree (left source_of first.reader) start.params (before.half o).read done
            (before.half o).count line.0 (lines (to_come source_of next)) split
            ∙ ap (λ (s : Step). reply_text s.reply ∷ []) step_is

      asks : Asks (ScriptTold source_of sink_of) (script_trees source_of sink_of) (ScriptEnds source_of sink_of)
          (ScriptDue source_of sink_of) start first (record { reader = next; sink = sink }) done asked
      asks = record {
        after = λ o od. tree_behind o;
        due = record { before = now; kept = before; reads = reads };
        cut = turns.at_fault answering.Commands each before reads;
      }

      -- and its reply was put out, or a part of it
      module _ (reply : Reply) (replies : RepliesTo (ScriptTold source_of sink_of)
          (script_trees source_of sink_of) start first done asked reply) (sink_next : W) where
        text_is : ScriptTold source_of sink_of first → IsTrue start.tells
            → take 1 (drop done texts) ≡ reply_text (reply_of reply) ∷ []
        text_is o od = text_behind o ∙ ap (λ (r : model.Reply). reply_text r ∷ []) (sym (replies o od))

        pub line_more : {T E : Type 0} {value : T}
            → IsPut {E = E} (sink_of sink) (sink_of sink_next) (reply_text (reply_of reply)) (Ok value)
            → ScriptKept source_of sink_of start first (record { reader = next; sink = sink_next }) (done + 1)
        line_more put = turns.line_more answering.Commands each before reads text_is put

        pub line_cut_off : {T E : Type 0} {fault : E}
            → IsPut {T = T} (sink_of sink) (sink_of sink_next) (reply_text (reply_of reply)) (Err fault)
            → Stops (ScriptTold source_of sink_of) (script_trees source_of sink_of)
            (ScriptEnds source_of sink_of) start first (record { reader = next; sink = sink_next })
            (done + 1) statuses.SinkFault
        line_cut_off put = record {
          ends = turns.line_cut_off answering.Commands each before reads text_is put;
          cut_short = λ e. cc;
          disk_spared = λ e. cc;
        }

    -- what the reader answered
    pub script_next : (value : Option (Result Command Refusal)) → ReadsLine source_of IsAskedIn now next (Ok value)
        → IsNext (ScriptTold source_of sink_of) (script_trees source_of sink_of) (ScriptEnds source_of sink_of)
        (ScriptDue source_of sink_of) start first (record { reader = next; sink = sink }) done (Ok value)
    script_next None reads = turns.at_end answering.Commands each before reads
    script_next (Some asked) reads = asks reads

-- a new reader, for a store
pub script_begins : {D R W : Type 0} (disk_of : D → DiskState) (source_of : R → SourceState) (sink_of : W → SinkState)
    (store : StoreState D) (script : Script R W) → IsUnread script.reader
    → Begins disk_of (script_trees source_of sink_of) (λ work. unread work.reader) (ScriptLive source_of sink_of)
    (ScriptKept source_of sink_of) store script
script_begins disk_of source_of sink_of store script new = record {
  tree = no_line store.tree (left source_of script.reader) store.params;
  kept = turns.lines_start new;
  live = new.live;
  fits = omega (arith, ap length new.held, new.taken, new.limit);
}
