-- Lemmas on what is asked one after another, whatever answers it: the texts of the answers and the states after them,
-- and so those of the lines of a run and of a session. And how a call may end that answers the lines of a script.
use Rattle.std.specs.List.{concat}
use Rattle.std.proofs.Common.{◌≡◌, ℕ, suc, ◌+◌, List, [], ◌∷◌, ◌++◌, length, take, drop, map, refl, sym, ap, ◌∙◌}
use Rattle.std.proofs.Common.{Bool, ◌&&◌, not}
use Rattle.std.proofs.Math.Seq.{take-append-add}
use Rattle.std.proofs.lemmas.List.{take_at, drop_at, length-map, take-map, drop-map}
use Rattle.std.proofs.lemmas.List.Concat.{concat_is}
use Rattle.std.proofs.lemmas.List.Folds.{flat_map-map}
use Rattle.store_model.specs.Parameters.{Parameters}
use Rattle.store_model.specs.Trees.{Tree}
use Rattle.store_model.specs.Commands.{Reply, reply_text}
use Rattle.store_model.specs.Scripts.{lines, answer, by_step, replies_by, tree_by, replies, tree_after, replies_text}
use Rattle.store_model.specs.Scripts.{answers_by, state_by}
use Rattle.store_model.proofs.ScriptsLemmas.{answers_by-append, state_by-append}
use Rattle.script_lines.specs.Sessions.{session_text}
use Rattle.session_core.specs.Machine.{Machine}
use Rattle.image_subcommands.specs.declared.status.Status.{Status}
use Rattle.image_subcommands.specs.declared.status.Status.TheVariants as statuses
use Rattle.image_subcommands.specs.Statuses.{row, Subcommand, Subcommand as words, is_among, IsStatusOf, IsEndOf}
use Rattle.image_subcommands.proofs.EachStatus.{implied}
use Rattle.script_runs.specs.declared.script.Answering.{Answering}
use Rattle.script_runs.specs.declared.script.Answering.TheVariants as answering
use Rattle.script_runs.specs.ScriptCall.{word_of, texts_by, trees_by}
use Rattle.script_runs.specs.Runs.{run_texts, run_trees}
use Rattle.script_runs.specs.SessionRuns.{no_sessions, answer_session_line, session_texts, session_machines}
use Rattle.script_runs.specs.SessionRuns.{session_trees}

-- the texts of replies, joined
pub texts_joined : (rs : List Reply) → concat (map reply_text rs) ≡ replies_text rs
unfolding replies_text
texts_joined rs = concat_is (map reply_text rs) ∙ flat_map-map (λ x. x) reply_text rs

-- there is an answer to each question
pub length-answers_by : {S Q A : Type 0} (answered : S → Q → A × S) (s : S) (questions : List Q)
    → length (answers_by answered s questions) ≡ length questions
unfolding answers_by
length-answers_by answered s [] = refl
length-answers_by answered s (question ∷ questions) =
    ap suc (length-answers_by answered (answered s question).1 questions)

module _ {S Q A : Type 0} (answered : S → Q → A × S) (s : S) (questions : List Q) where
  -- before the first
  pub state_none : state_by answered s (take 0 questions) ≡ s
  unfolding state_by
  state_none = refl

  one_answer : (u : S) (question : Q) (rest : List Q)
      → take 1 (answers_by answered u (question ∷ rest)) ≡ (answered u question).0 ∷ []
  unfolding answers_by
  one_answer u question rest = refl

  one_state : (u : S) (question : Q) → state_by answered u (question ∷ []) ≡ (answered u question).1
  unfolding state_by
  one_state u question = refl

  -- behind so many there is another
  module _ (read : List Q) (done : ℕ) (count : done ≡ length read) (question : Q) (rest : List Q)
      (split : questions ≡ read ++ question ∷ rest) where
    state_here : state_by answered s (take done questions) ≡ state_by answered s read
    state_here = ap (λ xs. state_by answered s (take done xs)) split
        ∙ ap (state_by answered s) (take_at read (question ∷ rest) done (sym count))

    -- the state behind it
    pub state_next : state_by answered s (take (done + 1) questions)
        ≡ (answered (state_by answered s (take done questions)) question).1
    state_next =
        ap (λ xs. state_by answered s (take (done + 1) xs)) split
        ∙ ap (λ n. state_by answered s (take (n + 1) (read ++ question ∷ rest))) count
        ∙ ap (state_by answered s) (take-append-add read (question ∷ rest) 1)
        ∙ state_by-append answered s read (question ∷ [])
        ∙ one_state (state_by answered s read) question
        ∙ ap (λ u. (answered u question).1) (sym state_here)

    -- and its answer
    pub answer_next : take 1 (drop done (answers_by answered s questions))
        ≡ (answered (state_by answered s (take done questions)) question).0 ∷ []
    answer_next =
        ap (λ xs. take 1 (drop done (answers_by answered s xs))) split
        ∙ ap (λ rs. take 1 (drop done rs)) (answers_by-append answered s read (question ∷ rest))
        ∙ ap (take 1) (drop_at (answers_by answered s read)
        (answers_by answered (state_by answered s read) (question ∷ rest)) done
        (length-answers_by answered s read ∙ sym count))
        ∙ one_answer (state_by answered s read) question rest
        ∙ ap (λ u. (answered u question).0 ∷ []) (sym state_here)

    -- with its text
    pub next_text : (text_of : A → List ℕ) → take 1 (drop done (map text_of (answers_by answered s questions)))
        ≡ text_of (answered (state_by answered s (take done questions)) question).0 ∷ []
    next_text text_of =
        ap (take 1) (drop-map text_of done (answers_by answered s questions))
        ∙ take-map text_of 1 (drop done (answers_by answered s questions))
        ∙ ap (map text_of) answer_next

module _ (t : Tree) (script : List ℕ) (p : Parameters) where
  -- before the first line no session is live
  pub no_line : run_trees t script p 0 ≡ t
  unfolding tree_after tree_by
  no_line = state_none (by_step (λ u text. answer u text p)) t (lines script)

  pub no_line_read : session_machines t script p 0 ≡ no_sessions t
  no_line_read = state_none (answer_session_line p) (no_sessions t) (lines script)

  pub no_call : session_trees t script p 0 ≡ t
  no_call = ap (λ (m : Machine). m.tree) no_line_read

  -- a text for each line
  pub length-run_texts : length (run_texts t script p) ≡ length (lines script)
  unfolding replies replies_by
  length-run_texts = length-map (replies t (lines script) p) reply_text
      ∙ length-answers_by (by_step (λ u text. answer u text p)) t (lines script)

  pub length-session_texts : length (session_texts t script p) ≡ length (lines script)
  length-session_texts = length-map (answers_by (answer_session_line p) (no_sessions t) (lines script)) session_text
      ∙ length-answers_by (answer_session_line p) (no_sessions t) (lines script)

  -- behind so many lines there is another: what stands after it, and the text of its answer
  module _ (read : List (List ℕ)) (done : ℕ) (count : done ≡ length read) (line : List ℕ) (rest : List (List ℕ))
      (split : lines script ≡ read ++ line ∷ rest) where
    pub tree_next : run_trees t script p (done + 1) ≡ (answer (run_trees t script p done) line p).tree
    unfolding tree_after tree_by
    tree_next = state_next (by_step (λ u text. answer u text p)) t (lines script) read done count line rest split

    pub text_next : take 1 (drop done (run_texts t script p))
        ≡ reply_text (answer (run_trees t script p done) line p).reply ∷ []
    unfolding replies replies_by tree_after tree_by
    text_next =
        next_text (by_step (λ u text. answer u text p)) t (lines script) read done count line rest split reply_text

    pub machine_next : session_machines t script p (done + 1)
        ≡ (answer_session_line p (session_machines t script p done) line).1
    machine_next = state_next (answer_session_line p) (no_sessions t) (lines script) read done count line rest split

    pub answer_text_next : take 1 (drop done (session_texts t script p))
        ≡ session_text (answer_session_line p (session_machines t script p done) line).0 ∷ []
    answer_text_next =
        next_text (answer_session_line p) (no_sessions t) (lines script) read done count line rest split session_text

-- ---- the subcommands that answer the lines of a script

-- whether a call with this word may end so, once its image was taken
abbrev pub may_end : Subcommand → Status → Bool
may_end word status = is_among word (row status).words && not (row status).refuses_image

-- it may end just as a run may
pub ends_as_run : (kind : Answering) (status : Status) → IsEndOf words.Run status → IsEndOf (word_of kind) status
ends_as_run answering.Commands status ends = ends
ends_as_run answering.Calls status ends = implied (may_end words.Run) (may_end words.Session) refl status ends

pub run_ends_as : (kind : Answering) (status : Status) → IsEndOf (word_of kind) status → IsEndOf words.Run status
run_ends_as answering.Commands status ends = ends
run_ends_as answering.Calls status ends = implied (may_end words.Session) (may_end words.Run) refl status ends

pub may_fail : (kind : Answering) → IsStatusOf (word_of kind) statuses.NoMemory
may_fail answering.Commands = refl
may_fail answering.Calls = refl

pub may_refuse : (kind : Answering) → IsStatusOf (word_of kind) statuses.NotImage
may_refuse answering.Commands = refl
may_refuse answering.Calls = refl

-- the trees begin with that before the first line, and there is a text for each line
pub none_by : (kind : Answering) (t : Tree) (script : List ℕ) (p : Parameters) → trees_by kind t script p 0 ≡ t
none_by answering.Commands = no_line
none_by answering.Calls = no_call

pub each_by : (kind : Answering) (t : Tree) (script : List ℕ) (p : Parameters)
    → length (texts_by kind t script p) ≡ length (lines script)
each_by answering.Commands = length-run_texts
each_by answering.Calls = length-session_texts
