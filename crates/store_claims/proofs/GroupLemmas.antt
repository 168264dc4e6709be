-- Groups are committed whole: from the law of sessions, over the history of lines.
use Rattle.std.proofs.Common.{◌≡◌, ◌⊎◌, inl, inr, ⊎_elim, ℕ, ◌<◌, ◌+◌, ◌-◌, suc, List, [], ◌∷◌, ◌++◌, length, take}
use Rattle.std.proofs.Common.{Option, Some, None, Result, Ok, Err, refl, sym, ap, ◌∙◌, subst, cond, codes, Bool, true}
use Rattle.std.proofs.Common.{false, nat_le, arith, append-nil}
use Rattle.std.proofs.Math.Seq.{take-append-add}
use Rattle.std.proofs.lemmas.List.{take_at}
use Rattle.std.specs.Option.{option_map_or, unwrap_or}
use Rattle.store_model.specs.declared.refusal.Refusal.{Refusal}
use Rattle.store_model.specs.Parameters.{Parameters}
use Rattle.store_model.specs.Trees.{Tree}
use Rattle.store_model.specs.Commands.{Command, Reply, line, reply_text}
use Rattle.store_model.specs.Steps.{step}
use Rattle.store_model.specs.Scripts.{lines, state_by}
use Rattle.script_lines.specs.Sessions.{SessionCall, SessionAnswer, session_text}
use Rattle.script_lines.specs.Sessions.SessionCall.{Begin, Ask, Stage, Commit, Leave}
use Rattle.script_lines.specs.Sessions.SessionAnswer.{Replied, Done, NoSession, Many}
use Rattle.staged_tree.specs.Groups.{refused_in}
use Rattle.session_core.specs.Machine.{Session, Machine, World, Event, session_at, many_of, note_limit}
use Rattle.session_core.specs.Machine.{first_difference, commit_answer, answered, happens}
use Rattle.session_core.specs.Machine.Event.{Acts}
use Rattle.session_core.specs.Traces.{Entry, IsSerial, world_after, trace, committed_by, groups, staged_since}
use Rattle.script_runs.specs.SessionRuns.{no_sessions, session_reading, session_machines, answer_call}
use Rattle.script_runs.specs.SessionRuns.{answer_session_line}
use Rattle.script_runs.proofs.AnswerLemmas.{answer_text_next}
use Rattle.store_claims.specs.Groups.{event_of, session_events, session_trace, session_groups, committed_tree}
use Rattle.store_claims.specs.Groups.{IsAnswered, CommitsWhole}
use Rattle.store_claims.proofs.EventLemmas.{world_of_lines, entry_of, events_split}

-- ---- the answer to a commit

first_byte_of : List ℕ → ℕ
first_byte_of [] = 0
first_byte_of (byte ∷ bytes) = byte

-- of its answers the text of one is `ok`
told_of : (p : Parameters) (t : Tree) (session : Session) → session_text (commit_answer p t session) ≡ line (codes "ok")
    → commit_answer p t session ≡ Done
unfolding session_text
told_of p t session = by (first_difference p t session.asked) (refused_in p t session.staged) refl refl
  where
    by : (found : Option (ℕ × Reply × Reply)) (stopped : Option (ℕ × Refusal))
        → first_difference p t session.asked ≡ found → refused_in p t session.staged ≡ stopped
        → session_text (commit_answer p t session) ≡ line (codes "ok") → commit_answer p t session ≡ Done
    by None None e f = rw (e, f) λ is. refl
    by None (Some stopped) e f = rw (e, f) λ is. let other = ap first_byte_of is in absurd (cc)
    by (Some found) stopped e f = rw e λ is. let other = ap first_byte_of is in absurd (cc)

told_ok : (p : Parameters) (m : Machine) (id : ℕ) → session_text (answered p m (Commit id)) ≡ line (codes "ok")
    → answered p m (Commit id) ≡ Done
unfolding session_text
told_ok p m id = by (session_at m.places id) refl
  where
    by : (place : Option Session) → session_at m.places id ≡ place
        → session_text (answered p m (Commit id)) ≡ line (codes "ok") → answered p m (Commit id) ≡ Done
    by None e = rw e λ is. let other = ap first_byte_of is in absurd (cc)
    by (Some session) e = rw e (told_of p m.tree session)

-- ---- the answer to a question

one_of_three : (place : Option Session) (reply : Reply)
    → let answer = unwrap_or (many_of place (λ session. length session.asked)) (Replied reply)
    in (answer ≡ Replied reply) ⊎ ((answer ≡ NoSession) ⊎ (answer ≡ Many))
one_of_three None reply = inr (inl refl)
one_of_three (Some session) reply = by (nat_le note_limit (length session.asked))
  where
    by : (b : Bool) → let answer = unwrap_or (cond b (Some Many) None) (Replied reply)
        in (answer ≡ Replied reply) ⊎ ((answer ≡ NoSession) ⊎ (answer ≡ Many))
    by true = inr (inr refl)
    by false = inl refl

answers_question : (p : Parameters) (m : Machine) (id : ℕ) (question : Command)
    → (answered p m (Ask id question) ≡ Replied (step m.tree question p).reply)
    ⊎ ((answered p m (Ask id question) ≡ NoSession) ⊎ (answered p m (Ask id question) ≡ Many))
answers_question p m id question = one_of_three (session_at m.places id) (step m.tree question p).reply

-- an answer to a commit is that it was done, or commits nothing
done_or_not : (id : ℕ) (answer : SessionAnswer)
    → (answer ≡ Done) ⊎ (committed_by (Acts (Commit id), Some answer) ≡ None)
done_or_not id answer = grind arith

-- ---- a line in the trace

abbrev head_of : List (List ℕ) → List ℕ
head_of [] = []
head_of (text ∷ texts) = text

module _ (t : Tree) (p : Parameters) (script : List ℕ) (before : List (List ℕ)) (text : List ℕ) (behind : List (List ℕ))
    (lines_are : lines script ≡ before ++ text ∷ behind) where
  -- the machine before it
  abbrev machine : Machine
  machine = state_by (answer_session_line p) (no_sessions t) before

  machine_here : session_machines t script p (length before) ≡ machine
  machine_here = ap (state_by (answer_session_line p) (no_sessions t))
      (ap (take (length before)) lines_are ∙ take_at before (text ∷ behind) (length before) refl)

  -- where it spells a call, its answer is that of the machine
  pub answer_text : (call : SessionCall) → session_reading text ≡ Ok call
      → IsAnswered t p script (length before) (session_text (answered p machine call))
  answer_text call spells =
      answer_text_next t script p before (length before) refl text behind lines_are
      ∙ ap (λ (turned : SessionAnswer × Machine). session_text turned.0 ∷ [])
      (ap (λ (m : Machine). answer_call p m (session_reading text)) machine_here
      ∙ ap (answer_call p machine) spells)

  -- and so is what its entry has
  happens_here : (call : SessionCall) → (happens p (world_after p t (session_events before)) (Acts call)).0
      ≡ Some (answered p machine call)
  happens_here call = ap (λ (w : World). (happens p w (Acts call)).0) (world_of_lines p t before)

  -- the text `ok` of a commit tells that it was committed
  pub committed : (id : ℕ) → session_reading text ≡ Ok (Commit id)
      → IsAnswered t p script (length before) (line (codes "ok")) → answered p machine (Commit id) ≡ Done
  committed id spells is_ok = told_ok p machine id
      (ap head_of (sym (answer_text (Commit id) spells) ∙ is_ok))

  -- so its entry is in the trace of any front of the script that has the line
  pub entry_there : (count id : ℕ) → length before < count → session_reading text ≡ Ok (Commit id)
      → IsAnswered t p script (length before) (line (codes "ok"))
      → (after : List Entry) × (session_trace t (take count (lines script)) p ≡ after ++ (Acts (Commit id), Some Done)
      ∷ session_trace t before p)
  entry_there count id among spells is_ok =
      let n = count - length before - 1 in
      let rest = take n behind in
      let count_is : count ≡ length before + suc n = omega arith in
      let lines_split : take count (lines script) ≡ before ++ text ∷ rest =
      ap (take count) lines_are ∙ ap (λ (m : ℕ). take m (before ++ text ∷ behind)) count_is
      ∙ take-append-add before (text ∷ behind) (suc n) in
      let there = entry_of p t (session_events rest) (Acts (Commit id)) (session_events before) in (
        there.0,
        ap (trace p t)
            (ap session_events lines_split ∙ events_split before text rest
            ∙ ap (λ (reading : Result SessionCall Refusal). session_events rest
            ++ (event_of reading ++ session_events before)) spells)
            ∙ there.1
            ∙ ap (λ (told : Option SessionAnswer). there.0 ++ (Acts (Commit id), told) ∷ session_trace t before p)
            (happens_here (Commit id) ∙ ap Some (committed id spells is_ok)),
      )

  -- ---- what it commits

  -- the groups behind what was read
  abbrev groups_behind : Result SessionCall Refusal → List (List Command)
  groups_behind reading = groups (trace p t (event_of reading ++ session_events before))

  groups_here : session_groups t (before ++ text ∷ []) p ≡ groups_behind (session_reading text)
  unfolding session_events
  groups_here = ap (λ (events : List Event). groups (trace p t events)) (events_split before text [])

  commits_or_not : (reading : Result SessionCall Refusal) → session_reading text ≡ reading
      → (groups_behind reading ≡ session_groups t before p)
      ⊎ ((id : ℕ) × (session_reading text ≡ Ok (Commit id))
      × IsAnswered t p script (length before) (line (codes "ok")))
  unfolding trace groups session_text
  commits_or_not (Err refusal) spells = inl refl
  commits_or_not (Ok Begin) spells = inl (append-nil _)
  commits_or_not (Ok (Ask id question)) spells = inl (append-nil _)
  commits_or_not (Ok (Stage id change)) spells = inl (append-nil _)
  commits_or_not (Ok (Leave id)) spells = inl (append-nil _)
  commits_or_not (Ok (Commit id)) spells =
      by (answered p machine (Commit id)) refl (done_or_not id (answered p machine (Commit id)))
    where
      -- the groups behind it, by what it commits
      groups_of : Option ℕ → List (List Command)
      groups_of number = session_groups t before p
          ++ option_map_or (λ n. staged_since n (session_trace t before p) ∷ []) number []

      by : (answer : SessionAnswer) → answered p machine (Commit id) ≡ answer
          → (answer ≡ Done) ⊎ (committed_by (Acts (Commit id), Some answer) ≡ None)
          → (groups_behind (Ok (Commit id)) ≡ session_groups t before p)
          ⊎ ((number : ℕ) × (session_reading text ≡ Ok (Commit number))
          × IsAnswered t p script (length before) (line (codes "ok")))
      by answer e (inl done) = inr (
        id,
        spells,
        subst (λ (told : SessionAnswer).
            IsAnswered t p script (length before) (session_text told)) (e ∙ done) (answer_text (Commit id) spells),
      )
      by answer e (inr none) =
          inl (ap (λ (told : Option SessionAnswer). groups_of (committed_by (Acts (Commit id), told)))
          (happens_here (Commit id) ∙ ap Some e) ∙ ap groups_of none ∙ append-nil _)

  pub commits_only : (session_groups t (before ++ text ∷ []) p ≡ session_groups t before p)
      ⊎ ((id : ℕ) × (session_reading text ≡ Ok (Commit id)) × IsAnswered t p script (length before) (line (codes "ok")))
  commits_only = ⊎_elim (λ same. inl (groups_here ∙ same)) inr (commits_or_not (session_reading text) refl)

  -- ---- what it asks

  pub replies_by_committed : ((p : Parameters) (t : Tree) (events : List Event) → IsSerial p t events)
      → (id : ℕ) (question : Command) → session_reading text ≡ Ok (Ask id question)
      → IsAnswered t p script (length before) (reply_text (step (committed_tree t before p) question p).reply)
      ⊎ (IsAnswered t p script (length before) (line (codes "no session"))
      ⊎ IsAnswered t p script (length before) (line (codes "no many")))
  unfolding session_text
  replies_by_committed law id question spells =
      let told = answer_text (Ask id question) spells in
      let tree : machine.tree ≡ committed_tree t before p =
      ap (λ (w : World). w.machine.tree) (sym (world_of_lines p t before))
      ∙ (law p t (session_events before)).tree in
      let so = λ (answer : SessionAnswer) (e : answered p machine (Ask id question) ≡ answer).
      subst (λ (a : SessionAnswer). IsAnswered t p script (length before) (session_text a)) e told in
      ⊎_elim
      (λ e. inl (subst (λ (u : Tree). IsAnswered t p script (length before) (reply_text (step u question p).reply)) tree
      (so (Replied (step machine.tree question p).reply) e)))
      (λ other. inr (⊎_elim (λ e. inl (so NoSession e)) (λ e. inr (so Many e)) other))
      (answers_question p machine id question)

-- ---- the law

pub commits_whole : ((p : Parameters) (t : Tree) (events : List Event) → IsSerial p t events)
    → (t : Tree) (p : Parameters) (script : List ℕ) (count : ℕ) → CommitsWhole t p script count
commits_whole law t p script count =
    let serial = law p t (session_events (take count (lines script))) in
    record {
      whole = serial.whole;
      kept = λ id before is is_ok.
          let there = entry_there t p script before is.text is.behind is.lines_are count id is.among is.spells is_ok in
          serial.kept id there.0 (session_trace t before p) there.1;
      only = commits_only t p script;
      asked = λ id before is is_ok.
          let there = entry_there t p script before is.text is.behind is.lines_are count id is.among is.spells is_ok in
          serial.asked id (Acts (Commit id), Some Done) there.0 (session_trace t before p) there.1 refl;
      replied = λ id question before is. replies_by_committed t p script before
          is.text is.behind is.lines_are law id question is.spells;
    }
