-- What holds of the world and the trace of every history.
use Rattle.std.proofs.Common.{◌≡◌, ℕ, List, [], ◌∷◌, ◌++◌, Bool, true, false, Option, None, Some, drop, slice_index_or}
use Rattle.std.proofs.Common.{append_assoc, refl, sym, ap, ◌∙◌, subst, if◌then◌else◌}
use Rattle.std.specs.Option.{option_map_or, unwrap_or}
use Rattle.std.proofs.lemmas.List.{append-nil}
use Rattle.store_model.specs.Parameters.{Parameters}
use Rattle.store_model.specs.Trees.{Tree}
use Rattle.store_model.specs.Commands.{Command}
use Rattle.script_lines.specs.Sessions.{SessionCall, SessionAnswer}
use Rattle.script_lines.specs.Sessions.SessionCall.{Commit}
use Rattle.script_lines.specs.Sessions.SessionAnswer.{Done}
use Rattle.staged_tree.specs.Groups.{refused_in, group_tree}
use Rattle.session_core.specs.Machine.{Session, Places, World, Event, new_session, session_at, the_session, answered}
use Rattle.session_core.specs.Machine.{tree_after_call, turn, happens}
use Rattle.session_core.specs.Machine.Event.{Acts, Fails, Breaks, Crashes, Attaches}
use Rattle.session_core.specs.Traces.{Entry, world_after, trace, is_live, asked_since, staged_since, committed_by}
use Rattle.session_core.specs.Traces.{groups}
use Rattle.session_core.proofs.PlacesLemmas.{session_at-none}
use Rattle.session_core.proofs.AnswerLemmas.{commits}
use Rattle.session_core.proofs.ToldLemmas.{told, told_more, after_entry, nothing_more, call_told}
use Rattle.session_core.proofs.RunLemmas.{RunsTo, run_none, run_more, run_same}

-- ---- the groups of a trace

-- the session whose group a call commits that is answered so
abbrev committing : SessionCall → SessionAnswer → Option ℕ
committing (Commit id) Done = Some id
committing call answer = None

-- a call that answers commits it
acts_commit : (call : SessionCall) (answer : SessionAnswer)
    → committed_by (Acts call, Some answer) ≡ committing call answer
acts_commit (Commit id) Done = refl
acts_commit call answer = refl

-- so does one that breaks and lands
breaks_commit : (call : SessionCall) (answer : SessionAnswer)
    → committed_by (Breaks call true, Some answer) ≡ committing call answer
breaks_commit (Commit id) Done = refl
breaks_commit call answer = refl

-- without an answer nothing is committed
none_commits : (event : Event) → committed_by (event, None) ≡ None
none_commits (Acts (Commit id)) = refl
none_commits (Breaks (Commit id) true) = refl
none_commits event = refl

-- the groups behind an entry
more_groups : List Entry → Option ℕ → List (List Command)
more_groups before id = groups before ++ option_map_or (λ number. staged_since number before ∷ []) id []

groups_more : (entry : Entry) (before : List Entry) → groups (entry ∷ before) ≡ more_groups before (committed_by entry)
unfolding groups more_groups
groups_more entry before = refl

-- where none is committed they are those before
no_groups : (before : List Entry) → more_groups before None ≡ groups before
unfolding more_groups
no_groups before = append-nil (groups before)

-- where one is committed, its group is behind them
one_group : (id : ℕ) (before : List Entry) → more_groups before (Some id) ≡ groups before ++ staged_since id before ∷ []
unfolding more_groups
one_group id before = refl

-- ---- what a world and its trace have in common

-- A world stands behind a trace: its tree is that of the groups, and unless it is stopped its sessions are those that
-- the trace tells of.
pub record Stands (p : Parameters) (t : Tree) (w : World) (entries : List Entry) : Type 0 where
  pub runs : RunsTo p t (groups entries) w.machine.tree
  pub live : w.is_stopped ≡ false → (id : ℕ) → session_at w.machine.places id ≡ told id entries

-- what a trace that tells of a session says of it
pub told_session : (id : ℕ) (entries : List Entry) (session : Session) → told id entries ≡ Some session
    → (is_live id entries ≡ true) × (asked_since id entries ≡ session.asked)
    × (staged_since id entries ≡ session.staged)
told_session id entries session = by (is_live id entries)
  where
    by : (l : Bool)
        → (if l then Some (record { asked = asked_since id entries; staged = staged_since id entries }) else None)
        ≡ Some session → (l ≡ true) × (asked_since id entries ≡ session.asked)
        × (staged_since id entries ≡ session.staged)
    by true h = let same : record {
      asked = asked_since id entries;
      staged = staged_since id entries;
    } ≡ session = cc
        in (refl, ap (λ (s : Session). s.asked) same, ap (λ (s : Session). s.staged) same)
    by false h = absurd (cc)

-- what one that tells of none says
pub told_none : (id : ℕ) (entries : List Entry) → told id entries ≡ None → is_live id entries ≡ false
told_none id entries = by (is_live id entries)
  where
    session : Session
    session = record { asked = asked_since id entries; staged = staged_since id entries }

    by : (l : Bool) → (if l then Some session else None) ≡ None → l ≡ false
    by true h = absurd (cc)
    by false h = refl

-- ---- one event

module _ (p : Parameters) (t : Tree) (w : World) (before : List Entry) (stands : Stands p t w before) where
  -- where nothing is committed, the groups go on to the tree
  runs_on : (entry : Entry) → committed_by entry ≡ None → RunsTo p t (groups (entry ∷ before)) w.machine.tree
  runs_on entry h = run_same p t (groups before)
      (groups (entry ∷ before)) w.machine.tree
      (sym (groups_more entry before ∙ ap (more_groups before) h ∙ no_groups before)) stands.runs

  -- where a group is committed, it is one more
  group_runs : w.is_stopped ≡ false → (call : SessionCall) (answer : SessionAnswer) → answered p w.machine call ≡ answer
      → RunsTo p t (more_groups before (committing call answer)) (tree_after_call p w.machine call answer)
  unfolding more_groups
  group_runs live (Commit id) Done h =
      let found = commits p w.machine id h in
      let says = told_session id before found.0 (sym (stands.live live id) ∙ found.1.live) in
      let staged : (the_session w.machine.places id).staged ≡ found.0.staged =
      ap (λ place. (unwrap_or place new_session).staged) found.1.live in
      subst (λ changes. RunsTo p t (groups before ++ staged_since id before ∷ []) (group_tree p w.machine.tree changes))
      (says.2 ∙ sym staged)
      (run_more p t (groups before) w.machine.tree (staged_since id before)
      stands.runs (subst (λ changes. refused_in p w.machine.tree changes ≡ None) (sym says.2) found.1.accepted))
  group_runs live call answer h = run_same p t (groups before)
      (more_groups before None) w.machine.tree (sym (no_groups before)) stands.runs

  -- the tree behind a call that commits what the entry says
  call_runs : w.is_stopped ≡ false → (call : SessionCall) (entry : Entry)
      → committed_by entry ≡ committing call (answered p w.machine call)
      → RunsTo p t (groups (entry ∷ before)) (turn p w.machine call).1.tree
  call_runs live call entry h =
      run_same p t (more_groups before (committing call (answered p w.machine call))) (groups (entry ∷ before))
      (turn p w.machine call).1.tree
      (sym (groups_more entry before ∙ ap (more_groups before) h))
      (group_runs live call (answered p w.machine call) refl)

  -- the sessions behind an entry are those that the trace tells of, where they follow from those before as the entry
  -- says
  live_on : (places : Places) (entry : Entry)
      → ((id : ℕ) → session_at places id ≡ after_entry id entry (session_at w.machine.places id)) → w.is_stopped ≡ false
      → (id : ℕ) → session_at places id ≡ told id (entry ∷ before)
  live_on places entry follows live id = follows id ∙ ap (after_entry id entry) (stands.live live id)
      ∙ sym (told_more id entry before)

  -- of a stopped world nothing is said of sessions
  stopped_on : (entry : Entry) → w.is_stopped ≡ true → committed_by entry ≡ None → Stands p t w (entry ∷ before)
  stopped_on entry e h = record { runs = runs_on entry h; live = λ f. absurd (cc) }

  -- a call that answers
  acts_stands : (call : SessionCall) (stopped : Bool) → w.is_stopped ≡ stopped
      → (let after : Option SessionAnswer × World =
      if stopped then (None, w) else (
        Some (turn p w.machine call).0,
        record {
          machine = (turn p w.machine call).1;
          is_stopped = false;
        },
      )
      in Stands p t after.1 ((Acts call, after.0) ∷ before))
  acts_stands call true e = stopped_on (Acts call, None) e (none_commits (Acts call))
  acts_stands call false e =
      let entry : Entry = (Acts call, Some (answered p w.machine call)) in
      record {
        runs = call_runs e call entry (acts_commit call (answered p w.machine call));
        live = λ f. live_on (turn p w.machine call).1.places entry (call_told p w.machine call) e;
      }

  -- a call that breaks, and lands
  lands_stands : (call : SessionCall) (stopped : Bool) → w.is_stopped ≡ stopped
      → (let after : Option SessionAnswer × World =
      if stopped then (None, w) else (
        Some (turn p w.machine call).0,
        record {
          machine = record { tree = (turn p w.machine call).1.tree; places = w.machine.places };
          is_stopped = true;
        },
      )
      in Stands p t after.1 ((Breaks call true, after.0) ∷ before))
  lands_stands call true e = stopped_on (Breaks call true, None) e (none_commits (Breaks call true))
  lands_stands call false e = record {
    runs = call_runs e call (Breaks call true, Some (answered p w.machine call))
        (breaks_commit call (answered p w.machine call));
    live = λ f. absurd (cc);
  }

  -- a call that breaks, and does not
  breaks_stands : (call : SessionCall) (stopped : Bool) → w.is_stopped ≡ stopped
      → (let after : Option SessionAnswer × World =
      if stopped then (None, w) else (None, record { machine = w.machine; is_stopped = true })
      in Stands p t after.1 ((Breaks call false, after.0) ∷ before))
  breaks_stands call true e = stopped_on (Breaks call false, None) e (none_commits (Breaks call false))
  breaks_stands call false e = record {
    runs = runs_on (Breaks call false, None) (none_commits (Breaks call false));
    live = λ f. absurd (cc);
  }

  -- any event
  event_stands : (event : Event) → Stands p t (happens p w event).1 ((event, (happens p w event).0) ∷ before)
  event_stands (Acts call) = acts_stands call w.is_stopped refl
  event_stands (Fails call) = record {
    runs = runs_on (Fails call, None) refl;
    live = live_on w.machine.places (Fails call, None) (λ id. sym (nothing_more (session_at w.machine.places id)));
  }
  event_stands (Breaks call true) = lands_stands call w.is_stopped refl
  event_stands (Breaks call false) = breaks_stands call w.is_stopped refl
  event_stands Crashes = record { runs = runs_on (Crashes, None) refl; live = λ f. absurd (cc) }
  event_stands Attaches = record {
    runs = runs_on (Attaches, None) refl;
    live = λ f id. session_at-none id ∙ sym (told_more id (Attaches, None) before);
  }

-- ---- every history

-- the world behind a history stands behind its trace
pub history_stands : (p : Parameters) (t : Tree) (events : List Event)
    → Stands p t (world_after p t events) (trace p t events)
unfolding world_after trace groups is_live
history_stands p t [] = record { runs = run_none p t; live = λ f id. session_at-none id }
history_stands p t (event ∷ before) =
    event_stands p t (world_after p t before) (trace p t before) (history_stands p t before) event

-- ---- each entry of a trace

-- the call of an entry with an answer, of a call that answered or that broke and landed
abbrev pub said : Entry → Option (SessionCall × SessionAnswer)
said (Acts call, Some answer) = Some (call, answer)
said (Breaks call true, Some answer) = Some (call, answer)
said entry = None

-- A call was answered so behind a trace: the machine of a world that stands behind it answers so.
pub record Answers (p : Parameters) (t : Tree) (before : List Entry) (call : SessionCall)
    (answer : SessionAnswer) : Type 0 where
  pub world : World
  pub stands : Stands p t world before
  pub runs : world.is_stopped ≡ false
  pub same : answered p world.machine call ≡ answer

-- what an event tells that is answered
event_says : (p : Parameters) (w : World) (event : Event) (call : SessionCall) (answer : SessionAnswer)
    → said (event, (happens p w event).0) ≡ Some (call, answer)
    → (w.is_stopped ≡ false) × (answered p w.machine call ≡ answer)
event_says p w event call answer = by event
  where
    told_so : (said_call : SessionCall) → said (Acts said_call, Some (answered p w.machine said_call))
        ≡ Some (call, answer) → answered p w.machine call ≡ answer
    told_so said_call h =
        let first : SessionCall × SessionAnswer = (said_call, answered p w.machine said_call) in
        let other : SessionCall × SessionAnswer = (call, answer) in
        let pair : first ≡ other = cc in
        let same : said_call ≡ call = ap (λ (x : SessionCall × SessionAnswer). x.0) pair in
        sym (ap (answered p w.machine) same) ∙ ap (λ (x : SessionCall × SessionAnswer). x.1) pair

    acts : (said_call : SessionCall) (stopped : Bool) (next : World) → w.is_stopped ≡ stopped
        → (let after : Option SessionAnswer × World =
        if stopped then (None, w) else (Some (turn p w.machine said_call).0, next)
        in said (Acts said_call, after.0) ≡ Some (call, answer)
        → (w.is_stopped ≡ false) × (answered p w.machine call ≡ answer))
    acts said_call true next e h = absurd (cc)
    acts said_call false next e h = (e, told_so said_call h)

    lands : (said_call : SessionCall) (stopped : Bool) (next : World) → w.is_stopped ≡ stopped
        → (let after : Option SessionAnswer × World =
        if stopped then (None, w) else (Some (turn p w.machine said_call).0, next)
        in said (Breaks said_call true, after.0) ≡ Some (call, answer)
        → (w.is_stopped ≡ false) × (answered p w.machine call ≡ answer))
    lands said_call true next e h = absurd (cc)
    lands said_call false next e h = (e, told_so said_call h)

    by : (event : Event) → said (event, (happens p w event).0) ≡ Some (call, answer)
        → (w.is_stopped ≡ false) × (answered p w.machine call ≡ answer)
    by (Acts said_call) h = acts said_call w.is_stopped _ refl h
    by (Fails said_call) h = absurd (cc)
    by (Breaks said_call true) h = lands said_call w.is_stopped _ refl h
    by (Breaks said_call false) h = absurd (cc)
    by Crashes h = absurd (cc)
    by Attaches h = absurd (cc)

-- what each entry tells that is answered
pub entry_answers : (p : Parameters) (t : Tree) (events : List Event) (entry : Entry) (after before : List Entry)
    (call : SessionCall) (answer : SessionAnswer) → trace p t events ≡ after ++ entry ∷ before
    → said entry ≡ Some (call, answer)
    → Answers p t before call answer
unfolding trace
entry_answers p t [] entry [] before call answer e h = absurd (cc)
entry_answers p t [] entry (first ∷ after) before call answer e h = absurd (cc)
entry_answers p t (event ∷ events) entry [] before call answer e h =
    let w = world_after p t events in
    let here : (event, (happens p (world_after p t events) event).0) ≡ entry = ap (λ xs. slice_index_or xs 0 entry) e in
    let says = event_says p (world_after p t events) event call answer
    (subst (λ (x : Entry). said x ≡ Some (call, answer)) (sym here) h) in
    record {
      world = world_after p t events;
      stands = subst (Stands p t (world_after p t events)) (ap (drop 1) e) (history_stands p t events);
      runs = says.0;
      same = says.1;
    }
entry_answers p t (event ∷ events) entry (first ∷ after) before call answer e h =
    entry_answers p t events entry after before call answer (ap (drop 1) e) h

-- an entry that commits a group was answered so
pub commits_said : (entry : Entry) (id : ℕ) → committed_by entry ≡ Some id → said entry ≡ Some (Commit id, Done)
commits_said (Acts (Commit number), Some Done) id h = let same : number ≡ id = cc
    in ap (λ (k : ℕ). Some (Commit k, Done)) same
commits_said (Breaks (Commit number) true, Some Done) id h = let same : number ≡ id = cc
    in ap (λ (k : ℕ). Some (Commit k, Done)) same
commits_said entry id h = absurd (cc)

-- the group that an entry commits stands between those before and those later
pub group_between : (id : ℕ) (entry : Entry) (after before : List Entry) → committed_by entry ≡ Some id
    → (later : List (List Command))
    × (groups (after ++ entry ∷ before) ≡ groups before ++ staged_since id before ∷ later)
unfolding more_groups
group_between id entry [] before h = ([], groups_more entry before ∙ ap (more_groups before) h ∙ one_group id before)
group_between id entry (last ∷ after) before h =
    let rest = group_between id entry after before h in
    let last_group : List (List Command) =
    option_map_or (λ number. staged_since number (after ++ entry ∷ before) ∷ []) (committed_by last) [] in (
      rest.0 ++ last_group,
      groups_more last (after ++ entry ∷ before) ∙ ap (λ gs. gs ++ last_group) rest.1
          ∙ append_assoc (groups before) (staged_since id before ∷ rest.0) last_group,
    )
