-- Calls on the sessions at their places.
use Rattle.std.proofs.Common.{◌≡◌, ℕ, ◌<◌, ◌≤◌, ◌++◌, ◌∷◌, [], Bool, false, length, set, get_or, slice_get, Option}
use Rattle.std.proofs.Common.{None, Some, is_none, nat_lt, unwrap_or, Result, Ok, Err, refl, sym, ap, subst, ◌∙◌}
use Rattle.std.proofs.Common.{if◌then◌else◌, ⊎_elim}
use Rattle.std.proofs.lemmas.Bool.{lt-leb, le-leb, false≢true}
use Rattle.std.proofs.lemmas.List.{set-get_or}
use Rattle.std.proofs.lemmas.Option.{get_or_from_slice_get, slice_get_past, slice_get_read, cond_some}
use Rattle.std.specs.List.{position, position_or_len}
use Rattle.std.specs.Option.{option_flatten}
use Rattle.store_model.specs.Commands.{Command}
use Rattle.store_model.specs.Steps.{step}
use Rattle.disk_model.specs.DiskState.{DiskState, IsObservable, IsSound}
use Rattle.script_lines.specs.declared.reply.Reply.{Reply}
use Rattle.script_lines.specs.Replies.{reply_of}
use Rattle.script_lines.specs.Sessions.{SessionCall, SessionAnswer}
use Rattle.script_lines.specs.Sessions.SessionCall.{Begin, Ask, Stage, Leave}
use Rattle.script_lines.specs.Sessions.SessionAnswer.{Began, Replied, Done, Crowded, NoSession, Many}
use Rattle.image_check.specs.declared.fault.ApplyFault.{ApplyFault}
use Rattle.image_check.specs.declared.fault.ApplyFault.TheVariants as apply
use Rattle.store_core.specs.StoreState.{StoreState}
use Rattle.store_core.specs.StoreCalls.{StepsStore, Applies}
use Rattle.session_core.specs.declared.fault.SessionFault.{SessionFault}
use Rattle.session_core.specs.declared.fault.SessionFault.TheVariants as causes
use Rattle.session_core.specs.Machine.{Session, Places, session_at, the_session, new_session, turned_away, many_of}
use Rattle.session_core.specs.Machine.{unknown_of, crowded_of, live_limit, note_limit}
use Rattle.session_core.specs.SessionCalls.{answer_in, session_fault_of, turned_by, CallsSessions, IsOfSessions}
use Rattle.session_core.specs.SessionState.{SessionsState}
use Rattle.session_core.specs.SessionSteps.{KeepsTree, FindsPlace, TakesNote, StagesIn, LeavesIn, AsksSession, AsksIn}
use Rattle.session_core.proofs.StoreLemmas.{Any, steps_done, steps_to, unasked, runs_out}
use Rattle.session_core.proofs.CallLemmas.{calls_stopped, alone_stopped, calls_turned, alone_turned, calls_served}
use Rattle.session_core.proofs.CallLemmas.{alone_served, calls_failed, alone_failed}

-- ---- places

pub put_back : (places : Places) (id : ℕ) (o : Option Session) → slice_get places id ≡ Some o → set places id o ≡ places
put_back places id o here = ap (set places id) (sym (get_or_from_slice_get places id o o here)) ∙ set-get_or places id o

at_place : (places : Places) (id : ℕ) (o : Option Session) → slice_get places id ≡ Some o → session_at places id ≡ o
at_place places id o here = ap option_flatten here

module _ (places : Places) (id : ℕ) (session : Session) (here : slice_get places id ≡ Some (Some session)) where
  pub the_is : the_session places id ≡ session
  the_is = ap (λ (o : Option (Option Session)). unwrap_or (option_flatten o) new_session) here

  tested : Bool → Option SessionAnswer
  tested b = if b then Some Many else None

  room : (count : Session → ℕ) → count session < note_limit → many_of (session_at places id) count ≡ None
  unfolding tested
  room count few = ap (λ (o : Option (Option Session)). many_of (option_flatten o) count) here
      ∙ ap tested (lt-leb note_limit (count session) few)

  full : (count : Session → ℕ) → note_limit ≤ count session → many_of (session_at places id) count ≡ Some Many
  unfolding tested
  full count many = ap (λ (o : Option (Option Session)). many_of (option_flatten o) count) here
      ∙ ap tested (le-leb note_limit (count session) many)

-- ---- calls

module _ {D A : Type 0} (state : D → DiskState) (sound : (disk : D) → IsObservable (state disk) → IsSound (state disk))
    (call : SessionCall) (answer_of : A → SessionAnswer)
    (old : SessionsState D) (sized : length old.places ≡ live_limit) (keeps : KeepsTree state old.store) (id : ℕ) where
  -- no place was found
  module _ (away : session_at old.places id ≡ None → turned_away old.places call ≡ Some NoSession) where
    past : length old.places ≤ id → turned_away old.places call ≡ Some NoSession
    past high = away (ap option_flatten (slice_get_past old.places id high))

    pub calls_unfound : (fault : SessionFault) → FindsPlace old id (Err fault)
        → CallsSessions state call answer_of old old (Err fault)
    calls_unfound causes.Stopped found = calls_stopped state call answer_of old sized found
    calls_unfound causes.Crowded found = absurd found
    calls_unfound causes.Unknown found =
        calls_turned state call answer_of old sized sound keeps found.0 (Err causes.Unknown) NoSession
        refl refl (past found.1)
    calls_unfound causes.Many found = absurd found
    calls_unfound causes.Disk found = absurd found
    calls_unfound causes.NoMemory found = absurd found

    pub alone_unfound : (fault : SessionFault) → FindsPlace old id (Err fault)
        → IsOfSessions call answer_of old old (Err fault)
    alone_unfound causes.Stopped found = alone_stopped state call answer_of old sized found
    alone_unfound causes.Crowded found = absurd found
    alone_unfound causes.Unknown found =
        alone_turned state call answer_of old sized sound keeps found.0 (Err causes.Unknown) NoSession
        refl refl (past found.1)
    alone_unfound causes.Many found = absurd found
    alone_unfound causes.Disk found = absurd found
    alone_unfound causes.NoMemory found = absurd found

-- the sessions with this at a place
abbrev pub with_place : {D : Type 0} → SessionsState D → ℕ → Option Session → SessionsState D
with_place s id o = record { store = s.store; places = set s.places id o }

-- sessions with these fields, of which the place of a number was found
module _ {D : Type 0} (old : SessionsState D) (store : StoreState D) (places : Places)
    (view_is : ◌≡◌ {A = SessionsState D} (record { store = store; places = places }) old) (index id : ℕ)
    (index_is : index ≡ id) where
  pub found_at : id < length old.places → (o : Option Session) → o ≡ get_or places index o
      → slice_get old.places id ≡ Some o
  found_at within o is = slice_get_read old.places (length old.places) id o refl within
      (is ∙ ap (λ (x : SessionsState D). get_or x.places index o) view_is
      ∙ ap (λ (k : ℕ). get_or old.places k o) index_is)

  pub same_new : (next : StoreState D) (now : Option Session)
      → ◌≡◌ {A = SessionsState D} (record { store = next; places = set places index now })
      (record { store = next; places = set old.places id now })
  same_new next now =
      let with_places : Places → SessionsState D = λ q. record { store = next; places = q } in
      ap with_places (ap (λ (x : SessionsState D). set x.places index now) view_is
      ∙ ap (λ (k : ℕ). set old.places k now) index_is)

  pub same_alone : (now : Option Session)
      → ◌≡◌ {A = SessionsState D} (record { store = store; places = set places index now }) (with_place old id now)
  same_alone now =
      let on_store : StoreState D → SessionsState D = λ x. record { store = x; places = set old.places id now } in
      same_new store now ∙ ap on_store (ap (λ (x : SessionsState D). x.store) view_is)

same_place : {D : Type 0} (s : SessionsState D) (id : ℕ) (o : Option Session) → slice_get s.places id ≡ Some o
    → with_place s id o ≡ s
same_place {D} s id o here = let with_places : Places → SessionsState D = λ q. record {
  store = s.store;
  places = q;
} in ap with_places (put_back s.places id o here)

module _ {D : Type 0} (state : D → DiskState) (sound : (disk : D) → IsObservable (state disk) → IsSound (state disk))
    (old : SessionsState D) (sized : length old.places ≡ live_limit) (keeps : KeepsTree state old.store)
    (runs : old.store.is_stopped ≡ false) where
  -- what a call does that the sessions alone answer
  abbrev pub CallsAlone : {A : Type 0} → SessionCall → (A → SessionAnswer) → SessionsState D
      → Result A SessionFault → Type 0
  CallsAlone call answer_of new result = CallsSessions state call answer_of old new result
      × IsOfSessions call answer_of old new result

  pub turned : {A : Type 0} (call : SessionCall) (answer_of : A → SessionAnswer) (id : ℕ) (o new : Option Session)
      → slice_get old.places id ≡ Some o → new ≡ o → (result : Result A SessionFault) (a : SessionAnswer)
      → answer_in answer_of result ≡ Some a → turned_by (Some a) ≡ Some a → turned_away old.places call ≡ Some a
      → CallsAlone call answer_of (with_place old id new) result
  turned call answer_of id o new here same result a is turns away =
      subst (λ (s : SessionsState D). CallsAlone call answer_of s result)
      (sym (ap (with_place old id) same ∙ same_place old id o here)) (
        calls_turned state call answer_of old sized sound keeps runs result a is turns away,
        alone_turned state call
            answer_of old sized sound keeps runs result a is turns away,
      )

  -- a session begins
  pub begin_crowded : position is_none old.places ≡ None → CallsAlone Begin Began old (Err causes.Crowded)
  begin_crowded none =
      let away = ap crowded_of none in (
        calls_turned state Begin Began old sized sound keeps runs
            (Err causes.Crowded) Crowded refl refl away,
        alone_turned state Begin Began old sized sound keeps runs
            (Err causes.Crowded) Crowded refl refl away,
      )

  pub begin_free : (k : ℕ) → position is_none old.places ≡ Some k
      → CallsAlone Begin Began (with_place old k (Some new_session)) (Ok k)
  begin_free k found =
      let new = with_place old k (Some new_session) in
      let away = ap crowded_of found in
      let least = ap Began (cond_some (nat_lt (position_or_len is_none old.places) (length old.places))
      (position_or_len is_none old.places) k found).1 in (
        calls_served Begin Began old new runs away k refl refl state sized (λ o. least)
            (unasked state sound old.store keeps runs old.store.tree Any tt refl tt),
        alone_served Begin Began old new runs away k refl refl refl refl least,
      )

  -- a change is staged in the session of a place
  module _ (id : ℕ) (change : Command) where
    stage_session : (session : Session) → slice_get old.places id ≡ Some (Some session)
        → (next : Session) (result : Result (Unit {0}) SessionFault)
        → TakesNote (length session.staged) session (record {
          asked = session.asked;
          staged = session.staged ++ change ∷ [];
        }) next result
        → CallsAlone (Stage id change) (λ value. Done) (with_place old id (Some next)) result
    stage_session session here next (Ok value) takes =
        let new = with_place old id (Some next) in
        let away = room old.places id session here (λ s. length s.staged) takes.0 in
        let noted : Session → Places =
        λ s. set old.places id (Some (record { asked = s.asked; staged = s.staged ++ change ∷ [] })) in
        let put : Session → Places = λ s. set old.places id (Some s) in
        let places = ap put takes.1 ∙ sym (ap noted (the_is old.places id session here)) in (
          calls_served (Stage id change) (λ (u : Unit {0}). Done) old new runs away value refl places state sized
              (λ o. refl) (unasked state sound old.store keeps runs old.store.tree Any tt refl tt),
          alone_served (Stage id change) (λ (u : Unit {0}). Done) old new runs away value refl places refl refl refl,
        )
    stage_session session here next (Err causes.Stopped) takes = absurd takes
    stage_session session here next (Err causes.Crowded) takes = absurd takes
    stage_session session here next (Err causes.Unknown) takes = absurd takes
    stage_session session here next (Err causes.Many) takes =
        turned (Stage id change) (λ (u : Unit {0}). Done) id (Some session) (Some next) here
        (ap (λ (s : Session). Some s) takes.1) (Err causes.Many) Many refl refl
        (full old.places id session here (λ s. length s.staged) takes.0)
    stage_session session here next (Err causes.Disk) takes = absurd takes
    stage_session session here next (Err causes.NoMemory) takes =
        let new = with_place old id (Some next) in
        let away = room old.places id session here (λ s. length s.staged) takes.0 in
        let put : Session → Places = λ s. set old.places id (Some s) in
        let places = ap put takes.1 ∙ put_back old.places id (Some session) here in (
          calls_failed (Stage id change) (λ (u : Unit {0}). Done) old new runs away apply.NoMemory places state sized
              (runs_out state sound old.store keeps runs old.store.tree Any Any old.store tt refl
              (unasked state sound old.store keeps runs old.store.tree Any tt refl tt)),
          alone_failed (Stage id change) (λ (u : Unit {0}). Done) old new runs away apply.NoMemory places refl
              (λ e. absurd (cc)) refl,
        )

    pub stage_place : (o now : Option Session) → slice_get old.places id ≡ Some o
        → (result : Result (Unit {0}) SessionFault) → StagesIn change o now result
        → CallsAlone (Stage id change) (λ value. Done) (with_place old id now) result
    stage_place None now here result stages =
        subst (λ (r : Result (Unit {0}) SessionFault).
        CallsAlone (Stage id change) (λ value. Done) (with_place old id now) r) (sym stages.0)
        (turned (Stage id change) (λ (u : Unit {0}). Done) id None now here stages.1 (Err causes.Unknown) NoSession refl
        refl (ap (λ (p : Option Session). many_of p (λ s. length s.staged)) (at_place old.places id None here)))
    stage_place (Some session) now here result stages =
        subst (λ (p : Option Session). CallsAlone (Stage id change) (λ value. Done) (with_place old id p) result)
        (sym stages.1) (stage_session session here stages.0 result stages.2)

  -- the session of a place ends
  pub leave_place : (id : ℕ) (o now : Option Session) → slice_get old.places id ≡ Some o
      → (result : Result (Unit {0}) SessionFault) → LeavesIn o now result
      → CallsAlone (Leave id) (λ value. Done) (with_place old id now) result
  leave_place id None now here result leaves =
      subst (λ (r : Result (Unit {0}) SessionFault). CallsAlone (Leave id) (λ value. Done) (with_place old id now) r)
      (sym leaves.0)
      (turned (Leave id) (λ (u : Unit {0}). Done) id None now here leaves.1 (Err causes.Unknown) NoSession refl refl
      (ap unknown_of (at_place old.places id None here)))
  leave_place id (Some session) now here result leaves =
      let new = with_place old id now in
      let away = ap unknown_of (at_place old.places id (Some session) here) in
      let places = ap (set old.places id) leaves.1 in
      subst (λ (r : Result (Unit {0}) SessionFault). CallsAlone (Leave id) (λ value. Done) (with_place old id now) r)
      (sym leaves.0) (
        calls_served (Leave id) (λ (u : Unit {0}). Done) old new runs away tt refl places state sized (λ o. refl)
            (unasked state sound old.store keeps runs old.store.tree Any tt refl tt),
        alone_served (Leave id) (λ (u : Unit {0}). Done) old new runs away tt refl places refl refl refl,
      )

  -- a question is asked in the session of a place
  module _ (id : ℕ) (question : Command) (stays : (step old.store.tree question old.store.params).tree ≡ old.store.tree)
      (store : StoreState D) where
    abbrev replies : Reply → SessionAnswer
    replies reply = Replied (reply_of reply)

    abbrev asked : Option Session → SessionsState D
    asked now = record { store = store; places = set old.places id now }

    IsReply : Reply → Type 0
    IsReply reply = reply_of reply ≡ (step old.store.tree question old.store.params).reply

    answers : (result : Result Reply ApplyFault) → Applies state question old.store store result
        → StepsStore state old.store.tree IsReply old.store store result
    unfolding IsReply
    answers result applies =
        steps_to state (step old.store.tree question old.store.params).tree old.store.tree (λ reply. reply_of reply
        ≡ (step old.store.tree question old.store.params).reply) old.store store result (λ o. stays) applies

    module _ (session : Session) (here : slice_get old.places id ≡ Some (Some session)) (now : Option Session) where
      failed : (fault : ApplyFault) → length session.asked < note_limit → now ≡ Some session
          → StepsStore state old.store.tree Any old.store store (Err fault)
          → CallsSessions state (Ask id question) replies old (asked now) (Err (session_fault_of fault))
      failed fault few same steps =
          calls_failed (Ask id question) replies old (asked now) runs
          (room old.places id session here (λ s. length s.asked) few) fault
          (ap (set old.places id) same ∙ put_back old.places id (Some session) here) state sized steps

      ask_session : (result : Result Reply SessionFault) → AsksSession state question old.store store session now result
          → CallsSessions state (Ask id question) replies old (asked now) result
      unfolding IsReply
      ask_session (Ok reply) asks =
          let noted : Session → Places =
          λ s. set old.places id (Some (record {
            asked = s.asked ++ (question, reply_of reply) ∷ [];
            staged = s.staged;
          })) in
          calls_served (Ask id question) replies old (asked now) runs
          (room old.places id session here (λ s. length s.asked) asks.0) reply refl
          (ap (set old.places id) asks.2 ∙ sym (ap noted (the_is old.places id session here))) state sized
          (λ o. ap Replied (sym (asks.1.answer o)))
          (steps_done state old.store.tree IsReply old.store store (Ok reply) (answers (Ok reply) asks.1))
      ask_session (Err causes.Stopped) asks = absurd (false≢true (sym runs ∙ asks.1.stopped.0 refl))
      ask_session (Err causes.Crowded) asks = absurd asks
      ask_session (Err causes.Unknown) asks = absurd asks
      ask_session (Err causes.Many) asks =
          subst (λ (x : StoreState D). CallsSessions state (Ask id question) replies old
          (record { store = x; places = set old.places id now }) (Err causes.Many)) (sym asks.1)
          (turned (Ask id question) replies id (Some session) now here asks.2 (Err causes.Many) Many refl refl
          (full old.places id session here (λ s. length s.asked) asks.0)).0
      ask_session (Err causes.Disk) asks =
          failed apply.Disk asks.0 asks.2 (steps_done state old.store.tree IsReply old.store store (Err apply.Disk)
          (answers (Err apply.Disk) asks.1))
      ask_session (Err causes.NoMemory) asks =
          failed apply.NoMemory asks.0 asks.2
          (⊎_elim (λ applies. steps_done state old.store.tree IsReply old.store store (Err apply.NoMemory)
          (answers (Err apply.NoMemory) applies))
          (λ answered. runs_out state sound old.store keeps runs old.store.tree IsReply Any store answered.0 refl
          (answers (Ok answered.0) answered.1)) asks.1)

    pub ask_place : (o now : Option Session) → slice_get old.places id ≡ Some o → (result : Result Reply SessionFault)
        → AsksIn state question old.store store o now result
        → CallsSessions state (Ask id question) (λ reply. Replied (reply_of reply)) old
        (record { store = store; places = set old.places id now }) result
    ask_place None now here result asks =
        subst (λ (r : Result Reply SessionFault). CallsSessions state (Ask id question) replies old (asked now) r)
        (sym asks.0)
        (subst (λ (x : StoreState D). CallsSessions state (Ask id question) replies old
        (record { store = x; places = set old.places id now }) (Err causes.Unknown)) (sym asks.1)
        (turned (Ask id question) replies id None now here asks.2 (Err causes.Unknown) NoSession refl refl
        (ap (λ (p : Option Session). many_of p (λ s. length s.asked)) (at_place old.places id None here))).0)
    ask_place (Some session) now here result asks = ask_session session here now result asks
