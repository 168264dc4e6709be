-- Commits: questions that are asked again, and the changes behind them.
use Rattle.std.proofs.Common.{◌≡◌, ℕ, suc, ◌+◌, ◌≤◌, true, false, List, ◌∷◌, length, drop, slice_get, set, Option, None}
use Rattle.std.proofs.Common.{Some, Result, Ok, Err, refl, sym, ap, subst, ◌∙◌, arith}
use Rattle.std.proofs.Math.Seq.{drop-cons}
use Rattle.std.proofs.Math.ListN.{drop_of_length-le}
use Rattle.std.proofs.lemmas.Option.{get_or_from_slice_get, slice_get_within}
use Rattle.std.specs.Option.{option_map, option_flatten}
use Rattle.store_model.specs.declared.refusal.Refusal.{Refusal}
use Rattle.store_model.specs.Parameters.{Parameters}
use Rattle.store_model.specs.Trees.{Tree}
use Rattle.store_model.specs.Commands as model
use Rattle.store_model.specs.Commands.{Command}
use Rattle.store_model.specs.Steps.{step}
use Rattle.disk_model.specs.DiskState.{DiskState, IsObservable, IsSound}
use Rattle.image_check.specs.declared.fault.ApplyFault.{ApplyFault}
use Rattle.image_check.specs.declared.fault.ApplyFault.TheVariants as apply
use Rattle.script_lines.specs.declared.reply.Reply.{Reply}
use Rattle.script_lines.specs.declared.session.Question.{Question}
use Rattle.script_lines.specs.Replies.{reply_of}
use Rattle.script_lines.specs.Sessions.{SessionAnswer, same_reply, question_of}
use Rattle.script_lines.specs.Sessions.SessionCall.{Commit}
use Rattle.script_lines.specs.Sessions.SessionAnswer.{Done, Conflicting, RefusedAt, NoSession}
use Rattle.staged_tree.specs.declared.group.GroupAnswer.{GroupAnswer}
use Rattle.staged_tree.specs.declared.group.GroupAnswer.TheVariants as groups
use Rattle.staged_tree.specs.Groups.{refused_in, group_tree, IsGroupAnswer}
use Rattle.store_core.specs.StoreState.{StoreState}
use Rattle.store_core.specs.StoreCalls.{StepsStore, Applies, AppliesAll}
use Rattle.session_core.specs.declared.committed.Committed.{Committed}
use Rattle.session_core.specs.declared.committed.Committed.TheVariants as committed
use Rattle.session_core.specs.declared.fault.SessionFault.{SessionFault}
use Rattle.session_core.specs.declared.fault.SessionFault.TheVariants as causes
use Rattle.session_core.specs.Machine.{Note, Session, Places, the_session, unknown_of, turned_away, first_difference}
use Rattle.session_core.specs.Machine.{commit_answer, tree_after_call, places_after, live_limit}
use Rattle.session_core.specs.SessionCalls.{CallsSessions, committed_answer, session_fault_of, turned_by}
use Rattle.session_core.specs.SessionState.{SessionsState}
use Rattle.session_core.specs.SessionSteps.{KeepsTree, difference_at, committed_tree, AsksAgain, CommitsSession}
use Rattle.session_core.specs.SessionSteps.{CommitsIn}
use Rattle.session_core.proofs.CallLemmas.{calls_served, calls_failed, served_tree}
use Rattle.session_core.proofs.PlaceCalls.{put_back, the_is, turned}
use Rattle.session_core.proofs.QuestionLemmas.{question_keeps}
use Rattle.session_core.proofs.StoreLemmas.{Any, done, steps_fail, steps_ok, steps_error, steps_done, steps_to}
use Rattle.session_core.proofs.StoreLemmas.{steps_behind, tree_stays, unasked}

-- a difference, behind so many questions more
abbrev pub later_by : ℕ → Option (ℕ × model.Reply × model.Reply) → Option (ℕ × model.Reply × model.Reply)
later_by n difference =
    option_map (λ (found : ℕ × model.Reply × model.Reply). (n + found.0, found.1, found.2)) difference

-- the first of these questions were answered as is noted, and nothing else was done
pub record PassesNotes {D : Type 0} (state : D → DiskState) (notes : List Note) (passed : ℕ)
    (old new : StoreState D) : Type 0 where
  pub steps : StepsStore state old.tree Any old new (Ok tt)
  pub same : IsObservable (state old.disk) → first_difference old.params old.tree notes
      ≡ later_by passed (first_difference old.params old.tree (drop passed notes))

-- ---- one question more

difference_is : (p : Parameters) (t : Tree) (note : Note) (notes : List Note)
    → same_reply note.1 (step t note.0 p).reply ≡ false
    → first_difference p t (note ∷ notes) ≡ Some (0, note.1, (step t note.0 p).reply)
unfolding first_difference
difference_is p t note notes other = rw other refl

difference_later : (p : Parameters) (t : Tree) (note : Note) (notes : List Note)
    (o : Option (ℕ × model.Reply × model.Reply)) → first_difference p t notes ≡ o
    → same_reply note.1 (step t note.0 p).reply ≡ true → first_difference p t (note ∷ notes) ≡ later_by 1 o
unfolding first_difference
difference_later p t note notes None is same = rw same (rw is refl)
difference_later p t note notes (Some found) is same =
    rw same (rw is (ap (λ (n : ℕ). Some (n, found.1, found.2)) (omega arith)))

later_none : (o : Option (ℕ × model.Reply × model.Reply)) → o ≡ later_by 0 o
later_none None = refl
later_none (Some found) = ap (λ (n : ℕ). Some (n, found.1, found.2)) (omega arith)

later_more : (n : ℕ) (o : Option (ℕ × model.Reply × model.Reply)) → later_by n (later_by 1 o) ≡ later_by (n + 1) o
later_more n None = refl
later_more n (Some found) = ap (λ (k : ℕ). Some (k, found.1, found.2)) (omega arith)

drop_at : (notes : List Note) (i : ℕ) (note : Note) → slice_get notes i ≡ Some note
    → drop i notes ≡ note ∷ drop (i + 1) notes
drop_at notes i note here =
    let more : suc i ≡ i + 1 = omega arith in
    drop-cons notes i note (slice_get_within notes i note here)
    ∙ ap (λ (x : Note). x ∷ drop (suc i) notes) (get_or_from_slice_get notes i note note here)
    ∙ ap (λ (k : ℕ). note ∷ drop k notes) more

module _ (p : Parameters) (t : Tree) (notes : List Note) (i : ℕ) (note : Note) (here : slice_get notes i ≡ Some note)
    (passed : first_difference p t notes ≡ later_by i (first_difference p t (drop i notes))) where
  -- this one is answered as is noted
  same_more : same_reply note.1 (step t note.0 p).reply ≡ true
      → first_difference p t notes ≡ later_by (i + 1) (first_difference p t (drop (i + 1) notes))
  same_more same =
      passed ∙ ap (λ (l : List Note). later_by i (first_difference p t l)) (drop_at notes i note here)
      ∙ ap (later_by i) (difference_later p t note (drop (i + 1) notes)
      (first_difference p t (drop (i + 1) notes)) refl same)
      ∙ later_more i (first_difference p t (drop (i + 1) notes))

  -- it is answered otherwise
  differs_here : same_reply note.1 (step t note.0 p).reply ≡ false → (now : model.Reply) → now ≡ (step t note.0 p).reply
      → difference_at notes now (Some i) ≡ first_difference p t notes
  differs_here other now is =
      let at : Note → ℕ × model.Reply × model.Reply = λ n. (i, n.1, now) in
      let found : ℕ → model.Reply → Option (ℕ × model.Reply × model.Reply) = λ n r. Some (n, note.1, r) in
      ap (option_map at) here ∙ ap (found i) is ∙ ap (λ (n : ℕ). found n (step t note.0 p).reply) (omega arith)
      ∙ sym (passed ∙ ap (λ (l : List Note). later_by i (first_difference p t l)) (drop_at notes i note here)
      ∙ ap (later_by i) (difference_is p t note (drop (i + 1) notes) other))

-- none of them is left
none_left : (p : Parameters) (t : Tree) (notes : List Note) (i : ℕ) → length notes ≤ i
    → first_difference p t notes ≡ later_by i (first_difference p t (drop i notes)) → first_difference p t notes ≡ None
unfolding first_difference
none_left p t notes i all passed = passed ∙ ap (λ (l : List Note). later_by i (first_difference p t l))
    (drop_of_length-le notes all)

-- ---- what a commit answers

module _ (p : Parameters) (t : Tree) (session : Session) where
  told_conflict : (found : ℕ × model.Reply × model.Reply) → first_difference p t session.asked ≡ Some found
      → commit_answer p t session ≡ Conflicting found.0 found.1 found.2
  told_conflict found is = rw is refl

  told_done : first_difference p t session.asked ≡ None → refused_in p t session.staged ≡ None
      → commit_answer p t session ≡ Done
  told_done same all = rw (same, all) refl

  told_refused : (refused : ℕ × Refusal) → first_difference p t session.asked ≡ None
      → refused_in p t session.staged ≡ Some refused → commit_answer p t session ≡ RefusedAt refused.0 refused.1
  told_refused refused same is = rw (same, is) refl

  tree_conflict : (found : ℕ × model.Reply × model.Reply) → first_difference p t session.asked ≡ Some found
      → committed_tree p t session ≡ t
  tree_conflict found is = rw is refl

  tree_whole : first_difference p t session.asked ≡ None → committed_tree p t session ≡ group_tree p t session.staged
  tree_whole same = rw same refl

  tree_refused : (refused : ℕ × Refusal) → refused_in p t session.staged ≡ Some refused
      → group_tree p t session.staged ≡ t
  tree_refused refused is = rw is refl

  -- it is the tree that the machine has then
  module _ (places : Places) (id : ℕ) (here : the_session places id ≡ session) where
    tree_behind : SessionAnswer → Tree
    tree_behind a = tree_after_call p (record { tree = t; places = places }) (Commit id) a

    by_changes : (o : Option (ℕ × Refusal)) → refused_in p t session.staged ≡ o
        → first_difference p t session.asked ≡ None
        → tree_behind (commit_answer p t session) ≡ committed_tree p t session
    unfolding tree_behind
    by_changes None all same = ap tree_behind (told_done same all) ∙ ap (λ (s : Session). group_tree p t s.staged) here
        ∙ sym (tree_whole same)
    by_changes (Some refused) is same = ap tree_behind (told_refused refused same is) ∙ sym (tree_refused refused is)
        ∙ sym (tree_whole same)

    by_questions : (o : Option (ℕ × model.Reply × model.Reply)) → first_difference p t session.asked ≡ o
        → tree_behind (commit_answer p t session) ≡ committed_tree p t session
    unfolding tree_behind
    by_questions None same = by_changes (refused_in p t session.staged) refl same
    by_questions (Some found) is = ap tree_behind (told_conflict found is) ∙ sym (tree_conflict found is)

    pub tree_committed : tree_after_call p (record { tree = t; places = places }) (Commit id)
        (commit_answer p t session) ≡ committed_tree p t session
    unfolding tree_behind
    tree_committed = by_questions (first_difference p t session.asked) refl

module _ {D : Type 0} (state : D → DiskState) (sound : (disk : D) → IsObservable (state disk) → IsSound (state disk))
    (old : StoreState D) (keeps : KeepsTree state old) (runs : old.is_stopped ≡ false) where
  pub passes_none : (notes : List Note) → PassesNotes state notes 0 old old
  passes_none notes = record {
    steps = unasked state sound old keeps runs old.tree Any tt refl tt;
    same = λ o. later_none (first_difference old.params old.tree notes);
  }

  -- behind a step that leaves the tree, a step is one from the first tree on
  moved : {A : Type 0} (next : Parameters → Tree → Tree) (IsAnswer : Parameters → Tree → A → Type 0)
      (mid new : StoreState D) → StepsStore state old.tree Any old mid (Ok tt) → (result : Result A ApplyFault)
      → StepsStore state (next mid.params mid.tree) (IsAnswer mid.params mid.tree) mid new result
      → StepsStore state (next old.params old.tree) (IsAnswer old.params old.tree) old new result
  moved next IsAnswer mid new first result then =
      steps_behind state sound old keeps runs (next old.params old.tree) Any
      (IsAnswer old.params old.tree) mid new tt first result
      (subst (λ (t : Tree). StepsStore state (next old.params t) (IsAnswer old.params t) mid new result)
      (tree_stays state Any old mid (Ok tt) first)
      (subst (λ (p : Parameters). StepsStore state (next p mid.tree) (IsAnswer p mid.tree) mid new result)
      first.params then))

  -- a question more
  module _ (notes : List Note) (i : ℕ) (mid : StoreState D) (passes : PassesNotes state notes i old mid) where
    module _ (question : Question) (new : StoreState D) where
      IsReply : Parameters → Tree → Reply → Type 0
      IsReply p t reply = reply_of reply ≡ (step t (question_of question) p).reply

      asked : (result : Result Reply ApplyFault) → Applies state (question_of question) mid new result
          → StepsStore state old.tree (IsReply old.params old.tree) old new result
      unfolding IsReply
      asked result applies =
          steps_to state (step old.tree (question_of question) old.params).tree old.tree (IsReply old.params old.tree)
          old new result (λ o. question_keeps old.tree question old.params)
          (moved (λ p t. (step t (question_of question) p).tree) IsReply mid new passes.steps result applies)

      pub asked_fails : (now : model.Reply) (fault : ApplyFault)
          → Applies state (question_of question) mid new (Err fault) → AsksAgain state notes now old new (Err fault)
      asked_fails now fault applies =
          steps_error state old.tree (IsReply old.params old.tree)
          (λ found. difference_at notes now found ≡ first_difference old.params old.tree notes) old new fault
          (asked (Err fault) applies)

      module _ (noted : model.Reply) (here : slice_get notes i ≡ Some (question_of question, noted)) (reply : Reply)
          (applies : Applies state (question_of question) mid new (Ok reply)) where
        pub passes_more : same_reply noted (reply_of reply) ≡ true → PassesNotes state notes (i + 1) old new
        unfolding IsReply
        passes_more same =
            let steps = asked (Ok reply) applies in
            record {
              steps = steps_done state old.tree (IsReply old.params old.tree) old new (Ok reply) steps;
              same = λ o. same_more old.params old.tree notes i (question_of question, noted) here (passes.same o)
                  (ap (same_reply noted) (sym (steps.answer o)) ∙ same);
            }

        pub asked_differs : same_reply noted (reply_of reply) ≡ false
            → AsksAgain state notes (reply_of reply) old new (Ok (Some i))
        unfolding IsReply
        asked_differs other =
            steps_ok state old.tree (IsReply old.params old.tree)
            (λ found. difference_at notes (reply_of reply) found ≡ first_difference old.params old.tree notes) old
            new reply (Some i)
            (λ o is. differs_here old.params old.tree notes i (question_of question, noted) here (passes.same o)
            (ap (same_reply noted) (sym is) ∙ other) (reply_of reply) is)
            (asked (Ok reply) applies)

    pub asked_all : length notes ≤ i → (now : model.Reply) → AsksAgain state notes now old mid (Ok None)
    asked_all all now =
        steps_ok state old.tree Any (λ found. difference_at notes now found
        ≡ first_difference old.params old.tree notes) old mid tt None
        (λ o is. sym (none_left old.params old.tree notes i all (passes.same o))) passes.steps

  -- ---- a session

  -- what was asked again, by the notes of a session
  pub asked_notes : (notes noted : List Note) → notes ≡ noted
      → (new : StoreState D) (now : model.Reply) (result other : Result (Option ℕ) ApplyFault) → result ≡ other
      → AsksAgain state notes now old new result → AsksAgain state noted now old new other
  asked_notes notes noted same new now result other is asks =
      subst (λ (l : List Note). AsksAgain state l now old new other) same
      (subst (λ (r : Result (Option ℕ) ApplyFault). AsksAgain state notes now old new r) is asks)

  pub changed_all : (changes staged : List Command) → changes ≡ staged
      → (mid new : StoreState D) (result other : Result GroupAnswer ApplyFault) → result ≡ other
      → AppliesAll state changes mid new result → AppliesAll state staged mid new other
  changed_all changes staged same mid new result other is applies =
      subst (λ (l : List Command). AppliesAll state l mid new other) same
      (subst (λ (r : Result GroupAnswer ApplyFault). AppliesAll state changes mid new r) is applies)

  module _ (session : Session) where
    IsCommitted : Committed → Type 0
    IsCommitted committed = committed_answer committed ≡ commit_answer old.params old.tree session

    -- a question is answered otherwise
    pub commits_conflict : (new : StoreState D) (number : ℕ) (was now : Reply) (question : Command)
        → slice_get session.asked number ≡ Some (question, reply_of was)
        → AsksAgain state session.asked (reply_of now) old new (Ok (Some number))
        → CommitsSession state session old new (Ok (committed.Conflict number was now))
    unfolding IsCommitted
    commits_conflict new number was now question here asks =
        let at : Note → ℕ × model.Reply × model.Reply = λ note. (number, note.1, reply_of now) in
        let told : IsObservable (state old.disk)
        → first_difference old.params old.tree session.asked ≡ Some (number, reply_of was, reply_of now) =
        λ o. sym (asks.answer o) ∙ ap (option_map at) here in
        steps_to state old.tree (committed_tree old.params old.tree session) IsCommitted old new
        (Ok (committed.Conflict number was now))
        (λ o. sym (tree_conflict old.params old.tree session (number, reply_of was, reply_of now) (told o)))
        (steps_ok state old.tree (λ found. difference_at session.asked (reply_of now) found
        ≡ first_difference old.params old.tree session.asked) IsCommitted old new (Some number)
        (committed.Conflict number was now)
        (λ o is. sym (told_conflict old.params old.tree session (number, reply_of was, reply_of now) (told o))) asks)

    -- a fault came in a question
    pub commits_unasked : (new : StoreState D) (now : model.Reply) (fault : ApplyFault)
        → AsksAgain state session.asked now old new (Err fault) → CommitsSession state session old new (Err fault)
    unfolding IsCommitted
    commits_unasked new now fault asks =
        steps_fail state (committed_tree old.params old.tree session) IsCommitted old new fault
        (steps_error state old.tree (λ found. difference_at session.asked now found
        ≡ first_difference old.params old.tree session.asked) IsCommitted old new fault asks)

    -- all are answered as they were, and the changes are carried out, or one is refused, or the store fails
    module _ (mid new : StoreState D) (now : model.Reply)
        (asks : AsksAgain state session.asked now old mid (Ok None)) where
      same : IsObservable (state old.disk) → first_difference old.params old.tree session.asked ≡ None
      same o = sym (asks.answer o)

      changed : (result : Result GroupAnswer ApplyFault) → AppliesAll state session.staged mid new result
          → StepsStore state (committed_tree old.params old.tree session)
          (IsGroupAnswer old.params old.tree session.staged) old new result
      changed result applies =
          steps_to state (group_tree old.params old.tree session.staged) (committed_tree old.params old.tree session)
          (IsGroupAnswer old.params old.tree session.staged) old new result
          (λ o. sym (tree_whole old.params old.tree session (same o)))
          (moved (λ p t. group_tree p t session.staged) (λ p t. IsGroupAnswer p t session.staged) mid new
          (steps_done state old.tree (λ found. difference_at session.asked now found
          ≡ first_difference old.params old.tree session.asked) old mid (Ok None) asks) result applies)

      pub commits_done : AppliesAll state session.staged mid new (Ok groups.Done)
          → CommitsSession state session old new (Ok committed.Ok)
      unfolding IsCommitted
      commits_done applies =
          steps_ok state (committed_tree old.params old.tree session) (IsGroupAnswer old.params old.tree session.staged)
          IsCommitted old new groups.Done committed.Ok
          (λ o is. sym (told_done old.params old.tree session (same o) (sym is))) (changed (Ok groups.Done) applies)

      pub commits_refused : (index : ℕ) (refusal : Refusal)
          → AppliesAll state session.staged mid new (Ok (groups.Refused index refusal))
          → CommitsSession state session old new (Ok (committed.Refused index refusal))
      unfolding IsCommitted
      commits_refused index refusal applies =
          steps_ok state (committed_tree old.params old.tree session) (IsGroupAnswer old.params old.tree session.staged)
          IsCommitted old new (groups.Refused index refusal) (committed.Refused index refusal)
          (λ o is. sym (told_refused old.params old.tree session (index, refusal) (same o) (sym is)))
          (changed (Ok (groups.Refused index refusal)) applies)

      pub commits_fails : (fault : ApplyFault) → AppliesAll state session.staged mid new (Err fault)
          → CommitsSession state session old new (Err fault)
      unfolding IsCommitted
      commits_fails fault applies = steps_error state (committed_tree old.params old.tree session)
          (IsGroupAnswer old.params old.tree session.staged) IsCommitted old new fault (changed (Err fault) applies)

-- ---- in the session of a place

module _ {D : Type 0} (state : D → DiskState) (sound : (disk : D) → IsObservable (state disk) → IsSound (state disk))
    (old : SessionsState D) (sized : length old.places ≡ live_limit) (keeps : KeepsTree state old.store)
    (runs : old.store.is_stopped ≡ false) (id : ℕ) (store : StoreState D) where
  ends : (c : Committed) (places : Places) → set places id None ≡ places_after places (Commit id) (committed_answer c)
  ends committed.Ok places = refl
  ends (committed.Conflict k was now) places = refl
  ends (committed.Refused k refusal) places = refl

  serves : (c : Committed) → turned_by (Some (committed_answer c)) ≡ None
  serves committed.Ok = refl
  serves (committed.Conflict k was now) = refl
  serves (committed.Refused k refusal) = refl

  abbrev committing : Option Session → SessionsState D
  committing now = record { store = store; places = set old.places id now }

  module _ (session : Session) (here : slice_get old.places id ≡ Some (Some session)) (now : Option Session) where
    away : turned_away old.places (Commit id) ≡ None
    away = ap (λ (o : Option (Option Session)). unknown_of (option_flatten o)) here

    IsCommittedHere : Committed → Type 0
    IsCommittedHere c = committed_answer c ≡ commit_answer old.store.params old.store.tree session

    answers_here : commit_answer old.store.params old.store.tree (the_session old.places id)
        ≡ commit_answer old.store.params old.store.tree session
    answers_here = ap (commit_answer old.store.params old.store.tree) (the_is old.places id session here)

    tree_here : committed_tree old.store.params old.store.tree session
        ≡ served_tree (Commit id) committed_answer old (committing now) runs away
    tree_here =
        let behind : SessionAnswer → Tree =
        λ a. tree_after_call old.store.params (record { tree = old.store.tree; places = old.places }) (Commit id) a
        in
        sym (ap behind answers_here ∙ tree_committed old.store.params old.store.tree session old.places id
        (the_is old.places id session here))

    done_here : (result : Result Committed ApplyFault) → CommitsSession state session old.store store result
        → StepsStore state (served_tree (Commit id) committed_answer old (committing now) runs away) Any
        old.store store (done result)
    unfolding IsCommittedHere
    done_here result commits =
        steps_to state (committed_tree old.store.params old.store.tree session)
        (served_tree (Commit id) committed_answer old (committing now) runs away) Any old.store store
        (done result) (λ o. tree_here)
        (steps_done state (committed_tree old.store.params old.store.tree session) IsCommittedHere
        old.store store result commits)

    failed : (fault : ApplyFault) → CommitsSession state session old.store store (Err fault) → now ≡ Some session
        → CallsSessions state (Commit id) committed_answer old (committing now) (Err (session_fault_of fault))
    failed fault commits same =
        calls_failed (Commit id) committed_answer old (committing now) runs away fault
        (ap (set old.places id) same ∙ put_back old.places id (Some session) here) state sized
        (done_here (Err fault) commits)

    commit_session : (result : Result Committed SessionFault)
        → CommitsIn state old.store store (Some session) now result
        → CallsSessions state (Commit id) committed_answer old (committing now) result
    commit_session (Ok c) commits =
        calls_served (Commit id) committed_answer old (committing now) runs away c (serves c)
        (ap (set old.places id) commits.1 ∙ ends c old.places) state sized
        (λ o. answers_here ∙ sym (commits.0.answer o)) (done_here (Ok c) commits.0)
    commit_session (Err causes.Stopped) commits = failed apply.Stopped commits.0 commits.1
    commit_session (Err causes.Crowded) commits = absurd commits
    commit_session (Err causes.Unknown) commits = absurd commits
    commit_session (Err causes.Many) commits = absurd commits
    commit_session (Err causes.Disk) commits = failed apply.Disk commits.0 commits.1
    commit_session (Err causes.NoMemory) commits = failed apply.NoMemory commits.0 commits.1

  pub commit_place : (o now : Option Session) → slice_get old.places id ≡ Some o
      → (result : Result Committed SessionFault) → CommitsIn state old.store store o now result
      → CallsSessions state (Commit id) committed_answer old (committing now) result
  commit_place None now here result commits =
      subst (λ (r : Result Committed SessionFault). CallsSessions state (Commit id) committed_answer old
      (committing now) r) (sym commits.0)
      (subst (λ (x : StoreState D). CallsSessions state (Commit id) committed_answer old
      (record { store = x; places = set old.places id now }) (Err causes.Unknown)) (sym commits.1)
      (turned state sound old sized keeps runs (Commit id) committed_answer id None now here
      commits.2 (Err causes.Unknown) NoSession refl refl
      (ap (λ (p : Option (Option Session)). unknown_of (option_flatten p)) here)).0)
  commit_place (Some session) now here result commits = commit_session session here now result commits
