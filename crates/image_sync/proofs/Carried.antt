-- Commands of a plan, carried out as they come.
use Rattle.std.proofs.Common.{◌≡◌, ◌⊎◌, inl, inr, ℕ, suc, ◌≤◌, List, [], ◌∷◌, ◌++◌, map, take, drop, length, Bool, true}
use Rattle.std.proofs.Common.{false, cond, nat_lt, Option, Some, None, Ok, Err, refl, sym, ap, subst, ◌∙◌}
use Rattle.std.proofs.Common.{append_assoc, ltb-true}
use Rattle.std.specs.Option.{option_map, option_or}
use Rattle.std.proofs.lemmas.Bool.{false≢true}
use Rattle.std.proofs.lemmas.Option.{same_Some}
use Rattle.std.proofs.lemmas.List.{append-nil, map-append, take_all, take-append-drop}
use Rattle.store_model.specs.declared.refusal.Refusal.{Refusal}
use Rattle.store_model.specs.declared.refusal.Refusal.TheVariants as refusals
use Rattle.store_model.specs.Parameters.{Parameters}
use Rattle.store_model.specs.Trees.{Tree}
use Rattle.store_model.specs.Pages.{page_count}
use Rattle.store_model.specs.Commands.{Command}
use Rattle.store_model.specs.Commands.Command.{Make, Write, Cut, Rename, Remove, Prune, ListChildren, Read, Space}
use Rattle.store_model.specs.Commands.Command.{Digest, SetAttribute, UnsetAttribute, GetAttribute, ListAttributes}
use Rattle.store_model.specs.Commands.Reply.{Refused}
use Rattle.store_model.specs.Steps.{Step, reply_of, refusal_of, next_tree, lacks_version}
use Rattle.store_model.specs.Scripts.{replies_by, answers_by, tree_by, state_by}
use Rattle.disk_model.specs.DiskState.{DiskState}
use Rattle.tree_pairs.specs.TreeCalls.{uncounted_by, uncounted_step}
use Rattle.image_check.specs.declared.fault.ApplyFault.{ApplyFault}
use Rattle.dump_streams.specs.Dumps.{command_of_step}
use Rattle.dump_diff.specs.Scripts.{removal_command}
use Rattle.staged_tree.specs.declared.group.GroupAnswer.{GroupAnswer}
use Rattle.staged_tree.specs.declared.group.GroupAnswer.TheVariants as groups
use Rattle.staged_tree.specs.Groups.{refusal_in, or_later, first_refused, tree_unless}
use Rattle.staged_tree.specs.Guards.{Guarded}
use Rattle.staged_tree.specs.Roomy.{guarded_step, refused_roomy, roomy_tree, full_behind, refused_at_end}
use Rattle.staged_tree.specs.Roomy.{refused_so_far, streamed_tree, IsStreamAnswer}
use Rattle.staged_tree.specs.ChangeStreams.{HasCome}
use Rattle.store_core.specs.StoreState.{StoreState}
use Rattle.store_core.specs.Streams.{AppliesStream}
use Rattle.session_core.proofs.StoreLemmas.{steps_ok, steps_error}
use Rattle.synced_trees.specs.Leading.{AreAllowed, led_by}
use Rattle.image_sync.specs.declared.carrying.SyncAnswer.{SyncAnswer}
use Rattle.image_sync.specs.declared.carrying.SyncAnswer.TheVariants as answers
use Rattle.image_sync.specs.declared.planned.PlannedChanges.{PlannedChanges}
use Rattle.image_sync.specs.PlannedChanges.{always, HasGiven, AreAll}
use Rattle.image_sync.specs.Carrying.{HasNoRoom, IsAnswer, CarriesOut, sync_refused, sync_answer}

-- ---- one command

-- a command that is not refused refuses nothing
not_refused : (t : Tree) (c : Command) (p : Parameters) → refusal_in (reply_of t c p) ≡ None
unfolding reply_of
not_refused t (Make path) p = refl
not_refused t (Write path at bytes) p = refl
not_refused t (Cut path len) p = refl
not_refused t (Rename from to) p = refl
not_refused t (Remove path) p = refl
not_refused t (Prune path) p = refl
not_refused t (ListChildren path) p = refl
not_refused t (Read path at len) p = refl
not_refused t Space p = refl
not_refused t Digest p = refl
not_refused t (SetAttribute path a bytes) p = refl
not_refused t (UnsetAttribute path a) p = refl
not_refused t (GetAttribute path a) p = refl
not_refused t (ListAttributes path) p = refl

-- what the others are refused for, behind one that is not
later_refusal : (s : Step) (more : Option (ℕ × Refusal)) → refusal_in s.reply ≡ None
    → or_later (refusal_in s.reply) more ≡ option_map (λ (found : ℕ × Refusal). (suc found.0, found.1)) more
later_refusal s more none = ap (λ o. or_later o more) none

-- ---- commands that are allowed

-- they are all carried out, or one is refused for the version
abbrev Carried : Parameters → Tree → List Command → Type 0
Carried p t cs = ((refused_roomy p t (map always cs) ≡ None) × (roomy_tree p t (map always cs) ≡ led_by t cs))
    ⊎ ((i : ℕ) × (refused_roomy p t (map always cs) ≡ Some (i, refusals.Version)))

-- what is refused, and the tree, behind a step
abbrev refused_after : Parameters → List Command → Step → Option (ℕ × Refusal)
refused_after p cs s = or_later (refusal_in s.reply) (refused_roomy p s.tree (map always cs))

abbrev done : Parameters → Tree → Command → Step
done p t c = record { reply = reply_of t c p; tree = next_tree t c }

refused_is : (p : Parameters) (t : Tree) (c : Command) (cs : List Command)
    → refused_roomy p t (map always (c ∷ cs)) ≡ refused_after p cs (guarded_step p t (always c))
unfolding replies_by answers_by first_refused
refused_is p t c cs = refl

tree_is : (p : Parameters) (t : Tree) (c : Command) (cs : List Command)
    → roomy_tree p t (map always (c ∷ cs)) ≡ roomy_tree p (guarded_step p t (always c)).tree (map always cs)
unfolding tree_by state_by
tree_is p t c cs = refl

nothing_refused : (p : Parameters) (t : Tree) → refused_roomy p t [] ≡ None
unfolding replies_by answers_by first_refused
nothing_refused p t = refl

nothing_done : (p : Parameters) (t : Tree) → roomy_tree p t [] ≡ t
unfolding tree_by state_by
nothing_done p t = refl

step_lacking : (p : Parameters) (t : Tree) (c : Command) → lacks_version c p ≡ true
    → guarded_step p t (always c) ≡ record { reply = Refused refusals.Version; tree = t }
step_lacking p t c lacks = ap (λ b. cond b (record { reply = Refused refusals.Version; tree = t })
    (uncounted_step t c p)) lacks

step_done : (p : Parameters) (t : Tree) (c : Command) → lacks_version c p ≡ false → refusal_of t c ≡ None
    → guarded_step p t (always c) ≡ done p t c
step_done p t c has allowed = ap (λ b. cond b (record { reply = Refused refusals.Version; tree = t })
    (uncounted_step t c p)) has ∙ ap (uncounted_by t c p) allowed

carry : (p : Parameters) (cs : List Command) (t : Tree) → AreAllowed t cs → Carried p t cs
carry p [] t allowed = inl (nothing_refused p t, nothing_done p t)
carry p (c ∷ cs) t allowed = by_test (carry p cs (next_tree t c) allowed.1) (lacks_version c p) refl
  where
    by_rest : Carried p (next_tree t c) cs → guarded_step p t (always c) ≡ done p t c → Carried p t (c ∷ cs)
    by_rest (inl (none, tree)) step = inl (
      refused_is p t c cs ∙ ap (refused_after p cs) step
          ∙ ap (λ o. or_later o (refused_roomy p (next_tree t c) (map always cs))) (not_refused t c p)
          ∙ ap (option_map (λ (found : ℕ × Refusal). (suc found.0, found.1))) none,
      tree_is p t c cs ∙ ap (λ (s : Step). roomy_tree p s.tree (map always cs)) step ∙ tree,
    )
    by_rest (inr (i, is)) step = inr (
      suc i,
      refused_is p t c cs ∙ ap (refused_after p cs) step
          ∙ ap (λ o. or_later o (refused_roomy p (next_tree t c) (map always cs))) (not_refused t c p)
          ∙ ap (option_map (λ (found : ℕ × Refusal). (suc found.0, found.1))) is,
    )

    by_test : Carried p (next_tree t c) cs → (b : Bool) → lacks_version c p ≡ b → Carried p t (c ∷ cs)
    by_test rest true lacks = inr (0, refused_is p t c cs ∙ ap (refused_after p cs) (step_lacking p t c lacks))
    by_test rest false has = by_rest rest (step_done p t c has allowed.0)

-- ---- all of them

-- how they end: all are done; one is refused for the version; or they have no room
pub record AreDone (p : Parameters) (t : Tree) (cs : List Command) : Type 0 where
  pub none : refused_at_end p t (map always cs) ≡ None
  pub tree : streamed_tree p t true (map always cs) ≡ led_by t cs

pub record LackVersion (p : Parameters) (t : Tree) (cs : List Command) : Type 0 where
  pub index : ℕ
  pub refused : refused_at_end p t (map always cs) ≡ Some (index, refusals.Version)
  pub tree : streamed_tree p t true (map always cs) ≡ t

pub record LackRoom (p : Parameters) (t : Tree) (cs : List Command) : Type 0 where
  pub index : ℕ
  pub need : ℕ
  pub slots : ℕ
  pub refused : refused_at_end p t (map always cs) ≡ Some (index, refusals.Full need slots)
  pub tree : streamed_tree p t true (map always cs) ≡ t
  pub room : HasNoRoom p t cs need slots

abbrev Ends : Parameters → Tree → List Command → Type 0
Ends p t cs = AreDone p t cs ⊎ LackVersion p t cs ⊎ LackRoom p t cs

tree_by_end : (p : Parameters) (t : Tree) (cs : List Command) (o : Option (ℕ × Refusal))
    → refused_at_end p t (map always cs) ≡ o
    → streamed_tree p t true (map always cs) ≡ tree_unless o (roomy_tree p t (map always cs)) t
tree_by_end p t cs o is = ap (λ o. tree_unless o (roomy_tree p t (map always cs)) t) is

ends : (p : Parameters) (t : Tree) (cs : List Command) → AreAllowed t cs → Ends p t cs
ends p t cs allowed = by_case (carry p cs t allowed)
  where
    by_room : refused_roomy p t (map always cs) ≡ None → roomy_tree p t (map always cs) ≡ led_by t cs → (b : Bool)
        → nat_lt p.slots (page_count (led_by t cs) p) ≡ b → Ends p t cs
    by_room none tree b room =
        let at : refused_at_end p t (map always cs)
        ≡ cond b (Some (length (map always cs), refusals.Full (page_count (led_by t cs) p) p.slots)) None =
        ap (λ o. option_or o (full_behind p (roomy_tree p t (map always cs)) (length (map always cs)))) none
        ∙ ap (λ (u : Tree). full_behind p u (length (map always cs))) tree
        ∙ ap (λ b. cond b (Some (length (map always cs), refusals.Full (page_count (led_by t cs) p) p.slots)) None) room
        in
        by_bool b room at
      where
        by_bool : (b : Bool) → nat_lt p.slots (page_count (led_by t cs) p) ≡ b
            → refused_at_end p t (map always cs)
            ≡ cond b (Some (length (map always cs), refusals.Full (page_count (led_by t cs) p) p.slots)) None
            → Ends p t cs
        by_bool true room at = inr (inr (record {
          index = length (map always cs);
          need = page_count (led_by t cs) p;
          slots = p.slots;
          refused = at;
          tree = tree_by_end p t cs _ at;
          room = record {
            need_is = refl;
            slots_is = refl;
            more = ltb-true p.slots (page_count (led_by t cs) p) room;
          };
        }))
        by_bool false room at = inl (record { none = at; tree = tree_by_end p t cs None at ∙ tree })

    by_case : Carried p t cs → Ends p t cs
    by_case (inl (none, tree)) = by_room none tree (nat_lt p.slots (page_count (led_by t cs) p)) refl
    by_case (inr (i, is)) =
        let at : refused_at_end p t (map always cs) ≡ Some (i, refusals.Version) =
        ap (λ o. option_or o (full_behind p (roomy_tree p t (map always cs)) (length (map always cs)))) is in
        inr (inl (record { index = i; refused = at; tree = tree_by_end p t cs (Some (i, refusals.Version)) at }))

-- ---- what the store answers

same_some : (i j : ℕ) (r s : Refusal) → ◌≡◌ {A = Option (ℕ × Refusal)} (Some (i, r)) (Some (j, s)) → r ≡ s
same_some i j r s e = let same : ◌≡◌ {A = ℕ × Refusal} (i, r) (j, s) = same_Some _ _ e in
    ap (λ (x : ℕ × Refusal). x.1) same

-- a refusal for the version
version_answer : (p : Parameters) (t next : Tree) (cs : List Command) (why : Refusal) → next ≡ t
    → why ≡ refusals.Version
    → IsAnswer p t cs next (sync_refused why)
version_answer p t next cs why same is =
    subst (λ (r : Refusal). IsAnswer p t cs next (sync_refused r)) (sym is) (same, refl)

-- and one for the room
full_answer : (p : Parameters) (t next : Tree) (cs : List Command) (why : Refusal) (need slots : ℕ) → next ≡ t
    → why ≡ refusals.Full need slots → HasNoRoom p t cs need slots → IsAnswer p t cs next (sync_refused why)
full_answer p t next cs why need slots same is room =
    subst (λ (r : Refusal). IsAnswer p t cs next (sync_refused r)) (sym is) (same, room)

whole_done : (p : Parameters) (t : Tree) (cs : List Command) → Ends p t cs → None ≡ refused_at_end p t (map always cs)
    → streamed_tree p t true (map always cs) ≡ led_by t cs
whole_done p t cs (inl all) is = all.tree
whole_done p t cs (inr (inl lack)) is = let never : ◌≡◌ {A = Option (ℕ
    × Refusal)} None (Some (lack.index, refusals.Version)) = is ∙ lack.refused in cc
whole_done p t cs (inr (inr lack)) is =
    let never : ◌≡◌ {A = Option (ℕ × Refusal)} None (Some (lack.index, refusals.Full lack.need lack.slots)) = is
    ∙ lack.refused in cc

whole_refused : (p : Parameters) (t : Tree) (cs : List Command) (index : ℕ) (why : Refusal) → Ends p t cs
    → Some (index, why) ≡ refused_at_end p t (map always cs)
    → IsAnswer p t cs (streamed_tree p t true (map always cs)) (sync_refused why)
whole_refused p t cs index why (inl all) is = let never : ◌≡◌ {A = Option (ℕ × Refusal)} (Some (index, why)) None = is
    ∙ all.none in cc
whole_refused p t cs index why (inr (inl lack)) is =
    version_answer p t (streamed_tree p t true (map always cs)) cs why lack.tree
    (same_some index lack.index why refusals.Version (is ∙ lack.refused))
whole_refused p t cs index why (inr (inr lack)) is =
    full_answer p t (streamed_tree p t true (map always cs)) cs why lack.need lack.slots lack.tree
    (same_some index lack.index why (refusals.Full lack.need lack.slots) (is ∙ lack.refused)) lack.room

front_refused : (p : Parameters) (t : Tree) (xs : List Command) (index : ℕ) (why : Refusal) → Carried p t xs
    → Some (index, why) ≡ refused_roomy p t (map always xs) → why ≡ refusals.Version
front_refused p t xs index why (inl (none, tree)) is = let never : ◌≡◌ {A = Option (ℕ
    × Refusal)} (Some (index, why)) None = is ∙ none in cc
front_refused p t xs index why (inr (i, found)) is = same_some index i why refusals.Version (is ∙ found)

allowed_front : (xs ys : List Command) (t : Tree) → AreAllowed t (xs ++ ys) → AreAllowed t xs
allowed_front [] ys t allowed = tt
allowed_front (x ∷ xs) ys t allowed = (allowed.0, allowed_front xs ys (next_tree t x) allowed.1)

-- the first ones of some commands
pub record IsFront (cs : List Command) (changes : List Guarded) : Type 0 where
  pub first : List Command
  pub rest : List Command
  pub changes_are : changes ≡ map always first
  pub split : cs ≡ first ++ rest

module _ {F : Type 0} (p : Parameters) (t : Tree) (cs : List Command) (came all : List Guarded → Type 0)
    (fails : List Guarded → F → Type 0) (is_all : (changes : List Guarded) → all changes → changes ≡ map always cs)
    (is_front : (changes : List Guarded) → came changes → IsFront cs changes) (allowed : AreAllowed t cs) where
  ended_tree : Ends p t cs
      → (streamed_tree p t true (map always cs) ≡ led_by t cs) ⊎ (streamed_tree p t true (map always cs) ≡ t)
  ended_tree (inl done) = inl done.tree
  ended_tree (inr (inl lack)) = inr lack.tree
  ended_tree (inr (inr lack)) = inr lack.tree

  pub reached : (is_whole : Bool) (changes : List Guarded) → HasCome came all fails is_whole changes
      → (streamed_tree p t is_whole changes ≡ led_by t cs) ⊎ (streamed_tree p t is_whole changes ≡ t)
  reached false changes has = inr refl
  reached true changes has = subst (λ (gs : List Guarded).
      (streamed_tree p t true gs ≡ led_by t cs) ⊎ (streamed_tree p t true gs ≡ t)) (sym (is_all changes has))
      (ended_tree (ends p t cs allowed))

  done_so : (is_whole : Bool) (changes : List Guarded) → is_whole ≡ true → all changes
      → None ≡ refused_so_far p t is_whole changes → streamed_tree p t is_whole changes ≡ led_by t cs
  done_so false changes whole has is = absurd (false≢true whole)
  done_so true changes whole has is = subst (λ (gs : List Guarded). streamed_tree p t true gs ≡ led_by t cs)
      (sym (is_all changes has)) (whole_done p t cs (ends p t cs allowed)
      (is ∙ ap (refused_at_end p t) (is_all changes has)))

  refused_so : (is_whole : Bool) (changes : List Guarded) (index : ℕ) (why : Refusal)
      → HasCome came all fails is_whole changes → Some (index, why) ≡ refused_so_far p t is_whole changes
      → IsAnswer p t cs (streamed_tree p t is_whole changes) (sync_refused why)
  refused_so true changes index why has is = subst (λ (gs : List Guarded).
      IsAnswer p t cs (streamed_tree p t true gs) (sync_refused why)) (sym (is_all changes has))
      (whole_refused p t cs index why (ends p t cs allowed) (is ∙ ap (refused_at_end p t) (is_all changes has)))
  refused_so false changes index why has is =
      let front = is_front changes has in
      version_answer p t t cs why refl (front_refused p t front.first index why
      (carry p front.first t (allowed_front front.first front.rest t (subst (AreAllowed t) front.split allowed)))
      (is ∙ ap (refused_roomy p t) front.changes_are))

-- ---- the record

has_all : {F : Type 0} (came all : List Guarded → Type 0) (fails : List Guarded → F → Type 0) (changes : List Guarded)
    (b : Bool) → b ≡ true → all changes → HasCome came all fails b changes
has_all came all fails changes true is has = has
has_all came all fails changes false is has = absurd (false≢true is)

module _ {D F : Type 0} (state : D → DiskState) (old new : StoreState D) (cs : List Command)
    (came all : List Guarded → Type 0) (fails : List Guarded → F → Type 0)
    (is_all : (changes : List Guarded) → all changes → changes ≡ map always cs)
    (is_front : (changes : List Guarded) → came changes → IsFront cs changes) where
  pub carried_ok : (answer : GroupAnswer) → AppliesStream came all fails state old new (Ok (Ok answer))
      → CarriesOut state cs old new (Ok (sync_answer answer))
  carried_ok groups.Done call = record {
    next = streamed_tree old.params old.tree call.is_whole call.changes;
    reached = λ allowed. reached old.params old.tree cs came all fails is_all is_front allowed call.is_whole
        call.changes
        (has_all came all fails call.changes call.is_whole call.came_for.0 call.came_for.1);
    store = steps_ok state (streamed_tree old.params old.tree call.is_whole call.changes)
        (IsStreamAnswer {F = F} old.params old.tree call.is_whole call.changes)
        (λ (answer : SyncAnswer). AreAllowed old.tree cs → IsAnswer old.params old.tree cs
        (streamed_tree old.params old.tree call.is_whole call.changes) answer) old new (Ok groups.Done) answers.Done
        (λ o is allowed. done_so old.params old.tree cs came all fails is_all is_front allowed call.is_whole
        call.changes call.came_for.0 call.came_for.1 is) call.store;
  }
  carried_ok (groups.Refused index why) call = record {
    next = streamed_tree old.params old.tree call.is_whole call.changes;
    reached = λ allowed. reached old.params old.tree cs came all fails is_all is_front allowed call.is_whole
        call.changes
        call.came_for.0;
    store = steps_ok state (streamed_tree old.params old.tree call.is_whole call.changes)
        (IsStreamAnswer {F = F} old.params old.tree call.is_whole call.changes)
        (λ (answer : SyncAnswer). AreAllowed old.tree cs → IsAnswer old.params old.tree cs
        (streamed_tree old.params old.tree call.is_whole call.changes) answer) old new
        (Ok (groups.Refused index why)) (sync_refused why)
        (λ o is allowed. refused_so old.params old.tree cs came all fails is_all is_front allowed call.is_whole
        call.changes index why call.came_for.0 is) call.store;
  }

  pub carried_error : (fault : ApplyFault) → AppliesStream came all fails state old new (Err fault)
      → CarriesOut state cs old new (Err fault)
  carried_error fault call = record {
    next = streamed_tree old.params old.tree call.is_whole call.changes;
    reached = λ allowed. reached old.params old.tree cs came all fails is_all is_front allowed call.is_whole
        call.changes
        call.came_for;
    store = steps_error state (streamed_tree old.params old.tree call.is_whole call.changes)
        (IsStreamAnswer {F = F} old.params old.tree call.is_whole call.changes)
        (λ (answer : SyncAnswer). AreAllowed old.tree cs → IsAnswer old.params old.tree cs
        (streamed_tree old.params old.tree call.is_whole call.changes) answer) old new fault call.store;
  }

-- ---- the stream of a plan

pub all_of : (stream : PlannedChanges) (cs : List Command)
    → cs ≡ map removal_command stream.removals.now ++ map command_of_step stream.additions.now
    → (changes : List Guarded) → AreAll stream changes → changes ≡ map always cs
all_of stream cs is changes all = all ∙ ap (map always) (sym is)

pub front_of : (stream : PlannedChanges) (cs : List Command)
    → cs ≡ map removal_command stream.removals.now ++ map command_of_step stream.additions.now
    → (changes : List Guarded) → HasGiven stream changes → IsFront cs changes
front_of stream cs is changes given = by_case given.in_order
  where
    by_case : (length stream.removals.now ≤ stream.removed) ⊎ (stream.added ≡ 0) → IsFront cs changes
    by_case (inl past) = record {
      first = map removal_command (take stream.removed stream.removals.now)
          ++ map command_of_step (take stream.added stream.additions.now);
      rest = map command_of_step (drop stream.added stream.additions.now);
      changes_are = given.changes_are;
      split = is
          ∙ (λ i. map removal_command (sym (take_all stream.removed stream.removals.now past) i)
          ++ map command_of_step (sym (take-append-drop stream.added stream.additions.now) i))
          ∙ ap (λ es. map removal_command (take stream.removed stream.removals.now) ++ es)
          (map-append command_of_step (take stream.added stream.additions.now) (drop stream.added stream.additions.now))
          ∙ sym (append_assoc (map removal_command (take stream.removed stream.removals.now))
          (map command_of_step (take stream.added stream.additions.now))
          (map command_of_step (drop stream.added stream.additions.now)));
    }
    by_case (inr none) = record {
      first = map removal_command (take stream.removed stream.removals.now);
      rest = map removal_command (drop stream.removed stream.removals.now)
          ++ map command_of_step stream.additions.now;
      changes_are = given.changes_are
          ∙ ap (λ n. map always (map removal_command (take stream.removed stream.removals.now)
          ++ map command_of_step (take n stream.additions.now))) none
          ∙ ap (map always) (append-nil (map removal_command (take stream.removed stream.removals.now)));
      split = is
          ∙ ap (λ rs. map removal_command rs ++ map command_of_step stream.additions.now)
          (sym (take-append-drop stream.removed stream.removals.now))
          ∙ ap (λ es. es ++ map command_of_step stream.additions.now)
          (map-append removal_command (take stream.removed stream.removals.now)
          (drop stream.removed stream.removals.now))
          ∙ append_assoc (map removal_command (take stream.removed stream.removals.now))
          (map removal_command (drop stream.removed stream.removals.now)) (map command_of_step stream.additions.now);
    }
