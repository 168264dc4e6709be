-- A word whose changes a store carries out as they come.
use Rattle.std.proofs.Common.{◌≡◌, ◌⊎◌, inl, inr, ℕ, suc, List, [], ◌∷◌, ◌++◌, map, length, Bool, true, false, cond}
use Rattle.std.proofs.Common.{Option, Some, None, Ok, Err, refl, sym, ap, subst, ◌∙◌, arith, length-append}
use Rattle.store_model.specs.declared.refusal.Refusal.{Refusal}
use Rattle.store_model.specs.declared.refusal.Refusal.TheVariants as refusals
use Rattle.store_model.specs.Parameters.{Parameters}
use Rattle.store_model.specs.Paths.{Path}
use Rattle.store_model.specs.Trees.{Tree}
use Rattle.disk_model.specs.DiskState.{DiskState}
use Rattle.image_check.specs.declared.fault.ApplyFault.{ApplyFault}
use Rattle.staged_tree.specs.declared.group.GroupAnswer.TheVariants as answers
use Rattle.staged_tree.specs.Guards.{Guarded}
use Rattle.staged_tree.specs.Roomy.{roomy_tree, refused_at_end, refused_so_far, streamed_tree}
use Rattle.staged_tree.specs.ChangeStreams.{HasCome}
use Rattle.store_core.specs.StoreState.{StoreState}
use Rattle.store_core.specs.Streams.{AppliesStream}
use Rattle.session_core.proofs.StoreLemmas.{steps_ok, steps_error}
use Rattle.tree_changes.specs.Conditional.{why_refused, Leads}
use Rattle.image_changes.specs.declared.outcome.Outcome.{Outcome}
use Rattle.image_changes.specs.declared.outcome.Outcome.TheVariants as outcomes
use Rattle.image_changes.specs.Outcomes.{refused_at, outcome_of}
use Rattle.image_changes.specs.Words.{HasNoRoom, IsOutcome, Changes}
use Rattle.image_changes.proofs.Bridge.{conditional_of, leads_of, StopsAt, stops_of}
use Rattle.image_changes.proofs.StreamAnswers.{IsOther, full_is, other_is, refused_stays, done_is}

-- the list is at its end where so many stand before it
no_more : (rest : List Guarded) → length rest ≡ 0 → rest ≡ []
no_more [] e = refl
no_more (g ∷ rest) e = absurd (omega arith)

-- ---- refusals

-- a refusal is `full` or another
full_or_other : (why : Refusal) → ((need : ℕ) × (slots : ℕ) × (why ≡ refusals.Full need slots)) ⊎ IsOther why
full_or_other (refusals.Full need slots) = inl (need, slots, refl)
full_or_other refusals.Long = inr (λ need slots e. cc)
full_or_other refusals.Syntax = inr (λ need slots e. cc)
full_or_other refusals.Path = inr (λ need slots e. cc)
full_or_other refusals.Root = inr (λ need slots e. cc)
full_or_other refusals.Parent = inr (λ need slots e. cc)
full_or_other refusals.Exists = inr (λ need slots e. cc)
full_or_other refusals.Missing = inr (λ need slots e. cc)
full_or_other refusals.Inside = inr (λ need slots e. cc)
full_or_other refusals.Kind = inr (λ need slots e. cc)
full_or_other refusals.Gap = inr (λ need slots e. cc)
full_or_other refusals.Big = inr (λ need slots e. cc)
full_or_other refusals.NotEmpty = inr (λ need slots e. cc)
full_or_other refusals.Version = inr (λ need slots e. cc)
full_or_other refusals.NoAttr = inr (λ need slots e. cc)

-- another refusal is one at the path
pub other_at : (path : Path) (why : Refusal) → IsOther why → refused_at path why ≡ outcomes.Refused path why
other_at path (refusals.Full need slots) other = absurd (other need slots refl)
other_at path refusals.Long other = refl
other_at path refusals.Syntax other = refl
other_at path refusals.Path other = refl
other_at path refusals.Root other = refl
other_at path refusals.Parent other = refl
other_at path refusals.Exists other = refl
other_at path refusals.Missing other = refl
other_at path refusals.Inside other = refl
other_at path refusals.Kind other = refl
other_at path refusals.Gap other = refl
other_at path refusals.Big other = refl
other_at path refusals.NotEmpty other = refl
other_at path refusals.Version other = refl
other_at path refusals.NoAttr other = refl

pub other_outcome : (means : Tree → Tree → Type 0) (refuses : Tree → Path → Refusal → Type 0) (p : Parameters)
    (t next : Tree) (path : Path) (why : Refusal) → IsOther why → (next ≡ t) × refuses t path why
    → IsOutcome means refuses p t next (refused_at path why)
other_outcome means refuses p t next path why other is =
    subst (λ (o : Outcome). IsOutcome means refuses p t next o) (sym (other_at path why other)) is

-- ---- a word, by what its changes do

module _ {F : Type 0} (p : Parameters) (t : Tree) (means : Tree → Tree → Type 0) (refuses : Tree → Path → Refusal
    → Type 0)
    (came all : List Guarded → Type 0) (fails : List Guarded → F → Type 0)
    (lead : (changes : List Guarded) (u : Tree) → all changes → Leads p t (map conditional_of changes) u
    → means t u) where
  -- what is reached is the tree that is meant, or the same
  pub reached : (is_whole : Bool) (changes : List Guarded) → HasCome came all fails is_whole changes
      → means t (streamed_tree p t is_whole changes) ⊎ (streamed_tree p t is_whole changes ≡ t)
  reached false changes here = inr refl
  reached true changes here = by (refused_at_end p t changes) refl
    where
      by : (o : Option (ℕ × Refusal)) → refused_at_end p t changes ≡ o
          → means t (streamed_tree p t true changes) ⊎ (streamed_tree p t true changes ≡ t)
      by (Some found) e = inr (refused_stays p t changes true found (sym e))
      by None e =
          let done = done_is p t changes (sym e) in
          inl (subst (λ u. means t u) (sym done.tree) (lead changes _ here (leads_of p changes t done.none)))

  -- a change at which it stops is refused at the path
  abbrev pub StopsAtPath : Path → Refusal → Type 0
  StopsAtPath path why = (first : List Guarded) (at : Guarded) (v : Tree) → came (first ++ at ∷ [])
      → Leads p t (map conditional_of first) v → why_refused p v (conditional_of at) ≡ Some why → refuses t path why

  -- what a refusal says
  refused_other : (is_whole : Bool) (changes : List Guarded) (path : Path) (index : ℕ) (why : Refusal)
      → StopsAtPath path why → IsOther why → HasCome came all fails is_whole changes
      → (is_whole ≡ true → length changes ≡ index) → (is_whole ≡ false → length changes ≡ suc index)
      → Some (index, why) ≡ refused_so_far p t is_whole changes
      → (streamed_tree p t is_whole changes ≡ t) × refuses t path why
  refused_other is_whole changes path index why stop other here whole front is =
      let stops = stops_of p changes t index why (other_is p t changes is_whole index why other is) in
      (refused_stays p t changes is_whole (index, why) is, by is_whole here whole front stops)
    where
      by : (b : Bool) → HasCome came all fails b changes → (b ≡ true → length changes ≡ index)
          → (b ≡ false → length changes ≡ suc index) → StopsAt p t changes index why → refuses t path why
      by true here whole front stops = absurd (omega (
        arith,
        whole refl,
        stops.count,
        ap length stops.changes_are,
        length-append stops.first (stops.at ∷ stops.rest),
      ))
      by false here whole front stops =
          let none : stops.rest ≡ [] = no_more stops.rest (omega (
            arith,
            front refl,
            stops.count,
            ap length stops.changes_are,
            length-append stops.first (stops.at ∷ stops.rest),
          )) in
          stop stops.first stops.at stops.tree
          (subst (λ gs. came gs) (stops.changes_are ∙ ap (λ rest. stops.first ++ stops.at ∷ rest) none) here)
          stops.leads stops.refused

  refused_full : (is_whole : Bool) (changes : List Guarded) (index need slots : ℕ)
      → HasCome came all fails is_whole changes
      → Some (index, refusals.Full need slots) ≡ refused_so_far p t is_whole changes
      → (streamed_tree p t is_whole changes ≡ t) × HasNoRoom means p t need slots
  refused_full is_whole changes index need slots here is =
      let many = full_is p t changes is_whole index need slots is in (
        refused_stays p t changes is_whole (index, refusals.Full need slots) is,
        record {
          tree = roomy_tree p t changes;
          meant = lead changes _ (subst (λ b. HasCome came all fails b changes) many.whole here)
              (leads_of p changes t many.none);
          need_is = many.need_is;
          slots_is = many.slots_is;
          more = many.more;
        },
      )

  pub refused_so : (is_whole : Bool) (changes : List Guarded) (path : Path) (index : ℕ) (why : Refusal)
      → StopsAtPath path why → HasCome came all fails is_whole changes
      → (is_whole ≡ true → length changes ≡ index) → (is_whole ≡ false → length changes ≡ suc index)
      → Some (index, why) ≡ refused_so_far p t is_whole changes
      → IsOutcome means refuses p t (streamed_tree p t is_whole changes) (refused_at path why)
  refused_so is_whole changes path index why stop here whole front is = by (full_or_other why)
    where
      by : ((need : ℕ) × (slots : ℕ) × (why ≡ refusals.Full need slots)) ⊎ IsOther why
          → IsOutcome means refuses p t (streamed_tree p t is_whole changes) (refused_at path why)
      by (inl full) = subst (λ w. IsOutcome means refuses p t (streamed_tree p t is_whole changes) (refused_at path w))
          (sym full.2) (refused_full is_whole changes index full.0 full.1 here
          (ap (λ w. Some (index, w)) (sym full.2) ∙ is))
      by (inr other) = other_outcome means refuses p t (streamed_tree p t is_whole changes) path why other
          (refused_other is_whole changes path index why stop other here whole front is)

  pub done_so : (is_whole : Bool) (changes : List Guarded) → is_whole ≡ true → all changes
      → None ≡ refused_so_far p t is_whole changes → means t (streamed_tree p t is_whole changes)
  done_so is_whole changes whole here is =
      let done = done_is p t changes (is ∙ ap (λ b. refused_so_far p t b changes) whole) in
      subst (λ b. means t (streamed_tree p t b changes)) (sym whole)
      (subst (λ u. means t u) (sym done.tree) (lead changes _ here (leads_of p changes t done.none)))

-- ---- the word

module _ {D F : Type 0} (state : D → DiskState) (old new : StoreState D) (means : Tree → Tree → Type 0)
    (refuses : Tree → Path → Refusal → Type 0) (came all : List Guarded → Type 0) (fails : List Guarded → F → Type 0)
    (lead : (changes : List Guarded) (u : Tree) → all changes
    → Leads old.params old.tree (map conditional_of changes) u → means old.tree u) where
  pub word_fails : (fault : ApplyFault) → AppliesStream came all fails state old new (Err fault)
      → Changes state means refuses old new (Err fault)
  word_fails fault applies = record {
    next = streamed_tree old.params old.tree applies.is_whole applies.changes;
    reached = λ o. reached old.params old.tree means refuses came all fails lead applies.is_whole applies.changes
        applies.came_for;
    store = steps_error state _ _ _ old new fault applies.store;
  }

  pub word_done : AppliesStream came all fails state old new (Ok (Ok answers.Done)) → (path : Path)
      → Changes state means refuses old new (Ok (outcome_of path answers.Done))
  word_done applies path = record {
    next = streamed_tree old.params old.tree applies.is_whole applies.changes;
    reached = λ o. reached old.params old.tree means refuses came all fails lead applies.is_whole applies.changes
        (subst (λ b. HasCome came all fails b applies.changes) (sym (applies.came_for).0) (applies.came_for).1);
    store = steps_ok state _ _ _ old new (Ok answers.Done) (outcome_of path answers.Done)
        (λ o is. done_so old.params old.tree means refuses came all fails lead applies.is_whole applies.changes
        (applies.came_for).0 (applies.came_for).1 is) applies.store;
  }

  pub word_refused : (index : ℕ) (why : Refusal) (path : Path)
      → StopsAtPath old.params old.tree means refuses came all fails lead path why
      → AppliesStream came all fails state old new (Ok (Ok (answers.Refused index why)))
      → Changes state means refuses old new (Ok (outcome_of path (answers.Refused index why)))
  word_refused index why path stop applies = record {
    next = streamed_tree old.params old.tree applies.is_whole applies.changes;
    reached = λ o. reached old.params old.tree means refuses came all fails lead applies.is_whole applies.changes
        (applies.came_for).0;
    store = steps_ok state _ _ _ old new (Ok (answers.Refused index why)) (outcome_of path (answers.Refused index why))
        (λ o is. refused_so old.params old.tree means refuses came all fails lead applies.is_whole applies.changes path
        index why stop (applies.came_for).0
        (λ whole. (applies.came_for).1 ∙ ap (λ b. cond b index (suc index)) whole)
        (λ front. (applies.came_for).1 ∙ ap (λ b. cond b index (suc index)) front) is) applies.store;
  }
