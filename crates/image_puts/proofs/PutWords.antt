-- The word that puts a source, by what its changes do.
use Rattle.std.proofs.Common.{◌≡◌, inr, List, [], ◌∷◌, ◌++◌, map, Bool, IsTrue, Result, Ok, Err}
use Rattle.std.proofs.Common.{Some, refl, sym, ap, subst, ◌∙◌, append_assoc}
use Rattle.std.proofs.lemmas.List.{map-append}
use Rattle.store_model.specs.declared.refusal.Refusal.{Refusal}
use Rattle.store_model.specs.Paths.{Path, is_path}
use Rattle.store_model.specs.Trees.{Tree, IsTree}
use Rattle.disk_model.specs.DiskState.{DiskState}
use Rattle.image_check.specs.declared.fault.ApplyFault.{ApplyFault}
use Rattle.staged_tree.specs.declared.group.GroupAnswer.{GroupAnswer}
use Rattle.staged_tree.specs.declared.group.GroupAnswer.TheVariants as answers
use Rattle.staged_tree.specs.Guards.{Guarded}
use Rattle.staged_tree.specs.Roomy.{streamed_tree}
use Rattle.store_core.specs.StoreState.{StoreState}
use Rattle.store_core.specs.Streams.{AppliesStream}
use Rattle.session_core.proofs.StoreLemmas.{steps_ok, steps_error}
use Rattle.dump_streams.specs.declared.fault.StreamFault.{StreamFault}
use Rattle.tree_changes.specs.Conditional.{why_refused, Leads, Stops}
use Rattle.tree_changes.specs.Puts.{put_changes, fresh_of, IsUnput}
use Rattle.tree_changes.proofs.PutMeans.{puts_lead, puts_stop_behind}
use Rattle.image_changes.specs.declared.outcome.Outcome.{Outcome}
use Rattle.image_changes.specs.Outcomes.{outcome_of}
use Rattle.image_changes.specs.Words.{Changes}
use Rattle.image_changes.proofs.Bridge.{conditional_of, same_path_of}
use Rattle.image_changes.proofs.WordSteps.{word_fails, word_done, word_refused}
use Rattle.image_puts.specs.declared.fault.PutFault.{PutFault}
use Rattle.image_puts.specs.declared.put_changes.PutChanges.{PutChanges}
use Rattle.image_puts.specs.PutChanges.{left_of, HasPutAt, HasPutAll, FailsPut, EndsPut}
use Rattle.image_puts.specs.Puts.{IsPutWhole, IsPutRefused, PutsOver}

-- ---- answers of another word

module _ {D : Type 0} (state : D → DiskState) (means : Tree → Tree → Type 0) (refuses : Tree → Path → Refusal → Type 0)
    (fails : PutFault → Type 0) (old new : StoreState D) where
  over_fails : (fault : ApplyFault) → Changes state means refuses old new (Err fault)
      → PutsOver state means refuses fails old new (Err fault)
  over_fails fault changes = record {
    next = changes.next;
    reached = changes.reached;
    store = steps_error state _ _ _ old new fault changes.store;
  }

  over_ends : (outcome : Outcome) → Changes state means refuses old new (Ok outcome)
      → PutsOver state means refuses fails old new (Ok (Ok outcome))
  over_ends outcome changes = record {
    next = changes.next;
    reached = changes.reached;
    store = steps_ok state _ _ _ old new outcome (Ok outcome) (λ o is. is) changes.store;
  }

-- ---- the word

module _ {D S : Type 0} (state : D → DiskState) (came whole : S → Tree → Type 0) (fails : S → Tree → StreamFault
    → Type 0)
    (old new : StoreState D) (stream : PutChanges S) (listed : List Path) (tree : IsTree old.tree)
    (valid : IsTrue (is_path stream.to)) (fresh_is : stream.fresh.items ≡ fresh_of stream.to listed old.tree) where
  abbrev pub means : Tree → Tree → Type 0
  means = IsPutWhole (whole stream.source) stream.replaces stream.to listed

  abbrev pub refuses : Tree → Path → Refusal → Type 0
  refuses = IsPutRefused (came stream.source) stream.replaces old.params stream.to listed

  abbrev pub ends : List Guarded → PutFault → Type 0
  ends changes fault = EndsPut came fails stream fault

  fresh_changes : (u : Tree) → put_changes stream.replaces stream.to stream.fresh.items u
      ≡ put_changes stream.replaces stream.to (fresh_of stream.to listed old.tree) u
  fresh_changes u = ap (λ (xs : List Path). put_changes stream.replaces stream.to xs u) fresh_is

  lead : (changes : List Guarded) (u : Tree) → HasPutAll whole stream changes
      → Leads old.params old.tree (map conditional_of changes) u → means old.tree u
  lead changes u all chain = record {
    tree = all.tree;
    whole_is = all.whole_is;
    put = puts_lead stream.replaces stream.to listed old.params old.tree tree valid all.tree u all.is_tree all.room
        (subst (λ gs. Leads old.params old.tree gs u) (all.changes_are ∙ fresh_changes all.tree) chain);
  }

  stop : (first : List Guarded) (at : Guarded) (v : Tree) (why : Refusal) → HasPutAt came stream (first ++ at ∷ [])
      → Leads old.params old.tree (map conditional_of first) v
      → why_refused old.params v (conditional_of at) ≡ Some why → refuses old.tree stream.last why
  stop first at v why here chain refused =
      let put = here.put in
      let left = left_of stream put.rest in
      let stops : Stops old.params old.tree
      (put_changes stream.replaces stream.to (fresh_of stream.to listed old.tree) put.tree) (conditional_of at) why =
      record {
        first = map conditional_of first;
        rest = left;
        changes_are = sym (fresh_changes put.tree) ∙ sym put.changes_are
            ∙ ap (λ gs. gs ++ left) (map-append conditional_of first (at ∷ []))
            ∙ append_assoc (map conditional_of first) (conditional_of at ∷ []) left;
        tree = v;
        leads = chain;
        refused = refused;
      } in
      let found = puts_stop_behind stream.replaces stream.to listed old.params old.tree tree valid put.tree
      (conditional_of at) why put.is_tree put.room stops in
      record {
        tree = put.tree;
        came_is = put.came_is;
        front = found.front;
        rest = found.rest;
        front_is = found.front_is;
        unput = subst (λ x. IsUnput stream.replaces old.params stream.to listed found.front old.tree x why)
            (sym (same_path_of at.change) ∙ here.ends first at refl) found.refuses;
      }

  pub put_fails : (fault : ApplyFault)
      → AppliesStream (HasPutAt came stream) (HasPutAll whole stream) ends state old new (Err fault)
      → PutsOver state means refuses (FailsPut came fails stream.source stream.to) old new (Err fault)
  put_fails fault applies = over_fails state means refuses (FailsPut came fails stream.source stream.to) old new fault
      (word_fails state old new means refuses (HasPutAt came stream) (HasPutAll whole stream) ends lead fault applies)

  pub put_answered : (answer : GroupAnswer)
      → AppliesStream (HasPutAt came stream) (HasPutAll whole stream) ends state old new (Ok (Ok answer))
      → PutsOver state means refuses (FailsPut came fails stream.source stream.to) old new
      (Ok (Ok (outcome_of stream.last answer)))
  put_answered answers.Done applies =
      over_ends state means refuses (FailsPut came fails stream.source stream.to) old new
      (outcome_of stream.last answers.Done)
      (word_done state old new means refuses (HasPutAt came stream)
      (HasPutAll whole stream) ends lead applies stream.last)
  put_answered (answers.Refused index why) applies =
      over_ends state means refuses (FailsPut came fails stream.source stream.to) old new
      (outcome_of stream.last (answers.Refused index why))
      (word_refused state old new means refuses (HasPutAt came stream) (HasPutAll whole stream) ends lead index why
      stream.last (λ first at v here chain refused. stop first at v why here chain refused) applies)

  pub put_ended : (fault : PutFault)
      → AppliesStream (HasPutAt came stream) (HasPutAll whole stream) ends state old new (Ok (Err fault))
      → PutsOver state means refuses (FailsPut came fails stream.source stream.to) old new (Ok (Err fault))
  put_ended fault applies =
      let stays : streamed_tree old.params old.tree applies.is_whole applies.changes ≡ old.tree =
      ap (λ b. streamed_tree old.params old.tree b applies.changes) (applies.came_for).0 in
      record {
        next = streamed_tree old.params old.tree applies.is_whole applies.changes;
        reached = λ o. inr stays;
        store = steps_ok state _ _ _ old new (Err fault) (Err fault) (λ o is. (
          stays,
          (applies.came_for).1,
        )) applies.store;
      }

  -- the same, by names of what stays
  pub by_names : (to : Path) (replaces : Bool) → stream.to ≡ to → stream.replaces ≡ replaces
      → (result : Result (Result Outcome PutFault) ApplyFault)
      → PutsOver state means refuses (FailsPut came fails stream.source stream.to) old new result
      → PutsOver state (IsPutWhole (whole stream.source) replaces to listed)
      (IsPutRefused (came stream.source) replaces old.params to listed)
      (FailsPut came fails stream.source to) old new result
  by_names to replaces to_is replaces_is result over =
      subst (λ x. PutsOver state (IsPutWhole (whole stream.source) replaces x listed)
      (IsPutRefused (came stream.source) replaces old.params x listed)
      (FailsPut came fails stream.source x) old new result)
      to_is
      (subst (λ r. PutsOver state (IsPutWhole (whole stream.source) r stream.to listed)
      (IsPutRefused (came stream.source) r old.params stream.to listed)
      (FailsPut came fails stream.source stream.to) old
      new result) replaces_is over)
