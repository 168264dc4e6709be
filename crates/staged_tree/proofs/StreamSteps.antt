-- Changes of a stream that are staged one after another in the list of a tree, and how such a stream ends.
use Rattle.std.proofs.Common.{◌≡◌, ◌≤◌, ℕ, ◌+◌, suc, Bool, true, false, List, [], ◌∷◌, ◌++◌, length, Option, None}
use Rattle.std.proofs.Common.{Some, Result, IfSome, IfNone}
use Rattle.std.proofs.Common.{Ok, Err, OnOk, nat_lt, if◌then◌else◌, refl, sym, ap, subst, ◌∙◌, arith, ltb-false}
use Rattle.std.proofs.lemmas.Bool.{le-ltb, lt-ltb}
use Rattle.std.proofs.lemmas.List.{length-append}
use Rattle.std.specs.FinMap as maps
use Rattle.store_base.specs.declared.store_fault.Fault.{Fault}
use Rattle.store_base.specs.declared.store_fault.Fault.TheVariants as causes
use Rattle.store_base.specs.Faults.{disk_faults_after}
use Rattle.store_model.specs.declared.refusal.Refusal.{Refusal}
use Rattle.store_model.specs.declared.refusal.Refusal.TheVariants as refusals
use Rattle.store_model.specs.Parameters.{Parameters}
use Rattle.store_model.specs.Trees.{Tree}
use Rattle.store_model.specs.Pages.{page_count, IsTreeUnder}
use Rattle.store_model.specs.Commands.{Command}
use Rattle.store_model.specs.Commands.Reply.{Acknowledged, Refused}
use Rattle.store_model.specs.Steps.{Step}
use Rattle.store_model.specs.Scripts.{answers_by, state_by, replies_by, tree_by}
use Rattle.disk_model.specs.DiskState.{DiskState, IsObservable, IsSound}
use Rattle.seeded_draw.specs.declared.any.AnyDraw.{AnyDraw}
use Rattle.page_store.specs.declared.fault.SettleFault.{SettleFault}
use Rattle.page_store.specs.StagedState.{StagedState, without_changes}
use Rattle.image_check.specs.declared.fault.ApplyFault.{ApplyFault}
use Rattle.image_check.specs.Faults.{apply_fault_of}
use Rattle.image_check.specs.Standing.{IsFitting}
use Rattle.tree_commands.specs.Counted.{counted_step}
use Rattle.staged_tree.specs.declared.group.GroupAnswer.{GroupAnswer}
use Rattle.staged_tree.specs.declared.group.GroupAnswer.TheVariants as answers
use Rattle.staged_tree.specs.ChangeStreams.{GivesChange, CameFor, CarriesOutStream, IsEndAnswer, IsEndOf}
use Rattle.staged_tree.specs.declared.guards.When.{When}
use Rattle.staged_tree.specs.Groups.{first_refused}
use Rattle.staged_tree.specs.Guards.{Guarded}
use Rattle.staged_tree.specs.Roomy.{roomy_step, guarded_step, refused_roomy, roomy_tree, full_behind, streamed_tree}
use Rattle.staged_tree.specs.Roomy.{IsStreamAnswer}
use Rattle.staged_tree.specs.StagedTree.{TreeList, IsStagedFor, IsListAt, IsListOver, IsListWithin, FollowsList}
use Rattle.staged_tree.specs.StagedTree.{most_staged}
use Rattle.staged_tree.specs.Staging.{StagesRoomy, StagesWithin, StagesGuarded}
use Rattle.staged_tree.specs.Steps.{counted_end, SettlesAll, EndsStep}
use Rattle.staged_tree.proofs.GroupLemmas.{tree_more, none_more, refused_last}
use Rattle.staged_tree.proofs.ListSteps.{fits_table, as_within}
use Rattle.staged_tree.proofs.RoomyLemmas.{only_full, whole_tree}
use Rattle.staged_tree.proofs.TreePages.{held_count}
use Rattle.staged_tree.proofs.StagedSteps.{read_step, taken_back, failed_step, told_as, behind_reads, settled_counted}

-- a stream gave a change, or has no more
pub gives_some : {F : Type 0} (old new all : List Guarded → Type 0) (failed_by : List Guarded → F → Type 0)
    (c : Command) (next : Option When) (at : When) → next ≡ Some at → GivesChange old new all failed_by c (Ok next)
    → (changes : List Guarded) → old changes → new (changes ++ (record { when = at; change = c }) ∷ [])
gives_some old new all failed_by c next at is gives changes before =
    subst (λ (o : Option When). IfSome o (λ w. new (changes ++ (record { when = w; change = c }) ∷ []))) is
    (gives.came changes before)

pub gives_none : {F : Type 0} (old new all : List Guarded → Type 0) (failed_by : List Guarded → F → Type 0)
    (c : Command) (next : Option When) → next ≡ None → GivesChange old new all failed_by c (Ok next)
    → (changes : List Guarded) → old changes → all changes
gives_none old new all failed_by c next is gives changes before =
    subst (λ (o : Option When). IfNone o (all changes)) is (gives.whole changes before)

-- so many changes of a stream came, and are staged
pub record HasStreamed {D : Type 0} (state : D → DiskState) (came : List Guarded → Type 0) (p : Parameters) (count : ℕ)
    (old new : TreeList D) : Type 0 where
  pub changes : List Guarded
  pub came_is : came changes
  pub count_is : length changes ≡ count
  pub faults : (state new.pages.disk).faults ≡ (state old.pages.disk).faults
  pub list : (t : Tree) → IsListAt state t p old → IsListWithin state t (roomy_tree p t changes) p new
  pub none : (t : Tree) → IsListAt state t p old → IsObservable (state old.pages.disk)
      → refused_roomy p t changes ≡ None

-- from a tree that fits to the next one, where that has room
counted_fitting : (t next : Tree) (p : Parameters) → IsFitting t p → IsTreeUnder next p
    → IsFitting (counted_step t next p).tree p
counted_fitting t next p fitting under = by (nat_lt p.slots (page_count next p)) refl
  where
    by : (full : Bool) → nat_lt p.slots (page_count next p) ≡ full
        → IsFitting (Step.tree (if full then (record {
          reply = Refused (refusals.Full (page_count next p) p.slots);
          tree = t;
        }) else
        (record { reply = Acknowledged; tree = next }))) p
    by true e = fitting
    by false e = record {
      in_range = fitting.in_range;
      tree = under.is_tree;
      fits = record { room = ltb-false p.slots (page_count next p) e; bare = under.bare };
    }

-- what a fault makes of the count of faults, whatever had come
any_faults : (T U : Type 0) (n m : ℕ) (fault : Fault) → m ≡ disk_faults_after {T = T} n (Err fault)
    → m ≡ disk_faults_after {T = U} n (Err fault)
any_faults T U n m causes.Disk is = is
any_faults T U n m causes.NoMemory is = is

on_ok : {A E P : Type 0} (r : Result A E) → P → OnOk r P
on_ok (Ok value) holds = holds
on_ok (Err fault) holds = tt

module _ {D : Type 0} (state : D → DiskState) (p : Parameters) (old : TreeList D)
    (runs : old.pages.is_spent ≡ false) where
  -- none came yet
  pub streamed_none : (came : List Guarded → Type 0) → came [] → HasStreamed state came p 0 old old
  unfolding tree_by state_by first_refused replies_by answers_by
  streamed_none came begins = record {
    changes = [];
    came_is = begins;
    count_is = refl;
    faults = refl;
    list = λ t at. as_within (fits_table at runs);
    none = λ t at observable. refl;
  }

  module _ (before : List Guarded → Type 0) (count : ℕ) (mid : TreeList D) (follows : FollowsList state old mid)
      (has : HasStreamed state before p count old mid) where
    -- the next one
    module _ (came : List Guarded → Type 0) (at : When) (c : Command)
        (gives : came (has.changes ++ (record { when = at; change = c }) ∷ [])) (new : TreeList D) where
      abbrev g : Guarded
      g = record { when = at; change = c }

      one_more : length (has.changes ++ g ∷ []) ≡ count + 1
      one_more = length-append has.changes (g ∷ []) ∙ ap (λ (n : ℕ). n + 1) has.count_is

      -- is staged
      pub streamed_more : (value : Unit {0}) → (t : Tree) × IsListAt state t p old
          → ((t now : Tree) → IsListWithin state t now p mid → StagesGuarded state t now p at c mid new (Ok (Ok value)))
          → HasStreamed state came p (count + 1) old new
      streamed_more value some stages = record {
        changes = has.changes ++ g ∷ [];
        came_is = gives;
        count_is = one_more;
        faults = (stages some.0 (roomy_tree p some.0 has.changes) (has.list some.0 some.1)).faults ∙ has.faults;
        list = λ t at. subst (λ (u : Tree). IsListWithin state t u p new)
            (sym (tree_more (guarded_step p) t has.changes g))
            (stages t (roomy_tree p t has.changes) (has.list t at)).goes;
        none = λ t at observable. none_more (guarded_step p) t has.changes g (has.none t at observable)
            (sym ((stages t (roomy_tree p t has.changes) (has.list t at)).answer
            (follows.0.disk.observable ∙ observable)));
      }

      module _ {F : Type 0} (all : List Guarded → Type 0) (failed_by : List Guarded → F → Type 0)
          (behind : FollowsList state old new) (end : TreeList D) (back : end.pages ≡ without_changes new.pages) where
        -- is refused, and all is taken back
        pub streamed_refused : (refusal : Refusal) → (t : Tree) × IsListAt state t p old
            → ((t now : Tree) → IsListWithin state t now p mid
            → StagesGuarded state t now p at c mid new (Ok (Err refusal)))
            → CarriesOutStream came all failed_by state p old end (Ok (Ok (answers.Refused count refusal)))
        streamed_refused refusal some stages = record {
          changes = has.changes ++ g ∷ [];
          is_whole = false;
          came_for = (gives, (let sum : count + 1 ≡ suc count = omega arith in one_more ∙ sum));
          call = λ t at. subst (λ (s : StagedState D AnyDraw). EndsStep state t t
              (IsStreamAnswer {F = F} p t false (has.changes ++ g ∷ [])) p old.pages s
              (Ok (Ok (answers.Refused count refusal)))) (sym back) (record {
                step = read_step state t t (IsStreamAnswer {F = F} p t false (has.changes ++ g ∷ [])) p old.pages
                    (without_changes new.pages) (Ok (Ok (answers.Refused count refusal))) at.fitting at.pages runs
                    (taken_back state old.pages new.pages behind.0)
                    ((stages some.0 (roomy_tree p some.0 has.changes) (has.list some.0 some.1)).faults ∙ has.faults)
                    (λ e. cc) (λ observable. refl)
                    (λ observable. ap (λ (n : ℕ). Some (n, refusal)) (sym has.count_is)
                    ∙ sym (refused_last (guarded_step p) t has.changes g (has.none t at observable) refusal
                    (sym ((stages t (roomy_tree p t has.changes) (has.list t at)).answer
                    (follows.0.disk.observable ∙ observable)))));
                none_staged = λ observable still. refl;
              });
          fits = λ t at observable. at.fitting;
        }

    module _ {F : Type 0} (came all : List Guarded → Type 0) (failed_by : List Guarded → F → Type 0)
        (end : TreeList D) where
      -- the stream failed, and all is taken back
      pub streamed_broken : (fault : F) → failed_by has.changes fault → end.pages ≡ without_changes mid.pages
          → CarriesOutStream came all failed_by state p old end (Ok (Err fault))
      streamed_broken fault failed back = record {
        changes = has.changes;
        is_whole = false;
        came_for = (refl, failed);
        call = λ t at. subst (λ (s : StagedState D AnyDraw). EndsStep state t t
            (IsStreamAnswer {F = F} p t false has.changes) p old.pages s (Ok (Err fault))) (sym back) (record {
              step = read_step state t t (IsStreamAnswer {F = F} p t false has.changes) p old.pages
                  (without_changes mid.pages) (Ok (Err fault)) at.fitting at.pages runs
                  (taken_back state old.pages mid.pages follows.0) has.faults (λ e. cc) (λ observable. refl)
                  (λ observable. has.none t at observable);
              none_staged = λ observable still. refl;
            });
        fits = λ t at observable. at.fitting;
      }

      -- it has no more, and all are settled
      pub streamed_all : all has.changes → (result : Result (Result GroupAnswer F) ApplyFault)
          → ((t next : Tree) → IsListOver state t next p mid
          → EndsStep state t (counted_step t next p).tree (IsEndAnswer p next count) p mid.pages end.pages result)
          → IsEndOf count result → CarriesOutStream came all failed_by state p old end result
      streamed_all whole result ends ended = record {
        changes = has.changes;
        is_whole = true;
        came_for = came_for result ended;
        call = λ t at.
            let next = roomy_tree p t has.changes in
            told_as state t (counted_step t next p).tree (streamed_tree p t true has.changes) (IsEndAnswer p next count)
            (IsStreamAnswer p t true has.changes) p old.pages end.pages result
            (λ observable. sym (whole_tree p t has.changes (has.none t at observable)))
            (λ observable answer is. told t at observable answer is)
            (behind_reads state t (counted_step t next p).tree (IsEndAnswer p next count) p old.pages mid.pages
            end.pages result at.fitting at.pages runs follows.0 has.faults (ends t next (has.list t at).over));
        fits = λ t at observable. on_ok result
            (subst (λ (u : Tree). IsFitting u p) (sym (whole_tree p t has.changes (has.none t at observable)))
            (counted_fitting t (roomy_tree p t has.changes) p at.fitting (has.list t at).over.under));
      }
        where
          came_for : (r : Result (Result GroupAnswer F) ApplyFault) → IsEndOf count r
              → CameFor came all failed_by true has.changes r
          came_for (Ok (Ok answers.Done)) is = (refl, whole)
          came_for (Ok (Ok (answers.Refused index reply))) is = (whole, has.count_is ∙ sym is)
          came_for (Ok (Err fault)) is = absurd is
          came_for (Err fault) is = whole

          told : (t : Tree) → IsListAt state t p old → IsObservable (state old.pages.disk)
              → (answer : Result GroupAnswer F) → IsEndAnswer p (roomy_tree p t has.changes) count answer
              → IsStreamAnswer p t true has.changes answer
          told t at observable (Ok answer) is =
              is ∙ ap (full_behind p (roomy_tree p t has.changes)) (sym has.count_is)
              ∙ sym (only_full p t has.changes (has.none t at observable))
          told t at observable (Err fault) is = absurd is

  -- it failed behind these, and all is taken back
  pub streamed_failed : (T : Type 0) {F : Type 0} (came all : List Guarded → Type 0)
      (failed_by : List Guarded → F → Type 0) (changes : List Guarded) → came changes → (mid : TreeList D)
      → FollowsList state old mid → (fault : Fault)
      → (state mid.pages.disk).faults
      ≡ disk_faults_after {T = T} (state old.pages.disk).faults (Err fault)
      → (end : TreeList D) → end.pages ≡ without_changes mid.pages
      → CarriesOutStream came all failed_by state p old end (Err (apply_fault_of fault))
  streamed_failed T {F} came all failed_by changes came_is mid follows fault faults end back = record {
    changes = changes;
    is_whole = false;
    came_for = came_is;
    call = λ t at. subst (λ (s : StagedState D AnyDraw). EndsStep state t t
        (IsStreamAnswer {F = F} p t false changes) p old.pages s (Err (apply_fault_of fault))) (sym back)
        (failed_step state t t (IsStreamAnswer {F = F} p t false changes) p old.pages mid.pages at.fitting at.pages runs
        follows.0 fault (any_faults T (Result GroupAnswer F) _ _ fault faults));
    fits = λ t at observable. tt;
  }

-- the end of a group of which so many changes are all carried out, by how the settle of their pages ended
abbrev pub stream_end : {F : Type 0} → ℕ → Result (Unit {0}) SettleFault → Result (Result GroupAnswer F) ApplyFault
stream_end count settled = counted_end (Ok answers.Done)
    (λ need slots. Ok (answers.Refused count (refusals.Full need slots))) settled

by_test : (p : Parameters) (next : Tree) (count : ℕ) {full : Bool} → nat_lt p.slots (page_count next p) ≡ full
    → full_behind p next count
    ≡ (if full then Some (count, refusals.Full (page_count next p) p.slots) else None)
by_test p next count is =
    ap (λ (full : Bool). if full then Some (count, refusals.Full (page_count next p) p.slots) else None) is

pub settled_stream : {D F : Type 0} (state : D → DiskState) (t next : Tree) (p : Parameters) (count : ℕ)
    (old new : StagedState D AnyDraw) (r : Result (Unit {0}) SettleFault)
    (sound : (x : D) → IsObservable (state x) → IsSound (state x)) → IsStagedFor state t next p old
    → old.is_spent ≡ false → SettlesAll state old new r
    → EndsStep state t (counted_step t next p).tree (IsEndAnswer {F = F} p next count) p old new (stream_end count r)
settled_stream {D} {F} state t next p count old new r sound staged runs is =
    subst (λ (s : StagedState D AnyDraw). EndsStep state t (counted_step t next p).tree
    (IsEndAnswer {F = F} p next count) p old s (stream_end count r)) (sym is.new_is)
    (settled_counted state t next p old is.settled r sound staged runs is.settles (IsEndAnswer {F = F} p next count)
    (Ok answers.Done) (λ need slots. Ok (answers.Refused count (refusals.Full need slots)))
    (λ room. sym (by_test p next count (le-ltb p.slots (page_count next p) room)))
    (λ more. sym (by_test p next count (lt-ltb p.slots (page_count next p) more))))

-- ---- a change, behind which the pages are few or many

module _ {D : Type 0} (state : D → DiskState) (t now : Tree) (p : Parameters) (c : Command) (old new : TreeList D)
    (answer : Result (Unit {0}) Refusal) (stages : StagesRoomy state t now p c old new (Ok answer)) where
  pub within_failed : StagesWithin state t now p c old new (Err causes.NoMemory)
  within_failed = record { faults = stages.faults; answer = λ observable. tt; goes = tt }

  pub within_staged : (used : ℕ) → (IsObservable (state new.pages.disk) → used ≡ maps.len new.pages.map)
      → used ≤ most_staged → StagesWithin state t now p c old new (Ok answer)
  within_staged used counts room = record {
    faults = stages.faults;
    answer = stages.answer;
    goes = goes answer stages.goes;
  }
    where
      goes : (r : Result (Unit {0}) Refusal) → OnOk r (IsListOver state t (roomy_step p now c).tree p new)
          → OnOk r (IsListWithin state t (roomy_step p now c).tree p new)
      goes (Err refusal) over = tt
      goes (Ok value) over = record {
        over = over;
        few = λ observable.
            let next = (roomy_step p now c).tree in
            omega (arith, counts observable, held_count next p new.pages.map (over.staged.holds observable), room);
      }
