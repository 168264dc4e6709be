-- Changes that are staged one after another in the list of a tree.
use Rattle.std.proofs.Common.{◌≡◌, ℕ, ◌+◌, Bool, true, false, List, ◌∷◌, ◌<◌, ◌≤◌, length, map, drop, get_or, Result}
use Rattle.std.proofs.Common.{Ok, Err, OnOk, nat_lt, if◌then◌else◌, refl, sym, ap, subst, ◌∙◌}
use Rattle.std.specs.FinMap as maps
use Rattle.std.proofs.lemmas.List.{drop_more, drop_all}
use Rattle.store_base.specs.declared.store_fault.Fault.{Fault}
use Rattle.store_model.specs.declared.refusal.Refusal.{Refusal}
use Rattle.store_model.specs.declared.refusal.Refusal.TheVariants as refusals
use Rattle.store_model.specs.declared.version.Version.{Version}
use Rattle.store_model.specs.Parameters.{Parameters}
use Rattle.store_model.specs.Trees.{Tree}
use Rattle.store_model.specs.Draws.{draw_of}
use Rattle.store_model.specs.Pairs.{pairs}
use Rattle.store_model.specs.Pages.{page_count}
use Rattle.store_model.specs.Commands.{Command, Reply, IsCommand}
use Rattle.store_model.specs.Commands.Reply.{Acknowledged, Refused}
use Rattle.store_model.specs.Steps.{Step, lacks_version, step}
use Rattle.store_model.specs.Scripts.{tree_by}
use Rattle.disk_model.specs.DiskState.{DiskState, IsObservable}
use Rattle.seeded_draw.specs.declared.any.AnyDraw.{AnyDraw}
use Rattle.seeded_draw.specs.AnyDrawn.{any_draw}
use Rattle.script_lines.specs.declared.reply.Reply.TheVariants as replies
use Rattle.script_lines.specs.declared.session.Change.{Change}
use Rattle.script_lines.specs.Sessions.{change_of}
use Rattle.skip_levels.specs.Descent.{HoldsPairs}
use Rattle.page_store.specs.StagedState.{StagedState, without_changes}
use Rattle.image_check.specs.declared.fault.ApplyFault.{ApplyFault}
use Rattle.image_check.specs.Faults.{apply_fault_of}
use Rattle.image_check.specs.Standing.{IsFitting}
use Rattle.tree_pairs.specs.TreeCalls.{reply_seen, uncounted_step, CarriesOutUnder}
use Rattle.tree_commands.specs.Counted.{counted_step}
use Rattle.staged_tree.specs.declared.group.GroupAnswer.{GroupAnswer}
use Rattle.staged_tree.specs.declared.group.GroupAnswer.TheVariants as answers
use Rattle.staged_tree.specs.Groups.{step_under, refused_in, group_tree, answered_group, IsGroupAnswer}
use Rattle.staged_tree.specs.Roomy.{roomy_step}
use Rattle.staged_tree.specs.StagedTree.{TreeList, IsListAt, IsListOver, IsListFor, FollowsList}
use Rattle.staged_tree.specs.Steps.{EndsStep}
use Rattle.staged_tree.specs.Staging.{counted_answer, StagesChange, StagesRoomy, StagesAll}
use Rattle.staged_tree.proofs.AnswerSteps.{staged_then}
use Rattle.staged_tree.proofs.StagedSteps.{read_step, taken_back, failed_step, told_as, behind_reads}
use Rattle.staged_tree.proofs.GroupLemmas.{behind, behind_none, refused_later, refused_first, tree_later, none_refused}
use Rattle.staged_tree.proofs.GroupLemmas.{tree_stays, group_done, group_refused}
use Rattle.staged_tree.proofs.ListSteps.{pairs_state, changed_list, answers_at, whole_behind}
use Rattle.staged_tree.proofs.RoomyLemmas.{roomy_lacks, roomy_has, roomy_refused, roomy_acked, roomy_under}
use Rattle.staged_tree.proofs.TreePages.{fitting_step, held_count}

-- ---- the pages counted

-- a step that counts its pages is answered by their count
counted_reply : (t next : Tree) (p : Parameters)
    → reply_seen (λ _. Acknowledged) (counted_answer (page_count next p) p.slots) ≡ (counted_step t next p).reply
counted_reply t next p = by (nat_lt p.slots (page_count next p))
  where
    by : (full : Bool) → reply_seen (λ _. Acknowledged)
        (if full then Err (refusals.Full (page_count next p) p.slots) else Ok (tt {0}))
        ≡ Step.reply (if full then (record {
          reply = Refused (refusals.Full (page_count next p) p.slots);
          tree = t;
        }) else
        (record { reply = Acknowledged; tree = next }))
    by true = refl
    by false = refl

-- and leads to the next tree where that is no refusal
counted_next : (t next : Tree) (p : Parameters) (value : Unit {0})
    → Ok value ≡ counted_answer (page_count next p) p.slots → (counted_step t next p).tree ≡ next
counted_next t next p value is = by (nat_lt p.slots (page_count next p)) is
  where
    by : (full : Bool) → Ok value ≡ (if full then Err (refusals.Full (page_count next p) p.slots) else Ok (tt {0}))
        → Step.tree (if full then (record {
          reply = Refused (refusals.Full (page_count next p) p.slots);
          tree = t;
        }) else
        (record { reply = Acknowledged; tree = next })) ≡ next
    by true e = cc
    by false e = refl

-- ---- a change

module _ {D : Type 0} (state : D → DiskState) (t now : Tree) (p : Parameters) (c : Command) (old : TreeList D)
    (list : IsListOver state t now p old) (runs : old.pages.is_spent ≡ false) where
  -- the version lacks it
  pub version_lacks : lacks_version c p ≡ true → StagesRoomy state t now p c old old (Ok (Err refusals.Version))
  version_lacks is = record {
    faults = refl;
    answer = λ observable. sym (ap (λ (s : Step). s.reply) (roomy_lacks p now c is));
    goes = tt;
  }

  module _ (command : IsCommand c) (has : lacks_version c p ≡ false) (version : Version) (under : version ≡ p.version)
      (mid : TreeList D) (follows : FollowsList state old mid) where
    next_is : (roomy_step p now c).tree ≡ (uncounted_step now c p).tree
    next_is = ap (λ (s : Step). s.tree) (roomy_has p now c has)

    to_roomy : {reply : Reply} → reply ≡ (uncounted_step now c p).reply → reply ≡ (roomy_step p now c).reply
    to_roomy is = is ∙ sym (ap (λ (s : Step). s.reply) (roomy_has p now c has))

    -- or else it is carried out, refused, or failed
    pub change_staged : (r : Result (Result (Unit {0}) Refusal) Fault)
        → CarriesOutUnder {T = Unit {0}} version (λ _. Acknowledged) c (pairs_state state old) (pairs_state state mid) r
        → StagesRoomy state t now p c old mid r
    change_staged (Err fault) call = record { faults = call.faults; answer = λ observable. tt; goes = tt }
    change_staged (Ok (Err refusal)) call =
        let reply = replies.No refusal in
        let is = changed_list state p version c old mid (Ok (Err refusal)) (Ok reply) under refl follows call in
        let answers = answers_at state t now p old list runs c mid (Ok reply) is in
        record {
          faults = call.faults;
          answer = λ observable. to_roomy (answers.answered observable).reply_is;
          goes = tt;
        }
    change_staged (Ok (Ok value)) call =
        let is = changed_list state p version c old mid (Ok (Ok value)) (Ok replies.Ok) under refl follows call in
        let answers = answers_at state t now p old list runs c mid (Ok replies.Ok) is in
        let to = roomy_under p now c list.under command in
        record {
          faults = call.faults;
          answer = λ observable. to_roomy (answers.answered observable).reply_is;
          goes = record {
            under = to;
            staged = staged_then state t now (roomy_step p now c).tree p
                old.pages mid.pages list.staged follows.0 to.is_tree
                (λ observable room. record { room = room; bare = to.bare })
                (λ observable. subst (λ (u : Tree). HoldsPairs (draw_of p) (pairs u p) mid.pages.map)
                (sym next_is) (answers.answered observable).holds);
            draw = ap any_draw follows.1 ∙ list.draw;
            whole = whole_behind state t now p old list runs c mid replies.Ok is;
          };
        }

-- a change of a tree that fits, behind which the pages are counted
module _ {D : Type 0} (state : D → DiskState) (t now : Tree) (p : Parameters) (c : Command) (old mid : TreeList D)
    (list : IsListFor state t now p old) (follows : FollowsList state old mid) where
  -- it is refused otherwise
  pub change_refused : (refusal : Refusal) → StagesRoomy state t now p c old mid (Ok (Err refusal))
      → StagesChange state t now p c old mid (Ok (Err refusal))
  change_refused refusal stages = record {
    faults = stages.faults;
    answer = λ observable. sym (ap (λ (s : Step). s.reply) (roomy_refused p now c refusal (stages.answer observable)));
    goes = tt;
  }

  -- it is carried out
  module _ (command : IsCommand c) (value : Unit {0}) (stages : StagesRoomy state t now p c old mid (Ok (Ok value)))
      (answer : Result (Unit {0}) Refusal)
      (counts : IsObservable (state mid.pages.disk) → answer ≡ counted_answer (maps.len mid.pages.map) p.slots) where
    abbrev next : Tree
    next = (roomy_step p now c).tree

    over : IsListOver state t next p mid
    over = stages.goes

    module _ (observable : IsObservable (state old.pages.disk)) where
      stepped : step now c p ≡ counted_step now next p
      stepped = roomy_acked p now c list.fitting.tree list.fitting.fits (stages.answer observable)

      counted : answer ≡ counted_answer (page_count next p) p.slots
      counted =
          let seen = follows.0.disk.observable ∙ observable in
          counts seen
          ∙ ap (λ (n : ℕ). counted_answer n p.slots) (held_count next p mid.pages.map (over.staged.holds seen))

    goes : (r : Result (Unit {0}) Refusal) → r ≡ answer → OnOk r (IsListFor state t (step now c p).tree p mid)
    goes (Err refusal) e = tt
    goes (Ok done) e =
        let to = fitting_step now c p list.fitting command in
        let same = λ (observable : IsObservable (state mid.pages.disk)).
        let before = sym follows.0.disk.observable ∙ observable in
        ap (λ (s : Step). s.tree) (stepped before) ∙ counted_next now next p done (e ∙ counted before) in
        record {
          fitting = to;
          over = record {
            under = record { is_tree = to.tree; bare = to.fits.bare };
            staged = record {
              fitting = over.staged.fitting;
              tree = to.tree;
              params = over.staged.params;
              draw = over.staged.draw;
              size_is = over.staged.size_is;
              stands = over.staged.stands;
              table_is = over.staged.table_is;
              fits = λ observable room. to.fits;
              holds = λ observable. subst (λ (u : Tree). HoldsPairs (draw_of p) (pairs u p) mid.pages.map)
                  (sym (same observable)) (over.staged.holds observable);
            };
            draw = over.draw;
            whole = over.whole;
          };
        }

    pub change_counted : StagesChange state t now p c old mid (Ok answer)
    change_counted = record {
      faults = stages.faults;
      answer = λ observable. ap (reply_seen (λ _. Acknowledged)) (counted observable) ∙ counted_reply now next p
          ∙ sym (ap (λ (s : Step). s.reply) (stepped observable));
      goes = goes answer refl;
    }

-- ---- changes one after another

-- of these changes so many are staged, and the rest is to follow
pub record HasStaged {D : Type 0} (state : D → DiskState) (t : Tree) (p : Parameters) (group : List Command) (count : ℕ)
    (rest : List Command) (old new : TreeList D) : Type 0 where
  pub now : Tree
  pub list : IsListFor state t now p new
  pub tree : tree_by (step_under p) t group ≡ tree_by (step_under p) now rest
  pub refused : IsObservable (state old.pages.disk) → refused_in p t group ≡ behind count (refused_in p now rest)

module _ {D : Type 0} (state : D → DiskState) (t : Tree) (p : Parameters) (changes : List Change)
    (old : TreeList D) where
  -- none is staged yet
  pub staged_none : IsListFor state t t p old
      → HasStaged state t p (map change_of changes) 0 (map change_of changes) old old
  staged_none list = record {
    now = t;
    list = list;
    tree = refl;
    refused = λ observable. behind_none (refused_in p t (map change_of changes));
  }

  -- the next one, at this index
  module _ (index : ℕ) (change : Change) (mid new : TreeList D) (inside : index < length changes)
      (at : change ≡ get_or changes index change) (follows : FollowsList state old mid)
      (has : HasStaged state t p (map change_of changes) index (map change_of (drop index changes)) old mid) where
    abbrev rest : List Command
    rest = map change_of (drop (index + 1) changes)

    here : HasStaged state t p (map change_of changes) index (change_of change ∷ rest) old mid
    here = subst (λ (left : List Change). HasStaged state t p (map change_of changes) index
        (map change_of left) old mid) (drop_more changes index change inside
        ∙ ap (λ (x : Change). x ∷ drop (index + 1) changes) (sym at)) has

    -- is staged
    pub staged_more : (value : Unit {0})
        → ((now : Tree) → IsListFor state t now p mid
        → StagesChange state t now p (change_of change) mid new (Ok (Ok value)))
        → HasStaged state t p (map change_of changes) (index + 1) rest old new
    staged_more value call =
        let stages = call here.now here.list in
        record {
          now = (step here.now (change_of change) p).tree;
          list = stages.goes;
          tree = here.tree ∙ tree_later p here.now (change_of change) rest;
          refused = λ observable. here.refused observable
              ∙ refused_later p here.now (change_of change) rest index
              (sym (stages.answer (follows.0.disk.observable ∙ observable)));
        }

    -- is refused
    pub staged_refused : (refusal : Refusal) → (state mid.pages.disk).faults ≡ (state old.pages.disk).faults
        → ((now : Tree) → IsListFor state t now p mid
        → StagesChange state t now p (change_of change) mid new (Ok (Err refusal)))
        → StagesAll state t p (map change_of changes) old new (Ok (answers.Refused index refusal))
    staged_refused refusal faults call =
        let stages = call here.now here.list in
        record {
          faults = stages.faults ∙ faults;
          answer = λ observable. sym (here.refused observable
              ∙ refused_first p here.now (change_of change) rest index refusal
              (sym (stages.answer (follows.0.disk.observable ∙ observable))));
          goes = λ e. absurd (cc);
        }

  -- no other follows
  pub staged_all : (index : ℕ) (new : TreeList D) → length changes ≤ index
      → HasStaged state t p (map change_of changes) index (map change_of (drop index changes)) old new
      → (state new.pages.disk).faults ≡ (state old.pages.disk).faults
      → StagesAll state t p (map change_of changes) old new (Ok answers.Done)
  staged_all index new past before faults =
      let has = subst (λ (left : List Change). HasStaged state t p (map change_of changes) index
      (map change_of left) old new) (drop_all index changes past) before in
      record {
        faults = faults;
        answer = λ observable. sym (has.refused observable ∙ ap (behind index) (none_refused p has.now));
        goes = λ e. subst (λ (u : Tree). IsListFor state t u p new) (sym (has.tree ∙ tree_stays p has.now)) has.list;
      }

-- ---- the end of a group

module _ {D : Type 0} (state : D → DiskState) (t : Tree) (p : Parameters) (group : List Command) (old mid : TreeList D)
    (list : IsListAt state t p old) (runs : old.pages.is_spent ≡ false) (follows : FollowsList state old mid) where
  -- one is refused, and all is taken back
  module _ (answer : GroupAnswer) (index : ℕ) (refusal : Refusal) (is : answer ≡ answers.Refused index refusal)
      (staged : StagesAll state t p group old mid (Ok answer)) where
    stages : StagesAll state t p group old mid (Ok (answers.Refused index refusal))
    stages = subst (λ (x : GroupAnswer). StagesAll state t p group old mid (Ok x)) is staged

    stays : IsObservable (state old.pages.disk) → group_tree p t group ≡ t
    stays observable = group_refused p t group (index, refusal) (sym (stages.answer observable))

    pub refused_ends : EndsStep state t (group_tree p t group)
        (IsGroupAnswer p t group) p old.pages (without_changes mid.pages) (Ok (answers.Refused index refusal))
    refused_ends = record {
      step = read_step state t (group_tree p t group) (IsGroupAnswer p t group) p old.pages (without_changes mid.pages)
          (Ok (answers.Refused index refusal)) list.fitting list.pages runs
          (taken_back state old.pages mid.pages follows.0) stages.faults (λ e. cc) stays stages.answer;
      none_staged = λ observable still. refl;
    }

    pub refused_fits : IsObservable (state old.pages.disk) → IsFitting (group_tree p t group) p
    refused_fits observable = subst (λ (u : Tree). IsFitting u p) (sym (stays observable)) list.fitting

  -- it failed, and all is taken back
  pub failed_ends : (fault : Fault) → StagesAll state t p group old mid (Err fault)
      → EndsStep state t (group_tree p t group) (IsGroupAnswer p t group) p old.pages (without_changes mid.pages)
      (Err (apply_fault_of fault))
  failed_ends fault stages = failed_step state t (group_tree p t group)
      (IsGroupAnswer p t group) p old.pages mid.pages list.fitting list.pages runs follows.0 fault stages.faults

  -- all are carried out, and settled
  module _ (answer : GroupAnswer) (is : answer ≡ answers.Done)
      (staged : StagesAll state t p group old mid (Ok answer)) where
    all_staged : StagesAll state t p group old mid (Ok answers.Done)
    all_staged = subst (λ (x : GroupAnswer). StagesAll state t p group old mid (Ok x)) is staged

    moves : IsObservable (state old.pages.disk) → group_tree p t group ≡ tree_by (step_under p) t group
    moves observable = group_done p t group (sym (all_staged.answer observable))

    pub done_ends : (new : StagedState D AnyDraw) (result : Result GroupAnswer ApplyFault)
        → ((next : Tree) → IsListFor state t next p mid
        → EndsStep state t next (λ answer. answer ≡ answers.Done) p mid.pages new result)
        → EndsStep state t (group_tree p t group) (IsGroupAnswer p t group) p old.pages new result
    done_ends new result ends =
        told_as state t (tree_by (step_under p) t group) (group_tree p t group) (λ answer. answer ≡ answers.Done)
        (IsGroupAnswer p t group) p old.pages new result (λ observable. sym (moves observable))
        (λ observable other e. ap answered_group e ∙ all_staged.answer observable)
        (behind_reads state t (tree_by (step_under p) t group)
        (λ answer. answer ≡ answers.Done) p old.pages mid.pages new result list.fitting list.pages runs
        follows.0 all_staged.faults (ends (tree_by (step_under p) t group) (all_staged.goes refl)))

    pub done_fits : (result : Result GroupAnswer ApplyFault) → IsObservable (state old.pages.disk)
        → OnOk result (IsFitting (group_tree p t group) p)
    done_fits (Ok value) observable = subst (λ (u : Tree). IsFitting u p) (sym (moves observable))
        (all_staged.goes refl).fitting
    done_fits (Err fault) observable = tt
