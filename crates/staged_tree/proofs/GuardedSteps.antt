-- Changes that are staged in the list of a tree where their guards let them be.
use Rattle.std.proofs.Common.{◌≡◌, ◌≤◌, Bool, true, false, List, Result, Ok, Err, OnOk, sym, ap, subst, ◌∙◌}
use Rattle.store_base.specs.declared.store_fault.Fault.{Fault}
use Rattle.store_base.specs.Faults.{disk_faults_after}
use Rattle.store_model.specs.declared.refusal.Refusal.{Refusal}
use Rattle.store_model.specs.Parameters.{Parameters}
use Rattle.store_model.specs.Paths.{Path}
use Rattle.store_model.specs.Trees.{Tree, node_at}
use Rattle.store_model.specs.Draws.{Draw, draw_of}
use Rattle.store_model.specs.Pairs.{Pair, pairs}
use Rattle.store_model.specs.Pages.{page_count, Fits, IsTreeUnder}
use Rattle.store_model.specs.Commands.{Command, IsCommand}
use Rattle.store_model.specs.Steps.{Step}
use Rattle.disk_model.specs.DiskState.{DiskState, IsObservable}
use Rattle.seeded_draw.specs.AnyDrawn.{any_draw}
use Rattle.skip_levels.specs.Descent.{HoldsPairs}
use Rattle.tree_pairs.specs.TreeCalls.{KeepsPairs}
use Rattle.staged_tree.specs.declared.guards.When.{When}
use Rattle.staged_tree.specs.Guards.{Guarded, path_of, is_due_at, is_due, TellsDue}
use Rattle.staged_tree.specs.Roomy.{roomy_step, guarded_step}
use Rattle.staged_tree.specs.StagedTree.{TreeList, IsListWithin, FollowsList, most_staged}
use Rattle.staged_tree.specs.Staging.{StagesWithin, StagesGuarded}
use Rattle.staged_tree.proofs.AnswerSteps.{staged_then}
use Rattle.staged_tree.proofs.ListSteps.{pairs_state, own_pairs, seen_at}
use Rattle.staged_tree.proofs.RoomyLemmas.{guarded_due, guarded_passed, guarded_under}

-- a list of a tree is one of another that is the same over an observable disk
list_as : {D : Type 0} (state : D → DiskState) (t now next : Tree) (p : Parameters) (list : TreeList D)
    → IsTreeUnder next p → (IsObservable (state list.pages.disk) → now ≡ next) → IsListWithin state t now p list
    → IsListWithin state t next p list
list_as state t now next p list under same within =
    let over = within.over in
    record {
      over = record {
        under = under;
        staged = record {
          fitting = over.staged.fitting;
          tree = under.is_tree;
          params = over.staged.params;
          draw = over.staged.draw;
          size_is = over.staged.size_is;
          stands = over.staged.stands;
          table_is = over.staged.table_is;
          fits = λ observable. subst (λ (u : Tree). page_count u p ≤ p.slots → Fits u p) (same observable)
              (over.staged.fits observable);
          holds = λ observable. subst (λ (u : Tree). HoldsPairs (draw_of p) (pairs u p) list.pages.map)
              (same observable) (over.staged.holds observable);
        };
        draw = over.draw;
        whole = over.whole;
      };
      few = λ observable. subst (λ (u : Tree). page_count u p ≤ most_staged) (same observable)
          (within.few observable);
    }

module _ {D : Type 0} (state : D → DiskState) (t now : Tree) (p : Parameters) (old : TreeList D)
    (within : IsListWithin state t now p old) (runs : old.pages.is_spent ≡ false) (mid : TreeList D)
    (follows : FollowsList state old mid) where
  -- a call that leaves the pairs leaves the list
  module _ (keeps : KeepsPairs (pairs_state state old) (pairs_state state mid)) where
    kept_holds : IsObservable (state old.pages.disk) → HoldsPairs (draw_of p) (pairs now p) mid.pages.map
    kept_holds observable =
        let seen = seen_at state t now p old within.over runs observable in
        subst (λ (d : Draw). HoldsPairs d (pairs now p) mid.pages.map) (ap any_draw follows.1 ∙ within.over.draw)
        (subst (λ (s : List Pair). HoldsPairs (any_draw mid.draw) s mid.pages.map)
        (keeps.unchanged seen ∙ own_pairs state t now p old within.over runs observable)
        (keeps.observable seen).1.1)

    pub looked_within : IsListWithin state t now p mid
    looked_within = record {
      over = record {
        under = within.over.under;
        staged = staged_then state t now now p old.pages mid.pages within.over.staged follows.0
            within.over.under.is_tree (λ observable. within.over.staged.fits observable) kept_holds;
        draw = ap any_draw follows.1 ∙ within.over.draw;
        whole = λ observable.
            let before = sym follows.0.disk.observable ∙ observable in
            (keeps.observable (seen_at state t now p old within.over runs before)).0;
      };
      few = λ observable. within.few (sym follows.0.disk.observable ∙ observable);
    }

  module _ (at : When) (c : Command) where
    abbrev guarded : Guarded
    guarded = record { when = at; change = c }

    module _ (command : IsCommand c) (path : Path) (path_is : path ≡ path_of c) (due : Bool)
        (look : TellsDue at path (pairs_state state old) (pairs_state state mid) (Ok due)) where
      seen_due : IsObservable (state old.pages.disk) → due ≡ is_due now guarded
      seen_due observable = look.told (seen_at state t now p old within.over runs observable) now p (record {
        tree = within.over.under.is_tree;
        pairs_are = own_pairs state t now p old within.over runs observable;
      }) ∙ ap (λ (q : Path). is_due_at at (node_at now q)) path_is

      -- it is passed over
      pub change_passed : due ≡ false → (value : Unit {0}) → StagesGuarded state t now p at c old mid (Ok (Ok value))
      change_passed passed value =
          let step_is = λ (observable : IsObservable (state old.pages.disk)).
          guarded_passed p now guarded (sym (seen_due observable) ∙ passed) in
          record {
            faults = look.faults;
            answer = λ observable. sym (ap (λ (s : Step). s.reply) (step_is observable));
            goes = list_as state t now (guarded_step p now guarded).tree p mid
                (guarded_under p now guarded within.over.under command)
                (λ observable. sym (ap (λ (s : Step). s.tree) (step_is (sym follows.0.disk.observable ∙ observable))))
                (looked_within look.keeps);
          }

      -- it is carried out, refused, or failed
      pub change_due : due ≡ true → (new : TreeList D) → FollowsList state mid new
          → (r : Result (Result (Unit {0}) Refusal) Fault) → StagesWithin state t now p c mid new r
          → StagesGuarded state t now p at c old new r
      change_due is new then (Err fault) stages = record {
        faults = failed fault stages.faults;
        answer = λ observable. tt;
        goes = tt;
      }
        where
          failed : (f : Fault) → (state new.pages.disk).faults
              ≡ disk_faults_after {T = Result (Unit {0}) Refusal} (state mid.pages.disk).faults (Err f)
              → (state new.pages.disk).faults
              ≡ disk_faults_after {T = Result (Unit {0}) Refusal} (state old.pages.disk).faults (Err f)
          failed f e = e ∙ ap (λ n. disk_faults_after {T = Result (Unit {0}) Refusal} n (Err f)) look.faults
      change_due is new then (Ok answer) stages =
          let step_is = λ (observable : IsObservable (state old.pages.disk)).
          guarded_due p now guarded (sym (seen_due observable) ∙ is) in
          record {
            faults = stages.faults ∙ look.faults;
            answer = λ observable. stages.answer (follows.0.disk.observable ∙ observable)
                ∙ sym (ap (λ (s : Step). s.reply) (step_is observable));
            goes = goes answer stages.goes;
          }
        where
          goes : (r : Result (Unit {0}) Refusal) → OnOk r (IsListWithin state t (roomy_step p now c).tree p new)
              → OnOk r (IsListWithin state t (guarded_step p now guarded).tree p new)
          goes (Err refusal) list = tt
          goes (Ok value) list =
              list_as state t (roomy_step p now c).tree (guarded_step p now guarded).tree p new
              (guarded_under p now guarded within.over.under command)
              (λ observable.
              let before = sym follows.0.disk.observable ∙ (sym then.0.disk.observable ∙ observable) in
              sym (ap (λ (s : Step). s.tree) (guarded_due p now guarded (sym (seen_due before) ∙ is)))) list
