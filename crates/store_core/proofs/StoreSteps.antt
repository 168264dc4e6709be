-- What a store comes to by the steps of its staged pages.
use Rattle.std.proofs.Common.{◌≡◌, ℕ, Option, Bool, true, false, List, Result, Ok, Err, OnOk, OnErr, is_ok, refl, sym}
use Rattle.std.proofs.Common.{ap, subst, ◌∙◌, ⊎_elim}
use Rattle.std.proofs.lemmas.Bool.{cases_Bool, false≢true}
use Rattle.store_model.specs.Parameters.{Parameters}
use Rattle.store_model.specs.Trees.{Tree, empty_tree}
use Rattle.store_model.specs.Pages.{IsTreeUnder}
use Rattle.store_model.specs.Images.{layout}
use Rattle.store_model.specs.Commands.{Command}
use Rattle.store_model.specs.Steps.{step}
use Rattle.disk_model.specs.DiskState.{DiskState, IsObservable}
use Rattle.seeded_draw.specs.AnyDrawn.{any_draw}
use Rattle.script_lines.specs.declared.reply.Reply.{Reply}
use Rattle.script_lines.specs.InPlace.{in_place}
use Rattle.image_check.specs.declared.fault.ApplyFault.{ApplyFault}
use Rattle.image_check.specs.declared.fault.ApplyFault.TheVariants as apply
use Rattle.staged_tree.specs.declared.group.GroupAnswer.{GroupAnswer}
use Rattle.staged_tree.specs.Groups.{group_tree, IsGroupAnswer}
use Rattle.staged_tree.specs.Guards.{Guarded}
use Rattle.staged_tree.specs.Roomy.{streamed_tree, IsStreamAnswer}
use Rattle.store_core.specs.Known.{KnownState, MovesOn}
use Rattle.image_check.specs.Standing.{IsFitting, Stands}
use Rattle.staged_tree.specs.StagedTree.{TreeList, StagesTreePages, IsListAt, GoesOn}
use Rattle.staged_tree.specs.Steps.{StepsPages, EndsStep, IsReplyTo}
use Rattle.store_core.specs.StoreCalls.{StepsStore}
use Rattle.store_core.specs.StoreFields.{HoldsKnown}
use Rattle.store_core.specs.StoreState.{StoreState}
use Rattle.store_model.specs.Pairs.{Pair}
use Rattle.staged_tree.specs.declared.load.LoadAnswer.{LoadAnswer}
use Rattle.staged_tree.specs.Loads.{loaded_tree, IsLoadAnswer}
use Rattle.staged_tree.proofs.LoadSteps.{fitting_loaded}
use Rattle.staged_tree.proofs.NextPairs.{IsNextOf}
use Rattle.staged_tree.proofs.Unchanged.{stands_reading, keeps_itself}

-- a store with these fields, as it is seen
abbrev pub store_of : {D : Type 0} → KnownState D → TreeList D → StoreState D
store_of known list = record {
  params = known.params;
  tree = known.tree;
  disk = list.pages.disk;
  is_stopped = list.pages.is_spent;
}

-- what steps answer, and the trees that they lead to, by the parameters and the tree
abbrev pub Nexts : Type 0
Nexts = Parameters → Tree → Tree

abbrev pub Answers : Type 0 → Type 1
Answers A = Parameters → Tree → A → Type 0

-- those of a command
abbrev pub command_tree : Command → Nexts
command_tree c p t = (step t c p).tree

abbrev pub CommandReply : Command → Answers Reply
CommandReply c p t = IsReplyTo (step t c p)

-- and those of a group
abbrev pub group_next : List Command → Nexts
group_next group p t = group_tree p t group

abbrev pub GroupReply : List Command → Answers GroupAnswer
GroupReply group p t = IsGroupAnswer p t group

-- those of the changes that came of a stream, all of them or the first ones
abbrev pub stream_next : Bool → List Guarded → Nexts
stream_next is_whole changes p t = streamed_tree p t is_whole changes

abbrev pub StreamReply : {F : Type 0} → Bool → List Guarded → Answers (Result GroupAnswer F)
StreamReply is_whole changes p t = IsStreamAnswer p t is_whole changes

-- those of a search for the next pair, which leaves the tree
abbrev pub next_tree : Nexts
next_tree p t = t

abbrev pub NextReply : List ℕ → Answers (Option Pair)
NextReply key p t = IsNextOf key p t

-- and those of a load
abbrev pub load_next : Tree → Nexts
load_next t p empty = loaded_tree p empty t

abbrev pub LoadReply : Tree → Answers LoadAnswer
LoadReply t p empty = IsLoadAnswer p t

-- a store takes the step from its tree
abbrev pub Goes : {D A : Type 0} → (D → DiskState) → Nexts → Answers A → StoreState D → StoreState D
    → Result A ApplyFault → Type 0
Goes state next IsAnswer old new result =
    StepsStore state (next old.params old.tree) (IsAnswer old.params old.tree) old new result

-- a store that is stopped does nothing
pub stopped : {D A : Type 0} (state : D → DiskState) (next : Tree) (IsAnswer : A → Type 0) (store : StoreState D)
    → store.is_stopped ≡ true → StepsStore state next IsAnswer store store (Err apply.Stopped)
stopped state next IsAnswer store is = record {
  params = refl;
  kept = keeps_itself (state store.disk);
  faults = refl;
  stopped = (λ e. is, λ e. refl);
  still = λ e. refl;
  answer = λ observable. tt;
  tree = λ observable. tt;
  fault = refl;
  hidden = λ unseen. refl;
  runs = λ e. absurd (false≢true (sym e ∙ is));
  observed = λ observable e. absurd (false≢true (sym e ∙ is));
}

-- the list of a known tree that is served went on to that of a next one
module _ {D A : Type 0} (state : D → DiskState) (known : KnownState D) (old new : TreeList D) (next : Tree)
    (IsAnswer : A → Type 0) (served : HoldsKnown state known old) (runs : old.pages.is_spent ≡ false)
    (goes : GoesOn state old new) where
  module _ (result : Result A ApplyFault)
      (ends : EndsStep state known.tree next IsAnswer known.params old.pages new.pages result) where
    before : IsObservable (state new.pages.disk) → IsObservable (state old.pages.disk)
    before observable = sym ends.step.kept.observable ∙ observable

    steps : IsObservable (state new.pages.disk)
        → StepsPages state known.tree next IsAnswer known.params old.pages new.pages result
    steps observable = ends.step.observed (before observable)

    in_image : (t : Tree) → IsFitting t known.params
        → (IsObservable (state new.pages.disk) → new.pages.is_spent ≡ false
        → StagesTreePages state t known.params new.pages) → IsListAt state t known.params new
    in_image t fit held =
        let pages = served.at.pages in
        record {
          fitting = fit;
          pages = record {
            params = ends.step.params ∙ pages.params;
            draw = ap any_draw ends.step.draw ∙ pages.draw;
            size_is = ends.step.kept.size ∙ pages.size_is;
            held = held;
          };
          draw = ap any_draw goes.draw ∙ served.at.draw;
          whole = goes.whole;
        }

    pub same_observable : (state new.pages.disk).is_observable ≡ (state known.settled).is_observable
    same_observable = ends.step.kept.observable ∙ served.observable

    applies : (after : KnownState D) → after.params ≡ known.params
        → (IsObservable (state old.pages.disk) → OnOk result (after.tree ≡ next))
        → OnErr result (after.tree ≡ known.tree) → ((IsObservable (state old.pages.disk) → ⊥) → after.tree ≡ known.tree)
        → StepsStore state next IsAnswer (store_of known old) (store_of after new) result
    applies after params tree fault hidden = record {
      params = params;
      kept = ends.step.kept;
      faults = ends.step.faults;
      stopped = (λ e. absurd (ends.step.never e), λ e. absurd (false≢true (sym runs ∙ e)));
      still = λ e. absurd (false≢true (sym runs ∙ e));
      answer = λ observable. (ends.step.observed observable).answer;
      tree = tree;
      fault = fault;
      hidden = hidden;
      runs = λ e. ends.step.runs;
      observed = λ observable e. (ends.step.observed observable).image;
    }

  -- it was answered, and an observable disk has room for the next tree
  module _ (answer : A) (fits : IsObservable (state old.pages.disk) → IsFitting next known.params)
      (ends : EndsStep state known.tree next IsAnswer known.params old.pages new.pages (Ok answer)) where
    fitting_to : IsObservable (state new.pages.disk) → IsFitting next known.params
    fitting_to observable = fits (before (Ok answer) ends observable)

    pub stands_at : IsObservable (state new.pages.disk)
        → (t : Tree) × (IsFitting t known.params × ((state new.pages.disk).bytes ≡ layout t known.params))
    stands_at observable = (next, (fitting_to observable, (steps (Ok answer) ends observable).image.stands.layout_is))

    module _ (after : KnownState D) (settles : MovesOn state new.pages.disk known after) where
      tree_seen : IsObservable (state new.pages.disk) → after.tree ≡ next
      tree_seen observable = settles.seen observable next (fitting_to observable)
          (steps (Ok answer) ends observable).image.stands.layout_is

      pub answered_applies : StepsStore state next IsAnswer (store_of known old) (store_of after new) (Ok answer)
      answered_applies = applies (Ok answer) ends after
          settles.params (λ observable. tree_seen (ends.step.kept.observable ∙ observable)) tt
          (λ unseen. settles.unseen (λ seen. unseen (before (Ok answer) ends seen)))

      pub answered_served : HoldsKnown state after new
      answered_served = ⊎_elim
          (λ observable.
          let tree = tree_seen observable in
          let held : IsObservable (state new.pages.disk) → new.pages.is_spent ≡ false
          → StagesTreePages state next known.params new.pages = λ seen still.
          let table_is = (steps (Ok answer) ends seen).goes in
          record {
            stands = (steps (Ok answer) ends seen).image.stands;
            table_is = table_is;
            map_is = ends.none_staged seen still ∙ table_is;
          } in
          at_tree next tree (in_image (Ok answer) ends next (fitting_to observable) held))
          (λ hidden.
          let unseen = λ (seen : IsObservable (state new.pages.disk)). false≢true (sym hidden ∙ seen) in
          at_tree known.tree (settles.unseen unseen)
          (in_image (Ok answer) ends known.tree served.at.fitting (λ seen. absurd (unseen seen))))
          (cases_Bool (state new.pages.disk).is_observable)
        where
          at_tree : (t : Tree) → after.tree ≡ t → IsListAt state t known.params new → HoldsKnown state after new
          at_tree t is at = record {
            at = subst (λ (p : Parameters). IsListAt state after.tree p new) (sym settles.params)
                (subst (λ (u : Tree). IsListAt state u known.params new) (sym is) at);
            observable = ap (λ (disk : D). (state disk).is_observable) (sym settles.settled);
          }

  -- it failed
  module _ (fault : ApplyFault)
      (ends : EndsStep state known.tree next IsAnswer known.params old.pages new.pages (Err fault)) where
    pub failed_applies : StepsStore state next IsAnswer (store_of known old) (store_of known new) (Err fault)
    failed_applies = applies (Err fault) ends known refl (λ observable. tt) refl (λ unseen. refl)

    pub failed_served : HoldsKnown state known new
    failed_served = record {
      at = in_image (Err fault) ends known.tree served.at.fitting (λ observable still.
          let held = served.at.pages.held (before (Err fault) ends observable) runs in
          let table_is = (steps (Err fault) ends observable).stays still ∙ held.table_is in
          record {
            stands = stood fault ends observable still held.stands;
            table_is = table_is;
            map_is = ends.none_staged observable still ∙ table_is;
          });
      observable = same_observable (Err fault) ends;
    }
      where
        stood : (f : ApplyFault) → EndsStep state known.tree next IsAnswer known.params old.pages new.pages (Err f)
            → IsObservable (state new.pages.disk) → new.pages.is_spent ≡ false
            → Stands (state old.pages.disk) known.tree known.params
            → Stands (state new.pages.disk) known.tree known.params
        stood apply.Disk e observable still stands =
            stands_reading (state old.pages.disk) (state new.pages.disk)
            known.tree known.params ((steps (Err apply.Disk) e observable).image.goes_on still refl) stands
        stood apply.NoMemory e observable still stands =
            stands_reading (state old.pages.disk) (state new.pages.disk)
            known.tree known.params ((steps (Err apply.NoMemory) e observable).image.no_memory refl) stands
        stood apply.Stopped e observable still stands = absurd (e.step.never refl)

-- ---- a call

-- a step was taken by the list of a store that is seen so
pub record IsCarried {D A : Type 0} (state : D → DiskState) (next : Nexts) (IsAnswer : Answers A) (known : KnownState D)
    (old new : TreeList D) (now : StoreState D) (result : Result A ApplyFault) : Type 0 where
  pub served : HoldsKnown state known old
  pub seen : store_of known old ≡ now
  pub fits : IsObservable (state old.pages.disk) → (answer : A) → result ≡ Ok answer
      → IsFitting (next known.params known.tree) known.params
  pub runs : old.pages.is_spent ≡ false
  pub goes : GoesOn state old new
  pub ends : EndsStep state known.tree (next known.params known.tree)
      (IsAnswer known.params known.tree) known.params old.pages new.pages result

pub carried : {D A : Type 0} (state : D → DiskState) (next : Nexts) (IsAnswer : Answers A) (known : KnownState D)
    (old new : TreeList D) (now : StoreState D) (result : Result A ApplyFault) (p : Parameters) (is_stopped : Bool)
    → HoldsKnown state known old → store_of known old ≡ now → is_stopped ≡ now.is_stopped → is_stopped ≡ false
    → p ≡ known.params → GoesOn state old new
    → ((t : Tree) → IsListAt state t p old
    → EndsStep state t (next p t) (IsAnswer p t) p old.pages new.pages result)
    → ((t : Tree) → IsListAt state t p old → IsObservable (state old.pages.disk) → (answer : A) → result ≡ Ok answer
    → IsFitting (next p t) p) → IsCarried state next IsAnswer known old new now result
carried {D} {A} state next IsAnswer known old new now result p is_stopped served seen stopped_is runs params
    goes call fits = record {
      served = served;
      seen = seen;
      fits = subst (λ (q : Parameters). (t : Tree) → IsListAt state t q old → IsObservable (state old.pages.disk)
          → (answer : A) → result ≡ Ok answer → IsFitting (next q t) q) params fits known.tree served.at;
      runs = ap (λ (x : StoreState D). x.is_stopped) seen ∙ sym stopped_is ∙ runs;
      goes = goes;
      ends = subst (λ (q : Parameters). (t : Tree) → IsListAt state t q old
          → EndsStep state t (next q t) (IsAnswer q t) q old.pages new.pages result) params call known.tree served.at;
    }

-- a store that is empty was loaded
pub load_carried : {D : Type 0} (state : D → DiskState) (t : Tree) (known : KnownState D) (old new : TreeList D)
    (now : StoreState D) (result : Result LoadAnswer ApplyFault) (p : Parameters) (is_stopped : Bool)
    → HoldsKnown state known old → store_of known old ≡ now → is_stopped ≡ now.is_stopped → is_stopped ≡ false
    → p ≡ known.params → now.tree ≡ empty_tree → IsTreeUnder t now.params → GoesOn state old new
    → (IsTreeUnder t p → EndsStep state empty_tree (loaded_tree p empty_tree t)
    (IsLoadAnswer p t) p old.pages new.pages result)
    → IsCarried state (load_next t) (LoadReply t) known old new now result
load_carried {D} state t known old new now result p is_stopped served seen stopped_is runs params
    empty under goes call =
    let tree_is : known.tree ≡ empty_tree = ap (λ (x : StoreState D). x.tree) seen ∙ empty in
    let here : IsTreeUnder t known.params = subst (IsTreeUnder t) (sym (ap (λ (x : StoreState D). x.params) seen)) under
    in
    record {
      served = served;
      seen = seen;
      fits = λ observable answer is. subst (λ (u : Tree). IsFitting (loaded_tree known.params u t) known.params)
          (sym tree_is)
          (fitting_loaded t known.params (subst (λ (u : Tree). IsFitting u known.params) tree_is served.at.fitting)
          here);
      runs = ap (λ (x : StoreState D). x.is_stopped) seen ∙ sym stopped_is ∙ runs;
      goes = goes;
      ends = subst (λ (u : Tree). EndsStep state u (loaded_tree known.params u t)
          (IsLoadAnswer known.params t) known.params old.pages new.pages result) (sym tree_is)
          (subst (λ (q : Parameters). IsTreeUnder t q
          → EndsStep state empty_tree (loaded_tree q empty_tree t) (IsLoadAnswer q t) q old.pages new.pages result)
          params call here);
    }

-- a value was put in its place where the call says so
pub is_ok-in_place : {A E : Type 0} (value : A) (r : Result (Unit {0}) E) → is_ok r ≡ is_ok (in_place value r)
is_ok-in_place value (Ok done) = refl
is_ok-in_place value (Err fault) = refl

-- what holds behind each that is Ok holds of the one that it is
pub on_value : {A E P : Type 0} (r : Result A E) → OnOk r P → (value : A) → r ≡ Ok value → P
on_value {A} {E} {P} r holds value is = subst (λ (x : Result A E). OnOk x P) is holds

-- a result that is Ok, and one that is not
pub ok_value : {T E : Type 0} (r : Result T E) (b : Bool) → b ≡ is_ok r → b ≡ true → (value : T) × (r ≡ Ok value)
ok_value (Ok value) b is met = (value, refl)
ok_value (Err fault) b is met = absurd (false≢true (sym is ∙ met))

pub err_fault : {T E : Type 0} (r : Result T E) (b : Bool) → b ≡ is_ok r → b ≡ false → (fault : E) × (r ≡ Err fault)
err_fault (Ok value) b is fails = absurd (false≢true (sym fails ∙ is))
err_fault (Err fault) b is fails = (fault, refl)

module _ {D A : Type 0} (state : D → DiskState) (next : Nexts) (IsAnswer : Answers A) (known : KnownState D)
    (old new : TreeList D) (now : StoreState D) (result : Result A ApplyFault)
    (is : IsCarried state next IsAnswer known old new now result) (b : Bool) (tells : b ≡ is_ok result) where
  -- it was answered, and the known tree goes on
  module _ (met : b ≡ true) (disk : D) (disk_is : disk ≡ new.pages.disk) where
    some : (answer : A) × (result ≡ Ok answer)
    some = ok_value result b tells met

    fits : IsObservable (state old.pages.disk) → IsFitting (next known.params known.tree) known.params
    fits observable = is.fits observable some.0 some.1

    ends_ok : EndsStep state known.tree (next known.params known.tree)
        (IsAnswer known.params known.tree) known.params old.pages new.pages (Ok some.0)
    ends_ok = subst (λ (r : Result A ApplyFault). EndsStep state known.tree (next known.params known.tree)
        (IsAnswer known.params known.tree) known.params old.pages new.pages r) some.1 is.ends

    pub same_disk : (state disk).is_observable ≡ (state known.settled).is_observable
    same_disk = ap (λ (x : D). (state x).is_observable) disk_is
        ∙ same_observable state known old new (next known.params known.tree)
        (IsAnswer known.params known.tree) is.served is.runs is.goes result is.ends

    pub tree_there : IsObservable (state disk)
        → (t : Tree) × (IsFitting t known.params × ((state disk).bytes ≡ layout t known.params))
    tree_there = subst (λ (x : D). IsObservable (state x)
        → (t : Tree) × (IsFitting t known.params × ((state x).bytes ≡ layout t known.params))) (sym disk_is)
        (stands_at state known old new (next known.params known.tree)
        (IsAnswer known.params known.tree) is.served is.runs is.goes some.0 fits ends_ok)

    module _ (after : KnownState D) (settles : MovesOn state disk known after) where
      here : MovesOn state new.pages.disk known after
      here = subst (λ (x : D). MovesOn state x known after) disk_is settles

      pub served_ok : HoldsKnown state after new
      served_ok = answered_served state known old new (next known.params known.tree)
          (IsAnswer known.params known.tree) is.served is.runs is.goes some.0 fits ends_ok after here

      pub applies_ok : Goes state next IsAnswer now (store_of after new) result
      applies_ok =
          subst (λ (x : StoreState D). Goes state next IsAnswer x (store_of after new) result) is.seen
          (subst (λ (r : Result A ApplyFault). Goes state next IsAnswer (store_of known old) (store_of after new) r)
          (sym some.1) (answered_applies state known old new (next known.params known.tree)
          (IsAnswer known.params known.tree) is.served is.runs is.goes some.0 fits ends_ok after here))

  -- it failed, and the known tree stays
  module _ (fails : b ≡ false) where
    why : (fault : ApplyFault) × (result ≡ Err fault)
    why = err_fault result b tells fails

    ends_err : EndsStep state known.tree (next known.params known.tree)
        (IsAnswer known.params known.tree) known.params old.pages new.pages (Err why.0)
    ends_err = subst (λ (r : Result A ApplyFault). EndsStep state known.tree (next known.params known.tree)
        (IsAnswer known.params known.tree) known.params old.pages new.pages r) why.1 is.ends

    pub served_err : HoldsKnown state known new
    served_err = failed_served state known old new (next known.params known.tree)
        (IsAnswer known.params known.tree) is.served is.runs is.goes why.0 ends_err

    pub applies_err : Goes state next IsAnswer now (store_of known new) result
    applies_err =
        subst (λ (x : StoreState D). Goes state next IsAnswer x (store_of known new) result) is.seen
        (subst (λ (r : Result A ApplyFault). Goes state next IsAnswer (store_of known old) (store_of known new) r)
        (sym why.1) (failed_applies state known old new (next known.params known.tree)
        (IsAnswer known.params known.tree) is.served is.runs is.goes why.0 ends_err))
