-- What a store comes to by an upgrade of its staged pages.
use Rattle.std.proofs.Common.{◌≡◌, Bool, true, false, Result, Ok, Err, OnOk, OnErr, is_ok, refl, sym, ap, subst, ◌∙◌}
use Rattle.std.proofs.lemmas.Bool.{false≢true}
use Rattle.store_model.specs.declared.version.Version.{Version}
use Rattle.store_model.specs.declared.version.Version.TheVariants.{One, Two}
use Rattle.store_model.specs.Parameters.{Parameters, with_version}
use Rattle.store_model.specs.Trees.{Tree}
use Rattle.store_model.specs.Images.{layout}
use Rattle.store_model.proofs.TreesLemmasUpgrade.{draw_of-with_version}
use Rattle.disk_model.specs.DiskState.{DiskState, IsObservable}
use Rattle.seeded_draw.specs.AnyDrawn.{any_draw}
use Rattle.image_check.specs.declared.fault.ApplyFault.{ApplyFault}
use Rattle.image_check.specs.declared.fault.ApplyFault.TheVariants as apply
use Rattle.image_check.specs.Standing.{Stands}
use Rattle.store_core.specs.Known.{KnownState}
use Rattle.staged_tree.specs.StagedTree.{TreeList, IsListAt, GoesOn}
use Rattle.staged_tree.specs.Steps.{UpgradesPages, EndsUpgrade}
use Rattle.store_core.specs.StoreCalls.{Upgrades}
use Rattle.store_core.specs.StoreFields.{HoldsKnown}
use Rattle.store_core.specs.StoreState.{StoreState}
use Rattle.store_core.proofs.StoreSteps.{store_of, ok_value, err_fault}
use Rattle.staged_tree.proofs.TreePages.{fitting_upgraded}
use Rattle.staged_tree.proofs.Unchanged.{stands_reading, keeps_itself}

-- a store that is stopped does nothing
pub upgrade_stopped : {D : Type 0} (state : D → DiskState) (store : StoreState D) → store.is_stopped ≡ true
    → Upgrades state store store (Err apply.Stopped)
upgrade_stopped state store is = record {
  params = tt;
  params_stay = refl;
  tree = refl;
  kept = keeps_itself (state store.disk);
  faults = refl;
  stopped = (λ e. is, λ e. refl);
  still = λ e. refl;
  idle = λ e. absurd (false≢true (sym e ∙ is));
  runs = λ e. absurd (false≢true (sym e ∙ is));
  observed = λ observable e. absurd (false≢true (sym e ∙ is));
}

one_or_two : {A : Type 0} (version : Version) → version ≡ One → version ≡ Two → A
one_or_two version one two = let e : One ≡ Two = sym one ∙ two in absurd (cc)

-- nor one whose image is of version 2
pub upgrade_idle : {D : Type 0} (state : D → DiskState) (store : StoreState D) → store.is_stopped ≡ false
    → store.params.version ≡ Two → Upgrades state store store (Ok tt)
upgrade_idle state store runs two = record {
  params = ap (λ (v : Version). with_version store.params v) two;
  params_stay = tt;
  tree = refl;
  kept = keeps_itself (state store.disk);
  faults = refl;
  stopped = (λ e. absurd (cc), λ e. absurd (false≢true (sym runs ∙ e)));
  still = λ e. refl;
  idle = λ e is. (refl, refl);
  runs = λ e other. runs;
  observed = λ observable e one. one_or_two store.params.version one two;
}

-- the list of a known tree under version 1 was upgraded
module _ {D : Type 0} (state : D → DiskState) (known : KnownState D) (old new : TreeList D)
    (served : HoldsKnown state known old) (runs : old.pages.is_spent ≡ false) (one : known.params.version ≡ One)
    (goes : GoesOn state old new) where
  module _ (result : Result (Unit {0}) ApplyFault)
      (ends : EndsUpgrade state known.tree known.params old.pages new.pages result) where
    before : IsObservable (state new.pages.disk) → IsObservable (state old.pages.disk)
    before observable = sym ends.kept.observable ∙ observable

    steps : IsObservable (state new.pages.disk) → UpgradesPages state known.tree known.params old.pages new.pages result
    steps observable = ends.observed (before observable)

    same_observable : (state new.pages.disk).is_observable ≡ (state known.settled).is_observable
    same_observable = ends.kept.observable ∙ served.observable

    upgrades : (after : KnownState D) → OnOk result (after.params ≡ with_version known.params Two)
        → OnErr result (after.params ≡ known.params) → after.tree ≡ known.tree
        → Upgrades state (store_of known old) (store_of after new) result
    upgrades after params params_stay tree = record {
      params = params;
      params_stay = params_stay;
      tree = tree;
      kept = ends.kept;
      faults = ends.faults;
      stopped = (λ e. absurd (ends.never e), λ e. absurd (false≢true (sym runs ∙ e)));
      still = λ e. absurd (false≢true (sym runs ∙ e));
      idle = λ e two. one_or_two known.params.version one two;
      runs = λ e. ends.runs;
      observed = λ observable e version. (ends.observed observable).image;
    }

  -- it ended well
  module _ (ends : EndsUpgrade state known.tree known.params old.pages new.pages (Ok tt)) where
    stands_upgraded : IsObservable (state new.pages.disk)
        → (state new.pages.disk).bytes ≡ layout known.tree (with_version known.params Two)
    stands_upgraded observable = (steps (Ok tt) ends observable).image.stands.layout_is

    -- the known tree under version 2, over the disk as it is now
    abbrev after : KnownState D
    after = record { params = with_version known.params Two; tree = known.tree; settled = new.pages.disk }

    answered_upgrades : Upgrades state (store_of known old) (store_of after new) (Ok tt)
    answered_upgrades = upgrades (Ok tt) ends after refl tt refl

    answered_known : HoldsKnown state after new
    answered_known =
        let pages = served.at.pages in
        let drawn = sym (draw_of-with_version known.params Two) in
        record {
          at = record {
            fitting = fitting_upgraded known.tree known.params served.at.fitting;
            pages = record {
              params = ends.params ∙ ap (λ (q : Parameters). with_version q Two) pages.params;
              draw = ap any_draw ends.draw ∙ pages.draw ∙ drawn;
              size_is = ends.kept.size ∙ pages.size_is;
              held = λ seen still.
                  let table_is = (steps (Ok tt) ends seen).goes in
                  record {
                    stands = (steps (Ok tt) ends seen).image.stands;
                    table_is = table_is;
                    map_is = ends.none_staged seen still ∙ table_is;
                  };
            };
            draw = ap any_draw goes.draw ∙ served.at.draw ∙ drawn;
            whole = goes.whole;
          };
          observable = refl;
        }

  -- it failed
  module _ (fault : ApplyFault) (ends : EndsUpgrade state known.tree known.params old.pages new.pages (Err fault)) where
    failed_upgrades : Upgrades state (store_of known old) (store_of known new) (Err fault)
    failed_upgrades = upgrades (Err fault) ends known tt refl refl

    failed_known : HoldsKnown state known new
    failed_known =
        let pages = served.at.pages in
        record {
          at = record {
            fitting = served.at.fitting;
            pages = record {
              params = ends.params ∙ pages.params;
              draw = ap any_draw ends.draw ∙ pages.draw;
              size_is = ends.kept.size ∙ pages.size_is;
              held = λ seen still.
                  let held = pages.held (before (Err fault) ends seen) runs in
                  let table_is = (steps (Err fault) ends seen).stays still ∙ held.table_is in
                  record {
                    stands = stood fault ends seen still held.stands;
                    table_is = table_is;
                    map_is = ends.none_staged seen still ∙ table_is;
                  };
            };
            draw = ap any_draw goes.draw ∙ served.at.draw;
            whole = goes.whole;
          };
          observable = same_observable (Err fault) ends;
        }
      where
        stood : (f : ApplyFault) → EndsUpgrade state known.tree known.params old.pages new.pages (Err f)
            → IsObservable (state new.pages.disk) → new.pages.is_spent ≡ false
            → Stands (state old.pages.disk) known.tree known.params
            → Stands (state new.pages.disk) known.tree known.params
        stood apply.Disk e seen still stands =
            stands_reading (state old.pages.disk) (state new.pages.disk)
            known.tree known.params ((steps (Err apply.Disk) e seen).image.goes_on still refl) stands
        stood apply.NoMemory e seen still stands =
            stands_reading (state old.pages.disk) (state new.pages.disk)
            known.tree known.params ((steps (Err apply.NoMemory) e seen).image.no_memory refl) stands
        stood apply.Stopped e seen still stands = absurd (e.never refl)

-- ---- a call

-- the list of a store that is seen so was upgraded
pub record IsUpgraded {D : Type 0} (state : D → DiskState) (known : KnownState D) (old new : TreeList D)
    (now : StoreState D) (result : Result (Unit {0}) ApplyFault) : Type 0 where
  pub served : HoldsKnown state known old
  pub seen : store_of known old ≡ now
  pub runs : old.pages.is_spent ≡ false
  pub one : known.params.version ≡ One
  pub goes : GoesOn state old new
  pub ends : EndsUpgrade state known.tree known.params old.pages new.pages result

pub upgraded_store : {D : Type 0} (state : D → DiskState) (known : KnownState D) (old new : TreeList D)
    (now : StoreState D) (result : Result (Unit {0}) ApplyFault) → HoldsKnown state known old → store_of known old ≡ now
    → now.is_stopped ≡ false → now.params.version ≡ One → GoesOn state old new
    → ((t : Tree) (p : Parameters) → IsListAt state t p old → EndsUpgrade state t p old.pages new.pages result)
    → IsUpgraded state known old new now result
upgraded_store {D} state known old new now result served seen runs one goes call = record {
  served = served;
  seen = seen;
  runs = ap (λ (x : StoreState D). x.is_stopped) seen ∙ runs;
  one = ap (λ (x : StoreState D). x.params.version) seen ∙ one;
  goes = goes;
  ends = call known.tree known.params served.at;
}

module _ {D : Type 0} (state : D → DiskState) (known : KnownState D) (old new : TreeList D) (now : StoreState D)
    (result : Result (Unit {0}) ApplyFault) (is : IsUpgraded state known old new now result) (b : Bool)
    (tells : b ≡ is_ok result) where
  -- it ended well, and the known tree is one of version 2
  module _ (met : b ≡ true) (disk : D) (disk_is : disk ≡ new.pages.disk) where
    some : (value : Unit {0}) × (result ≡ Ok value)
    some = ok_value result b tells met

    ends_ok : EndsUpgrade state known.tree known.params old.pages new.pages (Ok tt)
    ends_ok = subst (λ (r : Result (Unit {0}) ApplyFault).
        EndsUpgrade state known.tree known.params old.pages new.pages r) some.1 is.ends

    pub upgraded_observable : (state disk).is_observable ≡ (state known.settled).is_observable
    upgraded_observable = ap (λ (x : D). (state x).is_observable) disk_is
        ∙ same_observable state known old new is.served is.runs is.one is.goes result is.ends

    pub upgraded_bytes : IsObservable (state disk)
        → (state disk).bytes ≡ layout known.tree (with_version known.params Two)
    upgraded_bytes = subst (λ (x : D). IsObservable (state x)
        → (state x).bytes ≡ layout known.tree (with_version known.params Two)) (sym disk_is)
        (stands_upgraded state known old new is.served is.runs is.one is.goes ends_ok)

    module _ (next : KnownState D) (next_is : next ≡ record {
      params = with_version known.params Two;
      tree = known.tree;
      settled = disk;
    }) where
      here : ◌≡◌ {A = KnownState D} (record {
        params = with_version known.params Two;
        tree = known.tree;
        settled = new.pages.disk;
      }) next
      here = sym (next_is ∙ ap (λ (x : D). record {
        params = with_version known.params Two;
        tree = known.tree;
        settled = x;
      }) disk_is)

      pub known_upgraded : HoldsKnown state next new
      known_upgraded = subst (λ (k : KnownState D). HoldsKnown state k new) here
          (answered_known state known old new is.served is.runs is.one is.goes ends_ok)

      pub upgrades_ok : Upgrades state now (store_of next new) result
      upgrades_ok =
          subst (λ (x : StoreState D). Upgrades state x (store_of next new) result) is.seen
          (subst (λ (r : Result (Unit {0}) ApplyFault). Upgrades state (store_of known old) (store_of next new) r)
          (sym some.1)
          (subst (λ (k : KnownState D). Upgrades state (store_of known old) (store_of k new) (Ok tt)) here
          (answered_upgrades state known old new is.served is.runs is.one is.goes ends_ok)))

  -- it failed, and the known tree stays
  module _ (fails : b ≡ false) where
    why : (fault : ApplyFault) × (result ≡ Err fault)
    why = err_fault result b tells fails

    ends_err : EndsUpgrade state known.tree known.params old.pages new.pages (Err why.0)
    ends_err = subst (λ (r : Result (Unit {0}) ApplyFault).
        EndsUpgrade state known.tree known.params old.pages new.pages r) why.1 is.ends

    pub known_stays : HoldsKnown state known new
    known_stays = failed_known state known old new is.served is.runs is.one is.goes why.0 ends_err

    pub upgrades_err : Upgrades state now (store_of known new) result
    upgrades_err =
        subst (λ (x : StoreState D). Upgrades state x (store_of known new) result) is.seen
        (subst (λ (r : Result (Unit {0}) ApplyFault). Upgrades state (store_of known old) (store_of known new) r)
        (sym why.1) (failed_upgrades state known old new is.served is.runs is.one is.goes why.0 ends_err))
