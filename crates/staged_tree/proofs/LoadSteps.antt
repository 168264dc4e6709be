-- A load: what the layout of a tree makes of the pages of the empty one.
use Rattle.std.proofs.Common.{◌≡◌, ◌<◌, ◌≤◌, ℕ, Bool, true, false, List, length, nat_lt, if◌then◌else◌, Result, Ok, Err}
use Rattle.std.proofs.Common.{IfOk, OnOk, refl, sym, ap, subst, ◌∙◌, inl, arith}
use Rattle.std.specs.FinMap as maps
use Rattle.std.proofs.lemmas.Bool.{false≢true, le-ltb, lt-ltb, ltb-false}
use Rattle.store_base.specs.declared.fault.DiskFault.{DiskFault}
use Rattle.store_model.specs.Parameters.{Parameters}
use Rattle.store_model.specs.Trees.{Tree, empty_tree}
use Rattle.store_model.specs.Draws.{Draw, draw_of}
use Rattle.store_model.specs.Pairs.{Pair, pairs, IsPairs}
use Rattle.store_model.specs.Pages.{pages, page_count, pages_of_pairs, IsTreeUnder}
use Rattle.store_model.specs.PageMaps.{PageMap, map_of_pages}
use Rattle.store_model.specs.Placement.{Table, place}
use Rattle.store_model.proofs.PairsLemmas.{pairs_are_pairs}
use Rattle.disk_model.specs.DiskState.{DiskState, IsObservable, IsSound}
use Rattle.gate_journal.specs.Changes.{Changes, AreChanges}
use Rattle.gate_journal.specs.Costs.{CountsCommit}
use Rattle.layout_conditions.specs.Layouts.{table_of_tree}
use Rattle.seeded_draw.specs.declared.any.AnyDraw.{AnyDraw}
use Rattle.seeded_draw.specs.AnyDrawn.{any_draw}
use Rattle.skip_levels.specs.Descent.{HoldsPairs}
use Rattle.table_memory.specs.Differences.{AreDifferences}
use Rattle.table_memory.proofs.DifferLemmas.{differing-itself, differences_as}
use Rattle.page_store.specs.declared.commit_kind.CommitKind.TheVariants.{Plain}
use Rattle.page_store.specs.declared.fault.SettleFault.{SettleFault}
use Rattle.page_store.specs.declared.fault.SettleFault.TheVariants as causes
use Rattle.layout_scratch.specs.declared.fault.ScratchFault.{ScratchFault}
use Rattle.layout_scratch.specs.declared.fault.ScratchFault.TheVariants as scratch
use Rattle.layout_scratch.specs.Faults.{RefusesPages}
use Rattle.page_store.specs.PageImages.{placed_slot, slots_between}
use Rattle.page_store.specs.Settling.{LeadsTo, SettlesSlots, Settles}
use Rattle.page_store.specs.StagedState.{StagedState, IsTold, Follows-refl, without_changes}
use Rattle.page_store.proofs.CommitLemmas.{becomes}
use Rattle.image_check.specs.declared.fault.ApplyFault.{ApplyFault}
use Rattle.image_check.specs.declared.fault.ApplyFault.TheVariants as apply
use Rattle.image_check.specs.Faults.{apply_faults_after}
use Rattle.image_check.specs.Standing.{IsFitting}
use Rattle.staged_tree.specs.declared.load.LoadAnswer.{LoadAnswer}
use Rattle.staged_tree.specs.declared.load.LoadAnswer.TheVariants as answers
use Rattle.staged_tree.specs.Loads.{loaded_tree, IsLoadAnswer}
use Rattle.staged_tree.specs.StagedTree.{AreAt, IsStagedFor}
use Rattle.staged_tree.specs.Steps.{EndsStep}
use Rattle.staged_tree.specs.TableChanges.{bytes_of, empty_slot}
use Rattle.staged_tree.proofs.StagedSteps.{read_step, same_staged, told_as, ended, settled_fitting}
use Rattle.staged_tree.proofs.TreePages.{tree_holds, tree_valid, held_count, placed_as, stands_pages}
use Rattle.staged_tree.proofs.UsedLemmas.{empty_bytes}

-- ---- nothing is called

-- a step for which nothing was called
pub unmoved : {D A : Type 0} (state : D → DiskState) (t next : Tree) (IsAnswer : A → Type 0) (p : Parameters)
    (old : StagedState D AnyDraw) (result : Result A ApplyFault) → IsFitting t p → AreAt state t p old
    → old.is_spent ≡ false → (IsObservable (state old.disk) → IsSound (state old.disk))
    → (state old.disk).faults ≡ apply_faults_after (state old.disk).faults result → (result ≡ Err apply.Stopped → ⊥)
    → OnOk result (next ≡ t) → IfOk result IsAnswer → EndsStep state t next IsAnswer p old old result
unmoved state t next IsAnswer p old result fit at runs sound faults never same answer = record {
  step = read_step state t next IsAnswer p old old result fit at runs (Follows-refl state old sound) faults never
      (λ observable. same) (λ observable. answer);
  none_staged = same_staged state t p old old at runs (Follows-refl state old sound) (λ observable. refl);
}

-- what is staged taken back, the pages are the tree's still
pub at_back : {D : Type 0} (state : D → DiskState) (t : Tree) (p : Parameters) (old mid : StagedState D AnyDraw)
    → mid ≡ without_changes old → AreAt state t p old → AreAt state t p mid
at_back {D} state t p old mid is at = subst (AreAt state t p) (sym is) (record {
  params = at.params;
  draw = at.draw;
  size_is = at.size_is;
  held = λ observable runs. let held = at.held observable runs in record {
    stands = held.stands;
    table_is = held.table_is;
    map_is = held.table_is;
  };
})

-- ---- the slots of a layout

-- the slots of a tree's layout that hold a page lead from the pages of the empty tree to those of the tree
module _ {D : Type 0} (state : D → DiskState) (t : Tree) (p : Parameters) (old : StagedState D AnyDraw)
    (sound : (x : D) → IsObservable (state x) → IsSound (state x)) (empty : IsFitting empty_tree p)
    (at : AreAt state empty_tree p old) (runs : old.is_spent ≡ false) (to : IsFitting t p) (changes : Changes)
    (are : AreChanges p.slots changes)
    (differ : AreDifferences empty_slot (bytes_of (table_of_tree t p)) p.slots changes) where
  abbrev tree_map : PageMap
  tree_map = map_of_pages (pages t p)

  abbrev empty_map : PageMap
  empty_map = map_of_pages (pages empty_tree p)

  between : AreDifferences (placed_slot (draw_of p) empty_map) (placed_slot (draw_of p) tree_map) p.slots changes
  between =
      differences_as empty_slot (bytes_of (table_of_tree t p)) (placed_slot (draw_of p) empty_map)
      (placed_slot (draw_of p) tree_map) p.slots changes are
      (λ i below. sym (placed_as empty_tree p i empty ∙ empty_bytes p i below))
      (λ i below. sym (placed_as t p i to)) differ

  as_many : maps.len tree_map ≡ page_count t p
  as_many = held_count t p tree_map (tree_holds t p tree_map to refl)

  leads_by : IsObservable (state old.disk)
      → LeadsTo (draw_of p) p changes (state old.disk).bytes tree_map (page_count t p)
  unfolding draw_of
  leads_by observable =
      let room = to.fits.room in
      let held = at.held observable runs in
      record {
        holds = (becomes (draw_of p) p empty_map tree_map (state old.disk) refl
            (sound old.disk observable) at.size_is (stands_pages empty_tree p (state old.disk) empty held.stands)
            (tree_valid t p tree_map to refl) (omega (arith, as_many, room)) changes are between Plain).holds;
        count = sym as_many;
      }

  pub leads : (count : ℕ) → count ≡ page_count t p → IsObservable (state old.disk)
      → LeadsTo (any_draw old.draw) old.params changes (state old.disk).bytes tree_map count
  leads count is observable =
      subst (λ (n : ℕ). LeadsTo (any_draw old.draw) old.params changes (state old.disk).bytes tree_map n) (sym is)
      (subst (λ (q : Parameters). LeadsTo (any_draw old.draw) q changes (state old.disk).bytes tree_map
      (page_count t p)) (sym at.params)
      (subst (λ (d : Draw). LeadsTo d p changes (state old.disk).bytes tree_map (page_count t p)) (sym at.draw)
      (leads_by observable)))

  -- just those slots differ
  count_by_slots : changes.count ≡ slots_between (draw_of p) empty_map tree_map
  unfolding draw_of
  count_by_slots = between.count_is

  counted : IsObservable (state old.disk) → changes.count ≡ slots_between (any_draw old.draw) old.table tree_map
  counted observable =
      count_by_slots ∙ ap (λ (m : PageMap). slots_between (draw_of p) m tree_map)
      (sym (at.held observable runs).table_is) ∙ ap (λ (d : Draw). slots_between d old.table tree_map) (sym at.draw)

  -- the pages of the tree, as if they were staged
  abbrev staged_pages : StagedState D AnyDraw
  staged_pages = record (without_changes old) { map = tree_map }

  staged : IsStagedFor state empty_tree t p staged_pages
  staged = record {
    fitting = empty;
    tree = to.tree;
    params = at.params;
    draw = at.draw;
    size_is = at.size_is;
    stands = λ observable. (at.held observable runs).stands;
    table_is = λ observable. (at.held observable runs).table_is;
    fits = λ observable room. to.fits;
    holds = λ observable. tree_holds t p tree_map to refl;
  }

  -- ---- they are settled

  abbrev settle_result : Result (Unit {0}) DiskFault → Result (Unit {0}) SettleFault
  settle_result (Ok value) = Ok value
  settle_result (Err fault) = Err causes.Disk

  module _ (count : ℕ) (count_is : count ≡ page_count t p) (new : StagedState D AnyDraw) where
    full : IsObservable (state old.disk) → (any_draw old.draw).slots < maps.len tree_map → ⊥
    full observable more = let room = (leads count count_is observable).holds.fits in absurd (omega (arith, room, more))

    settles_ok : (value : Unit {0}) → SettlesSlots {T = Unit {0}} {E = DiskFault} state any_draw changes count
        (without_changes old) new (Ok value)
        → Settles {D = D} {W = AnyDraw} {T = Unit {0}} state any_draw staged_pages new (Ok value)
    settles_ok value settles =
        let table = λ (observable : IsObservable (state old.disk)).
        settles.table observable tree_map (leads count count_is observable) in
        record {
          params = settles.params;
          draw = settles.draw;
          lookups = settles.lookups;
          kept = settles.kept;
          faults = settles.faults;
          runs = λ other. settles.runs;
          map = λ observable still. settles.none_staged ∙ table observable;
          table = table;
          table_stays = λ observable still. tt;
          observed = λ observable.
              let disk = settles.observed observable tree_map (leads count count_is observable) in
              record {
                full = full observable;
                stands = disk.stands;
                crash = disk.crash;
                reads = disk.reads;
                still = λ same. disk.still (counted observable ∙ ap (slots_between (any_draw old.draw) old.table) same
                    ∙ differing-itself (placed_slot (any_draw old.draw) old.table) (any_draw old.draw).slots);
                no_memory = λ e. absurd (cc);
                too_many = λ need slots e. absurd (cc);
                counts = subst (λ (n : ℕ). CountsCommit {T = Unit {0}} {E = SettleFault} n (state old.disk)
                    (state new.disk) (Ok value)) (counted observable) (record {
                      made = disk.counts.made;
                      limit = disk.counts.limit;
                    });
                spends = λ e. absurd (false≢true (sym settles.runs ∙ e));
                goes_on = λ e f. absurd (cc);
              };
        }

    settles_err : (fault : DiskFault) → SettlesSlots {T = Unit {0}} {E = DiskFault} state any_draw changes count
        (without_changes old) new (Err fault)
        → Settles {D = D} {W = AnyDraw} {T = Unit {0}} state any_draw staged_pages new (Err causes.Disk)
    settles_err fault settles = record {
      params = settles.params;
      draw = settles.draw;
      lookups = settles.lookups;
      kept = settles.kept;
      faults = settles.faults;
      runs = λ other. absurd (other refl);
      map = λ observable still. absurd (false≢true (sym still ∙ settles.spends));
      table = λ observable. tt;
      table_stays = λ observable still. absurd (false≢true (sym still ∙ settles.spends));
      observed = λ observable.
          let disk = settles.observed observable tree_map (leads count count_is observable) in
          record {
            full = full observable;
            stands = tt;
            crash = disk.crash;
            reads = disk.reads;
            still = λ same. disk.still (counted observable ∙ ap (slots_between (any_draw old.draw) old.table) same
                ∙ differing-itself (placed_slot (any_draw old.draw) old.table) (any_draw old.draw).slots);
            no_memory = λ e. absurd (cc);
            too_many = λ need slots e. absurd (cc);
            counts = subst (λ (n : ℕ). CountsCommit {T = Unit {0}} {E = SettleFault} n (state old.disk) (state new.disk)
                (Err causes.Disk)) (counted observable) (record { made = tt; limit = disk.counts.limit });
            spends = λ e. (refl, inl disk.wrote);
            goes_on = λ e f. absurd (false≢true (sym e ∙ settles.spends));
          };
    }

    -- as a settle of pages would
    by_pages : (r : Result (Unit {0}) DiskFault)
        → SettlesSlots {E = DiskFault} state any_draw changes count (without_changes old) new r
        → Settles state any_draw staged_pages new (settle_result r)
    by_pages (Ok value) settles = settles_ok value settles
    by_pages (Err fault) settles = settles_err fault settles

    none_staged : (r : Result (Unit {0}) DiskFault)
        → SettlesSlots {E = DiskFault} state any_draw changes count (without_changes old) new r
        → new.is_spent ≡ false → new.map ≡ new.table
    none_staged (Ok value) settles still = settles.none_staged
    none_staged (Err fault) settles still = absurd (false≢true (sym still ∙ settles.spends))

    -- the load ends so
    pub load_ends : (r : Result (Unit {0}) DiskFault)
        → SettlesSlots {E = DiskFault} state any_draw changes count (without_changes old) new r
        → EndsStep state empty_tree t (λ answer. answer ≡ answers.Done) p old new (ended answers.Done (settle_result r))
    load_ends r settles =
        let ends = settled_fitting state empty_tree t p staged_pages new (settle_result r) sound staged runs
        (by_pages r settles) (λ answer. answer ≡ answers.Done) answers.Done refl to in
        record {
          step = record {
            params = ends.step.params;
            draw = ends.step.draw;
            kept = ends.step.kept;
            faults = ends.step.faults;
            never = ends.step.never;
            runs = ends.step.runs;
            observed = λ observable. let step = ends.step.observed observable in record {
              answer = step.answer;
              image = step.image;
              goes = step.goes;
              stays = step.stays;
            };
          };
          none_staged = λ observable. none_staged r settles;
        }

    -- its pages are those of a list
    pub loaded_holds : (draw : AnyDraw) → any_draw draw ≡ draw_of p → (r : Result (Unit {0}) DiskFault)
        → SettlesSlots {E = DiskFault} state any_draw changes count (without_changes old) new r → IsTold state new
        → (s : List Pair) × HoldsPairs (any_draw draw) s new.map
    loaded_holds draw drawn r settles told =
        let before : IsObservable (state old.disk) = sym settles.kept.observable ∙ told.disk in
        let map_is : new.map ≡ tree_map = (by_pages r settles).map before told.runs in (
          pairs t p,
          subst (λ (d : Draw). HoldsPairs d (pairs t p) new.map) (sym drawn)
              (tree_holds t p new.map to map_is),
        )

-- ---- the pairs of a tree

-- the layout of the pairs of a tree is its table
pub laid_out : (t : Tree) (p : Parameters) (s : List Pair) (table : Table) → s ≡ pairs t p
    → table ≡ place (draw_of p) (pages_of_pairs (draw_of p) s) → table ≡ table_of_tree t p
unfolding pages
laid_out t p s table is value = value ∙ ap (λ (u : List Pair). place (draw_of p) (pages_of_pairs (draw_of p) u)) is

-- and they have as many pages
pub pages_laid : (t : Tree) (p : Parameters) (s : List Pair) → s ≡ pairs t p
    → length (pages_of_pairs (draw_of p) s) ≡ page_count t p
unfolding pages
pages_laid t p s is = ap (λ (u : List Pair). length (pages_of_pairs (draw_of p) u)) is

pub rising_pairs : (t : Tree) (p : Parameters) (s : List Pair) → IsTreeUnder t p → s ≡ pairs t p → IsPairs s
rising_pairs t p s under is = subst IsPairs (sym is) (pairs_are_pairs t p under.is_tree)

-- the tree fits where its pages are no more than the slots
pub fitting_under : (t : Tree) (p : Parameters) → IsFitting empty_tree p → IsTreeUnder t p
    → page_count t p ≤ p.slots → IsFitting t p
fitting_under t p empty under room = record {
  in_range = empty.in_range;
  tree = under.is_tree;
  fits = record { room = room; bare = under.bare };
}

-- ---- the tree that is loaded

abbrev choice : Bool → Tree → Tree → Tree
choice full old t = if full then old else t

pub loaded_room : (p : Parameters) (old t : Tree) → page_count t p ≤ p.slots → loaded_tree p old t ≡ t
loaded_room p old t room = ap (λ (full : Bool). choice full old t) (le-ltb p.slots (page_count t p) room)

pub loaded_full : (p : Parameters) (old t : Tree) → p.slots < page_count t p → loaded_tree p old t ≡ old
loaded_full p old t more = ap (λ (full : Bool). choice full old t) (lt-ltb p.slots (page_count t p) more)

-- whichever it is, it fits
pub fitting_loaded : (t : Tree) (p : Parameters) → IsFitting empty_tree p → IsTreeUnder t p
    → IsFitting (loaded_tree p empty_tree t) p
fitting_loaded t p empty under = by (nat_lt p.slots (page_count t p)) refl
  where
    by : (full : Bool) → nat_lt p.slots (page_count t p) ≡ full → IsFitting (choice full empty_tree t) p
    by true is = empty
    by false is = fitting_under t p empty under (omega (arith, ltb-false p.slots (page_count t p) is))

-- a load whose layout was settled is answered so
pub load_done : {D : Type 0} (state : D → DiskState) (t : Tree) (p : Parameters) (old new : StagedState D AnyDraw)
    (result : Result LoadAnswer ApplyFault) → page_count t p ≤ p.slots
    → EndsStep state empty_tree t (λ answer. answer ≡ answers.Done) p old new result
    → EndsStep state empty_tree (loaded_tree p empty_tree t) (IsLoadAnswer p t) p old new result
load_done state t p old new result room ends =
    told_as state empty_tree t (loaded_tree p empty_tree t) (λ answer. answer ≡ answers.Done)
    (IsLoadAnswer p t) p old new result (λ observable. sym (loaded_room p empty_tree t room))
    (λ observable answer is. subst (IsLoadAnswer p t) (sym is) room) ends

-- and one whose pages are more than the slots
pub load_full : {D : Type 0} (state : D → DiskState) (t : Tree) (p : Parameters) (old : StagedState D AnyDraw)
    (s : List Pair) (fault : ScratchFault) (need slots : ℕ) → fault ≡ scratch.Full need slots
    → RefusesPages (draw_of p) (pages_of_pairs (draw_of p) s) fault → s ≡ pairs t p → IsFitting empty_tree p
    → AreAt state empty_tree p old → old.is_spent ≡ false
    → (IsObservable (state old.disk) → IsSound (state old.disk))
    → EndsStep state empty_tree (loaded_tree p empty_tree t) (IsLoadAnswer p t) p old old
    (Ok (answers.Full need slots))
unfolding draw_of
load_full state t p old s fault need slots fault_is refuses is fit at runs sound =
    let tells = subst (RefusesPages (draw_of p) (pages_of_pairs (draw_of p) s)) fault_is refuses in
    let need_is : need ≡ page_count t p = tells.0 ∙ pages_laid t p s is in
    let slots_are : slots ≡ p.slots = tells.1 in
    let many : p.slots < need = tells.2 in
    let more : p.slots < page_count t p = omega (arith, many, need_is) in
    unmoved state empty_tree (loaded_tree p empty_tree t) (IsLoadAnswer p t) p old
    (Ok (answers.Full need slots)) fit at runs sound refl (λ e. cc) (loaded_full p empty_tree t more)
    (need_is, slots_are, more)
