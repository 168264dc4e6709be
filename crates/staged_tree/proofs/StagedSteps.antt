-- Steps that staged pages take which are those of a tree.
use Rattle.std.proofs.Common.{◌≡◌, ◌⊎◌, ◌<◌, ◌≤◌, ℕ, Bool, false, List, length, Result, Ok, Err, IfOk, OnOk, OnErr}
use Rattle.std.proofs.Common.{refl, sym, ap, subst, ◌∙◌, inl, inr, ⊎_elim, arith}
use Rattle.std.specs.FinMap as maps
use Rattle.store_base.specs.declared.store_fault.Fault.{Fault}
use Rattle.store_base.specs.declared.store_fault.Fault.TheVariants as below
use Rattle.store_base.specs.Faults.{disk_faults_after}
use Rattle.store_model.specs.declared.refusal.Refusal.TheVariants as refusals
use Rattle.store_model.specs.Parameters.{Parameters, image_len}
use Rattle.store_model.specs.Trees.{Tree}
use Rattle.store_model.specs.Draws.{Draw, draw_of}
use Rattle.store_model.specs.Pages.{pages, page_count}
use Rattle.store_model.specs.PageMaps.{PageMap, map_of_pages}
use Rattle.store_model.specs.Images.{Represents}
use Rattle.store_model.specs.Steps.{Step}
use Rattle.disk_model.specs.DiskState.{DiskState, IsObservable, IsSound}
use Rattle.disk_model.proofs.Crashes.{LeavesOnly-weaken}
use Rattle.gate_journal.specs.Disks.{KeepsDisk}
use Rattle.gate_journal.specs.Places.{ReadsOnly}
use Rattle.gate_journal.specs.Costs.{CountsCommit}
use Rattle.seeded_draw.specs.declared.any.AnyDraw.{AnyDraw}
use Rattle.seeded_draw.specs.AnyDrawn.{any_draw}
use Rattle.script_lines.specs.declared.reply.Reply.TheVariants as replies
use Rattle.page_store.specs.declared.fault.SettleFault.{SettleFault}
use Rattle.page_store.specs.declared.fault.SettleFault.TheVariants as causes
use Rattle.page_store.specs.Faults.{settle_faults_after}
use Rattle.page_store.specs.PageImages as images
use Rattle.page_store.specs.Settling.{SettlesDisk, Settles}
use Rattle.page_store.specs.StagedState.{StagedState, Follows, without_changes}
use Rattle.page_store.proofs.TreeLayouts.{represents_tree}
use Rattle.tree_commands.specs.Counted.{counted_step}
use Rattle.tree_commands.proofs.StepLemmas.{counted_fits, counted_full}
use Rattle.image_check.specs.declared.fault.ApplyFault.{ApplyFault}
use Rattle.image_check.specs.declared.fault.ApplyFault.TheVariants as apply
use Rattle.staged_tree.specs.TableChanges.{slots_between}
use Rattle.image_check.specs.Faults.{apply_fault_of, apply_faults_after}
use Rattle.image_check.specs.Standing.{IsFitting, Stands}
use Rattle.staged_tree.specs.StagedTree.{AreAt, IsStagedFor}
use Rattle.staged_tree.specs.Steps.{counted_end, settled_reply, settle_cause, StepsPages, TakesStep, EndsStep}
use Rattle.staged_tree.specs.Steps.{IsReplyTo, EndsCommand}
use Rattle.staged_tree.specs.ImageChanges.{ChangesImage}
use Rattle.staged_tree.proofs.DiskLemmas.{keeps_then}
use Rattle.staged_tree.proofs.TreePages.{held_map, held_count, stands_tree, slots_as}
use Rattle.staged_tree.proofs.Unchanged.{reads_change, change_behind}

pub kept_view : {D : Type 0} (state : D → DiskState) (old new : StagedState D AnyDraw) → Follows state old new
    → KeepsDisk (state old.disk) (state new.disk)
kept_view state old new follows =
    let view = follows.disk in
    record {
      size = view.size;
      observable = view.observable;
      faults = view.rise;
      writes = view.writes;
      syncs = view.syncs;
    }

-- calls that read alone
pub read_step : {D A : Type 0} (state : D → DiskState) (t next : Tree) (IsAnswer : A → Type 0) (p : Parameters)
    (old new : StagedState D AnyDraw) (result : Result A ApplyFault) → IsFitting t p → AreAt state t p old
    → old.is_spent ≡ false → Follows state old new
    → (state new.disk).faults ≡ apply_faults_after (state old.disk).faults result → (result ≡ Err apply.Stopped → ⊥)
    → (IsObservable (state old.disk) → OnOk result (next ≡ t))
    → (IsObservable (state old.disk) → IfOk result IsAnswer) → TakesStep state t next IsAnswer p old new result
read_step {D} {A} state t next IsAnswer p old new result fit at runs follows faults never same answer = record {
  params = follows.disk.params;
  draw = follows.draw;
  kept = kept_view state old new follows;
  faults = faults;
  never = never;
  runs = λ other. follows.runs ∙ runs;
  observed = λ observable.
      let held = at.held observable runs in
      record {
        answer = answer observable;
        image = subst (λ (b : Bool). ChangesImage {T = A} t next p (state old.disk) (state new.disk) b result)
            (sym (follows.runs ∙ runs))
            (reads_change t next p fit {T = A} (state old.disk)
            (state new.disk) result held.stands (follows.disk.reads observable) (same observable));
        goes = goes result (same observable) (follows.table observable ∙ held.table_is);
        stays = λ still. stays result (follows.table observable);
      };
}
  where
    goes : (r : Result A ApplyFault) → OnOk r (next ≡ t) → new.table ≡ map_of_pages (pages t p)
        → OnOk r (new.table ≡ map_of_pages (pages next p))
    goes (Ok value) e is = is ∙ ap (λ (u : Tree). map_of_pages (pages u p)) (sym e)
    goes (Err fault) e is = tt

    stays : (r : Result A ApplyFault) → new.table ≡ old.table → OnErr r (new.table ≡ old.table)
    stays (Ok value) is = tt
    stays (Err fault) is = is

-- what is staged is taken back behind calls that read alone
pub taken_back : {D : Type 0} (state : D → DiskState) (old mid : StagedState D AnyDraw) → Follows state old mid
    → Follows state old (without_changes mid)
taken_back state old mid follows = record {
  disk = follows.disk;
  draw = follows.draw;
  runs = follows.runs;
  table = follows.table;
}

-- a step that failed, once all is taken back
pub failed_step : {D A : Type 0} (state : D → DiskState) (t next : Tree) (IsAnswer : A → Type 0) (p : Parameters)
    (old mid : StagedState D AnyDraw) → IsFitting t p → AreAt state t p old → old.is_spent ≡ false
    → Follows state old mid → (fault : Fault)
    → (state mid.disk).faults ≡ disk_faults_after {T = A} (state old.disk).faults (Err fault)
    → EndsStep state t next IsAnswer p old (without_changes mid) (Err (apply_fault_of fault))
failed_step {D} {A} state t next IsAnswer p old mid fit at runs follows fault faults = by fault faults
  where
    by : (f : Fault) → (state mid.disk).faults ≡ disk_faults_after {T = A} (state old.disk).faults (Err f)
        → EndsStep state t next IsAnswer p old (without_changes mid) (Err (apply_fault_of f))
    by below.Disk is = record {
      step = read_step state t next IsAnswer p old (without_changes mid) (Err apply.Disk) fit at runs
          (taken_back state old mid follows) is (λ e. cc) (λ observable. tt) (λ observable. tt);
      none_staged = λ observable still. refl;
    }
    by below.NoMemory is = record {
      step = read_step state t next IsAnswer p old (without_changes mid) (Err apply.NoMemory) fit at runs
          (taken_back state old mid follows) is (λ e. cc) (λ observable. tt) (λ observable. tt);
      none_staged = λ observable still. refl;
    }

-- nothing is staged behind calls that stage nothing
pub same_staged : {D : Type 0} (state : D → DiskState) (t : Tree) (p : Parameters) (old new : StagedState D AnyDraw)
    → AreAt state t p old → old.is_spent ≡ false → Follows state old new
    → (IsObservable (state old.disk) → new.map ≡ old.map)
    → IsObservable (state new.disk) → new.is_spent ≡ false → new.map ≡ new.table
same_staged state t p old new at runs follows same observable still =
    let before = sym follows.disk.observable ∙ observable in
    let held = at.held before runs in
    same before ∙ held.map_is ∙ sym held.table_is ∙ sym (follows.table before)

-- a step behind calls that read alone
pub behind_reads : {D A : Type 0} (state : D → DiskState) (t next : Tree) (IsAnswer : A → Type 0) (p : Parameters)
    (old mid new : StagedState D AnyDraw) (result : Result A ApplyFault) → IsFitting t p → AreAt state t p old
    → old.is_spent ≡ false → Follows state old mid
    → (state mid.disk).faults ≡ (state old.disk).faults → EndsStep state t next IsAnswer p mid new result
    → EndsStep state t next IsAnswer p old new result
behind_reads {D} {A} state t next IsAnswer p old mid new result fit at runs follows faults ends = record {
  step = record {
    params = ends.step.params ∙ follows.disk.params;
    draw = ends.step.draw ∙ follows.draw;
    kept = keeps_then (state old.disk) (state mid.disk) (state new.disk)
        (kept_view state old mid follows) ends.step.kept;
    faults = ends.step.faults ∙ ap (λ (n : ℕ). apply_faults_after n result) faults;
    never = ends.step.never;
    runs = ends.step.runs;
    observed = λ observable.
        let held = at.held observable runs in
        let step = ends.step.observed (follows.disk.observable ∙ observable) in
        record {
          answer = step.answer;
          image = change_behind t next p fit {T = A} (state old.disk) (state mid.disk)
              (state new.disk) new.is_spent result held.stands (follows.disk.reads observable) step.image;
          goes = step.goes;
          stays = λ still. subst (λ (m : PageMap). OnErr result (new.table ≡ m))
              (follows.table observable) (step.stays still);
        };
  };
  none_staged = ends.none_staged;
}

-- a step, told in another way
pub told_as : {D A : Type 0} (state : D → DiskState) (t next other : Tree) (IsAnswer IsOther : A → Type 0)
    (p : Parameters) (old new : StagedState D AnyDraw) (result : Result A ApplyFault)
    → (IsObservable (state old.disk) → next ≡ other)
    → (IsObservable (state old.disk) → (answer : A) → IsAnswer answer → IsOther answer)
    → EndsStep state t next IsAnswer p old new result → EndsStep state t other IsOther p old new result
told_as {D} {A} state t next other IsAnswer IsOther p old new result same is_other ends = record {
  step = record {
    params = ends.step.params;
    draw = ends.step.draw;
    kept = ends.step.kept;
    faults = ends.step.faults;
    never = ends.step.never;
    runs = ends.step.runs;
    observed = λ observable.
        let step = ends.step.observed observable in
        subst (λ (u : Tree). StepsPages state t u IsOther p old new result) (same observable)
        (record {
          answer = answered result (is_other observable) step.answer;
          image = step.image;
          goes = step.goes;
          stays = step.stays;
        });
  };
  none_staged = ends.none_staged;
}
  where
    answered : (r : Result A ApplyFault) → ((answer : A) → IsAnswer answer → IsOther answer)
        → IfOk r IsAnswer → IfOk r IsOther
    answered (Ok answer) other is = other answer is
    answered (Err fault) other is = tt

-- ---- a settle

-- how a step to a tree that fits ends, by how the settle of its pages did
abbrev pub ended : {A : Type 0} → A → Result (Unit {0}) SettleFault → Result A ApplyFault
ended answer (Ok value) = Ok answer
ended answer (Err fault) = Err (settle_cause fault)

-- pages of the next tree settled over a disk that stands at a tree
module _ {D : Type 0} (state : D → DiskState) (t next : Tree) (p : Parameters) (old new : StagedState D AnyDraw)
    (staged : IsStagedFor state t next p old) (runs : old.is_spent ≡ false) (observable : IsObservable (state old.disk))
    (sound : IsSound (state new.disk)) where
  map_is : old.map ≡ map_of_pages (pages next p)
  map_is = held_map next p old.map (staged.holds observable)

  count_is : maps.len old.map ≡ page_count next p
  count_is = held_count next p old.map (staged.holds observable)

  slots_are : (any_draw old.draw).slots ≡ p.slots
  unfolding draw_of
  slots_are = ap (λ (d : Draw). d.slots) staged.draw

  -- by the trees
  by_trees : (r : Result (Unit {0}) SettleFault)
      → SettlesDisk (any_draw old.draw) old.params old.table old.map (state old.disk) (state new.disk) new.is_spent r
      → SettlesDisk (draw_of p) p (map_of_pages (pages t p)) (map_of_pages (pages next p)) (state old.disk)
      (state new.disk) new.is_spent r
  by_trees r settles =
      subst (λ (d : Draw). SettlesDisk d p (map_of_pages (pages t p)) (map_of_pages (pages next p)) (state old.disk)
      (state new.disk) new.is_spent r) staged.draw
      (subst (λ (q : Parameters). SettlesDisk (any_draw old.draw) q (map_of_pages (pages t p))
      (map_of_pages (pages next p)) (state old.disk) (state new.disk) new.is_spent r) staged.params
      (subst (λ (m : PageMap). SettlesDisk (any_draw old.draw) old.params m (map_of_pages (pages next p))
      (state old.disk) (state new.disk) new.is_spent r) (staged.table_is observable)
      (subst (λ (m : PageMap). SettlesDisk (any_draw old.draw) old.params old.table m (state old.disk)
      (state new.disk) new.is_spent r) map_is settles)))

  fitting_next : ((any_draw old.draw).slots < maps.len old.map → ⊥) → IsFitting next p
  fitting_next few = record {
    in_range = staged.fitting.in_range;
    tree = staged.tree;
    fits = staged.fits observable
        (⊎_elim (λ room. room) (λ more. absurd (few (omega (arith, more, count_is, slots_are))))
        (room_or (page_count next p) p.slots));
  }
    where
      room_or : (m n : ℕ) → (m ≤ n) ⊎ (n < m)
      room_or m n = grind arith

  -- what the settle of a next tree that fits does to the disk
  module _ (to : IsFitting next p) (kept : KeepsDisk (state old.disk) (state new.disk))
      (r : Result (Unit {0}) SettleFault)
      (disk : SettlesDisk (draw_of p) p (map_of_pages (pages t p)) (map_of_pages (pages next p)) (state old.disk)
      (state new.disk) new.is_spent r) where
    either : (image : List ℕ) → images.RepresentsPages (draw_of p) p (map_of_pages (pages t p)) image
        ⊎ images.RepresentsPages (draw_of p) p (map_of_pages (pages next p)) image
        → Represents image t p ⊎ Represents image next p
    either image is =
        ⊎_elim (λ one. inl (represents_tree t p staged.fitting.in_range staged.fitting.tree staged.fitting.fits image
        one)) (λ other. inr (represents_tree next p to.in_range to.tree to.fits image other)) is

    long : length (state new.disk).bytes ≡ image_len p.slots
    long = sound.size ∙ kept.size ∙ staged.size_is

    counts : CountsCommit (slots_between p t next) (state old.disk) (state new.disk) r
    counts = subst (λ (n : ℕ). CountsCommit n (state old.disk) (state new.disk) r)
        (slots_as t next p staged.fitting to) disk.counts

    image : {U : Type 0} (result : Result U ApplyFault)
        → OnOk result (images.SlotStandsAt (draw_of p) p (map_of_pages (pages next p)) (state new.disk))
        → (result ≡ Err apply.Disk → r ≡ Err causes.Disk) → (r ≡ Err causes.Disk → result ≡ Err apply.Disk)
        → (result ≡ Err apply.NoMemory → r ≡ Err causes.NoMemory)
        → CountsCommit (slots_between p t next) (state old.disk) (state new.disk) result
        → ChangesImage t next p (state old.disk) (state new.disk) new.is_spent result
    image {U} result stands from_disk to_disk from_memory count = record {
      stands = stood result stands;
      crash = LeavesOnly-weaken (state old.disk) (state new.disk)
          (λ image. images.RepresentsPages (draw_of p) p (map_of_pages (pages t p)) image
          ⊎ images.RepresentsPages (draw_of p) p (map_of_pages (pages next p)) image)
          (λ image. Represents image t p ⊎ Represents image next p) either disk.crash;
      reads = either (state new.disk).bytes disk.reads;
      still = λ e. disk.still (ap (λ (u : Tree). map_of_pages (pages u p)) e);
      no_memory = λ e. disk.no_memory (from_memory e);
      counts = count;
      stops = λ e. let spends = disk.spends e in (to_disk spends.0, spends.1);
      goes_on = λ e f. disk.goes_on e (from_disk f);
    }
      where
        stood : (s : Result U ApplyFault)
            → OnOk s (images.SlotStandsAt (draw_of p) p (map_of_pages (pages next p)) (state new.disk))
            → OnOk s (Stands (state new.disk) next p)
        stood (Ok value) at = stands_tree next p (state new.disk) to long at
        stood (Err fault) at = tt

  -- the step that a settle takes to a tree that fits
  pub stepped_fitting : {A : Type 0} (IsAnswer : A → Type 0) (answer : A) → IsAnswer answer → IsFitting next p
      → (r : Result (Unit {0}) SettleFault) → Settles state any_draw old new r
      → StepsPages state t next IsAnswer p old new (ended answer r)
  stepped_fitting {A} IsAnswer answer is to (Ok value) settles =
      let seen = by_trees (Ok value) (settles.observed observable) in
      let count = counts to settles.kept (Ok value) seen in
      record {
        answer = is;
        image = image to settles.kept (Ok value) seen (Ok answer) seen.stands (λ e. absurd (cc)) (λ e. absurd (cc))
            (λ e. absurd (cc)) (record { made = count.made; limit = count.limit });
        goes = settles.table observable ∙ map_is;
        stays = λ still. tt;
      }
  stepped_fitting {A} IsAnswer answer is to (Err causes.Disk) settles =
      let seen = by_trees (Err causes.Disk) (settles.observed observable) in
      let count = counts to settles.kept (Err causes.Disk) seen in
      record {
        answer = tt;
        image = image to settles.kept (Err causes.Disk) seen {U = A} (Err apply.Disk) tt (λ e. refl) (λ e. refl)
            (λ e. absurd (cc)) (record { made = tt; limit = count.limit });
        goes = tt;
        stays = λ still. settles.table_stays observable still;
      }
  stepped_fitting {A} IsAnswer answer is to (Err causes.NoMemory) settles =
      let seen = by_trees (Err causes.NoMemory) (settles.observed observable) in
      let count = counts to settles.kept (Err causes.NoMemory) seen in
      record {
        answer = tt;
        image = image to settles.kept (Err causes.NoMemory) seen {U = A} (Err apply.NoMemory) tt (λ e. absurd (cc))
            (λ e. absurd (cc)) (λ e. refl) (record { made = tt; limit = count.limit });
        goes = tt;
        stays = λ still. settles.table_stays observable still;
      }
  stepped_fitting {A} IsAnswer answer is to (Err (causes.Full need slots)) settles =
      let full = (settles.observed observable).full in
      absurd (omega (arith, full.more, full.need_is ∙ count_is, full.slots_are ∙ slots_are, to.fits.room))

  -- a next tree that fits is the one behind the step that counts its pages
  to_next : {A : Type 0} (IsAnswer : A → Type 0) (r : Result A ApplyFault) → IsFitting next p
      → StepsPages state t next IsAnswer p old new r
      → StepsPages state t (counted_step t next p).tree IsAnswer p old new r
  to_next IsAnswer r to = subst (λ (u : Tree). StepsPages state t u IsAnswer p old new r)
      (sym (ap (λ (s : Step). s.tree) (counted_fits t next p to.fits.room)))

  -- the step that a settle takes to a tree that has room, or does not
  pub stepped : {A : Type 0} (IsAnswer : A → Type 0) (done : A) (full : ℕ → ℕ → A)
      → (page_count next p ≤ p.slots → IsAnswer done)
      → (p.slots < page_count next p → IsAnswer (full (page_count next p) p.slots))
      → (r : Result (Unit {0}) SettleFault) → Settles state any_draw old new r
      → StepsPages state t (counted_step t next p).tree IsAnswer p old new (counted_end done full r)
  stepped IsAnswer done full is_done is_full (Ok value) settles =
      let to = fitting_next (settles.observed observable).full in
      to_next IsAnswer (Ok done) to (stepped_fitting IsAnswer done (is_done to.fits.room) to (Ok value) settles)
  stepped IsAnswer done full is_done is_full (Err causes.Disk) settles =
      let to = fitting_next (settles.observed observable).full in
      to_next IsAnswer (Err apply.Disk) to
      (stepped_fitting IsAnswer done (is_done to.fits.room) to (Err causes.Disk) settles)
  stepped IsAnswer done full is_done is_full (Err causes.NoMemory) settles =
      let to = fitting_next (settles.observed observable).full in
      to_next IsAnswer (Err apply.NoMemory) to
      (stepped_fitting IsAnswer done (is_done to.fits.room) to (Err causes.NoMemory) settles)
  stepped {A} IsAnswer done full is_done is_full (Err (causes.Full need slots)) settles =
      let disk = settles.observed observable in
      let too_many = disk.full in
      let still : new.is_spent ≡ false = settles.runs (λ e. absurd (cc)) in
      let need_is : need ≡ page_count next p = too_many.need_is ∙ count_is in
      let all_are : slots ≡ p.slots = too_many.slots_are ∙ slots_are in
      let more : p.slots < page_count next p = omega (arith, too_many.more, need_is, all_are) in
      let reads : ReadsOnly (state old.disk) (state new.disk) = disk.too_many need slots refl in
      subst (λ (u : Tree). StepsPages state t u IsAnswer p old new (Ok (full need slots)))
      (sym (ap (λ (s : Step). s.tree) (counted_full t next p more))) (record {
        answer = subst (λ (n : ℕ). IsAnswer (full need n)) (sym all_are)
            (subst (λ (n : ℕ). IsAnswer (full n p.slots)) (sym need_is) (is_full more));
        image = subst (λ (b : Bool). ChangesImage {T = A} t t p (state old.disk) (state new.disk) b
            (Ok (full need slots))) (sym still)
            (reads_change t t p staged.fitting (state old.disk) (state new.disk)
            (Ok (full need slots)) (staged.stands observable) reads refl);
        goes = settles.table_stays observable still ∙ staged.table_is observable;
        stays = λ runs. tt;
      })

-- what a settle makes of the count of faults
counted_faults : {A : Type 0} (done : A) (full : ℕ → ℕ → A) (n m : ℕ) (r : Result (Unit {0}) SettleFault)
    → m ≡ settle_faults_after n r → m ≡ apply_faults_after n (counted_end done full r)
counted_faults done full n m (Ok value) is = is
counted_faults done full n m (Err (causes.Full need slots)) is = is
counted_faults done full n m (Err causes.Disk) is = is
counted_faults done full n m (Err causes.NoMemory) is = is

counted_never : {A : Type 0} (done : A) (full : ℕ → ℕ → A) (r : Result (Unit {0}) SettleFault)
    → counted_end done full r ≡ Err apply.Stopped → ⊥
counted_never done full (Ok value) is = cc
counted_never done full (Err (causes.Full need slots)) is = cc
counted_never done full (Err causes.Disk) is = cc
counted_never done full (Err causes.NoMemory) is = cc

pub ended_faults : {A : Type 0} (answer : A) (n m : ℕ) (r : Result (Unit {0}) SettleFault) → m ≡ settle_faults_after n r
    → m ≡ apply_faults_after n (ended answer r)
ended_faults answer n m (Ok value) is = is
ended_faults answer n m (Err (causes.Full need slots)) is = is
ended_faults answer n m (Err causes.Disk) is = is
ended_faults answer n m (Err causes.NoMemory) is = is

pub ended_never : {A : Type 0} (answer : A) (r : Result (Unit {0}) SettleFault) → ended answer r ≡ Err apply.Stopped → ⊥
ended_never answer (Ok value) is = cc
ended_never answer (Err (causes.Full need slots)) is = cc
ended_never answer (Err causes.Disk) is = cc
ended_never answer (Err causes.NoMemory) is = cc

-- a settle, behind which all is taken back that is staged
module _ {D : Type 0} (state : D → DiskState) (t next : Tree) (p : Parameters) (old new : StagedState D AnyDraw)
    (r : Result (Unit {0}) SettleFault) (sound : (x : D) → IsObservable (state x) → IsSound (state x))
    (staged : IsStagedFor state t next p old) (runs : old.is_spent ≡ false)
    (settles : Settles state any_draw old new r) where
  seen : IsObservable (state old.disk) → IsSound (state new.disk)
  seen observable = sound new.disk (settles.kept.observable ∙ observable)

  -- of changes whose pages have room, or not
  pub settled_counted : {A : Type 0} (IsAnswer : A → Type 0) (done : A) (full : ℕ → ℕ → A)
      → (page_count next p ≤ p.slots → IsAnswer done)
      → (p.slots < page_count next p → IsAnswer (full (page_count next p) p.slots))
      → EndsStep state t (counted_step t next p).tree IsAnswer p old (without_changes new) (counted_end done full r)
  settled_counted IsAnswer done full is_done is_full = record {
    step = record {
      params = settles.params;
      draw = settles.draw;
      kept = settles.kept;
      faults = counted_faults done full (state old.disk).faults (state new.disk).faults r settles.faults;
      never = counted_never done full r;
      runs = λ other. settles.runs (λ e. other (ap (counted_end done full) e));
      observed = λ observable.
          let step = stepped state t next p old new staged runs observable (seen observable)
          IsAnswer done full is_done is_full r settles in
          record { answer = step.answer; image = step.image; goes = step.goes; stays = step.stays };
    };
    none_staged = λ observable still. refl;
  }

  -- of a command's changes
  pub settled : EndsCommand state t (counted_step t next p) p old (without_changes new) (settled_reply r)
  settled = settled_counted (IsReplyTo (counted_step t next p)) replies.Ok
      (λ need slots. replies.No (refusals.Full need slots))
      (λ room. sym (ap (λ (s : Step). s.reply) (counted_fits t next p room)))
      (λ more. sym (ap (λ (s : Step). s.reply) (counted_full t next p more)))

  -- and of changes to a tree that fits
  pub settled_fitting : {A : Type 0} (IsAnswer : A → Type 0) (answer : A) → IsAnswer answer → IsFitting next p
      → EndsStep state t next IsAnswer p old (without_changes new) (ended answer r)
  settled_fitting IsAnswer answer is to = record {
    step = record {
      params = settles.params;
      draw = settles.draw;
      kept = settles.kept;
      faults = ended_faults answer (state old.disk).faults (state new.disk).faults r settles.faults;
      never = ended_never answer r;
      runs = λ other. settles.runs (λ e. other (ap (ended answer) e));
      observed = λ observable.
          let step = stepped_fitting state t next p old new staged runs observable
          (seen observable) IsAnswer answer is to r settles in
          record { answer = step.answer; image = step.image; goes = step.goes; stays = step.stays };
    };
    none_staged = λ observable still. refl;
  }
