-- The calls that look pages up and stage changes.
use Rattle.std.proofs.Common.{◌≡◌, ◌≢◌, ◌↔◌, ℕ, ◌+◌, ◌-◌, ◌<◌, ◌≤◌, min, Bool, true, false, cond, List, Option, Some}
use Rattle.std.proofs.Common.{None, IsSome, is_some, Result, Ok, Err, IsOk, IfOk, OnOk, refl, sym, ap, ap₂, subst, ◌∙◌}
use Rattle.std.proofs.Common.{arith}
use Rattle.std.specs.Borrow.{Bor}
use Rattle.std.specs.FinMap as maps
use Rattle.std.specs.BTreeMap.{insert_entry}
use Rattle.std.specs.FinMap.{len-insert, len-remove}
use Rattle.std.specs.Cmp.Lexicographic.{nat_list_cmp_total}
use Rattle.store_model.specs.Parameters.{Parameters}
use Rattle.store_model.specs.Labels.{Label, label_bytes, label_cmp}
use Rattle.store_model.specs.Draws.{Draw}
use Rattle.store_model.specs.Pages.{Page}
use Rattle.store_model.specs.PageMaps.{PageMap, IsPageMap, page_at}
use Rattle.store_base.specs.declared.store_fault.Fault.{Fault}
use Rattle.store_base.specs.declared.store_fault.Fault.TheVariants as causes
use Rattle.store_base.specs.Faults.{disk_faults_after}
use Rattle.store_base.specs.Counts.{raised}
use Rattle.disk_model.specs.DiskState.{DiskState, IsObservable}
use Rattle.gate_journal.specs.ViewState.{KeepsView}
use Rattle.node_pages.specs.PagesState.{IsPageGet, IsPagePut, looked_at, most_pages}
use Rattle.table_memory.specs.Memos.{Remembered, IsKnown}
use Rattle.table_memory.specs.OverlayState.{overlaid}
use Rattle.page_store.specs.PageImages.{pages_in_table}
use Rattle.table_memory.specs.Staging.{StagedPages, with_change, with_changes, used_after}
use Rattle.page_store.specs.Lookups.{LooksUp}
use Rattle.page_store.specs.StagedState.{StagedState, staged_state, IsStaged, IsTold, Follows, pages_state}
use Rattle.page_store.specs.Stagings.{Stages}
use Rattle.page_store.proofs.StagedLemmas.{IsReadLater, read_later, staged_later, staged_change, changed_map}
use Rattle.page_store.proofs.StagedLemmas.{same_table}

-- ---- the count of pages

-- with a change of one label
pub len_after : (m : PageMap) (l : Label) (change : Option Page) (used : ℕ) (is_there : Bool) → used ≡ maps.len m
    → is_there ≡ maps.contains_key m (label_bytes l)
    → used_after used is_there (is_some change) ≡ maps.len (with_change m l change)
len_after m l (Some page) used is_there is there =
    added used is_there ∙ ap₂ (λ (n : ℕ) (b : Bool). cond b n (n + 1)) is there
    ∙ sym (len-insert nat_list_cmp_total m (label_bytes l) page)
  where
    added : (n : ℕ) (was : Bool) → used_after n was true ≡ cond was n (n + 1)
    added n true = refl
    added n false = refl
len_after m l None used is_there is there = taken used is_there ∙ ap₂ (λ (n : ℕ) (b : Bool). cond b (n - 1) n) is there
    ∙ sym (len-remove nat_list_cmp_total m (label_bytes l))
  where
    taken : (n : ℕ) (was : Bool) → used_after n was false ≡ cond was (n - 1) n
    taken n true = refl
    taken n false = refl

-- it stays in range
in_u32 : (change : Option Page) (used : ℕ) (was : Bool) → used ≤ most_pages → (IsSome change → used < most_pages)
    → min most_pages (used_after used was (is_some change)) ≡ used_after used was (is_some change)
in_u32 (Some page) used true within few = omega arith
in_u32 (Some page) used false within few = let below : used < 4294967295 = few refl in omega (arith, below)
in_u32 None used true within few = omega arith
in_u32 None used false within few = omega arith

-- ---- the calls

-- calls that keep the view follow, whatever they stage
pub view_follows : {D W : Type 0} (state : D → DiskState) (draw : W) (p q : Parameters) (disk after : D)
    (changes next : StagedPages) (memo memo_after : Remembered) (lookups n : ℕ) (is_spent : Bool)
    (was : StagedState D W) → staged_state state p draw disk changes memo lookups is_spent ≡ was
    → KeepsView p q (state disk) (state after)
    → Follows state was (staged_state state q draw after next memo_after n is_spent)
view_follows {D} {W} state draw p q disk after changes next memo memo_after lookups n is_spent was is view =
    subst (λ (x : StagedState D W). Follows state x (staged_state state q draw after next memo_after n is_spent)) is
    (record {
      disk = view;
      draw = refl;
      runs = refl;
      table = λ observable. ap₂ (λ (r : Parameters) (bytes : List ℕ). pages_in_table r.slots bytes)
          view.params (view.reads observable).bytes;
    })

-- a count that rose is raised where a call answers
counted_if : {T E : Type 0} (result : Result T E) (old n : ℕ) → n ≡ raised old → OnOk result (n ≡ raised old)
counted_if (Ok value) old n is = is
counted_if (Err fault) old n is = tt

-- a fault is no answer
pub failed_well : {T E : Type 0} (fault : E) (value : T) → Err fault ≡ Ok value → ⊥
failed_well fault value same = cc

-- an answer that hands out a reference comes just where this is so
pub looked_known : (result : Result (Option (Bor Page)) Fault) (P : Type 0) → IsOk result ↔ P
    → OnOk (looked_at result) P
looked_known (Ok page) P is = is.0 refl
looked_known (Err fault) P is = tt

pub looked_answered : (result : Result (Option (Bor Page)) Fault) → IsOk result → looked_at result ≢ Err causes.NoMemory
looked_answered (Ok page) is = λ lacks. cc
looked_answered (Err fault) is = absurd (cc)

-- there was no memory for a page
pub put_refused : {D W : Type 0} (state : D → DiskState) (now was : StagedState D W) (page : Page) → now ≡ was
    → IsPagePut {T = Unit {0}} (pages_state state was) (pages_state state now) page (Err causes.NoMemory)
put_refused {D} {W} state now was page is =
    subst (λ (x : StagedState D W). IsPagePut {T = Unit {0}} (pages_state state x) (pages_state state now) page
    (Err causes.NoMemory)) is (record {
      faults = refl;
      lookups = refl;
      hidden = λ observable. observable;
      observed = λ observable. record { observable = observable; changed = tt; unchanged = refl };
    })

-- slots over the disk were read
module _ {D W : Type 0} (state : D → DiskState) (draw : W) (d : Draw) (p q : Parameters) (disk after : D)
    (touched later : List (ℕ × List ℕ)) (changes : StagedPages) (memo memo_after : Remembered)
    (used settled lookups : ℕ) (is_spent : Bool)
    (staged : IsStaged d p (state disk) touched changes used settled is_spent)
    (view : KeepsView p q (state disk) (state after))
    (slots : IsObservable (state disk) → (overlaid q.slots later (state after)).slots
    ≡ (overlaid p.slots touched (state disk)).slots)
    (was : StagedState D W) (view_is : staged_state state p draw disk changes memo lookups is_spent ≡ was) where
  read : IsReadLater p q (state disk) (state after) touched later
  read = read_later p q (state disk) (state after) touched later view slots

  told_before : (next : StagedPages) (n : ℕ) → IsTold state (staged_state state q draw after next memo_after n is_spent)
      → IsTold state (staged_state state p draw disk changes memo lookups is_spent)
  told_before next n told =
      let before = sym read.observable ∙ told.disk in
      record { disk = before; runs = told.runs; valid = (staged.counted before told.runs).valid }

  told_later : (next : StagedPages) (n used_after : ℕ)
      → IsStaged d q (state after) later next used_after settled is_spent
      → IsTold state (staged_state state p draw disk changes memo lookups is_spent)
      → IsTold state (staged_state state q draw after next memo_after n is_spent)
  told_later next n used_after now told =
      let observable = read.observable ∙ told.disk in
      record { disk = observable; runs = told.runs; valid = (now.counted observable told.runs).valid }

  same_map : IsObservable (state disk) → with_changes (pages_in_table q.slots (state after).bytes) changes
      ≡ with_changes (pages_in_table p.slots (state disk).bytes) changes
  same_map observable = ap (λ (m : PageMap). with_changes m changes)
      (same_table d p q (state disk) (state after) touched later changes used settled is_spent staged read observable)

  -- all is as it was
  pub read_staged : (next : StagedPages) → next ≡ changes → IsStaged d q (state after) later next used settled is_spent
  read_staged next same =
      subst (λ (es : StagedPages). IsStaged d q (state after) later es used settled is_spent) (sym same)
      (staged_later d p q (state disk) (state after) touched later changes used settled is_spent staged read)

  -- a page was asked for, and is shown
  pub page_looked : (l : Label) (n : ℕ) (shown : Result (Option Page) Fault) → lookups ≤ n → n ≤ lookups + 1
      → n ≡ raised lookups → (IsKnown changes memo l → shown ≢ Err causes.NoMemory)
      → OnOk shown (IsKnown changes memo_after l) → (state after).faults ≡ disk_faults_after (state disk).faults shown
      → (IsTold state (staged_state state q draw after changes memo_after n is_spent)
      → IfOk shown (λ page. page ≡ page_at (with_changes (pages_in_table q.slots (state after).bytes) changes) l))
      → IsPageGet (pages_state state was)
      (pages_state state (staged_state state q draw after changes memo_after n is_spent)) l shown
      × Follows state was (staged_state state q draw after changes memo_after n is_spent)
  page_looked l n shown kept most counted memory held faults found = (
    subst (λ (x : StagedState D W). IsPageGet (pages_state state x)
        (pages_state state (staged_state state q draw after changes memo_after n is_spent)) l shown) view_is (record {
          faults = faults;
          memory = memory;
          held = held;
          counted = counted_if shown lookups n counted;
          lookups_kept = kept;
          lookups_most = most;
          hidden = told_before changes n;
          observed = λ told.
              let now = told_later changes n used (read_staged changes refl) told in
              record {
                observable = now;
                found = subst (λ (m : PageMap). IfOk shown (λ page. page ≡ page_at m l))
                    (same_map told.disk) (found now);
                unchanged = same_map told.disk;
              };
        }),
    view_follows state draw p q disk after changes changes memo memo_after lookups n is_spent was view_is view,
  )

  -- a change was not staged
  pub stage_failed : (l : Label) (change : Option Page) (fault : Fault) (next : StagedPages) → next ≡ changes
      → (state after).faults ≡ disk_faults_after {T = Unit {0}} (state disk).faults (Err fault)
      → Stages {T = Unit {0}} (pages_state state was)
      (pages_state state (staged_state state q draw after next memo_after lookups is_spent)) l change (Err fault)
  stage_failed l change fault next same faults =
      subst (λ (x : StagedState D W). Stages {T = Unit {0}} (pages_state state x)
      (pages_state state (staged_state state q draw after next memo_after lookups is_spent)) l change (Err fault))
      view_is
      (subst (λ (es : StagedPages). Stages {T = Unit {0}}
      (pages_state state (staged_state state p draw disk changes memo lookups is_spent))
      (pages_state state (staged_state state q draw after es memo_after lookups is_spent)) l change (Err fault))
      (sym same) (record {
        faults = faults;
        lookups = refl;
        hidden = told_before changes lookups;
        observed = λ told. record {
          observable = told_later changes lookups used (read_staged changes refl) told;
          changed = tt;
          unchanged = same_map told.disk;
        };
      }))

  -- a change was staged
  module _ (l : Label) (change : Option Page) (is_there : Bool) (next : StagedPages) (used_now : ℕ)
      (found : LooksUp d (overlaid p.slots touched (state disk)) (overlaid q.slots later (state after)) changes l
      (Ok is_there)) (put : next ≡ insert_entry label_cmp changes l change)
      (keeps : (m : PageMap) → IsPageMap m → IsPageMap (with_change m l change)) (in_range : used ≤ most_pages)
      (few : IsSome change → IsTold state was → maps.len was.map < most_pages)
      (counted : used_now ≡ min most_pages (used_after used is_there (is_some change))) where
    few_pages : IsSome change → IsTold state (staged_state state p draw disk changes memo lookups is_spent)
        → maps.len (with_changes (pages_in_table p.slots (state disk).bytes) changes) < most_pages
    few_pages = subst (λ (x : StagedState D W). IsSome change → IsTold state x
        → maps.len x.map < most_pages) (sym view_is) few

    counts : IsObservable (state disk) → is_spent ≡ false
        → used ≡ maps.len (with_changes (pages_in_table p.slots (state disk).bytes) changes)
        → is_there ≡ maps.contains_key (with_changes (pages_in_table p.slots (state disk).bytes) changes)
        (label_bytes l)
        → used_now ≡ maps.len (with_change (with_changes (pages_in_table p.slots (state disk).bytes) changes) l change)
    counts observable runs is there =
        let told : IsTold state (staged_state state p draw disk changes memo lookups is_spent) = record {
          disk = observable;
          runs = runs;
          valid = (staged.counted observable runs).valid;
        } in
        counted
        ∙ in_u32 change used is_there in_range
        (λ some. subst (λ (n : ℕ). n < most_pages) (sym is) (few_pages some told))
        ∙ len_after (with_changes (pages_in_table p.slots (state disk).bytes) changes) l change used is_there is there

    pub stage_staged : IsStaged d q (state after) later next used_now settled is_spent
    stage_staged = staged_change d p q (state disk) (state after) touched later changes used settled is_spent staged
        read l change is_there next used_now found put keeps counts

    pub stage_done : Stages {T = Unit {0}} (pages_state state was)
        (pages_state state (staged_state state q draw after next memo_after lookups is_spent)) l change (Ok tt)
    stage_done = subst (λ (x : StagedState D W). Stages {T = Unit {0}} (pages_state state x)
        (pages_state state (staged_state state q draw after next memo_after lookups is_spent)) l change (Ok tt)) view_is
        (record {
          faults = found.calls.faults;
          lookups = refl;
          hidden = told_before next lookups;
          observed = λ told. record {
            observable = told_later next lookups used_now stage_staged told;
            changed = changed_map d p q (state disk) (state after) touched later changes used
                settled is_spent staged read l
                change is_there next used_now found put keeps counts told.disk;
            unchanged = tt;
          };
        })
