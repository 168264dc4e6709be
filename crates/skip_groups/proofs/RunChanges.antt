-- So many pages of a group changed to those of a list of cells, one after another.
use Rattle.std.proofs.Common.{◌≡◌, ℕ, zero, suc, ◌+◌, ◌-◌, ◌*◌, ◌<◌, ◌≤◌, List, [], ◌∷◌, ◌++◌, length, take, drop, Bool}
use Rattle.std.proofs.Common.{true, false, cond, Some, Result, Ok, Err, OnOk, OnErr, refl, sym, ap, subst, ◌∙◌, arith}
use Rattle.std.specs.List.{slice_get}
use Rattle.std.specs.FinMap.{len, len-remove, contains_key}
use Rattle.std.specs.Cmp.Lexicographic.{nat_list_cmp_total}
use Rattle.std.proofs.lemmas.List.{length-append, take-append-drop, take_all}
use Rattle.store_base.specs.declared.store_fault.Fault.{Fault}
use Rattle.store_base.specs.Faults.{disk_faults_after}
use Rattle.store_model.specs.Lists.{runs}
use Rattle.store_model.specs.Labels.{Lead, Label, label_bytes}
use Rattle.node_pages.specs.Insertions.{with_cell}
use Rattle.store_model.specs.Pages.{Cell, Page, page_room}
use Rattle.store_model.specs.PageMaps.{PageMap, IsPageMap, with_page, without_page, map_of_pages}
use Rattle.store_model.specs.PageMaps as maps
use Rattle.store_model.proofs.TreesLemmasBytes.{labels_same}
use Rattle.node_pages.specs.LastPages.{page_of_run, pages_from}
use Rattle.node_pages.specs.PagesState.{PagesState, IsObservable, IsCellInsert, IsPagePut, IsPageDrop}
use Rattle.node_pages.proofs.EntryLemmas.{len-with_page}
use Rattle.node_pages.proofs.Runs.{length-pages_from, next_page, page_at, run_within}
use Rattle.skip_groups.specs.Groups.{label_of}
use Rattle.skip_groups.specs.GroupChanges.{changed_pages, IsRunChange}
use Rattle.skip_groups.proofs.MapChanges.{label_at, page_put, page_dropped}
use Rattle.skip_groups.proofs.GroupSteps.{same_count}

-- what holds after Ok gives more there
where_ok : {T A B : Type 0} (result : Result T Fault) → (A → B) → OnOk result A → OnOk result B
where_ok (Ok value) f h = f h
where_ok (Err fault) f h = tt

-- what follows after Ok and after a fault
either_result : {T A B C : Type 0} (result : Result T Fault) → (A → C) → (B → C) → OnOk result A → OnErr result B → C
either_result (Ok value) f g a b = f a
either_result (Err fault) f g a b = g b

len-without_page : (m : PageMap) (l : Label) → len (without_page m l) ≤ len m
len-without_page m l = subst (λ n. n ≤ len m) (sym (len-remove nat_list_cmp_total m (label_bytes l)))
    (by_test (contains_key m (label_bytes l)))
  where
    by_test : (b : Bool) → cond b (len m - 1) (len m) ≤ len m
    by_test true = omega arith
    by_test false = omega arith

module _ (old : PagesState) (level : ℕ) (lead : Lead) (first count : ℕ) (cells : List Cell) where
  -- none is changed
  pub run_begins : IsRunChange {T = Unit {0}} old old level lead first count cells 0 (Ok (tt {0}))
  run_begins = record {
    faults = refl;
    lookups = refl;
    hidden = λ o. o;
    observed = λ o. record {
      observable = o;
      room = omega arith;
      changed = λ olds news front back run change is.
          let here : first ≡ first + 0 = omega arith in
          is ∙ ap (λ ps. map_of_pages (front ++ (ps ++ back)))
          (sym run.start ∙ ap (λ n. changed_pages n olds news) here);
    };
  }

  -- one more is
  module _ (now new : PagesState) (i : ℕ)
      (h : IsRunChange {T = Unit {0}} old now level lead first count cells i (Ok (tt {0})))
      (below : first + i < 4294967296) where
    pub run_puts : {T : Type 0} (result : Result T Fault) → i < length (runs (page_room level) cells)
        → IsPagePut now new (page_of_run level lead (first + i)
        (take (page_room level) (drop (page_room level * i) cells))) result
        → IsRunChange old new level lead first count cells (i + 1) result
    run_puts result within put =
        let page = page_of_run level lead (first + i)
        (take (page_room level) (drop (page_room level * i) cells)) in
        let further : first + i + 1 ≡ first + (i + 1) = omega arith in
        record {
          faults = put.faults ∙ ap (λ n. disk_faults_after n result) h.faults;
          lookups = put.lookups ∙ h.lookups;
          hidden = λ o. h.hidden (put.hidden o);
          observed = λ o. let s = h.observed o in record {
            observable = (put.observed s.observable).observable;
            room = let p = put.observed s.observable
                in either_result result (λ changed. let l = len-with_page now.pages page
                in omega (arith, ap len changed, s.room))
                (λ kept. omega (arith, ap len kept, s.room)) p.changed p.unchanged;
            changed = λ olds news front back run change is.
                let there =
                run.put i page (page_at level lead first i
                cells (run_within level i cells within)) in
                subst (λ n. OnOk result (new.pages ≡ map_of_pages (front ++ (changed_pages n olds news ++ back))))
                further
                (where_ok result (λ changed. changed
                ∙ ap (λ m. with_page m page) (s.changed olds news front back run change is)
                ∙ page_put level lead front back olds news change (first + i) below page there)
                (put.observed s.observable).changed);
          };
        }

    pub run_drops : {T : Type 0} (result : Result T Fault) (l : Label) → l ≡ label_of level lead (first + i)
        → length (runs (page_room level) cells) ≤ i → i < count → IsPageDrop now new l result
        → IsRunChange old new level lead first count cells (i + 1) result
    run_drops result l label past within dropped =
        let further : first + i + 1 ≡ first + (i + 1) = omega arith in
        record {
          faults = dropped.faults ∙ ap (λ n. disk_faults_after n result) h.faults;
          lookups = dropped.lookups ∙ h.lookups;
          hidden = λ o. h.hidden (dropped.hidden o);
          observed = λ o. let s = h.observed o in record {
            observable = (dropped.observed s.observable).observable;
            room = let p = dropped.observed s.observable
                in either_result result (λ changed. let m = len-without_page now.pages l
                in omega (arith, ap len changed, s.room))
                (λ kept. omega (arith, ap len kept, s.room)) p.changed p.unchanged;
            changed = λ olds news front back run change is.
                let there = page_there olds (first + i) (omega (arith, run.within)) in
                let labelled : l ≡ there.0.label = label
                ∙ sym (label_at level lead 0 (first + i) olds there.0 change.old_pages.numbered there.1
                ∙ ap (label_of level lead) from_0) in
                subst (λ n. OnOk result (new.pages ≡ map_of_pages (front ++ (changed_pages n olds news ++ back))))
                further
                (where_ok result (λ changed. changed ∙ ap (λ k. without_page now.pages k) labelled
                ∙ ap (λ m. without_page m there.0.label) (s.changed olds news front back run change is)
                ∙ page_dropped level lead front back olds news change
                (first + i) below there.0 (run.dropped i
                (omega (arith, past, length-pages_from level lead first cells)) within) there.1)
                (dropped.observed s.observable).changed);
          };
        }
      where
        from_0 : 0 + (first + i) ≡ first + i
        from_0 = omega arith

        page_there : (ps : List Page) (n : ℕ) → n < length ps → (page : Page) × (slice_get ps n ≡ Some page)
        page_there [] n far = absurd (omega arith)
        page_there (p ∷ ps) zero far = (p, refl)
        page_there (p ∷ ps) (suc n) far = page_there ps n (omega arith)

  -- a fault ends it
  pub run_fails : {A B : Type 0} (new : PagesState) (past all : ℕ) (fault : Fault) → past ≤ all
      → IsRunChange {T = A} old new level lead first count cells past (Err fault)
      → IsRunChange {T = B} old new level lead first count cells all (Err fault)
  run_fails {A} {B} new past all fault within h = record {
    faults = h.faults ∙ same_count A B old.faults fault;
    lookups = h.lookups;
    hidden = h.hidden;
    observed = λ o. let s = h.observed o in record {
      observable = s.observable;
      room = omega (arith, s.room);
      changed = λ olds news front back run change is. tt;
    };
  }

-- a page of the group is put with one cell more
pub run_inserts : {T : Type 0} (old new : PagesState) (level : ℕ) (lead : Lead) (first : ℕ) (page : Page) (at : ℕ)
    (cell : Cell) (l : Label) (result : Result T Fault) → first < 4294967296 → length page.cells < page_room level
    → (IsObservable old → IsPageMap old.pages)
    → (IsObservable old → maps.page_at old.pages (label_of level lead first) ≡ Some page)
    → l ≡ label_of level lead first → IsCellInsert old new l at cell result
    → IsRunChange old new level lead first 1 (with_cell page at cell).cells 1 result
run_inserts old new level lead first page at cell l result below room map found label_is insert = record {
  faults = insert.faults;
  lookups = insert.lookups;
  hidden = insert.hidden;
  observed = λ o.
      let put = insert.observed o page (ap (maps.page_at old.pages) label_is ∙ found o) in
      record {
        observable = put.observable;
        room = let n = len-with_page old.pages (with_cell page at cell)
            in either_result result (λ changed. omega (arith, ap len changed, n))
            (λ kept. omega (arith, ap len kept)) put.changed put.unchanged;
        changed = λ olds news front back run change is.
            let under = map o (label_bytes (label_of level lead first)) page (found o) in
            let labelled : label_of level lead first ≡ page.label =
            labels_same (label_of level lead first) page.label (record {
              level = change.low;
              lead = change.led;
              index = below;
            }) under.valid.label under.under in
            let there = run.put 0 (with_cell page at cell) (pages_are (sym labelled)) in
            let here : first + 0 ≡ first = omega arith in
            where_ok result (λ changed. changed ∙ ap (λ m. with_page m (with_cell page at cell))
            (is ∙ ap (λ ps. map_of_pages (front ++ (ps ++ back))) (sym run.start))
            ∙ page_put level lead front back olds news change first below (with_cell page at cell)
            (ap (slice_get news) (sym here) ∙ there)) put.changed;
      };
}
  where
    longer : length (with_cell page at cell).cells ≡ length page.cells + 1
    longer = omega (
      arith,
      length-append (take at page.cells)
          (cell ∷ drop at page.cells),
      length-append (take at page.cells) (drop at page.cells),
      ap length
          (take-append-drop at page.cells),
    )

    pages_are : page.label ≡ label_of level lead first
        → slice_get (pages_from level lead first (with_cell page at cell).cells) 0 ≡ Some (with_cell page at cell)
    pages_are labelled =
        let cells = (with_cell page at cell).cells in
        ap (λ ps. slice_get ps 0) (next_page level lead first cells (omega (arith, longer)))
        ∙ ap (λ run. Some (page_of_run level lead first run))
        (take_all (page_room level) cells (omega (arith, longer, room)))
        ∙ ap (λ k. Some (record { label = k; cells = cells })) (sym labelled)
