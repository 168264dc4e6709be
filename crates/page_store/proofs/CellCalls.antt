-- The call that inserts a cell into a page.
use Rattle.std.proofs.Common.{◌≡◌, ℕ, Bool, true, false, List, Option, Some, None, is_some, Ok, Err, refl, sym, ap}
use Rattle.std.proofs.Common.{subst, ◌∙◌, inl, inr}
use Rattle.std.specs.FinMap as maps
use Rattle.std.specs.Map.{set_value}
use Rattle.std.specs.BTreeMap.{is_at, insert_entry}
use Rattle.store_model.specs.Parameters.{Parameters}
use Rattle.store_model.specs.Labels.{Label, label_bytes, label_cmp}
use Rattle.store_model.specs.Draws.{Draw}
use Rattle.store_model.specs.Pages.{Cell, Page}
use Rattle.store_model.specs.PageMaps.{PageMap, IsPageMap, page_at, with_page}
use Rattle.store_model.proofs.PageMapsLemmas.{IsPageMap-with_page}
use Rattle.store_base.specs.declared.store_fault.Fault.TheVariants as causes
use Rattle.disk_model.specs.DiskState.{DiskState, IsObservable}
use Rattle.node_pages.specs.Insertions.{TakesCell, with_cell}
use Rattle.node_pages.specs.PagesState.{IsCellInsert}
use Rattle.table_memory.specs.Memos.{Remembered, staged_at, IsRemembered, IsMemoOf}
use Rattle.table_memory.specs.OverlayState.{overlaid}
use Rattle.table_memory.specs.Staging.{StagedPages, with_change, with_changes}
use Rattle.table_memory.proofs.ChangeLemmas.{with_changes-insert, with_changes-set_value}
use Rattle.page_store.proofs.KnownLemmas.{known_read}
use Rattle.page_store.specs.PageImages.{pages_in_table}
use Rattle.page_store.specs.StagedState.{StagedState, staged_state, IsStaged, IsTold, pages_state}
use Rattle.page_store.specs.Stagings.{InsertsCell, StagesCell}
use Rattle.page_store.proofs.StagedLemmas.{held_over}
use Rattle.page_store.proofs.StagedCalls.{len_after}

-- ---- the changes

-- a page that is staged is changed where it lies
pub written_cell : (old new : StagedPages) (memo : Remembered) (l : Label) (at : ℕ) (cell : Cell)
    (found now : Option Page) → staged_at old l ≡ Some found → InsertsCell found now at cell
    → new ≡ set_value (is_at (label_cmp l)) old now → StagesCell old new memo l at cell
written_cell old new memo l at cell found now is inserts set = record {
  page = inserts.page;
  known = inl (is ∙ ap Some inserts.was);
  takes = inserts.takes;
  staged = λ m. ap (with_changes m) set ∙ with_changes-set_value m old l found now is
      ∙ ap (with_change (with_changes m old) l) inserts.now;
}

-- one that is remembered is staged with the cell
pub put_cell : (old new : StagedPages) (memo : Remembered) (l : Label) (at : ℕ) (cell : Cell) (page : Page)
    → staged_at old l ≡ None → IsRemembered memo l (Some page) → TakesCell page at cell
    → new ≡ insert_entry label_cmp old l (Some (with_cell page at cell)) → StagesCell old new memo l at cell
put_cell old new memo l at cell page none is takes put = record {
  page = page;
  known = inr (none, is);
  takes = takes;
  staged = λ m. ap (with_changes m) put ∙ with_changes-insert m old l (Some (with_cell page at cell));
}

-- ---- the call

-- no cell was inserted
pub cell_refused : {D W : Type 0} (state : D → DiskState) (now was : StagedState D W) (l : Label) (at : ℕ) (cell : Cell)
    → now ≡ was → IsCellInsert {T = Unit {0}} (pages_state state was)
    (pages_state state now) l at cell (Err causes.NoMemory)
cell_refused {D} {W} state now was l at cell is =
    subst (λ (x : StagedState D W). IsCellInsert {T = Unit {0}} (pages_state state x) (pages_state state now) l at cell
    (Err causes.NoMemory)) is (record {
      faults = refl;
      lookups = refl;
      hidden = λ observable. observable;
      observed = λ observable page found. record { observable = observable; changed = tt; unchanged = refl };
    })

-- the map has this page under a label, which is then the page's
under_its_label : (m : PageMap) (l : Label) (at : ℕ) (cell : Cell) (page : Page) → IsPageMap m → page_at m l ≡ Some page
    → with_change m l (Some (with_cell page at cell)) ≡ with_page m (with_cell page at cell)
under_its_label m l at cell page is found =
    ap (λ (bytes : List ℕ). maps.insert m bytes (with_cell page at cell)) (is (label_bytes l) page found).under

same_Some : (a b : Page) → Some a ≡ Some b → a ≡ b
same_Some a b e = cc

has_key : (m : PageMap) (l : Label) (page : Page) → page_at m l ≡ Some page → true ≡ maps.contains_key m (label_bytes l)
has_key m l page found = sym (ap is_some found)

-- a page with one cell more is staged
module _ {D W : Type 0} (state : D → DiskState) (draw : W) (d : Draw) (p : Parameters) (disk : D)
    (touched : List (ℕ × List ℕ)) (changes next : StagedPages) (used settled lookups : ℕ) (is_spent : Bool)
    (staged : IsStaged d p (state disk) touched changes used settled is_spent) (memo : Remembered)
    (of : IsMemoOf d (overlaid p.slots touched (state disk)) memo) (l : Label) (at : ℕ) (cell : Cell)
    (did : StagesCell changes next memo l at cell) where
  abbrev before : PageMap
  before = with_changes (pages_in_table p.slots (state disk).bytes) changes

  found_page : IsObservable (state disk) → is_spent ≡ false → page_at before l ≡ Some did.page
  found_page observable runs =
      let read = known_read d (overlaid p.slots touched (state disk)) changes memo l (Some did.page) of did.known in
      sym (read.found (pages_in_table p.slots (state disk).bytes) observable
      (held_over d p (state disk) touched changes used settled is_spent staged observable runs))

  cell_map : IsObservable (state disk) → is_spent ≡ false
      → with_changes (pages_in_table p.slots (state disk).bytes) next ≡ with_page before (with_cell did.page at cell)
  cell_map observable runs =
      did.staged (pages_in_table p.slots (state disk).bytes)
      ∙ under_its_label before l at cell did.page (staged.counted observable runs).valid (found_page observable runs)

  pub cell_staged : IsStaged d p (state disk) touched next used settled is_spent
  cell_staged = record {
    drawn = staged.drawn;
    counted = λ observable runs.
        let was = staged.counted observable runs in
        record {
          stands = was.stands;
          valid = subst IsPageMap (sym (cell_map observable runs))
              (IsPageMap-with_page before (with_cell did.page at cell) was.valid did.takes.valid);
          used_is =
              len_after before l (Some (with_cell did.page at cell)) used true
              was.used_is (has_key before l did.page (found_page observable runs))
              ∙ ap maps.len (sym (did.staged (pages_in_table p.slots (state disk).bytes)));
          untouched = was.untouched;
          settled_is = was.settled_is;
        };
  }

  told_valid : (es : StagedPages) → IsStaged d p (state disk) touched es used settled is_spent
      → IsObservable (state disk) → is_spent ≡ false
      → IsTold state (staged_state state p draw disk es memo lookups is_spent)
  told_valid es is observable runs = record {
    disk = observable;
    runs = runs;
    valid = (is.counted observable runs).valid;
  }

  pub cell_done : (was : StagedState D W) → staged_state state p draw disk changes memo lookups is_spent ≡ was
      → IsCellInsert {T = Unit {0}} (pages_state state was)
      (pages_state state (staged_state state p draw disk next memo lookups is_spent)) l at cell (Ok tt)
  cell_done was view_is =
      subst (λ (x : StagedState D W). IsCellInsert {T = Unit {0}} (pages_state state x)
      (pages_state state (staged_state state p draw disk next memo lookups is_spent)) l at cell (Ok tt)) view_is
      (record {
        faults = refl;
        lookups = refl;
        hidden = λ told. told_valid changes staged told.disk told.runs;
        observed = λ told page found.
            let same = same_Some did.page page (sym (found_page told.disk told.runs) ∙ found) in
            record {
              observable = told_valid next cell_staged told.disk told.runs;
              changed = cell_map told.disk told.runs ∙ ap (λ (x : Page). with_page before (with_cell x at cell)) same;
              unchanged = tt;
            };
      })
