-- A walk over the pages of one group, page after page, whatever is made of them.
use Rattle.std.proofs.Common.{◌≡◌, ℕ, ◌+◌, ◌*◌, ◌<◌, ◌≤◌, List, length, Option, Some, Result, Ok, Err, refl, sym, ap}
use Rattle.std.proofs.Common.{◌∙◌, arith}
use Rattle.std.specs.List.{slice_get}
use Rattle.store_base.specs.declared.store_fault.Fault.{Fault}
use Rattle.store_base.specs.Faults.{disk_faults_after}
use Rattle.store_model.specs.Labels.{Lead}
use Rattle.store_model.specs.Pages.{Cell, Page, page_room, group_pages}
use Rattle.store_model.specs.PageMaps.{page_at}
use Rattle.node_pages.specs.PagesState.{PagesState, IsObservable, GetsPage, IsPageGet, most_pages}
use Rattle.skip_groups.specs.Groups.{HoldsGroup, label_of}
use Rattle.skip_groups.specs.Searches.{IsGroupWalk}
use Rattle.skip_groups.proofs.GroupEnds.{full_page, cost_of_full, some_cells}
use Rattle.store_base.specs.declared.store_fault.Fault.TheVariants.{Disk, NoMemory}

-- a call that fails counts the same, whatever it would have answered
pub same_count : (S T : Type 0) (count : ℕ) (f : Fault)
    → disk_faults_after {T = S} count (Err f) ≡ disk_faults_after {T = T} count (Err f)
same_count S T count Disk = refl
same_count S T count NoMemory = refl

module _ (old : PagesState) (level : ℕ) (lead : Lead) where
  -- what is known of observable pages on the way
  pub record Passes (now : PagesState) (index : ℕ) (IsSeen : List Cell → Type 0) : Type 0 where
    pub observable : IsObservable now
    pub unchanged : now.pages ≡ old.pages
    pub lookups : now.lookups ≤ old.lookups + index
    pub full : (cells : List Cell) → HoldsGroup old.pages level lead cells → page_room level * index ≤ length cells
    pub seen : (cells : List Cell) → HoldsGroup old.pages level lead cells → IsSeen cells

  -- so many full pages were asked for
  pub record WalksTo (now : PagesState) (index : ℕ) (IsSeen : List Cell → Type 0) : Type 0 where
    pub faults : now.faults ≡ old.faults
    pub lookups_kept : old.lookups ≤ now.lookups
    pub hidden : IsObservable now → IsObservable old
    pub observed : IsObservable old → Passes now index IsSeen

pub begins : {old : PagesState} {level : ℕ} {lead : Lead} {IsSeen : List Cell → Type 0}
    → ((cells : List Cell) → IsSeen cells) → WalksTo old level lead old 0 IsSeen
begins seen = record {
  faults = refl;
  lookups_kept = omega arith;
  hidden = λ o. o;
  observed = λ o. record {
    observable = o;
    unchanged = refl;
    lookups = omega arith;
    full = λ cells holds. omega arith;
    seen = λ cells holds. seen cells;
  };
}

-- what stands under the label
found_page : {old now : PagesState} {level : ℕ} {lead : Lead} {index : ℕ} {IsSeen : List Cell → Type 0}
    → Passes old level lead now index IsSeen → (cells : List Cell) (page : Option Page)
    → HoldsGroup old.pages level lead cells → index < 4294967296
    → page ≡ page_at now.pages (label_of level lead index) → slice_get (group_pages level lead cells) index ≡ page
found_page {level = level} {lead = lead} {index = index} s cells page holds below is =
    sym (is ∙ ap (λ m. page_at m (label_of level lead index)) s.unchanged ∙ holds.each index below)

module _ {old now next : PagesState} {level : ℕ} {lead : Lead} {index : ℕ} {IsSeen : List Cell → Type 0}
    (w : WalksTo old level lead now index IsSeen) where
  -- one call more, at which the walk ends
  ends_with : {T : Type 0} (given : Result (Option Page) Fault) (result : Result T Fault)
      (IsFound : List Cell → Type 0) → disk_faults_after old.faults given ≡ disk_faults_after old.faults result
      → IsPageGet now next (label_of level lead index) given
      → (Passes old level lead now index IsSeen → GetsPage now next (label_of level lead index) given
      → (cells : List Cell) → HoldsGroup old.pages level lead cells → IsFound cells)
      → IsGroupWalk old next level lead IsFound result
  ends_with given result IsFound same get found = record {
    faults = get.faults ∙ ap (λ n. disk_faults_after n given) w.faults ∙ same;
    lookups_kept = omega (arith, get.lookups_kept, w.lookups_kept);
    hidden = λ o. w.hidden (get.hidden o);
    observed = λ o. let s = w.observed o in let g = get.observed s.observable in record {
      observable = g.observable;
      unchanged = g.unchanged ∙ s.unchanged;
      found = λ cells holds few. found s g cells holds;
      lookups = λ cells holds.
          omega (arith, get.lookups_most, s.lookups, cost_of_full level index cells (s.full cells holds));
    };
  }

  -- with a fault
  pub fails : {T : Type 0} {fault : Fault} → IsPageGet now next (label_of level lead index) (Err fault)
      → IsGroupWalk {T = T} old next level lead (λ cells. Unit {0}) (Err fault)
  fails {T} {fault} get = ends_with (Err fault) (Err fault) (λ cells. Unit {0})
      (same_count (Option Page) T old.faults fault) get (λ s g cells holds. tt)

  -- memory ran out for what was found
  pub lacks_memory : {T : Type 0} {page : Option Page} → IsPageGet now next (label_of level lead index) (Ok page)
      → IsGroupWalk {T = T} old next level lead (λ cells. Unit {0}) (Err NoMemory)
  lacks_memory {page = page} get =
      ends_with (Ok page) (Err NoMemory) (λ cells. Unit {0}) refl get (λ s g cells holds. tt)

  -- with an answer
  pub ends : {T : Type 0} {page : Option Page} {value : T} (IsFound : List Cell → Type 0) → index < 4294967296
      → IsPageGet now next (label_of level lead index) (Ok page)
      → ((cells : List Cell) → IsSeen cells → slice_get (group_pages level lead cells) index ≡ page → IsFound cells)
      → IsGroupWalk old next level lead IsFound (Ok value)
  ends {page = page} {value = value} IsFound below get found =
      ends_with (Ok page) (Ok value) IsFound refl get
      (λ s g cells holds. found cells (s.seen cells holds) (found_page s cells page holds below g.found))

  -- and where the page is full, the walk goes on
  pub goes_on : {page : Page} {IsNext : List Cell → Type 0} → page_room level ≤ length page.cells → index < 4294967296
      → IsPageGet now next (label_of level lead index) (Ok (Some page))
      → ((cells : List Cell) → IsSeen cells → slice_get (group_pages level lead cells) index ≡ Some page
      → IsNext cells) → WalksTo old level lead next (index + 1) IsNext
  goes_on {page = page} whole below get seen = record {
    faults = get.faults ∙ w.faults;
    lookups_kept = omega (arith, get.lookups_kept, w.lookups_kept);
    hidden = λ o. w.hidden (get.hidden o);
    observed = λ o. let s = w.observed o in let g = get.observed s.observable in record {
      observable = g.observable;
      unchanged = g.unchanged ∙ s.unchanged;
      lookups = omega (arith, s.lookups, get.lookups_most);
      full = λ cells holds. full_page level lead index cells page (found_page s cells (Some page) holds below g.found)
          whole (s.full cells holds);
      seen = λ cells holds. seen cells (s.seen cells holds) (found_page s cells (Some page) holds below g.found);
    };
  }

-- a group of fewer cells ends before
pub is_over : {T : Type 0} {old now : PagesState} {level : ℕ} {lead : Lead} {index : ℕ} {IsSeen : List Cell → Type 0}
    {value : T} {IsFound : List Cell → Type 0} → WalksTo old level lead now index IsSeen → most_pages ≤ index
    → IsGroupWalk old now level lead IsFound (Ok value)
is_over {level = level} {index = index} w far = record {
  faults = w.faults;
  lookups_kept = w.lookups_kept;
  hidden = w.hidden;
  observed = λ o. let s = w.observed o in record {
    observable = s.observable;
    unchanged = s.unchanged;
    found = λ cells holds few. absurd (omega (arith, some_cells level index (length cells) (s.full cells holds)));
    lookups = λ cells holds. omega (arith, s.lookups, cost_of_full level index cells (s.full cells holds));
  };
}
