-- A group that is read up to a key, page by page.
use Rattle.std.proofs.Common.{◌≡◌, inl, inr, ℕ, zero, suc, ◌+◌, ◌-◌, ◌*◌, ◌<◌, ◌≤◌, min, List, [], ◌∷◌, ◌++◌, length}
use Rattle.std.proofs.Common.{true, false, cond, ◌==◌, Option, Some, None, Result, Ok, refl, sym, ap, subst}
use Rattle.std.proofs.Common.{◌∙◌, arith}
use Rattle.std.specs.List.{slice_get, AllByRecursion}
use Rattle.std.specs.Option.{IfSome}
use Rattle.std.specs.Ordering.{is_lt}
use Rattle.std.proofs.lemmas.Bool.{cases_lt}
use Rattle.store_base.specs.declared.store_fault.Fault.{Fault}
use Rattle.store_base.specs.declared.label.Lead as declared
use Rattle.store_base.specs.Leads.{model_lead}
use Rattle.store_model.specs.Paths.{key_cmp}
use Rattle.store_model.specs.Labels.{Lead}
use Rattle.store_model.specs.Pages.{Cell, Page, page_room, group_pages}
use Rattle.node_pages.specs.PagesState.{PagesState, IsPageGet, most_pages}
use Rattle.node_pages.proofs.Runs.{all_pages}
use Rattle.skip_groups.specs.Floors.{last_of, lead_from}
use Rattle.skip_groups.specs.Groups.{label_of}
use Rattle.skip_groups.specs.Searches.{IsGroupWalk}
use Rattle.skip_groups.proofs.GroupEnds.{within_room}
use Rattle.skip_groups.proofs.GroupSteps.{WalksTo, begins, ends, goes_on}
use Rattle.skip_groups.proofs.Walks.{some_at}
use Rattle.pair_stream.specs.GroupReads.{cell_in}
use Rattle.pair_stream.specs.Starts.{is_below, IsBelow, IsCountBelow, last_before, IsReadBelow}
use Rattle.pair_stream.proofs.GroupCells.{cell_of_run}

-- ---- cells below a key, in front

-- by the key that was read of a cell
key_is_below : (key k : List ℕ) (cells : List Cell) (at : ℕ) → at < length cells
    → IfSome (slice_get cells at) (λ cell. cell.key ≡ k) → is_lt (key_cmp k key) ≡ true → IsBelow key (slice_get cells
    at)
key_is_below key k cells at within has less =
    let cell = some_at cells at within in
    let same : cell.0.key ≡ k = subst (λ o. IfSome o (λ c. c.key ≡ k)) cell.1 has in
    subst (IsBelow key) (sym cell.1) (ap (λ x. is_lt (key_cmp x key)) same ∙ less)

pub key_not_below : (key k : List ℕ) (cells : List Cell) (at : ℕ) → at < length cells
    → IfSome (slice_get cells at) (λ cell. cell.key ≡ k) → is_lt (key_cmp k key) ≡ false
    → IfSome (slice_get cells at) (λ cell. is_below key cell ≡ false)
key_not_below key k cells at within has not_less =
    let cell = some_at cells at within in
    let same : cell.0.key ≡ k = subst (λ o. IfSome o (λ c. c.key ≡ k)) cell.1 has in
    subst (λ o. IfSome o (λ c. is_below key c ≡ false)) (sym cell.1) (ap (λ x. is_lt (key_cmp x key)) same ∙ not_less)

pub one_more_below : (key k : List ℕ) (cells : List Cell) (at : ℕ) → at < length cells
    → IfSome (slice_get cells at) (λ cell. cell.key ≡ k) → is_lt (key_cmp k key) ≡ true
    → ((i : ℕ) → i < at → IsBelow key (slice_get cells i)) → (i : ℕ) → i < at + 1 → IsBelow key (slice_get cells i)
one_more_below key k cells at within has less each i before =
    elim (cases_lt i at) as (λ c. IsBelow key (slice_get cells i)) [
      | inl lower ↦ each i lower
      | inr here ↦
          let same : at ≡ i = omega arith in
          subst (λ j. IsBelow key (slice_get cells j)) same (key_is_below key k cells at within has less)
    ]

below_within : (key : List ℕ) (cells : List Cell) (n : ℕ)
    → ((i : ℕ) → i < n → IsBelow key (slice_get cells i)) → n ≤ length cells
below_within key cells zero each = omega arith
below_within key [] (suc n) each = absurd (each 0 (omega arith))
below_within key (c ∷ cells) (suc n) each =
    let rest = below_within key cells n (λ i less. each (suc i) (omega arith)) in omega arith

-- where cells below the key stand in front of others, these are they
pub count_is : (key : List ℕ) (front others : List Cell) (n : ℕ)
    → AllByRecursion (λ c. is_below key c ≡ true) front → AllByRecursion (λ c. is_below key c ≡ false) others
    → ((i : ℕ) → i < n → IsBelow key (slice_get (front ++ others) i))
    → IfSome (slice_get (front ++ others) n) (λ c. is_below key c ≡ false) → n ≡ length front
count_is key [] others zero passes fails each next = refl
count_is key [] [] (suc n) passes fails each next = absurd (each 0 (omega arith))
count_is key [] (c ∷ others) (suc n) passes fails each next =
    let wrong : true ≡ false = sym (each 0 (omega arith)) ∙ fails.0 in absurd (cc)
count_is key (c ∷ front) others zero passes fails each next =
    let wrong : true ≡ false = sym passes.0 ∙ next in absurd (cc)
count_is key (c ∷ front) others (suc n) passes fails each next =
    ap suc (count_is key front others n passes.1 fails (λ i less. each (suc i) (omega arith)) next)

-- and the last of them is the last in front
pub last_is : (front others : List Cell) → last_before (front ++ others) (length front) ≡ last_of front
unfolding last_of
last_is [] others = refl
last_is (c ∷ []) others = refl
last_is (c ∷ other ∷ front) others = last_is (other ∷ front) others

-- ---- the pages of a group

some_room : (level : ℕ) → 0 < page_room level
some_room level = elim (level == 0) as (λ b. 0 < cond b 10 31) [ true ↦ omega arith | false ↦ omega arith ]

module _ (level : ℕ) (lead : Lead) (key : List ℕ) (cells : List Cell) where
  -- all cells of so many full pages are below the key, and this leads the next lower group behind them
  pub record PassesPages (index : ℕ) (next : declared.Lead) : Type 0 where
    pub each : (i : ℕ) → i < page_room level * index → IsBelow key (slice_get cells i)
    pub next_is : model_lead next ≡ lead_from (last_before cells (page_room level * index)) lead

  pub passes_none : (next : declared.Lead) → model_lead next ≡ lead → PassesPages 0 next
  passes_none next is =
      let none : page_room level * 0 ≡ 0 = omega arith in
      record {
        each = λ i less. absurd (omega arith);
        next_is = is ∙ ap (λ n. lead_from (last_before cells n) lead) (sym none);
      }

  -- the cells of a page are those of the group
  in_page : (index : ℕ) (page : Option Page) → slice_get (group_pages level lead cells) index ≡ page → (at : ℕ)
      → at < page_room level → cell_in page at ≡ slice_get cells (page_room level * index + at)
  in_page index page is at within =
      ap (λ o. cell_in o at) (sym is) ∙ ap (λ ps. cell_in (slice_get ps index) at) (sym (all_pages level lead cells))
      ∙ cell_of_run level lead 0 index at cells within

  -- no page is there: the group has ended
  pub read_to_end : (index : ℕ) (next : declared.Lead) → PassesPages index next
      → slice_get (group_pages level lead cells) index ≡ None
      → IsReadBelow lead key cells (page_room level * index, next)
  read_to_end index next w none =
      let start : page_room level * index + 0 ≡ page_room level * index = omega arith in
      let past : None ≡ slice_get cells (page_room level * index) =
      in_page index None none 0 (some_room level) ∙ ap (slice_get cells) start in
      record {
        count = record {
          within = below_within key cells (page_room level * index) w.each;
          each = w.each;
          next = subst (λ o. IfSome o (λ c. is_below key c ≡ false)) past tt;
        };
        next = w.next_is;
      }

  -- so many cells of a page are below the key
  module _ (index : ℕ) (next : declared.Lead) (page : Page) (count : ℕ) (w : PassesPages index next)
      (is : slice_get (group_pages level lead cells) index ≡ Some page) (c : IsCountBelow key page.cells count) where
    each_so_far : (i : ℕ) → i < page_room level * index + count → IsBelow key (slice_get cells i)
    each_so_far i less = elim (cases_lt i (page_room level * index)) as (λ k. IsBelow key (slice_get cells i)) [
      | inl low ↦ w.each i low
      | inr high ↦
          let at = i - page_room level * index in
          let place : page_room level * index + (i - page_room level * index) ≡ i = omega arith in
          subst (IsBelow key) (in_page index (Some page) is at
          (omega (arith, c.within, within_room level lead index cells page is)) ∙ ap (slice_get cells) place)
          (c.each at (omega arith))
    ]

    lead_so_far : (l : Lead) → l ≡ lead_from (last_before page.cells count) (model_lead next)
        → l ≡ lead_from (last_before cells (page_room level * index + count)) lead
    lead_so_far l led = by_count count led c.within
      where
        by_count : (n : ℕ) → l ≡ lead_from (last_before page.cells n) (model_lead next) → n ≤ length page.cells
            → l ≡ lead_from (last_before cells (page_room level * index + n)) lead
        by_count zero led within =
            let none : page_room level * index + 0 ≡ page_room level * index = omega arith in
            led ∙ w.next_is ∙ ap (λ n. lead_from (last_before cells n) lead) (sym none)
        by_count (suc m) led within =
            let cell = some_at page.cells m (omega arith) in
            let place : page_room level * index + suc m ≡ suc (page_room level * index + m) = omega arith in
            let same = in_page index (Some page) is m (omega (arith, within_room level lead index cells page is)) in
            led ∙ ap (λ o. lead_from o (model_lead next)) cell.1
            ∙ sym (ap (λ n. lead_from (last_before cells n) lead) place
            ∙ ap (λ o. lead_from o lead) (sym same ∙ cell.1))

    -- the page ends the walk
    pub read_in_page : (after : declared.Lead)
        → model_lead after ≡ lead_from (last_before page.cells count) (model_lead next)
        → count < page_room level → IsReadBelow lead key cells (page_room level * index + count, after)
    read_in_page after led short =
        record {
          count = record {
            within = below_within key cells (page_room level * index + count) each_so_far;
            each = each_so_far;
            next = subst (λ o. IfSome o (λ c. is_below key c ≡ false)) (in_page index (Some page) is count short)
                c.next;
          };
          next = lead_so_far (model_lead after) led;
        }

    -- all its cells are below the key, and it is full
    pub passes_page : (after : declared.Lead)
        → model_lead after ≡ lead_from (last_before page.cells count) (model_lead next)
        → page_room level ≤ count → PassesPages (index + 1) after
    passes_page after led all =
        let whole : page_room level * (index + 1) ≡ page_room level * index + count =
        omega (arith, c.within, within_room level lead index cells page is) in
        record {
          each = λ i less. each_so_far i (omega (arith, whole));
          next_is = lead_so_far (model_lead after) led
              ∙ ap (λ n. lead_from (last_before cells n) lead) (sym whole);
        }

-- ---- the walk

-- what is found in few cells
with_few : {T : Type 0} {old new : PagesState} {level : ℕ} {lead : Lead} {IsFound : List Cell → Type 0}
    {result : Result T Fault} → IsGroupWalk old new level lead (λ cells. length cells < most_pages → IsFound cells)
    result
    → IsGroupWalk old new level lead IsFound result
with_few h = record {
  faults = h.faults;
  lookups_kept = h.lookups_kept;
  hidden = h.hidden;
  observed = λ o. let g = h.observed o in record {
    observable = g.observable;
    unchanged = g.unchanged;
    found = λ cells holds few. g.found cells holds few few;
    lookups = g.lookups;
  };
}

-- the counts that are computed
pub told_pages : (room r index told : ℕ) → r ≡ room → told ≡ min (r * index) 4294967295
    → room * index < most_pages → told ≡ room * index
told_pages room r index told same is few =
    let all : r * index ≡ room * index = ap (λ n. n * index) same in omega (arith, is, all, few)

pub told_cells : (room r index pages count told : ℕ) → r ≡ room → pages ≡ min (r * index) 4294967295
    → told ≡ min (pages + count) 4294967295 → room * index + count < most_pages → told ≡ room * index + count
told_cells room r index pages count told same pages_is is few =
    let all : r * index ≡ room * index = ap (λ n. n * index) same in omega (arith, is, pages_is, all, few)

-- so many pages were read
abbrev pub Walks : PagesState → ℕ → Lead → List ℕ → PagesState → ℕ → declared.Lead → Type 0
Walks old level lead key now index next =
    WalksTo old level lead now index (λ cells. PassesPages level lead key cells index next)

pub walks_start : {old : PagesState} {level : ℕ} {lead : Lead} {key : List ℕ} {next : declared.Lead}
    → model_lead next ≡ lead → Walks old level lead key old 0 next
walks_start {level = level} {lead = lead} {key = key} {next = next} is =
    begins (λ cells. passes_none level lead key cells next is)

-- the count that a call answers is the one that was read
told_read : {lead : Lead} {key : List ℕ} {cells : List Cell} {next : declared.Lead} (n told : ℕ)
    → (n < most_pages → told ≡ n) → length cells < most_pages → IsReadBelow lead key cells (n, next)
    → IsReadBelow lead key cells (told, next)
told_read {lead} {key} {cells} {next} n told same few read =
    let within : n < most_pages = omega (arith, read.count.within) in
    subst (λ k. IsReadBelow lead key cells (k, next)) (sym (same within)) read

module _ {old now new : PagesState} {level : ℕ} {lead : Lead} {key : List ℕ} {index : ℕ} {next : declared.Lead}
    (w : Walks old level lead key now index next) (below : index < 4294967296) where
  -- there is no page more
  pub walk_ends : (told : ℕ) → (page_room level * index < most_pages → told ≡ page_room level * index)
      → IsPageGet now new (label_of level lead index) (Ok None)
      → IsGroupWalk {T = ℕ × declared.Lead} old new level lead
      (λ cells. IsReadBelow lead key cells (told, next)) (Ok (told, next))
  walk_ends told same get = with_few (ends w (λ cells. length cells < most_pages → IsReadBelow lead key cells (
    told,
    next,
  ))
      below get
      (λ cells passed here few. told_read (page_room level * index) told same few
      (read_to_end level lead key cells index next passed here)))

  module _ {page : Page} {count : ℕ} {after : declared.Lead}
      (get : IsPageGet now new (label_of level lead index) (Ok (Some page))) (c : IsCountBelow key page.cells count)
      (led : model_lead after ≡ lead_from (last_before page.cells count) (model_lead next)) where
    pub walk_stops : (told : ℕ)
        → (page_room level * index + count < most_pages → told ≡ page_room level * index + count)
        → count < page_room level
        → IsGroupWalk {T = ℕ × declared.Lead} old new level lead
        (λ cells. IsReadBelow lead key cells (told, after)) (Ok (told, after))
    walk_stops told same end =
        with_few (ends w (λ cells. length cells < most_pages → IsReadBelow lead key cells (told, after)) below get
        (λ cells passed here few. told_read (page_room level * index + count) told same few
        (read_in_page level lead key cells index next page count passed here c after led end)))

    pub walk_goes_on : page_room level ≤ count → Walks old level lead key new (index + 1) after
    walk_goes_on all = goes_on w (omega (arith, c.within)) below get (λ cells passed here.
        passes_page level lead key cells index next page count passed here c after led all)
