-- A walk over the pages of a group, from page to page, up to the first cell that fails a test.
use Rattle.std.proofs.Common.{◌≡◌, ◌⊎◌, inl, inr, ℕ, zero, suc, ◌+◌, ◌-◌, ◌*◌, ◌<◌, ◌≤◌, List, [], ◌∷◌, ◌++◌, length}
use Rattle.std.proofs.Common.{take, drop, Bool, true, false, not, cond, Option, Some, None, refl, sym, ap, subst, ◌∙◌}
use Rattle.std.proofs.Common.{arith, append_assoc, length-append}
use Rattle.std.specs.List.{AllByRecursion, find, prefix_len, take_while, slice_get}
use Rattle.std.proofs.lemmas.List.{take-append-drop, append-nil, take_all, drop-drop, drop_all, length-take}
use Rattle.store_model.specs.Labels.{Lead}
use Rattle.store_model.specs.Pages.{Cell, Page, page_room, group_pages}
use Rattle.store_model.proofs.ListsLemmas.{all_append}
use Rattle.node_pages.specs.LastPages.{pages_from, page_of_run}
use Rattle.node_pages.proofs.Runs.{all_pages, next_page, no_page}
use Rattle.skip_groups.specs.Floors.{last_of}

-- one element more
take_next : {X : Type 0} (xs : List X) (i : ℕ) (x : X) → slice_get xs i ≡ Some x → take (i + 1) xs ≡ take i xs ++ x ∷ []
take_next [] i x e = absurd (cc)
take_next {X = X} (y ∷ ys) zero x e = let same : (a b : X) → Some a ≡ Some b → a ≡ b = λ a b f. cc
    in ap (λ z. z ∷ []) (same y x e)
take_next (y ∷ ys) (suc i) x e = let next : suc i + 1 ≡ suc (i + 1) = omega arith
    in ap (λ n. take n (y ∷ ys)) next ∙ ap (λ rest. y ∷ rest) (take_next ys i x e)

-- ---- the last of some cells

last_of-push : (cells : List Cell) (cell : Cell) → last_of (cells ++ cell ∷ []) ≡ Some cell
unfolding last_of
last_of-push [] cell = refl
last_of-push (c ∷ []) cell = refl
last_of-push (c ∷ other ∷ cells) cell = last_of-push (other ∷ cells) cell

last_of-take : (front cells : List Cell) (n : ℕ) (cell : Cell) → slice_get cells n ≡ Some cell
    → last_of (front ++ take (n + 1) cells) ≡ Some cell
last_of-take front cells n cell at =
    ap (λ xs. last_of (front ++ xs)) (take_next cells n cell at)
    ∙ ap last_of (sym (append_assoc front (take n cells) (cell ∷ []))) ∙ last_of-push (front ++ take n cells) cell

-- ---- tests along a list

pub prefix_past : {X : Type 0} (p : X → Bool) (xs ys : List X) → AllByRecursion (λ x. p x ≡ true) xs
    → take_while p (xs ++ ys) ≡ xs ++ take_while p ys
prefix_past p [] ys h = refl
prefix_past p (x ∷ xs) ys h =
    ap (λ b. take (cond b (1 + prefix_len p (xs ++ ys)) 0) (x ∷ (xs ++ ys))) h.0
    ∙ (let more : 1 + prefix_len p (xs ++ ys) ≡ suc (prefix_len p (xs ++ ys)) = omega arith
    in ap (λ n. take n (x ∷ (xs ++ ys))) more)
    ∙ ap (λ rest. x ∷ rest) (prefix_past p xs ys h.1)

-- the first that fails stands behind what passes
pub fails_past : {X : Type 0} (p : X → Bool) (xs ys : List X) → AllByRecursion (λ x. p x ≡ true) xs
    → find (λ x. not (p x)) (xs ++ ys) ≡ find (λ x. not (p x)) ys
fails_past p [] ys h = refl
fails_past p (x ∷ xs) ys h = ap (λ b. cond (not b) (Some x) (find (λ y. not (p y)) (xs ++ ys))) h.0
    ∙ fails_past p xs ys h.1

-- and at the end of a prefix
fails_within : {X : Type 0} (p : X → Bool) (xs ys : List X) → prefix_len p xs < length xs
    → find (λ x. not (p x)) (xs ++ ys) ≡ slice_get xs (prefix_len p xs)
fails_within p [] ys below = absurd (omega arith)
fails_within p (x ∷ xs) ys below = by_test (p x) (λ less. fails_within p xs ys less) below
  where
    by_test : (b : Bool) → (prefix_len p xs < length xs
        → find (λ y. not (p y)) (xs ++ ys) ≡ slice_get xs (prefix_len p xs))
        → cond b (1 + prefix_len p xs) 0 < length (x ∷ xs)
        → cond (not b) (Some x) (find (λ y. not (p y)) (xs ++ ys)) ≡ slice_get (x ∷ xs) (cond b (1 + prefix_len p xs) 0)
    by_test true rest h =
        let fewer : suc (prefix_len p xs) ≡ 1 + prefix_len p xs = omega arith in
        rest (omega arith) ∙ ap (slice_get (x ∷ xs)) fewer
    by_test false rest h = refl

-- a list whose front has a prefix that ends within it
prefix_within : {X : Type 0} (p : X → Bool) (xs ys : List X) → prefix_len p xs < length xs
    → take_while p (xs ++ ys) ≡ take (prefix_len p xs) xs
prefix_within p [] ys below = absurd (omega arith)
prefix_within p (x ∷ xs) ys below = by_test (p x) (λ less. prefix_within p xs ys less) below
  where
    by_test : (b : Bool) → (prefix_len p xs < length xs → take_while p (xs ++ ys) ≡ take (prefix_len p xs) xs)
        → cond b (1 + prefix_len p xs) 0 < length (x ∷ xs)
        → take (cond b (1 + prefix_len p (xs ++ ys)) 0) (x ∷ (xs ++ ys))
        ≡ take (cond b (1 + prefix_len p xs) 0) (x ∷ xs)
    by_test true rest h =
        let more : 1 + prefix_len p (xs ++ ys) ≡ suc (prefix_len p (xs ++ ys)) = omega arith in
        let fewer : suc (prefix_len p xs) ≡ 1 + prefix_len p xs = omega arith in
        ap (λ n. take n (x ∷ (xs ++ ys))) more ∙ ap (λ zs. x ∷ zs) (rest (omega arith))
        ∙ ap (λ n. take n (x ∷ xs)) fewer
    by_test false rest h = refl

-- where nothing stands behind the front, its first that fails is that of the whole
fails_first : {X : Type 0} (p : X → Bool) (xs : List X) → find (λ x. not (p x)) xs ≡ slice_get xs (prefix_len p xs)
fails_first p [] = refl
fails_first p (x ∷ xs) = by_test (p x) (fails_first p xs)
  where
    by_test : (b : Bool) → find (λ y. not (p y)) xs ≡ slice_get xs (prefix_len p xs)
        → cond (not b) (Some x) (find (λ y. not (p y)) xs) ≡ slice_get (x ∷ xs) (cond b (1 + prefix_len p xs) 0)
    by_test true rest =
        let fewer : suc (prefix_len p xs) ≡ 1 + prefix_len p xs = omega arith in
        rest ∙ ap (slice_get (x ∷ xs)) fewer
    by_test false rest = refl

all_pass : {X : Type 0} (p : X → Bool) (xs : List X) → length xs ≤ prefix_len p xs → AllByRecursion (λ x. p x ≡ true) xs
all_pass p [] h = tt
all_pass p (x ∷ xs) h = by_test (p x) refl (λ more. all_pass p xs more) h
  where
    by_test : (b : Bool) → p x ≡ b → (length xs ≤ prefix_len p xs → AllByRecursion (λ y. p y ≡ true) xs)
        → length (x ∷ xs) ≤ cond b (1 + prefix_len p xs) 0 → (p x ≡ true) × AllByRecursion (λ y. p y ≡ true) xs
    by_test true e rest h = (e, rest (omega arith))
    by_test false e rest h = absurd (omega arith)

slice_get-drop : {X : Type 0} (xs : List X) (i : ℕ) → slice_get xs i ≡ slice_get (drop i xs) 0
slice_get-drop [] zero = refl
slice_get-drop [] (suc i) = refl
slice_get-drop (x ∷ xs) zero = refl
slice_get-drop (x ∷ xs) (suc i) = slice_get-drop xs i

pub some_at : {X : Type 0} (xs : List X) (i : ℕ) → i < length xs → (x : X) × (slice_get xs i ≡ Some x)
some_at [] i below = absurd (omega arith)
some_at (x ∷ xs) zero below = (x, refl)
some_at (x ∷ xs) (suc i) below = some_at xs i (omega arith)

-- the last cell so far, where so many cells of a run pass
last_after : (front run : List Cell) (count : ℕ) (last next : Option Cell) → count ≤ length run → last ≡ last_of front
    → (count ≡ 0 → next ≡ last) → (0 < count → next ≡ slice_get run (count - 1))
    → next ≡ last_of (front ++ take count run)
last_after front run zero last next within is none some = none refl ∙ is ∙ ap last_of (sym (append-nil front))
last_after front run (suc n) last next within is none some =
    let at = some_at run n (omega arith) in
    let before : suc n - 1 ≡ n = omega arith in
    let count : n + 1 ≡ suc n = omega arith in
    some (omega arith) ∙ ap (slice_get run) before ∙ at.1 ∙ sym (last_of-take front run n at.0 at.1)
    ∙ ap (λ k. last_of (front ++ take k run)) count

-- ---- the walk

module _ (p : Cell → Bool) (level : ℕ) (lead : Lead) (cells : List Cell) where
  -- So many pages of the group were read, and all their cells pass; this is the last of them.
  pub record Walked (index : ℕ) (last : Option Cell) : Type 0 where
    pub front : List Cell
    pub rest : List Cell
    pub whole : cells ≡ front ++ rest
    pub passes : AllByRecursion (λ cell. p cell ≡ true) front
    pub pages : drop index (group_pages level lead cells) ≡ pages_from level lead index rest
    pub full : page_room level * index ≤ length front
    pub last_is : last ≡ last_of front

  pub walk_start : Walked 0 None
  unfolding last_of
  walk_start = record {
    front = [];
    rest = cells;
    whole = refl;
    passes = tt;
    pages = sym (all_pages level lead cells);
    full = omega arith;
    last_is = refl;
  }

  -- what stands next to the first cell that fails
  pub record Ends (floor after : Option Cell) : Type 0 where
    pub floor_is : floor ≡ last_of (take_while p cells)
    pub after_is : after ≡ find (λ c. not (p c)) cells

  -- the page at the walk's place
  first_of : (index : ℕ) (last : Option Cell) (w : Walked index last)
      → slice_get (group_pages level lead cells) index ≡ slice_get (pages_from level lead index w.rest) 0
  first_of index last w = slice_get-drop (group_pages level lead cells) index ∙ ap (λ ps. slice_get ps 0) w.pages

  -- there is no page: the walk has seen all cells
  no_rest : (index : ℕ) (last : Option Cell) (w : Walked index last)
      → slice_get (group_pages level lead cells) index ≡ None → w.rest ≡ []
  no_rest index last w none = at_end w.rest refl
    where
      at_end : (rest : List Cell) → w.rest ≡ rest → w.rest ≡ []
      at_end [] e = e
      at_end (x ∷ r) e =
          let is = sym none ∙ first_of index last w
          ∙ ap (λ ps. slice_get ps 0) (ap (pages_from level lead index) e
          ∙ next_page level lead index (x ∷ r) (omega arith)) in
          absurd (cc)

  pub walk_none : (index : ℕ) (last : Option Cell) → Walked index last
      → slice_get (group_pages level lead cells) index ≡ None → Ends last None
  walk_none index last w none =
      let all : cells ≡ w.front ++ [] = w.whole ∙ ap (λ r. w.front ++ r) (no_rest index last w none) in
      record {
        floor_is = w.last_is ∙ ap last_of
            (sym (ap (take_while p) all ∙ prefix_past p w.front [] w.passes ∙ append-nil w.front));
        after_is = sym (ap (find (λ c. not (p c))) all ∙ fails_past p w.front [] w.passes);
      }

  -- the page of the run at the walk's place
  record AtPage (index : ℕ) (rest : List Cell) (page : Page) : Type 0 where
    some : 1 ≤ length rest
    cells_are : page.cells ≡ take (page_room level) rest

  at_page : (index : ℕ) (last : Option Cell) (page : Page) (w : Walked index last)
      → slice_get (group_pages level lead cells) index ≡ Some page → AtPage index w.rest page
  at_page index last page w at = by_rest w.rest (sym (first_of index last w) ∙ at)
    where
      by_rest : (rest : List Cell) → slice_get (pages_from level lead index rest) 0 ≡ Some page → AtPage index rest page
      by_rest [] is = let none = ap (λ ps. slice_get ps 0) (no_page level lead index [] refl) in absurd (cc)
      by_rest (x ∷ r) is =
          let first = ap (λ ps. slice_get ps 0) (next_page level lead index (x ∷ r) (omega arith)) in
          record {
            some = omega arith;
            cells_are = same_cells (page_of_run level lead index (take (page_room level) (x ∷ r)))
                page (sym first ∙ is);
          }
        where
          same_cells : (a b : Page) → Some a ≡ Some b → b.cells ≡ a.cells
          same_cells a b e = let same : a ≡ b = cc in ap (λ (q : Page). q.cells) (sym same)

  -- the cells from the walk's place on
  split_rest : (index : ℕ) (last : Option Cell) (page : Page) (w : Walked index last) → AtPage index w.rest page
      → w.rest ≡ page.cells ++ drop (page_room level) w.rest
  split_rest index last page w at = sym (take-append-drop (page_room level) w.rest)
      ∙ ap (λ run. run ++ drop (page_room level) w.rest) (sym at.cells_are)

  -- the walk ends in a page of which a cell fails, and in one with room, behind which there is no cell
  abbrev pub IsEnd : Page → ℕ → Type 0
  IsEnd page count = (count < length page.cells) ⊎ (length page.cells < page_room level)

  record EndsHere (page : Page) (count : ℕ) (behind : List Cell) : Type 0 where
    passing : take_while p (page.cells ++ behind) ≡ take count page.cells
    failing : find (λ c. not (p c)) (page.cells ++ behind) ≡ slice_get page.cells count

  ends_here : (index : ℕ) (page : Page) (count : ℕ) (rest : List Cell) → AtPage index rest page
      → count ≡ prefix_len p page.cells → IsEnd page count → EndsHere page count (drop (page_room level) rest)
  ends_here index page count rest at counted (inl below) =
      let within = subst (λ n. n < length page.cells) counted below in
      record {
        passing = prefix_within p page.cells (drop (page_room level) rest) within
            ∙ ap (λ n. take n page.cells) (sym counted);
        failing = fails_within p page.cells (drop (page_room level) rest) within
            ∙ ap (slice_get page.cells) (sym counted);
      }
  ends_here index page count rest at counted (inr short) =
      let none : drop (page_room level) rest ≡ [] =
      drop_all (page_room level) rest (omega (arith, ap length at.cells_are, length-take (page_room level) rest)) in
      let alone : page.cells ++ drop (page_room level) rest ≡ page.cells =
      ap (λ xs. page.cells ++ xs) none ∙ append-nil page.cells in
      record {
        passing = ap (take_while p) alone ∙ ap (λ n. take n page.cells) (sym counted);
        failing = ap (find (λ c. not (p c))) alone ∙ fails_first p page.cells ∙ ap (slice_get page.cells) (sym counted);
      }

  pub walk_stop : (index : ℕ) (last next after : Option Cell) (page : Page) (count : ℕ) → Walked index last
      → slice_get (group_pages level lead cells) index ≡ Some page → count ≡ prefix_len p page.cells
      → count ≤ length page.cells → IsEnd page count
      → (count ≡ 0 → next ≡ last) → (0 < count → next ≡ slice_get page.cells (count - 1))
      → after ≡ slice_get page.cells count → Ends next after
  walk_stop index last next after page count w at counted within end none some is =
      let run = at_page index last page w at in
      let behind = drop (page_room level) w.rest in
      let here = ends_here index page count w.rest run counted end in
      let all : cells ≡ w.front ++ (page.cells ++ behind) =
      w.whole ∙ ap (λ r. w.front ++ r) (split_rest index last page w run) in
      let prefix : take_while p cells ≡ w.front ++ take count page.cells =
      ap (take_while p) all ∙ prefix_past p w.front (page.cells ++ behind) w.passes
      ∙ ap (λ r. w.front ++ r) here.passing in
      record {
        floor_is = last_after w.front page.cells count last next within w.last_is none some ∙ ap last_of (sym prefix);
        after_is = is ∙ sym (ap (find (λ c. not (p c))) all
            ∙ fails_past p w.front (page.cells ++ behind) w.passes ∙ here.failing);
      }

  -- all cells of a full page pass: the walk goes on
  pub walk_on : (index : ℕ) (last next : Option Cell) (page : Page) (count : ℕ) → Walked index last
      → slice_get (group_pages level lead cells) index ≡ Some page → count ≡ prefix_len p page.cells
      → count ≤ length page.cells → length page.cells ≤ count → page_room level ≤ length page.cells
      → (count ≡ 0 → next ≡ last) → (0 < count → next ≡ slice_get page.cells (count - 1)) → Walked (index + 1) next
  walk_on index last next page count w at counted within all whole_page none some =
      let run = at_page index last page w at in
      record {
        front = w.front ++ page.cells;
        rest = drop (page_room level) w.rest;
        whole = w.whole ∙ ap (λ r. w.front ++ r) (split_rest index last page w run)
            ∙ sym (append_assoc w.front page.cells (drop (page_room level) w.rest));
        passes = all_append (λ cell. p cell ≡ true)
            w.front page.cells w.passes (all_pass p page.cells (subst (λ n. length page.cells ≤ n) counted all));
        pages = next_pages run.some;
        full = let f = w.full in omega (arith, length-append w.front page.cells);
        last_is = last_after w.front page.cells count last next within w.last_is none some
            ∙ ap (λ xs. last_of (w.front ++ xs)) (take_all count page.cells all);
      }
    where
      next_pages : 1 ≤ length w.rest → drop (index + 1) (group_pages level lead cells)
          ≡ pages_from level lead (index + 1) (drop (page_room level) w.rest)
      next_pages more = sym (drop-drop 1 index (group_pages level lead cells))
          ∙ ap (drop 1) (w.pages ∙ next_page level lead index w.rest more)

-- ---- the first page of a group of level 0

-- it has the group's first cell
pub first_cell : (lead : Lead) (cells : List Cell) (page : Page) → slice_get (group_pages 0 lead cells) 0 ≡ Some page
    → slice_get page.cells 0 ≡ slice_get cells 0
unfolding walk_start
first_cell lead cells page at =
    let every = λ (c : Cell). true in
    ap (λ xs. slice_get xs 0) (at_page every 0 lead cells 0 None page (walk_start every 0 lead cells) at).cells_are
    ∙ front cells
  where
    front : (xs : List Cell) → slice_get (take 10 xs) 0 ≡ slice_get xs 0
    front [] = refl
    front (x ∷ xs) = refl

-- where there is none, there is no cell
pub no_first_cell : (lead : Lead) (cells : List Cell) → slice_get (group_pages 0 lead cells) 0 ≡ None → cells ≡ []
unfolding walk_start
no_first_cell lead cells none = let every = λ (c : Cell). true
    in no_rest every 0 lead cells 0 None (walk_start every 0 lead cells) none
