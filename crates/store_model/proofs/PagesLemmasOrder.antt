-- Lemmas on the pages of a list of pairs: they come in the order of their labels.
use Rattle.std.proofs.Common.{◌≡◌, ℕ, suc, ◌<◌, ◌≤◌, List, [], ◌∷◌, map, length, drop, refl, sym, ap, ap₂, subst, ◌∙◌}
use Rattle.std.proofs.Common.{cond, arith, Bool, true, false, IsTrue, nat_le, ◌==◌, Some, None, Ordering, Less, nat_cmp}
use Rattle.std.specs.Ordering.{ordering_then, eq_by_cmp}
use Rattle.std.specs.List.{AllByRecursion, filter, enumerate_from, IsDistinct}
use Rattle.std.specs.List.Sorted.{IsStrictlySortedBy}
use Rattle.std.specs.FinMap.{is_sorted}
use Rattle.std.specs.Cmp.{tied_itself}
use Rattle.std.specs.Cmp.Lexicographic.{slice_cmp, nat_list_cmp_total}
use Rattle.std.specs.Int.{w32, to_be_bytes}
use Rattle.std.proofs.lemmas.List.{length-map}
use Rattle.std.proofs.lemmas.Map.Keys.{IsDistinct-from_sorted}
use Rattle.std.proofs.lemmas.List.Kept.{IsStrictlySortedBy-filter}
use Rattle.store_model.specs.Lists.{runs, run_count, cut_before, onto_part, numbers_below}
use Rattle.store_model.specs.Paths.{key_cmp}
use Rattle.store_model.specs.Labels.{Lead, Label, lead_bytes, label_bytes, label_cmp}
use Rattle.store_model.specs.Labels.Lead.{Start, Leader}
use Rattle.store_model.specs.Draws.{Draw}
use Rattle.store_model.specs.Pairs.{Pair}
use Rattle.store_model.specs.Pages.{Cell, Page, page_room, cell_on, level_list, leads_group, groups, lead_of}
use Rattle.store_model.specs.Pages.{group_pages, level_pages, pages_of_pairs}
use Rattle.store_model.specs.Placement.{page_cmp}
use Rattle.store_model.proofs.ListsLemmas.{slice_cmp-append, be_bytes_order, nat_cmp-eq, nat_cmp-lt, all_none}
use Rattle.store_model.proofs.ListsLemmas.{all_weaker, all_with, all_map, all_flat_map, all_filter, IsBelow, rising_nil}
use Rattle.store_model.proofs.ListsLemmas.{rising_head, rising_tail, rising_cons, rising_map, rising_flat_map}
use Rattle.store_model.proofs.ListsLemmas.{rising_from_map, rising_to_map, rising_from_is_sorted, numbers_in_range}
use Rattle.store_model.proofs.ListsLemmas.{numbers_rise, less_from_nat_cmp, length-runs, rising_numbers_from}
use Rattle.store_model.proofs.ListsLemmasCuts.{flat_map-cut_before, all_parts, length_of_parts, length-filter-le}
use Rattle.store_model.proofs.PairsLemmas.{pair_cmp}

-- a leader has the length of a key
abbrev pub HasKeyLength : Lead → Type 0
HasKeyLength Start = Unit {0}
HasKeyLength (Leader k) = length k ≡ 124

-- the bytes of what leads a group: one and those of a key
length-lead_bytes : (lead : Lead) → HasKeyLength lead → length (lead_bytes lead) ≡ 125
length-lead_bytes Start h = refl
length-lead_bytes (Leader k) h = ap suc h

-- leads are compared as their bytes
abbrev pub lead_cmp : Lead → Lead → Ordering
lead_cmp a b = slice_cmp nat_cmp (lead_bytes a) (lead_bytes b)

-- cells are compared by their keys
abbrev pub cell_cmp : Cell → Cell → Ordering
cell_cmp a b = key_cmp a.key b.key

-- labels are ordered by level, then by what leads the group, then by index
pub order_of_labels : (a b : Label) → HasKeyLength a.lead → HasKeyLength b.lead
    → a.index < 4294967296 → b.index < 4294967296
    → label_cmp a b ≡ ordering_then (ordering_then (nat_cmp a.level b.level) (lead_cmp a.lead b.lead))
    (nat_cmp a.index b.index)
unfolding label_bytes
order_of_labels a b ha hb ia ib =
    slice_cmp-append nat_cmp (a.level ∷ lead_bytes a.lead) (b.level ∷ lead_bytes b.lead) (to_be_bytes w32 a.index)
    (to_be_bytes w32 b.index) (ap suc (length-lead_bytes a.lead ha ∙ sym (length-lead_bytes b.lead hb)))
    ∙ ap (ordering_then (ordering_then (nat_cmp a.level b.level) (lead_cmp a.lead b.lead)))
    (be_bytes_order a.index b.index ia ib)

-- the page is one of the group that this leads on the level
record IsPageOf (level : ℕ) (lead : Lead) (page : Page) : Type 0 where
  on_level : page.label.level ≡ level
  led : page.label.lead ≡ lead
  counted : page.label.index < 4294967296

-- the page is one of the level, and its label can be spelled
record IsPageOn (level : ℕ) (page : Page) : Type 0 where
  on_level : page.label.level ≡ level
  led : HasKeyLength page.label.lead
  counted : page.label.index < 4294967296

-- no more runs than elements
run_count_below : (level count : ℕ) → run_count (page_room level) count ≤ count
run_count_below level count = elim (level == 0) as
    (λ b. run_count (cond b 10 31) count ≤ count) [ true ↦ omega arith | false ↦ omega arith ]

-- the number of a run can be spelled in four bytes
pub run_number_in_range : (level : ℕ) (cells : List Cell) → length cells ≤ 4294967296
    → AllByRecursion (λ run. run.0 < 4294967296) (enumerate_from 0 (runs (page_room level) cells))
run_number_in_range level cells h =
    let few = run_count_below level (length cells) in
    let counted = length-runs (page_room level) cells in
    all_weaker _ _ (λ run r. omega arith) (enumerate_from 0 (runs (page_room level) cells))
    (numbers_in_range 0 (runs (page_room level) cells))

-- the page of one run
abbrev pub page_of : ℕ → Lead → ℕ × List Cell → Page
page_of level lead run = record { label = record { level = level; lead = lead; index = run.0 }; cells = run.1 }

-- the pages of a group are the group's, and rise by label
pages_of_group : (level : ℕ) (lead : Lead) (cells : List Cell) → length cells ≤ 4294967296
    → AllByRecursion (IsPageOf level lead) (group_pages level lead cells)
unfolding group_pages
pages_of_group level lead cells h =
    all_map (λ run. run.0 < 4294967296) (IsPageOf level lead) (page_of level lead)
    (λ run r. record { on_level = refl; led = refl; counted = r })
    (enumerate_from 0 (runs (page_room level) cells)) (run_number_in_range level cells h)

-- the pages of a group rise by label
rising_group_pages : (level : ℕ) (lead : Lead) (cells : List Cell) → HasKeyLength lead → length cells ≤ 4294967296
    → IsStrictlySortedBy page_cmp (group_pages level lead cells)
unfolding group_pages
rising_group_pages level lead cells g h =
    rising_map (λ a b. nat_cmp a.0 b.0) page_cmp (page_of level lead) (λ run. run.0 < 4294967296)
    (λ a b ha hb l.
    order_of_labels (page_of level lead a).label (page_of level lead b).label g g ha hb
    ∙ ap₂ (λ o r. ordering_then (ordering_then o r) (nat_cmp a.0 b.0)) (nat_cmp-eq level)
    (tied_itself nat_list_cmp_total (lead_bytes lead))
    ∙ l)
    (enumerate_from 0 (runs (page_room level) cells)) (run_number_in_range level cells h)
    (numbers_rise 0 (runs (page_room level) cells))

-- pages of a group stand below those of a group with a higher lead
below_groups : (level : ℕ) (l m : Lead) (xs ys : List Page) → HasKeyLength l → HasKeyLength m → lead_cmp l m ≡ Less
    → AllByRecursion (IsPageOf level l) xs → AllByRecursion (IsPageOf level m) ys
    → IsBelow page_cmp xs ys
below_groups level l m xs ys hl hm less h g =
    all_weaker _ _ (λ a p. all_weaker _ _ (λ b q.
    order_of_labels a.label b.label (subst HasKeyLength (sym p.led) hl)
    (subst HasKeyLength (sym q.led) hm) p.counted q.counted
    ∙ ap (λ o. ordering_then o (nat_cmp a.label.index b.label.index))
    (ap₂ ordering_then (ap₂ nat_cmp p.on_level q.on_level ∙ nat_cmp-eq level) (ap₂ lead_cmp p.led q.led ∙ less))) ys g)
    xs h

-- pages of a level stand below those of a higher level
below_levels : (level higher : ℕ) (xs ys : List Page) → level < higher → AllByRecursion (IsPageOn level) xs
    → AllByRecursion (IsPageOn higher) ys → IsBelow page_cmp xs ys
below_levels level higher xs ys less h g =
    all_weaker _ _ (λ a p. all_weaker _ _ (λ b q.
    order_of_labels a.label b.label p.led q.led p.counted q.counted
    ∙ ap (λ o. ordering_then (ordering_then o (lead_cmp a.label.lead b.label.lead))
    (nat_cmp a.label.index b.label.index))
    (ap₂ nat_cmp p.on_level q.on_level ∙ nat_cmp-lt level higher less)) ys g) xs h

-- ---- what leads the groups

-- what leads a group that begins with the cell
abbrev lead_at : Draw → ℕ → Cell → Lead
lead_at d level cell = lead_of d level (cell ∷ [])

-- the lead that a cell gives
abbrev leader : Cell → Lead
leader cell = Leader cell.key

-- a group is led from its first cell on
lead_of-cons : (d : Draw) (level : ℕ) (cell : Cell) (cells : List Cell)
    → lead_of d level (cell ∷ cells) ≡ lead_at d level cell
unfolding lead_of
lead_of-cons d level cell cells = refl

-- a cell that the list is cut before leads its group
lead_of_cut : (d : Draw) (level : ℕ) (cell : Cell) → leads_group d level cell ≡ true
    → lead_at d level cell ≡ leader cell
unfolding lead_of
lead_of_cut d level cell e = ap (λ b. cond b (leader cell) Start) e

-- the leads of the parts, once x has come in front: the part that x comes into is led from x on
leads_onto_part : (d : Draw) (level : ℕ) (x y : Cell) (part : List Cell) (parts : List (List Cell))
    → map (lead_of d level) (onto_part (leads_group d level) x ((y ∷ part) ∷ parts))
    ≡ lead_at d level x ∷ cond (leads_group d level y) (leader y ∷ map (lead_of d level) parts)
    (map (lead_of d level) parts)
unfolding onto_part
leads_onto_part d level x y part parts = go (leads_group d level y) refl
  where
    go : (b : Bool) → leads_group d level y ≡ b
        → map (lead_of d level) (cond b ((x ∷ []) ∷ (y ∷ part) ∷ parts) ((x ∷ y ∷ part) ∷ parts)) ≡ lead_at d level x
        ∷ cond b (leader y ∷ map (lead_of d level) parts) (map (lead_of d level) parts)
    go true e = ap (λ l. lead_at d level x ∷ l ∷ map (lead_of d level) parts)
        (lead_of-cons d level y part ∙ lead_of_cut d level y e)
    go false e = ap (λ l. l ∷ map (lead_of d level) parts) (lead_of-cons d level x (y ∷ part))

-- cutting a list that begins with x gives a first part that does
pub record IsCutFrom (x : Cell) (parts : List (List Cell)) : Type 0 where
  pub part : List Cell
  pub rest : List (List Cell)
  pub is : parts ≡ (x ∷ part) ∷ rest

-- the parts of a list that begins with x
pub cut_from : (cuts : Cell → Bool) (x : Cell) (xs : List Cell) → IsCutFrom x (cut_before cuts (x ∷ xs))
unfolding cut_before onto_part
cut_from cuts x xs = go (cut_before cuts xs)
  where
    go : (parts : List (List Cell)) → IsCutFrom x (onto_part cuts x parts)
    go [] = record { part = []; rest = []; is = refl }
    go ([] ∷ parts) = record { part = []; rest = parts; is = refl }
    go ((y ∷ part) ∷ parts) = elim (cuts y) as
        (λ b. IsCutFrom x (cond b ((x ∷ []) ∷ (y ∷ part) ∷ parts) ((x ∷ y ∷ part) ∷ parts))) [
          | true ↦ record { part = []; rest = (y ∷ part) ∷ parts; is = refl }
          | false ↦ record { part = y ∷ part; rest = parts; is = refl }
        ]

-- the first group is led from its first cell on, and the others by the cells that the list is cut before
leads_of_groups : (d : Draw) (level : ℕ) (x : Cell) (xs : List Cell)
    → map (lead_of d level) (cut_before (leads_group d level) (x ∷ xs))
    ≡ lead_at d level x ∷ map leader (filter (leads_group d level) xs)
unfolding cut_before onto_part
leads_of_groups d level x [] = refl
leads_of_groups d level x (y ∷ ys) =
    let cuts = leads_group d level in
    let first = cut_from cuts y ys in
    let behind : map (lead_of d level) first.rest ≡ map leader (filter cuts ys) =
    ap (drop 1) (ap (map (lead_of d level)) (sym first.is) ∙ leads_of_groups d level y ys) in
    ap (λ parts. map (lead_of d level) (onto_part cuts x parts)) first.is
    ∙ leads_onto_part d level x y first.part first.rest
    ∙ ap (λ ls. lead_at d level x ∷ cond (cuts y) (leader y ∷ ls) ls) behind
    ∙ ap (λ ls. lead_at d level x ∷ ls)
    (elim (cuts y) as (λ b. cond b (leader y ∷ map leader (filter cuts ys)) (map leader (filter cuts ys))
    ≡ map leader (cond b (y ∷ filter cuts ys) (filter cuts ys))) [ true ↦ refl | false ↦ refl ])

-- a group that begins with x is led below a leader above x
below_leader : (d : Draw) (level : ℕ) (x y : Cell) → cell_cmp x y ≡ Less
    → lead_cmp (lead_at d level x) (leader y) ≡ Less
unfolding lead_of
below_leader d level x y e = elim (leads_group d level x) as (λ b. lead_cmp (cond b (leader x) Start) (leader y) ≡ Less)
    [ true ↦ e | false ↦ refl ]

-- leads of cells that rise
rising_leads : (d : Draw) (level : ℕ) (x : Cell) (xs : List Cell) → IsStrictlySortedBy cell_cmp (x ∷ xs)
    → IsStrictlySortedBy lead_cmp (lead_at d level x ∷ map leader (filter (leads_group d level) xs))
rising_leads d level x xs h =
    let cuts = leads_group d level in
    let tail = IsStrictlySortedBy-filter cell_cmp cuts xs (rising_tail cell_cmp x xs h) in
    let head = all_filter _ cuts xs (rising_head cell_cmp x xs h) in
    rising_cons lead_cmp (lead_at d level x) (map leader (filter cuts xs))
    (all_map (λ y. cell_cmp x y ≡ Less) (λ l. lead_cmp (lead_at d level x) l ≡ Less) leader
    (λ y e. below_leader d level x y e) (filter cuts xs) head)
    (rising_map cell_cmp lead_cmp leader (λ y. Unit {0}) (λ a b u v l. l) (filter cuts xs)
    (all_none _ (λ y. tt) (filter cuts xs)) tail)

-- groups of cells that rise are led in rising order
rising_groups : (d : Draw) (level : ℕ) (xs : List Cell) → IsStrictlySortedBy cell_cmp xs
    → IsStrictlySortedBy (λ a b. lead_cmp (lead_of d level a) (lead_of d level b)) (cut_before (leads_group d level) xs)
unfolding cut_before
rising_groups d level [] h = rising_nil _
rising_groups d level (x ∷ xs) h =
    rising_from_map lead_cmp (lead_of d level) (cut_before (leads_group d level) (x ∷ xs))
    (subst (IsStrictlySortedBy lead_cmp) (sym (leads_of_groups d level x xs)) (rising_leads d level x xs h))

-- ---- the pages of a list of pairs

-- what the cut needs to know of a list of pairs
pub record IsKeyed (s : List Pair) : Type 0 where
  pub sorted : IsTrue (is_sorted key_cmp s)
  pub lengths : AllByRecursion (λ pair. length pair.0 ≡ 124) s
  pub few : length s ≤ 4294967296

-- the cell of a pair has its key
pub cell_on-key : (level : ℕ) (pair : Pair) → (cell_on level pair).key ≡ pair.0
cell_on-key level pair = elim (level == 0) as
    (λ b. (cond {A = Cell} b (record { key = pair.0; value = Some pair.1 }) (record { key = pair.0; value = None })).key
    ≡ pair.0) [ true ↦ refl | false ↦ refl ]

-- the list of a level rises by key
pub rising_level_list : (d : Draw) (s : List Pair) (level : ℕ) → IsTrue (is_sorted key_cmp s)
    → IsStrictlySortedBy cell_cmp (level_list d s level)
unfolding level_list
rising_level_list d s level h =
    let stays = λ (pair : Pair). nat_le level (d.level pair.0) in
    rising_map pair_cmp cell_cmp (cell_on level) (λ pair. Unit {0})
    (λ a b u v l. ap₂ key_cmp (cell_on-key level a) (cell_on-key level b) ∙ l)
    (filter stays s) (all_none _ (λ pair. tt) (filter stays s))
    (IsStrictlySortedBy-filter pair_cmp stays s (rising_from_is_sorted key_cmp s h))

-- its keys have 124 bytes
lengths_of_level_list : (d : Draw) (s : List Pair) (level : ℕ) → IsKeyed s
    → AllByRecursion (λ cell. length cell.key ≡ 124) (level_list d s level)
unfolding level_list
lengths_of_level_list d s level h =
    let stays = λ (pair : Pair). nat_le level (d.level pair.0) in
    all_map (λ pair. length pair.0 ≡ 124) (λ cell. length cell.key ≡ 124) (cell_on level)
    (λ pair e. ap length (cell_on-key level pair) ∙ e) (filter stays s) (all_filter _ stays s h.lengths)

-- it is no longer than the list of pairs
pub few_cells : (d : Draw) (s : List Pair) (level : ℕ) → IsKeyed s → length (level_list d s level) ≤ 4294967296
unfolding level_list
few_cells d s level h =
    let stays = λ (pair : Pair). nat_le level (d.level pair.0) in
    omega (arith, length-map (filter stays s) (cell_on level), length-filter-le stays s, h.few)

-- a group whose cells have keys of 124 bytes
led_by_key : (d : Draw) (level : ℕ) (cells : List Cell) → AllByRecursion (λ cell. length cell.key ≡ 124) cells
    → HasKeyLength (lead_of d level cells)
unfolding lead_of
led_by_key d level [] h = tt
led_by_key d level (cell ∷ cells) h =
    elim (leads_group d level cell) as (λ b. HasKeyLength (cond b (Leader cell.key) Start)) [ true ↦ h.0 | false ↦ tt ]

-- a group whose labels can be spelled
record IsGroup (d : Draw) (level : ℕ) (cells : List Cell) : Type 0 where
  led : HasKeyLength (lead_of d level cells)
  few : length cells ≤ 4294967296

-- each group of a level is one
all_groups : (d : Draw) (s : List Pair) (level : ℕ) → IsKeyed s → AllByRecursion (IsGroup d level) (groups d s level)
unfolding groups
all_groups d s level h =
    let cells = level_list d s level in
    let parts = cut_before (leads_group d level) cells in
    let whole = flat_map-cut_before (leads_group d level) cells in
    all_with _ _ _ (λ g a b. record { led = led_by_key d level g a; few = b }) parts
    (all_parts _ parts (subst (AllByRecursion (λ cell. length cell.key ≡ 124)) (sym whole)
    (lengths_of_level_list d s level h)))
    (length_of_parts 4294967296 parts (subst (λ cs. length cs ≤ 4294967296) (sym whole) (few_cells d s level h)))

-- the pages of a level are of that level
pages_of_level : (d : Draw) (s : List Pair) (level : ℕ) → IsKeyed s
    → AllByRecursion (IsPageOn level) (level_pages d s level)
unfolding level_pages
pages_of_level d s level h =
    all_flat_map (IsGroup d level) (IsPageOn level) (λ cells. group_pages level (lead_of d level cells) cells)
    (λ cells g. all_weaker _ _ (λ page p. record {
      on_level = p.on_level;
      led = subst HasKeyLength (sym p.led) g.led;
      counted = p.counted;
    })
    (group_pages level (lead_of d level cells) cells) (pages_of_group level (lead_of d level cells) cells g.few))
    (groups d s level) (all_groups d s level h)

-- and they rise by label
rising_level_pages : (d : Draw) (s : List Pair) (level : ℕ) → IsKeyed s
    → IsStrictlySortedBy page_cmp (level_pages d s level)
unfolding level_pages groups
rising_level_pages d s level h =
    rising_flat_map (λ a b. lead_cmp (lead_of d level a) (lead_of d level b)) page_cmp
    (λ cells. group_pages level (lead_of d level cells) cells) (IsGroup d level)
    (λ cells g. rising_group_pages level (lead_of d level cells) cells g.led g.few)
    (λ a b g k l. below_groups level (lead_of d level a) (lead_of d level b) (group_pages level (lead_of d level a) a)
    (group_pages level (lead_of d level b) b) g.led k.led l (pages_of_group level (lead_of d level a) a g.few)
    (pages_of_group level (lead_of d level b) b k.few))
    (groups d s level) (all_groups d s level h)
    (rising_groups d level (level_list d s level) (rising_level_list d s level h.sorted))

-- the pages of a list come in the order of their labels
pub rising_pages : (d : Draw) (s : List Pair) → IsKeyed s → IsStrictlySortedBy page_cmp (pages_of_pairs d s)
unfolding pages_of_pairs
rising_pages d s h =
    rising_flat_map nat_cmp page_cmp (level_pages d s) (λ level. Unit {0})
    (λ level u. rising_level_pages d s level h)
    (λ a b u v l. below_levels a b (level_pages d s a) (level_pages d s b) (less_from_nat_cmp a b l)
    (pages_of_level d s a h) (pages_of_level d s b h))
    (numbers_below d.height) (all_none _ (λ level. tt) (numbers_below d.height)) (rising_numbers_from 0 d.height)

-- the same for the labels alone
pub rising_labels : (d : Draw) (s : List Pair) → IsKeyed s
    → IsStrictlySortedBy label_cmp (map (λ page. page.label) (pages_of_pairs d s))
rising_labels d s h = rising_to_map label_cmp (λ page. page.label) (pages_of_pairs d s) (rising_pages d s h)

-- so no two labels have the same bytes
pub distinct_labels : (d : Draw) (s : List Pair) → IsKeyed s
    → IsDistinct (eq_by_cmp label_cmp) (map (λ page. page.label) (pages_of_pairs d s))
distinct_labels d s h = IsDistinct-from_sorted label_cmp
    (map (λ page. page.label) (pages_of_pairs d s)) (rising_labels d s h)
