-- Places of a round and ways round the slots, and a table that is turned to begin at a slot.
use Rattle.std.proofs.Common.{◌≡◌, ℕ, zero, suc, ◌+◌, ◌-◌, ◌%◌, ◌<◌, ◌≤◌, ◌⊎◌, inl, inr, [], ◌∷◌, ◌++◌, Option, Some}
use Rattle.std.proofs.Common.{None, length, take, drop, get_or, slice_get, refl, ap, sym, subst, ◌∙◌, arith}
use Rattle.std.specs.List.{AllByRecursion}
use Rattle.std.proofs.Math.ListN.{length-append}
use Rattle.std.proofs.Math.Nat.{mod-eq_of_lt, mod-add-mod, add-mod_left}
use Rattle.std.proofs.lemmas.Bool.{cases_lt}
use Rattle.std.proofs.lemmas.List.{length-take-le, length-drop, take-append-drop, get_or-drop, get_or-take}
use Rattle.std.proofs.lemmas.List.{get_or_append_left, get_or-append_right}
use Rattle.std.proofs.lemmas.Option.{same_Some, slice_get-get_or}
use Rattle.store_model.specs.Pages.{Page}
use Rattle.store_model.specs.Placement.{Table, probe, pages_in, HoldsPage}

-- ---- round the slots

-- what is one slot so many slots further on was one slot
pub back_by : (n a b m : ℕ) → m ≤ n → (a + m) % n ≡ (b + m) % n → a % n ≡ b % n
back_by n a b m within same = sym (onward a) ∙ ap (λ (k : ℕ). (k + (n - m)) % n) same ∙ onward b
  where
    onward : (x : ℕ) → ((x + m) % n + (n - m)) % n ≡ x % n
    onward x = let e : x + m + (n - m) ≡ n + x = omega arith
        in mod-add-mod (x + m) n (n - m) ∙ ap (λ (k : ℕ). k % n) e ∙ add-mod_left n x

-- a place before a page's is a slot of its way
pub way_back : (n first place start way q k : ℕ) → place < n → q < place → k + (place - q) ≡ way
    → probe n start way ≡ probe n first place → probe n start k ≡ probe n first q
way_back n first place start way q k within before steps_is there =
    let a : start + k + (place - q) ≡ start + way = omega arith in
    let b : first + place ≡ first + q + (place - q) = omega arith in
    back_by n (start + k) (first + q) (place - q) (omega arith)
    (ap (λ (x : ℕ). x % n) a ∙ there ∙ ap (λ (x : ℕ). x % n) b)

-- the slot before a place, which may be the one before the first
pub slot_before : (n first place : ℕ) → 0 < n → probe n first (n - 1 + (place + 1)) ≡ probe n first place
slot_before n first place some = let e : first + (n - 1 + (place + 1)) ≡ n + (first + place) = omega arith
    in ap (λ (x : ℕ). x % n) e ∙ add-mod_left n (first + place)

-- a way that is longer than a run leads over the slot before the run
pub way_far : (n first place run start way k : ℕ) → place < n → run ≤ place → k + (place - run + 1) ≡ way
    → probe n start way ≡ probe n first place → probe n start k ≡ probe n first (n - 1 + run)
way_far n first place run start way k within ran steps_is there =
    let m = place - run + 1 in
    let a : start + k + m ≡ start + way = omega arith in
    let b : first + (n - 1 + run) + m ≡ n + (first + place) = omega arith in
    back_by n (start + k) (first + (n - 1 + run)) m (omega arith)
    (ap (λ (x : ℕ). x % n) a ∙ there ∙ sym (ap (λ (x : ℕ). x % n) b ∙ add-mod_left n (first + place)))

-- ---- a table that begins at a slot

-- the table from a slot on, and then from its first slot up to that one
abbrev pub turned : ℕ → Table → Table
turned first table = drop first table ++ take first table

pub length-turned : (first : ℕ) (table : Table) → first < length table → length (turned first table) ≡ length table
length-turned first table below =
    omega (
      arith,
      length-append (drop first table)
          (take first table),
      length-drop first table,
      length-take-le first table (omega arith),
    )

-- what it holds at a place
pub slice_get-turned : (first at n : ℕ) (table : Table) → n ≡ length table → first < n → at < n
    → slice_get (turned first table) at ≡ slice_get table (probe n first at)
slice_get-turned first at n table long below within =
    slice_get-get_or (turned first table) at None (omega (arith, length-turned first table (omega arith), long))
    ∙ ap Some (by_case (cases_lt (first + at) n))
    ∙ sym (slice_get-get_or table (probe n first at) None (omega (arith, long)))
  where
    rest : length (drop first table) ≡ n - first
    rest = omega (arith, length-drop first table, long)

    by_case : (first + at < n) ⊎ (n ≤ first + at)
        → get_or (turned first table) at None ≡ get_or table (probe n first at) None
    by_case (inl low) =
        get_or_append_left (drop first table) (take first table) None at (omega (arith, rest, low))
        ∙ get_or-drop first table at None ∙ ap (λ (i : ℕ). get_or table i None) (sym (mod-eq_of_lt low))
    by_case (inr high) =
        let round : first + at ≡ n + (at - (n - first)) = omega (arith, high, below) in
        let behind : (first + at) % n ≡ at - (n - first) =
        ap (λ (x : ℕ). x % n) round ∙ add-mod_left n (at - (n - first)) ∙ mod-eq_of_lt (omega (arith, within)) in
        get_or-append_right (drop first table) (take first table) (n - first) at None rest (omega (arith, high))
        ∙ get_or-take first table (at - (n - first)) None (omega (arith, high, within, below))
        ∙ ap (λ (i : ℕ). get_or table i None) (sym behind)

-- ---- how many pages a table has

pub length-pages_in-append : (a b : Table) → length (pages_in (a ++ b)) ≡ length (pages_in a) + length (pages_in b)
unfolding pages_in
length-pages_in-append [] b = omega arith
length-pages_in-append (None ∷ a) b = length-pages_in-append a b
length-pages_in-append (Some page ∷ a) b = omega (arith, length-pages_in-append a b)

-- one slot more
pub pages_in-free : (table : Table) (at : ℕ) → slice_get table at ≡ Some None
    → length (pages_in (take (suc at) table)) ≡ length (pages_in (take at table))
unfolding pages_in
pages_in-free [] at free = cc
pages_in-free (None ∷ table) zero free = refl
pages_in-free (Some page ∷ table) zero free = cc
pages_in-free (None ∷ table) (suc at) free = pages_in-free table at free
pages_in-free (Some page ∷ table) (suc at) free = ap suc (pages_in-free table at free)

pub pages_in-held : (table : Table) (at : ℕ) (page : Page) → HoldsPage table at page
    → length (pages_in (take (suc at) table)) ≡ suc (length (pages_in (take at table)))
unfolding pages_in
pages_in-held [] at page held = cc
pages_in-held (None ∷ table) zero page held = cc
pages_in-held (Some other ∷ table) zero page held = refl
pages_in-held (None ∷ table) (suc at) page held = pages_in-held table at page held
pages_in-held (Some other ∷ table) (suc at) page held = ap suc (pages_in-held table at page held)

-- a turned table has as many
pub length-pages_in-turned : (first : ℕ) (table : Table)
    → length (pages_in (turned first table)) ≡ length (pages_in table)
length-pages_in-turned first table =
    let whole : length (pages_in (take first table ++ drop first table)) ≡ length (pages_in table) =
    ap (λ (t : Table). length (pages_in t)) (take-append-drop first table) in
    omega (
      arith,
      length-pages_in-append (drop first table)
          (take first table),
      length-pages_in-append (take first table) (drop first table),
      whole,
    )

-- ---- tables from what their slots hold

-- what holds of the page in each slot holds of each page
pub all_in_slots : (P : Page → Type 0) (table : Table) → ((slot : ℕ) (page : Page) → HoldsPage table slot page → P page)
    → AllByRecursion P (pages_in table)
unfolding pages_in
all_in_slots P [] f = tt
all_in_slots P (None ∷ table) f = all_in_slots P table (λ slot page held. f (suc slot) page held)
all_in_slots P (Some page ∷ table) f =
    (f zero page refl, all_in_slots P table (λ slot other held. f (suc slot) other held))

-- a table whose slots hold each what it may
pub table_of_slots : (P : ℕ → Option Page → Type 0) (n : ℕ)
    → ((slot : ℕ) → slot < n → (what : Option Page) × P slot what)
    → (table : Table) × (length table ≡ n)
    × ((slot : ℕ) (what : Option Page) → slice_get table slot ≡ Some what → P slot what)
table_of_slots P zero f = ([], refl, λ slot what there. absurd (not_there slot what there))
  where
    not_there : (slot : ℕ) (what : Option Page) → slice_get [] slot ≡ Some what → ⊥
    not_there slot what there = cc
table_of_slots P (suc n) f =
    let first = f zero (omega arith) in
    let rest = table_of_slots (λ slot what. P (suc slot) what) n (λ slot below. f (suc slot) (omega (arith, below))) in
    (first.0 ∷ rest.0, ap suc rest.1, by_slot first rest)
  where
    by_slot : (first : (what : Option Page) × P zero what)
        → (rest : (table : Table) × (length table ≡ n)
        × ((slot : ℕ) (what : Option Page) → slice_get table slot ≡ Some what → P (suc slot) what))
        → (slot : ℕ) (what : Option Page) → slice_get (first.0 ∷ rest.0) slot ≡ Some what → P slot what
    by_slot first rest zero what there = subst (P zero) (same_Some first.0 what there) first.1
    by_slot first rest (suc slot) what there = rest.2 slot what there
