-- The pages of a level, group after group.
use Rattle.std.proofs.Common.{◌≡◌, ℕ, ◌+◌, ◌≤◌, List, [], ◌∷◌, ◌++◌, map, length, take, drop, Bool, true, false, cond}
use Rattle.std.proofs.Common.{nat_le, refl, sym, ap, ap₂, subst, ◌∙◌, arith, append_assoc, append-nil, lt-ltb}
use Rattle.std.specs.declared.cmp.Ordering.{Ordering}
use Rattle.std.specs.List.{AllByRecursion, flat_map, filter}
use Rattle.std.specs.List.Sorted.{IsStrictlySortedBy}
use Rattle.std.proofs.lemmas.List.{length-append, length-drop, take-append-drop, drop-drop, drop_all}
use Rattle.std.proofs.lemmas.List.Kept.{IsStrictlySortedBy-filter}
use Rattle.store_model.specs.Lists.{onto_part, cut_before}
use Rattle.store_model.specs.Paths.{key_cmp}
use Rattle.store_model.specs.Labels.{Lead}
use Rattle.store_model.specs.Draws.{Draw}
use Rattle.store_model.specs.Pages.{Cell, Page, cell_on, level_list, leads_group, groups, lead_of, group_pages}
use Rattle.store_model.specs.Pages.{level_pages}
use Rattle.store_model.proofs.ListsLemmas.{all_none, all_append, all_front, all_back, rising_front, rising_back}
use Rattle.store_model.proofs.ListsLemmas.{rising_map, rising_from_map, rising_to_map}
use Rattle.store_model.proofs.PagesLemmasOrder.{cell_cmp, cell_on-key}
use Rattle.node_pages.proofs.Runs.{all_pages, no_page}
use Rattle.layout_scratch.specs.declared.ranked.Ranked.{Ranked}
use Rattle.layout_scratch.specs.Sorting.{pair_cmp}
use Rattle.layout_scratch.specs.Ranks.{key_of, pairs_of, AreRanked, cells_on, BeginsGroup, IsFirstGroup}
use Rattle.layout_scratch.proofs.LevelCells.{stays, cell_of, cells_on-stays, cells_on-append}
use Rattle.layout_scratch.proofs.LevelGroups.{leads_by_level, no_leader}

-- ---- the first part of a list that is cut

-- no element is left, or the list is cut before the first of them
EndsOrCuts : {A : Type 0} → (A → Bool) → List A → Type 0
EndsOrCuts cuts [] = Unit {0}
EndsOrCuts cuts (y ∷ ys) = cuts y ≡ true

-- an element in front of one that the list is cut before is a part of its own
onto_cut : {A : Type 0} (cuts : A → Bool) (x y : A) (parts : List (List A)) → cuts y ≡ true
    → onto_part cuts x (onto_part cuts y parts) ≡ (x ∷ []) ∷ onto_part cuts y parts
unfolding onto_part
onto_cut cuts x y [] e = ap (λ b. cond b ((x ∷ []) ∷ (y ∷ []) ∷ []) ((x ∷ y ∷ []) ∷ [])) e
onto_cut cuts x y ([] ∷ parts) e = ap (λ b. cond b ((x ∷ []) ∷ (y ∷ []) ∷ parts) ((x ∷ y ∷ []) ∷ parts)) e
onto_cut cuts x y ((z ∷ part) ∷ parts) e =
    elim (cuts z) as (λ c. onto_part cuts x (cond c ((y ∷ []) ∷ (z ∷ part) ∷ parts) ((y ∷ z ∷ part) ∷ parts))
    ≡ (x ∷ []) ∷ cond c ((y ∷ []) ∷ (z ∷ part) ∷ parts) ((y ∷ z ∷ part) ∷ parts)) [
      | true ↦ ap (λ b. cond b ((x ∷ []) ∷ (y ∷ []) ∷ (z ∷ part) ∷ parts) ((x ∷ y ∷ []) ∷ (z ∷ part) ∷ parts)) e
      | false ↦ ap (λ b. cond b ((x ∷ []) ∷ (y ∷ z ∷ part) ∷ parts) ((x ∷ y ∷ z ∷ part) ∷ parts)) e
    ]

-- elements that the list is not cut within, up to its end or the next cut, are its first part
first_part : {A : Type 0} (cuts : A → Bool) (x : A) (xs rest : List A) → AllByRecursion (λ y. cuts y ≡ false) xs
    → EndsOrCuts cuts rest → cut_before cuts (x ∷ (xs ++ rest)) ≡ (x ∷ xs) ∷ cut_before cuts rest
unfolding cut_before onto_part EndsOrCuts
first_part cuts x [] [] uncut ends = refl
first_part cuts x [] (y ∷ ys) uncut ends = onto_cut cuts x y (cut_before cuts ys) ends
first_part cuts x (z ∷ xs) rest uncut ends =
    ap (onto_part cuts x) (first_part cuts z xs rest uncut.1 ends)
    ∙ ap (λ b. cond b ((x ∷ []) ∷ (z ∷ xs) ∷ cut_before cuts rest) ((x ∷ z ∷ xs) ∷ cut_before cuts rest)) uncut.0

-- what a function makes of it, and of the other parts; of no element it makes nothing
made_of_first : {A B : Type 0} (cuts : A → Bool) (f : List A → List B) → f [] ≡ [] → (xs rest : List A)
    → AllByRecursion (λ y. cuts y ≡ false) (drop 1 xs) → EndsOrCuts cuts rest
    → flat_map f (cut_before cuts (xs ++ rest)) ≡ f xs ++ flat_map f (cut_before cuts rest)
made_of_first cuts f none [] rest uncut ends = ap (λ made. made ++ flat_map f (cut_before cuts rest)) (sym none)
made_of_first cuts f none (x ∷ xs) rest uncut ends = ap (flat_map f) (first_part cuts x xs rest uncut ends)

-- ---- the first group of a level

-- the list of a level has the cells of the pairs whose levels are high enough
level_list-ranked : (d : Draw) (level : ℕ) (rs : List Ranked) → AreRanked d rs
    → level_list d (pairs_of rs) level ≡ cells_on level rs
unfolding level_list
level_list-ranked d level [] levels = refl
level_list-ranked d level (r ∷ rs) levels =
    let rest = level_list-ranked d level rs levels.1 in
    let pairs = filter (λ pair. nat_le level (d.level pair.0)) (pairs_of rs) in
    ap (λ n. map (cell_on level) (cond (nat_le level n) (r.pair.now ∷ pairs) pairs)) (sym levels.0)
    ∙ elim (stays level r) as (λ b. map (cell_on level) (cond b (r.pair.now ∷ pairs) pairs)
    ≡ map (cell_of level) (cond b (r ∷ filter (stays level) rs) (filter (stays level) rs))) [
      | true ↦ ap (λ cells. cell_of level r ∷ cells) rest
      | false ↦ rest
    ]

-- none of no cells
no_pages : (level : ℕ) (lead : Lead) → group_pages level lead [] ≡ []
no_pages level lead = sym (all_pages level lead []) ∙ no_page level lead 0 [] refl

-- what holds of each element of a list holds of each but the first
all_but_first : {A : Type 0} (P : A → Type 0) (xs : List A) → AllByRecursion P xs → AllByRecursion P (drop 1 xs)
all_but_first P [] all = tt
all_but_first P (x ∷ xs) all = all.1

-- a group's cells are cut nowhere within
uncut_cells : (d : Draw) (level : ℕ) (group : List Ranked) → AreRanked d group
    → AllByRecursion (λ r. r.level ≤ level) (drop 1 group)
    → AllByRecursion (λ cell. leads_group d level cell ≡ false) (drop 1 (cells_on level group))
uncut_cells d level [] levels uncut = tt
uncut_cells d level (r ∷ rs) levels uncut =
    let Follows : Cell → Type 0 = λ cell. leads_group d level cell ≡ false in
    let behind = no_leader d level rs levels.1 uncut in
    elim (stays level r) as (λ b. AllByRecursion Follows
    (drop 1 (map (cell_of level) (cond b (r ∷ filter (stays level) rs) (filter (stays level) rs))))) [
      | true ↦ behind
      | false ↦ all_but_first Follows (cells_on level rs) behind
    ]

-- and behind it the list ends or is cut
next_cuts : (d : Draw) (level : ℕ) (behind : List Ranked) → AreRanked d behind → BeginsGroup level behind
    → EndsOrCuts (leads_group d level) (cells_on level behind)
unfolding EndsOrCuts
next_cuts d level [] levels next = tt
next_cuts d level (r ∷ rs) levels next =
    subst (EndsOrCuts (leads_group d level)) (sym (cells_on-stays level r rs (omega arith)))
    (leads_by_level d level r levels.0 ∙ lt-ltb level r.level next)

-- the pages that the cells of a group make
abbrev pub pages_of_group : Draw → ℕ → List Cell → List Page
pages_of_group d level cells = group_pages level (lead_of d level cells) cells

-- the pages of a level are those of its first group and those of the rest
pub level_pages-first : (d : Draw) (level : ℕ) (ranked group behind : List Ranked)
    → IsFirstGroup level ranked group behind → AreRanked d group → AreRanked d behind
    → level_pages d (pairs_of ranked) level ≡ pages_of_group d level (cells_on level group)
    ++ level_pages d (pairs_of behind) level
unfolding level_pages groups
level_pages-first d level ranked group behind first here there =
    let cuts = leads_group d level in
    let made : List Cell → List Page = λ cells. flat_map (pages_of_group d level) (cut_before cuts cells) in
    let all = subst (AreRanked d) first.whole (all_append (λ r. r.level ≡ d.level (key_of r)) group behind here there)
    in
    let cells = level_list-ranked d level ranked all ∙ ap (cells_on level) (sym first.whole)
    ∙ cells_on-append level group behind in
    ap made cells
    ∙ made_of_first cuts (pages_of_group d level) (no_pages level (lead_of d level [])) (cells_on level group)
    (cells_on level behind) (uncut_cells d level group here first.uncut) (next_cuts d level behind there first.next)
    ∙ ap (λ rest. pages_of_group d level (cells_on level group) ++ made rest)
    (sym (level_list-ranked d level behind there))

-- no pair, no page
pub level_pages-none : (d : Draw) (level : ℕ) → level_pages d [] level ≡ []
unfolding level_pages groups level_list cut_before
level_pages-none d level = refl

-- pairs behind others have their levels too
pub ranked_behind : (d : Draw) (n : ℕ) (rs : List Ranked) → AreRanked d rs → AreRanked d (drop n rs)
ranked_behind d n rs levels = all_back (λ r. r.level ≡ d.level (key_of r)) (take n rs) (drop n rs)
    (subst (AreRanked d) (sym (take-append-drop n rs)) levels)

-- and so do those in front
pub ranked_front : (d : Draw) (ranked front behind : List Ranked) → front ++ behind ≡ ranked
    → AreRanked d ranked → AreRanked d front
ranked_front d ranked front behind whole levels =
    all_front (λ r. r.level ≡ d.level (key_of r)) front behind (subst (AreRanked d) (sym whole) levels)

-- ---- the cells of a group can make pages

-- cells of pairs whose keys rise have rising keys
pub rising_cells : (level : ℕ) (group : List Ranked) → IsStrictlySortedBy (λ a b. key_cmp (key_of a) (key_of b)) group
    → IsStrictlySortedBy key_cmp (map (λ c. c.key) (cells_on level group))
rising_cells level group rising =
    let by_cell : Ranked → Ranked → Ordering = λ a b. key_cmp (key_of a) (key_of b) in
    let kept = filter (stays level) group in
    rising_to_map key_cmp (λ (c : Cell). c.key) (cells_on level group)
    (rising_map by_cell cell_cmp (cell_of level) (λ r. Unit {0})
    (λ a b u v l. ap₂ key_cmp (cell_on-key level a.pair.now) (cell_on-key level b.pair.now) ∙ l)
    kept (all_none _ (λ r. tt) kept) (IsStrictlySortedBy-filter by_cell (stays level) group rising))

-- ---- a level, group by group

-- behind the pages of a front stand those of the groups up to a pair, and the pairs from there on make the others
pub record CutsLevel (level : ℕ) (ranked : List Ranked) (front pages : List Page) (start : ℕ) : Type 0 where
  pub within : start ≤ length ranked
  pub rising : IsStrictlySortedBy (λ a b. key_cmp (key_of a) (key_of b)) (drop start ranked)
  pub made : (d : Draw) → AreRanked d ranked → pages ++ level_pages d (pairs_of (drop start ranked)) level
      ≡ front ++ level_pages d (pairs_of ranked) level

pub level_none : (level : ℕ) (ranked : List Ranked) (front : List Page) → IsStrictlySortedBy pair_cmp (pairs_of ranked)
    → CutsLevel level ranked front front 0
level_none level ranked front rising = record {
  within = omega arith;
  rising = rising_from_map pair_cmp (λ (r : Ranked). r.pair.now) ranked rising;
  made = λ d levels. refl;
}

pub level_all : (level : ℕ) (ranked : List Ranked) (front pages : List Page) (start : ℕ)
    → CutsLevel level ranked front pages start → length ranked ≤ start → (d : Draw) → AreRanked d ranked
    → pages ≡ front ++ level_pages d (pairs_of ranked) level
level_all level ranked front pages start so_far end d levels =
    let none = ap (λ (rs : List Ranked). level_pages d (pairs_of rs) level) (drop_all start ranked end)
    ∙ level_pages-none d level in
    sym (append-nil pages) ∙ ap (λ ps. pages ++ ps) (sym none) ∙ so_far.made d levels

-- a group's pairs rise too
pub rising_group : (level : ℕ) (ranked group behind : List Ranked) (front pages : List Page) (start : ℕ)
    → CutsLevel level ranked front pages start → group ++ behind ≡ drop start ranked
    → IsStrictlySortedBy (λ a b. key_cmp (key_of a) (key_of b)) group
rising_group level ranked group behind front pages start so_far whole =
    let key_order : Ranked → Ranked → Ordering = λ a b. key_cmp (key_of a) (key_of b) in
    rising_front key_order group behind (subst (IsStrictlySortedBy key_order) (sym whole) so_far.rising)

-- one group on
pub level_more : (level : ℕ) (ranked group : List Ranked) (front pages new : List Page) (start : ℕ)
    → CutsLevel level ranked front pages start
    → IsFirstGroup level (drop start ranked) group (drop (length group) (drop start ranked))
    → ((d : Draw) → AreRanked d group → new ≡ pages ++ pages_of_group d level (cells_on level group))
    → CutsLevel level ranked front new (start + length group)
level_more level ranked group front pages new start so_far first new_is =
    let rest = drop start ranked in
    let behind = drop (length group) rest in
    let behind_is : behind ≡ drop (start + length group) ranked = drop-drop (length group) start ranked in
    let key_order : Ranked → Ranked → Ordering = λ a b. key_cmp (key_of a) (key_of b) in
    record {
      within = omega (
        arith,
        so_far.within,
        ap length first.whole,
        length-append group behind,
        length-drop start ranked,
      );
      rising = subst (IsStrictlySortedBy key_order) behind_is
          (rising_back key_order group behind (subst (IsStrictlySortedBy key_order) (sym first.whole) so_far.rising));
      made = λ d levels.
          let here = ranked_behind d start ranked levels in
          let of_group = ranked_front d rest group behind first.whole here in
          let pages_here = pages_of_group d level (cells_on level group) in
          ap₂ (λ ps (rs : List Ranked). ps ++ level_pages d (pairs_of rs) level) (new_is d of_group) (sym behind_is)
          ∙ append_assoc pages pages_here (level_pages d (pairs_of behind) level)
          ∙ ap (λ ps. pages ++ ps)
          (sym (level_pages-first d level rest group behind first of_group
          (ranked_behind d (length group) rest here)))
          ∙ so_far.made d levels;
    }
