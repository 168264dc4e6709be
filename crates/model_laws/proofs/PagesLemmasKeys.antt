-- Lemmas on where a key stands: in one page of each level up to its own.
use Rattle.std.proofs.Common.{◌≡◌, ℕ, ◌+◌, List, [], ◌∷◌, ◌++◌, map, refl, sym, ap, ap₂, subst, ◌∙◌, cond, arith, Bool}
use Rattle.std.proofs.Common.{true, false, ◌&&◌, ◌||◌, IsTrue, nat_le, count_by, Less, Equal}
use Rattle.std.specs.List.{flat_map, filter, list_any}
use Rattle.std.specs.List.Sorted.{IsStrictlySortedBy}
use Rattle.std.specs.FinMap.{is_sorted}
use Rattle.std.specs.Cmp.{tied_itself}
use Rattle.std.specs.Cmp.Lexicographic.{bytes_decides, nat_list_cmp_total}
use Rattle.std.proofs.lemmas.List.Sums.{sum_by-cons}
use Rattle.std.proofs.lemmas.List.Folds.{list_any-append, list_any_none}
use Rattle.std.proofs.lemmas.List.Elements.{All-from_recursion}
use Rattle.store_model.specs.Lists.{same_bytes}
use Rattle.store_model.specs.Paths.{key_cmp}
use Rattle.store_model.specs.Draws.{Draw}
use Rattle.store_model.specs.Pairs.{Pair}
use Rattle.store_model.specs.Pages.{Cell, Page, cell_on, level_list, level_pages}
use Rattle.store_model.proofs.ListsLemmas.{rising_head, rising_tail, rising_back, all_weaker}
use Rattle.store_model.proofs.PagesLemmas.{cells_of_level}
use Rattle.store_model.proofs.PagesLemmasOrder.{cell_cmp, cell_on-key, rising_level_list}

-- whether a cell, a pair or a page has the key
abbrev cell_has : List ℕ → Cell → Bool
cell_has k cell = same_bytes cell.key k

-- whether a pair has the key
abbrev pair_has : List ℕ → Pair → Bool
pair_has k pair = same_bytes pair.0 k

-- whether a page has it in some cell
abbrev page_has : List ℕ → Page → Bool
page_has k page = list_any (cell_has k) page.cells

-- of cells that rise, those behind one that has the key have other keys
other_keys : (k : List ℕ) (x : Cell) (xs : List Cell) → IsStrictlySortedBy cell_cmp (x ∷ xs) → cell_has k x ≡ true
    → list_any (cell_has k) xs ≡ false
other_keys k x xs h e =
    let here = (bytes_decides x.key k).0 e in
    list_any_none (cell_has k) xs
    (All-from_recursion _ xs (all_weaker _ _ (λ y l. go y l here (cell_has k y) refl) xs
    (rising_head cell_cmp x xs h)))
  where
    go : (y : Cell) → cell_cmp x y ≡ Less → x.key ≡ k → (b : Bool) → cell_has k y ≡ b → b ≡ false
    go y l here false f = refl
    go y l here true f =
        let there = (bytes_decides y.key k).0 f in
        let tied : cell_cmp x y ≡ Equal = ap₂ key_cmp here there ∙ tied_itself nat_list_cmp_total k in
        cc

-- the second part of a choice that fails
second_false : (a b : Bool) → (a || b) ≡ false → b ≡ false
second_false true b h = cc
second_false false b h = h

-- of parts of cells that rise, the second has no key that the first has
apart : (k : List ℕ) (xs ys : List Cell) → IsStrictlySortedBy cell_cmp (xs ++ ys) → list_any (cell_has k) xs ≡ true
    → list_any (cell_has k) ys ≡ false
apart k [] ys h e = cc
apart k (x ∷ xs) ys h e = go (apart k xs ys (rising_tail cell_cmp x (xs ++ ys) h)) (cell_has k x) refl e
  where
    go : (list_any (cell_has k) xs ≡ true → list_any (cell_has k) ys ≡ false) → (b : Bool) → cell_has k x ≡ b
        → (b || list_any (cell_has k) xs) ≡ true → list_any (cell_has k) ys ≡ false
    go behind true f e = second_false (list_any (cell_has k) xs) _
        (sym (list_any-append (cell_has k) xs ys) ∙ other_keys k x (xs ++ ys) h f)
    go behind false f e = behind e

-- two tests of which at most one holds
count_of_two : (a b : Bool) → (a ≡ true → b ≡ false) → cond a 1 0 + cond b 1 0 ≡ cond (a || b) 1 0
count_of_two true b apart = ap (λ c. 1 + cond c 1 0) (apart refl)
count_of_two false b apart = omega arith

-- how many pages have a key, where the cells of the pages rise
count_pages : (k : List ℕ) (pages : List Page) → IsStrictlySortedBy cell_cmp (flat_map (λ page. page.cells) pages)
    → count_by (page_has k) pages ≡ cond (list_any (cell_has k) (flat_map (λ page. page.cells) pages)) 1 0
count_pages k [] h = refl
count_pages k (page ∷ pages) h =
    let rest = flat_map (λ (p : Page). p.cells) pages in
    sum_by-cons (λ p. cond (page_has k p) 1 0) page pages
    ∙ ap (λ n. cond (page_has k page) 1 0 + n) (count_pages k pages (rising_back cell_cmp page.cells rest h))
    ∙ count_of_two (page_has k page) (list_any (cell_has k) rest) (apart k page.cells rest h)
    ∙ ap (λ b. cond b 1 0) (sym (list_any-append (cell_has k) page.cells rest))

-- the list of a level, one pair on
level_list-cons : (k : List ℕ) (d : Draw) (pair : Pair) (s : List Pair) (level : ℕ)
    → list_any (cell_has k) (level_list d (pair ∷ s) level)
    ≡ cond (nat_le level (d.level pair.0)) (pair_has k pair || list_any (cell_has k) (level_list d s level))
    (list_any (cell_has k) (level_list d s level))
unfolding level_list
level_list-cons k d pair s level =
    let stays = λ (x : Pair). nat_le level (d.level x.0) in
    let rest = filter stays s in
    elim (stays pair) as (λ b. list_any (cell_has k) (map (cell_on level) (cond b (pair ∷ rest) rest))
    ≡ cond b (pair_has k pair || list_any (cell_has k) (map (cell_on level) rest))
    (list_any (cell_has k) (map (cell_on level) rest))) [
      | true ↦ ap (λ key. same_bytes key k || list_any (cell_has k) (map (cell_on level) rest)) (cell_on-key level pair)
      | false ↦ refl
    ]

-- a test of an element that stays just where the key does
stays_with_key : (here stays there rest : Bool) → (here ≡ true → stays ≡ there)
    → cond stays (here || (rest && there)) (rest && there) ≡ ((here || rest) && there)
stays_with_key true stays there rest same = ap (λ b. cond b true (rest && there)) (same refl) ∙ go there rest
  where
    go : (c r : Bool) → cond c true (r && c) ≡ c
    go true r = refl
    go false true = refl
    go false false = refl
stays_with_key false true there rest same = refl
stays_with_key false false there rest same = refl

-- whether a level's list has a key
list_has : (k : List ℕ) (d : Draw) (s : List Pair) (level : ℕ)
    → list_any (cell_has k) (level_list d s level) ≡ (list_any (pair_has k) s && nat_le level (d.level k))
unfolding level_list
list_has k d [] level = refl
list_has k d (pair ∷ s) level =
    level_list-cons k d pair s level
    ∙ ap (λ b. cond (nat_le level (d.level pair.0)) (pair_has k pair || b) b) (list_has k d s level)
    ∙ stays_with_key (pair_has k pair) (nat_le level (d.level pair.0)) (nat_le level (d.level k))
    (list_any (pair_has k) s) (λ e. ap (λ key. nat_le level (d.level key)) ((bytes_decides pair.0 k).0 e))

-- a key of a finite map stands in one page of each level up to its own, and in no page of a level above
pub pages_with_key : (d : Draw) (s : List Pair) (level : ℕ) (k : List ℕ) → IsTrue (is_sorted key_cmp s)
    → count_by (λ page. list_any (λ cell. same_bytes cell.key k) page.cells) (level_pages d s level)
    ≡ cond (list_any (λ pair. same_bytes pair.0 k) s && nat_le level (d.level k)) 1 0
pages_with_key d s level k h =
    let whole = cells_of_level d s level in
    count_pages k (level_pages d s level)
    (subst (IsStrictlySortedBy cell_cmp) (sym whole) (rising_level_list d s level h))
    ∙ ap (λ cells. cond (list_any (cell_has k) cells) 1 0) whole
    ∙ ap (λ b. cond b 1 0) (list_has k d s level)
