-- Where a key stands on a higher level, the lists of the levels below part in two; above its own level it is not there.
use Rattle.std.proofs.Common.{◌≡◌, ℕ, suc, le-leb, ◌<◌, ◌≤◌, List, [], ◌∷◌, ◌++◌, map, Bool, true, false, cond, nat_le}
use Rattle.std.proofs.Common.{nat_lt, refl, sym, ap, ◌∙◌, arith}
use Rattle.std.specs.List.{AllByRecursion, filter, flat_map}
use Rattle.std.proofs.lemmas.Bool.{lt-leb}
use Rattle.std.proofs.lemmas.Grind.{flat_map-append}
use Rattle.std.proofs.lemmas.List.{map-append}
use Rattle.std.proofs.lemmas.List.Elements.{filter-append}
use Rattle.store_model.specs.Lists.{onto_part, cut_before}
use Rattle.store_model.specs.Pairs.{Pair}
use Rattle.store_model.specs.Draws.{Draw}
use Rattle.store_model.specs.Pages.{Cell, Page, cell_on, level_list, leads_group, lead_of, groups, group_pages}
use Rattle.store_model.specs.Pages.{level_pages}
use Rattle.store_model.proofs.PagesLemmasOrder.{cut_from, cell_on-key}

-- ---- cutting lists

-- what comes in front of parts leaves those behind the first as they are
onto_part-append : {A : Type 0} (cuts : A → Bool) (x : A) (part : List A) (parts more : List (List A))
    → onto_part cuts x (part ∷ (parts ++ more)) ≡ onto_part cuts x (part ∷ parts) ++ more
unfolding onto_part
onto_part-append cuts x [] parts more = refl
onto_part-append cuts x (y ∷ part) parts more =
    elim (cuts y) as (λ b. cond b ((x ∷ []) ∷ (y ∷ part) ∷ (parts ++ more)) ((x ∷ y ∷ part) ∷ (parts ++ more))
    ≡ cond b ((x ∷ []) ∷ (y ∷ part) ∷ parts) ((x ∷ y ∷ part) ∷ parts) ++ more) [ true ↦ refl | false ↦ refl ]

-- a list is cut before an element that passes the test as the two lists are
pub cut_before-append : (cuts : Cell → Bool) (xs : List Cell) (y : Cell) (ys : List Cell) → cuts y ≡ true
    → cut_before cuts (xs ++ y ∷ ys) ≡ cut_before cuts xs ++ cut_before cuts (y ∷ ys)
unfolding cut_before onto_part
cut_before-append cuts [] y ys e = refl
cut_before-append cuts (x ∷ []) y ys e =
    let first = cut_from cuts y ys in
    ap (onto_part cuts x) first.is
    ∙ ap (λ b. cond b ((x ∷ []) ∷ (y ∷ first.part) ∷ first.rest) ((x ∷ y ∷ first.part) ∷ first.rest)) e
    ∙ ap (λ parts. (x ∷ []) ∷ parts) (sym first.is)
cut_before-append cuts (x ∷ z ∷ zs) y ys e =
    let first = cut_from cuts z zs in
    ap (onto_part cuts x) (cut_before-append cuts (z ∷ zs) y ys e)
    ∙ ap (λ parts. onto_part cuts x (parts ++ cut_before cuts (y ∷ ys))) first.is
    ∙ onto_part-append cuts x (z ∷ first.part) first.rest (cut_before cuts (y ∷ ys))
    ∙ ap (λ parts. onto_part cuts x parts ++ cut_before cuts (y ∷ ys)) (sym first.is)

-- a list with no cut behind its first element is one part
pub cut_before-uncut : (cuts : Cell → Bool) (x : Cell) (xs : List Cell) → AllByRecursion (λ y. cuts y ≡ false) xs
    → cut_before cuts (x ∷ xs) ≡ (x ∷ xs) ∷ []
unfolding cut_before onto_part
cut_before-uncut cuts x [] all = refl
cut_before-uncut cuts x (y ∷ ys) all = ap (onto_part cuts x) (cut_before-uncut cuts y ys all.1)
    ∙ ap (λ b. cond b ((x ∷ []) ∷ (y ∷ ys) ∷ []) ((x ∷ y ∷ ys) ∷ [])) all.0

-- ---- the lists of levels

-- whether the pair's key stands on the level
abbrev stands_on : Draw → ℕ → Pair → Bool
stands_on d level pair = nat_le level (d.level pair.0)

-- the list of a level, of two lists one after the other
pub level_list-append : (d : Draw) (s t : List Pair) (level : ℕ)
    → level_list d (s ++ t) level ≡ level_list d s level ++ level_list d t level
unfolding level_list
level_list-append d s t level = ap (map (cell_on level)) (filter-append (stands_on d level) s t)
    ∙ map-append (cell_on level) (filter (stands_on d level) s) (filter (stands_on d level) t)

-- the list of a level on which the first key stands
pub level_list-there : (d : Draw) (y : Pair) (t : List Pair) (level : ℕ) → level ≤ d.level y.0
    → level_list d (y ∷ t) level ≡ cell_on level y ∷ level_list d t level
unfolding level_list
level_list-there d y t level h =
    ap (λ b. map (cell_on level) (cond b (y ∷ filter (stands_on d level) t) (filter (stands_on d level) t)))
    (le-leb level (d.level y.0) h)

-- and of one on which it doesn't
level_list-absent : (d : Draw) (y : Pair) (t : List Pair) (level : ℕ) → d.level y.0 < level
    → level_list d (y ∷ t) level ≡ level_list d t level
unfolding level_list
level_list-absent d y t level h =
    ap (λ b. map (cell_on level) (cond b (y ∷ filter (stands_on d level) t) (filter (stands_on d level) t)))
    (lt-leb level (d.level y.0) h)

-- so the lists above the level of a key are those without it
pub level_list-above : (d : Draw) (s : List Pair) (y : Pair) (t : List Pair) (level : ℕ) → d.level y.0 < level
    → level_list d (s ++ y ∷ t) level ≡ level_list d (s ++ t) level
level_list-above d s y t level h = level_list-append d s (y ∷ t) level
    ∙ ap (λ cells. level_list d s level ++ cells) (level_list-absent d y t level h)
    ∙ sym (level_list-append d s t level)

-- ---- groups and pages

-- below the level of a key the groups in front of it and from it on are those of the two lists
pub groups-split : (d : Draw) (s : List Pair) (y : Pair) (t : List Pair) (level : ℕ) → level < d.level y.0
    → groups d (s ++ y ∷ t) level ≡ groups d s level ++ groups d (y ∷ t) level
unfolding groups
groups-split d s y t level h =
    let cuts = leads_group d level in
    let there = level_list-there d y t level (omega arith) in
    let leads : cuts (cell_on level y) ≡ true = ap (λ k. nat_lt level (d.level k)) (cell_on-key level y)
    ∙ le-leb (suc level) (d.level y.0) (omega arith) in
    ap (cut_before cuts) (level_list-append d s (y ∷ t) level ∙ ap (λ cells. level_list d s level ++ cells) there)
    ∙ cut_before-append cuts (level_list d s level) (cell_on level y) (level_list d t level) leads
    ∙ ap (λ cells. cut_before cuts (level_list d s level) ++ cut_before cuts cells) (sym there)

-- and so are the pages
pub level_pages-split : (d : Draw) (s : List Pair) (y : Pair) (t : List Pair) (level : ℕ) → level < d.level y.0
    → level_pages d (s ++ y ∷ t) level ≡ level_pages d s level ++ level_pages d (y ∷ t) level
unfolding level_pages
level_pages-split d s y t level h =
    let pages_of : List Cell → List Page = λ cells. group_pages level (lead_of d level cells) cells in
    ap (flat_map pages_of) (groups-split d s y t level h)
    ∙ flat_map-append pages_of (groups d s level) (groups d (y ∷ t) level)

-- above the level of a key they are those without it
pub groups-above : (d : Draw) (s : List Pair) (y : Pair) (t : List Pair) (level : ℕ) → d.level y.0 < level
    → groups d (s ++ y ∷ t) level ≡ groups d (s ++ t) level
unfolding groups
groups-above d s y t level h = ap (cut_before (leads_group d level)) (level_list-above d s y t level h)

pub level_pages-above : (d : Draw) (s : List Pair) (y : Pair) (t : List Pair) (level : ℕ) → d.level y.0 < level
    → level_pages d (s ++ y ∷ t) level ≡ level_pages d (s ++ t) level
unfolding level_pages
level_pages-above d s y t level h = ap (flat_map (λ cells. group_pages level (lead_of d level cells) cells))
    (groups-above d s y t level h)
