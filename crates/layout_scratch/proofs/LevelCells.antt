-- The cells of pairs on a level.
use Rattle.std.proofs.Common.{◌≡◌, ℕ, ◌+◌, ◌≤◌, ◌<◌, List, [], ◌∷◌, ◌++◌, map, length, take, get_or, Bool, cond, nat_le}
use Rattle.std.proofs.Common.{sym, ap, ◌∙◌, le-leb}
use Rattle.std.specs.List.{filter}
use Rattle.std.proofs.lemmas.Bool.{lt-leb}
use Rattle.std.proofs.lemmas.List.{take_more, map-append}
use Rattle.std.proofs.lemmas.List.Elements.{filter-append}
use Rattle.store_model.specs.Pages.{Cell, cell_on}
use Rattle.layout_scratch.specs.declared.ranked.Ranked.{Ranked}
use Rattle.layout_scratch.specs.Ranks.{cells_on}

-- whether a pair's key stands on the level
abbrev pub stays : ℕ → Ranked → Bool
stays level r = nat_le level r.level

-- the cell of a pair
abbrev pub cell_of : ℕ → Ranked → Cell
cell_of level r = cell_on level r.pair.now

-- a pair whose key stands on the level, in front of others
pub cells_on-stays : (level : ℕ) (r : Ranked) (rs : List Ranked) → level ≤ r.level
    → cells_on level (r ∷ rs) ≡ cell_of level r ∷ cells_on level rs
cells_on-stays level r rs here =
    ap (λ (b : Bool). map (cell_of level) (cond b (r ∷ filter (stays level) rs) (filter (stays level) rs)))
    (le-leb level r.level here)

-- and one whose key does not
pub cells_on-skips : (level : ℕ) (r : Ranked) (rs : List Ranked) → r.level < level
    → cells_on level (r ∷ rs) ≡ cells_on level rs
cells_on-skips level r rs low =
    ap (λ (b : Bool). map (cell_of level) (cond b (r ∷ filter (stays level) rs) (filter (stays level) rs)))
    (lt-leb level r.level low)

-- pairs in a row
pub cells_on-append : (level : ℕ) (xs ys : List Ranked)
    → cells_on level (xs ++ ys) ≡ cells_on level xs ++ cells_on level ys
cells_on-append level xs ys = ap (map (cell_of level)) (filter-append (stays level) xs ys)
    ∙ map-append (cell_of level) (filter (stays level) xs) (filter (stays level) ys)

-- one pair on
pub cells_on-more : (level : ℕ) (rs : List Ranked) (i : ℕ) (r : Ranked) → i < length rs → r ≡ get_or rs i r
    → cells_on level (take (i + 1) rs) ≡ cells_on level (take i rs) ++ cells_on level (r ∷ [])
cells_on-more level rs i r below here =
    ap (cells_on level) (take_more rs i r below ∙ ap (λ x. take i rs ++ x ∷ []) (sym here))
    ∙ cells_on-append level (take i rs) (r ∷ [])
