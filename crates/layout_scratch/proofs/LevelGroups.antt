-- The first group of a level, and those behind it.
use Rattle.std.proofs.Common.{◌≡◌, ℕ, suc, ◌+◌, ◌-◌, ◌≤◌, ◌<◌, List, [], ◌∷◌, length, take, drop, get_or, Bool, true}
use Rattle.std.proofs.Common.{false, cond, nat_le, nat_lt, refl, sym, ap, subst, ◌∙◌, arith, leb-true, leb-false}
use Rattle.std.proofs.Common.{lt-ltb}
use Rattle.std.specs.List.{AllByRecursion, prefix_len, filter}
use Rattle.std.proofs.lemmas.List.{take-append-drop, take_rest, length-take-le}
use Rattle.std.proofs.lemmas.List.Sums.{prefix_len-le-length}
use Rattle.std.proofs.lemmas.Bool.{le-ltb}
use Rattle.store_model.specs.Labels.Lead.{Start, Leader}
use Rattle.store_model.specs.Draws.{Draw}
use Rattle.store_model.specs.Pages.{Cell, leads_group, lead_of}
use Rattle.store_model.proofs.ListsLemmas.{all_with, all_map, all_filter}
use Rattle.store_model.proofs.PagesLemmasOrder.{cell_on-key}
use Rattle.layout_scratch.specs.declared.ranked.Ranked.{Ranked}
use Rattle.layout_scratch.specs.Ranks.{key_of, AreRanked, cells_on, BeginsGroup, IsFirstGroup}
use Rattle.layout_scratch.proofs.LevelCells.{stays, cell_of, cells_on-stays}

-- a group that is the first of a range up to the end of the pairs is the first of the pairs from there on
pub first_from : (level : ℕ) (ranked group : List Ranked) (start : ℕ)
    → (let left = take (length ranked - start) (drop start ranked)
    in IsFirstGroup level left group (drop (length group) left))
    → IsFirstGroup level (drop start ranked) group (drop (length group) (drop start ranked))
first_from level ranked group start first =
    subst (λ left. IsFirstGroup level left group (drop (length group) left)) (take_rest ranked start) first

-- whether a pair goes on a group of the level
abbrev pub follows_on : ℕ → Ranked → Bool
follows_on level r = nat_le r.level level

-- the pairs in front of the next that begins a group go on one
followers_go_on : (level : ℕ) (rs : List Ranked)
    → AllByRecursion (λ r. r.level ≤ level) (take (prefix_len (follows_on level) rs) rs)
followers_go_on level [] = tt
followers_go_on level (r ∷ rs) = go (follows_on level r) refl (followers_go_on level rs)
  where
    go : (b : Bool) → follows_on level r ≡ b
        → AllByRecursion (λ x. x.level ≤ level) (take (prefix_len (follows_on level) rs) rs)
        → AllByRecursion (λ x. x.level ≤ level) (take (cond b (1 + prefix_len (follows_on level) rs) 0) (r ∷ rs))
    go true e rest =
        let more : suc (prefix_len (follows_on level) rs) ≡ 1 + prefix_len (follows_on level) rs = omega arith in
        subst (λ n. AllByRecursion (λ x. x.level ≤ level) (take n (r ∷ rs))) more (leb-true r.level level e, rest)
    go false e rest = tt

-- and behind them a group begins
next_begins : (level : ℕ) (rs : List Ranked) → BeginsGroup level (drop (prefix_len (follows_on level) rs) rs)
next_begins level [] = tt
next_begins level (r ∷ rs) = go (follows_on level r) refl (next_begins level rs)
  where
    go : (b : Bool) → follows_on level r ≡ b → BeginsGroup level (drop (prefix_len (follows_on level) rs) rs)
        → BeginsGroup level (drop (cond b (1 + prefix_len (follows_on level) rs) 0) (r ∷ rs))
    go true e rest =
        let more : suc (prefix_len (follows_on level) rs) ≡ 1 + prefix_len (follows_on level) rs = omega arith in
        subst (λ n. BeginsGroup level (drop n (r ∷ rs))) more rest
    go false e rest = leb-false r.level level e

-- the first pair and those that follow it are the first group
pub first_is : (level n : ℕ) (ranked : List Ranked) → 1 ≤ length ranked
    → n ≡ 1 + prefix_len (follows_on level) (drop 1 ranked)
    → IsFirstGroup level ranked (take n ranked) (drop (length (take n ranked)) ranked)
first_is level n [] some n_is = absurd (omega arith)
first_is level n (r ∷ rs) some n_is =
    let k = prefix_len (follows_on level) rs in
    let more : suc k ≡ n = omega arith in
    let long : length (take k rs) ≡ k = length-take-le k rs (prefix_len-le-length (follows_on level) rs) in
    subst (λ m. IsFirstGroup level (r ∷ rs) (take m (r ∷ rs)) (drop (length (take m (r ∷ rs))) (r ∷ rs))) more
    (subst (λ m. IsFirstGroup level (r ∷ rs) (take (suc k) (r ∷ rs)) (drop (suc m) (r ∷ rs))) (sym long)
    (record {
      whole = take-append-drop (suc k) (r ∷ rs);
      some = omega arith;
      uncut = followers_go_on level rs;
      next = next_begins level rs;
    }))

-- ---- what leads a group

-- the cell of a pair leads a group of a level where its key stands higher
pub leads_by_level : (d : Draw) (level : ℕ) (r : Ranked) → r.level ≡ d.level (key_of r)
    → leads_group d level (cell_of level r) ≡ nat_lt level r.level
leads_by_level d level r drawn = ap (λ k. nat_lt level (d.level k)) (cell_on-key level r.pair.now)
    ∙ ap (nat_lt level) (sym drawn)

-- of pairs that begin no group no cell leads one
pub no_leader : (d : Draw) (level : ℕ) (rs : List Ranked) → AreRanked d rs → AllByRecursion (λ r. r.level ≤ level) rs
    → AllByRecursion (λ cell. leads_group d level cell ≡ false) (cells_on level rs)
no_leader d level rs ranked low =
    let Follows : Ranked → Type 0 = λ r. leads_group d level (cell_of level r) ≡ false in
    let each = all_with (λ r. r.level ≡ d.level (key_of r)) (λ r. r.level ≤ level) Follows
    (λ r drawn below. leads_by_level d level r drawn ∙ le-ltb level r.level below) rs ranked low in
    all_map Follows (λ cell. leads_group d level cell ≡ false) (cell_of level) (λ r e. e) (filter (stays level) rs)
    (all_filter Follows (stays level) rs each)

-- the start leads cells of which none leads
led_by_start : (d : Draw) (level : ℕ) (cells : List Cell)
    → AllByRecursion (λ cell. leads_group d level cell ≡ false) cells → lead_of d level cells ≡ Start
unfolding lead_of
led_by_start d level [] none = refl
led_by_start d level (cell ∷ cells) none = ap (λ (b : Bool). cond b (Leader cell.key) Start) none.0

-- a key that stands higher leads the group that it begins
pub lead_of_higher : (d : Draw) (level : ℕ) (group : List Ranked) (first : Ranked) → AreRanked d group
    → 1 ≤ length group → first ≡ get_or group 0 first → level < first.level
    → Leader (key_of first) ≡ lead_of d level (cells_on level group)
unfolding lead_of
lead_of_higher d level [] first ranked some is above = absurd (omega arith)
lead_of_higher d level (r ∷ rs) first ranked some is above =
    let higher : level < r.level = subst (λ (x : Ranked). level < x.level) is above in
    let cell = cell_of level r in
    let leads : leads_group d level cell ≡ true = leads_by_level d level r ranked.0 ∙ lt-ltb level r.level higher in
    ap (λ (x : Ranked). Leader (key_of x)) is
    ∙ ap Leader (sym (cell_on-key level r.pair.now))
    ∙ sym (ap (λ (b : Bool). cond b (Leader cell.key) Start) leads)
    ∙ ap (lead_of d level) (sym (cells_on-stays level r rs (omega arith)))

-- and the start leads the others
pub lead_of_others : (d : Draw) (level : ℕ) (group : List Ranked) (first : Ranked) → AreRanked d group
    → 1 ≤ length group → AllByRecursion (λ r. r.level ≤ level) (drop 1 group)
    → first ≡ get_or group 0 first → first.level ≤ level
    → Start ≡ lead_of d level (cells_on level group)
lead_of_others d level [] first ranked some uncut is low = absurd (omega arith)
lead_of_others d level (r ∷ rs) first ranked some uncut is low =
    sym (led_by_start d level (cells_on level (r ∷ rs))
    (no_leader d level (r ∷ rs) ranked (subst (λ (x : Ranked). x.level ≤ level) is low, uncut)))
