-- The steps of a walk, summed up.
use Rattle.std.proofs.Common.{◌≡◌, ℕ, zero, suc, ◌+◌, ◌*◌, ◌<◌, ◌≤◌, ◌⊎◌, inl, inr, List, subst}
use Rattle.std.proofs.Common.{arith}
use Rattle.store_model.specs.Labels.{Lead}
use Rattle.store_model.specs.Labels.Lead.{Start, Leader}
use Rattle.table_walk.specs.declared.entry.Entry.{Entry}
use Rattle.table_walk.specs.Indexes.{AreFewAlike}
use Rattle.table_walk.specs.Costs.{KeepsTo, vain_of}
use Rattle.table_walk.specs.Walked.{IsStart}

-- a walk that has not begun
pub keeps_first : (entries : List Entry) (steps left : ℕ) → KeepsTo entries steps steps left left 0
keeps_first entries steps left most few = omega arith

-- what allows for no label more allows for one
pub keeps_more : (entries : List Entry) (before after left now : ℕ) → KeepsTo entries before after left now 0
    → KeepsTo entries before after left now 1
keeps_more entries before after left now keeps most few = let bound = keeps most few in omega (arith, bound)

-- a walk that goes on
pub keeps_then : (entries : List Entry) (before mid after left between now more : ℕ)
    → KeepsTo entries before mid left between 0 → KeepsTo entries mid after between now more
    → KeepsTo entries before after left now more
keeps_then entries before mid after left between now more first second most few =
    let a = first most few in let b = second most few in omega (arith, a, b)

-- so many runs of a group were met, each by one label of the two that its page allows for
abbrev pub RunsKeepTo : List Entry → ℕ → ℕ → ℕ → ℕ → ℕ → Type 0
RunsKeepTo entries before after left now runs = (most : ℕ) → AreFewAlike entries most
    → after + (2 * now + runs) * (1 + most) ≤ before + 2 * left * (1 + most)

pub runs_first : (entries : List Entry) (steps left : ℕ) → RunsKeepTo entries steps steps left left 0
runs_first entries steps left most few = omega arith

-- one more label is looked for
abbrev pub LooksOnce : List Entry → ℕ → ℕ → Type 0
LooksOnce entries before after = (most : ℕ) → AreFewAlike entries most → after ≤ before + 1 + most

pub looks_once : (entries : List Entry) (before tick after : ℕ) → tick ≡ before + 1
    → ((most : ℕ) → AreFewAlike entries most → after ≤ tick + most) → LooksOnce entries before after
looks_once entries before tick after is looks most few = let bound = looks most few in omega (arith, is, bound)

-- the label is that of no page
pub runs_vain : (entries : List Entry) (before now after left pages runs : ℕ)
    → RunsKeepTo entries before now left pages runs → LooksOnce entries now after
    → KeepsTo entries before after left pages 1
runs_vain entries before now after left pages runs so_far looks most few =
    let a = so_far most few in let b = looks most few in omega (arith, a, b)

-- behind some runs, or where the start leads
pub runs_end : (entries : List Entry) (before now after left pages runs : ℕ) (lead : Lead)
    → RunsKeepTo entries before now left pages runs → LooksOnce entries now after → (0 < runs) ⊎ IsStart lead
    → KeepsTo entries before after left pages (vain_of lead)
runs_end entries before now after left pages runs Start so_far looks some =
    runs_vain entries before now after left pages runs so_far looks
runs_end entries before now after left pages zero (Leader key) so_far looks some = elim some [
  | inl low ↦ absurd (omega (arith, low))
  | inr none ↦ absurd none
]
runs_end entries before now after left pages (suc runs) (Leader key) so_far looks some =
    λ most few. let a = so_far most few in let b = looks most few in omega (arith, a, b)

-- a page is met
pub runs_met : (entries : List Entry) (before now after left pages taken runs : ℕ)
    → RunsKeepTo entries before now left pages runs → LooksOnce entries now after → pages ≡ taken + 1
    → RunsKeepTo entries before after left taken (runs + 1)
runs_met entries before now after left pages taken runs so_far looks is most few =
    let a = subst (λ (n : ℕ). now + (2 * n + runs) * (1 + most) ≤ before + 2 * left * (1 + most)) is (so_far most few)
    in
    let b = looks most few in omega (arith, a, b)

-- all below it is walked over
pub runs_below : (entries : List Entry) (before now after left pages then runs : ℕ)
    → RunsKeepTo entries before now left pages runs → KeepsTo entries now after pages then 0
    → RunsKeepTo entries before after left then runs
runs_below entries before now after left pages then runs so_far below most few =
    let a = so_far most few in let b = below most few in omega (arith, a, b)

-- or the walk ends below it
pub runs_early : (entries : List Entry) (before now after left pages then runs : ℕ)
    → RunsKeepTo entries before now left pages (runs + 1) → KeepsTo entries now after pages then 1
    → KeepsTo entries before after left then 1
runs_early entries before now after left pages then runs so_far below most few =
    let a = so_far most few in let b = below most few in omega (arith, a, b)

-- the last run is walked over
pub runs_whole : (entries : List Entry) (before after left now runs : ℕ) (lead : Lead)
    → RunsKeepTo entries before after left now runs → KeepsTo entries before after left now (vain_of lead)
runs_whole entries before after left now runs Start so_far most few = let a = so_far most few in omega (arith, a)
runs_whole entries before after left now runs (Leader key) so_far most few =
    let a = so_far most few in omega (arith, a)

-- a level more is walked over
pub levels_keep : (entries : List Entry) (before mid after left between now levels : ℕ)
    → KeepsTo entries before mid left between levels → KeepsTo entries mid after between now 1
    → KeepsTo entries before after left now (levels + 1)
levels_keep entries before mid after left between now levels first second most few =
    let a = first most few in let b = second most few in omega (arith, a, b)

-- products grow
grows : (a b c : ℕ) → a ≤ b → a * c ≤ b * c
grows a b zero less = omega arith
grows a b (suc c) less = let rest = grows a b c less in omega (arith, less, rest)

-- the levels are as many as the height at most
pub levels_within : (entries : List Entry) (before after left now levels height : ℕ)
    → KeepsTo entries before after left now levels → levels ≤ height
    → (most : ℕ) → AreFewAlike entries most → after ≤ before + (2 * left + height) * (1 + most)
levels_within entries before after left now levels height keeps within most few =
    let a = keeps most few in
    let b = grows (2 * left + levels) (2 * left + height) (1 + most) (omega (arith, within)) in
    omega (arith, a, b)
