-- What a walk takes: a step for each label that it looks for, and one for each look at a slot.
use Rattle.std.specs.Prelude.{ℕ, ◌+◌, ◌*◌, ◌≤◌, List, Bool, Result, IfOk, IsTrue}
use Rattle.store_model.specs.Labels.{Lead}
use Rattle.store_model.specs.Labels.Lead.{Start, Leader}
use Rattle.store_base.specs.declared.store_fault.Fault.{Fault}
use Rattle.table_walk.specs.declared.entry.Entry.{Entry}
use Rattle.table_walk.specs.Indexes.{AreFewAlike}

-- Pages that are left became fewer. For each of them two labels were looked for at most, and then so many more. For
-- each label no more slots were looked at than entries have one digest.
abbrev pub KeepsTo : List Entry → ℕ → ℕ → ℕ → ℕ → ℕ → Type 0
KeepsTo entries before after left now more = (most : ℕ) → AreFewAlike entries most
    → after + 2 * now * (1 + most) ≤ before + (2 * left + more) * (1 + most)

-- how many labels are looked for in vain where a group is none: that of the start may be none
abbrev pub vain_of : Lead → ℕ
vain_of Start = 1
vain_of (Leader key) = 0

-- what a walk takes over some of the pages: where it ends early, one label may have been looked for in vain
pub record TakesSteps (entries : List Entry) (before after left now vain : ℕ)
    (result : Result Bool Fault) : Type 0 where
  pub most : KeepsTo entries before after left now 1
  pub whole : IfOk result (λ whole. IsTrue whole → KeepsTo entries before after left now vain)
