-- The steps of the second dump that are kept while two are compared.
use Rattle.std.specs.Prelude.{◌≡◌, List, [], ◌∷◌, ◌++◌, Bool, false, Option, Some, None, if◌then◌else◌}
use Rattle.std.specs.List.{filter, AllByRecursion}
use Rattle.std.specs.declared.cmp.Ordering.TheVariants.{Less}
use Rattle.store_model.specs.Paths.{Path, path_cmp, same_path}
use Rattle.dump_streams.specs.Dumps.{DumpStep, step_path}
use Rattle.dump_diff.specs.declared.differences.Differences.{Differences}
use Rattle.dump_diff.specs.declared.keeping.Keeping.{Keeping}
use Rattle.dump_diff.specs.Scripts.{is_addition}

-- whether a step is on the last path
abbrev pub is_of_last : Option Path → DumpStep → Bool
is_of_last None s = false
is_of_last (Some p) s = same_path p (step_path s)

-- nothing is kept yet
pub record KeepsNone (keeping : Keeping) (is_on : Bool) : Type 0 where
  pub on : keeping.is_on ≡ is_on
  pub last : keeping.last ≡ None
  pub steps : keeping.steps.items ≡ []
  pub own : keeping.own.items ≡ []

-- the additions among the steps of the last path are kept, and the others no longer
pub record Settles (found : Differences) (old new : Keeping) : Type 0 where
  pub steps : new.steps.items ≡ old.steps.items ++ filter (is_addition found) old.own.items
  pub own : new.own.items ≡ []

-- before a step all that is kept is settled, unless the step is on the last path
pub record MakesRoom (found : Differences) (s : DumpStep) (old new : Keeping) : Type 0 where
  pub last : new.last ≡ (if is_of_last old.last s then old.last else Some (step_path s))
  pub steps : new.steps.items ≡ (if is_of_last old.last s then old.steps.items else
      old.steps.items ++ filter (is_addition found) old.own.items)
  pub own : new.own.items ≡ (if is_of_last old.last s then old.own.items else [])

-- and then the step is kept
pub record KeepsStep (found : Differences) (s : DumpStep) (old new : Keeping) : Type 0 where
  pub last : new.last ≡ (if is_of_last old.last s then old.last else Some (step_path s))
  pub steps : new.steps.items ≡ (if is_of_last old.last s then old.steps.items else
      old.steps.items ++ filter (is_addition found) old.own.items)
  pub own : new.own.items ≡ (if is_of_last old.last s then old.own.items else []) ++ s ∷ []

-- what is kept of the steps before the last path, and those on it
abbrev pub StandsLast : Option Path → List DumpStep → List DumpStep → Type 0
StandsLast None front own = (front ≡ []) × (own ≡ [])
StandsLast (Some p) front own = AllByRecursion (λ s. path_cmp (step_path s) p ≡ Less) front
    × AllByRecursion (λ s. step_path s ≡ p) own × (own ≡ [] → ⊥)

-- Of these first steps of the second dump the additions are kept, as far as they stand before the last path, and of
-- that path all.
pub record KeepsAdditions (found : Differences) (keeping : Keeping) (ds : List DumpStep) : Type 0 where
  pub front : List DumpStep
  pub split : ds ≡ front ++ keeping.own.items
  pub stands : StandsLast keeping.last front keeping.own.items
  pub kept_is : keeping.steps.items ≡ filter (is_addition found) front
