use Rattle.std.proofs.Common.{◌≡◌, [], ◌∷◌, codes, Less, Equal, Greater}
use Rattle.model_laws.specs.Compute.{everything}
use Rattle.store_model.specs.Paths.{key_cmp}
use Rattle.model_laws.specs.Examples.{key_of}
use Rattle.store_model.proofs.ListsLemmas.{rising_head}
use Rattle.model_laws.proofs.examples.ranges.no_pages.Goals as goal

pub returns-clause-falling : goal.returns-clause-falling
unfolding everything
returns-clause-falling c is = let below : Greater ≡ Less =
    (rising_head key_cmp (key_of (codes "b")) (key_of (codes "a") ∷ []) is.rising).0 in cc

pub returns-clause-twice : goal.returns-clause-twice
unfolding everything
returns-clause-twice c is = let below : Equal ≡ Less =
    (rising_head key_cmp (key_of (codes "a")) (key_of (codes "a") ∷ []) is.rising).0 in cc
