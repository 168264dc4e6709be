use Rattle.std.proofs.Common.{ℕ, ◌<◌, [], ◌∷◌, codes, replicate, refl, arith}
use Rattle.model_laws.specs.Compute.{everything}
use Rattle.store_model.specs.Lists.{IsBytes, zeros}
use Rattle.store_model.specs.Trees.{IsAttribute}
use Rattle.store_model.proofs.ListsLemmas.{all_replicate, bytes_from_all}
use Rattle.model_laws.proofs.examples.attributes.attributes_in_trees.Goals as goal

-- zeros are bytes
bytes_of_zeros : (n : ℕ) → IsBytes (zeros n)
bytes_of_zeros n = bytes_from_all (zeros n) (all_replicate (λ x. x < 256) n 0 (omega arith))

-- no bytes, and one
none : IsAttribute (codes "d" ∷ []) (codes "K", [])
unfolding everything
none = record { name = refl; fits = refl; short = omega arith; bytes = bytes_from_all [] tt }

one : IsAttribute (codes "d" ∷ []) (codes "k", 0xff ∷ [])
unfolding everything
one = record { name = refl; fits = refl; short = omega arith; bytes = bytes_from_all (0xff ∷ []) (omega arith, tt) }

-- the longest name and the most bytes
longest : IsAttribute (codes "d" ∷ []) (replicate 32 0x6e, zeros 255)
unfolding everything
longest = record { name = refl; fits = refl; short = omega arith; bytes = bytes_of_zeros 255 }

pub returns-clause-tree : goal.returns-clause-tree
unfolding everything
returns-clause-tree c = record {
  sorted = refl;
  entries = (
    record {
      path = refl;
      below_root = refl;
      parent_directory = refl;
      node = tt;
      attributes = record { sorted = refl; each = (none, (one, (longest, tt))) };
    },
    tt,
  );
}
