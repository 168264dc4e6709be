-- That a hasher holds a message is a fact.
use Rattle.std.specs.Prelude.{◌≡◌, ℕ, List, ◌^◌, ◌%◌, length}
use Rattle.std.proofs.Props.{props}
use Rattle.sha2.specs.Sha256.{Holds, IsAbsorbed, initial_hash_256}
use Rattle.sha2.specs.Hashers.{Holds256}
use Rattle.sha2.specs.declared.Sha256.{Sha256}

held-prop : (count : ℕ) (hash rest message : List ℕ)
    → IsProp ((count ≡ length message % 2 ^ 64) × IsAbsorbed initial_hash_256 hash rest message)
held-prop count hash rest message = hlevel (props)

pub holds-prop : (hasher : Sha256) (message : List ℕ) → IsProp (Holds256 hasher message)
unfolding Holds
holds-prop hasher message = held-prop hasher.core.total hasher.core.h hasher.core.buffer message
