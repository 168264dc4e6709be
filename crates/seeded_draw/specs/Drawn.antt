-- The program's draws, seen as those of the definitions.
use Rattle.std.specs.Prelude.{ℕ, List, ◌∷◌, ◌++◌, take}
use Rattle.std.specs.Int.{w64, from_be_bytes}
use Rattle.sha2.specs.Sha256.{sha256}
use Rattle.store_model.specs.Labels.{Label, label_bytes}
use Rattle.store_model.specs.Draws.{Draw, ruler_start, ruler_level, sha256_start, sha256_level}

-- the draw `ruler` of a table and a height
abbrev pub ruler_draw : ℕ → ℕ → Draw
ruler_draw slots height = record {
  slots = slots;
  height = height;
  start = ruler_start slots;
  level = ruler_level height;
}

-- the draw `sha256` of a seed, a table and a height
abbrev pub sha256_draw : List ℕ → ℕ → ℕ → Draw
sha256_draw seed slots height = record {
  slots = slots;
  height = height;
  start = sha256_start seed slots;
  level = sha256_level seed height;
}

-- the number in the first eight bytes of a digest, high byte first
unfoldable pub number_of_digest : List ℕ → ℕ
number_of_digest digest = from_be_bytes w64 (take 8 digest)

-- the digest of a label: under `ruler` from the label alone, under `sha256` that from which its start is drawn
abbrev pub ruler_digest : Label → ℕ
ruler_digest l = number_of_digest (sha256 (label_bytes l))

abbrev pub sha256_digest : List ℕ → Label → ℕ
sha256_digest seed l = number_of_digest (sha256 (seed ++ 0x53 ∷ label_bytes l))
