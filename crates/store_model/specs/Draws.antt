-- The draw of an image: where the probe sequence of a label starts, and on how many levels a key stands.
use Rattle.std.specs.Prelude.{ℕ, ◌-◌, ◌/◌, ◌%◌, ◌<◌, min, List, [], ◌∷◌, ◌++◌, length, take, drop, ◌==◌, if◌then◌else◌}
use Rattle.std.specs.Int.{w32, w64, from_be_bytes}
use Rattle.std.specs.List.{flat_map, sum, count_by, take_while}
use Rattle.sha2.specs.Sha256.{sha256}
use Rattle.store_model.specs.declared.draw_kind.DrawKind.{DrawKind}
use Rattle.store_model.specs.declared.draw_kind.DrawKind.TheVariants.{Ruler, Sha256}
use Rattle.store_model.specs.Parameters.{Parameters}
use Rattle.store_model.specs.Paths.{field_limit}
use Rattle.store_model.specs.Labels.{Label, label_bytes}

-- the number of slots, the height, the start of a label and the level of a key
pub record Draw : Type 0 where
  pub slots : ℕ
  pub height : ℕ
  pub start : Label → ℕ
  pub level : List ℕ → ℕ

-- what every draw keeps: starts lie in the table, levels below the height
pub record IsLawful (d : Draw) : Type 0 where
  pub start_in_range : (l : Label) → d.start l < d.slots
  pub level_in_range : (k : List ℕ) → d.level k < d.height

-- the field of a key, and its block number
abbrev pub key_field : List ℕ → List ℕ
key_field k = take field_limit k

abbrev pub key_block : List ℕ → ℕ
key_block k = from_be_bytes w32 (drop field_limit k)

-- `ruler`: the sum of the label's bytes, modulo the number of slots
unfoldable pub ruler_start : ℕ → Label → ℕ
ruler_start slots l = sum (label_bytes l) % slots

-- `ruler`: at block number 0 the number of bytes 55 (hexadecimal) in the field, at most the height less 1; at every
-- other block number 0
unfoldable pub ruler_level : ℕ → List ℕ → ℕ
ruler_level height k = if key_block k == 0 then min (count_by (λ b. b == 0x55) (key_field k)) (height - 1) else 0

-- the hexadecimal digits of a byte string
abbrev pub hex_digits : List ℕ → List ℕ
hex_digits bytes = flat_map (λ b. b / 16 ∷ b % 16 ∷ []) bytes

-- the number in the digest's first eight bytes, modulo the number of slots
unfoldable pub start_of_digest : List ℕ → ℕ → ℕ
start_of_digest digest slots = from_be_bytes w64 (take 8 digest) % slots

-- the number of zero hexadecimal digits that the digest begins with, at most the height less 1
unfoldable pub level_of_digest : List ℕ → ℕ → ℕ
level_of_digest digest height = min (length (take_while (λ d. d == 0) (hex_digits digest))) (height - 1)

-- `sha256`: from the digest (FIPS 180-4) of the seed, the byte 53 (hexadecimal) and the label
unfoldable pub sha256_start : List ℕ → ℕ → Label → ℕ
sha256_start seed slots l = start_of_digest (sha256 (seed ++ 0x53 ∷ label_bytes l)) slots

-- `sha256`: from the digest of the seed, the byte 4C (hexadecimal) and the key
unfoldable pub sha256_level : List ℕ → ℕ → List ℕ → ℕ
sha256_level seed height k = level_of_digest (sha256 (seed ++ 0x4c ∷ k)) height

-- the start of a label and the level of a key under each kind of draw
abbrev pub start_by : DrawKind → Parameters → Label → ℕ
start_by Ruler p l = ruler_start p.slots l
start_by Sha256 p l = sha256_start p.seed p.slots l

abbrev pub level_by : DrawKind → Parameters → List ℕ → ℕ
level_by Ruler p k = ruler_level p.height k
level_by Sha256 p k = sha256_level p.seed p.height k

-- the draw of an image with these parameters
unfoldable pub draw_of : Parameters → Draw
draw_of p = record { slots = p.slots; height = p.height; start = start_by p.kind p; level = level_by p.kind p }
