-- The command line behind the image's path.
use Rattle.std.specs.Prelude.{ℕ, ◌*◌, List, [], ◌∷◌, length, ◌&&◌, Option, Some, None, nat_le, ◌==◌, if◌then◌else◌}
use Rattle.std.specs.Prelude.{codes}
use Rattle.hex.specs.Hex.{decode_of}
use Rattle.store_model.specs.declared.draw_kind.DrawKind.{DrawKind}
use Rattle.store_model.specs.declared.draw_kind.DrawKind.TheVariants.{Ruler, Sha256}
use Rattle.store_model.specs.declared.version.Version.{Version}
use Rattle.store_model.specs.declared.version.Version.TheVariants.{One, Two}
use Rattle.store_model.specs.Lists.{same_bytes}
use Rattle.store_model.specs.Parameters.{Parameters, slots_limit, height_limit, seed_len}
use Rattle.store_model.specs.Grammar.{number_of, ok_value, ◌>>=◌, on_word}
pub use Rattle.store_model.specs.Grammar.{on_word as on_command}

-- what the words ask for
pub data Request : Type 0 where
  Format : Parameters → Request
  Run : Request
  Session : Request
  Check : Request
  Scrub : Request
  Wipe : Request
  Upgrade : Request
  Dump : Request
  Load : Request
  Big : ℕ → ℕ → Request

-- the most commands that `big` makes
abbrev pub commands_limit : ℕ
commands_limit = 1000000

-- the number that a word spells, where it lies in the range
unfoldable pub number_in : ℕ → ℕ → List ℕ → Option ℕ
number_in low high word = number_of word >>= λ n. if nat_le low n && nat_le n high then Some n else None

-- the draw kind that a word names
unfoldable pub kind_of_word : List ℕ → Option DrawKind
kind_of_word word = if same_bytes word (codes "ruler") then Some Ruler else if same_bytes word
    (codes "sha256") then Some Sha256 else None

-- the bytes of a seed, two hexadecimal digits of either case a byte
unfoldable pub seed_of_word : List ℕ → Option (List ℕ)
seed_of_word word = if length word == 2 * seed_len then ok_value (decode_of word) else None

-- the version of the images that a word makes
unfoldable pub version_of_word : List ℕ → Option Version
version_of_word word = on_word word (codes "format") (Some One) (on_word word (codes "format2") (Some Two) None)

-- what a well-formed command line asks for: one word followed by just its arguments, all in range
unfoldable pub request_of : List (List ℕ) → Option Request
request_of (w ∷ []) =
    on_word w (codes "run") (Some Run)
    (on_word w (codes "session") (Some Session)
    (on_word w (codes "check") (Some Check)
    (on_word w (codes "scrub") (Some Scrub)
    (on_word w (codes "wipe") (Some Wipe)
    (on_word w (codes "upgrade") (Some Upgrade)
    (on_word w (codes "dump") (Some Dump)
    (on_word w (codes "load") (Some Load) None)))))))
request_of (w ∷ number ∷ count ∷ []) =
    on_word w (codes "big") (number_of number >>= λ n. number_in 1 commands_limit count >>= λ k. Some (Big n k)) None
request_of (w ∷ slots ∷ height ∷ kind ∷ seed ∷ []) =
    version_of_word w >>= λ v. number_in 1 slots_limit slots >>= λ n. number_in 1 height_limit height >>=
    λ h. kind_of_word kind >>= λ k. seed_of_word seed >>= λ s.
    Some (Format (record { slots = n; height = h; kind = k; seed = s; version = v }))
request_of _ = None
