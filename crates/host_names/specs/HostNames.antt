-- Names of a folder of the host, and how they travel as names of a path.
use Rattle.std.specs.Prelude.{ℕ, ◌+◌, ◌/◌, ◌%◌, List, [], ◌∷◌, length, Bool, not, ◌&&◌, nat_le, nat_lt, ◌==◌}
use Rattle.std.specs.Prelude.{if◌then◌else◌}
use Rattle.std.specs.List.{flat_map, list_all}
use Rattle.store_model.specs.Lists.{same_bytes}

-- printable ASCII other than the space and `%`
abbrev pub is_plain : ℕ → Bool
is_plain c = nat_le 0x21 c && nat_le c 0x7e && not (c == 0x25)

-- the hexadecimal digit of a number below 16: `0` to `9`, `A` to `F`
abbrev pub upper_digit : ℕ → ℕ
upper_digit n = if nat_lt n 10 then 0x30 + n else 0x37 + n

-- the spelling of a byte: itself, or `%` and two digits
abbrev pub escaped_byte : ℕ → List ℕ
escaped_byte c = if is_plain c then c ∷ [] else 0x25 ∷ upper_digit (c / 16) ∷ upper_digit (c % 16) ∷ []

-- the spelling of a name
unfoldable pub escaped : List ℕ → List ℕ
escaped name = flat_map escaped_byte name

-- a byte other than 0 and `/`
abbrev pub is_host_byte : ℕ → Bool
is_host_byte c = nat_le 1 c && nat_le c 0xff && not (c == 0x2f)

-- what a folder of the host can name a file: one byte or more, and neither `.` nor `..`
abbrev pub is_host_name : List ℕ → Bool
is_host_name n = nat_le 1 (length n) && list_all is_host_byte n && not (same_bytes n (0x2e ∷ []))
    && not (same_bytes n (0x2e ∷ 0x2e ∷ []))
