-- The bytes that any text tells. Of a spelling they are the name; of each other text they have another spelling.
use Rattle.std.specs.Prelude.{ℕ, ◌+◌, ◌-◌, ◌*◌, List, [], ◌∷◌, Bool, ◌&&◌, nat_le, ◌==◌, if◌then◌else◌}
use Rattle.std.specs.List.{list_all}
use Rattle.std.specs.Str.{is_utf8}
use Rattle.store_model.specs.Lists.{same_bytes}
use Rattle.store_model.specs.Paths.{Path}
use Rattle.host_names.specs.HostNames.{escaped, is_host_name}

-- the number of an upper-case hexadecimal digit, and 0 for each other byte
abbrev pub digit_value : ℕ → ℕ
digit_value c = if nat_le 0x30 c && nat_le c 0x39 then c - 0x30 else if nat_le 0x41 c
    && nat_le c 0x46 then c - 0x37 else 0

-- each byte, but that of two digits for `%` with two bytes behind it
unfoldable pub unescaped : List ℕ → List ℕ
unescaped [] = []
unescaped (c ∷ []) = c ∷ []
unescaped (c ∷ h ∷ []) = c ∷ h ∷ []
unescaped (c ∷ h ∷ l ∷ text) = if c == 0x25 then (16 * digit_value h + digit_value l) ∷ unescaped text else c
    ∷ unescaped (h ∷ l ∷ text)

-- whether a name of a path is the spelling of a name of the host
abbrev pub is_spelling : List ℕ → Bool
is_spelling n = is_host_name (unescaped n) && same_bytes (escaped (unescaped n)) n

-- and whether that is UTF-8
abbrev pub is_text_spelling : List ℕ → Bool
is_text_spelling n = is_spelling n && is_utf8 (unescaped n)

-- whether the path has one on the host that is UTF-8, in a folder that has one
abbrev pub has_host_text : Path → Bool
has_host_text path = list_all is_text_spelling path
