-- The attributes of a path that say something of the host.
use Rattle.std.specs.Prelude.{◌≡◌, ℕ, ◌<◌, ◌^◌, Bool, false, ◌&&◌, ◌==◌, nat_lt, List, [], ◌∷◌, length, codes, Option}
use Rattle.std.specs.Prelude.{Some, None}
use Rattle.std.specs.Prelude.{if◌then◌else◌}
use Rattle.std.specs.List.{list_any}
use Rattle.std.specs.Fmt.{decimal}
use Rattle.std.specs.Str.{is_utf8}
use Rattle.std.specs.Str.Parse.{digits_value}
use Rattle.store_model.specs.Lists.{same_bytes}
use Rattle.store_model.specs.Paths.{Name}
use Rattle.host_builder.specs.declared.attribute.HostAttribute.{HostAttribute}
use Rattle.host_builder.specs.declared.attribute.HostAttribute.TheVariants as attributes

-- `mode`, the byte `x`: a file may be executed
abbrev pub mode_name : Name
mode_name = codes "mode"

abbrev pub mode_byte : List ℕ
mode_byte = 0x78 ∷ []

-- `mtime`: the seconds since 1970 of the last change, in decimal digits
abbrev pub mtime_name : Name
mtime_name = codes "mtime"

-- `link`, of an empty file: it is a link that leads there
abbrev pub link_name : Name
link_name = codes "link"

-- the seconds that digits say: fewer than 2^63, with no zero before them
abbrev pub seconds_of : List ℕ → Option ℕ
seconds_of digits = if same_bytes digits (decimal (digits_value 10 digits)) && nat_lt (digits_value 10 digits) (2 ^ 63)
    then Some (digits_value 10 digits) else None

-- whether a link may lead there: some bytes of UTF-8, and none of them zero
abbrev pub is_target : List ℕ → Bool
is_target bytes = if length bytes == 0 then false else if list_any (λ byte. byte == 0) bytes then false
    else is_utf8 bytes

-- what an attribute says of the host, if it says something
abbrev pub mode_of : List ℕ → Option HostAttribute
mode_of bytes = if same_bytes bytes mode_byte then Some attributes.Executes else None

abbrev pub time_of : Option ℕ → Option HostAttribute
time_of None = None
time_of (Some seconds) = Some (attributes.Time seconds)

abbrev pub link_of : List ℕ → Option HostAttribute
link_of bytes = if is_target bytes then Some attributes.Link else None

abbrev pub attribute_of : Name → List ℕ → Option HostAttribute
attribute_of name bytes = if same_bytes name mode_name then mode_of bytes
    else if same_bytes name mtime_name then time_of (seconds_of bytes)
    else if same_bytes name link_name then link_of bytes
    else None

-- such an attribute is spelled so
abbrev pub IsSpelled : Name → List ℕ → HostAttribute → Type 0
IsSpelled name bytes attributes.Executes = (name ≡ mode_name) × (bytes ≡ mode_byte)
IsSpelled name bytes (attributes.Time seconds) = (name ≡ mtime_name) × (bytes ≡ decimal seconds) × (seconds < 2 ^ 63)
IsSpelled name bytes attributes.Link = name ≡ link_name
