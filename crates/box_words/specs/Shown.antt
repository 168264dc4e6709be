-- How paths of an image are given by people and shown to them.
use Rattle.std.specs.Prelude.{◌≡◌, ℕ, List, [], ◌∷◌, length, Bool, true, not, ◌&&◌, nat_le, ◌==◌, map, Some}
use Rattle.std.specs.Prelude.{IsTrue, if◌then◌else◌, ◌/◌, ◌%◌}
use Rattle.std.specs.List.{filter, flat_map, slice_split, AllByRecursion}
use Rattle.std.specs.Char.{encode_utf8}
use Rattle.std.specs.Str.{chars}
use Rattle.store_model.specs.Paths.{Path, path_text}
use Rattle.store_model.specs.Lists.{same_bytes}
use Rattle.store_model.specs.Grammar.{path_of}
use Rattle.host_names.specs.HostNames.{escaped, is_host_name, upper_digit}
use Rattle.host_names.specs.HostPaths.{AreHostNames}
use Rattle.host_names.specs.Reading.{unescaped}
use Rattle.box_words.specs.declared.paths.Spelling.{Spelling}
use Rattle.box_words.specs.declared.paths.Spelling.TheVariants.{Host, Escaped}

-- a character that a terminal shows, and obeys not
abbrev pub is_visible : ℕ → Bool
is_visible c = nat_le 0x20 c && not (nat_le 0x7f c && nat_le c 0x9f)

-- a name, where it has bytes
abbrev pub name_in : List ℕ → List (List ℕ)
name_in n = filter (λ m. not (length m == 0)) (n ∷ [])

-- the parts that stand between a separator in a text, where they have bytes
unfoldable pub parts_between : ℕ → List ℕ → List (List ℕ)
parts_between separator text = filter (λ n. not (length n == 0)) (slice_split (λ b. b == separator) text)

-- the names that stand between the `/` of a text
abbrev pub names_between : List ℕ → List (List ℕ)
names_between = parts_between 0x2f

-- the text with a `/` in front, where it has bytes and none is there
abbrev pub with_slash : List ℕ → List ℕ
with_slash [] = []
with_slash (c ∷ text) = if c == 0x2f then c ∷ text else 0x2f ∷ c ∷ text

-- each is a name of the host
abbrev pub AllHost : List (List ℕ) → Type 0
AllHost names = AllByRecursion (λ n. IsTrue (is_host_name n)) names

-- the text has bytes, and the names between its `/` are names of the host whose spellings are the path
pub record IsOfHost (text : List ℕ) (path : Path) : Type 0 where
  pub some : nat_le 1 (length text) ≡ true
  pub are : AreHostNames path (names_between text)

-- the text spells the path, with or without a `/` in front
abbrev pub Spells : Spelling → List ℕ → Path → Type 0
Spells Host text path = IsOfHost text path
Spells Escaped text path = path_of (with_slash text) ≡ Some path

-- whether a name of a path is the spelling of a name of the host
abbrev pub is_spelling : List ℕ → Bool
is_spelling n = is_host_name (unescaped n) && same_bytes (escaped (unescaped n)) n

-- a name as it is shown: the name of the host that it spells, and itself where it spells none
abbrev pub shown_name : Spelling → List ℕ → List ℕ
shown_name Host n = if is_spelling n then unescaped n else n
shown_name Escaped n = n

-- a path as it is shown: `/` for the root, and else `/` and the name for each name
abbrev pub shown_text : Spelling → Path → List ℕ
shown_text spelling path = path_text (map (shown_name spelling) path)

-- whether a name of a path is read back as it is shown
abbrev pub reads_back : Spelling → List ℕ → Bool
reads_back Host n = is_spelling n
reads_back Escaped n = true

-- a byte as `\x1B`
abbrev pub hex_byte : ℕ → List ℕ
hex_byte b = 0x5c ∷ 0x78 ∷ upper_digit (b / 16) ∷ upper_digit (b % 16) ∷ []

-- a character as a terminal is shown it: a control character by its bytes
abbrev pub visible_char : ℕ → List ℕ
visible_char c = if is_visible c then encode_utf8 c else flat_map hex_byte (encode_utf8 c)

-- a text as a terminal is shown it
unfoldable pub visible_text : List ℕ → List ℕ
visible_text text = flat_map visible_char (chars text)

-- a byte of what is no text, as a terminal is shown it
abbrev pub visible_byte : ℕ → List ℕ
visible_byte b = if nat_le 0x20 b && nat_le b 0x7e then b ∷ [] else hex_byte b
