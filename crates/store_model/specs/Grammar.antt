-- What a line of a script says. Fields are parted by exactly one space.
use Rattle.std.specs.Prelude.{ℕ, ◌+◌, ◌-◌, ◌*◌, List, [], ◌∷◌, Bool, true, false, not, ◌&&◌, Option, Some, None, Result}
use Rattle.std.specs.Prelude.{Ok, Err, nat_le, ◌==◌, if◌then◌else◌, codes}
use Rattle.std.specs.List.{list_all, slice_split, fold}
use Rattle.std.specs.Option.{option_map}
use Rattle.hex.specs.Hex.{decode_of}
use Rattle.hex.specs.declared.error.FromHexError.{FromHexError}
use Rattle.store_model.specs.declared.refusal.Refusal.{Refusal}
use Rattle.store_model.specs.declared.refusal.Refusal.TheVariants as refusals
use Rattle.store_model.specs.Lists.{same_bytes}
use Rattle.store_model.specs.Paths.{Path, Name, root, is_name, is_attribute_name, fits_field}
use Rattle.store_model.specs.Commands.{Command}
use Rattle.store_model.specs.Commands.Command.{Make, Write, Cut, Rename, Remove, Prune, ListChildren, Read, Space}
use Rattle.store_model.specs.Commands.Command.{Digest, SetAttribute, UnsetAttribute, GetAttribute, ListAttributes}

-- the greatest number
abbrev pub number_limit : ℕ
number_limit = 4294967295

abbrev pub is_digit : ℕ → Bool
is_digit c = nat_le 0x30 c && nat_le c 0x39

-- digits, with no leading zero but `0` itself
abbrev pub is_numeral : List ℕ → Bool
is_numeral [] = false
is_numeral (c ∷ []) = is_digit c
is_numeral (c ∷ d ∷ digits) = not (c == 0x30) && list_all is_digit (c ∷ d ∷ digits)

-- the number that digits spell
unfoldable pub digits_value : List ℕ → ℕ
digits_value digits = fold (λ n c. 10 * n + (c - 0x30)) 0 digits

-- the number that a field spells
unfoldable pub number_of : List ℕ → Option ℕ
number_of text = if is_numeral text && nat_le (digits_value text) number_limit then Some (digits_value text) else None

-- the names that the parts of a path's text spell
abbrev pub names_of : List (List ℕ) → Option Path
names_of names = if list_all is_name names then Some names else None

-- the path that a field spells, of any length: `/`, or `/` and a name one or more times
unfoldable pub path_of : List ℕ → Option Path
path_of [] = None
path_of (c ∷ []) = if c == 0x2f then Some root else None
path_of (c ∷ d ∷ text) = if c == 0x2f then names_of (slice_split (λ b. b == 0x2f) (d ∷ text)) else None

abbrev pub ok_value : Result (List ℕ) FromHexError → Option (List ℕ)
ok_value (Ok bytes) = Some bytes
ok_value (Err e) = None

-- the bytes that a field spells: `-` for none, or pairs of digits of either case
unfoldable pub content_of : List ℕ → Option (List ℕ)
content_of [] = None
content_of (c ∷ text) = if same_bytes (c ∷ text) (codes "-") then Some [] else ok_value (decode_of (c ∷ text))

-- the name of an attribute that a field spells
abbrev pub attribute_name_of : List ℕ → Option Name
attribute_name_of text = if is_attribute_name text then Some text else None

-- the next part of a command, where what comes before it is there
infixl 10 ◌>>=◌
abbrev pub ◌>>=◌ : {A B : Type 0} → Option A → (A → Option B) → Option B
None >>= f = None
(Some x) >>= f = f x

-- `here` where the word is the wanted one, and else `other`
abbrev pub on_word : {A : Type 0} → List ℕ → List ℕ → Option A → Option A → Option A
on_word word wanted here other = if same_bytes word wanted then here else other

-- the command that the fields of a line spell: by their number, and then by the word
unfoldable pub command_of_fields : List (List ℕ) → Option Command
command_of_fields (w ∷ []) =
    on_word w (codes "space") (Some Space)
    (on_word w (codes "digest") (Some Digest) None)
command_of_fields (w ∷ a ∷ []) =
    on_word w (codes "make") (option_map Make (path_of a))
    (on_word w (codes "remove") (option_map Remove (path_of a))
    (on_word w (codes "prune") (option_map Prune (path_of a))
    (on_word w (codes "list") (option_map ListChildren (path_of a))
    (on_word w (codes "attrs") (option_map ListAttributes (path_of a)) None))))
command_of_fields (w ∷ a ∷ b ∷ []) =
    on_word w (codes "cut") (path_of a >>= λ p. number_of b >>= λ n. Some (Cut p n))
    (on_word w (codes "rename") (path_of a >>= λ p. path_of b >>= λ q. Some (Rename p q))
    (on_word w (codes "unset") (path_of a >>= λ p. attribute_name_of b >>= λ n. Some (UnsetAttribute p n))
    (on_word w (codes "get") (path_of a >>= λ p. attribute_name_of b >>= λ n. Some (GetAttribute p n)) None)))
command_of_fields (w ∷ a ∷ b ∷ c ∷ []) =
    on_word w (codes "write") (path_of a >>= λ p. number_of b >>= λ n. content_of c >>= λ bytes. Some (Write p n bytes))
    (on_word w (codes "read") (path_of a >>= λ p. number_of b >>= λ n. number_of c >>= λ m. Some (Read p n m))
    (on_word w (codes "set") (path_of a >>= λ p. attribute_name_of b >>= λ n. content_of c >>=
    λ bytes. Some (SetAttribute p n bytes)) None))
command_of_fields _ = None

-- the command that a line spells, with paths of any length
unfoldable pub command_of : List ℕ → Option Command
command_of text = command_of_fields (slice_split (λ c. c == 0x20) text)

-- whether each path of the command fits the field of a key
unfoldable pub has_short_paths : Command → Bool
has_short_paths (Make p) = fits_field p
has_short_paths (Write p at bytes) = fits_field p
has_short_paths (Cut p len) = fits_field p
has_short_paths (Rename p q) = fits_field p && fits_field q
has_short_paths (Remove p) = fits_field p
has_short_paths (Prune p) = fits_field p
has_short_paths (ListChildren p) = fits_field p
has_short_paths (Read p at len) = fits_field p
has_short_paths Space = true
has_short_paths Digest = true
has_short_paths (SetAttribute p a bytes) = fits_field p
has_short_paths (UnsetAttribute p a) = fits_field p
has_short_paths (GetAttribute p a) = fits_field p
has_short_paths (ListAttributes p) = fits_field p

-- the command of a line that spells one, with paths that keys can hold; else the refusal `syntax` or `path`
abbrev pub checked_command : Option Command → Result Command Refusal
checked_command None = Err refusals.Syntax
checked_command (Some c) = if has_short_paths c then Ok c else Err refusals.Path

unfoldable pub parse : List ℕ → Result Command Refusal
parse text = checked_command (command_of text)
