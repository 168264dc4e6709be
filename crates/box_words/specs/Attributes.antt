-- What `attr` is asked for.
use Rattle.std.specs.Prelude.{ℕ, List, Bool, true, false, Option, Some, None, if◌then◌else◌, nat_le, length, codes}
use Rattle.std.specs.Prelude.{option_map, option_and_then}
use Rattle.hex.specs.Hex.{decode_of}
use Rattle.store_model.specs.Grammar.{ok_value}
use Rattle.store_model.specs.Lists.{same_bytes}
use Rattle.store_model.specs.Paths.{Name, is_attribute_name}
use Rattle.store_model.specs.Trees.{attribute_limit}
use Rattle.box_words.specs.declared.attr.NewValue.{NewValue}
use Rattle.box_words.specs.declared.attr.NewValue.TheVariants as values
use Rattle.box_words.specs.declared.attr.Deed.{Deed}
use Rattle.box_words.specs.declared.attr.Deed.TheVariants as deeds

-- bytes, where an attribute can have so many
abbrev pub fitting : List ℕ → Option (List ℕ)
fitting bytes = if nat_le (length bytes) attribute_limit then Some bytes else None

-- the value that bytes give an attribute: themselves, or those that they spell in hexadecimal digits
unfoldable pub value_said : Bool → List ℕ → Option (List ℕ)
value_said true given = option_and_then fitting (ok_value (decode_of given))
value_said false given = fitting given

-- what a word sets an attribute to
abbrev pub new_value : Bool → List ℕ → Option NewValue
new_value is_hex word = if same_bytes word (codes "-") then Some (values.Input is_hex)
    else option_map values.Bytes (value_said is_hex word)

-- the name that a word is
abbrev pub attribute_name : List ℕ → Option Name
attribute_name word = if is_attribute_name word then Some word else None

-- what is done, by the words NAME and VALUE, that of `-d`, and `--hex`: nothing where they do not go together
abbrev pub deed_said : Option (List ℕ) → Option (List ℕ) → Option (List ℕ) → Bool → Option Deed
deed_said None None None false = Some deeds.List
deed_said (Some name) None None is_hex = option_map (λ n. deeds.Print n is_hex) (attribute_name name)
deed_said (Some name) (Some value) None is_hex =
    option_and_then (λ n. option_map (deeds.Set n) (new_value is_hex value)) (attribute_name name)
deed_said None None (Some name) false = option_map deeds.Remove (attribute_name name)
deed_said name value removed is_hex = None
