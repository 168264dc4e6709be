-- Attributes that say a fact of what was found.
use Rattle.std.specs.Prelude.{ℕ, List, [], ◌∷◌, Bool, map, Option, Some, None, option_map, option_to_list}
use Rattle.std.specs.Prelude.{if◌then◌else◌}
use Rattle.std.specs.List.{flat_map}
use Rattle.std.specs.Fmt.{decimal}
use Rattle.store_model.specs.Paths.{Name}
use Rattle.store_model.specs.Trees.{Attributes}
use Rattle.host_folders.specs.declared.attribute.Attribute.{Attribute}
use Rattle.host_folders.specs.declared.attribute.Says.{Says}
use Rattle.host_folders.specs.declared.attribute.Says.TheVariants as variants

-- the attribute that says that something is so: its one byte is `x`
abbrev pub marked : Name → Bool → Option (Name × List ℕ)
marked name is_so = if is_so then Some (name, 0x78 ∷ []) else None

-- the attribute that says a number in decimal digits
abbrev pub numbered : Name → Option ℕ → Option (Name × List ℕ)
numbered name None = None
numbered name (Some number) = Some (name, decimal number)

-- the bytes of an attribute
abbrev pub says : Says → List ℕ
says variants.Mark = 0x78 ∷ []
says (variants.Number number) = decimal number

-- an attribute, as its name and its bytes
abbrev pub attribute_of : Attribute → Name × List ℕ
attribute_of attribute = (attribute.name, says attribute.says)

-- those of some attributes that are there
abbrev pub somes : List (Option (Name × List ℕ)) → Attributes
somes attributes = flat_map option_to_list attributes

abbrev pub present : List (Option Attribute) → Attributes
present all = somes (map (option_map attribute_of) all)
