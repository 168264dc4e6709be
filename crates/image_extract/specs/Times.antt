-- Trees none of whose paths has a time.
use Rattle.std.specs.Prelude.{◌≡◌, ℕ, true, Some}
use Rattle.std.specs.List.{AllByRecursion}
use Rattle.store_model.specs.Trees.{Tree, Attributes}
use Rattle.host_builder.specs.declared.attribute.HostAttribute.TheVariants as attributes
use Rattle.host_builder.specs.declared.attribute.Wanted.{Wanted}
use Rattle.host_builder.specs.HostAttributes.{attribute_of}

-- none of the attributes says a time, and none of those of any path
abbrev pub SayNoTime : Attributes → Type 0
SayNoTime names = AllByRecursion (λ a. (seconds : ℕ) → attribute_of a.0 a.1 ≡ Some (attributes.Time seconds) → ⊥) names

abbrev pub HasNoTime : Tree → Type 0
HasNoTime t = AllByRecursion (λ e. SayNoTime e.1.attributes) t

-- what is wanted, and times
abbrev pub with_times : Wanted → Wanted
with_times wanted = record { mode = wanted.mode; mtime = true; links = wanted.links; skips = wanted.skips }
