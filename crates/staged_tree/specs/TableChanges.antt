-- The slots in which two tables differ.
use Rattle.std.specs.Prelude.{ℕ, List, [], None, not, slice_get}
use Rattle.std.specs.List.{count_by}
use Rattle.std.specs.Option.{option_map_or}
use Rattle.store_model.specs.Lists.{numbers_below, same_bytes}
use Rattle.store_model.specs.declared.version.Version.TheVariants.{Two}
use Rattle.store_model.specs.Parameters.{Parameters, with_version}
use Rattle.store_model.specs.Trees.{Tree}
use Rattle.store_model.specs.Placement.{Table}
use Rattle.store_model.specs.Images.{slot_bytes}
use Rattle.layout_conditions.specs.Layouts.{table_of_tree}

-- the bytes of slot i of the table, and none past its end
abbrev pub bytes_of : Table → ℕ → List ℕ
bytes_of table i = option_map_or slot_bytes (slice_get table i) []

-- how many of the first slots have other bytes in the one table than in the other
abbrev pub differing : Table → Table → ℕ → ℕ
differing old new slots = count_by (λ i. not (same_bytes (bytes_of old i) (bytes_of new i))) (numbers_below slots)

-- how many slots differ between the layouts of two trees
abbrev pub slots_between : Parameters → Tree → Tree → ℕ
slots_between p t u = differing (table_of_tree t p) (table_of_tree u p) p.slots

-- and between those of one tree under parameters, and under the same with version 2
abbrev pub slots_upgraded : Parameters → Tree → ℕ
slots_upgraded p t = differing (table_of_tree t p) (table_of_tree t (with_version p Two)) p.slots

-- the bytes of a slot that holds no page
abbrev pub empty_slot : ℕ → List ℕ
empty_slot i = slot_bytes None
