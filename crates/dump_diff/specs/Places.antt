-- Where the steps of a dump stand in it.
use Rattle.std.specs.Prelude.{ℕ, List, [], ◌∷◌, Bool, true, false, ◌==◌}
use Rattle.std.specs.declared.cmp.Ordering.{Ordering}
use Rattle.std.specs.Ordering.{ordering_then, nat_cmp}
use Rattle.std.specs.Cmp.Lexicographic.{slice_cmp}
use Rattle.store_model.specs.Paths.{path_cmp}
use Rattle.dump_streams.specs.Dumps.{DumpStep, step_path}
use Rattle.dump_streams.specs.Dumps.DumpStep.{Make, Write, Set}

-- where a step stands in the dump of an entry: first comes what makes a directory or writes, by offset, and then come
-- the attributes, by name
abbrev pub part : DumpStep → List ℕ
part (Make p) = 0 ∷ 0 ∷ []
part (Write p at bytes) = 0 ∷ at ∷ []
part (Set p a bytes) = 1 ∷ a

abbrev pub part_cmp : DumpStep → DumpStep → Ordering
part_cmp c d = slice_cmp nat_cmp (part c) (part d)

-- the order of places: of paths, and at one path of the parts
abbrev pub place_cmp : DumpStep → DumpStep → Ordering
place_cmp c d = ordering_then (path_cmp (step_path c) (step_path d)) (part_cmp c d)

-- whether a step makes a directory
abbrev pub makes : DumpStep → Bool
makes (Make p) = true
makes (Write p at bytes) = false
makes (Set p a bytes) = false

-- whether it writes
abbrev pub writes : DumpStep → Bool
writes (Make p) = false
writes (Write p at bytes) = true
writes (Set p a bytes) = false

-- whether it sets an attribute
abbrev pub sets : DumpStep → Bool
sets (Make p) = false
sets (Write p at bytes) = false
sets (Set p a bytes) = true

-- whether a step is the first one of an entry
abbrev pub is_first : DumpStep → Bool
is_first (Make p) = true
is_first (Write p at bytes) = at == 0
is_first (Set p a bytes) = false
