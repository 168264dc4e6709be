-- Which steps of a dump are on something that the host can have by its path.
use Rattle.std.specs.Prelude.{ℕ, Bool, true, false, not, ◌&&◌, ◌||◌, ◌==◌, List}
use Rattle.std.specs.List.{filter}
use Rattle.store_model.specs.Paths.{Path}
use Rattle.host_names.specs.Reading.{has_host_text}
use Rattle.dump_streams.specs.Dumps.{DumpStep, step_path}
use Rattle.dump_streams.specs.Dumps.DumpStep.{Make, Write, Set}
use Rattle.host_builder.specs.declared.attribute.Wanted.{Wanted}

-- whether the host is to have what stands at a path: where that is asked for, all but what has no path there
abbrev pub is_passed : Wanted → Path → Bool
is_passed wanted path = not wanted.skips || has_host_text path

abbrev pub passes_step : Wanted → DumpStep → Bool
passes_step wanted s = is_passed wanted (step_path s)

-- the steps that are on such paths
abbrev pub passed : Wanted → List DumpStep → List DumpStep
passed wanted steps = filter (passes_step wanted) steps

-- whether a step is the first of those that make what stands at its path
abbrev pub begins : DumpStep → Bool
begins (Make path) = true
begins (Write path at bytes) = at == 0
begins (Set path name bytes) = false

-- the first steps of what is left out
abbrev pub is_left_begin : Wanted → DumpStep → Bool
is_left_begin wanted s = begins s && not (passes_step wanted s)

abbrev pub left_begins : Wanted → List DumpStep → List DumpStep
left_begins wanted steps = filter (is_left_begin wanted) steps
