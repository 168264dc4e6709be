-- Steps that are kept.
use Rattle.std.specs.Prelude.{◌≤◌, length}
use Rattle.store_model.specs.Paths.{Path}
use Rattle.dump_streams.specs.Dumps.{DumpStep}
use Rattle.dump_streams.specs.Dumps.DumpStep.{Make, Write, Set}
use Rattle.dump_diff.specs.declared.kept_step.KeptPart.{KeptPart}
use Rattle.dump_diff.specs.declared.kept_step.KeptPart.TheVariants as parts

-- the step of a path that has this part
abbrev pub kept_step : Path → KeptPart → DumpStep
kept_step p parts.Make = Make p
kept_step p (parts.Write at bytes) = Write p at bytes.items
kept_step p (parts.Set name bytes) = Set p name bytes.items

-- it has no more bytes than a change may have
abbrev pub IsShort : KeptPart → Type 0
IsShort parts.Make = Unit {0}
IsShort (parts.Write at bytes) = length bytes.items ≤ 4096
IsShort (parts.Set name bytes) = length bytes.items ≤ 4096
