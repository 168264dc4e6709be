-- What the steps of a dump say of a file that may be a link.
use Rattle.std.specs.Prelude.{◌≡◌, ℕ, ◌==◌, ◌&&◌, nat_lt, Bool, true, false, List, length, fold}
use Rattle.std.specs.Prelude.{Option, Some, None, if◌then◌else◌}
use Rattle.store_model.specs.Paths.{Path, Name, same_path}
use Rattle.store_model.specs.Trees.{attribute_limit}
use Rattle.script_lines.specs.SinkState.{SinkState}
use Rattle.dump_streams.specs.Dumps.{DumpStep}
use Rattle.dump_streams.specs.Dumps.DumpStep.{Make, Write, Set}
use Rattle.dump_streams.specs.declared.taker.TakerFault.{TakerFault}
use Rattle.dump_views.specs.Contents.{TookContents, BreaksOne}
use Rattle.dump_views.specs.declared.content.Standing.{Standing}
use Rattle.dump_views.specs.declared.content.Standing.TheVariants as standings
use Rattle.host_builder.specs.HostAttributes.{attribute_of}
use Rattle.entry_lines.specs.Entries.{target_in}
use Rattle.image_reads.specs.declared.found.FileFound.{FileFound}
use Rattle.image_reads.specs.declared.found.FileFound.TheVariants as founds
use Rattle.image_reads.specs.declared.found.FileTaker.{FileTaker}

-- where an attribute says that a link leads, if it says so and is no longer than one may be
abbrev pub said_target : Name → List ℕ → Option (List ℕ)
said_target name bytes = if nat_lt attribute_limit (length bytes) then None
    else target_in (attribute_of name bytes) bytes

-- and the first of several
abbrev pub target_by : Option (List ℕ) → Name × List ℕ → Option (List ℕ)
target_by None a = said_target a.0 a.1
target_by (Some target) a = Some target

-- whether a file is empty behind a step
abbrev pub empty_by : Path → Bool → DumpStep → Bool
empty_by p before (Make q) = before
empty_by p before (Write q at bytes) = if same_path p q then (length bytes == 0) && before else before
empty_by p before (Set q name bytes) = before

-- where a link leads that stands at a path, behind a step
abbrev pub leads_by : Path → Option (List ℕ) → DumpStep → Option (List ℕ)
leads_by p before (Make q) = before
leads_by p before (Write q at bytes) = before
leads_by p before (Set q name bytes) = if same_path p q then target_by before (name, bytes) else before

-- what is found where a file is empty or not, and its attributes say this of a link
abbrev pub found_file : Bool → Option (List ℕ) → FileFound
found_file false target = founds.File
found_file true None = founds.File
found_file true (Some target) = founds.Link target

abbrev pub found_by : Standing → Bool → Option (List ℕ) → FileFound
found_by standings.Nothing is_empty target = founds.Nothing
found_by standings.Directory is_empty target = founds.Folder
found_by standings.File is_empty target = found_file is_empty target

-- From one moment to a later one these steps were taken: what they write at the path was put into the sink, and what
-- they say of a link was noted.
pub record TookFile {W : Type 0} (sink_of : W → SinkState) (first now : FileTaker W) (steps : List DumpStep)
    : Type 0 where
  pub contents : TookContents sink_of first.contents now.contents steps
  pub path : now.path ≡ first.path
  pub is_empty : now.is_empty ≡ fold (empty_by first.path) first.is_empty steps
  pub target : now.target ≡ fold (leads_by first.path) first.target steps

-- a step was not taken: the sink failed
abbrev pub BreaksFile : {W : Type 0} → (W → SinkState) → FileTaker W → FileTaker W → DumpStep → TakerFault → Type 0
BreaksFile sink_of old new c fault = BreaksOne sink_of old.contents new.contents c fault
