-- When a step is carried out on the host: at once, behind all others, or never.
use Rattle.std.specs.Prelude.{Bool, true, false, ◌&&◌, ◌==◌, List, [], ◌∷◌, ◌++◌, length, Option, Some, None}
use Rattle.std.specs.Prelude.{if◌then◌else◌}
use Rattle.std.specs.List.{flat_map}
use Rattle.std.specs.Fmt.{decimal}
use Rattle.store_model.specs.Paths.{Path, same_path}
use Rattle.dump_streams.specs.Dumps.{DumpStep}
use Rattle.dump_streams.specs.Dumps.DumpStep.{Make, Write, Set}
use Rattle.host_builder.specs.declared.attribute.Wanted.{Wanted}
use Rattle.host_builder.specs.declared.attribute.Links.{Links}
use Rattle.host_builder.specs.declared.attribute.Links.TheVariants as links
use Rattle.host_builder.specs.declared.attribute.HostAttribute.{HostAttribute}
use Rattle.host_builder.specs.declared.attribute.HostAttribute.TheVariants as attributes
use Rattle.host_builder.specs.declared.plan.Made.{Made}
use Rattle.host_builder.specs.declared.plan.Made.TheVariants as made
use Rattle.host_builder.specs.declared.plan.Turn.{Turn}
use Rattle.host_builder.specs.declared.plan.Turn.TheVariants as turns
use Rattle.host_builder.specs.declared.plan.Later.{Later}
use Rattle.host_builder.specs.declared.plan.Later.TheVariants as laters
use Rattle.host_builder.specs.HostAttributes.{attribute_of, mtime_name, link_name}

-- whether an empty file with the attribute is a link, made or left out
abbrev pub reads_links : Links → Bool
reads_links links.Made = true
reads_links links.LeftOut = true
reads_links links.Data = false

-- of a folder its time waits for what is made below it
abbrev pub folder_turn : Wanted → HostAttribute → Turn
folder_turn wanted attributes.Executes = turns.Never
folder_turn wanted (attributes.Time seconds) = if wanted.mtime then turns.Later else turns.Never
folder_turn wanted attributes.Link = turns.Never

-- of a file the link waits: it stands in the place of an empty one, which goes again where links are left out
abbrev pub file_turn : Wanted → Bool → HostAttribute → Turn
file_turn wanted is_empty attributes.Executes = if wanted.mode then turns.Now else turns.Never
file_turn wanted is_empty (attributes.Time seconds) = if wanted.mtime then turns.Now else turns.Never
file_turn wanted is_empty attributes.Link = if reads_links wanted.links && is_empty then turns.Later else turns.Never

-- an attribute of a path is of what was made last, and else of nothing on the host
abbrev pub attribute_turn : Wanted → Made → Path → HostAttribute → Turn
attribute_turn wanted made.Nothing path attribute = turns.Never
attribute_turn wanted (made.Folder at) path attribute =
    if same_path at path then folder_turn wanted attribute else turns.Never
attribute_turn wanted (made.File at is_empty) path attribute =
    if same_path at path then file_turn wanted is_empty attribute else turns.Never

abbrev pub set_turn : Wanted → Made → Path → Option HostAttribute → Turn
set_turn wanted last path None = turns.Never
set_turn wanted last path (Some attribute) = attribute_turn wanted last path attribute

abbrev pub turn_of : Wanted → Made → DumpStep → Turn
turn_of wanted last (Make path) = turns.Now
turn_of wanted last (Write path at bytes) = turns.Now
turn_of wanted last (Set path name bytes) = set_turn wanted last path (attribute_of name bytes)

-- what was made last, after an attribute: of a file that is to become a link no more is said
abbrev pub made_behind : Made → Turn → Made
made_behind made.Nothing turn = made.Nothing
made_behind (made.Folder at) turn = made.Folder at
made_behind (made.File at is_empty) turns.Now = made.File at is_empty
made_behind (made.File at is_empty) turns.Later = made.Nothing
made_behind (made.File at is_empty) turns.Never = made.File at is_empty

-- and after a step
abbrev pub made_after : Wanted → Made → DumpStep → Made
made_after wanted last (Make path) = made.Folder path
made_after wanted last (Write path at bytes) = made.File path (at == 0 && length bytes == 0)
made_after wanted last (Set path name bytes) = made_behind last (turn_of wanted last (Set path name bytes))

-- the step, where this is its turn
abbrev pub if_now : Turn → DumpStep → List DumpStep
if_now turns.Now s = s ∷ []
if_now turns.Later s = []
if_now turns.Never s = []

abbrev pub if_later : Turn → DumpStep → List DumpStep
if_later turns.Now s = []
if_later turns.Later s = s ∷ []
if_later turns.Never s = []

-- the steps that are carried out at once, those that wait, and what was made last
abbrev pub steps_now : Wanted → Made → List DumpStep → List DumpStep
steps_now wanted last [] = []
steps_now wanted last (s ∷ steps) =
    if_now (turn_of wanted last s) s ++ steps_now wanted (made_after wanted last s) steps

abbrev pub steps_later : Wanted → Made → List DumpStep → List DumpStep
steps_later wanted last [] = []
steps_later wanted last (s ∷ steps) =
    if_later (turn_of wanted last s) s ++ steps_later wanted (made_after wanted last s) steps

abbrev pub made_by : Wanted → Made → List DumpStep → Made
made_by wanted last [] = last
made_by wanted last (s ∷ steps) = made_by wanted (made_after wanted last s) steps

-- ---- what waits

-- the step that waits
abbrev pub later_step : Later → DumpStep
later_step (laters.Link path target) = Set path link_name target.items
later_step (laters.Time path seconds) = Set path mtime_name (decimal seconds)

-- those of links, and those of times
abbrev pub link_step : Later → List DumpStep
link_step (laters.Link path target) = Set path link_name target.items ∷ []
link_step (laters.Time path seconds) = []

abbrev pub time_step : Later → List DumpStep
time_step (laters.Link path target) = []
time_step (laters.Time path seconds) = Set path mtime_name (decimal seconds) ∷ []

abbrev pub link_steps : List Later → List DumpStep
link_steps later = flat_map link_step later

abbrev pub time_steps : List Later → List DumpStep
time_steps later = flat_map time_step later

-- the paths of links
abbrev pub link_path : Later → List Path
link_path (laters.Link path target) = path ∷ []
link_path (laters.Time path seconds) = []

abbrev pub link_paths : List Later → List Path
link_paths later = flat_map link_path later
