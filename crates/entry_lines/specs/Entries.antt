-- What is told of an entry of a tree, and what the steps of a dump tell of its entries.
use Rattle.std.specs.Prelude.{ℕ, ◌+◌, ◌==◌, Bool, true, false, List, [], ◌++◌, length, Option, Some, None}
use Rattle.std.specs.Prelude.{option_map, option_to_list, if◌then◌else◌}
use Rattle.std.specs.FinMap.{find}
use Rattle.store_model.specs.Paths.{Path, Name, name_cmp, same_path}
use Rattle.store_model.specs.Trees.{Node, Entry}
use Rattle.store_model.specs.Trees.Node.{Directory, File}
use Rattle.dump_streams.specs.Dumps.{DumpStep}
use Rattle.dump_streams.specs.Dumps.DumpStep.{Make, Write, Set}
use Rattle.host_builder.specs.declared.attribute.HostAttribute.{HostAttribute}
use Rattle.host_builder.specs.declared.attribute.HostAttribute.TheVariants as attributes
use Rattle.host_builder.specs.HostAttributes.{attribute_of, mode_name, mtime_name, link_name}
use Rattle.entry_lines.specs.declared.entry.EntryKind.{EntryKind}
use Rattle.entry_lines.specs.declared.entry.EntryKind.TheVariants as kinds
use Rattle.entry_lines.specs.declared.entry.EntryFacts.{EntryFacts}

-- ---- an entry of a tree

-- what stands at a path
abbrev pub kind_of : Node → EntryKind
kind_of Directory = kinds.Folder
kind_of (File bytes) = kinds.File (length bytes)

-- what an attribute says of the host, where it is there
abbrev pub said_by : Name → Option (List ℕ) → Option HostAttribute
said_by name None = None
said_by name (Some bytes) = attribute_of name bytes

-- whether it says that a file may be executed
abbrev pub says_executes : Option HostAttribute → Bool
says_executes None = false
says_executes (Some attributes.Executes) = true
says_executes (Some (attributes.Time seconds)) = false
says_executes (Some attributes.Link) = false

-- the seconds that it says
abbrev pub seconds_in : Option HostAttribute → Option ℕ
seconds_in None = None
seconds_in (Some attributes.Executes) = None
seconds_in (Some (attributes.Time seconds)) = Some seconds
seconds_in (Some attributes.Link) = None

-- its bytes, where it says that a link leads there
abbrev pub target_in : Option HostAttribute → List ℕ → Option (List ℕ)
target_in None bytes = None
target_in (Some attributes.Executes) bytes = None
target_in (Some (attributes.Time seconds)) bytes = None
target_in (Some attributes.Link) bytes = Some bytes

abbrev pub target_by : Option (List ℕ) → Option (List ℕ)
target_by None = None
target_by (Some bytes) = target_in (attribute_of link_name bytes) bytes

-- what is told of an entry: what stands there, how long it is, and what its attributes `mode`, `mtime` and `link` say
unfoldable pub facts_of : Path → Entry → EntryFacts
facts_of p e = record {
  path = p;
  kind = kind_of e.node;
  is_executable = says_executes (said_by mode_name (find name_cmp mode_name e.attributes));
  seconds = seconds_in (said_by mtime_name (find name_cmp mtime_name e.attributes));
  target = target_by (find name_cmp link_name e.attributes);
}

-- where the link leads that stands there, if one does: an empty file whose attribute says it
abbrev pub link_by : EntryKind → Option (List ℕ) → Option (List ℕ)
link_by kinds.Folder target = None
link_by (kinds.File len) target = if len == 0 then target else None

abbrev pub link_to : EntryFacts → Option (List ℕ)
link_to f = link_by f.kind f.target

-- ---- the steps of a dump

-- what is told of a path that has no attribute
abbrev pub bare_facts : Path → EntryKind → EntryFacts
bare_facts p kind = record { path = p; kind = kind; is_executable = false; seconds = None; target = None }

abbrev pub with_kind : EntryKind → EntryFacts → EntryFacts
with_kind kind f = record f { kind = kind }

-- and of one that is given an attribute, which says this of the host
abbrev pub with_said : EntryFacts → Option HostAttribute → List ℕ → EntryFacts
with_said f None bytes = f
with_said f (Some attributes.Executes) bytes = record f { is_executable = true }
with_said f (Some (attributes.Time seconds)) bytes = record f { seconds = Some seconds }
with_said f (Some attributes.Link) bytes = record f { target = Some bytes }

abbrev pub with_attribute : EntryFacts → Name → List ℕ → EntryFacts
with_attribute f name bytes = with_said f (attribute_of name bytes) bytes

-- what steps tell: the entries that are complete, and the one to which the next step may add
pub record Told : Type 0 where
  pub whole : List EntryFacts
  pub last : Option EntryFacts

abbrev pub told_from : Option EntryFacts → Told
told_from last = record { whole = []; last = last }

abbrev pub entries_of : Told → List EntryFacts
entries_of told = told.whole ++ option_to_list told.last

-- whether the last entry is that of the path
abbrev pub is_last : Option EntryFacts → Path → Bool
is_last None p = false
is_last (Some f) p = same_path f.path p

-- one entry more
abbrev pub begun : Told → EntryFacts → Told
begun told f = record { whole = entries_of told; last = Some f }

-- the last entry is another
abbrev pub changed : Told → (EntryFacts → EntryFacts) → Told
changed told change = record told { last = option_map change told.last }

-- what is told behind a step
abbrev pub tell : Told → DumpStep → Told
tell told (Make p) = begun told (bare_facts p kinds.Folder)
tell told (Write p at bytes) = if is_last told.last p then changed told
    (with_kind (kinds.File (at + length bytes))) else begun told (bare_facts p (kinds.File (at + length bytes)))
tell told (Set p name bytes) =
    if is_last told.last p then changed told (λ f. with_attribute f name bytes) else told
