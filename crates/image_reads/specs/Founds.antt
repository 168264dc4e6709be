-- What stands at a path of a tree, where an empty file may be a link.
use Rattle.std.specs.Prelude.{◌==◌, false, [], ◌∷◌, length, Option, Some, None, if◌then◌else◌}
use Rattle.store_model.specs.Paths.{Path}
use Rattle.store_model.specs.Trees.{Tree, Node, Attributes, node_at, attributes_at}
use Rattle.store_model.specs.Trees.Node.{Directory, File}
use Rattle.host_builder.specs.declared.attribute.Wanted.{Wanted}
use Rattle.host_builder.specs.declared.attribute.Links.TheVariants as links
use Rattle.host_builder.specs.Views.{is_link, link_has, kept}
use Rattle.image_reads.specs.declared.found.FileFound.{FileFound}
use Rattle.image_reads.specs.declared.found.FileFound.TheVariants as founds

-- links are made on the host, and nothing else is asked for
abbrev pub links_alone : Wanted
links_alone = record { mode = false; mtime = false; links = links.Made; skips = false }

-- where a link leads: what the attribute says that the host's link has
abbrev pub leads_to : Attributes → FileFound
leads_to [] = founds.File
leads_to (a ∷ names) = founds.Link a.1

-- what this is with these attributes: a file is a link exactly where the host makes a link of it
abbrev pub found_of : Option Node → Attributes → FileFound
found_of None names = founds.Nothing
found_of (Some Directory) names = founds.Folder
found_of (Some (File bytes)) names = if is_link links_alone (length bytes == 0) names
    then leads_to (kept (link_has links_alone) names) else founds.File

-- what stands at a path
abbrev pub found_at : Tree → Path → FileFound
found_at t p = found_of (node_at t p) (attributes_at t p)
