-- What the host can have of a tree, and what making it there does.
use Rattle.std.specs.Prelude.{◌≡◌, ◌⊎◌, ℕ, Bool, true, false, not, ◌&&◌, ◌==◌, IsTrue, map, length}
use Rattle.std.specs.Prelude.{Option, Some, None, Result, Ok, Err, if◌then◌else◌}
use Rattle.std.specs.List.{filter, list_any, list_all}
use Rattle.store_model.specs.Paths.{Path}
use Rattle.store_model.specs.Trees.{Tree, Node, Entry, Attributes, IsTree, empty_tree}
use Rattle.store_model.specs.Trees.Node.{Directory, File}
use Rattle.host_names.specs.Reading.{has_host_text}
use Rattle.dump_streams.specs.Draining.{IsTooLong}
use Rattle.dump_streams.specs.Dumps.{DumpStep, after_step, step_path, dump}
use Rattle.dump_streams.specs.Streams.{Extends}
use Rattle.dump_streams.specs.declared.fault.StreamFault.{StreamFault}
use Rattle.host_builder.specs.declared.attribute.Wanted.{Wanted}
use Rattle.host_builder.specs.declared.attribute.Links.{Links}
use Rattle.host_builder.specs.declared.attribute.Links.TheVariants as links
use Rattle.host_builder.specs.declared.attribute.HostAttribute.{HostAttribute}
use Rattle.host_builder.specs.declared.attribute.HostAttribute.TheVariants as attributes
use Rattle.host_builder.specs.declared.making.BuildFault.{BuildFault}
use Rattle.host_builder.specs.declared.making.BuildFault.TheVariants as builds
use Rattle.host_builder.specs.Builders.{BuilderState, IsObservable, faults_after, risen}
use Rattle.host_builder.specs.HostAttributes.{attribute_of}
use Rattle.host_builder.specs.Passing.{is_passed}
use Rattle.host_builder.specs.Turns.{reads_links}

-- what a folder of the host has: its time
abbrev pub folder_has : Wanted → Option HostAttribute → Bool
folder_has wanted None = false
folder_has wanted (Some attributes.Executes) = false
folder_has wanted (Some (attributes.Time seconds)) = wanted.mtime
folder_has wanted (Some attributes.Link) = false

-- what a file has: its mode and its time
abbrev pub file_has : Wanted → Option HostAttribute → Bool
file_has wanted None = false
file_has wanted (Some attributes.Executes) = wanted.mode
file_has wanted (Some (attributes.Time seconds)) = wanted.mtime
file_has wanted (Some attributes.Link) = false

-- what a link has: the path that it leads to
abbrev pub link_has : Wanted → Option HostAttribute → Bool
link_has wanted None = false
link_has wanted (Some attributes.Executes) = false
link_has wanted (Some (attributes.Time seconds)) = false
link_has wanted (Some attributes.Link) = reads_links wanted.links

-- the attributes that have something on the host
abbrev pub kept : (Option HostAttribute → Bool) → Attributes → Attributes
kept has names = filter (λ a. has (attribute_of a.0 a.1)) names

-- whether a file becomes a link: it is empty, and has an attribute that says where the link leads
abbrev pub is_link : Wanted → Bool → Attributes → Bool
is_link wanted is_empty names = is_empty && list_any (λ a. link_has wanted (attribute_of a.0 a.1)) names

abbrev pub host_attributes : Wanted → Node → Attributes → Attributes
host_attributes wanted Directory names = kept (folder_has wanted) names
host_attributes wanted (File bytes) names = if is_link wanted (length bytes == 0) names
    then kept (link_has wanted) names else kept (file_has wanted) names

-- what the host has of an entry
abbrev pub host_entry : Wanted → Entry → Entry
host_entry wanted entry = record {
  node = entry.node;
  attributes = host_attributes wanted entry.node entry.attributes;
}

-- whether an entry is a link, and links are left out
abbrev pub leaves_links : Links → Bool
leaves_links links.Made = false
leaves_links links.LeftOut = true
leaves_links links.Data = false

abbrev pub is_link_node : Wanted → Node → Attributes → Bool
is_link_node wanted Directory names = false
is_link_node wanted (File bytes) names = is_link wanted (length bytes == 0) names

abbrev pub is_left_link : Wanted → Entry → Bool
is_left_link wanted entry = leaves_links wanted.links && is_link_node wanted entry.node entry.attributes

-- Whether the host is to have an entry of a tree: neither what is skipped since it has no path there, nor a link that
-- is left out.
abbrev pub is_made : Wanted → Path × Entry → Bool
is_made wanted e = is_passed wanted e.0 && not (is_left_link wanted e.1)

abbrev pub made_part : Wanted → Tree → Tree
made_part wanted t = filter (is_made wanted) t

-- how many entries of a tree it is not to have
abbrev pub count_left_out : Wanted → Tree → ℕ
count_left_out wanted t = length (filter (λ e. not (is_made wanted e)) t)

-- What the host has of a tree: those of its folders and files that it is to have, with those of their attributes that
-- are wanted and that the host can have. An empty file that is a link has nothing but what it leads to.
abbrev pub host_view : Wanted → Tree → Tree
host_view wanted t = map (λ e. (e.0, host_entry wanted e.1)) (made_part wanted t)

-- All that was made was taken away again, but for so much, which stays. So many calls had failed before.
pub record Unmakes (old new : BuilderState) (failed stays : ℕ) : Type 0 where
  pub observable : new.is_observable ≡ old.is_observable
  pub faults : new.faults ≡ risen failed stays
  pub holds : IsObservable old → old.holds ≡ empty_tree → stays ≡ 0 → new.holds ≡ empty_tree

module _ {S : Type 0} (came whole : S → Tree → Type 0) (fails : S → Tree → StreamFault → Type 0) where
  -- the stream told that its dump is whole, and what the host can have of its tree was made
  pub record MakesWhole (stream : S) (old new : BuilderState) (wanted : Wanted) (stays : ℕ) : Type 0 where
    pub tree : Tree
    pub whole_is : whole stream tree
    pub observable : new.is_observable ≡ old.is_observable
    pub faults : new.faults ≡ old.faults
    pub left_out : IsTree tree → new.left_out ≡ risen old.left_out (count_left_out wanted tree)
    pub named : wanted.skips ≡ false → IsTrue (list_all (λ e. has_host_text e.0) tree)
    pub holds : IsTree tree → IsObservable old → old.holds ≡ empty_tree → new.holds ≡ host_view wanted tree
    pub stays_is : stays ≡ 0

  -- the stream told a fault after the dump of a tree, or gave too many steps; no link was made
  pub record MakesFront (stream : S) (old new : BuilderState) (stays : ℕ) (fault : StreamFault) : Type 0 where
    pub tree : Tree
    pub why : fails stream tree fault ⊎ IsTooLong came stream tree fault
    pub unmakes : Unmakes old new old.faults stays
    pub links : new.has_links ≡ false

  -- Behind the steps of a tree, whose paths the host can have, came one on this path, which it cannot, and such are not
  -- skipped. No link was made.
  pub record MeetsObstacle (stream : S) (old new : BuilderState) (wanted : Wanted) (stays : ℕ) (path : Path)
      : Type 0 where
    pub tree : Tree
    pub step : DumpStep
    pub came_is : came stream (after_step tree step)
    pub extends : Extends tree step
    pub path_is : path ≡ step_path step
    pub text : has_host_text path ≡ false
    pub skips : wanted.skips ≡ false
    pub named : IsTrue (list_all (λ s. has_host_text (step_path s)) (dump tree))
    pub unmakes : Unmakes old new old.faults stays
    pub links : new.has_links ≡ false

  abbrev pub Makes : S → BuilderState → BuilderState → Wanted → ℕ → Result (Unit {0}) BuildFault → Type 0
  Makes stream old new wanted stays (Ok done) = MakesWhole stream old new wanted stays
  Makes stream old new wanted stays (Err (builds.Stream fault)) = MakesFront stream old new stays fault
  Makes stream old new wanted stays (Err (builds.Builder fault)) =
      Unmakes old new (faults_after {T = Unit {0}} old.faults (Err fault)) stays
  Makes stream old new wanted stays (Err (builds.NoName path)) = MeetsObstacle stream old new wanted stays path

  -- What a stream gives from which nothing came is made on the host.
  abbrev pub MakesView : S → S → BuilderState → BuilderState → Wanted → ℕ → Result (Unit {0}) BuildFault → Type 0
  MakesView first stream old new wanted stays result = came first empty_tree
      → Makes stream old new wanted stays result
