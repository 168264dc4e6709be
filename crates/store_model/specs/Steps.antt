-- What a command answers on a tree, and the tree after it.
use Rattle.std.specs.Prelude.{ℕ, ◌+◌, List, [], ◌∷◌, map, length, take, drop, Bool, true, false, not, ◌&&◌, ◌||◌}
use Rattle.std.specs.Prelude.{Option, Some, None, is_some, unwrap_or, nat_lt, if◌then◌else◌}
use Rattle.std.specs.List.{list_any}
use Rattle.sha2.specs.Sha256.{sha256}
use Rattle.store_model.specs.declared.refusal.Refusal.{Refusal}
use Rattle.store_model.specs.declared.refusal.Refusal.TheVariants as refusals
use Rattle.store_model.specs.Lists.{overwrite}
use Rattle.store_model.specs.Parameters.{Parameters}
use Rattle.store_model.specs.Paths.{Path, Name, is_root, parent, last_name, is_inside, is_at_or_inside, replanted}
use Rattle.store_model.specs.Paths.{fits_field, fits_attribute}
use Rattle.store_model.specs.Trees.{Tree, Node, Entry, Attributes, file_limit, attribute_limit, exists, is_directory}
use Rattle.store_model.specs.Trees.{is_file, contents, attributes_at, attribute_at, children, with_node}
use Rattle.store_model.specs.Trees.{with_attributes, with_attribute, without_attribute, without, without_subtree, moved}
use Rattle.store_model.specs.Trees.Node.{Directory, File}
use Rattle.store_model.specs.Pairs.{has_attributes}
use Rattle.store_model.specs.Pages.{page_count}
use Rattle.store_model.specs.Images.{layout}
use Rattle.store_model.specs.Commands.{Command, Reply, Child, AttributeSize}
use Rattle.store_model.specs.Commands.Command.{Make, Write, Cut, Rename, Remove, Prune, ListChildren, Read, Space}
use Rattle.store_model.specs.Commands.Command.{Digest, SetAttribute, UnsetAttribute, GetAttribute, ListAttributes}
use Rattle.store_model.specs.Commands.Reply.{Acknowledged, Content, Listing, AttributeListing, PagesUsed, ImageDigest}
use Rattle.store_model.specs.Commands.Reply.{Refused}

-- the most bytes that one read may ask for
abbrev pub read_limit : ℕ
read_limit = 4096

-- whether a refusal holds, and which
abbrev pub Condition : Type 0
Condition = Bool × Refusal

-- the first refusal that holds
unfoldable pub first_refusal : List Condition → Option Refusal
first_refusal [] = None
first_refusal (condition ∷ conditions) = if condition.0 then Some condition.1 else first_refusal conditions

-- the conditions, each by name
abbrev pub root_refused : Path → Condition
root_refused p = (is_root p, refusals.Root)

abbrev pub parent_refused : Tree → Path → Condition
parent_refused t p = (not (is_directory t (parent p)), refusals.Parent)

abbrev pub exists_refused : Tree → Path → Condition
exists_refused t p = (exists t p, refusals.Exists)

abbrev pub missing_refused : Tree → Path → Condition
missing_refused t p = (not (exists t p), refusals.Missing)

-- the path has no attribute of the name
abbrev pub no_attribute_refused : Tree → Path → Name → Condition
no_attribute_refused t p a = (not (is_some (attribute_at t p a)), refusals.NoAttr)

-- whether the field of a path, or of one of its attributes, has no room in a key
abbrev pub is_too_long : Path → Attributes → Bool
is_too_long p attributes = not (fits_field p) || list_any (λ a. not (fits_attribute p a.0)) attributes

-- whether a move of p to q would give a path at p or below it, or an attribute of one, a longer field than keys have
unfoldable pub outgrows : Tree → Path → Path → Bool
outgrows t p q = list_any (λ e. is_at_or_inside e.0 p && is_too_long (replanted p q e.0) e.1.attributes) t

-- whether a directory has a child
abbrev pub has_child : Tree → Path → Bool
has_child t p = nat_lt 0 (length (children t p))

-- the refusals of a command in their order, all but `version` and `full`
unfoldable pub conditions : Tree → Command → List Condition
conditions t (Make p) = root_refused p ∷ parent_refused t p ∷ exists_refused t p ∷ []
conditions t (Write p at bytes) = parent_refused t p ∷ (is_directory t p, refusals.Kind)
    ∷ (nat_lt (length (contents t p)) at, refusals.Gap) ∷ (nat_lt file_limit (at + length bytes), refusals.Big) ∷ []
conditions t (Cut p len) = missing_refused t p ∷ (is_directory t p, refusals.Kind)
    ∷ (nat_lt (length (contents t p)) len, refusals.Gap) ∷ []
conditions t (Rename p q) = (is_root p || is_root q, refusals.Root) ∷ missing_refused t p
    ∷ (is_inside q p, refusals.Inside) ∷ parent_refused t q ∷ exists_refused t q ∷ (outgrows t p q, refusals.Path) ∷ []
conditions t (Remove p) = root_refused p ∷ missing_refused t p
    ∷ (is_directory t p && has_child t p, refusals.NotEmpty) ∷ []
conditions t (Prune p) = root_refused p ∷ missing_refused t p ∷ []
conditions t (ListChildren p) = missing_refused t p ∷ (is_file t p, refusals.Kind) ∷ []
conditions t (Read p at len) = missing_refused t p ∷ (is_directory t p, refusals.Kind)
    ∷ (nat_lt (length (contents t p)) at, refusals.Gap) ∷ (nat_lt read_limit len, refusals.Big) ∷ []
conditions t Space = []
conditions t Digest = []
conditions t (SetAttribute p a bytes) = root_refused p ∷ missing_refused t p
    ∷ (nat_lt attribute_limit (length bytes), refusals.Big) ∷ (not (fits_attribute p a), refusals.Path) ∷ []
conditions t (UnsetAttribute p a) = root_refused p ∷ missing_refused t p ∷ no_attribute_refused t p a ∷ []
conditions t (GetAttribute p a) = root_refused p ∷ missing_refused t p ∷ no_attribute_refused t p a ∷ []
conditions t (ListAttributes p) = root_refused p ∷ missing_refused t p ∷ []

-- the refusal of a command, `version` and `full` apart
abbrev pub refusal_of : Tree → Command → Option Refusal
refusal_of t c = first_refusal (conditions t c)

-- the tree after a command that is not refused
unfoldable pub next_tree : Tree → Command → Tree
next_tree t (Make p) = with_node t p Directory
next_tree t (Write p at bytes) = with_node t p (File (overwrite (contents t p) at bytes))
next_tree t (Cut p len) = with_node t p (File (take len (contents t p)))
next_tree t (Rename p q) = moved t p q
next_tree t (Remove p) = without t p
next_tree t (Prune p) = without_subtree t p
next_tree t (ListChildren p) = t
next_tree t (Read p at len) = t
next_tree t Space = t
next_tree t Digest = t
next_tree t (SetAttribute p a bytes) = with_attributes t p (with_attribute (attributes_at t p) a bytes)
next_tree t (UnsetAttribute p a) = with_attributes t p (without_attribute (attributes_at t p) a)
next_tree t (GetAttribute p a) = t
next_tree t (ListAttributes p) = t

-- a child's line in a listing
unfoldable pub child_of : Path × Entry → Child
child_of e = (last_name e.0, size e.1.node)
  where
    size : Node → Option ℕ
    size Directory = None
    size (File bytes) = Some (length bytes)

-- an attribute's line in a listing
abbrev pub size_of_attribute : Name × List ℕ → AttributeSize
size_of_attribute attribute = (attribute.0, length attribute.1)

-- the reply to a command that is not refused
unfoldable pub reply_of : Tree → Command → Parameters → Reply
reply_of t (Make path) p = Acknowledged
reply_of t (Write path at bytes) p = Acknowledged
reply_of t (Cut path len) p = Acknowledged
reply_of t (Rename from to) p = Acknowledged
reply_of t (Remove path) p = Acknowledged
reply_of t (Prune path) p = Acknowledged
reply_of t (ListChildren path) p = Listing (map child_of (children t path))
reply_of t (Read path at len) p = Content (take len (drop at (contents t path)))
reply_of t Space p = PagesUsed (page_count t p) p.slots
reply_of t Digest p = ImageDigest (sha256 (layout t p))
reply_of t (SetAttribute path a bytes) p = Acknowledged
reply_of t (UnsetAttribute path a) p = Acknowledged
reply_of t (GetAttribute path a) p = Content (unwrap_or (attribute_at t path a) [])
reply_of t (ListAttributes path) p = AttributeListing (map size_of_attribute (attributes_at t path))

-- whether `full` is among the refusals of a command: it may need pages
unfoldable pub may_fill : Command → Bool
may_fill (Make p) = true
may_fill (Write p at bytes) = true
may_fill (Cut p len) = false
may_fill (Rename p q) = true
may_fill (Remove p) = false
may_fill (Prune p) = false
may_fill (ListChildren p) = false
may_fill (Read p at len) = false
may_fill Space = false
may_fill Digest = false
may_fill (SetAttribute p a bytes) = true
may_fill (UnsetAttribute p a) = false
may_fill (GetAttribute p a) = false
may_fill (ListAttributes p) = false

-- whether a command is on attributes, which version 1 of the format has none of
unfoldable pub is_on_attributes : Command → Bool
is_on_attributes (Make p) = false
is_on_attributes (Write p at bytes) = false
is_on_attributes (Cut p len) = false
is_on_attributes (Rename p q) = false
is_on_attributes (Remove p) = false
is_on_attributes (Prune p) = false
is_on_attributes (ListChildren p) = false
is_on_attributes (Read p at len) = false
is_on_attributes Space = false
is_on_attributes Digest = false
is_on_attributes (SetAttribute p a bytes) = true
is_on_attributes (UnsetAttribute p a) = true
is_on_attributes (GetAttribute p a) = true
is_on_attributes (ListAttributes p) = true

-- a reply and the tree after it
pub record Step : Type 0 where
  pub reply : Reply
  pub tree : Tree

-- the step of a command whose other refusals do not hold: `full` where the next tree has more pages than slots
abbrev pub step_to : Tree → Command → Parameters → Tree → Step
step_to t c p next = if may_fill c && nat_lt p.slots (page_count next p) then
    (record { reply = Refused (refusals.Full (page_count next p) p.slots); tree = t }) else
    (record { reply = reply_of t c p; tree = next })

abbrev pub step_by : Tree → Command → Parameters → Option Refusal → Step
step_by t c p (Some refusal) = record { reply = Refused refusal; tree = t }
step_by t c p None = step_to t c p (next_tree t c)

-- whether a command is refused for its image's version
abbrev pub lacks_version : Command → Parameters → Bool
lacks_version c p = is_on_attributes c && not (has_attributes p.version)

-- a command's reply and the tree after it: `version`, the first other refusal that holds and the same tree, or what the
-- command does
unfoldable pub step : Tree → Command → Parameters → Step
step t c p = if lacks_version c p then (record {
  reply = Refused refusals.Version;
  tree = t;
}) else step_by t c p (refusal_of t c)
