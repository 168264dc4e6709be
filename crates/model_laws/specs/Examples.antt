-- Words for the worked examples: all have the draw `ruler` and a seed of zeros.
use Rattle.std.specs.Prelude.{ℕ, List, [], ◌∷◌, ◌++◌, Some, None, codes}
use Prim.Native.String.{String}
use Rattle.std.specs.Int.{w32, to_be_bytes}
use Rattle.std.specs.List.{flat_map}
use Rattle.hex.specs.Hex.{encode_lower}
use Rattle.store_model.specs.declared.draw_kind.DrawKind.TheVariants.{Ruler}
use Rattle.store_model.specs.declared.version.Version.TheVariants.{One, Two}
use Rattle.store_model.specs.Lists.{zeros, zero_filled}
use Rattle.store_model.specs.Parameters.{Parameters, seed_len, with_version}
use Rattle.store_model.specs.Paths.{field_limit, key_len}
use Rattle.store_model.specs.Trees.{Tree, Node, Entry, Attributes, empty_tree}
use Rattle.store_model.specs.Trees.Node.{Directory}
use Rattle.store_model.specs.Pairs.{Pair, pairs}
use Rattle.store_model.specs.Labels.{Label}
use Rattle.store_model.specs.Labels.Lead.{Start, Leader}
use Rattle.store_model.specs.Draws.{draw_of}
use Rattle.store_model.specs.Pages.{Cell, Page, pages}
use Rattle.store_model.specs.Placement.{Table, place}
use Rattle.store_model.specs.Commands.{line}
use Rattle.store_model.specs.Scripts.{lines, replies, tree_after, replies_text}

-- the parameters of `format SLOTS HEIGHT ruler` and 64 zeros
abbrev pub ruler : ℕ → ℕ → Parameters
ruler slots height = record { slots = slots; height = height; kind = Ruler; seed = zeros seed_len; version = One }

-- and under version 2 of the format
abbrev pub ruler_two : ℕ → ℕ → Parameters
ruler_two slots height = with_version (ruler slots height) Two

-- a text of lines, each ended by LF
abbrev pub text : List String → List ℕ
text rows = flat_map (λ row. line (codes row)) rows

-- the replies to a script on the empty tree
abbrev pub output : Parameters → List ℕ → List ℕ
output p script = replies_text (replies empty_tree (lines script) p)

-- the tree, its pairs, the pages and the table after it
abbrev pub tree : Parameters → List ℕ → Tree
tree p script = tree_after empty_tree (lines script) p

abbrev pub pair_list : Parameters → List ℕ → List Pair
pair_list p script = pairs (tree p script) p

abbrev pub page_list : Parameters → List ℕ → List Page
page_list p script = pages (tree p script) p

abbrev pub table : Parameters → List ℕ → Table
table p script = place (draw_of p) (page_list p script)

-- a node without attributes, and a directory with these
abbrev pub bare : Node → Entry
bare node = record { node = node; attributes = [] }

abbrev pub directory_with : Attributes → Entry
directory_with attributes = record { node = Directory; attributes = attributes }

-- a line with bytes at its end, as one that writes them to a file
abbrev pub write_line : String → List ℕ → List ℕ
write_line front bytes = line (codes front ++ encode_lower bytes)

-- the key with these bytes in front
abbrev pub key_of : List ℕ → List ℕ
key_of front = zero_filled key_len front

-- the key of a block of the file with this name
abbrev pub block_key : List ℕ → ℕ → List ℕ
block_key name block = zero_filled field_limit name ++ to_be_bytes w32 block

abbrev pub start_label : ℕ → ℕ → Label
start_label level index = record { level = level; lead = Start; index = index }

-- the label of the first page of a group led by the key
abbrev pub led_label : ℕ → List ℕ → Label
led_label level front = record { level = level; lead = Leader (key_of front); index = 0 }

-- the cell of a directory at level 0, and of a key above
abbrev pub directory_cell : List ℕ → Cell
directory_cell front = record { key = key_of front; value = Some (1 ∷ []) }

abbrev pub key_cell : List ℕ → Cell
key_cell front = record { key = key_of front; value = None }

abbrev pub page : Label → List Cell → Page
page label cells = record { label = label; cells = cells }
