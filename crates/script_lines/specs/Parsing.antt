-- What is read from the fields of a line, and the program's commands seen as those of the definitions.
use Rattle.std.specs.Prelude.{◌≡◌, ℕ, ◌<◌, ◌≤◌, Bool, true, false, ◌||◌, List, [], ◌∷◌, length, Result, Ok, Err, Option}
use Rattle.std.specs.Prelude.{Some, None, ◌==◌, ◌&&◌, nat_le, if◌then◌else◌, codes}
use Rattle.std.specs.List.{slice_split}
use Rattle.store_model.specs.Lists.{same_bytes}
use Rattle.store_model.specs.Paths.{Path, fits_field}
use Rattle.store_model.specs.Grammar.{path_of, number_of, is_numeral, digits_value, content_of, attribute_name_of}
use Rattle.store_model.specs.Grammar.{◌>>=◌, on_word}
use Rattle.store_model.specs.Commands as model
use Rattle.store_model.specs.Commands.Command.{Make, Write, Cut, Rename, Remove, Prune, ListChildren, Read, Space}
use Rattle.store_model.specs.Commands.Command.{Digest, SetAttribute, UnsetAttribute, GetAttribute, ListAttributes}
use Rattle.store_model.specs.declared.refusal.Refusal.{Refusal}
use Rattle.store_model.specs.declared.refusal.Refusal.TheVariants as refusals
use Rattle.script_lines.specs.declared.command.Command.{Command}
use Rattle.script_lines.specs.declared.command.Command.TheVariants as declared
use Rattle.script_lines.specs.declared.fields.Fields.{Fields}
use Rattle.script_lines.specs.declared.fields.Fields.TheVariants as fields
use Rattle.script_lines.specs.declared.fields.CallFields.{CallFields}
use Rattle.script_lines.specs.declared.fields.CallFields.TheVariants as call_fields

-- the program's command, as the definitions have it
abbrev pub command_of : Command → model.Command
command_of (declared.Make p) = Make p
command_of (declared.Write p at bytes) = Write p at bytes
command_of (declared.Cut p len) = Cut p len
command_of (declared.Rename p q) = Rename p q
command_of (declared.Remove p) = Remove p
command_of (declared.Prune p) = Prune p
command_of (declared.List p) = ListChildren p
command_of (declared.Read p at len) = Read p at len
command_of declared.Space = Space
command_of declared.Digest = Digest
command_of (declared.Set p name bytes) = SetAttribute p name bytes
command_of (declared.Unset p name) = UnsetAttribute p name
command_of (declared.Get p name) = GetAttribute p name
command_of (declared.Attrs p) = ListAttributes p

-- what the program read, as the definitions have it
abbrev pub reading_of : Result Command Refusal → Result model.Command Refusal
reading_of (Ok c) = Ok (command_of c)
reading_of (Err refusal) = Err refusal

-- the greatest number of 64 bits
abbrev pub long_limit : ℕ
long_limit = 18446744073709551615

-- the number of 64 bits that a text spells, as fields spell numbers
unfoldable pub long_of : List ℕ → Option ℕ
long_of text = if is_numeral text && nat_le (digits_value text) long_limit then Some (digits_value text) else None

-- the parts of a line between its spaces
abbrev pub parts_of : List ℕ → List (List ℕ)
parts_of text = slice_split (λ c. c == 0x20) text

-- the fields are all the parts, or the parts are more than four
abbrev pub AreFields : Fields → List (List ℕ) → Type 0
AreFields (fields.One w) parts = parts ≡ w.now ∷ []
AreFields (fields.Two w a) parts = parts ≡ w.now ∷ a.now ∷ []
AreFields (fields.Three w a b) parts = parts ≡ w.now ∷ a.now ∷ b.now ∷ []
AreFields (fields.Four w a b c) parts = parts ≡ w.now ∷ a.now ∷ b.now ∷ c.now ∷ []
AreFields fields.More parts = 4 < length parts

-- the fields of a session's line are all the parts, or the first two of them and the parts of what stands behind these
abbrev pub AreCallFields : CallFields → List (List ℕ) → Type 0
AreCallFields (call_fields.One w) parts = parts ≡ w.now ∷ []
AreCallFields (call_fields.Two w s) parts = parts ≡ w.now ∷ s.now ∷ []
AreCallFields (call_fields.More w s rest) parts = parts ≡ w.now ∷ s.now ∷ parts_of rest.now

-- what a command is to be read from is not longer than the line
abbrev pub FitCallFields : ℕ → CallFields → Type 0
FitCallFields size (call_fields.One w) = Unit {0}
FitCallFields size (call_fields.Two w s) = Unit {0}
FitCallFields size (call_fields.More w s rest) = length rest.now ≤ size

-- whether a word is that of a command that changes the tree
abbrev pub is_change_word : List ℕ → Bool
is_change_word w =
    same_bytes w (codes "make") || same_bytes w (codes "write") || same_bytes w (codes "cut")
    || same_bytes w (codes "rename")
    || same_bytes w (codes "remove") || same_bytes w (codes "prune") || same_bytes w (codes "set")
    || same_bytes w (codes "unset")

-- whether the first field is such a word
abbrev pub has_change_word : List (List ℕ) → Bool
has_change_word [] = false
has_change_word (w ∷ fields) = is_change_word w

-- what a field says of a path: the path, or the refusal `syntax` or `path`
abbrev pub ReadsPath : List ℕ → Result Path Refusal → Type 0
ReadsPath text (Ok p) = (path_of text ≡ Some p) × (fits_field p ≡ true)
ReadsPath text (Err refusals.Syntax) = path_of text ≡ None
ReadsPath text (Err refusals.Path) = (p : Path) × (path_of text ≡ Some p) × (fits_field p ≡ false)
ReadsPath text (Err _) = ⊥

-- the last field is not longer than the line
abbrev pub FitFields : ℕ → Fields → Type 0
FitFields size (fields.One w) = length w.now ≤ size
FitFields size (fields.Two w a) = length a.now ≤ size
FitFields size (fields.Three w a b) = length b.now ≤ size
FitFields size (fields.Four w a b c) = length c.now ≤ size
FitFields size fields.More = Unit {0}

-- the command that reads at most so many bytes from an offset on
abbrev pub read_of : List ℕ → Option ℕ → List ℕ → Option model.Command
read_of path number count = path_of path >>= λ p. number >>= λ at. number_of count >>= λ len. Some (Read p at len)

-- the command that writes bytes from an offset on
abbrev pub write_of : List ℕ → Option ℕ → List ℕ → Option model.Command
write_of path number content = path_of path >>= λ p. number >>= λ at. content_of content >>=
    λ bytes. Some (Write p at bytes)

-- the command that renames one path to another
abbrev pub rename_of : List ℕ → List ℕ → Option model.Command
rename_of from to = path_of from >>= λ p. path_of to >>= λ q. Some (Rename p q)

-- the command of a word on an attribute of a path
abbrev pub on_attribute_of : List ℕ → List ℕ → List ℕ → Option model.Command
on_attribute_of word path name =
    on_word word (codes "unset") (path_of path >>= λ p. attribute_name_of name >>= λ n. Some (UnsetAttribute p n))
    (on_word word (codes "get") (path_of path >>= λ p. attribute_name_of name >>= λ n. Some (GetAttribute p n)) None)

-- the command of a word that gives a path an attribute
abbrev pub set_of : List ℕ → List ℕ → List ℕ → List ℕ → Option model.Command
set_of word path name content =
    on_word word (codes "set") (path_of path >>= λ p. attribute_name_of name >>= λ n. content_of content >>=
    λ bytes. Some (SetAttribute p n bytes)) None
