-- The commands of a script, and the replies with their text.
use Rattle.std.specs.Prelude.{ℕ, ◌<◌, ◌^◌, IsTrue, List, [], ◌∷◌, ◌++◌, Option, Some, None, codes}
use Rattle.std.specs.Fmt.{decimal}
use Rattle.std.specs.List.{flat_map}
use Rattle.hex.specs.Hex.{encode_lower}
use Rattle.store_model.specs.declared.refusal.Refusal.{Refusal}
use Rattle.store_model.specs.declared.refusal.Refusal.TheVariants as refusals
use Rattle.store_model.specs.Lists.{IsBytes}
use Rattle.store_model.specs.Paths.{Path, Name, is_path, is_attribute_name, path_text}

pub data Command : Type 0 where
  Make : Path → Command
  Write : Path → ℕ → List ℕ → Command
  Cut : Path → ℕ → Command
  Rename : Path → Path → Command
  Remove : Path → Command
  Prune : Path → Command
  ListChildren : Path → Command
  Read : Path → ℕ → ℕ → Command
  Space : Command
  Digest : Command
  SetAttribute : Path → Name → List ℕ → Command
  UnsetAttribute : Path → Name → Command
  GetAttribute : Path → Name → Command
  ListAttributes : Path → Command

-- what a script can ask for: paths that keys can hold, names of attributes, bytes, numbers of 32 bits
abbrev pub IsCommand : Command → Type 0
IsCommand (Make p) = IsTrue (is_path p)
IsCommand (Write p at bytes) = IsTrue (is_path p) × (at < 2 ^ 32) × IsBytes bytes
IsCommand (Cut p len) = IsTrue (is_path p) × (len < 2 ^ 32)
IsCommand (Rename p q) = IsTrue (is_path p) × IsTrue (is_path q)
IsCommand (Remove p) = IsTrue (is_path p)
IsCommand (Prune p) = IsTrue (is_path p)
IsCommand (ListChildren p) = IsTrue (is_path p)
IsCommand (Read p at len) = IsTrue (is_path p) × (at < 2 ^ 32) × (len < 2 ^ 32)
IsCommand Space = Unit {0}
IsCommand Digest = Unit {0}
IsCommand (SetAttribute p a bytes) = IsTrue (is_path p) × IsTrue (is_attribute_name a) × IsBytes bytes
IsCommand (UnsetAttribute p a) = IsTrue (is_path p) × IsTrue (is_attribute_name a)
IsCommand (GetAttribute p a) = IsTrue (is_path p) × IsTrue (is_attribute_name a)
IsCommand (ListAttributes p) = IsTrue (is_path p)

-- a child's name, and for a file its size
abbrev pub Child : Type 0
Child = Name × Option ℕ

-- an attribute's name, and how many bytes it has
abbrev pub AttributeSize : Type 0
AttributeSize = Name × ℕ

pub data Reply : Type 0 where
  Acknowledged : Reply
  Content : List ℕ → Reply
  Listing : List Child → Reply
  AttributeListing : List AttributeSize → Reply
  PagesUsed : ℕ → ℕ → Reply
  ImageDigest : List ℕ → Reply
  Refused : Refusal → Reply

-- the word that a refusal prints
unfoldable pub refusal_text : Refusal → List ℕ
refusal_text refusals.Long = codes "long"
refusal_text refusals.Syntax = codes "syntax"
refusal_text refusals.Path = codes "path"
refusal_text refusals.Root = codes "root"
refusal_text refusals.Parent = codes "parent"
refusal_text refusals.Exists = codes "exists"
refusal_text refusals.Missing = codes "missing"
refusal_text refusals.Inside = codes "inside"
refusal_text refusals.Kind = codes "kind"
refusal_text refusals.Gap = codes "gap"
refusal_text refusals.Big = codes "big"
refusal_text refusals.NotEmpty = codes "notempty"
refusal_text refusals.Version = codes "version"
refusal_text refusals.NoAttr = codes "none"
refusal_text (refusals.Full need slots) = codes "full " ++ decimal need ++ codes " " ++ decimal slots

-- `-` for no bytes, and else two lower-case digits a byte
unfoldable pub content_text : List ℕ → List ℕ
content_text [] = codes "-"
content_text (b ∷ bytes) = encode_lower (b ∷ bytes)

-- a line of text: the text and LF
abbrev pub line : List ℕ → List ℕ
line text = text ++ 10 ∷ []

-- `d NAME` for a directory and `f NAME SIZE` for a file
unfoldable pub child_line : Child → List ℕ
child_line child = child_text child.0 child.1
  where
    child_text : Name → Option ℕ → List ℕ
    child_text name None = line (codes "d " ++ name)
    child_text name (Some size) = line (codes "f " ++ name ++ codes " " ++ decimal size)

-- `a NAME SIZE`
unfoldable pub attribute_line : AttributeSize → List ℕ
attribute_line attribute = line (codes "a " ++ attribute.0 ++ codes " " ++ decimal attribute.1)

-- the bytes of a reply, each of its lines ended by LF
unfoldable pub reply_text : Reply → List ℕ
reply_text Acknowledged = line (codes "ok")
reply_text (Content bytes) = line (codes "ok " ++ content_text bytes)
reply_text (Listing children) = flat_map child_line children ++ line (codes "end")
reply_text (AttributeListing attributes) = flat_map attribute_line attributes ++ line (codes "end")
reply_text (PagesUsed used slots) = line (codes "space " ++ decimal used ++ codes " " ++ decimal slots)
reply_text (ImageDigest digest) = line (codes "digest " ++ encode_lower digest)
reply_text (Refused refusal) = line (codes "no " ++ refusal_text refusal)

-- the text of a command: a word, and its fields with one space before each
unfoldable pub command_text : Command → List ℕ
command_text (Make p) = codes "make " ++ path_text p
command_text (Write p at bytes) = codes "write " ++ path_text p ++ codes " " ++ decimal at
    ++ codes " " ++ content_text bytes
command_text (Cut p len) = codes "cut " ++ path_text p ++ codes " " ++ decimal len
command_text (Rename p q) = codes "rename " ++ path_text p ++ codes " " ++ path_text q
command_text (Remove p) = codes "remove " ++ path_text p
command_text (Prune p) = codes "prune " ++ path_text p
command_text (ListChildren p) = codes "list " ++ path_text p
command_text (Read p at len) = codes "read " ++ path_text p ++ codes " " ++ decimal at ++ codes " " ++ decimal len
command_text Space = codes "space"
command_text Digest = codes "digest"
command_text (SetAttribute p a bytes) = codes "set " ++ path_text p ++ codes " " ++ a ++ codes " " ++ content_text bytes
command_text (UnsetAttribute p a) = codes "unset " ++ path_text p ++ codes " " ++ a
command_text (GetAttribute p a) = codes "get " ++ path_text p ++ codes " " ++ a
command_text (ListAttributes p) = codes "attrs " ++ path_text p
