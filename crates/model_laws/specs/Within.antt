-- Commands and lines that change nothing but at a path or below it.
use Rattle.std.specs.Prelude.{ℕ, List, Bool, true, ◌&&◌, Result, Ok, Err}
use Rattle.store_model.specs.declared.refusal.Refusal.{Refusal}
use Rattle.store_model.specs.Paths.{Path, is_at_or_inside}
use Rattle.store_model.specs.Commands.{Command}
use Rattle.store_model.specs.Commands.Command.{Make, Write, Cut, Rename, Remove, Prune, ListChildren, Read, Space}
use Rattle.store_model.specs.Commands.Command.{Digest, SetAttribute, UnsetAttribute, GetAttribute, ListAttributes}
use Rattle.store_model.specs.Grammar.{parse}

-- whether each path that the command may change is this one or lies below it; what only reads changes none
abbrev pub works_within : Path → Command → Bool
works_within at (Make p) = is_at_or_inside p at
works_within at (Write p from bytes) = is_at_or_inside p at
works_within at (Cut p len) = is_at_or_inside p at
works_within at (Rename p q) = is_at_or_inside p at && is_at_or_inside q at
works_within at (Remove p) = is_at_or_inside p at
works_within at (Prune p) = is_at_or_inside p at
works_within at (ListChildren p) = true
works_within at (Read p from len) = true
works_within at Space = true
works_within at Digest = true
works_within at (SetAttribute p a bytes) = is_at_or_inside p at
works_within at (UnsetAttribute p a) = is_at_or_inside p at
works_within at (GetAttribute p a) = true
works_within at (ListAttributes p) = true

-- the same of what was read of a line, which asks for nothing where it is refused
abbrev pub asks_within : Path → Result Command Refusal → Bool
asks_within at (Ok c) = works_within at c
asks_within at (Err refusal) = true

-- the same of a line
abbrev pub stays_within : Path → List ℕ → Bool
stays_within at text = asks_within at (parse text)
