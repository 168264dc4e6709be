-- What the words of the subcommands mean that only change an image.
use Rattle.std.specs.Prelude.{ℕ, Bool, true, false, List}
use Rattle.store_model.specs.Paths.{Path, Name}
use Rattle.store_model.specs.Commands.Command.{SetAttribute, UnsetAttribute}
use Rattle.tree_changes.specs.Removals.{IsRemoved, IsUnremoved}
use Rattle.tree_changes.specs.Folders.{AreMade, IsUnmade, AreMadeWithParents, IsInTheWay}
use Rattle.tree_changes.specs.Moves.{IsMoved, IsUnmoved}
use Rattle.tree_changes.specs.AttributeChanges.{HasSet, HasUnset, IsRefusedAt}
use Rattle.image_changes.specs.declared.removal.Removal.{Removal}
use Rattle.box_changes.specs.Changing.{Meaning, Refusing}

-- `rm`
abbrev pub removal_means : Removal → List Path → Meaning
removal_means removal paths p t u = IsRemoved removal.recursive removal.forced paths t u

abbrev pub removal_refuses : Removal → List Path → Refusing
removal_refuses removal paths p t path why = IsUnremoved removal.recursive removal.forced paths t path why

-- `mkdir`, with `-p` or without
abbrev pub making_means : Bool → List Path → Meaning
making_means false paths p t u = AreMade paths t u
making_means true paths p t u = AreMadeWithParents paths t u

abbrev pub making_refuses : Bool → List Path → Refusing
making_refuses false paths p t path why = IsUnmade paths t path why
making_refuses true paths p t path why = IsInTheWay paths t path why

-- `mv`
abbrev pub move_means : Bool → Path → Path → Meaning
move_means forced from to p t u = IsMoved forced from to t u

abbrev pub move_refuses : Bool → Path → Path → Refusing
move_refuses forced from to p t path why = IsUnmoved forced from to t path why

-- `attr` with a value, and `attr -d`
abbrev pub set_means : Path → Name → List ℕ → Meaning
set_means path name bytes p t u = HasSet p path name bytes t u

abbrev pub set_refuses : Path → Name → List ℕ → Refusing
set_refuses path name bytes p t place why = IsRefusedAt p path (SetAttribute path name bytes) t place why

abbrev pub unset_means : Path → Name → Meaning
unset_means path name p t u = HasUnset p path name t u

abbrev pub unset_refuses : Path → Name → Refusing
unset_refuses path name p t place why = IsRefusedAt p path (UnsetAttribute path name) t place why
