-- A group of changes: what it answers on a tree, and the tree after it.
use Rattle.std.specs.Prelude.{◌≡◌, ℕ, suc, List, [], ◌∷◌, Option, None, Some}
use Rattle.std.specs.Option.{option_map}
use Rattle.store_model.specs.declared.refusal.Refusal.{Refusal}
use Rattle.store_model.specs.Parameters.{Parameters}
use Rattle.store_model.specs.Trees.{Tree}
use Rattle.store_model.specs.Commands.{Command, Reply}
use Rattle.store_model.specs.Commands.Reply.{Acknowledged, Content, Listing, AttributeListing, PagesUsed, ImageDigest}
use Rattle.store_model.specs.Commands.Reply.{Refused}
use Rattle.store_model.specs.Steps.{Step, step}
use Rattle.store_model.specs.Scripts.{replies_by, tree_by}
use Rattle.staged_tree.specs.declared.group.GroupAnswer.{GroupAnswer}
use Rattle.staged_tree.specs.declared.group.GroupAnswer.TheVariants as answers

-- the step of a command under these parameters
abbrev pub step_under : Parameters → Tree → Command → Step
step_under p t c = step t c p

-- why a reply refuses, if it does
abbrev pub refusal_in : Reply → Option Refusal
refusal_in Acknowledged = None
refusal_in (Content bytes) = None
refusal_in (Listing children) = None
refusal_in (AttributeListing attributes) = None
refusal_in (PagesUsed used slots) = None
refusal_in (ImageDigest digest) = None
refusal_in (Refused refusal) = Some refusal

-- the first of some replies that is a refusal: the first one, or one that stands so far behind it
abbrev pub or_later : Option Refusal → Option (ℕ × Refusal) → Option (ℕ × Refusal)
or_later (Some refusal) later = Some (0, refusal)
or_later None later = option_map (λ (found : ℕ × Refusal). (suc found.0, found.1)) later

-- the first reply that is a refusal: how many stand before it, and why it refuses
unfoldable pub first_refused : List Reply → Option (ℕ × Refusal)
first_refused [] = None
first_refused (reply ∷ replies) = or_later (refusal_in reply) (first_refused replies)

-- the first of these changes that is refused where they are carried out one after another, each by its step
abbrev pub refused_by : {Q : Type 0} → (Tree → Q → Step) → Tree → List Q → Option (ℕ × Refusal)
refused_by stepped t changes = first_refused (replies_by stepped t changes)

abbrev pub refused_in : Parameters → Tree → List Command → Option (ℕ × Refusal)
refused_in p t changes = refused_by (step_under p) t changes

-- the next tree where nothing is refused, and else the one before
abbrev pub tree_unless : Option (ℕ × Refusal) → Tree → Tree → Tree
tree_unless None next t = next
tree_unless (Some refused) next t = t

-- the tree after them: all were carried out, or none where one is refused
abbrev pub group_tree : Parameters → Tree → List Command → Tree
group_tree p t changes = tree_unless (refused_in p t changes) (tree_by (step_under p) t changes) t

-- what a group answers is told by the first of its changes that is refused
abbrev pub answered_group : GroupAnswer → Option (ℕ × Refusal)
answered_group answers.Done = None
answered_group (answers.Refused index reply) = Some (index, reply)

-- a group on this tree is answered so
abbrev pub IsGroupAnswer : Parameters → Tree → List Command → GroupAnswer → Type 0
IsGroupAnswer p t changes answer = answered_group answer ≡ refused_in p t changes
