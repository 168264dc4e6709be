-- A group of changes whose pages are counted at its end alone: what it answers on a tree, and the tree after it.
use Rattle.std.specs.Prelude.{◌≡◌, ℕ, List, length, Bool, Option, None, Some, Result, Ok, Err, nat_lt}
use Rattle.std.specs.Prelude.{if◌then◌else◌}
use Rattle.std.specs.Option.{option_or}
use Rattle.store_model.specs.declared.refusal.Refusal.{Refusal}
use Rattle.store_model.specs.declared.refusal.Refusal.TheVariants as refusals
use Rattle.store_model.specs.Parameters.{Parameters}
use Rattle.store_model.specs.Trees.{Tree}
use Rattle.store_model.specs.Pages.{page_count}
use Rattle.store_model.specs.Commands.{Command}
use Rattle.store_model.specs.Commands.Reply.{Acknowledged, Refused}
use Rattle.store_model.specs.Steps.{Step, lacks_version}
use Rattle.store_model.specs.Scripts.{tree_by}
use Rattle.tree_pairs.specs.TreeCalls.{uncounted_step}
use Rattle.staged_tree.specs.declared.group.GroupAnswer.{GroupAnswer}
use Rattle.staged_tree.specs.Groups.{refused_by, tree_unless, answered_group}
use Rattle.staged_tree.specs.Guards.{Guarded, is_due}

-- the step of a command where every tree has room: what is refused but as `full` is refused, and else it is done
abbrev pub roomy_step : Parameters → Tree → Command → Step
roomy_step p t c = if lacks_version c p then (record {
  reply = Refused refusals.Version;
  tree = t;
}) else uncounted_step t c p

-- so is that of a change with a guard; where it is passed over, it is not refused, and the tree stays
abbrev pub guarded_step : Parameters → Tree → Guarded → Step
guarded_step p t g = if is_due t g then roomy_step p t g.change else (record {
  reply = Acknowledged;
  tree = t;
})

-- the first of these changes that is refused so, where they are carried out one after another, and the tree after them
abbrev pub refused_roomy : Parameters → Tree → List Guarded → Option (ℕ × Refusal)
refused_roomy p t changes = refused_by (guarded_step p) t changes

abbrev pub roomy_tree : Parameters → Tree → List Guarded → Tree
roomy_tree p t changes = tree_by (guarded_step p) t changes

-- `full`, behind so many changes, exactly where the tree after them has more pages than there are slots
abbrev pub full_behind : Parameters → Tree → ℕ → Option (ℕ × Refusal)
full_behind p next count =
    if nat_lt p.slots (page_count next p) then Some (count, refusals.Full (page_count next p) p.slots) else None

-- why a whole group is refused: by the first of its changes that is, or as `full` where none is
abbrev pub refused_at_end : Parameters → Tree → List Guarded → Option (ℕ × Refusal)
refused_at_end p t changes =
    option_or (refused_roomy p t changes) (full_behind p (roomy_tree p t changes) (length changes))

-- Of a stream of changes these came, all of them or the first ones: why they are refused.
abbrev pub refused_so_far : Parameters → Tree → Bool → List Guarded → Option (ℕ × Refusal)
refused_so_far p t is_whole changes = if is_whole then refused_at_end p t changes else refused_roomy p t changes

-- The tree after them: all were carried out, or none where one is refused, their tree does not fit, or more were to
-- come.
abbrev pub streamed_tree : Parameters → Tree → Bool → List Guarded → Tree
streamed_tree p t is_whole changes =
    if is_whole then tree_unless (refused_at_end p t changes) (roomy_tree p t changes) t else t

-- what is answered; where the stream failed, none of those that came is refused
abbrev pub IsStreamAnswer : {F : Type 0} → Parameters → Tree → Bool → List Guarded → Result GroupAnswer F → Type 0
IsStreamAnswer p t is_whole changes (Ok answer) = answered_group answer ≡ refused_so_far p t is_whole changes
IsStreamAnswer p t is_whole changes (Err fault) = refused_roomy p t changes ≡ None
