-- What a load of the empty tree answers, and the tree after it.
use Rattle.std.specs.Prelude.{◌≡◌, ◌<◌, ◌≤◌, nat_lt, if◌then◌else◌}
use Rattle.store_model.specs.Parameters.{Parameters}
use Rattle.store_model.specs.Trees.{Tree}
use Rattle.store_model.specs.Pages.{page_count}
use Rattle.staged_tree.specs.declared.load.LoadAnswer.{LoadAnswer}
use Rattle.staged_tree.specs.declared.load.LoadAnswer.TheVariants as answers

-- the tree of an empty store that is loaded with another one: that, where its pages fit, and else still the empty one
abbrev pub loaded_tree : Parameters → Tree → Tree → Tree
loaded_tree p old t = if nat_lt p.slots (page_count t p) then old else t

-- a load is done where the pages of the tree are no more than the slots; else both numbers are told
abbrev pub IsLoadAnswer : Parameters → Tree → LoadAnswer → Type 0
IsLoadAnswer p t answers.Done = page_count t p ≤ p.slots
IsLoadAnswer p t (answers.Full need slots) = (need ≡ page_count t p) × (slots ≡ p.slots) × (p.slots < page_count t p)
