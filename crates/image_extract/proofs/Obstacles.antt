-- What a step of a dump is on stands in the dump's tree.
use Rattle.std.proofs.Common.{◌≡◌, ◌*◌, ℕ, List, [], ◌∷◌, ◌++◌, map, true, refl, ap, subst, ◌∙◌}
use Rattle.std.specs.List.{AllByRecursion, flat_map, enumerate_from}
use Rattle.store_model.specs.Lists.{runs}
use Rattle.store_model.specs.Paths.{Path}
use Rattle.store_model.specs.Trees.{Tree, Node, Entry, Attributes, exists}
use Rattle.store_model.specs.Trees.Node.{Directory, File}
use Rattle.store_model.proofs.ListsLemmas.{all_weaker, all_append, all_front, all_back}
use Rattle.store_model.proofs.TreesLemmas.{all_exist}
use Rattle.dump_streams.specs.Dumps.{DumpStep, after_step, step_path, dump_piece, file_steps, node_steps}
use Rattle.dump_streams.specs.Dumps.{attribute_steps, entry_steps, dump}
use Rattle.dump_streams.specs.Dumps.DumpStep.{Write}

-- ---- the steps of an entry are on its path

abbrev AreOn : Path → List DumpStep → Type 0
AreOn x steps = AllByRecursion (λ s. step_path s ≡ x) steps

pieces_on : (x : Path) (pieces : List (ℕ × List ℕ))
    → AreOn x (map (λ piece. Write x (dump_piece * piece.0) piece.1) pieces)
pieces_on x [] = tt
pieces_on x (piece ∷ pieces) = (refl, pieces_on x pieces)

node_on : (x : Path) (node : Node) → AreOn x (node_steps x node)
unfolding file_steps
node_on x Directory = (refl, tt)
node_on x (File []) = (refl, tt)
node_on x (File (b ∷ bytes)) = pieces_on x (enumerate_from 0 (runs dump_piece (b ∷ bytes)))

names_on : (x : Path) (names : Attributes) → AreOn x (attribute_steps x names)
unfolding attribute_steps
names_on x [] = tt
names_on x (a ∷ names) = (refl, names_on x names)

entry_on : (x : Path) (entry : Entry) → AreOn x (entry_steps x entry)
entry_on x entry = all_append (λ s. step_path s ≡ x) (node_steps x entry.node) (attribute_steps x entry.attributes)
    (node_on x entry.node) (names_on x entry.attributes)

-- ---- and something stands there

abbrev AllStandIn : Tree → List DumpStep → Type 0
AllStandIn u steps = AllByRecursion (λ s. exists u (step_path s) ≡ true) steps

dump_stands : (u t : Tree) → AllByRecursion (λ e. exists u e.0 ≡ true) t → AllStandIn u (dump t)
unfolding dump
dump_stands u [] all = tt
dump_stands u (e ∷ t) all =
    all_append (λ s. exists u (step_path s) ≡ true) (entry_steps e.0 e.1) (flat_map (λ e. entry_steps e.0 e.1) t)
    (all_weaker (λ s. step_path s ≡ e.0) (λ s. exists u (step_path s) ≡ true) (λ s on. ap (exists u) on ∙ all.0)
    (entry_steps e.0 e.1) (entry_on e.0 e.1))
    (dump_stands u t all.1)

pub stands_there : (u t : Tree) (s : DumpStep) (rest : List DumpStep) → dump u ≡ dump (after_step t s) ++ rest
    → dump (after_step t s) ≡ dump t ++ s ∷ [] → exists u (step_path s) ≡ true
stands_there u t s rest front grown =
    let P = λ (s : DumpStep). exists u (step_path s) ≡ true in
    let all = subst (AllStandIn u) (front ∙ ap (λ (ss : List DumpStep). ss ++ rest) grown)
    (dump_stands u u (all_exist u)) in
    (all_back P (dump t) (s ∷ []) (all_front P (dump t ++ s ∷ []) rest all)).0
