-- The steps of a dump tell whether a path has a time.
use Rattle.std.proofs.Common.{◌≡◌, ℕ, ◌*◌, Bool, true, false, ◌||◌, List, [], ◌∷◌, ◌++◌, map, refl, sym, ap, ap₂, ◌∙◌}
use Rattle.std.specs.List.{list_any, flat_map, enumerate_from}
use Rattle.store_model.specs.Lists.{runs}
use Rattle.store_model.specs.Paths.{Path}
use Rattle.store_model.specs.Trees.{Tree, Node, Entry, Attributes, empty_tree}
use Rattle.store_model.specs.Trees.Node.{Directory, File}
use Rattle.dump_streams.specs.Dumps.{DumpStep, after_step, dump_piece, file_steps, node_steps, attribute_steps, dump}
use Rattle.dump_streams.specs.Dumps.{entry_steps}
use Rattle.dump_streams.specs.Dumps.DumpStep.{Write}
use Rattle.host_builder.specs.HostAttributes.{attribute_of}
use Rattle.image_differences.specs.Timing.{is_time, says_time, has_time, sets_time}

pub dump_none : dump empty_tree ≡ []
unfolding dump
dump_none = refl

pub any_parts : (xs ys : List DumpStep)
    → list_any sets_time (xs ++ ys) ≡ (list_any sets_time xs || list_any sets_time ys)
any_parts [] ys = refl
any_parts (s ∷ xs) ys = by_test (sets_time s) (any_parts xs ys)
  where
    by_test : (b : Bool) → list_any sets_time (xs ++ ys) ≡ (list_any sets_time xs || list_any sets_time ys)
        → (b || list_any sets_time (xs ++ ys)) ≡ ((b || list_any sets_time xs) || list_any sets_time ys)
    by_test true rest = refl
    by_test false rest = rest

pieces_set_none : (x : Path) (pieces : List (ℕ × List ℕ))
    → list_any sets_time (map (λ piece. Write x (dump_piece * piece.0) piece.1) pieces) ≡ false
pieces_set_none x [] = refl
pieces_set_none x (piece ∷ pieces) = pieces_set_none x pieces

node_sets_none : (x : Path) (node : Node) → list_any sets_time (node_steps x node) ≡ false
unfolding file_steps
node_sets_none x Directory = refl
node_sets_none x (File []) = refl
node_sets_none x (File (b ∷ bytes)) = pieces_set_none x (enumerate_from 0 (runs dump_piece (b ∷ bytes)))

names_set : (x : Path) (names : Attributes) → list_any sets_time (attribute_steps x names) ≡ says_time names
unfolding attribute_steps
names_set x [] = refl
names_set x (a ∷ names) = ap (λ (b : Bool). is_time (attribute_of a.0 a.1) || b) (names_set x names)

entry_sets : (x : Path) (entry : Entry) → list_any sets_time (entry_steps x entry) ≡ says_time entry.attributes
entry_sets x entry = any_parts (node_steps x entry.node) (attribute_steps x entry.attributes)
    ∙ ap₂ (λ (a b : Bool). a || b) (node_sets_none x entry.node) (names_set x entry.attributes)

pub dump_sets : (t : Tree) → list_any sets_time (dump t) ≡ has_time t
unfolding dump
dump_sets [] = refl
dump_sets (e ∷ t) = any_parts (entry_steps e.0 e.1) (flat_map (λ (e : Path × Entry). entry_steps e.0 e.1) t)
    ∙ ap₂ (λ (a b : Bool). a || b) (entry_sets e.0 e.1) (dump_sets t)

-- one more step
pub sets_more : (t : Tree) (s : DumpStep) (b : Bool) → dump (after_step t s) ≡ dump t ++ s ∷ []
    → has_time t ≡ false → sets_time s ≡ b → has_time (after_step t s) ≡ b
sets_more t s b grown none is =
    sym (dump_sets (after_step t s)) ∙ ap (list_any sets_time) grown ∙ any_parts (dump t) (s ∷ [])
    ∙ ap₂ (λ (a c : Bool). a || (c || false)) (dump_sets t ∙ none) is ∙ plain b
  where
    plain : (b : Bool) → (b || false) ≡ b
    plain true = refl
    plain false = refl
