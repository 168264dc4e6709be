-- The steps of a tree that are on paths that the host can have, and the tree of these paths.
use Rattle.std.proofs.Common.{◌≡◌, ℕ, zero, suc, ◌+◌, ◌-◌, ◌*◌, ◌==◌, Bool, true, false, not, ◌&&◌, ◌||◌, cond}
use Rattle.std.proofs.Common.{if◌then◌else◌}
use Rattle.std.proofs.Common.{IsTrue, List, [], ◌∷◌, ◌++◌, map, length, take, refl, sym, ap, ap₂, subst, ◌∙◌, arith}
use Rattle.std.proofs.Common.{length-append}
use Rattle.std.specs.FinMap.Entries.{where_key}
use Rattle.std.specs.List.{AllByRecursion, filter, flat_map, list_all, enumerate_from}
use Rattle.std.proofs.lemmas.Bool.{false≢true}
use Rattle.std.proofs.lemmas.List.Elements.{filter-append}
use Rattle.store_model.specs.Lists.{runs, run_count}
use Rattle.store_model.specs.Paths.{Path, path_cmp, parent}
use Rattle.store_model.specs.Trees.{Tree, Node, Entry, Attributes, IsTree}
use Rattle.store_model.specs.Trees.Node.{Directory, File}
use Rattle.store_model.proofs.ListsLemmas.{all_none, all_append, all_map, length-runs, first_true, second_true}
use Rattle.store_model.proofs.TreesLemmas.{IsTree-where}
use Rattle.host_names.specs.Reading.{has_host_text, is_text_spelling}
use Rattle.dump_streams.specs.Dumps.{DumpStep, step_path, dump_piece, file_steps, node_steps, attribute_steps}
use Rattle.dump_streams.specs.Dumps.{entry_steps, dump}
use Rattle.dump_streams.specs.Dumps.DumpStep.{Make, Write, Set}
use Rattle.host_builder.specs.declared.attribute.Wanted.{Wanted}
use Rattle.host_builder.specs.Passing.{is_passed, passes_step, passed, begins, is_left_begin, left_begins}

-- ---- the steps of an entry

-- the step that writes a piece
abbrev piece_step : Path → ℕ × List ℕ → DumpStep
piece_step x piece = Write x (dump_piece * piece.0) piece.1

none_begin : (x : Path) (i : ℕ) (pieces : List (List ℕ))
    → filter begins (map (piece_step x) (enumerate_from (i + 1) pieces)) ≡ []
none_begin x i [] = refl
none_begin x i (piece ∷ pieces) =
    let later : (dump_piece * (i + 1) == 0) ≡ false = grind arith in
    let rest : List DumpStep = filter begins (map (piece_step x) (enumerate_from (i + 1 + 1) pieces)) in
    ap (λ (b : Bool). cond b (Write x (dump_piece * (i + 1)) piece ∷ rest) rest) later ∙ none_begin x (i + 1) pieces

-- Steps that begin with one on the path, and of which only that begins what stands there.
record BeginOnce (x : Path) (steps : List DumpStep) : Type 0 where
  first : DumpStep
  rest : List DumpStep
  split : steps ≡ first ∷ rest
  path_is : step_path first ≡ x
  begins_is : begins first ≡ true
  others : filter begins rest ≡ []

file_once : (x : Path) (content : List ℕ) → BeginOnce x (file_steps x content)
unfolding file_steps
file_once x [] = record {
  first = Write x 0 [];
  rest = [];
  split = refl;
  path_is = refl;
  begins_is = refl;
  others = refl;
}
file_once x (b ∷ content) =
    by_runs (runs dump_piece (b ∷ content)) (length-runs dump_piece (b ∷ content))
  where
    by_runs : (pieces : List (List ℕ)) → length pieces ≡ run_count dump_piece (length (b ∷ content))
        → BeginOnce x (map (piece_step x) (enumerate_from 0 pieces))
    by_runs [] none = absurd (omega (arith, none))
    by_runs (piece ∷ pieces) some = record {
      first = Write x 0 piece;
      rest = map (piece_step x) (enumerate_from 1 pieces);
      split = refl;
      path_is = refl;
      begins_is = refl;
      others = none_begin x 0 pieces;
    }

node_once : (x : Path) (node : Node) → BeginOnce x (node_steps x node)
node_once x Directory = record {
  first = Make x;
  rest = [];
  split = refl;
  path_is = refl;
  begins_is = refl;
  others = refl;
}
node_once x (File content) = file_once x content

no_attribute_begins : (x : Path) (names : Attributes) → filter begins (attribute_steps x names) ≡ []
unfolding attribute_steps
no_attribute_begins x [] = refl
no_attribute_begins x (a ∷ names) = no_attribute_begins x names

entry_once : (x : Path) (entry : Entry) → BeginOnce x (entry_steps x entry)
entry_once x entry =
    let node = node_once x entry.node in
    let names = attribute_steps x entry.attributes in
    record {
      first = node.first;
      rest = node.rest ++ names;
      split = ap (λ (ss : List DumpStep). ss ++ names) node.split;
      path_is = node.path_is;
      begins_is = node.begins_is;
      others = filter-append begins node.rest names
          ∙ ap₂ (λ (a b : List DumpStep). a ++ b) node.others (no_attribute_begins x entry.attributes);
    }

one_begins : (x : Path) (entry : Entry) → length (filter begins (entry_steps x entry)) ≡ 1
one_begins x entry =
    let once = entry_once x entry in
    ap (λ (ss : List DumpStep). length (filter begins ss)) once.split
    ∙ ap (λ (b : Bool). length (cond b (once.first ∷ filter begins once.rest) (filter begins once.rest)))
    once.begins_is ∙ ap (λ (ss : List DumpStep). suc (length ss)) once.others

-- all of them are on its path
abbrev AreOn : Path → List DumpStep → Type 0
AreOn x steps = AllByRecursion (λ s. step_path s ≡ x) steps

pieces_on : (x : Path) (pieces : List (ℕ × List ℕ)) → AreOn x (map (piece_step x) pieces)
pieces_on x [] = tt
pieces_on x (piece ∷ pieces) = (refl, pieces_on x pieces)

node_on : (x : Path) (node : Node) → AreOn x (node_steps x node)
unfolding file_steps
node_on x Directory = (refl, tt)
node_on x (File []) = (refl, tt)
node_on x (File (b ∷ content)) = pieces_on x (enumerate_from 0 (runs dump_piece (b ∷ content)))

names_on : (x : Path) (names : Attributes) → AreOn x (attribute_steps x names)
unfolding attribute_steps
names_on x [] = tt
names_on x (a ∷ names) = (refl, names_on x names)

entry_on : (x : Path) (entry : Entry) → AreOn x (entry_steps x entry)
entry_on x entry = all_append (λ s. step_path s ≡ x) (node_steps x entry.node) (attribute_steps x entry.attributes)
    (node_on x entry.node) (names_on x entry.attributes)

-- ---- those that pass, and those that are left out

module _ (wanted : Wanted) where
  on_passed : (x : Path) (b : Bool) → is_passed wanted x ≡ b → (steps : List DumpStep) → AreOn x steps
      → passed wanted steps ≡ (if b then steps else [])
  on_passed x true is [] on = refl
  on_passed x false is [] on = refl
  on_passed x true is (s ∷ steps) on =
      ap (λ (b : Bool). cond b (s ∷ passed wanted steps) (passed wanted steps)) (ap (is_passed wanted) on.0 ∙ is)
      ∙ ap (λ (ss : List DumpStep). s ∷ ss) (on_passed x true is steps on.1)
  on_passed x false is (s ∷ steps) on =
      ap (λ (b : Bool). cond b (s ∷ passed wanted steps) (passed wanted steps)) (ap (is_passed wanted) on.0 ∙ is)
      ∙ on_passed x false is steps on.1

  on_left : (x : Path) (b : Bool) → is_passed wanted x ≡ b → (steps : List DumpStep) → AreOn x steps
      → left_begins wanted steps ≡ (if b then [] else filter begins steps)
  on_left x true is [] on = refl
  on_left x false is [] on = refl
  on_left x true is (s ∷ steps) on =
      let test : (begins s && not (passes_step wanted s)) ≡ false =
      ap (λ (b : Bool). begins s && not b) (ap (is_passed wanted) on.0 ∙ is) ∙ never (begins s) in
      ap (λ (b : Bool). cond b (s ∷ left_begins wanted steps) (left_begins wanted steps)) test
      ∙ on_left x true is steps on.1
    where
      never : (b : Bool) → (b && false) ≡ false
      never true = refl
      never false = refl
  on_left x false is (s ∷ steps) on =
      let test : (begins s && not (passes_step wanted s)) ≡ begins s =
      ap (λ (b : Bool). begins s && not b) (ap (is_passed wanted) on.0 ∙ is) ∙ as_it_is (begins s) in
      ap (λ (b : Bool). cond b (s ∷ left_begins wanted steps) (left_begins wanted steps)) test
      ∙ ap (λ (ss : List DumpStep). cond (begins s) (s ∷ ss) ss) (on_left x false is steps on.1)
    where
      as_it_is : (b : Bool) → (b && true) ≡ b
      as_it_is true = refl
      as_it_is false = refl

  -- the tree of the paths that pass
  abbrev pub passed_tree : Tree → Tree
  passed_tree t = where_key path_cmp (is_passed wanted) t

  pub passed_dump : (t : Tree) → passed wanted (dump t) ≡ dump (passed_tree t)
  unfolding dump
  passed_dump [] = refl
  passed_dump (e ∷ t) =
      filter-append (passes_step wanted) (entry_steps e.0 e.1) (flat_map (λ e. entry_steps e.0 e.1) t)
      ∙ ap (λ (ss : List DumpStep). passed wanted (entry_steps e.0 e.1) ++ ss) (passed_dump t)
      ∙ by_test (is_passed wanted e.0) refl
    where
      by_test : (b : Bool) → is_passed wanted e.0 ≡ b
          → passed wanted (entry_steps e.0 e.1) ++ flat_map (λ e. entry_steps e.0 e.1) (passed_tree t)
          ≡ flat_map (λ e. entry_steps e.0 e.1) (cond b (e ∷ passed_tree t) (passed_tree t))
      by_test true is = ap (λ (ss : List DumpStep). ss ++ flat_map (λ e. entry_steps e.0 e.1) (passed_tree t))
          (on_passed e.0 true is (entry_steps e.0 e.1) (entry_on e.0 e.1))
      by_test false is = ap (λ (ss : List DumpStep). ss ++ flat_map (λ e. entry_steps e.0 e.1) (passed_tree t))
          (on_passed e.0 false is (entry_steps e.0 e.1) (entry_on e.0 e.1))

  -- as many begin what is left out as there are entries that are
  pub left_count : (t : Tree)
      → length (left_begins wanted (dump t)) ≡ length (filter (λ e. not (is_passed wanted e.0)) t)
  unfolding dump
  left_count [] = refl
  left_count (e ∷ t) =
      ap length (filter-append (is_left_begin wanted) (entry_steps e.0 e.1) (flat_map (λ e. entry_steps e.0 e.1) t))
      ∙ length-append (left_begins wanted (entry_steps e.0 e.1)) (left_begins wanted (dump t))
      ∙ by_test (left_count t) (is_passed wanted e.0) refl
    where
      by_test : length (left_begins wanted (dump t)) ≡ length (filter (λ e. not (is_passed wanted e.0)) t)
          → (b : Bool) → is_passed wanted e.0 ≡ b
          → length (left_begins wanted (entry_steps e.0 e.1)) + length (left_begins wanted (dump t))
          ≡ length (cond (not b) (e ∷ filter (λ e. not (is_passed wanted e.0)) t)
          (filter (λ e. not (is_passed wanted e.0)) t))
      by_test rest true is =
          let none : length (left_begins wanted (entry_steps e.0 e.1)) ≡ 0 =
          ap length (on_left e.0 true is (entry_steps e.0 e.1) (entry_on e.0 e.1)) in omega (arith, none, rest)
      by_test rest false is =
          let one : length (left_begins wanted (entry_steps e.0 e.1)) ≡ 1 =
          ap length (on_left e.0 false is (entry_steps e.0 e.1) (entry_on e.0 e.1)) ∙ one_begins e.0 e.1 in
          omega (arith, one, rest)

-- where all steps are on paths that the host can have, so are the entries
pub steps_named : (t : Tree) → IsTrue (list_all (λ s. has_host_text (step_path s)) (dump t))
    → IsTrue (list_all (λ e. has_host_text e.0) t)
unfolding dump
steps_named [] all = refl
steps_named (e ∷ t) all =
    let once = entry_once e.0 e.1 in
    let more = flat_map (λ (e : Path × Entry). entry_steps e.0 e.1) t in
    let whole : IsTrue (list_all (λ s. has_host_text (step_path s)) (once.first ∷ (once.rest ++ more))) =
    subst (λ (ss : List DumpStep). IsTrue (list_all (λ s. has_host_text (step_path s)) (ss ++ more))) once.split all in
    let here = first_true (has_host_text (step_path once.first)) _ whole in
    both (has_host_text e.0) (list_all (λ e. has_host_text e.0) t) (ap has_host_text (sym once.path_is) ∙ here)
    (steps_named t (behind once.rest more (second_true (has_host_text (step_path once.first)) _ whole)))
  where
    both : (a b : Bool) → IsTrue a → IsTrue b → IsTrue (a && b)
    both true b p q = q
    both false b p q = absurd (false≢true p)

    behind : (first more : List DumpStep) → IsTrue (list_all (λ s. has_host_text (step_path s)) (first ++ more))
        → IsTrue (list_all (λ s. has_host_text (step_path s)) more)
    behind [] more all = all
    behind (s ∷ first) more all = behind first more (second_true (has_host_text (step_path s)) _ all)

-- ---- the tree of these paths is one

all_taken : (n : ℕ) (p : Path) → IsTrue (list_all is_text_spelling p) → IsTrue (list_all is_text_spelling (take n p))
all_taken zero [] all = refl
all_taken (suc k) [] all = refl
all_taken zero (n ∷ p) all = refl
all_taken (suc k) (n ∷ p) all = more (is_text_spelling n) all (all_taken k p)
  where
    more : (b : Bool) → IsTrue (b && list_all is_text_spelling p)
        → (IsTrue (list_all is_text_spelling p) → IsTrue (list_all is_text_spelling (take k p)))
        → IsTrue (b && list_all is_text_spelling (take k p))
    more true all rest = rest all
    more false all rest = all

parent_passed : (wanted : Wanted) (p : Path) → is_passed wanted p ≡ true → is_passed wanted (parent p) ≡ true
unfolding parent
parent_passed wanted p is = by_skips (not wanted.skips) is
  where
    by_skips : (b : Bool) → (b || has_host_text p) ≡ true → (b || has_host_text (take (length p - 1) p)) ≡ true
    by_skips true is = refl
    by_skips false is = all_taken (length p - 1) p is

pub passed_is_tree : (wanted : Wanted) (t : Tree) → IsTree t → IsTree (passed_tree wanted t)
passed_is_tree wanted t tree = IsTree-where (is_passed wanted) t tree
    (all_none (λ (e : Path × Entry). is_passed wanted e.0 ≡ true → is_passed wanted (parent e.0) ≡ true)
    (λ e is. parent_passed wanted e.0 is) t)
