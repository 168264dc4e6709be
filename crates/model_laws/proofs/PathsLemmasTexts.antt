-- Reading the text of a path gives the path back.
use Rattle.std.proofs.Common.{◌≡◌, [], ◌∷◌, ◌++◌, Bool, true, false, not, ◌==◌, cond, IsTrue, Some, None, refl, sym, ap}
use Rattle.std.proofs.Common.{◌∙◌}
use Rattle.std.specs.List.{All, list_all, flat_map, slice_split}
use Rattle.std.proofs.lemmas.List.{append-nil}
use Rattle.std.proofs.lemmas.List.Elements.{All-from_recursion}
use Rattle.std.proofs.lemmas.List.Splits.{slice_split_none, slice_split_at}
use Rattle.store_model.specs.Paths.{Path, Name, is_name, is_name_byte, path_text}
use Rattle.store_model.specs.Grammar.{names_of, path_of}
use Rattle.store_model.proofs.ListsLemmas.{first_true, second_true, all_from_test}

-- what is not true is false
false_from_not : (b : Bool) → IsTrue (not b) → b ≡ false
false_from_not true h = sym h
false_from_not false h = refl

-- a name has no `/`
no_slash : (n : Name) → IsTrue (is_name n) → All (λ b. (b == 0x2f) ≡ false) n
no_slash n h =
    All-from_recursion (λ b. (b == 0x2f) ≡ false) n
    (all_from_test is_name_byte (λ b. (b == 0x2f) ≡ false) (λ b t. false_from_not (b == 0x2f) (second_true _ _ t)) n
    (second_true _ _ (first_true _ _ (first_true _ _ h))))

-- a name with more names behind it, each behind a `/`, is cut into the names
split_names : (n : Name) (path : Path) → IsTrue (is_name n) → IsTrue (list_all is_name path)
    → slice_split (λ b. b == 0x2f) (n ++ flat_map (λ m. 0x2f ∷ m) path) ≡ n ∷ path
split_names n [] h all = ap (slice_split (λ b. b == 0x2f)) (append-nil n)
    ∙ slice_split_none (λ b. b == 0x2f) n (no_slash n h)
split_names n (m ∷ path) h all =
    slice_split_at (λ b. b == 0x2f) n 0x2f (m ++ flat_map (λ k. 0x2f ∷ k) path) (no_slash n h) refl
    ∙ ap (λ names. n ∷ names) (split_names m path (first_true _ _ all) (second_true _ _ all))

-- the text of a path of names spells it
pub path_of-path_text : (path : Path) → IsTrue (list_all is_name path) → path_of (path_text path) ≡ Some path
unfolding path_of path_text
path_of-path_text [] all = refl
path_of-path_text ([] ∷ path) all = let some = first_true (is_name []) (list_all is_name path) all in cc
path_of-path_text ((c ∷ n) ∷ path) all =
    ap names_of (split_names (c ∷ n) path (first_true _ _ all) (second_true _ _ all))
    ∙ ap (λ b. cond b (Some ((c ∷ n) ∷ path)) None) all
