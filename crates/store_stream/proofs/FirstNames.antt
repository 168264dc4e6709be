-- The first names of a path are a path.
use Rattle.std.proofs.Common.{◌≡◌, ℕ, zero, suc, ◌+◌, ◌<◌, List, [], ◌∷◌, ◌++◌, length, take, drop}
use Rattle.std.proofs.Common.{IsTrue, refl, sym, ap, subst, ◌∙◌, arith, slice_index_or}
use Rattle.std.specs.List.{AllByRecursion, list_all}
use Rattle.std.proofs.lemmas.Bool.{and_parts, and_from, le-leb, leb-true}
use Rattle.std.proofs.lemmas.List.{length-append, take-append-drop, take_more}
use Rattle.std.proofs.lemmas.List.Folds.{list_all-append}
use Rattle.std.proofs.lemmas.List.Concat.{flat_map-append}
use Rattle.store_model.specs.Paths.{Path, is_name, is_path, name_bytes, field_len, fits_field}

pub is_path-take : (n : ℕ) (q : Path) → IsTrue (is_path q) → IsTrue (is_path (take n q))
unfolding name_bytes
is_path-take n q h =
    let parts = and_parts (list_all is_name q) (fits_field q) h in
    let split : q ≡ take n q ++ drop n q = sym (take-append-drop n q) in
    let names = and_parts (list_all is_name (take n q)) (list_all is_name (drop n q))
    (sym (list_all-append is_name (take n q) (drop n q)) ∙ ap (list_all is_name) (sym split) ∙ parts.0) in
    let len : field_len q ≡ field_len (take n q) + field_len (drop n q) =
    ap field_len split ∙ ap length (flat_map-append (λ m. m ++ 0 ∷ []) (take n q) (drop n q))
    ∙ length-append (name_bytes (take n q)) (name_bytes (drop n q)) in
    and_from _ _ names.0 (le-leb (field_len (take n q)) 120 (omega (arith, len, leb-true (field_len q) 120 parts.1)))

-- ---- lists of paths

-- what is so of each element by its index
pub all_by_index : {X : Type 0} (P : X → Type 0) (xs : List X) (d : X)
    → ((i : ℕ) → i < length xs → P (slice_index_or xs i d)) → AllByRecursion P xs
all_by_index P [] d h = tt
all_by_index P (x ∷ xs) d h = (h 0 (omega arith), all_by_index P xs d (λ i l. h (suc i) (omega (arith, l))))

pub all_paths : (paths : List Path) → IsTrue (list_all is_path paths) → AllByRecursion (λ q. IsTrue (is_path q)) paths
all_paths [] h = tt
all_paths (q ∷ paths) h = let parts = and_parts (is_path q) (list_all is_path paths) h
    in (parts.0, all_paths paths parts.1)

pub paths_all : (paths : List Path) → AllByRecursion (λ q. IsTrue (is_path q)) paths → IsTrue (list_all is_path paths)
paths_all [] h = refl
paths_all (q ∷ paths) h = and_from _ _ h.0 (paths_all paths h.1)

pub path_at : (paths : List Path) → IsTrue (list_all is_path paths) → (i : ℕ) (d : Path) → i < length paths
    → IsTrue (is_path (slice_index_or paths i d))
path_at [] h i d l = absurd (omega (arith, l))
path_at (q ∷ paths) h zero d l = (and_parts (is_path q) (list_all is_path paths) h).0
path_at (q ∷ paths) h (suc i) d l =
    path_at paths (and_parts (is_path q) (list_all is_path paths) h).1 i d (omega (arith, l))

-- one more of them
pub one_more_path : (paths : List Path) (i : ℕ) (q d : Path) → q ≡ slice_index_or paths i d → i < length paths
    → IsTrue (is_path q) → IsTrue (list_all is_path (take i paths)) → IsTrue (list_all is_path (take (i + 1) paths))
one_more_path paths i q d is l path all =
    subst (λ ps. IsTrue (list_all is_path ps)) (sym (take_more paths i d l))
    (list_all-append is_path (take i paths) (slice_index_or paths i d ∷ [])
    ∙ and_from _ _ all (and_from _ _ (ap is_path (sym is) ∙ path) refl))
