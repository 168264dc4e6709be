-- Ways that lead to paths, path after path.
use Rattle.std.proofs.Common.{◌≡◌, ℕ, ◌<◌, List, [], ◌∷◌, ◌++◌, length, take, drop, true}
use Rattle.std.proofs.Common.{false, Some, None, refl, sym, ap, ◌∙◌, arith, append_assoc}
use Rattle.std.proofs.Common.{length-append}
use Rattle.std.proofs.lemmas.Bool.{both_ways}
use Rattle.std.proofs.lemmas.List.{append-nil, take-append-drop}
use Rattle.std.proofs.lemmas.List.Concat.{flat_map-append}
use Rattle.store_model.specs.Paths.{Path, Name, is_root, parent, is_inside}
use Rattle.store_model.proofs.TreesLemmasPaths.{last_step, parent-push, inside-append}
use Rattle.tree_changes.specs.Folders.{way_from, way_to, ways_to}
use Rattle.tree_changes.proofs.PlacedLemmas.{place_parent, inside_split}
use Rattle.image_changes.specs.Ways.{LeadsOn}

-- ---- one name less

parent_below : (n m : Name) (rest : Path) → parent (n ∷ m ∷ rest) ≡ n ∷ parent (m ∷ rest)
parent_below n m rest =
    let step = last_step (m ∷ rest) refl in
    ap (λ (y : Path). parent (n ∷ y)) step.1 ∙ parent-push (n ∷ parent (m ∷ rest)) step.0

-- the parent of what is one name below
pub parent_next : (front : Path) (n : Name) → parent (front ++ n ∷ []) ≡ front
parent_next = parent-push

-- and of what is further below
pub parent_further : (front rest : Path) (n m : Name) → parent (front ++ n ∷ m ∷ rest) ≡ front ++ n ∷ parent (m ∷ rest)
parent_further front rest n m =
    place_parent front (n ∷ m ∷ rest) refl ∙ ap (λ (y : Path). front ++ y) (parent_below n m rest)

-- a path is not one of those below it
pub not_below_itself : (front rest : Path) (n : Name) → front ≡ front ++ n ∷ rest → ⊥
not_below_itself front rest n e = omega (arith, ap length e, length-append front (n ∷ rest))

pub below_not_root : (front rest : Path) (n : Name) → is_root (front ++ n ∷ rest) ≡ false
below_not_root [] rest n = refl
below_not_root (m ∷ front) rest n = refl

-- a parent is shorter
pub parent_shorter : (path : Path) → is_root path ≡ false → length (parent path) < length path
parent_shorter path below =
    let step = last_step path below in
    omega (arith, ap length step.1, length-append (parent path) (step.0 ∷ []))

-- ---- passing on

pub ends_here : (front path rest : Path) → is_inside path front ≡ false → path ≡ front ++ rest
    → LeadsOn front rest front None
ends_here front path [] outside e = refl
ends_here front path (n ∷ rest) outside e =
    both_ways _ outside (ap (λ (y : Path). is_inside y front) e ∙ inside-append front n rest)

pub goes_on_to : (front path next rest : Path) → is_inside path front ≡ true
    → ((n : Name) (r : Path) → path ≡ front ++ n ∷ r → next ≡ front ++ n ∷ []) → path ≡ front ++ rest
    → LeadsOn front rest next (Some next)
goes_on_to front path next [] inside leads e =
    let here : path ≡ front = e ∙ append-nil front in
    by (drop (length front) path) (inside_split path front inside).0 (inside_split path front inside).1 here
  where
    by : (s : Path) → path ≡ front ++ s → is_root s ≡ false → path ≡ front → ⊥
    by [] e below here = cc
    by (n ∷ s) e below here = not_below_itself front s n (sym here ∙ e)
goes_on_to front path next (n ∷ rest) inside leads e = (leads n rest e, leads n rest e)

-- ---- ways

pub way_join : (front one other : Path) → way_from front (one ++ other)
    ≡ way_from front one ++ way_from (front ++ one) other
unfolding way_from
way_join front [] other = ap (λ (y : Path). way_from y other) (sym (append-nil front))
way_join front (n ∷ one) other =
    ap (λ ways. (front ++ n ∷ []) ∷ ways) (way_join (front ++ n ∷ []) one other
    ∙ ap (λ (y : Path). way_from (front ++ n ∷ []) one ++ way_from y other) (append_assoc front (n ∷ []) one))

pub way_more : (front : Path) (n : Name) → way_to (front ++ n ∷ []) ≡ way_to front ++ (front ++ n ∷ []) ∷ []
unfolding way_from
way_more front n = way_join [] front (n ∷ [])

pub no_way : way_to [] ≡ []
unfolding way_from
no_way = refl

pub ways_more : (paths : List Path) (path : Path) → ways_to (paths ++ path ∷ []) ≡ ways_to paths ++ way_to path
ways_more paths path = flat_map-append way_to paths (path ∷ [])
    ∙ ap (λ ways. ways_to paths ++ ways) (append-nil (way_to path))

-- all ways are what was passed, and what is left
pub ways_left : (all : List Path) (begun : ℕ) (done : List Path) (front rest : Path)
    → ways_to (take begun all) ≡ done ++ way_to (front ++ rest)
    → ways_to all ≡ (done ++ way_to front) ++ (way_from front rest ++ ways_to (drop begun all))
ways_left all begun done front rest split =
    ap ways_to (sym (take-append-drop begun all)) ∙ flat_map-append way_to (take begun all) (drop begun all)
    ∙ ap (λ ways. ways ++ ways_to (drop begun all)) (split ∙ ap (λ ways. done ++ ways) (way_join [] front rest)
    ∙ sym (append_assoc done (way_to front) (way_from front rest)))
    ∙ append_assoc (done ++ way_to front) (way_from front rest) (ways_to (drop begun all))

-- ---- the next path below another

-- one that is not yet that path has a parent further below
pub further_up : (front path up : Path) (n : Name) (rest : Path) → (up ≡ front → ⊥) → up ≡ parent path
    → path ≡ front ++ n ∷ rest → (r : Path) × (up ≡ front ++ n ∷ r)
further_up front path up n [] other is e = absurd (other (is ∙ ap parent e ∙ parent_next front n))
further_up front path up n (m ∷ rest) other is e =
    (parent (m ∷ rest), is ∙ ap parent e ∙ parent_further front rest n m)

-- one whose parent is the other is that path
pub right_below : (front path up : Path) (n : Name) (rest : Path) → up ≡ front → up ≡ parent path
    → path ≡ front ++ n ∷ rest → path ≡ front ++ n ∷ []
right_below front path up n [] same is e = e
right_below front path up n (m ∷ rest) same is e =
    absurd (not_below_itself front (parent (m ∷ rest)) n
    (sym same ∙ is ∙ ap parent e ∙ parent_further front rest n m))
