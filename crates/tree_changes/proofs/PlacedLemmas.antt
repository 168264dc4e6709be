-- What the sources have at their places, one entry after another, and what is put over a tree by that.
use Rattle.std.proofs.Common.{◌≡◌, ◌⊎◌, inl, inr, ◌+◌, ◌<◌, List, [], ◌∷◌, ◌++◌, length, drop, Bool, true, false}
use Rattle.std.proofs.Common.{not, ◌&&◌, cond, Option, Some, None, refl, sym, ap, ◌∙◌}
use Rattle.std.proofs.Common.{arith, append_assoc, length-append, nat_lt, ltb-true}
use Rattle.std.specs.Option.{option_or}
use Rattle.std.specs.Cmp as cmp
use Rattle.std.specs.FinMap.{find}
use Rattle.std.proofs.lemmas.Bool.{both_ways, cond-true, or_right, or_cases, and_parts}
use Rattle.std.proofs.lemmas.Bool.{not-true}
use Rattle.std.proofs.lemmas.List.{drop_at}
use Rattle.store_model.specs.Paths.{Path, is_root, path_cmp, same_path, parent, is_inside, is_at_or_inside}
use Rattle.store_model.specs.Trees.{Tree, Entry, Node, IsTree, node_of, is_directory_node}
use Rattle.store_model.specs.Trees.{is_file_node}
use Rattle.store_model.specs.Trees.Node.{Directory, File}
use Rattle.store_model.proofs.TreesLemmasPaths.{same_from_test, same_path-from_equal, inside-append, at_or_inside-split}
use Rattle.store_model.proofs.TreesLemmasPaths.{last_step, parent-push}
use Rattle.store_model.proofs.TreesLemmas.{node_at-find}
use Rattle.tree_changes.specs.Meant.{bare_directory}
use Rattle.tree_changes.specs.Folders.{leads_to, AreMadeWithParents}
use Rattle.tree_changes.specs.Puts.{counted, placed_at, over, clash, IsPut}
use Rattle.tree_changes.proofs.Standings.{told_alike}

-- ---- places

-- a path below another is that and more names
pub inside_split : (x to : Path) → is_inside x to ≡ true
    → (x ≡ to ++ drop (length to) x) × (is_root (drop (length to) x) ≡ false)
unfolding is_inside
inside_split x to inside =
    let is = at_or_inside-split x to (or_right (same_path x to) _ inside) in (
      is,
      by (drop (length to) x) (ltb-true (length to) (length x)
          (and_parts (nat_lt (length to) (length x)) _ inside).0) (omega (
            arith,
            ap length is,
            length-append to (drop
                (length to) x),
          )),
    )
  where
    by : (s : Path) → length to < length x → length x ≡ length to + length s → is_root s ≡ false
    by [] long e = absurd (omega arith)
    by (n ∷ s) long e = refl

-- and what lies so is below it
pub place_inside : (to y : Path) → is_root y ≡ false → is_inside (to ++ y) to ≡ true
place_inside to [] below = cc
place_inside to (n ∷ y) below = inside-append to n y

pub place_not_root : (to y : Path) → is_root y ≡ false → is_root (to ++ y) ≡ false
place_not_root [] y below = below
place_not_root (n ∷ to) y below = refl

pub place_parent : (to y : Path) → is_root y ≡ false → parent (to ++ y) ≡ to ++ parent y
place_parent to y below =
    let step = last_step y below in
    ap (λ z. parent (to ++ z)) step.1 ∙ ap parent (sym (append_assoc to (parent y) (step.0 ∷ [])))
    ∙ parent-push (to ++ parent y) step.0

-- what stands at a place, of a path of the sources
pub placed_below : (to : Path) (listed : List Path) (u : Tree) (y : Path) → is_root y ≡ false
    → placed_at to listed u (to ++ y) ≡ counted listed y (find path_cmp y u)
placed_below to listed u y below =
    cond-true _ _ _ (place_inside to y below)
    ∙ ap (λ z. counted listed z (find path_cmp z u)) (drop_at to y (length to) refl)

-- where one entry of the sources is another
pub placed_more : (to : Path) (listed : List Path) (u v : Tree) (y : Path) (new : Entry) → is_root y ≡ false
    → ((z : Path) → find path_cmp z v ≡ cond (same_path z y) (Some new) (find path_cmp z u)) → (x : Path)
    → placed_at to listed v x ≡ cond (same_path x (to ++ y)) (counted listed y (Some new)) (placed_at to listed u x)
placed_more to listed u v y new below finds x = by (is_inside x to) refl (same_path x (to ++ y)) refl
  where
    named : (b : Bool) → same_path (drop (length to) x) y ≡ b
        → counted listed (drop (length to) x) (cond b (Some new) (find path_cmp (drop (length to) x) u))
        ≡ cond b (counted listed y (Some new)) (counted listed (drop (length to) x)
        (find path_cmp (drop (length to) x) u))
    named true s = ap (λ z. counted listed z (Some new)) (same_from_test (drop (length to) x) y s)
    named false s = refl

    same_test : is_inside x to ≡ true → same_path (drop (length to) x) y ≡ same_path x (to ++ y)
    same_test inside = cmp.both_ways _ _
        (λ s. same_path-from_equal x (to ++ y) ((inside_split x to inside).0
        ∙ ap (λ z. to ++ z) (same_from_test (drop (length to) x) y s)))
        (λ s. same_path-from_equal (drop (length to) x) y
        (ap (drop (length to)) (same_from_test x (to ++ y) s) ∙ drop_at to y (length to) refl))

    by : (i : Bool) → is_inside x to ≡ i → (b : Bool) → same_path x (to ++ y) ≡ b
        → cond i (counted listed (drop (length to) x) (find path_cmp (drop (length to) x) v))
        (cond (leads_to (to ∷ []) x) (Some bare_directory) None)
        ≡ cond b (counted listed y (Some new)) (cond i (counted listed (drop (length to) x)
        (find path_cmp (drop (length to) x) u)) (cond (leads_to (to ∷ []) x) (Some bare_directory) None))
    by true inside b s = ap (counted listed (drop (length to) x)) (finds (drop (length to) x))
        ∙ named (same_path (drop (length to) x) y) refl
        ∙ ap (λ c. cond c (counted listed y (Some new)) (counted listed (drop (length to) x)
        (find path_cmp (drop (length to) x) u))) (same_test inside ∙ s)
    by false inside true s = absurd (both_ways _ inside
        (ap (λ z. is_inside z to) (same_from_test x (to ++ y) s) ∙ place_inside to y below))
    by false inside false s = refl

-- ---- what is put over a tree

-- a directory comes where a directory is put
pub over_directory : (old : Option Entry) (new : Entry) → is_directory_node (Some new.node) ≡ true
    → is_directory_node (node_of (over old (Some new))) ≡ true
over_directory None new is = is
over_directory (Some old) new is = by (is_directory_node (Some old.node)) refl
  where
    by : (b : Bool) → is_directory_node (Some old.node) ≡ b
        → is_directory_node (node_of (cond (b && is_directory_node (Some new.node)) (Some old) (Some new))) ≡ true
    by true was = ap (λ c. is_directory_node (node_of (cond c (Some old) (Some new)))) is ∙ was
    by false was = is

-- a file comes whole
pub over_file : (old : Option Entry) (new : Entry) → is_directory_node (Some new.node) ≡ false
    → over old (Some new) ≡ Some new
over_file None new no_directory = refl
over_file (Some old) new no_directory = by (is_directory_node (Some old.node))
  where
    by : (b : Bool) → cond (b && is_directory_node (Some new.node)) (Some old) (Some new) ≡ Some new
    by true = ap (λ c. cond c (Some old) (Some new)) no_directory
    by false = refl

-- one entry more of the sources is put
module _ (replaces : Bool) (to : Path) (listed : List Path) (t u v w next : Tree) (y : Path) (new : Entry) where
  pub one_more_put : is_root y ≡ false
      → ((z : Path) → find path_cmp z v ≡ cond (same_path z y) (Some new) (find path_cmp z u))
      → IsPut replaces to listed u t w
      → clash replaces (find path_cmp (to ++ y) t) (counted listed y (Some new)) ≡ None
      → IsTree next
      → ((x : Path) → find path_cmp x next
      ≡ cond (same_path x (to ++ y)) (over (find path_cmp (to ++ y) t) (counted listed y (Some new)))
      (find path_cmp x w))
      → IsPut replaces to listed v t next
  one_more_put below finds put fits tree found = record {
    allowed = λ x. ap (clash replaces (find path_cmp x t)) (placed_more to listed u v y new below finds x)
        ∙ free x (same_path x (to ++ y)) refl;
    standing = record {
      is_tree = tree;
      each = λ x. found x ∙ stands x (same_path x (to ++ y)) refl
          ∙ ap (over (find path_cmp x t)) (sym (placed_more to listed u v y new below finds x));
    };
  }
    where
      free : (x : Path) (b : Bool) → same_path x (to ++ y) ≡ b
          → clash replaces (find path_cmp x t) (cond b (counted listed y (Some new)) (placed_at to listed u x)) ≡ None
      free x true s = ap (λ z. clash replaces (find path_cmp z t) (counted listed y (Some new)))
          (same_from_test x (to ++ y) s) ∙ fits
      free x false s = put.allowed x

      stands : (x : Path) (b : Bool) → same_path x (to ++ y) ≡ b
          → cond b (over (find path_cmp (to ++ y) t) (counted listed y (Some new))) (find path_cmp x w)
          ≡ over (find path_cmp x t) (cond b (counted listed y (Some new)) (placed_at to listed u x))
      stands x true s = ap (λ z. over (find path_cmp z t) (counted listed y (Some new)))
          (sym (same_from_test x (to ++ y) s))
      stands x false s = put.standing.each x

-- ---- at the beginning

-- where no file stands a directory passes, or is made
pub free_for_directory : (replaces : Bool) (o : Option Entry) → is_file_node (node_of o) ≡ false
    → clash replaces o (Some bare_directory) ≡ None
free_for_directory replaces None other = refl
free_for_directory replaces (Some e) other = by e.node other
  where
    by : (n : Node) → is_file_node (Some n) ≡ false
        → clash replaces (Some (record { node = n; attributes = e.attributes })) (Some bare_directory) ≡ None
    by Directory other = refl
    by (File bytes) other = cc

pub made_over : (o : Option Entry) → is_file_node (node_of o) ≡ false
    → option_or o (Some bare_directory) ≡ over o (Some bare_directory)
made_over None other = refl
made_over (Some e) other = by e.node other
  where
    by : (n : Node) → is_file_node (Some n) ≡ false
        → Some (record { node = n; attributes = e.attributes })
        ≡ over (Some (record { node = n; attributes = e.attributes })) (Some bare_directory)
    by Directory other = refl
    by (File bytes) other = cc

kept_over : (o : Option Entry) → option_or o None ≡ over o None
kept_over None = refl
kept_over (Some e) = refl

-- what is below a path does not lead to it
pub not_both_ways : (x to : Path) → is_inside x to ≡ true → leads_to (to ∷ []) x ≡ true → ⊥
not_both_ways x to inside leads =
    let below = inside_split x to inside in
    let above = by (or_cases (is_at_or_inside to x) false (and_parts (not (is_root x)) _ leads).1) in
    omega (
      arith,
      ap length below.0,
      length-append to (drop (length to) x),
      ap length above,
      length-append x (drop (length x) to),
      some (drop (length to) x) below.1,
    )
  where
    by : (is_at_or_inside to x ≡ true) ⊎ (false ≡ true) → to ≡ x ++ drop (length x) to
    by (inl is) = at_or_inside-split to x is
    by (inr never) = cc

    some : (s : Path) → is_root s ≡ false → 0 < length s
    some [] below = cc
    some (n ∷ s) below = omega arith

-- behind the way to the place, nothing was put
module _ (replaces : Bool) (to : Path) (listed : List Path) (t w : Tree) (made : AreMadeWithParents (to ∷ []) t w) where
  not_file : (x : Path) → leads_to (to ∷ []) x ≡ true → is_file_node (node_of (find path_cmp x t)) ≡ false
  not_file x leads =
      ap is_file_node (sym (node_at-find t x (not-true _ (and_parts (not (is_root x)) _ leads).0)))
      ∙ made.allowed x leads

  free_at : (x : Path) (i l : Bool) → leads_to (to ∷ []) x ≡ l
      → clash replaces (find path_cmp x t) (cond i None (cond l (Some bare_directory) None)) ≡ None
  free_at x true l e = nothing (find path_cmp x t)
    where
      nothing : (o : Option Entry) → clash replaces o None ≡ None
      nothing None = refl
      nothing (Some e) = refl
  free_at x false false e = nothing (find path_cmp x t)
    where
      nothing : (o : Option Entry) → clash replaces o None ≡ None
      nothing None = refl
      nothing (Some e) = refl
  free_at x false true e = free_for_directory replaces (find path_cmp x t) (not_file x e)

  stands_at : (x : Path) (i : Bool) → is_inside x to ≡ i → (l : Bool) → leads_to (to ∷ []) x ≡ l
      → option_or (find path_cmp x t) (cond l (Some bare_directory) None)
      ≡ over (find path_cmp x t) (cond i None (cond l (Some bare_directory) None))
  stands_at x true inside true e = absurd (not_both_ways x to inside e)
  stands_at x true inside false e = kept_over (find path_cmp x t)
  stands_at x false inside false e = kept_over (find path_cmp x t)
  stands_at x false inside true e = made_over (find path_cmp x t) (not_file x e)

  pub nothing_put : IsPut replaces to listed [] t w
  nothing_put = record {
    allowed = λ x. free_at x (is_inside x to) (leads_to (to ∷ []) x) refl;
    standing = told_alike _ _ w (λ x. stands_at x (is_inside x to) refl (leads_to (to ∷ []) x) refl) made.standing;
  }
