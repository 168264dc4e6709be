-- What one step of the sources' dump does at its place.
use Rattle.std.proofs.Common.{◌≡◌, List, [], ◌∷◌, ◌++◌, length, Bool, true, false, not, ◌&&◌, ◌||◌}
use Rattle.std.proofs.Common.{cond, Option, Some, None, refl, sym, ap, ap₂, ◌∙◌}
use Rattle.std.proofs.Common.{arith}
use Rattle.std.specs.FinMap.{find}
use Rattle.std.proofs.lemmas.Bool.{cond-true, cond-false, or_left, and_left}
use Rattle.std.proofs.lemmas.Bool.{le-ltb}
use Rattle.std.proofs.lemmas.List.{append-nil}
use Rattle.store_model.specs.Paths.{Path, is_root, path_cmp, same_path, parent, is_inside}
use Rattle.store_model.specs.Trees.{Tree, Entry, node_of}
use Rattle.store_model.specs.Trees.{is_directory}
use Rattle.store_model.specs.Trees.{is_directory_node}
use Rattle.store_model.proofs.TreesLemmasPaths.{same_path-itself}
use Rattle.store_model.proofs.TreesLemmas.{node_at-find}
use Rattle.tree_changes.specs.Meant.{bare_directory}
use Rattle.tree_changes.specs.Folders.{is_among}
use Rattle.tree_changes.specs.Puts.{counted, placed_at, over, clash, clash_of_kinds}
use Rattle.tree_changes.specs.Puts.{IsPut}
use Rattle.tree_changes.proofs.ParentLemmas.{root_directory}
use Rattle.tree_changes.proofs.PlacedLemmas.{place_not_root, place_parent, placed_below, placed_more}
use Rattle.tree_changes.proofs.PlacedLemmas.{over_directory}

-- ---- entries

pub over_nothing : (o : Option Entry) → over o None ≡ o
over_nothing None = refl
over_nothing (Some e) = refl

pub counted_bare : (listed : List Path) (y : Path) → counted listed y (Some bare_directory) ≡ Some bare_directory
counted_bare listed y = by (not (is_among listed y))
  where
    by : (b : Bool) → cond (true && b) (Some bare_directory) (Some bare_directory) ≡ Some bare_directory
    by true = refl
    by false = refl

pub counted_file : (listed : List Path) (y : Path) (e : Entry) → is_directory_node (Some e.node) ≡ false
    → counted listed y (Some e) ≡ Some e
counted_file listed y e no_directory =
    ap (λ b. cond (b && not (is_among listed y)) (Some bare_directory) (Some e)) no_directory

pub counted_listed : (listed : List Path) (y : Path) (e : Entry) → is_among listed y ≡ true
    → counted listed y (Some e) ≡ Some e
counted_listed listed y e among =
    ap (λ b. cond (is_directory_node (Some e.node) && not b) (Some bare_directory) (Some e)) among
    ∙ by (is_directory_node (Some e.node))
  where
    by : (b : Bool) → cond (b && false) (Some bare_directory) (Some e) ≡ Some e
    by true = refl
    by false = refl

pub counted_unlisted : (listed : List Path) (y : Path) (e : Entry) → is_directory_node (Some e.node) ≡ true
    → is_among listed y ≡ false → counted listed y (Some e) ≡ Some bare_directory
counted_unlisted listed y e is among =
    ap₂ (λ a b. cond (a && not b) (Some bare_directory) (Some e)) is among

-- a directory comes as one
pub counted_directory : (listed : List Path) (y : Path) (o : Option Entry) → is_directory_node (node_of o) ≡ true
    → (e : Entry) × (counted listed y o ≡ Some e) × (is_directory_node (Some e.node) ≡ true)
counted_directory listed y None is = cc
counted_directory listed y (Some e) is = by (is_among listed y) refl
  where
    by : (b : Bool) → is_among listed y ≡ b
        → (f : Entry) × (counted listed y (Some e) ≡ Some f) × (is_directory_node (Some f.node) ≡ true)
    by true among = (e, counted_listed listed y e among, is)
    by false among = (bare_directory, counted_unlisted listed y e is among, refl)

-- a clash goes by the kinds
pub clash_alike : (replaces : Bool) (o : Option Entry) (e f : Entry)
    → is_directory_node (Some e.node) ≡ is_directory_node (Some f.node)
    → clash replaces o (Some e) ≡ clash replaces o (Some f)
clash_alike replaces None e f same = refl
clash_alike replaces (Some old) e f same = ap (clash_of_kinds replaces (is_directory_node (Some old.node))) same

-- a directory that comes where none stands
pub over_new : (o : Option Entry) (e : Entry) → is_directory_node (node_of o) ≡ false → over o (Some e) ≡ Some e
over_new None e no_directory = refl
over_new (Some old) e no_directory =
    ap (λ b. cond (b && is_directory_node (Some e.node)) (Some old) (Some e)) no_directory

-- and where one stands
pub over_old : (o : Option Entry) (e : Entry) → is_directory_node (node_of o) ≡ true
    → is_directory_node (Some e.node) ≡ true → over o (Some e) ≡ o
over_old None e was is = cc
over_old (Some old) e was is = ap₂ (λ a b. cond (a && b) (Some old) (Some e)) was is

pub clash_merged : (replaces : Bool) (o : Option Entry) (e : Entry) → is_directory_node (node_of o) ≡ true
    → is_directory_node (Some e.node) ≡ true → clash replaces o (Some e) ≡ None
clash_merged replaces None e was is = cc
clash_merged replaces (Some old) e was is = ap₂ (clash_of_kinds replaces) was is

-- ---- what stands at a place of the sources

module _ (replaces : Bool) (to : Path) (listed : List Path) (t u w : Tree)
    (put_so_far : IsPut replaces to listed u t w) where
  -- the place itself is a directory
  pub to_directory : is_directory w to ≡ true
  unfolding is_inside
  to_directory = by (is_root to) refl
    where
      itself : is_inside to to ≡ false
      itself = and_left _ _ (le-ltb (length to) (length to) (omega arith))

      by : (r : Bool) → is_root to ≡ r → is_directory w to ≡ true
      by true r = root_directory w to r
      by false r =
          ap is_directory_node (node_at-find w to r ∙ ap node_of (put_so_far.standing.each to
          ∙ ap (over (find path_cmp to t)) (cond-false _ _ _ itself
          ∙ cond-true _ (Some bare_directory) None (ap₂ (λ a b. not a && (b || false)) r
          (or_left _ _ (same_path-itself to))))))
          ∙ over_directory (find path_cmp to t) bare_directory refl

  module _ (y : Path) (below : is_root y ≡ false) where
    -- what stands at the place
    pub at_place : find path_cmp (to ++ y) w ≡ over (find path_cmp (to ++ y) t) (counted listed y (find path_cmp y u))
    at_place = put_so_far.standing.each (to ++ y)
        ∙ ap (over (find path_cmp (to ++ y) t)) (placed_below to listed u y below)

    -- a directory of the sources is one there
    pub directory_there : is_directory u y ≡ true → is_directory w (to ++ y) ≡ true
    directory_there is =
        let comes = counted_directory listed y (find path_cmp y u)
        (ap is_directory_node (sym (node_at-find u y below)) ∙ is) in
        ap is_directory_node (node_at-find w (to ++ y) (place_not_root to y below) ∙ ap node_of (at_place
        ∙ ap (over (find path_cmp (to ++ y) t)) comes.1))
        ∙ over_directory (find path_cmp (to ++ y) t) comes.0 comes.2

    -- what stood there, where nothing came yet
    pub stood_there : find path_cmp y u ≡ None → find path_cmp (to ++ y) w ≡ find path_cmp (to ++ y) t
    stood_there none = at_place
        ∙ ap (λ o. over (find path_cmp (to ++ y) t) (counted listed y o)) none
        ∙ over_nothing (find path_cmp (to ++ y) t)

  -- the parent of a place is a directory, as that of the path is
  pub parent_there : (y : Path) → is_root y ≡ false → is_directory u (parent y) ≡ true
      → is_directory w (parent (to ++ y)) ≡ true
  parent_there y below up = ap (is_directory w) (place_parent to y below) ∙ by (parent y) (is_root (parent y)) refl up
    where
      by : (x : Path) (r : Bool) → is_root x ≡ r → is_directory u x ≡ true → is_directory w (to ++ x) ≡ true
      by [] r e is = ap (is_directory w) (append-nil to) ∙ to_directory
      by (n ∷ x) r e is = directory_there (n ∷ x) refl is

-- ---- what is refused

-- what comes is in the last entry of the sources
pub comes_last : (to : Path) (listed : List Path) (u v : Tree) (y : Path) (new : Entry) → is_root y ≡ false
    → ((z : Path) → find path_cmp z v ≡ cond (same_path z y) (Some new) (find path_cmp z u))
    → placed_at to listed v (to ++ y) ≡ counted listed y (Some new)
comes_last to listed u v y new below finds = placed_more to listed u v y new below finds (to ++ y)
    ∙ cond-true _ _ _ (same_path-itself (to ++ y))
