-- What the host can have of a tree is a tree.
use Rattle.std.proofs.Common.{◌≡◌, Bool, true, false, not, ◌&&◌, if◌then◌else◌, cond, IsTrue, List, [], ◌∷◌, ◌++◌, map}
use Rattle.std.proofs.Common.{length, ◌==◌, Some, refl, sym, ap, subst, ◌∙◌}
use Rattle.std.specs.FinMap.{find}
use Rattle.std.specs.Ordering.{eq_by_cmp}
use Rattle.std.specs.List.{AllByRecursion, filter}
use Rattle.std.proofs.lemmas.Bool.{false≢true}
use Rattle.std.proofs.lemmas.List.Kept.{IsStrictlySortedBy-filter}
use Rattle.store_model.specs.declared.draw_kind.DrawKind.TheVariants.{Ruler}
use Rattle.store_model.specs.declared.version.Version.TheVariants.{Two}
use Rattle.store_model.specs.Parameters.{Parameters}
use Rattle.store_model.specs.Paths.{Path, Name, name_cmp, path_cmp, parent}
use Rattle.store_model.specs.Pages.{IsTreeUnder}
use Rattle.store_model.specs.Trees.{Tree, Node, Entry, Attributes, IsTree, IsEntry, IsAttribute, AreAttributes}
use Rattle.store_model.specs.Trees.{is_directory, is_directory_node, node_of}
use Rattle.store_model.specs.Trees.Node.{Directory, File}
use Rattle.store_model.proofs.ListsLemmas.{all_map, all_weaker, all_filter, rising_from_is_sorted}
use Rattle.store_model.proofs.ListsLemmas.{is_sorted_from_rising}
use Rattle.store_model.proofs.ListsLemmas.{rising_to_map}
use Rattle.dump_streams.specs.Dumps.{DumpStep, after_step, dump}
use Rattle.dump_streams.specs.Streams.{Extends}
use Rattle.dump_streams.proofs.DumpFronts.{goes_on_with, dumps_tell_trees}
use Rattle.host_builder.specs.declared.attribute.Wanted.{Wanted}
use Rattle.host_builder.specs.HostAttributes.{attribute_of}
use Rattle.host_builder.specs.Passing.{is_passed}
use Rattle.host_builder.specs.Views.{folder_has, file_has, link_has, kept, is_link, host_attributes, host_entry}
use Rattle.host_builder.specs.Views.{leaves_links, is_left_link, is_made, made_part, host_view}
use Rattle.host_builder.proofs.PassedSteps.{passed_tree, passed_is_tree}
use Rattle.host_builder.proofs.ViewTrees.{kept_are, made_is}

module _ (wanted : Wanted) where
  -- ---- without the links that are left out

  abbrev staying : Tree → Tree
  staying t = filter (λ e. not (is_left_link wanted e.1)) t

  -- a folder is none
  folder_stays : (node : Node) (names : Attributes) → is_directory_node (Some node) ≡ true
      → is_left_link wanted (record { node = node; attributes = names }) ≡ false
  folder_stays Directory names is = never (leaves_links wanted.links)
    where
      never : (b : Bool) → (b && false) ≡ false
      never true = refl
      never false = refl
  folder_stays (File bytes) names is = absurd (false≢true is)

  folder_there : (q : Path) (t : Tree) → is_directory_node (node_of (find path_cmp q t)) ≡ true
      → is_directory_node (node_of (find path_cmp q (staying t))) ≡ true
  folder_there q [] h = h
  folder_there q (e ∷ t) h =
      by_test (folder_there q t) (eq_by_cmp path_cmp q e.0) (is_left_link wanted e.1) refl refl h
    where
      by_test : (is_directory_node (node_of (find path_cmp q t)) ≡ true
          → is_directory_node (node_of (find path_cmp q (staying t))) ≡ true) → (c l : Bool)
          → eq_by_cmp path_cmp q e.0 ≡ c → is_left_link wanted e.1 ≡ l
          → is_directory_node (node_of (cond c (Some e.1) (find path_cmp q t))) ≡ true
          → is_directory_node (node_of (find path_cmp q (cond (not l) (e ∷ staying t) (staying t)))) ≡ true
      by_test rest true true same left h =
          absurd (false≢true (sym (folder_stays e.1.node e.1.attributes h) ∙ left))
      by_test rest true false same left h =
          ap (λ (b : Bool). is_directory_node (node_of (cond b (Some e.1) (find path_cmp q (staying t))))) same ∙ h
      by_test rest false true same left h = rest h
      by_test rest false false same left h =
          ap (λ (b : Bool). is_directory_node (node_of (cond b (Some e.1) (find path_cmp q (staying t))))) same ∙ rest h

  stays_directory : (t : Tree) (q : Path) → is_directory t q ≡ true → is_directory (staying t) q ≡ true
  stays_directory t [] h = refl
  stays_directory t (n ∷ q) h = folder_there (n ∷ q) t h

  staying_is_tree : (t : Tree) → IsTree t → IsTree (staying t)
  staying_is_tree t tree = record {
    sorted = is_sorted_from_rising path_cmp (staying t)
        (IsStrictlySortedBy-filter (λ (a b : Path × Entry). path_cmp a.0 b.0)
        (λ (e : Path × Entry). not (is_left_link wanted e.1)) t (rising_from_is_sorted path_cmp t tree.sorted));
    entries = all_weaker (IsEntry t) (IsEntry (staying t)) (λ e is. record {
      path = is.path;
      below_root = is.below_root;
      parent_directory = stays_directory t (parent e.0) is.parent_directory;
      node = is.node;
      attributes = is.attributes;
    }) (staying t) (all_filter (IsEntry t) (λ (e : Path × Entry). not (is_left_link wanted e.1)) t tree.entries);
  }

  -- ---- with what the host has of each entry

  abbrev shown_tree : Tree → Tree
  shown_tree t = map (λ e. (e.0, host_entry wanted e.1)) t

  shown_node : (q : Path) (t : Tree) → node_of (find path_cmp q (shown_tree t)) ≡ node_of (find path_cmp q t)
  shown_node q [] = refl
  shown_node q (e ∷ t) = by_test (eq_by_cmp path_cmp q e.0) (shown_node q t)
    where
      by_test : (b : Bool) → node_of (find path_cmp q (shown_tree t)) ≡ node_of (find path_cmp q t)
          → node_of (cond b (Some (host_entry wanted e.1)) (find path_cmp q (shown_tree t)))
          ≡ node_of (cond b (Some e.1) (find path_cmp q t))
      by_test true rest = refl
      by_test false rest = rest

  shown_directory : (t : Tree) (q : Path) → is_directory (shown_tree t) q ≡ is_directory t q
  shown_directory t [] = refl
  shown_directory t (n ∷ q) = ap is_directory_node (shown_node (n ∷ q) t)

  shown_names : (x : Path) (node : Node) (names : Attributes) → AreAttributes x names
      → AreAttributes x (host_attributes wanted node names)
  shown_names x Directory names are = kept_are wanted x (folder_has wanted) names are
  shown_names x (File bytes) names are = by_test (is_link wanted (length bytes == 0) names)
    where
      by_test : (b : Bool)
          → AreAttributes x (if b then kept (link_has wanted) names else kept (file_has wanted) names)
      by_test true = kept_are wanted x (link_has wanted) names are
      by_test false = kept_are wanted x (file_has wanted) names are

  shown_is_tree : (t : Tree) → IsTree t → IsTree (shown_tree t)
  shown_is_tree t tree = record {
    sorted = is_sorted_from_rising path_cmp (shown_tree t)
        (rising_to_map (λ (a b : Path × Entry). path_cmp a.0 b.0)
        (λ (e : Path × Entry). (e.0, host_entry wanted e.1)) t (rising_from_is_sorted path_cmp t tree.sorted));
    entries = all_map (IsEntry t) (IsEntry (shown_tree t)) (λ (e : Path × Entry). (e.0, host_entry wanted e.1))
        (λ e is. record {
          path = is.path;
          below_root = is.below_root;
          parent_directory = shown_directory t (parent e.0) ∙ is.parent_directory;
          node = is.node;
          attributes = shown_names e.0 e.1.node e.1.attributes is.attributes;
        }) t tree.entries;
  }

  pub view_is_tree : (t : Tree) → IsTree t → IsTree (host_view wanted t)
  view_is_tree t tree = shown_is_tree (made_part wanted t) (subst IsTree (made_is wanted t)
      (staying_is_tree (passed_tree wanted t) (passed_is_tree wanted t tree)))

-- ---- what goes on with a dump

-- under these parameters any tree may stand
any_parameters : Parameters
any_parameters = record { slots = 1; height = 1; kind = Ruler; seed = []; version = Two }

under_any : (t : Tree) → IsTree t → IsTreeUnder t any_parameters
unfolding any_parameters
under_any t tree = record { is_tree = tree; bare = λ lacks. absurd (false≢true (sym lacks)) }

-- a step that stands behind a dump in that of another tree goes on with it
pub extends_to : (t u : Tree) (s : DumpStep) (rest : List DumpStep) → IsTree t → IsTree u → dump u ≡ dump t ++ s ∷ rest
    → Extends t s
extends_to t u s rest tree tree' is =
    let goes = goes_on_with t u s rest any_parameters (under_any t tree) (under_any u tree') is in
    record { is_tree = goes.under.is_tree; dump_is = goes.dump_is }

-- a dump tells its tree
pub same_tree : (t u : Tree) → IsTree t → IsTree u → dump t ≡ dump u → t ≡ u
same_tree t u tree tree' is = dumps_tell_trees t u any_parameters (under_any t tree) (under_any u tree') is
