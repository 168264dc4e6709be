-- The last path of a tree, and the paths of a tree that a folder told.
use Rattle.std.proofs.Common.{◌≡◌, ℕ, List, [], ◌∷◌, ◌++◌, map, take, drop, inl, inr, refl, sym, ap, subst, ◌∙◌}
use Rattle.std.specs.List.{Contains}
use Rattle.std.proofs.lemmas.List.{map-append, take-append-drop, same_from_push}
use Rattle.std.proofs.lemmas.List.Elements.{Contains-push, Contains-append_left}
use Rattle.store_model.specs.Parameters.{Parameters}
use Rattle.store_model.specs.Paths.{Path}
use Rattle.store_model.specs.Trees.{Tree, Entry, Attributes}
use Rattle.store_model.specs.Trees.Node.{Directory, File}
use Rattle.store_model.specs.Pages.{IsTreeUnder}
use Rattle.tree_pairs.specs.Seen.{bare_entry}
use Rattle.dump_streams.specs.Dumps.{DumpStep, after_step, step_path}
use Rattle.dump_streams.specs.Dumps.DumpStep.{Make, Write, Set}
use Rattle.dump_streams.specs.Reading.{GoesOn}
use Rattle.dump_streams.proofs.DumpFronts.{next_of_goes_on}
use Rattle.dump_streams.proofs.NextTrees.{IsNext, tree_of_make, tree_of_first, later_leads, name_leads}
use Rattle.host_folders.specs.FolderState.{FolderState}
use Rattle.host_folders.specs.FoundEntries.{entries_of, is_file, is_link, said_behind}
use Rattle.host_folders.specs.Packed.{CameOf, HasFiles, IsCut, IsSoFar}
use Rattle.host_folders.specs.declared.found.Found.{Found}
use Rattle.host_folders.specs.declared.stream.FolderStream.{FolderStream}
use Rattle.host_folders.specs.declared.stream.Place.{Place}
use Rattle.host_folders.specs.declared.stream.Place.TheVariants as places
use Rattle.image_create.specs.Creates.{IsFoundAt}
use Rattle.image_create.specs.Leading.{IsLastPath, IsPathOf}

-- the path of an entry
abbrev path_of : Path × Entry → Path
path_of e = e.0

-- ---- behind a step

-- the last entry of the tree stands at this path
pub record EndsAt (t : Tree) (path : Path) : Type 0 where
  pub front : Tree
  pub entry : Entry
  pub is : t ≡ front ++ (path, entry) ∷ []

module _ (t : Tree) (p : Parameters) (under : IsTreeUnder t p) where
  next_ends : (c : DumpStep) → IsNext t p c → EndsAt (after_step t c) (step_path c)
  next_ends (Make path) next = record {
    front = t;
    entry = bare_entry Directory;
    is = tree_of_make t path next;
  }
  next_ends (Write path at bytes) (inl first) = record {
    front = t;
    entry = bare_entry (File bytes);
    is = ap (λ i. after_step t (Write path i bytes)) first.at_is ∙ tree_of_first t path bytes first.next;
  }
  next_ends (Write path at bytes) (inr later) = record {
    front = later.before;
    entry = bare_entry (File (later.content ++ bytes));
    is = later_leads t path at bytes later under.is_tree;
  }
  next_ends (Set path name bytes) later = record {
    front = later.before;
    entry = record { node = later.node; attributes = later.attributes ++ (name, bytes) ∷ [] };
    is = name_leads t p path name bytes later under.is_tree;
  }

  -- behind a step the last path is the step's
  pub step_ends : (c : DumpStep) → GoesOn t c p → EndsAt (after_step t c) (step_path c)
  step_ends c goes = next_ends c (next_of_goes_on t c p under goes)

-- a tree without paths has no last one
pub no_last : (last : Path) → IsLastPath [] last
no_last last [] path e is = cc
no_last last (first ∷ front) path e is = cc

-- it is the last path, and a path of the tree
pub ends_last : (t : Tree) (path : Path) → EndsAt t path → IsLastPath t path
ends_last t path ends front other e is =
    ap path_of (same_from_push front ends.front (other, e) (path, ends.entry) (sym is ∙ ends.is)).1

pub ends_of : (t : Tree) (path : Path) → EndsAt t path → IsPathOf t path
ends_of t path ends =
    subst (λ (paths : List Path). Contains paths path)
    (sym (ap (λ (u : Tree). map path_of u) ends.is ∙ map-append path_of ends.front ((path, ends.entry) ∷ [])))
    (Contains-push (map path_of ends.front) path)

-- where the last path is known, so is that of an entry that is the last
pub last_of : (t : Tree) (last path : Path) (front : Tree) (e : Entry) → IsLastPath t last
    → t ≡ front ++ (path, e) ∷ [] → IsPathOf t last
last_of t last path front e is_last is =
    subst (IsPathOf t) (is_last front path e is) (ends_of t path (record { front = front; entry = e; is = is }))

-- ---- the paths that were found

abbrev found_path : Found → Path
found_path f = f.path

entries_paths : (found : List Found) (contents targets : List (List ℕ))
    → map path_of (entries_of found contents targets) ≡ map found_path found
unfolding entries_of
entries_paths [] contents targets = refl
entries_paths (first ∷ found) contents targets = ap (λ (rest : List Path). first.path ∷ rest)
    (entries_paths found (said_behind (is_file first.kind) contents) (said_behind (is_link first.kind) targets))

has_paths : (found : List Found) (files links : List (Path × List ℕ)) (t : Tree) → HasFiles found files links t
    → map path_of t ≡ map found_path found
has_paths found files links t has =
    ap (λ (u : Tree). map path_of u) has.tree
    ∙ entries_paths found (map (λ (file : Path × List ℕ). file.1) files) (map (λ (link : Path × List ℕ). link.1) links)

-- a path of the tree that was told was found
pub path_found : (found : List Found) (files links : List (Path × List ℕ)) (t : Tree) (path : Path)
    → HasFiles found files links t → IsPathOf t path → IsFoundAt found path
path_found found files links t path has is =
    subst (λ (paths : List Path). Contains paths path) (has_paths found files links t has) is

cut_paths : (begun : List Found) (last : Found) (attributes : Attributes) (count : ℕ) (whole t : Tree)
    → IsCut begun last attributes count whole t → map path_of t ≡ map path_of whole
cut_paths begun last attributes count whole t is =
    let all : Tree = (last.path, record { node = is.node; attributes = attributes }) ∷ [] in
    let some : Tree = (last.path, record { node = is.node; attributes = take count attributes }) ∷ [] in
    ap (λ (u : Tree). map path_of u) is.so_far ∙ map-append path_of is.front some
    ∙ sym (ap (λ (u : Tree). map path_of u) is.whole_is ∙ map-append path_of is.front all)

so_far_paths : (place : Place) (begun : List Found) (whole t : Tree) → IsSoFar place begun whole t
    → map path_of t ≡ map path_of whole
so_far_paths places.Start begun whole t is = ap (λ (u : Tree). map path_of u) is
so_far_paths (places.Piece found at) begun whole t is = cut_paths begun found _ 0 whole t is.0
so_far_paths (places.Attribute found index) begun whole t is = cut_paths begun found _ index whole t is
so_far_paths (places.Target found target) begun whole t is = cut_paths begun found _ 0 whole t is

-- a path of the tree that came so far was found
pub path_came : {F : Type 0} (state_of : F → FolderState) (stream : FolderStream F) (t : Tree) (path : Path)
    → CameOf state_of stream t → IsPathOf t path → IsFoundAt stream.found.items path
path_came state_of stream t path came is =
    let begun = take stream.at stream.found.items in
    let rest = drop stream.at stream.found.items in
    let here = path_found begun came.files came.links came.whole path came.entries
    (subst (λ (paths : List Path). Contains paths path)
    (so_far_paths stream.place begun came.whole t came.so_far) is) in
    subst (λ (found : List Found). IsFoundAt found path) (take-append-drop stream.at stream.found.items)
    (subst (λ (paths : List Path). Contains paths path) (sym (map-append found_path begun rest))
    (Contains-append_left (map found_path begun) (map found_path rest) path here))
