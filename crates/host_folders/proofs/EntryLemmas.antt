-- The entries of what was found: one more, and the last file again.
use Rattle.std.proofs.Common.{◌≡◌, ℕ, suc, ◌+◌, Bool, true, false, List, [], ◌∷◌, ◌++◌, length, map, refl, sym, ap}
use Rattle.std.proofs.Common.{ap₂, ◌∙◌, arith}
use Rattle.std.specs.Bool.{IsTrue}
use Rattle.std.proofs.lemmas.List.Elements.{All-push}
use Rattle.std.proofs.lemmas.List.{append-nil, length-append, length-map, map-append}
use Rattle.std.proofs.lemmas.List.Concat.{flat_map-append, flat_map-cons}
use Rattle.store_model.specs.Paths.{Path}
use Rattle.store_model.specs.Trees.{Tree, Entry}
use Rattle.store_model.specs.Trees.Node.{Directory, File}
use Rattle.host_builder.specs.HostAttributes.{is_target}
use Rattle.host_folders.specs.FoundEntries.{own_attributes, link_attributes, found_node, attributes_by, found_entry}
use Rattle.host_folders.specs.FoundEntries.{is_file, is_link, said_here, said_behind, entries_of, path_if, paths_of}
use Rattle.host_folders.specs.FoundEntries.{file_paths, link_paths}
use Rattle.host_folders.specs.Packed.{HasFiles}
use Rattle.host_folders.specs.declared.found.Found.{Found}
use Rattle.host_folders.specs.declared.found.FoundKind.{FoundKind}
use Rattle.host_folders.specs.declared.found.FoundKind.TheVariants as kinds

-- ---- files

-- files, by the last of their paths
pub last_file : (files : List (Path × List ℕ)) (xs : List Path) (x : Path) → map (λ file. file.0) files ≡ xs ++ x ∷ []
    → (before : List (Path × List ℕ)) × (bytes : List ℕ) × (files ≡ before ++ (x, bytes) ∷ [])
    × (map (λ file. file.0) before ≡ xs)
last_file [] xs x e = absurd (omega (arith, ap length e, length-append xs (x ∷ [])))
last_file (file ∷ []) [] x e =
    let path : file.0 ≡ x = cc in
    ([], file.1, ap (λ y. (y, file.1) ∷ []) path, refl)
last_file (file ∷ other ∷ files) [] x e = absurd (omega (arith, ap length e))
last_file (file ∷ files) (y ∷ xs) x e =
    let first : file.0 ≡ y = cc in
    let rest : map (λ (f : Path × List ℕ). f.0) files ≡ xs ++ x ∷ [] = cc in
    let split = last_file files xs x rest in
    (file ∷ split.0, split.1, ap (λ fs. file ∷ fs) split.2, ap₂ (λ z zs. z ∷ zs) first split.3)

-- ---- one entry more

-- what is left of what is said of some of the entries behind them
said_left : (FoundKind → Bool) → List Found → List (List ℕ) → List (List ℕ)
said_left is [] said = said
said_left is (found ∷ more) said = said_left is more (said_behind (is found.kind) said)

entries_more : (found : List Found) (last : Found) (contents targets : List (List ℕ))
    → entries_of (found ++ last ∷ []) contents targets ≡ entries_of found contents targets
    ++ found_entry last (said_here (is_file last.kind) (said_left is_file found contents))
    (said_here (is_link last.kind) (said_left is_link found targets)) ∷ []
unfolding entries_of said_left
entries_more [] last contents targets = refl
entries_more (first ∷ found) last contents targets =
    ap (λ rest. found_entry first (said_here (is_file first.kind) contents) (said_here (is_link first.kind) targets)
    ∷ rest)
    (entries_more found last (said_behind (is_file first.kind) contents) (said_behind (is_link first.kind) targets))

-- what is said of one entry
record IsHere (is_one : Bool) (said more : List (List ℕ)) (left : ℕ) : Type 0 where
  here : said_here is_one (said ++ more) ≡ said_here is_one said
  behind : said_behind is_one (said ++ more) ≡ said_behind is_one said ++ more
  left_is : length (said_behind is_one said) ≡ left

is_here : (path : Path) (is_one : Bool) (said more : List (List ℕ)) (left : ℕ)
    → length said ≡ length (path_if is_one path) + left → IsHere is_one said more left
is_here path false said more left e = record { here = refl; behind = refl; left_is = omega (arith, e) }
is_here path true [] more left e = absurd (omega (arith, e))
is_here path true (bytes ∷ said) more left e = record {
  here = refl;
  behind = refl;
  left_is = omega (arith, e);
}

paths_more : (is : FoundKind → Bool) (found : List Found) (last : Found)
    → paths_of is (found ++ last ∷ []) ≡ paths_of is found ++ path_if (is last.kind) last.path
unfolding paths_of
paths_more is found last = flat_map-append (λ (f : Found). path_if (is f.kind) f.path) found (last ∷ [])
    ∙ ap (λ (own : List Path). paths_of is found ++ own) (append-nil (path_if (is last.kind) last.path))

paths_first : (is : FoundKind → Bool) (first : Found) (found : List Found)
    → paths_of is (first ∷ found) ≡ path_if (is first.kind) first.path ++ paths_of is found
unfolding paths_of
paths_first is first found = flat_map-cons (λ (f : Found). path_if (is f.kind) f.path) first found

-- what is said of the first entry, and of those behind it
first_here : (is : FoundKind → Bool) (first : Found) (found : List Found) (said more : List (List ℕ))
    → length said ≡ length (paths_of is (first ∷ found))
    → IsHere (is first.kind) said more (length (paths_of is found))
first_here is first found said more e = is_here first.path (is first.kind) said more (length (paths_of is found))
    (e ∙ ap length (paths_first is first found)
    ∙ length-append (path_if (is first.kind) first.path) (paths_of is found))

-- where something is said of each, what is said besides is left
left_besides : (is : FoundKind → Bool) (found : List Found) (said more : List (List ℕ))
    → length said ≡ length (paths_of is found) → said_left is found (said ++ more) ≡ more
unfolding paths_of said_left
left_besides is [] [] more e = refl
left_besides is [] (bytes ∷ said) more e = absurd (omega (arith, e))
left_besides is (first ∷ found) said more e =
    let here = first_here is first found said more e in
    ap (said_left is found) here.behind
    ∙ left_besides is found (said_behind (is first.kind) said) more here.left_is

-- and the entries are the same
entries_besides : (found : List Found) (contents targets more others : List (List ℕ))
    → length contents ≡ length (file_paths found) → length targets ≡ length (link_paths found)
    → entries_of found (contents ++ more) (targets ++ others) ≡ entries_of found contents targets
unfolding entries_of
entries_besides [] contents targets more others files links = refl
entries_besides (first ∷ found) contents targets more others files links =
    let file = first_here is_file first found contents more files in
    let link = first_here is_link first found targets others links in
    ap₂ (λ entry rest. entry ∷ rest) (ap₂ (found_entry first) file.here link.here)
    (ap₂ (entries_of found) file.behind link.behind
    ∙ entries_besides found (said_behind (is_file first.kind) contents) (said_behind (is_link first.kind) targets)
    more others file.left_is link.left_is)

-- what files or links say
abbrev said_by : List (Path × List ℕ) → List (List ℕ)
said_by files = map (λ file. file.1) files

abbrev paths_by : List (Path × List ℕ) → List Path
paths_by files = map (λ file. file.0) files

as_many : (files : List (Path × List ℕ)) (paths : List Path) → paths_by files ≡ paths
    → length (said_by files) ≡ length paths
as_many files paths e = length-map files (λ (file : Path × List ℕ). file.1)
    ∙ sym (length-map files (λ (file : Path × List ℕ). file.0)) ∙ ap length e

-- one entry more, with what more files and links say
abbrev entry_last : Found → List (List ℕ) → List (List ℕ) → Path × Entry
entry_last last contents targets =
    found_entry last (said_here (is_file last.kind) contents) (said_here (is_link last.kind) targets)

tree_more : (found : List Found) (files links : List (Path × List ℕ)) (t : Tree) (last : Found)
    (more others : List (Path × List ℕ)) → HasFiles found files links t
    → entries_of (found ++ last ∷ []) (said_by (files ++ more)) (said_by (links ++ others))
    ≡ t ++ entry_last last (said_by more) (said_by others) ∷ []
tree_more found files links t last more others has =
    let contents = map-append (λ (file : Path × List ℕ). file.1) files more in
    let targets = map-append (λ (link : Path × List ℕ). link.1) links others in
    let enough = as_many files (file_paths found) has.paths in
    let asked = as_many links (link_paths found) has.asked in
    ap₂ (entries_of (found ++ last ∷ [])) contents targets
    ∙ entries_more found last (said_by files ++ said_by more) (said_by links ++ said_by others)
    ∙ ap₂ (λ (before : Tree) (entry : Path × Entry). before ++ entry ∷ [])
    (entries_besides found (said_by files) (said_by links) (said_by more) (said_by others) enough asked ∙ sym has.tree)
    (ap₂ (entry_last last) (left_besides is_file found (said_by files) (said_by more) enough)
    (left_besides is_link found (said_by links) (said_by others) asked))

-- the paths of files or links, with those of the last entry
paths_last : (is : FoundKind → Bool) (found : List Found) (files more : List (Path × List ℕ)) (last : Found)
    (is_one : Bool) → paths_by files ≡ paths_of is found → is last.kind ≡ is_one
    → paths_by more ≡ path_if is_one last.path
    → paths_by (files ++ more) ≡ paths_of is (found ++ last ∷ [])
paths_last is found files more last is_one before kind own =
    map-append (λ (file : Path × List ℕ). file.0) files more
    ∙ ap₂ (λ (front back : List Path). front ++ back) before
    (own ∙ ap (λ (b : Bool). path_if b last.path) (sym kind))
    ∙ sym (paths_more is found last)

-- a folder more
pub folder_more : (found : List Found) (files links : List (Path × List ℕ)) (t : Tree) (last : Found)
    → HasFiles found files links t → last.kind ≡ kinds.Folder
    → HasFiles (found ++ last ∷ []) files links
    (t ++ (last.path, record { node = Directory; attributes = own_attributes last }) ∷ [])
folder_more found files links t last has kind = record {
  paths = ap paths_by (sym (append-nil files))
      ∙ paths_last is_file found files [] last false has.paths (ap is_file kind) refl;
  asked = ap paths_by (sym (append-nil links))
      ∙ paths_last is_link found links [] last false has.asked (ap is_link kind) refl;
  valid = has.valid;
  tree = sym (ap₂ (λ (fs ls : List (Path × List ℕ)). entries_of (found ++ last ∷ []) (said_by fs) (said_by ls))
      (sym (append-nil files)) (sym (append-nil links))
      ∙ tree_more found files links t last [] [] has
      ∙ ap (λ (k : FoundKind). t ++ (
        last.path,
        record {
          node = found_node k (said_here (is_file k) []);
          attributes = attributes_by k last (said_here (is_link k) []);
        },
      ) ∷ []) kind);
}

-- a file more
pub file_more : (found : List Found) (files links : List (Path × List ℕ)) (t : Tree) (last : Found) (len : ℕ)
    (bytes : List ℕ) → HasFiles found files links t → last.kind ≡ kinds.File len
    → HasFiles (found ++ last ∷ []) (files ++ (last.path, bytes) ∷ []) links
    (t ++ (last.path, record { node = File bytes; attributes = own_attributes last }) ∷ [])
file_more found files links t last len bytes has kind = record {
  paths = paths_last is_file found files ((last.path, bytes) ∷ []) last true has.paths (ap is_file kind) refl;
  asked = ap paths_by (sym (append-nil links))
      ∙ paths_last is_link found links [] last false has.asked (ap is_link kind) refl;
  valid = has.valid;
  tree = sym (ap (λ (ls : List (Path × List ℕ)).
      entries_of (found ++ last ∷ []) (said_by (files ++ (last.path, bytes) ∷ [])) (said_by ls))
      (sym (append-nil links))
      ∙ tree_more found files links t last ((last.path, bytes) ∷ []) [] has
      ∙ ap (λ (k : FoundKind). t ++ (
        last.path,
        record {
          node = found_node k (said_here (is_file k) (bytes ∷ []));
          attributes = attributes_by k last (said_here (is_link k) []);
        },
      ) ∷ []) kind);
}

-- a link more
pub link_more : (found : List Found) (files links : List (Path × List ℕ)) (t : Tree) (last : Found) (target : List ℕ)
    → HasFiles found files links t → last.kind ≡ kinds.Link → IsTrue (is_target target)
    → HasFiles (found ++ last ∷ []) files (links ++ (last.path, target) ∷ [])
    (t ++ (last.path, record { node = File []; attributes = link_attributes target }) ∷ [])
link_more found files links t last target has kind valid = record {
  paths = ap paths_by (sym (append-nil files))
      ∙ paths_last is_file found files [] last false has.paths (ap is_file kind) refl;
  asked = paths_last is_link found links ((last.path, target) ∷ []) last true has.asked (ap is_link kind) refl;
  valid = All-push (λ (link : Path × List ℕ). IsTrue (is_target link.1)) links (last.path, target) has.valid valid;
  tree = sym (ap (λ (fs : List (Path × List ℕ)).
      entries_of (found ++ last ∷ []) (said_by fs) (said_by (links ++ (last.path, target) ∷ [])))
      (sym (append-nil files))
      ∙ tree_more found files links t last [] ((last.path, target) ∷ []) has
      ∙ ap (λ (k : FoundKind). t ++ (
        last.path,
        record {
          node = found_node k (said_here (is_file k) []);
          attributes = attributes_by k last (said_here (is_link k) (target ∷ []));
        },
      ) ∷ []) kind);
}

-- ---- the last entry again

-- what stands before a last file
pub record EndsWithFile (found : List Found) (files links : List (Path × List ℕ)) (t : Tree) (last : Found)
    : Type 0 where
  pub before : List (Path × List ℕ)
  pub bytes : List ℕ
  pub front : Tree
  pub has : HasFiles found before links front
  pub files_are : files ≡ before ++ (last.path, bytes) ∷ []
  pub tree : t ≡ front ++ (last.path, record { node = File bytes; attributes = own_attributes last }) ∷ []

pub ends_with_file : (found : List Found) (files links : List (Path × List ℕ)) (t : Tree) (last : Found) (len : ℕ)
    → HasFiles (found ++ last ∷ []) files links t → last.kind ≡ kinds.File len
    → EndsWithFile found files links t last
ends_with_file found files links t last len has kind =
    let split = last_file files (file_paths found)
    last.path (has.paths ∙ paths_more is_file found last
    ∙ ap (λ (k : FoundKind). file_paths found ++ path_if (is_file k) last.path) kind) in
    let before = split.0 in
    let bytes = split.1 in
    let front : HasFiles found before links (entries_of found (said_by before) (said_by links)) = record {
      paths = split.3;
      asked = has.asked ∙ paths_more is_link found last
          ∙ ap (λ (k : FoundKind). link_paths found ++ path_if (is_link k) last.path) kind
          ∙ append-nil (link_paths found);
      valid = has.valid;
      tree = refl;
    } in
    let again = file_more found before links (entries_of found (said_by before) (said_by links)) last len bytes front
    kind in
    record {
      before = before;
      bytes = bytes;
      front = entries_of found (said_by before) (said_by links);
      has = front;
      files_are = split.2;
      tree = has.tree ∙ ap (λ (fs : List (Path × List ℕ)).
          entries_of (found ++ last ∷ []) (said_by fs) (said_by links)) split.2 ∙ sym again.tree;
    }

-- how many entries there are
pub entries_length : (found : List Found) (contents targets : List (List ℕ))
    → length (entries_of found contents targets) ≡ length found
unfolding entries_of
entries_length [] contents targets = refl
entries_length (first ∷ found) contents targets = ap suc
    (entries_length found (said_behind (is_file first.kind) contents) (said_behind (is_link first.kind) targets))
