-- Folders that are listed one after another.
use Rattle.std.proofs.Common.{◌≡◌, ℕ, ◌+◌, ◌<◌, ◌≤◌, List, [], ◌∷◌, ◌++◌, map, length, take, get_or, refl, sym, ◌∙◌, ap}
use Rattle.std.proofs.Common.{subst, arith, append_assoc}
use Rattle.std.specs.List.{flat_map, dedup}
use Rattle.std.proofs.lemmas.List.{map-append, take_more, take-append-le, append-nil}
use Rattle.std.proofs.lemmas.Grind.{flat_map-append}
use Rattle.std.specs.Cmp.{IsTotalOrder}
use Rattle.std.proofs.lemmas.List.Kept.{IsStrictlySortedBy-dedup}
use Rattle.store_model.specs.Paths.{Path, root, path_cmp}
use Rattle.store_model.proofs.TreesLemmasPaths.{path_cmp_total}
use Rattle.host_folders.specs.FolderState.{FolderState, ListsFolder}
use Rattle.host_folders.specs.FoundEntries.{folder_paths, paths_of, is_folder, path_if}
use Rattle.host_folders.specs.Faults.{find_fault}
use Rattle.host_folders.specs.Walks.{Walks, AreInOrder, AreApart, IsEachOnce, ToldAll, ToldMore, EndsFinding}
use Rattle.host_folders.specs.Walks.{WalksTooFar}
use Rattle.host_folders.specs.Walks.{EndsWalk, at_one_path}
use Rattle.host_folders.specs.declared.fault.FindFault.{FindFault}
use Rattle.host_folders.specs.declared.fault.FindFault.TheVariants as finds
use Rattle.host_folders.specs.declared.fault.FolderFault.{FolderFault}
use Rattle.host_folders.specs.declared.fault.FolderFault.TheVariants as folders
use Rattle.host_folders.specs.declared.found.Found.{Found}

abbrev of_folder : Found → List Path
of_folder f = path_if (is_folder f.kind) f.path

-- no folder was listed
pub walks_none : (s : FolderState) (found : List Found) → Walks s s [] found found
walks_none s found = record {
  answers = [];
  listed = sym (append-nil s.listed);
  read = refl;
  targets = refl;
  asked = refl;
  found = sym (append-nil found);
}

-- one walk after another
pub walks_on : (a b c : FolderState) (ps qs : List Path) (us vs ws : List Found) → Walks a b ps us vs
    → Walks b c qs vs ws → Walks a c (ps ++ qs) us ws
walks_on a b c ps qs us vs ws first second = record {
  answers = first.answers ++ second.answers;
  listed = second.listed ∙ ap (λ (xs : List (Path × List Found)). xs ++ second.answers) first.listed
      ∙ append_assoc a.listed first.answers second.answers;
  read = second.read ∙ first.read;
  targets = second.targets ∙ first.targets;
  asked = map-append (λ answer. answer.0) first.answers second.answers
      ∙ ap (λ (xs : List Path). xs ++ map (λ answer. answer.0) second.answers) first.asked
      ∙ ap (λ (ys : List Path). ps ++ ys) second.asked;
  found = second.found ∙ ap (λ (xs : List Found). xs ++ flat_map (λ answer. answer.1) second.answers) first.found
      ∙ append_assoc us (flat_map (λ answer. answer.1) first.answers) (flat_map (λ answer. answer.1) second.answers)
      ∙ ap (λ (xs : List Found). us ++ xs) (sym (flat_map-append (λ answer. answer.1) first.answers second.answers));
}

-- the folders among the first entries, and the one behind them
pub folders_more : (found part : List Found) (at : ℕ) (d : Found) → at < length found
    → folder_paths (take (at + 1) (found ++ part)) ≡ folder_paths (take at found) ++ of_folder (get_or found at d)
unfolding paths_of
folders_more found part at d in_range =
    let within : at + 1 ≤ length found = omega arith in
    ap (λ (xs : List Found). flat_map of_folder xs)
    (take-append-le (at + 1) found part within ∙ take_more found at d in_range)
    ∙ flat_map-append of_folder (take at found) (get_or found at d ∷ [])
    ∙ ap (λ (xs : List Path). flat_map of_folder (take at found) ++ xs) (append-nil (of_folder (get_or found at d)))

-- one more of what was found is listed, if it is a folder
pub walks_more : (a b c : FolderState) (start found after : List Found) (at : ℕ) (x : Found) → at < length found
    → get_or found at x ≡ x
    → Walks a b (folder_paths (take at found)) start found → Walks b c (path_if (is_folder x.kind) x.path) found after
    → Walks a c (folder_paths (take (at + 1) after)) start after
walks_more a b c start found after at x in_range x_is first second =
    let walk = walks_on a b c (folder_paths (take at found)) (of_folder x) start found after first second in
    let folders : folder_paths (take at found) ++ of_folder x ≡ folder_paths (take (at + 1) after) =
    ap (λ (f : Found). folder_paths (take at found) ++ of_folder f) (sym x_is)
    ∙ sym (folders_more found (flat_map (λ answer. answer.1) second.answers) at x in_range)
    ∙ ap (λ (xs : List Found). folder_paths (take (at + 1) xs)) (sym second.found) in
    record {
      answers = walk.answers;
      listed = walk.listed;
      read = walk.read;
      targets = walk.targets;
      asked = walk.asked ∙ folders;
      found = walk.found;
    }

-- ---- from the folder itself on

pub lists_root : (old mid : FolderState) (path : Path) (before first : List Found) → path ≡ root → before ≡ []
    → ListsFolder old mid path before first → ListsFolder old mid root [] first
lists_root old mid path before first path_is none lists =
    subst (λ (p : Path). ListsFolder old mid p [] first) path_is
    (subst (λ (fs : List Found). ListsFolder old mid path fs first) none lists)

-- the folder itself was listed, and then what was found
pub told_all : (old mid new : FolderState) (first after found : List Found) → ListsFolder old mid root [] first
    → Walks mid new (folder_paths after) first after → IsEachOnce after found → ToldAll old new found
told_all old mid new first after found lists walk once = record {
  answers = (root, lists.part) ∷ walk.answers;
  listed = walk.listed ∙ ap (λ (xs : List (Path × List Found)). xs ++ walk.answers) lists.listed
      ∙ append_assoc old.listed ((root, lists.part) ∷ []) walk.answers;
  read = walk.read ∙ lists.read;
  targets = walk.targets ∙ lists.targets;
  told = after;
  told_is = walk.found ∙ ap (λ (xs : List Found). xs ++ flat_map (λ answer. answer.1) walk.answers) lists.found;
  asked = ap (λ (ps : List Path). root ∷ ps) walk.asked;
  found_is = once;
}

told_more : (old mid new : FolderState) (most : ℕ) (first after : List Found) → ListsFolder old mid root [] first
    → WalksTooFar mid new most first after → ToldMore old new most
told_more old mid new most first after lists far =
    let walk = far.walks in
    let all : after ≡ lists.part ++ flat_map (λ answer. answer.1) walk.answers =
    walk.found ∙ ap (λ (xs : List Found). xs ++ flat_map (λ answer. answer.1) walk.answers) lists.found in
    record {
      answers = (root, lists.part) ∷ walk.answers;
      listed = walk.listed ∙ ap (λ (xs : List (Path × List Found)). xs ++ walk.answers) lists.listed
          ∙ append_assoc old.listed ((root, lists.part) ∷ []) walk.answers;
      many = subst (λ (xs : List Found). most < length xs) all far.many;
    }

pub ends_finding : (old mid new : FolderState) (most : ℕ) (first after : List Found) (fault : FindFault)
    → ListsFolder old mid root [] first → EndsWalk mid new most first after fault → EndsFinding old new most fault
ends_finding old mid new most first after finds.NoMemory lists ends = tt
ends_finding old mid new most first after finds.Unreadable lists ends = tt
ends_finding old mid new most first after finds.TooMany lists ends = told_more old mid new most first after lists ends

-- a fault of the folder says nothing more
pub finding_fails : (old new : FolderState) (most : ℕ) (cause : FolderFault)
    → EndsFinding old new most (find_fault cause)
finding_fails old new most folders.NoMemory = tt
finding_fails old new most folders.Unreadable = tt

pub walk_fails : (old new : FolderState) (most : ℕ) (before after : List Found) (cause : FolderFault)
    → EndsWalk old new most before after (find_fault cause)
walk_fails old new most before after folders.NoMemory = tt
walk_fails old new most before after folders.Unreadable = tt

-- ---- the order of what was found

by_path : IsTotalOrder (λ (f g : Found). path_cmp f.path g.path)
by_path = record {
  antisymm = λ f g. path_cmp_total.antisymm f.path g.path;
  trans = λ f g h. path_cmp_total.trans f.path g.path h.path;
  congr = λ f g h. path_cmp_total.congr f.path g.path h.path;
}

pub are_apart : (sorted found : List Found) → AreInOrder sorted → found ≡ dedup at_one_path sorted → AreApart found
are_apart sorted found order is =
    subst AreApart (sym is) (IsStrictlySortedBy-dedup by_path (λ f g. refl) sorted order)
