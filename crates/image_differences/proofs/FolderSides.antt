-- What the stream of a folder says of the folder.
use Rattle.std.proofs.Common.{◌≡◌, ◌⊎◌, ℕ, ◌^◌, ◌<◌, ◌≤◌, Bool, true, false, List, [], ◌∷◌, ◌++◌}
use Rattle.std.proofs.Common.{length, map, take, vec_len, Option, Some, None, inl, inr, sym, ap, subst, ◌∙◌}
use Rattle.std.proofs.Common.{arith}
use Rattle.std.proofs.lemmas.List.{length-append, length-take}
use Rattle.store_base.specs.Counts.{raised}
use Rattle.store_model.specs.Paths.{Path, Name}
use Rattle.store_model.specs.Trees.{Tree, Node, Attributes, IsTree}
use Rattle.dump_streams.specs.Dumps.{dump}
use Rattle.dump_streams.specs.Draining.{IsTooLong}
use Rattle.dump_streams.specs.declared.fault.StreamFault.{StreamFault}
use Rattle.dump_streams.specs.declared.fault.StreamFault.TheVariants as streams
use Rattle.host_folders.specs.FolderState.{FolderState, IsObservable, whole_files}
use Rattle.host_folders.specs.FoundEntries.{entries_of, is_file, is_link, own_attributes}
use Rattle.host_folders.specs.FoundEntries.{attributes_by, said_here, said_behind}
use Rattle.host_folders.specs.Packed.{CameOf, IsPacked, EndsBy, HasFiles, ReadsFiles, IsCut, IsSoFar, attributes_there}
use Rattle.host_folders.specs.Steps.{path_at, path_of_found}
use Rattle.host_folders.specs.declared.found.Found.{Found}
use Rattle.host_folders.specs.declared.found.FoundKind.{FoundKind}
use Rattle.host_folders.specs.declared.found.FoundKind.TheVariants as kinds
use Rattle.host_folders.specs.declared.stream.FolderStream.{FolderStream}
use Rattle.host_folders.specs.declared.stream.Place.{Place}
use Rattle.host_folders.specs.declared.stream.Place.TheVariants as places
use Rattle.host_folders.proofs.EntryLemmas.{entries_length}
use Rattle.image_differences.specs.Told.{ReadsTree, IsUntold, tree_fault, path_in}
use Rattle.image_differences.proofs.StepCounts.{AreFew, tree_few}

-- ---- few attributes

mark_few : (name : Name) (b : Bool) (seconds : Option ℕ)
    → length (own_attributes (record { path = []; kind = kinds.Folder; is_executable = b; seconds = seconds })) ≤ 2
mark_few name true None = omega arith
mark_few name true (Some n) = omega arith
mark_few name false None = omega arith
mark_few name false (Some n) = omega arith

own_few : (found : Found) → length (own_attributes found) ≤ 2
own_few found = mark_few [] found.is_executable found.seconds

by_few : (kind : FoundKind) (found : Found) (target : List ℕ) → length (attributes_by kind found target) ≤ 2
by_few kinds.Folder found target = own_few found
by_few (kinds.File len) found target = own_few found
by_few kinds.Link found target = omega arith

entries_few : (found : List Found) (contents targets : List (List ℕ)) → AreFew (entries_of found contents targets)
unfolding entries_of
entries_few [] contents targets = tt
entries_few (first ∷ found) contents targets = (
  by_few first.kind first (said_here (is_link first.kind) targets),
  entries_few found (said_behind (is_file first.kind) contents) (said_behind (is_link first.kind) targets),
)

-- the same of the last entry, which came in part
cut_few : (front : Tree) (path : Path) (node : Node) (names : Attributes) (count : ℕ)
    → AreFew (front ++ (path, record { node = node; attributes = names }) ∷ [])
    → AreFew (front ++ (path, record { node = node; attributes = take count names }) ∷ [])
cut_few [] path node names count few =
    (let taken = length-take count names in let all = few.0 in omega (arith, taken, all), tt)
cut_few (e ∷ front) path node names count few = (few.0, cut_few front path node names count few.1)

module _ (begun : List Found) (last : Found) (attributes : Attributes) (count : ℕ) (whole t : Tree)
    (is : IsCut begun last attributes count whole t) where
  part_few : AreFew whole → AreFew t
  part_few few = subst AreFew (sym is.so_far)
      (cut_few is.front last.path is.node attributes count (subst AreFew is.whole_is few))

  part_length : length t ≡ length whole
  part_length =
      let a = ap (λ (u : Tree). length u) is.so_far in
      let b = ap (λ (u : Tree). length u) is.whole_is in
      let entry : Attributes → Tree = λ names. (last.path, record { node = is.node; attributes = names }) ∷ [] in
      let c = length-append is.front (entry (take count attributes)) in
      let d = length-append is.front (entry attributes) in
      omega (arith, a, b, c, d)

so_far : (place : Place) (begun : List Found) (whole t : Tree) → IsSoFar place begun whole t → AreFew whole
    → AreFew t × (length t ≡ length whole)
so_far places.Start begun whole t is few = (subst AreFew (sym is) few, ap (λ (u : Tree). length u) is)
so_far (places.Piece found at) begun whole t is few =
    let cut = is.0 in (part_few begun found _ 0 whole t cut few, part_length begun found _ 0 whole t cut)
so_far (places.Attribute found index) begun whole t is few =
    (part_few begun found _ index whole t is few, part_length begun found _ index whole t is)
so_far (places.Target found target) begun whole t is few =
    (part_few begun found _ 0 whole t is few, part_length begun found _ 0 whole t is)

-- ---- few steps

few_entries : (found : List Found) (files links : List (Path × List ℕ)) (t : Tree) → HasFiles found files links t
    → AreFew t × (length t ≡ length found)
few_entries found files links t has =
    let contents = map (λ (file : Path × List ℕ). file.1) files in
    let targets = map (λ (link : Path × List ℕ). link.1) links in (
      subst AreFew (sym has.tree) (entries_few found contents targets),
      ap (λ (u : Tree). length u) has.tree ∙ entries_length found contents targets,
    )

module _ {F : Type 0} (state_of : F → FolderState) (stream : FolderStream F)
    (found_few : vec_len stream.found ≤ 16777216) where
  pub folder_few : (t : Tree) → IsTree t → CameOf state_of stream t ⊎ IsPacked state_of stream t
      → length (dump t) < 2 ^ 50
  folder_few t tree (inl came) =
      let begun = take stream.at stream.found.items in
      let whole = few_entries begun came.files came.links came.whole came.entries in
      let part = so_far stream.place begun came.whole t came.so_far whole.0 in
      let steps = tree_few t t tree.entries part.0 in
      omega (arith, steps, part.1, whole.1, length-take stream.at stream.found.items, came.within, found_few)
  folder_few t tree (inr packed) =
      let whole = few_entries stream.found.items packed.files packed.links t packed.entries in
      let steps = tree_few t t tree.entries whole.0 in
      omega (arith, steps, whole.1, found_few)

-- ---- its tree, and its faults

module _ {F : Type 0} (state_of : F → FolderState) (stream : FolderStream F) (folder after : F)
    (first : stream.first.value ≡ folder) (after_is : after ≡ stream.folder) where
  pub reads_tree : (found : List Found) → stream.found.items ≡ found → (t : Tree) → IsPacked state_of stream t
      → ReadsTree (state_of folder) (state_of after) found t
  reads_tree found found_is t packed = record {
    is_tree = packed.is_tree;
    files = packed.files;
    links = packed.links;
    entries = subst (λ (fs : List Found). HasFiles fs packed.files packed.links t) found_is packed.entries;
    faults = ap (λ (f : F). (state_of f).faults) after_is ∙ packed.faults ∙ ap (λ (f : F). (state_of f).faults) first;
    told = λ seen.
        subst (λ (f : F). ReadsFiles (state_of folder) (state_of f) (whole_files packed.files) packed.links)
        (sym after_is)
        (subst (λ (f : F). ReadsFiles (state_of f) (state_of stream.folder) (whole_files packed.files) packed.links)
        first (packed.told (subst (λ (f : F). IsObservable (state_of f)) (sym first) seen)));
  }

  same_faults : (state_of stream.folder).faults ≡ (state_of stream.first.value).faults
      → (state_of after).faults ≡ (state_of folder).faults
  same_faults is = ap (λ (f : F). (state_of f).faults) after_is ∙ is ∙ ap (λ (f : F). (state_of f).faults) first

  pub unread_tree : (t : Tree) (cause : StreamFault) (at : Option Path)
      → at ≡ path_at stream.place stream.at stream.found.items → EndsBy state_of stream t cause
      → IsUntold (state_of folder) (state_of after) (tree_fault cause at)
  unread_tree t streams.NoMemory at at_is ends = same_faults ends
  unread_tree t streams.Unreadable at at_is ends =
      subst (λ (f : F). (state_of after).faults ≡ raised (state_of f).faults) first
      (ap (λ (f : F). (state_of f).faults) after_is ∙ ends)
  unread_tree t streams.NoDump at at_is ends =
      let asks = ends.0 in (
        same_faults ends.1,
        record {
          found = asks.found;
          path_is = ap path_in (at_is ∙ ap path_of_found asks.here);
          attributes = attributes_there stream.place;
          tree = t;
          step = asks.step;
          asks = asks.asks;
          breaks_off = asks.breaks_off;
        },
      )
  unread_tree t streams.TooLong at at_is ends = absurd ends

  -- it is never too long
  pub ended_tree : vec_len stream.found ≤ 16777216 → (t : Tree) → IsTree t → (cause : StreamFault) (at : Option Path)
      → at ≡ path_at stream.place stream.at stream.found.items
      → EndsBy state_of stream t cause ⊎ IsTooLong (CameOf state_of) stream t cause
      → IsUntold (state_of folder) (state_of after) (tree_fault cause at)
  ended_tree found_few t tree cause at at_is (inl ends) = unread_tree t cause at at_is ends
  ended_tree found_few t tree cause at at_is (inr long) =
      let few = folder_few state_of stream found_few t tree (inl long.came_is) in
      let many = long.many in
      absurd (omega (arith, few, many))
