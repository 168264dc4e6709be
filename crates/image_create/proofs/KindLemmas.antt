-- What was found, counted one after another.
use Rattle.std.proofs.Common.{◌≡◌, ℕ, ◌+◌, ◌-◌, ◌^◌, min, List, [], ◌∷◌, ◌++◌, Bool, length, refl, sym, ap, ◌∙◌, arith}
use Rattle.std.specs.List.{flat_map, sum}
use Rattle.std.proofs.lemmas.List.{append-nil, length-append}
use Rattle.std.proofs.lemmas.List.Concat.{flat_map-append}
use Rattle.std.proofs.lemmas.List.Sums.{sum_by-append}
use Rattle.store_model.specs.Paths.{Path}
use Rattle.host_folders.specs.FoundEntries.{paths_of, path_if, is_file, is_folder}
use Rattle.host_folders.specs.FoundEntries.{is_link}
use Rattle.host_folders.specs.declared.found.Found.{Found}
use Rattle.host_folders.specs.declared.found.FoundKind.{FoundKind}
use Rattle.host_folders.specs.declared.found.FoundKind.TheVariants as kinds
use Rattle.image_create.specs.Counts.{AreCounts}
use Rattle.image_create.specs.FoundKeys.{told_length, told_lengths}

one_sum : (n : ℕ) → sum (n ∷ []) ≡ n
one_sum n = omega arith

-- those of one more entry stand behind those that were found
paths_behind : (is : FoundKind → Bool) (found : List Found) (entry : Found)
    → length (paths_of is (found ++ entry ∷ []))
    ≡ length (paths_of is found) + length (path_if (is entry.kind) entry.path)
unfolding paths_of
paths_behind is found entry =
    let here : Found → List Path = λ f. path_if (is f.kind) f.path in
    let all : flat_map here (found ++ entry ∷ []) ≡ flat_map here found ++ here entry =
    flat_map-append here found (entry ∷ [])
    ∙ ap (λ (ps : List Path). flat_map here found ++ ps) (append-nil (here entry)) in
    ap length all ∙ length-append (flat_map here found) (here entry)

lengths_behind : (found : List Found) (entry : Found)
    → sum (told_lengths (found ++ entry ∷ [])) ≡ sum (told_lengths found) + sum (told_length entry.kind)
unfolding told_lengths
lengths_behind found entry =
    let here : Found → List ℕ = λ f. told_length f.kind in
    let all : flat_map here (found ++ entry ∷ []) ≡ flat_map here found ++ here entry =
    flat_map-append here found (entry ∷ [])
    ∙ ap (λ (ns : List ℕ). flat_map here found ++ ns) (append-nil (here entry)) in
    ap sum all ∙ sum_by-append (λ n. n) (flat_map here found) (here entry)

-- nothing was found
pub counts_none : AreCounts [] 0 0 0 0
unfolding paths_of told_lengths
counts_none = record { folders_are = refl; files_are = refl; links_are = refl; bytes_are = refl }

-- how many of one entry are of a kind, and how many bytes it has
abbrev pub one_if : (FoundKind → Bool) → Found → ℕ
one_if is entry = length (path_if (is entry.kind) entry.path)

-- one more was found
pub counts_more : (found : List Found) (entry : Found) (folders files links bytes : ℕ)
    (more_folders more_files more_links more_bytes : ℕ) → AreCounts found folders files links bytes
    → more_folders ≡ min (folders + one_if is_folder entry) (2 ^ 32 - 1)
    → more_files ≡ min (files + one_if is_file entry) (2 ^ 32 - 1)
    → more_links ≡ min (links + one_if is_link entry) (2 ^ 32 - 1)
    → more_bytes ≡ min (bytes + sum (told_length entry.kind)) (2 ^ 64 - 1)
    → AreCounts (found ++ entry ∷ []) more_folders more_files more_links more_bytes
counts_more found entry folders files links bytes more_folders more_files more_links more_bytes were a b c d =
    let was_a = were.folders_are in
    let was_b = were.files_are in
    let was_c = were.links_are in
    let was_d = were.bytes_are in
    record {
      folders_are = omega (arith, was_a, a, paths_behind is_folder found entry);
      files_are = omega (arith, was_b, b, paths_behind is_file found entry);
      links_are = omega (arith, was_c, c, paths_behind is_link found entry);
      bytes_are = omega (arith, was_d, d, lengths_behind found entry);
    }

-- a count stays at the last value of its type
capped : (n m limit : ℕ) → n ≡ min m limit → n ≡ min (n + 0) limit
capped n m limit is = omega (arith, is)

pub folder_more : (found : List Found) (entry : Found) (folders files links bytes more : ℕ) → entry.kind ≡ kinds.Folder
    → more ≡ min (folders + 1) (2 ^ 32 - 1) → AreCounts found folders files links bytes
    → AreCounts (found ++ entry ∷ []) more files links bytes
folder_more found entry folders files links bytes more kind is were = counts_more found entry folders files links bytes
    more files links bytes were
    (is ∙ ap (λ (k : FoundKind). min (folders + length (path_if (is_folder k) entry.path)) (2 ^ 32 - 1)) (sym kind))
    (capped files _ _ were.files_are
    ∙ ap (λ (k : FoundKind). min (files + length (path_if (is_file k) entry.path)) (2 ^ 32 - 1)) (sym kind))
    (capped links _ _ were.links_are
    ∙ ap (λ (k : FoundKind). min (links + length (path_if (is_link k) entry.path)) (2 ^ 32 - 1)) (sym kind))
    (capped bytes _ _ were.bytes_are
    ∙ ap (λ (k : FoundKind). min (bytes + sum (told_length k)) (2 ^ 64 - 1)) (sym kind))

pub file_more : (found : List Found) (entry : Found) (folders files links bytes more len all : ℕ)
    → entry.kind ≡ kinds.File len → more ≡ min (files + 1) (2 ^ 32 - 1) → all ≡ min (bytes + len) (2 ^ 64 - 1)
    → AreCounts found folders files links bytes → AreCounts (found ++ entry ∷ []) folders more links all
file_more found entry folders files links bytes more len all kind is sum_is were =
    counts_more found entry folders files links bytes folders more links all were
    (capped folders _ _ were.folders_are
    ∙ ap (λ (k : FoundKind). min (folders + length (path_if (is_folder k) entry.path)) (2 ^ 32 - 1)) (sym kind))
    (is ∙ ap (λ (k : FoundKind). min (files + length (path_if (is_file k) entry.path)) (2 ^ 32 - 1)) (sym kind))
    (capped links _ _ were.links_are
    ∙ ap (λ (k : FoundKind). min (links + length (path_if (is_link k) entry.path)) (2 ^ 32 - 1)) (sym kind))
    (sum_is ∙ ap (λ n. min (bytes + n) (2 ^ 64 - 1)) (sym (one_sum len))
    ∙ ap (λ (k : FoundKind). min (bytes + sum (told_length k)) (2 ^ 64 - 1)) (sym kind))

pub link_more : (found : List Found) (entry : Found) (folders files links bytes more : ℕ) → entry.kind ≡ kinds.Link
    → more ≡ min (links + 1) (2 ^ 32 - 1) → AreCounts found folders files links bytes
    → AreCounts (found ++ entry ∷ []) folders files more bytes
link_more found entry folders files links bytes more kind is were = counts_more found entry folders files links bytes
    folders files more bytes were
    (capped folders _ _ were.folders_are
    ∙ ap (λ (k : FoundKind). min (folders + length (path_if (is_folder k) entry.path)) (2 ^ 32 - 1)) (sym kind))
    (capped files _ _ were.files_are
    ∙ ap (λ (k : FoundKind). min (files + length (path_if (is_file k) entry.path)) (2 ^ 32 - 1)) (sym kind))
    (is ∙ ap (λ (k : FoundKind). min (links + length (path_if (is_link k) entry.path)) (2 ^ 32 - 1)) (sym kind))
    (capped bytes _ _ were.bytes_are
    ∙ ap (λ (k : FoundKind). min (bytes + sum (told_length k)) (2 ^ 64 - 1)) (sym kind))
