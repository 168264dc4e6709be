-- What a tree holds, counted.
use Rattle.std.specs.Prelude.{◌≡◌, ℕ, ◌+◌, length, count_by, Some}
use Rattle.std.specs.List.{sum_by}
use Rattle.store_model.specs.Trees.{Tree, is_directory_node, is_file_node, contents_of}
use Rattle.tree_pairs.specs.declared.kind.Kind.{Kind}
use Rattle.tree_pairs.specs.declared.kind.Kind.TheVariants as kinds
use Rattle.tree_pairs.specs.declared.counts.Counts.{Counts}

-- its directories, without the root
abbrev pub count_dirs : Tree → ℕ
count_dirs t = count_by (λ e. is_directory_node (Some e.1.node)) t

-- its files
abbrev pub count_files : Tree → ℕ
count_files t = count_by (λ e. is_file_node (Some e.1.node)) t

-- the bytes of its files
abbrev pub count_bytes : Tree → ℕ
count_bytes t = sum_by (λ e. length (contents_of (Some e.1.node))) t

-- the counts are those of the tree
pub record AreCounts (t : Tree) (counts : Counts) : Type 0 where
  pub dirs_are : counts.dirs ≡ count_dirs t
  pub files_are : counts.files ≡ count_files t
  pub bytes_are : counts.bytes ≡ count_bytes t

-- the counts with what stands at one path more
abbrev pub CountsMore : Counts → Kind → Counts → Type 0
CountsMore old kinds.Directory new = (new.dirs ≡ old.dirs + 1) × (new.files ≡ old.files) × (new.bytes ≡ old.bytes)
CountsMore old (kinds.File len) new =
    (new.dirs ≡ old.dirs) × (new.files ≡ old.files + 1) × (new.bytes ≡ old.bytes + len)
