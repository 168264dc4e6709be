-- What a check says of the bytes on a disk, and what a run of the same bytes does.
use Rattle.std.specs.Prelude.{◌≡◌, ◌≢◌, ◌⊎◌, ◌+◌, ◌-◌, ◌^◌, ◌<◌, ◌≤◌, ℕ, List, ◌++◌, codes}
use Rattle.std.specs.Fmt.{decimal}
use Rattle.store_model.specs.Parameters.{Parameters}
use Rattle.store_model.specs.Trees.{Tree}
use Rattle.store_model.specs.Pages.{page_count}
use Rattle.store_model.specs.Commands.{line}
use Rattle.store_model.specs.Images.{layout, Represents}
use Rattle.store_model.specs.Scripts.{lines, replies, tree_after, replies_text}
use Rattle.disk_model.specs.DiskState.{DiskState}
use Rattle.tree_pairs.specs.Counts.{count_dirs, count_files, count_bytes}
use Rattle.gate_journal.specs.Headers.{IsImageWith}
use Rattle.script_lines.specs.SinkState.{SinkState, AppendsPrefix}
use Rattle.image_subcommands.specs.declared.status.Status.{Status}
use Rattle.image_subcommands.specs.declared.status.Status.TheVariants.{Done, SinkFault, NotImage, Damaged}
use Rattle.image_subcommands.specs.Reports.{IsUnreported}
use Rattle.image_subcommands.specs.Statuses.{Subcommand as words, IsEndOf, IsJudged, MayComeFirst, ComesExactly}
use Rattle.image_work.specs.Works.{IsAfterOpening}

-- a crash at some moment between these two might have left the image
abbrev pub MightLeave : DiskState → DiskState → List ℕ → Type 0
MightLeave old new image = new.crash_images_since old.clock image

-- the line that tells a tree's numbers: its pages, directories without the root, files and bytes
unfoldable pub clean_line : Tree → Parameters → List ℕ
clean_line t p = line (codes "clean " ++ decimal (page_count t p) ++ codes " " ++ decimal (count_dirs t) ++ codes " "
    ++ decimal (count_files t) ++ codes " " ++ decimal (count_bytes t))

-- the bytes are no image: their header, as recovery would leave it, is that of no image of their length
abbrev pub IsNone : List ℕ → Type 0
IsNone bytes = (p : Parameters) → IsImageWith bytes p → ⊥

-- they are an image, but hold no tree in this sense
pub record IsBroken (Holds : Tree → Parameters → Type 0) (bytes : List ℕ) : Type 0 where
  pub image : (p : Parameters) × IsImageWith bytes p
  pub none : (t : Tree) (p : Parameters) → Holds t p → ⊥

-- some tree is held in this sense
abbrev pub IsSome : (Tree → Parameters → Type 0) → Type 0
IsSome Holds = (t : Tree) × (p : Parameters) × Holds t p

-- the line on the bytes: the numbers of the tree that they hold, that they are no image, or that they are a damaged one
abbrev pub IsLineOn : (Tree → Parameters → Type 0) → List ℕ → List ℕ → Type 0
IsLineOn Holds bytes text =
    ((t : Tree) × (p : Parameters) × Holds t p × (text ≡ clean_line t p))
    ⊎ ((IsNone bytes × (text ≡ line (codes "not-image"))) ⊎ (IsBroken Holds bytes × (text ≡ line (codes "damaged"))))

-- The bytes of a disk were judged by the tree that they hold in this sense, and the line on them was printed.
pub record JudgesExactly (Holds : Tree → Parameters → Type 0) (bytes : List ℕ) (status : Status)
    (sink sink_new : SinkState) : Type 0 where
  -- it says that they hold a tree, or are no image, or a damaged one, exactly where it is so
  pub clean : ComesExactly Done (IsSome Holds) IsUnreported status
  pub not_image : ComesExactly NotImage (IsNone bytes) IsUnreported status
  pub damaged : ComesExactly Damaged (IsBroken Holds bytes) IsUnreported status
  -- it prints the numbers of the tree
  pub numbers : status ≡ Done → (t : Tree) (p : Parameters) → Holds t p
      → sink_new.written ≡ sink.written ++ clean_line t p
  -- it prints the line on the bytes, or a front of it, or nothing
  pub line : IsJudged status → status ≢ SinkFault
      → (text : List ℕ) × IsLineOn Holds bytes text × (sink_new.written ≡ sink.written ++ text)
  pub in_part : status ≡ SinkFault → (text : List ℕ) × IsLineOn Holds bytes text
      × AppendsPrefix sink.written sink_new.written text
  pub silent : (IsJudged status → ⊥) → sink_new ≡ sink

-- What a check and a run say of the same bytes.
pub record AgreesWithRun (check run : Status) : Type 0 where
  pub not_image : check ≡ NotImage → (run ≡ NotImage) ⊎ MayComeFirst run
  pub not_image_run : run ≡ NotImage → (check ≡ NotImage) ⊎ IsUnreported check
  pub damaged : check ≡ Damaged → (run ≡ Damaged) ⊎ MayComeFirst run
  pub damaged_run : run ≡ Damaged → (check ≡ Damaged) ⊎ IsUnreported check
  pub clean : check ≡ Done → IsEndOf words.Run run
  pub clean_run : IsAfterOpening run → (check ≡ Done) ⊎ IsUnreported check

-- The bytes hold one tree, and a run that is done answers the script from it: its replies were written, and the image
-- is that of the tree after its lines.
pub record AnswersByOneTree (bytes script written : List ℕ) (run : Status)
    (written_new bytes_new : List ℕ) : Type 0 where
  pub tree : Tree
  pub params : Parameters
  pub represents : Represents bytes tree params
  pub no_other : (t : Tree) (p : Parameters) → Represents bytes t p → (t ≡ tree) × (p ≡ params)
  pub replied : run ≡ Done → written_new ≡ written ++ replies_text (replies tree (lines script) params)
  pub left : run ≡ Done → bytes_new ≡ layout (tree_after tree (lines script) params) params

-- A run of bytes that hold no tree, after a check: nothing is written to the disk, one sync is made at most, no line
-- is answered, nothing is taken from the source or written to the sink, and a crash meanwhile leaves what one before
-- might have.
pub record LeavesAlone {R W : Type 0} (done : ℕ) (old new : DiskState) (source source_new : R)
    (sink sink_new : W) : Type 0 where
  pub bytes : new.bytes ≡ old.bytes
  pub writes : new.writes ≡ old.writes
  pub one_sync : old.syncs + 1 < 2 ^ 64 - 1 → new.syncs ≤ old.syncs + 1
  pub crash : (image : List ℕ) → MightLeave old new image → old.crash_images image
  pub done_is : done ≡ 0
  pub source_is : source_new ≡ source
  pub sink_is : sink_new ≡ sink

-- A check of the image of a tree ends clean, unless a call fails or memory runs out, and prints the numbers of the
-- tree.
pub record ChecksTree (t : Tree) (p : Parameters) (status : Status) (written written_new : List ℕ) : Type 0 where
  pub ends : (status ≡ Done) ⊎ IsUnreported status
  pub numbers : status ≡ Done → written_new ≡ written ++ clean_line t p
