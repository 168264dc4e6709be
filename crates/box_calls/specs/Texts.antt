-- The texts of what an image is.
use Rattle.std.specs.Prelude.{ℕ, Bool, List, [], ◌++◌, codes, if◌then◌else◌}
use Rattle.std.specs.Fmt.{decimal}
use Rattle.hex.specs.Hex.{encode_lower}
use Rattle.store_model.specs.Parameters.{Parameters}
use Rattle.store_model.specs.Images.{version_byte}
use Rattle.image_check.specs.declared.contents.Contents.{Contents}
use Rattle.image_summary.specs.declared.summary.Summary.{Summary}
use Rattle.image_summary.specs.declared.summary.SummaryFault.{SummaryFault}
use Rattle.image_summary.specs.declared.summary.SummaryFault.TheVariants as sums
use Rattle.slot_map.specs.Pictures.{draw_word}

-- the line of a sound image
unfoldable pub counts_text : Contents → List ℕ
counts_text c = codes "sound: " ++ decimal c.counts.dirs ++ codes " folders, " ++ decimal c.counts.files
    ++ codes " files, " ++ decimal c.counts.bytes ++ codes " bytes, " ++ decimal c.used ++ codes " of "
    ++ decimal c.params.slots ++ codes " slots\n"

-- the line of a digest
abbrev pub digest_text : List ℕ → List ℕ
digest_text digest = codes "sha256 " ++ encode_lower digest ++ codes "\n"

-- a line, where it is so
abbrev pub line_if : Bool → List ℕ → List ℕ
line_if is_so line = if is_so then line else []

-- what `check` prints of a sound image, whose digest differs from the one that was given, or not
unfoldable pub sound_text : Summary → Bool → List ℕ
sound_text s differs = counts_text s.contents ++ digest_text s.digest
    ++ line_if s.is_pending (codes "recovery pending\n") ++ line_if differs (codes "digest differs\n")

-- what it prints of an image that has no summary
abbrev pub fault_text : SummaryFault → List ℕ
fault_text sums.NotImage = codes "not an image\n"
fault_text sums.Damaged = codes "damaged\n"
fault_text sums.Disk = []

-- the lines of the parameters, and between them how many slots are in use
unfoldable pub params_text : Parameters → ℕ → List ℕ
params_text p used = codes "version: " ++ decimal (version_byte p.version) ++ codes "\nslots: " ++ decimal p.slots
    ++ codes "\nused: " ++ decimal used ++ codes "\nheight: " ++ decimal p.height ++ codes "\ndraw: "
    ++ draw_word p.kind ++ codes "\nseed: " ++ encode_lower p.seed ++ codes "\n"

-- the lines of what a tree holds
unfoldable pub contents_text : Contents → List ℕ
contents_text c = codes "folders: " ++ decimal c.counts.dirs ++ codes "\nfiles: " ++ decimal c.counts.files
    ++ codes "\nbytes: " ++ decimal c.counts.bytes ++ codes "\n"

-- what `info` prints
abbrev pub info_text : Contents → List ℕ
info_text c = params_text c.params c.used ++ contents_text c
