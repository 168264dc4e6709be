-- The text of a picture.
use Rattle.std.specs.Prelude.{◌≡◌, ℕ, ◌+◌, ◌-◌, ◌*◌, List, [], ◌∷◌, ◌++◌, map, length, take, drop, replicate}
use Rattle.std.specs.Prelude.{slice_index, not, ◌||◌, ◌==◌, Bool, if◌then◌else◌, codes}
use Rattle.std.specs.Fmt.{decimal}
use Rattle.std.specs.List.{count_by, list_any, flat_map}
use Rattle.hex.specs.Hex.{encode_lower}
use Rattle.store_model.specs.declared.draw_kind.DrawKind.{DrawKind}
use Rattle.store_model.specs.declared.draw_kind.DrawKind.TheVariants.{Ruler, Sha256}
use Rattle.store_model.specs.Lists.{numbers_below, run_count, run_at}
use Rattle.store_model.specs.Parameters.{Parameters, gate_at, marks_at}
use Rattle.store_model.specs.Commands.{line}
use Rattle.store_model.specs.Images.{version_byte, bytes_at}
use Rattle.gate_journal.specs.Headers.{IsImageWith}
use Rattle.slot_map.specs.Contents.{ShowsTable}

-- how many characters a row has
abbrev pub row_len : ℕ
row_len = 64

-- a number in decimal digits, with as many 0 in front as make six of them
unfoldable pub six_digits : ℕ → List ℕ
six_digits n = replicate (6 - length (decimal n)) 48 ++ decimal n

-- a row: the number of its first character, and its characters
unfoldable pub row_text : ℕ → List ℕ → List ℕ
row_text first chars = line (six_digits first ++ codes "  " ++ chars)

-- row number i of the characters
abbrev pub row_of : List ℕ → ℕ → List ℕ
row_of chars i = row_text (row_len * i) (run_at row_len chars i)

-- the characters, cut into rows
unfoldable pub rows_text : List ℕ → List ℕ
rows_text chars = flat_map (row_of chars) (numbers_below (run_count row_len (length chars)))

abbrev pub draw_word : DrawKind → List ℕ
draw_word Ruler = codes "ruler"
draw_word Sha256 = codes "sha256"

-- how many slots are not free
abbrev pub used_count : List ℕ → ℕ
used_count chars = count_by (λ char. not (char == 46)) chars

-- the first line: the parameters, and how many slots are not free
unfoldable pub title_text : Parameters → ℕ → List ℕ
title_text p used =
    line (codes "hstore image, version " ++ decimal (version_byte p.version) ++ codes ", " ++ decimal p.slots
    ++ codes " slots, " ++ decimal used ++ codes " used, height " ++ decimal p.height ++ codes ", "
    ++ draw_word p.kind)

-- what the commit flag says
abbrev pub flag_words : ℕ → List ℕ
flag_words flag = if flag == 0 then line (codes ": no commit is under way") else line (codes ": a commit is under way")

-- the line of the commit flag, in two hexadecimal digits
unfoldable pub gate_text : ℕ → List ℕ
gate_text flag = codes "gate " ++ encode_lower (flag ∷ []) ++ flag_words flag

-- `.` for a mark that is not set, and `+` for one that is
abbrev pub mark_character : ℕ → ℕ
mark_character mark = if mark == 0 then 46 else 43

-- whether the commit flag or a mark is set
abbrev pub is_under_way : ℕ → List ℕ → Bool
is_under_way flag marks = not (flag == 0) || list_any (λ mark. not (mark == 0)) marks

-- the line before the marks
abbrev pub marks_title : ℕ → List ℕ
marks_title flag = if flag == 0 then line (codes "marks: they do not count, since the gate is 00") else line
    (codes "marks: they count, since the gate is set")

-- the line of the version's mark
unfoldable pub version_text : List ℕ → List ℕ
version_text character = line (codes "version " ++ character)

-- the picture of the marks: those of the slots in rows, and behind them the version's
unfoldable pub marks_text : ℕ → ℕ → List ℕ → List ℕ
marks_text slots flag marks = marks_title flag ++ rows_text (map mark_character (take slots marks))
    ++ version_text (map mark_character (drop slots marks))

-- what is shown of the journal behind the slots
abbrev pub journal_text : ℕ → ℕ → List ℕ → List ℕ
journal_text slots flag marks = if is_under_way flag marks then marks_text slots flag marks else []

-- what stands behind the first line
abbrev pub body_text : ℕ → ℕ → List ℕ → List ℕ → List ℕ
body_text slots flag chars marks = gate_text flag ++ rows_text chars ++ journal_text slots flag marks

-- a picture by the parameters, the commit flag, the characters of the slots, and the marks with the version's behind
-- them
unfoldable pub picture_text : Parameters → ℕ → List ℕ → List ℕ → List ℕ
picture_text p flag chars marks = title_text p (used_count chars) ++ body_text p.slots flag chars marks

-- the picture of the image with these parameters whose slots have these characters
abbrev pub map_text : Parameters → List ℕ → List ℕ → List ℕ
map_text p chars image = picture_text p (slice_index image gate_at) chars (bytes_at image marks_at (p.slots + 1))

-- the text is the picture of the image, as its bytes stand
pub record IsMapOf (image text : List ℕ) : Type 0 where
  pub params : Parameters
  pub is_image : IsImageWith image params
  pub chars : List ℕ
  pub table : ShowsTable params.slots image chars
  pub text_is : text ≡ map_text params chars image
