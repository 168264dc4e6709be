-- The next block of a file that is open, and what is left of the file behind it.
use Rattle.std.proofs.Common.{◌≡◌, ℕ, ◌+◌, ◌-◌, ◌*◌, ◌/◌, ◌<◌, ◌≤◌, min, List, [], ◌∷◌, ◌++◌, length, take, drop}
use Rattle.std.proofs.Common.{Option}
use Rattle.std.proofs.Common.{Some, None, sym, ap, ap₂, subst, ◌∙◌, arith, append_assoc}
use Rattle.std.proofs.Common.{Result, Ok, Err, is_err, false}
use Rattle.std.specs.Prelude.{OnOk}
use Rattle.std.proofs.lemmas.List.{length-append, length-take, length-drop, take-append-drop, append-nil, drop_all}
use Rattle.store_model.specs.Paths.{Path, key}
use Rattle.store_model.specs.Pairs.{Pair, file_block}
use Rattle.dump_streams.specs.Dumps.{DumpStep, dump_piece}
use Rattle.dump_streams.specs.Dumps.DumpStep.{Write}
use Rattle.dump_streams.specs.Listed.{blocks_from}
use Rattle.dump_streams.proofs.ListedBlocks.{block_first, block_none}
use Rattle.dump_streams.specs.declared.maker.OpenFile.{OpenFile}
use Rattle.dump_streams.specs.declared.maker.StepMaker.{StepMaker}
use Rattle.dump_streams.specs.Making.{pieces_from, IsInFile, IsOpen, open_pairs, open_steps, IsLeft, GivesStep}
use Rattle.dump_streams.proofs.StepPieceLemmas.{piece_whole, piece_last}

-- no file is open, and nothing is left of one
pub none_left : (maker : StepMaker) → maker.file ≡ None → IsLeft maker [] []
none_left maker none = record {
  content = [];
  is_open = subst (λ (o : Option OpenFile). IsOpen o maker.piece.items []) (sym none) tt;
  pairs_are = ap (λ (o : Option OpenFile). open_pairs o maker.piece.items []) (sym none);
  steps_are = ap (λ (o : Option OpenFile). open_steps o (maker.piece.items ++ [])) (sym none);
}

-- The value is that of the next block of a file of which so much of a piece came.
pub record IsBlock (file : OpenFile) (piece value : List ℕ) (some : List Pair) (steps : List DumpStep) : Type 0 where
  pub content : List ℕ
  pub in_file : IsInFile file piece content
  pub value_is : value ≡ take file_block content
  pub rest_are : some ≡ blocks_from file.path ((file.at + length piece) / file_block + 1 + 1) (drop file_block content)
  pub steps_are : steps ≡ pieces_from file.path (file.at / dump_piece) (piece ++ content)

pub block_of : (maker : StepMaker) (file : OpenFile) (k value : List ℕ) (some : List Pair) (steps : List DumpStep)
    → maker.file ≡ Some file → IsLeft maker ((k, value) ∷ some) steps
    → IsBlock file maker.piece.items value some steps
block_of maker file k value some steps is left =
    let content = left.content in
    let piece = maker.piece.items in
    let in_file : IsInFile file piece content =
    subst (λ (o : Option OpenFile). IsOpen o piece content) is left.is_open in
    let number = (file.at + length piece) / file_block + 1 in
    let all : (k, value) ∷ some ≡ (key file.path number, take file_block content)
    ∷ blocks_from file.path (number + 1) (drop file_block content) =
    left.pairs_are ∙ ap (λ (o : Option OpenFile). open_pairs o piece content) is
    ∙ block_first file.path number content (omega (arith, in_file.left_is, in_file.some)) in
    let pair_is : (k, value) ≡ (key file.path number, take file_block content) = cc in
    record {
      content = content;
      in_file = in_file;
      value_is = ap (λ (x : Pair). x.1) pair_is;
      rest_are = cc;
      steps_are = left.steps_are ∙ ap (λ (o : Option OpenFile). open_steps o (piece ++ content)) is;
    }

-- a file that is open has a block
pub no_block : (maker : StepMaker) (file : OpenFile) (steps : List DumpStep) → maker.file ≡ Some file
    → IsLeft maker [] steps → ⊥
no_block maker file steps is left =
    let content = left.content in
    let piece = maker.piece.items in
    let in_file : IsInFile file piece content =
    subst (λ (o : Option OpenFile). IsOpen o piece content) is left.is_open in
    let number = (file.at + length piece) / file_block + 1 in
    let all : [] ≡ (key file.path number, take file_block content)
    ∷ blocks_from file.path (number + 1) (drop file_block content) =
    left.pairs_are ∙ ap (λ (o : Option OpenFile). open_pairs o piece content) is
    ∙ block_first file.path number content (omega (arith, in_file.left_is, in_file.some)) in
    cc

module _ (file : OpenFile) (piece value : List ℕ) (some : List Pair) (steps : List DumpStep)
    (block : IsBlock file piece value some steps) where
  -- how long it is
  pub block_length : length value ≡ min file_block file.left
  block_length = ap length block.value_is ∙ length-take file_block block.content
      ∙ ap (min file_block) (sym block.in_file.left_is)

  -- the piece has room for it
  pub block_fits : length piece + length value ≤ dump_piece
  block_fits =
      let room = block.in_file.room in
      let whole = block.in_file.piece_is in
      omega (arith, room, whole, block_length)

  rest_length : length (drop file_block block.content) ≡ file.left - length value
  rest_length = length-drop file_block block.content
      ∙ (let left = block.in_file.left_is in omega (arith, left, block_length))

  content_is : (longer : List ℕ) → longer ≡ piece ++ value → piece ++ block.content
      ≡ longer ++ drop file_block block.content
  content_is longer is =
      ap (λ (xs : List ℕ). piece ++ xs) (sym (take-append-drop file_block block.content)
      ∙ ap (λ (xs : List ℕ). xs ++ drop file_block block.content) (sym block.value_is))
      ∙ sym (append_assoc piece value (drop file_block block.content))
      ∙ ap (λ (xs : List ℕ). xs ++ drop file_block block.content) (sym is)

  module _ (longer : List ℕ) (is : longer ≡ piece ++ value) where
    longer_length : length longer ≡ length piece + length value
    longer_length = ap length is ∙ length-append piece value

    -- it is not the last of its piece
    pub block_more : (new : StepMaker) (after : OpenFile) → new.file ≡ Some after → new.piece.items ≡ longer
        → after.path ≡ file.path → after.at ≡ file.at → after.left ≡ file.left - length value → 0 < after.left
        → length longer < dump_piece → IsLeft new some steps
    block_more new after file_is piece_is path_is at_is left_is more room =
        let in_file = block.in_file in
        let at = in_file.at_is in
        let whole = in_file.piece_is in
        let short = in_file.short in
        let full : length value ≡ file_block = omega (arith, block_length, left_is, more) in
        let count = longer_length in
        let number : (file.at + length piece) / file_block + 1 + 1 ≡ (after.at + length longer) / file_block + 1 =
        omega (arith, at, whole, full, count, at_is) in
        record {
          content = drop file_block block.content;
          is_open = subst (λ (o : Option OpenFile). IsOpen o new.piece.items (drop file_block block.content))
              (sym file_is) (record {
                pieces = in_file.pieces;
                at_is = at_is ∙ at;
                blocks = in_file.blocks + 1;
                piece_is = omega (arith, ap length piece_is, count, whole, full);
                room = omega (arith, ap length piece_is, room);
                left_is = left_is ∙ sym rest_length;
                some = more;
                short = omega (arith, ap length piece_is, count, short, left_is, at_is, block_length);
              });
          pairs_are = block.rest_are
              ∙ ap₂ (λ (path : Path) (n : ℕ). blocks_from path n (drop file_block block.content)) (sym path_is) number
              ∙ ap (λ (xs : List ℕ). open_pairs (Some after) xs (drop file_block block.content)) (sym piece_is)
              ∙ ap (λ (o : Option OpenFile). open_pairs o new.piece.items (drop file_block block.content))
              (sym file_is);
          steps_are = block.steps_are
              ∙ ap (pieces_from file.path (file.at / dump_piece)) (content_is longer is)
              ∙ ap₂ (λ (path : Path) (n : ℕ). pieces_from path (n / dump_piece)
              (longer ++ drop file_block block.content)) (sym path_is) (sym at_is)
              ∙ ap (λ (xs : List ℕ). open_steps (Some after) (xs ++ drop file_block block.content)) (sym piece_is)
              ∙ ap (λ (o : Option OpenFile). open_steps o (new.piece.items ++ drop file_block block.content))
              (sym file_is);
        }

    -- it is the last of the file
    pub block_ends : (new : StepMaker) (s : DumpStep) → new.file ≡ None → file.left - length value ≡ 0
        → s ≡ Write file.path file.at longer → GivesStep some steps new s
    block_ends new s none_is last s_is =
        let in_file = block.in_file in
        let at = in_file.at_is in
        let begun = in_file.some in
        let count = longer_length in
        let nothing : drop file_block block.content ≡ [] =
        drop_all file_block block.content (omega (arith, in_file.left_is, block_length, last)) in
        let here : dump_piece * (file.at / dump_piece) ≡ file.at = omega (arith, at) in
        let left = none_left new none_is in
        let no_pairs : some ≡ [] = block.rest_are
        ∙ ap (blocks_from file.path ((file.at + length piece) / file_block + 1 + 1)) nothing
        ∙ block_none file.path ((file.at + length piece) / file_block + 1 + 1) in
        record {
          rest = [];
          steps_are = block.steps_are
              ∙ ap (pieces_from file.path (file.at / dump_piece)) (content_is longer is
              ∙ ap (λ (xs : List ℕ). longer ++ xs) nothing ∙ append-nil longer)
              ∙ piece_last file.path (file.at / dump_piece) longer (omega (arith, count, block_length, begun))
              (omega (arith, count, block_fits))
              ∙ ap (λ (n : ℕ). Write file.path n longer ∷ []) here
              ∙ ap (λ (x : DumpStep). x ∷ []) (sym s_is);
          left = subst (λ (xs : List Pair). IsLeft new xs []) (sym no_pairs) left;
        }

    -- it is the last of its piece, and not of the file
    pub block_fills : (new : StepMaker) (s : DumpStep) (after : OpenFile) → new.file ≡ Some after
        → new.piece.items ≡ [] → after.path ≡ file.path → after.at ≡ file.at + length longer
        → after.left ≡ file.left - length value → 0 < after.left → dump_piece ≤ length longer
        → s ≡ Write file.path file.at longer → GivesStep some steps new s
    block_fills new s after file_is piece_is path_is at_is left_is more filled s_is =
        let in_file = block.in_file in
        let at = in_file.at_is in
        let short = in_file.short in
        let count = longer_length in
        let whole : length longer ≡ dump_piece = omega (arith, count, block_fits, filled) in
        let full : length value ≡ file_block = omega (arith, block_length, left_is, more) in
        let here : dump_piece * (file.at / dump_piece) ≡ file.at = omega (arith, at) in
        let next : file.at / dump_piece + 1 ≡ after.at / dump_piece = omega (arith, at, at_is, whole) in
        let none : length new.piece.items ≡ 0 = ap length piece_is in
        let number : (file.at + length piece) / file_block + 1 + 1
        ≡ (after.at + length new.piece.items) / file_block + 1 =
        omega (arith, at, at_is, whole, count, full, none) in
        record {
          rest = pieces_from file.path (file.at / dump_piece + 1) (drop file_block block.content);
          steps_are = block.steps_are
              ∙ ap (pieces_from file.path (file.at / dump_piece)) (content_is longer is)
              ∙ piece_whole file.path (file.at / dump_piece) longer (drop file_block block.content) whole
              ∙ ap (λ (n : ℕ). Write file.path n longer
              ∷ pieces_from file.path (file.at / dump_piece + 1) (drop file_block block.content)) here
              ∙ ap (λ (x : DumpStep). x
              ∷ pieces_from file.path (file.at / dump_piece + 1) (drop file_block block.content)) (sym s_is);
          left = record {
            content = drop file_block block.content;
            is_open = subst (λ (o : Option OpenFile). IsOpen o new.piece.items (drop file_block block.content))
                (sym file_is) (record {
                  pieces = in_file.pieces + 1;
                  at_is = omega (arith, at, at_is, whole);
                  blocks = 0;
                  piece_is = omega (arith, none);
                  room = omega (arith, none);
                  left_is = left_is ∙ sym rest_length;
                  some = more;
                  short = omega (arith, none, count, short, left_is, at_is, block_length);
                });
            pairs_are = block.rest_are
                ∙ ap₂ (λ (path : Path) (n : ℕ). blocks_from path n (drop file_block block.content)) (sym path_is) number
                ∙ ap (λ (o : Option OpenFile). open_pairs o new.piece.items (drop file_block block.content))
                (sym file_is);
            steps_are = ap₂ (λ (path : Path) (n : ℕ). pieces_from path n (drop file_block block.content))
                (sym path_is) next
                ∙ ap (λ (xs : List ℕ). open_steps (Some after) (xs ++ drop file_block block.content)) (sym piece_is)
                ∙ ap (λ (o : Option OpenFile). open_steps o (new.piece.items ++ drop file_block block.content))
                (sym file_is);
          };
        }

-- what holds where no error came
pub extended : {T E : Type 0} (result : Result T E) (P : Type 0) → is_err result ≡ false → OnOk result P → P
extended (Ok value) P e holds = holds
extended (Err error) P e holds = absurd (cc)
