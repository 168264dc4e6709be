use Rattle.std.proofs.Common.{◌≤◌, length, drop, refl, arith}
use Rattle.std.proofs.lemmas.List.{length-drop, take_all}
use Rattle.seeded_draw.proofs.ruler.block_number.Goals as goal

pub returns : goal.returns
returns c =
    let short : length (drop 120 c.args.bytes.now) ≤ 4 =
    omega (arith, length-drop 120 c.args.bytes.now, c.told-bytes) in
    rw (c.from_be_bytes.ensures, c.copy_from_slice.ensures.after, take_all 4 (drop 120 c.args.bytes.now) short) refl
