use Rattle.std.proofs.Common.{◌≤◌, length, drop, refl, arith}
use Rattle.std.proofs.lemmas.List.{length-drop, take_all}
use Rattle.drawn_levels.proofs.run.number_of.Goals as goal

pub returns-clause-value : goal.returns-clause-value
returns-clause-value c =
    let long = c.as_bytes.ensures.valid.0 in
    let short : length (drop 120 c.args.key.now) ≤ 4 =
    omega (arith, length-drop 120 c.args.key.now, long) in
    rw (
      c.from_be_bytes.ensures,
      c.copy_from_slice.ensures.after,
      c.as_bytes.ensures.value,
      take_all 4 (drop 120 c.args.key.now) short,
    ) refl
