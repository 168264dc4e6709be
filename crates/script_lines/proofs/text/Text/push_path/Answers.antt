use Rattle.std.proofs.Common.{length, ap, arith, length-append}
use Rattle.script_lines.specs.CommandLines.{names_text}
use Rattle.script_lines.proofs.PathTexts.{names_text-fits}
use Rattle.script_lines.proofs.text.Text.push_path.Goals as goal

pub push_names-requires : goal.push_names-requires
push_names-requires c = omega (arith, c.requires, names_text-fits c.args.path.now c.is_root.ensures.valid)

pub returns-else-is_root-clause-fits : goal.returns-else-is_root-clause-fits
returns-else-is_root-clause-fits c =
    omega (
      arith,
      names_text-fits c.args.path.now c.is_root.ensures.valid,
      ap length c.push_names.ensures,
      length-append c.args.self.now (names_text c.args.path.now),
    )
