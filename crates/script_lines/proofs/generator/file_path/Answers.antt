use Rattle.std.proofs.Common.{◌≡◌, ◌+◌, ◌-◌, ap, ◌∙◌, arith}
use Rattle.script_lines.specs.Generated.{file_path}
use Rattle.script_lines.proofs.Generating.{path_of-file_text, path_of-long_file_text, spells_one, spells_some}
use Rattle.script_lines.proofs.generator.file_path.Goals as goal

pub short_path-requires-clause-spells : goal.short_path-requires-clause-spells
short_path-requires-clause-spells c =
    spells_some _ _ (path_of-file_text c.args.directory c.args.file c.requires.directory c.if-file-lt10.true)

pub short_path-requires-else-file-lt10-clause-spells :
    goal.short_path-requires-else-file-lt10-clause-spells
short_path-requires-else-file-lt10-clause-spells c =
    spells_some _ _ (path_of-long_file_text c.args.directory (c.args.file - 10) c.requires.directory (omega arith))

pub returns-then-file-lt10 : goal.returns-then-file-lt10
returns-then-file-lt10 c =
    spells_one _ _ _ c.short_path.ensures
    (path_of-file_text c.args.directory c.args.file c.requires.directory c.if-file-lt10.true)

pub returns-else-file-lt10 : goal.returns-else-file-lt10
returns-else-file-lt10 c =
    let whole : 10 + (c.args.file - 10) ≡ c.args.file = omega arith in
    spells_one _ _ _ c.short_path-else-file-lt10.ensures
    (path_of-long_file_text c.args.directory (c.args.file - 10) c.requires.directory (omega arith))
    ∙ ap (file_path c.args.directory) whole
