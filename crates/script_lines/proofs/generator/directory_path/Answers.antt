use Rattle.script_lines.proofs.Generating.{path_of-directory_text, spells_one, spells_some}
use Rattle.script_lines.proofs.generator.directory_path.Goals as goal

pub short_path-requires-clause-spells : goal.short_path-requires-clause-spells
short_path-requires-clause-spells c = spells_some _ _ (path_of-directory_text c.args.directory c.requires)

pub returns : goal.returns
returns c = spells_one _ _ _ c.short_path.ensures (path_of-directory_text c.args.directory c.requires)
