use Rattle.model_laws.proofs.PathsLemmasTexts.{path_of-path_text}
use Rattle.model_laws.proofs.laws.paths.texts_spell_their_paths.Goals as goal

pub returns : goal.returns
returns c = path_of-path_text
