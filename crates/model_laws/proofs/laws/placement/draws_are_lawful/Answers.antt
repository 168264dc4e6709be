use Rattle.store_model.proofs.PlacementLemmasDraws.{IsLawful-draw_of}
use Rattle.model_laws.proofs.laws.placement.draws_are_lawful.Goals as goal

pub returns : goal.returns
returns c = IsLawful-draw_of
