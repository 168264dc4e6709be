-- The program's leads, seen as those of the definitions.
use Rattle.store_base.specs.declared.label.Lead.{Lead}
use Rattle.store_base.specs.declared.label.Lead.TheVariants as declared
use Rattle.store_model.specs.Labels as model
use Rattle.store_model.specs.Labels.Lead.{Start, Leader}

abbrev pub model_lead : Lead → model.Lead
model_lead declared.Start = Start
model_lead (declared.Key k) = Leader k

abbrev pub declared_lead : model.Lead → Lead
declared_lead Start = declared.Start
declared_lead (Leader k) = declared.Key k
