use Rattle.std.proofs.Common.{[]}
use Rattle.store_model.specs.Lists.{zeros}
use Rattle.path_keys.proofs.NameBytes.{root_field, is_field_of_shown, shown_by_field}
use Rattle.path_keys.proofs.paths.Path.root.Goals as goal

pub invariant_of-result : goal.invariant_of-result
invariant_of-result c = is_field_of_shown (zeros 120) 0 [] root_field

pub returns : goal.returns
returns c = shown_by_field (zeros 120) 0 [] root_field
