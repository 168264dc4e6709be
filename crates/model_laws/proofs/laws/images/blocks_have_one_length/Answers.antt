use Rattle.store_model.proofs.ImagesLemmas.{length-header, length-slot_bytes}
use Rattle.std.proofs.Common.{Some, None}
use Rattle.model_laws.proofs.laws.images.blocks_have_one_length.Goals as goal

pub returns-clause-header : goal.returns-clause-header
returns-clause-header c = length-header

pub returns-clause-empty_slot : goal.returns-clause-empty_slot
returns-clause-empty_slot c = length-slot_bytes None tt

pub returns-clause-page : goal.returns-clause-page
returns-clause-page c page is = length-slot_bytes (Some page) is
