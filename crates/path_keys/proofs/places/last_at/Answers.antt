use Rattle.std.proofs.Common.{◌∙◌, ◌-◌, ◌^◌}
use Rattle.path_keys.proofs.KeyBytes.{block_changed}
use Rattle.path_keys.proofs.places.last_at.Goals as goal

pub returns-clause-value : goal.returns-clause-value
returns-clause-value c place block valid small e =
    c.new.ensures.value ∙ block_changed c.as_bytes.result.now c.write_u32.new.buf place block (2 ^ 32 - 1) valid
    (c.as_bytes.ensures.value ∙ e) c.write_u32.ensures
