use Rattle.std.proofs.Common.{refl, append-nil}
use Rattle.store_base.proofs.HeaderBytes.{header-front}
use Rattle.store_base.proofs.header.write_header.Goals as goal

pub returns : goal.returns
returns c = rw (
  header-front c.args.params.now c.slots.ensures.valid,
  c.copy_from_slice-3.ensures.after,
  c.copy_from_slice-2.ensures.after,
  c.seed.ensures.value,
  c.write_u32.ensures,
  c.copy_from_slice.ensures.after,
  c.height.ensures.value,
  c.byte_of.ensures,
  c.kind.ensures.value,
  c.version_byte.ensures,
  c.version.ensures.value,
  c.slots.ensures.value,
  append-nil c.args.params.now.seed,
) refl
