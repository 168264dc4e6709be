use Rattle.std.proofs.Common.{arith, length-take}
use Rattle.table_walk.proofs.fronts.front_of.Goals as goal

pub slice_bounds-as_chunks-end : goal.slice_bounds-as_chunks-end
slice_bounds-as_chunks-end c =
    omega (arith, length-take 88 c.to_bytes-bytes.result, c.to_bytes-bytes.auto)
