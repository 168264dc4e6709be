use Rattle.std.proofs.Common.{refl}
use Rattle.layout_scratch.proofs.CountedKeys.{counted_none, zero_cells}
use Rattle.layout_scratch.proofs.counter.PageCounter.new.Goals as goal

pub returns : goal.returns
returns c = λ d. counted_none d _ refl refl zero_cells
