use Rattle.std.proofs.Common.{refl}
use Rattle.pair_stream.proofs.LevelReads.{stands_first}
use Rattle.pair_stream.proofs.places.PairStream.new.Goals as goal

pub returns : goal.returns
returns c = λ d s m holds high. stands_first d s m _ holds high refl
