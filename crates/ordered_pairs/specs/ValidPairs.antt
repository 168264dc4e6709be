-- That a list of pairs is valid is one fact, as a ghost field asks.
use Rattle.std.specs.Prelude.{List}
use Rattle.std.proofs.Props.{props}
use Rattle.std.specs.List.{AllByRecursion-prop}
use Rattle.store_model.specs.Pairs.{Pair, IsPairs}

pub IsPairs-prop : (s : List Pair) → IsProp (IsPairs s)
IsPairs-prop s = hlevel (props, AllByRecursion-prop)
