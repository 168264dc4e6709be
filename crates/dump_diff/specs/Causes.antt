-- Why two streams were not compared to their ends.
use Rattle.std.specs.Prelude.{◌⊎◌, ◌+◌, ◌-◌, ◌^◌, ◌≤◌, length, ⊤}
use Rattle.store_model.specs.Trees.{Tree}
use Rattle.dump_streams.specs.Dumps.{dump}
use Rattle.dump_streams.specs.declared.fault.StreamFault.{StreamFault}
use Rattle.dump_diff.specs.declared.fault.CompareFault.{CompareFault}
use Rattle.dump_diff.specs.declared.fault.CompareFault.TheVariants as faults

-- a stream told this fault after the dump of some tree
pub record Tells (fails : Tree → StreamFault → Type 0) (fault : StreamFault) : Type 0 where
  pub tree : Tree
  pub told : fails tree fault

-- the dumps of these trees came of two streams, the whole ones or their first steps, and are too long together
pub record AreTooLong (came whole came' whole' : Tree → Type 0) : Type 0 where
  pub one : Tree
  pub other : Tree
  pub first : came one ⊎ whole one
  pub second : came' other ⊎ whole' other
  pub many : 2 ^ 64 - 1 ≤ length (dump one) + length (dump other)

-- the stream that is blamed told the fault
abbrev pub IsCause : (Tree → Type 0) → (Tree → Type 0) → (Tree → StreamFault → Type 0) → (Tree → Type 0)
    → (Tree → Type 0) → (Tree → StreamFault → Type 0) → CompareFault → Type 0
IsCause came whole fails came' whole' fails' (faults.First fault) = Tells fails fault
IsCause came whole fails came' whole' fails' (faults.Second fault) = Tells fails' fault
IsCause came whole fails came' whole' fails' faults.TooLong = AreTooLong came whole came' whole'
IsCause came whole fails came' whole' fails' (faults.NoMemory fault) = ⊤

-- ---- on the way

-- one of the two streams told a fault, and is blamed for it; or memory ran out
abbrev pub OneFails : (Tree → StreamFault → Type 0) → (Tree → StreamFault → Type 0) → CompareFault → Type 0
OneFails fails fails' (faults.First fault) = Tells fails fault
OneFails fails fails' (faults.Second fault) = Tells fails' fault
OneFails fails fails' faults.TooLong = ⊥
OneFails fails fails' (faults.NoMemory fault) = ⊤

-- none of them did
abbrev pub NoneFails : CompareFault → Type 0
NoneFails fault = OneFails (λ t cause. ⊥) (λ t cause. ⊥) fault

-- the first alone was asked for a step, or the second
abbrev pub FirstFails : (Tree → StreamFault → Type 0) → CompareFault → Type 0
FirstFails fails fault = OneFails fails (λ t cause. ⊥) fault

abbrev pub SecondFails : (Tree → StreamFault → Type 0) → CompareFault → Type 0
SecondFails fails fault = OneFails (λ t cause. ⊥) fails fault
