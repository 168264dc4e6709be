-- Which of two streams is to blame where they are not compared to their ends.
use Rattle.std.proofs.Common.{◌≡◌, ℕ, ◌+◌, ◌-◌, ◌^◌, ◌≤◌, ◌⊎◌, inl, inr, Bool, true, false, [], ◌∷◌, ◌++◌, length}
use Rattle.std.proofs.Common.{Result, Ok, Err, refl, sym, ap, subst, ◌∙◌, arith}
use Rattle.std.specs.Prelude.{IfErr, IsErrAnd}
use Rattle.std.proofs.lemmas.List.{length-append}
use Rattle.store_model.specs.Trees.{Tree}
use Rattle.dump_streams.specs.Dumps.{DumpStep, after_step, dump}
use Rattle.dump_streams.specs.declared.fault.StreamFault.{StreamFault}
use Rattle.dump_diff.specs.declared.fault.CompareFault.{CompareFault}
use Rattle.dump_diff.specs.declared.fault.CompareFault.TheVariants as faults
use Rattle.dump_diff.specs.declared.comparing.Merge.{Merge}
use Rattle.dump_diff.specs.declared.heads.Head.{Head}
use Rattle.dump_diff.specs.Ahead.{IsAhead, IsBetweenSome}
use Rattle.dump_diff.specs.Causes.{AreTooLong, IsCause, OneFails}

-- an answer whose fault is known
pub err_so : {T E : Type 0} (result : Result T E) (fault : E) (P : E → Type 0) → IsErrAnd result (λ e. e ≡ fault)
    → P fault → IfErr result P
err_so (Ok value) fault P told holds = tt
err_so (Err e) fault P told holds = subst P (sym told) holds

module _ {fails fails' told told' : Tree → StreamFault → Type 0}
    (first : (t : Tree) (cause : StreamFault) → fails t cause → told t cause)
    (second : (t : Tree) (cause : StreamFault) → fails' t cause → told' t cause) where
  -- what is told of fewer is told of more
  pub blamed : (fault : CompareFault) → OneFails fails fails' fault → OneFails told told' fault
  blamed (faults.First cause) is = record { tree = is.tree; told = first is.tree cause is.told }
  blamed (faults.Second cause) is = record { tree = is.tree; told = second is.tree cause is.told }
  blamed faults.TooLong is = is
  blamed (faults.NoMemory cause) is = is

-- one of the two is to blame
pub cause_of : (came whole came' whole' : Tree → Type 0) (fails fails' : Tree → StreamFault → Type 0)
    (fault : CompareFault) → OneFails fails fails' fault → IsCause came whole fails came' whole' fails' fault
cause_of came whole came' whole' fails fails' (faults.First cause) is = is
cause_of came whole came' whole' fails fails' (faults.Second cause) is = is
cause_of came whole came' whole' fails fails' faults.TooLong is = absurd is
cause_of came whole came' whole' fails fails' (faults.NoMemory cause) is = is

-- ---- how many steps came

pub one_more : (t : Tree) (c : DumpStep) → dump (after_step t c) ≡ dump t ++ c ∷ []
    → length (dump (after_step t c)) ≡ length (dump t) + 1
one_more t c is = ap length is ∙ length-append (dump t) (c ∷ [])

-- what came of a stream, with the step at hand
record CameOf (came whole : Tree → Type 0) (t : Tree) : Type 0 where
  tree : Tree
  is : came tree ⊎ whole tree
  many : length (dump t) ≤ length (dump tree)

came_of : {came whole : Tree → Type 0} (head : Head) (t : Tree) → IsAhead came whole head t → CameOf came whole t
came_of {came = came} {whole = whole} head t ahead = by_head head.is_there refl
  where
    by_head : (b : Bool) → head.is_there ≡ b → CameOf came whole t
    by_head true there =
        let at = ahead.there there in
        let more = one_more t head.step (at.extends).dump_is in
        record { tree = after_step t head.step; is = inl at.came_now; many = omega (arith, more) }
    by_head false none = record { tree = t; is = inr (ahead.ended none); many = omega arith }

pub too_long : {came whole came' whole' : Tree → Type 0} (merge : Merge) (count : ℕ)
    → IsBetweenSome came whole came' whole' merge count → 2 ^ 64 - 1 ≤ count → AreTooLong came whole came' whole'
too_long merge count some enough =
    let first = came_of merge.first some.one (some.between).first in
    let second = came_of merge.second some.other (some.between).second in
    record {
      one = first.tree;
      other = second.tree;
      first = first.is;
      second = second.is;
      many = omega (arith, enough, some.many, first.many, second.many);
    }
