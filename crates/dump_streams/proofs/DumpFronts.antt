-- The first steps of a dump are a dump, and a dump tells its tree.
use Rattle.std.proofs.Common.{◌≡◌, List, [], ◌∷◌, ◌++◌, subst}
use Rattle.store_model.specs.Parameters.{Parameters}
use Rattle.store_model.specs.Pages.{IsTreeUnder}
use Rattle.store_model.specs.Trees.{Tree}
use Rattle.store_model.proofs.TreesLemmasFits.{IsTree-empty}
use Rattle.dump_streams.specs.Dumps.{DumpStep, after_step, dump}
use Rattle.dump_streams.specs.Laws.{HasDump}
use Rattle.dump_streams.specs.Reading.{GoesOn}
use Rattle.dump_streams.proofs.Chains.{Chain, chain_split, chain_same, chain_goes, dump_chain, next_of_dump}
use Rattle.dump_streams.proofs.NextTrees.{IsNext, goes_on}

-- the empty tree may stand under any parameters
pub empty_under : (p : Parameters) → IsTreeUnder [] p
empty_under p = record { is_tree = IsTree-empty; bare = λ lacks. tt }

-- the first steps of a dump are a dump
pub dump_front : (u : Tree) (p : Parameters) (cs rest : List DumpStep) → IsTreeUnder u p
    → dump u ≡ cs ++ rest → HasDump cs p
unfolding dump
dump_front u p cs rest under e =
    let split = chain_split cs rest [] u p (subst (λ (all : List DumpStep). Chain [] all u p) e (dump_chain u p under))
    in
    let goes = chain_goes cs [] split.0 p (empty_under p) split.1 in
    record { tree = split.0; under = goes.0; dump_is = goes.1 }

-- what stands behind a dump in another goes on with it
pub goes_on_with : (t u : Tree) (c : DumpStep) (rest : List DumpStep) (p : Parameters) → IsTreeUnder t p
    → IsTreeUnder u p → dump u ≡ dump t ++ c ∷ rest → GoesOn t c p
goes_on_with t u c rest p under_t under_u e = goes_on t c p under_t (next_of_dump t u c rest p under_t under_u e)

-- a dump tells its tree
pub dumps_tell_trees : (t u : Tree) (p : Parameters) → IsTreeUnder t p → IsTreeUnder u p → dump t ≡ dump u → t ≡ u
dumps_tell_trees t u p under_t under_u e =
    chain_same (dump u) [] t u p (subst (λ (all : List DumpStep). Chain [] all t p) e (dump_chain t p under_t))
    (dump_chain u p under_u)

-- a step that goes on with a dump is one that may stand next
pub next_of_goes_on : (t : Tree) (c : DumpStep) (p : Parameters) → IsTreeUnder t p → GoesOn t c p → IsNext t p c
next_of_goes_on t c p under goes = next_of_dump t (after_step t c) c [] p under goes.under goes.dump_is
