use Rattle.mirror_copy.proofs.CompareLemmas.{IsComparing}
use Rattle.mirror_copy.proofs.compare.find_differences.Given as goal

-- the slots that were found so far, and what lies below both tables
abbrev pub invariant-loop-at : goal.invariant-loop-at
invariant-loop-at g l = record {
  comparing : IsComparing (g.S.ReadSlots.state l.fn.from) (g.S.ReadSlots.state l.from) (g.T.ReadSlots.state l.fn.to)
      (g.T.ReadSlots.state l.to) l.changed.items l.at;
  first : g.S.ReadSlots.follows l.fn.from l.from;
  second : g.T.ReadSlots.follows l.fn.to l.to;
}
