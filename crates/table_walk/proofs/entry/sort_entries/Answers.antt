use Rattle.std.proofs.Common.{rules}
use Rattle.std.proofs.lemmas.List.Sorted.{IsNonDecreasingBy-from_sort_by_key}
use Rattle.table_walk.specs.declared.entry.Entry.{Entry}
use Rattle.table_walk.proofs.entry.sort_entries.Goals as goal

pub returns : goal.returns
returns c = record {
  same = c.sort_unstable_by_key.ensures.permutation;
  rising = IsNonDecreasingBy-from_sort_by_key (λ (e : Entry). e.digest) _
      c.sort_unstable_by_key.ensures.sorted (λ a r q k. search rules);
}
