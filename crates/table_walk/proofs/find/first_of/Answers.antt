use Rattle.std.proofs.Common.{rules, arith}
use Rattle.std.proofs.Math.Dec.{ltb}
use Rattle.std.proofs.lemmas.Bool.{ltb-true, ltb-false}
use Rattle.std.proofs.lemmas.List.Sorted.{IsPartitionPoint-from_clause, IsPartitionedBy-ltb}
use Rattle.table_walk.specs.declared.entry.Entry.{Entry}
use Rattle.table_walk.proofs.find.first_of.Goals as goal

pub returns-clause-past : goal.returns-clause-past
returns-clause-past c rising =
    let entries = c.args.entries.now in
    let point = IsPartitionPoint-from_clause (λ (e : Entry). ltb e.digest c.args.digest) entries
    c.partition_point.result c.partition_point.ensures.partitioned
    (IsPartitionedBy-ltb (λ (e : Entry). e.digest) entries c.args.digest rising) (λ a r q k. search rules) in (
      λ k e below. ltb-true _ _ (point.0 k e (omega arith) below),
      λ k e from below.
          ltb-false _ _ (point.1 k e from below),
    )
