-- Lemmas on the writes and syncs of commits.
use Rattle.std.proofs.Common.{◌≡◌, ℕ, ◌+◌, ◌≤◌, Result, Ok, Err, OnOk, sym, ap, ◌∙◌, subst, arith}
use Rattle.store_model.specs.Parameters.{Parameters}
use Rattle.store_model.specs.Trees.{Tree}
use Rattle.disk_model.specs.DiskState.{DiskState}
use Rattle.gate_journal.specs.Places.{Made, ReadsOnly}
use Rattle.staged_tree.specs.TableChanges.{slots_between}
use Rattle.layout_conditions.specs.Layouts.{table_of_tree}
use Rattle.gate_journal.specs.Costs.{MadeAtMost, CountsCommit}
use Rattle.staged_tree.proofs.DifferLemmas.{differing-itself}

pub made_none : (disk : DiskState) → Made 0 0 disk disk
made_none disk = record { write_count = omega arith; sync_count = omega arith }

pub made_reading : (old new : DiskState) → ReadsOnly old new → Made 0 0 old new
made_reading old new reads = record {
  write_count = omega (arith, reads.write_count);
  sync_count = omega (arith, reads.sync_count);
}

pub made_then : (old mid new : DiskState) (w s v t : ℕ) → Made w s old mid → Made v t mid new
    → Made (w + v) (s + t) old new
made_then old mid new w s v t before then = record {
  write_count = omega (arith, before.write_count, then.write_count);
  sync_count = omega (arith, before.sync_count, then.sync_count);
}

pub at_most_then : (old mid new : DiskState) (w s v t : ℕ) → Made w s old mid → MadeAtMost v t mid new
    → MadeAtMost (w + v) (s + t) old new
at_most_then old mid new w s v t before then = record {
  write_limit = omega (arith, before.write_count, then.write_limit);
  sync_limit = omega (arith, before.sync_count, then.sync_limit);
}

pub made_as : (old new : DiskState) (w v s t : ℕ) → w ≡ v → s ≡ t → Made w s old new → Made v t old new
made_as old new w v s t writes syncs made =
    subst (λ n. Made v n old new) syncs (subst (λ n. Made n s old new) writes made)

pub at_most_as : (old new : DiskState) (w v s t : ℕ) → w ≡ v → s ≡ t → MadeAtMost w s old new → MadeAtMost v t old new
at_most_as old new w v s t writes syncs made =
    subst (λ n. MadeAtMost v n old new) syncs (subst (λ n. MadeAtMost n s old new) writes made)

pub at_most : (old new : DiskState) (w s v t : ℕ) → Made w s old new → w ≤ v → s ≤ t → MadeAtMost v t old new
at_most old new w s v t made writes syncs = record {
  write_limit = omega (arith, made.write_count, writes);
  sync_limit = omega (arith, made.sync_count, syncs);
}

-- calls that read alone, where an answer tells that no slot differs
pub counts_reading : {T E : Type 0} (slots : ℕ) (old new : DiskState) (result : Result T E) → ReadsOnly old new
    → OnOk result (slots ≡ 0) → CountsCommit slots old new result
counts_reading {T} {E} slots old new (Ok value) reads none =
    let made = made_reading old new reads in
    subst (λ n. CountsCommit {T = T} {E = E} n old new (Ok value)) (sym none)
    (record { made = made; limit = at_most old new 0 0 0 0 made (omega arith) (omega arith) })
counts_reading slots old new (Err fault) reads none =
    let made = made_reading old new reads in
    record {
      made = tt;
      limit = record { write_limit = omega (arith, made.write_count); sync_limit = omega (arith, made.sync_count) };
    }

-- and those of a commit behind reads
pub counts_behind : {T E : Type 0} (slots : ℕ) (old mid new : DiskState) (result : Result T E) → ReadsOnly old mid
    → CountsCommit slots mid new result → CountsCommit slots old new result
counts_behind slots old mid new (Ok value) reads counts = record {
  made = record {
    write_count = omega (arith, counts.made.write_count, reads.write_count);
    sync_count = omega (arith, counts.made.sync_count, reads.sync_count);
  };
  limit = record {
    write_limit = omega (arith, counts.limit.write_limit, reads.write_count);
    sync_limit = omega (arith, counts.limit.sync_limit, reads.sync_count);
  };
}
counts_behind slots old mid new (Err fault) reads counts = record {
  made = tt;
  limit = record {
    write_limit = omega (arith, counts.limit.write_limit, reads.write_count);
    sync_limit = omega (arith, counts.limit.sync_limit, reads.sync_count);
  };
}

-- where the tree stays no slot differs
pub none_between : (p : Parameters) (t u : Tree) → u ≡ t → slots_between p t u ≡ 0
none_between p t u same = ap (slots_between p t) same ∙ differing-itself (table_of_tree t p) p.slots
