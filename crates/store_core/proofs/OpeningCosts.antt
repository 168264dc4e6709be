-- Lemmas on the writes and syncs of opening an image.
use Rattle.std.proofs.Common.{◌≡◌, ℕ, ◌+◌, Result, Ok, Err, OnOk, ap, arith, ⊎_elim}
use Rattle.disk_model.specs.DiskState.{DiskState}
use Rattle.gate_journal.specs.Places.{Made, Makes}
use Rattle.store_base.specs.Counts.{raised}
use Rattle.gate_journal.specs.Costs.{MadeAtMost, opening_writes, opening_syncs}
use Rattle.gate_journal.specs.Phases.{HasEmptyJournal}
use Rattle.gate_journal.specs.Recovery.{redo_writes, redo_syncs, erase_writes}
use Rattle.gate_journal.proofs.Openings.{CountsOpening, opening_of_empty, opening_of_journal, one_or_other}
use Rattle.staged_tree.proofs.CostLemmas.{made_as, made_then, at_most_as, at_most_then}

-- so many writes and syncs, and with a fault no more
record CountsRest {T E : Type 0} (w s : ℕ) (old new : DiskState) (result : Result T E) : Type 0 where
  made : OnOk result (Made w s old new)
  limit : MadeAtMost w s old new

-- an image is opened: a sync, reads, and recovery
module _ {T E : Type 0} (slots : ℕ) (old mid new : DiskState) where
  -- recovery with an empty journal
  short : (result : Result T E) → new.writes ≡ mid.writes → new.syncs ≡ raised mid.syncs → CountsRest 0 1 mid new result
  short (Ok value) writes syncs = record {
    made = record { write_count = omega (arith, writes); sync_count = omega (arith, syncs) };
    limit = record { write_limit = omega (arith, writes); sync_limit = omega (arith, syncs) };
  }
  short (Err fault) writes syncs = record {
    made = tt;
    limit = record { write_limit = omega (arith, writes); sync_limit = omega (arith, syncs) };
  }

  -- and with another
  long : (w s : ℕ) (result : Result T E) → Makes w s mid new result → CountsRest w s mid new result
  long w s (Ok value) makes = record {
    made = record { write_count = omega (arith, makes.write_count); sync_count = omega (arith, makes.sync_count) };
    limit = record { write_limit = omega (arith, makes.write_limit); sync_limit = omega (arith, makes.sync_limit) };
  }
  long w s (Err fault) makes = record {
    made = tt;
    limit = record { write_limit = omega (arith, makes.write_limit); sync_limit = omega (arith, makes.sync_limit) };
  }

  behind : (w s v t : ℕ) (result : Result T E) → Made 0 1 old mid → w ≡ v → s + 1 ≡ t → CountsRest w s mid new result
      → CountsRest v t old new result
  behind w s v t (Ok value) first writes syncs rest = record {
    made = made_as old new (0 + w) v (1 + s) t (omega (arith, writes)) (omega (arith, syncs))
        (made_then old mid new 0 1 w s first rest.made);
    limit = at_most_as old new (0 + w) v (1 + s) t (omega (arith, writes)) (omega (arith, syncs))
        (at_most_then old mid new 0 1 w s first rest.limit);
  }
  behind w s v t (Err fault) first writes syncs rest = record {
    made = tt;
    limit = at_most_as old new (0 + w) v (1 + s) t (omega (arith, writes)) (omega (arith, syncs))
        (at_most_then old mid new 0 1 w s first rest.limit);
  }

  pub counts_opening : (result : Result T E) → Made 0 1 old mid → mid.bytes ≡ old.bytes
      → (HasEmptyJournal slots mid.bytes → new.writes ≡ mid.writes)
      → (HasEmptyJournal slots mid.bytes → new.syncs ≡ raised mid.syncs)
      → ((HasEmptyJournal slots mid.bytes → ⊥)
      → Makes (redo_writes slots mid.bytes + erase_writes slots mid.bytes)
      (redo_syncs mid.bytes + 2) mid new result)
      → CountsOpening slots old new result
  counts_opening result first same writes syncs makes =
      let writes_are : opening_writes slots mid.bytes ≡ opening_writes slots old.bytes =
      ap (opening_writes slots) same in
      let syncs_are : opening_syncs slots mid.bytes ≡ opening_syncs slots old.bytes = ap (opening_syncs slots) same in
      let counted : CountsRest (opening_writes slots old.bytes) (opening_syncs slots old.bytes) old new result =
      ⊎_elim
      (λ empty. behind 0 1 (opening_writes slots old.bytes) (opening_syncs slots old.bytes) result first
      (omega (arith, writes_are, (opening_of_empty slots mid.bytes empty).0))
      (omega (arith, syncs_are, (opening_of_empty slots mid.bytes empty).1))
      (short result (writes empty) (syncs empty)))
      (λ other. behind (redo_writes slots mid.bytes + erase_writes slots mid.bytes) (redo_syncs mid.bytes + 2)
      (opening_writes slots old.bytes) (opening_syncs slots old.bytes) result first writes_are
      (omega (arith, syncs_are, opening_of_journal slots mid.bytes other))
      (long (redo_writes slots mid.bytes + erase_writes slots mid.bytes)
      (redo_syncs mid.bytes + 2) result (makes other)))
      (one_or_other slots mid.bytes) in
      record { made = counted.made; limit = counted.limit }
