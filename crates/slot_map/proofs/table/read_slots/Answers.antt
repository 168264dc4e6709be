use Rattle.std.proofs.Common.{◌≢◌, ℕ, ◌+◌, ◌<◌, List, length, set, slice_index, subst, arith, rules, get_or-set_other}
use Rattle.std.proofs.Common.{get_or-set_same, below_more}
use Rattle.store_model.specs.Parameters.{table_at}
use Rattle.store_model.specs.Images.{bytes_at}
use Rattle.gate_journal.proofs.Calls.{observable_after}
use Rattle.gate_journal.proofs.Reading.{ReadsOnly-refl, ReadsOnly-trans}
use Rattle.slot_map.specs.Contents.{ShowsSlot}
use Rattle.slot_map.proofs.table.read_slots.Goals as goal

-- one more is noted
noted : (P : ℕ → ℕ → Type 0) (chars : List ℕ) (slot char : ℕ) → slot < length chars
    → ((i : ℕ) → i < slot → P i (slice_index chars i)) → P slot char
    → (i : ℕ) → i < slot + 1 → P i (slice_index (set chars slot char) i)
noted P chars slot char fits before here =
    below_more (λ i. P i (slice_index (set chars slot char) i)) slot
    (λ i low. let ne : i ≢ slot = omega arith in rw get_or-set_other (before i low))
    (rw get_or-set_same here)

pub loop-slot-init : goal.loop-slot-init
loop-slot-init g c = record {
  so_far = record {
    calls = search rules;
    reads = λ observable. ReadsOnly-refl _ (g.met.D.Disk.sound c.args.disk.now observable);
    holds = λ observable i low. absurd (omega arith);
  };
  length_is = c.requires.count;
}

pub loop-slot-preserved : goal.loop-slot-preserved
loop-slot-preserved g c =
    let old = g.D.Disk.state c.args.disk.now in
    let mid = g.D.Disk.state c.loop-slot.disk in
    let new = g.D.Disk.state c.read_slot.new.disk in
    let so_far = c.loop-slot.invariant.so_far in
    let slots = c.args.slots in
    record {
      so_far = record {
        calls = search rules;
        reads = λ observable. ReadsOnly-trans old mid new (so_far.reads observable)
            (c.read_slot.ensures.reads.reads (observable_after _ _ _ so_far.calls observable));
        holds = λ observable.
            noted (λ i char. ShowsSlot (bytes_at old.bytes (table_at slots i) 4096) char)
            c.loop-slot.chars c.loop-slot.slot c.in_ok-chars.field-0
            (omega (arith, c.loop-slot.invariant.length_is, c.loop-slot-test.true)) (so_far.holds observable)
            (subst (λ (image : List ℕ). ShowsSlot (bytes_at image (table_at slots c.loop-slot.slot) 4096)
            c.in_ok-chars.field-0) (so_far.reads observable).bytes
            (c.in_ok-chars.ensures.shown (observable_after _ _ _ so_far.calls observable)));
      };
      length_is = search rules;
    }
