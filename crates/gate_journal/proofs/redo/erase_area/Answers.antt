use Rattle.std.proofs.Common.{◌≡◌, ℕ, ◌+◌, ◌-◌, ◌*◌, ◌≤◌, ap, ◌∙◌, inr, arith, subst, rules}
use Rattle.store_model.specs.Images.{journal_len}
use Rattle.store_model.specs.Parameters.{mark_blocks}
use Rattle.disk_model.specs.DiskState.{DiskState, IsObservable}
use Rattle.gate_journal.proofs.Faults.{IsCall-fault, on_ok_fault}
use Rattle.gate_journal.proofs.Calls.{IsCall-then, durable-sync, observable_after, Reaches-fault, Reaches-sync}
use Rattle.gate_journal.proofs.Calls.{Made-none, Made-then, Made-as, Makes-then, Makes-as, Makes-short, Makes-sync}
use Rattle.gate_journal.specs.Places.{IsApart, Keeps, IsZeroAt}
use Rattle.gate_journal.specs.Recovery.{clear_writes, clear_block_writes, erase_writes}
use Rattle.gate_journal.proofs.Counting.{clear_same, clear_blocks_none, clear_blocks_more, clear_blocks_part}
use Rattle.gate_journal.proofs.Areas.{marks_end, shadow_end, table_end, table_blocks, journal_end}
use Rattle.gate_journal.proofs.Areas.{blocks_before_table}
use Rattle.gate_journal.proofs.Places.{Keeps-trans, Keeps-weaken}
use Rattle.gate_journal.proofs.Reading.{erase_step, apart_within}
use Rattle.gate_journal.proofs.redo.erase_area.Goals as goal

-- the first block lies within the area
first_within : (slots : ℕ) → 0 + 4095 ≤ journal_len slots - 1
first_within slots = omega (arith, journal_end slots, shadow_end slots, marks_end slots)

pub clear_flag_block-requires : goal.clear_flag_block-requires
clear_flag_block-requires g c =
    omega (arith, c.requires.size, table_end c.args.slots, shadow_end c.args.slots, marks_end c.args.slots)

-- what is kept so far is kept beside a wider range
wider : (n total : ℕ) (old mid : DiskState) → n ≤ total → Keeps (IsApart 4097 n) old mid
    → Keeps (IsApart 4097 total) old mid
wider n total old mid fits keeps = Keeps-weaken (IsApart 4097 n) (IsApart 4097 total) old mid
    (apart_within 4097 total 0 4097 n (omega arith) (omega arith)) keeps

-- a block that is not reached yet takes as many writes as at the beginning
ahead : (block : ℕ) (old mid : DiskState) → 2 ≤ block → Keeps (IsApart 4097 (4096 * block - 4097)) old mid
    → clear_writes (block * 4096) 4096 mid.bytes ≡ clear_writes (8192 + 4096 * (block - 2)) 4096 old.bytes
ahead block old mid two keeps =
    let there : block * 4096 ≡ 8192 + 4096 * (block - 2) = omega arith in
    clear_same (IsApart 4097 (4096 * block - 4097))
    (block * 4096) 4096 old.bytes mid.bytes (λ place low high. inr (omega arith)) keeps.reads
    ∙ ap (λ (at : ℕ). clear_writes at 4096 old.bytes) there

-- the writes of the blocks so far and of this one
up_to : (block : ℕ) (old mid : DiskState) → 2 ≤ block → Keeps (IsApart 4097 (4096 * block - 4097)) old mid
    → clear_block_writes (block - 2) old.bytes + clear_writes (block * 4096) 4096 mid.bytes
    ≡ clear_block_writes (block + 1 - 2) old.bytes
up_to block old mid two keeps =
    let more : block - 2 + 1 ≡ block + 1 - 2 = omega arith in
    omega (
      arith,
      ahead block old mid two keeps,
      clear_blocks_more (block - 2) old.bytes,
      ap (λ (n : ℕ). clear_block_writes n old.bytes) more,
    )

pub returns-in_err-clear_flag_block-clause-reaches : goal.returns-in_err-clear_flag_block-clause-reaches
returns-in_err-clear_flag_block-clause-reaches g c observable =
    let places = IsApart 4097 (journal_len c.args.slots - 1) in
    Reaches-fault places _ _ _ c.from_residual.result c.from_residual.ensures.0
    (Keeps-weaken (IsApart 4097 4095) places _ _
    (apart_within 4097 (journal_len c.args.slots - 1) 0 4097 4095 (omega arith) (first_within c.args.slots))
    (c.clear_flag_block.ensures.reaches observable).keeps)

pub loop-block-init : goal.loop-block-init
loop-block-init g c = record {
  calls = search rules;
  comes = λ observable.
      let old = g.D.Disk.state c.args.disk.now in
      let first = clear_writes 4097 4095 old.bytes in
      record {
        keeps = (c.clear_flag_block.ensures.reaches observable).keeps;
        done = (c.in_ok-clear_flag_block.ensures.reaches observable).done;
        made = Made-as old _ (0 + first) (0 + 0) (first + clear_block_writes 0 old.bytes) 0
            (omega (arith, clear_blocks_none old.bytes)) (omega arith)
            (Made-then old old _ _ 0 0 first 0 (Made-none old) (c.in_ok-clear_flag_block.ensures.makes observable));
      };
}

pub clear_block-requires : goal.clear_block-requires
clear_block-requires g c =
    omega (
      arith,
      c.loop-block-test.true,
      c.table_at.ensures.value,
      table_end c.args.slots,
      c.loop-block.invariant.calls.size,
      c.requires.size,
    )

pub returns-in_err-clear_block-clause-reaches : goal.returns-in_err-clear_block-clause-reaches
returns-in_err-clear_block-clause-reaches g c observable =
    let total = journal_len c.args.slots - 1 in
    let n = 4096 * c.loop-block.block - 4097 in
    let two : 2 ≤ c.loop-block.block = c.loop-block.auto.block in
    let there : c.loop-block.block * 4096 ≡ 4097 + n = omega arith in
    let fits : n + 4096 ≤ total =
    omega (arith, c.loop-block-test.true, c.table_at.ensures.value, journal_end c.args.slots) in
    let observable_mid = observable_after _ _ _ c.loop-block.invariant.calls observable in
    Reaches-fault (IsApart 4097 total) _ _ _
    c.from_residual-in_err-clear_block.result c.from_residual-in_err-clear_block.ensures.0
    (Keeps-trans (IsApart 4097 total) _ _ _ (g.met.D.Disk.sound c.loop-block.disk observable_mid)
    (wider n total _ _ (omega arith) (c.loop-block.invariant.comes observable).keeps)
    (Keeps-weaken (IsApart (c.loop-block.block * 4096) 4096) (IsApart 4097 total) _ _
    (apart_within 4097 total n (c.loop-block.block * 4096) 4096 there fits)
    (c.clear_block.ensures.reaches observable_mid).keeps))

pub returns-in_err-clear_block-clause-makes : goal.returns-in_err-clear_block-clause-makes
returns-in_err-clear_block-clause-makes g c observable =
    let old = g.D.Disk.state c.args.disk.now in
    let mid = g.D.Disk.state c.loop-block.disk in
    let new = g.D.Disk.state c.clear_block.new.disk in
    let block = c.loop-block.block in
    let first = clear_writes 4097 4095 old.bytes in
    let here = clear_writes (block * 4096) 4096 mid.bytes in
    let two : 2 ≤ block = c.loop-block.auto.block in
    let all = mark_blocks c.args.slots + c.args.slots in
    let within : block + 1 - 2 ≤ all =
    omega (arith, c.loop-block-test.true, c.table_at.ensures.value, blocks_before_table c.args.slots) in
    let observable_mid = observable_after _ _ _ c.loop-block.invariant.calls observable in
    Makes-short old new c.clear_block.result _ (first + clear_block_writes (block - 2) old.bytes + here) (0 + 0)
    (erase_writes c.args.slots old.bytes) 1 c.from_residual-in_err-clear_block.ensures.0
    (omega (
      arith,
      up_to block old mid two (c.loop-block.invariant.comes observable).keeps,
      clear_blocks_part (block + 1 - 2) all old.bytes within,
    )) (omega arith)
    (Makes-then old mid new c.clear_block.result (first + clear_block_writes (block - 2) old.bytes) 0 here 0
    (c.loop-block.invariant.comes observable).made (c.clear_block.ensures.makes observable_mid))

pub loop-block-preserved : goal.loop-block-preserved
loop-block-preserved g c =
    let old = g.D.Disk.state c.args.disk.now in
    let mid = g.D.Disk.state c.loop-block.disk in
    let new = g.D.Disk.state c.clear_block.new.disk in
    let block = c.loop-block.block in
    let n = 4096 * block - 4097 in
    let two : 2 ≤ block = c.loop-block.auto.block in
    let there : block * 4096 ≡ 4097 + n = omega arith in
    let next : n + 4096 ≡ 4096 * (block + 1) - 4097 = omega arith in
    let observes = λ (observable : IsObservable old). observable_after _ _ _ c.loop-block.invariant.calls observable in
    let step = λ (observable : IsObservable old).
    erase_step 4097 (n + 4096) n (block * 4096) 4096 old mid new
    (g.met.D.Disk.sound c.loop-block.disk (observes observable)) there (omega arith)
    (wider n (n + 4096) old mid (omega arith) (c.loop-block.invariant.comes observable).keeps)
    (c.loop-block.invariant.comes observable).done (c.in_ok-clear_block.ensures.reaches (observes observable)) in
    record {
      calls = search rules;
      comes = λ observable.
          let first = clear_writes 4097 4095 old.bytes in
          let so_far = first + clear_block_writes (block - 2) old.bytes in
          let here = clear_writes (block * 4096) 4096 mid.bytes in
          record {
            keeps = subst (λ (m : ℕ). Keeps (IsApart 4097 m) old new) next (step observable).0;
            done = subst (λ (m : ℕ). IsZeroAt 4097 m new.bytes) next (step observable).1;
            made = Made-as old new (so_far + here) (0 + 0) (first + clear_block_writes (block + 1 - 2) old.bytes) 0
                (omega (arith, up_to block old mid two (c.loop-block.invariant.comes observable).keeps)) (omega arith)
                (Made-then old mid new _ so_far 0 here 0
                (c.loop-block.invariant.comes observable).made
                (c.in_ok-clear_block.ensures.makes (observes observable)));
          };
    }

pub returns-clause-reaches : goal.returns-clause-reaches
returns-clause-reaches g c observable =
    let total = journal_len c.args.slots - 1 in
    let observable_mid = observable_after _ _ _ c.loop-block.invariant.calls observable in
    let blocks = table_blocks c.args.slots in
    let end : 4096 * c.loop-block.block - 4097 ≡ total =
    omega (
      arith,
      c.loop-block-test.false,
      c.loop-block.auto.block-end,
      c.table_at.ensures.value,
      blocks,
      journal_end c.args.slots,
      shadow_end c.args.slots,
      marks_end c.args.slots,
    ) in
    Reaches-sync {U = Unit {0}} (IsApart 4097 total) (IsZeroAt 4097 total) _ _ _ tt c.sync.result observable_mid
    (g.met.D.Disk.sound c.loop-block.disk observable_mid)
    (record {
      keeps = subst (λ (m : ℕ). Keeps (IsApart 4097 m) (g.D.Disk.state c.args.disk.now)
          (g.D.Disk.state c.loop-block.disk)) end (c.loop-block.invariant.comes observable).keeps;
      done = subst (λ (m : ℕ). IsZeroAt 4097 m (g.D.Disk.state c.loop-block.disk).bytes) end
          (c.loop-block.invariant.comes observable).done;
    })
    c.sync.ensures

pub returns-clause-makes : goal.returns-clause-makes
returns-clause-makes g c observable =
    let old = g.D.Disk.state c.args.disk.now in
    let mid = g.D.Disk.state c.loop-block.disk in
    let all = mark_blocks c.args.slots + c.args.slots in
    let end : c.loop-block.block - 2 ≡ all =
    omega (
      arith,
      c.loop-block-test.false,
      c.loop-block.auto.block-end,
      c.table_at.ensures.value,
      blocks_before_table c.args.slots,
      shadow_end c.args.slots,
      marks_end c.args.slots,
    ) in
    let so_far = clear_writes 4097 4095 old.bytes + clear_block_writes (c.loop-block.block - 2) old.bytes in
    let observable_mid = observable_after _ _ _ c.loop-block.invariant.calls observable in
    Makes-as old _ c.sync.result (so_far + 0) (0 + 1) (erase_writes c.args.slots old.bytes) 1
    (omega (arith, ap (λ (n : ℕ). clear_block_writes n old.bytes) end)) (omega arith)
    (Makes-then old mid _ c.sync.result so_far 0 0 1
    (c.loop-block.invariant.comes observable).made (Makes-sync mid _ c.sync.result observable_mid c.sync.ensures))

pub returns-in_err-clear_flag_block-clause-call : goal.returns-in_err-clear_flag_block-clause-call
returns-in_err-clear_flag_block-clause-call g c =
    IsCall-fault _ _ _ c.from_residual.result c.from_residual.ensures.0 c.in_err-clear_flag_block.ensures.call

pub returns-in_err-clear_flag_block-clause-durable : goal.returns-in_err-clear_flag_block-clause-durable
returns-in_err-clear_flag_block-clause-durable g c observable =
    on_ok_fault c.from_residual.result _ c.from_residual.ensures.0

pub returns-in_err-clear_block-clause-call : goal.returns-in_err-clear_block-clause-call
returns-in_err-clear_block-clause-call g c =
    IsCall-fault _ _ _ c.from_residual-in_err-clear_block.result c.from_residual-in_err-clear_block.ensures.0
    (IsCall-then _ _ _ _ _ c.loop-block.invariant.calls c.in_err-clear_block.ensures.call)

pub returns-in_err-clear_block-clause-durable : goal.returns-in_err-clear_block-clause-durable
returns-in_err-clear_block-clause-durable g c observable =
    on_ok_fault c.from_residual-in_err-clear_block.result _ c.from_residual-in_err-clear_block.ensures.0

pub returns-clause-call : goal.returns-clause-call
returns-clause-call g c = IsCall-then _ _ _ _ _ c.loop-block.invariant.calls c.sync.ensures.call

pub returns-clause-durable : goal.returns-clause-durable
returns-clause-durable g c observable =
    durable-sync _ _ _ (observable_after _ _ _ c.loop-block.invariant.calls observable) c.sync.ensures
