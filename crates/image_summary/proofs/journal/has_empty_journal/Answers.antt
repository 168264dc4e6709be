use Rattle.std.proofs.Common.{rules, ◌≡◌, ℕ, ◌+◌, ◌*◌, ◌≤◌, List, length, take, drop, true, sym, ap, ◌∙◌, arith}
use Rattle.std.proofs.lemmas.Bool.{false≢true}
use Rattle.std.proofs.lemmas.List.{length-replicate}
use Rattle.store_model.specs.Lists.{zeros}
use Rattle.store_model.specs.Parameters.{table_at, image_len}
use Rattle.disk_model.specs.DiskState.{IsObservable}
use Rattle.gate_journal.proofs.Areas.{table_blocks}
use Rattle.gate_journal.proofs.Calls.{observable_after}
use Rattle.gate_journal.proofs.Reading.{ReadsOnly-read, ReadsOnly-trans}
use Rattle.image_summary.proofs.Zeros.{zero_is, one_more, block_is_zero}
use Rattle.image_summary.proofs.journal.has_empty_journal.Goals as goal

-- what was read of a block, where it has a block's length
read_here : (image mid part : List ℕ) (at n : ℕ) → mid ≡ image → length part ≡ n
    → part ≡ take (length part) (drop at mid) → part ≡ take n (drop at image)
read_here image mid part at n same long read =
    read ∙ ap (λ (l : List ℕ). take (length part) (drop at l)) same
    ∙ ap (λ (m : ℕ). take m (drop at image)) long

pub loop-block-preserved : goal.loop-block-preserved
loop-block-preserved g c =
    let old = g.D.Disk.state c.args.disk.now in
    let mid = g.D.Disk.state c.loop-block.disk in
    let new = g.D.Disk.state c.read_at.new.self in
    let block = c.loop-block.block in
    let observes = λ (observable : IsObservable old). observable_after _ _ _ c.loop-block.invariant.calls observable in
    record {
      calls = search rules;
      reads = λ observable. ReadsOnly-trans old mid new (c.loop-block.invariant.reads observable)
          (ReadsOnly-read mid new _ _ _ (observes observable) c.read_at.ensures);
      holds = λ observable.
          let zero : c.read_at.new.into ≡ zeros 4096 =
          c.is_zero.ensures.0 c.if-not-is_zero.false ∙ zero_is in
          let long : length c.read_at.new.into ≡ 4096 =
          ap (λ (l : List ℕ). length l) zero ∙ length-replicate {A = ℕ} 4096 0 in
          one_more old.bytes c.read_at.new.into block (block * 4096)
          (c.loop-block.invariant.holds observable) (omega arith)
          (read_here old.bytes mid.bytes c.read_at.new.into (block * 4096) 4096
          (c.loop-block.invariant.reads observable).bytes long
          (c.in_ok-read_at.ensures.observed (observes observable)).read) zero;
    }

pub returns-then-not-is_zero-clause-empty : goal.returns-then-not-is_zero-clause-empty
returns-then-not-is_zero-clause-empty g c observable =
    let old = g.D.Disk.state c.args.disk.now in
    let mid = g.D.Disk.state c.loop-block.disk in
    let block = c.loop-block.block in
    let slots = c.args.params.now.slots in
    let here = observable_after _ _ _ c.loop-block.invariant.calls observable in
    let size : length old.bytes ≡ image_len slots =
    (g.met.D.Disk.sound c.args.disk.now observable).size ∙ c.requires in
    let within : block * 4096 + 4096 ≤ table_at slots 0 =
    omega (
      arith,
      c.loop-block-test.true,
      table_blocks slots,
      c.table_at.ensures.value,
      ap (λ (n : ℕ). table_at n 0)
          c.slots.ensures.value,
    ) in
    let long : length c.read_at.new.into ≡ 4096 = omega (arith, c.read_at.auto.into) in (
      λ is. absurd (false≢true is),
      λ empty. absurd (false≢true (sym c.if-not-is_zero.true ∙ c.is_zero.ensures.1
          (block_is_zero slots old.bytes c.read_at.new.into block (block * 4096) size empty
          (omega (arith, c.loop-block.auto.block)) (omega arith) within
          (read_here old.bytes mid.bytes c.read_at.new.into (block * 4096) 4096
          (c.loop-block.invariant.reads observable).bytes long
          (c.in_ok-read_at.ensures.observed here).read) ∙ sym zero_is))),
    )

pub returns-clause-empty : goal.returns-clause-empty
returns-clause-empty g c observable =
    let slots = c.args.params.now.slots in (
      λ is place low high. c.loop-block.invariant.holds observable place low
          (omega (
            arith,
            high,
            c.loop-block-test.false,
            table_blocks slots,
            c.table_at.ensures.value,
            ap
                (λ (n : ℕ). table_at n 0) c.slots.ensures.value,
          )),
      λ empty. λ i. true,
    )
