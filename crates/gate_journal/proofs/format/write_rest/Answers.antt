use Rattle.std.proofs.Common.{◌≡◌, ℕ, ◌+◌, ◌-◌, ◌*◌, ◌/◌, ◌<◌, ◌≤◌, List, length, take, drop, slice_index, sym, ap}
use Rattle.std.proofs.Common.{◌∙◌, subst, inl, refl, arith, rules, length-take, length-drop, Result, Ok}
use Rattle.std.proofs.lemmas.List.{length-replicate}
use Rattle.store_model.specs.Lists.{zeros}
use Rattle.store_model.specs.Parameters.{Parameters, image_len}
use Rattle.store_model.specs.Images.{header}
use Rattle.disk_model.specs.DiskState.{DiskState, IsObservable, IsSound}
use Rattle.disk_model.specs.DiskCalls.{IsWrite}
use Rattle.gate_journal.proofs.Faults.{IsCall-fault, on_ok_fault}
use Rattle.gate_journal.proofs.Calls.{IsCall-then, durable-sync, observable_after, Reaches-fault, Reaches-sync}
use Rattle.gate_journal.proofs.Calls.{Made-none, Made-then, Made-as, Makes-write, Makes-sync, Makes-then, Makes-as}
use Rattle.gate_journal.proofs.Calls.{Makes-short}
use Rattle.gate_journal.specs.Places.{IsApart, Keeps, IsZeroAt}
use Rattle.gate_journal.specs.Formats.{HasEmptyRest}
use Rattle.gate_journal.proofs.Areas.{marks_end, shadow_end, table_end, image_blocks}
use Rattle.gate_journal.proofs.Places.{Keeps-write, Keeps-trans}
use Rattle.gate_journal.proofs.Reading.{apart_within, zero_written, zero_kept, zero_more}
use Rattle.gate_journal.proofs.Formatting.{header_written}
use Rattle.gate_journal.proofs.format.write_rest.Goals as goal

-- an image is longer than its header
long_image : (slots : ℕ) → 8192 ≤ image_len slots
long_image slots = omega (arith, table_end slots, shadow_end slots, marks_end slots)

part_long : (block : List ℕ) → length block ≡ 4096 → length (take 4095 (drop 1 block)) ≡ 4095
part_long block long = omega (arith, length-take 4095 (drop 1 block), length-drop 1 block, long)

-- a write within the area keeps what is beside it
within : {T E : Type 0} (total at : ℕ) (bytes : List ℕ) (old new : DiskState) (result : Result T E) → IsObservable old
    → 1 ≤ at → at + length bytes ≤ 1 + total → IsWrite old new at bytes result → Keeps (IsApart 1 total) old new
within total at bytes old new result observable low high write =
    let there : at ≡ 1 + (at - 1) = omega arith in
    Keeps-write (IsApart 1 total) old new result observable at bytes
    (apart_within 1 total (at - 1) at (length bytes) there (omega arith)) write

pub write_at-requires : goal.write_at-requires
write_at-requires g c =
    omega (
      arith,
      length-take 4095 (drop 1 c.write_header.new.block),
      length-drop 1 c.write_header.new.block,
      c.requires,
      long_image c.args.params.now.slots,
    )

pub returns-in_err-write_at-clause-reaches : goal.returns-in_err-write_at-clause-reaches
returns-in_err-write_at-clause-reaches g c observable =
    let total = image_len c.args.params.now.slots - 1 in
    let part = part_long c.write_header.new.block c.write_header.array_long in
    Reaches-fault (IsApart 1 total) _ _ _ c.from_residual.result c.from_residual.ensures.0
    (within total 1 (take 4095 (drop 1 c.write_header.new.block)) _ _ _ observable (omega arith)
    (omega (arith, part, long_image c.args.params.now.slots)) c.write_at.ensures)

pub loop-block-init : goal.loop-block-init
loop-block-init g c =
    let p = c.args.params.now in
    let total = image_len p.slots - 1 in
    let block = c.write_header.new.block in
    let part = part_long block c.write_header.array_long in
    record {
      calls = search rules;
      keeps = λ observable. within total 1 (take 4095 (drop 1 block)) _ _ _ observable (omega arith)
          (omega (arith, part, long_image p.slots)) c.write_at.ensures;
      header_is = λ observable place low high.
          let old = (g.D.Disk.state c.args.disk.now).bytes in
          let within_old : 4096 ≤ length old =
          omega (arith, (g.met.D.Disk.sound c.args.disk.now observable).size, c.requires, long_image p.slots) in
          ap (λ (l : List ℕ). slice_index l place) (c.in_ok-write_at.ensures.observed observable).written
          ∙ header_written block old c.write_header.array_long within_old place low high
          ∙ ap (λ (l : List ℕ). slice_index l place) c.write_header.ensures;
      zero = λ observable place low high. absurd (omega arith);
      made = λ observable.
          let old = g.D.Disk.state c.args.disk.now in
          let new = g.D.Disk.state c.write_at.new.self in
          Made-as old new (0 + 1) (0 + 0) 1 0 (omega arith) (omega arith)
          (Made-then old old new _ 0 0 1 0 (Made-none old)
          (Makes-write old new _ observable _ _ c.in_ok-write_at.ensures));
    }

-- a block of zeros more
module _ {E : Type 0} (p : Parameters) (block : ℕ) (old mid new : DiskState) (size : mid.size ≡ image_len p.slots)
    (observable : IsObservable mid) (sound : IsSound mid) (first : 1 ≤ block) (below : block < image_len p.slots / 4096)
    (write : IsWrite {T = Unit {0}} {E = E} mid new (block * 4096) (zeros 4096) (Ok tt)) where
  block_keeps : Keeps (IsApart 1 (image_len p.slots - 1)) old mid → Keeps (IsApart 1 (image_len p.slots - 1)) old new
  block_keeps keeps =
      let total = image_len p.slots - 1 in
      let whole : length (zeros 4096) ≡ 4096 = length-replicate {A = ℕ} 4096 0 in
      Keeps-trans (IsApart 1 total) old mid new sound keeps
      (within total (block * 4096) (zeros 4096) mid new (Ok tt) observable (omega arith)
      (omega (arith, whole, image_blocks p.slots, long_image p.slots)) write)

  block_apart : Keeps (IsApart (block * 4096) 4096) mid new
  block_apart =
      let whole : length (zeros 4096) ≡ 4096 = length-replicate {A = ℕ} 4096 0 in
      Keeps-write (IsApart (block * 4096) 4096) mid new (Ok tt) observable (block * 4096) (zeros 4096)
      (λ place apart. subst (λ (n : ℕ). IsApart (block * 4096) n place) (sym whole) apart) write

  block_zero : IsZeroAt 4096 (4096 * (block - 1)) mid.bytes → IsZeroAt 4096 (4096 * (block + 1 - 1)) new.bytes
  block_zero zero =
      let here : 4096 + 4096 * (block - 1) ≡ block * 4096 = omega arith in
      let next : 4096 * (block - 1) + 4096 ≡ 4096 * (block + 1 - 1) = omega arith in
      let fits : block * 4096 + 4096 ≤ length mid.bytes = omega (arith, sound.size, size, image_blocks p.slots) in
      let written : IsZeroAt (block * 4096) 4096 new.bytes =
      subst (IsZeroAt (block * 4096) 4096) (sym (write.observed observable).written)
      (zero_written mid.bytes (zeros 4096) (block * 4096) 4096 refl fits) in
      subst (λ (n : ℕ). IsZeroAt 4096 n new.bytes) next
      (zero_more new.bytes 4096 (4096 * (block - 1)) 4096
      (zero_kept (IsApart (block * 4096) 4096) 4096
      (4096 * (block - 1)) mid.bytes new.bytes (λ place low high. inl (omega arith)) block_apart.reads zero)
      (subst (λ (n : ℕ). IsZeroAt n 4096 new.bytes) (sym here) written))

  block_header : ((place : ℕ) → 1 ≤ place → place < 4096 → slice_index mid.bytes place ≡ slice_index (header p) place)
      → (place : ℕ) → 1 ≤ place → place < 4096 → slice_index new.bytes place ≡ slice_index (header p) place
  block_header same place low high = block_apart.reads.same place (inl (omega arith)) ∙ same place low high

pub loop-block-preserved : goal.loop-block-preserved
loop-block-preserved g c =
    let p = c.args.params.now in
    let old = g.D.Disk.state c.args.disk.now in
    let mid = g.D.Disk.state c.loop-block.disk in
    let new = g.D.Disk.state c.write_at-in-loop-block.new.self in
    let size = c.loop-block.invariant.calls.size ∙ c.requires in
    let below : c.loop-block.block < image_len p.slots / 4096 =
    (let end_is : c.image_len.result ≡ image_len p.slots = c.image_len.ensures ∙ ap image_len c.slots.ensures.value
    in omega (arith, c.loop-block-test.true)) in
    let first : 1 ≤ c.loop-block.block = c.loop-block.auto.block in
    record {
      calls = search rules;
      keeps = λ observable.
          let observable_mid = observable_after _ _ _ c.loop-block.invariant.calls observable in
          block_keeps p c.loop-block.block old mid new size observable_mid
          (g.met.D.Disk.sound c.loop-block.disk observable_mid) first below
          c.in_ok-write_at-2.ensures (c.loop-block.invariant.keeps observable);
      header_is = λ observable.
          let observable_mid = observable_after _ _ _ c.loop-block.invariant.calls observable in
          block_header p c.loop-block.block old mid new size observable_mid
          (g.met.D.Disk.sound c.loop-block.disk observable_mid) first below
          c.in_ok-write_at-2.ensures (c.loop-block.invariant.header_is observable);
      zero = λ observable.
          let observable_mid = observable_after _ _ _ c.loop-block.invariant.calls observable in
          block_zero p c.loop-block.block old mid new size observable_mid
          (g.met.D.Disk.sound c.loop-block.disk observable_mid) first below
          c.in_ok-write_at-2.ensures (c.loop-block.invariant.zero observable);
      made = λ observable.
          let observable_mid = observable_after _ _ _ c.loop-block.invariant.calls observable in
          Made-then old mid new _ c.loop-block.block 0 1 0 (c.loop-block.invariant.made observable)
          (Makes-write mid new _ observable_mid _ _ c.in_ok-write_at-2.ensures);
    }

pub returns-in_err-write_at-2-clause-makes : goal.returns-in_err-write_at-2-clause-makes
returns-in_err-write_at-2-clause-makes g c observable =
    let p = c.args.params.now in
    let old = g.D.Disk.state c.args.disk.now in
    let mid = g.D.Disk.state c.loop-block.disk in
    let new = g.D.Disk.state c.write_at-in-loop-block.new.self in
    let end_is : c.image_len.result ≡ image_len p.slots = c.image_len.ensures ∙ ap image_len c.slots.ensures.value in
    let below : c.loop-block.block < image_len p.slots / 4096 = omega (arith, c.loop-block-test.true, end_is) in
    let observable_mid = observable_after _ _ _ c.loop-block.invariant.calls observable in
    Makes-short old new c.write_at-in-loop-block.result _ (c.loop-block.block + 1) (0 + 0)
    (image_len p.slots / 4096) 1 c.from_residual-in_err-write_at-2.ensures.0 (omega (arith, below)) (omega arith)
    (Makes-then old mid new c.write_at-in-loop-block.result c.loop-block.block 0 1 0
    (c.loop-block.invariant.made observable)
    (Makes-write mid new c.write_at-in-loop-block.result observable_mid _ _ c.write_at-in-loop-block.ensures))

pub returns-in_err-write_at-clause-makes : goal.returns-in_err-write_at-clause-makes
returns-in_err-write_at-clause-makes g c observable =
    let old = g.D.Disk.state c.args.disk.now in
    let new = g.D.Disk.state c.write_at.new.self in
    Makes-short old new c.write_at.result _ 1 0 (image_len c.args.params.now.slots / 4096) 1
    c.from_residual.ensures.0 (omega (arith, long_image c.args.params.now.slots)) (omega arith)
    (Makes-write old new c.write_at.result observable _ _ c.write_at.ensures)

pub returns-clause-makes : goal.returns-clause-makes
returns-clause-makes g c observable =
    let p = c.args.params.now in
    let old = g.D.Disk.state c.args.disk.now in
    let mid = g.D.Disk.state c.loop-block.disk in
    let end_is : c.image_len.result ≡ image_len p.slots = c.image_len.ensures ∙ ap image_len c.slots.ensures.value in
    let end : c.loop-block.block ≡ image_len p.slots / 4096 =
    omega (arith, c.loop-block-test.false, c.loop-block.auto.block-end, end_is, long_image p.slots) in
    let observable_mid = observable_after _ _ _ c.loop-block.invariant.calls observable in
    Makes-as old _ c.sync.result (c.loop-block.block + 0) (0 + 1) (image_len p.slots / 4096) 1
    (omega (arith, end)) (omega arith)
    (Makes-then old mid _ c.sync.result c.loop-block.block 0 0 1 (c.loop-block.invariant.made observable)
    (Makes-sync mid _ c.sync.result observable_mid c.sync.ensures))

pub returns-in_err-write_at-2-clause-reaches : goal.returns-in_err-write_at-2-clause-reaches
returns-in_err-write_at-2-clause-reaches g c observable =
    let p = c.args.params.now in
    let total = image_len p.slots - 1 in
    let whole : length (zeros 4096) ≡ 4096 = length-replicate {A = ℕ} 4096 0 in
    let below : c.loop-block.block < image_len p.slots / 4096 =
    (let end_is : c.image_len.result ≡ image_len p.slots = c.image_len.ensures ∙ ap image_len c.slots.ensures.value
    in omega (arith, c.loop-block-test.true)) in
    let first : 1 ≤ c.loop-block.block = c.loop-block.auto.block in
    let observable_mid = observable_after _ _ _ c.loop-block.invariant.calls observable in
    Reaches-fault (IsApart 1 total) _ _ _
    c.from_residual-in_err-write_at-2.result c.from_residual-in_err-write_at-2.ensures.0
    (Keeps-trans (IsApart 1 total) _ _ _ (g.met.D.Disk.sound c.loop-block.disk observable_mid)
    (c.loop-block.invariant.keeps observable)
    (within total (c.loop-block.block * 4096) (zeros 4096) _ _ _ observable_mid (omega arith)
    (omega (arith, whole, below, image_blocks p.slots, long_image p.slots)) c.write_at-in-loop-block.ensures))

pub returns-clause-reaches : goal.returns-clause-reaches
returns-clause-reaches g c observable =
    let p = c.args.params.now in
    let total = image_len p.slots - 1 in
    let observable_mid = observable_after _ _ _ c.loop-block.invariant.calls observable in
    let end : 4096 * (c.loop-block.block - 1) ≡ image_len p.slots - 4096 =
    (let end_is : c.image_len.result ≡ image_len p.slots = c.image_len.ensures ∙ ap image_len c.slots.ensures.value
    in omega (
      arith,
      c.loop-block-test.false,
      c.loop-block.auto.block-end,
      image_blocks p.slots,
      long_image p.slots,
    )) in
    Reaches-sync {U = Unit {0}} (IsApart 1 total) (HasEmptyRest p) _ _ _ tt c.sync.result observable_mid
    (g.met.D.Disk.sound c.loop-block.disk observable_mid)
    (record {
      keeps = c.loop-block.invariant.keeps observable;
      done = record {
        header_is = c.loop-block.invariant.header_is observable;
        rest_is = subst (λ (n : ℕ). IsZeroAt 4096 n (g.D.Disk.state c.loop-block.disk).bytes) end
            (c.loop-block.invariant.zero observable);
      };
    })
    c.sync.ensures

pub returns-in_err-write_at-clause-call : goal.returns-in_err-write_at-clause-call
returns-in_err-write_at-clause-call g c =
    IsCall-fault _ _ _ c.from_residual.result c.from_residual.ensures.0 c.in_err-write_at.ensures.call

pub returns-in_err-write_at-clause-durable : goal.returns-in_err-write_at-clause-durable
returns-in_err-write_at-clause-durable g c observable =
    on_ok_fault c.from_residual.result _ c.from_residual.ensures.0

pub returns-in_err-write_at-2-clause-call : goal.returns-in_err-write_at-2-clause-call
returns-in_err-write_at-2-clause-call g c =
    IsCall-fault _ _ _ c.from_residual-in_err-write_at-2.result c.from_residual-in_err-write_at-2.ensures.0
    (IsCall-then _ _ _ _ _ c.loop-block.invariant.calls c.in_err-write_at-2.ensures.call)

pub returns-in_err-write_at-2-clause-durable : goal.returns-in_err-write_at-2-clause-durable
returns-in_err-write_at-2-clause-durable g c observable =
    on_ok_fault c.from_residual-in_err-write_at-2.result _ c.from_residual-in_err-write_at-2.ensures.0

pub returns-clause-call : goal.returns-clause-call
returns-clause-call g c = IsCall-then _ _ _ _ _ c.loop-block.invariant.calls c.sync.ensures.call

pub returns-clause-durable : goal.returns-clause-durable
returns-clause-durable g c observable =
    durable-sync _ _ _ (observable_after _ _ _ c.loop-block.invariant.calls observable) c.sync.ensures
