use Rattle.std.proofs.Common.{rules, ◌≡◌, ℕ, ◌+◌, ◌-◌, ◌*◌, min, List, ◌++◌, length, take, drop, sym, ap, ◌∙◌, subst}
use Rattle.std.proofs.Common.{arith, length-take, length-drop}
use Rattle.std.proofs.lemmas.List.{take_min}
use Rattle.sha2.specs.Hashers.{Holds256}
use Rattle.disk_model.specs.DiskState.{IsObservable}
use Rattle.gate_journal.proofs.Faults.{if_ok_fault}
use Rattle.gate_journal.proofs.Calls.{AreCalls-one, AreCalls-then, AreCalls-fault, AreCalls-answered}
use Rattle.gate_journal.proofs.Calls.{observable_after}
use Rattle.gate_journal.proofs.Reading.{ReadsOnly-read, ReadsOnly-trans}
use Rattle.gate_journal.proofs.Slots.{take_split}
use Rattle.gate_journal.proofs.digest.digest_disk.Goals as goal

-- the blocks so far, and the part that was read
block_more : (image mid part : List ℕ) (block at : ℕ) → mid ≡ image → at ≡ 4096 * block
    → part ≡ take (length part) (drop at mid) → length part ≡ min 4096 (length image - 4096 * block)
    → take (4096 * block) image ++ part ≡ take (4096 * (block + 1)) image
block_more image mid part block at same there read long =
    let rest = drop (4096 * block) image in
    let next : 4096 * block + 4096 ≡ 4096 * (block + 1) = omega arith in
    let most : length part ≡ min 4096 (length rest) = omega (arith, long, length-drop (4096 * block) image) in
    let here : part ≡ take 4096 rest =
    read ∙ ap (λ (l : List ℕ). take (length part) (drop at l)) same
    ∙ ap (λ (n : ℕ). take (length part) (drop n image)) there ∙ ap (λ (n : ℕ). take n rest) most
    ∙ take_min 4096 rest in
    ap (λ (l : List ℕ). take (4096 * block) image ++ l) here ∙ sym (take_split (4096 * block) 4096 image)
    ∙ ap (λ (n : ℕ). take n image) next

pub loop-block-preserved : goal.loop-block-preserved
loop-block-preserved g c =
    let old = g.D.Disk.state c.args.disk.now in
    let mid = g.D.Disk.state c.loop-block.disk in
    let new = g.D.Disk.state c.read_at.new.self in
    let block = c.loop-block.block in
    let observes = λ (observable : IsObservable old). observable_after _ _ _ c.loop-block.invariant.calls observable in
    record {
      calls = search rules;
      reads = λ observable. ReadsOnly-trans old mid new (c.loop-block.invariant.reads observable)
          (ReadsOnly-read mid new _ _ _ (observes observable) c.read_at.ensures);
      holds = λ observable.
          let there : block * 4096 ≡ 4096 * block = omega arith in
          let long : length c.read_at.new.into ≡ min 4096 (length old.bytes - 4096 * block) =
          omega (
            arith,
            c.read_at.auto.into,
            length-take c.min.result c.loop-block.buffer,
            c.min.array_long,
            c.min.ensures,
            c.len-len.ensures,
            (g.met.D.Disk.sound c.args.disk.now observable).size,
            c.loop-block-test.true,
            c.div_ceil-block-end.ensures,
          ) in
          subst (Holds256 c.update.new.self)
          (block_more old.bytes mid.bytes c.read_at.new.into block (block * 4096)
          (c.loop-block.invariant.reads observable).bytes there
          (c.in_ok-read_at.ensures.observed (observes observable)).read long)
          (c.update.ensures (take (4096 * block) old.bytes) (c.loop-block.invariant.holds observable));
    }

pub returns-in_err-read_at-clause-calls : goal.returns-in_err-read_at-clause-calls
returns-in_err-read_at-clause-calls g c =
    AreCalls-fault _ _ _ c.from_residual.result c.from_residual.ensures.0
    (AreCalls-then _ _ _ _ _ c.loop-block.invariant.calls (AreCalls-one _ _ _ c.in_err-read_at.ensures.call))

pub returns-in_err-read_at-clause-reads : goal.returns-in_err-read_at-clause-reads
returns-in_err-read_at-clause-reads g c observable =
    let observable_mid = observable_after _ _ _ c.loop-block.invariant.calls observable in
    ReadsOnly-trans _ _ _ (c.loop-block.invariant.reads observable)
    (ReadsOnly-read _ _ _ _ _ observable_mid c.read_at.ensures)

pub returns-in_err-read_at-clause-digest : goal.returns-in_err-read_at-clause-digest
returns-in_err-read_at-clause-digest g c observable =
    if_ok_fault c.from_residual.result _ c.from_residual.ensures.0

pub returns-clause-calls : goal.returns-clause-calls
returns-clause-calls g c = AreCalls-answered _ _ _ _ c.loop-block.invariant.calls

pub returns-clause-reads : goal.returns-clause-reads
returns-clause-reads g c = c.loop-block.invariant.reads
