use Rattle.std.proofs.Common.{rules, ◌≡◌, ℕ, ◌+◌, ◌-◌, ◌*◌, ◌≤◌, min, length, take, drop, sym, ap, ◌∙◌, subst, arith}
use Rattle.std.proofs.Common.{Result}
use Rattle.std.proofs.lemmas.List.{take-replicate, drop-replicate, length-replicate}
use Rattle.store_model.specs.Lists.{zeros}
use Rattle.disk_model.specs.DiskState.{DiskState, IsObservable}
use Rattle.disk_model.specs.DiskCalls.{IsWrite}
use Rattle.gate_journal.proofs.Faults.{IsCall-fault, on_ok_fault}
use Rattle.gate_journal.proofs.Calls.{IsCall-then, durable-sync, observable_after, Reaches-write, Reaches-fault}
use Rattle.gate_journal.proofs.Calls.{Reaches-sync, Made-then, Makes-write}
use Rattle.gate_journal.specs.Places.{IsApart, Keeps, Reaches, IsZeroAt}
use Rattle.gate_journal.proofs.Places.{Keeps-write, Keeps-trans, Keeps-weaken}
use Rattle.gate_journal.proofs.Reading.{apart_within, erase_step, zero_written}
use Rattle.gate_journal.proofs.wipe.wipe_rest.Goals as goal

-- a part of a block of zeros
part_zeros : (a b : ℕ) → b ≤ 4096 → take (b - a) (drop a (zeros 4096)) ≡ zeros (b - a)
part_zeros a b fits = ap (take (b - a)) (drop-replicate a 4096 0) ∙ take-replicate (b - a) (4096 - a) 0 (omega arith)

part_long : (a b : ℕ) → b ≤ 4096 → length (take (b - a) (drop a (zeros 4096))) ≡ b - a
part_long a b fits = ap length (part_zeros a b fits) ∙ length-replicate {A = ℕ} (b - a) 0

module _ {T E : Type 0} (mid new : DiskState) (result : Result T E) (observable : IsObservable mid) (from a b : ℕ)
    (fits : b ≤ 4096) (write : IsWrite mid new from (take (b - a) (drop a (zeros 4096))) result) where
  part_keeps : Keeps (IsApart from (b - a)) mid new
  part_keeps = Keeps-write (IsApart from (b - a)) mid new result observable from (take (b - a) (drop a (zeros 4096)))
      (λ place apart. subst (λ (n : ℕ). IsApart from n place) (sym (part_long a b fits)) apart) write

  part_reaches : from + (b - a) ≤ length mid.bytes
      → Reaches (IsApart from (b - a)) (IsZeroAt from (b - a)) mid new result
  part_reaches within =
      Reaches-write (IsApart from (b - a)) (IsZeroAt from (b - a)) mid new result observable from
      (take (b - a) (drop a (zeros 4096)))
      (λ place apart. subst (λ (n : ℕ). IsApart from n place) (sym (part_long a b fits)) apart) write
      (zero_written mid.bytes (take (b - a) (drop a (zeros 4096))) from (b - a) (part_zeros a b fits) within)

pub returns-in_err-write_at-clause-reaches : goal.returns-in_err-write_at-clause-reaches
returns-in_err-write_at-clause-reaches g c observable =
    let old = g.D.Disk.state c.args.disk.now in
    let mid = g.D.Disk.state c.loop-block.disk in
    let a = c.max-from.result - c.loop-block.block * 4096 in
    let b = c.min-end.result in
    let n = min (4096 * c.loop-block.block) old.size - 1 in
    let fits : b ≤ 4096 = omega (arith, c.min-end.ensures) in
    let there : c.max-from.result ≡ 1 + n =
    omega (
      arith,
      c.max-from.ensures,
      c.len-len.ensures,
      c.loop-block-test.true,
      c.div_ceil-block-end.ensures,
      c.requires,
    ) in
    let within : n + (b - a) ≤ old.size - 1 =
    omega (
      arith,
      there,
      c.max-from.ensures,
      c.min-end.ensures,
      c.len-len.ensures,
      c.loop-block-test.true,
      c.div_ceil-block-end.ensures,
      c.requires,
    ) in
    let observable_mid = observable_after _ _ _ c.loop-block.invariant.calls observable in
    Reaches-fault (IsApart 1 (old.size - 1)) _ old _ c.from_residual.result c.from_residual.ensures.0
    (Keeps-trans (IsApart 1 (old.size - 1)) old mid _ (g.met.D.Disk.sound c.loop-block.disk observable_mid)
    (c.loop-block.invariant.comes observable).keeps
    (Keeps-weaken (IsApart c.max-from.result (b - a)) (IsApart 1 (old.size - 1)) mid _
    (apart_within 1 (old.size - 1) n c.max-from.result (b - a) there within)
    (part_keeps mid _ c.write_at.result observable_mid c.max-from.result a b fits c.write_at.ensures)))

pub loop-block-preserved : goal.loop-block-preserved
loop-block-preserved g c =
    let old = g.D.Disk.state c.args.disk.now in
    let mid = g.D.Disk.state c.loop-block.disk in
    let new = g.D.Disk.state c.write_at.new.self in
    let a = c.max-from.result - c.loop-block.block * 4096 in
    let b = c.min-end.result in
    let n = min (4096 * c.loop-block.block) old.size - 1 in
    let fits : b ≤ 4096 = omega (arith, c.min-end.ensures) in
    let there : c.max-from.result ≡ 1 + n =
    omega (
      arith,
      c.max-from.ensures,
      c.len-len.ensures,
      c.loop-block-test.true,
      c.div_ceil-block-end.ensures,
      c.requires,
    ) in
    let next : n + (b - a) ≡ min (4096 * (c.loop-block.block + 1)) old.size - 1 =
    omega (
      arith,
      there,
      c.max-from.ensures,
      c.min-end.ensures,
      c.len-len.ensures,
      c.loop-block-test.true,
      c.div_ceil-block-end.ensures,
      c.requires,
    ) in
    let observes = λ (observable : IsObservable old). observable_after _ _ _ c.loop-block.invariant.calls observable in
    let step = λ (observable : IsObservable old).
    let sound = g.met.D.Disk.sound c.loop-block.disk (observes observable) in
    let within : c.max-from.result + (b - a) ≤ length mid.bytes =
    omega (arith, there, next, sound.size, c.loop-block.invariant.calls.size) in
    erase_step 1 (old.size - 1) n c.max-from.result (b - a) old mid new sound there (omega (arith, next))
    (c.loop-block.invariant.comes observable).keeps (c.loop-block.invariant.comes observable).done
    (part_reaches mid new _ (observes observable) c.max-from.result a b fits c.in_ok-write_at.ensures within) in
    record {
      calls = search rules;
      comes = λ observable. record {
        keeps = (step observable).0;
        done = subst (λ (m : ℕ). IsZeroAt 1 m new.bytes) next (step observable).1;
        made = Made-then old mid new _ c.loop-block.block 0 1 0
            (c.loop-block.invariant.comes observable).made
            (Makes-write mid new _ (observes observable) _ _ c.in_ok-write_at.ensures);
      };
    }

pub returns-clause-reaches : goal.returns-clause-reaches
returns-clause-reaches g c observable =
    let old = g.D.Disk.state c.args.disk.now in
    let mid = g.D.Disk.state c.loop-block.disk in
    let end : min (4096 * c.loop-block.block) old.size - 1 ≡ old.size - 1 =
    omega (arith, c.loop-block-test.false, c.div_ceil-block-end.ensures, c.len-len.ensures) in
    let observable_mid = observable_after _ _ _ c.loop-block.invariant.calls observable in
    Reaches-sync {U = Unit {0}} (IsApart 1 (old.size - 1))
    (IsZeroAt 1 (old.size - 1)) old mid _ tt c.sync.result observable_mid
    (g.met.D.Disk.sound c.loop-block.disk observable_mid)
    (record {
      keeps = (c.loop-block.invariant.comes observable).keeps;
      done = subst (λ (m : ℕ). IsZeroAt 1 m mid.bytes) end (c.loop-block.invariant.comes observable).done;
    })
    c.sync.ensures

pub returns-in_err-write_at-clause-call : goal.returns-in_err-write_at-clause-call
returns-in_err-write_at-clause-call g c =
    IsCall-fault _ _ _ c.from_residual.result c.from_residual.ensures.0
    (IsCall-then _ _ _ _ _ c.loop-block.invariant.calls c.in_err-write_at.ensures.call)

pub returns-in_err-write_at-clause-durable : goal.returns-in_err-write_at-clause-durable
returns-in_err-write_at-clause-durable g c observable =
    on_ok_fault c.from_residual.result _ c.from_residual.ensures.0

pub returns-clause-call : goal.returns-clause-call
returns-clause-call g c = IsCall-then _ _ _ _ _ c.loop-block.invariant.calls c.sync.ensures.call

pub returns-clause-durable : goal.returns-clause-durable
returns-clause-durable g c observable =
    durable-sync _ _ _ (observable_after _ _ _ c.loop-block.invariant.calls observable) c.sync.ensures
