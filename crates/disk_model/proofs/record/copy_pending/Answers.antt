use Rattle.std.proofs.Common.{◌≡◌, ◌+◌, ◌-◌, List, ℕ, length, take, drop, sym, ◌∙◌, ap, subst, arith, length-take}
use Rattle.std.proofs.Common.{length-drop}
use mathlib.Core.List.{reverse}
use Rattle.disk_model.specs.declared.record.Call.{Call}
use Rattle.disk_model.specs.declared.record.Call.TheVariants.{Write}
use Rattle.disk_model.specs.DiskCalls.{overwrite}
use Rattle.disk_model.specs.Record.{LieWithin}
use Rattle.disk_model.proofs.Images.{put_mid-overwrite}
use Rattle.disk_model.proofs.Copying.{CopiesSoFar, reverse-take, copying_write}
use Rattle.disk_model.proofs.record.copy_pending.Goals as goal

pub loop-left-preserved : goal.loop-left-preserved
loop-left-preserved c =
    let calls = c.args.calls.now in
    let source = c.args.source.now in
    let old = c.args.target.now in
    let now = c.loop-left.target in
    let left = c.loop-left.left in
    let at = c.in-Write.at in
    let len = c.in-Write.len in
    let earlier = reverse (take (left - 1) calls) in
    let inv = c.loop-left.invariant in
    let newest = reverse-take calls left (Write at len) (Write 0 0) c.loop-left-test.true inv.in_range c.in-Write.is in
    let within = subst (λ (rest : List Call). LieWithin (length old) rest) newest inv.within in
    let so_far = subst (λ (rest : List Call). CopiesSoFar (reverse calls) rest source old now) newest inv.so_far in
    let step = copying_write (reverse calls) earlier at len source old now c.requires.size within.0 so_far in
    let count : at + len - at ≡ len = omega arith in
    let part : c.copy_from_slice.new.self ≡ take len (drop at source) =
    c.copy_from_slice.ensures.after ∙ ap (λ (n : ℕ). take n (drop at source)) count in
    let lengths : length c.copy_from_slice.new.self ≡ at + len - at =
    omega (
      arith,
      ap length part,
      length-take len
          (drop at source),
      length-drop at source,
      within.0,
      c.requires.size,
    ) in
    let is = put_mid-overwrite at (at + len - at) now c.copy_from_slice.new.self lengths ∙ ap (overwrite now at) part in
    record {
      in_range = omega arith;
      within = within.1;
      so_far = subst (λ (bytes : List ℕ). CopiesSoFar (reverse calls) earlier source old bytes) (sym is) step;
    }
