use Rattle.std.proofs.Common.{◌≡◌, ℕ, ◌+◌, ◌*◌, ◌++◌, length, take, drop, Some, slice_get, sym, ap, ◌∙◌, arith}
use Rattle.std.proofs.lemmas.List.{length-take-le, length-append, take_at}
use Rattle.store_base.proofs.SlotsCalls.{AreSlotCalls-value}
use Rattle.store_base.proofs.slots.ReadSlots.get_some.Goals as goal

pub copy_from_slice-requires : goal.copy_from_slice-requires
copy_from_slice-requires g c = length-take-le 4096 c.args.into.now c.requires.room ∙ sym c.get.array_long

pub returns-clause-call : goal.returns-clause-call
returns-clause-call g c =
    let old = g.Self.ReadSlots.state c.args.self.now in
    let slot = c.get.new.into in
    let copied = c.copy_from_slice.new.self in
    let rest = drop 4096 c.args.into.now in
    let long : length copied ≡ 4096 = c.copy_from_slice.ensures.len
    ∙ length-take-le 4096 c.args.into.now c.requires.room in
    record {
      calls = AreSlotCalls-value old (g.Self.ReadSlots.state c.get.new.self) tt 1 c.in_ok-get.ensures.call.calls;
      some = omega arith;
      room = omega (arith, long, length-append copied rest);
      observed = λ observable. record {
        got = λ i below.
            let first : c.args.at ≡ c.args.at + i = omega (arith, below) in
            let from : 0 ≡ 4096 * i = omega (arith, below) in
            ap (λ n. slice_get old.slots n) (sym first)
            ∙ (c.in_ok-get.ensures.call.observed observable).got
            ∙ ap Some (sym c.copy_from_slice.ensures.after ∙ sym (take_at copied rest 4096 long)
            ∙ ap (λ (n : ℕ). take 4096 (drop n (copied ++ rest))) from);
        slots = (c.in_ok-get.ensures.call.observed observable).slots;
      };
    }
