use Rattle.std.proofs.Common.{◌≡◌, ◌≤◌, ℕ, ◌+◌, ◌*◌, ◌-◌, ◌++◌, length, drop, Some, slice_get, ap, sym, ◌∙◌, arith}
use Rattle.std.proofs.Common.{length-take}
use Rattle.store_model.specs.Images.{bytes_at}
use Rattle.store_base.proofs.SlotsCalls.{AreSlotCalls-value}
use Rattle.table_walk.proofs.Windowing.{part_kept, window_read}
use Rattle.table_walk.proofs.window.Window.load.Goals as goal

pub returns-clause-call : goal.returns-clause-call
returns-clause-call g c =
    let old = g.S.ReadSlots.state c.args.slots.now in
    let new = g.S.ReadSlots.state c.get_some.new.self in
    let buffer = c.get_some.new.into in
    let rest = drop c.min-len.result c.args.self.now.bytes in
    let get = c.in_ok-read.ensures.call in
    record {
      calls = AreSlotCalls-value old new c.in_ok-read.read tt get.calls;
      observed = λ observable.
          let effect = get.observed observable in
          let here : c.args.at ≡ c.args.at + 0 = omega arith in
          let first : 4096 * 0 + 4096 ≤ length buffer = omega (arith, get.some, get.room) in
          let from : 4096 * 0 ≡ 4096 * (c.args.at - c.args.at) = omega arith in
          record {
            got = ap (slice_get old.slots) here ∙ effect.got 0 (omega (arith, get.some))
                ∙ ap Some (sym (part_kept buffer rest (4096 * 0) first)
                ∙ ap (λ (n : ℕ). bytes_at (buffer ++ rest) n 4096) from);
            slots = effect.slots;
          };
    }

pub returns-clause-window : goal.returns-clause-window
returns-clause-window g c =
    window_read (g.S.ReadSlots.state c.args.slots.now) (g.S.ReadSlots.state c.get_some.new.self) c.args.at
    c.in_ok-read.read c.get_some.new.into _ (omega (
      arith,
      c.get_some.auto.into,
      length-take c.min-len.result c.args.self.now.bytes,
      c.min-len.ensures,
    )) c.in_ok-read.ensures.call
