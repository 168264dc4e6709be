use Rattle.std.proofs.Common.{◌≡◌, ℕ, ◌+◌, ◌<◌, List, map, Some, refl, sym, ap, ◌∙◌, arith}
use Rattle.store_model.specs.Lists.{numbers_below}
use Rattle.store_model.specs.Images.{recovered_slot}
use Rattle.gate_journal.proofs.Slots.{get_number}
use Rattle.gate_journal.proofs.view.ViewReadSlots.get_some.Goals as goal

pub returns-clause-call : goal.returns-clause-call
returns-clause-call g c =
    let slots = c.args.self.now.params.slots in
    let old = g.D.Disk.state c.args.self.now.disk in
    record {
      calls = record {
        count = refl;
        observable = c.read_some.ensures.journal.calls.observable;
        takes_none = refl;
        faults = c.in_ok-read_some.ensures.journal.calls.faults;
        cause = tt;
      };
      some = c.in_ok-read_some.ensures.some;
      room = c.in_ok-read_some.ensures.room;
      observed = λ observable. record {
        got = λ i below.
            let within : c.args.at + i < slots =
            omega (arith, below, c.in_ok-read_some.ensures.room, c.read_some.auto.into, c.requires.within) in
            let here : 0 + (c.args.at + i) ≡ c.args.at + i = omega arith in
            get_number (recovered_slot slots old.bytes) 0 slots (c.args.at + i) within
            ∙ ap (λ (n : ℕ). Some (recovered_slot slots old.bytes n)) here
            ∙ ap Some (ap (λ (n : ℕ). recovered_slot n old.bytes (c.args.at + i)) (sym c.slots.ensures.value)
            ∙ c.in_ok-read_some.ensures.slots observable i below);
        slots = ap (λ (l : List ℕ). map (recovered_slot slots l) (numbers_below slots))
            (c.read_some.ensures.journal.reads observable).bytes;
      };
    }
