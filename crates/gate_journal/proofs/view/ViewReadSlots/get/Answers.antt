use Rattle.std.proofs.Common.{◌≡◌, ℕ, ◌+◌, List, map, Some, refl, sym, ap, ◌∙◌, arith}
use Rattle.store_model.specs.Lists.{numbers_below}
use Rattle.store_model.specs.Images.{recovered_slot}
use Rattle.gate_journal.proofs.Slots.{get_number}
use Rattle.gate_journal.proofs.view.ViewReadSlots.get.Goals as goal

pub returns : goal.returns
returns g c =
    let slots = c.args.self.now.params.slots in
    let old = g.D.Disk.state c.args.self.now.disk in
    let new = g.D.Disk.state c.read_recovered.new.disk in
    record {
      call = record {
        calls = record {
          count = refl;
          observable = c.read_recovered.ensures.journal.calls.observable;
          takes_none = refl;
          faults = c.in_ok-read_recovered.ensures.journal.calls.faults;
          cause = tt;
        };
        observed = λ observable.
            let here : 0 + c.args.at ≡ c.args.at = omega arith in
            record {
              got =
                  get_number (recovered_slot slots old.bytes) 0 slots c.args.at c.requires
                  ∙ ap (λ (n : ℕ). Some (recovered_slot slots old.bytes n)) here
                  ∙ ap Some (sym (c.in_ok-read_recovered.ensures.slot observable
                  ∙ ap (λ (n : ℕ). recovered_slot n old.bytes c.args.at) c.slots.ensures.value));
              slots = ap (λ (l : List ℕ). map (recovered_slot slots l) (numbers_below slots))
                  (c.read_recovered.ensures.journal.reads observable).bytes;
            };
      };
      follows = record {
        params = refl;
        size = c.read_recovered.ensures.journal.calls.size;
        observable = c.read_recovered.ensures.journal.calls.observable;
        rise = c.read_recovered.ensures.journal.calls.rise;
        writes = c.read_recovered.ensures.journal.calls.writes;
        syncs = c.read_recovered.ensures.journal.calls.syncs;
        reads = c.read_recovered.ensures.journal.reads;
      };
    }
