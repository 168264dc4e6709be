use Rattle.std.proofs.Common.{◌≡◌, ℕ, ◌<◌, List, take, ◌&&◌, sym, ap, ◌∙◌, arith}
use Rattle.std.proofs.lemmas.Option.{IfSome_then}
use Rattle.store_model.specs.Parameters as model
use Rattle.store_model.specs.Images.{is_flag_set, is_marked}
use Rattle.disk_model.specs.DiskState.{IsObservable}
use Rattle.disk_model.proofs.Crashes.{IsObservable-call}
use Rattle.gate_journal.proofs.Calls.{AreCalls-none, AreCalls-one, AreCalls-answered, AreCalls-then}
use Rattle.gate_journal.proofs.Reading.{ReadsOnly-refl, ReadsOnly-read, ReadsOnly-trans}
use Rattle.gate_journal.proofs.Viewing.{header_end, slots_named, named_by_header, header_found, header_read}
use Rattle.gate_journal.proofs.header.read_viewed.Goals as goal
use Rattle.gate_journal.proofs.header.read_viewed.Goals.{then-slots-eq0-via-then-slots-eq0}
use Rattle.gate_journal.proofs.header.read_viewed.Goals.{then-slots-eq0-via-else-slots-eq0+then-slots-gt-MAX_SLOTS}
use Rattle.gate_journal.proofs.header.read_viewed.Goals.{then-slots-eq0-via-else-slots-eq0+else-slots-gt-MAX_SLOTS+then-len-image_len}

pub returns-then-len-lt-HEADER : goal.returns-then-len-lt-HEADER
returns-then-len-lt-HEADER g c =
    let disk = g.D.Disk.state c.args.disk.now in
    record {
      views = record {
        calls = AreCalls-none disk _;
        reads = λ observable. ReadsOnly-refl disk (g.met.D.Disk.sound c.args.disk.now observable);
        found = tt;
        only = λ observable p has.
            let sound = (g.met.D.Disk.sound c.args.disk.now observable).size in
            let short : c.len-len.result < 4096 = c.if-len-lt-HEADER.true in
            absurd (omega (arith, has.length_is, sound, c.len-len.ensures, short, header_end p.slots));
      };
    }

pub returns-then-slots-eq0 : goal.returns-then-slots-eq0
returns-then-slots-eq0 g c =
    let old = g.D.Disk.state c.args.disk.now in
    let new = g.D.Disk.state c.read_at.new.self in
    let block : List ℕ = c.read_at.new.into in
    record {
      views = record {
        calls = AreCalls-answered old new _ _ (AreCalls-one old new _ c.in_ok-read_at.ensures.call);
        reads = λ observable. ReadsOnly-read old new _ _ _ observable c.in_ok-read_at.ensures;
        found = tt;
        only = λ observable p has.
            let read : block ≡ take 4096 old.bytes = (c.in_ok-read_at.ensures.observed observable).read
            ∙ ap (λ n. take n old.bytes) c.read_at.auto.into in
            let same : c.named_slots-slots.result ≡ p.slots =
            c.named_slots-slots.ensures ∙ named_by_header old.bytes block read p has in
            elim c.then-slots-eq0.branch [
              | then-slots-eq0-via-then-slots-eq0 w
                  ↦ absurd (omega (arith, w.if-slots-eq0.true, same, has.names.in_range.some_slot))
              | then-slots-eq0-via-else-slots-eq0+then-slots-gt-MAX_SLOTS w
                  ↦ absurd (omega (arith, w.if-slots-gt-MAX_SLOTS.true, same, has.names.in_range.slots_in_range))
              | then-slots-eq0-via-else-slots-eq0+else-slots-gt-MAX_SLOTS+then-len-image_len w ↦
                  absurd (w.if-len-image_len.true (c.len-len.ensures
                  ∙ sym (g.met.D.Disk.sound c.args.disk.now observable).size ∙ has.length_is
                  ∙ ap model.image_len (sym same) ∙ sym w.image_len.ensures))
            ];
      };
    }

pub returns : goal.returns
returns g c =
    let old = g.D.Disk.state c.args.disk.now in
    let mid = g.D.Disk.state c.read_at.new.self in
    let new = g.D.Disk.state c.is_version_marked.new.disk in
    let block : List ℕ = c.read_at.new.into in
    let slots = c.named_slots-slots.result in
    let long : old.size ≡ model.image_len slots =
    sym c.len-len.ensures ∙ c.if-len-image_len.false ∙ c.image_len.ensures in
    let observable_mid = IsObservable-call old mid _ c.in_ok-read_at.ensures.call in
    let read = λ (observable : IsObservable old). (c.in_ok-read_at.ensures.observed observable).read
    ∙ ap (λ n. take n old.bytes) c.read_at.auto.into in
    let marked_is = λ (observable : IsObservable old).
    c.in_ok-marked.ensures.value (observable_mid observable)
    ∙ ap (λ l. is_flag_set l && is_marked l slots) (c.in_ok-read_at.ensures.observed observable).bytes in
    record {
      views = record {
        calls = AreCalls-answered old new _ _
            (AreCalls-then old mid new _ _ (AreCalls-one old mid _ c.in_ok-read_at.ensures.call)
            c.in_ok-marked.ensures.calls);
        reads = λ observable. ReadsOnly-trans old mid new
            (ReadsOnly-read old mid _ _ _ observable c.in_ok-read_at.ensures)
            (c.is_version_marked.ensures.reads (observable_mid observable));
        found = IfSome_then c.params_as_read.result c.params_as_read.ensures.found (λ p is.
            let same : slots ≡ p.slots = c.named_slots-slots.ensures
            ∙ slots_named p c.in_ok-marked.marked block is.0 is.1 in
            let size = long ∙ ap model.image_len same in
            record {
              in_range = is.0;
              size_is = size;
              named = λ observable.
                  header_found old.bytes block (read observable) p slots c.in_ok-marked.marked same
                  (marked_is observable) is.0 is.1 ((g.met.D.Disk.sound c.args.disk.now observable).size ∙ size);
            });
        only = λ observable p has.
            let same : slots ≡ p.slots = c.named_slots-slots.ensures
            ∙ named_by_header old.bytes block (read observable) p has in
            c.params_as_read.ensures.only p has.names.in_range
            (header_read old.bytes block (read observable) p slots c.in_ok-marked.marked same
            (marked_is observable) has);
      };
    }
