use Rattle.std.proofs.Common.{◌≡◌, ◌≤◌, ◌<◌, take, length, get_or, ap, sym, subst, ◌∙◌, arith}
use Rattle.std.proofs.lemmas.List.{take_all}
use Rattle.store_model.specs.Draws.{draw_of}
use Rattle.store_model.specs.Pages.{pages_of_pairs}
use Rattle.gate_journal.proofs.Calls.{AreCalls-then}
use Rattle.gate_journal.proofs.Places.{Keeps-refl}
use Rattle.image_writer.specs.declared.fault.WriteFault.TheVariants.{Full}
use Rattle.image_writer.specs.Placing.{FirstByte}
use Rattle.image_writer.specs.Sealing.{image_of_pairs}
use Rattle.image_writer.specs.Writing.{IsWriting, disk_answer}
use Rattle.image_writer.proofs.Sealed.{becomes_none}
use Rattle.image_writer.proofs.Written.{memory_failed, not_full_memory, short_of_memory, becomes_short, pair_next}
use Rattle.image_writer.proofs.Written.{pair_taken, handed_calls, handed_not_full, handed_or_full, told_not_full}
use Rattle.image_writer.proofs.Written.{told_full}
use Rattle.image_writer.proofs.pairs.write_pairs.Goals as goal

pub loop-pair-init : goal.loop-pair-init
loop-pair-init g c = c.in_ok-writer.ensures

pub push-requires : goal.push-requires
push-requires g c =
    let p = c.args.params.now in
    let pairs = c.args.pairs.now in
    let k = c.loop-pair.pair-index in
    let pair = c.pair-item.result in
    let items_are = c.as_slice-pair-items.ensures.value in
    let below : k < length pairs = omega (arith, c.loop-pair-test.true, ap length items_are) in
    let here : pair ≡ get_or pairs k pair = c.pair-item.is ∙ ap (λ xs. get_or xs k pair) items_are in
    let value_is = c.new-value.ensures ∙ c.as_slice-bytes.ensures.value in (
      p,
      c.args.disk.now,
      take k pairs,
      pair_next pairs k pair c.new-value.result value_is below here p c.level_from-level.result
          (g.D.Disk.state c.args.disk.now) (g.D.Disk.state c.loop-pair.disk) c.loop-pair.writer c.requires.rising
          c.requires.few
          (c.level_from-level.ensures ∙ ap (λ d. d.level pair.0) c.new-draw.ensures) c.loop-pair.invariant,
    )

pub loop-pair-preserved : goal.loop-pair-preserved
loop-pair-preserved g c =
    let p = c.args.params.now in
    let pairs = c.args.pairs.now in
    let k = c.loop-pair.pair-index in
    let pair = c.pair-item.result in
    let items_are = c.as_slice-pair-items.ensures.value in
    let below : k < length pairs = omega (arith, c.loop-pair-test.true, ap length items_are) in
    let here : pair ≡ get_or pairs k pair = c.pair-item.is ∙ ap (λ xs. get_or xs k pair) items_are in
    let value_is = c.new-value.ensures ∙ c.as_slice-bytes.ensures.value in
    subst (λ s. IsWriting p s (g.D.Disk.state c.args.disk.now) (g.D.Disk.state c.push.new.disk) c.push.new.self)
    (sym (pair_taken pairs k pair c.new-value.result value_is below here))
    (c.in_ok-push.ensures.writes p c.args.disk.now (take k pairs)
    (pair_next pairs k pair c.new-value.result value_is below here p c.level_from-level.result
    (g.D.Disk.state c.args.disk.now) (g.D.Disk.state c.loop-pair.disk) c.loop-pair.writer c.requires.rising
    c.requires.few
    (c.level_from-level.ensures ∙ ap (λ d. d.level pair.0) c.new-draw.ensures) c.loop-pair.invariant))

pub returns-in_err-writer : goal.returns-in_err-writer
returns-in_err-writer g c =
    let p = c.args.params.now in
    let old = g.D.Disk.state c.args.disk.now in
    record {
      calls = memory_failed old c.from_residual.result c.from_residual.ensures.1;
      becomes = λ observable differs.
          becomes_none p (image_of_pairs p c.args.pairs.now) old old differs
          (Keeps-refl (FirstByte p.slots) old (g.met.D.Disk.sound c.args.disk.now observable))
          c.from_residual.result c.from_residual.ensures.0;
      full = λ more. short_of_memory (Full (length (pages_of_pairs (draw_of p) c.args.pairs.now)) p.slots)
          c.from_residual.result c.from_residual.ensures.1;
      fits = λ fits. not_full_memory c.from_residual.result c.from_residual.ensures.1;
    }

pub returns-in_err-push : goal.returns-in_err-push
returns-in_err-push g c =
    let p = c.args.params.now in
    let pairs = c.args.pairs.now in
    let k = c.loop-pair.pair-index in
    let pair = c.pair-item.result in
    let items_are = c.as_slice-pair-items.ensures.value in
    let below : k < length pairs = omega (arith, c.loop-pair-test.true, ap length items_are) in
    let here : pair ≡ get_or pairs k pair = c.pair-item.is ∙ ap (λ xs. get_or xs k pair) items_are in
    let value_is = c.new-value.ensures ∙ c.as_slice-bytes.ensures.value in
    let old = g.D.Disk.state c.args.disk.now in
    let mid = g.D.Disk.state c.loop-pair.disk in
    let new = g.D.Disk.state c.push.new.disk in
    let result = c.from_residual-in_err-push.result in
    let told = c.from_residual-in_err-push.ensures.1 in
    let fault = c.in_err-push.field-0.0 in
    record {
      calls = AreCalls-then old mid new tt (disk_answer result) c.loop-pair.invariant.calls
          (handed_calls mid new fault result told c.in_err-push.ensures.calls);
      becomes = λ observable differs.
          becomes_short p (image_of_pairs p pairs) old new result c.from_residual-in_err-push.ensures.0
          (c.in_err-push.ensures.none p c.args.disk.now (take k pairs)
          (pair_next pairs k pair c.new-value.result value_is below here p c.level_from-level.result old mid
          c.loop-pair.writer c.requires.rising c.requires.few
          (c.level_from-level.ensures ∙ ap (λ d. d.level pair.0) c.new-draw.ensures)
          c.loop-pair.invariant) observable differs);
      full = λ more. handed_or_full (Full (length (pages_of_pairs (draw_of p) pairs)) p.slots) fault result told
          c.in_err-push.ensures.faults;
      fits = λ fits. handed_not_full fault result told c.in_err-push.ensures.faults;
    }

pub returns : goal.returns
returns g c =
    let p = c.args.params.now in
    let pairs = c.args.pairs.now in
    let k = c.loop-pair.pair-index in
    let old = g.D.Disk.state c.args.disk.now in
    let mid = g.D.Disk.state c.loop-pair.disk in
    let new = g.D.Disk.state c.finish.new.disk in
    let end : length pairs ≤ k = omega (arith, c.loop-pair-test.false, ap length c.as_slice-pair-items.ensures.value) in
    let writing = subst (λ s. IsWriting p s old mid c.loop-pair.writer) (take_all k pairs end) c.loop-pair.invariant in
    record {
      calls = AreCalls-then old mid new tt (disk_answer c.finish.result) c.loop-pair.invariant.calls
          c.finish.ensures.calls;
      becomes = λ observable differs. c.finish.ensures.becomes p c.args.disk.now pairs writing observable differs;
      full = λ more. told_full (Full (length (pages_of_pairs (draw_of p) pairs)) p.slots) c.finish.result
          (c.finish.ensures.full p c.args.disk.now pairs writing more);
      fits = λ fits. told_not_full c.finish.result (c.finish.ensures.fits p c.args.disk.now pairs writing fits);
    }
