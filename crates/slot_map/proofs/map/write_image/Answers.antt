use Rattle.std.proofs.Common.{◌≡◌, ℕ, ◌+◌, ◌∙◌, List, ap, subst, Err, slice_index}
use Rattle.std.proofs.lemmas.Result.{err_from_is_err_and}
use Rattle.store_model.specs.Parameters.{Parameters, gate_at, marks_at}
use Rattle.store_model.specs.Images.{bytes_at}
use Rattle.gate_journal.specs.Headers.{IsImageWith}
use Rattle.gate_journal.proofs.Calls.{observable_after}
use Rattle.slot_map.specs.Contents.{ShowsTable}
use Rattle.slot_map.specs.Pictures.{picture_text, IsMapOf}
use Rattle.slot_map.specs.declared.fault.MapFault.TheVariants as faults
use Rattle.slot_map.specs.MapCalls.{PutsMap}
use Rattle.slot_map.proofs.Putting.{IsPut-answered, IsPut-failed}
use Rattle.slot_map.proofs.map.write_image.Goals as goal

-- the picture of what was read, where the reads after one another gave the same bytes
map_of : (p : Parameters) (slots : ℕ) (image second third : List ℕ) (flag : ℕ) (chars marks : List ℕ) → slots ≡ p.slots
    → IsImageWith image p → second ≡ image → third ≡ second → flag ≡ slice_index image gate_at
    → marks ≡ bytes_at second marks_at (slots + 1) → ShowsTable slots third chars
    → IsMapOf image (picture_text p flag chars marks)
map_of p slots image second third flag chars marks count is same again flag_is marks_are table = record {
  params = p;
  is_image = is;
  chars = chars;
  table = subst (λ (n : ℕ). ShowsTable n image chars) count
      (subst (λ (bytes : List ℕ). ShowsTable slots bytes chars) (again ∙ same) table);
  text_is =
      ap (λ (n : ℕ). picture_text p n chars marks) flag_is
      ∙ ap (picture_text p (slice_index image gate_at) chars)
      (marks_are ∙ ap (λ (bytes : List ℕ). bytes_at bytes marks_at (slots + 1)) same
      ∙ ap (λ (n : ℕ). bytes_at image marks_at (n + 1)) count);
}

pub returns-in_err-write_picture-clause-sink : goal.returns-in_err-write_picture-clause-sink
returns-in_err-write_picture-clause-sink g c =
    let old = g.D.Disk.state c.args.disk.now in
    let second = g.D.Disk.state c.read_flag.new.disk in
    let third = g.D.Disk.state c.read_marks.new.disk in
    let st = g.W.Sink.state in
    let p = c.args.params.now in
    let fault = err_from_is_err_and c.from_residual-in_err-write_picture.result
    c.from_residual-in_err-write_picture.ensures.1 in
    let puts : PutsMap {T = Unit {0}} old (st c.args.sink.now) (st c.write_picture.new.sink) (Err faults.Sink) =
    record {
      text = picture_text p c.in_ok-flag.flag c.read_slots.new.chars c.read_marks.new.marks;
      is_map = λ observable.
          let observable_second = observable_after _ _ _ c.read_flag.ensures.reads.calls observable in
          let observable_third = observable_after _ _ _ c.read_marks.ensures.reads.calls observable_second in
          map_of p c.slots-slots.result old.bytes second.bytes third.bytes c.in_ok-flag.flag c.read_slots.new.chars
          c.read_marks.new.marks c.slots-slots.ensures.value (c.requires.named observable)
          (c.read_flag.ensures.reads.reads observable).bytes (c.read_marks.ensures.reads.reads observable_second).bytes
          (c.in_ok-flag.ensures.flag observable) (c.in_ok-read_marks.ensures.marks observable_second)
          (c.in_ok-read_slots.ensures.shown observable_third);
      put = IsPut-failed (st c.args.sink.now) (st c.write_picture.new.sink) _ _
          faults.Sink c.in_err-write_picture.ensures;
    } in
    rw (fault.1, fault.2) puts

pub returns-clause-sink : goal.returns-clause-sink
returns-clause-sink g c =
    let old = g.D.Disk.state c.args.disk.now in
    let second = g.D.Disk.state c.read_flag.new.disk in
    let third = g.D.Disk.state c.read_marks.new.disk in
    let st = g.W.Sink.state in
    let p = c.args.params.now in
    record {
      text = picture_text p c.in_ok-flag.flag c.read_slots.new.chars c.read_marks.new.marks;
      is_map = λ observable.
          let observable_second = observable_after _ _ _ c.read_flag.ensures.reads.calls observable in
          let observable_third = observable_after _ _ _ c.read_marks.ensures.reads.calls observable_second in
          map_of p c.slots-slots.result old.bytes second.bytes third.bytes c.in_ok-flag.flag c.read_slots.new.chars
          c.read_marks.new.marks c.slots-slots.ensures.value (c.requires.named observable)
          (c.read_flag.ensures.reads.reads observable).bytes (c.read_marks.ensures.reads.reads observable_second).bytes
          (c.in_ok-flag.ensures.flag observable) (c.in_ok-read_marks.ensures.marks observable_second)
          (c.in_ok-read_slots.ensures.shown observable_third);
      put = IsPut-answered (st c.args.sink.now) (st c.write_picture.new.sink) _ _ tt c.in_ok-write_picture.ensures;
    }
