use Rattle.std.proofs.Common.{◌≡◌, ap, arith, inl, inr, refl, sym, ◌∙◌, Ok, Err}
use Rattle.std.proofs.Math.Nat.{le_refl}
use Rattle.store_model.specs.Parameters.{image_len}
use Rattle.disk_model.specs.DiskState.{IsObservable}
use Rattle.disk_model.proofs.Crashes.{IsObservable-call}
use Rattle.gate_journal.specs.declared.fault.JournalFault.TheVariants.{Disk}
use Rattle.gate_journal.proofs.Calls.{AreCalls-one, AreCalls-then, Makes-reads, Makes-short, Makes-behind}
use Rattle.gate_journal.proofs.Calls.{Makes-answered}
use Rattle.gate_journal.proofs.Areas.{marks_end, shadow_end, table_end}
use Rattle.gate_journal.proofs.Formatting.{formats_failed, formats_answered, leaves_no_image, leaves_written}
use Rattle.gate_journal.proofs.Formatting.{reads_no_image, handed_fault, fault_counted, fault_rose, fault_not_wrong}
use Rattle.gate_journal.proofs.Formatting.{fault_not_image, ok_not_fault, other_fault, wrong_not_image, wrong_not_disk}
use Rattle.gate_journal.proofs.Formatting.{image_not_disk, is_first, not_first}
use Rattle.gate_journal.proofs.journal.Journal.format.Goals as goal

pub is_image-requires : goal.is_image-requires
is_image-requires g c =
    omega (
      arith,
      c.if-len-image_len.false,
      c.len.ensures,
      c.image_len.ensures,
      ap image_len c.slots.ensures.value,
      table_end c.args.params.now.slots,
      shadow_end c.args.params.now.slots,
      marks_end c.args.params.now.slots,
    )

pub returns-then-len-image_len : goal.returns-then-len-image_len
returns-then-len-image_len g c =
    let old = g.D.Disk.state c.args.disk.now in
    let wrong : old.size ≡ image_len c.args.params.now.slots
    → ⊥ = λ same. c.if-len-image_len.true (c.len.ensures ∙ same
    ∙ sym (c.image_len.ensures ∙ ap image_len c.slots.ensures.value)) in
    record {
      size = refl;
      observable = refl;
      faults = refl;
      rise = le_refl _;
      writes = le_refl _;
      syncs = le_refl _;
      wrong_length = (λ _ same. wrong same, λ _. refl);
      wrong_length_keeps = λ _. refl;
      already_image = λ observable image. absurd (other_fault _ _ _ refl image wrong_not_image);
      image_is_kept = λ observable size first. absurd (wrong size);
      already_image_keeps = λ observable image. absurd (other_fault _ _ _ refl image wrong_not_image);
      image_is_found = λ observable size first. absurd (wrong size);
      disk_failed = λ failed. absurd (other_fault _ _ _ refl failed wrong_not_disk);
      makes = λ observable size differs. absurd (wrong size);
      formats = λ observable. record { durable = tt; done = tt };
      reads = λ observable size differs. absurd (wrong size);
      crash = λ observable size differs durable. absurd (wrong size);
    }

pub returns-then-branch : goal.returns-then-branch
returns-then-branch g c =
    let old = g.D.Disk.state c.args.disk.now in
    let read = c.in_ok-is_image.ensures.call in
    let first = λ (observable : IsObservable old).
    is_first _ _ _ (c.in_ok-is_image.ensures.value observable) c.if-branch.true in
    record {
      size = read.size;
      observable = read.observable;
      faults = read.faults;
      rise = read.rise;
      writes = read.writes;
      syncs = read.syncs;
      wrong_length = (
        λ wrong. absurd (other_fault _ _ _ refl wrong (λ same. wrong_not_image (sym same))),
        λ differs.
            absurd (differs (sym c.len.ensures ∙ c.if-len-image_len.false ∙ c.image_len.ensures
            ∙ ap image_len c.slots.ensures.value)),
      );
      wrong_length_keeps = λ wrong. absurd (other_fault _ _ _ refl wrong (λ same. wrong_not_image (sym same)));
      already_image = λ observable image. first observable;
      image_is_kept = λ observable size _. c.is_image.ensures.reads observable;
      already_image_keeps = λ observable image. c.is_image.ensures.reads observable;
      image_is_found = λ observable size _. inl refl;
      disk_failed = λ failed. absurd (other_fault _ _ _ refl failed image_not_disk);
      makes = λ observable size differs. absurd (differs (first observable));
      formats = λ observable. record { durable = tt; done = tt };
      reads = λ observable size differs. absurd (differs (first observable));
      crash = λ observable size differs durable. absurd (differs (first observable));
    }

pub returns-in_err-is_image : goal.returns-in_err-is_image
returns-in_err-is_image g c =
    let p = c.args.params.now in
    let old = g.D.Disk.state c.args.disk.now in
    let mid = g.D.Disk.state c.is_image.new.disk in
    let result = c.from_residual.result in
    let call = c.in_err-is_image.ensures.call in
    let is : result ≡ Err Disk = handed_fault result c.from_residual.ensures.1 in
    record {
      size = call.size;
      observable = call.observable;
      faults = fault_counted old.faults mid.faults result is call.faults;
      rise = call.rise;
      writes = call.writes;
      syncs = call.syncs;
      wrong_length = (
        λ wrong. absurd (fault_not_wrong result is wrong),
        λ differs.
            absurd (differs (sym c.len.ensures ∙ c.if-len-image_len.false ∙ c.image_len.ensures
            ∙ ap image_len c.slots.ensures.value)),
      );
      wrong_length_keeps = λ wrong. absurd (fault_not_wrong result is wrong);
      already_image = λ observable image. absurd (fault_not_image result is image);
      image_is_kept = λ observable size first. c.is_image.ensures.reads observable;
      already_image_keeps = λ observable image. c.is_image.ensures.reads observable;
      image_is_found = λ observable size first. inr is;
      disk_failed = λ failed. fault_rose old.faults mid.faults call.faults;
      makes = λ observable size differs.
          Makes-short old mid c.is_image.result result 0 0 _ _ c.from_residual.ensures.0 (omega arith) (omega arith)
          (Makes-reads old mid c.is_image.result c.is_image.result c.is_image.ensures.call
          (c.is_image.ensures.reads observable));
      formats = λ observable. formats_failed p mid result c.from_residual.ensures.0;
      reads = λ observable size differs. reads_no_image p old mid differs (c.is_image.ensures.reads observable);
      crash = λ observable size differs durable. leaves_no_image p old mid durable differs
          (c.is_image.ensures.reads observable);
    }

pub returns-in_err-write_image : goal.returns-in_err-write_image
returns-in_err-write_image g c =
    let p = c.args.params.now in
    let old = g.D.Disk.state c.args.disk.now in
    let mid = g.D.Disk.state c.is_image.new.disk in
    let new = g.D.Disk.state c.write_image.new.disk in
    let result = c.from_residual-in_err-write_image.result in
    let failed = c.from_residual-in_err-write_image.ensures in
    let error = c.in_err-write_image.field-0.0 in
    let both = AreCalls-then old mid new c.in_ok-is_image.field-0 (Err error)
    (AreCalls-one old mid (Ok c.in_ok-is_image.field-0) c.in_ok-is_image.ensures.call)
    (AreCalls-one mid new (Err error) c.in_err-write_image.ensures.call) in
    let is : result ≡ Err Disk = handed_fault result failed.1 in
    record {
      size = both.size;
      observable = both.observable;
      faults = fault_counted old.faults new.faults result is both.faults;
      rise = both.rise;
      writes = both.writes;
      syncs = both.syncs;
      wrong_length = (
        λ wrong. absurd (fault_not_wrong result is wrong),
        λ differs.
            absurd (differs (sym c.len.ensures ∙ c.if-len-image_len.false ∙ c.image_len.ensures
            ∙ ap image_len c.slots.ensures.value)),
      );
      wrong_length_keeps = λ wrong. absurd (fault_not_wrong result is wrong);
      already_image = λ observable image. absurd (fault_not_image result is image);
      image_is_kept = λ observable size first.
          absurd (not_first _ _ _ (c.in_ok-is_image.ensures.value observable) c.if-branch.false first);
      already_image_keeps = λ observable image. absurd (fault_not_image result is image);
      image_is_found = λ observable size first. inr is;
      disk_failed = λ fault. fault_rose old.faults new.faults both.faults;
      makes = λ observable size differs.
          Makes-short old new c.write_image.result result _ _ _ _ failed.0 (le_refl _) (le_refl _)
          (Makes-behind old mid new c.write_image.result _ _ (c.is_image.ensures.reads observable)
          (c.write_image.ensures.makes (IsObservable-call old mid _ c.is_image.ensures.call observable)));
      formats = λ observable. formats_failed p new result failed.0;
      reads = λ observable size differs.
          c.write_image.ensures.reads (IsObservable-call old mid _ c.is_image.ensures.call observable);
      crash = λ observable size differs durable.
          leaves_written p old mid new durable differs (c.is_image.ensures.reads observable)
          (c.write_image.ensures.crash (IsObservable-call old mid _ c.is_image.ensures.call observable));
    }

pub returns : goal.returns
returns g c =
    let p = c.args.params.now in
    let old = g.D.Disk.state c.args.disk.now in
    let mid = g.D.Disk.state c.is_image.new.disk in
    let new = g.D.Disk.state c.write_image.new.disk in
    let value = c.in_ok-write_image.field-0 in
    let written = c.in_ok-write_image.ensures in
    let both = AreCalls-then old mid new c.in_ok-is_image.field-0 (Ok value)
    (AreCalls-one old mid (Ok c.in_ok-is_image.field-0) c.in_ok-is_image.ensures.call)
    (AreCalls-one mid new (Ok value) written.call) in
    record {
      size = both.size;
      observable = both.observable;
      faults = both.faults;
      rise = both.rise;
      writes = both.writes;
      syncs = both.syncs;
      wrong_length = (
        λ wrong. absurd (ok_not_fault _ _ wrong),
        λ differs.
            absurd (differs (sym c.len.ensures ∙ c.if-len-image_len.false ∙ c.image_len.ensures
            ∙ ap image_len c.slots.ensures.value)),
      );
      wrong_length_keeps = λ wrong. absurd (ok_not_fault _ _ wrong);
      already_image = λ observable image. absurd (ok_not_fault _ _ image);
      image_is_kept = λ observable size first.
          absurd (not_first _ _ _ (c.in_ok-is_image.ensures.value observable) c.if-branch.false first);
      already_image_keeps = λ observable image. absurd (ok_not_fault _ _ image);
      image_is_found = λ observable size first.
          absurd (not_first _ _ _ (c.in_ok-is_image.ensures.value observable) c.if-branch.false first);
      disk_failed = λ failed. absurd (ok_not_fault _ _ failed);
      makes = λ observable size differs.
          Makes-answered old new value _ _ _
          (Makes-behind old mid new (Ok value) _ _ (c.is_image.ensures.reads observable)
          (written.makes (IsObservable-call old mid _ c.is_image.ensures.call observable)));
      formats = λ observable. formats_answered p new value _
          (written.formats (IsObservable-call old mid _ c.is_image.ensures.call observable));
      reads = λ observable size differs. written.reads (IsObservable-call old mid _ c.is_image.ensures.call observable);
      crash = λ observable size differs durable.
          leaves_written p old mid new durable differs (c.is_image.ensures.reads observable)
          (written.crash (IsObservable-call old mid _ c.is_image.ensures.call observable));
    }
