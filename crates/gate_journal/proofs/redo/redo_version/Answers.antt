use Rattle.std.proofs.Common.{◌≡◌, ℕ, ◌+◌, ◌≤◌, List, [], ◌∷◌, length, slice_index, not, ◌==◌, Bool, sym, ap, ◌∙◌}
use Rattle.std.proofs.Common.{subst, arith}
use Rattle.std.proofs.lemmas.Bool.{both_ways}
use Rattle.store_model.specs.Parameters.{mark_at}
use Rattle.store_model.specs.Images.{is_marked}
use Rattle.disk_model.specs.DiskCalls.{overwrite}
use Rattle.disk_model.proofs.Crashes.{IsObservable-call}
use Rattle.gate_journal.proofs.Calls.{Makes-short, AreCalls-one, IsCall-then, Reaches-fault, Reaches-then}
use Rattle.gate_journal.proofs.Calls.{Reaches-write, Makes-behind, Makes-write, Makes-reads, Makes-as}
use Rattle.gate_journal.proofs.Faults.{IsCall-fault, IsCall-answered}
use Rattle.gate_journal.specs.Places.{IsApart}
use Rattle.gate_journal.specs.Recovery.{OutsideVersion, HasRedoneVersion, marked_count}
use Rattle.gate_journal.proofs.Areas.{marks_end, shadow_end, table_end}
use Rattle.gate_journal.proofs.Counting.{marked_one}
use Rattle.gate_journal.proofs.Entries.{slice_index-overwrite}
use Rattle.gate_journal.proofs.Reading.{Keeps-reads}
use Rattle.gate_journal.proofs.redo.redo_version.Goals as goal

pub is_byte_set-requires : goal.is_byte_set-requires
is_byte_set-requires g c =
    omega (
      arith,
      c.mark_at.ensures,
      c.requires.size,
      marks_end c.args.slots,
      shadow_end c.args.slots,
      table_end c.args.slots,
    )

pub write_at-requires : goal.write_at-requires
write_at-requires g c =
    omega (
      arith,
      c.version_at.ensures,
      c.is_byte_set.ensures.call.size,
      c.requires.size,
      marks_end c.args.slots,
      shadow_end c.args.slots,
      table_end c.args.slots,
    )

-- the mark that was read
mark_found : (slots at : ℕ) (image : List ℕ) (found is : Bool) → at ≡ mark_at slots
    → found ≡ not (slice_index image at == 0) → found ≡ is → is_marked image slots ≡ is
unfolding is_marked
mark_found slots at image found is there value here =
    ap (λ (n : ℕ). not (slice_index image n == 0)) (sym there) ∙ sym value ∙ here

-- the version that was written
version_written : (image : List ℕ) (at byte : ℕ) → at ≡ 14 → byte ≡ 2 → at + 1 ≤ length image
    → slice_index (overwrite image at (byte ∷ [])) 14 ≡ 2
version_written image at byte there is within = ap (slice_index (overwrite image at (byte ∷ []))) (sym there)
    ∙ slice_index-overwrite image at byte within ∙ is

pub returns-then-branch-clause-reaches : goal.returns-then-branch-clause-reaches
returns-then-branch-clause-reaches g c observable =
    let slots = c.args.slots in
    let old = g.D.Disk.state c.args.disk.now in
    let mid = g.D.Disk.state c.is_byte_set.new.disk in
    let new = g.D.Disk.state c.write_at.new.self in
    let places = OutsideVersion slots old.bytes in
    let Done = HasRedoneVersion slots old.bytes in
    let marked = mark_found slots c.mark_at.result old.bytes _ _
    c.mark_at.ensures (c.in_ok-is_byte_set.ensures.value observable) c.if-branch.true in
    let observable_mid = IsObservable-call _ _ _ c.is_byte_set.ensures.call observable in
    let sound = g.met.D.Disk.sound c.is_byte_set.new.disk observable_mid in
    let within : c.version_at.result + 1 ≤ length mid.bytes =
    omega (
      arith,
      c.version_at.ensures,
      sound.size,
      c.is_byte_set.ensures.call.size,
      c.requires.size,
      marks_end slots,
      shadow_end slots,
      table_end slots,
    ) in
    Reaches-then places Done old mid new c.write_at.result sound
    (Keeps-reads places old mid (c.is_byte_set.ensures.reads observable))
    (Reaches-write places Done mid new c.write_at.result observable_mid c.version_at.result (c.version_byte.result ∷ [])
    (λ place outside. subst (λ (n : ℕ). IsApart n 1 place) (sym c.version_at.ensures) (outside marked))
    c.write_at.ensures
    (λ _. version_written mid.bytes c.version_at.result c.version_byte.result c.version_at.ensures
    c.version_byte.ensures within))

pub returns-then-branch-clause-makes : goal.returns-then-branch-clause-makes
returns-then-branch-clause-makes g c observable =
    let slots = c.args.slots in
    let old = g.D.Disk.state c.args.disk.now in
    let mid = g.D.Disk.state c.is_byte_set.new.disk in
    let new = g.D.Disk.state c.write_at.new.self in
    let marked = mark_found slots c.mark_at.result old.bytes _ _
    c.mark_at.ensures (c.in_ok-is_byte_set.ensures.value observable) c.if-branch.true in
    let observable_mid = IsObservable-call _ _ _ c.is_byte_set.ensures.call observable in
    Makes-as old new c.write_at.result 1 0 (marked_count slots 1 old.bytes) 0
    (sym (marked_one slots old.bytes _ marked)) (omega arith)
    (Makes-behind old mid new c.write_at.result 1 0 (c.is_byte_set.ensures.reads observable)
    (Makes-write mid new c.write_at.result observable_mid c.version_at.result _ c.write_at.ensures))

pub returns-clause-reaches : goal.returns-clause-reaches
returns-clause-reaches g c observable =
    let slots = c.args.slots in
    let old = g.D.Disk.state c.args.disk.now in
    let new = g.D.Disk.state c.is_byte_set.new.disk in
    let unmarked = mark_found slots c.mark_at.result old.bytes _ _
    c.mark_at.ensures (c.in_ok-is_byte_set.ensures.value observable) c.if-branch.false in
    record {
      keeps = Keeps-reads (OutsideVersion slots old.bytes) old new (c.is_byte_set.ensures.reads observable);
      done = λ marked. absurd (both_ways (is_marked old.bytes slots) unmarked marked);
    }

pub returns-clause-makes : goal.returns-clause-makes
returns-clause-makes g c observable =
    let slots = c.args.slots in
    let old = g.D.Disk.state c.args.disk.now in
    let new = g.D.Disk.state c.is_byte_set.new.disk in
    let unmarked = mark_found slots c.mark_at.result old.bytes _ _
    c.mark_at.ensures (c.in_ok-is_byte_set.ensures.value observable) c.if-branch.false in
    Makes-as old new _ 0 0 (marked_count slots 1 old.bytes) 0
    (sym (marked_one slots old.bytes _ unmarked)) (omega arith)
    (Makes-reads old new c.is_byte_set.result _ c.is_byte_set.ensures.call (c.is_byte_set.ensures.reads observable))

pub returns-in_err-is_byte_set-clause-call : goal.returns-in_err-is_byte_set-clause-call
returns-in_err-is_byte_set-clause-call g c =
    IsCall-fault _ _ _ c.from_residual.result c.from_residual.ensures.0 c.in_err-is_byte_set.ensures.call

pub returns-in_err-is_byte_set-clause-reaches : goal.returns-in_err-is_byte_set-clause-reaches
returns-in_err-is_byte_set-clause-reaches g c observable =
    Reaches-fault _ _ _ _ c.from_residual.result c.from_residual.ensures.0
    (Keeps-reads _ _ _ (c.is_byte_set.ensures.reads observable))

pub returns-then-branch-clause-call : goal.returns-then-branch-clause-call
returns-then-branch-clause-call g c =
    IsCall-then _ _ _ _ _ (AreCalls-one _ _ _ c.in_ok-is_byte_set.ensures.call) c.write_at.ensures.call

pub returns-clause-call : goal.returns-clause-call
returns-clause-call g c = IsCall-answered _ _ _ _ c.in_ok-is_byte_set.ensures.call

pub returns-in_err-is_byte_set-clause-makes : goal.returns-in_err-is_byte_set-clause-makes
returns-in_err-is_byte_set-clause-makes g c observable =
    let old = g.D.Disk.state c.args.disk.now in
    let mid = g.D.Disk.state c.is_byte_set.new.disk in
    Makes-short old mid c.is_byte_set.result c.from_residual.result 0 0 (marked_count c.args.slots 1 old.bytes) 0
    c.from_residual.ensures.0 (omega arith) (omega arith)
    (Makes-reads old mid c.is_byte_set.result c.is_byte_set.result c.is_byte_set.ensures.call
    (c.is_byte_set.ensures.reads observable))
