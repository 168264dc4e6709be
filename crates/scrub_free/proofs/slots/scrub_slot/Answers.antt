use Rattle.std.proofs.Common.{◌≡◌, ℕ, ◌+◌, ◌^◌, ◌<◌, ◌≤◌, List, length, take, drop, slice_index, Bool, true, false}
use Rattle.std.proofs.Common.{if◌then◌else◌, refl, sym, ap, ◌∙◌, subst, arith}
use Rattle.std.proofs.lemmas.List.{length-replicate}
use Rattle.store_model.specs.Lists.{zeros}
use Rattle.store_model.specs.Parameters.{slots_limit, mark_blocks, table_at, image_len}
use Rattle.store_model.specs.Images.{bytes_at, scrubbed_block}
use Rattle.disk_model.specs.DiskCalls.{overwrite}
use Rattle.disk_model.proofs.Crashes.{IsObservable-call}
use Rattle.disk_model.proofs.Images.{SameOutside-overwrite}
use Rattle.gate_journal.specs.Places.{IsApart, IsZeroAt}
use Rattle.gate_journal.specs.Phases.{table_slot}
use Rattle.gate_journal.proofs.Places.{Keeps-read}
use Rattle.gate_journal.proofs.Calls.{Reaches-write, Reaches-then, Made-reads, Makes-reads, Makes-as, Makes-then}
use Rattle.gate_journal.proofs.Calls.{Makes-write}
use Rattle.gate_journal.proofs.Reading.{zero_written, zero_more, ReadsOnly-read}
use Rattle.scrub_free.specs.FreeSlots.{OutsideFreeSlot, is_unclean, block_writes}
use Rattle.scrub_free.proofs.Blocks.{free_block, clean_block, unclean_free, zero_bytes}
use Rattle.scrub_free.proofs.Free.{slot_first}
use Rattle.scrub_free.proofs.slots.scrub_slot.Goals as goal

-- an image is short enough to be counted
few_bytes : (slots : ℕ) → slots ≤ slots_limit → image_len slots < 2 ^ 63
unfolding mark_blocks image_len
few_bytes slots few = omega arith

pub overflow_add-at : goal.overflow_add-at
overflow_add-at g c = omega (arith, few_bytes c.args.slots c.requires.in_range, c.table_at-at.ensures.within)

-- the slot that was read
slot_read : (slots slot : ℕ) (image bytes : List ℕ) (at : ℕ) → at ≡ table_at slots slot → length bytes ≡ 4096
    → bytes ≡ take (length bytes) (drop at image) → table_slot slots image slot ≡ bytes
slot_read slots slot image bytes at there long read =
    sym (read ∙ ap (λ (n : ℕ). take n (drop at image)) long ∙ ap (λ (n : ℕ). bytes_at image n 4096) there)

pub returns-then-not-is_unclean-clause-reaches : goal.returns-then-not-is_unclean-clause-reaches
returns-then-not-is_unclean-clause-reaches g c observable =
    let slots = c.args.slots in
    let slot = c.args.slot in
    let old = g.D.Disk.state c.args.disk.now in
    let bytes : List ℕ = c.read_at.new.into in
    let long : length bytes ≡ 4096 = c.read_at.auto.into in
    let effect = c.in_ok-read_at.ensures.observed observable in
    let is = slot_read slots slot old.bytes bytes c.table_at-at.result c.table_at-at.ensures.value long effect.read in
    let clean : is_unclean (table_slot slots old.bytes slot) ≡ false =
    ap is_unclean is ∙ sym c.is_unclean.ensures ∙ c.if-not-is_unclean.true in
    record {
      keeps = Keeps-read (OutsideFreeSlot slots slot old.bytes) _ _ _ observable _ _ c.read_at.ensures;
      done = ap (λ (image : List ℕ). table_slot slots image slot) effect.bytes
          ∙ sym (clean_block (table_slot slots old.bytes slot) clean);
    }

pub returns-then-not-is_unclean-clause-makes : goal.returns-then-not-is_unclean-clause-makes
returns-then-not-is_unclean-clause-makes g c observable =
    let slots = c.args.slots in
    let slot = c.args.slot in
    let old = g.D.Disk.state c.args.disk.now in
    let bytes : List ℕ = c.read_at.new.into in
    let effect = c.in_ok-read_at.ensures.observed observable in
    let is = slot_read slots slot old.bytes bytes
    c.table_at-at.result c.table_at-at.ensures.value c.read_at.auto.into effect.read in
    let none : block_writes (table_slot slots old.bytes slot) ≡ 0 =
    ap (λ (b : Bool). if b then 1 else 0) (ap is_unclean is ∙ sym c.is_unclean.ensures ∙ c.if-not-is_unclean.true)
    in
    Makes-as old _ _ 0 0 (block_writes (table_slot slots old.bytes slot)) 0 (sym none) refl
    (Makes-reads old _ c.read_at.result _ c.read_at.ensures.call
    (ReadsOnly-read old _ c.read_at.result _ _ observable c.read_at.ensures))

-- a slot whose byte 0 is 0, behind which zeros were written
zeroed : (image : List ℕ) (at : ℕ) → at + 4096 ≤ length image → slice_index image at ≡ 0
    → bytes_at (overwrite image (at + 1) (zeros 4095)) at 4096 ≡ zeros 4096
zeroed image at within free =
    let long : length (zeros 4095) ≡ 4095 = length-replicate {A = ℕ} 4095 0 in
    let same = SameOutside-overwrite image (at + 1) (zeros 4095) (omega (arith, long)) in
    let new = overwrite image (at + 1) (zeros 4095) in
    let first : IsZeroAt at 1 new = λ place low high.
    let here : place ≡ at = omega arith in
    ap (slice_index new) here ∙ same.below at (omega arith) ∙ free in
    let rest : IsZeroAt (at + 1) 4095 new = zero_written image (zeros 4095) (at + 1) 4095 refl (omega arith) in
    zero_bytes new at 4096 (omega (arith, same.same_length)) (zero_more new at 1 4095 first rest)

pub returns-clause-reaches : goal.returns-clause-reaches
returns-clause-reaches g c observable =
    let slots = c.args.slots in
    let slot = c.args.slot in
    let at = table_at slots slot in
    let old = g.D.Disk.state c.args.disk.now in
    let mid = g.D.Disk.state c.read_at.new.self in
    let bytes : List ℕ = c.read_at.new.into in
    let effect = c.in_ok-read_at.ensures.observed observable in
    let there : c.table_at-at.result ≡ at = c.table_at-at.ensures.value in
    let is = slot_read slots slot old.bytes bytes c.table_at-at.result there c.read_at.auto.into effect.read in
    let unclean : is_unclean (table_slot slots old.bytes slot) ≡ true =
    ap is_unclean is ∙ sym c.is_unclean.ensures ∙ c.if-not-is_unclean.false in
    let free : slice_index (table_slot slots old.bytes slot) 0 ≡ 0 =
    unclean_free (table_slot slots old.bytes slot) unclean in
    let free_old : slice_index old.bytes at ≡ 0 = sym (slot_first slots slot old.bytes) ∙ free in
    let free_mid : slice_index mid.bytes at ≡ 0 =
    ap (λ (image : List ℕ). slice_index image at) effect.bytes ∙ free_old in
    let long : length (zeros 4095) ≡ 4095 = length-replicate {A = ℕ} 4095 0 in
    let observable_mid = IsObservable-call _ _ _ c.read_at.ensures.call observable in
    let sound = g.met.D.Disk.sound c.read_at.new.self observable_mid in
    let within : at + 4096 ≤ length mid.bytes =
    omega (arith, sound.size, c.read_at.ensures.call.size, c.requires.size, there, c.table_at-at.ensures.within) in
    let Done = λ (image : List ℕ). table_slot slots image slot ≡ scrubbed_block (table_slot slots old.bytes slot) in
    let done : Done (overwrite mid.bytes (c.table_at-at.result + 1) (zeros 4095)) =
    ap (λ (n : ℕ). table_slot slots (overwrite mid.bytes (n + 1) (zeros 4095)) slot) there
    ∙ zeroed mid.bytes at within free_mid ∙ sym (free_block (table_slot slots old.bytes slot) free) in
    Reaches-then (OutsideFreeSlot slots slot old.bytes) Done old mid _ c.write_at.result sound
    (Keeps-read (OutsideFreeSlot slots slot old.bytes) old mid _ observable _ _ c.read_at.ensures)
    (Reaches-write (OutsideFreeSlot slots slot old.bytes) Done mid _ c.write_at.result observable_mid
    (c.table_at-at.result + 1) (zeros 4095)
    (λ place outside. subst (λ (n : ℕ). IsApart (c.table_at-at.result + 1) n place) (sym long)
    (subst (λ (n : ℕ). IsApart (n + 1) 4095 place) (sym there) (outside free_old))) c.write_at.ensures done)

pub returns-clause-makes : goal.returns-clause-makes
returns-clause-makes g c observable =
    let slots = c.args.slots in
    let slot = c.args.slot in
    let old = g.D.Disk.state c.args.disk.now in
    let mid = g.D.Disk.state c.read_at.new.self in
    let bytes : List ℕ = c.read_at.new.into in
    let effect = c.in_ok-read_at.ensures.observed observable in
    let is = slot_read slots slot old.bytes bytes
    c.table_at-at.result c.table_at-at.ensures.value c.read_at.auto.into effect.read in
    let one : block_writes (table_slot slots old.bytes slot) ≡ 1 =
    ap (λ (b : Bool). if b then 1 else 0) (ap is_unclean is ∙ sym c.is_unclean.ensures ∙ c.if-not-is_unclean.false)
    in
    let observable_mid = IsObservable-call _ _ _ c.read_at.ensures.call observable in
    Makes-as old _ _ (0 + 1) (0 + 0) (block_writes (table_slot slots old.bytes slot)) 0
    (omega (arith, one)) (omega arith)
    (Makes-then old mid _ c.write_at.result 0 0 1 0
    (Made-reads old mid (ReadsOnly-read old mid c.read_at.result _ _ observable c.read_at.ensures))
    (Makes-write mid _ c.write_at.result observable_mid _ _ c.write_at.ensures))
