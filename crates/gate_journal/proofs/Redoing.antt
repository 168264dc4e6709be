-- The loops that redo the marked slots, one step on.
use Rattle.std.proofs.Common.{◌≡◌, ℕ, ◌+◌, ◌<◌, ◌≤◌, List, slice_index, true, false, not, ◌==◌, ap, ◌∙◌, sym, subst}
use Rattle.std.proofs.Common.{inl, inr, arith, Ok}
use Rattle.std.proofs.lemmas.Bool.{cases_lt, both_ways, ne_eqb}
use Rattle.store_model.specs.Parameters.{mark_at, shadow_at, table_at}
use Rattle.store_model.specs.Images.{bytes_at, is_marked}
use Rattle.disk_model.specs.DiskState.{DiskState, IsSound}
use Rattle.gate_journal.specs.Places.{IsApart, Keeps, Reaches}
use Rattle.gate_journal.specs.Phases.{table_slot}
use Rattle.gate_journal.specs.Recovery.{OutsideMarked, AreRedone, OutsideVersion, HasRedoneVersion, OutsideRedone}
use Rattle.gate_journal.specs.Recovery.{IsRedone}
use Rattle.gate_journal.proofs.Areas.{areas, marks_end, shadow_end}
use Rattle.gate_journal.proofs.Places.{Keeps-trans, Keeps-weaken, bytes_at-same}
use Rattle.gate_journal.proofs.Committing.{table_apart}

pub marked : (image : List ℕ) (i : ℕ) → (slice_index image (mark_at i) ≡ 0 → ⊥) → is_marked image i ≡ true
unfolding is_marked
marked image i differs = ap not (ne_eqb (slice_index image (mark_at i)) 0 differs)

pub unmarked : (image : List ℕ) (i : ℕ) → slice_index image (mark_at i) ≡ 0 → is_marked image i ≡ false
unfolding is_marked
unmarked image i is = ap (λ (b : ℕ). not (b == 0)) is

-- the places before the table are outside the marked slots
pub before_table : (slots from to : ℕ) (marks : List ℕ) → to ≤ slots → (place : ℕ) → place < table_at slots 0
    → OutsideMarked slots from to marks place
before_table slots from to marks fits place low i first last is =
    inl (omega (arith, (areas slots i (omega arith)).table_is))

module _ (slots from to : ℕ) (old mid : DiskState) (fits : to ≤ slots) (slot : ℕ) (first : from ≤ slot)
    (last : slot < to) where
  -- a marked slot
  pub redo_step : {E : Type 0} (new : DiskState) → IsSound mid → is_marked old.bytes slot ≡ true
      → Keeps (OutsideMarked slots from to old.bytes) old mid → AreRedone slots from slot old.bytes mid.bytes
      → Reaches {T = Unit {0}} {E = E} (IsApart (table_at slots slot) 4096)
      (λ image. table_slot slots image slot ≡ bytes_at mid.bytes (shadow_at slots slot) 4096) mid new (Ok tt)
      → Keeps (OutsideMarked slots from to old.bytes) old new × AreRedone slots from (slot + 1) old.bytes new.bytes
  redo_step new sound is keeps redone reaches =
      let places = OutsideMarked slots from to old.bytes in
      let below : slot < slots = omega arith in (
        Keeps-trans places old mid new sound keeps
            (Keeps-weaken (IsApart (table_at slots slot) 4096) places mid new
            (λ place outside. outside slot first last is) reaches.keeps),
        λ i low high marks. elim (cases_lt i slot) [
          | inl before ↦
              bytes_at-same (IsApart (table_at slots slot) 4096) (table_at slots i) 4096 mid.bytes new.bytes
              (λ place start end. table_apart slots i slot (omega arith) below (λ same. omega arith) place start end)
              reaches.keeps.reads
              ∙ redone i low before marks
          | inr here ↦
              let same : slot ≡ i = omega arith in
              subst (λ (k : ℕ). table_slot slots new.bytes k ≡ bytes_at old.bytes (shadow_at slots k) 4096) same
              (reaches.done
              ∙ bytes_at-same places (shadow_at slots slot) 4096 old.bytes mid.bytes
              (λ place start end. before_table slots from to old.bytes fits place
              (omega (arith, (areas slots slot below).shadow_end))) keeps.reads)
        ],
      )

  -- a slot that is not marked
  pub redo_none : is_marked old.bytes slot ≡ false → AreRedone slots from slot old.bytes mid.bytes
      → AreRedone slots from (slot + 1) old.bytes mid.bytes
  redo_none not_marked redone i low high marks = elim (cases_lt i slot) [
    | inl before ↦ redone i low before marks
    | inr here ↦
        let same : i ≡ slot = omega arith in
        absurd (both_ways (is_marked old.bytes slot) not_marked (ap (is_marked old.bytes) (sym same) ∙ marks))
  ]

-- redoing marked slots leaves the marks, that behind the last slot's too
pub mark_stays : (slots : ℕ) (old mid : DiskState) → Keeps (OutsideMarked slots 0 slots old.bytes) old mid → (i : ℕ)
    → i ≤ slots → is_marked mid.bytes i ≡ is_marked old.bytes i
unfolding is_marked
mark_stays slots old mid keeps i few =
    ap (λ (b : ℕ). not (b == 0))
    (keeps.reads.same (mark_at i)
    (before_table slots 0 slots old.bytes (omega arith) (mark_at i)
    (omega (arith, marks_end slots, shadow_end slots))))

-- The marked slots of one block of marks more.
module _ (slots first to : ℕ) (old mid new : DiskState) (fits : to ≤ slots) (begins : first ≤ to) (sound : IsSound mid)
    (keeps : Keeps (OutsideMarked slots 0 slots old.bytes) old mid) where
  pub block_spared : (place : ℕ) → OutsideMarked slots 0 slots old.bytes place
      → OutsideMarked slots first to mid.bytes place
  block_spared place outside i low high is =
      outside i (omega arith) (omega arith) (sym (mark_stays slots old mid keeps i (omega arith)) ∙ is)

  pub block_keeps : Keeps (OutsideMarked slots first to mid.bytes) mid new
      → Keeps (OutsideMarked slots 0 slots old.bytes) old new
  block_keeps then =
      Keeps-trans (OutsideMarked slots 0 slots old.bytes) old mid new sound keeps
      (Keeps-weaken (OutsideMarked slots first to mid.bytes)
      (OutsideMarked slots 0 slots old.bytes) mid new block_spared then)

  pub block_redone : AreRedone slots 0 first old.bytes mid.bytes
      → Keeps (OutsideMarked slots first to mid.bytes) mid new → AreRedone slots first to mid.bytes new.bytes
      → AreRedone slots 0 to old.bytes new.bytes
  block_redone redone then more i low high is = elim (cases_lt i first) [
    | inl before ↦
        bytes_at-same (OutsideMarked slots first to mid.bytes) (table_at slots i) 4096 mid.bytes new.bytes
        (λ place start end k from below marks. table_apart slots i k (omega arith) (omega arith)
        (λ same. omega arith) place start end) then.reads
        ∙ redone i low before is
    | inr behind ↦
        more i behind high (mark_stays slots old mid keeps i (omega arith) ∙ is)
        ∙ bytes_at-same (OutsideMarked slots 0 slots old.bytes) (shadow_at slots i) 4096 old.bytes mid.bytes
        (λ place start end. before_table slots 0 slots old.bytes (omega arith) place
        (omega (arith, (areas slots i (omega arith)).shadow_end))) keeps.reads
  ]

-- The version behind all marked slots.
module _ (slots : ℕ) (old mid new : DiskState) (sound : IsSound mid)
    (keeps : Keeps (OutsideMarked slots 0 slots old.bytes) old mid)
    (then : Keeps (OutsideVersion slots mid.bytes) mid new) where
  pub version_keeps : Keeps (OutsideRedone slots old.bytes) old new
  version_keeps =
      let places = OutsideRedone slots old.bytes in
      Keeps-trans places old mid new sound
      (Keeps-weaken (OutsideMarked slots 0 slots old.bytes) places old mid (λ place outside. outside.table) keeps)
      (Keeps-weaken (OutsideVersion slots mid.bytes) places mid new
      (λ place outside marks. outside.version (sym (mark_stays slots old mid keeps slots (omega arith)) ∙ marks))
      then)

  pub version_redone : AreRedone slots 0 slots old.bytes mid.bytes → HasRedoneVersion slots mid.bytes new.bytes
      → IsRedone slots old.bytes new.bytes
  version_redone redone has = record {
    table = λ i low high is.
        bytes_at-same (OutsideVersion slots mid.bytes) (table_at slots i) 4096 mid.bytes new.bytes
        (λ place start end marks. inr (omega (arith, (areas slots i high).table_is, marks_end slots, shadow_end slots)))
        then.reads
        ∙ redone i low high is;
    version = λ marks. has (mark_stays slots old mid keeps slots (omega arith) ∙ marks);
  }
