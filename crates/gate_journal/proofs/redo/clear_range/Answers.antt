use Rattle.std.proofs.Common.{◌≡◌, ℕ, ◌+◌, List, length, take, drop, refl, sym, ap, ◌∙◌, subst, arith, rules}
use Rattle.std.proofs.lemmas.Bool.{both_ways}
use Rattle.store_model.specs.Lists.{zeros}
use Rattle.disk_model.proofs.Crashes.{IsObservable-call}
use Rattle.store_model.specs.Images.{bytes_at}
use Rattle.gate_journal.proofs.Calls.{Makes-short, AreCalls-one, IsCall-then, Reaches-fault, Reaches-write}
use Rattle.gate_journal.proofs.Calls.{Reaches-then, Made-reads, Makes-reads, Makes-as, Makes-then, Makes-write}
use Rattle.gate_journal.proofs.Faults.{IsCall-fault, IsCall-answered}
use Rattle.gate_journal.specs.Places.{IsApart, IsZeroAt}
use Rattle.gate_journal.specs.Recovery.{clear_writes}
use Rattle.gate_journal.proofs.Counting.{clear_none, clear_one}
use Rattle.gate_journal.proofs.Places.{Keeps-read}
use Rattle.gate_journal.proofs.Reading.{zero_read, zero_written, ReadsOnly-read}
use Rattle.gate_journal.proofs.redo.clear_range.Goals as goal

pub returns-then-is_zero-clause-reaches : goal.returns-then-is_zero-clause-reaches
returns-then-is_zero-clause-reaches g c observable =
    let old = g.D.Disk.state c.args.disk.now in
    let effect = c.in_ok-read_at.ensures.observed observable in
    let long : length c.read_at.new.into ≡ length c.args.buffer.now = c.read_at.auto.into in
    record {
      keeps = Keeps-read (IsApart c.args.at (length c.args.buffer.now)) _ _ _ observable
          c.args.at c.read_at.new.into c.read_at.ensures;
      done =
          subst (IsZeroAt c.args.at (length c.args.buffer.now)) (sym effect.bytes)
          (subst (λ (n : ℕ). IsZeroAt c.args.at n old.bytes) long
          (zero_read old.bytes c.read_at.new.into c.args.at effect.read (c.is_zero.ensures.0 c.if-is_zero.true)));
    }

pub returns-clause-reaches : goal.returns-clause-reaches
returns-clause-reaches g c observable =
    let n = length c.args.buffer.now in
    let long : length c.read_at.new.into ≡ length c.args.buffer.now = c.read_at.auto.into in
    let written : length c.fill.new.self ≡ length c.args.buffer.now = c.fill.ensures.len ∙ long in
    let observable_mid = IsObservable-call _ _ _ c.read_at.ensures.call observable in
    let sound = g.met.D.Disk.sound c.read_at.new.self observable_mid in
    Reaches-then (IsApart c.args.at n) (IsZeroAt c.args.at n) _ _ _ c.write_at.result sound
    (Keeps-read (IsApart c.args.at n) _ _ _ observable c.args.at c.read_at.new.into c.read_at.ensures)
    (Reaches-write (IsApart c.args.at n) (IsZeroAt c.args.at n) _ _ c.write_at.result observable_mid
    c.args.at c.fill.new.self
    (λ place apart. subst (λ (m : ℕ). IsApart c.args.at m place) (sym written) apart) c.write_at.ensures
    (zero_written (g.D.Disk.state c.read_at.new.self).bytes c.fill.new.self c.args.at n
    (c.fill.ensures.after (λ y is. search rules) ∙ ap (λ (m : ℕ). zeros m) long)
    (omega (arith, sound.size, c.read_at.ensures.call.size, c.requires.within))))

-- the bytes that were read
area_read : (image buffer : List ℕ) (at n : ℕ) → length buffer ≡ n → buffer ≡ take (length buffer) (drop at image)
    → buffer ≡ bytes_at image at n
area_read image buffer at n long read = read ∙ ap (λ (k : ℕ). bytes_at image at k) long

pub returns-then-is_zero-clause-makes : goal.returns-then-is_zero-clause-makes
returns-then-is_zero-clause-makes g c observable =
    let old = g.D.Disk.state c.args.disk.now in
    let at = c.args.at in
    let n = length c.args.buffer.now in
    let is = area_read old.bytes c.read_at.new.into at n
    c.read_at.auto.into (c.in_ok-read_at.ensures.observed observable).read in
    let none : clear_writes at n old.bytes ≡ 0 =
    clear_none at n old.bytes (subst (λ (l : List ℕ). IsZeroAt 0 (length l) l) is
    (c.is_zero.ensures.0 c.if-is_zero.true)) in
    Makes-as old _ _ 0 0 (clear_writes at n old.bytes) 0 (sym none) refl
    (Makes-reads old _ c.read_at.result _ c.read_at.ensures.call
    (ReadsOnly-read old _ c.read_at.result at c.read_at.new.into observable c.read_at.ensures))

pub returns-clause-makes : goal.returns-clause-makes
returns-clause-makes g c observable =
    let old = g.D.Disk.state c.args.disk.now in
    let mid = g.D.Disk.state c.read_at.new.self in
    let at = c.args.at in
    let n = length c.args.buffer.now in
    let is = area_read old.bytes c.read_at.new.into at n
    c.read_at.auto.into (c.in_ok-read_at.ensures.observed observable).read in
    let one : clear_writes at n old.bytes ≡ 1 =
    clear_one at n old.bytes (λ none.
    both_ways c.is_zero.result c.if-is_zero.false
    (c.is_zero.ensures.1 (subst (λ (l : List ℕ). IsZeroAt 0 (length l) l) (sym is) none))) in
    let observable_mid = IsObservable-call _ _ _ c.read_at.ensures.call observable in
    Makes-as old _ _ (0 + 1) (0 + 0) (clear_writes at n old.bytes) 0 (omega (arith, one)) (omega arith)
    (Makes-then old mid _ c.write_at.result 0 0 1 0
    (Made-reads old mid (ReadsOnly-read old mid c.read_at.result at
    c.read_at.new.into observable c.read_at.ensures))
    (Makes-write mid _ c.write_at.result observable_mid at c.fill.new.self c.write_at.ensures))

pub returns-in_err-read_at-clause-call : goal.returns-in_err-read_at-clause-call
returns-in_err-read_at-clause-call g c =
    IsCall-fault _ _ _ c.from_residual.result c.from_residual.ensures.0 c.in_err-read_at.ensures.call

pub returns-in_err-read_at-clause-reaches : goal.returns-in_err-read_at-clause-reaches
returns-in_err-read_at-clause-reaches g c observable =
    Reaches-fault _ _ _ _ c.from_residual.result c.from_residual.ensures.0
    (Keeps-read _ _ _ _ observable _ _ c.read_at.ensures)

pub returns-then-is_zero-clause-call : goal.returns-then-is_zero-clause-call
returns-then-is_zero-clause-call g c = IsCall-answered _ _ _ _ c.in_ok-read_at.ensures.call

pub returns-clause-call : goal.returns-clause-call
returns-clause-call g c =
    IsCall-then _ _ _ _ _ (AreCalls-one _ _ _ c.in_ok-read_at.ensures.call) c.write_at.ensures.call

pub returns-in_err-read_at-clause-makes : goal.returns-in_err-read_at-clause-makes
returns-in_err-read_at-clause-makes g c observable =
    let old = g.D.Disk.state c.args.disk.now in
    let mid = g.D.Disk.state c.read_at.new.self in
    Makes-short old mid c.read_at.result c.from_residual.result 0 0
    (clear_writes c.args.at (length c.args.buffer.now) old.bytes) 0 c.from_residual.ensures.0 (omega arith)
    (omega arith)
    (Makes-reads old mid c.read_at.result c.read_at.result c.read_at.ensures.call
    (ReadsOnly-read _ _ _ _ _ observable c.read_at.ensures))
