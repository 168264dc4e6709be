use Rattle.std.proofs.Common.{◌≡◌, ℕ, length, take, drop, sym, ap, ◌∙◌, arith}
use Rattle.std.proofs.lemmas.Option.{none-some, same_Some}
use Rattle.store_model.specs.Parameters.{mark_at}
use Rattle.store_model.specs.Images.{bytes_at, is_flag_set}
use Rattle.gate_journal.proofs.Areas.{marks_end, shadow_end, table_end}
use Rattle.gate_journal.proofs.Reading.{ReadsOnly-read}
use Rattle.gate_journal.proofs.Caches.{ReadsJournal-none, ReadsJournal-call, ReadsJournal-fault}
use Rattle.gate_journal.proofs.journal_cache.JournalCache.load_marks.Goals as goal

pub read_at-requires : goal.read_at-requires
read_at-requires g c =
    omega (
      arith,
      c.mark_at.ensures,
      c.requires.below,
      c.requires.size,
      table_end c.args.slots,
      shadow_end c.args.slots,
      marks_end c.args.slots,
    )

pub returns-then-is_some_and-clause-journal : goal.returns-then-is_some_and-clause-journal
returns-then-is_some_and-clause-journal g c =
    ReadsJournal-none _ _ _ (g.met.D.Disk.sound c.args.disk.now) c.requires.cache

-- nothing is kept of a block whose read failed, and the flag stands as it did
pub returns-in_err-read_at-clause-journal : goal.returns-in_err-read_at-clause-journal
returns-in_err-read_at-clause-journal g c =
    ReadsJournal-fault _ _ _ c.in_err-read_at.field-0.0 c.from_residual.result c.from_residual.ensures.0
    (ReadsJournal-call _ _ _ _ c.in_err-read_at.ensures.call
    (λ observable. ReadsOnly-read _ _ _ _ _ observable c.in_err-read_at.ensures)
    (λ observable.
    let observable_old = sym c.read_at.ensures.call.observable ∙ observable in
    record {
      flag_is = λ set is. (c.requires.cache observable_old).flag_is set is
          ∙ ap is_flag_set (sym (c.in_err-read_at.ensures.observed observable_old).bytes);
      marks_are = λ first is. absurd (none-some first is);
    }))

-- the block that was read is the one that is kept, and the flag stands as it did
pub returns-clause-journal : goal.returns-clause-journal
returns-clause-journal g c =
    let old = (g.D.Disk.state c.args.disk.now).bytes in
    let bytes = c.read_at.new.into in
    let long : length bytes ≡ 4096 = omega (arith, c.read_at.auto.into) in
    ReadsJournal-call _ _ _ _ c.in_ok-read_at.ensures.call
    (λ observable. ReadsOnly-read _ _ _ _ _ observable c.in_ok-read_at.ensures)
    (λ observable.
    let observable_old = sym c.read_at.ensures.call.observable ∙ observable in
    let effect = c.in_ok-read_at.ensures.observed observable_old in
    record {
      flag_is = λ set is. (c.requires.cache observable_old).flag_is set is ∙ ap is_flag_set (sym effect.bytes);
      marks_are = λ first is.
          effect.read ∙ ap (λ (n : ℕ). take n (drop c.mark_at.result old)) long
          ∙ ap (λ (n : ℕ). bytes_at old n 4096) (c.mark_at.ensures ∙ ap mark_at (same_Some c.args.first first is))
          ∙ ap (λ l. bytes_at l (mark_at first) 4096) (sym effect.bytes);
    })
