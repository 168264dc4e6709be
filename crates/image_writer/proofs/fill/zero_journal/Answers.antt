use Rattle.std.proofs.Common.{rules, ◌≡◌, ℕ, ◌-◌, ◌*◌, ◌/◌, refl, subst, ◌∙◌, arith}
use Rattle.store_model.specs.Parameters.{table_at}
use Rattle.gate_journal.specs.Places.{IsZeroAt}
use Rattle.gate_journal.proofs.Areas.{table_blocks, shadow_end, marks_end}
use Rattle.gate_journal.proofs.Calls.{observable_after, Reaches-fault, Made-as}
use Rattle.image_writer.specs.Filling.{OutsideJournal, IsJournalZero}
use Rattle.image_writer.proofs.Fills.{journal_keeps, journal_more}
use Rattle.image_writer.proofs.fill.zero_journal.Goals as goal

pub returns-in_err-write_at-clause-reaches : goal.returns-in_err-write_at-clause-reaches
returns-in_err-write_at-clause-reaches g c observable =
    let slots = c.args.slots in
    let block = c.loop-block.block in
    let old = g.D.Disk.state c.args.disk.now in
    let mid = g.D.Disk.state c.loop-block.disk in
    let new = g.D.Disk.state c.write_at.new.self in
    let observable_mid = observable_after old mid _ c.loop-block.invariant.calls observable in
    Reaches-fault (OutsideJournal slots) (IsJournalZero slots) old new c.from_residual.result c.from_residual.ensures.0
    (journal_keeps slots block old mid new observable_mid (g.met.D.Disk.sound c.loop-block.disk observable_mid)
    c.loop-block.auto.block
    (omega (arith, c.loop-block-test.true, c.table_at.ensures.value, table_blocks slots))
    (c.loop-block.invariant.calls.size ∙ c.requires.size) (c.loop-block.invariant.comes observable) c.write_at.result
    c.write_at.ensures)

pub loop-block-preserved : goal.loop-block-preserved
loop-block-preserved g c =
    record {
      calls = search rules;
      comes = λ observable.
          let slots = c.args.slots in
          let block = c.loop-block.block in
          let old = g.D.Disk.state c.args.disk.now in
          let mid = g.D.Disk.state c.loop-block.disk in
          let new = g.D.Disk.state c.write_at.new.self in
          let observable_mid = observable_after old mid _ c.loop-block.invariant.calls observable in
          journal_more slots block old mid new observable_mid (g.met.D.Disk.sound c.loop-block.disk observable_mid)
          c.loop-block.auto.block
          (omega (arith, c.loop-block-test.true, c.table_at.ensures.value, table_blocks slots))
          (c.loop-block.invariant.calls.size ∙ c.requires.size) (c.loop-block.invariant.comes observable)
          c.in_ok-write_at.ensures;
    }

pub returns-clause-reaches : goal.returns-clause-reaches
returns-clause-reaches g c observable =
    let slots = c.args.slots in
    let end : 4096 * (c.loop-block.block - 1) ≡ table_at slots 0 - 4096 =
    omega (
      arith,
      c.loop-block-test.false,
      c.loop-block.auto.block-end,
      c.table_at.ensures.value,
      table_blocks slots,
      shadow_end slots,
      marks_end slots,
    ) in
    let comes = c.loop-block.invariant.comes observable in
    record {
      keeps = comes.keeps;
      done = subst (λ (n : ℕ). IsZeroAt 4096 n (g.D.Disk.state c.loop-block.disk).bytes) end comes.done;
    }

pub returns-clause-made : goal.returns-clause-made
returns-clause-made g c observable =
    let slots = c.args.slots in
    let end : c.loop-block.block - 1 ≡ table_at slots 0 / 4096 - 1 =
    omega (
      arith,
      c.loop-block-test.false,
      c.loop-block.auto.block-end,
      c.table_at.ensures.value,
      table_blocks slots,
      shadow_end slots,
      marks_end slots,
    ) in
    let none : 0 ≡ 0 = refl in
    Made-as (g.D.Disk.state c.args.disk.now) (g.D.Disk.state c.loop-block.disk) (c.loop-block.block - 1) 0
    (table_at slots 0 / 4096 - 1) 0 end none (c.loop-block.invariant.comes observable).made
