use Rattle.std.proofs.Common.{List, Option, refl, sym, ap, ◌∙◌}
use Rattle.script_lines.specs.Sessions.{change_of}
use Rattle.staged_tree.specs.Guards.{Guarded}
use Rattle.image_puts.specs.PutChanges.{HasPutSteps, HasPutAt, pending_of}
use Rattle.image_puts.proofs.PutTurns.{passed_on, rested, written}
use Rattle.image_puts.proofs.put_changes.PutChangesChangeStream.next.Goals as goal
use Rattle.image_puts.proofs.put_changes.PutChangesChangeStream.next.Goals.{in-Some-take+else-put_write}
use Rattle.image_puts.proofs.put_changes.PutChangesChangeStream.next.Goals.{in_default-take}

pub returns-in-Some-clause-next : goal.returns-in-Some-clause-next
returns-in-Some-clause-next g c = record {
  came = λ changes before. passed_on g.S.DumpStream.came c.args.self.now changes before.put c.pass.new.self
      c.in-Some.path c.in-Some.ensures.path c.in-Some.ensures.leads;
  whole = λ changes before. tt;
  failed = λ changes before. tt;
}

pub returns-then-put_write-clause-next : goal.returns-then-put_write-clause-next
returns-then-put_write-clause-next g c =
    let self = c.args.self.now in record {
      came = λ changes before. let steps = rested g.S.DumpStream.came self changes before.put c.pass.new.self
          c.in_default.ensures.path c.in_default.ensures.leads self.pending refl in
          written g.S.DumpStream.came (record self { way = c.pass.new.self }) changes steps.put steps.ended
          c.in-Some-take.place (sym c.in-Some-take.ensures.value) (change_of c.put_write.new.into)
          c.if-put_write.ensures c.take.new.self c.take.ensures.after;
      whole = λ changes before. tt;
      failed = λ changes before. tt;
    }

pub returns-clause-next : goal.returns-clause-next
returns-clause-next g c =
    let self = c.args.self.now in
    let next = c.next_step.ensures.next in
    let enter : (changes : List Guarded) → HasPutAt g.S.DumpStream.came self changes
    → HasPutSteps g.S.DumpStream.came (record self { way = c.pass.new.self; pending = c.take.new.self }) changes =
    λ changes before. rested g.S.DumpStream.came self changes before.put c.pass.new.self c.in_default.ensures.path
    c.in_default.ensures.leads c.take.new.self
    (ap (λ (o : Option _). pending_of o self.step) c.take.ensures.after
    ∙ elim c.match-take.branch [
      | in-Some-take+else-put_write w ↦ sym (ap (λ (o : Option _). pending_of o self.step)
          (sym w.in-Some-take.ensures.value) ∙ w.if-put_write.ensures)
      | in_default-take w ↦ sym (ap (λ (o : Option _). pending_of o self.step) (sym w.in_default-take.ensures.value))
    ]) in
    record {
      came = λ changes before. next.came changes (enter changes before);
      whole = λ changes before. next.whole changes (enter changes before);
      failed = λ changes before. next.failed changes (enter changes before);
    }

pub returns-clause-keeps : goal.returns-clause-keeps
returns-clause-keeps g c start before = c.next_step.ensures.keeps start (record {
  source = before.source;
  to = before.to;
  replaces = before.replaces;
  fresh = before.fresh;
})
