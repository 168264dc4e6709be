use Rattle.std.proofs.Common.{Result, sym, ap, subst, ◌∙◌}
use Rattle.store_base.specs.declared.store_fault.Fault.{Fault}
use Rattle.image_check.specs.declared.verdict.Verdict.{Verdict}
use Rattle.image_check.specs.SlotCalls.{ChecksSlots, verdict_in}
use Rattle.image_check.proofs.Searches.{checks_found}
use Rattle.image_check.proofs.slots.check_slots.Goals as goal

-- the verdict by what was found
pub returns-clause-call : goal.returns-clause-call
returns-clause-call g c =
    let p = c.args.params.now in
    let old = g.S.ReadSlots.state c.args.slots.now in
    let new = g.S.ReadSlots.state c.find_contents.new.slots in
    subst (λ (r : Result Verdict Fault). ChecksSlots p old new r)
    (sym (c.verdict_of.ensures ∙ ap verdict_in c.contents_of.ensures))
    (checks_found p old new c.find_contents.result c.find_contents.ensures.call)
