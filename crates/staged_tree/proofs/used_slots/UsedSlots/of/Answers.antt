use Rattle.std.proofs.Common.{◌≡◌, ◌∙◌, ◌+◌, ◌++◌, ◌∷◌, [], ap, subst, sym, List, length, length-append, ℕ, Vec, Global}
use Rattle.std.proofs.Common.{rules, arith}
use Rattle.staged_tree.specs.UsedSlots.{AreUsed}
use Rattle.staged_tree.proofs.UsedLemmas.{used_none, used_next}
use Rattle.staged_tree.proofs.used_slots.UsedSlots.of.Goals.{then-is_some+in_ok-push, else-is_some}
use Rattle.staged_tree.proofs.used_slots.UsedSlots.of.Goals as goal

pub loop-at-init : goal.loop-at-init
loop-at-init c = record {
  used = subst (λ (items : List ℕ). AreUsed c.args.layout.now 0 items) (sym c.new-numbers.ensures.items)
      (used_none c.args.layout.now);
  few = search rules;
}

pub loop-at-preserved : goal.loop-at-preserved
loop-at-preserved c =
    let below = c.loop-at-test.true in
    let slots = c.requires.length in
    let next = used_next c.args.layout.now c.loop-at.at c.loop-at.numbers.items c.is_some.result
    (omega (arith, below, slots)) c.requires.pages (λ held is. c.is_some.ensures ∙ c.look.ensures.page held is)
    c.loop-at.invariant.used in
    elim c.if-is_some.branch [
      | then-is_some+in_ok-push w ↦
          let items_are : c.if-is_some.numbers.items ≡ c.loop-at.numbers.items ++ c.loop-at.at ∷ [] =
          ap (λ (v : Vec ℕ Global). v.items) w.numbers-is ∙ w.in_ok-push.ensures.items in
          let few = c.loop-at.invariant.few in
          let long = ap length items_are ∙ length-append c.loop-at.numbers.items (c.loop-at.at ∷ []) in
          record {
            used = subst (λ (items : List ℕ). AreUsed c.args.layout.now (c.loop-at.at + 1) items) (sym items_are)
                (next.0 w.if-is_some.true);
            few = omega (arith, few, long);
          }
      | else-is_some w ↦
          let same : c.loop-at.numbers.items ≡ c.if-is_some.numbers.items =
          ap (λ (v : Vec ℕ Global). v.items) (sym w.numbers-is) in
          let few = c.loop-at.invariant.few in
          let long = ap length same in
          record {
            used = subst (λ (items : List ℕ). AreUsed c.args.layout.now (c.loop-at.at + 1) items) same
                (next.1 w.if-is_some.false);
            few = omega (arith, few, long);
          }
    ]
