use Rattle.std.proofs.Common.{◌≡◌, ◌+◌, ◌<◌, length, sym, ◌∙◌, arith}
use Rattle.rising_pages.proofs.FreeLemmas.{self_before, first_behind, first_before, first_nowhere}
use Rattle.rising_pages.proofs.free.first_round.Goals as goal

pub returns-then-behind-slots-clause-first : goal.returns-then-behind-slots-clause-first
returns-then-behind-slots-clause-first c = λ table are.
    let next = c.args.next.now in
    let found = c.first_from-behind.ensures in
    let at = c.first_from-behind.result in
    let long : length c.first_from-behind.new.next ≡ length next = c.first_from-behind.auto.next in
    let high : at + 1 < length next = omega (arith, c.if-behind-slots.true) in
    sym
    (first_behind table next c.args.start c.requires.leads.some are c.requires.within at found.behind high
    (self_before c.first_from-behind.new.next next at found.same (omega (arith, long)) (omega arith) found.free)
    found.passed)

pub returns-then-before-slots-clause-first : goal.returns-then-before-slots-clause-first
returns-then-before-slots-clause-first c = λ table are.
    let next = c.args.next.now in
    let mid = c.first_from-behind.new.next in
    let end = c.first_from-before.new.next in
    let found = c.first_from-before.ensures in
    let at = c.first_from-before.result in
    let mid_long : length mid ≡ length next = c.first_from-behind.auto.next in
    let end_long : length end ≡ length mid = c.first_from-before.auto.next in
    let high : at + 1 < length next = omega (arith, c.if-before-slots.true) in
    sym
    (first_before table next c.args.start c.requires.leads.some are c.requires.within at high
    (self_before end next at (found.same ∙ c.first_from-behind.ensures.same) (omega (arith, mid_long, end_long))
    (omega arith) found.free)
    (λ i from to. c.first_from-behind.ensures.passed i from (omega (arith, c.if-behind-slots.false)))
    (λ i to self. found.passed i (omega arith) to
    (self_before next mid i (sym c.first_from-behind.ensures.same) (omega arith) (omega (arith, mid_long)) self)))

pub returns-else-before-slots-clause-first : goal.returns-else-before-slots-clause-first
returns-else-before-slots-clause-first c = λ table are.
    let next = c.args.next.now in
    let mid = c.first_from-behind.new.next in
    let mid_long : length mid ≡ length next = c.first_from-behind.auto.next in
    sym
    (first_nowhere table next c.args.start c.requires.leads.some are c.requires.within
    (λ i to self. c.first_from-before.ensures.passed i (omega arith) (omega (arith, c.if-before-slots.false, mid_long))
    (self_before next mid i (sym c.first_from-behind.ensures.same) (omega arith) (omega (arith, mid_long)) self)))
