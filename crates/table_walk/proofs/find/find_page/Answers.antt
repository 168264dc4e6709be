use Rattle.std.proofs.Common.{◌≡◌, ◌+◌, ◌<◌, Option, Some, None, Ok, false, is_some, refl, sym, length}
use Rattle.std.proofs.Common.{slice_index_or, ap, ◌∙◌, subst, arith}
use Rattle.std.proofs.lemmas.List.{get_or_default}
use Rattle.store_model.specs.Pages.{Page}
use Rattle.table_walk.specs.declared.entry.Entry.{Entry}
use Rattle.table_walk.specs.IndexLookups.{ReadsPage, LooksUp}
use Rattle.table_walk.proofs.Alike.{looked_at_next, looked_at_few}
use Rattle.table_walk.proofs.Looking.{looks_next, looks_beyond}
use Rattle.table_walk.proofs.find.find_page.Goals as goal

abbrev blank : Entry
blank = record { digest = 0; slot = 0 }

-- what is not some is none
none_there : (found : Option Page) → false ≡ is_some found → found ≡ None
none_there None same = refl
none_there (Some page) same = cc

pub returns-then-entry-digest-clause-call : goal.returns-then-entry-digest-clause-call
returns-then-entry-digest-clause-call g c =
    let entries = c.args.entries.now in
    let at = c.loop-at.at in
    let first = c.first_of-first.result in
    let within : at < length entries = omega (arith, c.loop-at-test.true) in
    let old = g.S.ReadSlots.state c.args.slots.now in
    let now = g.S.ReadSlots.state c.loop-at.slots in
    subst (λ (o : Option Page). LooksUp old now entries c.args.label.now c.args.digest (Ok o))
    (sym c.loop-at.invariant.3)
    (looks_beyond old now entries c.args.label.now c.args.digest first at
    (slice_index_or entries at blank) c.first_of-first.ensures.past
    (omega (arith, c.loop-at.auto.at, c.first_of-first.ensures.within)) within
    (λ e. get_or_default entries at e blank within) c.if-entry-digest.true c.loop-at.invariant.0)

pub loop-at-preserved : goal.loop-at-preserved
loop-at-preserved g c =
    let entries = c.args.entries.now in
    let at = c.loop-at.at in
    let old = g.S.ReadSlots.state c.args.slots.now in
    let mid = g.S.ReadSlots.state c.loop-at.slots in
    let new = g.S.ReadSlots.state c.page_in.new.slots in
    let entry = slice_index_or entries at blank in
    let within : at < length entries = omega (arith, c.loop-at-test.true) in
    let none = none_there c.page_in.new.found c.if-is_some.ensures in
    let read = subst (λ (o : Option Page). ReadsPage mid new entry.slot c.args.label.now (Ok o)) none
    c.in_ok-page_in.ensures.call in (
      looks_next old mid new entries c.args.label.now c.args.digest at entry
          (λ e. get_or_default entries at e blank within) c.loop-at.invariant.0 read,
      g.met.S.ReadSlots.follows_trans c.args.slots.now c.loop-at.slots c.page_in.new.slots c.loop-at.invariant.1
          c.in_ok-page_in.ensures.follows,
      looked_at_next entries c.args.digest c.first_of-first.result at c.args.steps.now c.loop-at.steps
          c.tick.new.self c.loop-at.invariant.2
          (λ e. ap (λ (x : Entry). x.digest) (get_or_default entries at e blank within) ∙ c.if-entry-digest.false)
          c.tick.ensures,
      none,
    )

pub returns-then-entry-digest-clause-steps : goal.returns-then-entry-digest-clause-steps
returns-then-entry-digest-clause-steps g c most few =
    looked_at_few c.args.entries.now c.args.digest c.first_of-first.result c.loop-at.at c.args.steps.now c.loop-at.steps
    most c.loop-at.invariant.2 (omega (arith, c.loop-at-test.true)) few

pub returns-in_err-page_in-clause-steps : goal.returns-in_err-page_in-clause-steps
returns-in_err-page_in-clause-steps g c most few =
    let entries = c.args.entries.now in
    let at = c.loop-at.at in
    let first = c.first_of-first.result in
    let within : at < length entries = omega (arith, c.loop-at-test.true) in
    looked_at_few entries c.args.digest first (at + 1) c.args.steps.now c.tick.new.self most
    (looked_at_next entries c.args.digest first at c.args.steps.now c.loop-at.steps c.tick.new.self
    c.loop-at.invariant.2
    (λ e. ap (λ (x : Entry). x.digest) (get_or_default entries at e blank within) ∙ c.if-entry-digest.false)
    c.tick.ensures) (omega (arith, within)) few

pub returns-then-is_some-clause-steps : goal.returns-then-is_some-clause-steps
returns-then-is_some-clause-steps g c most few =
    let entries = c.args.entries.now in
    let at = c.loop-at.at in
    let first = c.first_of-first.result in
    let within : at < length entries = omega (arith, c.loop-at-test.true) in
    looked_at_few entries c.args.digest first (at + 1) c.args.steps.now c.tick.new.self most
    (looked_at_next entries c.args.digest first at c.args.steps.now c.loop-at.steps c.tick.new.self
    c.loop-at.invariant.2
    (λ e. ap (λ (x : Entry). x.digest) (get_or_default entries at e blank within) ∙ c.if-entry-digest.false)
    c.tick.ensures) (omega (arith, within)) few

pub returns-clause-steps : goal.returns-clause-steps
returns-clause-steps g c most few =
    looked_at_few c.args.entries.now c.args.digest c.first_of-first.result c.loop-at.at c.args.steps.now c.loop-at.steps
    most c.loop-at.invariant.2 (omega (arith, c.loop-at.auto.at-end)) few
