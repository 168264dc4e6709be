use Rattle.std.proofs.Common.{◌≡◌, Result, Ok, Err, refl, sym, ap, subst, ◌∙◌}
use Rattle.std.proofs.lemmas.Result.{err_from_is_err_and}
use Rattle.store_base.specs.declared.fault.DiskFault.{DiskFault}
use Rattle.store_model.specs.Parameters.{Parameters}
use Rattle.store_model.specs.PageMaps.{PageMap}
use Rattle.store_model.specs.Trees.{empty_tree}
use Rattle.disk_model.specs.DiskState.{IsObservable}
use Rattle.gate_journal.specs.Changes.{AreChanges}
use Rattle.seeded_draw.specs.declared.any.AnyDraw.{AnyDraw}
use Rattle.seeded_draw.specs.AnyDrawn.{any_draw}
use Rattle.page_store.specs.Settling.{LeadsTo, SettlesSlots}
use Rattle.page_store.specs.StagedState.{StagedState, without_changes}
use Rattle.image_check.specs.declared.fault.ApplyFault.{ApplyFault}
use Rattle.image_check.specs.declared.fault.ApplyFault.TheVariants as apply
use Rattle.staged_tree.specs.declared.load.LoadAnswer.{LoadAnswer}
use Rattle.staged_tree.specs.declared.load.LoadAnswer.TheVariants as answers
use Rattle.staged_tree.specs.StagedTree.{TreeList}
use Rattle.staged_tree.specs.Steps.{EndsStep}
use Rattle.staged_tree.specs.UsedSlots.{used_changes}
use Rattle.staged_tree.proofs.LoadSteps.{unmoved, leads, load_ends, loaded_holds}
use Rattle.staged_tree.proofs.UsedLemmas.{used_of, pages_are_placed, slots_of_layout, count_of_layout}
use Rattle.staged_tree.proofs.load.settle_layout.Goals as goal

pub of-requires-clause-length : goal.of-requires-clause-length
of-requires-clause-length g c = let some = c.requires.tree
    in slots_of_layout some.0 c.args.params.now c.args.layout.now some.1.1 ∙ sym c.slots.ensures.value

pub of-requires-clause-pages : goal.of-requires-clause-pages
of-requires-clause-pages g c = let some = c.requires.tree
    in pages_are_placed some.0 c.args.params.now c.args.layout.now some.1.0 some.1.1

pub returns-in_default-clause-call : goal.returns-in_default-clause-call
returns-in_default-clause-call g c t fitting is =
    unmoved g.D.Disk.state empty_tree t (λ answer. answer ≡ answers.Done)
    c.args.params.now c.args.list.now.pages (Err apply.NoMemory)
    c.requires.list.fitting c.requires.list.pages c.requires.runs (g.met.D.Disk.sound c.args.list.now.pages.disk)
    refl (λ e. cc) tt tt

pub settle_slots-settled-requires-clause-changes : goal.settle_slots-settled-requires-clause-changes
settle_slots-settled-requires-clause-changes g c =
    let state = g.D.Disk.state in
    let p = c.args.params.now in
    let old = c.args.list.now.pages in
    let changes = used_changes c.in-Ok.changes.layout.now c.in-Ok.changes.numbers.items in
    let some = c.requires.tree in
    let mid_is : c.discard.new.self ≡ without_changes c.args.list.now.pages =
    c.discard.ensures ∙ ap (λ (v : TreeList g.row.D.Denot). without_changes v.pages) c.list.view_is
    ∙ ap without_changes c.forget.ensures.pages in
    let used = used_of some.0 p c.in-Ok.changes.layout.now c.in-Ok.changes.numbers.items (c.in-Ok.ensures ∙ some.1.1)
    c.in-Ok.changes.used in
    let count_is = count_of_layout some.0 p c.args.layout.now c.used.result some.1.0 some.1.1 c.used.ensures in
    subst (λ (x : StagedState g.row.D.Denot AnyDraw). AreChanges x.params.slots changes) (sym mid_is)
    (subst (λ (q : Parameters). AreChanges q.slots changes) (sym c.requires.list.pages.params) used.0)

pub settle_slots-settled-requires-clause-table : goal.settle_slots-settled-requires-clause-table
settle_slots-settled-requires-clause-table g c =
    let state = g.D.Disk.state in
    let p = c.args.params.now in
    let old = c.args.list.now.pages in
    let changes = used_changes c.in-Ok.changes.layout.now c.in-Ok.changes.numbers.items in
    let some = c.requires.tree in
    let mid_is : c.discard.new.self ≡ without_changes c.args.list.now.pages =
    c.discard.ensures ∙ ap (λ (v : TreeList g.row.D.Denot). without_changes v.pages) c.list.view_is
    ∙ ap without_changes c.forget.ensures.pages in
    let used = used_of some.0 p c.in-Ok.changes.layout.now c.in-Ok.changes.numbers.items (c.in-Ok.ensures ∙ some.1.1)
    c.in-Ok.changes.used in
    let count_is = count_of_layout some.0 p c.args.layout.now c.used.result some.1.0 some.1.1 c.used.ensures in
    subst (λ (x : StagedState g.row.D.Denot AnyDraw). IsObservable (state x.disk)
    → (m : PageMap) × LeadsTo (any_draw x.draw) x.params changes (state x.disk).bytes m c.used.result) (sym mid_is)
    (λ observable. (
      _,
      leads state some.0 p old
          g.met.D.Disk.sound c.requires.list.fitting c.requires.list.pages c.requires.runs some.1.0 changes
          used.0 used.1 c.used.result count_is observable,
    ))

pub take_up-requires : goal.take_up-requires
take_up-requires g c =
    let state = g.D.Disk.state in
    let p = c.args.params.now in
    let old = c.args.list.now.pages in
    let changes = used_changes c.in-Ok.changes.layout.now c.in-Ok.changes.numbers.items in
    let some = c.requires.tree in
    let mid_is : c.discard.new.self ≡ without_changes c.args.list.now.pages =
    c.discard.ensures ∙ ap (λ (v : TreeList g.row.D.Denot). without_changes v.pages) c.list.view_is
    ∙ ap without_changes c.forget.ensures.pages in
    let used = used_of some.0 p c.in-Ok.changes.layout.now c.in-Ok.changes.numbers.items (c.in-Ok.ensures ∙ some.1.1)
    c.in-Ok.changes.used in
    let count_is = count_of_layout some.0 p c.args.layout.now c.used.result some.1.0 some.1.1 c.used.ensures in
    let drawn = ap (λ (v : TreeList g.row.D.Denot). any_draw v.draw) c.list.view_is ∙ ap any_draw c.forget.ensures.draw
    ∙ c.requires.list.draw in
    let settles = subst (λ (x : StagedState g.row.D.Denot AnyDraw).
    SettlesSlots {T = Unit {0}} {E = DiskFault} state any_draw changes c.used.result x
    c.settle_slots-settled.new.self c.settle_slots-settled.result) mid_is c.settle_slots-settled.ensures.call in
    loaded_holds state some.0 p old g.met.D.Disk.sound c.requires.list.fitting c.requires.list.pages c.requires.runs
    some.1.0 changes used.0 used.1 c.used.result count_is c.settle_slots-settled.new.self c.list.inside.draw drawn
    c.settle_slots-settled.result settles

pub returns-clause-call : goal.returns-clause-call
returns-clause-call g c t fitting is =
    let state = g.D.Disk.state in
    let p = c.args.params.now in
    let old = c.args.list.now.pages in
    let changes = used_changes c.in-Ok.changes.layout.now c.in-Ok.changes.numbers.items in
    let mid_is : c.discard.new.self ≡ without_changes c.args.list.now.pages =
    c.discard.ensures ∙ ap (λ (v : TreeList g.row.D.Denot). without_changes v.pages) c.list.view_is
    ∙ ap without_changes c.forget.ensures.pages in
    let used = used_of t p c.in-Ok.changes.layout.now c.in-Ok.changes.numbers.items (c.in-Ok.ensures ∙ is)
    c.in-Ok.changes.used in
    let count_is = count_of_layout t p c.args.layout.now c.used.result fitting is c.used.ensures in
    let new = c.settle_slots-settled.new.self in
    let settles = subst (λ (x : StagedState g.row.D.Denot AnyDraw).
    SettlesSlots {T = Unit {0}} {E = DiskFault} state any_draw changes c.used.result x new
    (Ok c.in_ok-settled.field-0)) mid_is c.in_ok-settled.ensures.call in
    subst (λ (x : StagedState g.row.D.Denot AnyDraw).
    EndsStep state empty_tree t (λ answer. answer ≡ answers.Done) p old x (Ok answers.Done))
    (sym c.take_up.ensures.pages)
    (load_ends state t p old g.met.D.Disk.sound c.requires.list.fitting c.requires.list.pages c.requires.runs fitting
    changes used.0 used.1 c.used.result count_is new (Ok c.in_ok-settled.field-0) settles)

pub returns-in_err-settled-clause-call : goal.returns-in_err-settled-clause-call
returns-in_err-settled-clause-call g c t fitting is =
    let state = g.D.Disk.state in
    let p = c.args.params.now in
    let old = c.args.list.now.pages in
    let changes = used_changes c.in-Ok.changes.layout.now c.in-Ok.changes.numbers.items in
    let mid_is : c.discard.new.self ≡ without_changes c.args.list.now.pages =
    c.discard.ensures ∙ ap (λ (v : TreeList g.row.D.Denot). without_changes v.pages) c.list.view_is
    ∙ ap without_changes c.forget.ensures.pages in
    let used = used_of t p c.in-Ok.changes.layout.now c.in-Ok.changes.numbers.items (c.in-Ok.ensures ∙ is)
    c.in-Ok.changes.used in
    let count_is = count_of_layout t p c.args.layout.now c.used.result fitting is c.used.ensures in
    let new = c.settle_slots-settled.new.self in
    let failed = err_from_is_err_and c.from_residual.result c.from_residual.ensures.1 in
    let settles = subst (λ (x : StagedState g.row.D.Denot AnyDraw).
    SettlesSlots {T = Unit {0}} {E = DiskFault} state any_draw changes c.used.result x new
    (Err c.in_err-settled.field-0.0)) mid_is c.in_err-settled.ensures.call in
    subst (λ (r : Result LoadAnswer ApplyFault). EndsStep state empty_tree t
    (λ answer. answer ≡ answers.Done) p old c.take_up.new.self.pages r) (sym (failed.1 ∙ ap Err failed.2))
    (subst (λ (x : StagedState g.row.D.Denot AnyDraw).
    EndsStep {A = LoadAnswer} state empty_tree t (λ answer. answer ≡ answers.Done) p old x (Err apply.Disk))
    (sym c.take_up.ensures.pages)
    (load_ends state t p old g.met.D.Disk.sound c.requires.list.fitting c.requires.list.pages c.requires.runs fitting
    changes used.0 used.1 c.used.result count_is new (Err c.in_err-settled.field-0.0) settles))
