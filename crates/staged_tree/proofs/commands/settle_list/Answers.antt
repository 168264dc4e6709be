use Rattle.std.proofs.Common.{◌≡◌, Ok, Err, sym, ap, subst, ◌∙◌}
use Rattle.store_model.specs.Draws.{draw_of}
use Rattle.seeded_draw.specs.declared.any.AnyDraw.{AnyDraw}
use Rattle.seeded_draw.specs.AnyDrawn.{any_draw}
use Rattle.skip_levels.specs.PagePairs.{KeepsList}
use Rattle.page_store.specs.StagedState.{StagedState, pages_state}
use Rattle.staged_tree.specs.StagedTree.{TreeList, IsStagedFor}
use Rattle.staged_tree.specs.Steps.{SettlesAll}
use Rattle.staged_tree.proofs.ListSteps.{keeps_stays, settle_stays, settled_stays, table_behind_settle}
use Rattle.staged_tree.proofs.commands.settle_list.Goals as goal

pub invariant_of-pairs : goal.invariant_of-pairs
invariant_of-pairs g c =
    let state = g.D.Disk.state in
    let s = c.pairs.inside in
    let runs = ap (λ (v : TreeList g.row.D.Denot). v.pages.is_spent) c.pairs.view_is ∙ c.requires.runs in
    subst (λ (x : StagedState g.row.D.Denot AnyDraw).
    KeepsList (any_draw s.draw) s.is_whole (pages_state state x) s.walk.known) (sym c.discard.ensures)
    (keeps_stays state (any_draw s.draw) s.is_whole s.walk.known s.pages _
    (settled_stays state s.pages c.settle.new.self runs c.in-Ok.ensures.call) c.pairs.invariant)

pub invariant_of-pairs-in-Err : goal.invariant_of-pairs-in-Err
invariant_of-pairs-in-Err g c =
    let s = c.pairs.inside in
    let runs = ap (λ (v : TreeList g.row.D.Denot). v.pages.is_spent) c.pairs.view_is ∙ c.requires.runs in
    keeps_stays g.D.Disk.state (any_draw s.draw)
    s.is_whole s.walk.known s.pages c.settle.new.self
    (settle_stays g.D.Disk.state s.pages c.settle.new.self runs c.in-Err.ensures.call) c.pairs.invariant

pub give_up-requires : goal.give_up-requires
give_up-requires g c =
    let state = g.D.Disk.state in
    let s = c.pairs.inside in
    let some = c.requires.staged in
    let runs = ap (λ (v : TreeList g.row.D.Denot). v.pages.is_spent) c.pairs.view_is ∙ c.requires.runs in
    let staged = subst (λ (v : TreeList g.row.D.Denot). IsStagedFor state some.0 some.1.0 some.1.1.0 v.pages
    × (any_draw v.draw ≡ draw_of some.1.1.0)) (sym c.pairs.view_is) some.1.1.1 in
    table_behind_settle state s.pages c.settle.new.self runs
    some.0 some.1.1.0 s.draw staged.0.fitting staged.0.table_is staged.1 c.in-Err.ensures.call

pub returns-in-Ok-clause-call : goal.returns-in-Ok-clause-call
returns-in-Ok-clause-call g c =
    let state = g.D.Disk.state in
    subst (λ (v : TreeList g.row.D.Denot). SettlesAll state v.pages c.discard.new.self (Ok tt)) c.pairs.view_is
    (record { settled = c.settle.new.self; settles = c.in-Ok.ensures.call; new_is = c.discard.ensures })

pub returns-in-Err-clause-call : goal.returns-in-Err-clause-call
returns-in-Err-clause-call g c =
    let state = g.D.Disk.state in
    subst (λ (v : TreeList g.row.D.Denot). SettlesAll state v.pages c.give_up.new.pairs.pages (Err c.in-Err.fault))
    c.pairs.view_is
    (record { settled = c.settle.new.self; settles = c.in-Err.ensures.call; new_is = c.give_up.ensures.pages })
