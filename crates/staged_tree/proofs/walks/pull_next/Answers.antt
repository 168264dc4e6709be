use Rattle.std.proofs.Common.{◌∙◌, Ok, Err, refl, sym, ap, subst}
use Rattle.disk_model.specs.DiskState.{IsObservable}
use Rattle.seeded_draw.specs.declared.any.AnyDraw.{AnyDraw}
use Rattle.seeded_draw.specs.AnyDrawn.{any_draw}
use Rattle.skip_levels.specs.PagePairs.{KeepsList}
use Rattle.page_store.specs.StagedState.{StagedState, pages_state, without_changes}
use Rattle.image_check.specs.declared.fault.ApplyFault.{ApplyFault}
use Rattle.image_check.specs.Faults.{apply_fault_of}
use Rattle.staged_tree.specs.StagedTree.{TreeList, IsListAt}
use Rattle.staged_tree.specs.Steps.{EndsStep}
use Rattle.staged_tree.specs.Walks.{IsNextFor}
use Rattle.staged_tree.proofs.ListSteps.{over_table, table_behind, keeps_stays}
use Rattle.staged_tree.proofs.StagedSteps.{failed_step}
use Rattle.staged_tree.proofs.WalkSteps.{leaves, stay_read, back_read, read_ends, next_told, stands_after, stands_still}
use Rattle.staged_tree.proofs.walks.pull_next.Goals as goal

pub invariant_of-pairs : goal.invariant_of-pairs
invariant_of-pairs g c =
    let state = g.D.Disk.state in
    let s = c.pairs.inside in
    let mid = c.next.new.pages in
    let some = c.requires.list in
    let list = subst (λ (v : TreeList g.row.D.Denot). IsListAt state some.0 some.1.0 v) (sym c.pairs.view_is)
    some.1.1 in
    let runs = ap (λ (v : TreeList g.row.D.Denot). v.pages.is_spent) c.pairs.view_is ∙ c.requires.runs in
    subst (λ (x : StagedState g.row.D.Denot AnyDraw).
    KeepsList (any_draw s.draw) s.is_whole (pages_state state x) s.walk.known) (sym c.discard.ensures)
    (keeps_stays state (any_draw s.draw) s.is_whole s.walk.known mid (without_changes mid)
    (back_read state some.0 some.1.0 _ mid list runs c.in-Ok.ensures.follows (λ x. x.unchanged) c.in-Ok.ensures.call)
    (keeps_stays state (any_draw s.draw) s.is_whole s.walk.known s.pages mid
    (stay_read state some.0 some.1.0 _ mid list runs c.in-Ok.ensures.follows (λ x. x.unchanged) c.in-Ok.ensures.call)
    c.pairs.invariant))

pub give_up-requires : goal.give_up-requires
give_up-requires g c =
    let state = g.D.Disk.state in
    let some = c.requires.list in
    let list = subst (λ (v : TreeList g.row.D.Denot). IsListAt state some.0 some.1.0 v) (sym c.pairs.view_is)
    some.1.1 in
    let runs = ap (λ (v : TreeList g.row.D.Denot). v.pages.is_spent) c.pairs.view_is ∙ c.requires.runs in
    let mid : TreeList g.row.D.Denot = record {
      pages = c.next.new.pages;
      draw = c.pairs.inside.draw;
      is_whole = c.pairs.inside.is_whole;
    } in
    table_behind state some.0 some.0 some.1.0 _ (over_table list runs) runs mid (c.in-Err.ensures.follows, refl)

pub returns-in-Ok-clause-call : goal.returns-in-Ok-clause-call
returns-in-Ok-clause-call g c t p list =
    let state = g.D.Disk.state in
    let here = subst (λ (v : TreeList g.row.D.Denot). IsListAt state t p v) (sym c.pairs.view_is) list in
    let runs = ap (λ (v : TreeList g.row.D.Denot). v.pages.is_spent) c.pairs.view_is ∙ c.requires.runs in
    subst (λ (x : StagedState g.row.D.Denot AnyDraw).
    EndsStep state t t (IsNextFor t p c.args.stream.now) p c.args.pairs.now.pages x (Ok c.in-Ok.pair))
    (sym c.discard.ensures)
    (subst (λ (v : TreeList g.row.D.Denot).
    EndsStep state t t (IsNextFor t p c.args.stream.now) p v.pages (without_changes c.next.new.pages) (Ok c.in-Ok.pair))
    c.pairs.view_is
    (read_ends state t p _ c.next.new.pages here runs c.in-Ok.ensures.follows (λ x. x.unchanged)
    (IsNextFor t p c.args.stream.now) c.in-Ok.pair c.in-Ok.ensures.call (next_told here runs c.in-Ok.pair)))

pub returns-in-Ok-clause-stream : goal.returns-in-Ok-clause-stream
returns-in-Ok-clause-stream g c t p list observable =
    let state = g.D.Disk.state in
    let here = subst (λ (v : TreeList g.row.D.Denot). IsListAt state t p v) (sym c.pairs.view_is) list in
    let runs = ap (λ (v : TreeList g.row.D.Denot). v.pages.is_spent) c.pairs.view_is ∙ c.requires.runs in
    let seen = subst (λ (v : TreeList g.row.D.Denot). IsObservable (state v.pages.disk)) (sym c.pairs.view_is)
    observable
    in
    stands_after here runs c.in-Ok.pair seen (leaves state t p _ c.next.new.pages here runs c.in-Ok.ensures.follows
    (λ x. x.unchanged) c.in-Ok.ensures.call seen)

pub returns-in-Err-clause-call : goal.returns-in-Err-clause-call
returns-in-Err-clause-call g c t p list =
    let state = g.D.Disk.state in
    let here = subst (λ (v : TreeList g.row.D.Denot). IsListAt state t p v) (sym c.pairs.view_is) list in
    let runs = ap (λ (v : TreeList g.row.D.Denot). v.pages.is_spent) c.pairs.view_is ∙ c.requires.runs in
    subst (λ (f : ApplyFault). EndsStep state t t
    (IsNextFor t p c.args.stream.now) p c.args.pairs.now.pages c.give_up.new.pairs.pages (Err f)) (sym c.into.ensures)
    (subst (λ (x : StagedState g.row.D.Denot AnyDraw).
    EndsStep state t t (IsNextFor t p c.args.stream.now) p c.args.pairs.now.pages x
    (Err (apply_fault_of c.in-Err.fault))) (sym c.give_up.ensures.pages)
    (subst (λ (v : TreeList g.row.D.Denot).
    EndsStep state t t (IsNextFor t p c.args.stream.now) p v.pages (without_changes c.next.new.pages)
    (Err (apply_fault_of c.in-Err.fault))) c.pairs.view_is
    (failed_step state t t (IsNextFor t p c.args.stream.now) p c.pairs.inside.pages c.next.new.pages here.fitting
    here.pages runs c.in-Err.ensures.follows c.in-Err.fault c.in-Err.ensures.call.faults)))

pub returns-in-Err-clause-stream : goal.returns-in-Err-clause-stream
returns-in-Err-clause-stream g c t p list observable =
    let state = g.D.Disk.state in
    let here = subst (λ (v : TreeList g.row.D.Denot). IsListAt state t p v) (sym c.pairs.view_is) list in
    let runs = ap (λ (v : TreeList g.row.D.Denot). v.pages.is_spent) c.pairs.view_is ∙ c.requires.runs in
    let seen = subst (λ (v : TreeList g.row.D.Denot). IsObservable (state v.pages.disk)) (sym c.pairs.view_is)
    observable
    in
    stands_still here runs seen (leaves state t p _ c.next.new.pages here runs c.in-Err.ensures.follows
    (λ x. x.unchanged) c.in-Err.ensures.call seen)
