use Rattle.std.proofs.Common.{◌≡◌, ℕ, ◌+◌, ◌-◌, Bool, Option, Some, Ok, true, false, refl}
use Rattle.std.proofs.Common.{sym, ap, subst, arith}
use Rattle.std.specs.Option.{option_map}
use Rattle.std.proofs.lemmas.Bool.{false≢true}
use Rattle.std.proofs.lemmas.Result.{err_from_is_err_and}
use Rattle.store_base.specs.Leads.{model_lead}
use Rattle.store_model.specs.Labels.{Label}
use Rattle.store_model.specs.Labels.Lead.{Start}
use Rattle.store_model.specs.Pages.{Cell, Page}
use Rattle.node_pages.specs.CellRefs.{cell_of}
use Rattle.table_walk.specs.Lookups.{FindsPage}
use Rattle.table_walk.specs.Walked.{IsInPlace}
use Rattle.table_walk.specs.Streams.{Progress, progress}
use Rattle.table_walk.specs.Walks.{WalksCells, WalksCell}
use Rattle.table_walk.proofs.BelowCells.{walks_group_below, walks_pair, walks_no_pair}
use Rattle.table_walk.proofs.CellSteps.{cells_begin, cells_next, cells_refuted, cells_wrong, cells_done}
use Rattle.table_walk.proofs.GroupSteps.{runs_begin}
use Rattle.table_walk.proofs.GroupEnds.{runs_absent, runs_overfull, runs_failed, runs_next, runs_done, runs_refuted}
use Rattle.table_walk.proofs.StepLemmas.{keeps_first, keeps_then, looks_once, runs_first, runs_vain, runs_end, runs_met}
use Rattle.table_walk.proofs.StepLemmas.{runs_below, runs_early, runs_whole}
use Rattle.table_walk.proofs.walk.+walk.Goals as goal

pub walk_cell-returns-then-level-gt0-clause-call : goal.walk_cell-returns-then-level-gt0-clause-call
walk_cell-returns-then-level-gt0-clause-call g t c =
    let d = g.W.Draw.drawn c.args.guide.now.draw.now in
    let old = g.S.ReadSlots.state c.args.slots.now in
    let new = g.S.ReadSlots.state c.walk_group.new.slots in
    let cell = cell_of c.args.cell.now in
    walks_group_below d old new (c.args.level - 1)
    c.args.level cell (progress c.args.met.now.left c.args.met.now.last)
    (progress c.walk_group.new.met.left c.walk_group.new.met.last) (g.P.TakesPairs.took c.args.sink.now)
    (g.P.TakesPairs.took c.walk_group.new.sink)
    (omega (arith, c.if-level-gt0.true)) c.walk_group.result c.walk_group.ensures.call

pub walk_cell-returns-clause-call : goal.walk_cell-returns-clause-call
walk_cell-returns-clause-call g t c =
    let d = g.W.Draw.drawn c.args.guide.now.draw.now in
    let state = g.S.ReadSlots.state c.args.slots.now in
    let after : Progress = record { left = c.args.met.now.left; last = Some c.args.cell.now.key } in
    let cell = cell_of c.args.cell.now in
    let zero_is : c.args.level ≡ 0 = omega (arith, c.if-level-gt0.false) in
    subst (λ (n : ℕ). WalksCell d state state n cell (progress c.args.met.now.left c.args.met.now.last) after
    (g.P.TakesPairs.took c.args.sink.now) (g.P.TakesPairs.took c.take.new.self) (Ok true)) (sym zero_is)
    (walks_pair d state cell c.in-Some.value.now (progress c.args.met.now.left c.args.met.now.last) after
    (g.P.TakesPairs.took c.args.sink.now) (g.P.TakesPairs.took c.take.new.self)
    (ap (option_map (λ value. value.now)) c.in-Some.is) refl refl c.take.ensures.took)

pub walk_cells-loop-i-init : goal.walk_cells-loop-i-init
walk_cells-loop-i-init g t c = (
  cells_begin (g.W.Draw.drawn c.args.guide.now.draw.now) _
      c.args.page.now (progress c.args.met.now.left c.args.met.now.last) _,
  g.met.S.ReadSlots.follows_refl c.args.slots.now,
  g.met.P.TakesPairs.keeps_refl c.args.sink.now,
  keeps_first c.args.guide.now.entries.now c.args.steps.now c.args.met.now.left,
)

pub walk_cells-returns-then-not-is_next-clause-call :
    goal.walk_cells-returns-then-not-is_next-clause-call
walk_cells-returns-then-not-is_next-clause-call g t c =
    let d = g.W.Draw.drawn c.args.guide.now.draw.now in
    let page = c.args.page.now in
    let cell = cell_of c.cell_ref-cell.result in
    cells_wrong d (g.S.ReadSlots.state c.args.slots.now) (g.S.ReadSlots.state c.loop-i.slots)
    (g.S.ReadSlots.state c.loop-i.slots) page c.loop-i.i cell (progress c.args.met.now.left c.args.met.now.last)
    (progress c.loop-i.met.left c.loop-i.met.last) (progress c.loop-i.met.left c.loop-i.met.last)
    (g.P.TakesPairs.took c.args.sink.now) (g.P.TakesPairs.took c.loop-i.sink)
    (g.P.TakesPairs.took c.loop-i.sink) c.loop-i.invariant.0 c.cell_ref-cell.ensures
    (λ both. let place = subst (λ (l : Label). IsInPlace d l.level l.lead l.index c.loop-i.i cell.key)
    (sym c.label-label.ensures.value) both.0 in
    let yes : c.is_next.result ≡ true = c.is_next.ensures.1 (place, both.1) in
    let no = c.if-not-is_next.true in absurd (cc))

pub walk_cells-returns-then-not-branch-clause-call :
    goal.walk_cells-returns-then-not-branch-clause-call
walk_cells-returns-then-not-branch-clause-call g t c =
    let d = g.W.Draw.drawn c.args.guide.now.draw.now in
    let now = g.S.ReadSlots.state c.loop-i.slots in
    let new = g.S.ReadSlots.state c.walk_cell.new.slots in
    let page = c.args.page.now in
    let cell = cell_of c.cell_ref-cell.result in
    let next = c.is_next.ensures.0 c.if-not-is_next.false in
    let place = subst (λ (l : Label). IsInPlace d l.level l.lead l.index c.loop-i.i cell.key)
    c.label-label.ensures.value next.0 in
    let walks = subst (λ (n : ℕ). WalksCell d now new n cell (progress c.loop-i.met.left c.loop-i.met.last)
    (progress c.walk_cell.new.met.left c.walk_cell.new.met.last) (g.P.TakesPairs.took c.loop-i.sink)
    (g.P.TakesPairs.took c.walk_cell.new.sink) (Ok c.in_ok-walk_cell.field-0))
    c.level.ensures c.in_ok-walk_cell.ensures.call in
    cells_refuted d (g.S.ReadSlots.state c.args.slots.now) now new page c.loop-i.i cell
    (progress c.args.met.now.left c.args.met.now.last) (progress c.loop-i.met.left c.loop-i.met.last)
    (progress c.walk_cell.new.met.left c.walk_cell.new.met.last)
    (g.P.TakesPairs.took c.args.sink.now) (g.P.TakesPairs.took c.loop-i.sink)
    (g.P.TakesPairs.took c.walk_cell.new.sink) c.loop-i.invariant.0 c.cell_ref-cell.ensures place next.1
    (subst (λ (b : Bool). WalksCell d now new page.label.level cell (progress c.loop-i.met.left c.loop-i.met.last)
    (progress c.walk_cell.new.met.left c.walk_cell.new.met.last) (g.P.TakesPairs.took c.loop-i.sink)
    (g.P.TakesPairs.took c.walk_cell.new.sink) (Ok b)) c.if-not-branch.true walks)

pub walk_cells-loop-i-preserved : goal.walk_cells-loop-i-preserved
walk_cells-loop-i-preserved g t c =
    let d = g.W.Draw.drawn c.args.guide.now.draw.now in
    let now = g.S.ReadSlots.state c.loop-i.slots in
    let new = g.S.ReadSlots.state c.walk_cell.new.slots in
    let page = c.args.page.now in
    let cell = cell_of c.cell_ref-cell.result in
    let next = c.is_next.ensures.0 c.if-not-is_next.false in
    let place = subst (λ (l : Label). IsInPlace d l.level l.lead l.index c.loop-i.i cell.key)
    c.label-label.ensures.value next.0 in
    let walks = subst (λ (n : ℕ). WalksCell d now new n cell (progress c.loop-i.met.left c.loop-i.met.last)
    (progress c.walk_cell.new.met.left c.walk_cell.new.met.last) (g.P.TakesPairs.took c.loop-i.sink)
    (g.P.TakesPairs.took c.walk_cell.new.sink) (Ok c.in_ok-walk_cell.field-0))
    c.level.ensures c.in_ok-walk_cell.ensures.call in (
      cells_next d (g.S.ReadSlots.state c.args.slots.now) now new page c.loop-i.i cell
          (progress c.args.met.now.left c.args.met.now.last) (progress c.loop-i.met.left c.loop-i.met.last)
          (progress c.walk_cell.new.met.left c.walk_cell.new.met.last)
          (g.P.TakesPairs.took c.args.sink.now) (g.P.TakesPairs.took c.loop-i.sink)
          (g.P.TakesPairs.took c.walk_cell.new.sink) c.loop-i.invariant.0 c.cell_ref-cell.ensures place next.1
          (subst (λ (b : Bool). WalksCell d now new page.label.level cell (progress c.loop-i.met.left c.loop-i.met.last)
          (progress c.walk_cell.new.met.left c.walk_cell.new.met.last) (g.P.TakesPairs.took c.loop-i.sink)
          (g.P.TakesPairs.took c.walk_cell.new.sink) (Ok b)) c.if-not-branch.false walks),
      g.met.S.ReadSlots.follows_trans c.args.slots.now c.loop-i.slots c.walk_cell.new.slots c.loop-i.invariant.1
          c.in_ok-walk_cell.ensures.follows,
      g.met.P.TakesPairs.keeps_trans c.args.sink.now c.loop-i.sink c.walk_cell.new.sink c.loop-i.invariant.2
          c.in_ok-walk_cell.ensures.keeps,
      keeps_then c.args.guide.now.entries.now c.args.steps.now c.loop-i.steps c.walk_cell.new.steps
          c.args.met.now.left c.loop-i.met.left c.walk_cell.new.met.left 0 c.loop-i.invariant.3
          (c.in_ok-walk_cell.ensures.steps.whole c.if-not-branch.false),
    )

pub walk_cells-returns-clause-call : goal.walk_cells-returns-clause-call
walk_cells-returns-clause-call g t c =
    cells_done (g.W.Draw.drawn c.args.guide.now.draw.now) _ _
    c.args.page.now c.loop-i.i (progress c.args.met.now.left c.args.met.now.last)
    (progress c.loop-i.met.left c.loop-i.met.last) _ _
    c.loop-i.invariant.0 (omega (arith, c.loop-i-test.false, c.len-i-end.ensures.value))

pub walk_group-runs-init : goal.walk_group-runs-init
walk_group-runs-init g t c = (
  runs_begin (g.W.Draw.drawn c.args.guide.now.draw.now) _ c.args.level (model_lead c.args.lead.now)
      (progress c.args.met.now.left c.args.met.now.last) _,
  g.met.S.ReadSlots.follows_refl c.args.slots.now,
  g.met.P.TakesPairs.keeps_refl c.args.sink.now,
  runs_first c.args.guide.now.entries.now c.args.steps.now c.args.met.now.left,
)

pub walk_group-returns-in_default-clause-call :
    goal.walk_group-returns-in_default-clause-call
walk_group-returns-in_default-clause-call g t c =
    let d = g.W.Draw.drawn c.args.guide.now.draw.now in
    let now = g.S.ReadSlots.state c.runs.slots in
    let seen = g.S.ReadSlots.state c.look_up.new.slots in
    let taken : Progress = record { left = c.runs.met.left; last = c.runs.met.last } in
    runs_absent d (g.S.ReadSlots.state c.args.slots.now) now seen c.args.level (model_lead c.args.lead.now)
    c.runs.index (progress c.args.met.now.left c.args.met.now.last) (progress c.runs.met.left c.runs.met.last) taken
    (g.P.TakesPairs.took c.args.sink.now) (g.P.TakesPairs.took c.runs.sink)
    c.runs.invariant.0 c.label_in_group-label.result c.label_in_group-label.ensures c.may_end.result (record {
      left = refl;
      last = refl;
    })
    (subst (λ (o : Option Page). FindsPage d now seen c.label_in_group-label.result (Ok o))
    c.in_default.is c.in_ok-look_up.ensures.call) c.may_end.ensures

pub walk_group-returns-then-met-eq0-clause-call : goal.walk_group-returns-then-met-eq0-clause-call
walk_group-returns-then-met-eq0-clause-call g t c =
    let d = g.W.Draw.drawn c.args.guide.now.draw.now in
    let now = g.S.ReadSlots.state c.runs.slots in
    let seen = g.S.ReadSlots.state c.look_up.new.slots in
    let taken : Progress = record { left = c.runs.met.left; last = c.runs.met.last } in
    runs_overfull d (g.S.ReadSlots.state c.args.slots.now) now seen c.args.level (model_lead c.args.lead.now)
    c.runs.index (progress c.args.met.now.left c.args.met.now.last) (progress c.runs.met.left c.runs.met.last) taken
    (g.P.TakesPairs.took c.args.sink.now) (g.P.TakesPairs.took c.runs.sink)
    c.runs.invariant.0 c.label_in_group-label.result c.label_in_group-label.ensures c.in-Some.page
    (subst (λ (o : Option Page). FindsPage d now seen c.label_in_group-label.result (Ok o))
    c.in-Some.is c.in_ok-look_up.ensures.call) (record { left = refl; last = refl }) c.if-met-eq0.true

pub walk_group-returns-in_err-walk_cells-clause-call :
    goal.walk_group-returns-in_err-walk_cells-clause-call
walk_group-returns-in_err-walk_cells-clause-call g t c =
    let d = g.W.Draw.drawn c.args.guide.now.draw.now in
    let now = g.S.ReadSlots.state c.runs.slots in
    let seen = g.S.ReadSlots.state c.look_up.new.slots in
    let taken : Progress = record { left = c.runs.met.left - 1; last = c.runs.met.last } in
    let some = c.if-met-eq0.false in
    let p = err_from_is_err_and c.from_residual-in_err-walk_cells.result c.from_residual-in_err-walk_cells.ensures.1 in
    rw (p.1, p.2) (runs_failed d (g.S.ReadSlots.state c.args.slots.now) now seen
    c.args.level (model_lead c.args.lead.now) c.runs.index (progress c.args.met.now.left c.args.met.now.last)
    (progress c.runs.met.left c.runs.met.last) taken
    (g.P.TakesPairs.took c.args.sink.now) (g.P.TakesPairs.took c.runs.sink)
    c.runs.invariant.0 c.label_in_group-label.result c.label_in_group-label.ensures c.in-Some.page
    (subst (λ (o : Option Page). FindsPage d now seen c.label_in_group-label.result (Ok o))
    c.in-Some.is c.in_ok-look_up.ensures.call)
    (progress c.walk_cells.new.met.left c.walk_cells.new.met.last) (g.S.ReadSlots.state c.walk_cells.new.slots)
    (g.P.TakesPairs.took c.walk_cells.new.sink) (record {
      left = omega (arith, some);
      last = refl;
    }) c.in_err-walk_cells.field-0.0 c.in_err-walk_cells.ensures.call)

pub walk_group-returns-then-not-branch-clause-call :
    goal.walk_group-returns-then-not-branch-clause-call
walk_group-returns-then-not-branch-clause-call g t c =
    let d = g.W.Draw.drawn c.args.guide.now.draw.now in
    let now = g.S.ReadSlots.state c.runs.slots in
    let seen = g.S.ReadSlots.state c.look_up.new.slots in
    let new = g.S.ReadSlots.state c.walk_cells.new.slots in
    let taken : Progress = record { left = c.runs.met.left - 1; last = c.runs.met.last } in
    let some = c.if-met-eq0.false in
    runs_refuted d (g.S.ReadSlots.state c.args.slots.now) now seen c.args.level (model_lead c.args.lead.now)
    c.runs.index (progress c.args.met.now.left c.args.met.now.last) (progress c.runs.met.left c.runs.met.last) taken
    (g.P.TakesPairs.took c.args.sink.now) (g.P.TakesPairs.took c.runs.sink)
    c.runs.invariant.0 c.label_in_group-label.result c.label_in_group-label.ensures c.in-Some.page
    (subst (λ (o : Option Page). FindsPage d now seen c.label_in_group-label.result (Ok o))
    c.in-Some.is c.in_ok-look_up.ensures.call)
    (progress c.walk_cells.new.met.left c.walk_cells.new.met.last) new (g.P.TakesPairs.took c.walk_cells.new.sink)
    (record { left = omega (arith, some); last = refl })
    (subst (λ (b : Bool). WalksCells d seen new c.in-Some.page taken
    (progress c.walk_cells.new.met.left c.walk_cells.new.met.last) (g.P.TakesPairs.took c.runs.sink)
    (g.P.TakesPairs.took c.walk_cells.new.sink) (Ok b)) c.if-not-branch.true c.in_ok-walk_cells.ensures.call)

pub walk_group-returns-then-is_last-clause-call : goal.walk_group-returns-then-is_last-clause-call
walk_group-returns-then-is_last-clause-call g t c =
    let d = g.W.Draw.drawn c.args.guide.now.draw.now in
    let now = g.S.ReadSlots.state c.runs.slots in
    let seen = g.S.ReadSlots.state c.look_up.new.slots in
    let new = g.S.ReadSlots.state c.walk_cells.new.slots in
    let taken : Progress = record { left = c.runs.met.left - 1; last = c.runs.met.last } in
    let some = c.if-met-eq0.false in
    runs_done d (g.S.ReadSlots.state c.args.slots.now) now seen c.args.level (model_lead c.args.lead.now)
    c.runs.index (progress c.args.met.now.left c.args.met.now.last) (progress c.runs.met.left c.runs.met.last) taken
    (g.P.TakesPairs.took c.args.sink.now) (g.P.TakesPairs.took c.runs.sink)
    c.runs.invariant.0 c.label_in_group-label.result c.label_in_group-label.ensures c.in-Some.page
    (subst (λ (o : Option Page). FindsPage d now seen c.label_in_group-label.result (Ok o))
    c.in-Some.is c.in_ok-look_up.ensures.call)
    (progress c.walk_cells.new.met.left c.walk_cells.new.met.last) new (g.P.TakesPairs.took c.walk_cells.new.sink)
    (record { left = omega (arith, some); last = refl })
    (subst (λ (b : Bool). WalksCells d seen new c.in-Some.page taken
    (progress c.walk_cells.new.met.left c.walk_cells.new.met.last) (g.P.TakesPairs.took c.runs.sink)
    (g.P.TakesPairs.took c.walk_cells.new.sink) (Ok b)) c.if-not-branch.false c.in_ok-walk_cells.ensures.call)
    (c.is_last.ensures.0 c.if-is_last.true)

pub walk_group-runs-preserved : goal.walk_group-runs-preserved
walk_group-runs-preserved g t c =
    let entries = c.args.guide.now.entries.now in
    let looks = looks_once entries c.runs.steps c.tick.new.self c.look_up.new.steps c.tick.ensures
    c.in_ok-look_up.ensures.steps in
    let some = c.if-met-eq0.false in
    let met = runs_met entries c.args.steps.now c.runs.steps c.look_up.new.steps c.args.met.now.left c.runs.met.left
    (c.runs.met.left - 1) c.runs.index c.runs.invariant.3 looks (omega (arith, some)) in
    let d = g.W.Draw.drawn c.args.guide.now.draw.now in
    let now = g.S.ReadSlots.state c.runs.slots in
    let seen = g.S.ReadSlots.state c.look_up.new.slots in
    let new = g.S.ReadSlots.state c.walk_cells.new.slots in
    let taken : Progress = record { left = c.runs.met.left - 1; last = c.runs.met.last } in
    let follows = g.met.S.ReadSlots.follows_trans c.args.slots.now c.runs.slots c.look_up.new.slots c.runs.invariant.1
    c.in_ok-look_up.ensures.follows in (
      runs_next d (g.S.ReadSlots.state c.args.slots.now) now seen c.args.level (model_lead c.args.lead.now)
          c.runs.index (progress c.args.met.now.left c.args.met.now.last)
          (progress c.runs.met.left c.runs.met.last) taken
          (g.P.TakesPairs.took c.args.sink.now) (g.P.TakesPairs.took c.runs.sink)
          c.runs.invariant.0 c.label_in_group-label.result c.label_in_group-label.ensures c.in-Some.page
          (subst (λ (o : Option Page). FindsPage d now seen c.label_in_group-label.result (Ok o))
          c.in-Some.is c.in_ok-look_up.ensures.call)
          (progress c.walk_cells.new.met.left c.walk_cells.new.met.last) new (g.P.TakesPairs.took c.walk_cells.new.sink)
          (record { left = omega (arith, some); last = refl })
          (subst (λ (b : Bool). WalksCells d seen new c.in-Some.page taken
          (progress c.walk_cells.new.met.left c.walk_cells.new.met.last) (g.P.TakesPairs.took c.runs.sink)
          (g.P.TakesPairs.took c.walk_cells.new.sink) (Ok b)) c.if-not-branch.false c.in_ok-walk_cells.ensures.call)
          (λ room. let yes : c.is_last.result ≡ true = c.is_last.ensures.1 room in let no = c.if-is_last.false in cc),
      g.met.S.ReadSlots.follows_trans c.args.slots.now c.look_up.new.slots c.walk_cells.new.slots follows
          c.in_ok-walk_cells.ensures.follows,
      g.met.P.TakesPairs.keeps_trans c.args.sink.now c.runs.sink c.walk_cells.new.sink c.runs.invariant.2
          c.in_ok-walk_cells.ensures.keeps,
      runs_below entries c.args.steps.now c.look_up.new.steps c.walk_cells.new.steps c.args.met.now.left
          (c.runs.met.left - 1) c.walk_cells.new.met.left (c.runs.index + 1) met
          (c.in_ok-walk_cells.ensures.steps.whole c.if-not-branch.false),
    )

pub walk_cell-returns-in_default-clause-call : goal.walk_cell-returns-in_default-clause-call
walk_cell-returns-in_default-clause-call g t c =
    let d = g.W.Draw.drawn c.args.guide.now.draw.now in
    let state = g.S.ReadSlots.state c.args.slots.now in
    let took = g.P.TakesPairs.took c.args.sink.now in
    let cell = cell_of c.args.cell.now in
    let zero_is : c.args.level ≡ 0 = omega (arith, c.if-level-gt0.false) in
    subst (λ (n : ℕ). WalksCell d state state n cell (progress c.args.met.now.left c.args.met.now.last)
    (progress c.args.met.now.left c.args.met.now.last) took took (Ok false)) (sym zero_is)
    (walks_no_pair d state cell (progress c.args.met.now.left c.args.met.now.last) took
    (ap (option_map (λ value. value.now)) c.in_default.is))

pub walk_group-returns-in_default-clause-steps : goal.walk_group-returns-in_default-clause-steps
walk_group-returns-in_default-clause-steps g t c =
    let entries = c.args.guide.now.entries.now in
    let looks = looks_once entries c.runs.steps c.tick.new.self c.look_up.new.steps c.tick.ensures
    c.in_ok-look_up.ensures.steps in
    record {
      most = runs_vain entries c.args.steps.now c.runs.steps c.look_up.new.steps c.args.met.now.left c.runs.met.left
          c.runs.index c.runs.invariant.3 looks;
      whole = λ yes. runs_end entries c.args.steps.now c.runs.steps c.look_up.new.steps c.args.met.now.left
          c.runs.met.left c.runs.index (model_lead c.args.lead.now) c.runs.invariant.3 looks (c.may_end.ensures.0 yes);
    }

pub walk_group-returns-then-met-eq0-clause-steps : goal.walk_group-returns-then-met-eq0-clause-steps
walk_group-returns-then-met-eq0-clause-steps g t c =
    let entries = c.args.guide.now.entries.now in
    let looks = looks_once entries c.runs.steps c.tick.new.self c.look_up.new.steps c.tick.ensures
    c.in_ok-look_up.ensures.steps in
    record {
      most = runs_vain entries c.args.steps.now c.runs.steps c.look_up.new.steps c.args.met.now.left c.runs.met.left
          c.runs.index c.runs.invariant.3 looks;
      whole = λ no. absurd (false≢true no);
    }

pub walk_group-returns-in_err-walk_cells-clause-steps : goal.walk_group-returns-in_err-walk_cells-clause-steps
walk_group-returns-in_err-walk_cells-clause-steps g t c =
    let entries = c.args.guide.now.entries.now in
    let looks = looks_once entries c.runs.steps c.tick.new.self c.look_up.new.steps c.tick.ensures
    c.in_ok-look_up.ensures.steps in
    let some = c.if-met-eq0.false in
    let met = runs_met entries c.args.steps.now c.runs.steps c.look_up.new.steps c.args.met.now.left c.runs.met.left
    (c.runs.met.left - 1) c.runs.index c.runs.invariant.3 looks (omega (arith, some)) in
    let p = err_from_is_err_and c.from_residual-in_err-walk_cells.result c.from_residual-in_err-walk_cells.ensures.1 in
    rw (p.1, p.2) (record {
      most = runs_early entries c.args.steps.now c.look_up.new.steps c.walk_cells.new.steps c.args.met.now.left
          (c.runs.met.left - 1) c.walk_cells.new.met.left c.runs.index met c.in_err-walk_cells.ensures.steps.most;
      whole = tt;
    })

pub walk_group-returns-then-not-branch-clause-steps : goal.walk_group-returns-then-not-branch-clause-steps
walk_group-returns-then-not-branch-clause-steps g t c =
    let entries = c.args.guide.now.entries.now in
    let looks = looks_once entries c.runs.steps c.tick.new.self c.look_up.new.steps c.tick.ensures
    c.in_ok-look_up.ensures.steps in
    let some = c.if-met-eq0.false in
    let met = runs_met entries c.args.steps.now c.runs.steps c.look_up.new.steps c.args.met.now.left c.runs.met.left
    (c.runs.met.left - 1) c.runs.index c.runs.invariant.3 looks (omega (arith, some)) in
    record {
      most = runs_early entries c.args.steps.now c.look_up.new.steps c.walk_cells.new.steps c.args.met.now.left
          (c.runs.met.left - 1) c.walk_cells.new.met.left c.runs.index met c.in_ok-walk_cells.ensures.steps.most;
      whole = λ no. absurd (false≢true no);
    }

pub walk_group-returns-then-is_last-clause-steps : goal.walk_group-returns-then-is_last-clause-steps
walk_group-returns-then-is_last-clause-steps g t c =
    let entries = c.args.guide.now.entries.now in
    let looks = looks_once entries c.runs.steps c.tick.new.self c.look_up.new.steps c.tick.ensures
    c.in_ok-look_up.ensures.steps in
    let some = c.if-met-eq0.false in
    let met = runs_met entries c.args.steps.now c.runs.steps c.look_up.new.steps c.args.met.now.left c.runs.met.left
    (c.runs.met.left - 1) c.runs.index c.runs.invariant.3 looks (omega (arith, some)) in
    let below = runs_below entries c.args.steps.now c.look_up.new.steps c.walk_cells.new.steps c.args.met.now.left
    (c.runs.met.left - 1) c.walk_cells.new.met.left (c.runs.index + 1) met
    (c.in_ok-walk_cells.ensures.steps.whole c.if-not-branch.false) in
    record {
      most = runs_whole entries c.args.steps.now c.walk_cells.new.steps c.args.met.now.left c.walk_cells.new.met.left
          (c.runs.index + 1) Start below;
      whole = λ yes. runs_whole entries c.args.steps.now c.walk_cells.new.steps c.args.met.now.left
          c.walk_cells.new.met.left (c.runs.index + 1) (model_lead c.args.lead.now) below;
    }
