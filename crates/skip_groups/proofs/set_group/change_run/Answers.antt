use Rattle.std.proofs.Common.{◌+◌, ◌<◌, arith}
use Rattle.store_base.specs.Leads.{model_lead}
use Rattle.node_pages.proofs.Runs.{runs_few}
use Rattle.skip_groups.proofs.RunChanges.{run_puts, run_drops}
use Rattle.skip_groups.proofs.set_group.change_run.Goals as goal
use Rattle.skip_groups.proofs.set_group.change_run.Goals.{then-i-filled+in_ok-put_page, else-i-filled+in_ok-drop_page}

pub put_page-requires-clause-room : goal.put_page-requires-clause-room
put_page-requires-clause-room g c o =
    let h = c.loop-i.invariant.call in
    let s = h.observed (h.hidden o) in
    omega (
      arith,
      s.room,
      c.requires.room (h.hidden o),
      c.loop-i-test.true,
      c.max-all.ensures,
      c.page_count-filled.ensures,
      runs_few c.args.cells.now.level c.args.cells.now.cells,
    )

pub loop-i-preserved : goal.loop-i-preserved
loop-i-preserved g c =
    let old = g.P.Pages.state c.args.pages.now in
    let now = g.P.Pages.state c.loop-i.pages in
    let lead = model_lead c.args.lead.now in
    let list = c.args.cells.now in
    let h = c.loop-i.invariant.call in
    let filled = rw c.requires.valid.level_is at c.page_count-filled.ensures in
    let below : c.args.first + c.loop-i.i < 4294967296 = omega (arith, c.loop-i-test.true) in
    elim c.if-i-filled.branch [
      | then-i-filled+in_ok-put_page w ↦ rw w.pages-is (record {
        call = run_puts old c.args.level lead c.args.first c.args.count list.cells now
            (g.P.Pages.state w.put_page.new.pages) c.loop-i.i h below _
            (omega (arith, w.if-i-filled.true, filled)) (rw c.requires.valid.level_is at w.in_ok-put_page.ensures.call);
        follows = g.met.P.Pages.follows_trans _ _ _ c.loop-i.invariant.follows w.in_ok-put_page.ensures.follows;
      })
      | else-i-filled+in_ok-drop_page w ↦ rw w.pages-is (record {
        call = run_drops old c.args.level lead c.args.first c.args.count list.cells now
            (g.P.Pages.state w.drop_page.new.self) c.loop-i.i h below _ w.label_in_group.result w.label_in_group.ensures
            (omega (arith, w.if-i-filled.false, filled))
            (omega (arith, w.if-i-filled.false, c.loop-i-test.true, c.max-all.ensures))
            w.in_ok-drop_page.ensures.call;
        follows = g.met.P.Pages.follows_trans _ _ _ c.loop-i.invariant.follows w.in_ok-drop_page.ensures.follows;
      })
    ]
