use Rattle.std.proofs.Common.{◌++◌, ◌∷◌, [], take, length, sym, ap, ◌∙◌, arith, append_assoc}
use Rattle.std.specs.Prelude.{slice_get}
use Rattle.std.proofs.lemmas.List.{take_all}
use Rattle.store_model.specs.Pages.{group_pages}
use Rattle.store_base.specs.Leads.{model_lead}
use Rattle.node_pages.proofs.Runs.{runs_few, length-pages_from, all_pages}
use Rattle.node_pages.proofs.Joined.{take_next}
use Rattle.node_pages.proofs.group.append_group.Goals as goal

pub page-requires-clause-number : goal.page-requires-clause-number
page-requires-clause-number c =
    omega (
      arith,
      c.reveal.ensures.valid.few,
      c.loop-index-test.true,
      c.page_count-index-end.ensures,
      runs_few c.args.cells.now.level c.args.cells.now.cells,
    )

pub loop-index-preserved : goal.loop-index-preserved
loop-index-preserved c =
    let level = c.args.cells.now.level in
    let lead = model_lead c.args.lead.now in
    let cells = c.args.cells.now.cells in
    let whole = group_pages level lead cells in
    c.in_ok-push.ensures.ok ∙ ap (λ ps. ps ++ c.page.result ∷ []) c.loop-index.invariant
    ∙ append_assoc c.args.pages.now (take c.loop-index.index whole) (c.page.result ∷ [])
    ∙ ap (λ ps. c.args.pages.now ++ ps)
    (sym (take_next whole c.loop-index.index c.page.result
    (ap (λ ps. slice_get ps c.loop-index.index) (sym (all_pages level lead cells)) ∙ c.page.ensures)))

pub returns-clause-ok : goal.returns-clause-ok
returns-clause-ok c =
    let level = c.args.cells.now.level in
    let lead = model_lead c.args.lead.now in
    let cells = c.args.cells.now.cells in
    let whole = group_pages level lead cells in
    c.loop-index.invariant
    ∙ ap (λ ps. c.args.pages.now ++ ps)
    (take_all c.loop-index.index whole
    (omega (
      arith,
      c.loop-index-test.false,
      c.page_count-index-end.ensures,
      length-pages_from level lead 0 cells,
      ap length (all_pages level lead cells),
    )))
