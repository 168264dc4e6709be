use Rattle.std.proofs.Common.{◌≡◌, ◌++◌, take}
use Rattle.store_model.specs.Pages.{group_pages}
use Rattle.store_base.specs.Leads.{model_lead}
use Rattle.node_pages.proofs.group.append_group.Given as goal

abbrev pub invariant-loop-index : goal.invariant-loop-index
invariant-loop-index l = l.pages ≡ l.fn.pages
    ++ take l.index (group_pages l.cells.level (model_lead l.lead) l.cells.cells)
