use Rattle.std.proofs.Common.{◌≡◌, take, sym, subst, arith}
use Rattle.store_base.specs.Leads.{model_lead}
use Rattle.skip_groups.specs.Floors.{last_of, lead_from}
use Rattle.skip_groups.proofs.Insertions.{lead_at, lead_at_start}
use Rattle.skip_groups.proofs.cells.lead_before.Goals as goal

pub returns : goal.returns
returns c = lead_at c.args.page.now.cells c.args.at c.key.result (model_lead c.args.lead.now)
    (omega arith) c.requires c.key.ensures.value

pub returns-then-at-eq0 : goal.returns-then-at-eq0
returns-then-at-eq0 c =
    subst (λ n. model_lead c.args.lead.now ≡ lead_from (last_of (take n c.args.page.now.cells))
    (model_lead c.args.lead.now)) (sym c.if-at-eq0.true)
    (lead_at_start c.args.page.now.cells (model_lead c.args.lead.now))
