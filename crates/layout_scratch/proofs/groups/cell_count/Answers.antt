use Rattle.std.proofs.Common.{nat_le, sym, ◌∙◌, rules, tests}
use Rattle.std.specs.List.{filter}
use Rattle.std.proofs.lemmas.List.{length-map}
use Rattle.std.proofs.lemmas.Iterator.{YieldsList-from_slice}
use Rattle.std.proofs.lemmas.Iterator.Consumers.{YieldsList-at, count_from_yields_List, YieldsList-from_filter}
use Rattle.store_model.specs.Pages.{cell_on}
use Rattle.layout_scratch.specs.declared.ranked.Ranked.{Ranked}
use Rattle.layout_scratch.proofs.groups.cell_count.Goals as goal

pub returns : goal.returns
returns c =
    let level = c.args.level in
    let stays = λ (r : Ranked). nat_le level r.level in
    count_from_yields_List c.filter.result c.count.result c.count.ensures.ran
    (YieldsList-from_filter _ stays (YieldsList-at c.filter.ensures.source (YieldsList-from_slice c.args.group.now cc))
    c.filter.ensures.closure (λ x b q k. search (rules, tests)))
    ∙ sym (length-map (filter stays c.args.group.now) (λ (r : Ranked). cell_on level r.pair.now))
