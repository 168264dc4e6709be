use Rattle.store_model.proofs.PagesLemmasSplits.{groups-split, level_pages-split, groups-above, level_pages-above}
use Rattle.model_laws.proofs.laws.pages.keys_part_the_levels_below.Goals as goal

pub returns-clause-groups_below : goal.returns-clause-groups_below
returns-clause-groups_below c = groups-split

pub returns-clause-pages_below : goal.returns-clause-pages_below
returns-clause-pages_below c = level_pages-split

pub returns-clause-groups_above : goal.returns-clause-groups_above
returns-clause-groups_above c = groups-above

pub returns-clause-pages_above : goal.returns-clause-pages_above
returns-clause-pages_above c = level_pages-above
