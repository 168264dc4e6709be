use Rattle.node_pages.proofs.EntryLemmas.{map_of_none}
use Rattle.node_pages.proofs.map.MapPages.new.Goals as goal

pub returns-clause-pages : goal.returns-clause-pages
returns-clause-pages c = rw c.new.ensures.items map_of_none
