use Rattle.table_walk.specs.IndexLookups.{answer_of}
use Rattle.table_walk.proofs.LookupLemmas.{found_by_index}
use Rattle.table_walk.proofs.lookup.look_up.Goals as goal

pub find_page-requires : goal.find_page-requires
find_page-requires g c = c.requires.index.there

pub returns-clause-call : goal.returns-clause-call
returns-clause-call g c = found_by_index _ (g.W.Draw.digests c.args.guide.now.draw.now) _ _
    c.args.guide.now.entries.now c.args.label.now c.digest_from-digest.result
    (answer_of c.find_page.result c.find_page.new.found)
    (g.met.W.Draw.lawful c.args.guide.now.draw.now)
    c.digest_from-digest.ensures.valid c.digest_from-digest.ensures.value c.requires.index c.find_page.ensures.call
