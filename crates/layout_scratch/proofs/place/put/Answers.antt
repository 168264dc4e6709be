use Rattle.std.proofs.Common.{Some, None}
use Rattle.layout_scratch.proofs.Placing.{put_where_found}
use Rattle.layout_scratch.proofs.place.put.Goals as goal

pub returns-in-Some-clause-value : goal.returns-in-Some-clause-value
returns-in-Some-clause-value g c =
    put_where_found (g.W.Draw.drawn c.args.draw.now)
    c.args.pages.now c.args.places.now c.args.number c.start_from-start.result c.get.result.now c.label.result
    c.first_free.result (Some c.in-Some.at) c.requires.slots
    c.get.ensures c.label.ensures.value c.start_from-start.ensures.value
    (c.first_free.ensures.value c.args.pages.now c.requires.numbers) c.in-Some.is

pub returns-in_default-clause-value : goal.returns-in_default-clause-value
returns-in_default-clause-value g c =
    put_where_found (g.W.Draw.drawn c.args.draw.now)
    c.args.pages.now c.args.places.now c.args.number c.start_from-start.result c.get.result.now c.label.result
    c.first_free.result None c.requires.slots
    c.get.ensures c.label.ensures.value c.start_from-start.ensures.value
    (c.first_free.ensures.value c.args.pages.now c.requires.numbers) c.in_default.is
