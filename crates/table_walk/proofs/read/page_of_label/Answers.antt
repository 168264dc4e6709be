use Rattle.table_walk.proofs.IndexReading.{label_decoded, page_decoded, only_decoded}
use Rattle.std.proofs.Common.{refl}
use Rattle.table_walk.proofs.read.page_of_label.Goals as goal

pub returns-in-Some-clause-label : goal.returns-in-Some-clause-label
returns-in-Some-clause-label c =
    label_decoded c.args.slot.now c.args.label.now _
    c.label_in.result c.decode_page.result c.in-Some.is (c.if-eq.ensures.same.0 refl)
    c.label_in.ensures.page c.decode_page.ensures.found

pub returns-in-Some-clause-found : goal.returns-in-Some-clause-found
returns-in-Some-clause-found c = page_decoded c.args.slot.now c.decode_page.result c.decode_page.ensures.found

pub returns-in-Some-clause-only : goal.returns-in-Some-clause-only
returns-in-Some-clause-only c page valid same label =
    only_decoded c.args.slot.now c.decode_page.result page c.decode_page.ensures.only valid same
