use Rattle.std.proofs.Common.{Some, sym, ◌∙◌, ap}
use Rattle.std.proofs.lemmas.Bool.{false≢true}
use Rattle.store_base.specs.Leads.{model_lead}
use Rattle.store_base.proofs.LabelBytes.{label_bytes-parts, lead_bytes-spelled}
use Rattle.store_base.proofs.label.Label.from_bytes.Goals as goal
use Rattle.store_model.proofs.TreesLemmasBytes.{labels_same}

pub returns-in_err-lead-clause-only : goal.returns-in_err-lead-clause-only
returns-in_err-lead-clause-only c = λ label valid spelled.
    absurd (false≢true (c.in_err-lead.ensures.only label.lead valid.lead
    (lead_bytes-spelled label c.args.bytes.now valid spelled)))

pub returns-clause-found : goal.returns-clause-found
returns-clause-found c =
    label_bytes-parts c.args.bytes.now c.copy_from_slice.new.self (model_lead c.in_ok-lead.lead)
    c.from_be_bytes.result c.told-bytes c.fits-bytes
    c.in_ok-lead.ensures.found.0 c.in_ok-lead.ensures.found.1 c.copy_from_slice.ensures.after c.from_be_bytes.ensures
    c.from_be_bytes.type_inv

pub returns-clause-only : goal.returns-clause-only
returns-clause-only c = λ label valid spelled.
    let found = label_bytes-parts c.args.bytes.now c.copy_from_slice.new.self (model_lead c.in_ok-lead.lead)
    c.from_be_bytes.result c.told-bytes c.fits-bytes
    c.in_ok-lead.ensures.found.0 c.in_ok-lead.ensures.found.1 c.copy_from_slice.ensures.after c.from_be_bytes.ensures
    c.from_be_bytes.type_inv in
    ap Some (labels_same _ label found.0 valid (found.1 ∙ sym spelled))
