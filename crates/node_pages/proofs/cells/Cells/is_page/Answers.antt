use Rattle.std.proofs.Common.{sym, ap, ◌∙◌}
use Rattle.std.specs.List.{flat_map}
use Rattle.store_model.specs.Images.{cell_bytes}
use Rattle.store_base.specs.Leads.{model_lead}
use Rattle.node_pages.proofs.PackedLists.{page_of_bytes, bytes_of_page}
use Rattle.node_pages.proofs.cells.Cells.is_page.Goals as goal

pub returns-then-not-has_bytes : goal.returns-then-not-has_bytes
returns-then-not-has_bytes c = (
  λ never. cc,
  λ is. (
      let same = bytes_of_page c.args.self.now (model_lead c.args.lead.now)
      c.args.first c.args.index c.args.page.now c.requires.within is in
      let yes = c.has_bytes.ensures.1 (same.0
      ∙ sym (c.bytes_between.ensures ∙ ap (flat_map cell_bytes) c.run-done.ensures.cells)) in
      absurd (cc)
      ),
)

pub returns : goal.returns
returns c = (
  λ yes. page_of_bytes c.args.self.now (model_lead c.args.lead.now)
      c.args.first c.args.index c.args.page.now c.reveal.ensures.valid c.label.ensures.valid c.requires.within
      (c.has_bytes.ensures.0 c.if-not-has_bytes.false
      ∙ (c.bytes_between.ensures ∙ ap (flat_map cell_bytes) c.run-done.ensures.cells))
      (sym c.label.ensures.value ∙ c.eq.ensures.same.0 yes ∙ c.label-2.ensures.value),
  λ is. c.eq.ensures.same.1 (c.label.ensures.value
      ∙ (bytes_of_page c.args.self.now (model_lead c.args.lead.now)
      c.args.first c.args.index c.args.page.now c.requires.within is).1 ∙ sym c.label-2.ensures.value),
)
