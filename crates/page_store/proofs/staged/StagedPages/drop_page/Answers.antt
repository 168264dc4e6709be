use Rattle.store_model.proofs.PageMapsLemmas.{IsPageMap-without_page}
use Rattle.page_store.proofs.staged.StagedPages.drop_page.Goals as goal

pub stage-requires-clause-fits : goal.stage-requires-clause-fits
stage-requires-clause-fits g c = λ m is. IsPageMap-without_page m c.args.label.now is
