use Rattle.std.proofs.Common.{rules}
use Rattle.std.proofs.lemmas.Fn.{always_returns_same}
use Rattle.store_model.specs.Labels.{label_bytes, label_cmp}
use Rattle.node_pages.specs.PageEntries.{entry_of}
use Rattle.node_pages.proofs.PlaceLemmas.{searched_through}
use Rattle.node_pages.proofs.map.place_of.Goals as goal

-- the closure compares the label of a page with the given one
pub returns : goal.returns
returns c =
    let by_label = c.binary_search_by.ensures.position (λ page. label_cmp page.value.label c.args.label.now)
    (always_returns_same _ _ _ (λ a r f' k. search rules)) in
    searched_through entry_of _ c.args.pages.now (label_bytes c.args.label.now)
    c.binary_search_by.result c.requires c.binary_search_by.ensures.bound by_label
