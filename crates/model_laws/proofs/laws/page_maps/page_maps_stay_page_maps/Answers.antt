use Rattle.store_model.proofs.PageMapsLemmas.{IsPageMap-empty, IsPageMap-with_page, IsPageMap-without_page}
use Rattle.store_model.proofs.PageMapsLemmas.{IsPageMap-map_of_pages, IsPageMap-pages_of_pairs}
use Rattle.model_laws.proofs.laws.page_maps.page_maps_stay_page_maps.Goals as goal

pub returns-clause-empty : goal.returns-clause-empty
returns-clause-empty c = IsPageMap-empty

pub returns-clause-with_page : goal.returns-clause-with_page
returns-clause-with_page c = IsPageMap-with_page

pub returns-clause-without_page : goal.returns-clause-without_page
returns-clause-without_page c = IsPageMap-without_page

pub returns-clause-of_list : goal.returns-clause-of_list
returns-clause-of_list c = IsPageMap-map_of_pages

pub returns-clause-of_pairs : goal.returns-clause-of_pairs
returns-clause-of_pairs c = IsPageMap-pages_of_pairs
