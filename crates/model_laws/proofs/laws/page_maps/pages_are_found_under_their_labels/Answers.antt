use Rattle.store_model.proofs.PageMapsLemmas.{page_at-with_page, page_at-without_page, page_at-map_of_pages}
use Rattle.store_model.proofs.PageMapsLemmas.{found_where_listed}
use Rattle.model_laws.proofs.laws.page_maps.pages_are_found_under_their_labels.Goals as goal

pub returns-clause-with_page : goal.returns-clause-with_page
returns-clause-with_page c = page_at-with_page

pub returns-clause-without_page : goal.returns-clause-without_page
returns-clause-without_page c = page_at-without_page

pub returns-clause-of_list : goal.returns-clause-of_list
returns-clause-of_list c = page_at-map_of_pages

pub returns-clause-of_distinct : goal.returns-clause-of_distinct
returns-clause-of_distinct c = found_where_listed
