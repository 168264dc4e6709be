use Rattle.store_model.proofs.PageMapsLemmas.{rising_page_map, pages_of_page_map, map_of_pages-pages_of_map}
use Rattle.store_model.proofs.PageMapsLemmas.{len-pages_of_map, pages_of_map-map_of_pages, pages_of_rising_map}
use Rattle.store_model.proofs.PageMapsLemmas.{pages_of_pairs_map, pages_of_map-with_page, pages_of_map-without_page}
use Rattle.model_laws.proofs.laws.page_maps.maps_list_their_pages_by_rank.Goals as goal

pub returns-clause-rise : goal.returns-clause-rise
returns-clause-rise c = rising_page_map

pub returns-clause-pages : goal.returns-clause-pages
returns-clause-pages c = pages_of_page_map

pub returns-clause-whole : goal.returns-clause-whole
returns-clause-whole c = map_of_pages-pages_of_map

pub returns-clause-count : goal.returns-clause-count
returns-clause-count c = len-pages_of_map

pub returns-clause-of_distinct : goal.returns-clause-of_distinct
returns-clause-of_distinct c = pages_of_map-map_of_pages

pub returns-clause-of_rising : goal.returns-clause-of_rising
returns-clause-of_rising c = pages_of_rising_map

pub returns-clause-of_pairs : goal.returns-clause-of_pairs
returns-clause-of_pairs c = pages_of_pairs_map

pub returns-clause-with_page : goal.returns-clause-with_page
returns-clause-with_page c = pages_of_map-with_page

pub returns-clause-without_page : goal.returns-clause-without_page
returns-clause-without_page c = pages_of_map-without_page
