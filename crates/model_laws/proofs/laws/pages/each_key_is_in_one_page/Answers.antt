use Rattle.model_laws.proofs.PagesLemmasKeys.{pages_with_key}
use Rattle.model_laws.proofs.laws.pages.each_key_is_in_one_page.Goals as goal

pub returns : goal.returns
returns c = pages_with_key
