use Rattle.std.proofs.lemmas.Result.{err_from_is_err_and}
use Rattle.store_model.specs.Draws.{draw_of}
use Rattle.store_model.specs.Pages.{pages}
use Rattle.store_model.specs.Pairs.{pairs}
use Rattle.image_create.proofs.CountLemmas.{counted_tree, too_many}
use Rattle.image_create.proofs.counting.count_found.Goals as goal

pub returns-in_err-count_keys-clause-many : goal.returns-in_err-count_keys-clause-many
returns-in_err-count_keys-clause-many c =
    let p = err_from_is_err_and c.from_residual.result c.from_residual.ensures.1 in
    rw p.1 (too_many c.args.found.now c.args.params.now c.version.result c.new-keys.result c.new-keys.ensures.levels
    c.version.ensures.value c.new-keys.ensures.counted c.in_err-count_keys.ensures.counts)

pub returns-clause-pages : goal.returns-clause-pages
unfolding pages
returns-clause-pages c = λ t is.
    let params = c.args.params.now in
    c.pages.ensures.counted (draw_of params) (pairs t params)
    (counted_tree c.args.found.now params c.version.result c.new-keys.result c.count_keys.new.keys t
    c.new-keys.ensures.levels c.version.ensures.value c.new-keys.ensures.counted c.in_ok-count_keys.ensures.counts is)
