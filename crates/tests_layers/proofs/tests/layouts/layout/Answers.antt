use Rattle.std.proofs.Common.{◌≡◌, List, Result, Ok, Err, IfOk, length, ap, sym, subst, ◌∙◌}
use Rattle.store_model.specs.Draws.{Draw, draw_of}
use Rattle.store_model.specs.Pages.{Page}
use Rattle.std.specs.List.{IsDistinct}
use Rattle.store_model.specs.Placement.{Table, place}
use Rattle.store_model.proofs.PlacementLemmas.{length-place}
use Rattle.layout_scratch.specs.Sorting.{HasDistinctKeys}
use Rattle.tests_layers.proofs.tests.layouts.layout.Goals as goal

-- what is a placement has all slots
placed_len : {E : Type 0} (d : Draw) (pages : List Page) (r : Result Table E) → IfOk r (λ table. table ≡ place d pages)
    → IfOk r (λ table. length table ≡ d.slots)
placed_len d pages (Ok table) is = ap length is ∙ length-place d pages
placed_len d pages (Err fault) is = tt

pub loop-key-init : goal.loop-key-init
unfolding IsDistinct
loop-key-init c = subst HasDistinctKeys (sym c.new-pairs.ensures) tt

pub returns : goal.returns
unfolding draw_of
returns c = placed_len (draw_of c.args.params.now) _ c.build.result c.build.ensures.value
