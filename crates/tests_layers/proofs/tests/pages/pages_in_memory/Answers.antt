use Rattle.std.proofs.Common.{ap, ◌∙◌, arith}
use Rattle.std.specs.FinMap.{len, len-empty}
use Rattle.store_model.specs.Paths.{key_cmp}
use Rattle.store_model.specs.Pages.{Page}
use Rattle.tests_layers.proofs.tests.pages.pages_in_memory.Goals as goal

-- there is no page at first
pub put-requires : goal.put-requires
put-requires g c o =
    let none = ap len c.new-pages.ensures.pages ∙ len-empty key_cmp Page in
    omega (arith, none)
