use Rattle.std.proofs.Common.{◌≡◌, Less, sym, subst, arith, length, ◌<◌}
use Rattle.store_model.specs.Paths.{key_cmp}
use Rattle.node_pages.proofs.Inserted.{all_above, first_above}
use Rattle.node_pages.proofs.page.Page.are_above.Goals as goal

pub returns-else-first-len : goal.returns-else-first-len
returns-else-first-len c =
    let cells = c.args.self.now.cells in
    let within : c.args.first < length cells = omega (arith, c.requires, c.len.ensures.value) in
    let first = c.key_bytes.result.now in (
      λ yes. all_above c.args.first cells first c.args.key.now c.len.ensures.valid.rising within
          c.key_bytes.ensures.value (subst (λ k. key_cmp k first ≡ Less)
          c.as_bytes.ensures.value (c.is_below.ensures.0 yes)),
      λ all. c.is_below.ensures.1 (subst (λ k. key_cmp k first ≡ Less) (sym c.as_bytes.ensures.value)
          (first_above c.args.first cells first c.args.key.now within c.key_bytes.ensures.value all)),
    )
