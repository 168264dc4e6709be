use Rattle.std.proofs.Common.{◌≡◌, ◌-◌, ◌<◌, suc, Less, length, take, sym, subst, arith}
use Rattle.std.specs.List.{AllByRecursion}
use Rattle.store_model.specs.Paths.{key_cmp}
use Rattle.node_pages.proofs.Inserted.{keys, all_below, last_below}
use Rattle.node_pages.proofs.page.Page.are_below.Goals as goal

pub returns-else-past-eq0 : goal.returns-else-past-eq0
returns-else-past-eq0 c =
    let cells = c.args.self.now.cells in
    let key = c.args.key.now in
    let i = c.args.past - 1 in
    let next : suc i ≡ c.args.past = omega arith in
    let within : i < length cells = omega (arith, c.requires) in
    let last = c.key_bytes.result.now in (
      λ yes. subst (λ n. AllByRecursion (λ k. key_cmp k key ≡ Less) (keys (take n cells))) next
          (all_below i cells last key c.key_bytes.ensures.valid.0.rising within
          c.key_bytes.ensures.value (subst (λ k. key_cmp last k ≡ Less)
          c.as_bytes.ensures.value (c.is_below.ensures.0 yes))),
      λ all. c.is_below.ensures.1 (subst (λ k. key_cmp last k ≡ Less) (sym c.as_bytes.ensures.value)
          (last_below i cells last key within c.key_bytes.ensures.value
          (subst (λ n. AllByRecursion (λ k. key_cmp k key ≡ Less) (keys (take n cells))) (sym next) all))),
    )
