use Rattle.std.proofs.Common.{take, drop, rules}
use Rattle.node_pages.proofs.Inserted.{keys, rising_halves, put_between, stands_above, stands_below}
use Rattle.node_pages.proofs.page.Page.is_between.Goals as goal

pub returns-then-are_below : goal.returns-then-are_below
returns-then-are_below c =
    let cells = c.args.self.now.cells in
    let front = keys (take c.args.at cells) in
    let back = keys (drop c.args.at cells) in (
      λ yes. put_between c.args.key.now front back (rising_halves c.args.at cells c.reveal.ensures.valid.rising)
          (c.are_below.ensures.0 c.if-are_below.true) (c.are_above.ensures.0 yes),
      λ rising. c.are_above.ensures.1 (stands_below c.args.key.now front back rising),
    )

pub returns-else-are_below : goal.returns-else-are_below
returns-else-are_below c = (
  λ yes. absurd (search rules),
  λ rising. c.are_below.ensures.1 (stands_above c.args.key.now (keys (take c.args.at c.args.self.now.cells))
      (keys (drop c.args.at c.args.self.now.cells)) rising),
)
