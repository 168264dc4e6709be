use Rattle.std.proofs.Common.{◌≡◌, ◌==◌, take}
use Rattle.std.specs.List.{filter, flat_map}
use Rattle.node_pages.proofs.group.join_level.Given as goal

abbrev pub invariant-loop-page : goal.invariant-loop-page
invariant-loop-page l = l.cells ≡ record {
  level = l.level;
  cells = flat_map (λ page. page.cells)
      (filter (λ page. page.label.level == l.level) (take l.page-index l.page-items));
}
