use Rattle.std.proofs.Common.{take, drop, arith}
use Rattle.std.proofs.lemmas.List.{length-drop, length-take-le}
use Rattle.node_pages.proofs.PackedLists.{added, list_more}
use Rattle.node_pages.proofs.cells.Cells.append_from.Goals as goal

pub invariant_of-self-2 : goal.invariant_of-self-2
invariant_of-self-2 c =
    (list_more c.self.inside.level c.self.inside.count c.in-Some.count c.self.inside.bytes.items
    c.extend_from_slice.new.self.items (drop c.args.first (take c.args.past c.args.page.now.cells))
    c.args.self.now c.self.invariant c.self.view_is c.requires.fits
    (added c.self.inside.bytes.items c.extend_from_slice.new.self.items c.bytes_between.result.now
    (drop c.args.first (take c.args.past c.args.page.now.cells))
    c.in_ok-extend_from_slice.ensures.items c.bytes_between.ensures)
    (omega (
      arith,
      length-drop c.args.first (take c.args.past c.args.page.now.cells),
      length-take-le c.args.past c.args.page.now.cells c.requires.within,
    )) (omega arith)).0

pub returns-clause-ok : goal.returns-clause-ok
returns-clause-ok c =
    (list_more c.self.inside.level c.self.inside.count c.in-Some.count c.self.inside.bytes.items
    c.extend_from_slice.new.self.items (drop c.args.first (take c.args.past c.args.page.now.cells))
    c.args.self.now c.self.invariant c.self.view_is c.requires.fits
    (added c.self.inside.bytes.items c.extend_from_slice.new.self.items c.bytes_between.result.now
    (drop c.args.first (take c.args.past c.args.page.now.cells))
    c.in_ok-extend_from_slice.ensures.items c.bytes_between.ensures)
    (omega (
      arith,
      length-drop c.args.first (take c.args.past c.args.page.now.cells),
      length-take-le c.args.past c.args.page.now.cells c.requires.within,
    )) (omega arith)).1
