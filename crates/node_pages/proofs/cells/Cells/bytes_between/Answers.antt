use Rattle.std.proofs.Common.{◌≤◌, ◌*◌, length, take, drop, ℕ, List, sym, ap, subst, ◌∙◌, arith}
use Rattle.std.specs.List.{flat_map}
use Rattle.store_model.specs.Images.{cell_bytes}
use Rattle.node_pages.specs.CellAreas.{cell_size}
use Rattle.node_pages.specs.Cells.{CellList}
use Rattle.node_pages.proofs.PackedLists.{listed, packed_between, packed_within}
use Rattle.node_pages.proofs.cells.Cells.bytes_between.Goals as goal

pub cells_between-requires-clause-within : goal.cells_between-requires-clause-within
cells_between-requires-clause-within c =
    let within : c.args.past ≤ c.self.inside.count =
    omega (
      arith,
      c.requires.within,
      listed c.self.inside.level c.self.inside.count c.self.inside.bytes.items
          c.args.self.now c.self.view_is,
    ) in
    subst (λ (xs : List ℕ). cell_size c.self.inside.level * c.args.past ≤ length xs) (sym c.deref.ensures.value)
    (packed_within c.self.inside.level c.self.inside.count c.args.past c.self.inside.bytes.items
    c.self.invariant within)

pub returns : goal.returns
returns c =
    let within : c.args.past ≤ c.self.inside.count =
    omega (
      arith,
      c.requires.within,
      listed c.self.inside.level c.self.inside.count c.self.inside.bytes.items
          c.args.self.now c.self.view_is,
    ) in
    c.cells_between.ensures
    ∙ ap (λ (xs : List ℕ). drop (cell_size c.self.inside.level * c.args.first)
    (take (cell_size c.self.inside.level * c.args.past) xs)) c.deref.ensures.value
    ∙ packed_between c.self.inside.level c.self.inside.count c.args.first c.args.past c.self.inside.bytes.items
    c.self.invariant c.requires.order within
    ∙ ap (λ (l : CellList). flat_map cell_bytes (drop c.args.first (take c.args.past l.cells))) c.self.view_is
