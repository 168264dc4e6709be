use Rattle.std.proofs.Common.{◌≡◌, ◌-◌, ◌*◌, take, drop, sym, ap, ◌∙◌, arith}
use Rattle.store_model.specs.Pages.{page_room}
use Rattle.node_pages.specs.Cells.{CellList}
use Rattle.node_pages.proofs.Runs.{run_next, room_most}
use Rattle.node_pages.proofs.PackedLists.{listed, list_run_within}
use Rattle.node_pages.proofs.cells.Cells.run.Goals as goal

pub overflow_mul-done : goal.overflow_mul-done
overflow_mul-done c =
    omega (
      arith,
      c.self.invariant.few,
      list_run_within c.self.inside.level c.self.inside.count c.from-room.result
          c.args.index c.self.inside.bytes.items c.args.self.now c.self.view_is (c.from-room.ensures
          ∙ c.room.ensures) c.requires,
    )

pub overflow_sub-self-inside : goal.overflow_sub-self-inside
overflow_sub-self-inside c =
    omega (
      arith,
      list_run_within c.self.inside.level c.self.inside.count c.from-room.result c.args.index
          c.self.inside.bytes.items c.args.self.now c.self.view_is (c.from-room.ensures ∙ c.room.ensures) c.requires,
    )

pub overflow_add-result : goal.overflow_add-result
overflow_add-result c =
    omega (
      arith,
      c.self.invariant.few,
      c.min.ensures,
      list_run_within c.self.inside.level c.self.inside.count c.from-room.result c.args.index c.self.inside.bytes.items
          c.args.self.now c.self.view_is (c.from-room.ensures ∙ c.room.ensures) c.requires,
    )

pub returns-clause-within : goal.returns-clause-within
returns-clause-within c =
    omega (
      arith,
      c.min.ensures,
      listed c.self.inside.level c.self.inside.count c.self.inside.bytes.items
          c.args.self.now c.self.view_is,
      list_run_within c.self.inside.level c.self.inside.count c.from-room.result
          c.args.index c.self.inside.bytes.items c.args.self.now c.self.view_is (c.from-room.ensures
          ∙ c.room.ensures) c.requires,
    )

pub returns-clause-few : goal.returns-clause-few
returns-clause-few c = omega (arith, c.min.ensures, c.from-room.ensures, c.room.ensures, room_most c.self.inside.level)

pub returns-clause-cells : goal.returns-clause-cells
returns-clause-cells c =
    let level = c.args.self.now.level in
    let cells = c.args.self.now.cells in
    let done = c.from-room.result * c.args.index in
    let room_is : c.from-room.result ≡ page_room level =
    c.from-room.ensures ∙ c.room.ensures ∙ ap (λ (l : CellList). page_room l.level) c.self.view_is in
    run_next level done c.min.result c.from-room.result (c.self.inside.count - done) cells
    c.min.ensures (ap (λ n. n - done)
    (sym (listed c.self.inside.level c.self.inside.count c.self.inside.bytes.items c.args.self.now c.self.view_is)))
    room_is
    ∙ ap (λ n. take (page_room level) (drop (n * c.args.index) cells)) room_is
