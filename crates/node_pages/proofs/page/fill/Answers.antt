use Rattle.std.proofs.Common.{◌+◌, ◌-◌, length, sym, ap, ◌∙◌, arith}
use Rattle.node_pages.proofs.Packed.{packed_fits, filled_slot}
use Rattle.node_pages.specs.PageSlots.{cells_in}
use Rattle.node_pages.proofs.PageBytes.{length-cells_in}
use Rattle.node_pages.proofs.page.fill.Goals as goal

pub slice_bounds-copy_from_slice-end : goal.slice_bounds-copy_from_slice-end
slice_bounds-copy_from_slice-end c =
    omega (arith, packed_fits c.args.label.now.level c.args.count c.args.run.now c.requires.packed c.requires.room)

pub returns : goal.returns
returns c =
    filled_slot c.args.label.now (cells_in c.args.label.now.level c.args.count c.args.run.now)
    c.args.slot.now c.copy_from_slice.new.self c.args.count (132 + length c.args.run.now - 132)
    c.requires.valid c.requires.empty
    (c.copy_from_slice.ensures.after ∙ sym c.requires.packed.spelled)
    (sym (length-cells_in c.args.label.now.level c.args.count c.args.run.now))
    (omega (arith, ap length c.copy_from_slice.ensures.after))
