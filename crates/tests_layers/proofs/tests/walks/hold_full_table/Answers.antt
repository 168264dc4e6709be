use Rattle.std.proofs.Common.{◌≡◌, ap, sym, ◌∙◌}
use Rattle.store_model.specs.Draws.{Draw, draw_of}
use Rattle.tests_layers.proofs.tests.walks.hold_full_table.Goals as goal

pub count_check-is_whole-requires : goal.count_check-is_whole-requires
unfolding draw_of
count_check-is_whole-requires g c = c.table_of-slots.ensures ∙ sym (ap (λ (d : Draw). d.slots) c.new-2.ensures)
