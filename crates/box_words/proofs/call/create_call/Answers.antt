use Rattle.std.proofs.Common.{◌∙◌, refl, sym, ap}
use Rattle.box_words.specs.Said.{folder_said}
use Rattle.box_words.proofs.call.create_call.Goals as goal

pub returns : goal.returns
returns c = record {
  image = c.in_ok-word_of.field-0;
  folder = c.in_ok-folder_of.field-0;
  shape = c.in_ok-shape_of.field-0;
  is_dry = c.get_flag-2.result;
  is_empty = c.get_flag.result;
  taken = c.taken_of.result;
  call_is = refl;
  image_is = c.in_ok-word_of.ensures;
  empty_is = record { there = c.get_flag.ensures.value; not_there = c.get_flag.ensures.none };
  folder_is =
      sym (ap (λ dir. folder_said dir c.get_flag.result) c.get_str.ensures) ∙ sym c.in_ok-folder_of.ensures;
  shape_is = c.in_ok-shape_of.ensures;
  dry_is = record { there = c.get_flag-2.ensures.value; not_there = c.get_flag-2.ensures.none };
  taken_is = c.taken_of.ensures;
}
