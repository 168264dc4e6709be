use Rattle.std.proofs.Common.{refl, rules}
use Rattle.box_words.proofs.rm.rm_call.Goals as goal

pub returns : goal.returns
returns c = record {
  image = c.in_ok-image.image;
  paths = c.in_ok-paths.paths;
  list = c.list_said-list.result;
  is_below = c.get_flag.result;
  is_forced = c.get_flag-2.result;
  call_is = refl;
  image_is = c.in_ok-image.ensures;
  paths_are = c.in_ok-paths.ensures;
  list_is = search rules;
  some = search rules;
  below_is = record { there = c.get_flag.ensures.value; not_there = c.get_flag.ensures.none };
  forced_is = record { there = c.get_flag-2.ensures.value; not_there = c.get_flag-2.ensures.none };
}
