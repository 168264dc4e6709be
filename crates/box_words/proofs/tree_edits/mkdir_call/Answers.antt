use Rattle.std.proofs.Common.{refl, rules, arith, ◌≤◌, length}
use Rattle.box_words.proofs.tree_edits.mkdir_call.Goals as goal

pub returns : goal.returns
returns c = record {
  image = c.in_ok-image.image;
  paths = c.in_ok-paths.paths;
  has_parents = c.get_flag.result;
  call_is = refl;
  image_is = c.in_ok-image.ensures;
  paths_are = c.in_ok-paths.ensures;
  some = search rules;
  parents_is = record { there = c.get_flag.ensures.value; not_there = c.get_flag.ensures.none };
}
