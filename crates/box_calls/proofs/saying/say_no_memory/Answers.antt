use Rattle.std.proofs.Common.{codes, refl}
use Rattle.box_calls.proofs.saying.say_no_memory.Goals as goal

pub returns : goal.returns
returns g c = record {
  text = codes "hbox: memory ran out; end other programs, and try again\n";
  is_line = record { front = codes "hbox: memory ran out; end other programs, and try again"; text_is = refl };
  result = c.put.result;
  put = c.put.ensures;
}
