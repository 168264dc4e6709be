use Rattle.std.proofs.Common.{sym, subst}
use Rattle.box_calls.specs.Endings.{IsLine}
use Rattle.box_calls.proofs.saying.say.Goals as goal

pub returns-in-Ok : goal.returns-in-Ok
returns-in-Ok g c = record {
  text = c.as_bytes.result.now;
  is_line = subst IsLine (sym c.as_bytes.ensures.value) c.in-Ok.ensures;
  result = c.put.result;
  put = c.put.ensures;
}
