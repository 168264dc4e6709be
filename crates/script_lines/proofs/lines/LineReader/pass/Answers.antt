use Rattle.std.proofs.Common.{◌+◌, ◌≤◌, length, ap, arith}
use Rattle.script_lines.proofs.Held.{held_drop, length-held, same_held, passed}
use Rattle.script_lines.proofs.lines.LineReader.pass.Goals as goal

pub returns : goal.returns
returns g c =
    let inside = c.self.inside in
    let buffer = inside.buffer.items in
    let held_is = same_held c.self.view_is in
    let size = length-held buffer inside.start inside.end (omega (arith, inside.buffer.ok.0)) in
    let fits : inside.start + c.args.count ≤ inside.end = omega (arith, ap length held_is) in
    passed c.args.count c.self.view_is (held_drop buffer inside.start inside.end c.args.count fits)
