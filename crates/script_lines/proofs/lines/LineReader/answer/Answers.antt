use Rattle.std.proofs.Common.{◌+◌, ◌≤◌, length, drop, ap, arith}
use Rattle.std.proofs.lemmas.Bool.{lt-ltb, le-ltb}
use Rattle.script_lines.proofs.Held.{held_drop, held_take, length-held, same_held, answered, answered_long, none_shown}
use Rattle.script_lines.proofs.lines.LineReader.answer.Goals as goal

pub returns-then-line_len-gt-MAX_LINE-clause-state :
    goal.returns-then-line_len-gt-MAX_LINE-clause-state
returns-then-line_len-gt-MAX_LINE-clause-state g c =
    let inside = c.self.inside in
    let buffer = inside.buffer.items in
    let held_is = same_held c.self.view_is in
    let size = length-held buffer inside.start inside.end (omega (arith, inside.buffer.ok.0)) in
    let fits : inside.start + (c.args.line_len + 1) ≤ inside.end = omega (arith, ap length held_is) in
    rw (lt-ltb 8192 c.args.line_len c.if-line_len-gt-MAX_LINE.true)
    (answered_long (c.args.line_len + 1) c.self.view_is
    (held_drop buffer inside.start inside.end (c.args.line_len + 1) fits)
    (none_shown (drop inside.start buffer) inside.start))

pub returns-clause-state : goal.returns-clause-state
returns-clause-state g c =
    let inside = c.self.inside in
    let buffer = inside.buffer.items in
    let held_is = same_held c.self.view_is in
    let size = length-held buffer inside.start inside.end (omega (arith, inside.buffer.ok.0)) in
    let fits : inside.start + (c.args.line_len + 1) ≤ inside.end = omega (arith, ap length held_is) in
    rw (le-ltb 8192 c.args.line_len c.if-line_len-gt-MAX_LINE.false)
    (answered (c.args.line_len + 1) c.args.line_len c.self.view_is
    (held_drop buffer inside.start inside.end (c.args.line_len + 1) fits)
    (held_take buffer inside.start inside.end c.args.line_len (omega arith)))
