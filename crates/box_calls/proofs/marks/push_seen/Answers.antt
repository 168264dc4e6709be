use Rattle.std.proofs.Common.{◌≡◌, ℕ, List, ◌++◌, true, rules, sym, ap, ◌∙◌}
use Rattle.std.proofs.lemmas.Bool.{cond-true}
use Rattle.entry_lines.specs.Lines.{terminal_bytes}
use Rattle.entry_lines.proofs.ShownLines.{on_ok, terminal_so}
use Rattle.box_calls.proofs.marks.push_seen.Goals as goal

pub returns-in-Ok : goal.returns-in-Ok
returns-in-Ok c =
    let bytes = c.args.bytes.now in
    let is : c.args.is_visible ≡ true = search rules in
    on_ok c.push_bytes-in-Ok.result (λ put. put ∙ ap (λ (t : List ℕ). c.args.into.now.items ++ t)
    (c.as_bytes.ensures.value ∙ terminal_so bytes _ c.in-Ok.ensures.text c.in-Ok.ensures.other
    ∙ sym (cond-true c.args.is_visible (terminal_bytes bytes) bytes is))) c.push_bytes-in-Ok.ensures
