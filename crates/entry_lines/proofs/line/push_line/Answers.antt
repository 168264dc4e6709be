use Rattle.entry_lines.specs.Lines.{columns_text, name_text, link_text, line_end, line_of}
use Rattle.entry_lines.proofs.ShownLines.{on_ok, four_parts}
use Rattle.entry_lines.proofs.line.push_line.Goals as goal

pub returns : goal.returns
unfolding line_of
returns c =
    let form = c.args.form in
    let f = c.args.facts.now in
    on_ok c.push_end.result (λ put. four_parts c.args.into.now.items (columns_text form f)
    (name_text form c.args.top.now f) (link_text form f) (line_end form) _ _ _ _ c.in_ok-push_columns.ensures
    c.in_ok-push_name.ensures c.in_ok-push_link.ensures put) c.push_end.ensures
