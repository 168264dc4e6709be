use Rattle.std.proofs.Common.{ℕ, List, ◌++◌, codes, sym, ap, ◌∙◌, append_assoc}
use Rattle.std.proofs.lemmas.List.{append-nil}
use Rattle.store_model.specs.Paths.{Path}
use Rattle.entry_lines.specs.declared.entry.EntryKind.{EntryKind}
use Rattle.entry_lines.specs.Lines.{told_path, path_shown, slash_of, name_text}
use Rattle.entry_lines.proofs.ShownLines.{on_ok}
use Rattle.entry_lines.proofs.line.push_name.Goals as goal

pub returns-in-Folder : goal.returns-in-Folder
unfolding name_text
returns-in-Folder c =
    let old = c.args.into.now.items in
    let f = c.args.facts.now in
    let form = c.args.form in
    let told = told_path c.args.top.now f.path in
    on_ok c.push_bytes.result (λ put. put
    ∙ ap (λ (t : List ℕ). t ++ codes "/") (c.in_ok-push_path.ensures
    ∙ ap (λ (q : Path). old ++ path_shown form q) c.told_path-told.ensures)
    ∙ append_assoc old (path_shown form told) (codes "/")
    ∙ ap (λ (k : EntryKind). old ++ (path_shown form told ++ slash_of k)) (sym c.in-Folder.is)) c.push_bytes.ensures

pub returns-in-File : goal.returns-in-File
unfolding name_text
returns-in-File c =
    let old = c.args.into.now.items in
    let f = c.args.facts.now in
    let form = c.args.form in
    let told = told_path c.args.top.now f.path in
    c.in_ok-push_path.ensures ∙ ap (λ (q : Path). old ++ path_shown form q) c.told_path-told.ensures
    ∙ ap (λ (t : List ℕ). old ++ t) (sym (append-nil (path_shown form told)))
    ∙ ap (λ (k : EntryKind). old ++ (path_shown form told ++ slash_of k)) (sym c.in-File.is)
