use Rattle.std.proofs.Common.{sym, subst, ◌≤◌, ℕ, List, length, ◌∙◌, map}
use Rattle.box_words.specs.Shown.{shown_name}
use Rattle.entry_lines.proofs.ShownLines.{some_shown}
use Rattle.entry_lines.proofs.line.push_path.Goals as goal

pub behind_slash-requires : goal.behind_slash-requires
behind_slash-requires c =
    subst (λ (t : List ℕ). 1 ≤ length t) (sym (c.deref.ensures.value ∙ c.in-Ok.ensures))
    (some_shown (map (shown_name c.args.form.spelling) c.args.path.now))
