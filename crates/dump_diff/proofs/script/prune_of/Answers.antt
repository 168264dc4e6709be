use Rattle.std.proofs.Common.{◌≡◌, List, Bool, true, false, Option, sym, ap, ◌∙◌}
use Rattle.std.specs.FinMap.{find}
use Rattle.store_model.specs.Paths.{Path, parent, path_cmp}
use Rattle.dump_diff.specs.declared.difference.Mark.{Mark}
use Rattle.dump_diff.specs.declared.difference.Mark.TheVariants as marks
use Rattle.dump_diff.specs.Differences.{marks_of}
use Rattle.dump_diff.specs.Scripts as model
use Rattle.dump_diff.proofs.Written.{above_is}
use Rattle.dump_diff.proofs.script.prune_of.Goals as goal

-- what is found above the path is what its parent has
same_above : (all : List (Path × Mark)) (found : Option Mark) (above p : Path) (b : Bool)
    → found ≡ find path_cmp above all → above ≡ parent p → b ≡ model.is_pruned found
    → model.cut_of b marks.Removed p ≡ model.cut_of (model.is_pruned (find path_cmp (parent p) all)) marks.Removed p
same_above all found above p b is same test =
    ap (λ (t : Bool). model.cut_of t marks.Removed p)
    (test ∙ ap model.is_pruned (is ∙ ap (λ (q : Path). find path_cmp q all) same))

pub returns-then-is_pruned : goal.returns-then-is_pruned
returns-then-is_pruned c rising =
    let same = c.unwrap_or-above.ensures
    ∙ above_is c.parent.result c.args.path.now c.parent.ensures.none.0 c.parent.ensures.value in
    same_above (marks_of c.args.found.now.paths.items) c.mark_at.result c.unwrap_or-above.result c.args.path.now true
    (c.mark_at.ensures rising.paths) same (sym c.if-is_pruned.true ∙ c.is_pruned.ensures)

pub returns : goal.returns
returns c rising =
    let same = c.unwrap_or-above.ensures
    ∙ above_is c.parent.result c.args.path.now c.parent.ensures.none.0 c.parent.ensures.value in
    same_above (marks_of c.args.found.now.paths.items) c.mark_at.result c.unwrap_or-above.result c.args.path.now false
    (c.mark_at.ensures rising.paths) same (sym c.if-is_pruned.false ∙ c.is_pruned.ensures)
