use Rattle.std.proofs.Common.{List, ◌∷◌, [], ◌++◌, IsTrue, take, sym, ap, subst, ◌∙◌}
use Rattle.std.specs.List.{AllByRecursion}
use Rattle.std.proofs.lemmas.List.{take_more, take_all}
use Rattle.store_model.specs.Paths.{Path, is_path}
use Rattle.store_model.proofs.ListsLemmas.{all_append}
use Rattle.image_changes.proofs.directories.reveal.Goals as goal

abbrev ArePaths : List Path → Type 0
ArePaths paths = AllByRecursion (λ q. IsTrue (is_path q)) paths

pub loop-path-preserved : goal.loop-path-preserved
loop-path-preserved c =
    let paths = c.args.paths.now in
    let path = c.path-item.result in
    subst ArePaths
    (sym (take_more paths c.loop-path.path-index path c.loop-path-test.true
    ∙ ap (λ (q : Path). take c.loop-path.path-index paths ++ q ∷ []) (sym c.path-item.is)))
    (all_append (λ q. IsTrue (is_path q)) (take c.loop-path.path-index paths) (path ∷ []) c.loop-path.invariant
    (c.is_root.ensures.valid, tt))

pub returns : goal.returns
returns c = subst ArePaths (take_all c.loop-path.path-index c.args.paths.now c.loop-path-test.false)
    c.loop-path.invariant
