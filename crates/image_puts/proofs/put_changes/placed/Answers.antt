use Rattle.std.proofs.Common.{◌≡◌, [], ◌++◌, length, drop, false, IsTrue, Option, Some, None, refl, sym, ap, ◌∙◌}
use Rattle.std.specs.Prelude.{IfSome, IfNone, IsNone}
use Rattle.store_model.specs.Paths.{Path, is_path, is_at_or_inside, replanted, fits_field}
use Rattle.store_model.proofs.TreesLemmasPaths.{at_or_inside-append}
use Rattle.image_puts.proofs.put_changes.placed.Goals as goal

pub replant-requires : goal.replant-requires
replant-requires c = ap (λ (q : Path). is_at_or_inside c.args.path.now q) c.root.ensures
    ∙ at_or_inside-append [] c.args.path.now

-- what is told of the path that is replanted
some_placed : (o : Option Path) (root to path : Path) → root ≡ [] → IfSome o (λ p. p ≡ replanted root to path)
    → IfSome o (λ p. IsTrue (is_path p)) → IfSome o (λ place. (place ≡ to ++ path) × IsTrue (is_path place))
unfolding replanted
some_placed None root to path is value valid = tt
some_placed (Some p) root to path is value valid = (value ∙ ap (λ (r : Path). to ++ drop (length r) path) is, valid)

none_placed : (o : Option Path) (root to path : Path) → root ≡ []
    → (IsNone o → fits_field (replanted root to path) ≡ false) → IfNone o (fits_field (to ++ path) ≡ false)
unfolding replanted
none_placed None root to path is none = ap (λ (r : Path). fits_field (to ++ drop (length r) path)) (sym is) ∙ none refl
none_placed (Some p) root to path is none = tt

pub returns-clause-some : goal.returns-clause-some
returns-clause-some c = some_placed c.replant.result c.root.result c.args.to.now c.args.path.now c.root.ensures
    c.replant.ensures.value c.replant.ensures.valid

pub returns-clause-none : goal.returns-clause-none
returns-clause-none c = none_placed c.replant.result c.root.result c.args.to.now c.args.path.now c.root.ensures
    c.replant.ensures.none.0
