use Rattle.std.proofs.Common.{ℕ, List, [], ◌∷◌, ◌++◌, ap, ◌∙◌, arith}
use Rattle.rising_pages.specs.declared.raised.RaisedKey.{RaisedKey}
use Rattle.rising_pages.specs.Raised.{raised_keys}
use Rattle.rising_pages.proofs.Keeping.{raised_there, raised_absent}
use Rattle.rising_pages.proofs.kept.raise.Goals as goal

-- a key with its level
with_level : List ℕ → ℕ → RaisedKey
with_level key level = record { key = key; level = level }

pub returns-in_ok-push : goal.returns-in_ok-push
unfolding with_level
returns-in_ok-push c = λ d s y key_is level_is keys_are.
    let level = c.args.level in
    c.in_ok-push.ensures.items ∙ ap (λ ks. ks ++ with_level c.args.key level ∷ []) keys_are
    ∙ ap (λ k. raised_keys d s ++ with_level k level ∷ []) key_is
    ∙ raised_there d s y level level_is (omega (arith, c.if-level-gt0.true))

pub returns-else-level-gt0 : goal.returns-else-level-gt0
returns-else-level-gt0 c = λ d s y key_is level_is keys_are.
    keys_are ∙ raised_absent d s y c.args.level level_is (omega (arith, c.if-level-gt0.false))
