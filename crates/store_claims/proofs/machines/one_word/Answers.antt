use Rattle.std.proofs.Common.{◌++◌, ◌∷◌, [], List, ℕ, ap, ◌∙◌}
use Rattle.store_model.specs.Words.{request_of}
use Rattle.store_claims.proofs.machines.one_word.Goals as goal

pub returns : goal.returns
returns c request is = ap request_of (c.in_ok-push.ensures.ok
    ∙ ap (λ (words : List (List ℕ)). words ++ c.args.word.now ∷ []) c.new-words.ensures) ∙ is
