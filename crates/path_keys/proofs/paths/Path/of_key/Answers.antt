use Rattle.std.proofs.Common.{sym, ◌∙◌, ap, ap₂, take, Some}
use Rattle.store_model.proofs.PathsLemmas.{place_of_path}
use Rattle.path_keys.proofs.KeyBytes.{key_again, key_read, take-key}
use Rattle.path_keys.proofs.paths.Path.of_key.Goals as goal

pub returns-in_err-path-clause-only : goal.returns-in_err-path-clause-only
returns-in_err-path-clause-only c p block h other small e =
    absurd (c.in_err-path.ensures p h other (c.split_at.ensures.front ∙ ap (take 120) (c.as_bytes.ensures.value ∙ e)
    ∙ take-key p block (place_of_path p h)))

pub returns-clause-some : goal.returns-clause-some
returns-clause-some c =
    key_again c.args.key.now c.split_at.result.0.now c.split_at.result.1.now c.in_ok-path.path c.block_of.result
    (sym c.as_bytes.ensures.value ∙ c.split_at.ensures.by_index.0) c.in_ok-path.ensures.2 c.block_of.ensures

pub returns-clause-only : goal.returns-clause-only
returns-clause-only c p block h other small e =
    let same = key_read c.args.key.now c.split_at.result.0.now c.split_at.result.1.now c.in_ok-path.path p
    c.block_of.result block
    (sym c.as_bytes.ensures.value ∙ c.split_at.ensures.by_index.0)
    c.split_at.ensures.front_len c.in_ok-path.ensures.2 c.block_of.ensures
    c.in_ok-path.ensures.0 h c.block_of.type_inv small e in
    ap₂ (λ t k. Some (t, k)) same.0 same.1
