use Rattle.std.proofs.Common.{◌∷◌, [], ◌++◌, List, ℕ, subst}
use Rattle.std.proofs.lemmas.Result.{err_from_is_err_and}
use Rattle.store_model.specs.Paths.{key}
use Rattle.image_create.specs.Counts.{AddsKeys, Exceeds}
use Rattle.image_create.specs.FoundKeys.{block_keys, blocks_of, found_keys, name_keys, names_by}
use Rattle.image_create.proofs.KeyLemmas.{adds_join, counts_err, counts_join, exceeds_later, exceeds_more}
use Rattle.image_create.proofs.keys.KeyCounter.push_found.Goals as goal

pub returns-in_err-push-clause-counts : goal.returns-in_err-push-clause-counts
unfolding found_keys
returns-in_err-push-clause-counts c = λ has.
    let p = err_from_is_err_and c.from_residual.result c.from_residual.ensures.1 in
    let found = c.args.found.now in
    let blocks = block_keys found.path (blocks_of c.args.version found.kind) in
    let names = name_keys found.path (names_by found.kind found) in
    counts_err c.args.self.now c.push.new.self (found_keys c.args.version found) c.from_residual.result _ p.1
    (exceeds_more c.args.self.now (key found.path 0 ∷ []) (blocks ++ names)
    (subst (λ (k : List ℕ). Exceeds c.args.self.now (k ∷ [])) c.key.ensures.value c.in_err-push.ensures.counts))

pub returns-in_err-push_blocks-clause-counts : goal.returns-in_err-push_blocks-clause-counts
unfolding found_keys
returns-in_err-push_blocks-clause-counts c = λ has.
    let p = err_from_is_err_and c.from_residual-in_err-push_blocks.result
    c.from_residual-in_err-push_blocks.ensures.1 in
    let found = c.args.found.now in
    let blocks = block_keys found.path (blocks_of c.args.version found.kind) in
    let names = name_keys found.path (names_by found.kind found) in
    let first : AddsKeys c.args.self.now c.push.new.self (key found.path 0 ∷ []) =
    subst (λ (k : List ℕ). AddsKeys c.args.self.now c.push.new.self (k ∷ [])) c.key.ensures.value
    c.in_ok-push.ensures.counts in
    let many : Exceeds c.push.new.self blocks =
    subst (λ n. Exceeds c.push.new.self (block_keys found.path n)) c.block_count.ensures
    c.in_err-push_blocks.ensures.counts in
    counts_err c.args.self.now c.push_blocks.new.self (found_keys c.args.version found)
    c.from_residual-in_err-push_blocks.result _ p.1
    (exceeds_later c.args.self.now c.push.new.self (key found.path 0 ∷ []) (blocks ++ names) first
    (exceeds_more c.push.new.self blocks names many))

pub returns-clause-counts : goal.returns-clause-counts
unfolding found_keys
returns-clause-counts c = λ has.
    let found = c.args.found.now in
    let blocks = block_keys found.path (blocks_of c.args.version found.kind) in
    let names = name_keys found.path (names_by found.kind found) in
    let first : AddsKeys c.args.self.now c.push.new.self (key found.path 0 ∷ []) =
    subst (λ (k : List ℕ). AddsKeys c.args.self.now c.push.new.self (k ∷ [])) c.key.ensures.value
    c.in_ok-push.ensures.counts in
    let second : AddsKeys c.push.new.self c.push_blocks.new.self blocks =
    subst (λ n. AddsKeys c.push.new.self c.push_blocks.new.self (block_keys found.path n)) c.block_count.ensures
    c.in_ok-push_blocks.ensures.counts in
    counts_join c.args.self.now c.push_blocks.new.self c.push_names.new.self (key found.path 0 ∷ blocks) names
    c.push_names.result
    (adds_join c.args.self.now c.push.new.self c.push_blocks.new.self (key found.path 0 ∷ []) blocks first second)
    (c.push_names.ensures.counts has)
