use Rattle.std.proofs.Common.{◌∙◌, ap, arith}
use Rattle.std.specs.Ordering.{is_le}
use Rattle.store_model.specs.Paths as model
use Rattle.path_keys.proofs.NameBytes.{field_of_view}
use Rattle.path_keys.proofs.BelowBytes.{block_before_below, attribute_before_below, below_before_inside, below_bytes}
use Rattle.path_keys.proofs.BelowBytes.{below_before_past, key_before_past, not_behind_later, block_before_last}
use Rattle.path_keys.proofs.BelowBytes.{no_attribute, nothing_inside}
use Rattle.path_keys.proofs.paths.Path.below.Goals as goal

pub returns-then-self-eq-FIELD_LEN-clause-blocks : goal.returns-then-self-eq-FIELD_LEN-clause-blocks
returns-then-self-eq-FIELD_LEN-clause-blocks c block small =
    ap (model.key_cmp (model.key c.args.self.now block)) c.key.ensures.value
    ∙ block_before_last c.args.self.now block c.key.ensures.path small

pub returns-then-self-eq-FIELD_LEN-clause-attributes : goal.returns-then-self-eq-FIELD_LEN-clause-attributes
returns-then-self-eq-FIELD_LEN-clause-attributes c a block name fits small =
    let held = field_of_view _ _ _ c.self.invariant c.self.view_is in
    absurd (no_attribute c.args.self.now a (omega (arith, held.len_is)) fits)

pub returns-then-self-eq-FIELD_LEN-clause-below : goal.returns-then-self-eq-FIELD_LEN-clause-below
returns-then-self-eq-FIELD_LEN-clause-below c q block path inside small =
    let held = field_of_view _ _ _ c.self.invariant c.self.view_is in
    absurd (nothing_inside c.args.self.now q (omega (arith, held.len_is)) path inside)

pub returns-then-self-eq-FIELD_LEN-clause-behind : goal.returns-then-self-eq-FIELD_LEN-clause-behind
returns-then-self-eq-FIELD_LEN-clause-behind c q block path apart less =
    ap (λ t. is_le (model.key_cmp t (model.key q block))) c.key.ensures.value
    ∙ not_behind_later c.args.self.now q block (model.key c.args.self.now 4294967295)
    (key_before_past c.args.self.now 4294967295) c.key.ensures.path path apart less

pub returns-clause-blocks : goal.returns-clause-blocks
returns-clause-blocks c block small =
    let held = field_of_view _ _ _ c.self.invariant c.self.view_is in
    ap (model.key_cmp (model.key c.args.self.now block)) c.key_behind.ensures.value
    ∙ block_before_below c.args.self.now block held.path (λ full. c.if-self-eq-FIELD_LEN.false (held.len_is ∙ full))

pub returns-clause-attributes : goal.returns-clause-attributes
returns-clause-attributes c a block name fits small =
    ap (model.key_cmp (model.key (model.attribute_place c.args.self.now a) block)) c.key_behind.ensures.value
    ∙ attribute_before_below c.args.self.now a block

pub returns-clause-below : goal.returns-clause-below
returns-clause-below c q block path inside small =
    ap (λ t. is_le (model.key_cmp t (model.key q block))) c.key_behind.ensures.value
    ∙ below_before_inside c.args.self.now q block path inside

pub returns-clause-behind : goal.returns-clause-behind
returns-clause-behind c q block path apart less =
    let held = field_of_view _ _ _ c.self.invariant c.self.view_is in
    ap (λ t. is_le (model.key_cmp t (model.key q block))) c.key_behind.ensures.value
    ∙ not_behind_later c.args.self.now q block (below_bytes c.args.self.now)
    (below_before_past c.args.self.now) held.path path apart less
