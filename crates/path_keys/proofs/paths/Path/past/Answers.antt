use Rattle.std.proofs.Common.{ap, ap₂, ◌∙◌, ◌-◌, set}
use Rattle.std.specs.Ordering.{is_le}
use Rattle.store_model.specs.Paths as model
use Rattle.path_keys.proofs.NameBytes.{field_of_view}
use Rattle.path_keys.proofs.PathBytes.{len_above_zero}
use Rattle.path_keys.proofs.PastBytes.{past_written, subtree_before_past, past_not_above, past_before_later}
use Rattle.path_keys.proofs.paths.Path.past.Goals as goal

pub overflow_sub-bytes : goal.overflow_sub-bytes
overflow_sub-bytes c = len_above_zero _ _ _ (field_of_view _ _ _ c.self.invariant c.self.view_is) c.requires

pub returns-clause-value : goal.returns-clause-value
returns-clause-value c =
    c.new.ensures.value ∙ ap₂ (λ t n. set t (n - 1) 1) (c.as_bytes.ensures.value ∙ c.key.ensures.value)
    (field_of_view _ _ _ c.self.invariant c.self.view_is).len_is

pub returns-clause-above : goal.returns-clause-above
returns-clause-above c q block h inside =
    ap (model.key_cmp (model.key q block)) (returns-clause-value c ∙ past_written c.args.self.now c.requires)
    ∙ subtree_before_past c.args.self.now q block c.requires inside

pub returns-clause-below : goal.returns-clause-below
returns-clause-below c q block h apart less =
    ap (λ t. model.key_cmp t (model.key q block)) (returns-clause-value c ∙ past_written c.args.self.now c.requires)
    ∙ past_before_later c.args.self.now q block
    c.requires (field_of_view _ _ _ c.self.invariant c.self.view_is).path h apart less

pub returns-clause-not_above : goal.returns-clause-not_above
returns-clause-not_above c q block h apart less =
    ap (λ t. is_le (model.key_cmp t (model.key q block)))
    (returns-clause-value c ∙ past_written c.args.self.now c.requires)
    ∙ past_not_above c.args.self.now q block c.requires (field_of_view _ _ _ c.self.invariant c.self.view_is).path h
    apart less
