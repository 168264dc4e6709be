use Rattle.std.proofs.Common.{sym, ◌∙◌}
use Rattle.path_keys.proofs.NameBytes.{field_of_view}
use Rattle.path_keys.proofs.ReplantBytes.{same_field, same_names}
use Rattle.path_keys.proofs.paths.PathPartialEq.eq.Goals as goal

pub returns-clause-value : goal.returns-clause-value
returns-clause-value c = same_names _ _ _ _ _ _ c.eq.result (field_of_view _ _ _ c.self.invariant c.self.view_is)
    (field_of_view _ _ _ c.other.invariant c.other.view_is) c.eq.ensures

pub returns-clause-same : goal.returns-clause-same
returns-clause-same c =
    let decides = same_field _ _ _ _ _ _ (field_of_view _ _ _ c.self.invariant c.self.view_is)
    (field_of_view _ _ _ c.other.invariant c.other.view_is) in
    (λ h. decides.0 (sym c.eq.ensures ∙ h), λ e. c.eq.ensures ∙ decides.1 e)
