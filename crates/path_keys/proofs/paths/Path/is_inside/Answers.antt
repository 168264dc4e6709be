use Rattle.path_keys.proofs.NameBytes.{field_of_view}
use Rattle.path_keys.proofs.InsideBytes.{inside_test, not_inside}
use Rattle.path_keys.proofs.paths.Path.is_inside.Goals as goal

pub returns-then-other-self-clause-value : goal.returns-then-other-self-clause-value
returns-then-other-self-clause-value c =
    inside_test c.args.self.now c.args.other.now c.self.inside.bytes c.other.inside.bytes c.self.inside.len
    c.other.inside.len c.eq.result
    (field_of_view _ _ _ c.self.invariant c.self.view_is) (field_of_view _ _ _ c.other.invariant c.other.view_is)
    c.if-other-self.true c.eq.ensures

pub returns-else-other-self-clause-value : goal.returns-else-other-self-clause-value
returns-else-other-self-clause-value c =
    not_inside c.args.self.now c.args.other.now c.self.inside.len c.other.inside.len
    (field_of_view _ _ _ c.self.invariant c.self.view_is).len_is
    (field_of_view _ _ _ c.other.invariant c.other.view_is).len_is c.if-other-self.false
