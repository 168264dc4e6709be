use Rattle.std.proofs.Common.{subst, sym, ◌<◌}
use Rattle.store_model.specs.Paths.{field_len}
use Rattle.path_keys.proofs.NameBytes.{field_of_view}
use Rattle.path_keys.proofs.PathBytes.{len_above_zero, start_found, start_within}
use Rattle.path_keys.proofs.paths.Path.name_start.Goals as goal

pub slice_bounds-last_start-count : goal.slice_bounds-last_start-count
slice_bounds-last_start-count c = len_above_zero _ _ _ (field_of_view _ _ _ c.self.invariant c.self.view_is) c.requires

pub returns-clause-value : goal.returns-clause-value
returns-clause-value c =
    start_found c.self.inside.bytes c.self.inside.len c.args.self.now c.last_start.result
    (field_of_view _ _ _ c.self.invariant c.self.view_is) c.requires
    c.last_start.ensures.front c.last_start.ensures.within c.last_start.ensures.behind

pub returns-clause-within : goal.returns-clause-within
returns-clause-within c =
    subst (λ n. n < field_len c.args.self.now)
    (sym (start_found c.self.inside.bytes c.self.inside.len c.args.self.now c.last_start.result
    (field_of_view _ _ _ c.self.invariant c.self.view_is) c.requires
    c.last_start.ensures.front c.last_start.ensures.within c.last_start.ensures.behind))
    (start_within _ _ _ (field_of_view _ _ _ c.self.invariant c.self.view_is) c.requires)
